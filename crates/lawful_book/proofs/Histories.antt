-- A history with one entry more, and with several.
use Rattle.std.proofs.Common.{◌≡◌, ◌≢◌, ℕ, zero, suc, Bool, true, false, not, List, [], ◌∷◌, ◌++◌, take, get_or, if◌then◌else◌, refl, sym, ◌∙◌, ap, subst, arith, append_assoc, append-nil, Option, Some, None, option_to_list}
use Rattle.std.proofs.Math.Logic.{∥∥₁_map₂}
use Rattle.std.specs.List.{filter}
use Rattle.persist_model.specs.Region.{Words}
use Rattle.lane_traits.specs.Draft.{after_writes}
use Rattle.lane_types.specs.declared.face.Entry.{Entry}
use Rattle.lane_types.specs.Deeds.{Deeds}
use Rattle.lane_types.specs.Heaps.{Heap, AreAlike, has_bit, with_writes, block_address}
use Rattle.lane_types.specs.Histories.{Lawful, HaveSorts, IsLawfulOn, IsEarlier, IsEarlierThanAll, after_entries, fold}
use Rattle.lane_types.specs.Faces.{Base}
use Rattle.lane_book.specs.declared.lane.Lane.{Lane}
use Rattle.lane_book.specs.FacesOf.{idle_lane}
use Rattle.lane_book.specs.Flights.{flight_of, flights_in}
use Rattle.lawful_book.specs.LawfulBooks.{AreWordsOf, Each, IsPast}
use Rattle.lawful_book.proofs.WordsOf.{heap_with, HasOwners, data_of, owners_kept, leaves, leaves_alike, follow, alike_then}

-- ---- lists

pub each_take : {X : Type 0} (P : X → Type 0) (n : ℕ) (xs : List X) → Each P xs → Each P (take n xs)
each_take P zero xs each = tt
each_take P (suc n) [] each = tt
each_take P (suc n) (x ∷ xs) each = (each.0, each_take P n xs each.1)

pub each_last : {X : Type 0} (P : X → Type 0) (xs : List X) (x : X) → Each P xs → P x → Each P (xs ++ x ∷ [])
each_last P [] x each p = (p, tt)
each_last P (y ∷ xs) x each p = (each.0, each_last P xs x each.1 p)

pub each_map : {X : Type 0} (P Q : X → Type 0) (xs : List X) → ((x : X) → P x → Q x) → Each P xs → Each Q xs
each_map P Q [] f each = tt
each_map P Q (x ∷ xs) f each = (f x each.0, each_map P Q xs f each.1)

pub each_filter : {X : Type 0} (P : X → Type 0) (p : X → Bool) (xs : List X) → Each P xs → Each P (filter p xs)
each_filter P p [] each = tt
each_filter P p (x ∷ xs) each = by_test (p x) each.0 (each_filter P p xs each.1)
  where
    by_test : (t : Bool) → P x → Each P (filter p xs) → Each P (if t then x ∷ filter p xs else filter p xs)
    by_test true here rest = (here, rest)
    by_test false here rest = rest

-- ---- words

pub past_owners : {E : Type 0} (h : Heap) (next : ℕ) (history : List (Entry E)) (u : Words) → Each (IsPast h next) history → HasOwners h u →
    HasOwners h (after_entries history u)
past_owners h next [] u past has = has
past_owners h next (e ∷ history) u past has =
    past_owners h next history (after_writes e.writes u) past.1 (λ b. owners_kept h e.writes u b past.0.data_writes ∙ has b)

pub after_last : {E : Type 0} (history : List (Entry E)) (e : Entry E) (u : Words) → after_entries (history ++ e ∷ []) u ≡ after_writes e.writes (after_entries history u)
after_last [] e u = refl
after_last (x ∷ history) e u = after_last history e (after_writes x.writes u)

-- ---- one entry more

pub sorts_last : {E : Type 0} (deeds : Deeds E) (sorts : List ℕ) (history : List (Entry E)) (e : Entry E) → HaveSorts deeds sorts history → deeds.sorts e.deed ≡ sorts →
    HaveSorts deeds sorts (history ++ e ∷ [])
sorts_last deeds sorts [] e have is = (is, tt)
sorts_last deeds sorts (x ∷ history) e have is = (have.0, sorts_last deeds sorts history e have.1 is)

earlier_last : {E : Type 0} (x : Entry E) (history : List (Entry E)) (e : Entry E) → IsEarlierThanAll x history → IsEarlier x e → IsEarlierThanAll x (history ++ e ∷ [])
earlier_last x [] e all is = (is, tt)
earlier_last x (y ∷ history) e all is = (all.0, earlier_last x history e all.1 is)

pub lawful_last : {E : Type 0} (deeds : Deeds E) (h : Heap) (history : List (Entry E)) (e : Entry E) → Lawful deeds h history → IsLawfulOn deeds (fold h history) e →
    Each (λ (x : Entry E). IsEarlier x e) history → Lawful deeds h (history ++ e ∷ [])
lawful_last deeds h [] e lawful on earlier = (on, tt, tt)
lawful_last deeds h (x ∷ history) e lawful on earlier =
    (lawful.0, earlier_last x history e lawful.1 earlier.0, lawful_last deeds (with_writes x.writes h) history e lawful.2 on earlier.1)

-- what a deed means depends on the blocks of its structures alone
abbrev pub Depends : {E : Type 0} → Deeds E → Type 0
Depends deeds = (deed : _) (before after other_before other_after : Heap) → AreAlike (deeds.names deed) before other_before → AreAlike (deeds.names deed) after other_after →
    deeds.means deed before after → deeds.means deed other_before other_after

no_bit_of : (t : Bool) → not t ≡ true → t ≡ false
no_bit_of true e = cc
no_bit_of false e = refl

-- what an entry does to the words at its begin it does to those that are alike
lawful_on : {E : Type 0} (deeds : Deeds E) → Depends deeds → (h : Heap) (u v : Words) (e : Entry E) → HasOwners h v → AreWordsOf (deeds.names e.deed) h e.writes →
    AreAlike (deeds.names e.deed) (heap_with h u) (heap_with h v) → deeds.means e.deed (heap_with h u) (with_writes e.writes (heap_with h u)) → IsLawfulOn deeds (heap_with h v) e
lawful_on deeds depends h u v e has words alike means = record {
  means = depends e.deed (heap_with h u) (with_writes e.writes (heap_with h u)) (heap_with h v) (with_writes e.writes (heap_with h v)) alike
      (follow h (deeds.names e.deed) u v e.writes (data_of h (deeds.names e.deed) e.writes words) alike) means;
  others = leaves h (deeds.names e.deed) v e.writes (λ s. not (has_bit (deeds.names e.deed) s)) has words (λ s off. no_bit_of (has_bit (deeds.names e.deed) s) off);
}

-- The history can have the entry next: what its structures own is as it was on some words on which the entry does what its deed means.
pub record CanJoin {E : Type 0} (deeds : Deeds E) (base : Base) (history : List (Entry E)) (e : Entry E) : Type 0 where
  pub begun : Words
  pub own : AreWordsOf (deeds.names e.deed) base.heap e.writes
  pub alike : AreAlike (deeds.names e.deed) (heap_with base.heap begun) (fold base.heap history)
  pub means : ∥ deeds.means e.deed (heap_with base.heap begun) (with_writes e.writes (heap_with base.heap begun)) ∥₁
  pub earlier : Each (λ (x : Entry E). IsEarlier x e) history
  pub sorts : deeds.sorts e.deed ≡ base.sorts

-- a lawful history whose owner words are those of the start
pub record IsGood {E : Type 0} (deeds : Deeds E) (base : Base) (history : List (Entry E)) : Type 0 where
  pub owners : HasOwners base.heap (after_entries history base.heap.at)
  pub lawful : ∥ Lawful deeds base.heap history ∥₁
  pub sorts : HaveSorts deeds base.sorts history

pub joined : {E : Type 0} (deeds : Deeds E) → Depends deeds → (base : Base) (history : List (Entry E)) (e : Entry E) → IsGood deeds base history →
    CanJoin deeds base history e → IsGood deeds base (history ++ e ∷ [])
joined deeds depends base history e good can = record {
  owners = λ b. ap (λ (u : Words). u (block_address base.heap b)) (after_last history e base.heap.at) ∙
      owners_kept base.heap e.writes (after_entries history base.heap.at) b (data_of base.heap (deeds.names e.deed) e.writes can.own) ∙ good.owners b;
  lawful = ∥∥₁_map₂ good.lawful can.means (λ lawful means. lawful_last deeds base.heap history e lawful
      (lawful_on deeds depends base.heap can.begun (after_entries history base.heap.at) e good.owners can.own can.alike means) can.earlier);
  sorts = sorts_last deeds base.sorts history e good.sorts can.sorts;
}

-- what an entry leaves of the words of others
pub alike_behind : {E : Type 0} (h : Heap) (set other : ℕ) (begun : Words) (history : List (Entry E)) (e : Entry E) → HasOwners h (after_entries history h.at) →
    AreWordsOf set h e.writes → ((s : ℕ) → has_bit other s ≡ true → has_bit set s ≡ false) → AreAlike other (heap_with h begun) (fold h history) →
    AreAlike other (heap_with h begun) (fold h (history ++ e ∷ []))
alike_behind h set other begun history e has words apart alike =
    subst (λ (u : Words). AreAlike other (heap_with h begun) (heap_with h u)) (sym (after_last history e h.at))
    (alike_then h other begun (after_entries history h.at) (after_writes e.writes (after_entries history h.at)) alike
    (leaves_alike h set other (after_entries history h.at) e.writes has words apart))

-- ---- several entries of lanes that share nothing

pub record IsApartFrom {E : Type 0} (deeds : Deeds E) (e f : Entry E) : Type 0 where
  pub lanes : e.lane ≢ f.lane
  pub transactions : e.transaction ≢ f.transaction
  pub sets : (s : ℕ) → has_bit (deeds.names f.deed) s ≡ true → has_bit (deeds.names e.deed) s ≡ false

abbrev pub AreAllApart : {E : Type 0} → Deeds E → List (Entry E) → Type 0
AreAllApart deeds [] = Unit {0}
AreAllApart deeds (e ∷ entries) = Each (IsApartFrom deeds e) entries × AreAllApart deeds entries

joins_behind : {E : Type 0} (deeds : Deeds E) (base : Base) (history : List (Entry E)) (e f : Entry E) → IsGood deeds base history → CanJoin deeds base history e →
    IsApartFrom deeds e f → CanJoin deeds base history f → CanJoin deeds base (history ++ e ∷ []) f
joins_behind deeds base history e f good can apart other = record {
  begun = other.begun;
  own = other.own;
  alike = alike_behind base.heap (deeds.names e.deed) (deeds.names f.deed) other.begun history e good.owners can.own apart.sets other.alike;
  means = other.means;
  earlier = each_last (λ (x : Entry _). IsEarlier x f) history e other.earlier (record { rises = λ same. absurd (apart.lanes same); differs = apart.transactions });
  sorts = other.sorts;
}

all_behind : {E : Type 0} (deeds : Deeds E) (base : Base) (history : List (Entry E)) (e : Entry E) (entries : List (Entry E)) → IsGood deeds base history →
    CanJoin deeds base history e → Each (IsApartFrom deeds e) entries → Each (CanJoin deeds base history) entries → Each (CanJoin deeds base (history ++ e ∷ [])) entries
all_behind deeds base history e [] good can apart others = tt
all_behind deeds base history e (f ∷ entries) good can apart others =
    (joins_behind deeds base history e f good can apart.0 others.0, all_behind deeds base history e entries good can apart.1 others.1)

pub all_joined : {E : Type 0} (deeds : Deeds E) → Depends deeds → (base : Base) (entries history : List (Entry E)) → IsGood deeds base history →
    Each (CanJoin deeds base history) entries → AreAllApart deeds entries → IsGood deeds base (history ++ entries)
all_joined deeds depends base [] history good can apart = subst (IsGood deeds base) (sym (append-nil history)) good
all_joined deeds depends base (e ∷ entries) history good can apart =
    subst (IsGood deeds base) (append_assoc history (e ∷ []) entries)
    (all_joined deeds depends base entries (history ++ e ∷ []) (joined deeds depends base history e good can.0)
    (all_behind deeds base history e entries good can.0 apart.0 can.1) apart.1)

pub apart_filter : {E : Type 0} (deeds : Deeds E) (p : Entry E → Bool) (entries : List (Entry E)) → AreAllApart deeds entries → AreAllApart deeds (filter p entries)
apart_filter deeds p [] apart = tt
apart_filter deeds p (e ∷ entries) apart = by_test (p e) (each_filter (IsApartFrom deeds e) p entries apart.0) (apart_filter deeds p entries apart.1)
  where
    by_test : (t : Bool) → Each (IsApartFrom deeds e) (filter p entries) → AreAllApart deeds (filter p entries) →
        AreAllApart deeds (if t then e ∷ filter p entries else filter p entries)
    by_test true here rest = (here, rest)
    by_test false here rest = rest

-- ---- the commits in flight

pub each_flight : {E : Type 0} (P : Entry E → Type 0) (lanes : List (Lane E)) →
    ((i : ℕ) (e : Entry E) → flight_of (get_or lanes i idle_lane) ≡ Some e → P e) → Each P (flights_in lanes)
each_flight P [] each = tt
each_flight P (lane ∷ lanes) each = by_option (flight_of lane) refl (each_flight P lanes (λ i. each (suc i)))
  where
    by_option : (o : Option (Entry _)) → flight_of lane ≡ o → Each P (flights_in lanes) → Each P (option_to_list o ++ flights_in lanes)
    by_option None is rest = rest
    by_option (Some e) is rest = (each 0 e is, rest)

next_ne : (i j : ℕ) → i ≢ j → suc i ≢ suc j
next_ne i j ne e = ne (omega (arith, e))

pub flights_apart : {E : Type 0} (deeds : Deeds E) (lanes : List (Lane E)) →
    ((i j : ℕ) (e f : Entry E) → i ≢ j → flight_of (get_or lanes i idle_lane) ≡ Some e → flight_of (get_or lanes j idle_lane) ≡ Some f → IsApartFrom deeds e f) →
    AreAllApart deeds (flights_in lanes)
flights_apart deeds [] each = tt
flights_apart deeds (lane ∷ lanes) each = by_option (flight_of lane) refl (flights_apart deeds lanes (λ i j e f ne. each (suc i) (suc j) e f (next_ne i j ne)))
  where
    zero_ne : (j : ℕ) → 0 ≢ suc j
    zero_ne j e = omega (arith, e)

    by_option : (o : Option (Entry _)) → flight_of lane ≡ o → AreAllApart deeds (flights_in lanes) → AreAllApart deeds (option_to_list o ++ flights_in lanes)
    by_option None is rest = rest
    by_option (Some e) is rest = (each_flight (IsApartFrom deeds e) lanes (λ j f has. each 0 (suc j) e f (zero_ne j) is has), rest)

pub flies : {E : Type 0} (lane : Lane E) (e : Entry E) → flight_of lane ≡ Some e → lane.entry ≡ Some e
flies lane e has = by_test _ lane.entry has
  where
    by_test : (t : Bool) (o : Option (Entry _)) → (if t then o else None) ≡ Some e → o ≡ Some e
    by_test true o is = is
    by_test false o is = cc
