-- What writes to the blocks of a set leave, where blocks are taken and given, and histories of such writes.
use Rattle.std.proofs.Common.{◌≡◌, ◌≢◌, ◌==◌, ⊎_elim, ℕ, zero, suc, ◌+◌, ◌-◌, ◌*◌, ◌/◌, ◌<◌, Bool, true, false, not, List, [], ◌∷◌, ◌++◌, refl, sym, ◌∙◌, ap, subst, arith, append_assoc, append-nil}
use Rattle.std.proofs.Math.Logic.{∥∥₁_map₂}
use Rattle.std.proofs.lemmas.Bool.Decides.{eqb_tells}
use Rattle.persist_model.specs.Region.{Words}
use Rattle.lane_traits.specs.Space.{put_word}
use Rattle.lane_traits.specs.Draft.{after_writes}
use Rattle.lane_traits.specs.declared.draft.WordWrite.{WordWrite}
use Rattle.lane_traits.proofs.Writes.{put_same, put_other}
use Rattle.offset_alloc.specs.declared.Standing.{Standing}
use Rattle.lane_types.specs.declared.face.Entry.{Entry}
use Rattle.lane_types.specs.Deeds.{Deeds}
use Rattle.lane_types.specs.Heaps.{Heap, AreAlike, AreAlikeIn, has_bit, names_in, block_address, block_of, with_writes}
use Rattle.lane_types.specs.Histories.{Lawful, HaveSorts, IsLawfulOn, IsEarlier, after_entries}
use Rattle.lane_types.specs.Faces.{Base}
use Rattle.lane_book.proofs.Holdings.{is_true_right}
use Rattle.lawful_book.specs.LawfulBooks.{Each}
use Rattle.lawful_book.specs.OwnedBooks.{owner_in, is_ours}
use Rattle.lawful_book.proofs.WordsOf.{heap_with, block_at, names_next, after_at}
use Rattle.lawful_book.proofs.Histories.{Depends, IsApartFrom, AreAllApart, after_last, each_last, sorts_last, lawful_last}

pub never : (t : Bool) → t ≡ true → t ≡ false → ⊥
never t e f = cc

pub by_bool : (P : Type 0) (t : Bool) → (t ≡ true → P) → (t ≡ false → P) → P
by_bool P true f g = f refl
by_bool P false f g = g refl

-- ---- owners

-- a named owner is a structure of the set, plus 1
pub named_is : (set n : ℕ) → names_in set n ≡ true → (s : ℕ) × (n ≡ s + 1) × (has_bit set s ≡ true)
named_is set zero e = cc
named_is set (suc n) e = (n, omega arith, subst (λ (m : ℕ). has_bit set m ≡ true) (before n) (is_true_right (not (suc n == 0)) _ e))
  where
    before : (m : ℕ) → suc m - 1 ≡ m
    before m = omega arith

pub name_of : (set n s : ℕ) → n ≡ s + 1 → has_bit set s ≡ true → names_in set n ≡ true
name_of set n s is on = ap (names_in set) is ∙ names_next set s ∙ on

pub bit_of : (set n s : ℕ) → n ≡ s + 1 → names_in set n ≡ true → has_bit set s ≡ true
bit_of set n s is named = sym (names_next set s) ∙ ap (names_in set) (sym is) ∙ named

next_same : (s t : ℕ) → s + 1 ≡ t + 1 → s ≡ t
next_same s t e = omega (arith, e)

pub no_next : (s : ℕ) → 0 ≡ s + 1 → ⊥
no_next s e = omega (arith, e)

-- two sets that have no structure in common have no block in common
pub ours_apart : (set other : ℕ) (blocks : List Standing) (k : ℕ) → ((s : ℕ) → has_bit other s ≡ true → has_bit set s ≡ false) → is_ours other blocks k ≡ true → is_ours set blocks k ≡ false
ours_apart set other blocks k apart ours =
    let it = named_is other (owner_in blocks k) ours in
    ap (names_in set) it.1 ∙ names_next set it.0 ∙ apart it.0 it.2

-- the number names no structure out of the set
abbrev pub IsOfSet : ℕ → ℕ → Type 0
IsOfSet set n = (s : ℕ) → n ≡ s + 1 → has_bit set s ≡ true

-- ---- writes

pub after_append : (xs ys : List WordWrite) (u : Words) → after_writes (xs ++ ys) u ≡ after_writes ys (after_writes xs u)
after_append [] ys u = refl
after_append (x ∷ xs) ys u = after_append xs ys (put_word x.address x.value u)

-- what holds of the word, and of each value that is written to it, holds of it behind the writes
pub after_is : (P : ℕ → Type 0) (writes : List WordWrite) (u : Words) (a : ℕ) → P (u a) → Each (λ (w : WordWrite). w.address ≡ a → P w.value) writes → P (after_writes writes u a)
after_is P [] u a here each = here
after_is P (w ∷ writes) u a here each = after_is P writes (put_word w.address w.value u) a
    (⊎_elim (λ same. subst (λ (b : ℕ). P (put_word w.address w.value u b)) (sym same.1) (subst P (sym (put_same w.address w.value u)) (each.0 (sym same.1))))
    (λ ne. subst P (sym (put_other w.address w.value a u ne.1)) here) (eqb_tells a w.address)) each.1

-- a word that no write names stays
pub after_none : (writes : List WordWrite) (u : Words) (a : ℕ) → Each (λ (w : WordWrite). w.address ≢ a) writes → after_writes writes u a ≡ u a
after_none [] u a each = refl
after_none (w ∷ writes) u a each = after_none writes (put_word w.address w.value u) a each.1 ∙ put_other w.address w.value a u (λ e. each.0 (sym e))

-- the writes are in blocks that the test picks
abbrev pub AreIn : Heap → (ℕ → Bool) → List WordWrite → Type 0
AreIn heap picks writes = Each (λ (w : WordWrite). picks (block_of heap w.address) ≡ true) writes

pub after_other : (heap : Heap) (picks : ℕ → Bool) (writes : List WordWrite) (u : Words) (a : ℕ) → AreIn heap picks writes → picks (block_of heap a) ≡ false → after_writes writes u a ≡ u a
after_other heap picks [] u a each off = refl
after_other heap picks (w ∷ writes) u a each off =
    after_other heap picks writes (put_word w.address w.value u) a each.1 off ∙
    put_other w.address w.value a u (λ e. never (picks (block_of heap a)) (subst (λ (b : ℕ). picks (block_of heap b) ≡ true) (sym e) each.0) off)

-- the block of an owner word
pub owner_block : (heap : Heap) (k : ℕ) → block_of heap (block_address heap k) ≡ k
owner_block heap k = here heap.start k
  where
    here : (s n : ℕ) → (s + 16 * n - s) / 16 ≡ n
    here s n = omega arith

-- what the values are of, at owner words
abbrev pub HaveOwners : Heap → ℕ → List WordWrite → Type 0
HaveOwners heap set writes = (k : ℕ) → Each (λ (w : WordWrite). w.address ≡ block_address heap k → IsOfSet set w.value) writes

-- ---- heaps that are alike

-- The writes are in blocks of the set, whose words are alike in both; no other block is the set's in either, and none of these is another's.
pub record AreFor (set : ℕ) (heap : Heap) (blocks : List Standing) (begun now : Words) (writes : List WordWrite) : Type 0 where
  pub places : AreIn heap (is_ours set blocks) writes
  pub values : HaveOwners heap set writes
  pub same : (a : ℕ) → is_ours set blocks (block_of heap a) ≡ true → begun a ≡ now a
  pub begun_others : (k s : ℕ) → k < heap.blocks → is_ours set blocks k ≡ false → has_bit set s ≡ true → begun (block_address heap k) ≡ s + 1 → ⊥
  pub now_others : (k s : ℕ) → k < heap.blocks → is_ours set blocks k ≡ false → has_bit set s ≡ true → now (block_address heap k) ≡ s + 1 → ⊥
  pub now_ours : (k : ℕ) → k < heap.blocks → is_ours set blocks k ≡ true → IsOfSet set (now (block_address heap k))

module _ (set : ℕ) (heap : Heap) (blocks : List Standing) (begun now : Words) (writes : List WordWrite) (are : AreFor set heap blocks begun now writes) where
  ours : ℕ → Bool
  ours = is_ours set blocks

  -- an owner word of a block that isn't the set's stays, and one of its own names no other
  pub owner_stays : (u : Words) (k : ℕ) → is_ours set blocks k ≡ false → after_writes writes u (block_address heap k) ≡ u (block_address heap k)
  owner_stays u k off = after_other heap (is_ours set blocks) writes u (block_address heap k) are.places (ap (is_ours set blocks) (owner_block heap k) ∙ off)

  pub owner_ours : (k : ℕ) → k < heap.blocks → is_ours set blocks k ≡ true → IsOfSet set (after_writes writes now (block_address heap k))
  owner_ours k inside on = after_is (IsOfSet set) writes now (block_address heap k) (are.now_ours k inside on) (are.values k)

  -- the writes leave what structures out of the set own
  pub leaves_blocks : (picks : ℕ → Bool) → ((s : ℕ) → picks s ≡ true → has_bit set s ≡ false) → AreAlikeIn picks (heap_with heap now) (heap_with heap (after_writes writes now))
  leaves_blocks picks others = record {
    owned = λ s k picked inside. by_bool _ (is_ours set blocks k)
        (λ on. (λ e. absurd (never (has_bit set s) (are.now_ours k inside on s e) (others s picked)), λ e. absurd (never (has_bit set s) (owner_ours k inside on s e) (others s picked))))
        (λ off. (λ e. owner_stays now k off ∙ e, λ e. sym (owner_stays now k off) ∙ e));
    words = λ s k i picked inside small owns. by_bool _ (is_ours set blocks k)
        (λ on. absurd (never (has_bit set s) (are.now_ours k inside on s owns) (others s picked)))
        (λ off. sym (after_other heap (is_ours set blocks) writes now (block_address heap k + i) are.places (ap (is_ours set blocks) (block_at heap.start k i small) ∙ off)));
  }

  -- and make of both alike heaps
  pub follow_blocks : AreAlike set (heap_with heap (after_writes writes begun)) (heap_with heap (after_writes writes now))
  follow_blocks = record {
    start = refl;
    blocks = refl;
    inside = record {
      owned = λ s k picked inside. by_bool _ (is_ours set blocks k)
          (λ on. (λ e. sym (agree (block_address heap k) (at_owner k on)) ∙ e, λ e. agree (block_address heap k) (at_owner k on) ∙ e))
          (λ off. (λ e. absurd (are.begun_others k s inside off picked (sym (owner_stays begun k off) ∙ e)), λ e. absurd (are.now_others k s inside off picked (sym (owner_stays now k off) ∙ e))));
      words = λ s k i picked inside small owns. by_bool _ (is_ours set blocks k)
          (λ on. agree (block_address heap k + i) (ap (is_ours set blocks) (block_at heap.start k i small) ∙ on))
          (λ off. absurd (are.begun_others k s inside off picked (sym (owner_stays begun k off) ∙ owns)));
    };
  }
    where
      at_owner : (k : ℕ) → is_ours set blocks k ≡ true → is_ours set blocks (block_of heap (block_address heap k)) ≡ true
      at_owner k on = ap (is_ours set blocks) (owner_block heap k) ∙ on

      agree : (a : ℕ) → is_ours set blocks (block_of heap a) ≡ true → after_writes writes begun a ≡ after_writes writes now a
      agree a on = after_at writes begun now a (are.same a on)

-- without writes too
pub begun_alike : (set : ℕ) (heap : Heap) (blocks : List Standing) (begun now : Words) (writes : List WordWrite) → AreFor set heap blocks begun now writes →
    AreAlike set (heap_with heap begun) (heap_with heap now)
begun_alike set heap blocks begun now writes are = follow_blocks set heap blocks begun now [] (record {
  places = tt;
  values = λ k. tt;
  same = are.same;
  begun_others = are.begun_others;
  now_others = are.now_others;
  now_ours = are.now_ours;
})

-- ---- one entry more

-- The history can have the entry next, by these blocks.
pub record CanFollow {E : Type 0} (deeds : Deeds E) (base : Base) (blocks : List Standing) (history : List (Entry E)) (e : Entry E) : Type 0 where
  pub begun : Words
  pub are : AreFor (deeds.names e.deed) base.heap blocks begun (after_entries history base.heap.at) e.writes
  pub means : ∥ deeds.means e.deed (heap_with base.heap begun) (with_writes e.writes (heap_with base.heap begun)) ∥₁
  pub earlier : Each (λ (x : Entry E). IsEarlier x e) history
  pub sorts : deeds.sorts e.deed ≡ base.sorts

pub record IsLawfulSo {E : Type 0} (deeds : Deeds E) (base : Base) (history : List (Entry E)) : Type 0 where
  pub lawful : ∥ Lawful deeds base.heap history ∥₁
  pub sorts : HaveSorts deeds base.sorts history

not_bit : (t : Bool) → not t ≡ true → t ≡ false
not_bit true e = cc
not_bit false e = refl

lawful_here : {E : Type 0} (deeds : Deeds E) → Depends deeds → (heap : Heap) (blocks : List Standing) (begun now : Words) (e : Entry E) →
    AreFor (deeds.names e.deed) heap blocks begun now e.writes → deeds.means e.deed (heap_with heap begun) (with_writes e.writes (heap_with heap begun)) → IsLawfulOn deeds (heap_with heap now) e
lawful_here deeds depends heap blocks begun now e are means = record {
  means = depends e.deed (heap_with heap begun) (with_writes e.writes (heap_with heap begun)) (heap_with heap now) (with_writes e.writes (heap_with heap now))
      (begun_alike (deeds.names e.deed) heap blocks begun now e.writes are) (follow_blocks (deeds.names e.deed) heap blocks begun now e.writes are) means;
  others = leaves_blocks (deeds.names e.deed) heap blocks begun now e.writes are (λ s. not (has_bit (deeds.names e.deed) s)) (λ s off. not_bit (has_bit (deeds.names e.deed) s) off);
}

pub follows : {E : Type 0} (deeds : Deeds E) → Depends deeds → (base : Base) (blocks : List Standing) (history : List (Entry E)) (e : Entry E) → IsLawfulSo deeds base history →
    CanFollow deeds base blocks history e → IsLawfulSo deeds base (history ++ e ∷ [])
follows deeds depends base blocks history e good can = record {
  lawful = ∥∥₁_map₂ good.lawful can.means (λ lawful means. lawful_last deeds base.heap history e lawful
      (lawful_here deeds depends base.heap blocks can.begun (after_entries history base.heap.at) e can.are means) can.earlier);
  sorts = sorts_last deeds base.sorts history e good.sorts can.sorts;
}

-- ---- several

module _ (set other : ℕ) (heap : Heap) (blocks : List Standing) (begun now other_begun : Words) (writes others : List WordWrite) (are : AreFor set heap blocks begun now writes)
    (theirs : AreFor other heap blocks other_begun now others) (apart : (s : ℕ) → has_bit other s ≡ true → has_bit set s ≡ false) where
  -- the writes of one set leave it so for another
  pub for_stays : AreFor other heap blocks other_begun (after_writes writes now) others
  for_stays = record {
    places = theirs.places;
    values = theirs.values;
    same = λ a on. theirs.same a on ∙ sym (after_other heap (is_ours set blocks) writes now a are.places (ours_apart set other blocks (block_of heap a) apart on));
    begun_others = theirs.begun_others;
    now_others = λ k s inside off picked is. by_bool ⊥ (is_ours set blocks k)
        (λ on. never (has_bit set s) (owner_ours set heap blocks begun now writes are k inside on s is) (apart s picked))
        (λ away. theirs.now_others k s inside off picked (sym (owner_stays set heap blocks begun now writes are now k away) ∙ is));
    now_ours = λ k inside on s is. theirs.now_ours k inside on s
        (sym (owner_stays set heap blocks begun now writes are now k (ours_apart set other blocks k apart on)) ∙ is);
  }

follows_behind : {E : Type 0} (deeds : Deeds E) (base : Base) (blocks : List Standing) (history : List (Entry E)) (e f : Entry E) → CanFollow deeds base blocks history e →
    IsApartFrom deeds e f → CanFollow deeds base blocks history f → CanFollow deeds base blocks (history ++ e ∷ []) f
follows_behind deeds base blocks history e f can apart other = record {
  begun = other.begun;
  are = subst (λ (u : Words). AreFor (deeds.names f.deed) base.heap blocks other.begun u f.writes) (sym (after_last history e base.heap.at))
      (for_stays (deeds.names e.deed) (deeds.names f.deed) base.heap blocks can.begun (after_entries history base.heap.at) other.begun e.writes f.writes can.are other.are apart.sets);
  means = other.means;
  earlier = each_last (λ (x : Entry _). IsEarlier x f) history e other.earlier (record { rises = λ same. absurd (apart.lanes same); differs = apart.transactions });
  sorts = other.sorts;
}

all_behind : {E : Type 0} (deeds : Deeds E) (base : Base) (blocks : List Standing) (history : List (Entry E)) (e : Entry E) (entries : List (Entry E)) → CanFollow deeds base blocks history e →
    Each (IsApartFrom deeds e) entries → Each (CanFollow deeds base blocks history) entries → Each (CanFollow deeds base blocks (history ++ e ∷ [])) entries
all_behind deeds base blocks history e [] can apart others = tt
all_behind deeds base blocks history e (f ∷ entries) can apart others =
    (follows_behind deeds base blocks history e f can apart.0 others.0, all_behind deeds base blocks history e entries can apart.1 others.1)

pub all_follow : {E : Type 0} (deeds : Deeds E) → Depends deeds → (base : Base) (blocks : List Standing) (entries history : List (Entry E)) → IsLawfulSo deeds base history →
    Each (CanFollow deeds base blocks history) entries → AreAllApart deeds entries → IsLawfulSo deeds base (history ++ entries)
all_follow deeds depends base blocks [] history good can apart = subst (IsLawfulSo deeds base) (sym (append-nil history)) good
all_follow deeds depends base blocks (e ∷ entries) history good can apart =
    subst (IsLawfulSo deeds base) (append_assoc history (e ∷ []) entries)
    (all_follow deeds depends base blocks entries (history ++ e ∷ []) (follows deeds depends base blocks history e good can.0)
    (all_behind deeds base blocks history e entries can.0 apart.0 can.1) apart.1)
