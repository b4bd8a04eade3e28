-- The partitions, one after another.
use Rattle.std.proofs.Common.{◌≡◌, ◌⊎◌, inl, inr, ℕ, zero, suc, ◌+◌, ◌-◌, ◌<◌, ◌≤◌, true, false, cond, nat_lt, min, List, [], ◌∷◌, ◌++◌, length, take, refl, sym, ap, ◌∙◌, subst, arith, append-nil}
use Rattle.std.specs.Prelude.{slice_index}
use Rattle.std.specs.List.{range_with_len}
use Rattle.std.proofs.lemmas.Bool.Decides.{nat_tests, eqb_tells}
use Rattle.std.proofs.lemmas.Bool.{cases_lt}
use Rattle.std.proofs.lemmas.List.{get_or-take, length-take}
use Rattle.persist_model.specs.ImageRules.{rule_number}
use Rattle.persist_model.specs.Region.{Words}
use Rattle.persist_model.specs.Shape.{Shape, heap, log_words, list_words, IsBucketOf}
use Rattle.persist_model.specs.Chain.{TAIL, view, out_address, IsLink, last_or, IsExcepted}
use Rattle.persist_model.specs.Visit.{chain_from, address_words}
use Rattle.persist_model.specs.Faults.{FaultSet, Tried, TriedEach, TryLinksBack, TryPoints, TryAddresses, TryLists, NoFault, parts, IsListFault}
use Rattle.persist_model.specs.Sound.{IsListOf}
use Rattle.log_laws.proofs.AddressLists.{each_in_range}
use Rattle.log_laws.proofs.Trying.{HasGoodAddresses, HasGoodPoints, addresses_here, addresses_past, lists_here}
use Rattle.log_laws.proofs.SoundLists.{sound_of_points}
use Rattle.log_partition.specs.Views.{viewed}
use Rattle.log_partition.proofs.Views.{viewed-is, length-viewed}
use Rattle.sound_check.specs.declared.fault.CheckFault.{CheckFault}
use Rattle.sound_check.specs.declared.fault.CheckFault.TheVariants.{Unsound, NoMemory}
use Rattle.sound_check.specs.Faulty.{IfUnsound}
use Rattle.sound_check.specs.Rules.{HasGoodLinks, HasBadLink, HasGoodList, HasBadList, EachPart}
use Rattle.sound_check.proofs.Left.{each_more}
use Rattle.sound_check.proofs.Tried.{points_of}

-- ---- the words before the heap

past : (xs : List ℕ) (i : ℕ) → length xs ≤ i → slice_index xs i ≡ 0
past [] i h = refl
past (x ∷ xs) zero h = absurd (omega arith)
past (x ∷ xs) (suc i) h = past xs i (omega arith)

taken-at : (shape : Shape) (xs : List ℕ) (a : ℕ) → slice_index (take (heap shape) xs) a ≡ log_words shape (slice_index xs) a
taken-at shape xs a = elim (cases_lt a (heap shape)) [
  | inl lt ↦ (let on : nat_lt a (heap shape) ≡ true = grind (arith, nat_tests, lt) in get_or-take (heap shape) xs a 0 lt ∙ sym (ap (λ t. cond t (slice_index xs a) 0) on))
  | inr ge ↦ (
      let off : nat_lt a (heap shape) ≡ false = grind (arith, nat_tests, ge) in
      let few = length-take (heap shape) xs in past (take (heap shape) xs) a (omega (arith, few, ge)) ∙ sym (ap (λ t. cond t (slice_index xs a) 0) off))
]

pub taken-is : (shape : Shape) (xs : List ℕ) → slice_index (take (heap shape) xs) ≡ log_words shape (slice_index xs)
taken-is shape xs = λ i a. taken-at shape xs a i

-- ---- a fault with more rules behind it

-- a rule and what comes next
abbrev TailRule : Words → List ℕ → ℕ → FaultSet → FaultSet
TailRule w visited base next = Tried ((w TAIL ≡ last_or 0 (chain_from w visited)) ⊎ IsExcepted w TAIL) 6 (base + 1) next

prevs_more : (w : Words) (base : ℕ) (visited : List ℕ) (next : FaultSet) (i a before : ℕ) (xs : List ℕ) → TryLinksBack w before xs (TailRule w visited base NoFault) i a → TryLinksBack w before xs (TailRule w visited base next) i a
prevs_more w base visited next i a before [] (inl f) = inl f
prevs_more w base visited next i a before [] (inr f) = absurd f.1
prevs_more w base visited next i a before (x ∷ xs) (inl f) = inl f
prevs_more w base visited next i a before (x ∷ xs) (inr f) = inr (f.0, prevs_more w base visited next i a x xs f.1)

pub points_more : (shape : Shape) (base : ℕ) (w : Words) (visited : List ℕ) (next : FaultSet) (i a : ℕ) → TryPoints shape base w visited NoFault i a → TryPoints shape base w visited next i a
points_more shape base w visited next i a (inl f) = inl f
points_more shape base w visited next i a (inr (h, inl f)) = inr (h, inl f)
points_more shape base w visited next i a (inr (h, inr (k, inl f))) = inr (h, inr (k, inl f))
points_more shape base w visited next i a (inr (h, inr (k, inr (l, inl f)))) = inr (h, inr (k, inr (l, inl f)))
points_more shape base w visited next i a (inr (h, inr (k, inr (l, inr (m, f))))) = inr (h, inr (k, inr (l, inr (m, prevs_more w base visited next i a 0 (chain_from w visited) f))))

-- ---- the partitions before this one, and those behind it

range_by : (s a b n m : ℕ) → n ≡ a + suc b → m ≡ s + a → range_with_len s n ≡ range_with_len s a ++ m ∷ range_with_len (m + 1) b
range_by s zero b n m e f =
    let one : n ≡ suc b = omega (arith, e) in
    let here : s ≡ m = omega (arith, f) in ap (range_with_len s) one ∙ ap (λ x. x ∷ range_with_len (x + 1) b) here
range_by s (suc a) b n m e f =
    let more : n ≡ suc (a + suc b) = omega (arith, e) in
    ap (range_with_len s) more ∙ ap (λ xs. s ∷ xs) (range_by (s + 1) a b (a + suc b) m refl (omega (arith, f)))

pub parts_split : (shape : Shape) (p : ℕ) → p < shape.partitions → parts shape ≡ range_with_len 0 p ++ p ∷ range_with_len (p + 1) (shape.partitions - suc p)
parts_split shape p lt = range_by 0 p (shape.partitions - suc p) shape.partitions p (omega (arith, lt)) (omega arith)

-- ---- faults of the first partition that has one

good_addresses : (shape : Shape) (z : Words) (q : ℕ) → HasGoodLinks shape q (view q z) → HasGoodAddresses shape z q
good_addresses shape z q h = (h.visited, h.visit, h.links)

pub link_fault : (shape : Shape) (z : Words) (p : ℕ) → p < shape.partitions → ((q : ℕ) → q < p → HasGoodLinks shape q (view q z)) → (i a : ℕ) → HasBadLink shape p (view p z) i a → IsListFault shape z i a
link_fault shape z p lt before i a bad =
    subst (λ ps. TryAddresses shape z ps (TryLists shape z (parts shape) NoFault) i a) (sym (parts_split shape p lt))
    (addresses_here shape z (range_with_len 0 p) p (range_with_len (p + 1) (shape.partitions - suc p)) (TryLists shape z (parts shape) NoFault) i a
    (each_in_range (HasGoodAddresses shape z) 0 p (λ q le below. good_addresses shape z q (before q (omega (arith, below)))))
    (λ rest. (bad.visited, bad.visit, more rest)))
  where
    P : ℕ → Type 0
    P b = IsLink (IsBucketOf shape p) (view p z b)

    more : (rest : FaultSet) → TriedEach P 5 (out_address p) (address_words (view p z) bad.visited) rest i a
    more rest = subst (λ xs. TriedEach P 5 (out_address p) xs rest i a) (append-nil (address_words (view p z) bad.visited)) (each_more P 5 (out_address p) (address_words (view p z) bad.visited) [] rest i a bad.wrong)

good_points : (shape : Shape) (z : Words) (q : ℕ) → HasGoodList shape q (view q z) → HasGoodPoints shape z q
good_points shape z q h = (h.visited, h.visit, points_of shape (view q z) h.visited h.list)

pub points_fault : (shape : Shape) (z : Words) (p : ℕ) → p < shape.partitions → EachPart shape z HasGoodLinks → ((q : ℕ) → q < p → HasGoodList shape q (view q z)) → (i a : ℕ) → HasBadList shape p (view p z) i a →
    IsListFault shape z i a
points_fault shape z p lt links before i a bad =
    addresses_past shape z (parts shape) (TryLists shape z (parts shape) NoFault) i a (each_in_range (HasGoodAddresses shape z) 0 shape.partitions (λ q le below. good_addresses shape z q (links q (omega (arith, below)))))
    (subst (λ ps. TryLists shape z ps NoFault i a) (sym (parts_split shape p lt))
    (lists_here shape z (range_with_len 0 p) p (range_with_len (p + 1) (shape.partitions - suc p)) NoFault i a
    (each_in_range (HasGoodPoints shape z) 0 p (λ q le below. good_points shape z q (before q (omega (arith, below)))))
    (λ rest. (bad.visited, bad.visit, points_more shape (list_words p) (view p z) bad.visited rest i a bad.wrong))))

-- ---- no fault

pub good_list : (shape : Shape) (z : Words) (p : ℕ) → (h : HasGoodList shape p (view p z)) → IsListOf shape p z (chain_from (view p z) h.visited)
good_list shape z p h = sound_of_points shape p z h.visited h.visit h.links (points_of shape (view p z) h.visited h.list)

-- ---- what is said of a view

pub in_view : (P : Words → Type 0) (p : ℕ) (xs row : List ℕ) → row ≡ viewed p xs → P (slice_index row) → P (view p (slice_index xs))
in_view P p xs row e h = subst P (viewed-is p xs) (subst (λ ys. P (slice_index ys)) e h)

pub of_view : (P : Words → Type 0) (p : ℕ) (xs row : List ℕ) → row ≡ viewed p xs → P (view p (slice_index xs)) → P (slice_index row)
of_view P p xs row e h = subst (λ ys. P (slice_index ys)) (sym e) (subst P (sym (viewed-is p xs)) h)

pub view_long : (n p : ℕ) (xs row : List ℕ) → row ≡ viewed p xs → n ≤ length xs → n ≤ length row
view_long n p xs row e le = let long : length row ≡ length xs = ap length e ∙ length-viewed p xs in omega (arith, long, le)

pub one_more : (shape : Shape) (z : Words) (P : Shape → ℕ → Words → Type 0) (p q : ℕ) → ((r : ℕ) → r < p → P shape r (view r z)) → P shape p (view p z) → q < p + 1 → P shape q (view q z)
one_more shape z P p q before here lt = elim (eqb_tells q p) [
  | inl e ↦ subst (λ r. P shape r (view r z)) (sym e.1) here
  | inr ne ↦ (let apart = ne.1 in before q (omega (arith, lt, apart)))
]

-- what is said of a rule that fails
pub unsound_as : (e : CheckFault) (P Q : FaultSet) → ((i a : ℕ) → P i a → Q i a) → IfUnsound e P → IfUnsound e Q
unsound_as (Unsound found) P Q on h = on (rule_number found.rule) found.address h
unsound_as NoMemory P Q on h = tt

-- the words before the heap are as many as that
pub before_long : (shape : Shape) (xs row : List ℕ) → row ≡ take (heap shape) xs → heap shape ≤ length xs → heap shape ≤ length row
before_long shape xs row e le = let long : length row ≡ min (heap shape) (length xs) = ap length e ∙ length-take (heap shape) xs in omega (arith, long, le)

-- and they are the log words
pub before_heap : (P : Words → Type 0) (shape : Shape) (xs row : List ℕ) → row ≡ take (heap shape) xs → P (slice_index row) → P (log_words shape (slice_index xs))
before_heap P shape xs row e h = subst P (taken-is shape xs) (subst (λ ys. P (slice_index ys)) e h)
