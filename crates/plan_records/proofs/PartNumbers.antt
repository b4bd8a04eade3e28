-- The parts of an undo and of deletions by their numbers.
use Rattle.std.proofs.Common.{◌≡◌, ◌≢◌, ℕ, zero, suc, ◌+◌, ◌-◌, ◌*◌, ◌/◌, ◌%◌, ◌<◌, ◌≤◌, List, [], ◌∷◌, ◌++◌, length, Some, None, refl, sym, ap, ◌∙◌, arith, length-append}
use Rattle.std.specs.Prelude.{slice_get}
use Rattle.std.proofs.lemmas.Option.{slice_get_past}
use Rattle.persist_model.specs.declared.event.Event.TheVariants.{PStore}
use Rattle.region_layout.specs.declared.cell.Cell.{Cell}
use Rattle.region_layout.specs.declared.layout.Policy.{Policy}
use Rattle.plan_records.specs.declared.parts.Part.{Part}
use Rattle.plan_records.specs.declared.parts.Part.TheVariants.{Append, Word, Fence}
use Rattle.region_layout.specs.RecordCells.{cell_of_compensation}
use Rattle.plan_records.specs.Sequences.{store_of, undo_parts, zero_parts, owner_parts}

even : (policy : Policy) (us : List Cell) (k : ℕ) (u : Cell) → slice_get us k ≡ Some u → slice_get (undo_parts policy us) (k + k) ≡ Some (Append (cell_of_compensation u))
even policy [] k u e = cc
even policy (c ∷ us) zero u e = let same : c ≡ u = cc in ap (λ x. Some (Append (cell_of_compensation x))) same
even policy (c ∷ us) (suc k) u e = let n : suc k + suc k ≡ suc (suc (k + k)) = omega arith in rw n (even policy us k u e)

odd : (policy : Policy) (us : List Cell) (k : ℕ) (u : Cell) → slice_get us k ≡ Some u → slice_get (undo_parts policy us) (k + k + 1) ≡ Some (Word (store_of policy u.word u.before))
odd policy [] k u e = cc
odd policy (c ∷ us) zero u e = let same : c ≡ u = cc in ap (λ (x : Cell). Some (Word (store_of policy x.word x.before))) same
odd policy (c ∷ us) (suc k) u e = let n : suc k + suc k + 1 ≡ suc (suc (k + k + 1)) = omega arith in rw n (odd policy us k u e)

pub length-undo_parts : (policy : Policy) (us : List Cell) → length (undo_parts policy us) ≡ length us + length us
length-undo_parts policy [] = refl
length-undo_parts policy (u ∷ us) = let e = length-undo_parts policy us in omega (arith, e)

past : (us : List Cell) (k : ℕ) → slice_get us k ≡ None → length us ≤ k
past [] k e = omega arith
past (u ∷ us) zero e = cc
past (u ∷ us) (suc k) e = let h = past us k e in omega (arith, h)

pub undo_even : (policy : Policy) (us : List Cell) (i : ℕ) (u : Cell) → slice_get us (i / 2) ≡ Some u → i % 2 ≡ 0 → slice_get (undo_parts policy us) i ≡ Some (Append (cell_of_compensation u))
undo_even policy us i u e two = let n : i ≡ i / 2 + i / 2 = omega (arith, two) in ap (slice_get (undo_parts policy us)) n ∙ even policy us (i / 2) u e

pub undo_odd : (policy : Policy) (us : List Cell) (i : ℕ) (u : Cell) → slice_get us (i / 2) ≡ Some u → i % 2 ≢ 0 → slice_get (undo_parts policy us) i ≡ Some (Word (store_of policy u.word u.before))
undo_odd policy us i u e two = let n : i ≡ i / 2 + i / 2 + 1 = omega (arith, two) in ap (slice_get (undo_parts policy us)) n ∙ odd policy us (i / 2) u e

pub undo_past : (policy : Policy) (us : List Cell) (i : ℕ) → slice_get us (i / 2) ≡ None → slice_get (undo_parts policy us) i ≡ None
undo_past policy us i e = let h = past us (i / 2) e in let l = length-undo_parts policy us in slice_get_past (undo_parts policy us) i (omega (arith, h, l))

-- ---- deletions

zero_at : (owners : List ℕ) (rest : List Part) (i a : ℕ) → slice_get owners i ≡ Some a → slice_get (zero_parts owners ++ rest) i ≡ Some (Word (PStore a 0))
zero_at [] rest i a e = cc
zero_at (b ∷ owners) rest zero a e = let same : b ≡ a = cc in ap (λ x. Some (Word (PStore x 0))) same
zero_at (b ∷ owners) rest (suc i) a e = zero_at owners rest i a e

zero_fence : (owners : List ℕ) (i : ℕ) → i ≡ length owners → slice_get (zero_parts owners ++ Fence ∷ []) i ≡ Some Fence
zero_fence [] i e = rw e refl
zero_fence (a ∷ owners) zero e = absurd (omega (arith, e))
zero_fence (a ∷ owners) (suc i) e = zero_fence owners i (omega (arith, e))

length-zero_parts : (owners : List ℕ) → length (zero_parts owners) ≡ length owners
length-zero_parts [] = refl
length-zero_parts (a ∷ owners) = let e = length-zero_parts owners in omega (arith, e)

owner_is : (owners : List ℕ) → length owners ≢ 0 → owner_parts owners ≡ zero_parts owners ++ Fence ∷ []
owner_is [] ne = absurd (ne refl)
owner_is (a ∷ owners) ne = refl

pub owner_at : (owners : List ℕ) (i a : ℕ) → slice_get owners i ≡ Some a → slice_get (owner_parts owners) i ≡ Some (Word (PStore a 0))
owner_at [] i a e = cc
owner_at (b ∷ owners) i a e = zero_at (b ∷ owners) (Fence ∷ []) i a e

pub owner_fence : (owners : List ℕ) (i : ℕ) → i ≡ length owners → length owners ≢ 0 → slice_get (owner_parts owners) i ≡ Some Fence
owner_fence owners i e ne = rw (owner_is owners ne) (zero_fence owners i e)

pub length-owner_parts : (owners : List ℕ) → length owners ≢ 0 → length (owner_parts owners) ≡ length owners + 1
length-owner_parts owners ne = let l = length-zero_parts owners in let k = length-append (zero_parts owners) (Fence ∷ []) in rw (owner_is owners ne) (omega (arith, l, k))

past_numbers : (xs : List ℕ) (k : ℕ) → slice_get xs k ≡ None → length xs ≤ k
past_numbers [] k e = omega arith
past_numbers (u ∷ us) zero e = cc
past_numbers (u ∷ us) (suc k) e = let h = past_numbers us k e in omega (arith, h)

pub owner_past : (owners : List ℕ) (i : ℕ) → slice_get owners i ≡ None → (0 < length owners → i ≢ length owners) → slice_get (owner_parts owners) i ≡ None
owner_past [] i e ne = refl
owner_past (a ∷ owners) i e ne =
    let h = past_numbers (a ∷ owners) i e in
    let l = length-owner_parts (a ∷ owners) (λ z. absurd (omega (arith, z))) in
    let away = ne (omega arith) in
    slice_get_past (owner_parts (a ∷ owners)) i (omega (arith, h, l, away))

-- ---- rows of parts behind one another

pub slice_get-left : (xs ys : List Part) (i : ℕ) (part : Part) → slice_get xs i ≡ Some part → slice_get (xs ++ ys) i ≡ Some part
slice_get-left [] ys i part e = cc
slice_get-left (x ∷ xs) ys zero part e = e
slice_get-left (x ∷ xs) ys (suc i) part e = slice_get-left xs ys i part e

pub slice_get-right : (xs ys : List Part) (i : ℕ) → length xs ≤ i → slice_get (xs ++ ys) i ≡ slice_get ys (i - length xs)
slice_get-right [] ys i h = let e : i - 0 ≡ i = omega arith in rw e
slice_get-right (x ∷ xs) ys zero h = absurd (omega arith)
slice_get-right (x ∷ xs) ys (suc i) h = let e : suc i - suc (length xs) ≡ i - length xs = omega arith in rw e (slice_get-right xs ys i (omega arith))

pub past_parts : (xs : List Part) (i : ℕ) → slice_get xs i ≡ None → length xs ≤ i
past_parts [] i e = omega arith
past_parts (x ∷ xs) zero e = cc
past_parts (x ∷ xs) (suc i) e = let h = past_parts xs i e in omega (arith, h)

pub no_owners : (owners : List ℕ) → length owners ≡ 0 → length (owner_parts owners) ≡ 0
no_owners [] e = refl
no_owners (a ∷ owners) e = absurd (omega (arith, e))

-- what stands behind one part and an undo
pub behind_undo : (policy : Policy) (head : Part) (us : List Cell) (rest : List Part) (i n : ℕ) → i ≢ 0 → n ≡ length us → slice_get (undo_parts policy us) (i - 1) ≡ None →
    slice_get (head ∷ (undo_parts policy us ++ rest)) i ≡ slice_get rest (i - 1 - 2 * n)
behind_undo policy head us rest zero n ne l none = absurd (ne refl)
behind_undo policy head us rest (suc k) n ne l none =
    let e : suc k - 1 ≡ k = omega arith in
    let past : length (undo_parts policy us) ≤ k = past_parts (undo_parts policy us) k (ap (slice_get (undo_parts policy us)) (sym e) ∙ none) in
    let m = length-undo_parts policy us in
    let same : k - length (undo_parts policy us) ≡ suc k - 1 - 2 * n = omega (arith, l, m) in
    slice_get-right (undo_parts policy us) rest k past ∙ ap (slice_get rest) same

pub undo_within : (policy : Policy) (us : List Cell) (i n : ℕ) → i ≢ 0 → n ≡ length us → slice_get (undo_parts policy us) (i - 1) ≡ None → 2 * n ≤ i - 1
undo_within policy us i n ne l none = let past = past_parts (undo_parts policy us) (i - 1) none in let m = length-undo_parts policy us in omega (arith, past, m, l)
