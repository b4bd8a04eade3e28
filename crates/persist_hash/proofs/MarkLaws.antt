-- Blocks of a heap that are claimed, and keys of a chain that were read.
use Rattle.std.proofs.Common.{◌≡◌, ◌≢◌, ⊎_elim, ℕ, ◌+◌, ◌*◌, ◌<◌, Bool, true, false, ◌||◌, ◌==◌, not, List, [], ◌∷◌, ◌++◌, length, refl, ap, sym, ◌∙◌, arith}
use Rattle.std.specs.Prelude.{if◌then◌else◌}
use Rattle.std.specs.Ordering.{is_eq, nat_cmp}
use Rattle.std.proofs.lemmas.Bool.{cases_lt}
use Rattle.std.proofs.lemmas.Bool.Decides.{nat_tests}
use Rattle.std.proofs.lemmas.List.{get_or_past}
use Rattle.lane_traits.specs.Space.{IsOwn}
use Rattle.lane_traits.specs.Draft.{is_among}
use Rattle.lane_traits.proofs.Among.{is_among-last}
use Rattle.persist_hash.specs.Reading.{IsHeap, land_in, AreMarks}

-- an owned block is within the heap
pub within : (words : List ℕ) (heap count structure b : ℕ) → IsHeap words heap count → (own : IsOwn (land_in words heap structure) b) → b < length words
within words heap count structure b h own = ⊎_elim (λ lt. lt)
    (λ past. absurd (let e = get_or_past words b 0 past in let o = own.1 in omega (arith, e, o)))
    (cases_lt b (length words))

pub number_within : (words : List ℕ) (heap count structure b : ℕ) → IsHeap words heap count → (own : IsOwn (land_in words heap structure) b) → own.0.number < count
number_within words heap count structure b h own =
    let lt = within words heap count structure b h own in
    let place = own.0.place in
    let long = h.long in
    omega (arith, lt, place, long)

pub word_within : (words : List ℕ) (heap count structure b i : ℕ) → IsHeap words heap count → IsOwn (land_in words heap structure) b → i < 16 → b + i < length words
word_within words heap count structure b i h own small =
    let lt = number_within words heap count structure b h own in
    let place = own.0.place in
    let long = h.long in
    omega (arith, lt, place, long, small)

pub no_number : (words : List ℕ) (heap count structure b : ℕ) → IsHeap words heap count → ((k : ℕ) → k < count → b ≢ heap + 16 * k)
    → IsOwn (land_in words heap structure) b → ⊥
no_number words heap count structure b h none own = none own.0.number (number_within words heap count structure b h own) own.0.place

-- marks for tests that agree
pub marks_same : (heap : ℕ) (marks : List Bool) (test other : ℕ → Bool) → ((x : ℕ) → test x ≡ other x) → AreMarks heap marks test → AreMarks heap marks other
marks_same heap marks test other same h = λ k lt. h k lt ∙ same (heap + 16 * k)

-- with one more key in the set
key_at : (key k : ℕ) → is_eq (nat_cmp key k) ≡ (k == key)
key_at key k = grind (arith, nat_tests)

or_before : (s t : Bool) → (if s then true else t) ≡ (t || s)
or_before true true = refl
or_before true false = refl
or_before false true = refl
or_before false false = refl

pub keys_more : (before after : ℕ → Bool) (listed : List ℕ) (key : ℕ) → ((k : ℕ) → after k ≡ (if is_eq (nat_cmp key k) then true else before k)) → ((k : ℕ) → before k ≡ is_among listed k)
    → (k : ℕ) → after k ≡ is_among (listed ++ key ∷ []) k
keys_more before after listed key put are k =
    put k ∙ ap (λ s. if s then true else before k) (key_at key k) ∙ or_before (k == key) (before k) ∙ ap (λ t. t || (k == key)) (are k)
    ∙ sym (is_among-last listed key k)

-- how many they are then
pub one_more : (before after : ℕ) (is_new : Bool) → after ≡ before + (if is_new then 1 else 0) → is_new ≡ true → after ≡ before + 1
one_more before after true e on = e
one_more before after false e on = let q : false ≡ true = on in cc

-- what a test that is turned tells
pub not_true : (t : Bool) → not t ≡ true → t ≡ false
not_true true e = let q : false ≡ true = e in cc
not_true false e = refl

pub not_false : (t : Bool) → not t ≡ false → t ≡ true
not_false true e = refl
not_false false e = let q : true ≡ false = e in cc
