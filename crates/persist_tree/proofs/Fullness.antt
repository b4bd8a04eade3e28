-- When a put answers that the heap is full.
use Rattle.std.proofs.Common.{◌≡◌, ◌↔◌, ℕ, ◌<◌, Result, Ok, Err, List, [], ◌∷◌, length, refl, sym, ◌∙◌, ap, arith}
use Rattle.lane_traits.specs.declared.words.WordsRefusal.{WordsRefusal}
use Rattle.lane_traits.specs.declared.words.WordsRefusal.TheVariants.{HeapFull, NoMemory}

nil_of : (spare : List ℕ) → length spare < 1 → spare ≡ []
nil_of [] lt = refl
nil_of (x ∷ xs) lt = absurd (omega (arith, lt))

-- one block is needed, and the insertion was refused
pub full_refused : {X Y : Type 0} (r : Result X WordsRefusal) (q : Result Y WordsRefusal) (e : WordsRefusal) (spare before : List ℕ) (n : ℕ) → r ≡ Err e → q ≡ Err e → before ≡ spare
    → ((r ≡ Err HeapFull) ↔ (before ≡ [])) → 1 ≡ n → (q ≡ Err HeapFull) ↔ (length spare < n)
full_refused r q e spare before n was is same full one = (
  (λ h. (let k : r ≡ Err HeapFull = cc in let none : spare ≡ [] = sym same ∙ full.0 k in let z : length spare ≡ 0 = ap length none in omega (arith, z, one))),
  (λ lt. (let none : before ≡ [] = same ∙ nil_of spare (omega (arith, lt, one)) in let k : r ≡ Err HeapFull = full.1 none in cc)),
)

-- one block is needed, and it was taken
pub full_made : {X Y : Type 0} (r : Result X WordsRefusal) (x : X) (y : Y) (spare before : List ℕ) (n : ℕ) → r ≡ Ok x → before ≡ spare → ((r ≡ Err HeapFull) ↔ (before ≡ [])) → 1 ≡ n
    → (let q : Result Y WordsRefusal = Ok y in q ≡ Err HeapFull) ↔ (length spare < n)
full_made r x y spare before n was same full one = (
  (λ h. absurd (cc)),
  (λ lt. (let none : before ≡ [] = same ∙ nil_of spare (omega (arith, lt, one)) in let k : r ≡ Err HeapFull = full.1 none in absurd (cc))),
)

-- none is needed
pub full_never : {Y : Type 0} (q : Result Y WordsRefusal) (spare : List ℕ) (n : ℕ) → (q ≡ Err HeapFull → ⊥) → 0 ≡ n → (q ≡ Err HeapFull) ↔ (length spare < n)
full_never q spare n never none = ((λ h. absurd (never h)), (λ lt. absurd (omega (arith, lt, none))))

pub no_memory_differs : {Y : Type 0} (q : Result Y WordsRefusal) (e : WordsRefusal) → q ≡ Err e → e ≡ NoMemory → q ≡ Err HeapFull → ⊥
no_memory_differs q e is memory h = cc

pub ok_differs : {Y : Type 0} (y : Y) → (let q : Result Y WordsRefusal = Ok y in q ≡ Err HeapFull) → ⊥
ok_differs y h = cc
