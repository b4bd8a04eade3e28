-- The words of different things are different words.
use Rattle.std.proofs.Common.{◌≡◌, ◌⊎◌, ℕ, suc, ◌+◌, ◌-◌, ◌*◌, ◌/◌, ◌<◌, ◌≤◌, sym, ◌∙◌, ap, arith, ⊎_elim, inl, inr}
use Rattle.std.proofs.lemmas.Nat.{div-mul-add}
use Rattle.std.proofs.lemmas.Bool.{cases_lt}
use Rattle.std.proofs.Math.Nat.{mul-le-mul, mul-le-mul_right, div-mul-le_self, lt-div-mul-add}
use Rattle.persist_model.specs.declared.format.TheConstants.{MAX_WORDS}
use Rattle.persist_model.specs.Shape.{Shape, bucket_size, heap, words_of_shape}
use Rattle.region_layout.specs.Apart.{IsHeaderWord, IsWordOfBucket, IsWordOfBlock, WordsAreApart, SizesAreBounded}

-- the number of the row that has the word a, of rows of w words from start
pub row_of : (start w j a : ℕ) → start + j * w ≤ a → a < start + j * w + w → (a - start) / w ≡ j
row_of start w j a low high =
    let offset : a - start ≡ j * w + (a - (start + j * w)) = omega arith in
    ap (λ n. n / w) offset ∙ div-mul-add j w (a - (start + j * w)) (omega arith)

rows_apart : (start w i j a : ℕ) → start + i * w ≤ a → a < start + i * w + w → start + j * w ≤ a → a < start + j * w + w → i ≡ j
rows_apart start w i j a l h m k = sym (row_of start w i a l h) ∙ row_of start w j a m k

-- each row ends before the end of all
pub row_within : (start w j count a : ℕ) → j < count → a < start + j * w + w → a < start + count * w
row_within start w j count a within high = omega (arith, mul-le-mul_right {m = suc j} {n = count} w (omega arith))

-- a word behind start and before the end is in some row
some_row : (start w count a : ℕ) → 0 < w → start ≤ a → a < start + count * w
    → (j : ℕ) × ((j < count) × (start + j * w ≤ a) × (a < start + j * w + w))
some_row start w count a some low high =
    let j = (a - start) / w in
    let under : j * w ≤ a - start = div-mul-le_self (a - start) w in
    let over : a - start < j * w + w = lt-div-mul-add {a = a - start} {b = w} some in
    let within : j < count =
    ⊎_elim (λ (l : j < count). l) (λ (l : count ≤ j). absurd (omega (arith, under, high, low, mul-le-mul_right {m = count} {n = j} w l))) (cases_lt j count) in
    (j, (within, omega arith, omega arith))

covered : (shape : Shape) (a : ℕ) → a < words_of_shape shape
    → IsHeaderWord a ⊎ ((j : ℕ) × IsWordOfBucket shape j a) ⊎ ((k : ℕ) × IsWordOfBlock shape k a)
covered shape a within =
    ⊎_elim
    (λ (h : a < 32). inl h)
    (λ (behind : 32 ≤ a).
    inr (⊎_elim
    (λ (before : a < heap shape). inl (some_row 32 (bucket_size shape) shape.buckets a (omega arith) behind before))
    (λ (heap_word : heap shape ≤ a). inr ((a - heap shape) / 16, (omega arith, omega arith, omega arith)))
    (cases_lt a (heap shape))))
    (cases_lt a 32)

pub words_apart : WordsAreApart
words_apart shape allowed = record {
  covered = covered shape;
  bucket_behind_header = λ j a h. omega (arith, h.1);
  bucket_before_heap = λ j a h. omega (arith, row_within 32 (bucket_size shape) j shape.buckets a h.0 h.2);
  buckets = λ i j a h g. rows_apart 32 (bucket_size shape) i j a h.1 h.2 g.1 g.2;
  block_in_heap = λ k a h. (omega (arith, h.0, h.1, h.2), omega (arith, h.0, h.1, h.2));
  blocks = λ i k a h g. omega (arith, h.1, h.2, g.1, g.2);
  cell_in_bucket = λ j c a h. ((h.0, omega (arith, h.1, h.2, h.3), omega (arith, h.1, h.2, h.3)), omega (arith, h.2));
  cells = λ j b c a h g. omega (arith, h.2, h.3, g.2, g.3);
}

-- the most that buckets and blocks take
most : (b n k : ℕ) → b ≤ 1024 → n ≤ 65536 → k ≤ 136 → 32 + b * k + 16 * n ≤ MAX_WORDS
most b n k few blocks small = omega (arith, mul-le-mul {n₁ = b} {m₁ = k} {n₂ = 1024} {m₂ = 136} few small)

pub sizes_bounded : SizesAreBounded
sizes_bounded shape allowed =
    most shape.buckets shape.blocks (bucket_size shape) allowed.buckets.1 allowed.blocks.1
    (⊎_elim (λ (e : shape.cells ≡ 1). omega (arith, e)) (λ (e : shape.cells ≡ 16). omega (arith, e)) allowed.cells)
