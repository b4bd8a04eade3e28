-- The words of different buckets, and of different cells of one, are apart.
use Rattle.std.proofs.Common.{◌≡◌, ◌≢◌, ◌⊎◌, inl, inr, ℕ, ◌+◌, ◌*◌, ◌<◌, ◌≤◌, ap, sym, ◌∙◌, arith}
use Rattle.std.proofs.lemmas.Bool.{cases_lt}
use Rattle.std.proofs.lemmas.Bool.Decides.{eqb_tells}
use Rattle.persist_model.specs.Shape.{Shape, IsBucketOf}
use Rattle.persist_model.specs.ImageRecords.{cell_address}
use Rattle.atomic_list.specs.Rules.{IsListWord}
use Rattle.bucket_log.specs.Words.{IsLogWord}

stride_apart : (s i j : ℕ) → i < j → i * s + s ≤ j * s
stride_apart s i j h = grind arith

places_apart : (s i j b c : ℕ) → b ≡ 32 + i * s → c ≡ 32 + j * s → b ≢ c → (b + s ≤ c) ⊎ (c + s ≤ b)
places_apart s i j b c e f ne = elim (cases_lt i j) [
  | inl h ↦ let g = stride_apart s i j h in inl (omega arith)
  | inr h ↦ elim (cases_lt j i) [
    | inl k ↦ let g = stride_apart s j i k in inr (omega arith)
    | inr k ↦ let same : i ≡ j = omega arith in absurd (ne (e ∙ ap (λ n. 32 + n * s) same ∙ sym f))
  ]
]

-- buckets of any partitions
pub buckets_apart : (shape : Shape) (p q b c : ℕ) → IsBucketOf shape p b → IsBucketOf shape q c → b ≢ c →
    (b + (8 + 8 * shape.cells) ≤ c) ⊎ (c + (8 + 8 * shape.cells) ≤ b)
buckets_apart shape p q b c h k ne = places_apart (8 + 8 * shape.cells) h.0 k.0 b c h.3 k.3 ne

pub bucket_above : (shape : Shape) (p b : ℕ) → IsBucketOf shape p b → 32 ≤ b
bucket_above shape p b is = let e = is.3 in omega (arith, e)

-- a word of the list is no word of a cell
pub list_word_is_no_cell : (shape : Shape) (p q a b : ℕ) → IsListWord shape p a → IsBucketOf shape q b → b + 8 ≤ a → a < b + (8 + 8 * shape.cells) → ⊥
list_word_is_no_cell shape p q a b (inl r) h low high = let above = bucket_above shape q b h in let to = r.1 in omega (arith, above, to, low)
list_word_is_no_cell shape p q a b (inr n) h low high = elim (eqb_tells n.0 b) [
  | inl e ↦ (let same = e.1 in elim n.2 [ inl k ↦ omega (arith, same, k, low) | inr k ↦ omega (arith, same, k, low) ])
  | inr e ↦ elim (buckets_apart shape p q n.0 b n.1 h e.1) [
    | inl f ↦ elim n.2 [ inl k ↦ omega (arith, f, k, low, high) | inr k ↦ omega (arith, f, k, low, high) ]
    | inr f ↦ elim n.2 [ inl k ↦ omega (arith, f, k, low, high) | inr k ↦ omega (arith, f, k, low, high) ]
  ]
]

pub list_word_is_log_word : (shape : Shape) (p a : ℕ) → IsListWord shape p a → IsLogWord shape p a
list_word_is_log_word shape p a (inl r) = inl r
list_word_is_log_word shape p a (inr n) = inr (
  n.0,
  n.1,
  elim n.2 [ inl k ↦ omega (arith, k) | inr k ↦ omega (arith, k) ],
  elim n.2 [ inl k ↦ omega (arith, k) | inr k ↦ omega (arith, k) ],
)

-- a word of a cell is a word of the log
pub cell_word_is_log_word : (shape : Shape) (p b c a : ℕ) → IsBucketOf shape p b → c < shape.cells → cell_address b c ≤ a → a < cell_address b c + 8 → IsLogWord shape p a
cell_word_is_log_word shape p b c a h below low high = inr (b, h, omega (arith, low), omega (arith, low, high, below))

-- different cells have different words
pub cells_apart : (shape : Shape) (p q b c d e a : ℕ) → IsBucketOf shape p b → IsBucketOf shape q d → c < shape.cells → e < shape.cells →
    cell_address b c ≤ a → a < cell_address b c + 8 → cell_address d e ≤ a → a < cell_address d e + 8 → (b ≡ d) × (c ≡ e)
cells_apart shape p q b c d e a h k lt lt' low high from to = elim (eqb_tells b d) [
  | inl same ↦ (let is = same.1 in (is, omega (arith, is, low, high, from, to)))
  | inr ne ↦ elim (buckets_apart shape p q b d h k ne.1) [
    | inl f ↦ absurd (omega (arith, f, lt, lt', low, high, from, to))
    | inr f ↦ absurd (omega (arith, f, lt, lt', low, high, from, to))
  ]
]
