-- The words of different partitions are different words.
use Rattle.std.proofs.Common.{◌≡◌, ◌≢◌, inl, inr, ℕ, ◌+◌, ◌*◌, ◌<◌, ◌≤◌, sym, subst, arith}
use Rattle.persist_model.specs.Shape.{Shape, bucket_size, heap, IsBucketOf, list_words, part_of}
use Rattle.persist_model.specs.Chain.{out_address}
use Rattle.persist_model.specs.ImageRecords.{cell_address}
use Rattle.log_laws.proofs.Views.{list_words_cases, out_cases, out_behind, IsOwn}
use Rattle.region_layout.specs.Layout.{IsAllowed}
use Rattle.region_layout.specs.Apart.{IsWordOfBucket}
use Rattle.region_layout.proofs.Places.{words_apart}
use Rattle.region_layout.proofs.Parts.{parts_apart}
use Rattle.bucket_log.specs.Words.{IsBucketWord, IsLogWord, IsPartWord}

pub few_parts : (shape : Shape) (p : ℕ) → IsAllowed shape → p < shape.partitions → p < 3
few_parts shape p ok lt = let most = ok.partitions.1 in omega (arith, most, lt)

-- a word of a bucket is one of a numbered bucket
numbered : (shape : Shape) (p a : ℕ) → IsAllowed shape → p < shape.partitions → (h : IsBucketWord shape p a) → IsWordOfBucket shape h.1.0 a
numbered shape p a ok lt h = (
  (parts_apart shape ok).inside p h.1.0 lt (h.1.1, h.1.2),
  (let e = h.1.3 in let low = h.2 in omega (arith, e, low)),
  (let e = h.1.3 in let high = h.3 in omega (arith, e, high)),
)

pub bucket_word_above : (shape : Shape) (p a : ℕ) → IsBucketWord shape p a → 32 ≤ a
bucket_word_above shape p a h = let e = h.1.3 in let low = h.2 in omega (arith, e, low)

pub bucket_word_below : (shape : Shape) (p a : ℕ) → IsAllowed shape → p < shape.partitions → IsBucketWord shape p a → a < heap shape
bucket_word_below shape p a ok lt h =
    let inside = (numbered shape p a ok lt h).0 in
    let high = (numbered shape p a ok lt h).2 in
    let rows = above h.1.0 shape.buckets (bucket_size shape) inside in
    omega (arith, high, rows)
  where
    above : (j n s : ℕ) → j < n → j * s + s ≤ n * s
    above j n s below = grind arith

buckets_of_parts : (shape : Shape) (p q a : ℕ) → IsAllowed shape → p < shape.partitions → q < shape.partitions → q ≢ p → IsBucketWord shape q a → IsBucketWord shape p a → ⊥
buckets_of_parts shape p q a ok lt lt' ne h k =
    let same : h.1.0 ≡ k.1.0 = (words_apart shape ok).buckets h.1.0 k.1.0 a (numbered shape q a ok lt' h) (numbered shape p a ok lt k) in
    ne ((parts_apart shape ok).apart q p h.1.0 lt' lt (h.1.1, h.1.2)
    (let low = k.1.1 in let high = k.1.2 in (omega (arith, same, low), omega (arith, same, high))))

registers_of_parts : (p q a : ℕ) → p < 3 → q < 3 → q ≢ p → (list_words q ≤ a) × (a ≤ list_words q + 4) → (list_words p ≤ a) × (a ≤ list_words p + 4) → ⊥
registers_of_parts p q a lt lt' ne h k =
    let x = list_words_cases p lt in
    let y = list_words_cases q lt' in
    grind (arith, x, y, ne, h, k)

pub registers_below : (p a : ℕ) → p < 3 → a ≤ list_words p + 4 → a < 32
registers_below p a lt h = let x = list_words_cases p lt in grind (arith, x, h)

pub part_words_apart : (shape : Shape) (p q a : ℕ) → IsAllowed shape → p < shape.partitions → q < shape.partitions → q ≢ p → IsPartWord shape q a → IsPartWord shape p a → ⊥
part_words_apart shape p q a ok lt lt' ne (inl h) (inl k) = registers_of_parts p q a (few_parts shape p ok lt) (few_parts shape q ok lt') ne h k
part_words_apart shape p q a ok lt lt' ne (inl h) (inr k) =
    let low = registers_below q a (few_parts shape q ok lt') h.1 in let high = bucket_word_above shape p a k in omega (arith, low, high)
part_words_apart shape p q a ok lt lt' ne (inr h) (inl k) =
    let low = registers_below p a (few_parts shape p ok lt) k.1 in let high = bucket_word_above shape q a h in omega (arith, low, high)
part_words_apart shape p q a ok lt lt' ne (inr h) (inr k) = buckets_of_parts shape p q a ok lt lt' ne h k

pub part_word_below : (shape : Shape) (p a : ℕ) → IsAllowed shape → p < shape.partitions → IsPartWord shape p a → a < heap shape
part_word_below shape p a ok lt (inl h) = let low = registers_below p a (few_parts shape p ok lt) h.1 in omega (arith, low)
part_word_below shape p a ok lt (inr h) = bucket_word_below shape p a ok lt h

-- a log word of the view is one of the partition in the region
pub log_word_out : (shape : Shape) (p a : ℕ) → IsLogWord shape p a → IsPartWord shape p (out_address p a)
log_word_out shape p a (inl h) = elim (out_cases p a) [
  | inl k ↦ (let e = k.2 in let low = h.0 in let high = h.1 in inl (omega (arith, e, low), omega (arith, e, low, high)))
  | inr k ↦ (let low = h.0 in let high = h.1 in elim k.0 [ inl z ↦ absurd (omega (arith, z, low)) | inr z ↦ absurd (omega (arith, z, high)) ])
]
log_word_out shape p a (inr h) =
    let above = bucket_word_above shape p a h in
    inr (subst (IsBucketWord shape p) (sym (out_behind p a (omega (arith, above)))) h)

-- and no list word of another partition
pub log_word_own : (shape : Shape) (p a : ℕ) → IsLogWord shape p a → IsOwn p a
log_word_own shape p a (inl h) = let high = h.1 in inr (inl (omega (arith, high)))
log_word_own shape p a (inr h) = let above = bucket_word_above shape p a h in inr (inr (omega (arith, above)))

-- the partition of a cell is found from its address
pub part_of_cell : (shape : Shape) (p b c : ℕ) → IsAllowed shape → p < shape.partitions → IsBucketOf shape p b → c < shape.cells → part_of shape (cell_address b c) ≡ p
part_of_cell shape p b c ok lt is below = (parts_apart shape ok).found p is.0 (cell_address b c) lt (is.1, is.2)
    ((parts_apart shape ok).inside p is.0 lt (is.1, is.2), (let e = is.3 in omega (arith, e)), (let e = is.3 in omega (arith, e, below)))
