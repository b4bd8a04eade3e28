-- The words of different things are different words.
use Rattle.std.specs.Prelude.{◌≡◌, ◌⊎◌, ℕ, ◌+◌, ◌<◌, ◌≤◌}
use Rattle.persist_model.specs.Shape.{Shape, bucket, bucket_size, block, words_of_shape, IsHeapWord, first_bucket, count_buckets, part_of}
use Rattle.persist_model.specs.declared.format.TheConstants.{MAX_WORDS}
use Rattle.persist_model.specs.ImageRecords.{cell_address}
use Rattle.region_layout.specs.Layout.{IsAllowed}

abbrev pub IsHeaderWord : ℕ → Type 0
IsHeaderWord a = a < 32

-- a is a word of bucket j
abbrev pub IsWordOfBucket : Shape → ℕ → ℕ → Type 0
IsWordOfBucket shape j a = (j < shape.buckets) × (bucket shape j ≤ a) × (a < bucket shape j + bucket_size shape)

-- a is a word of cell c of bucket j
abbrev pub IsWordOfCell : Shape → ℕ → ℕ → ℕ → Type 0
IsWordOfCell shape j c a =
    (j < shape.buckets) × (c < shape.cells) × (cell_address (bucket shape j) c ≤ a) × (a < cell_address (bucket shape j) c + 8)

-- a is a word of block k
abbrev pub IsWordOfBlock : Shape → ℕ → ℕ → Type 0
IsWordOfBlock shape k a = (k < shape.blocks) × (block shape k ≤ a) × (a < block shape k + 16)

-- Each word of a region is one of its header, of one bucket, or of one block.
pub record AreApart (shape : Shape) : Type 0 where
  pub covered : (a : ℕ) → a < words_of_shape shape →
      IsHeaderWord a ⊎ ((j : ℕ) × IsWordOfBucket shape j a) ⊎ ((k : ℕ) × IsWordOfBlock shape k a)
  pub bucket_behind_header : (j a : ℕ) → IsWordOfBucket shape j a → 32 ≤ a
  pub bucket_before_heap : (j a : ℕ) → IsWordOfBucket shape j a → a < block shape 0
  pub buckets : (i j a : ℕ) → IsWordOfBucket shape i a → IsWordOfBucket shape j a → i ≡ j
  pub block_in_heap : (k a : ℕ) → IsWordOfBlock shape k a → IsHeapWord shape a
  pub blocks : (i k a : ℕ) → IsWordOfBlock shape i a → IsWordOfBlock shape k a → i ≡ k
  -- the eight words before the first cell are the bucket's own
  pub cell_in_bucket : (j c a : ℕ) → IsWordOfCell shape j c a → IsWordOfBucket shape j a × (bucket shape j + 8 ≤ a)
  pub cells : (j b c a : ℕ) → IsWordOfCell shape j b a → IsWordOfCell shape j c a → b ≡ c

-- bucket j is one of partition p
abbrev pub IsInPartition : Shape → ℕ → ℕ → Type 0
IsInPartition shape p j = (first_bucket shape p ≤ j) × (j < first_bucket shape p + count_buckets shape p)

-- Each bucket is in one partition, and each partition has at least four.
pub record ArePartitioned (shape : Shape) : Type 0 where
  pub covered : (j : ℕ) → j < shape.buckets → (p : ℕ) × (p < shape.partitions) × IsInPartition shape p j
  pub apart : (p q j : ℕ) → p < shape.partitions → q < shape.partitions → IsInPartition shape p j → IsInPartition shape q j → p ≡ q
  pub inside : (p j : ℕ) → p < shape.partitions → IsInPartition shape p j → j < shape.buckets
  pub enough : (p : ℕ) → p < shape.partitions → 4 ≤ count_buckets shape p
  -- the partition is found again from any word of the bucket
  pub found : (p j a : ℕ) → p < shape.partitions → IsInPartition shape p j → IsWordOfBucket shape j a → part_of shape a ≡ p

abbrev pub WordsAreApart : Type 0
WordsAreApart = (shape : Shape) → IsAllowed shape → AreApart shape

abbrev pub PartsAreApart : Type 0
PartsAreApart = (shape : Shape) → IsAllowed shape → ArePartitioned shape

-- the greatest region has 1024 buckets of 16 cells, and 65,536 blocks
abbrev pub SizesAreBounded : Type 0
SizesAreBounded = (shape : Shape) → IsAllowed shape → words_of_shape shape ≤ MAX_WORDS
