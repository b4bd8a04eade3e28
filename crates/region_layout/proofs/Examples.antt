-- The words of a small fresh region, and its addresses.
use Rattle.std.proofs.Common.{◌≡◌, ℕ, [], ◌∷◌, refl}
use Rattle.persist_model.specs.Shape.{Shape, SECOND_MAGIC, bucket, heap, block, words_of_shape}
use Rattle.region_layout.specs.declared.layout.Kind.TheVariants.{Cells, Tree}
use Rattle.region_layout.specs.Fresh.{fresh_word}

-- force, 1 cell a bucket, 4 buckets, 16 blocks, 2 structures
small : ℕ → Shape
small format = record { policy = 1; cells = 1; buckets = 4; blocks = 16; structures = 2; format = format; partitions = 1 }

sizes : (bucket (small 2) 1 ≡ 48) × (heap (small 2) ≡ 96) × (block (small 2) 1 ≡ 112) × (words_of_shape (small 2) ≡ 352)
unfolding small
sizes = (refl, refl, refl, refl)

header : (fresh_word (small 2) (Cells ∷ Tree ∷ []) 0 ≡ SECOND_MAGIC) × (fresh_word (small 2) (Cells ∷ Tree ∷ []) 6 ≡ 1) × (fresh_word (small 2) (Cells ∷ Tree ∷ []) 14 ≡ 2) × (fresh_word (small 2) (Cells ∷ Tree ∷ []) 15 ≡ 0)
unfolding small
header = (refl, refl, refl, refl)

-- format 1 says nothing of partitions and kinds
first_header : (fresh_word (small 1) (Cells ∷ Tree ∷ []) 6 ≡ 0) × (fresh_word (small 1) (Cells ∷ Tree ∷ []) 14 ≡ 0)
unfolding small
first_header = (refl, refl)

roots : (fresh_word (small 2) (Cells ∷ Tree ∷ []) 96 ≡ 1) × (fresh_word (small 2) (Cells ∷ Tree ∷ []) 112 ≡ 2) × (fresh_word (small 2) (Cells ∷ Tree ∷ []) 128 ≡ 0) × (fresh_word (small 2) (Cells ∷ Tree ∷ []) 97 ≡ 0)
unfolding small
roots = (refl, refl, refl, refl)
