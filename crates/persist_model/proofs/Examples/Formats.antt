-- The numbers of the region's format, and addresses that follow from them.
use Rattle.std.proofs.Common.{◌≡◌, ℕ, ◌+◌, ◌*◌, [], ◌∷◌, refl, arith}
use Rattle.persist_model.specs.declared.format.TheConstants as constants
use Rattle.persist_model.specs.Records.{Record, IsUpdate, IsCompensation, IsRollback, IsEnd, IsCheckpoint, IsDeletion}
use Rattle.persist_model.specs.Shape.{Shape, bucket_size, FIRST_MAGIC, SECOND_MAGIC, shape_of, bucket, heap, block, words_of_shape, first_bucket, count_buckets, part_of, list_words}
use Rattle.persist_model.specs.Chain.{HEAD, TAIL, TO_APPEND, LAST_TAIL, TO_REMOVE, view, word_behind, word_before, last_or, without}

-- the bytes R, W, N and D, and the number of the format in the low half
first_magic : FIRST_MAGIC ≡ ((82 * 256 + 87) * 256 + 78) * 256 * 4294967296 + 68 * 4294967296 + 1
first_magic = refl

second_magic : SECOND_MAGIC ≡ FIRST_MAGIC + 1
second_magic = refl

-- the constants of the code are the definitions'
magics : (constants.FIRST_MAGIC ≡ FIRST_MAGIC) × (constants.SECOND_MAGIC ≡ SECOND_MAGIC)
magics = (refl, refl)

list_constants : (constants.HEAD ≡ HEAD) × (constants.TAIL ≡ TAIL) × (constants.TO_APPEND ≡ TO_APPEND) × (constants.LAST_TAIL ≡ LAST_TAIL) × (constants.TO_REMOVE ≡ TO_REMOVE)
list_constants = (refl, refl, refl, refl, refl)

sizes : (shape : Shape) → (bucket shape 0 ≡ constants.HEADER_WORDS) × (bucket_size shape ≡ constants.BUCKET_HEADER_WORDS + constants.CELL_WORDS * shape.cells) × (block shape 1 ≡ heap shape + constants.BLOCK_WORDS)
sizes shape = (omega arith, refl, omega arith)

kinds : (r : Record) → (r.kind ≡ constants.UPDATE → IsUpdate r) × (r.kind ≡ constants.COMPENSATION → IsCompensation r) × (r.kind ≡ constants.ROLLBACK → IsRollback r)
    × (r.kind ≡ constants.END → IsEnd r) × (r.kind ≡ constants.CHECKPOINT → IsCheckpoint r) × (r.kind ≡ constants.DELETION → IsDeletion r)
kinds r = ((λ e. e), (λ e. e), (λ e. e), (λ e. e), (λ e. e), λ e. e)

-- the largest region
largest : words_of_shape (record { policy = 1; cells = 16; buckets = 1024; blocks = 65536; structures = 1; format = 1; partitions = 1 }) ≡ constants.MAX_WORDS
largest = refl

lists : (list_words 0 ≡ 8) × (list_words 1 ≡ 21) × (list_words 2 ≡ 26)
lists = (refl, refl, refl)

-- ---- a region of 14 buckets of 16 cells in three partitions

abbrev three : Shape
three = record { policy = 2; cells = 16; buckets = 14; blocks = 20; structures = 2; format = 2; partitions = 3 }

addresses : (bucket three 0 ≡ 32) × (bucket three 1 ≡ 168) × (heap three ≡ 1936) × (block three 2 ≡ 1968) × (words_of_shape three ≡ 2256)
addresses = (refl, refl, refl, refl, refl)

-- four, four, and the six that remain
partitions : (first_bucket three 1 ≡ 4) × (count_buckets three 1 ≡ 4) × (first_bucket three 2 ≡ 8) × (count_buckets three 2 ≡ 6)
partitions = (refl, refl, refl, refl)

-- the partition of the first cell of bucket 3, of bucket 4, of the last cell of bucket 7, and of the last bucket
parts : (part_of three (bucket three 3 + 8) ≡ 0) × (part_of three (bucket three 4 + 8) ≡ 1) × (part_of three (bucket three 7 + 128) ≡ 1) × (part_of three (bucket three 13 + 8) ≡ 2)
parts = (refl, refl, refl, refl)

-- the same words in format 1 have one partition, whatever word 6 holds
one_partition : shape_of (λ a. 6) ≡ record { policy = 6; cells = 6; buckets = 6; blocks = 6; structures = 6; format = 1; partitions = 1 }
one_partition = refl

-- ---- a partition's view

-- word a holds 100 + a
abbrev hundred : ℕ → ℕ
hundred a = 100 + a

views : (view 0 hundred HEAD ≡ 108) × (view 1 hundred HEAD ≡ 121) × (view 2 hundred TO_REMOVE ≡ 130) × (view 2 hundred 40 ≡ 140)
views = (refl, refl, refl, refl)

-- the word that names the bucket behind and before another one, and 0 for the ends
links : (word_behind 32 ≡ 32) × (word_behind 0 ≡ HEAD) × (word_before 32 ≡ 33) × (word_before 0 ≡ TAIL)
links = (refl, refl, refl, refl)

rows : (last_or 0 (32 ∷ 48 ∷ []) ≡ 48) × (last_or 0 [] ≡ 0) × (without 48 (32 ∷ 48 ∷ 64 ∷ []) ≡ 32 ∷ 64 ∷ [])
rows = (refl, refl, refl)
