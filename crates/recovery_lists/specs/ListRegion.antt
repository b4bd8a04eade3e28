-- The region of the tests: two partitions of four buckets of one cell, without records. A bucket is being put behind the chain of the
-- first partition, and one is being taken out of the chain of the second.
use Rattle.std.specs.Prelude.{List, [], ◌∷◌}
use Rattle.persist_model.specs.Shape.{Shape, SECOND_MAGIC}
use Rattle.test_regions.specs.Pairs.{Pair}

abbrev pub small : Shape
small = record { policy = 1; cells = 1; buckets = 8; blocks = 16; structures = 1; format = 2; partitions = 2 }

abbrev pub unrepaired : List Pair
unrepaired =
    (0, SECOND_MAGIC) ∷ (1, 1) ∷ (2, 1) ∷ (3, 8) ∷ (4, 16) ∷ (5, 1) ∷ (6, 2) ∷ (13, 1) ∷ (8, 32) ∷ (9, 32) ∷ (10, 48) ∷ (11, 32) ∷ (49, 32) ∷
    (21, 96) ∷ (22, 144) ∷ (25, 112) ∷ (96, 112) ∷ (112, 128) ∷ (113, 96) ∷ (128, 144) ∷ (129, 112) ∷ (145, 128) ∷ []
