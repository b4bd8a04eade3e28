-- The region of the tests: two partitions of four buckets of one cell. The chain of the first partition has its third bucket and then
-- its first, that of the second its first.
use Rattle.std.specs.Prelude.{List, [], ◌∷◌}
use Rattle.persist_model.specs.Shape.{Shape, SECOND_MAGIC}
use Rattle.test_regions.specs.Pairs.{Pair}

abbrev pub small : Shape
small = record { policy = 1; cells = 1; buckets = 8; blocks = 16; structures = 1; format = 2; partitions = 2 }

abbrev pub two_chains : List Pair
two_chains =
    (0, SECOND_MAGIC) ∷ (1, 1) ∷ (2, 1) ∷ (3, 8) ∷ (4, 16) ∷ (5, 1) ∷ (6, 2) ∷ (13, 1) ∷ (8, 64) ∷ (9, 32) ∷ (64, 32) ∷ (33, 64) ∷
    (21, 96) ∷ (22, 96) ∷ []
