-- The region of the tests: four buckets of 16 cells. The chain has the third bucket, and then the first.
use Rattle.std.specs.Prelude.{List, [], ◌∷◌}
use Rattle.persist_model.specs.Shape.{Shape, SECOND_MAGIC}
use Rattle.test_regions.specs.Pairs.{Pair}

abbrev pub sixteens : Shape
sixteens = record { policy = 1; cells = 16; buckets = 4; blocks = 16; structures = 1; format = 2; partitions = 1 }

abbrev pub two_chained : List Pair
two_chained =
    (0, SECOND_MAGIC) ∷ (1, 1) ∷ (2, 16) ∷ (3, 4) ∷ (4, 16) ∷ (5, 1) ∷ (6, 1) ∷ (13, 1) ∷ (8, 304) ∷ (9, 32) ∷ (304, 32) ∷ (33, 304) ∷ []
