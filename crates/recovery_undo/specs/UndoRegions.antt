-- The regions of the tests under no-force, and one running transaction in the list's buckets: four buckets of 16 cells, and 34 of one cell.
use Rattle.std.specs.Prelude.{◌≡◌, ◌⊎◌, ◌≤◌, ℕ, List, [], ◌∷◌}
use Rattle.std.specs.Vec.{vec_capacity}
use Rattle.persist_model.specs.Region.{Region, loaded}
use Rattle.persist_model.specs.Kinds.{NO_OUTCOME}
use Rattle.persist_model.specs.Records.{Record, Log}
use Rattle.persist_model.specs.Shape.{Shape, FIRST_MAGIC}
use Rattle.test_regions.specs.Pairs.{Pair, words_in}
use Rattle.recovery_run.specs.declared.gates.Gates.{Gates}

abbrev pub small : Shape
small = record { policy = 2; cells = 16; buckets = 4; blocks = 16; structures = 1; format = 1; partitions = 1 }

abbrev pub narrow : Shape
narrow = record { policy = 2; cells = 1; buckets = 34; blocks = 16; structures = 1; format = 1; partitions = 1 }

-- An update of word 577, one of word 578, a compensation of the second, and a deletion of block 1, with closed cells between them; the
-- owners of two blocks and the two words. Word 578 still has what was taken back.
abbrev pub running_records : List Pair
running_records =
    (40, 1) ∷ (41, 1) ∷ (42, 1) ∷ (43, 577) ∷ (44, 5) ∷ (45, 7) ∷
    (56, 2) ∷ (57, 1) ∷ (58, 1) ∷ (59, 578) ∷ (61, 9) ∷ (62, 1) ∷
    (88, 3) ∷ (89, 1) ∷ (90, 2) ∷ (91, 578) ∷ (92, 9) ∷ (94, 1) ∷
    (104, 4) ∷ (105, 1) ∷ (106, 6) ∷ (107, 592) ∷ (108, 1) ∷
    (576, 1) ∷ (577, 7) ∷ (578, 9) ∷ (592, 1) ∷ []

-- all in one bucket
abbrev pub running : List Pair
running = (0, FIRST_MAGIC) ∷ (1, 2) ∷ (2, 16) ∷ (3, 4) ∷ (4, 16) ∷ (5, 1) ∷ (8, 32) ∷ (9, 32) ∷ running_records

-- each record in a bucket of its own: the first, the second, the fourth and the fifth
abbrev pub running_narrow : List Pair
running_narrow =
    (0, FIRST_MAGIC) ∷ (1, 2) ∷ (2, 1) ∷ (3, 34) ∷ (4, 16) ∷ (5, 1) ∷ (8, 32) ∷ (9, 96) ∷
    (32, 48) ∷ (48, 80) ∷ (49, 32) ∷ (80, 96) ∷ (81, 48) ∷ (97, 80) ∷ running_records

-- the region is one of the two
abbrev pub IsTested : Shape → Region → Type 0
IsTested shape region =
    ((shape ≡ small) × (region ≡ loaded (words_in running 832))) ⊎ ((shape ≡ narrow) × (region ≡ loaded (words_in running_narrow 832)))

-- a record of the transaction that isn't an end
abbrev pub record_with : ℕ → ℕ → ℕ → ℕ → ℕ → ℕ → ℕ → Record
record_with at lsn kind word before after undo_next =
    record { at = at; lsn = lsn; transaction = 1; kind = kind; word = word; before = before; after = after; undo_next = undo_next; outcome = NO_OUTCOME }

abbrev pub running_log : Log
running_log = record_with 104 4 6 592 1 0 0 ∷ record_with 88 3 2 578 9 0 1 ∷ record_with 56 2 1 578 0 9 1 ∷ record_with 40 1 1 577 5 7 0 ∷ []

-- the gates of these records, with memory for the two and the end of their undo, and for a checkpoint record
pub record HasRunningGates (gates : Gates) : Type 0 where
  pub gates_are : gates.gates.items ≡ 40 ∷ 56 ∷ 88 ∷ 104 ∷ []
  pub ends_are : gates.ends.items ≡ []
  pub checkpoints_are : gates.checkpoints.items ≡ []
  pub gates_memory : 6 ≤ vec_capacity gates.gates
  pub ends_memory : 1 ≤ vec_capacity gates.ends
  pub checkpoints_memory : 1 ≤ vec_capacity gates.checkpoints
