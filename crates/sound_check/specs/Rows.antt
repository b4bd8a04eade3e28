-- What is asked of a log's numbers.
use Rattle.std.specs.Prelude.{◌≡◌, ◌⊎◌, ℕ, ◌+◌, ◌-◌, ◌^◌, min, Bool, ◌==◌, ◌&&◌, nat_lt}
use Rattle.std.specs.List.{list_any}
use Rattle.persist_model.specs.Records.{Record, Log}
use Rattle.persist_model.specs.Kinds.{CHECKPOINT}
use Rattle.persist_model.specs.Shape.{Shape, part_of}
use Rattle.persist_model.specs.State.{HasOpen, total_need}

-- a checkpoint record has a number above n
abbrev pub has_checkpoint_behind : ℕ → Log → Bool
has_checkpoint_behind n log = list_any (λ (c : Record). (c.kind == CHECKPOINT) && nat_lt n c.lsn) log

-- the numbers that recovery draws: one for each cell that it needs, and one for a checkpoint record; at most the greatest number of 64 bits
abbrev pub IsDrawn : Shape → Log → ℕ → Type 0
IsDrawn shape log n =
    (((shape.policy ≡ 2) × HasOpen log) × (n ≡ min (total_need (part_of shape) shape.partitions log + 1) (2 ^ 64 - 1)))
    ⊎ (((shape.policy ≡ 2) × HasOpen log → ⊥) × (n ≡ min (total_need (part_of shape) shape.partitions log) (2 ^ 64 - 1)))
