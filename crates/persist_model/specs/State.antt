-- What an image is to recovery, and when that is sound.
use Rattle.std.specs.Prelude.{◌≡◌, ◌≢◌, ℕ, zero, suc, ◌+◌, ◌<◌, ◌≤◌, ◌^◌}
use Rattle.persist_model.specs.Region.{Words}
use Rattle.persist_model.specs.Kinds.{CHECKPOINT}
use Rattle.persist_model.specs.Records.{Record, Log, IsAmong, Has, IsNewestFirst, IsSkipped}
use Rattle.persist_model.specs.Order.{IsInOrder}
use Rattle.persist_model.specs.Shape.{Shape, part_of}
use Rattle.persist_model.specs.ImageRecords.{AreWellFormed}
use Rattle.persist_model.specs.Need.{need_in}

-- what an image is to recovery: its records, its heap words, and the room of each partition
pub record State : Type 0 where
  pub log : Log
  pub words : Words
  pub room : ℕ → ℕ

-- there is a running transaction, or an ended one that isn't skipped
abbrev pub HasOpen : Log → Type 0
HasOpen log = Has (λ r. (r.kind ≢ CHECKPOINT) × (IsSkipped log r.transaction → ⊥)) log

abbrev pub total_need : (ℕ → ℕ) → ℕ → Log → ℕ
total_need part zero log = 0
total_need part (suc n) log = total_need part n log + need_in part n log

-- the room is at least the need of the partition; under no-force the first partition keeps one cell for a checkpoint
pub record HasRoom (shape : Shape) (log : Log) (p room : ℕ) : Type 0 where
  pub undo : need_in (part_of shape) p log ≤ room
  pub checkpoint : p ≡ 0 → shape.policy ≡ 2 → HasOpen log → need_in (part_of shape) p log + 1 ≤ room

-- the numbers that recovery will draw behind r are at most 2^63
pub record HasNumbers (shape : Shape) (log : Log) (r : Record) : Type 0 where
  pub undo : r.lsn + total_need (part_of shape) shape.partitions log ≤ 2 ^ 63
  pub checkpoint : shape.policy ≡ 2 → HasOpen log → r.lsn + total_need (part_of shape) shape.partitions log + 1 ≤ 2 ^ 63

-- the rules of records, of their order and of room
pub record IsSoundState (shape : Shape) (s : State) : Type 0 where
  pub newest_first : IsNewestFirst s.log
  pub gates : (r : Record) → IsAmong s.log r → r.lsn ≢ 0
  pub formed : AreWellFormed shape s.log
  pub order : IsInOrder (part_of shape) s.log
  pub room : (p : ℕ) → p < shape.partitions → HasRoom shape s.log p (s.room p)
  pub numbers : (r : Record) → IsAmong s.log r → HasNumbers shape s.log r
