-- Where a checkpoint has come. It is one lane's, which holds the latches of all partitions from its first event to its last.
use Rattle.std.specs.Prelude.{ℕ, zero, suc, List, [], ◌++◌}
use Rattle.persist_model.specs.Records.{Record}
use Rattle.region_layout.specs.RecordCells.{cell_of_checkpoint}
use Rattle.bucket_log.specs.declared.append.Place.{Place}
use Rattle.plan_records.specs.Cells.{appended}
use Rattle.log_keeper.specs.Parts.{LogPart, appends, closes, Running}

-- The groups of its closing, in this order: records that are neither ends nor checkpoint records, then ends, then checkpoint records.
pub data Kind : Type 0 where
  of_others : Kind
  of_ends : Kind
  of_checkpoints : Kind

-- the gates of a group as the lists of a closing, two of which are empty
abbrev pub other_gates : Kind → List ℕ → List ℕ
other_gates of_others gates = gates
other_gates of_ends gates = []
other_gates of_checkpoints gates = []

abbrev pub end_gates : Kind → List ℕ → List ℕ
end_gates of_others gates = []
end_gates of_ends gates = gates
end_gates of_checkpoints gates = []

abbrev pub checkpoint_gates : Kind → List ℕ → List ℕ
checkpoint_gates of_others gates = []
checkpoint_gates of_ends gates = []
checkpoint_gates of_checkpoints gates = gates

-- A group over all partitions: its gates in each, and how many of these are closed. One fence ends it in all of them.
pub record Group : Type 0 where
  pub kind : Kind
  pub gates : ℕ → List ℕ
  pub made : ℕ → ℕ

-- There is none; or it is this lane's, and it sweeps the heap and has come to this word; the sweep is fenced; its record is appended in the first
-- partition, with this number, and so many events of that are made; the record is there, and 0 is stored to these owner words; all of that is
-- fenced, and nothing of it is under way, or a removal; or a group is closed.
pub data Checkpoint : Type 0 where
  none : Checkpoint
  sweeps : ℕ → ℕ → Checkpoint
  swept : ℕ → Checkpoint
  notes : ℕ → Place → ℕ → ℕ → Checkpoint
  noted : ℕ → List ℕ → Checkpoint
  zeroed : ℕ → Checkpoint
  shuts : ℕ → Group → Checkpoint

-- its record
abbrev pub checkpoint_record : Place → ℕ → Record
checkpoint_record place number = appended place number cell_of_checkpoint

-- its run in the first partition while the record is appended
abbrev pub noting_run : Place → ℕ → ℕ → Running
noting_run place number made = record { part = appends place (checkpoint_record place number); made = made }

-- its part in partition p while a group is closed, and the run
abbrev pub shutting_part : Group → ℕ → LogPart
shutting_part g p = closes (other_gates g.kind (g.gates p)) (end_gates g.kind (g.gates p)) (checkpoint_gates g.kind (g.gates p))

abbrev pub shutting_run : Group → ℕ → Running
shutting_run g p = record { part = shutting_part g p; made = g.made p }

-- the lists of the first n partitions in a row
abbrev pub in_a_row : (ℕ → List ℕ) → ℕ → List ℕ
in_a_row f zero = []
in_a_row f (suc n) = in_a_row f n ++ f n
