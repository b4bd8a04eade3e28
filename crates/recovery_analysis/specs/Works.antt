-- What is to be done in a recovery.
use Rattle.std.specs.Prelude.{◌≡◌, ◌↔◌, ℕ, ◌+◌, ◌*◌, ◌-◌, ◌<◌, ◌≤◌, ◌^◌, if◌then◌else◌, [], ◌∷◌, map, length, sum_by, IsTrue}
use Rattle.std.specs.Vec.{vec_len, vec_capacity}
use Rattle.persist_model.specs.Records.{Log, IsAmong, IsCommitted, IsLoser}
use Rattle.persist_model.specs.Shape.{Shape, part_of, IsHeapWord}
use Rattle.persist_model.specs.Need.{need_of}
use Rattle.persist_model.specs.State.{HasOpen, total_need}
use Rattle.recovery_run.specs.Groups.{ListsAll}
use Rattle.recovery_run.specs.declared.gates.Gates.{Gates}
use Rattle.recovery_analysis.specs.declared.grouping.Transaction.{Transaction}
use Rattle.recovery_analysis.specs.declared.changing.Change.{Change}
use Rattle.recovery_analysis.specs.declared.working.Work.{Work}
use Rattle.recovery_analysis.specs.Grouping.{number_of, IsTransactionOf}
use Rattle.recovery_analysis.specs.Analyses.{AreThose}
use Rattle.recovery_analysis.specs.Changes.{AreRedone}

-- one more than the newest record's number
abbrev pub next_lsn : Log → ℕ
next_lsn [] = 1
next_lsn (r ∷ earlier) = r.lsn + 1

abbrev pub need_in_log : Log → Transaction → ℕ
need_in_log log t = need_of log t.number

-- the records that recovery appends at most
abbrev pub appends_of : Shape → Log → Work → ℕ
appends_of shape log work = total_need (part_of shape) shape.partitions log + (if work.checkpoint then 1 else 0)

-- the lists have memory for so many gates more
pub record HasSpare (gates : Gates) (more ends checkpoints : ℕ) : Type 0 where
  pub of_gates : vec_len gates.gates + more ≤ vec_capacity gates.gates
  pub of_ends : vec_len gates.ends + ends ≤ vec_capacity gates.ends
  pub of_checkpoints : vec_len gates.checkpoints + checkpoints ≤ vec_capacity gates.checkpoints

pub record IsWorkOf (shape : Shape) (log : Log) (work : Work) : Type 0 where
  pub winners : AreThose (IsCommitted log) work.winners
  pub losers : AreThose (IsLoser log) work.losers
  pub redo : AreRedone shape.policy log work.redo
  pub redo_words : (c : Change) → IsAmong work.redo c → IsHeapWord shape c.word
  pub redo_none : log ≡ [] → work.redo ≡ []
  pub undo : AreThose (IsLoser log) (map number_of work.undo)
  pub undo_records : (t : Transaction) → IsAmong work.undo t → IsTransactionOf log t
  pub checkpoint : IsTrue work.checkpoint ↔ ((shape.policy ≡ 2) × HasOpen log)
  pub gates : ListsAll log work.gates.gates.items work.gates.ends.items work.gates.checkpoints.items
  pub count : vec_len work.gates.gates + vec_len work.gates.ends + vec_len work.gates.checkpoints ≡ length log
  pub spare : HasSpare work.gates (sum_by (λ t. need_in_log log t - 1) work.undo) (length work.undo) 1
  pub next : work.next ≡ next_lsn log
  pub next_fits : work.next + (total_need (part_of shape) shape.partitions log + 1) < 2 ^ 64
  pub needs : sum_by (need_in_log log) work.undo ≡ total_need (part_of shape) shape.partitions log
  pub passes : length work.redo + sum_by (λ t. length t.records) work.undo ≤ length log
  pub most : work.most ≡ 20 + 2 * length log + (23 + shape.cells) * appends_of shape log work + 7 * shape.buckets
