-- How far a recovery has come with the transactions that ran.
use Rattle.std.specs.Prelude.{◌≡◌, ◌≢◌, ◌↔◌, ℕ, ◌+◌, ◌-◌, ◌*◌, Bool, if◌then◌else◌, IsTrue, List, [], ◌++◌, length, map, reverse, sum_by}
use Rattle.std.specs.Vec.{vec_len}
use Rattle.persist_model.specs.Region.{Region}
use Rattle.persist_model.specs.Kinds.{CHECKPOINT}
use Rattle.persist_model.specs.Records.{Record, Log, IsAmong, IsLoser}
use Rattle.persist_model.specs.Shape.{IsHeapWord}
use Rattle.persist_model.specs.Need.{need_of}
use Rattle.persist_model.specs.State.{State, HasOpen, IsSoundState}
use Rattle.log_laws.specs.Recovery.{AreApplied}
use Rattle.region_layout.specs.declared.layout.Layout.{Layout}
use Rattle.region_layout.specs.Layout.{layout_shape, policy_number}
use Rattle.bucket_log.specs.Scans.{record_of_placed}
use Rattle.log_partition.specs.Used.{FitsBuckets}
use Rattle.recovery_run.specs.declared.gates.Gates.{Gates}
use Rattle.recovery_run.specs.ClosingAll.{CanCloseAll}
use Rattle.recovery_run.specs.Groups.{records_of}
use Rattle.recovery_run.specs.Reached.{HasSettled}
use Rattle.recovery_analysis.specs.declared.grouping.Transaction.{Transaction}
use Rattle.recovery_analysis.specs.declared.changing.Change.{Change}
use Rattle.recovery_analysis.specs.Analyses.{AreThose}
use Rattle.recovery_analysis.specs.Changes.{AreRedone}
use Rattle.recovery_analysis.specs.Grouping.{IsAscending, number_of, IsTransactionOf}
use Rattle.recovery_analysis.specs.Works.{need_in_log, HasSpare}
use Rattle.recovery_undo.specs.Numbers.{next_lsn}
use Rattle.recovery_undo.specs.declared.held.Held.{Held}
use Rattle.recovery_undo.specs.Holding.{AreGatesOf, IsHeld}
use Rattle.recovery_undo.specs.Undoing.{undo_events}
use Rattle.recovery_passes.specs.Stages.{AreQuiet, AreShort}

-- how many gates there are
abbrev pub gates_len : Gates → ℕ
gates_len gates = vec_len gates.gates + vec_len gates.ends + vec_len gates.checkpoints

-- the most events of the undo of all these
abbrev pub undo_all_events : Layout → Log → List Transaction → ℕ
undo_all_events layout log undo = sum_by (λ t. undo_events layout t.number t.records log) undo

-- the transaction t of the log still runs, with the records that it had
pub record IsLeft (log later : Log) (t : Transaction) : Type 0 where
  pub first : IsLoser log t.number
  pub loser : IsLoser later t.number
  pub records : reverse (map record_of_placed t.records) ≡ records_of t.number later
  pub need : need_of later t.number ≡ need_of log t.number

-- Recovery began at the sound state first, and these transactions are still to be undone. Each word has its standing value, or is to be undone;
-- there is memory for the gates of the records to come, and with theirs there will be so many.
pub record Undoes (layout : Layout) (first : State) (total : ℕ) (left : List Transaction) (held : Held) (region : Region) : Type 0 where
  pub state : State
  pub settled : HasSettled (layout_shape layout) first state region
  pub sound : IsSoundState (layout_shape layout) first
  pub quiet : AreQuiet (layout_shape layout) region
  pub applied : AreApplied (policy_number layout.policy) state.log state.words
  pub holds : IsHeld layout state.log held region
  pub news : Log
  pub log : state.log ≡ news ++ first.log
  pub of_losers : (r : Record) → IsAmong news r → IsLoser first.log r.transaction × (r.kind ≢ CHECKPOINT)
  pub losers : (t : ℕ) → IsLoser state.log t → IsAmong (map number_of left) t
  pub each : (t : Transaction) → IsAmong left t → IsLeft first.log state.log t
  pub ascending : IsAscending (map number_of left)
  pub spare : HasSpare held.gates (sum_by (λ t. need_in_log first.log t - 1) left) (length left) 1
  pub count : gates_len held.gates + sum_by (need_in_log first.log) left ≡ total

-- Recovery began at the sound state first, and all records may be closed.
pub record IsReady (layout : Layout) (first : State) (gates : Gates) (region : Region) : Type 0 where
  pub state : State
  pub settled : HasSettled (layout_shape layout) first state region
  pub sound : IsSoundState (layout_shape layout) first
  pub quiet : AreQuiet (layout_shape layout) region
  pub close : CanCloseAll (layout_shape layout) state gates.gates.items gates.ends.items gates.checkpoints.items

-- What recovery is to do, at its beginning with the sound state first: the values to be stored again and the transactions to be undone.
-- The next number and the gates of all records are held, which with those to come will be so many, and memory for the table.
pub record Begins (layout : Layout) (first : State) (total : ℕ) (redo : List Change) (running : List Transaction) (held : Held) (region : Region) : Type 0 where
  pub settled : HasSettled (layout_shape layout) first first region
  pub sound : IsSoundState (layout_shape layout) first
  pub redone : AreRedone (policy_number layout.policy) first.log redo
  pub words : (c : Change) → IsAmong redo c → IsHeapWord (layout_shape layout) c.word
  pub losers : AreThose (IsLoser first.log) (map number_of running)
  pub each : (t : Transaction) → IsAmong running t → IsTransactionOf first.log t
  pub next_is : held.next ≡ next_lsn first.log
  pub lists : AreGatesOf first.log held.gates
  pub fits : FitsBuckets (layout_shape layout) held.table
  pub spare : HasSpare held.gates (sum_by (λ t. need_in_log first.log t - 1) running) (length running) 1
  pub count : gates_len held.gates + sum_by (need_in_log first.log) running ≡ total

-- the most events up to the end of the undo
abbrev pub begin_events : Layout → Log → List Change → List Transaction → ℕ
begin_events layout log redo running = 15 + (length redo + 1) + undo_all_events layout log running

-- the most events behind it, with so many gates to be closed but for the checkpoint record's
abbrev pub clear_events : Layout → Bool → ℕ → ℕ
clear_events layout checkpoint total = (if checkpoint then layout.cells + 22 else 0) + (total + 3) + 7 * layout.buckets

-- a checkpoint record is wanted where something would be redone
abbrev pub IsWanted : Layout → State → Bool → Type 0
IsWanted layout first checkpoint = IsTrue checkpoint ↔ ((policy_number layout.policy ≡ 2) × HasOpen first.log)

-- The log is empty, no recovery word asks for a repair, and each chain has at most one bucket.
pub record IsCleared (layout : Layout) (first : State) (region : Region) : Type 0 where
  pub state : State
  pub settled : HasSettled (layout_shape layout) first state region
  pub empty : state.log ≡ []
  pub quiet : AreQuiet (layout_shape layout) region
  pub short : AreShort (layout_shape layout) region

-- there is no gate to be closed
pub record HasNoGates (all : Gates) : Type 0 where
  pub gates : all.gates.items ≡ []
  pub ends : all.ends.items ≡ []
  pub checkpoints : all.checkpoints.items ≡ []

-- the log is empty, and no recovery word asks for a repair
pub record IsClosedLog (layout : Layout) (first : State) (region : Region) : Type 0 where
  pub state : State
  pub settled : HasSettled (layout_shape layout) first state region
  pub empty : state.log ≡ []
  pub quiet : AreQuiet (layout_shape layout) region
