-- How far the undo of one transaction has come.
use Rattle.std.specs.Prelude.{◌≡◌, ◌⊎◌, ℕ, ◌+◌, ◌*◌, ◌≤◌, if◌then◌else◌, List, [], ◌∷◌, ◌++◌, length, map, reverse, drop}
use Rattle.std.specs.Vec.{vec_len, vec_capacity}
use Rattle.persist_model.specs.Region.{Words, Region}
use Rattle.persist_model.specs.Kinds.{COMPENSATION, ROLLBACK, UPDATE}
use Rattle.persist_model.specs.Records.{Record, Log, IsAmong, Has, IsOf, IsRollback, IsRunning}
use Rattle.persist_model.specs.Order.{is_kind_of}
use Rattle.persist_model.specs.Shape.{Shape, part_of}
use Rattle.persist_model.specs.Need.{to_undo, need_of}
use Rattle.persist_model.specs.State.{State, IsSoundState}
use Rattle.lane_traits.specs.declared.device.Done.{Done}
use Rattle.lane_traits.specs.declared.device.Done.TheVariants.{Made, Stopped}
use Rattle.lane_traits.specs.Device.{Counts}
use Rattle.log_laws.specs.Recovery.{AreApplied}
use Rattle.log_laws.specs.Parts.{EachKeeps}
use Rattle.region_layout.specs.Layout.{layout_shape}
use Rattle.bucket_log.specs.declared.scanning.Placed.{Placed}
use Rattle.bucket_log.specs.Scans.{record_of_placed}
use Rattle.recovery_run.specs.declared.gates.Gates.{Gates}
use Rattle.recovery_run.specs.Edges.{HasCounted, KeepsWords, IsPlainHeaderWord}
use Rattle.recovery_run.specs.Groups.{records_of}
use Rattle.recovery_run.specs.Reached.{with_value, HasReached}
use Rattle.recovery_undo.specs.declared.target.Target.{Target}
use Rattle.region_layout.specs.declared.cell.Cell.{Cell}
use Rattle.region_layout.specs.Cell.{record_of}
use Rattle.recovery_undo.specs.RecoveryAppends.{AreQuiet, MayTake}
use Rattle.recovery_undo.specs.Numbers.{next_lsn}
use Rattle.recovery_undo.specs.declared.held.Held.{Held}
use Rattle.recovery_undo.specs.Holding.{IsHeld}
use Rattle.recovery_undo.specs.Undoing.{IsUndone}

-- ---- the records

-- a compensation or a rollback record of t
abbrev pub IsNote : ℕ → Record → Type 0
IsNote t r = (r.transaction ≡ t) × ((r.kind ≡ COMPENSATION) ⊎ (r.kind ≡ ROLLBACK))

-- The undo of t began at the state y and has come to z: t runs, its records stand in this part, and notes of it came.
pub record IsUndoing (shape : Shape) (t part : ℕ) (y z : State) : Type 0 where
  pub sound : IsSoundState shape z
  pub running : IsRunning z.log t
  pub some : Has (IsOf t) z.log
  pub in_part : (r : Record) → IsAmong z.log r → IsOf t r → part_of shape r.at ≡ part
  pub applied : AreApplied shape.policy z.log z.words
  pub news : Log
  pub log : z.log ≡ news ++ y.log
  pub notes : (r : Record) → IsAmong news r → IsNote t r
  pub need : length news + need_of z.log t ≡ need_of y.log t

-- the words after the OLD of each update of t was stored, newest first
abbrev pub olds_stored : ℕ → Log → Words → Words
olds_stored t [] w = w
olds_stored t (r ∷ earlier) w = if is_kind_of t UPDATE r then olds_stored t earlier (with_value w r.word r.before) else olds_stored t earlier w

-- The undo of t has come to z, with its rollback record; these records of t are still to pass, and so many of their compensations'
-- updates are passed over. What is left of the stack is the stack of what is left, without those.
pub record IsPassing (shape : Shape) (t part : ℕ) (y z : State) (left : Log) (counter : ℕ) : Type 0 where
  pub undoing : IsUndoing shape t part y z
  pub rolled : Has (λ x. IsOf t x × IsRollback x) z.log
  pub among : (u : Record) → IsAmong left u → IsAmong y.log u × IsOf t u
  pub left_is : to_undo t z.log ≡ drop counter (to_undo t left)
  pub words : olds_stored t left z.words ≡ olds_stored t y.log y.words

-- ---- the device

-- what a contract sees of a device
pub record Seen : Type 0 where
  pub region : Region
  pub counts : Counts
  pub spare : ℕ

abbrev pub seen : Region → Counts → ℕ → Seen
seen region counts spare = record { region = region; counts = counts; spare = spare }

-- at most so many events were made, each at most one of the spare places, and none on a word of the header
pub record HasSpent (shape : Shape) (used : ℕ) (done : Done) (before later : Seen) : Type 0 where
  pub counted : HasCounted used done before.counts later.counts
  pub spare : before.spare ≤ later.spare + used
  pub header : KeepsWords (IsPlainHeaderWord shape) before.region later.region

-- where an undo began, and the most events that it may make
pub record Start : Type 0 where
  pub now : Seen
  pub gates : Gates
  pub first : State
  pub state : State
  pub most : ℕ

-- The undo has come to z with this device, and has so many records still to pass: what is still needed fits.
pub record HasGone (target : Target) (start : Start) (z : State) (left : ℕ) (held : Held) (now : Seen) : Type 0 where
  pub sound : IsSoundState (layout_shape target.layout) start.first
  pub origin : IsSoundState (layout_shape target.layout) start.state
  pub reached : HasReached (layout_shape target.layout) start.first z now.region
  pub quiet : AreQuiet (layout_shape target.layout) now.region
  pub holds : IsHeld target.layout z.log held now.region
  pub gates_len : vec_len held.gates.gates + need_of z.log target.transaction ≡ vec_len start.gates.gates + need_of start.state.log target.transaction
  pub gates_memory : vec_capacity start.gates.gates ≤ vec_capacity held.gates.gates
  pub gates_fit : vec_len start.gates.gates + need_of start.state.log target.transaction ≤ vec_capacity start.gates.gates + 1
  pub ends : held.gates.ends ≡ start.gates.ends
  pub ends_fit : vec_len start.gates.ends + 1 ≤ vec_capacity start.gates.ends
  pub checkpoints : held.gates.checkpoints ≡ start.gates.checkpoints
  pub used : ℕ
  pub spent : HasSpent (layout_shape target.layout) used Made start.now now
  pub fits : used + (target.layout.cells + 21) * need_of z.log target.transaction + left + 1 ≤ start.most
  pub enough : start.most ≤ start.now.spare

-- the cell is that of a note with the next number, which may come wherever in the partition it stands
pub record CanNote (target : Target) (y z : State) (cell : Cell) : Type 0 where
  pub undoing : IsUndoing (layout_shape target.layout) target.transaction target.partition y z
  pub gate : cell.lsn ≡ next_lsn z.log
  pub note : (at : ℕ) → IsNote target.transaction (record_of at cell)
  pub comes : MayTake target.layout target.partition cell z
  pub less : (at : ℕ) → need_of (record_of at cell ∷ z.log) target.transaction + 1 ≡ need_of z.log target.transaction

-- nothing is undone yet; the records are t's
pub record Begins (target : Target) (start : Start) (records : List Placed) (held : Held) (now : Seen) : Type 0 where
  pub gone : HasGone target start start.state (length records) held now
  pub undoing : IsUndoing (layout_shape target.layout) target.transaction target.partition start.state start.state
  pub records_are : reverse (map record_of_placed records) ≡ records_of target.transaction start.state.log

-- the pass has these records still to come
pub record Passes (target : Target) (start : Start) (left : Log) (counter : ℕ) (held : Held) (now : Seen) : Type 0 where
  pub state : State
  pub gone : HasGone target start state (length left) held now
  pub passing : IsPassing (layout_shape target.layout) target.transaction target.partition start.state state left counter

-- all is done
pub record Finishes (target : Target) (start : Start) (held : Held) (now : Seen) : Type 0 where
  pub undone : IsUndone target.layout target.transaction start.gates start.first start.state held now.region
  pub spent : HasSpent (layout_shape target.layout) start.most Made start.now now

-- the device stopped on the way
pub record Halts (target : Target) (start : Start) (now : Seen) : Type 0 where
  pub keeps : EachKeeps (layout_shape target.layout) start.first now.region
  pub spent : HasSpent (layout_shape target.layout) start.most Stopped start.now now
