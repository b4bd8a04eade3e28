-- The undo of one running transaction: what its caller knows, and what it leaves.
use Rattle.std.specs.Prelude.{◌≡◌, ◌≢◌, ℕ, ◌+◌, ◌*◌, ◌≤◌, List, ◌++◌, length, map, reverse}
use Rattle.std.specs.Vec.{vec_len, vec_capacity}
use Rattle.persist_model.specs.Region.{Region}
use Rattle.persist_model.specs.Kinds.{ROLLED_BACK}
use Rattle.persist_model.specs.Records.{Record, Log, IsAmong, Has, IsOf, IsEndOf, IsLoser}
use Rattle.persist_model.specs.Need.{need_of}
use Rattle.persist_model.specs.State.{State, IsSoundState}
use Rattle.log_laws.specs.Recovery.{AreApplied}
use Rattle.region_layout.specs.declared.layout.Layout.{Layout}
use Rattle.region_layout.specs.Layout.{layout_shape, policy_number}
use Rattle.bucket_log.specs.declared.scanning.Placed.{Placed}
use Rattle.bucket_log.specs.Scans.{record_of_placed}
use Rattle.recovery_run.specs.declared.gates.Gates.{Gates}
use Rattle.recovery_undo.specs.declared.held.Held.{Held}
use Rattle.recovery_undo.specs.Holding.{IsHeld}
use Rattle.recovery_run.specs.Groups.{records_of}
use Rattle.recovery_run.specs.Reached.{HasSettled}
use Rattle.recovery_undo.specs.RecoveryAppends.{AreQuiet}

-- the most events of the undo: an append of each record that it needs, a store for each update, and a fence
abbrev pub undo_events : Layout → ℕ → List Placed → Log → ℕ
undo_events layout t records log = (layout.cells + 21) * need_of log t + length records + 1

-- Recovery began at first, has come to y, and t runs. The records are t's, oldest first, and there is memory for the gates of the records
-- to come and room for the events.
pub record CanUndo (layout : Layout) (t : ℕ) (records : List Placed) (held : Held) (first y : State) (region : Region) (spare : ℕ) : Type 0 where
  pub settled : HasSettled (layout_shape layout) first y region
  pub sound : IsSoundState (layout_shape layout) first
  pub quiet : AreQuiet (layout_shape layout) region
  pub loser : IsLoser y.log t
  pub records_are : reverse (map record_of_placed records) ≡ records_of t y.log
  pub applied : AreApplied (policy_number layout.policy) y.log y.words
  pub holds : IsHeld layout y.log held region
  pub gates_fit : vec_len held.gates.gates + need_of y.log t ≤ vec_capacity held.gates.gates + 1
  pub ends_fit : vec_len held.gates.ends + 1 ≤ vec_capacity held.gates.ends
  pub spare_fits : undo_events layout t records y.log ≤ spare

-- the gates of so many notes and of one end came, in the memory that was there
pub record HasGrown (before later : Gates) (notes : ℕ) : Type 0 where
  pub gates : vec_len later.gates ≡ vec_len before.gates + notes
  pub gates_memory : vec_capacity before.gates ≤ vec_capacity later.gates
  pub ends : vec_len later.ends ≡ vec_len before.ends + 1
  pub ends_memory : vec_capacity before.ends ≤ vec_capacity later.ends
  pub checkpoints : later.checkpoints ≡ before.checkpoints

-- Recovery has come from y to a state with records of t more, among them an end that says it is undone; nothing is pending.
pub record IsUndone (layout : Layout) (t : ℕ) (before : Gates) (first y : State) (held : Held) (region : Region) : Type 0 where
  pub state : State
  pub settled : HasSettled (layout_shape layout) first state region
  pub quiet : AreQuiet (layout_shape layout) region
  pub news : Log
  pub log : state.log ≡ news ++ y.log
  pub mine : (r : Record) → IsAmong news r → IsOf t r
  pub ended : Has (λ e. IsEndOf t e × (e.outcome ≡ ROLLED_BACK)) news
  pub count : length news ≡ need_of y.log t
  -- no other transaction is touched
  pub others : (u : ℕ) → u ≢ t → records_of u state.log ≡ records_of u y.log
  pub needs : (u : ℕ) → u ≢ t → need_of state.log u ≡ need_of y.log u
  pub losers : (u : ℕ) → IsLoser state.log u → IsLoser y.log u × (u ≢ t)
  pub still_losers : (u : ℕ) → u ≢ t → IsLoser y.log u → IsLoser state.log u
  pub applied : AreApplied (policy_number layout.policy) state.log state.words
  pub holds : IsHeld layout state.log held region
  pub notes : ℕ
  pub notes_are : notes + 1 ≡ need_of y.log t
  pub grown : HasGrown before held.gates notes
