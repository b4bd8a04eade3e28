-- The checkpoint record of a recovery under no-force.
use Rattle.std.specs.Prelude.{◌≡◌, ℕ, ◌+◌, ◌<◌, ◌≤◌, ◌∷◌}
use Rattle.std.specs.Vec.{vec_len, vec_capacity}
use Rattle.persist_model.specs.Region.{Region}
use Rattle.persist_model.specs.Records.{Record, IsAmong, HasNo, IsCheckpoint, IsLoser}
use Rattle.persist_model.specs.Standing.{IsToRedo}
use Rattle.persist_model.specs.State.{State, HasOpen, IsSoundState}
use Rattle.log_laws.specs.Recovery.{AreApplied, grown}
use Rattle.region_layout.specs.declared.layout.Layout.{Layout}
use Rattle.region_layout.specs.Layout.{layout_shape, policy_number}
use Rattle.recovery_run.specs.declared.gates.Gates.{Gates}
use Rattle.recovery_run.specs.Reached.{HasSettled}
use Rattle.recovery_undo.specs.RecoveryAppends.{AreQuiet}
use Rattle.recovery_undo.specs.declared.held.Held.{Held}
use Rattle.recovery_undo.specs.Holding.{IsHeld}

-- Recovery began at first and has come to y under no-force: nothing runs, each word has its standing value, and some transaction isn't skipped.
pub record CanCheckpoint (layout : Layout) (held : Held) (first y : State) (region : Region) : Type 0 where
  pub settled : HasSettled (layout_shape layout) first y region
  pub sound : IsSoundState (layout_shape layout) first
  pub quiet : AreQuiet (layout_shape layout) region
  pub no_force : policy_number layout.policy ≡ 2
  pub opened : HasOpen y.log
  pub over : (t : ℕ) → IsLoser y.log t → ⊥
  pub applied : AreApplied (policy_number layout.policy) y.log y.words
  pub holds : IsHeld layout y.log held region
  pub fits : vec_len held.gates.checkpoints + 1 ≤ vec_capacity held.gates.checkpoints

-- Recovery has come from y to the state with a checkpoint record above all: nothing is to be redone any more.
pub record IsCheckpointed (layout : Layout) (before : Gates) (first y : State) (held : Held) (region : Region) : Type 0 where
  pub checkpoint : Record
  pub is : IsCheckpoint checkpoint
  pub above : (r : Record) → IsAmong y.log r → r.lsn < checkpoint.lsn
  pub room : ℕ → ℕ
  pub settled : HasSettled (layout_shape layout) first (grown y checkpoint room) region
  pub quiet : AreQuiet (layout_shape layout) region
  pub over : (t : ℕ) → IsLoser (checkpoint ∷ y.log) t → ⊥
  pub applied : AreApplied (policy_number layout.policy) (checkpoint ∷ y.log) y.words
  pub redone : (a : ℕ) → HasNo (IsToRedo (policy_number layout.policy) (checkpoint ∷ y.log) a) (checkpoint ∷ y.log)
  pub holds : IsHeld layout (checkpoint ∷ y.log) held region
  pub same_gates : held.gates.gates ≡ before.gates
  pub same_ends : held.gates.ends ≡ before.ends
  pub len : vec_len held.gates.checkpoints ≡ vec_len before.checkpoints + 1
  pub memory : vec_capacity before.checkpoints ≤ vec_capacity held.gates.checkpoints
