use Rattle.std.proofs.Common.{◌≡◌, ◌≤◌, ◌+◌, take}
use Rattle.lane_traits.specs.declared.device.Done.TheVariants.{Made}
use Rattle.persist_model.specs.Records.{IsAmong}
use Rattle.persist_model.specs.Shape.{Shape}
use Rattle.persist_model.specs.State.{State}
use Rattle.log_laws.specs.Recovering.{with_heap}
use Rattle.recovery_run.specs.Edges.{HasCounted, KeepsWords}
use Rattle.recovery_run.specs.Reached.{HasReached}
use Rattle.recovery_analysis.specs.Changes.{stored}
use Rattle.recovery_analysis.specs.declared.changing.Change.{Change}
use Rattle.recovery_passes.specs.Stages.{MayStore}
use Rattle.recovery_passes.proofs.redo.store_all.Given as goal

abbrev pub invariant-loop-change : goal.invariant-loop-change
invariant-loop-change g l = record {
  made : (shape : Shape) (first y : State) → HasReached shape first y (g.D.Device.cells l.initial.device) → MayStore shape y l.changes →
      HasReached shape first (with_heap y (stored (take l.change-index l.changes) y.words)) (g.D.Device.cells l.device);
  counted : HasCounted l.change-index Made (g.D.Device.counts l.initial.device) (g.D.Device.counts l.device);
  spare : g.D.Device.spare l.initial.device ≤ g.D.Device.spare l.device + l.change-index;
  aside : KeepsWords (λ a. (c : Change) → IsAmong l.changes c → a ≡ c.word → ⊥) (g.D.Device.cells l.initial.device) (g.D.Device.cells l.device);
}
