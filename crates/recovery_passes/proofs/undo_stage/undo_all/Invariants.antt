use Rattle.std.proofs.Common.{◌≡◌, ◌≤◌, ℕ, [], drop}
use Rattle.lane_traits.specs.declared.device.Done.TheVariants.{Made}
use Rattle.persist_model.specs.State.{State}
use Rattle.region_layout.specs.Layout.{layout_shape}
use Rattle.recovery_run.specs.Edges.{KeepsWords, IsPlainHeaderWord}
use Rattle.recovery_passes.specs.LoserPass.{Undoes, undo_all_events}
use Rattle.recovery_passes.specs.Going.{HasGoneOn}
use Rattle.recovery_passes.specs.Stages.{IsIdle}
use Rattle.recovery_passes.proofs.undo_stage.undo_all.Given as goal

abbrev pub invariant-loop-transaction : goal.invariant-loop-transaction
invariant-loop-transaction g l = record {
  each : (first : State) (total : ℕ) → Undoes l.layout first total l.running l.initial.held (g.D.Device.cells l.initial.device) →
      undo_all_events l.layout first.log l.running ≤ g.D.Device.spare l.initial.device →
      HasGoneOn l.layout first total l.running (drop l.transaction-index l.running) l.held (g.D.Device.cells l.device) (g.D.Device.counts l.initial.device) (g.D.Device.counts l.device)
      (g.D.Device.spare l.initial.device) (g.D.Device.spare l.device);
  header : KeepsWords (IsPlainHeaderWord (layout_shape l.layout)) (g.D.Device.cells l.initial.device) (g.D.Device.cells l.device);
  idle : l.running ≡ [] → IsIdle Made (g.D.Device.cells l.initial.device) (g.D.Device.cells l.device) (g.D.Device.counts l.initial.device) (g.D.Device.counts l.device);
  idle_gates : l.running ≡ [] → l.held.gates ≡ l.initial.held.gates;
}
