use Rattle.std.proofs.Common.{◌∷◌, [], refl, arith}
use Rattle.persist_model.specs.State.{State}
use Rattle.region_layout.specs.Layout.{layout_shape}
use Rattle.recovery_undo.specs.Undoing.{CanUndo}
use Rattle.recovery_undo.proofs.Small.{HasRunning, running_state, tested, four_records, can_undo, can_checkpoint}
use Rattle.recovery_undo.proofs.tests.undo_small.Goals as goal
use Rattle.recovery_undo.proofs.tests.undo_small.Goals.{After-undo}

runs : (g : _) (c : After-undo g) → HasRunning (layout_shape c.args.layout) (g.D.Device.cells c.args.device.now)
runs g c = tested (layout_shape c.args.layout) (g.D.Device.cells c.args.device.now) c.requires.tested

-- where the undo begins
abbrev state : (g : _) (c : After-undo g) → State
state g c = running_state (runs g c).words (runs g c).room

can : (g : _) (c : After-undo g) →
    CanUndo c.args.layout 1 (c.record.result ∷ c.record-2.result ∷ c.record-3.result ∷ c.record-4.result ∷ []) c.args.held.now (state g c) (state g c) (g.D.Device.cells c.args.device.now) (g.D.Device.spare c.args.device.now)
can g c = can_undo c.args.layout (g.D.Device.cells c.args.device.now) (g.D.Device.spare c.args.device.now) _ c.args.held.now
    (runs g c) c.requires.spare c.requires.next refl (four_records _ _ _ _ c.record.ensures c.record-2.ensures c.record-3.ensures c.record-4.ensures) c.requires.gates c.requires.table

pub undo-requires : goal.undo-requires
undo-requires g c =
    let h = tested (layout_shape c.args.layout) (g.D.Device.cells c.args.device.now) c.requires.tested in
    let state : State = running_state h.words h.room in (
      state,
      state,
      can_undo c.args.layout (g.D.Device.cells c.args.device.now) (g.D.Device.spare c.args.device.now) _ c.args.held.now h c.requires.spare c.requires.next refl
          (four_records _ _ _ _ c.record.ensures c.record-2.ensures c.record-3.ensures c.record-4.ensures) c.requires.gates c.requires.table,
    )

pub returns-clause-made : goal.returns-clause-made
returns-clause-made g c = λ made. (
  state g c,
  _,
  can_checkpoint c.args.layout c.args.held.now.gates c.undo.new.held (g.D.Device.cells c.args.device.now) (g.D.Device.cells c.undo.new.device) (runs g c) c.requires.gates
      (c.undo.ensures.made made (state g c) (state g c) (can g c)),
)

pub returns-clause-spare_left : goal.returns-clause-spare_left
returns-clause-spare_left g c =
    let left = c.undo.ensures.spare (state g c) (state g c) (can g c) in
    let few = (runs g c).few in
    let room = c.requires.spare in
    omega (arith, left, few, room)
