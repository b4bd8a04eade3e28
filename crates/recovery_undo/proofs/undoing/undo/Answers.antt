use Rattle.recovery_undo.specs.UndoProgress.{seen, HasSpent}
use Rattle.recovery_undo.specs.Undoing.{CanUndo, undo_events}
use Rattle.region_layout.specs.Layout.{layout_shape}
use Rattle.recovery_undo.proofs.Stepping.{no_placed}
use Rattle.recovery_undo.proofs.Beginning.{start_of, some_record, begins}
use Rattle.recovery_undo.proofs.Ending.{all_spent}
use Rattle.recovery_undo.proofs.undoing.undo.Goals as goal

pub bounds-records-0 : goal.bounds-records-0
bounds-records-0 g c =
    let at = c.requires in
    some_record c.args.layout c.args.transaction c.args.records.now c.args.held.now at.0 at.1 (seen (g.D.Device.cells c.args.device.now) (g.D.Device.counts c.args.device.now) (g.D.Device.spare c.args.device.now)) at.2

pub undo_target-requires : goal.undo_target-requires
undo_target-requires g c =
    let at = c.requires in (
      (start_of c.args.layout c.args.transaction c.args.records.now c.args.held.now.gates at.0 at.1 (seen (g.D.Device.cells c.args.device.now) (g.D.Device.counts c.args.device.now) (g.D.Device.spare c.args.device.now))),
      (begins c.args.layout c.args.transaction c.args.records.now c.args.held.now at.0 at.1 (seen (g.D.Device.cells c.args.device.now) (g.D.Device.counts c.args.device.now) (g.D.Device.spare c.args.device.now)) at.2
          c.part_of.result _ no_placed c.part_of.ensures.is),
    )

pub returns-clause-made : goal.returns-clause-made
returns-clause-made g c = λ made first y h.
    (c.undo_target.ensures.made made (start_of c.args.layout c.args.transaction c.args.records.now c.args.held.now.gates first y (seen (g.D.Device.cells c.args.device.now) (g.D.Device.counts c.args.device.now) (g.D.Device.spare c.args.device.now)))
    (begins c.args.layout c.args.transaction c.args.records.now c.args.held.now first y (seen (g.D.Device.cells c.args.device.now) (g.D.Device.counts c.args.device.now) (g.D.Device.spare c.args.device.now)) h
    c.part_of.result _ no_placed c.part_of.ensures.is)).undone

pub returns-clause-stopped : goal.returns-clause-stopped
returns-clause-stopped g c = λ stopped first y h.
    (c.undo_target.ensures.stopped stopped (start_of c.args.layout c.args.transaction c.args.records.now c.args.held.now.gates first y (seen (g.D.Device.cells c.args.device.now) (g.D.Device.counts c.args.device.now) (g.D.Device.spare c.args.device.now)))
    (begins c.args.layout c.args.transaction c.args.records.now c.args.held.now first y (seen (g.D.Device.cells c.args.device.now) (g.D.Device.counts c.args.device.now) (g.D.Device.spare c.args.device.now)) h
    c.part_of.result _ no_placed c.part_of.ensures.is)).keeps

-- however it ends, so much is spent at most
spent : (g : _) (c : goal.After-undo_target g) (first y : _) → CanUndo c.args.layout c.args.transaction c.args.records.now c.args.held.now first y (g.D.Device.cells c.args.device.now) (g.D.Device.spare c.args.device.now) →
    HasSpent (layout_shape c.args.layout) (undo_events c.args.layout c.args.transaction c.args.records.now y.log) c.undo_target.result (seen (g.D.Device.cells c.args.device.now) (g.D.Device.counts c.args.device.now) (g.D.Device.spare c.args.device.now)) (seen (g.D.Device.cells c.undo_target.new.device) (g.D.Device.counts c.undo_target.new.device) (g.D.Device.spare c.undo_target.new.device))
spent g c first y h = all_spent _ (start_of c.args.layout c.args.transaction c.args.records.now c.args.held.now.gates first y (seen (g.D.Device.cells c.args.device.now) (g.D.Device.counts c.args.device.now) (g.D.Device.spare c.args.device.now))) c.undo_target.result c.undo_target.new.held (seen (g.D.Device.cells c.undo_target.new.device) (g.D.Device.counts c.undo_target.new.device) (g.D.Device.spare c.undo_target.new.device))
    (λ made. c.undo_target.ensures.made made (start_of c.args.layout c.args.transaction c.args.records.now c.args.held.now.gates first y (seen (g.D.Device.cells c.args.device.now) (g.D.Device.counts c.args.device.now) (g.D.Device.spare c.args.device.now))) (begins c.args.layout c.args.transaction c.args.records.now c.args.held.now first y (seen (g.D.Device.cells c.args.device.now) (g.D.Device.counts c.args.device.now) (g.D.Device.spare c.args.device.now)) h
    c.part_of.result _ no_placed c.part_of.ensures.is))
    (λ stopped. c.undo_target.ensures.stopped stopped (start_of c.args.layout c.args.transaction c.args.records.now c.args.held.now.gates first y (seen (g.D.Device.cells c.args.device.now) (g.D.Device.counts c.args.device.now) (g.D.Device.spare c.args.device.now))) (begins c.args.layout c.args.transaction c.args.records.now c.args.held.now first y (seen (g.D.Device.cells c.args.device.now) (g.D.Device.counts c.args.device.now) (g.D.Device.spare c.args.device.now)) h
    c.part_of.result _ no_placed c.part_of.ensures.is))

pub returns-clause-counted : goal.returns-clause-counted
returns-clause-counted g c = λ first y h. (spent g c first y h).counted

pub returns-clause-spare : goal.returns-clause-spare
returns-clause-spare g c = λ first y h. (spent g c first y h).spare

pub returns-clause-header : goal.returns-clause-header
returns-clause-header g c = let at = c.requires in (spent g c at.0 at.1 at.2).header
