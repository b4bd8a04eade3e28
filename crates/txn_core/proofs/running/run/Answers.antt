use Rattle.std.proofs.Common.{◌+◌, ◌-◌, ◌%◌, length, refl, subst}
use Rattle.region_layout.specs.Layout.{layout_shape}
use Rattle.log_keeper.specs.Keeper.{keeping_of}
use Rattle.log_keeper.specs.Logged.{plan_in}
use Rattle.txn_laws.specs.Rooms.{is_append}
use Rattle.txn_core.specs.Running.{IsStoredCell, stopped, going, stored, whole}
use Rattle.txn_core.proofs.Left.{next_is, last_left, gate_left, more_left, no_gate}
use Rattle.txn_core.proofs.Made.{is_made}
use Rattle.txn_core.proofs.running.run.Goals as goal

pub returns-in-Stopped-clause-runs : goal.returns-in-Stopped-clause-runs
returns-in-Stopped-clause-runs g c = stopped (record {
  region_stays = c.event.ensures.stopped_cells c.in-Stopped.is;
  at_budget = c.event.ensures.stopped.0 c.in-Stopped.is;
  counted_it = c.event.ensures.stopped_counts c.in-Stopped.is;
  spare_stays = c.event.ensures.stopped_spare c.in-Stopped.is;
}) refl

pub returns-then-last-clause-runs : goal.returns-then-last-clause-runs
returns-then-last-clause-runs g c =
    let p = c.args.lane % c.args.layout.partitions in
    let plan = plan_in (layout_shape c.args.layout) (keeping_of c.args.log.now) p in
    let made = ((keeping_of c.args.log.now).runs p).made in
    let next = next_is plan made c.next_event.result c.in-Some.event c.next_event.ensures c.in-Some.is in
    let counted = c.event.ensures.made_counts c.in-Made.is in
    whole c.in-Some.event
    (is_made c.args.layout c.args.log.now _ _ _ _ c.args.lane _ c.in-Some.event _ _ c.requires.lane c.requires.few c.requires.holder next
    (c.event.ensures.made_cells c.in-Made.is) counted (c.event.ensures.made_spare c.in-Made.is))
    counted
    (last_left plan made c.in-Some.event c.is_last-last.result next c.is_last-last.ensures c.if-last.true)
    (record { kept = c.made.ensures.kept; number = c.made.ensures.number; places = c.made.ensures.places; slots = c.made.ensures.slots })

pub returns-in-Some-stored-clause-runs : goal.returns-in-Some-stored-clause-runs
returns-in-Some-stored-clause-runs g c =
    let p = c.args.lane % c.args.layout.partitions in
    let plan = plan_in (layout_shape c.args.layout) (keeping_of c.args.log.now) p in
    let made = ((keeping_of c.args.log.now).runs p).made in
    let next = next_is plan made c.next_event.result c.in-Some.event c.next_event.ensures c.in-Some.is in
    let counted = c.event.ensures.made_counts c.in-Made.is in
    let told = subst (IsStoredCell c.args.layout c.args.log.now p) c.in-Some-stored.is c.stored_cell-stored.ensures in
    stored c.in-Some.event told.1 c.in-Some-stored.cell
    (is_made c.args.layout c.args.log.now _ _ _ _ c.args.lane _ c.in-Some.event _ _ c.requires.lane c.requires.few c.requires.holder next
    (c.event.ensures.made_cells c.in-Made.is) counted (c.event.ensures.made_spare c.in-Made.is))
    counted
    (gate_left plan made c.is_last-last.result c.is_last-last.ensures c.if-last.false told.0)
    told.2
    (record { kept = c.made.ensures.kept; number = c.made.ensures.number; places = c.made.ensures.places; slots = c.made.ensures.slots })

pub returns-in-None-clause-runs : goal.returns-in-None-clause-runs
returns-in-None-clause-runs g c =
    let p = c.args.lane % c.args.layout.partitions in
    let plan = plan_in (layout_shape c.args.layout) (keeping_of c.args.log.now) p in
    let made = ((keeping_of c.args.log.now).runs p).made in
    let next = next_is plan made c.next_event.result c.in-Some.event c.next_event.ensures c.in-Some.is in
    let counted = c.event.ensures.made_counts c.in-Made.is in
    going c.in-Some.event (length plan - (made + 2))
    (is_made c.args.layout c.args.log.now _ _ _ _ c.args.lane _ c.in-Some.event _ _ c.requires.lane c.requires.few c.requires.holder next
    (c.event.ensures.made_cells c.in-Made.is) counted (c.event.ensures.made_spare c.in-Made.is))
    counted
    (more_left plan made c.is_last-last.result c.is_last-last.ensures c.if-last.false)
    (no_gate (is_append ((keeping_of c.args.log.now).runs p).part) plan (made + 2)
    (subst (IsStoredCell c.args.layout c.args.log.now p) c.in-None.is c.stored_cell-stored.ensures))
    (record { kept = c.made.ensures.kept; number = c.made.ensures.number; places = c.made.ensures.places; slots = c.made.ensures.slots })
