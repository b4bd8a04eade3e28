use Rattle.std.specs.Prelude.{All}
use Rattle.std.proofs.Common.{sym, ap, subst, ◌∙◌, take, arith}
use Rattle.persist_model.specs.Region.{Region}
use Rattle.lane_traits.specs.Device.{IsWithin}
use Rattle.log_laws.specs.Parts.{after_plan, EachKeeps}
use Rattle.log_laws.specs.Recovering.{RECOVERY_LANE}
use Rattle.atomic_list.specs.declared.repairing.Repair.{Repair}
use Rattle.atomic_list.specs.Repairing.{CanRepair}
use Rattle.region_layout.specs.Layout.{layout_shape}
use Rattle.bucket_log.proofs.Partitions.{few_parts}
use Rattle.recovery_run.specs.Edges.{StoreElsewhere}
use Rattle.recovery_run.specs.Reached.{newest_at, HasSettled, IsQuiet}
use Rattle.recovery_lists.specs.Repairs.{region_repair}
use Rattle.recovery_lists.specs.Lists.{KeepsLists}
use Rattle.recovery_lists.proofs.Asking.{can_repair, quiet_asks_none, none_is_quiet}
use Rattle.recovery_lists.proofs.PlanEvents.{size_made, repair_stores, repair_few}
use Rattle.recovery_lists.proofs.Reading.{settled_state, allowed_at}
use Rattle.recovery_lists.proofs.RepairPart.{repair_within, repair_off_header, repair_done, repair_keeps, repair_quiet, repair_lists}
use Rattle.recovery_lists.proofs.repairing.repair.Goals as goal

pub invariant_of-run : goal.invariant_of-run
invariant_of-run g c =
    let cells = g.D.Device.cells c.args.device.now in
    let ok = allowed_at c.args.layout cells c.requires.settled in
    record {
      partition_within = few_parts (layout_shape c.args.layout) c.args.p ok c.requires.partition;
      can_be = subst CanRepair (sym c.asked-repair.ensures)
          (can_repair (layout_shape c.args.layout) ok c.args.p c.requires.partition (newest_at cells) c.requires.settled.state
          (settled_state (layout_shape c.args.layout) c.requires.settled.first c.requires.settled.state cells c.requires.settled.settled));
    }

pub run-requires : goal.run-requires
run-requires g c =
    let cells = g.D.Device.cells c.args.device.now in
    let stores = repair_stores c.args.p c.asked-repair.result in
    let size = repair_few c.args.p c.asked-repair.result in
    let enough = c.requires.spare in
    record {
      within = subst (λ (r : Repair). All (IsWithin cells.size) (region_repair c.args.p r)) (sym c.asked-repair.ensures)
          (repair_within (layout_shape c.args.layout) (allowed_at c.args.layout cells c.requires.settled) c.args.p c.requires.partition c.requires.settled.first c.requires.settled.state cells c.requires.settled.settled);
      spare = omega (arith, stores, enough);
      few = omega (arith, size);
    }

pub returns-in-Nothing-clause-quiet : goal.returns-in-Nothing-clause-quiet
returns-in-Nothing-clause-quiet g c = λ made.
    let cells = g.D.Device.cells c.args.device.now in
    none_is_quiet (layout_shape c.args.layout) (allowed_at c.args.layout cells c.requires.settled) c.args.p c.requires.partition (newest_at cells) (sym c.in-Nothing.ensures)

pub returns-in_default-clause-made : goal.returns-in_default-clause-made
returns-in_default-clause-made g c = λ made first y h.
    let cells = g.D.Device.cells c.args.device.now in
    subst (λ (r : Region). HasSettled (layout_shape c.args.layout) first y r)
    (sym (c.run.ensures.made made ∙ ap (λ (r : Repair). after_plan RECOVERY_LANE cells (region_repair c.args.p r)) c.asked-repair.ensures))
    (repair_done (layout_shape c.args.layout) (allowed_at c.args.layout cells c.requires.settled) c.args.p c.requires.partition first y cells h)

pub returns-in_default-clause-quiet : goal.returns-in_default-clause-quiet
returns-in_default-clause-quiet g c = λ made.
    let cells = g.D.Device.cells c.args.device.now in
    subst (λ (r : Region). IsQuiet c.args.p (newest_at r))
    (sym (c.run.ensures.made made ∙ ap (λ (r : Repair). after_plan RECOVERY_LANE cells (region_repair c.args.p r)) c.asked-repair.ensures))
    (repair_quiet (layout_shape c.args.layout) (allowed_at c.args.layout cells c.requires.settled) c.args.p c.requires.partition c.requires.settled.first c.requires.settled.state cells c.requires.settled.settled)

pub returns-in_default-clause-lists : goal.returns-in_default-clause-lists
returns-in_default-clause-lists g c = λ made.
    let cells = g.D.Device.cells c.args.device.now in
    subst (λ (r : Region). KeepsLists (layout_shape c.args.layout) cells r)
    (sym (c.run.ensures.made made ∙ ap (λ (r : Repair). after_plan RECOVERY_LANE cells (region_repair c.args.p r)) c.asked-repair.ensures))
    (repair_lists (layout_shape c.args.layout) (allowed_at c.args.layout cells c.requires.settled) c.args.p c.requires.partition c.requires.settled.first c.requires.settled.state cells c.requires.settled.settled)

pub returns-in_default-clause-stopped : goal.returns-in_default-clause-stopped
returns-in_default-clause-stopped g c = λ stopped first y sound h.
    let cells = g.D.Device.cells c.args.device.now in
    let at = c.run.ensures.stopped stopped in
    subst (λ (r : Region). EachKeeps (layout_shape c.args.layout) first r)
    (sym (at.1 ∙ ap (λ (r : Repair). after_plan RECOVERY_LANE cells (take at.0 (region_repair c.args.p r))) c.asked-repair.ensures))
    (repair_keeps (layout_shape c.args.layout) (allowed_at c.args.layout cells c.requires.settled) c.args.p c.requires.partition first y cells h sound at.0)

pub returns-in_default-clause-counted : goal.returns-in_default-clause-counted
returns-in_default-clause-counted g c =
    let counted = c.run.ensures.counted in
    let size = repair_few c.args.p c.asked-repair.result in
    let within = counted.few in
    record { events = counted.events; few = omega (arith, within, size); is = counted.is; cause = counted.cause }

pub returns-in_default-clause-spare_left : goal.returns-in_default-clause-spare_left
returns-in_default-clause-spare_left g c =
    let stores = repair_stores c.args.p c.asked-repair.result in
    let left = c.run.ensures.spare_left in
    omega (arith, stores, left)

pub returns-in_default-clause-header : goal.returns-in_default-clause-header
returns-in_default-clause-header g c = λ a v is one.
    let cells = g.D.Device.cells c.args.device.now in
    c.run.ensures.aside a v (subst (λ (r : Repair). StoreElsewhere a (region_repair c.args.p r)) (sym c.asked-repair.ensures)
    (repair_off_header (layout_shape c.args.layout) (allowed_at c.args.layout cells c.requires.settled) c.args.p c.requires.partition c.requires.settled.first c.requires.settled.state cells
    c.requires.settled.settled a is)) one

pub returns-in_default-clause-none_asked : goal.returns-in_default-clause-none_asked
returns-in_default-clause-none_asked g c = λ quiet.
    let cells = g.D.Device.cells c.args.device.now in
    absurd (c.in_default.not-Nothing (c.asked-repair.ensures
    ∙ quiet_asks_none (layout_shape c.args.layout) (allowed_at c.args.layout cells c.requires.settled) c.args.p c.requires.partition (newest_at cells) quiet))

pub returns-in_default-clause-size : goal.returns-in_default-clause-size
returns-in_default-clause-size g c = size_made c.run.result (g.D.Device.cells c.args.device.now) (g.D.Device.cells c.run.new.device) (region_repair c.args.p c.asked-repair.result) c.run.ensures.made c.run.ensures.stopped
