use Rattle.std.proofs.Common.{◌≡◌, ◌+◌, ap, sym, ◌∙◌, refl, subst, arith}
use Rattle.std.proofs.lemmas.Option.{get_or_from_slice_get, slice_get_within}
use Rattle.persist_model.specs.Region.{Region, after}
use Rattle.log_laws.specs.Recovering.{RECOVERY_LANE}
use Rattle.lane_traits.specs.Device.{Counts, counted, IsWithin}
use Rattle.lane_traits.specs.declared.device.Done.TheVariants.{Made}
use Rattle.log_laws.specs.Parts.{after_plan}
use Rattle.recovery_run.specs.Edges.{counts_with}
use Rattle.recovery_run.proofs.Making.{plan_more, places_left, past_end, take_whole, same_size}
use Rattle.migration.specs.Plan.{migration_plan}
use Rattle.migration.proofs.Made.{plan_within, plan_stores, plan_length}
use Rattle.migration.proofs.making.make_events.Goals as goal

pub loop-event-init : goal.loop-event-init
loop-event-init g c = record { cells = refl; counts = ap (λ n. record (g.D.Device.counts c.args.device.now) { events = n }) (omega arith); spare = omega arith; size = refl; within = omega arith }

pub event-requires-clause-address : goal.event-requires-clause-address
event-requires-clause-address g c =
    let found = sym c.migration_event.ensures ∙ c.in-Some.is in
    let plan = migration_plan c.args.kinds.now in
    let i = c.loop-event.i in
    let e = c.in-Some.event in
    subst (λ n. IsWithin n e) (sym c.loop-event.invariant.size)
    (subst (λ x. IsWithin (g.D.Device.cells c.args.device.now).size x) (get_or_from_slice_get plan i e e found)
    (plan_within c.args.kinds.now (g.D.Device.cells c.args.device.now).size c.requires.enough i e (slice_get_within plan i e found)))

pub event-requires-clause-spare : goal.event-requires-clause-spare
event-requires-clause-spare g c =
    let left = places_left (migration_plan c.args.kinds.now) c.loop-event.i c.in-Some.event (sym c.migration_event.ensures ∙ c.in-Some.is) in
    let spare = c.loop-event.invariant.spare in
    let enough = c.requires.spare in
    let all = plan_stores c.args.kinds.now in
    omega (arith, left, spare, enough, all)

pub returns-in-Stopped-clause-stopped : goal.returns-in-Stopped-clause-stopped
returns-in-Stopped-clause-stopped g c = λ stopped.
    let so_far = c.loop-event.invariant.counts in
    let used = c.in-Stopped.ensures.stopped.0 refl in
    let events = ap (λ (n : Counts). n.events) so_far in
    let budget = ap (λ (n : Counts). n.budget) so_far in
    record {
      made = c.loop-event.i;
      early = slice_get_within (migration_plan c.args.kinds.now) c.loop-event.i c.in-Some.event (sym c.migration_event.ensures ∙ c.in-Some.is);
      cells = c.in-Stopped.ensures.stopped_cells refl ∙ c.loop-event.invariant.cells;
      counted = c.in-Stopped.ensures.stopped_counts refl ∙ ap (λ (n : Counts). record n { stopped = counted n.stopped }) so_far;
      cause = sym events ∙ used ∙ budget;
    }

pub overflow_add-i : goal.overflow_add-i
overflow_add-i g c =
    let lt = slice_get_within (migration_plan c.args.kinds.now) c.loop-event.i c.in-Some.event (sym c.migration_event.ensures ∙ c.in-Some.is) in
    let few = plan_length c.args.kinds.now in
    omega (arith, lt, few)

pub loop-event-smaller : goal.loop-event-smaller
loop-event-smaller g c =
    let lt = slice_get_within (migration_plan c.args.kinds.now) c.loop-event.i c.in-Some.event (sym c.migration_event.ensures ∙ c.in-Some.is) in
    omega (arith, lt)

pub loop-event-preserved : goal.loop-event-preserved
loop-event-preserved g c =
    let found = sym c.migration_event.ensures ∙ c.in-Some.is in
    let plan = migration_plan c.args.kinds.now in
    let i = c.loop-event.i in
    let e = c.in-Some.event in
    let so_far = c.loop-event.invariant in
    let made = c.in-Made.ensures.made_cells refl in
    let counts = c.in-Made.ensures.made_counts refl ∙ ap (λ (n : Counts). record n { events = n.events + 1 }) so_far.counts in
    let old = g.D.Device.counts c.args.device.now in
    let left = places_left plan i e found in
    let used = c.in-Made.ensures.made_spare refl in
    let spare = so_far.spare in
    let lt = slice_get_within plan i e found in
    record {
      cells = made ∙ ap (λ (r : Region). after r RECOVERY_LANE e) so_far.cells ∙ sym (plan_more RECOVERY_LANE (g.D.Device.cells c.args.device.now) plan i e found);
      counts = counts ∙ ap (λ n. record old { events = n }) (omega arith);
      spare = omega (arith, left, used, spare);
      size = ap (λ (r : Region). r.size) made ∙ same_size (g.D.Device.cells c.loop-event.device) RECOVERY_LANE e ∙ so_far.size;
      within = omega (arith, lt);
    }

pub returns-clause-made : goal.returns-clause-made
returns-clause-made g c = λ made.
    let plan = migration_plan c.args.kinds.now in
    let end = past_end plan c.loop-event.i (sym c.migration_event.ensures ∙ c.in_default.is) in
    c.loop-event.invariant.cells ∙ ap (after_plan RECOVERY_LANE (g.D.Device.cells c.args.device.now)) (take_whole plan c.loop-event.i end)

pub returns-clause-counted : goal.returns-clause-counted
returns-clause-counted g c = λ made.
    let end = past_end (migration_plan c.args.kinds.now) c.loop-event.i (sym c.migration_event.ensures ∙ c.in_default.is) in
    let within = c.loop-event.invariant.within in
    let all = plan_length c.args.kinds.now in
    let i_is : c.loop-event.i ≡ 24 = omega (arith, end, within, all) in
    c.loop-event.invariant.counts ∙ ap (λ n. counts_with (g.D.Device.counts c.args.device.now) n Made) i_is
