use Rattle.std.proofs.Common.{◌+◌, ap, sym, ◌∙◌, refl, subst, arith, take}
use Rattle.std.proofs.lemmas.Option.{get_or_from_slice_get, slice_get_within}
use Rattle.persist_model.specs.Region.{Region, after}
use Rattle.log_laws.specs.Recovering.{RECOVERY_LANE}
use Rattle.lane_traits.specs.Device.{Counts, counted, IsWithin}
use Rattle.log_laws.specs.Parts.{after_plan}
use Rattle.recovery_run.specs.Edges.{HasOnlyValue}
use Rattle.recovery_run.proofs.Making.{plan_more, places_left, past_end, take_whole, same_size}
use Rattle.recovery_run.proofs.Aside.{elsewhere_take, plan_keeps}
use Rattle.recovery_run.proofs.runner.run.Goals as goal

pub loop-event-init : goal.loop-event-init
loop-event-init g c = record { cells = refl; counts = ap (λ n. record (g.D.Device.counts c.args.device.now) { events = n }) (omega arith); spare = omega arith; size = refl; within = omega arith }

pub event-requires-in-Some-clause-address : goal.event-requires-in-Some-clause-address
event-requires-in-Some-clause-address g c =
    let found = sym c.event.ensures ∙ c.in-Some.is in
    let plan = g.P.Plan.events c.args.plan.now in
    let i = c.loop-event.i in
    let e = c.in-Some.event in
    subst (λ n. IsWithin n e) (sym c.loop-event.invariant.size)
    (subst (λ x. IsWithin (g.D.Device.cells c.args.device.now).size x) (get_or_from_slice_get plan i e e found)
    (c.requires.within i e (slice_get_within plan i e found)))

pub event-requires-in-Some-clause-spare : goal.event-requires-in-Some-clause-spare
event-requires-in-Some-clause-spare g c =
    let left = places_left (g.P.Plan.events c.args.plan.now) c.loop-event.i c.in-Some.event (sym c.event.ensures ∙ c.in-Some.is) in
    let spare = c.loop-event.invariant.spare in
    let enough = c.requires.spare in
    omega (arith, left, spare, enough)

pub returns-in-Stopped-clause-stopped : goal.returns-in-Stopped-clause-stopped
returns-in-Stopped-clause-stopped g c = λ stopped. (c.loop-event.i, c.in-Stopped.ensures.stopped_cells refl ∙ c.loop-event.invariant.cells)

pub overflow_add-i : goal.overflow_add-i
overflow_add-i g c =
    let lt = slice_get_within (g.P.Plan.events c.args.plan.now) c.loop-event.i c.in-Some.event (sym c.event.ensures ∙ c.in-Some.is) in
    let few = c.requires.few in
    omega (arith, lt, few)

pub loop-event-smaller : goal.loop-event-smaller
loop-event-smaller g c =
    let lt = slice_get_within (g.P.Plan.events c.args.plan.now) c.loop-event.i c.in-Some.event (sym c.event.ensures ∙ c.in-Some.is) in
    omega (arith, lt)

pub loop-event-preserved : goal.loop-event-preserved
loop-event-preserved g c =
    let found = sym c.event.ensures ∙ c.in-Some.is in
    let plan = g.P.Plan.events c.args.plan.now in
    let i = c.loop-event.i in
    let e = c.in-Some.event in
    let so_far = c.loop-event.invariant in
    let made = c.in-Made.ensures.made_cells refl in
    let counts = c.in-Made.ensures.made_counts refl ∙ ap (λ (n : Counts). record n { events = n.events + 1 }) so_far.counts in
    let old = g.D.Device.counts c.args.device.now in
    let left = places_left plan i e found in
    let used = c.in-Made.ensures.made_spare refl in
    let spare = so_far.spare in
    let lt = slice_get_within plan i e found in
    record {
      cells = made ∙ ap (λ (r : Region). after r RECOVERY_LANE e) so_far.cells ∙ sym (plan_more RECOVERY_LANE (g.D.Device.cells c.args.device.now) plan i e found);
      counts = counts ∙ ap (λ n. record old { events = n }) (omega arith);
      spare = omega (arith, left, used, spare);
      size = ap (λ (r : Region). r.size) made ∙ same_size (g.D.Device.cells c.loop-event.device) RECOVERY_LANE e ∙ so_far.size;
      within = omega (arith, lt);
    }

pub returns-in-Stopped-clause-cause : goal.returns-in-Stopped-clause-cause
returns-in-Stopped-clause-cause g c = λ stopped.
    let counts = c.in-Stopped.ensures.stopped_counts refl in
    ap (λ (n : Counts). n.events) counts ∙ c.in-Stopped.ensures.stopped.0 refl ∙ sym (ap (λ (n : Counts). n.budget) counts)

pub returns-in-Stopped-clause-counted : goal.returns-in-Stopped-clause-counted
returns-in-Stopped-clause-counted g c =
    let so_far = c.loop-event.invariant.counts in
    let old = g.D.Device.counts c.args.device.now in
    let counts = c.in-Stopped.ensures.stopped_counts refl ∙ ap (λ (n : Counts). record n { stopped = counted n.stopped }) so_far in
    let used = c.in-Stopped.ensures.stopped.0 refl in
    let events = ap (λ (n : Counts). n.events) so_far in
    let budget = ap (λ (n : Counts). n.budget) so_far in
    record { events = c.loop-event.i; few = c.loop-event.invariant.within; is = counts; cause = λ _. sym events ∙ used ∙ budget }

pub returns-in-Stopped-clause-spare_left : goal.returns-in-Stopped-clause-spare_left
returns-in-Stopped-clause-spare_left g c =
    let same = c.in-Stopped.ensures.stopped_spare refl in
    let spare = c.loop-event.invariant.spare in
    omega (arith, same, spare)

pub returns-in-Stopped-clause-aside : goal.returns-in-Stopped-clause-aside
returns-in-Stopped-clause-aside g c = λ a v off one.
    let plan = g.P.Plan.events c.args.plan.now in
    subst (λ (r : Region). HasOnlyValue v (r.at a)) (sym (c.in-Stopped.ensures.stopped_cells refl ∙ c.loop-event.invariant.cells))
    (plan_keeps RECOVERY_LANE (g.D.Device.cells c.args.device.now) (take c.loop-event.i plan) a v (elsewhere_take a c.loop-event.i plan off) one)

pub returns-clause-made : goal.returns-clause-made
returns-clause-made g c = λ made.
    let plan = g.P.Plan.events c.args.plan.now in
    let end = past_end plan c.loop-event.i (sym c.event.ensures ∙ c.in_default.is) in
    c.loop-event.invariant.cells ∙ ap (after_plan RECOVERY_LANE (g.D.Device.cells c.args.device.now)) (take_whole plan c.loop-event.i end)

pub returns-clause-events_made : goal.returns-clause-events_made
returns-clause-events_made g c = λ made.
    let end = past_end (g.P.Plan.events c.args.plan.now) c.loop-event.i (sym c.event.ensures ∙ c.in_default.is) in
    let within = c.loop-event.invariant.within in
    let events = ap (λ (n : Counts). n.events) c.loop-event.invariant.counts in
    omega (arith, end, within, events)

pub returns-clause-counted : goal.returns-clause-counted
returns-clause-counted g c = record { events = c.loop-event.i; few = c.loop-event.invariant.within; is = c.loop-event.invariant.counts; cause = λ e. absurd (cc) }

pub returns-clause-aside : goal.returns-clause-aside
returns-clause-aside g c = λ a v off one.
    let plan = g.P.Plan.events c.args.plan.now in
    subst (λ (r : Region). HasOnlyValue v (r.at a)) (sym c.loop-event.invariant.cells)
    (plan_keeps RECOVERY_LANE (g.D.Device.cells c.args.device.now) (take c.loop-event.i plan) a v (elsewhere_take a c.loop-event.i plan off) one)
