use Rattle.std.proofs.Common.{◌≡◌, ◌+◌, ◌-◌, refl, sym, ap, ◌∙◌, subst, arith}
use Rattle.persist_model.specs.Region.{Region}
use Rattle.lane_traits.specs.Device.{Counts}
use Rattle.region_layout.specs.Layout.{layout_shape}
use Rattle.recovery_run.specs.Edges.{KeepsWords, IsPlainHeaderWord}
use Rattle.recovery_run.specs.Reached.{newest_at}
use Rattle.recovery_analysis.specs.Conditions.{IsSoundImage}
use Rattle.recovery_analysis.proofs.Soundly.{state_of_image}
use Rattle.recovery_analysis.proofs.Whole.{merge_sound}
use Rattle.recovery_passes.proofs.Results.{start_of, IsReady, ready_of, fates_of, few_are, header_there, stopped_there, restored_there, finished_there, idle_there, counted_there, made_counts, made_few, made_rises, stopped_counts, stopped_few}
use Rattle.recovery_passes.proofs.recovering.recover_reserving.Goals as goal
use Rattle.recovery_passes.proofs.recovering.recover_reserving.Goals.{After-as_slice-2, In-Stopped, In-Made, After-events}

-- ---- before the first event

pub work_of-requires : goal.work_of-requires
work_of-requires g c =
    let region = g.D.Device.cells c.args.device.now in
    let image : IsSoundImage c.args.layout region.size (newest_at region) = record { sound = c.requires.sound; has_layout = sym c.requires.shape } in
    merge_sound c.args.layout region.size (newest_at region) c.args.records.now image
    (c.requires.records c.requires.sound.state (state_of_image c.args.layout region.size (newest_at region) image))

ready : (g : _) (c : After-as_slice-2 g) → IsReady c.args.layout (g.D.Device.cells c.args.device.now) (g.D.Device.cells c.make_room.new.device) c.requires.sound.state c.in_ok-work.work c.as_slice.result.now c.as_slice-2.result.now c.in_ok-table.table
ready g c =
    let old = g.D.Device.cells c.args.device.now in
    ready_of c.args.layout c.args.records.now old (g.D.Device.cells c.make_room.new.device) c.requires.sound.state c.in_ok-work.work c.as_slice.result.now c.as_slice-2.result.now c.in_ok-table.table
    (start_of c.args.layout old c.requires.settled c.requires.sound c.requires.shape) c.requires.records c.in_ok-work.ensures c.in_ok-make_room.ensures.cells c.as_slice.ensures c.as_slice-2.ensures c.in_ok-table.ensures

pub make_events-done-requires : goal.make_events-done-requires
make_events-done-requires g c =
    let h = ready g (goal.at.make_events-done-requires g c).After-as_slice-2 in
    (c.requires.sound.state, c.in_ok-work.work.most, h.plan, c.in_ok-make_room.ensures.spare, c.in_ok-make_room.ensures.fits)

-- ---- a stop

stop_keeps : (g : _) (c : In-Stopped g) → KeepsWords (IsPlainHeaderWord (layout_shape c.args.layout)) (g.D.Device.cells c.args.device.now) (g.D.Device.cells c.make_events-done.new.device)
stop_keeps g c = subst (λ (r : Region). KeepsWords (IsPlainHeaderWord (layout_shape c.args.layout)) r (g.D.Device.cells c.make_events-done.new.device)) c.in_ok-make_room.ensures.cells c.in-Stopped.ensures.header

pub returns-in-Stopped-clause-owed : goal.returns-in-Stopped-clause-owed
returns-in-Stopped-clause-owed g c =
    let x = goal.at.returns-in-Stopped-clause-owed g c in
    let h = ready g x.After-as_slice-2 in
    let counts = counted_there h.plan c.in_ok-make_room.ensures.spare c.in_ok-make_room.ensures.counts c.in-Stopped.ensures.counted in
    let most = h.work_is.most in
    record {
      sound = c.requires.sound;
      stands = stopped_there _ _ _ h.start _ (stop_keeps g x.In-Stopped) (c.in-Stopped.ensures.stopped refl _ _ h.plan c.in_ok-make_room.ensures.spare);
      stopped = stopped_counts _ _ _ counts;
      early = λ n sum. (let few = stopped_few _ n _ _ counts sum in few_are _ _ _ h.start c.in_ok-work.work (n + 1) h.work_is (omega (arith, few, most)));
      unfinished = λ finished. (let made = (idle_there _ _ _ h.start finished h.plan c.in_ok-make_room.ensures.cells c.in-Stopped.ensures.idle).made in cc);
    }

pub returns-in-Stopped-clause-header : goal.returns-in-Stopped-clause-header
returns-in-Stopped-clause-header g c =
    let x = goal.at.returns-in-Stopped-clause-header g c in
    let h = ready g x.After-as_slice-2 in
    header_there _ _ _ h.start (g.D.Device.cells c.make_events-done.new.device) (stop_keeps g x.In-Stopped) (c.in-Stopped.ensures.stopped refl _ _ h.plan c.in_ok-make_room.ensures.spare).size

-- ---- the end

end_keeps : (g : _) (c : In-Made g) → KeepsWords (IsPlainHeaderWord (layout_shape c.args.layout)) (g.D.Device.cells c.args.device.now) (g.D.Device.cells c.make_events-done.new.device)
end_keeps g c = subst (λ (r : Region). KeepsWords (IsPlainHeaderWord (layout_shape c.args.layout)) r (g.D.Device.cells c.make_events-done.new.device)) c.in_ok-make_room.ensures.cells c.in-Made.ensures.header

-- the events are counted from the old count
end_events : (g : _) (c : After-events g) → c.events.result - c.events-before.result ≡ (g.D.Device.counts c.make_events-done.new.device).events - (g.D.Device.counts c.args.device.now).events
end_events g c =
    let now = c.events.ensures in
    let before = c.events-before.ensures in
    let same = ap (λ (n : Counts). n.events) c.in_ok-make_room.ensures.counts in
    omega (arith, now, before, same)

pub overflow_sub-result : goal.overflow_sub-result
overflow_sub-result g c =
    let h = ready g (goal.at.overflow_sub-result g c).After-as_slice-2 in
    let rises = made_rises _ _ _ (counted_there h.plan c.in_ok-make_room.ensures.spare c.in_ok-make_room.ensures.counts c.in-Made.ensures.counted) in
    let now = c.events.ensures in
    let before = c.events-before.ensures in
    let same = ap (λ (n : Counts). n.events) c.in_ok-make_room.ensures.counts in
    omega (arith, rises, now, before, same)

pub returns-in-Made-clause-owed : goal.returns-in-Made-clause-owed
returns-in-Made-clause-owed g c =
    let x = goal.at.returns-in-Made-clause-owed g c in
    let h = ready g x.After-as_slice-2 in
    let end = c.in-Made.ensures.made refl _ _ h.plan c.in_ok-make_room.ensures.spare in
    let counts = counted_there h.plan c.in_ok-make_room.ensures.spare c.in_ok-make_room.ensures.counts c.in-Made.ensures.counted in
    let few = made_few _ _ _ _ counts (end_events g x.After-events) in
    record {
      sound = c.requires.sound;
      fates = fates_of _ _ _ h.start c.in_ok-work.work h.work_is;
      restored = restored_there _ _ _ h.start _ (end_keeps g x.In-Made) end;
      settled = end.settled.settled;
      finished = finished_there _ _ _ h.start _ (end_keeps g x.In-Made) end;
      events = made_counts _ _ _ _ counts (end_events g x.After-events);
      few = few_are _ _ _ h.start c.in_ok-work.work _ h.work_is (omega (arith, few));
      again = λ finished.
          (let idle = idle_there _ _ _ h.start finished h.plan c.in_ok-make_room.ensures.cells c.in-Made.ensures.idle in
          let same = ap (λ (n : Counts). n.events) idle.same in
          let now = c.events.ensures in
          let before = c.events-before.ensures in
          omega (arith, same, now, before));
      same = λ finished. (idle_there _ _ _ h.start finished h.plan c.in_ok-make_room.ensures.cells c.in-Made.ensures.idle).cells ∙ c.in_ok-make_room.ensures.cells;
    }

pub returns-in-Made-clause-room : goal.returns-in-Made-clause-room
returns-in-Made-clause-room g c =
    let h = ready g (goal.at.returns-in-Made-clause-room g c).After-as_slice-2 in
    let left = c.in-Made.ensures.spare_left _ _ h.plan c.in_ok-make_room.ensures.spare in
    let more = c.in_ok-make_room.ensures.more in
    omega (arith, left, more)

pub returns-in-Made-clause-header : goal.returns-in-Made-clause-header
returns-in-Made-clause-header g c =
    let x = goal.at.returns-in-Made-clause-header g c in
    let h = ready g x.After-as_slice-2 in
    header_there _ _ _ h.start (g.D.Device.cells c.make_events-done.new.device) (end_keeps g x.In-Made) (c.in-Made.ensures.made refl _ _ h.plan c.in_ok-make_room.ensures.spare).settled.come.size
