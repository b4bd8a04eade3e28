use Rattle.std.proofs.Common.{refl, ◌∙◌, subst, arith}
use Rattle.atomic_list.specs.Walk.{chain_of}
use Rattle.region_layout.specs.Layout.{layout_shape}
use Rattle.log_clearing.specs.Dropping.{IsRemovalOf}
use Rattle.recovery_run.specs.Reached.{newest_at}
use Rattle.recovery_lists.specs.Repairs.{seen}
use Rattle.recovery_lists.proofs.Reading.{allowed_at}
use Rattle.recovery_lists.proofs.DropLoop.{dropping_begins, dropping_goes_on, not_few_before, room_for_one, stopped_counted, stopped_spare, few_at_first, read_may_drop, read_few_left, all_counted}
use Rattle.recovery_lists.proofs.dropping.drop_closed.Goals as goal

pub loop-removal-init : goal.loop-removal-init
loop-removal-init g c = dropping_begins (layout_shape c.args.layout) c.args.p (g.D.Device.cells c.args.device.now) (g.D.Device.counts c.args.device.now) (g.D.Device.spare c.args.device.now) c.requires.empty

pub drop_bucket-requires-clause-closed : goal.drop_bucket-requires-clause-closed
drop_bucket-requires-clause-closed g c =
    let ok = allowed_at c.args.layout (g.D.Device.cells c.args.device.now) c.requires.empty.at in
    read_may_drop (layout_shape c.args.layout) ok c.args.p (g.D.Device.cells c.loop-removal.device) c.in-Some.removal c.requires.partition c.loop-removal.invariant.at c.in-Some.ensures

pub drop_bucket-requires-clause-spare : goal.drop_bucket-requires-clause-spare
drop_bucket-requires-clause-spare g c =
    let shape = layout_shape c.args.layout in
    let ok = allowed_at c.args.layout (g.D.Device.cells c.args.device.now) c.requires.empty.at in
    let can = read_may_drop shape ok c.args.p (g.D.Device.cells c.loop-removal.device) c.in-Some.removal c.requires.partition c.loop-removal.invariant.at c.in-Some.ensures in
    room_for_one shape ok c.args.p c.requires.partition _ _ _ _ _ _ c.loop-removal.invariant c.in-Some.removal can
    (few_at_first shape ok c.args.p (g.D.Device.cells c.args.device.now) c.requires.partition c.requires.empty.at) c.requires.spare

pub loop-removal-preserved : goal.loop-removal-preserved
loop-removal-preserved g c =
    let shape = layout_shape c.args.layout in
    let ok = allowed_at c.args.layout (g.D.Device.cells c.args.device.now) c.requires.empty.at in
    let can = read_may_drop shape ok c.args.p (g.D.Device.cells c.loop-removal.device) c.in-Some.removal c.requires.partition c.loop-removal.invariant.at c.in-Some.ensures in
    dropping_goes_on shape ok c.args.p c.requires.partition _ _ _ _ _ _ c.loop-removal.invariant c.in-Some.removal can
    (g.D.Device.cells c.drop_bucket.new.device) (g.D.Device.counts c.drop_bucket.new.device) (g.D.Device.spare c.drop_bucket.new.device)
    (c.in-Made.ensures.made refl) (c.in-Made.ensures.lists refl) (c.in-Made.ensures.shorter refl) c.in-Made.ensures.counted c.in-Made.ensures.spare_left c.in-Made.ensures.header c.in-Made.ensures.size

pub returns-in-Stopped-clause-stopped : goal.returns-in-Stopped-clause-stopped
returns-in-Stopped-clause-stopped g c = λ stopped first y sound h none.
    let so_far = c.loop-removal.invariant.made first y h none in
    c.in-Stopped.ensures.stopped refl first so_far.state sound so_far.settled so_far.empty

pub returns-in-Stopped-clause-counted : goal.returns-in-Stopped-clause-counted
returns-in-Stopped-clause-counted g c =
    let shape = layout_shape c.args.layout in
    let ok = allowed_at c.args.layout (g.D.Device.cells c.args.device.now) c.requires.empty.at in
    let can = read_may_drop shape ok c.args.p (g.D.Device.cells c.loop-removal.device) c.in-Some.removal c.requires.partition c.loop-removal.invariant.at c.in-Some.ensures in
    stopped_counted shape ok c.args.p c.requires.partition _ _ _ _ _ _ c.loop-removal.invariant c.in-Some.removal can (g.D.Device.counts c.drop_bucket.new.device)
    (few_at_first shape ok c.args.p (g.D.Device.cells c.args.device.now) c.requires.partition c.requires.empty.at) c.in-Stopped.ensures.counted

pub returns-in-Stopped-clause-spare_left : goal.returns-in-Stopped-clause-spare_left
returns-in-Stopped-clause-spare_left g c =
    let shape = layout_shape c.args.layout in
    let ok = allowed_at c.args.layout (g.D.Device.cells c.args.device.now) c.requires.empty.at in
    let can = read_may_drop shape ok c.args.p (g.D.Device.cells c.loop-removal.device) c.in-Some.removal c.requires.partition c.loop-removal.invariant.at c.in-Some.ensures in
    stopped_spare shape ok c.args.p c.requires.partition _ _ _ _ _ _ c.loop-removal.invariant c.in-Some.removal can (g.D.Device.spare c.drop_bucket.new.device)
    (few_at_first shape ok c.args.p (g.D.Device.cells c.args.device.now) c.requires.partition c.requires.empty.at) c.in-Stopped.ensures.spare_left

pub returns-in-Stopped-clause-header : goal.returns-in-Stopped-clause-header
returns-in-Stopped-clause-header g c = λ a v is one. c.in-Stopped.ensures.header a v is (c.loop-removal.invariant.header a v is one)

pub returns-in-Stopped-clause-none_closed : goal.returns-in-Stopped-clause-none_closed
returns-in-Stopped-clause-none_closed g c = λ few.
    let shape = layout_shape c.args.layout in
    let ok = allowed_at c.args.layout (g.D.Device.cells c.args.device.now) c.requires.empty.at in
    let can = read_may_drop shape ok c.args.p (g.D.Device.cells c.loop-removal.device) c.in-Some.removal c.requires.partition c.loop-removal.invariant.at c.in-Some.ensures in
    absurd (not_few_before shape ok c.args.p c.requires.partition _ _ _ _ _ _ c.loop-removal.invariant c.in-Some.removal can few)

pub returns-clause-few : goal.returns-clause-few
returns-clause-few g c = λ made.
    let shape = layout_shape c.args.layout in
    let cells = g.D.Device.cells c.loop-removal.device in
    let ok = allowed_at c.args.layout (g.D.Device.cells c.args.device.now) c.requires.empty.at in
    read_few_left shape ok c.args.p cells c.requires.partition c.loop-removal.invariant.at
    (subst (λ found. IsRemovalOf shape (seen shape c.args.p (newest_at cells)) (chain_of shape (seen shape c.args.p (newest_at cells))) found) c.in_default.is c.next_removal.ensures)

pub returns-clause-counted : goal.returns-clause-counted
returns-clause-counted g c =
    let ok = allowed_at c.args.layout (g.D.Device.cells c.args.device.now) c.requires.empty.at in
    all_counted (layout_shape c.args.layout) c.args.p _ _ _ _ _ _ c.loop-removal.invariant
    (few_at_first (layout_shape c.args.layout) ok c.args.p (g.D.Device.cells c.args.device.now) c.requires.partition c.requires.empty.at)

pub returns-clause-spare_left : goal.returns-clause-spare_left
returns-clause-spare_left g c =
    let ok = allowed_at c.args.layout (g.D.Device.cells c.args.device.now) c.requires.empty.at in
    let most = few_at_first (layout_shape c.args.layout) ok c.args.p (g.D.Device.cells c.args.device.now) c.requires.partition c.requires.empty.at in
    let so_far = c.loop-removal.invariant.spare_left in
    omega (arith, so_far, most)

pub returns-in-Stopped-clause-size : goal.returns-in-Stopped-clause-size
returns-in-Stopped-clause-size g c = c.in-Stopped.ensures.size ∙ c.loop-removal.invariant.size
