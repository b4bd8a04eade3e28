use Rattle.std.proofs.Common.{◌≡◌, ◌+◌, sym, subst, length}
use Rattle.persist_model.specs.Region.{Region}
use Rattle.log_laws.specs.Parts.{EachKeeps}
use Rattle.atomic_list.specs.Walk.{chain_of}
use Rattle.region_layout.specs.Layout.{layout_shape}
use Rattle.bucket_log.proofs.Partitions.{few_parts}
use Rattle.recovery_run.specs.Reached.{newest_at}
use Rattle.recovery_lists.specs.Repairs.{seen}
use Rattle.recovery_lists.specs.Lists.{KeepsLists, HasDropped}
use Rattle.log_clearing.specs.Removals.{region_removal}
use Rattle.recovery_lists.proofs.PlanEvents.{size_made}
use Rattle.recovery_lists.proofs.Reading.{allowed_at}
use Rattle.recovery_lists.proofs.RemovalEnds.{next_small}
use Rattle.recovery_lists.proofs.DropPart.{drop_within, drop_off_header, drop_done, drop_keeps, drop_lists, drop_shortens}
use Rattle.recovery_lists.proofs.dropping.drop_bucket.Goals as goal

pub invariant_of-run : goal.invariant_of-run
invariant_of-run g c =
    let cells = g.D.Device.cells c.args.device.now in
    let ok = allowed_at c.args.layout cells c.requires.empty.at in
    record {
      partition_within = few_parts (layout_shape c.args.layout) c.args.p ok c.requires.partition;
      next_within = next_small (layout_shape c.args.layout) ok c.args.p c.requires.partition (newest_at cells) c.args.removal c.requires.closed;
    }

pub run-requires-clause-within : goal.run-requires-clause-within
run-requires-clause-within g c =
    let cells = g.D.Device.cells c.args.device.now in
    let at = c.requires.empty.at in
    drop_within (layout_shape c.args.layout) (allowed_at c.args.layout cells at) c.args.p c.requires.partition at.first at.state cells at.settled c.args.removal c.requires.closed

pub returns-clause-made : goal.returns-clause-made
returns-clause-made g c = λ made first y h none.
    let cells = g.D.Device.cells c.args.device.now in
    let at = c.requires.empty.at in
    subst (λ (r : Region). HasDropped (layout_shape c.args.layout) first y r) (sym (c.run.ensures.made made))
    (drop_done (layout_shape c.args.layout) (allowed_at c.args.layout cells at) c.args.p c.requires.partition first y cells h c.args.removal c.requires.closed none)

pub returns-clause-lists : goal.returns-clause-lists
returns-clause-lists g c = λ made.
    let cells = g.D.Device.cells c.args.device.now in
    let at = c.requires.empty.at in
    subst (λ (r : Region). KeepsLists (layout_shape c.args.layout) cells r) (sym (c.run.ensures.made made))
    (drop_lists (layout_shape c.args.layout) (allowed_at c.args.layout cells at) c.args.p c.requires.partition at.first at.state cells at.settled c.args.removal c.requires.closed c.requires.empty.empty)

pub returns-clause-shorter : goal.returns-clause-shorter
returns-clause-shorter g c = λ made.
    let cells = g.D.Device.cells c.args.device.now in
    let at = c.requires.empty.at in
    subst (λ (r : Region). length (chain_of (layout_shape c.args.layout) (seen (layout_shape c.args.layout) c.args.p (newest_at r))) + 1
    ≡ length (chain_of (layout_shape c.args.layout) (seen (layout_shape c.args.layout) c.args.p (newest_at cells)))) (sym (c.run.ensures.made made))
    (drop_shortens (layout_shape c.args.layout) (allowed_at c.args.layout cells at) c.args.p c.requires.partition at.first at.state cells at.settled c.args.removal c.requires.closed c.requires.empty.empty)

pub returns-clause-stopped : goal.returns-clause-stopped
returns-clause-stopped g c = λ stopped first y sound h none.
    let cells = g.D.Device.cells c.args.device.now in
    let at = c.requires.empty.at in
    let to = c.run.ensures.stopped stopped in
    subst (λ (r : Region). EachKeeps (layout_shape c.args.layout) first r) (sym to.1)
    (drop_keeps (layout_shape c.args.layout) (allowed_at c.args.layout cells at) c.args.p c.requires.partition first y cells h c.args.removal c.requires.closed none sound to.0)

pub returns-clause-header : goal.returns-clause-header
returns-clause-header g c = λ a v is one.
    let cells = g.D.Device.cells c.args.device.now in
    let at = c.requires.empty.at in
    c.run.ensures.aside a v
    (drop_off_header (layout_shape c.args.layout) (allowed_at c.args.layout cells at) c.args.p c.requires.partition at.first at.state cells at.settled c.args.removal c.requires.closed a is) one

pub returns-clause-size : goal.returns-clause-size
returns-clause-size g c = size_made c.run.result (g.D.Device.cells c.args.device.now) (g.D.Device.cells c.run.new.device) (region_removal c.args.p c.args.removal) c.run.ensures.made c.run.ensures.stopped
