use Rattle.std.proofs.Common.{◌∙◌, sym}
use Rattle.region_layout.specs.Cell.{record_of}
use Rattle.bucket_log.specs.Plans.{place_address}
use Rattle.bucket_log.proofs.AppendPlans.{plan_shutting, plan_putting, plan_cell}
use Rattle.bucket_log.proofs.append.fresh_event.Goals as goal

pub returns-then-i-layout : goal.returns-then-i-layout
returns-then-i-layout c =
    sym (plan_shutting c.args.layout.cells c.args.place (record_of (place_address c.args.place) c.args.cell.now) c.args.i c.requires.fresh c.if-i-layout.true)

pub returns-then-after-lt-INSERTION : goal.returns-then-after-lt-INSERTION
returns-then-after-lt-INSERTION c =
    c.insert_event.ensures ∙ sym (plan_putting c.args.layout.cells c.args.place (record_of (place_address c.args.place) c.args.cell.now) c.args.i c.requires.fresh c.if-i-layout.false c.if-after-lt-INSERTION.true)

pub returns : goal.returns
returns c =
    c.cell_event.ensures ∙ sym (plan_cell c.args.layout.cells c.args.place (record_of (place_address c.args.place) c.args.cell.now) c.args.i c.requires.fresh c.if-i-layout.false c.if-after-lt-INSERTION.false)
