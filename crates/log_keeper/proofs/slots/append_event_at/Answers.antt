use Rattle.std.proofs.Common.{sym, arith}
use Rattle.region_layout.specs.Cell.{record_of}
use Rattle.bucket_log.specs.Plans.{place_address}
use Rattle.log_keeper.proofs.PlanSizes.{no_append_event}
use Rattle.log_keeper.proofs.slots.append_event_at.Goals as goal

pub returns-then-i-ge-MANY : goal.returns-then-i-ge-MANY
returns-then-i-ge-MANY c = let far = c.if-i-ge-MANY.true in
    sym (no_append_event c.args.layout c.args.place (record_of (place_address c.args.place) c.args.cell.now) c.args.i (omega (arith, far)))
