use Rattle.txn_core.proofs.StartParts.{prepares}
use Rattle.txn_core.proofs.starting.prepare.Goals as goal

pub returns : goal.returns
returns g c = prepares c.args.lanes c.in_ok-blocks.blocks c.args.sorts (g.D.Look.words c.args.device.now) c.args.layout c.in_ok-book.book c.in_ok-log.log
    c.in_ok-book.ensures.is c.in_ok-blocks.ensures.all c.in_ok-blocks.ensures.each c.in_ok-book.ensures.book
    (record { kept = c.in_ok-log.ensures.kept; number = c.in_ok-log.ensures.number; slots = c.in_ok-log.ensures.slots })
