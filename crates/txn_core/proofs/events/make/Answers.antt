use Rattle.std.proofs.Common.{refl}
use Rattle.txn_core.specs.Making.{stopped, made}
use Rattle.txn_core.proofs.Made.{is_event}
use Rattle.txn_core.proofs.events.make.Goals as goal

pub returns-in-Stopped-clause-makes : goal.returns-in-Stopped-clause-makes
returns-in-Stopped-clause-makes g c = stopped (record {
  region_stays = c.event.ensures.stopped_cells c.in-Stopped.is;
  at_budget = c.event.ensures.stopped.0 c.in-Stopped.is;
  counted_it = c.event.ensures.stopped_counts c.in-Stopped.is;
  spare_stays = c.event.ensures.stopped_spare c.in-Stopped.is;
}) refl

pub returns-in-Made-clause-makes : goal.returns-in-Made-clause-makes
returns-in-Made-clause-makes g c =
    let counted = c.event.ensures.made_counts c.in-Made.is in
    made (is_event _ _ _ _ c.args.lane _ c.args.event _ _ c.requires.lane c.requires.few (c.event.ensures.made_cells c.in-Made.is) counted
    (c.event.ensures.made_spare c.in-Made.is)) counted c.pay_event.ensures.is
