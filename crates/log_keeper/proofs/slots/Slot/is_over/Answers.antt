use Rattle.log_keeper.proofs.SlotLists.{over_is}
use Rattle.log_keeper.proofs.slots.Slot.is_over.Goals as goal

pub returns : goal.returns
returns c = over_is _ c.args.i c.event_at.result c.is_none.result c.event_at.ensures c.is_none.ensures
