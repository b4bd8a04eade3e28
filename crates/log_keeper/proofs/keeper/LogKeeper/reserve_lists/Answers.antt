use Rattle.log_keeper.proofs.SlotLists.{slot_stays}
use Rattle.log_keeper.proofs.Memory.{keeps_set}
use Rattle.log_keeper.proofs.keeper.LogKeeper.reserve_lists.Goals as goal

pub returns-clause-kept : goal.returns-clause-kept
returns-clause-kept c = slot_stays c.args.self.now.ledger.items c.args.self.now.slots.items c.args.p c.index_mut.result.now c.reserve.new.self c.requires c.index_mut.ensures.value
    c.reserve.ensures.run c.reserve.ensures.holder

pub returns-clause-slots : goal.returns-clause-slots
returns-clause-slots c = keeps_set c.args.self.now.slots.items c.args.p c.index_mut.result.now c.reserve.new.self c.requires c.index_mut.ensures.value c.reserve.ensures.memory
