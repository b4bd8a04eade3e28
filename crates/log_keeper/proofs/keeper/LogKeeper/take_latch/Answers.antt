use Rattle.std.proofs.Common.{refl}
use Rattle.log_keeper.proofs.SlotLists.{latch_moves, nobody_is, somebody_is}
use Rattle.log_keeper.proofs.keeper.LogKeeper.take_latch.Goals as goal

pub returns-then-slot-eq-NOBODY-clause-result : goal.returns-then-slot-eq-NOBODY-clause-result
returns-then-slot-eq-NOBODY-clause-result c = nobody_is c.args.self.now.slots.items c.args.p c.index_mut-slot.result.now c.requires c.index_mut-slot.ensures.value c.if-slot-eq-NOBODY.true

pub returns-then-slot-eq-NOBODY-clause-kept : goal.returns-then-slot-eq-NOBODY-clause-kept
returns-then-slot-eq-NOBODY-clause-kept c =
    latch_moves c.args.self.now.ledger.items c.args.self.now.slots.items c.args.p c.index_mut-slot.result.now _ c.args.lane c.requires c.index_mut-slot.ensures.value refl refl

pub returns-else-slot-eq-NOBODY-clause-result : goal.returns-else-slot-eq-NOBODY-clause-result
returns-else-slot-eq-NOBODY-clause-result c = somebody_is c.args.self.now.slots.items c.args.p c.index_mut-slot.result.now c.requires c.index_mut-slot.ensures.value c.if-slot-eq-NOBODY.false
