use Rattle.std.proofs.Common.{refl}
use Rattle.log_keeper.specs.declared.slots.TheConstants.{NOBODY}
use Rattle.log_keeper.proofs.SlotLists.{latch_moves}
use Rattle.log_keeper.proofs.keeper.LogKeeper.release_latch.Goals as goal

pub returns-clause-kept : goal.returns-clause-kept
returns-clause-kept c =
    latch_moves c.args.self.now.ledger.items c.args.self.now.slots.items c.args.p c.index_mut.result.now _ NOBODY c.requires.slot c.index_mut.ensures.value refl refl
