use Rattle.std.proofs.Common.{refl}
use Rattle.log_keeper.specs.Noting.{ledger_of}
use Rattle.log_keeper.specs.Parts.{takes_back}
use Rattle.log_keeper.proofs.SlotLists.{part_begins}
use Rattle.log_keeper.proofs.keeper.LogKeeper.begin_taking_back.Goals as goal

pub returns-clause-kept : goal.returns-clause-kept
returns-clause-kept c =
    part_begins c.args.self.now.ledger.items c.args.self.now.slots.items c.args.p c.index_mut.result.now c.begin_taking_back.new.self (takes_back c.args.gates.now)
    (ledger_of c.args.self.now.ledger.items) c.args.self.now.ledger.items c.requires.slot c.index_mut.ensures.value c.begin_taking_back.ensures.run c.begin_taking_back.ensures.holder refl
