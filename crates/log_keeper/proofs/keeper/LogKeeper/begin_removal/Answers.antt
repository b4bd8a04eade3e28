use Rattle.std.proofs.Common.{ap, refl}
use Rattle.log_keeper.specs.Noting.{ledger_of}
use Rattle.log_keeper.specs.Parts.{drops}
use Rattle.log_keeper.specs.Slots.{run_of_slot}
use Rattle.log_keeper.specs.declared.slots.Slot.{Slot}
use Rattle.log_keeper.proofs.SlotLists.{part_begins}
use Rattle.log_keeper.proofs.keeper.LogKeeper.begin_removal.Goals as goal

pub returns-clause-kept : goal.returns-clause-kept
returns-clause-kept c =
    part_begins c.args.self.now.ledger.items c.args.self.now.slots.items c.args.p c.index_mut.result.now c.begin.new.self (drops c.args.r) (ledger_of c.args.self.now.ledger.items)
    c.args.self.now.ledger.items c.requires.slot c.index_mut.ensures.value
    (ap run_of_slot c.begin.ensures) (ap (λ (x : Slot). x.holder) c.begin.ensures) refl
