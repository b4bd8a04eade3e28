use Rattle.std.proofs.Common.{[], true, refl, ap, ◌∙◌}
use Rattle.log_keeper.specs.Noting.{ledger_of}
use Rattle.log_keeper.specs.Logged.{begun}
use Rattle.log_keeper.specs.Parts.{closes}
use Rattle.log_keeper.specs.Listing.{gates_in}
use Rattle.log_keeper.proofs.SlotLists.{part_begins}
use Rattle.log_keeper.proofs.keeper.LogKeeper.begin_closing_end.Goals as goal

pub returns-clause-kept : goal.returns-clause-kept
returns-clause-kept c =
    part_begins c.args.self.now.ledger.items c.args.self.now.slots.items c.args.p c.index_mut.result.now c.begin_closing_end.new.self (closes [] (gates_in c.args.transaction true (ledger_of c.args.self.now.ledger.items)) [])
    (ledger_of c.args.self.now.ledger.items) c.args.self.now.ledger.items c.requires.slot c.index_mut.ensures.value (c.begin_closing_end.ensures.run ∙ ap (λ xs. begun (closes [] (gates_in c.args.transaction true (ledger_of xs)) [])) c.as_slice-entries.ensures.value) c.begin_closing_end.ensures.holder refl
