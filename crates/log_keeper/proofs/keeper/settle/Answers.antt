use Rattle.std.proofs.Common.{[], sym, ap, ◌∙◌}
use Rattle.log_keeper.specs.declared.slots.Part.{Part}
use Rattle.log_keeper.specs.Ledger.{without}
use Rattle.log_keeper.specs.Noting.{ledger_of}
use Rattle.log_keeper.specs.Making.{settled_by}
use Rattle.log_keeper.specs.Slots.{part_with}
use Rattle.log_keeper.proofs.Sorting.{without_sorted, nothing_sorted}
use Rattle.log_keeper.proofs.keeper.settle.Goals as goal

pub returns-in-Close-clause-ledger : goal.returns-in-Close-clause-ledger
returns-in-Close-clause-ledger c =
    c.close_listed.ensures.ledger
    ∙ (λ i. without (c.as_slice.ensures.value i) (c.as_slice-in-Close.ensures.value i) (c.as_slice-in-Close-2.ensures.value i) (ledger_of c.args.ledger.now.items))
    ∙ without_sorted c.args.slot.now.gates.items c.args.slot.now.ends.items c.args.slot.now.checkpoints.items _ _ _ c.sort.ensures.gates c.sort.ensures.ends c.sort.ensures.checkpoints
    (ledger_of c.args.ledger.now.items)
    ∙ ap (λ (part : Part). settled_by (part_with c.args.slot.now.gates.items c.args.slot.now.ends.items c.args.slot.now.checkpoints.items part) (ledger_of c.args.ledger.now.items)) (sym c.in-Close.is)

pub returns-in-TakeBack-clause-ledger : goal.returns-in-TakeBack-clause-ledger
returns-in-TakeBack-clause-ledger c =
    c.close_listed-in-TakeBack.ensures.ledger
    ∙ (λ i. without (c.as_slice-in-TakeBack.ensures.value i) [] [] (ledger_of c.args.ledger.now.items))
    ∙ without_sorted c.args.slot.now.gates.items [] [] _ [] [] c.sort-in-TakeBack.ensures.gates nothing_sorted nothing_sorted (ledger_of c.args.ledger.now.items)
    ∙ ap (λ (part : Part). settled_by (part_with c.args.slot.now.gates.items c.args.slot.now.ends.items c.args.slot.now.checkpoints.items part) (ledger_of c.args.ledger.now.items)) (sym c.in-TakeBack.is)
