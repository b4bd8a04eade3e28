use Rattle.std.proofs.Common.{ap, sym, ◌∙◌, map, length}
use Rattle.std.proofs.lemmas.List.{length-map}
use Rattle.log_keeper.specs.Noting.{ledger_of, staged_entry}
use Rattle.log_keeper.proofs.Noting.{ledger-staged, written_whole}
use Rattle.log_keeper.proofs.ledger.come_to.Goals as goal

pub returns-clause-ledger : goal.returns-clause-ledger
returns-clause-ledger c =
    let f = staged_entry c.args.number c.args.stage in
    let items = c.args.ledger.now.items in
    let staged = c.stage_all.ensures ∙ ap (map f) c.as_mut_slice.ensures.value in
    let same = sym (ap length staged ∙ length-map items f) in
    ap ledger_of (written_whole c.stage_all.new.entries items _ same (sym c.as_mut_slice.ensures.len ∙ ap length c.as_mut_slice.ensures.value ∙ same) ∙ staged)
    ∙ ledger-staged c.args.number c.args.stage items
