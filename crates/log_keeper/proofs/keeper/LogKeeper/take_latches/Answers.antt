use Rattle.std.proofs.Common.{ap, sym, ◌∙◌, map, length}
use Rattle.std.proofs.lemmas.List.{length-map}
use Rattle.log_keeper.specs.Keeper.{held_by}
use Rattle.log_keeper.proofs.Noting.{written_whole}
use Rattle.log_keeper.proofs.SlotLists.{all_held}
use Rattle.log_keeper.proofs.Memory.{keeps_held}
use Rattle.log_keeper.proofs.keeper.LogKeeper.take_latches.Goals as goal

pub returns-clause-kept : goal.returns-clause-kept
returns-clause-kept c =
    let xs = c.args.self.now.slots.items in
    let is = c.latch_all.ensures ∙ ap (map (held_by c.args.lane)) c.as_mut_slice.ensures.value in
    let same = sym (ap length is ∙ length-map xs (held_by c.args.lane)) in
    all_held c.args.self.now.ledger.items xs _ c.args.lane
    (written_whole c.latch_all.new.slots xs _ same (sym c.as_mut_slice.ensures.len ∙ ap length c.as_mut_slice.ensures.value ∙ same) ∙ is)

pub returns-clause-slots : goal.returns-clause-slots
returns-clause-slots c =
    let xs = c.args.self.now.slots.items in
    let is = c.latch_all.ensures ∙ ap (map (held_by c.args.lane)) c.as_mut_slice.ensures.value in
    let same = sym (ap length is ∙ length-map xs (held_by c.args.lane)) in
    keeps_held c.args.lane xs _ (written_whole c.latch_all.new.slots xs _ same (sym c.as_mut_slice.ensures.len ∙ ap length c.as_mut_slice.ensures.value ∙ same) ∙ is)
