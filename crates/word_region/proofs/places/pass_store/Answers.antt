use Rattle.std.proofs.Common.{◌≡◌, true, ap, ◌∙◌, eq-eqb, get_or}
use Rattle.std.specs.List.{list_any}
use Rattle.std.proofs.lemmas.List.{get_or_default}
use Rattle.persist_model.specs.Region.{candidate, has_mark}
use Rattle.word_region.specs.Places.{is_elsewhere, bears}
use Rattle.word_region.proofs.FencePass.{none_filter, unmarked_own, marked_step}
use Rattle.word_region.proofs.places.pass_store.Goals as goal

pub returns-then-passed-mark-clause-fenced : goal.returns-then-passed-mark-clause-fenced
returns-then-passed-mark-clause-fenced c =
    let ss = c.args.stores.now in
    let s = get_or ss c.args.at (record { address = 0; candidate = candidate 0 0 }) in
    let within = c.requires.within c.args.at (record { address = 0; candidate = candidate 0 0 }) c.requires.at in
    let own : has_mark c.args.mark s.candidate ≡ true = eq-eqb _ _ c.if-passed-mark.true in
    let bare = c.without_mark.ensures ∙ unmarked_own c.args.mark s.candidate own in
    rw bare (marked_step c.args.mark c.args.settled.now ss c.drop_word.new.stores c.args.kept c.args.at c.drop_word.result s c.requires.order c.requires.at
    (get_or_default ss c.args.at _ s c.requires.at) within own c.drop_word.ensures.front c.drop_word.ensures.rest)

pub returns-then-passed-mark-clause-quiet : goal.returns-then-passed-mark-clause-quiet
returns-then-passed-mark-clause-quiet c = λ quiet.
    let s = get_or c.args.stores.now c.args.at (record { address = 0; candidate = candidate 0 0 }) in
    ap (list_any (bears c.args.mark)) c.drop_word.ensures.front ∙ none_filter (bears c.args.mark) (is_elsewhere s.address) _ quiet
