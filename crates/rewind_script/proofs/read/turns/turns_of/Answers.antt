use Rattle.std.proofs.Common.{◌∙◌, sym, arith}
use Rattle.std.proofs.lemmas.Result.{err_from_is_err_and}
use Rattle.rewind_script.specs.TurnLines.{turn_list}
use Rattle.rewind_script.specs.Answers.{texts}
use Rattle.rewind_script.proofs.Lists.{turns-on, turns-off, turns-done}
use Rattle.rewind_script.proofs.read.turns.turns_of.Goals as goal

pub returns-in_err-turn_of : goal.returns-in_err-turn_of
returns-in_err-turn_of c =
    let p = err_from_is_err_and c.from_residual.result c.from_residual.ensures.1 in
    rw (p.1, p.2) (turns-off c.loop-word.list.items c.loop-word.word-index c.args.args.now _ (turn_list (texts c.args.args.now)) c.in_err-turn_of.field-0.0 (omega arith) c.in_err-turn_of.ensures c.loop-word.invariant)

pub loop-word-preserved : goal.loop-word-preserved
loop-word-preserved c =
    rw c.in_ok-push.ensures.items (turns-on c.loop-word.list.items c.loop-word.word-index c.args.args.now _ c.in_ok-turn_of.field-0 (turn_list (texts c.args.args.now)) (omega arith) c.in_ok-turn_of.ensures c.loop-word.invariant)

pub returns : goal.returns
returns c = sym c.loop-word.invariant ∙ turns-done c.loop-word.list.items c.loop-word.word-index c.args.args.now (omega arith)
