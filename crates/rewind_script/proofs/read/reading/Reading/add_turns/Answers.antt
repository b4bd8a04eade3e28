use Rattle.std.proofs.Common.{◌∙◌, sym, arith}
use Rattle.std.proofs.lemmas.Result.{err_from_is_err_and}
use Rattle.rewind_script.specs.TurnLines.{add_turns}
use Rattle.rewind_script.proofs.Lists.{turn-on, turn-off, turn-done}
use Rattle.rewind_script.proofs.read.reading.Reading.add_turns.Goals as goal

pub returns-in_err-add_turn-clause-moves : goal.returns-in_err-add_turn-clause-moves
returns-in_err-add_turn-clause-moves c =
    let p = err_from_is_err_and c.from_residual.result c.from_residual.ensures.1 in
    rw (p.1, p.2) (turn-off c.loop-turn.self c.loop-turn.turn-index c.args.list.now _ (add_turns c.args.self.now c.args.list.now) c.in_err-add_turn.field-0.0 (omega arith) c.in_err-add_turn.ensures.moves c.loop-turn.invariant.0)

pub loop-turn-preserved : goal.loop-turn-preserved
loop-turn-preserved c = (turn-on c.loop-turn.self c.add_turn.new.self c.loop-turn.turn-index c.args.list.now _ (add_turns c.args.self.now c.args.list.now) (omega arith) c.in_ok-add_turn.ensures.moves c.loop-turn.invariant.0, c.in_ok-add_turn.ensures.small)

pub returns-clause-moves : goal.returns-clause-moves
returns-clause-moves c = sym c.loop-turn.invariant.0 ∙ turn-done c.loop-turn.self c.loop-turn.turn-index c.args.list.now (omega arith)
