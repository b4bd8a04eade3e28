use Rattle.std.proofs.Common.{◌<◌, sym, arith}
use Rattle.std.proofs.lemmas.List.{take_all}
use Rattle.std.proofs.lemmas.List.Elements.{All-more, All-same}
use Rattle.log_tests.proofs.recovery_tests.are_below.Goals as goal

pub loop-gate-preserved : goal.loop-gate-preserved
loop-gate-preserved c = All-more (λ a. a < c.args.size) c.args.gates.now c.loop-gate.gate-index 0 (omega arith) c.loop-gate.invariant c.if-gate-size.false

pub returns : goal.returns
returns c = λ _. All-same (λ a. a < c.args.size) c.args.gates.now _ (sym (take_all c.loop-gate.gate-index c.args.gates.now (omega arith))) c.loop-gate.invariant
