use Rattle.std.proofs.Common.{◌≡◌, ◌*◌, ◌++◌}
use Rattle.rewind_script.specs.Generator.{state_after, repeated, transaction}
use Rattle.rewind_script.proofs.generator.append_transactions.Given as goal

abbrev pub invariant-loop-number : goal.invariant-loop-number
invariant-loop-number l =
    (l.text ≡ l.initial.text ++ repeated transaction 9 l.number l.initial.draws.state) × (l.draws.state ≡ state_after (9 * l.number) l.initial.draws.state)
