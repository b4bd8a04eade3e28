use Rattle.std.proofs.Common.{◌≡◌, ◌*◌, ◌++◌}
use Rattle.rewind_script.specs.Generator.{state_after, repeated, put_line}
use Rattle.rewind_script.proofs.generator.append_puts.Given as goal

abbrev pub invariant-loop-number : goal.invariant-loop-number
invariant-loop-number l =
    (l.text ≡ l.initial.text ++ repeated (put_line l.structure) 2 l.number l.initial.draws.state) × (l.draws.state ≡ state_after (2 * l.number) l.initial.draws.state)
