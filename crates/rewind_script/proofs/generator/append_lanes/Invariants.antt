use Rattle.std.proofs.Common.{◌≡◌, ◌*◌, ◌++◌}
use Rattle.rewind_script.specs.Generator.{state_after, repeated, lane_text}
use Rattle.rewind_script.proofs.generator.append_lanes.Given as goal

abbrev pub invariant-loop-number : goal.invariant-loop-number
invariant-loop-number l =
    (l.text ≡ l.initial.text ++ repeated lane_text 2250 l.number l.initial.draws.state) × (l.draws.state ≡ state_after (2250 * l.number) l.initial.draws.state)
