use Rattle.std.proofs.Common.{◌+◌, ◌-◌, length, ap, arith}
use Rattle.recovery_analysis.proofs.Gathering.{gates_begin, gates_more, gates_whole, gates_count}
use Rattle.recovery_analysis.proofs.working.gates_of.Goals as goal

pub loop-placed-init : goal.loop-placed-init
loop-placed-init c =
    let made = c.in_ok-made.made in
    let gates = ap length c.in_ok-made.ensures.gates.0 in
    let ends = ap length c.in_ok-made.ensures.ends.0 in
    let checkpoints = ap length c.in_ok-made.ensures.checkpoints.0 in
    record {
      gates = gates_begin c.args.merged.now made.gates.items made.ends.items made.checkpoints.items c.in_ok-made.ensures.gates.0 c.in_ok-made.ensures.ends.0 c.in_ok-made.ensures.checkpoints.0;
      spare = record {
        of_gates = omega (arith, gates, made.gates.ok.0, c.in_ok-made.ensures.gates.1);
        of_ends = omega (arith, ends, made.ends.ok.0, c.in_ok-made.ensures.ends.1);
        of_checkpoints = omega (arith, checkpoints, made.checkpoints.ok.0, c.in_ok-made.ensures.checkpoints.1);
      };
    }

pub put_gate_of-requires : goal.put_gate_of-requires
put_gate_of-requires c =
    let spare = c.loop-placed.invariant.spare in record {
      of_gates = omega (arith, spare.of_gates, c.loop-placed-test.true);
      of_ends = omega (arith, spare.of_ends, c.loop-placed-test.true);
      of_checkpoints = omega (arith, spare.of_checkpoints, c.loop-placed-test.true);
    }

pub loop-placed-preserved : goal.loop-placed-preserved
loop-placed-preserved c =
    let spare = c.loop-placed.invariant.spare in
    let left = length c.args.merged.now - (c.loop-placed.placed-index + 1) in
    record {
      gates = gates_more c.args.merged.now c.loop-placed.placed-index _ _ _ _ _ _ _ c.loop-placed-test.true c.loop-placed.invariant.gates c.put_gate_of.ensures.gates c.put_gate_of.ensures.ends
          c.put_gate_of.ensures.checkpoints;
      spare = c.put_gate_of.ensures.spare (c.args.more + left) (c.args.ends + left) (1 + left) (record {
        of_gates = omega (arith, spare.of_gates, c.loop-placed-test.true);
        of_ends = omega (arith, spare.of_ends, c.loop-placed-test.true);
        of_checkpoints = omega (arith, spare.of_checkpoints, c.loop-placed-test.true);
      });
    }

pub returns-clause-lists : goal.returns-clause-lists
returns-clause-lists c = gates_whole c.args.merged.now c.loop-placed.placed-index _ _ _ (omega arith) c.loop-placed.invariant.gates

pub returns-clause-spare : goal.returns-clause-spare
returns-clause-spare c =
    let spare = c.loop-placed.invariant.spare in record {
      of_gates = omega (arith, spare.of_gates);
      of_ends = omega (arith, spare.of_ends);
      of_checkpoints = omega (arith, spare.of_checkpoints);
    }

pub returns-clause-count : goal.returns-clause-count
returns-clause-count c =
    let made = c.loop-placed.made in
    let count = gates_count c.args.merged.now c.loop-placed.placed-index made.gates.items made.ends.items made.checkpoints.items (omega arith) c.loop-placed.invariant.gates in
    omega (arith, count, made.gates.ok.0, made.ends.ok.0, made.checkpoints.ok.0)
