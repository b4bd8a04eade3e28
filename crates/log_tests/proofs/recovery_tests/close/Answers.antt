use Rattle.std.proofs.Common.{arith}
use Rattle.log_clearing.specs.Plans.{closing_plan}
use Rattle.log_tests.proofs.Running.{below_of, closing_within, closing-length, stores_fit}
use Rattle.log_tests.proofs.recovery_tests.close.Goals as goal

pub run-requires-clause-within : goal.run-requires-clause-within
run-requires-clause-within g c = closing_within (g.D.Device.cells c.ready-size.new.device).size _ _ _
    (below_of _ _ _ _ c.as_slice.ensures c.ready-size.ensures.size (c.are_below.ensures c.if-not-are_below.false))
    (below_of _ _ _ _ c.as_slice-2.ensures c.ready-size.ensures.size (c.are_below-2.ensures c.if-not-are_below-2.false))
    (below_of _ _ _ _ c.as_slice-3.ensures c.ready-size.ensures.size (c.are_below-3.ensures c.if-not-are_below-3.false))

pub run-requires-clause-spare : goal.run-requires-clause-spare
run-requires-clause-spare g c =
    let long = closing-length c.args.list.now.gates c.args.list.now.ends c.args.list.now.checkpoints (omega arith) (omega arith) (omega arith) in
    let spare = c.ready-size.ensures.spare in
    stores_fit (closing_plan c.args.list.now.gates c.args.list.now.ends c.args.list.now.checkpoints) (g.D.Device.spare c.ready-size.new.device) (omega (arith, long, spare))

pub run-requires-clause-few : goal.run-requires-clause-few
run-requires-clause-few g c =
    let long = closing-length c.args.list.now.gates c.args.list.now.ends c.args.list.now.checkpoints (omega arith) (omega arith) (omega arith) in
    omega (arith, long)
