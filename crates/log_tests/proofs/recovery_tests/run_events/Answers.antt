use Rattle.std.proofs.Common.{arith}
use Rattle.log_tests.proofs.Running.{inside_of, stores_fit}
use Rattle.log_tests.proofs.recovery_tests.run_events.Goals as goal

pub run-requires-clause-within : goal.run-requires-clause-within
run-requires-clause-within g c = inside_of _ _ _ _ c.as_slice.ensures c.ready-size.ensures.size (c.are_inside.ensures c.if-not-are_inside.false)

pub run-requires-clause-spare : goal.run-requires-clause-spare
run-requires-clause-spare g c = stores_fit c.args.plan.now.events (g.D.Device.spare c.ready-size.new.device)
    (let long = c.len.ensures in let spare = c.ready-size.ensures.spare in omega (arith, long, spare))
