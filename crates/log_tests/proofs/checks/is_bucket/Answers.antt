use Rattle.std.proofs.Common.{◌-◌, ◌/◌, arith}
use Rattle.log_tests.proofs.checks.is_bucket.Goals as goal

pub returns : goal.returns
returns c = λ _. (c.args.a / 16 - 2, omega arith, omega arith, omega arith)
