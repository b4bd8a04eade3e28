use Rattle.std.proofs.Common.{arith}
use Rattle.book_tests.proofs.Guarding.{heap_words}
use Rattle.book_tests.proofs.refused.are_inside.Goals as goal

pub returns : goal.returns
returns c = λ _. heap_words c.args.layout c.args.writes.now (λ j lt. c.loop-k.invariant j (omega (arith, lt)))
