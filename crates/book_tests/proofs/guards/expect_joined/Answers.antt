use Rattle.std.proofs.Common.{sym, ◌∙◌}
use Rattle.book_tests.proofs.Guarding.{has_joined}
use Rattle.book_tests.proofs.guards.expect_joined.Goals as goal

pub returns : goal.returns
returns g c = has_joined c.args.book.now c.args.lane c.lane_of.result.now c.history.result.now c.lane_of.ensures (c.is_out.ensures c.if-not-is_out.false) c.history.ensures (sym c.has_joined.ensures ∙ c.if-not-has_joined.false)
