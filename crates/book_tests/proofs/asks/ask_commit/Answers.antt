use Rattle.book_tests.proofs.Guarding.{are_blocks}
use Rattle.book_tests.proofs.asks.ask_commit.Goals as goal

pub entry_writes-requires-clause-inside : goal.entry_writes-requires-clause-inside
entry_writes-requires-clause-inside g c = are_blocks c.small.result _ c.small.ensures c.expect_begun.ensures.gives
