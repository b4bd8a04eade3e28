use Rattle.lane_book.specs.Steps.{IsPlain}
use Rattle.book_tests.proofs.asks.ask_checkpoint.Goals as goal

pub ask_plain-requires-clause-plain : goal.ask_plain-requires-clause-plain
ask_plain-requires-clause-plain g c = IsPlain.checkpoint
