use Rattle.lane_book.proofs.Pushing.{AreListed}
use Rattle.lane_book.proofs.asks.disown_all.Given as goal

abbrev pub invariant-loop-block : goal.invariant-loop-block
invariant-loop-block l = AreListed l.layout l.initial.list l.list l.blocks l.block-index
