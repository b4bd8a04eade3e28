use Rattle.persist_model.specs.Region.{AreSettled}
use Rattle.word_region.specs.Places.{cells_of}
use Rattle.recovery_tests.proofs.stop_tests.check_row.Given as goal

abbrev pub invariant-loop-stop : goal.invariant-loop-stop
invariant-loop-stop g l = AreSettled (cells_of l.region.settled.items l.region.stores.items)
