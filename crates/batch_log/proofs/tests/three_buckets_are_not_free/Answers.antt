use Rattle.batch_log.proofs.TestRegions.{row_has_log}
use Rattle.batch_log.proofs.tests.three_buckets_are_not_free.Goals as goal

pub slots-found-requires-clause-part : goal.slots-found-requires-clause-part
slots-found-requires-clause-part g c =
    row_has_log c.layout_of_tests-layout.result c.part-part.result c.in_ok-row.row.words.items c.layout_of_tests-layout.ensures c.part-part.ensures c.in_ok-row.ensures
