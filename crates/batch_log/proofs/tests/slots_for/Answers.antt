use Rattle.std.specs.Prelude.{slice_index}
use Rattle.std.proofs.Common.{refl}
use Rattle.batch_log.proofs.TestRegions.{row_has_log}
use Rattle.batch_log.proofs.tests.slots_for.Goals as goal

pub slots-requires-clause-part : goal.slots-requires-clause-part
slots-requires-clause-part g c = row_has_log c.args.layout c.part-part.result c.args.row.now.words.items c.requires.layout c.part-part.ensures c.requires.row

pub returns-clause-enough : goal.returns-clause-enough
returns-clause-enough g c = (c.if-not-slots.ensures.chosen (slice_index c.args.row.now.words.items) (λ a lt. refl)).all_there
