use Rattle.std.specs.Prelude.{slice_index, length}
use Rattle.std.proofs.Common.{◌∙◌}
use Rattle.atomic_list.proofs.Agreeing.{asked_same}
use Rattle.atomic_list.proofs.repairing.repair_of.Goals as goal

pub returns : goal.returns
returns g c = λ w same. c.read_repair.ensures ∙ asked_same (length (g.W.Look.words c.args.words.now)) (slice_index (g.W.Look.words c.args.words.now)) w c.requires same
