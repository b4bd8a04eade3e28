use Rattle.std.proofs.Common.{sym, ◌∙◌}
use Rattle.log_partition.proofs.Views.{length-viewed}
use Rattle.log_partition.proofs.view.PartViewLook.size.Goals as goal

pub returns : goal.returns
returns g c = c.size.ensures ∙ sym (length-viewed c.args.self.now.partition (g.W.Look.words c.args.self.now.words.now))
