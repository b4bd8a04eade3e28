use Rattle.std.proofs.Common.{refl}
use Rattle.persist_tree.proofs.Sounding.{own_word}
use Rattle.persist_tree.proofs.soundness.is_own.Goals as goal

pub returns : goal.returns
returns g c = own_word (g.L.Look.words c.args.words.now) c.args.area.heap c.args.blocks c.args.area.structure c.requires c.args.link c.word.result c.from.result (c.if-not-is_within.ensures.0 refl) c.word.ensures c.from.ensures
