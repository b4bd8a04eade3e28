use Rattle.std.proofs.Common.{◌∙◌}
use Rattle.std.proofs.lemmas.Result.{on_ok_weaker}
use Rattle.persist_hash.proofs.Fresh.{root_took, root_removed}
use Rattle.persist_hash.proofs.tests.steps.made.Goals as goal

pub returns-in-Put-clause-root : goal.returns-in-Put-clause-root
returns-in-Put-clause-root g c =
    on_ok_weaker c.put.result
    (λ takes. root_took _ (g.W.Reads.space c.args.words.now) (g.W.Reads.space c.put.new.words) (takes c.requires.map.contents c.requires.map.holds).took ∙ c.requires.root)
    c.put.ensures.takes

pub returns-in-Remove-clause-root : goal.returns-in-Remove-clause-root
returns-in-Remove-clause-root g c = root_removed (g.W.Reads.space c.args.words.now) (g.W.Reads.space c.remove.new.words) c.remove.result c.remove.ensures.gives c.requires.root
