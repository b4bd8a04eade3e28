use Rattle.std.proofs.lemmas.Result.{on_ok_weaker}
use Rattle.region_layout.specs.FiniteMap.{with_pair, without_key}
use Rattle.persist_tree.proofs.Fresh.{root_put, root_removed}
use Rattle.persist_tree.proofs.tests.steps.made.Goals as goal

pub returns-in-Put-clause-map : goal.returns-in-Put-clause-map
returns-in-Put-clause-map g c = on_ok_weaker c.put.result (λ kept. record { contents = with_pair c.in-Put.key c.in-Put.value c.requires.map.contents; is = kept c.requires.map.contents c.requires.map.is }) c.put.ensures.contents

pub returns-in-Remove-clause-map : goal.returns-in-Remove-clause-map
returns-in-Remove-clause-map g c = on_ok_weaker c.remove.result (λ kept. record { contents = without_key c.in-Remove.key c.requires.map.contents; is = kept c.requires.map.contents c.requires.map.is }) c.remove.ensures.contents

pub returns-in-Put-clause-root : goal.returns-in-Put-clause-root
returns-in-Put-clause-root g c = root_put _ _ c.put.result c.put.ensures.blocks c.requires.root

pub returns-in-Remove-clause-root : goal.returns-in-Remove-clause-root
returns-in-Remove-clause-root g c = root_removed _ _ c.remove.result c.remove.ensures.blocks c.requires.root
