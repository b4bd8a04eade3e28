use Rattle.persist_tree.proofs.Whole.{insert_can, insert_own, insert_made}
use Rattle.persist_tree.proofs.locate.insert.Goals as goal

pub grow-requires : goal.grow-requires
grow-requires g c = insert_can (g.W.Reads.space c.args.words.now) (g.W.Reads.space c.take.new.self) c.args.root c.args.key c.args.top c.in_ok-fresh.fresh (g.met.W.Words.spare_apart c.args.words.now) c.in_ok-fresh.ensures.taken c.requires.map c.requires.top

pub set-requires-clause-own : goal.set-requires-clause-own
set-requires-clause-own g c = insert_own (g.W.Reads.space c.args.words.now) (g.W.Reads.space c.take.new.self) (g.W.Reads.space c.grow.new.words) c.args.root c.args.key c.args.value c.args.top c.in_ok-fresh.fresh c.in_ok-link.link (g.met.W.Words.spare_apart c.args.words.now) c.in_ok-fresh.ensures.taken c.requires.top c.in_ok-link.ensures c.requires.map

pub returns-clause-made : goal.returns-clause-made
returns-clause-made g c = insert_made (g.W.Reads.space c.args.words.now) (g.W.Reads.space c.take.new.self) (g.W.Reads.space c.grow.new.words) c.args.root c.args.key c.args.value c.args.top c.in_ok-fresh.fresh c.in_ok-link.link (g.met.W.Words.spare_apart c.args.words.now) c.in_ok-fresh.ensures.taken c.requires.top c.in_ok-link.ensures
    (g.W.Reads.space c.set.new.words) c.from.result c.requires.value c.in_ok-set.ensures c.from.ensures
