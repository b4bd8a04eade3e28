use Rattle.persist_hash.proofs.Adding.{fills_none, fills_more}
use Rattle.persist_hash.proofs.add.fill_links.Goals as goal

pub loop-i-init : goal.loop-i-init
loop-i-init g c = fills_none c.args.directory c.args.place c.args.node (g.W.Reads.space c.args.words.now)

pub loop-i-preserved : goal.loop-i-preserved
loop-i-preserved g c =
    fills_more c.args.directory c.args.place c.args.node c.loop-i.i c.link_for.result (g.W.Reads.space c.args.words.now) (g.W.Reads.space c.loop-i.words)
    (g.W.Reads.space c.set.new.words) c.loop-i.invariant c.in_ok-set.ensures.made c.link_for.ensures
