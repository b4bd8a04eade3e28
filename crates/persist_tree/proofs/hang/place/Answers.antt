use Rattle.std.proofs.lemmas.Result.{on_ok_weaker}
use Rattle.persist_tree.proofs.Building.{placed_of}
use Rattle.persist_tree.proofs.hang.place.Goals as goal

pub returns : goal.returns
returns g c =
    on_ok_weaker c.store.result
    (λ made. placed_of (g.W.Reads.space c.args.words.now) (g.W.Reads.space c.set.new.words) (g.W.Reads.space c.set-2.new.words) (g.W.Reads.space c.store.new.words) c.args.fresh c.args.key c.args.value c.requires c.in_ok-set.ensures c.in_ok-set-2.ensures made)
    c.store.ensures
