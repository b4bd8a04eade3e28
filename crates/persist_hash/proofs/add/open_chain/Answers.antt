use Rattle.std.proofs.Common.{◌+◌, ◌∙◌, ap}
use Rattle.lane_traits.specs.Space.{written}
use Rattle.persist_hash.proofs.Adding.{opens_of}
use Rattle.persist_hash.proofs.add.open_chain.Goals as goal

pub returns-clause-opened : goal.returns-clause-opened
returns-clause-opened g c =
    let a = c.args in
    opens_of a.root a.index a.directory a.place a.node a.key a.value (g.W.Reads.space a.words.now) (g.W.Reads.space c.fill_links.new.words) (g.W.Reads.space c.set-4.new.words)
    c.requires.three c.requires.index c.in_ok-fill_links.ensures.filled
    (c.in_ok-set-4.ensures.made ∙ ap (λ v. written (a.root + (1 + a.index)) v (g.W.Reads.space c.set-3.new.words)) c.from.ensures
    ∙ ap (written (a.root + (1 + a.index)) a.directory) (c.in_ok-set-3.ensures.made ∙ ap (written (a.node + 3) 0) (c.in_ok-set-2.ensures.made
    ∙ ap (written (a.node + 2) a.value) c.in_ok-set.ensures.made)))
