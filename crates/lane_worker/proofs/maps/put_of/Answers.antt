use Rattle.std.proofs.Common.{subst}
use Rattle.region_layout.specs.declared.layout.Kind.{Kind}
use Rattle.lane_worker.specs.Drafts.{HoldsOf}
use Rattle.lane_worker.proofs.Fewer.{tree_fewer, hash_fewer, cells_place, tree_place, hash_place}
use Rattle.lane_worker.proofs.maps.put_of.Goals as goal

pub returns-in-Ok-put-clause-fewer : goal.returns-in-Ok-put-clause-fewer
returns-in-Ok-put-clause-fewer g c = tree_fewer (g.W.Reads.space c.args.words.now) (g.W.Reads.space c.put-in-Tree.new.words) c.in-Ok-put.field-0 c.in-Ok-put.ensures.blocks

pub returns-in-Ok-put-2-clause-fewer : goal.returns-in-Ok-put-2-clause-fewer
returns-in-Ok-put-2-clause-fewer g c = hash_fewer _ (g.W.Reads.space c.args.words.now) (g.W.Reads.space c.put-in-Hash.new.words)
    (c.in-Ok-put-2.ensures.takes c.requires.map.contents (subst (λ (k : Kind). HoldsOf k (g.W.Reads.space c.args.words.now) c.args.root c.requires.map.contents) c.in-Hash.is c.requires.map.is))

pub returns-in-Ok-clause-place : goal.returns-in-Ok-clause-place
returns-in-Ok-clause-place g c = cells_place (g.W.Reads.space c.args.words.now) (g.W.Reads.space c.put.new.words) c.in-Ok.ensures.blocks

pub returns-in-Ok-put-clause-place : goal.returns-in-Ok-put-clause-place
returns-in-Ok-put-clause-place g c = tree_place (g.W.Reads.space c.args.words.now) (g.W.Reads.space c.put-in-Tree.new.words) c.in-Ok-put.field-0 c.in-Ok-put.ensures.blocks

pub returns-in-Ok-put-2-clause-place : goal.returns-in-Ok-put-2-clause-place
returns-in-Ok-put-2-clause-place g c = hash_place _ (g.W.Reads.space c.args.words.now) (g.W.Reads.space c.put-in-Hash.new.words)
    (c.in-Ok-put-2.ensures.takes c.requires.map.contents (subst (λ (k : Kind). HoldsOf k (g.W.Reads.space c.args.words.now) c.args.root c.requires.map.contents) c.in-Hash.is c.requires.map.is))

pub returns-in-Ok-clause-once : goal.returns-in-Ok-clause-once
returns-in-Ok-clause-once g c = (g.met.W.Words.spare_apart c.put.new.words).once

pub returns-in-Ok-put-clause-once : goal.returns-in-Ok-put-clause-once
returns-in-Ok-put-clause-once g c = (g.met.W.Words.spare_apart c.put-in-Tree.new.words).once

pub returns-in-Ok-put-2-clause-once : goal.returns-in-Ok-put-2-clause-once
returns-in-Ok-put-2-clause-once g c = (g.met.W.Words.spare_apart c.put-in-Hash.new.words).once
