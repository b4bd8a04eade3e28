use Rattle.lane_worker.proofs.Fewer.{tree_removed, cells_place, tree_removed_place, hash_removed_place}
use Rattle.lane_worker.proofs.maps.remove_of.Goals as goal

pub returns-in-Ok-remove-clause-fewer : goal.returns-in-Ok-remove-clause-fewer
returns-in-Ok-remove-clause-fewer g c = tree_removed (g.W.Reads.space c.args.words.now) (g.W.Reads.space c.remove-in-Tree.new.words) c.in-Ok-remove.field-0 c.in-Ok-remove.ensures.blocks

pub returns-in-Ok-clause-place : goal.returns-in-Ok-clause-place
returns-in-Ok-clause-place g c = cells_place (g.W.Reads.space c.args.words.now) (g.W.Reads.space c.remove.new.words) c.in-Ok.ensures.blocks

pub returns-in-Ok-remove-clause-place : goal.returns-in-Ok-remove-clause-place
returns-in-Ok-remove-clause-place g c = tree_removed_place (g.W.Reads.space c.args.words.now) (g.W.Reads.space c.remove-in-Tree.new.words) c.in-Ok-remove.field-0 c.in-Ok-remove.ensures.blocks

pub returns-in-Ok-remove-2-clause-place : goal.returns-in-Ok-remove-2-clause-place
returns-in-Ok-remove-2-clause-place g c = hash_removed_place (g.W.Reads.space c.args.words.now) (g.W.Reads.space c.remove-in-Hash.new.words) c.in-Ok-remove-2.field-0 c.in-Ok-remove-2.ensures.gives

pub returns-in-Ok-clause-once : goal.returns-in-Ok-clause-once
returns-in-Ok-clause-once g c = (g.met.W.Words.spare_apart c.remove.new.words).once

pub returns-in-Ok-remove-clause-once : goal.returns-in-Ok-remove-clause-once
returns-in-Ok-remove-clause-once g c = (g.met.W.Words.spare_apart c.remove-in-Tree.new.words).once

pub returns-in-Ok-remove-2-clause-once : goal.returns-in-Ok-remove-2-clause-once
returns-in-Ok-remove-2-clause-once g c = (g.met.W.Words.spare_apart c.remove-in-Hash.new.words).once
