use Rattle.std.proofs.Common.{◌-◌, ◌+◌, slice_index}
use Rattle.std.specs.BTreeSet.{btree_set_len}
use Rattle.lane_traits.specs.Device.{MAX_WORDS}
use Rattle.persist_hash.specs.Reading.{land_in, IsReading}
use Rattle.persist_hash.proofs.soundness.read_chain.Given as goal

abbrev pub invariant-loop-node : goal.invariant-loop-node
invariant-loop-node g l = IsReading (land_in (g.L.Look.words l.words) l.blocks.heap l.blocks.structure) (slice_index (g.L.Look.words l.words)) l.blocks.heap l.root l.chain l.node
    l.marks l.keys

abbrev pub decreases-loop-node : goal.decreases-loop-node
decreases-loop-node g l = MAX_WORDS + 1 - btree_set_len l.keys
