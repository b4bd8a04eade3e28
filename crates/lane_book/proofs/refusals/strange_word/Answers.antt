use Rattle.std.proofs.Common.{arith}
use Rattle.lane_book.proofs.Strange.{left_first, head_inside, left_next, left_found, left_end}
use Rattle.lane_book.proofs.refusals.strange_word.Goals as goal

pub loop-write-init : goal.loop-write-init
loop-write-init g c = left_first c.args.layout c.args.blocks.now c.args.lane.now c.args.writes.now c.requires.inside

pub block_of-requires : goal.block_of-requires
block_of-requires g c = head_inside c.args.layout c.args.blocks.now c.args.lane.now c.args.writes.now c.loop-write.write-index (record { address = 0; value = 0 })
    c.loop-write.invariant c.loop-write-test.true

pub returns-in-Some : goal.returns-in-Some
returns-in-Some g c = left_found c.args.layout c.args.blocks.now c.args.lane.now c.args.writes.now c.loop-write.write-index c.block_of.result c.in-Some.owner
    (record { address = 0; value = 0 }) c.loop-write.invariant c.loop-write-test.true c.block_of.ensures.number c.in-Some.ensures

pub loop-write-preserved : goal.loop-write-preserved
loop-write-preserved g c = left_next c.args.layout c.args.blocks.now c.args.lane.now c.args.writes.now c.loop-write.write-index c.block_of.result
    (record { address = 0; value = 0 }) c.loop-write.invariant c.loop-write-test.true c.block_of.ensures.number c.in_default.ensures

pub returns : goal.returns
returns g c = left_end c.args.layout c.args.blocks.now c.args.lane.now c.args.writes.now c.loop-write.write-index c.loop-write.invariant (let out = c.loop-write-test.false in omega (arith, out))
