use Rattle.std.proofs.Common.{refl, arith}
use Rattle.txn_core.proofs.Freeing.{freeing_head, freeing_next, freeing_end}
use Rattle.txn_core.proofs.clearing.free_taken.Goals as goal

pub loop-write-init : goal.loop-write-init
loop-write-init c = record { inside = c.requires.inside; many = c.requires.many; whole = refl }

pub free_owned-requires-clause-inside : goal.free_owned-requires-clause-inside
free_owned-requires-clause-inside c = freeing_head c.args.layout c.args.writes.now c.args.blocks.now c.loop-write.blocks c.loop-write.write-index (record { address = 0; value = 0 }) c.loop-write.invariant c.loop-write-test.true

pub free_owned-requires-clause-many : goal.free_owned-requires-clause-many
free_owned-requires-clause-many c = c.loop-write.invariant.many

pub loop-write-preserved : goal.loop-write-preserved
loop-write-preserved c = freeing_next c.args.layout c.args.writes.now c.args.blocks.now c.loop-write.blocks _ c.loop-write.write-index (record { address = 0; value = 0 })
    c.loop-write.invariant c.loop-write-test.true c.free_owned.ensures

pub returns : goal.returns
returns c = freeing_end c.args.layout c.args.writes.now c.args.blocks.now c.loop-write.blocks c.loop-write.write-index c.loop-write.invariant (let out = c.loop-write-test.false in omega (arith, out))
