use Rattle.std.proofs.Common.{refl, arith}
use Rattle.lane_book.proofs.Pushing.{pushes_fit, pushed_next, pushed_end}
use Rattle.lane_book.proofs.lane.Lane.push_all.Goals as goal

pub loop-write-init : goal.loop-write-init
loop-write-init g c = record { whole = refl; room = c.requires }

pub push-requires : goal.push-requires
push-requires g c = pushes_fit c.args.self.now c.loop-write.self c.args.writes.now c.loop-write.write-index (record { address = 0; value = 0 })
    c.loop-write.invariant c.loop-write-test.true

pub loop-write-preserved : goal.loop-write-preserved
loop-write-preserved g c = pushed_next c.args.self.now c.loop-write.self c.args.writes.now c.loop-write.write-index (record { address = 0; value = 0 }) _
    c.loop-write.invariant c.loop-write-test.true c.push.ensures

pub returns : goal.returns
returns g c = pushed_end c.args.self.now c.loop-write.self c.args.writes.now c.loop-write.write-index c.loop-write.invariant (let out = c.loop-write-test.false in omega (arith, out))
