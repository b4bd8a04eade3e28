use Rattle.std.proofs.Common.{◌≡◌, arith}
use Rattle.log_keeper.specs.Parts.{rests}
use Rattle.keeper_tests.proofs.Kept.{part_of_slot}
use Rattle.keeper_tests.proofs.lanes.Lanes.release.Goals as goal

pub release_latch-requires-clause-rests : goal.release_latch-requires-clause-rests
release_latch-requires-clause-rests g c = part_of_slot (λ part. part ≡ rests) c.args.self.now.keeper.slots.items c.args.p c.index.result.now (omega arith) c.index.ensures (c.is_resting.ensures c.if-not-is_resting.false)
