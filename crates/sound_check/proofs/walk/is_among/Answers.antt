use Rattle.std.proofs.Common.{refl, ◌∙◌, arith}
use Rattle.sound_check.proofs.BucketLists.{among_here, among_left, among_none}
use Rattle.sound_check.proofs.walk.is_among.Goals as goal

pub loop-x-preserved : goal.loop-x-preserved
loop-x-preserved c = λ m. among_left c.args.buckets.now c.args.b c.loop-x.x-index (omega arith) (c.loop-x.invariant m) (λ e. c.if-from-b.false (c.from.ensures ∙ e))

pub returns-then-from-b : goal.returns-then-from-b
returns-then-from-b c = ((λ t. among_here c.args.buckets.now c.args.b c.loop-x.x-index (omega arith) cc), (λ m. refl))

pub returns : goal.returns
returns c = ((λ t. cc), (λ m. absurd (among_none c.args.buckets.now c.args.b c.loop-x.x-index (omega arith) (c.loop-x.invariant m))))
