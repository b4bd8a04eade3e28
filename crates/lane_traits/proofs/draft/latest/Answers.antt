use Rattle.std.proofs.Common.{◌∙◌, ap, sym, unwrap_or, arith}
use Rattle.lane_traits.proofs.Writes.{latest_here, latest_there}
use Rattle.lane_traits.proofs.draft.latest.Goals as goal

pub loop-write-preserved : goal.loop-write-preserved
loop-write-preserved c = λ w. elim c.if-write-a.branch [
  | goal.then-write-a b ↦ latest_here c.args.log.now c.loop-write.write-index c.args.a _ w (omega arith) b.if-write-a.true
      ∙ ap (λ r. unwrap_or r (w c.args.a)) (sym b.found-is)
  | goal.else-write-a b ↦ latest_there c.args.log.now c.loop-write.write-index c.args.a _ w (omega arith) b.if-write-a.false
      ∙ c.loop-write.invariant w ∙ ap (λ r. unwrap_or r (w c.args.a)) (sym b.found-is)
]
