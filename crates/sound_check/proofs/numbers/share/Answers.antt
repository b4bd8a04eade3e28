use Rattle.std.proofs.Common.{◌≡◌, ◌==◌, true, eq-eqb}
use Rattle.sound_check.proofs.numbers.share.Goals as goal

pub returns-then-home-p : goal.returns-then-home-p
returns-then-home-p c = λ part log whole. let e : (c.args.home.part == c.args.p) ≡ true = eq-eqb _ _ c.if-home-p.true in rw e (c.need_of.ensures part c.args.home.transaction log (c.of.ensures.summary part log whole))
