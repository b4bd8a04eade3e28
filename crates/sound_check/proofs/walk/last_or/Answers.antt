use Rattle.std.proofs.Common.{◌≡◌, ◌<◌, ℕ, length, ◌==◌, false, sym, arith}
use Rattle.std.proofs.lemmas.Bool.Decides.{nat_tests}
use Rattle.sound_check.proofs.BucketLists.{last_is}
use Rattle.sound_check.proofs.walk.last_or.Goals as goal

some : (n : ℕ) → (n == 0) ≡ false → 0 < n
some n e = grind (arith, nat_tests)

pub returns : goal.returns
returns c = last_is c.args.buckets.now c.args.other (some (length c.args.buckets.now) (sym c.if-is_empty.ensures))
