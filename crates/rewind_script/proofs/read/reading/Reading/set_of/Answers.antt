use Rattle.std.proofs.Common.{ℕ, ◌<◌, ap, ◌∙◌, ◌≡◌, ◌*◌, ◌%◌, ◌^◌, arith}
use Rattle.std.proofs.Math.Pow.{pow-lt}
use Rattle.std.proofs.Math.Nat.{mod-eq_of_lt}
use Rattle.rewind_script.proofs.Lists.{set-on, set-done}
use Rattle.rewind_script.proofs.read.reading.Reading.set_of.Goals as goal

one_bit : (map : ℕ) → map < 8 → 1 * 2 ^ map % 256 ≡ 2 ^ map
one_bit map h =
    let one : 1 * 2 ^ map ≡ 2 ^ map = omega arith in
    ap (λ x. x % 256) one ∙ mod-eq_of_lt (pow-lt h)

pub loop-number-preserved : goal.loop-number-preserved
loop-number-preserved c =
    set-on c.args.self.now c.loop-number.set c.loop-number.number-index c.in_ok-map.map _ c.args.list.now (omega arith) c.in_ok-map.ensures.gives (one_bit c.in_ok-map.map c.in_ok-map.ensures.known.0) c.loop-number.invariant.0 c.loop-number.invariant.1

pub returns : goal.returns
returns c = set-done c.args.self.now c.loop-number.set c.loop-number.number-index c.args.list.now (omega arith) c.loop-number.invariant.0 c.loop-number.invariant.1
