use Rattle.std.proofs.Common.{◌≡◌, ℕ, suc, ◌<◌, length, get_or}
use Rattle.turn_hub.proofs.open.first_words.Given as goal

abbrev pub invariant-loop-a : goal.invariant-loop-a
invariant-loop-a g l =
    (length l.words.items ≡ suc l.a) × (get_or l.words.items 0 0 ≡ 1) × ((b : ℕ) → b < l.a → get_or l.words.items (suc b) 0 ≡ (g.T.Laned.seen l.value).word b)
