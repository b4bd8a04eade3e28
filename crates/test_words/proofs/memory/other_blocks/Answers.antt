use Rattle.std.proofs.Common.{◌≡◌, ◌+◌, ◌*◌, ◌++◌, List, [], ◌∷◌, ℕ, sym, subst, arith, rules}
use Rattle.test_words.specs.Blocks.{AreOthers}
use Rattle.test_words.proofs.Others.{others_more}
use Rattle.test_words.proofs.memory.other_blocks.Goals as goal

pub loop-k-preserved : goal.loop-k-preserved
loop-k-preserved c =
    let pushed : c.push.new.self ≡ c.loop-k.found ++ (16 + 16 * c.loop-k.k) ∷ [] = search rules in
    subst (λ (xs : List ℕ). AreOthers (c.loop-k.k + 1) xs) (sym pushed) (others_more c.loop-k.k c.loop-k.found (omega arith) c.loop-k.invariant)
