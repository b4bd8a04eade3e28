use Rattle.std.proofs.Common.{arith, rules}
use Rattle.test_words.proofs.Owned.{owners_more, others_stay}
use Rattle.test_words.proofs.memory.owned_words.Goals as goal

pub loop-k-preserved : goal.loop-k-preserved
loop-k-preserved c =
    let size = c.loop-k.invariant.size in
    let below = c.loop-k-test.true in
    record {
      size = search rules;
      owners = owners_more c.loop-k.words.items c.loop-k.k (omega (arith, size, below)) c.loop-k.invariant.owners;
      others = others_stay c.loop-k.words.items c.loop-k.k c.loop-k.invariant.others;
    }

pub returns-clause-others : goal.returns-clause-others
returns-clause-others c = λ a out. c.loop-k.invariant.others a (λ j lt. out j (omega (arith, lt)))
