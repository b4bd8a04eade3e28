use Rattle.std.proofs.Common.{◌≡◌, inl, ◌<◌, refl, ◌∙◌, subst, arith, get_or, below_more}
use Rattle.persist_model.specs.Region.{fenced}
use Rattle.pooled_region.specs.Pool.{candidates_at}
use Rattle.pooled_region.proofs.Fences.{fenced_here, fenced_each, fenced_done, fenced_all, mark_is_some}
use Rattle.pooled_region.proofs.marks.fence_words.Goals as goal

pub loop-index-init : goal.loop-index-init
loop-index-init c = record { pooled = c.requires.pooled; state = λ a. inl refl; done = λ i lt. absurd (omega arith); room = omega arith; none_lost = refl }

pub fence_word-requires : goal.fence_word-requires
fence_word-requires c = record {
  pooled = c.loop-index.invariant.pooled;
  address = omega (arith, c.requires.within c.loop-index.index c.loop-index-test.true);
}

pub loop-index-preserved : goal.loop-index-preserved
loop-index-preserved c =
    let word = get_or c.args.listed.now c.loop-index.index 0 in
    let before = candidates_at c.args.places.now c.args.words.now in
    let now = candidates_at c.loop-index.places c.loop-index.words in
    let later = candidates_at c.fence_word.new.places c.fence_word.new.words in
    let inv = c.loop-index.invariant in
    record {
      pooled = c.fence_word.ensures.pooled;
      state = fenced_each c.args.mark word before now later c.requires.mark inv.state c.fence_word.ensures.here c.fence_word.ensures.others;
      done = below_more (λ i. later (get_or c.args.listed.now i 0) ≡ fenced c.args.mark (before (get_or c.args.listed.now i 0))) c.loop-index.index
          (λ i lt. fenced_done c.args.mark word before now later (get_or c.args.listed.now i 0) c.requires.mark inv.state c.fence_word.ensures.here c.fence_word.ensures.others (inv.done i lt))
          (fenced_here c.args.mark (before word) (now word) (later word) c.requires.mark (inv.state word) c.fence_word.ensures.here);
      room = omega arith;
      none_lost = c.fence_word.ensures.none_lost ∙ inv.none_lost;
    }

pub returns-clause-fenced : goal.returns-clause-fenced
returns-clause-fenced c = λ a.
    let before = candidates_at c.args.places.now c.args.words.now in
    let now = candidates_at c.loop-index.places c.loop-index.words in
    fenced_all c.args.mark (before a) (now a) (c.loop-index.invariant.state a)
    (λ own.
    let there = c.requires.found a (mark_is_some c.args.mark (before a) c.requires.mark own) in
    let passed : there.0 < c.loop-index.index = omega (arith, there.1) in
    subst (λ n. now n ≡ fenced c.args.mark (before n)) there.2 (c.loop-index.invariant.done there.0 passed))
