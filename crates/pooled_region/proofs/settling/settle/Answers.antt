use Rattle.std.proofs.Common.{◌≡◌, ⊎_elim, ◌<◌, length, sym, ◌∙◌, ap, subst, arith, get_or, set, below_more}
use Rattle.std.proofs.lemmas.Bool.{cases_lt}
use Rattle.std.proofs.lemmas.List.{get_or-set_same, get_or-set_other, get_or_past}
use Rattle.persist_model.specs.Region.{picked}
use Rattle.pooled_region.specs.declared.pool.Word.{Word}
use Rattle.pooled_region.specs.Pool.{no_word, settled_word, word_of, candidates_at, StaysWithin}
use Rattle.pooled_region.proofs.settling.settle.Goals as goal

pub picked_candidate-oldest-requires : goal.picked_candidate-oldest-requires
picked_candidate-oldest-requires c =
    let a = c.loop-address.address in
    let same : c.read_word-word.result ≡ get_or c.args.words.now a no_word = c.read_word-word.ensures ∙ c.loop-address.invariant.rest a (omega arith) in
    let later : c.read_word-word.result.later ≡ (get_or c.args.words.now a no_word).later = ap (λ (w : Word). w.later) same in
    record {
      within = subst (λ (w : Word). StaysWithin c.args.places.now w.newest w.later) (sym same) (c.requires.within a).within;
      small = omega (arith, later, (c.requires.within a).fewer);
    }

pub loop-address-preserved : goal.loop-address-preserved
loop-address-preserved c =
    let a = c.loop-address.address in
    let words = c.loop-address.words in
    let made = settled_word c.picked_candidate-oldest.result in
    let inv = c.loop-address.invariant in
    let same : c.read_word-word.result ≡ get_or c.args.words.now a no_word = c.read_word-word.ensures ∙ inv.rest a (omega arith) in
    let inside : a < length words = omega arith in
    record {
      done = below_more (λ b. get_or (set words a made) b no_word ≡ settled_word (picked c.args.pick b (candidates_at c.args.places.now c.args.words.now b))) a
          (λ b lt. get_or-set_other words a b made no_word (λ e. omega (arith, e, lt)) ∙ inv.done b lt)
          (get_or-set_same words a made no_word inside
          ∙ ap settled_word (c.picked_candidate-oldest.ensures ∙ ap (λ (w : Word). picked c.args.pick a (word_of c.args.places.now w)) same));
      rest = λ b ge. get_or-set_other words a b made no_word (λ e. omega (arith, e, ge)) ∙ inv.rest b (omega (arith, ge));
    }

pub returns-clause-bare : goal.returns-clause-bare
returns-clause-bare c = λ a. ⊎_elim
    (λ below. let done = c.loop-address.invariant.done a (omega (arith, below)) in (ap (λ (w : Word). w.later) done, ap (λ (w : Word). w.oldest.mark) done))
    (λ past. let read : get_or c.loop-address.words a no_word ≡ no_word = get_or_past c.loop-address.words a no_word (omega (arith, past)) in
    (ap (λ (w : Word). w.later) read, ap (λ (w : Word). w.oldest.mark) read))
    (cases_lt a (length c.args.words.now))
