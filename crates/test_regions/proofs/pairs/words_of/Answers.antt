use Rattle.std.proofs.Common.{◌∙◌, ◌++◌, ◌∷◌, [], ap, sym, map, arith}
use Rattle.std.specs.List.{range_with_len}
use Rattle.std.proofs.lemmas.List.FromFn.{map-range_with_len_more}
use Rattle.test_regions.specs.Pairs.{word_in, words_in}
use Rattle.test_regions.proofs.pairs.words_of.Goals as goal

pub loop-a-preserved : goal.loop-a-preserved
loop-a-preserved c =
    let next = word_in c.args.pairs.now in
    c.in_ok-push.ensures.items
    ∙ ap (λ words. words ++ c.word_of-word.result ∷ []) c.loop-a.invariant
    ∙ ap (λ word. map next (range_with_len 0 c.loop-a.a) ++ word ∷ []) c.word_of-word.ensures
    ∙ sym (map-range_with_len_more next 0 c.loop-a.a c.loop-a.a (omega arith))

pub returns : goal.returns
unfolding words_in
returns c = c.loop-a.invariant ∙ ap (λ n. map (word_in c.args.pairs.now) (range_with_len 0 n)) (omega arith)
