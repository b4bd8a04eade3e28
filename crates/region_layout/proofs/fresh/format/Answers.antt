use Rattle.std.proofs.Common.{◌∙◌, ◌++◌, ◌∷◌, [], ap, sym, map, arith}
use Rattle.std.specs.List.{range_with_len}
use Rattle.std.proofs.lemmas.List.FromFn.{map-range_with_len_more}
use Rattle.region_layout.specs.Layout.{layout_shape}
use Rattle.region_layout.specs.Fresh.{fresh_word, fresh_words}
use Rattle.region_layout.proofs.fresh.format.Goals as goal

pub loop-a-preserved : goal.loop-a-preserved
loop-a-preserved c =
    let next = fresh_word (layout_shape c.args.layout) c.args.kinds.now in
    c.in_default.ensures.ok
    ∙ ap (λ words. words ++ c.word_of.result ∷ []) c.loop-a.invariant
    ∙ ap (λ word. map next (range_with_len 0 c.loop-a.a) ++ word ∷ []) c.word_of.ensures
    ∙ sym (map-range_with_len_more next 0 c.loop-a.a c.loop-a.a (omega arith))

pub returns : goal.returns
unfolding fresh_words
returns c = c.loop-a.invariant ∙ ap (λ n. map (fresh_word (layout_shape c.args.layout) c.args.kinds.now) (range_with_len 0 n)) (omega arith)
