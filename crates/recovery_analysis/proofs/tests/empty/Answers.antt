use Rattle.std.proofs.Common.{◌≡◌, ℕ, ◌<◌, ◌^◌, List, length, sym, ap, ◌∙◌, subst, arith}
use Rattle.std.specs.Prelude.{slice_index}
use Rattle.std.proofs.lemmas.List.FromFn.{length-map-range_with_len}
use Rattle.persist_model.specs.Shape.{Shape, words_of_shape}
use Rattle.persist_model.specs.Sound.{IsSound}
use Rattle.region_layout.specs.declared.layout.Kind.{Kind}
use Rattle.region_layout.specs.declared.layout.Layout.{Layout}
use Rattle.region_layout.specs.Layout.{layout_shape, IsAllowed}
use Rattle.region_layout.specs.Fresh.{fresh_word, fresh_words}
use Rattle.region_layout.proofs.Empty.{fresh_is_empty}
use Rattle.region_layout.proofs.Places.{sizes_bounded}
use Rattle.recovery_analysis.specs.Conditions.{IsSoundImage}
use Rattle.recovery_analysis.proofs.tests.empty.Goals as goal

length-fresh : (shape : Shape) (kinds : List Kind) → length (fresh_words shape kinds) ≡ words_of_shape shape
unfolding fresh_words
length-fresh shape kinds = length-map-range_with_len (fresh_word shape kinds) 0 (words_of_shape shape)

fresh_small : (layout : Layout) (kinds : List Kind) (words : List ℕ) → IsAllowed (layout_shape layout) → words ≡ fresh_words (layout_shape layout) kinds → length words < 2 ^ 32
fresh_small layout kinds words ok is =
    let long : length words ≡ words_of_shape (layout_shape layout) = ap length is ∙ length-fresh (layout_shape layout) kinds in
    let most = sizes_bounded (layout_shape layout) ok in
    omega (arith, long, most)

fresh_image : (layout : Layout) (kinds : List Kind) (words : List ℕ) → IsAllowed (layout_shape layout) → length kinds ≡ layout.structures →
    words ≡ fresh_words (layout_shape layout) kinds → IsSoundImage layout (length words) (slice_index words)
fresh_image layout kinds words ok long is =
    let empty = fresh_is_empty (layout_shape layout) kinds ok long in
    subst (λ ws. IsSoundImage layout (length ws) (slice_index ws)) (sym is) (record {
      sound = subst (λ n. IsSound n (slice_index (fresh_words (layout_shape layout) kinds))) (sym (length-fresh (layout_shape layout) kinds)) empty.sound;
      has_layout = empty.shape_is;
    })

pub new-requires : goal.new-requires
new-requires c = fresh_small c.args.layout _ c.into_vec.result.items c.layouts_are_allowed.ensures (c.into_vec.ensures ∙ c.in_ok-fresh.ensures)

pub returns : goal.returns
returns c = fresh_image c.args.layout _ _ c.layouts_are_allowed.ensures (sym c.requires) (c.new.ensures ∙ c.into_vec.ensures ∙ c.in_ok-fresh.ensures)
