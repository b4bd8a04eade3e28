use Rattle.std.proofs.Common.{ℕ, refl, slice_index, length, inr, sym, ◌∙◌, ap, subst}
use Rattle.persist_model.specs.Shape.{words_of_shape, IsCellCount, IsPolicy}
use Rattle.region_layout.proofs.Headers.{policy_is, sizes_tried, length_wrong}
use Rattle.region_layout.proofs.reading.read_layout.Goals as goal

pub returns-in-Some-wrong_size-clause-fault : goal.returns-in-Some-wrong_size-clause-fault
returns-in-Some-wrong_size-clause-fault g c =
    let words = g.W.Look.words c.args.words.now in
    let w : ℕ → ℕ = slice_index words in
    let policy : IsPolicy (w 1) = policy_is c.in-Some.policy (w 1) (c.in-Some.ensures ∙ c.word.ensures) in
    let cells : IsCellCount (w 2) = subst IsCellCount c.word-2.ensures (c.if-not-is_cell_count.ensures.0 refl) in
    inr (c.if-not-has_magic.ensures.0 refl, inr (policy, inr (cells, sizes_tried (length words) w 4 c.in-Some-wrong_size.address c.in-Some-wrong_size.ensures)))

pub returns-then-size-clause-fault : goal.returns-then-size-clause-fault
returns-then-size-clause-fault g c =
    let words = g.W.Look.words c.args.words.now in
    let w : ℕ → ℕ = slice_index words in
    let policy : IsPolicy (w 1) = policy_is c.in-Some.policy (w 1) (c.in-Some.ensures ∙ c.word.ensures) in
    let cells : IsCellCount (w 2) = subst IsCellCount c.word-2.ensures (c.if-not-is_cell_count.ensures.0 refl) in
    inr (
      c.if-not-has_magic.ensures.0 refl,
      inr (
        policy,
        inr (
          cells,
          length_wrong (length words) w c.in_default-wrong_size.ensures
              (λ e. c.if-size.true (c.size.ensures ∙ e ∙ ap words_of_shape (sym c.layout_of-layout.ensures) ∙ sym c.size-2.ensures)),
        ),
      ),
    )
