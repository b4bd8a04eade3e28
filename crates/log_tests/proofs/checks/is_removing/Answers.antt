use Rattle.std.proofs.Common.{◌≡◌, ◌⊎◌, inl, inr, refl, sym, ◌∙◌, subst}
use Rattle.std.specs.Prelude.{slice_index}
use Rattle.persist_model.specs.Shape.{IsBucketOf}
use Rattle.persist_model.specs.Chain.{IsLink}
use Rattle.log_tests.specs.Walked.{small}
use Rattle.log_tests.proofs.Walking.{removing_of}
use Rattle.log_tests.proofs.checks.is_removing.Goals as goal
use Rattle.log_tests.proofs.checks.is_removing.Goals.{then-named, else-named}

pub returns : goal.returns
returns g c = λ last_tail.
    let before : (c.if-named.before ≡ c.args.node) ⊎ (c.if-named.before ≡ c.in-Some.ends.last) =
    elim c.if-named.branch [ then-named w ↦ inl w.before-is | else-named w ↦ inr w.before-is ] in
    let w = slice_index (g.W.Look.words c.args.words.now) in
    let links : (w c.in-Some.ends.link ≡ c.args.node) ⊎ (w c.in-Some.ends.link ≡ w c.args.node) = elim (c.if-not-is_either.ensures refl) [
      | inl e ↦ inl (sym c.word-3.ensures ∙ e ∙ c.from-2.ensures)
      | inr e ↦ inr (sym c.word-3.ensures ∙ e ∙ c.word-4.ensures)
    ] in
    removing_of w c.args.front.now c.args.rest.now c.args.node c.if-named.before c.in-Some.ends.link c.in-Some.ends.last c.in-Some-walked.behind.link c.in-Some-walked.behind.last
    c.in-Some.ensures c.in-Some-walked.ensures (c.if-not-is_bucket.ensures refl) c.if-node-ends.false before
    (sym c.word.ensures ∙ c.if-word-ne0.false)
    (sym c.word-2.ensures ∙ c.if-word-from.false ∙ c.from.ensures)
    links
    (sym c.word-5.ensures ∙ c.if-word-ne0-2.false)
    (sym c.word-6.ensures ∙ c.if-word-from-2.false ∙ c.from-3.ensures)
    (sym c.word-7.ensures ∙ c.if-word-from-3.false ∙ c.from-4.ensures)
    (subst (IsLink (IsBucketOf small 0)) c.word-8.ensures (c.is_link.ensures last_tail))
