use Rattle.std.proofs.Common.{get_or, refl, ap, sym, ◌∙◌, below_more}
use Rattle.std.proofs.lemmas.Option.{slice_get-get_or, get_or_from_slice_get}
use Rattle.region_layout.specs.declared.layout.Kind.TheVariants.{Cells}
use Rattle.region_layout.specs.Layout.{kind_number}
use Rattle.migration.specs.Fits.{other}
use Rattle.migration.proofs.kinds.wrong_kind.Goals as goal

pub returns-then-word-number_of_kind-clause-fault :
    goal.returns-then-word-number_of_kind-clause-fault
returns-then-word-number_of_kind-clause-fault g c =
    let kinds = c.args.kinds.now in
    let s = c.loop-s.s in
    other c.requires.count c.requires.second c.loop-s.s c.loop-s-test.true
    (λ fits. c.if-word-number_of_kind.true
    (c.word.ensures ∙ fits (get_or c.args.kinds.now c.loop-s.s Cells) (slice_get-get_or c.args.kinds.now c.loop-s.s Cells c.loop-s-test.true)
    ∙ sym c.number_of_kind.ensures))
    c.loop-s.invariant refl refl

pub loop-s-preserved : goal.loop-s-preserved
loop-s-preserved g c =
    below_more _ _ c.loop-s.invariant
    (λ kind is. sym c.word.ensures ∙ c.if-word-number_of_kind.false ∙ c.number_of_kind.ensures
    ∙ ap kind_number (get_or_from_slice_get c.args.kinds.now c.loop-s.s kind Cells is))
