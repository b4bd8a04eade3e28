use Rattle.std.proofs.Common.{◌<◌, length, sym, ◌∙◌, ap, subst, add-one}
use Rattle.pooled_region.specs.declared.pool.Place.{Place}
use Rattle.pooled_region.specs.Pool.{next_of, place_at}
use Rattle.pooled_region.proofs.Steps.{place_at-next}
use Rattle.pooled_region.proofs.walks.place_behind.Goals as goal

pub read_place-place-requires : goal.read_place-place-requires
read_place-place-requires c =
    subst (λ p. p < length c.args.places.now) (sym c.loop-step.invariant) (c.requires c.loop-step._step c.loop-step-test.true)

pub loop-step-preserved : goal.loop-step-preserved
loop-step-preserved c =
    let e = add-one c.loop-step._step in
    ap (λ (p : Place). p.next) c.read_place-place.ensures
    ∙ ap (next_of c.args.places.now) c.loop-step.invariant
    ∙ sym (place_at-next c.args.places.now c.args.start c.loop-step._step)
    ∙ ap (place_at c.args.places.now c.args.start) (sym e)
