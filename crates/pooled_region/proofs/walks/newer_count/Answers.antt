use Rattle.std.proofs.Common.{◌≡◌, ◌<◌, false, length, sym, ◌∙◌, ap, subst, arith, get_or, add-one, below_more, ne_eqb}
use Rattle.persist_model.specs.Region.{has_mark}
use Rattle.pooled_region.specs.declared.pool.Place.{Place}
use Rattle.pooled_region.specs.Pool.{no_place, place_at}
use Rattle.pooled_region.proofs.Steps.{place_at-next, none_along}
use Rattle.pooled_region.proofs.walks.newer_count.Goals as goal

pub read_place-read-requires : goal.read_place-read-requires
read_place-read-requires c =
    subst (λ p. p < length c.args.places.now) (sym c.loop-passed.invariant.here) (c.requires c.loop-passed.passed c.loop-passed-test.true)

pub loop-passed-preserved : goal.loop-passed-preserved
loop-passed-preserved c =
    let here = c.loop-passed.invariant.here in
    let read : c.read_place-read.result ≡ get_or c.args.places.now (place_at c.args.places.now c.args.word.newest c.loop-passed.passed) no_place =
    c.read_place-read.ensures ∙ ap (λ p. get_or c.args.places.now p no_place) here in
    record {
      here = ap (λ (p : Place). p.next) read ∙ sym (place_at-next c.args.places.now c.args.word.newest c.loop-passed.passed)
          ∙ ap (place_at c.args.places.now c.args.word.newest) (sym (add-one c.loop-passed.passed));
      none = below_more (λ i. has_mark c.args.mark (get_or c.args.places.now (place_at c.args.places.now c.args.word.newest i) no_place).candidate ≡ false) c.loop-passed.passed c.loop-passed.invariant.none
          (ap (λ (p : Place). has_mark c.args.mark p.candidate) (sym read) ∙ ne_eqb _ _ c.if-read-mark.false);
    }

pub returns-then-read-mark-clause-none : goal.returns-then-read-mark-clause-none
returns-then-read-mark-clause-none c =
    none_along (has_mark c.args.mark) c.args.places.now c.args.word.newest c.loop-passed.passed c.loop-passed.invariant.none

pub returns-clause-none : goal.returns-clause-none
returns-clause-none c =
    none_along (has_mark c.args.mark) c.args.places.now c.args.word.newest c.args.word.later (λ i lt. c.loop-passed.invariant.none i (omega arith))
