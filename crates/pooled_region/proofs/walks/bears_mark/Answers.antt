use Rattle.std.proofs.Common.{◌≡◌, false, not, ◌||◌, sym, ◌∙◌, ap, arith, get_or, add-one, below_more, eq-eqb, ne_eqb}
use Rattle.std.specs.List.{list_any}
use Rattle.std.proofs.Math.Bool.{or-true}
use Rattle.pooled_region.specs.declared.pool.Place.{Place}
use Rattle.pooled_region.specs.Pool.{no_place, place_at, later_of, is_marked}
use Rattle.pooled_region.proofs.Steps.{place_at-next, none_along, some_along}
use Rattle.pooled_region.proofs.walks.bears_mark.Goals as goal

pub returns-then-read-ne0 : goal.returns-then-read-ne0
returns-then-read-ne0 c =
    let read : c.read_place-read.result ≡ get_or c.args.places.now (place_at c.args.places.now c.args.word.newest c.loop-passed._passed) no_place =
    c.read_place-read.ensures ∙ ap (λ p. get_or c.args.places.now p no_place) c.loop-passed.invariant.here in
    let later = some_along is_marked c.args.places.now c.args.word.newest c.args.word.later c.loop-passed._passed c.loop-passed-test.true
    (ap (λ (p : Place). is_marked p.candidate) (sym read) ∙ ap not (ne_eqb _ _ c.if-read-ne0.true)) in
    sym (ap (λ t. is_marked c.args.word.oldest || t) later ∙ or-true (is_marked c.args.word.oldest))

pub loop-passed-preserved : goal.loop-passed-preserved
loop-passed-preserved c =
    let here = c.loop-passed.invariant.here in
    let read : c.read_place-read.result ≡ get_or c.args.places.now (place_at c.args.places.now c.args.word.newest c.loop-passed._passed) no_place =
    c.read_place-read.ensures ∙ ap (λ p. get_or c.args.places.now p no_place) here in
    record {
      here = ap (λ (p : Place). p.next) read ∙ sym (place_at-next c.args.places.now c.args.word.newest c.loop-passed._passed)
          ∙ ap (place_at c.args.places.now c.args.word.newest) (sym (add-one c.loop-passed._passed));
      none = below_more (λ i. is_marked (get_or c.args.places.now (place_at c.args.places.now c.args.word.newest i) no_place).candidate ≡ false) c.loop-passed._passed c.loop-passed.invariant.none
          (ap (λ (p : Place). is_marked p.candidate) (sym read) ∙ ap not (eq-eqb _ _ c.if-read-ne0.false));
    }

pub returns : goal.returns
returns c =
    let later = none_along is_marked c.args.places.now c.args.word.newest c.args.word.later (λ i lt. c.loop-passed.invariant.none i (omega arith)) in
    sym (ap (λ t. t || list_any is_marked (later_of c.args.places.now c.args.word.newest c.args.word.later)) (ap not (eq-eqb _ _ c.if-word-ne0.false)) ∙ later)
