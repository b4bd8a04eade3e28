use Rattle.std.proofs.Common.{◌≡◌, ◌≢◌, ℕ, ◌+◌, ◌-◌, ◌<◌, zero, suc, List, length, map, sym, ◌∙◌, ap, refl, arith, get_or}
use Rattle.std.proofs.lemmas.List.{get_or-map}
use Rattle.persist_model.specs.declared.pick.Pick.{Pick}
use Rattle.persist_model.specs.Region.{candidate, value_of, picked}
use Rattle.persist_model.specs.Pick.{index_of_pick}
use Rattle.pooled_region.specs.declared.pool.Place.{Place}
use Rattle.pooled_region.specs.declared.pool.Word.{Word}
use Rattle.pooled_region.specs.Pool.{no_place, place_at, later_of, word_of}
use Rattle.pooled_region.proofs.Steps.{length-later_of, get_or-later_of}
use Rattle.pooled_region.proofs.walks.picked_candidate.Goals as goal

picked_is : (places : List Place) (word : Word) (pick : Pick) (a index value : ℕ) → index ≡ index_of_pick pick a (1 + word.later) → get_or (map value_of (word_of places word)) index 0 ≡ value
    → candidate value 0 ≡ picked pick a (word_of places word)
picked_is places word pick a index value is read =
    let long : length (word_of places word) ≡ 1 + word.later = omega (arith, length-later_of places word.newest word.later) in
    ap (λ n. candidate n 0) (sym read ∙ ap (λ i. get_or (map value_of (word_of places word)) i 0) (is ∙ ap (index_of_pick pick a) (sym long)))

-- the value of a later candidate
later_value : (places : List Place) (word : Word) (index : ℕ) → index ≢ 0 → index < 1 + word.later
    → get_or (map value_of (word_of places word)) index 0 ≡ (get_or places (place_at places word.newest (word.later - index)) no_place).candidate.value
later_value places word zero some below = absurd (some refl)
later_value places word (suc j) some below =
    let cs = later_of places word.newest word.later in
    let within : j < length cs = omega (arith, length-later_of places word.newest word.later, below) in
    let sum : (word.later - suc j) + suc j ≡ word.later = omega (arith, below) in
    get_or-map value_of cs j (candidate 0 0) 0 within
    ∙ ap value_of (get_or-later_of places word.newest word.later (word.later - suc j) j (candidate 0 0) sum)

pub returns-then-index-eq0 : goal.returns-then-index-eq0
returns-then-index-eq0 c =
    picked_is c.args.places.now c.args.word c.args.pick c.args.address c.pick_index-index.result c.args.word.oldest.value c.pick_index-index.ensures.index
    (ap (λ i. get_or (map value_of (word_of c.args.places.now c.args.word)) i 0) c.if-index-eq0.true)

pub returns-else-index-eq0 : goal.returns-else-index-eq0
returns-else-index-eq0 c =
    picked_is c.args.places.now c.args.word c.args.pick c.args.address c.pick_index-index.result c.read_place.result.candidate.value c.pick_index-index.ensures.index
    (later_value c.args.places.now c.args.word c.pick_index-index.result c.if-index-eq0.false c.pick_index-index.ensures.within
    ∙ ap (λ p. (get_or c.args.places.now p no_place).candidate.value) (sym c.place_behind-place.ensures)
    ∙ ap (λ (p : Place). p.candidate.value) (sym c.read_place.ensures))
