use Rattle.std.proofs.Common.{◌≡◌, ◌≢◌, ◌-◌, suc, List, ◌∷◌, sym, ◌∙◌, ap, arith, get_or}
use Rattle.persist_model.specs.Region.{newest}
use Rattle.persist_model.proofs.Candidates.{newest-push}
use Rattle.pooled_region.specs.declared.pool.Place.{Place}
use Rattle.pooled_region.specs.declared.pool.Word.{Word}
use Rattle.pooled_region.specs.Pool.{no_place, next_of, later_of, word_of}
use Rattle.pooled_region.proofs.walks.newest_value.Goals as goal

newest_later : (places : List Place) (word : Word) (place : Place) → place ≡ get_or places word.newest no_place → word.later ≢ 0 → place.candidate.value ≡ newest (word_of places word)
newest_later places word place is some =
    let long : word.later ≡ suc (word.later - 1) = omega arith in
    ap (λ (p : Place). p.candidate.value) is
    ∙ sym (newest-push (word.oldest ∷ later_of places (next_of places word.newest) (word.later - 1)) (get_or places word.newest no_place).candidate)
    ∙ sym (ap (λ n. newest (word.oldest ∷ later_of places word.newest n)) long)

pub returns-else-word-eq0 : goal.returns-else-word-eq0
returns-else-word-eq0 c = newest_later c.args.places.now c.args.word c.read_place.result c.read_place.ensures c.if-word-eq0.false
