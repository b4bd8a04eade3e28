-- How many places have a later candidate.
use Rattle.std.proofs.Common.{◌≡◌, ℕ, zero, suc, ◌+◌, ◌<◌, List, [], ◌∷◌, length, refl, arith, get_or, set}
use Rattle.std.proofs.lemmas.List.Sums.{sum_by-cons, sum_by-set}
use Rattle.pooled_region.specs.declared.pool.Word.{Word}
use Rattle.pooled_region.specs.Pool.{no_word, later_count, AreBare}

pub count_set : (words : List Word) (a : ℕ) (w : Word) → a < length words → later_count (set words a w) + (get_or words a no_word).later ≡ later_count words + w.later
count_set words a w inside = sum_by-set (λ (v : Word). v.later) words a w no_word inside

pub bare_count : (words : List Word) → AreBare words → later_count words ≡ 0
bare_count [] bare = refl
bare_count (w ∷ words) bare =
    let here : w.later ≡ 0 = (bare zero).0 in
    let rest : later_count words ≡ 0 = bare_count words (λ a. bare (suc a)) in
    omega (arith, sum_by-cons (λ (v : Word). v.later) w words, here, rest)
