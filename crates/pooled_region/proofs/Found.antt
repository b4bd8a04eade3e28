-- Which words stand in the list, after each event.
use Rattle.std.proofs.Common.{◌≡◌, ◌≢◌, ⊎_elim, ℕ, suc, ◌<◌, Bool, true, false, ◌||◌, List, [], ◌∷◌, ◌++◌, refl, sym, ◌∙◌, ap, subst, arith, get_or}
use Rattle.std.specs.List.{list_any}
use Rattle.std.proofs.lemmas.Bool.Decides.{eqb_tells}
use Rattle.std.proofs.lemmas.List.Folds.{list_any-append}
use Rattle.persist_model.specs.declared.event.Candidate.{Candidate}
use Rattle.persist_model.specs.Region.{candidate, fenced}
use Rattle.pooled_region.specs.declared.pool.Place.{Place}
use Rattle.pooled_region.specs.declared.pool.Word.{Word}
use Rattle.pooled_region.specs.declared.pool.Free.{Free}
use Rattle.pooled_region.specs.Pool.{no_word, later_of, candidates_at, is_marked, ArePooled, AreBare, AreWithin}
use Rattle.pooled_region.specs.Marks.{AreFound, IsListed}
use Rattle.pooled_region.proofs.Apart.{count_fits}
use Rattle.pooled_region.proofs.Fences.{fenced_marks}

pub are_within : (places : List Place) (words : List Word) (free : Free) → ArePooled places words free → AreWithin places words
are_within places words free pooled = λ a. record { within = pooled.within (suc a); fewer = count_fits places words free pooled (suc a) }

or_none : (t : Bool) → (t || (false || false)) ≡ t
or_none true = refl
or_none false = refl

-- a store without a mark
pub found_stored : (places places' : List Place) (words words' : List Word) (listed positions : List ℕ) (a v : ℕ) → AreFound places words listed positions
    → candidates_at places' words' a ≡ candidates_at places words a ++ candidate v 0 ∷ [] → ((b : ℕ) → b ≢ a → candidates_at places' words' b ≡ candidates_at places words b)
    → AreFound places' words' listed positions
found_stored places places' words words' listed positions a v found here others = λ b own. ⊎_elim
    (λ same. let e : b ≡ a = same.1 in
    let cs = candidates_at places words a in
    let was : list_any is_marked cs ≡ true =
    sym (or_none (list_any is_marked cs)) ∙ sym (list_any-append is_marked cs (candidate v 0 ∷ [])) ∙ sym (ap (list_any is_marked) here)
    ∙ ap (λ (n : ℕ). list_any is_marked (candidates_at places' words' n)) (sym e) ∙ own in
    subst (IsListed listed positions) (sym e) (found a was))
    (λ other. found b (ap (list_any is_marked) (sym (others b other.1)) ∙ own))
    (eqb_tells b a)

-- any change of a word that is listed then
pub found_listed : (places places' : List Place) (words words' : List Word) (listed positions listed' positions' : List ℕ) (a : ℕ) → AreFound places words listed positions
    → ((b : ℕ) → b ≢ a → candidates_at places' words' b ≡ candidates_at places words b) → IsListed listed' positions' a
    → ((b : ℕ) → IsListed listed positions b → IsListed listed' positions' b) → AreFound places' words' listed' positions'
found_listed places places' words words' listed positions listed' positions' a found others here kept = λ b own. ⊎_elim
    (λ same. subst (IsListed listed' positions') (sym same.1) here)
    (λ other. kept b (found b (ap (list_any is_marked) (sym (others b other.1)) ∙ own)))
    (eqb_tells b a)

pub found_fenced : (places places' : List Place) (words words' : List Word) (listed positions : List ℕ) (mark : ℕ) → 0 < mark → AreFound places words listed positions
    → ((b : ℕ) → candidates_at places' words' b ≡ fenced mark (candidates_at places words b)) → AreFound places' words' listed positions
found_fenced places places' words words' listed positions mark some found each = λ b own.
    found b (fenced_marks mark (candidates_at places words b) some (ap (list_any is_marked) (sym (each b)) ∙ own))

unmarked_alone : (c : Candidate) → c.mark ≡ 0 → list_any is_marked (c ∷ []) ≡ false
unmarked_alone c e = grind arith

true_not_false : true ≡ false → ⊥
true_not_false e = cc

pub bare_word : (places : List Place) (words : List Word) (b : ℕ) → AreBare words → candidates_at places words b ≡ (get_or words b no_word).oldest ∷ []
bare_word places words b bare = ap (λ n. (get_or words b no_word).oldest ∷ later_of places (get_or words b no_word).newest n) (bare b).0

pub found_bare : (places : List Place) (words : List Word) (listed positions : List ℕ) → AreBare words → AreFound places words listed positions
found_bare places words listed positions bare = λ b own.
    absurd (true_not_false (sym own ∙ ap (list_any is_marked) (bare_word places words b bare) ∙ unmarked_alone (get_or words b no_word).oldest (bare b).1))
