-- What a fence leaves of a word's candidates.
use Rattle.std.proofs.Common.{◌≡◌, ◌≢◌, ◌⊎◌, inl, inr, ⊎_elim, ℕ, suc, ◌+◌, ◌<◌, Bool, true, false, List, [], ◌∷◌, ◌++◌, map, refl, sym, ◌∙◌, ap, subst, arith, if◌then◌else◌, get_or, append_assoc}
use Rattle.std.specs.List.{list_any}
use Rattle.std.proofs.Math.Bool.{or-true}
use Rattle.std.proofs.lemmas.Bool.Decides.{eqb_tells}
use Rattle.persist_model.specs.declared.event.Candidate.{Candidate}
use Rattle.persist_model.specs.Region.{has_mark, marked, unmarked, from_last, fenced}
use Rattle.persist_model.proofs.Candidates.{fenced_none, map-unmarked_none}
use Rattle.pooled_region.specs.declared.pool.Place.{Place}
use Rattle.pooled_region.specs.declared.pool.Word.{Word}
use Rattle.pooled_region.specs.Pool.{no_place, next_of, place_at, later_of, word_of, is_marked}
use Rattle.pooled_region.proofs.Steps.{later_of-split}

any_past : {X : Type 0} (p : X → Bool) (xs : List X) (x : X) (ys : List X) → p x ≡ true → list_any p (xs ++ x ∷ ys) ≡ true
any_past p [] x ys e = rw e refl
any_past p (w ∷ xs) x ys e = rw (any_past p xs x ys e) (or-true (p w))

-- what stands before one that passes is dropped
from_last_past : {X : Type 0} (p : X → Bool) (xs : List X) (x : X) (ys : List X) → p x ≡ true → from_last p (xs ++ x ∷ ys) ≡ from_last p (x ∷ ys)
from_last_past p [] x ys e = refl
from_last_past p (w ∷ xs) x ys e = rw (any_past p xs x ys e) (from_last_past p xs x ys e)

-- where none behind the first has the mark
pub fenced_first : (mark : ℕ) (c : Candidate) (ys : List Candidate) → list_any (has_mark mark) ys ≡ false → fenced mark (c ∷ ys) ≡ unmarked mark c ∷ ys
fenced_first mark c ys none = rw none (ap (λ (cs : List Candidate). unmarked mark c ∷ cs) (map-unmarked_none mark ys none))

-- where one has it, and none behind it
pub fenced_past : (mark : ℕ) (xs : List Candidate) (c : Candidate) (ys : List Candidate) → has_mark mark c ≡ true → list_any (has_mark mark) ys ≡ false
    → fenced mark (xs ++ c ∷ ys) ≡ unmarked mark c ∷ ys
fenced_past mark xs c ys own none = ap (map (unmarked mark)) (from_last_past (has_mark mark) xs c ys own) ∙ fenced_first mark c ys none

-- a word where so many of the newest candidates don't have the mark, and the one before them does
pub fenced_at : (mark : ℕ) (places : List Place) (word : Word) (kept behind : ℕ) → word.later ≡ kept + suc behind
    → has_mark mark (get_or places (place_at places word.newest kept) no_place).candidate ≡ true → list_any (has_mark mark) (later_of places word.newest kept) ≡ false
    → fenced mark (word_of places word) ≡ unmarked mark (get_or places (place_at places word.newest kept) no_place).candidate ∷ later_of places word.newest kept
fenced_at mark places word kept behind long own none =
    let first = place_at places word.newest kept in
    let c = (get_or places first no_place).candidate in
    let older = later_of places (next_of places first) behind in
    let newer = later_of places word.newest kept in
    ap (λ n. fenced mark (word.oldest ∷ later_of places word.newest n)) long
    ∙ ap (λ (cs : List Candidate). fenced mark (word.oldest ∷ cs)) (later_of-split places word.newest kept (suc behind) ∙ append_assoc older (c ∷ []) newer)
    ∙ fenced_past mark (word.oldest ∷ older) c newer own none

-- ---- marks

unmarked_quiet : (mark : ℕ) (c : Candidate) → 0 < mark → has_mark mark (unmarked mark c) ≡ false
unmarked_quiet mark c some = (elim (has_mark mark c) as (λ t. has_mark mark c ≡ t → has_mark mark (if t then marked 0 c else c) ≡ false) [
  | true ↦ (λ e. grind arith)
  | false ↦ (λ e. e)
]) refl

map_quiet : (mark : ℕ) (cs : List Candidate) → 0 < mark → list_any (has_mark mark) (map (unmarked mark) cs) ≡ false
map_quiet mark [] some = refl
map_quiet mark (c ∷ cs) some =
    let here : has_mark mark (unmarked mark c) ≡ false = unmarked_quiet mark c some in
    let rest : list_any (has_mark mark) (map (unmarked mark) cs) ≡ false = map_quiet mark cs some in
    rw (here, rest) refl

-- a second fence changes nothing
pub fenced_twice : (mark : ℕ) (cs : List Candidate) → 0 < mark → fenced mark (fenced mark cs) ≡ fenced mark cs
fenced_twice mark cs some = fenced_none mark (fenced mark cs) (map_quiet mark (from_last (has_mark mark) cs) some)

-- where none is marked none has this mark
pub none_marked : (mark : ℕ) (cs : List Candidate) → 0 < mark → list_any is_marked cs ≡ false → list_any (has_mark mark) cs ≡ false
none_marked mark [] some none = refl
none_marked mark (c ∷ cs) some none =
    let here : has_mark mark c ≡ false = grind arith in
    let rest : list_any (has_mark mark) cs ≡ false = none_marked mark cs some (grind arith) in
    rw (here, rest) refl

true_or_false : (t : Bool) → (t ≡ false → ⊥) → t ≡ true
true_or_false true not_false = refl
true_or_false false not_false = absurd (not_false refl)

true_not_false : true ≡ false → ⊥
true_not_false e = cc

pub mark_is_some : (mark : ℕ) (cs : List Candidate) → 0 < mark → list_any (has_mark mark) cs ≡ true → list_any is_marked cs ≡ true
mark_is_some mark cs some own = true_or_false (list_any is_marked cs) (λ none. true_not_false (sym own ∙ none_marked mark cs some none))

-- a fence gives no word a mark
pub fenced_marks : (mark : ℕ) (cs : List Candidate) → 0 < mark → list_any is_marked (fenced mark cs) ≡ true → list_any is_marked cs ≡ true
fenced_marks mark cs some own = true_or_false (list_any is_marked cs)
    (λ none. true_not_false (sym own ∙ ap (list_any is_marked) (fenced_none mark cs (none_marked mark cs some none)) ∙ none))

-- ---- words fenced one after the other

-- the word is as it was, or fenced
abbrev pub IsFencedOrNot : ℕ → List Candidate → List Candidate → Type 0
IsFencedOrNot mark before now = (now ≡ before) ⊎ (now ≡ fenced mark before)

pub fenced_here : (mark : ℕ) (before now later : List Candidate) → 0 < mark → IsFencedOrNot mark before now → later ≡ fenced mark now → later ≡ fenced mark before
fenced_here mark before now later some state is = ⊎_elim
    (λ same. is ∙ ap (fenced mark) same)
    (λ once. is ∙ ap (fenced mark) once ∙ fenced_twice mark before some)
    state

-- all words, where one was fenced
pub fenced_each : (mark word : ℕ) (before now later : ℕ → List Candidate) → 0 < mark → ((a : ℕ) → IsFencedOrNot mark (before a) (now a)) → later word ≡ fenced mark (now word)
    → ((b : ℕ) → b ≢ word → later b ≡ now b) → (a : ℕ) → IsFencedOrNot mark (before a) (later a)
fenced_each mark word before now later some state here others a = ⊎_elim
    (λ same. let e : a ≡ word = same.1 in
    subst (λ (n : ℕ). IsFencedOrNot mark (before n) (later n)) (sym e) (inr (fenced_here mark (before word) (now word) (later word) some (state word) here)))
    (λ other. ⊎_elim (λ same. inl (others a other.1 ∙ same)) (λ once. inr (others a other.1 ∙ once)) (state a))
    (eqb_tells a word)

-- the words that were passed, where one was fenced
pub fenced_done : (mark word : ℕ) (before now later : ℕ → List Candidate) (a : ℕ) → 0 < mark → ((b : ℕ) → IsFencedOrNot mark (before b) (now b)) → later word ≡ fenced mark (now word)
    → ((b : ℕ) → b ≢ word → later b ≡ now b) → now a ≡ fenced mark (before a) → later a ≡ fenced mark (before a)
fenced_done mark word before now later a some state here others done = ⊎_elim
    (λ same. let e : a ≡ word = same.1 in
    subst (λ (n : ℕ). later n ≡ fenced mark (before n)) (sym e) (fenced_here mark (before word) (now word) (later word) some (state word) here))
    (λ other. others a other.1 ∙ done)
    (eqb_tells a word)

-- where all words with the mark were passed
pub fenced_all : (mark : ℕ) (before now : List Candidate) → IsFencedOrNot mark before now → (list_any (has_mark mark) before ≡ true → now ≡ fenced mark before) → now ≡ fenced mark before
fenced_all mark before now state passed = (elim (list_any (has_mark mark) before) as (λ t. list_any (has_mark mark) before ≡ t → now ≡ fenced mark before) [
  | true ↦ passed
  | false ↦ (λ none. ⊎_elim (λ same. same ∙ sym (fenced_none mark before none)) (λ once. once) state)
]) refl
