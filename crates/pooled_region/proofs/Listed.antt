-- The list of the words that have a mark: one more, and those that stay.
use Rattle.std.proofs.Common.{◌≡◌, ◌≢◌, inl, inr, ⊎_elim, ℕ, ◌+◌, ◌<◌, ◌≤◌, List, [], ◌∷◌, ◌++◌, length, refl, sym, ◌∙◌, ap, subst, arith, get_or, set, take}
use Rattle.std.proofs.lemmas.Bool.{cases_lt}
use Rattle.std.proofs.lemmas.Bool.Decides.{eqb_tells}
use Rattle.std.proofs.lemmas.List.{get_or-set_same, get_or-set_other, get_or_append_left, get_or_at, get_or-take, length-append, length-set, length-take-le}
use Rattle.pooled_region.specs.Marks.{StandsAt, AreListed, IsListed, AreSifted, IsLeft}
use Rattle.pooled_region.proofs.Apart.{distinct_below}

-- the list is no longer than the region
pub listed_fits : (listed positions : List ℕ) → AreListed listed positions → length listed ≤ length positions
listed_fits listed positions stands = distinct_below (length listed) (length positions) (λ i. get_or listed i 0) (λ i lt. (stands i lt).0)
    (λ i j lt lt' same. sym (stands i lt).1 ∙ ap (λ w. get_or positions w 0) same ∙ (stands j lt').1)

-- ---- one word more

module _ (listed positions : List ℕ) (a : ℕ) where
  abbrev pub listed_then : List ℕ
  listed_then = listed ++ a ∷ []

  abbrev pub positions_then : List ℕ
  positions_then = set positions a (length listed)

  read_old : (i : ℕ) → i < length listed → get_or listed_then i 0 ≡ get_or listed i 0
  read_old i lt = get_or_append_left listed (a ∷ []) 0 i lt

  read_new : get_or listed_then (length listed) 0 ≡ a
  read_new = get_or_at listed a [] 0 (length listed) refl

  position_new : a < length positions → get_or positions_then a 0 ≡ length listed
  position_new inside = get_or-set_same positions a (length listed) 0 inside

  position_old : (b : ℕ) → b ≢ a → get_or positions_then b 0 ≡ get_or positions b 0
  position_old b apart = get_or-set_other positions a b (length listed) 0 apart

  longer : length listed_then ≡ length listed + 1
  longer = length-append listed (a ∷ [])

  same_size : length positions_then ≡ length positions
  same_size = length-set positions a (length listed)

  stands_old : AreListed listed positions → (IsListed listed positions a → ⊥) → (i : ℕ) → i < length listed → StandsAt listed_then positions_then i
  stands_old stands absent i lt =
      let w = get_or listed i 0 in
      let back : get_or positions w 0 ≡ i = (stands i lt).1 in
      let apart : w ≢ a = (λ e.
      let here : get_or positions a 0 ≡ i = ap (λ n. get_or positions n 0) (sym e) ∙ back in
      absent (omega (arith, here, lt), ap (λ n. get_or listed n 0) here ∙ e)) in
      let below : w < length positions = (stands i lt).0 in
      let read : get_or listed_then i 0 ≡ w = read_old i lt in
      (omega (arith, read, below, same_size), ap (λ n. get_or positions_then n 0) read ∙ position_old w apart ∙ back)

  stands_new : a < length positions → StandsAt listed_then positions_then (length listed)
  stands_new inside = (omega (arith, read_new, inside, same_size), ap (λ n. get_or positions_then n 0) read_new ∙ position_new inside)

  pub listed_more : AreListed listed positions → (IsListed listed positions a → ⊥) → a < length positions → AreListed listed_then positions_then
  listed_more stands absent inside = λ i lt. ⊎_elim
      (λ early. stands_old stands absent i early)
      (λ late. let e : length listed ≡ i = omega (arith, longer, late, lt) in subst (StandsAt listed_then positions_then) e (stands_new inside))
      (cases_lt i (length listed))

  -- so there is room for one word more
  pub listed_room : AreListed listed positions → (IsListed listed positions a → ⊥) → a < length positions → length listed + 1 ≤ length positions
  listed_room stands absent inside =
      let fits : length listed_then ≤ length positions_then = listed_fits listed_then positions_then (listed_more stands absent inside) in
      omega (arith, fits, longer, same_size)

  pub listed_here : a < length positions → IsListed listed_then positions_then a
  listed_here inside =
      let position = position_new inside in
      (omega (arith, position, longer), ap (λ n. get_or listed_then n 0) position ∙ read_new)

  pub listed_others : (IsListed listed positions a → ⊥) → (b : ℕ) → IsListed listed positions b → IsListed listed_then positions_then b
  listed_others absent b is = ⊎_elim
      (λ same. absurd (absent (subst (IsListed listed positions) same.1 is)))
      (λ other. let position : get_or positions_then b 0 ≡ get_or positions b 0 = position_old b other.1 in
      (omega (arith, position, longer, is.0), ap (λ n. get_or listed_then n 0) position ∙ read_old (get_or positions b 0) is.0 ∙ is.1))
      (eqb_tells b a)

-- ---- those that stay

pub sift_begins : (listed positions : List ℕ) → AreListed listed positions → AreSifted listed positions 0 0
sift_begins listed positions stands = record { order = omega arith; front = λ i lt. absurd (omega arith); rest = λ i ge lt. stands i lt }

pub left_begins : (listed positions : List ℕ) (a : ℕ) → IsListed listed positions a → IsLeft listed positions 0 0 a
left_begins listed positions a is = (inr (omega arith, is.0), is.1)

pub sift_ends : (listed positions : List ℕ) (kept : ℕ) → AreSifted listed positions kept (length listed) → AreListed (take kept listed) positions
sift_ends listed positions kept sifted = λ i lt.
    let long : length (take kept listed) ≡ kept = length-take-le kept listed sifted.order in
    let early : i < kept = omega (arith, long, lt) in
    let read : get_or (take kept listed) i 0 ≡ get_or listed i 0 = get_or-take kept listed i 0 early in
    let stands = sifted.front i early in
    (subst (λ n. n < length positions) (sym read) stands.0, ap (λ n. get_or positions n 0) read ∙ stands.1)

pub left_ends : (listed positions : List ℕ) (kept a : ℕ) → kept ≤ length listed → IsLeft listed positions kept (length listed) a → IsListed (take kept listed) positions a
left_ends listed positions kept a order left = ⊎_elim
    (λ early. let long : length (take kept listed) ≡ kept = length-take-le kept listed order in
    (omega (arith, long, early), get_or-take kept listed (get_or positions a 0) 0 early ∙ left.1))
    (λ late. absurd (omega (arith, late.0, late.1)))
    left.0

-- the word that is looked at has no mark
pub sift_passed : (listed positions : List ℕ) (kept index : ℕ) → AreSifted listed positions kept index → AreSifted listed positions kept (index + 1)
sift_passed listed positions kept index sifted = record { order = omega (arith, sifted.order); front = sifted.front; rest = λ i ge lt. sifted.rest i (omega arith) lt }

pub left_passed : (listed positions : List ℕ) (kept index a : ℕ) → a ≢ get_or listed index 0 → IsLeft listed positions kept index a → IsLeft listed positions kept (index + 1) a
left_passed listed positions kept index a apart left = (
  ⊎_elim
      (λ early. inl early)
      (λ late. let other : get_or positions a 0 ≢ index = (λ e. apart (sym left.1 ∙ ap (λ n. get_or listed n 0) e)) in
      inr (omega (arith, late.0, other), late.1))
      left.0,
  left.1,
)

-- it has one
module _ (listed positions : List ℕ) (kept index : ℕ) (sifted : AreSifted listed positions kept index) (inside : index < length listed) where
  abbrev pub word : ℕ
  word = get_or listed index 0

  abbrev pub listed_kept : List ℕ
  listed_kept = set listed kept word

  abbrev pub positions_kept : List ℕ
  positions_kept = set positions word kept

  word_stands : StandsAt listed positions index
  word_stands = sifted.rest index (omega arith) inside

  kept_inside : kept < length listed
  kept_inside = omega (arith, sifted.order, inside)

  read_here : get_or listed_kept kept 0 ≡ word
  read_here = get_or-set_same listed kept word 0 kept_inside

  read_there : (i : ℕ) → i ≢ kept → get_or listed_kept i 0 ≡ get_or listed i 0
  read_there i apart = get_or-set_other listed kept i word 0 apart

  position_here : get_or positions_kept word 0 ≡ kept
  position_here = get_or-set_same positions word kept 0 word_stands.0

  position_there : (b : ℕ) → b ≢ word → get_or positions_kept b 0 ≡ get_or positions b 0
  position_there b apart = get_or-set_other positions word b kept 0 apart

  same_positions : length positions_kept ≡ length positions
  same_positions = length-set positions word kept

  -- another word stays where it stood
  stays : (i : ℕ) → i ≢ kept → i ≢ index → StandsAt listed positions i → StandsAt listed_kept positions_kept i
  stays i apart other stands =
      let w = get_or listed i 0 in
      let differ : w ≢ word = (λ e. other (sym stands.1 ∙ ap (λ n. get_or positions n 0) e ∙ word_stands.1)) in
      let read : get_or listed_kept i 0 ≡ w = read_there i apart in
      let below : w < length positions = stands.0 in
      (omega (arith, read, below, same_positions), ap (λ n. get_or positions_kept n 0) read ∙ position_there w differ ∙ stands.1)

  pub sift_kept : AreSifted listed_kept positions_kept (kept + 1) (index + 1)
  sift_kept = record {
    order = omega (arith, sifted.order);
    front = λ i lt. ⊎_elim
        (λ early. stays i (λ e. omega (arith, e, early)) (λ e. omega (arith, e, early, sifted.order)) (sifted.front i early))
        (λ late. let e : kept ≡ i = omega (arith, late, lt) in
        subst (StandsAt listed_kept positions_kept) e (omega (arith, read_here, word_stands.0, same_positions), ap (λ n. get_or positions_kept n 0) read_here ∙ position_here))
        (cases_lt i kept);
    rest = λ i ge lt. stays i (λ e. omega (arith, e, ge, sifted.order)) (λ e. omega (arith, e, ge)) (sifted.rest i (omega (arith, ge)) (omega (arith, lt, length-set listed kept word)));
  }

  pub left_kept : (a : ℕ) → IsLeft listed positions kept index a → IsLeft listed_kept positions_kept (kept + 1) (index + 1) a
  left_kept a left = ⊎_elim
      (λ same. let e : a ≡ word = same.1 in
      subst (IsLeft listed_kept positions_kept (kept + 1) (index + 1)) (sym e) (inl (omega (arith, position_here)), ap (λ n. get_or listed_kept n 0) position_here ∙ read_here))
      (λ other.
      let p = get_or positions a 0 in
      let position : get_or positions_kept a 0 ≡ p = position_there a other.1 in
      let differ : p ≢ index = (λ e. other.1 (sym left.1 ∙ ap (λ n. get_or listed n 0) e)) in
      let apart : p ≢ kept = ⊎_elim (λ early. λ e. omega (arith, e, early)) (λ late. λ e. differ (omega (arith, e, late.0, sifted.order))) left.0 in (
        ⊎_elim
            (λ early. inl (omega (arith, position, early)))
            (λ late. inr (omega (arith, position, late.0, differ), omega (arith, position, late.1, length-set listed kept word)))
            left.0,
        ap (λ n. get_or listed_kept n 0) position ∙ read_there p apart ∙ left.1,
      ))
      (eqb_tells a word)
