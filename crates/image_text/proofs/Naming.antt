-- Words that lines name.
use Rattle.std.proofs.Common.{◌≡◌, ℕ, ◌+◌, ◌-◌, ◌<◌, ◌≤◌, List, [], ◌∷◌, ◌++◌, length, get_or, refl, sym, ◌∙◌, ap, subst, arith, cond, Bool, true, false, ◌==◌, ne_eqb, eq-eqb, length-append, ⊎_elim, inl, inr, ◌⊎◌, eqb-true, replicate}
use Rattle.std.proofs.lemmas.Bool.{cases_lt}
use Rattle.std.proofs.lemmas.List.{length-replicate, get_or-replicate, get_or_past, ext_get_or}
use Rattle.std.proofs.Math.ListN.{get_or-append}
use Rattle.std.proofs.Math.Seq.{get_or-append_right}
use Rattle.image_text.specs.declared.draft.Part.TheVariants as part
use Rattle.image_text.specs.declared.draft.Draft.{Draft}
use Rattle.image_text.specs.Grammar.{NamedWord, Rise, value_at}
use Rattle.image_text.specs.Reading.{padded, has_maps}

-- the draft after a word, and after some
abbrev pub with_named : Draft → NamedWord → Draft
with_named draft word = record draft { part = part.Words; words = padded word.address draft.words ++ word.value ∷ [] }

abbrev pub worded : Draft → List NamedWord → Draft
worded draft [] = draft
worded draft (word ∷ named) = worded (with_named draft word) named

pub worded-push : (draft : Draft) (named : List NamedWord) (word : NamedWord) → worded draft (named ++ word ∷ []) ≡ with_named (worded draft named) word
worded-push draft [] word = refl
worded-push draft (first ∷ named) word = worded-push (with_named draft first) named word

pub worded_size : (draft : Draft) (named : List NamedWord) → (worded draft named).size ≡ draft.size
worded_size draft [] = refl
worded_size draft (word ∷ named) = worded_size (with_named draft word) named

pub worded_kinds : (draft : Draft) (named : List NamedWord) → (worded draft named).kinds ≡ draft.kinds
worded_kinds draft [] = refl
worded_kinds draft (word ∷ named) = worded_kinds (with_named draft word) named

pub worded_part : (draft : Draft) (named : List NamedWord) → draft.part ≡ part.Words → (worded draft named).part ≡ part.Words
worded_part draft [] h = h
worded_part draft (word ∷ named) h = worded_part (with_named draft word) named refl

pub worded_maps : (draft : Draft) (named : List NamedWord) → has_maps draft ≡ true → has_maps (worded draft named) ≡ true
worded_maps draft [] h = h
worded_maps draft (word ∷ named) h = worded_maps (with_named draft word) named refl

pub length-padded : (a : ℕ) (words : List ℕ) → length words ≤ a → length (padded a words) ≡ a
length-padded a words within = omega (arith, length-append words (replicate (a - length words) 0), length-replicate {A = ℕ} (a - length words) 0)

pub length-with_named : (draft : Draft) (word : NamedWord) → length draft.words ≤ word.address → length (with_named draft word).words ≡ word.address + 1
length-with_named draft word within = omega (arith, length-append (padded word.address draft.words) (word.value ∷ []), length-padded word.address draft.words within)

-- one more word whose address is high enough
pub Rise-push : (draft : Draft) (named : List NamedWord) (word : NamedWord) → Rise (length draft.words) draft.size named → length (worded draft named).words ≤ word.address → word.address < draft.size
    → Rise (length draft.words) draft.size (named ++ word ∷ [])
Rise-push draft [] word h behind within = (behind, within, tt)
Rise-push draft (first ∷ named) word h behind within =
    let next = length-with_named draft first h.0 in (
      h.0,
      h.1,
      subst (λ n. Rise n draft.size (named ++ word ∷ [])) next
          (Rise-push (with_named draft first) named word (subst (λ n. Rise n draft.size named) (sym next) h.2) behind within),
    )

pub worded_within : (draft : Draft) (named : List NamedWord) → Rise (length draft.words) draft.size named → length draft.words ≤ draft.size → length (worded draft named).words ≤ draft.size
worded_within draft [] h within = within
worded_within draft (word ∷ named) h within =
    let next = length-with_named draft word h.0 in
    worded_within (with_named draft word) named (subst (λ n. Rise n draft.size named) (sym next) h.2) (let below = h.1 in omega (arith, next, below))

-- ---- the value at each address

pub get_or-padded : (size a : ℕ) (words : List ℕ) → length words ≤ size → get_or (padded size words) a 0 ≡ get_or words a 0
get_or-padded size a words within =
    ⊎_elim
    (λ (l : a < length words). get_or-append words (replicate (size - length words) 0) 0 a l)
    (λ (l : length words ≤ a). ⊎_elim
    (λ (m : a < size). get_or-append_right words (replicate (size - length words) 0) a 0 l
    ∙ get_or-replicate {A = ℕ} (size - length words) (a - length words) 0 0 (omega arith) ∙ sym (get_or_past words a 0 l))
    (λ (m : size ≤ a). get_or_past (padded size words) a 0 (omega (arith, length-padded size words within)) ∙ sym (get_or_past words a 0 l))
    (cases_lt a size))
    (cases_lt a (length words))

-- the value that a line names, or else this one
abbrev pub value_or : ℕ → ℕ → List NamedWord → ℕ
value_or d a [] = d
value_or d a (word ∷ named) = cond (word.address == a) word.value (value_or d a named)

pub value_or_none : (a : ℕ) (named : List NamedWord) → value_or 0 a named ≡ value_at a named
value_or_none a [] = refl
value_or_none a (word ∷ named) = ap (λ v. cond (word.address == a) word.value v) (value_or_none a named)

value_below : (d a least size : ℕ) (named : List NamedWord) → Rise least size named → a < least → value_or d a named ≡ d
value_below d a least size [] h below = refl
value_below d a least size (word ∷ named) h below =
    let at = h.0 in
    ap (λ b. cond b word.value (value_or d a named)) (ne_eqb word.address a (λ e. omega (arith, e, at, below)))
    ∙ value_below d a (word.address + 1) size named h.2 (omega (arith, at, below))

-- one more word
get_or-with_named : (draft : Draft) (word : NamedWord) (a : ℕ) → length draft.words ≤ word.address
    → get_or (with_named draft word).words a 0 ≡ cond (word.address == a) word.value (get_or draft.words a 0)
get_or-with_named draft word a within =
    let long = length-padded word.address draft.words within in
    ⊎_elim
    (λ (same : word.address ≡ a).
    let here : a - length (padded word.address draft.words) ≡ 0 = omega (arith, long, same) in
    get_or-append_right (padded word.address draft.words) (word.value ∷ []) a 0 (omega (arith, long, same))
    ∙ ap (λ j. get_or (word.value ∷ []) j 0) here
    ∙ sym (ap (λ b. cond b word.value (get_or draft.words a 0)) (eq-eqb word.address a same)))
    (λ (apart : word.address ≡ a → ⊥). ⊎_elim
    (λ (l : a < word.address). get_or-append (padded word.address draft.words) (word.value ∷ []) 0 a (omega (arith, long))
    ∙ get_or-padded word.address a draft.words within
    ∙ sym (ap (λ b. cond b word.value (get_or draft.words a 0)) (ne_eqb word.address a apart)))
    (λ (l : word.address ≤ a). get_or_past (with_named draft word).words a 0 (omega (arith, length-with_named draft word within, apart, l))
    ∙ sym (get_or_past draft.words a 0 (omega (arith, within, l)))
    ∙ sym (ap (λ b. cond b word.value (get_or draft.words a 0)) (ne_eqb word.address a apart)))
    (cases_lt a word.address))
    (equal_or (word.address) a)
  where
    equal_or : (m n : ℕ) → (m ≡ n) ⊎ (m ≡ n → ⊥)
    equal_or m n = ⊎_elim (λ (l : m < n). inr (λ e. omega (arith, e, l))) (λ (l : n ≤ m). ⊎_elim (λ (k : n < m). inr (λ e. omega (arith, e, k))) (λ (k : m ≤ n). inl (omega arith)) (cases_lt n m)) (cases_lt m n)

pub get_or-worded : (draft : Draft) (named : List NamedWord) (a : ℕ) → Rise (length draft.words) draft.size named → get_or (worded draft named).words a 0 ≡ value_or (get_or draft.words a 0) a named
get_or-worded draft [] a h = refl
get_or-worded draft (word ∷ named) a h =
    let next = length-with_named draft word h.0 in
    let rest = subst (λ n. Rise n draft.size named) (sym next) h.2 in
    get_or-worded (with_named draft word) named a rest
    ∙ ap (λ d. value_or d a named) (get_or-with_named draft word a h.0)
    ∙ by_test (word.address == a) (λ e. eqb-true word.address a e)
  where
    by_test : (b : Bool) → (b ≡ true → word.address ≡ a)
        → value_or (cond b word.value (get_or draft.words a 0)) a named ≡ cond b word.value (value_or (get_or draft.words a 0) a named)
    by_test true same = let e = same refl in value_below word.value a (word.address + 1) draft.size named h.2 (omega (arith, e))
    by_test false same = refl

-- words of one length with the same values are the same
pub same_words : (xs ys : List ℕ) (f : ℕ → ℕ) → length xs ≡ length ys → ((a : ℕ) → get_or xs a 0 ≡ f a) → ((a : ℕ) → get_or ys a 0 ≡ f a) → xs ≡ ys
same_words xs ys f long h k = ext_get_or 0 xs ys long (λ a below. h a ∙ sym (k a))
