-- Lines that are read one by one, and what they say.
use Rattle.std.proofs.Common.{◌≡◌, ℕ, ◌+◌, List, [], ◌∷◌, ◌++◌, length, refl, ◌∙◌, ap, arith, map, Option, Some, None, Result, Err}
use Rattle.image_text.specs.declared.image.Image.{Image}
use Rattle.image_text.specs.declared.image.TextFault.{TextFault}
use Rattle.image_text.specs.declared.image.TextFault.TheVariants.{Line}
use Rattle.image_text.specs.declared.entry.Entry.{Entry}
use Rattle.image_text.specs.declared.draft.Draft.{Draft}
use Rattle.image_text.specs.Grammar.{◌>>=◌, entry_of}
use Rattle.image_text.specs.Reading.{with_entry, after_line, image_of, image_from, at_line}
use Rattle.image_text.proofs.Steps.{goes_on}

-- ---- each line says its entry

abbrev pub Say : List (List ℕ) → List Entry → Type 0
Say [] [] = Unit {0}
Say [] (e ∷ es) = ⊥
Say (line ∷ ls) [] = ⊥
Say (line ∷ ls) (e ∷ es) = (entry_of line ≡ Some e) × Say ls es

pub say_of : (ls : List (List ℕ)) (es : List Entry) → map entry_of ls ≡ map Some es → Say ls es
say_of [] [] h = tt
say_of [] (e ∷ es) h = no_cons (Some e) (map Some es) h
  where
    no_cons : (x : Option Entry) (xs : List (Option Entry)) → [] ≡ x ∷ xs → ⊥
    no_cons x xs h = cc
say_of (line ∷ ls) [] h = no_nil (entry_of line) (map entry_of ls) h
  where
    no_nil : (x : Option Entry) (xs : List (Option Entry)) → x ∷ xs ≡ [] → ⊥
    no_nil x xs h = cc
say_of (line ∷ ls) (e ∷ es) h =
    let parts = both (entry_of line) (Some e) (map entry_of ls) (map Some es) h in
    (parts.0, say_of ls es parts.1)
  where
    both : (x y : Option Entry) (xs ys : List (Option Entry)) → x ∷ xs ≡ y ∷ ys → (x ≡ y) × (xs ≡ ys)
    both x y xs ys h = (cc, cc)

pub of_say : (ls : List (List ℕ)) (es : List Entry) → Say ls es → map entry_of ls ≡ map Some es
of_say [] [] h = refl
of_say [] (e ∷ es) h = absurd h
of_say (line ∷ ls) [] h = absurd h
of_say (line ∷ ls) (e ∷ es) h = ap (λ (x : Option Entry). x ∷ map entry_of ls) h.0 ∙ ap (λ (xs : List (Option Entry)). Some e ∷ xs) (of_say ls es h.1)

pub Say-append : (ls ms : List (List ℕ)) (es fs : List Entry) → Say ls es → Say ms fs → Say (ls ++ ms) (es ++ fs)
Say-append [] ms [] fs h k = k
Say-append [] ms (e ∷ es) fs h k = absurd h
Say-append (line ∷ ls) ms [] fs h k = absurd h
Say-append (line ∷ ls) ms (e ∷ es) fs h k = (h.0, Say-append ls ms es fs h.1 k)

-- ---- drafts behind lines and behind entries

abbrev pub after_lines : Draft → List (List ℕ) → Option Draft
after_lines draft [] = Some draft
after_lines draft (line ∷ ls) = after_line draft line >>= λ next. after_lines next ls

abbrev pub after_entries : Draft → List Entry → Option Draft
after_entries draft [] = Some draft
after_entries draft (e ∷ es) = with_entry draft e >>= λ next. after_entries next es

bind_same : (o : Option Draft) (f g : Draft → Option Draft) → ((d : Draft) → f d ≡ g d) → (o >>= f) ≡ (o >>= g)
bind_same None f g h = refl
bind_same (Some d) f g h = h d

pub as_entries : (draft : Draft) (ls : List (List ℕ)) (es : List Entry) → Say ls es → after_lines draft ls ≡ after_entries draft es
unfolding after_line
as_entries draft [] [] h = refl
as_entries draft [] (e ∷ es) h = absurd h
as_entries draft (line ∷ ls) [] h = absurd h
as_entries draft (line ∷ ls) (e ∷ es) h =
    ap (λ (o : Option Entry). (o >>= with_entry draft) >>= λ next. after_lines next ls) h.0
    ∙ bind_same (with_entry draft e) (λ next. after_lines next ls) (λ next. after_entries next es) (λ next. as_entries next ls es h.1)

-- what was read ends where its first part ends
pub lines-append : (draft : Draft) (ls ms : List (List ℕ)) → after_lines draft (ls ++ ms) ≡ (after_lines draft ls >>= λ next. after_lines next ms)
lines-append draft [] ms = refl
lines-append draft (line ∷ ls) ms = by_step (after_line draft line) (λ next. lines-append next ls ms)
  where
    by_step : (o : Option Draft) → ((next : Draft) → after_lines next (ls ++ ms) ≡ (after_lines next ls >>= λ d. after_lines d ms))
        → (o >>= λ next. after_lines next (ls ++ ms)) ≡ ((o >>= λ next. after_lines next ls) >>= λ next. after_lines next ms)
    by_step None goes_on = refl
    by_step (Some next) goes_on = goes_on next

pub some_bind : (o : Option Draft) (f : Draft → Option Draft) (d : Draft) → (o >>= f) ≡ Some d → (c : Draft) × (o ≡ Some c) × (f c ≡ Some d)
some_bind None f d h = absurd (none_some d h)
  where
    none_some : (y : Draft) → None ≡ Some y → ⊥
    none_some y e = cc
some_bind (Some c) f d h = (c, refl, h)

-- ---- what is read of all lines

pub all_right : (n : ℕ) (draft last : Draft) (ls : List (List ℕ)) → after_lines draft ls ≡ Some last → image_from n draft ls ≡ image_of (n + length ls) last
unfolding image_from
all_right n draft last [] h =
    let here : n ≡ n + 0 = omega arith in
    let same : draft ≡ last = inner draft last h in
    ap (λ m. image_of m draft) here ∙ ap (image_of (n + 0)) same
  where
    inner : (x y : Draft) → Some x ≡ Some y → x ≡ y
    inner x y e = cc
all_right n draft last (line ∷ ls) h =
    let step = some_bind (after_line draft line) (λ next. after_lines next ls) last h in
    let count : n + 1 + length ls ≡ n + length (line ∷ ls) = omega arith in
    goes_on n draft step.0 line ls step.1 ∙ all_right (n + 1) step.0 last ls step.2 ∙ ap (λ m. image_of m last) count

pub first_wrong : (n : ℕ) (draft last : Draft) (before rest : List (List ℕ)) (line : List ℕ) → after_lines draft before ≡ Some last → after_line last line ≡ None
    → image_from n draft (before ++ line ∷ rest) ≡ Err (Line (n + length before))
unfolding image_from
first_wrong n draft last [] rest line h none =
    let here : n ≡ n + 0 = omega arith in
    let same : draft ≡ last = inner draft last h in
    ap (λ (d : Draft). image_from n d (line ∷ rest)) same
    ∙ ap (λ (o : Option Draft). at_line n o (λ next. image_from (n + 1) next rest)) none
    ∙ ap (λ m. wrong m) here
  where
    inner : (x y : Draft) → Some x ≡ Some y → x ≡ y
    inner x y e = cc

    wrong : ℕ → Result Image TextFault
    wrong m = Err (Line m)
first_wrong n draft last (first ∷ before) rest line h none =
    let step = some_bind (after_line draft first) (λ next. after_lines next before) last h in
    let count : n + 1 + length before ≡ n + length (first ∷ before) = omega arith in
    goes_on n draft step.0 first (before ++ line ∷ rest) step.1 ∙ first_wrong (n + 1) step.0 last before rest line step.2 none ∙ ap (λ m. wrong m) count
  where
    wrong : ℕ → Result Image TextFault
    wrong m = Err (Line m)

-- all lines are right, or there is a first that isn't
pub data Course (draft : Draft) (ls : List (List ℕ)) : Type 0 where
  right : (last : Draft) → after_lines draft ls ≡ Some last → Course draft ls
  broken : (last : Draft) (before rest : List (List ℕ)) (line : List ℕ) → ls ≡ before ++ line ∷ rest → after_lines draft before ≡ Some last → after_line last line ≡ None → Course draft ls

pub course : (draft : Draft) (ls : List (List ℕ)) → Course draft ls
course draft [] = right draft refl
course draft (line ∷ ls) = by_step (after_line draft line) refl (λ next. course next ls)
  where
    by_step : (o : Option Draft) → after_line draft line ≡ o → ((next : Draft) → Course next ls) → Course draft (line ∷ ls)
    by_step None is goes_on = broken draft [] ls line refl refl is
    by_step (Some next) is goes_on = onto (goes_on next)
      where
        onto : Course next ls → Course draft (line ∷ ls)
        onto (right last h) = right last (ap (λ (o : Option Draft). o >>= λ n. after_lines n ls) is ∙ h)
        onto (broken last before rest wrong parts h none) =
            broken last (line ∷ before) rest wrong (ap (λ (xs : List (List ℕ)). line ∷ xs) parts) (ap (λ (o : Option Draft). o >>= λ n. after_lines n before) is ∙ h) none
