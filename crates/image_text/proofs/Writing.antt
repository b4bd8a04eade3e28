-- Lines that are written one by one.
use Rattle.std.proofs.Common.{◌≡◌, ℕ, zero, suc, ◌+◌, ◌-◌, ◌/◌, ◌%◌, ◌<◌, ◌≤◌, List, [], ◌∷◌, ◌++◌, length, get_or, set, drop, refl, sym, ◌∙◌, ap, arith, cond, ◌==◌, ne_eqb, eq-eqb, append_assoc, append-nil, length-drop}
use Rattle.std.specs.Char.{digit_char}
use Rattle.std.proofs.lemmas.List.{drop-set, nil_from_length}
use Rattle.image_text.specs.Text.{text_of, hexadecimal}
use Rattle.image_text.specs.Written.{word_line, word_lines}

pub text_of-append : (xs ys : List (List ℕ)) → text_of (xs ++ ys) ≡ text_of xs ++ text_of ys
text_of-append [] ys = refl
text_of-append (line ∷ xs) ys =
    ap (λ t. line ++ 10 ∷ t) (text_of-append xs ys) ∙ sym (append_assoc line (10 ∷ text_of xs) (text_of ys))

-- ---- digits

pub hexadecimal-last : (k v : ℕ) → 0 < k → hexadecimal k v ≡ hexadecimal (k - 1) (v / 16) ++ digit_char (v % 16) ∷ []
unfolding hexadecimal
hexadecimal-last zero v some = absurd (omega arith)
hexadecimal-last (suc k) v some = let e : k ≡ suc k - 1 = omega arith in ap (λ j. hexadecimal j (v / 16) ++ digit_char (v % 16) ∷ []) e

pub digit_put : (k v digit : ℕ) (digits total : List ℕ) → 0 < k → k ≤ length digits → digit ≡ digit_char (v % 16)
    → hexadecimal k v ++ drop k digits ≡ total → hexadecimal (k - 1) (v / 16) ++ drop (k - 1) (set digits (k - 1) digit) ≡ total
digit_put k v digit digits total some long is so_far =
    let here : k - 1 + 1 ≡ k = omega arith in
    ap (λ d. hexadecimal (k - 1) (v / 16) ++ d) (drop-set digits (k - 1) digit (omega arith) ∙ ap (λ j. digit ∷ drop j digits) here)
    ∙ sym (append_assoc (hexadecimal (k - 1) (v / 16)) (digit ∷ []) (drop k digits))
    ∙ ap (λ d. (hexadecimal (k - 1) (v / 16) ++ d ∷ []) ++ drop k digits) is
    ∙ ap (λ h. h ++ drop k digits) (sym (hexadecimal-last k v some))
    ∙ so_far

pub digits_put : (v k : ℕ) (digits total : List ℕ) → k ≡ 0 → hexadecimal k v ++ drop k digits ≡ total → digits ≡ total
unfolding hexadecimal
digits_put v zero digits total none so_far = so_far
digits_put v (suc k) digits total none so_far = absurd (omega arith)

-- ---- words

word_lines-next : (a k : ℕ) (words : List ℕ) → k < length words
    → word_lines a (drop k words) ≡ cond (get_or words k 0 == 0) (word_lines (a + 1) (drop (suc k) words)) (word_line a (get_or words k 0) ∷ word_lines (a + 1) (drop (suc k) words))
unfolding word_lines
word_lines-next a k [] h = absurd (omega arith)
word_lines-next a zero (v ∷ words) h = refl
word_lines-next a (suc k) (v ∷ words) h = word_lines-next a k words (omega arith)

-- a word that is 0 has no line
pub zero_passed : (a : ℕ) (words text total : List ℕ) → a < length words → get_or words a 0 ≡ 0
    → text ++ text_of (word_lines a (drop a words)) ≡ total → text ++ text_of (word_lines (a + 1) (drop (a + 1) words)) ≡ total
zero_passed a words text total within none so_far =
    let next : suc a ≡ a + 1 = omega arith in
    let here = word_lines-next a a words within
    ∙ ap (λ b. cond b (word_lines (a + 1) (drop (suc a) words)) (word_line a (get_or words a 0) ∷ word_lines (a + 1) (drop (suc a) words))) (eq-eqb (get_or words a 0) 0 none)
    ∙ ap (λ j. word_lines (a + 1) (drop j words)) next in
    ap (λ ls. text ++ text_of ls) (sym here) ∙ so_far

pub word_put : (a v : ℕ) (words text after total : List ℕ) → a < length words → v ≡ get_or words a 0 → (v ≡ 0 → ⊥)
    → after ≡ text ++ text_of (word_line a v ∷ [])
    → text ++ text_of (word_lines a (drop a words)) ≡ total → after ++ text_of (word_lines (a + 1) (drop (a + 1) words)) ≡ total
word_put a v words text after total within is some put so_far =
    let next : suc a ≡ a + 1 = omega arith in
    let rest = word_lines (a + 1) (drop (a + 1) words) in
    let here : word_lines a (drop a words) ≡ word_line a v ∷ rest = word_lines-next a a words within
    ∙ ap (λ b. cond b (word_lines (a + 1) (drop (suc a) words)) (word_line a (get_or words a 0) ∷ word_lines (a + 1) (drop (suc a) words)))
    (ne_eqb (get_or words a 0) 0 (λ e. some (is ∙ e)))
    ∙ ap (λ j. word_line a (get_or words a 0) ∷ word_lines (a + 1) (drop j words)) next
    ∙ ap (λ w. word_line a w ∷ rest) (sym is) in
    ap (λ t. t ++ text_of rest) put
    ∙ append_assoc text (text_of (word_line a v ∷ [])) (text_of rest)
    ∙ ap (λ t. text ++ t) (sym (text_of-append (word_line a v ∷ []) rest))
    ∙ ap (λ ls. text ++ text_of ls) (sym here) ∙ so_far

pub words_put : (a : ℕ) (words text total : List ℕ) → length words ≤ a → text ++ text_of (word_lines a (drop a words)) ≡ total → text ≡ total
unfolding word_lines
words_put a words text total past so_far =
    sym (append-nil text)
    ∙ ap (λ rest. text ++ text_of (word_lines a rest)) (sym (nil_from_length (drop a words) (omega (arith, length-drop a words)))) ∙ so_far

-- the parts of a text, put one after the other
pub all_put : (size last : List ℕ) (kinds words : List (List ℕ)) (a b c d : List ℕ)
    → a ≡ [] ++ text_of (size ∷ []) → b ≡ a ++ text_of kinds → c ≡ b ++ text_of words → d ≡ c ++ text_of (last ∷ [])
    → d ≡ text_of (size ∷ (kinds ++ (words ++ last ∷ [])))
all_put size last kinds words a b c d first second third fourth =
    let s = text_of (size ∷ []) in
    let k = text_of kinds in
    let w = text_of words in
    let e = text_of (last ∷ []) in
    fourth ∙ ap (λ t. t ++ e) (third ∙ ap (λ t. t ++ w) (second ∙ ap (λ t. t ++ k) first))
    ∙ append_assoc (s ++ k) w e ∙ append_assoc s k (w ++ e)
    ∙ ap (λ t. s ++ (k ++ t)) (sym (text_of-append words (last ∷ [])))
    ∙ ap (λ t. s ++ t) (sym (text_of-append kinds (words ++ last ∷ [])))
    ∙ sym (text_of-append (size ∷ []) (kinds ++ (words ++ last ∷ [])))
