-- The first line of a text, and the first space of a line.
use Rattle.std.proofs.Common.{◌≡◌, ℕ, ◌+◌, ◌-◌, ◌<◌, ◌≤◌, List, [], ◌∷◌, length, get_or, take, drop, refl, sym, ◌∙◌, ap, subst, arith, cond, Bool, true, false, eqb, ne_eqb, length-drop, take_all}
use Rattle.std.specs.List.{slice_split, position_or_len, before_first, after_first}
use Rattle.std.proofs.lemmas.List.Splits.{slice_split_first, slice_split_none, length-slice_split}
use Rattle.std.proofs.lemmas.List.Sums.{position_or_len_is, fails_before_first}
use Rattle.image_text.specs.Text.{is_line_feed, lines, lines_of_parts}

not_true : (b : Bool) → (b ≡ true → ⊥) → b ≡ false
not_true true h = absurd (h refl)
not_true false h = refl

-- the first place of a byte, from a search that found none or one
pub first_none : (c : ℕ) (text : List ℕ) → ((k : ℕ) → 0 ≤ k → k < length text → eqb (get_or text k 0) c ≡ true → ⊥)
    → position_or_len (λ b. eqb b c) text ≡ length text
first_none c text none = position_or_len_is (λ b. eqb b c) text (length text) 0 (omega arith) (λ k h. not_true _ (none k (omega arith) h)) (λ h. absurd (omega arith))

pub first_some : (c : ℕ) (text : List ℕ) (n : ℕ) → n < length text → ((k : ℕ) → 0 ≤ k → k < n → eqb (get_or text k 0) c ≡ true → ⊥) → eqb (get_or text n 0) c ≡ true
    → position_or_len (λ b. eqb b c) text ≡ n
first_some c text n within none here = position_or_len_is (λ b. eqb b c) text n 0 (omega arith) (λ k h. not_true _ (none k (omega arith) h)) (λ h. here)

pub lines_none : (text : List ℕ) → length text ≡ 0 → lines text ≡ []
unfolding lines
lines_none [] h = refl
lines_none (b ∷ bs) h = absurd (omega arith)

-- a text without a line feed is one line
pub lines_last : (text : List ℕ) → 0 < length text → position_or_len is_line_feed text ≡ length text → lines text ≡ text ∷ []
unfolding lines
lines_last text some none =
    ap lines_of_parts (slice_split_none is_line_feed text (λ k d h. fails_before_first is_line_feed text k d (omega (arith, none, h))))
    ∙ ap (λ t. cond t [] (text ∷ [])) (ne_eqb (length text) 0 (λ z. omega arith))

pub parts_more : (line : List ℕ) (parts : List (List ℕ)) → 0 < length parts → lines_of_parts (line ∷ parts) ≡ line ∷ lines_of_parts parts
parts_more line [] h = absurd (omega arith)
parts_more line (next ∷ parts) h = refl

-- what stands before the first line feed is a line
pub lines_next : (text : List ℕ) (n : ℕ) → n < length text → position_or_len is_line_feed text ≡ n
    → lines text ≡ take n text ∷ lines (drop (n + 1) text)
unfolding lines
lines_next text n within first =
    let P : ℕ → Type 0 = λ k. slice_split is_line_feed text ≡ take k text ∷ slice_split is_line_feed (drop (k + 1) text) in
    ap lines_of_parts (subst P first (slice_split_first is_line_feed text 0 (omega (arith, first, within))))
    ∙ parts_more (take n text) (slice_split is_line_feed (drop (n + 1) text)) (omega (arith, length-slice_split is_line_feed (drop (n + 1) text)))

-- what stands behind the byte at n
pub behind : (text : List ℕ) (n : ℕ) → n < length text → take (length text - (n + 1)) (drop (n + 1) text) ≡ drop (n + 1) text
behind text n within = take_all (length text - (n + 1)) (drop (n + 1) text) (omega (arith, length-drop (n + 1) text))

-- all stands before a byte that isn't there
pub before_none : (p : ℕ → Bool) (line : List ℕ) → position_or_len p line ≡ length line → line ≡ before_first p line
before_none p line none = sym (ap (λ n. take n line) none ∙ take_all (length line) line (omega arith))

pub after_none : (p : ℕ → Bool) (line : List ℕ) → position_or_len p line ≡ length line → [] ≡ after_first p line
after_none p line none = sym (nil (after_first p line) (omega (arith, length-drop (position_or_len p line + 1) line)))
  where
    nil : (xs : List ℕ) → length xs ≡ 0 → xs ≡ []
    nil [] h = refl
    nil (x ∷ xs) h = absurd (omega arith)
