use Rattle.std.proofs.Common.{◌≡◌, ℕ, zero, suc, ◌+◌, ◌-◌, ◌*◌, ◌<◌, ◌≤◌, ◌^◌, List, [], ◌∷◌, ◌++◌, length, get_or, take, drop, refl, sym, ◌∙◌, ap, subst, arith, cond, Bool, true, false, eqb, ne_eqb, Some, None, le-ltb, lt-ltb, filter, not, ◌==◌, length-drop, take_all, drop-drop, ⊎_elim}
use Rattle.std.specs.List.{slice_split, position, position_or_len}
use Rattle.std.specs.Str.Lines.{lines, lines_of_parts, strip_carriage_return}
use Rattle.std.proofs.lemmas.List.Splits.{slice_split_first, slice_split_none, length-slice_split}
use Rattle.std.proofs.lemmas.List.Sums.{position_or_len_is, fails_before_first}
use Rattle.std.proofs.lemmas.List.{nil_from_length}
use Rattle.std.proofs.lemmas.Bool.{cases_lt}
use Rattle.rewind_script.specs.Text.{spelled, fitting, is_blank, words, unless_empty}

not_true : (b : Bool) → (b ≡ true → ⊥) → b ≡ false
not_true true h = absurd (h refl)
not_true false h = refl

some_none : {n : ℕ} → Some n ≡ None → ⊥
some_none e = cc

some_same : (m n : ℕ) → Some m ≡ Some n → m ≡ n
some_same m n e = cc

abbrev is_line_feed : ℕ → Bool
is_line_feed b = eqb b 10

-- a text without a line feed is one line
pub lines_last : (text : List ℕ) → 0 < length text → position_or_len is_line_feed text ≡ length text → lines text ≡ text ∷ []
lines_last text some none =
    ap lines_of_parts (slice_split_none is_line_feed text (λ k d h. fails_before_first is_line_feed text k d (omega (arith, none, h))))
    ∙ ap (λ t. cond t [] (text ∷ [])) (ne_eqb (length text) 0 (λ z. omega arith))

pub before_more : (line : List ℕ) (parts : List (List ℕ)) → 0 < length parts → lines_of_parts (line ∷ parts) ≡ strip_carriage_return line ∷ lines_of_parts parts
before_more line [] h = absurd (omega arith)
before_more line (next ∷ parts) h = refl

-- what stands before the first line feed is a line
pub lines_next : (text : List ℕ) (n : ℕ) → n < length text → position_or_len is_line_feed text ≡ n
    → lines text ≡ strip_carriage_return (take n text) ∷ lines (drop (n + 1) text)
lines_next text n within first =
    let P : ℕ → Type 0 = λ k. slice_split is_line_feed text ≡ take k text ∷ slice_split is_line_feed (drop (k + 1) text) in
    ap lines_of_parts (subst P first (slice_split_first is_line_feed text 0 (omega (arith, first, within))))
    ∙ before_more (take n text) (slice_split is_line_feed (drop (n + 1) text)) (omega (arith, length-slice_split is_line_feed (drop (n + 1) text)))

-- more digits spell no less
pub spelled-least : (n : ℕ) (digits : List ℕ) → n ≤ spelled n digits
unfolding spelled
spelled-least n [] = omega arith
spelled-least n (digit ∷ digits) = omega (arith, spelled-least (n * 10 + (digit - 48)) digits)

pub spelled-next : (n k : ℕ) (digits : List ℕ) → k < length digits
    → spelled n (drop k digits) ≡ spelled (n * 10 + (get_or digits k 0 - 48)) (drop (suc k) digits)
unfolding spelled
spelled-next n zero [] h = absurd (omega arith)
spelled-next n zero (digit ∷ digits) h = refl
spelled-next n (suc k) [] h = absurd (omega arith)
spelled-next n (suc k) (digit ∷ digits) h = spelled-next n k digits (omega arith)

fitting-none : (n : ℕ) → 2 ^ 64 ≤ n → None ≡ fitting n
fitting-none n h = sym (ap (λ t. cond t (Some n) None) (le-ltb n (2 ^ 64) h))

pub too_large : (n k : ℕ) (digits : List ℕ) → k < length digits → spelled n (drop k digits) ≡ spelled 0 digits
    → 2 ^ 64 ≤ n * 10 + (get_or digits k 0 - 48) → None ≡ fitting (spelled 0 digits)
too_large n k digits within so_far large =
    fitting-none (spelled 0 digits)
    (omega (arith, so_far, spelled-next n k digits within, spelled-least (n * 10 + (get_or digits k 0 - 48)) (drop (suc k) digits)))

pub spelled-end : (n k : ℕ) (digits : List ℕ) → length digits ≤ k → spelled n (drop k digits) ≡ n
unfolding spelled
spelled-end n k digits past = ap (spelled n) (nil_from_length (drop k digits) (omega (arith, length-drop k digits)))

pub fitting-some : (n : ℕ) → n < 2 ^ 64 → Some n ≡ fitting n
fitting-some n h = sym (ap (λ t. cond t (Some n) None) (lt-ltb n (2 ^ 64) h))

pub not_below : (a b : ℕ) → (a < b → ⊥) → b ≤ a
not_below a b h = ⊎_elim (λ l. absurd (h l)) (λ l. l) (cases_lt a b)

-- the first place of a line feed, from a search that found none or one
pub first_none : (text : List ℕ) → ((k : ℕ) → 0 ≤ k → k < length text → eqb (get_or text k 0) 10 ≡ true → ⊥) → position_or_len is_line_feed text ≡ length text
first_none text none = position_or_len_is is_line_feed text (length text) 0 (omega arith) (λ k h. not_true _ (none k (omega arith) h)) (λ h. absurd (omega arith))

pub first_some : (text : List ℕ) (n : ℕ) → n < length text → ((k : ℕ) → 0 ≤ k → k < n → eqb (get_or text k 0) 10 ≡ true → ⊥) → eqb (get_or text n 0) 10 ≡ true
    → position_or_len is_line_feed text ≡ n
first_some text n within none here = position_or_len_is is_line_feed text n 0 (omega arith) (λ k h. not_true _ (none k (omega arith) h)) (λ h. here)

pub words-nil : words [] ≡ []
unfolding words
words-nil = refl

none_past : (p : ℕ → Bool) (xs : List ℕ) → position p xs ≡ None → length xs ≤ position_or_len p xs
none_past p xs none = ⊎_elim (λ within. absurd (some_none (sym (ap (λ t. cond t (Some (position_or_len p xs)) None) (lt-ltb _ _ within)) ∙ none))) (λ past. past) (cases_lt (position_or_len p xs) (length xs))

pub position_at : (p : ℕ → Bool) (xs : List ℕ) (n : ℕ) → position p xs ≡ Some n → (position_or_len p xs ≡ n) × (n < length xs)
position_at p xs n some =
    ⊎_elim
    (λ (within : position_or_len p xs < length xs). let e : position_or_len p xs ≡ n = some_same _ _ (sym (ap (λ t. cond t (Some (position_or_len p xs)) None) (lt-ltb _ _ within)) ∙ some) in (e, omega (arith, e, within)))
    (λ (past : length xs ≤ position_or_len p xs). absurd (some_none (sym some ∙ ap (λ t. cond t (Some (position_or_len p xs)) None) (le-ltb _ _ past))))
    (cases_lt (position_or_len p xs) (length xs))

pub kept : (word : List ℕ) (parts : List (List ℕ)) → filter (λ w. not (length w == 0)) (word ∷ parts) ≡ unless_empty word ++ filter (λ w. not (length w == 0)) parts
kept [] parts = refl
kept (b ∷ bs) parts = ap (λ t. cond (not t) ((b ∷ bs) ∷ filter (λ w. not (length w == 0)) parts) (filter (λ w. not (length w == 0)) parts)) (ne_eqb (length (b ∷ bs)) 0 (λ z. omega arith))

pub words-none : (line : List ℕ) → position is_blank line ≡ None → words line ≡ unless_empty line ++ words []
unfolding words
words-none line none =
    ap (filter (λ w. not (length w == 0))) (slice_split_none is_blank line (λ k d h. fails_before_first is_blank line k d (omega (arith, none_past is_blank line none))))
    ∙ kept line []

pub words-some : (line : List ℕ) (n : ℕ) → position is_blank line ≡ Some n → (words line ≡ unless_empty (take n line) ++ words (drop (n + 1) line)) × (n < length line)
unfolding words
words-some line n some =
    let at = position_at is_blank line n some in
    let P : ℕ → Type 0 = λ k. slice_split is_blank line ≡ take k line ∷ slice_split is_blank (drop (k + 1) line) in (
      ap (filter (λ w. not (length w == 0))) (subst P at.0 (slice_split_first is_blank line 0 (omega (arith, at.0, at.1))))
          ∙ kept (take n line) (slice_split is_blank (drop (n + 1) line)),
      at.1,
    )

-- what stands after the byte at n
pub after_one : (text : List ℕ) (n : ℕ) (back : List ℕ) → back ≡ drop n text → n < length text
    → (take (length back - 1) (drop 1 back) ≡ drop (n + 1) text) × (length (take (length back - 1) (drop 1 back)) < length text)
after_one text n back e within =
    let whole : take (length back - 1) (drop 1 back) ≡ drop 1 back = take_all _ (drop 1 back) (omega (arith, length-drop 1 back)) in
    let len : length back ≡ length text - n = ap length e ∙ length-drop n text in (
      whole ∙ ap (drop 1) e ∙ drop-drop 1 n text,
      omega (arith, ap length whole, length-drop 1 back, len),
    )
