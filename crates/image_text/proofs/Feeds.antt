-- A text of lines has those lines, where no line has a line feed.
use Rattle.std.proofs.Common.{◌≡◌, ℕ, suc, ◌+◌, ◌≤◌, List, [], ◌∷◌, ◌++◌, length, take, drop, refl, ◌∙◌, ap, arith, cond, Bool, true, false, not, ◌==◌, ne_eqb}
use Rattle.std.specs.Char.{digit_value}
use Rattle.std.specs.List.{slice_split, onto_first, prefix_len, position_or_len, before_first, after_first}
use Rattle.std.specs.Str.Parse.{AllDigits}
use Rattle.std.proofs.lemmas.List.Splits.{slice_split-cons_no, length-slice_split}
use Rattle.std.proofs.Math.Seq.{take-append_seam, drop-append-add}
use Rattle.image_text.specs.Text.{is_line_feed, is_space, lines, lines_of_parts, text_of}
use Rattle.image_text.proofs.Splitting.{parts_more}

-- the byte isn't there
abbrev pub lacks : ℕ → List ℕ → Bool
lacks c [] = true
lacks c (b ∷ bs) = cond (b == c) false (lacks c bs)

-- no line has the byte
abbrev pub AllLack : ℕ → List (List ℕ) → Type 0
AllLack c [] = Unit {0}
AllLack c (line ∷ rest) = (lacks c line ≡ true) × AllLack c rest

first_lacks : (b : Bool) (r : Bool) → cond b false r ≡ true → (b ≡ false) × (r ≡ true)
first_lacks true r e = absurd cc
first_lacks false r e = (refl, e)

pub lacks-append : (c : ℕ) (xs ys : List ℕ) → lacks c xs ≡ true → lacks c ys ≡ true → lacks c (xs ++ ys) ≡ true
lacks-append c [] ys e f = f
lacks-append c (x ∷ xs) ys e f =
    let first = first_lacks (x == c) (lacks c xs) e in
    ap (λ b. cond b false (lacks c (xs ++ ys))) first.0 ∙ lacks-append c xs ys first.1 f

pub AllLack-append : (c : ℕ) (xs ys : List (List ℕ)) → AllLack c xs → AllLack c ys → AllLack c (xs ++ ys)
AllLack-append c [] ys e f = f
AllLack-append c (x ∷ xs) ys e f = (e.0, AllLack-append c xs ys e.1 f)

-- a line feed and a space are no digits
pub digits_lack : (base c : ℕ) (word : List ℕ) → base ≤ 36 → digit_value c ≡ 36 → AllDigits base word → lacks c word ≡ true
digits_lack base c [] small none all = refl
digits_lack base c (b ∷ word) small none all =
    ap (λ t. cond t false (lacks c word)) (ne_eqb b c (λ e. omega (arith, ap digit_value e, all.0, none)))
    ∙ digits_lack base c word small none all.1

-- ---- lines

split_line : (line text : List ℕ) → lacks 10 line ≡ true → slice_split is_line_feed (line ++ 10 ∷ text) ≡ line ∷ slice_split is_line_feed text
split_line [] text h = refl
split_line (b ∷ line) text h =
    let first = first_lacks (b == 10) (lacks 10 line) h in
    slice_split-cons_no is_line_feed b (line ++ 10 ∷ text) first.0 ∙ ap (onto_first b) (split_line line text first.1)

pub lines-text_of : (ls : List (List ℕ)) → AllLack 10 ls → lines (text_of ls) ≡ ls
unfolding lines
lines-text_of [] h = refl
lines-text_of (line ∷ rest) h =
    ap lines_of_parts (split_line line (text_of rest) h.0)
    ∙ parts_more line (slice_split is_line_feed (text_of rest)) (omega (arith, length-slice_split is_line_feed (text_of rest)))
    ∙ ap (λ ls. line ∷ ls) (lines-text_of rest h.1)

-- ---- the first space

first_space : (name rest : List ℕ) → lacks 32 name ≡ true → position_or_len is_space (name ++ 32 ∷ rest) ≡ length name
first_space [] rest h = refl
first_space (b ∷ name) rest h =
    let first = first_lacks (b == 32) (lacks 32 name) h in
    let later : 1 + length name ≡ suc (length name) = omega arith in
    ap (λ t. cond (not t) (1 + prefix_len (λ x. not (is_space x)) (name ++ 32 ∷ rest)) 0) first.0
    ∙ ap (λ n. 1 + n) (first_space name rest first.1) ∙ later

pub before_space : (name rest : List ℕ) → lacks 32 name ≡ true → before_first is_space (name ++ 32 ∷ rest) ≡ name
before_space name rest h = ap (λ n. take n (name ++ 32 ∷ rest)) (first_space name rest h) ∙ take-append_seam name (32 ∷ rest)

pub after_space : (name rest : List ℕ) → lacks 32 name ≡ true → after_first is_space (name ++ 32 ∷ rest) ≡ rest
after_space name rest h = ap (λ n. drop (n + 1) (name ++ 32 ∷ rest)) (first_space name rest h) ∙ drop-append-add name (32 ∷ rest) 1
