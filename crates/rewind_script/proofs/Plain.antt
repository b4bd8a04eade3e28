-- Lines of words that a space parts, and numbers as they are written.
use Rattle.std.proofs.Common.{◌≡◌, ℕ, zero, suc, ◌+◌, ◌-◌, ◌*◌, ◌%◌, ◌<◌, ◌≤◌, ◌^◌, List, [], ◌∷◌, ◌++◌, length, take, refl, sym, ◌∙◌, ap, arith, Bool, true, false, ◌&&◌, ◌||◌, not, ◌==◌, ne_eqb, nat_lt, nat_le, lt-ltb, le-leb, leb-true, ltb-true, Some, None, map, filter, append-nil, if◌then◌else◌, decimal}
use Rattle.std.specs.List.{list_all, All, slice_split, slice_index, flat_map}
use Rattle.std.specs.Int.{is_in_range}
use Rattle.std.specs.Char.{is_ascii_digit}
use Rattle.std.specs.Str.Lines.{lines, lines_of_parts}
use Rattle.std.proofs.lemmas.List.Splits.{slice_split_at, slice_split_none, length-slice_split}
use Rattle.std.proofs.lemmas.List.Elements.{All-nil, All-cons}
use Rattle.std.proofs.lemmas.List.Folds.{list_all-append}
use Rattle.std.proofs.lemmas.Fmt.{decimal_by_steps, decimal_nonempty, length-decimal-le}
use Rattle.rewind_script.specs.Text.{words, is_blank, unless_empty, spelled, number, fitting}
use Rattle.rewind_script.specs.Report.{spaced}
use Rattle.rewind_script.proofs.Words.{before_more, kept, fitting-some}
use Rattle.rewind_script.proofs.Stages.{both}

-- a byte that may stand in a word, and one that may stand in a line
abbrev pub is_visible : ℕ → Bool
is_visible b = is_in_range 33 126 b

abbrev pub is_printable : ℕ → Bool
is_printable b = is_in_range 32 126 b

in_range : (low high b : ℕ) → low ≤ b → b ≤ high → is_in_range low high b ≡ true
in_range low high b above below = ap (λ t. t && nat_le b high) (le-leb low b above) ∙ le-leb b high below

range_of : (low high b : ℕ) → is_in_range low high b ≡ true → (low ≤ b) × (b ≤ high)
range_of low high b h = let parts = both (nat_le low b) (nat_le b high) h in (leb-true low b parts.0, leb-true b high parts.1)

other : (b c low : ℕ) → low ≤ b → c < low → (b == c) ≡ false
other b c low above below = ne_eqb b c (λ e. omega (arith, e))

all_with : (p q : ℕ → Bool) (bs : List ℕ) → ((b : ℕ) → p b ≡ true → q b ≡ true) → list_all p bs ≡ true → list_all q bs ≡ true
all_with p q [] implies h = refl
all_with p q (b ∷ bs) implies h =
    let parts = both (p b) (list_all p bs) h in
    ap (λ t. t && list_all q bs) (implies b parts.0) ∙ all_with p q bs implies parts.1

none_with : (p q : ℕ → Bool) (bs : List ℕ) → ((b : ℕ) → p b ≡ true → q b ≡ false) → list_all p bs ≡ true → All (λ b. q b ≡ false) bs
none_with p q [] implies h = All-nil (λ b. q b ≡ false)
none_with p q (b ∷ bs) implies h =
    let parts = both (p b) (list_all p bs) h in
    All-cons (λ c. q c ≡ false) b bs (implies b parts.0) (none_with p q bs implies parts.1)

pub printable_visible : (b : ℕ) → is_visible b ≡ true → is_printable b ≡ true
printable_visible b h = let r = range_of 33 126 b h in in_range 32 126 b (omega (arith, r.0)) r.1

-- ---- lines

no_feed : (b : ℕ) → is_printable b ≡ true → (b == 10) ≡ false
no_feed b h = other b 10 32 (range_of 32 126 b h).0 (omega arith)

no_return : (bs : List ℕ) (k : ℕ) → list_all is_printable bs ≡ true → (slice_index bs k == 13) ≡ false
no_return [] k h = refl
no_return (b ∷ bs) zero h = other b 13 32 (range_of 32 126 b (both (is_printable b) (list_all is_printable bs) h).0).0 (omega arith)
no_return (b ∷ bs) (suc k) h = no_return bs k (both (is_printable b) (list_all is_printable bs) h).1

-- printable bytes before a line feed are a line
pub first_line : (bs rest : List ℕ) → list_all is_printable bs ≡ true → lines (bs ++ 10 ∷ rest) ≡ bs ∷ lines rest
first_line bs rest h =
    ap lines_of_parts (slice_split_at (λ b. b == 10) bs 10 rest (none_with is_printable (λ b. b == 10) bs no_feed h) refl)
    ∙ before_more bs (slice_split (λ b. b == 10) rest) (omega (arith, length-slice_split (λ b. b == 10) rest))
    ∙ ap (λ t. (if t then take (length bs - 1) bs else bs) ∷ lines rest) (no_return bs (length bs - 1) h)

-- ---- words

no_blank : (b : ℕ) → is_visible b ≡ true → is_blank b ≡ false
no_blank b h =
    let r = range_of 33 126 b h in
    ap (λ t. t || b == 9) (other b 32 33 r.0 (omega arith)) ∙ other b 9 33 r.0 (omega arith)

-- a word, and numbers with a space before each
abbrev pub body : List ℕ → List ℕ → List ℕ
body word numbers = word ++ flat_map spaced numbers

abbrev pub are_small : List ℕ → Bool
are_small numbers = list_all (λ n. nat_lt n (2 ^ 64)) numbers

unless_some : (word : List ℕ) → 0 < length word → unless_empty word ≡ word ∷ []
unless_some [] h = absurd (omega arith)
unless_some (b ∷ bs) h = refl

digit_visible : (n : ℕ) → n < 10 → is_visible (48 + n) ≡ true
digit_visible n h = in_range 33 126 (48 + n) (omega arith) (omega (arith, h))

pub decimal_visible : (n : ℕ) → n < 2 ^ 64 → list_all is_visible (decimal n) ≡ true
decimal_visible n h =
    decimal_by_steps (λ m ds. list_all is_visible ds ≡ true)
    (λ m small. ap (λ t. t && true) (digit_visible m small))
    (λ m ds large so_far. list_all-append is_visible ds ((48 + m % 10) ∷ []) ∙ ap (λ t. t && (is_visible (48 + m % 10) && true)) so_far ∙ ap (λ t. t && true) (digit_visible (m % 10) (omega arith)))
    n h

pub words-body : (word numbers : List ℕ) → 0 < length word → list_all is_visible word ≡ true → are_small numbers ≡ true → words (body word numbers) ≡ word ∷ map decimal numbers
unfolding words
words-body word [] some visible small =
    ap (λ t. filter (λ w. not (length w == 0)) (slice_split is_blank t)) (append-nil word)
    ∙ ap (filter (λ w. not (length w == 0))) (slice_split_none is_blank word (none_with is_visible is_blank word no_blank visible))
    ∙ kept word [] ∙ append-nil (unless_empty word) ∙ unless_some word some
words-body word (n ∷ numbers) some visible small =
    let parts = both (nat_lt n (2 ^ 64)) (are_small numbers) small in
    let below : n < 2 ^ 64 = ltb-true n (2 ^ 64) parts.0 in
    let rest = words-body (decimal n) numbers (decimal_nonempty n below) (decimal_visible n below) parts.1 in
    ap (filter (λ w. not (length w == 0))) (slice_split_at is_blank word 32 (body (decimal n) numbers) (none_with is_visible is_blank word no_blank visible) refl)
    ∙ kept word (slice_split is_blank (body (decimal n) numbers))
    ∙ ap (λ u. u ++ words (body (decimal n) numbers)) (unless_some word some)
    ∙ ap (λ ws. word ∷ ws) rest

pub body_printable : (word numbers : List ℕ) → list_all is_visible word ≡ true → are_small numbers ≡ true → list_all is_printable (body word numbers) ≡ true
body_printable word [] visible small = ap (list_all is_printable) (append-nil word) ∙ all_with is_visible is_printable word printable_visible visible
body_printable word (n ∷ numbers) visible small =
    let parts = both (nat_lt n (2 ^ 64)) (are_small numbers) small in
    list_all-append is_printable word (32 ∷ body (decimal n) numbers)
    ∙ ap (λ t. t && list_all is_printable (body (decimal n) numbers)) (all_with is_visible is_printable word printable_visible visible)
    ∙ body_printable (decimal n) numbers (decimal_visible n (ltb-true n (2 ^ 64) parts.0)) parts.1

-- ---- numbers

digits-decimal : (n : ℕ) → n < 2 ^ 64 → list_all is_ascii_digit (decimal n) ≡ true
digits-decimal n h =
    decimal_by_steps (λ m ds. list_all is_ascii_digit ds ≡ true)
    (λ m small. ap (λ t. t && true) (in_range 48 57 (48 + m) (omega arith) (omega (arith, small))))
    (λ m ds large so_far. list_all-append is_ascii_digit ds ((48 + m % 10) ∷ []) ∙ ap (λ t. t && (is_ascii_digit (48 + m % 10) && true)) so_far ∙ ap (λ t. t && true) (in_range 48 57 (48 + m % 10) (omega arith) (omega arith)))
    n h

spelled-last : (n d : ℕ) (ds : List ℕ) → spelled n (ds ++ d ∷ []) ≡ spelled n ds * 10 + (d - 48)
unfolding spelled
spelled-last n d [] = refl
spelled-last n d (e ∷ ds) = spelled-last (n * 10 + (e - 48)) d ds

spelled-decimal : (n : ℕ) → n < 2 ^ 64 → spelled 0 (decimal n) ≡ n
unfolding spelled
spelled-decimal n h =
    decimal_by_steps (λ m ds. spelled 0 ds ≡ m)
    (λ m small. omega arith)
    (λ m ds large so_far. spelled-last 0 (48 + m % 10) ds ∙ omega (arith, so_far))
    n h

-- a number is read as it was written
pub number-decimal : (n : ℕ) → n < 2 ^ 64 → number (decimal n) ≡ Some n
unfolding number
number-decimal n h =
    let low : nat_lt 0 (length (decimal n)) ≡ true = lt-ltb 0 (length (decimal n)) (decimal_nonempty n h) in
    let short : length (decimal n) ≤ 20 = length-decimal-le 20 n (omega arith) (omega (arith, h)) h in
    let high : nat_lt (length (decimal n)) 21 ≡ true = lt-ltb (length (decimal n)) 21 (omega (arith, short)) in
    ap (λ t. if (t && nat_lt (length (decimal n)) 21 && list_all is_ascii_digit (decimal n)) then fitting (spelled 0 (decimal n)) else None) low
    ∙ ap (λ t. if (t && list_all is_ascii_digit (decimal n)) then fitting (spelled 0 (decimal n)) else None) high
    ∙ ap (λ t. if t then fitting (spelled 0 (decimal n)) else None) (digits-decimal n h)
    ∙ ap fitting (spelled-decimal n h) ∙ sym (fitting-some n h)
