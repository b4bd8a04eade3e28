-- Lines and numbers.
use Rattle.std.specs.Prelude.{ℕ, zero, suc, ◌+◌, ◌*◌, ◌/◌, ◌%◌, List, [], ◌∷◌, ◌++◌, length, Bool, not, ◌&&◌, ◌||◌, ◌==◌, nat_lt, Option, Some, None, if◌then◌else◌, slice_index}
use Rattle.std.specs.List.{slice_split}
use Rattle.std.specs.Char.{digit_value, is_digit, digit_char}

abbrev pub is_line_feed : ℕ → Bool
is_line_feed b = b == 10

abbrev pub is_space : ℕ → Bool
is_space b = b == 32

-- the lines of what stands between line feeds: an empty last part is no line
abbrev pub lines_of_parts : List (List ℕ) → List (List ℕ)
lines_of_parts [] = []
lines_of_parts (line ∷ []) = if length line == 0 then [] else line ∷ []
lines_of_parts (line ∷ next ∷ parts) = line ∷ lines_of_parts (next ∷ parts)

-- Each line ends with a line feed, which the last may lack.
unfoldable pub lines : List ℕ → List (List ℕ)
lines text = lines_of_parts (slice_split is_line_feed text)

-- the lines, each with its line feed
abbrev pub text_of : List (List ℕ) → List ℕ
text_of [] = []
text_of (line ∷ rest) = line ++ 10 ∷ text_of rest

-- what digits spell that stand after those of n
unfoldable pub spelled : ℕ → ℕ → List ℕ → Option ℕ
spelled base n [] = Some n
spelled base n (c ∷ word) = if is_digit c base then spelled base (n * base + digit_value c) word else None

-- 1 to 7 bytes, 0 being the first of 0 alone
abbrev pub is_short : List ℕ → Bool
is_short word = nat_lt 0 (length word) && nat_lt (length word) 8 && ((length word == 1) || not (slice_index word 0 == 48))

-- A number in decimal. One of eight digits is above every limit.
abbrev pub number_of : List ℕ → Option ℕ
number_of word = if is_short word then spelled 10 0 word else None

-- a value: 16 hexadecimal digits
abbrev pub value_of : List ℕ → Option ℕ
value_of word = if length word == 16 then spelled 16 0 word else None

-- the lowest k digits of a value, in lower case
unfoldable pub hexadecimal : ℕ → ℕ → List ℕ
hexadecimal zero v = []
hexadecimal (suc k) v = hexadecimal k (v / 16) ++ digit_char (v % 16) ∷ []
