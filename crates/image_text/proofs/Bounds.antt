-- What a text says is within the limits of an image.
use Rattle.std.proofs.Common.{◌≡◌, ℕ, suc, ◌+◌, ◌*◌, ◌<◌, ◌≤◌, ◌^◌, List, [], ◌∷◌, ◌++◌, length, refl, sym, ap, subst, arith, cond, map, Bool, true, false, Option, Some, None, ltb-true, eqb-true, ◌==◌, codes}
use Rattle.std.specs.Char.{digit_value, is_digit}
use Rattle.std.specs.List.{before_first, after_first}
use Rattle.std.specs.Str.{bytes_eq}
use Rattle.region_layout.specs.declared.layout.Kind.{Kind}
use Rattle.image_text.specs.declared.entry.Entry.{Entry}
use Rattle.image_text.specs.declared.entry.Entry.TheVariants.{Size, Map, Word, End}
use Rattle.image_text.specs.Text.{is_space, lines, spelled, number_of, value_of}
use Rattle.image_text.specs.Grammar.{◌>>=◌, otherwise, kind_of, word_entry, named_entry, end_entry, entry_of, NamedWord, entry_of_word, entries, value_at}
use Rattle.image_text.specs.Written.{ReadIsWritable}
use Rattle.image_text.proofs.Numbers.{grown}
use Rattle.image_text.proofs.Saying.{Say, say_of}

-- ---- values have 64 bits

digit_fails : (b : Bool) (v : ℕ) (r : Option ℕ) → cond b r None ≡ Some v → (b ≡ true) × (r ≡ Some v)
digit_fails true v r e = (refl, e)
digit_fails false v r e = absurd cc

spelled_bound : (base k n v : ℕ) (word : List ℕ) → base ≤ 16 → n < 16 ^ k → spelled base n word ≡ Some v → v < 16 ^ (k + length word)
unfolding spelled
spelled_bound base k n v [] small less is =
    let same : n ≡ v = some_same n v is in
    let here : k + 0 ≡ k = omega arith in
    omega (arith, ap (λ j. 16 ^ j) here)
  where
    some_same : (n v : ℕ) → Some n ≡ Some v → n ≡ v
    some_same n v e = cc
spelled_bound base k n v (c ∷ word) small less is =
    let step = digit_fails (is_digit c base) v (spelled base (n * base + digit_value c) word) is in
    let rest = spelled_bound base (k + 1) (n * base + digit_value c) v word small (grown base n k (digit_value c) small (ltb-true _ _ step.0) less) step.1 in
    let same : k + 1 + length word ≡ k + suc (length word) = omega arith in
    omega (arith, rest, ap (λ j. 16 ^ j) same)

value_bound : (word : List ℕ) (v : ℕ) → value_of word ≡ Some v → v < 2 ^ 64
value_bound word v is =
    let step = digit_fails (length word == 16) v (spelled 16 0 word) is in
    let long : length word ≡ 16 = eqb-true (length word) 16 step.0 in
    let less = spelled_bound 16 0 0 v word (omega arith) (omega arith) step.1 in
    omega (arith, less, ap (λ j. 16 ^ (0 + j)) long)

-- the value of a word entry has 64 bits
Fits : Option Entry → Type 0
Fits None = Unit {0}
Fits (Some (Size n)) = Unit {0}
Fits (Some (Map kind)) = Unit {0}
Fits (Some (Word a v)) = v < 2 ^ 64
Fits (Some End) = Unit {0}

otherwise_fits : (x y : Option Entry) → Fits x → Fits y → Fits (otherwise x y)
otherwise_fits None y f g = g
otherwise_fits (Some x) y f g = f

word_fits : (name rest : List ℕ) → Fits (word_entry name rest)
unfolding word_entry Fits
word_fits name rest = by_parts (number_of name) (value_of rest) (value_bound rest)
  where
    by_parts : (a v : Option ℕ) → ((n : ℕ) → v ≡ Some n → n < 2 ^ 64) → Fits (a >>= λ address. v >>= λ value. Some (Word address value))
    by_parts None v bound = tt
    by_parts (Some a) None bound = tt
    by_parts (Some a) (Some n) bound = bound n refl

named_fits : (name rest : List ℕ) → Fits (named_entry name rest)
unfolding named_entry Fits
named_fits name rest = by_parts (bytes_eq name (codes "image")) (bytes_eq name (codes "map")) (number_of rest) (kind_of rest)
  where
    by_parts : (b c : Bool) (n : Option ℕ) (k : Option Kind)
        → Fits (cond b (n >>= λ size. Some (Size size)) (cond c (k >>= λ kind. Some (Map kind)) None))
    by_parts true c None k = tt
    by_parts true c (Some n) k = tt
    by_parts false true n None = tt
    by_parts false true n (Some kind) = tt
    by_parts false false n k = tt

end_fits : (line : List ℕ) → Fits (end_entry line)
unfolding Fits
end_fits line = by_test (bytes_eq line (codes "end"))
  where
    by_test : (b : Bool) → Fits (cond b (Some End) None)
    by_test true = tt
    by_test false = tt

entry_fits : (line : List ℕ) → Fits (entry_of line)
unfolding entry_of
entry_fits line =
    let name = before_first is_space line in
    let rest = after_first is_space line in
    otherwise_fits (word_entry name rest) (otherwise (named_entry name rest) (end_entry line)) (word_fits name rest)
    (otherwise_fits (named_entry name rest) (end_entry line) (named_fits name rest) (end_fits line))

-- ---- the words of a text

-- what is said of words that are named has 64 bits
named_fit : (a : ℕ) (ls : List (List ℕ)) (named : List NamedWord) (rest : List Entry) → Say ls (map entry_of_word named ++ rest) → value_at a named < 2 ^ 64
unfolding Fits
named_fit a ls [] rest says = omega arith
named_fit a [] (word ∷ named) rest says = absurd says
named_fit a (line ∷ ls) (word ∷ named) rest says =
    let here : word.value < 2 ^ 64 = subst Fits says.0 (entry_fits line) in
    let later = named_fit a ls named rest says.1 in
    elim (word.address == a) as (λ b. cond b word.value (value_at a named) < 2 ^ 64) [ true ↦ here | false ↦ later ]

maps_passed : (a : ℕ) (ls : List (List ℕ)) (kinds : List Kind) (named : List NamedWord) (rest : List Entry) → Say ls (map Map kinds ++ (map entry_of_word named ++ rest)) → value_at a named < 2 ^ 64
maps_passed a ls [] named rest says = named_fit a ls named rest says
maps_passed a [] (kind ∷ kinds) named rest says = absurd says
maps_passed a (line ∷ ls) (kind ∷ kinds) named rest says = maps_passed a ls kinds named rest says.1

all_fit : (a : ℕ) (ls : List (List ℕ)) (size : ℕ) (kinds : List Kind) (named : List NamedWord) → Say ls (entries size kinds named) → value_at a named < 2 ^ 64
all_fit a [] size kinds named says = absurd says
all_fit a (line ∷ ls) size kinds named says = maps_passed a ls kinds named (End ∷ []) says.1

pub read_is_writable : ReadIsWritable
read_is_writable text kinds words h = record {
  some = h.some;
  few = h.few;
  small = h.small;
  fit = λ a below. subst (λ n. n < 2 ^ 64) (sym (h.values a)) (all_fit a (lines text) (length words) kinds h.named (say_of (lines text) (entries (length words) kinds h.named) h.say));
}
