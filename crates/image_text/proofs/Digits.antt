-- What was written in digits is spelled by them.
use Rattle.std.proofs.Common.{◌≡◌, ℕ, zero, suc, ◌+◌, ◌*◌, ◌/◌, ◌%◌, ◌<◌, ◌≤◌, ◌^◌, List, [], ◌∷◌, ◌++◌, length, get_or, refl, sym, ◌∙◌, ap, arith, cond, Bool, true, false, not, ◌&&◌, ◌||◌, ◌==◌, Some, None, lt-ltb, ne_eqb, eq-eqb, length-append, ⊎_elim}
use Rattle.std.specs.Char.{digit_value, digit_char}
use Rattle.std.specs.Fmt.{decimal}
use Rattle.std.specs.Str.Parse.{AllDigits, digits_value_after}
use Rattle.std.proofs.lemmas.Bool.{cases_lt}
use Rattle.std.proofs.lemmas.Fmt.{decimal_is_IsNumeral, decimal_nonempty, decimal_digit, length-decimal-le, first_decimal}
use Rattle.std.proofs.lemmas.Int.Digits.{digits_push}
use Rattle.std.proofs.lemmas.Str.{digit_value-digit_char}
use Rattle.std.proofs.Math.Nat.{pow-suc}
use Rattle.image_text.specs.Text.{spelled, is_short, number_of, value_of, hexadecimal}

-- digits spell their number
pub spelled-digits : (base n : ℕ) (word : List ℕ) → AllDigits base word → spelled base n word ≡ Some (digits_value_after base n word)
unfolding spelled
spelled-digits base n [] all = refl
spelled-digits base n (c ∷ word) all =
    ap (λ b. cond b (spelled base (n * base + digit_value c) word) None) (lt-ltb (digit_value c) base all.0)
    ∙ spelled-digits base (n * base + digit_value c) word all.1

-- ---- decimal

pub decimal_digits : (n : ℕ) → n < 2 ^ 64 → AllDigits 10 (decimal n)
decimal_digits n small = (decimal_is_IsNumeral n small).0.1

both : (b c : Bool) → b ≡ true → c ≡ true → (b && c) ≡ true
both true c e f = f
both false c e f = absurd cc

either : (b c : Bool) → c ≡ true → (b || c) ≡ true
either true c f = refl
either false c f = f

no_zero : (n : ℕ) → n < 2 ^ 64 → ((length (decimal n) == 1) || not (get_or (decimal n) 0 0 == 48)) ≡ true
no_zero n small =
    ⊎_elim
    (λ (l : 0 < n). either (length (decimal n) == 1) (not (get_or (decimal n) 0 0 == 48)) (ap not (ne_eqb _ _ (λ e. omega (arith, first_decimal n l small, e)))))
    (λ (l : n ≤ 0).
    let one : length (decimal n) ≡ 1 = ap length (decimal_digit n (omega arith)) in
    ap (λ b. b || not (get_or (decimal n) 0 0 == 48)) (eq-eqb (length (decimal n)) 1 one))
    (cases_lt 0 n)

pub number_of-decimal : (n : ℕ) → n < 10 ^ 7 → number_of (decimal n) ≡ Some n
number_of-decimal n few =
    let small : n < 2 ^ 64 = omega arith in
    let short : is_short (decimal n) ≡ true =
    both _ _ (both _ _ (lt-ltb 0 (length (decimal n)) (decimal_nonempty n small)) (lt-ltb (length (decimal n)) 8 (omega (arith, length-decimal-le 7 n (omega arith) few small))))
    (no_zero n small) in
    ap (λ b. cond b (spelled 10 0 (decimal n)) None) short
    ∙ spelled-digits 10 0 (decimal n) (decimal_digits n small) ∙ ap Some (decimal_is_IsNumeral n small).1

-- ---- hexadecimal

below : (v : ℕ) → v % 16 < 16
below v = omega arith

pub hexadecimal_digits : (k v : ℕ) → AllDigits 16 (hexadecimal k v)
unfolding hexadecimal
hexadecimal_digits zero v = tt
hexadecimal_digits (suc k) v =
    digits_push 16 (hexadecimal k (v / 16)) (digit_char (v % 16)) (hexadecimal_digits k (v / 16))
    (let value = digit_value-digit_char (v % 16) (omega arith) in omega (arith, value, below v))

pub length-hexadecimal : (k v : ℕ) → length (hexadecimal k v) ≡ k
unfolding hexadecimal
length-hexadecimal zero v = refl
length-hexadecimal (suc k) v = omega (arith, length-append (hexadecimal k (v / 16)) (digit_char (v % 16) ∷ []), length-hexadecimal k (v / 16))

value-push : (base n c : ℕ) (word : List ℕ) → digits_value_after base n (word ++ c ∷ []) ≡ digits_value_after base n word * base + digit_value c
value-push base n c [] = refl
value-push base n c (d ∷ word) = value-push base (n * base + digit_value d) c word

shifted : (n p q r v : ℕ) → v ≡ q * 16 + r → (n * p + q) * 16 + r ≡ n * (p * 16) + v
shifted n p q r v e = omega (arith, e)

pub value-hexadecimal : (k v n : ℕ) → v < 16 ^ k → digits_value_after 16 n (hexadecimal k v) ≡ n * 16 ^ k + v
unfolding hexadecimal
value-hexadecimal zero v n small = omega arith
value-hexadecimal (suc k) v n small =
    let less : v / 16 < 16 ^ k = omega (arith, pow-suc 16 k) in
    value-push 16 n (digit_char (v % 16)) (hexadecimal k (v / 16))
    ∙ ap (λ m. m * 16 + digit_value (digit_char (v % 16))) (value-hexadecimal k (v / 16) n less)
    ∙ ap (λ d. (n * 16 ^ k + v / 16) * 16 + d) (digit_value-digit_char (v % 16) (omega arith))
    ∙ shifted n (16 ^ k) (v / 16) (v % 16) v (omega arith)
    ∙ ap (λ p. n * p + v) (sym (pow-suc 16 k))

pub value_of-hexadecimal : (v : ℕ) → v < 2 ^ 64 → value_of (hexadecimal 16 v) ≡ Some v
value_of-hexadecimal v small =
    ap (λ b. cond b (spelled 16 0 (hexadecimal 16 v)) None) (eq-eqb (length (hexadecimal 16 v)) 16 (length-hexadecimal 16 v))
    ∙ spelled-digits 16 0 (hexadecimal 16 v) (hexadecimal_digits 16 v) ∙ ap Some (value-hexadecimal 16 v 0 small ∙ (let same : 0 * 16 ^ 16 + v ≡ v = omega arith in same))
