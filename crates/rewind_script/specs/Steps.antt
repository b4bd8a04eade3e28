-- Reading step by step: the first fault that fits ends it.
use Rattle.std.specs.Prelude.{ℕ, List, [], ◌∷◌, length, Bool, true, false, ◌==◌, Option, Some, None, Result, Ok, Err}
use Rattle.std.specs.List.{slice_index_or}
use Rattle.rewind_script.specs.Text.{number}
use Rattle.rewind_script.specs.declared.fault.Fault.{Fault}
use Rattle.rewind_script.specs.declared.fault.Fault.TheVariants as fault

infixl 10 ◌>>=◌
abbrev pub ◌>>=◌ : {A B : Type 0} → Result A Fault → (A → Result B Fault) → Result B Fault
(Ok x) >>= f = f x
(Err e) >>= f = Err e

abbrev pub guard : Bool → Fault → Result (Unit {0}) Fault
guard true kind = Ok tt
guard false kind = Err kind

abbrev pub or_fault : {A : Type 0} → Fault → Option A → Result A Fault
or_fault kind None = Err kind
or_fault kind (Some x) = Ok x

-- a word that must be a number
abbrev pub numeral : List ℕ → Result ℕ Fault
numeral word = or_fault fault.Number (number word)

unfoldable pub numerals : List (List ℕ) → Result (List ℕ) Fault
numerals [] = Ok []
numerals (word ∷ args) = do
  first ← numeral word
  others ← numerals args
  Ok (first ∷ others)

abbrev pub arg : List (List ℕ) → ℕ → List ℕ
arg args i = slice_index_or args i []

abbrev pub sized : ℕ → List (List ℕ) → Result (Unit {0}) Fault
sized n args = guard (length args == n) fault.Count

-- A name stands first: a wrong one is told before the number of words.
abbrev pub named : {A : Type 0} → (List ℕ → Option A) → List (List ℕ) → Result A Fault
named f [] = Err fault.Count
named f (word ∷ args) = or_fault fault.Word (f word)
