-- The lines of turns: whose turns come first, in their order.
use Rattle.std.specs.Prelude.{ℕ, ◌+◌, List, [], ◌∷◌, ◌++◌, length, take, drop, ◌&&◌, ◌==◌, nat_lt, nat_le, Option, Some, None, Result, Ok}
use Rattle.std.specs.List.{position}
use Rattle.std.specs.Option.{option_map}
use Rattle.rewind_script.specs.Steps.{◌>>=◌, guard, numeral}
use Rattle.rewind_script.specs.declared.fault.Fault.{Fault}
use Rattle.rewind_script.specs.declared.fault.Fault.TheVariants as fault
use Rattle.rewind_script.specs.declared.read.reading.Part.TheVariants as part
use Rattle.rewind_script.specs.declared.read.reading.Reading.{Reading}

-- what stands before and after the first x
unfoldable pub turn_parts : List ℕ → Option (List ℕ × List ℕ)
turn_parts word = option_map (λ i. (take i word, drop (i + 1) word)) (position (λ b. b == 120) word)

abbrev pub turn_of_parts : List ℕ → Option (List ℕ × List ℕ) → Result (ℕ × ℕ) Fault
turn_of_parts word None = numeral word >>= λ lane. Ok (lane, 1)
turn_of_parts word (Some parts) = numeral parts.0 >>= λ lane. numeral parts.1 >>= λ times. Ok (lane, times)

-- L or LxC: a lane and a count of turns
unfoldable pub turn : List ℕ → Result (ℕ × ℕ) Fault
turn word = turn_of_parts word (turn_parts word)

unfoldable pub turn_list : List (List ℕ) → Result (List (ℕ × ℕ)) Fault
turn_list [] = Ok []
turn_list (word ∷ args) = do
  first ← turn word
  others ← turn_list args
  Ok (first ∷ others)

abbrev pub add_turn : Reading → ℕ × ℕ → Result Reading Fault
add_turn reading t = do
  _ ← guard (nat_le t.0 15 && nat_le 1 t.1 && nat_le (reading.total + t.1) 1000000) fault.Range
  Ok (record reading { turns = reading.turns ++ record { lane = t.0; times = t.1 } ∷ []; total = reading.total + t.1 })

unfoldable pub add_turns : Reading → List (ℕ × ℕ) → Result Reading Fault
add_turns reading [] = Ok reading
add_turns reading (t ∷ list) = add_turn reading t >>= λ next. add_turns next list

-- turns T T T
unfoldable pub after_turns : Reading → List (List ℕ) → Result Reading Fault
after_turns reading args = do
  _ ← guard (nat_lt 0 (length args)) fault.Count
  list ← turn_list args
  next ← add_turns reading list
  Ok (record next { part = part.Turns })
