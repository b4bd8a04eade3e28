-- The contents of the structures, and what commands make of them.
use Rattle.std.specs.Prelude.{◌≡◌, ℕ, ◌+◌, ◌==◌, if◌then◌else◌, List, [], ◌∷◌, ◌++◌, take, Option, Some, None, refl}
use Rattle.std.specs.List.{slice_index_or}
use Rattle.region_layout.specs.FiniteMap.{FiniteMap, lookup, with_pair, without_key}
use Rattle.rewind_script.specs.declared.script.Command.{Command}
use Rattle.rewind_script.specs.declared.script.Command.TheVariants as command

-- the contents of each structure
abbrev pub Maps : Type 0
Maps = ℕ → FiniteMap

abbrev pub empty_maps : Maps
empty_maps = λ s. []

-- structure s has these contents, the others stay
abbrev pub with_map : ℕ → FiniteMap → Maps → Maps
with_map s contents maps = λ t. if t == s then contents else maps t

-- the contents in the midst of a transaction, and those that were kept at each live savepoint, the first one first
pub record State : Type 0 where
  pub maps : Maps
  pub saved : List Maps

abbrev pub begun : Maps → State
begun maps = record { maps = maps; saved = [] }

-- Back to a savepoint, which stays. Those after it are dropped.
abbrev pub rolled_back : ℕ → State → State
rolled_back n state = record { maps = slice_index_or state.saved n state.maps; saved = take (n + 1) state.saved }

abbrev pub after_command : State → Command → State
after_command state (command.Put s key value) = record state { maps = with_map s (with_pair key value (state.maps s)) state.maps }
after_command state (command.Del s key) = record state { maps = with_map s (without_key key (state.maps s)) state.maps }
after_command state (command.Get s key) = state
after_command state command.Savepoint = record state { saved = state.saved ++ state.maps ∷ [] }
after_command state (command.Rollback n) = rolled_back n state

abbrev pub after_commands : State → List Command → State
after_commands state [] = state
after_commands state (c ∷ commands) = after_commands (after_command state c) commands

-- what a command reads
abbrev pub reply : Maps → Command → Option ℕ
reply maps (command.Put s key value) = None
reply maps (command.Del s key) = None
reply maps (command.Get s key) = lookup key (maps s)
reply maps command.Savepoint = None
reply maps (command.Rollback n) = None

abbrev pub replies : State → List Command → List (Option ℕ)
replies state [] = []
replies state (c ∷ commands) = reply state.maps c ∷ replies (after_command state c) commands

-- the contents after the commands of one transaction, and what they read
abbrev pub after_transaction : Maps → List Command → Maps
after_transaction maps commands = (after_commands (begun maps) commands).maps

abbrev pub replies_in : Maps → List Command → List (Option ℕ)
replies_in maps commands = replies (begun maps) commands

-- ---- small transactions

a_put : after_transaction empty_maps (command.Put 0 3 7 ∷ []) 0 ≡ (3, 7) ∷ []
a_put = refl

another_structure : after_transaction empty_maps (command.Put 0 3 7 ∷ []) 1 ≡ []
another_structure = refl

a_del : after_transaction empty_maps (command.Put 2 3 7 ∷ command.Put 2 4 8 ∷ command.Del 2 3 ∷ []) 2 ≡ (4, 8) ∷ []
a_del = refl

two_gets : replies_in empty_maps (command.Put 0 3 7 ∷ command.Get 0 3 ∷ command.Get 1 3 ∷ []) ≡ None ∷ Some 7 ∷ None ∷ []
two_gets = refl

a_rollback : after_transaction empty_maps
    (command.Put 0 1 5 ∷ command.Savepoint ∷ command.Put 0 1 6 ∷ command.Put 0 2 7 ∷ command.Rollback 0 ∷ command.Put 0 3 8 ∷ []) 0
    ≡ (1, 5) ∷ (3, 8) ∷ []
a_rollback = refl

-- the get stands before the rollback, and reads what is taken back
a_get_taken_back : replies_in empty_maps (command.Savepoint ∷ command.Put 0 1 5 ∷ command.Get 0 1 ∷ command.Rollback 0 ∷ command.Get 0 1 ∷ [])
    ≡ None ∷ None ∷ Some 5 ∷ None ∷ None ∷ []
a_get_taken_back = refl

-- savepoint 1 is dropped by the way back to savepoint 0, and made anew
a_second_savepoint : after_transaction empty_maps
    (command.Savepoint ∷ command.Put 0 1 5 ∷ command.Savepoint ∷ command.Rollback 0 ∷ command.Put 0 2 6 ∷ command.Savepoint ∷ command.Put 0 3 7 ∷ command.Rollback 1 ∷ []) 0
    ≡ (2, 6) ∷ []
a_second_savepoint = refl
