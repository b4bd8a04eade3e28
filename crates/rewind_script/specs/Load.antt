-- The script that is generated from a seed.
use Rattle.std.specs.Prelude.{ℕ, zero, suc, ◌+◌, ◌%◌, ◌^◌, List, [], ◌∷◌, false, true}
use Rattle.region_layout.specs.declared.layout.Kind.TheVariants.{Cells, Tree, Hash}
use Rattle.rewind_script.specs.Generator.{state_after, next_state, drawn, keys_of}
use Rattle.rewind_script.specs.Grammar.{Meaning}
use Rattle.rewind_script.specs.declared.script.Item.{Item}
use Rattle.rewind_script.specs.declared.script.Item.TheVariants as item
use Rattle.rewind_script.specs.declared.script.Command.{Command}
use Rattle.rewind_script.specs.declared.script.Command.TheVariants as command
use Rattle.rewind_script.specs.declared.script.LaneText.{LaneText}

-- n things one after the other, each of which draws so often
unfoldable pub drawn_list : {A : Type 0} → (ℕ → A) → ℕ → ℕ → ℕ → List A
drawn_list f draws zero x = []
drawn_list f draws (suc n) x = f x ∷ drawn_list f draws n (state_after draws x)

abbrev pub drawn_put : ℕ → ℕ → Command
drawn_put s x = command.Put s (drawn x % keys_of s) (1 + drawn (next_state x) % 1000000)

abbrev pub transaction_of_puts : ℕ → ℕ → Item
transaction_of_puts s x = item.Transaction (2 ^ s) (drawn_list (drawn_put s) 2 4 x) true

abbrev pub drawn_transaction : ℕ → Item
drawn_transaction x = transaction_of_puts (drawn x % 3) (next_state x)

abbrev pub drawn_lane : ℕ → LaneText
drawn_lane x = record { items = drawn_list drawn_transaction 9 250 x }

abbrev pub generated_script : ℕ → Meaning
generated_script seed = record {
  shape = record { policy = 1; cells = 16; buckets = 256; blocks = 2048; structures = 3; format = 2; partitions = 1 };
  kinds = Cells ∷ Tree ∷ Hash ∷ [];
  turns = [];
  lanes = drawn_list drawn_lane 2250 4 seed;
  batch = false;
}
