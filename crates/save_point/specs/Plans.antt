-- The plan of going back to a savepoint.
use Rattle.std.specs.Prelude.{◌≡◌, ℕ, List, [], ◌++◌}
use Rattle.region_layout.specs.declared.cell.Cell.{Cell}
use Rattle.region_layout.specs.declared.layout.Policy.{Policy}
use Rattle.plan_records.specs.declared.parts.Part.{Part}
use Rattle.plan_records.specs.Sequences.{undo_parts, owner_parts}
use Rattle.plan_records.specs.Others.{word_events}
use Rattle.log_clearing.specs.Plans.{closing_plan}

-- 0 to each gate, and then a fence; nothing where there are none
abbrev pub gate_parts : List ℕ → List Part
gate_parts gates = owner_parts gates

-- Each update is compensated, newest first, and its word has its value before; then the deletions at these gates are closed.
abbrev pub back_parts : Policy → List Cell → List ℕ → List Part
back_parts policy updates gates = undo_parts policy updates ++ gate_parts gates

-- The last parts are a closing of the log, in one.
abbrev pub GatesAreClosed : Type 0
GatesAreClosed = (gates : List ℕ) → word_events (gate_parts gates) ≡ closing_plan gates [] []
