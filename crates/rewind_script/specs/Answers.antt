-- What the reader's functions promise. Want of memory may come at any step, and says nothing of the text.
use Rattle.std.specs.Prelude.{◌≡◌, ℕ, ◌≤◌, List, length, Result, Ok, Err, map}
use Rattle.std.specs.Global.{Vec}
use Rattle.std.specs.Borrow.{Bor}
use Rattle.rewind_script.specs.declared.fault.Fault.{Fault}
use Rattle.rewind_script.specs.declared.fault.ScriptFault.{ScriptFault}
use Rattle.rewind_script.specs.declared.fault.ScriptFault.TheVariants.{Line, NoMemory}
use Rattle.rewind_script.specs.declared.read.refusal.Refusal.{Refusal}
use Rattle.rewind_script.specs.declared.read.refusal.Refusal.TheVariants as refusal
use Rattle.rewind_script.specs.declared.script.TheConstants.{MOST_COMMANDS}
use Rattle.rewind_script.specs.declared.read.reading.Reading.{Reading}

abbrev pub texts : List (Bor (List ℕ)) → List (List ℕ)
texts args = map (λ word. word.now) args

abbrev pub Fails : {Y : Type 0} → Refusal → Result Y Fault → Type 0
Fails refusal.Memory read = Unit {0}
Fails (refusal.Fault kind) read = read ≡ Err kind

-- What was read is what the words mean.
abbrev pub Gives : {X : Type 0} → Result X Refusal → Result X Fault → Type 0
Gives (Ok x) read = read ≡ Ok x
Gives (Err e) read = Fails e read

abbrev pub GivesAll : {X : Type 0} → Result (Vec X) Refusal → Result (List X) Fault → Type 0
GivesAll (Ok list) read = read ≡ Ok list.items
GivesAll (Err e) read = Fails e read

-- The reading has moved on as the line means.
abbrev pub Moves : {X : Type 0} → Result X Refusal → Reading → Result Reading Fault → Type 0
Moves (Ok x) reading step = step ≡ Ok reading
Moves (Err e) reading step = Fails e step

abbrev pub fault_at : ℕ → Refusal → ScriptFault
fault_at n (refusal.Fault kind) = Line n kind
fault_at n refusal.Memory = NoMemory

-- the lists whose lengths are counted in 32 bits
abbrev pub IsSmall : Reading → Type 0
IsSmall reading = (length reading.kinds ≤ 8) × (length reading.commands ≤ MOST_COMMANDS)
