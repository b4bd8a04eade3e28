-- The grammar of scripts: what a text means, or its first wrong line with the first kind of fault that fits.
use Rattle.std.specs.Prelude.{◌≡◌, ℕ, ◌+◌, List, [], ◌∷◌, length, Bool, true, false, not, ◌&&◌, ◌||◌, ◌==◌, nat_lt, Result, Ok, Err, if◌then◌else◌, slice_index}
use Rattle.std.specs.List.{list_all}
use Rattle.std.specs.Int.{is_in_range}
use Rattle.std.specs.Str.Lines.{lines}
use Rattle.persist_model.specs.Shape.{Shape}
use Rattle.region_layout.specs.Layout.{layout_shape, policy_number}
use Rattle.rewind_script.specs.Text.{words}
use Rattle.rewind_script.specs.Steps.{◌>>=◌, guard, or_fault}
use Rattle.rewind_script.specs.Order.{keyword_of, may_stand, is_transaction}
use Rattle.rewind_script.specs.Head.{after_region, after_log, after_partitions, after_map}
use Rattle.rewind_script.specs.TurnLines.{after_turns}
use Rattle.rewind_script.specs.Lanes.{after_lane, after_begin, after_checkpoint, after_ending, lanes_of}
use Rattle.rewind_script.specs.Commands.{after_put, after_key, after_savepoint, after_rollback}
use Rattle.region_layout.specs.declared.layout.Policy.TheVariants.{Force}
use Rattle.region_layout.specs.declared.layout.Kind.{Kind}
use Rattle.rewind_script.specs.declared.fault.Fault.{Fault}
use Rattle.rewind_script.specs.declared.fault.Fault.TheVariants as fault
use Rattle.rewind_script.specs.declared.fault.ScriptFault.{ScriptFault}
use Rattle.rewind_script.specs.declared.fault.ScriptFault.TheVariants.{Line, NoMemory}
use Rattle.rewind_script.specs.declared.script.Command.TheVariants as command
use Rattle.rewind_script.specs.declared.script.LaneText.{LaneText}
use Rattle.rewind_script.specs.declared.script.Turns.{Turns}
use Rattle.rewind_script.specs.declared.script.Script.{Script}
use Rattle.rewind_script.specs.declared.read.reading.Part.TheVariants as part
use Rattle.rewind_script.specs.declared.read.reading.Keyword.{Keyword}
use Rattle.rewind_script.specs.declared.read.reading.Keyword.TheVariants as keyword
use Rattle.rewind_script.specs.declared.read.reading.Reading.{Reading}

abbrev pub after_keyword : Keyword → Reading → List (List ℕ) → Result Reading Fault
after_keyword keyword.Region = after_region
after_keyword keyword.Log = after_log
after_keyword keyword.Partitions = after_partitions
after_keyword keyword.Map = after_map
after_keyword keyword.Turns = after_turns
after_keyword keyword.Lane = after_lane
after_keyword keyword.Checkpoint = after_checkpoint
after_keyword keyword.Begin = after_begin
after_keyword keyword.Put = after_put
after_keyword keyword.Del = after_key command.Del
after_keyword keyword.Get = after_key command.Get
after_keyword keyword.Savepoint = after_savepoint
after_keyword keyword.Rollback = after_rollback
after_keyword keyword.Commit = after_ending true
after_keyword keyword.Abort = after_ending false

-- A line of words: the first is a keyword that may stand there.
unfoldable pub after_words : Reading → List (List ℕ) → Result Reading Fault
after_words reading [] = Ok reading
after_words reading (first ∷ args) = do
  keyword ← or_fault fault.Word (keyword_of first)
  _ ← guard (may_stand reading.part keyword) fault.Word
  after_keyword keyword reading args

abbrev pub is_passed_over : List (List ℕ) → Bool
is_passed_over [] = true
is_passed_over (first ∷ args) = slice_index first 0 == 35

-- printable ASCII, or a blank
abbrev pub is_text_byte : ℕ → Bool
is_text_byte b = is_in_range 32 126 b || b == 9

-- The reading after a line. One that is blank, or begins with # after blanks, is passed over, whatever its bytes.
unfoldable pub after_line : Reading → List ℕ → Result Reading Fault
after_line reading line =
    if is_passed_over (words line) then Ok reading else
    (guard (list_all is_text_byte line) fault.Byte >>= λ _. after_words reading (words line))

unfoldable pub is_whole : Reading → Bool
is_whole reading = nat_lt 0 (length reading.kinds) && not (is_transaction reading.part)

-- What a text means: the sizes of its region, and what is to be done on it.
pub record Meaning : Type 0 where
  pub shape : Shape
  pub kinds : List Kind
  pub turns : List Turns
  pub lanes : List LaneText
  pub batch : Bool

-- A script says of a region what its layout says.
abbrev pub meaning_of : Script → Meaning
meaning_of script = record {
  shape = layout_shape script.layout;
  kinds = script.kinds;
  turns = script.turns;
  lanes = script.lanes;
  batch = script.batch;
}

abbrev pub shape_of_reading : Reading → Shape
shape_of_reading reading = record {
  policy = policy_number reading.policy;
  cells = reading.cells;
  buckets = reading.buckets;
  blocks = reading.blocks;
  structures = length reading.kinds;
  format = 2;
  partitions = reading.partitions;
}

unfoldable pub meaning_of_reading : Reading → Meaning
meaning_of_reading reading = record {
  shape = shape_of_reading reading;
  kinds = reading.kinds;
  turns = reading.turns;
  lanes = lanes_of reading;
  batch = reading.batch;
}

abbrev pub at_line : {A B : Type 0} → ℕ → Result A Fault → (A → Result B ScriptFault) → Result B ScriptFault
at_line n (Ok x) f = f x
at_line n (Err kind) f = Err (Line n kind)

-- The script of a reading and the lines that follow, the first of which has the number n; or the first wrong line.
unfoldable pub script_from : ℕ → Reading → List (List ℕ) → Result Meaning ScriptFault
script_from n reading [] = if is_whole reading then Ok (meaning_of_reading reading) else Err (Line n fault.Unfinished)
script_from n reading (line ∷ rest) = at_line n (after_line reading line) (λ next. script_from (n + 1) next rest)

-- No line has been read. The least region stands for the one to come.
unfoldable pub blank : Reading
blank = record {
  part = part.Start;
  policy = Force;
  buckets = 4;
  blocks = 16;
  cells = 1;
  batch = false;
  partitions = 1;
  kinds = [];
  turns = [];
  total = 0;
  lanes = [];
  items = [];
  transactions = 0;
  set = 0;
  commands = [];
}

-- What a text means: a script, or the first wrong line with the first kind of fault that fits.
unfoldable pub script : List ℕ → Result Meaning ScriptFault
script text = script_from 1 blank (lines text)

-- What the reader answered is what the text means, unless memory ran out.
abbrev pub Reads : Result Script ScriptFault → Result Meaning ScriptFault → Type 0
Reads (Err NoMemory) meaning = Unit {0}
Reads (Err (Line line kind)) meaning = meaning ≡ Err (Line line kind)
Reads (Ok script) meaning = meaning ≡ Ok (meaning_of script)
