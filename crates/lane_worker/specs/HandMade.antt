-- A lane made by hand, for tests: it has a map of cells in block 0 of sixteen, and runs one transaction.
use Rattle.std.specs.Prelude.{ℕ, true, false, List, [], ◌∷◌, ◌+◌, if◌then◌else◌, ◌==◌, nat_lt, None}
use Rattle.lane_traits.specs.Space.{Space}
use Rattle.lane_types.specs.declared.call.Call.TheVariants as call
use Rattle.lane_types.specs.declared.call.Phase.TheVariants.{Out}
use Rattle.lane_types.specs.declared.call.Reply.TheVariants.{Committed, Written}
use Rattle.lane_types.specs.declared.face.Entry.{Entry}
use Rattle.lane_types.specs.Heaps.{Heap, holding_of, nothing_held}
use Rattle.lane_types.specs.Faces.{Base, WholeFace, answered, with_words, let_go, entering}
use Rattle.lane_types.specs.Asks.{asked}
use Rattle.lane_types.specs.LaneSteps.{put_held, begun_face}
use Rattle.region_layout.specs.declared.layout.Kind.TheVariants.{Cells}
use Rattle.region_layout.specs.HeapBlocks.{land_of}
use Rattle.rewind_script.specs.declared.script.Item.{Item}
use Rattle.rewind_script.specs.declared.script.Item.TheVariants as item
use Rattle.rewind_script.specs.declared.script.Command.TheVariants as command
use Rattle.map_deeds.specs.Meanings.{sorts_of}
use Rattle.map_deeds.specs.declared.deed.MapDeed.{MapDeed}

abbrev pub hand_text : List Item
hand_text = item.Transaction 1 (command.Put 0 1 10 ∷ command.Get 0 1 ∷ []) true ∷ []

-- the words of the block's owner and of key 1, and nothing else
abbrev pub hand_word : ℕ → ℕ → ℕ → ℕ → ℕ
hand_word start owner value a = if nat_lt start a then (if a == start + 5 then value else 0) else owner

abbrev pub hand_space : ℕ → ℕ → ℕ → Space
hand_space start owner value = record { land = land_of start (hand_word start owner value) 0; word = hand_word start owner value; spare = []; writes = 0 }

abbrev pub hand_heap : ℕ → Heap
hand_heap start = record { start = start; blocks = 16; at = λ a. if a == start then 1 else 0 }

abbrev pub hand_base : Base
hand_base = record {
  sorts = sorts_of (Cells ∷ []);
  structures = 1;
  header = [];
  heap = hand_heap 1056;
  counts = record { events = 0; budget = 0; stopped = 0; restarts = record { loaded_at = 0; times = 0; pick = None }; origin = [] };
}

-- no transaction
abbrev pub hand_out : WholeFace MapDeed
hand_out = record {
  face = record {
    lane = 0;
    phase = Out;
    held = 0;
    begun = 0;
    commits = 0;
    answer = None;
    tally = record { steps = 0; last = None; cells = 0; checkpoints = 0; takes = 0; full = false; heap = false; stopped = false };
    live = 0;
  };
  base = hand_base;
  words = nothing_held;
  first = nothing_held;
  points = [];
  mine = [];
  call = None;
  entered = false;
}

-- a transaction was begun on structure 0
abbrev pub hand_begun : WholeFace MapDeed
hand_begun = begun_face 0 1 (holding_of 1 (hand_heap 1056)) (asked (call.Begin 1) hand_out)

-- key 1 was written
abbrev pub hand_written : WholeFace MapDeed
hand_written = with_words (put_held 1061 10 hand_begun.words) (answered Written (asked (call.Write 1061 10) hand_begun))

abbrev pub hand_entry : MapDeed → Entry MapDeed
hand_entry deed = record { lane = 0; number = 0; transaction = 0; deed = deed; writes = [] }

-- the transaction was committed
abbrev pub hand_committed : MapDeed → WholeFace MapDeed
hand_committed deed = let_go (answered Committed (entering (hand_entry deed) (asked (call.Commit deed) hand_written)))
