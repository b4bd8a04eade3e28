-- What becomes of a lane, and of the book with it.
use Rattle.std.specs.Prelude.{◌≡◌, ℕ, ◌+◌, ◌-◌, ◌≤◌, true, false, Option, Some, None, List, [], ◌∷◌, ◌++◌, length, take, get_or}
use Rattle.std.specs.Vec.{with_item}
use Rattle.lane_traits.specs.declared.draft.WordWrite.{WordWrite}
use Rattle.lane_types.specs.declared.face.Entry.{Entry}
use Rattle.lane_types.specs.declared.call.Phase.TheVariants.{Calling}
use Rattle.lane_types.specs.declared.call.Reply.{Reply}
use Rattle.lane_types.specs.declared.call.Reply.TheVariants.{Begun, Saved, RolledBack}
use Rattle.lane_types.specs.declared.call.Stepped.{Stepped}
use Rattle.lane_types.specs.declared.call.Stepped.TheVariants.{Answered, Moved}
use Rattle.lane_types.specs.declared.call.Call.{Call}
use Rattle.lane_types.specs.declared.call.Refusal.{Refusal}
use Rattle.lane_types.specs.Faces.{stepped_tally, phase_after}
use Rattle.lane_types.specs.Asks.{accepted_tally, refused_tally}
use Rattle.lane_book.specs.declared.lane.Lane.{Lane}
use Rattle.lane_book.specs.declared.lane.Doing.{Doing}
use Rattle.lane_book.specs.declared.lane.Point.{Point}
use Rattle.lane_book.specs.declared.book.Book.{Book}
use Rattle.lane_book.specs.Stocked.{Stocked, with_items}

-- ---- a lane

-- a step was answered so
abbrev pub noted : {E : Type 0} → Stepped → Lane E → Lane E
noted answer lane = record lane { tally = stepped_tally answer lane.tally }

-- the call ends with this reply, and no cell is promised to it any more
abbrev pub closed : {E : Type 0} → Reply → Lane E → Lane E
closed reply lane = record lane {
  tally = stepped_tally (Answered reply) lane.tally;
  phase = phase_after reply;
  answer = Some reply;
  doing = Doing.Nothing;
  part = 0;
  entered = false;
  promised = 0;
}

-- the call goes on at this part of its plan
abbrev pub moved : {E : Type 0} → ℕ → Lane E → Lane E
moved part lane = record (noted Moved lane) { part = part }

-- one write more stands in the device
abbrev pub stored_one : {E : Type 0} → Lane E → Lane E
stored_one lane = record lane { stored = lane.stored + 1 }

-- all of the writes stand in the device
abbrev pub stored_all : {E : Type 0} → Lane E → Lane E
stored_all lane = record lane { stored = length lane.writes.items }

-- the entry of the commit is handed out
abbrev pub entered_lane : {E : Type 0} → Lane E → Lane E
entered_lane lane = record lane { commits = lane.commits + 1; entered = true; entry = None }

abbrev pub emptied : {T : Type 0} → Stocked T → Stocked T
emptied stock = with_items [] stock

-- the transaction is over
abbrev pub left : {E : Type 0} → Reply → Lane E → Lane E
left reply lane = record (closed reply lane) {
  held = 0;
  transaction = 0;
  joined = 0;
  writes = emptied lane.writes;
  updates = emptied lane.updates;
  stored = 0;
  gives = emptied lane.gives;
  gates = emptied lane.gates;
  taken = emptied lane.taken;
  untaken = emptied lane.untaken;
  points = emptied lane.points;
  has_records = false;
  rolled = false;
  ended = false;
  point = 0;
  entry = None;
  owed_events = 0;
  owed_records = 0;
}

-- its call may make so many events at the most, and begin to append so many records
abbrev pub owing : {E : Type 0} → ℕ → ℕ → Lane E → Lane E
owing events records lane = record lane { owed_events = events; owed_records = records }

-- one of them is made
abbrev pub paid_event : {E : Type 0} → Lane E → Lane E
paid_event lane = owing (lane.owed_events - 1) lane.owed_records lane

abbrev pub paid_record : {E : Type 0} → Lane E → Lane E
paid_record lane = owing lane.owed_events (lane.owed_records - 1) lane

-- the transaction with this number has begun, on these structures, behind so many entries
abbrev pub begun_lane : {E : Type 0} → ℕ → ℕ → ℕ → Lane E → Lane E
begun_lane n set joined lane = record (closed (Begun n) lane) {
  held = set;
  begun = lane.begun + 1;
  transaction = n;
  joined = joined;
}

-- the words as they are become a savepoint
abbrev pub saved : {E : Type 0} → Lane E → Lane E
saved lane = record (closed (Saved (length lane.points.items)) lane) {
  points = with_items (lane.points.items ++ record { writes = length lane.writes.items; gives = length lane.gives.items } ∷ []) lane.points;
}

abbrev pub no_point : Point
no_point = record { writes = 0; gives = 0 }

-- the savepoint with this number
abbrev pub point_at : {E : Type 0} → ℕ → Lane E → Point
point_at n lane = get_or lane.points.items n no_point

-- back at savepoint n, which stays: what was written and given since is gone
abbrev pub rolled_back : {E : Type 0} → ℕ → Lane E → Lane E
rolled_back n lane = record (closed RolledBack lane) {
  writes = with_items (take (point_at n lane).writes lane.writes.items) lane.writes;
  updates = with_items (take (point_at n lane).writes lane.updates.items) lane.updates;
  gives = with_items (take (point_at n lane).gives lane.gives.items) lane.gives;
  gates = with_items (take (point_at n lane).gives lane.gates.items) lane.gates;
  points = with_items (take (n + 1) lane.points.items) lane.points;
}

-- the call is in progress, and so many cells of the log are promised to it
abbrev pub asked_lane : {E : Type 0} → Call E → Doing → ℕ → Lane E → Lane E
asked_lane call doing promised lane = record lane { phase = Calling; doing = doing; part = 0; promised = promised; tally = accepted_tally call lane.tally }

abbrev pub refused_lane : {E : Type 0} → Call E → Refusal → Lane E → Lane E
refused_lane call refusal lane = record lane { tally = refused_tally call refusal lane.tally }

-- The lists may have more room, and nothing else is another.
pub record IsRoomier {E : Type 0} (lane later : Lane E) : Type 0 where
  pub is : later ≡ record lane {
    writes = later.writes;
    updates = later.updates;
    gives = later.gives;
    gates = later.gates;
    taken = later.taken;
    untaken = later.untaken;
    points = later.points;
  }
  pub writes : later.writes.items ≡ lane.writes.items
  pub updates : later.updates.items ≡ lane.updates.items
  pub gives : later.gives.items ≡ lane.gives.items
  pub gates : later.gates.items ≡ lane.gates.items
  pub taken : later.taken.items ≡ lane.taken.items
  pub untaken : later.untaken.items ≡ lane.untaken.items
  pub points : later.points.items ≡ lane.points.items

abbrev pub has_room : {T : Type 0} → ℕ → Stocked T → Type 0
has_room n stock = length stock.items + n ≤ stock.capacity

-- these writes more are the lane's
abbrev pub with_more : {E : Type 0} → List WordWrite → Lane E → Lane E
with_more writes lane = record lane { writes = with_items (lane.writes.items ++ writes) lane.writes }

-- there is room for so many writes, gives, takes and savepoints
pub record HasRoom {E : Type 0} (writes gives takes points : ℕ) (lane : Lane E) : Type 0 where
  pub writes_fit : has_room writes lane.writes
  pub updates_fit : has_room writes lane.updates
  pub gives_fit : has_room gives lane.gives
  pub gates_fit : has_room gives lane.gates
  pub taken_fit : has_room takes lane.taken
  pub untaken_fit : has_room takes lane.untaken
  pub points_fit : has_room points lane.points

-- ---- the book

-- one lane is another, and the last step changed this word
abbrev pub with_lane : {E : Type 0} → Book E → ℕ → Lane E → Option ℕ → Book E
with_lane book l lane touched = record book { lanes = with_item book.lanes l lane; touched = touched }

abbrev pub with_history : {E : Type 0} → List (Entry E) → Book E → Book E
with_history entries book = record book { history = with_items entries book.history }
