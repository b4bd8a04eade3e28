-- The whole face of a lane, from what the book keeps and what stood at the start.
use Rattle.std.specs.Prelude.{ℕ, ◌-◌, Bool, false, ◌==◌, List, [], ◌∷◌, length, map, take, drop, get_or, Option, Some, None}
use Rattle.std.specs.List.{filter}
use Rattle.lane_traits.specs.declared.draft.WordWrite.{WordWrite}
use Rattle.lane_types.specs.declared.call.Call.{Call}
use Rattle.lane_types.specs.declared.call.Phase.TheVariants.{Out}
use Rattle.lane_types.specs.declared.face.Entry.{Entry}
use Rattle.lane_types.specs.declared.face.Tally.{Tally}
use Rattle.lane_types.specs.declared.face.Face.{Face}
use Rattle.lane_types.specs.Heaps.{Heap, Holding, holding, holding_of, with_writes, owners_after}
use Rattle.lane_types.specs.Histories.{fold}
use Rattle.lane_types.specs.Faces.{Base, WholeFace}
use Rattle.lane_book.specs.declared.lane.Lane.{Lane}
use Rattle.lane_book.specs.declared.lane.Doing.{Doing}
use Rattle.lane_book.specs.declared.lane.Point.{Point}
use Rattle.lane_book.specs.declared.book.Book.{Book}
use Rattle.lane_book.specs.Stocked.{no_stock}

-- ---- what the calls that were answered did

-- so many of the lane's writes, the last ones, are of the call in progress
abbrev pub waiting_writes : Doing → ℕ
waiting_writes Doing.Nothing = 0
waiting_writes (Doing.Begin set) = 0
waiting_writes (Doing.Read a) = 0
waiting_writes (Doing.Write a v) = 1
waiting_writes (Doing.Take s b) = 1
waiting_writes (Doing.Give b) = 0
waiting_writes Doing.Commit = 0
waiting_writes Doing.Abort = 0
waiting_writes Doing.Checkpoint = 0
waiting_writes (Doing.Batch n) = n
waiting_writes Doing.Savepoint = 0
waiting_writes (Doing.RollbackTo n) = 0

-- and so many of its gives
abbrev pub waiting_gives : Doing → ℕ
waiting_gives Doing.Nothing = 0
waiting_gives (Doing.Begin set) = 0
waiting_gives (Doing.Read a) = 0
waiting_gives (Doing.Write a v) = 0
waiting_gives (Doing.Take s b) = 0
waiting_gives (Doing.Give b) = 1
waiting_gives Doing.Commit = 0
waiting_gives Doing.Abort = 0
waiting_gives Doing.Checkpoint = 0
waiting_gives (Doing.Batch n) = 0
waiting_gives Doing.Savepoint = 0
waiting_gives (Doing.RollbackTo n) = 0

-- all but the last n
abbrev pub front : {X : Type 0} → ℕ → List X → List X
front n xs = take (length xs - n) xs

-- the last n of the writes
abbrev pub batch_of : {E : Type 0} → ℕ → Lane E → List WordWrite
batch_of n lane = drop (length lane.writes.items - n) lane.writes.items

abbrev pub standing_writes : {E : Type 0} → Lane E → List WordWrite
standing_writes lane = front (waiting_writes lane.doing) lane.writes.items

abbrev pub standing_gives : {E : Type 0} → Lane E → List ℕ
standing_gives lane = front (waiting_gives lane.doing) lane.gives.items

-- ---- what is held

-- Over the heap at the begin: whose the blocks are by these writes and gives, and the words with those that are stored.
abbrev pub held_after : ℕ → Heap → List WordWrite → List ℕ → List WordWrite → Holding
held_after set begun writes gives stored =
    holding set begun (owners_after begun writes gives) (with_writes stored begun).at gives

-- the heap when the transaction began
abbrev pub begun_heap : {E : Type 0} → Base → List (Entry E) → Lane E → Heap
begun_heap base history lane = fold base.heap (take lane.joined history)

abbrev pub words_of : {E : Type 0} → Heap → Lane E → Holding
words_of begun lane = held_after lane.held begun (standing_writes lane) (standing_gives lane) (take lane.stored lane.writes.items)

abbrev pub point_of : {E : Type 0} → Heap → Lane E → Point → Holding
point_of begun lane p =
    held_after lane.held begun (take p.writes lane.writes.items) (take p.gives lane.gives.items) (take p.writes lane.writes.items)

-- ---- the call in progress

-- the deed of the last of these
abbrev pub last_commit : {E : Type 0} → List (Entry E) → Option (Call E)
last_commit [] = None
last_commit (e ∷ []) = Some (Call.Commit e.deed)
last_commit (e ∷ f ∷ entries) = last_commit (f ∷ entries)

-- a commit's deed is that of its entry, which is the lane's last one once it has joined
abbrev pub commit_of : {E : Type 0} → List (Entry E) → Option (Entry E) → Option (Call E)
commit_of mine None = last_commit mine
commit_of mine (Some e) = Some (Call.Commit e.deed)

abbrev pub call_of : {E : Type 0} → List (Entry E) → Option (Entry E) → List WordWrite → Doing → Option (Call E)
call_of mine entry writes Doing.Nothing = None
call_of mine entry writes (Doing.Begin set) = Some (Call.Begin set)
call_of mine entry writes (Doing.Read a) = Some (Call.Read a)
call_of mine entry writes (Doing.Write a v) = Some (Call.Write a v)
call_of mine entry writes (Doing.Take s b) = Some (Call.Take s)
call_of mine entry writes (Doing.Give b) = Some (Call.Give b)
call_of mine entry writes Doing.Commit = commit_of mine entry
call_of mine entry writes Doing.Abort = Some Call.Abort
call_of mine entry writes Doing.Checkpoint = Some Call.Checkpoint
call_of mine entry writes (Doing.Batch n) = Some (Call.Batch (drop (length writes - n) writes))
call_of mine entry writes Doing.Savepoint = Some Call.Savepoint
call_of mine entry writes (Doing.RollbackTo n) = Some (Call.RollbackTo n)

-- ---- faces

abbrev pub is_of : {E : Type 0} → ℕ → Entry E → Bool
is_of l e = e.lane == l

abbrev pub plain_face : {E : Type 0} → ℕ → Lane E → Face
plain_face l lane = record {
  lane = l;
  phase = lane.phase;
  held = lane.held;
  begun = lane.begun;
  commits = lane.commits;
  answer = lane.answer;
  tally = lane.tally;
  live = length lane.points.items;
}

-- the face over the heap when the transaction began, with these entries
abbrev pub face_over : {E : Type 0} → Base → Heap → List (Entry E) → ℕ → Lane E → WholeFace E
face_over base begun mine l lane = record {
  face = plain_face l lane;
  base = base;
  words = words_of begun lane;
  first = holding_of lane.held begun;
  points = map (point_of begun lane) lane.points.items;
  mine = mine;
  call = call_of mine lane.entry lane.writes.items lane.doing;
  entered = lane.entered;
}

abbrev pub face_of : {E : Type 0} → Base → List (Entry E) → ℕ → Lane E → WholeFace E
face_of base history l lane = face_over base (begun_heap base history lane) (filter (is_of l) history) l lane

abbrev pub no_tally : Tally
no_tally = record { steps = 0; last = None; cells = 0; checkpoints = 0; takes = 0; full = false; heap = false; stopped = false }

-- a lane before its first call
abbrev pub idle_lane : {E : Type 0} → Lane E
idle_lane = record {
  phase = Out;
  held = 0;
  begun = 0;
  commits = 0;
  answer = None;
  tally = no_tally;
  doing = Doing.Nothing;
  part = 0;
  transaction = 0;
  joined = 0;
  writes = no_stock;
  updates = no_stock;
  stored = 0;
  gives = no_stock;
  gates = no_stock;
  taken = no_stock;
  untaken = no_stock;
  points = no_stock;
  has_records = false;
  rolled = false;
  ended = false;
  point = 0;
  entry = None;
  entered = false;
  owed_events = 0;
  owed_records = 0;
  promised = 0;
}

-- the lane with this number, and an idle one past the last
abbrev pub lane_at : {E : Type 0} → Book E → ℕ → Lane E
lane_at book l = get_or book.lanes.items l idle_lane

abbrev pub faces_of : {E : Type 0} → Base → Book E → ℕ → WholeFace E
faces_of base book l = face_of base book.history.items l (lane_at book l)
