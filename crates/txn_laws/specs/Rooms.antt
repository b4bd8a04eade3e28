-- The cells that are reserved in each partition, against the room in the newest words.
use Rattle.std.specs.Prelude.{◌≡◌, ◌^◌, ◌*◌, ◌≢◌, ℕ, zero, suc, ◌+◌, ◌<◌, ◌≤◌, Bool, true, false, ◌==◌, ◌&&◌, if◌then◌else◌, List, [], ◌∷◌, length}
use Rattle.persist_model.specs.declared.event.Event.{Event}
use Rattle.persist_model.specs.declared.event.Event.TheVariants.{Store, PStore, WriteBack, Fence}
use Rattle.persist_model.specs.Region.{Words, Region, after}
use Rattle.persist_model.specs.Records.{Record, Log}
use Rattle.persist_model.specs.Need.{has_of}
use Rattle.persist_model.specs.Shape.{Shape, IsHeapWord, heap_words, part_of}
use Rattle.persist_model.specs.State.{State}
use Rattle.log_laws.specs.MoveRoom.{HasCells, HasItsCells}
use Rattle.log_keeper.specs.Parts.{LogPart, rests, appends, closes, takes_back, drops}
use Rattle.log_keeper.specs.Ledger.{newest_log}
use Rattle.log_keeper.specs.Logged.{Keeping, plan_in}
use Rattle.log_keeper.specs.Events.{IsNextEvent, region_made}
use Rattle.log_keeper.specs.Rooms.{IsRoomAt, IsRoomFrom, IsNewestOf}
use Rattle.txn_laws.specs.Txns.{Txn, txn_at}
use Rattle.txn_laws.specs.Needs.{undo_cells, is_open}
use Rattle.txn_laws.specs.Worlds.{World, IsWorldAt}
use Rattle.txn_laws.specs.StartLaws.{IsStartingRegion, fresh_world}

-- ---- the invariant

-- Each partition has in the newest words room for so many cells, which are reserved there. Each word has a value.
pub record IsRoomy (shape : Shape) (region : Region) (reserved : ℕ → ℕ) : Type 0 where
  pub full : (a : ℕ) → a < region.size → 0 < length (region.at a)
  pub room : (p : ℕ) → p < shape.partitions → (i : Words) → IsNewestOf region i → IsRoomFrom shape p i (reserved p)

abbrev pub is_append : LogPart → Bool
is_append rests = false
is_append (appends place r) = true
is_append (closes gates ends checkpoints) = false
is_append (takes_back gates) = false
is_append (drops r) = false

-- the next event of p's part is the store of a record's gate, the last but one of its append
abbrev pub stores_gate : Shape → Keeping → ℕ → Bool
stores_gate shape k p = is_append (k.runs p).part && ((k.runs p).made + 2 == length (plan_in shape k p))

-- the cells that it takes in q
abbrev pub taken_in : Shape → Keeping → ℕ → ℕ → ℕ
taken_in shape k p q = if (q == p) && stores_gate shape k p then 1 else 0

-- ---- what keeps it

-- fewer may be reserved;
abbrev pub FewerAreRoomy : Type 0
FewerAreRoomy = (shape : Shape) (region : Region) (reserved later : ℕ → ℕ) → ((p : ℕ) → p < shape.partitions → later p ≤ reserved p) →
    IsRoomy shape region reserved → IsRoomy shape region later

-- and as many as there is room for in the newest words, as a read finds it.
abbrev pub AsksAreRoomy : Type 0
AsksAreRoomy = (shape : Shape) (base : Words) (s : State) (chains : ℕ → List ℕ) (start : Words) (w : World) (region : Region) (reserved : ℕ → ℕ) (p n m : ℕ) (i : Words) →
    IsWorldAt shape base s chains start w region → IsNewestOf region i → IsRoomAt shape p i m → n ≤ m →
    IsRoomy shape region reserved → IsRoomy shape region (λ q. if q == p then n else reserved q)

-- The event stores to words of the heap alone.
abbrev pub IsInHeap : Shape → Event → Type 0
IsInHeap shape (Store a v) = IsHeapWord shape a
IsInHeap shape (PStore a v) = IsHeapWord shape a
IsInHeap shape (WriteBack a) = Unit {0}
IsInHeap shape Fence = Unit {0}

-- Such an event of any lane leaves the room.
abbrev pub HeapEventsAreRoomy : Type 0
HeapEventsAreRoomy = (shape : Shape) (base : Words) (s : State) (chains : ℕ → List ℕ) (start : Words) (w : World) (region : Region) (reserved : ℕ → ℕ) (by : ℕ) (e : Event) →
    IsInHeap shape e → IsWorldAt shape base s chains start w region → IsRoomy shape region reserved → IsRoomy shape (after region by e) reserved

-- An event of a part of the log lowers it by one cell in its own partition where it stores a record's gate, and nowhere else.
abbrev pub PartsAreRoomy : Type 0
PartsAreRoomy = (shape : Shape) (base : Words) (s : State) (chains : ℕ → List ℕ) (start : Words) (w : World) (region : Region) (reserved later : ℕ → ℕ) (p : ℕ) (e : Event) →
    IsNextEvent shape w.keeping p e → IsWorldAt shape base s chains start w region →
    ((q : ℕ) → q < shape.partitions → later q + taken_in shape w.keeping p q ≤ reserved q) →
    IsRoomy shape region reserved → IsRoomy shape (region_made w.keeping p e region) later

-- Where nothing is under way in a partition its settled room is the one in the newest words.
pub record RestsAreRoomy : Type 0 where
  pub settled : (shape : Shape) (base : Words) (s : State) (chains : ℕ → List ℕ) (start : Words) (w : World) (region : Region) (reserved : ℕ → ℕ) (p : ℕ) → p < shape.partitions →
      (w.keeping.runs p).part ≡ rests → IsWorldAt shape base s chains start w region → IsRoomy shape region reserved → reserved p ≤ s.room p
  pub begins : (shape : Shape) (base : Words) (s : State) (chains : ℕ → List ℕ) (start : Words) (w : World) (region : Region) (reserved : ℕ → ℕ) →
      ((p : ℕ) → p < shape.partitions → (w.keeping.runs p).part ≡ rests) → ((p : ℕ) → p < shape.partitions → reserved p ≤ s.room p) →
      ((a : ℕ) → a < region.size → 0 < length (region.at a)) → IsWorldAt shape base s chains start w region → IsRoomy shape region reserved

-- So it begins, with as many cells reserved as there is room for.
abbrev pub RoomsStart : Type 0
RoomsStart = (shape : Shape) (base : Words) (s : State) (chains : ℕ → List ℕ) (lanes next : ℕ) (region : Region) (reserved : ℕ → ℕ) → shape.policy ≢ 2 →
    next + shape.cells * (shape.buckets + shape.partitions) + 1 ≤ 2 ^ 63 → IsStartingRegion shape base s chains region → ((p : ℕ) → p < shape.partitions → reserved p ≤ s.room p) →
    IsWorldAt shape base s chains (heap_words shape base) (fresh_world lanes next) region × IsRoomy shape region reserved

-- ---- the lanes' shares

-- the cells of a lane's call whose records aren't in the log yet, and whether those that undo and end its transaction are kept
pub record Share : Type 0 where
  pub promised : ℕ
  pub bound : Bool

-- what is reserved in p for a lane's transaction
abbrev pub reserved_by : ℕ → Share → Txn → ℕ
reserved_by p c x = if x.part == p then c.promised + (if c.bound then undo_cells x else 0) else 0

-- and for those of all lanes
abbrev pub reserved_in : (ℕ → Share) → List Txn → ℕ → ℕ
reserved_in shares [] p = 0
reserved_in shares (x ∷ lanes) p = reserved_by p (shares 0) x + reserved_in (λ l. shares (suc l)) lanes p

-- a sum by the lanes' numbers, as a book keeps it
abbrev pub sum_below : (ℕ → ℕ) → ℕ → ℕ
sum_below f zero = 0
sum_below f (suc n) = sum_below f n + f n

-- It is the same.
abbrev pub SharesAreSummed : Type 0
SharesAreSummed = (f : ℕ → ℕ) (shares : ℕ → Share) (lanes : List Txn) (p : ℕ) →
    ((l : ℕ) → l < length lanes → f l ≡ reserved_by p (shares l) (txn_at lanes l)) → sum_below f (length lanes) ≡ reserved_in shares lanes p

-- In p they are kept for each transaction that has a record in the log and whose end isn't fenced.
abbrev pub AreBound : ℕ → Log → (ℕ → Share) → List Txn → Type 0
AreBound p log shares lanes = (l : ℕ) → (txn_at lanes l).part ≡ p → is_open log (txn_at lanes l) ≡ true → (shares l).bound ≡ true

-- What they are in the newest log they are in the settled one.
abbrev pub NewestAreBound : Type 0
NewestAreBound = (shape : Shape) (base : Words) (s : State) (chains : ℕ → List ℕ) (start : Words) (w : World) (region : Region) (shares : ℕ → Share) (p : ℕ) →
    IsWorldAt shape base s chains start w region → AreBound p (newest_log w.keeping.ledger) shares w.lanes → AreBound p s.log shares w.lanes

-- ---- what an append asks

-- r is to be a record of lane l's transaction, which runs, for which cells are kept, and in whose part nothing is under way. There is room for what is
-- reserved, which in that part is what the lanes' shares come to, or more. Of other parts nothing is asked: there a share may be ahead of the settled log.
pub record IsReserved (shape : Shape) (s : State) (w : World) (region : Region) (reserved : ℕ → ℕ) (shares : ℕ → Share) (l : ℕ) (r : Record) : Type 0 where
  pub lane : l < length w.lanes
  pub inside : (txn_at w.lanes l).part < shape.partitions
  pub free : (w.keeping.runs (txn_at w.lanes l).part).part ≡ rests
  pub runs : (txn_at w.lanes l).over ≡ false
  pub of : r.transaction ≡ (txn_at w.lanes l).number
  pub here : part_of shape r.at ≡ (txn_at w.lanes l).part
  pub kept : (shares l).bound ≡ true
  pub others : AreBound (txn_at w.lanes l).part s.log shares w.lanes
  pub roomy : IsRoomy shape region reserved
  pub covers : reserved_in shares w.lanes (txn_at w.lanes l).part ≤ reserved (txn_at w.lanes l).part

-- So the record has its cells: two promised ones serve an update, and one a deletion; what undoes and ends the transaction needs none.
pub record HasReserved (shape : Shape) (s : State) (x : Txn) (c : Share) (r : Record) : Type 0 where
  pub updates : x.rolled ≡ false → 2 ≤ c.promised → HasCells shape s r (if has_of r.transaction s.log then 2 else 4)
  pub deletes : x.rolled ≡ false → 1 ≤ c.promised → HasCells shape s r (if has_of r.transaction s.log then 1 else 3)
  pub rolls_back : x.rolled ≡ false → HasItsCells shape s r 2
  pub ends : HasItsCells shape s r 1

abbrev pub CellsAreReserved : Type 0
CellsAreReserved = (shape : Shape) (base : Words) (s : State) (chains : ℕ → List ℕ) (start : Words) (w : World) (region : Region) (reserved : ℕ → ℕ) (shares : ℕ → Share) (l : ℕ) (r : Record) →
    IsReserved shape s w region reserved shares l r → IsWorldAt shape base s chains start w region → HasReserved shape s (txn_at w.lanes l) (shares l) r
