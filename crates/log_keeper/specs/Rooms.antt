-- The room of a partition in the words that a stop may leave, as in the newest ones, while parts are under way.
use Rattle.std.specs.Prelude.{◌≡◌, ◌⊎◌, ℕ, ◌+◌, ◌<◌, ◌≤◌, List, length}
use Rattle.persist_model.specs.declared.event.Event.{Event}
use Rattle.persist_model.specs.declared.event.Event.TheVariants.{Store, PStore, WriteBack, Fence}
use Rattle.persist_model.specs.Region.{Words, Region, MayStand, newest, after}
use Rattle.persist_model.specs.Records.{Record}
use Rattle.persist_model.specs.Shape.{Shape, log_words, words_of_shape}
use Rattle.persist_model.specs.Chain.{view}
use Rattle.persist_model.specs.State.{State}
use Rattle.persist_model.specs.Sound.{room_of}
use Rattle.atomic_list.specs.declared.plans.Remove.{Remove}
use Rattle.atomic_list.specs.Rules.{IsList}
use Rattle.region_layout.specs.Layout.{IsAllowed}
use Rattle.bucket_log.specs.declared.append.Place.{Place}
use Rattle.bucket_log.specs.Words.{IsPartWord}
use Rattle.log_keeper.specs.Parts.{rests, appends, closes, takes_back, drops}
use Rattle.log_keeper.specs.Logged.{Keeping, plan_in, IsLoggedAt}
use Rattle.log_keeper.specs.Events.{IsNextEvent, region_made}

-- the partition has a list in these words, and so much room
abbrev pub IsRoomAt : Shape → ℕ → Words → ℕ → Type 0
IsRoomAt shape p i n = (chain : List ℕ) × IsList shape p (view p (log_words shape i)) chain × (room_of shape (view p (log_words shape i)) p chain ≡ n)

-- at least so much
abbrev pub IsRoomFrom : Shape → ℕ → Words → ℕ → Type 0
IsRoomFrom shape p i n = (m : ℕ) × IsRoomAt shape p i m × (n ≤ m)

-- i are the newest words, which a read gives
abbrev pub IsNewestOf : Region → Words → Type 0
IsNewestOf region i = (a : ℕ) → a < region.size → i a ≡ newest (region.at a)

-- the event stores to no word of the partition
abbrev pub IsElsewhere : Shape → ℕ → Event → Type 0
IsElsewhere shape p (Store a v) = IsPartWord shape p a → ⊥
IsElsewhere shape p (PStore a v) = IsPartWord shape p a → ⊥
IsElsewhere shape p (WriteBack a) = Unit {0}
IsElsewhere shape p Fence = Unit {0}

-- ---- the laws

-- words have at most one room
abbrev pub RoomIsOne : Type 0
RoomIsOne = (shape : Shape) (p n m : ℕ) (i : Words) → IsRoomAt shape p i n → IsRoomAt shape p i m → n ≡ m

-- The room in any words that a stop may leave: where nothing is under way, and before the gate of a record is stored, it is the settled one; while
-- gates are closed it is no less; and a bucket that is taken out may be free already.
pub record HasRooms (shape : Shape) (s : State) (k : Keeping) (p : ℕ) (i : Words) : Type 0 where
  pub resting : (k.runs p).part ≡ rests → IsRoomAt shape p i (s.room p)
  pub waiting : (place : Place) (r : Record) → (k.runs p).part ≡ appends place r → (k.runs p).made + 2 ≤ length (plan_in shape k p) → IsRoomAt shape p i (s.room p)
  pub closing : (gates ends checkpoints : List ℕ) → (k.runs p).part ≡ closes gates ends checkpoints → IsRoomFrom shape p i (s.room p)
  pub taking_back : (gates : List ℕ) → (k.runs p).part ≡ takes_back gates → IsRoomFrom shape p i (s.room p)
  pub dropping : (r : Remove) → (k.runs p).part ≡ drops r → IsRoomAt shape p i (s.room p) ⊎ IsRoomAt shape p i (s.room p + shape.cells)

abbrev pub ImagesHaveRooms : Type 0
ImagesHaveRooms = (shape : Shape) (base : Words) (s : State) (chains : ℕ → List ℕ) (k : Keeping) (region : Region) (p : ℕ) (i : Words) → p < shape.partitions →
    IsLoggedAt shape base s chains k region → MayStand i region → HasRooms shape s k p i

-- With its gate's store a record takes its cell in the newest words.
abbrev pub StoresTakeCells : Type 0
StoresTakeCells = (shape : Shape) (base : Words) (s : State) (chains : ℕ → List ℕ) (k : Keeping) (region : Region) (p : ℕ) (i : Words) (place : Place) (r : Record) → p < shape.partitions →
    (k.runs p).part ≡ appends place r → (k.runs p).made + 1 ≡ length (plan_in shape k p) → IsLoggedAt shape base s chains k region →
    MayStand i region → IsNewestOf region i → (n : ℕ) × IsRoomAt shape p i n × (n + 1 ≡ s.room p)

-- An event that stores to no word of the partition leaves the room there,
abbrev pub RoomsStay : Type 0
RoomsStay = (shape : Shape) (p by n : ℕ) (e : Event) (region : Region) (i j : Words) → IsAllowed shape → p < shape.partitions → region.size ≡ words_of_shape shape → IsElsewhere shape p e →
    IsNewestOf region i → IsNewestOf (after region by e) j → IsRoomAt shape p i n → IsRoomAt shape p j n

-- and one of a closing, or of deletions that are taken back, doesn't lower it.
abbrev pub ClosingsRaiseRooms : Type 0
ClosingsRaiseRooms = (shape : Shape) (base : Words) (s : State) (chains : ℕ → List ℕ) (k : Keeping) (region : Region) (p n : ℕ) (e : Event) (i j : Words) (gates ends checkpoints : List ℕ) →
    ((k.runs p).part ≡ closes gates ends checkpoints) ⊎ ((k.runs p).part ≡ takes_back gates) → IsNextEvent shape k p e → IsLoggedAt shape base s chains k region →
    IsNewestOf region i → IsNewestOf (region_made k p e region) j → IsRoomAt shape p i n → IsRoomFrom shape p j n
