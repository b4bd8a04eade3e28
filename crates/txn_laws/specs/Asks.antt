-- What a lane plans, and what begins in a partition where nothing is under way. None of it makes an event.
use Rattle.std.specs.Prelude.{◌≡◌, ℕ, ◌+◌, ◌*◌, ◌<◌, ◌≤◌, ◌^◌, Bool, false, List, ◌++◌, length}
use Rattle.persist_model.specs.Region.{Words, Region}
use Rattle.persist_model.specs.Progress.{Write}
use Rattle.persist_model.specs.Records.{IsAmong, NamesWord}
use Rattle.persist_model.specs.Shape.{Shape, log_words}
use Rattle.persist_model.specs.Chain.{view}
use Rattle.persist_model.specs.State.{State}
use Rattle.bucket_log.specs.declared.append.Place.{Place}
use Rattle.bucket_log.specs.Appends.{CanAppend}
use Rattle.log_keeper.specs.Parts.{rests, CanRun}
use Rattle.log_keeper.specs.Keeper.{begun_in, appending}
use Rattle.log_keeper.specs.Logged.{latched}
use Rattle.log_keeper.specs.Ordered.{IsNoAppend}
use Rattle.history_laws.specs.Histories.{fold}
use Rattle.history_laws.specs.UnderWay.{Added, Adding, record_of_adding, UnderWay, appends, run_of}
use Rattle.txn_laws.specs.Txns.{Txn, txn_at}
use Rattle.txn_laws.specs.Owners.{IsMine}
use Rattle.txn_laws.specs.NextRecords.{ComesNext}
use Rattle.txn_laws.specs.PartsOf.{IsResting, Fits}
use Rattle.txn_laws.specs.Going.{with_under}
use Rattle.txn_laws.specs.Worlds.{World, with_lane, IsWorldAt}

-- ---- the writes to come

-- the transaction means to write these words too, and how it means to end
abbrev pub asked : List Write → Bool → Txn → Txn
asked more commits x = record x { writes = x.writes ++ more; commits = commits }

pub record MayAsk (shape : Shape) (w : World) (l : ℕ) (more : List Write) : Type 0 where
  pub lane : l < length w.lanes
  pub runs : (txn_at w.lanes l).over ≡ false
  pub resting : IsResting shape w.keeping l
  pub stored : (txn_at w.lanes l).stored ≤ length (txn_at w.lanes l).writes
  pub own : (v : Write) → IsAmong more v → IsMine (txn_at w.lanes l) v.address

abbrev pub AsksKeep : Type 0
AsksKeep = (shape : Shape) (base : Words) (s : State) (chains : ℕ → List ℕ) (start : Words) (w : World) (region : Region) (l : ℕ) (more : List Write) (commits : Bool) →
    MayAsk shape w l more → IsWorldAt shape base s chains start w region → IsWorldAt shape base s chains start (with_lane l (asked more commits (txn_at w.lanes l)) w) region

-- ---- an append begins: its record draws the next number

abbrev pub coming : World → Place → Added → Adding
coming w place added = record { place = place; number = w.next; added = added }

abbrev pub drawn : ℕ → Place → Added → World → World
drawn p place added w = record w {
  keeping = appending p place (record_of_adding (coming w place added)) w.keeping;
  next = w.next + 1;
  under = with_under p (appends (coming w place added) 0) w.under;
}

-- The place takes the record, which comes next in the transaction of the lane that holds the partition.
pub record MayDraw (shape : Shape) (base : Words) (s : State) (chains : ℕ → List ℕ) (h : Words) (w : World) (p : ℕ) (x : Txn) (adding : Adding) : Type 0 where
  pub inside : p < shape.partitions
  pub free : (w.keeping.runs p).part ≡ rests
  pub can : CanAppend shape p (view p (log_words shape base)) (chains p) adding.place (record_of_adding adding)
  pub number : 1 ≤ x.number
  pub of : (record_of_adding adding).transaction ≡ x.number
  pub here : x.part ≡ p
  pub runs : x.over ≡ false
  pub unended : x.ended ≡ false
  pub own : NamesWord (record_of_adding adding) → IsMine x (record_of_adding adding).word
  pub comes : ComesNext shape s h x (record_of_adding adding) adding.added
  pub numbers : w.next + 1 + shape.cells * (shape.buckets + shape.partitions) + 1 ≤ 2 ^ 63

abbrev pub AppendsBegin : Type 0
AppendsBegin = (shape : Shape) (base : Words) (s : State) (chains : ℕ → List ℕ) (start : Words) (w : World) (region : Region) (p : ℕ) (place : Place) (added : Added) →
    MayDraw shape base s chains (fold start w.history) w p (txn_at w.lanes (w.keeping.holder p)) (coming w place added) →
    IsWorldAt shape base s chains start w region → IsWorldAt shape base s chains start (drawn p place added w) region

-- ---- a group of a closing, or a removal, begins

abbrev pub begun_part : ℕ → UnderWay → World → World
begun_part p u w = record w { keeping = begun_in p (run_of u).part w.keeping.ledger w.keeping; under = with_under p u w.under }

pub record MayBeginPart (shape : Shape) (base : Words) (s : State) (chains : ℕ → List ℕ) (h : Words) (w : World) (p : ℕ) (u : UnderWay) : Type 0 where
  pub inside : p < shape.partitions
  pub free : (w.keeping.runs p).part ≡ rests
  pub no_append : IsNoAppend (run_of u).part
  pub none_made : (run_of u).made ≡ 0
  pub can : CanRun shape p base s (chains p) (run_of u).part
  pub fits : Fits shape s h p (txn_at w.lanes (w.keeping.holder p)) u

abbrev pub PartsBegin : Type 0
PartsBegin = (shape : Shape) (base : Words) (s : State) (chains : ℕ → List ℕ) (start : Words) (w : World) (region : Region) (p : ℕ) (u : UnderWay) →
    MayBeginPart shape base s chains (fold start w.history) w p u → IsWorldAt shape base s chains start w region → IsWorldAt shape base s chains start (begun_part p u w) region

-- ---- a latch is taken, or let go

abbrev pub LatchesKeep : Type 0
LatchesKeep = (shape : Shape) (base : Words) (s : State) (chains : ℕ → List ℕ) (start : Words) (w : World) (region : Region) (p lane : ℕ) → p < shape.partitions →
    (w.keeping.runs p).part ≡ rests → IsWorldAt shape base s chains start w region →
    IsWorldAt shape base s chains start (record w { keeping = latched p lane w.keeping }) region
