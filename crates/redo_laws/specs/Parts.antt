-- The parts of lanes on the log, while there is no checkpoint: they begin, go on, and settle their records.
use Rattle.std.specs.Prelude.{◌≡◌, ℕ, ◌+◌, ◌<◌, ◌≤◌, List, [], length}
use Rattle.persist_model.specs.declared.event.Event.{Event}
use Rattle.persist_model.specs.Region.{Words, Region}
use Rattle.persist_model.specs.Records.{Log}
use Rattle.persist_model.specs.Shape.{Shape, heap_words}
use Rattle.persist_model.specs.State.{State}
use Rattle.atomic_list.specs.declared.plans.Remove.{Remove}
use Rattle.bucket_log.specs.declared.append.Place.{Place}
use Rattle.bucket_log.specs.Appends.{chain_behind}
use Rattle.log_clearing.specs.Removals.{with_room, more_room}
use Rattle.log_keeper.specs.Parts.{rests, appends as adds, takes_back as drops_deletions, drops as takes_out, words_behind}
use Rattle.log_keeper.specs.Ledger.{left_open}
use Rattle.log_keeper.specs.Logged.{latched, with_chain, plan_in}
use Rattle.log_keeper.specs.Events.{IsNextEvent, IsLastEvent, region_made}
use Rattle.history_laws.specs.Histories.{fold}
use Rattle.history_laws.specs.UnderWay.{Added, Adding, record_of_adding, UnderWay, appends, takes_back}
use Rattle.txn_laws.specs.Txns.{txn_at}
use Rattle.txn_laws.specs.Asks.{coming, drawn, MayDraw, begun_part, MayBeginPart}
use Rattle.txn_laws.specs.Going.{gone_on}
use Rattle.txn_laws.specs.Settled.{base_behind, state_behind, world_behind}
use Rattle.txn_laws.specs.Dropped.{dropped}
use Rattle.txn_laws.specs.TakingsBack.{world_taken}
use Rattle.redo_laws.specs.Checkpoints.{none}
use Rattle.redo_laws.specs.Stages.{IsNoClosing}
use Rattle.redo_laws.specs.Worlds.{RedoWorld, with_world, IsRedoWorldAt}

-- An append begins: its record draws the next number.
abbrev pub AppendsBegin : Type 0
AppendsBegin = (shape : Shape) (base : Words) (s : State) (chains : ℕ → List ℕ) (start : Words) (z : RedoWorld) (region : Region) (p : ℕ) (place : Place) (added : Added) →
    z.checkpoint ≡ none → MayDraw shape base s chains (fold start z.world.history) z.world p (txn_at z.world.lanes (z.world.keeping.holder p)) (coming z.world place added) →
    IsRedoWorldAt shape base s chains start z region → IsRedoWorldAt shape base s chains start (with_world (drawn p place added z.world) z) region

-- Deletions are taken back, or a bucket is removed.
abbrev pub PartsBegin : Type 0
PartsBegin = (shape : Shape) (base : Words) (s : State) (chains : ℕ → List ℕ) (start : Words) (z : RedoWorld) (region : Region) (p : ℕ) (u : UnderWay) →
    z.checkpoint ≡ none → IsNoClosing u → MayBeginPart shape base s chains (fold start z.world.history) z.world p u → IsRedoWorldAt shape base s chains start z region →
    IsRedoWorldAt shape base s chains start (with_world (begun_part p u z.world) z) region

-- A latch is taken or let go.
abbrev pub LatchesKeep : Type 0
LatchesKeep = (shape : Shape) (base : Words) (s : State) (chains : ℕ → List ℕ) (start : Words) (z : RedoWorld) (region : Region) (p lane : ℕ) → p < shape.partitions →
    z.checkpoint ≡ none → (z.world.keeping.runs p).part ≡ rests → IsRedoWorldAt shape base s chains start z region →
    IsRedoWorldAt shape base s chains start (with_world (record z.world { keeping = latched p lane z.world.keeping }) z) region

-- An event that isn't a part's last settles nothing.
abbrev pub PartsKeep : Type 0
PartsKeep = (shape : Shape) (base : Words) (s : State) (chains : ℕ → List ℕ) (start : Words) (z : RedoWorld) (region : Region) (p : ℕ) (e : Event) →
    z.checkpoint ≡ none → z.world.keeping.holder p < length z.world.lanes → IsNextEvent shape z.world.keeping p e →
    (z.world.keeping.runs p).made + 1 < length (plan_in shape z.world.keeping p) → IsRedoWorldAt shape base s chains start z region →
    IsRedoWorldAt shape base s chains start (with_world (gone_on shape p z.world) z) (region_made z.world.keeping p e region)

-- With the last event of an append its record is settled: an update, a deletion, a rollback record, a compensation or an end. With a commit's
-- end the history has its entry.
abbrev pub AppendsSettle : Type 0
AppendsSettle = (shape : Shape) (base : Words) (s : State) (chains : ℕ → List ℕ) (start : Words) (z : RedoWorld) (region : Region) (p : ℕ) (e : Event) (adding : Adding) (made : ℕ) →
    z.checkpoint ≡ none → z.world.under p ≡ appends adding made → z.world.keeping.holder p < length z.world.lanes →
    IsLastEvent shape z.world.keeping p e (adds adding.place (record_of_adding adding)) → IsRedoWorldAt shape base s chains start z region →
    IsRedoWorldAt shape (base_behind shape p adding base) (state_behind shape p adding base s) (with_chain p (chain_behind adding.place (chains p)) chains) start
    (with_world (world_behind shape p adding z.world) z) (region_made z.world.keeping p e region)

-- The invariant holds with some state that has this log and no less room.
pub record HasRedoLeft (shape : Shape) (base : Words) (s : State) (chains : ℕ → List ℕ) (start : Words) (z : RedoWorld) (region : Region) (log : Log) : Type 0 where
  pub state : State
  pub log_is : state.log ≡ log
  pub no_less : (p : ℕ) → s.room p ≤ state.room p
  pub world : IsRedoWorldAt shape base state chains start z region

-- Behind the last event of a taking back the log has these deletions no more, and their words aren't given.
abbrev pub TakingsBackEnd : Type 0
TakingsBackEnd = (shape : Shape) (base : Words) (s : State) (chains : ℕ → List ℕ) (start : Words) (z : RedoWorld) (region : Region) (p : ℕ) (e : Event) (gates : List ℕ) (made : ℕ) →
    z.checkpoint ≡ none → z.world.under p ≡ takes_back gates made → IsLastEvent shape z.world.keeping p e (drops_deletions gates) →
    IsRedoWorldAt shape base s chains start z region →
    HasRedoLeft shape (words_behind shape p (drops_deletions gates) base) s chains start (with_world (world_taken shape p gates z.world) z) (region_made z.world.keeping p e region)
    (left_open gates [] [] s.log)

-- Behind that of a removal, also of a checkpoint's clearing, the partition has the cells of a bucket more room.
abbrev pub RemovalsSettle : Type 0
RemovalsSettle = (shape : Shape) (base : Words) (s : State) (chains : ℕ → List ℕ) (start : Words) (z : RedoWorld) (region : Region) (p : ℕ) (e : Event) (r : Remove) →
    IsLastEvent shape z.world.keeping p e (takes_out r) → IsRedoWorldAt shape base s chains start z region →
    let later = words_behind shape p (takes_out r) base in
    (chain : List ℕ) × IsRedoWorldAt shape later (with_room s (more_room p shape.cells s.room) (heap_words shape later)) (with_chain p chain chains) start
    (with_world (dropped shape p z.world) z) (region_made z.world.keeping p e region)
