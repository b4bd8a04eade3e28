-- A checkpoint's record behind its sweep, and then 0 to the owner words of the blocks that commits gave back.
use Rattle.std.specs.Prelude.{◌≡◌, ℕ, ◌+◌, ◌*◌, ◌<◌, ◌≤◌, ◌^◌, List, [], ◌∷◌, length}
use Rattle.persist_model.specs.declared.event.Event.{Event}
use Rattle.persist_model.specs.declared.event.Event.TheVariants.{PStore, Fence}
use Rattle.persist_model.specs.Region.{Words, Region, after}
use Rattle.persist_model.specs.Records.{IsAmong, Has}
use Rattle.persist_model.specs.Standing.{IsToDelete}
use Rattle.persist_model.specs.Shape.{Shape, log_words, heap_words, IsHeapWord}
use Rattle.persist_model.specs.Chain.{view}
use Rattle.persist_model.specs.State.{State}
use Rattle.log_laws.specs.Recovering.{with_heap}
use Rattle.bucket_log.specs.declared.append.Place.{Place}
use Rattle.bucket_log.specs.Appends.{CanAppend, chain_behind}
use Rattle.plan_records.specs.Appends.{with_record}
use Rattle.plan_records.specs.Conditions.{CanCheckpoint}
use Rattle.log_keeper.specs.declared.slots.TheConstants.{NOBODY}
use Rattle.log_keeper.specs.Parts.{appends, words_behind}
use Rattle.log_keeper.specs.Making.{made_part}
use Rattle.log_keeper.specs.Keeper.{appending}
use Rattle.log_keeper.specs.Logged.{with_chain, plan_in}
use Rattle.log_keeper.specs.Events.{IsNextEvent, IsLastEvent, region_made}
use Rattle.redo_laws.specs.Checkpoints.{swept, notes, noted, zeroed, checkpoint_record}
use Rattle.redo_laws.specs.Worlds.{RedoWorld, IsRedoWorldAt}
use Rattle.redo_laws.specs.Sweeps.{at_stage}

-- the record draws the next number, and its append begins
abbrev pub noting_from : ℕ → Place → RedoWorld → RedoWorld
noting_from l place z = record {
  world = record z.world { keeping = appending 0 place (checkpoint_record place z.world.next) z.world.keeping; next = z.world.next + 1 };
  dirty = z.dirty;
  checkpoint = notes l place z.world.next 0;
}

pub record MayNote (shape : Shape) (base : Words) (s : State) (chains : ℕ → List ℕ) (z : RedoWorld) (place : Place) : Type 0 where
  pub can : CanAppend shape 0 (view 0 (log_words shape base)) (chains 0) place (checkpoint_record place z.world.next)
  pub cell : CanCheckpoint shape s (checkpoint_record place z.world.next)
  pub numbers : z.world.next + 1 + shape.cells * (shape.buckets + shape.partitions) + 1 ≤ 2 ^ 63

abbrev pub NotesBegin : Type 0
NotesBegin = (shape : Shape) (base : Words) (s : State) (chains : ℕ → List ℕ) (start : Words) (z : RedoWorld) (region : Region) (l : ℕ) (place : Place) →
    z.checkpoint ≡ swept l → MayNote shape base s chains z place → IsRedoWorldAt shape base s chains start z region →
    IsRedoWorldAt shape base s chains start (noting_from l place z) region

-- the next event of its append was made
abbrev pub noting_on : Shape → ℕ → Place → ℕ → ℕ → RedoWorld → RedoWorld
noting_on shape l place number made z =
    record { world = record z.world { keeping = made_part shape 0 z.world.keeping }; dirty = z.dirty; checkpoint = notes l place number (made + 1) }

abbrev pub NotesGoOn : Type 0
NotesGoOn = (shape : Shape) (base : Words) (s : State) (chains : ℕ → List ℕ) (start : Words) (z : RedoWorld) (region : Region) (l : ℕ) (place : Place) (number made : ℕ) (e : Event) →
    z.checkpoint ≡ notes l place number made → IsNextEvent shape z.world.keeping 0 e → (z.world.keeping.runs 0).made + 1 < length (plan_in shape z.world.keeping 0) →
    IsRedoWorldAt shape base s chains start z region → IsRedoWorldAt shape base s chains start (noting_on shape l place number made z) (region_made z.world.keeping 0 e region)

-- With the last event the record is settled: nothing is left to redo.
abbrev pub noted_behind : Shape → ℕ → RedoWorld → RedoWorld
noted_behind shape l z = record { world = record z.world { keeping = made_part shape 0 z.world.keeping }; dirty = z.dirty; checkpoint = noted l [] }

abbrev pub NotesSettle : Type 0
NotesSettle = (shape : Shape) (base : Words) (s : State) (chains : ℕ → List ℕ) (start : Words) (z : RedoWorld) (region : Region) (l : ℕ) (place : Place) (number made : ℕ) (e : Event) →
    z.checkpoint ≡ notes l place number made → IsLastEvent shape z.world.keeping 0 e (appends place (checkpoint_record place number)) →
    IsRedoWorldAt shape base s chains start z region →
    let later = words_behind shape 0 (appends place (checkpoint_record place number)) base in
    IsRedoWorldAt shape later (with_heap (with_record 0 s (checkpoint_record place number)) (heap_words shape later)) (with_chain 0 (chain_behind place (chains 0)) chains) start
    (noted_behind shape l z) (region_made z.world.keeping 0 e region)

-- 0 is stored durably to an owner word that a committed deletion names
abbrev pub OwnersAreZeroed : Type 0
OwnersAreZeroed = (shape : Shape) (base : Words) (s : State) (chains : ℕ → List ℕ) (start : Words) (z : RedoWorld) (region : Region) (l a : ℕ) (words : List ℕ) → l < NOBODY →
    z.checkpoint ≡ noted l words → IsHeapWord shape a → Has (IsToDelete s.log a) s.log → IsRedoWorldAt shape base s chains start z region →
    IsRedoWorldAt shape base s chains start (at_stage (noted l (a ∷ words)) z) (after region l (PStore a 0))

-- and with all of them a fence keeps that.
abbrev pub ZerosAreFenced : Type 0
ZerosAreFenced = (shape : Shape) (base : Words) (s : State) (chains : ℕ → List ℕ) (start : Words) (z : RedoWorld) (region : Region) (l : ℕ) (words : List ℕ) → l < NOBODY →
    z.checkpoint ≡ noted l words → ((a : ℕ) → Has (IsToDelete s.log a) s.log → IsAmong words a) → IsRedoWorldAt shape base s chains start z region →
    IsRedoWorldAt shape base s chains start (at_stage (zeroed l) z) (after region l Fence)

-- Where no block was given back there is no fence.
abbrev pub NoZerosPass : Type 0
NoZerosPass = (shape : Shape) (base : Words) (s : State) (chains : ℕ → List ℕ) (start : Words) (z : RedoWorld) (region : Region) (l : ℕ) →
    z.checkpoint ≡ noted l [] → ((a : ℕ) → Has (IsToDelete s.log a) s.log → ⊥) → IsRedoWorldAt shape base s chains start z region →
    IsRedoWorldAt shape base s chains start (at_stage (zeroed l) z) region
