-- An event of a part and the keeper's step behind it, one law for each event: one that isn't the part's last, and the last of each kind.
use Rattle.std.specs.Prelude.{◌≡◌, ℕ, ◌+◌, ◌<◌, List, [], length, Some, slice_get}
use Rattle.persist_model.specs.declared.event.Event.{Event}
use Rattle.persist_model.specs.Region.{Words, Region, after}
use Rattle.persist_model.specs.Shape.{Shape, heap_words}
use Rattle.persist_model.specs.State.{State}
use Rattle.log_laws.specs.Recovering.{with_heap}
use Rattle.atomic_list.specs.declared.plans.Remove.{Remove}
use Rattle.bucket_log.specs.declared.append.Place.{Place}
use Rattle.bucket_log.specs.Appends.{chain_behind}
use Rattle.log_clearing.specs.Removals.{with_room, more_room}
use Rattle.persist_model.specs.Records.{Record}
use Rattle.plan_records.specs.Appends.{with_record}
use Rattle.log_keeper.specs.declared.slots.TheConstants.{NOBODY}
use Rattle.log_keeper.specs.Parts.{LogPart, rests, appends, closes, takes_back, drops, words_behind}
use Rattle.log_keeper.specs.Ledger.{AreNewestFirst, left_open}
use Rattle.log_keeper.specs.Making.{made_part}
use Rattle.log_keeper.specs.Keeper.{all_latched}
use Rattle.log_keeper.specs.Logged.{Keeping, with_chain, plan_in, IsLoggedAt, IsAlone}
use Rattle.log_keeper.specs.Laws.{HasClosed, HasDropped}
use Rattle.log_keeper.specs.Ordered.{FitsRuns}

-- e is the next event of the partition's part, whose holder has no part under way elsewhere
pub record IsNextEvent (shape : Shape) (k : Keeping) (p : ℕ) (e : Event) : Type 0 where
  pub inside : p < shape.partitions
  pub held : k.holder p < NOBODY
  pub alone : IsAlone shape k p
  pub next : slice_get (plan_in shape k p) (k.runs p).made ≡ Some e

-- and it is the last of this part
pub record IsLastEvent (shape : Shape) (k : Keeping) (p : ℕ) (e : Event) (part : LogPart) : Type 0 where
  pub event : IsNextEvent shape k p e
  pub under_way : (k.runs p).part ≡ part
  pub last : (k.runs p).made + 1 ≡ length (plan_in shape k p)

-- the holder makes the event
abbrev pub region_made : Keeping → ℕ → Event → Region → Region
region_made k p e region = after region (k.holder p) e

-- Behind an event that isn't the part's last nothing is settled yet.
abbrev pub EventsGoOn : Type 0
EventsGoOn = (shape : Shape) (base : Words) (s : State) (chains : ℕ → List ℕ) (k : Keeping) (region : Region) (p : ℕ) (e : Event) →
    IsNextEvent shape k p e → (k.runs p).made + 1 < length (plan_in shape k p) → AreNewestFirst k.ledger → FitsRuns shape k →
    IsLoggedAt shape base s chains k region → IsLoggedAt shape base s chains (made_part shape p k) (region_made k p e region)

-- Behind the last event of an append the partition's words are settled, with its record;
abbrev pub AppendsAreMade : Type 0
AppendsAreMade = (shape : Shape) (base : Words) (s : State) (chains : ℕ → List ℕ) (k : Keeping) (region : Region) (p : ℕ) (e : Event) (place : Place) (r : Record) →
    IsLastEvent shape k p e (appends place r) → AreNewestFirst k.ledger → FitsRuns shape k → IsLoggedAt shape base s chains k region →
    let later = words_behind shape p (appends place r) base in
    IsLoggedAt shape later (with_heap (with_record p s r) (heap_words shape later)) (with_chain p (chain_behind place (chains p)) chains)
    (made_part shape p k) (region_made k p e region)

-- behind that of a group of a closing without its records,
abbrev pub GroupsAreMade : Type 0
GroupsAreMade = (shape : Shape) (base : Words) (s : State) (chains : ℕ → List ℕ) (k : Keeping) (region : Region) (p : ℕ) (e : Event) (gates ends checkpoints : List ℕ) →
    IsLastEvent shape k p e (closes gates ends checkpoints) → IsLoggedAt shape base s chains k region →
    HasClosed shape (words_behind shape p (closes gates ends checkpoints) base) s chains (made_part shape p k) (region_made k p e region)
    (left_open gates ends checkpoints s.log)

-- behind that of a closing of deletions that are taken back without these,
abbrev pub TakingsBackAreMade : Type 0
TakingsBackAreMade = (shape : Shape) (base : Words) (s : State) (chains : ℕ → List ℕ) (k : Keeping) (region : Region) (p : ℕ) (e : Event) (gates : List ℕ) →
    IsLastEvent shape k p e (takes_back gates) → IsLoggedAt shape base s chains k region →
    HasClosed shape (words_behind shape p (takes_back gates) base) s chains (made_part shape p k) (region_made k p e region) (left_open gates [] [] s.log)

-- and behind that of a removal with the cells of a bucket more room.
abbrev pub RemovalsAreMade : Type 0
RemovalsAreMade = (shape : Shape) (base : Words) (s : State) (chains : ℕ → List ℕ) (k : Keeping) (region : Region) (p : ℕ) (e : Event) (r : Remove) →
    IsLastEvent shape k p e (drops r) → IsLoggedAt shape base s chains k region →
    let later = words_behind shape p (drops r) base in
    HasDropped shape later (with_room s (more_room p shape.cells s.room) (heap_words shape later)) chains (made_part shape p k) (region_made k p e region) p

-- All latches are taken where nothing is under way.
abbrev pub AllLatchesPass : Type 0
AllLatchesPass = (shape : Shape) (base : Words) (s : State) (chains : ℕ → List ℕ) (k : Keeping) (region : Region) (lane n : ℕ) →
    ((p : ℕ) → p < n → (k.runs p).part ≡ rests) → IsLoggedAt shape base s chains k region → IsLoggedAt shape base s chains (all_latched lane n k) region
