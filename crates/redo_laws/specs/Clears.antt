-- A checkpoint's clearing: each group over all partitions, then removals, and its end.
use Rattle.std.specs.Prelude.{◌≡◌, ℕ, suc, ◌+◌, ◌<◌, ◌==◌, nat_lt, true, if◌then◌else◌, List, [], Some, length, map, slice_get}
use Rattle.persist_model.specs.declared.event.Event.{Event}
use Rattle.persist_model.specs.declared.event.Event.TheVariants.{PStore, Fence}
use Rattle.persist_model.specs.Region.{Words, Region, after}
use Rattle.persist_model.specs.Records.{IsAmong}
use Rattle.persist_model.specs.Shape.{Shape}
use Rattle.persist_model.specs.State.{State}
use Rattle.atomic_list.specs.declared.plans.Remove.{Remove}
use Rattle.log_keeper.specs.declared.slots.TheConstants.{NOBODY}
use Rattle.log_keeper.specs.Parts.{CanRun}
use Rattle.log_keeper.specs.Ledger.{left_open, is_in, without}
use Rattle.log_keeper.specs.Logged.{Keeping, resting, advanced, plan_in}
use Rattle.log_keeper.specs.Keeper.{all_latched}
use Rattle.log_keeper.specs.Events.{IsNextEvent, region_made}
use Rattle.history_laws.specs.Histories.{fold}
use Rattle.history_laws.specs.UnderWay.{nothing, drops}
use Rattle.txn_laws.specs.Txns.{Gift, Txn, txn_at}
use Rattle.txn_laws.specs.Asks.{begun_part, MayBeginPart}
use Rattle.txn_laws.specs.Going.{gone_on}
use Rattle.txn_laws.specs.TakingsBack.{gifts_left}
use Rattle.redo_laws.specs.Checkpoints.{Group, none, zeroed, shuts, shutting_part, shutting_run}
use Rattle.redo_laws.specs.Stages.{IsUnmarked, IsGroup, all_gates, IsInGroup}
use Rattle.redo_laws.specs.Worlds.{RedoWorld, with_world, IsRedoWorldAt}
use Rattle.redo_laws.specs.Parts.{HasRedoLeft}

-- ---- a group

-- it begins in each partition
abbrev pub shutting : Shape → Group → Keeping → Keeping
shutting shape g k = record { ledger = k.ledger; runs = λ q. if nat_lt q shape.partitions then shutting_run g q else k.runs q; holder = k.holder }

abbrev pub shutting_from : Shape → ℕ → Group → RedoWorld → RedoWorld
shutting_from shape l g z = record { world = record z.world { keeping = shutting shape g z.world.keeping }; dirty = z.dirty; checkpoint = shuts l g }

-- Nothing is under way; each partition's gates are of its own records, and what the lists have may be closed at once.
pub record MayShut (shape : Shape) (base : Words) (s : State) (chains : ℕ → List ℕ) (z : RedoWorld) (g : Group) : Type 0 where
  pub none_made : (p : ℕ) → g.made p ≡ 0
  pub run : (p : ℕ) → p < shape.partitions → z.world.keeping.runs p ≡ resting
  pub under : (p : ℕ) → p < shape.partitions → z.world.under p ≡ nothing
  pub can : (p : ℕ) → p < shape.partitions → CanRun shape p base s (chains p) (shutting_part g p)
  pub group : IsGroup s.log (IsInGroup shape g)

abbrev pub GroupsBegin : Type 0
GroupsBegin = (shape : Shape) (base : Words) (s : State) (chains : ℕ → List ℕ) (start : Words) (z : RedoWorld) (region : Region) (l : ℕ) (g : Group) →
    z.checkpoint ≡ zeroed l → MayShut shape base s chains z g → IsRedoWorldAt shape base s chains start z region →
    IsRedoWorldAt shape base s chains start (shutting_from shape l g z) region

-- one event more is made in partition p
abbrev pub one_made : ℕ → Group → Group
one_made p g = record g { made = λ q. if q == p then suc (g.made q) else g.made q }

abbrev pub shut_on : ℕ → ℕ → Group → RedoWorld → RedoWorld
shut_on l p g z = record { world = record z.world { keeping = advanced p z.world.keeping }; dirty = z.dirty; checkpoint = shuts l (one_made p g) }

-- The next gate of a partition is closed. The gates of several partitions may come in any order.
abbrev pub GatesAreShut : Type 0
GatesAreShut = (shape : Shape) (base : Words) (s : State) (chains : ℕ → List ℕ) (start : Words) (z : RedoWorld) (region : Region) (l p a : ℕ) (g : Group) →
    z.checkpoint ≡ shuts l g → p < shape.partitions → slice_get (g.gates p) (g.made p) ≡ Some a → IsRedoWorldAt shape base s chains start z region →
    IsRedoWorldAt shape base s chains start (shut_on l p g z) (after region l (PStore a 0))

-- the words behind it
abbrev pub base_shut : Shape → Group → Words → Words
base_shut shape g base a = if is_in (all_gates shape g) a then 0 else base a

-- the keeper behind it
abbrev pub shut_keeping : Shape → Group → Keeping → Keeping
shut_keeping shape g k = record {
  ledger = without (all_gates shape g) [] [] k.ledger;
  runs = λ q. if nat_lt q shape.partitions then resting else k.runs q;
  holder = k.holder;
}

-- A transaction that has ended, and that its lane still has, keeps the gifts whose deletions aren't closed.
abbrev pub shut_txn : List ℕ → Txn → Txn
shut_txn gates x = record x { gifts = if x.over then gifts_left gates x.gifts else x.gifts }

abbrev pub shut_lanes : List ℕ → List Txn → List Txn
shut_lanes gates lanes = map (shut_txn gates) lanes

abbrev pub shut_behind : Shape → ℕ → Group → RedoWorld → RedoWorld
shut_behind shape l g z = record {
  world = record z.world { keeping = shut_keeping shape g z.world.keeping; lanes = shut_lanes (all_gates shape g) z.world.lanes };
  dirty = z.dirty;
  checkpoint = zeroed l;
}

-- Where all gates are closed its fence ends it, and the log has its records no more.
abbrev pub GroupsAreFenced : Type 0
GroupsAreFenced = (shape : Shape) (base : Words) (s : State) (chains : ℕ → List ℕ) (start : Words) (z : RedoWorld) (region : Region) (l : ℕ) (g : Group) → l < NOBODY →
    z.checkpoint ≡ shuts l g → ((p : ℕ) → p < shape.partitions → g.made p ≡ length (g.gates p)) →
    IsRedoWorldAt shape base s chains start z region →
    HasRedoLeft shape (base_shut shape g base) s chains start (shut_behind shape l g z) (after region l Fence) (left_open (all_gates shape g) [] [] s.log)

-- Where none of the gates is of a gift of such a transaction the lanes are as they were.
abbrev pub LanesAreShut : Type 0
LanesAreShut = (gates : List ℕ) (lanes : List Txn) →
    ((l : ℕ) (g : Gift) → (txn_at lanes l).over ≡ true → IsAmong (txn_at lanes l).gifts g → IsAmong gates g.gate → ⊥) → shut_lanes gates lanes ≡ lanes

-- ---- removals

abbrev pub ClearingsRemove : Type 0
ClearingsRemove = (shape : Shape) (base : Words) (s : State) (chains : ℕ → List ℕ) (start : Words) (z : RedoWorld) (region : Region) (l p : ℕ) (r : Remove) (made : ℕ) →
    z.checkpoint ≡ zeroed l → MayBeginPart shape base s chains (fold start z.world.history) z.world p (drops r made) → IsRedoWorldAt shape base s chains start z region →
    IsRedoWorldAt shape base s chains start (with_world (begun_part p (drops r made) z.world) z) region

-- an event of a removal that isn't its last
abbrev pub ClearingsGoOn : Type 0
ClearingsGoOn = (shape : Shape) (base : Words) (s : State) (chains : ℕ → List ℕ) (start : Words) (z : RedoWorld) (region : Region) (l p : ℕ) (e : Event) →
    z.checkpoint ≡ zeroed l → IsNextEvent shape z.world.keeping p e → (z.world.keeping.runs p).made + 1 < length (plan_in shape z.world.keeping p) →
    IsRedoWorldAt shape base s chains start z region → IsRedoWorldAt shape base s chains start (with_world (gone_on shape p z.world) z) (region_made z.world.keeping p e region)

-- ---- the end

-- its lane lets all latches go
abbrev pub checkpoint_over : Shape → RedoWorld → RedoWorld
checkpoint_over shape z = record { world = record z.world { keeping = all_latched NOBODY shape.partitions z.world.keeping }; dirty = z.dirty; checkpoint = none }

-- Where nothing is under way and no checkpoint record is left it is over.
abbrev pub CheckpointsEnd : Type 0
CheckpointsEnd = (shape : Shape) (base : Words) (s : State) (chains : ℕ → List ℕ) (start : Words) (z : RedoWorld) (region : Region) (l : ℕ) →
    z.checkpoint ≡ zeroed l → IsUnmarked s.log → ((p : ℕ) → p < shape.partitions → z.world.keeping.runs p ≡ resting) → IsRedoWorldAt shape base s chains start z region →
    IsRedoWorldAt shape base s chains start (checkpoint_over shape z) region
