-- What is under way in a partition of the log, and how far it has come.
use Rattle.std.specs.Prelude.{◌≡◌, ◌⊎◌, ℕ, List, []}
use Rattle.persist_model.specs.declared.event.Event.{Event}
use Rattle.persist_model.specs.Region.{Words}
use Rattle.persist_model.specs.Progress.{start, advance_all}
use Rattle.persist_model.specs.Records.{Record, Log, IsAmong, Has, IsDeletion}
use Rattle.persist_model.specs.Shape.{Shape, log_words, part_of}
use Rattle.persist_model.specs.Chain.{view}
use Rattle.persist_model.specs.State.{State}
use Rattle.atomic_list.specs.declared.plans.Remove.{Remove}
use Rattle.bucket_log.specs.declared.append.Place.{Place}
use Rattle.bucket_log.specs.Appends.{CanAppend, region_append}
use Rattle.log_clearing.specs.Plans.{closing_plan}
use Rattle.log_clearing.specs.Closed.{AreGroups}
use Rattle.log_clearing.specs.Removals.{CanDrop, region_removal}
use Rattle.log_keeper.specs.declared.slots.TheConstants.{NOBODY}

-- Nothing, the append of a record, a group of a closing (its gates, ends and checkpoint records, two of these lists empty), the closing of deletions
-- that running transactions take back (their gates), or a removal.
pub data LogPart : Type 0 where
  rests : LogPart
  appends : Place → Record → LogPart
  closes : List ℕ → List ℕ → List ℕ → LogPart
  takes_back : List ℕ → LogPart
  drops : Remove → LogPart

-- its events
abbrev pub plan_of : Shape → ℕ → LogPart → List Event
plan_of shape p rests = []
plan_of shape p (appends place r) = region_append shape p place r
plan_of shape p (closes gates ends checkpoints) = closing_plan gates ends checkpoints
plan_of shape p (takes_back gates) = closing_plan gates [] []
plan_of shape p (drops r) = region_removal p r

-- a part, and how many of its events were made
pub record Running : Type 0 where
  pub part : LogPart
  pub made : ℕ

-- The lane whose fences the partition's words wait for. Where nothing is under way it is none: there are at most 16 lanes.
abbrev pub waits_for : LogPart → ℕ → ℕ
waits_for rests lane = NOBODY
waits_for (appends place r) lane = lane
waits_for (closes gates ends checkpoints) lane = lane
waits_for (takes_back gates) lane = lane
waits_for (drops r) lane = lane

-- the words behind a whole part
abbrev pub words_behind : Shape → ℕ → LogPart → Words → Words
words_behind shape p part base = (advance_all (start base) (plan_of shape p part)).durable

abbrev pub IsListedGate : List ℕ → List ℕ → List ℕ → ℕ → Type 0
IsListedGate gates ends checkpoints a = IsAmong gates a ⊎ IsAmong ends a ⊎ IsAmong checkpoints a

-- these gates are of deletions
abbrev pub AreDeletions : Log → List ℕ → Type 0
AreDeletions log gates = (a : ℕ) → IsAmong gates a → Has (λ d. (d.at ≡ a) × IsDeletion d) log

-- The part may be made in the partition, whose settled words base are, with this chain; s are the settled records. A group, and what is
-- taken back, has gates of the partition's records alone.
abbrev pub CanRun : Shape → ℕ → Words → State → List ℕ → LogPart → Type 0
CanRun shape p base s chain rests = Unit {0}
CanRun shape p base s chain (appends place r) = CanAppend shape p (view p (log_words shape base)) chain place r
CanRun shape p base s chain (closes gates ends checkpoints) =
    AreGroups s.log gates ends checkpoints × ((a : ℕ) → IsListedGate gates ends checkpoints a → part_of shape a ≡ p)
CanRun shape p base s chain (takes_back gates) = AreDeletions s.log gates × ((a : ℕ) → IsAmong gates a → part_of shape a ≡ p)
CanRun shape p base s chain (drops r) = CanDrop shape p (view p (log_words shape base)) r
