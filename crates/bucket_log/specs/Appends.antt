-- An append, from its conditions to what each image of each prefix is. w are the words of the partition's view.
use Rattle.std.specs.Prelude.{◌≡◌, ◌≢◌, ◌⊎◌, ℕ, ◌<◌, if◌then◌else◌, List, [], ◌∷◌, ◌++◌, map, length}
use Rattle.persist_model.specs.declared.event.Event.{Event}
use Rattle.persist_model.specs.Region.{Words, Region, MayStand, AreInside}
use Rattle.persist_model.specs.Progress.{Progress, start, advance_all, Reaches, AreSettledAt}
use Rattle.persist_model.specs.Runs.{progress_at, Run}
use Rattle.persist_model.specs.Records.{Record}
use Rattle.persist_model.specs.Shape.{Shape}
use Rattle.persist_model.specs.Chain.{view, out_event}
use Rattle.atomic_list.specs.Rules.{IsAtRest}
use Rattle.region_layout.specs.Layout.{IsAllowed}
use Rattle.bucket_log.specs.declared.append.Place.{Place}
use Rattle.bucket_log.specs.Words.{IsPartWord, KeepsLog, AddsToLog}
use Rattle.bucket_log.specs.Plans.{append_plan, place_address}
use Rattle.bucket_log.specs.Places.{IsPlace, IsNextPlace}

-- The partition's list is at rest, the place may take a record, and this record stands there with an open gate.
pub record CanAppend (shape : Shape) (p : ℕ) (w : Words) (chain : List ℕ) (place : Place) (r : Record) : Type 0 where
  pub at_rest : IsAtRest shape p w chain
  pub is_place : IsPlace shape p w chain place
  pub below : place.cell < shape.cells
  pub at : r.at ≡ place_address place
  pub gate : r.lsn ≢ 0

-- the next place of a list at rest takes any record that stands there
abbrev pub NextPlacesTake : Type 0
NextPlacesTake = (shape : Shape) (p : ℕ) (w : Words) (chain : List ℕ) (place : Place) (r : Record) →
    IsAtRest shape p w chain → IsNextPlace shape p w chain place → r.at ≡ place_address place → r.lsn ≢ 0 → CanAppend shape p w chain place r

-- v has the records before, or those and the new one with one cell less room
abbrev pub KeepsOrAdds : Shape → ℕ → Words → List ℕ → Record → Words → Type 0
KeepsOrAdds shape p w chain r v = KeepsLog shape p w chain v ⊎ AddsToLog shape p w chain r v

-- the events of the append on the region
abbrev pub region_append : Shape → ℕ → Place → Record → List Event
region_append shape p place r = map (out_event p) (append_plan shape.cells place r)

-- the chain behind an append: a fresh bucket is put behind it
abbrev pub chain_behind : Place → List ℕ → List ℕ
chain_behind place chain = if place.fresh then chain ++ place.bucket ∷ [] else chain

-- the progress of the view's words after the first k events of the append
abbrev pub appending : Shape → Words → Place → Record → ℕ → Progress
appending shape w place r k = progress_at w (append_plan shape.cells place r) k

-- what a whole append leaves
pub record AppendLeaves (shape : Shape) (p : ℕ) (z : Words) (chain : List ℕ) (r : Record) (progress : Progress) : Type 0 where
  pub nothing_pending : progress.pending ≡ []
  pub adds : AddsToLog shape p (view p z) chain r (view p progress.durable)
  pub others : (a : ℕ) → (IsPartWord shape p a → ⊥) → progress.durable a ≡ z a

-- ---- the laws. z are the region's words, settled in the partition's log.

-- at each prefix of an append each image has the records before, or those and the new one
abbrev pub EachAppendingImage : Type 0
EachAppendingImage = (shape : Shape) (p : ℕ) (z v : Words) (chain : List ℕ) (place : Place) (r : Record) (k : ℕ) →
    IsAllowed shape → p < shape.partitions → CanAppend shape p (view p z) chain place r →
    Reaches (IsPartWord shape p) (progress_at z (region_append shape p place r) k) v → KeepsOrAdds shape p (view p z) chain r (view p v)

-- the whole has the new one
abbrev pub AppendEnds : Type 0
AppendEnds = (shape : Shape) (p : ℕ) (z : Words) (chain : List ℕ) (place : Place) (r : Record) →
    IsAllowed shape → p < shape.partitions → CanAppend shape p (view p z) chain place r →
    AppendLeaves shape p z chain r (advance_all (start z) (region_append shape p place r))

-- the same of a region, with events of others on other words, and fences of others, in between
abbrev pub EachImageOfAppends : Type 0
EachImageOfAppends = (shape : Shape) (p lane : ℕ) (z i : Words) (chain : List ℕ) (place : Place) (r : Record) (k : ℕ) (before region : Region) →
    IsAllowed shape → p < shape.partitions → CanAppend shape p (view p z) chain place r →
    AreSettledAt (IsPartWord shape p) z before → Run (IsPartWord shape p) lane (region_append shape p place r) before k region →
    AreInside (IsPartWord shape p) region → MayStand i region → KeepsOrAdds shape p (view p z) chain r (view p i)

abbrev pub AppendsEnd : Type 0
AppendsEnd = (shape : Shape) (p lane : ℕ) (z : Words) (chain : List ℕ) (place : Place) (r : Record) (before region : Region) →
    IsAllowed shape → p < shape.partitions → CanAppend shape p (view p z) chain place r →
    AreSettledAt (IsPartWord shape p) z before → Run (IsPartWord shape p) lane (region_append shape p place r) before (length (region_append shape p place r)) region →
    AreSettledAt (IsPartWord shape p) (advance_all (start z) (region_append shape p place r)).durable region
    × AddsToLog shape p (view p z) chain r (view p (advance_all (start z) (region_append shape p place r)).durable)

-- Once all events of an append are made, the list is at rest with the chain behind the append, in all words that may be reached.
abbrev pub AppendsLeaveChains : Type 0
AppendsLeaveChains = (shape : Shape) (p : ℕ) (z v : Words) (chain : List ℕ) (place : Place) (r : Record) →
    IsAllowed shape → p < shape.partitions → CanAppend shape p (view p z) chain place r →
    Reaches (IsPartWord shape p) (progress_at z (region_append shape p place r) (length (region_append shape p place r))) v →
    IsAtRest shape p (view p v) (chain_behind place chain)
