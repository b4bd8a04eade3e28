-- The plans of one partition, and what its own words decide.
use Rattle.std.specs.Prelude.{◌≡◌, ℕ, List}
use Rattle.persist_model.specs.Region.{Words}
use Rattle.persist_model.specs.Records.{Record, IsAmong}
use Rattle.persist_model.specs.Shape.{Shape, part_of}
use Rattle.persist_model.specs.State.{State}
use Rattle.persist_model.specs.Sound.{HasState}
use Rattle.atomic_list.specs.declared.plans.Remove.{Remove}
use Rattle.region_layout.specs.Layout.{IsAllowed}
use Rattle.bucket_log.specs.Words.{IsLogWord}
use Rattle.bucket_log.specs.PartWords.{AreOnPart}
use Rattle.log_clearing.specs.Plans.{closing_plan}
use Rattle.log_clearing.specs.Closed.{AreGroups, IsListed}
use Rattle.log_clearing.specs.Removals.{CanDrop, region_removal}

-- a removal stores to words of its partition alone
abbrev pub RemovalsAreOnPart : Type 0
RemovalsAreOnPart = (shape : Shape) (p : ℕ) (w : Words) (r : Remove) → CanDrop shape p w r → AreOnPart shape p (region_removal p r)

-- and so does a closing whose records stand in one partition
abbrev pub ClosingsAreOnPart : Type 0
ClosingsAreOnPart = (shape : Shape) (p : ℕ) (w : Words) (s : State) (gates ends checkpoints : List ℕ) → IsAllowed shape → HasState shape w s →
    AreGroups s.log gates ends checkpoints → ((r : Record) → IsAmong s.log r → IsListed gates ends checkpoints r → part_of shape r.at ≡ p) →
    AreOnPart shape p (closing_plan gates ends checkpoints)

-- views that agree on the partition's own words may drop the same buckets
abbrev pub OwnWordsDrop : Type 0
OwnWordsDrop = (shape : Shape) (p : ℕ) (w v : Words) (r : Remove) → ((a : ℕ) → IsLogWord shape p a → v a ≡ w a) → CanDrop shape p w r → CanDrop shape p v r
