-- What a recovery owes: what it makes of a sound image, what a stop in it leaves, and what it reports.
use Rattle.std.specs.Prelude.{◌≡◌, ◌≢◌, ℕ, ◌+◌, ◌*◌, ◌<◌, ◌≤◌, List, [], length, slice_index}
use Rattle.persist_model.specs.Region.{Words, Region, IsImage}
use Rattle.persist_model.specs.Records.{IsCommitted, IsLoser}
use Rattle.persist_model.specs.Shape.{Shape, shape_of, part_of, IsHeapWord}
use Rattle.persist_model.specs.State.{State, HasOpen, total_need}
use Rattle.persist_model.specs.Sound.{HasState, IsSound, StandsIn}
use Rattle.recovery_run.specs.Reached.{IsQuiet, HasFewBuckets}
use Rattle.recovery_analysis.specs.Analyses.{AreThose}

-- These words are sound and have been recovered: no gate is open, no recovery word asks for a repair, and each chain has at most one bucket.
pub record IsFinished (size : ℕ) (w : Words) : Type 0 where
  pub sound : IsSound size w
  pub empty : (s : State) → HasState (shape_of w) w s → s.log ≡ []
  pub quiet : (p : ℕ) → p < (shape_of w).partitions → IsQuiet p w
  pub few : (p : ℕ) → p < (shape_of w).partitions → HasFewBuckets (shape_of w) p w

-- each heap word of the later words has its standing value of w
abbrev pub Restores : Words → Words → Type 0
Restores w later = (a v : ℕ) → IsHeapWord (shape_of w) a → StandsIn w a v → later a ≡ v

-- each heap word has the same standing value
abbrev pub StandsAsIn : Words → Words → Type 0
StandsAsIn w later = (a v : ℕ) → IsHeapWord (shape_of w) a → StandsIn w a v → StandsIn later a v

-- each image of the region is sound, with the standing words of w
abbrev pub EachStands : Words → Region → Type 0
EachStands w region = (words : List ℕ) → IsImage words region → IsSound (length words) (slice_index words) × StandsAsIn w (slice_index words)

-- the committed and the running transactions of sound words
pub record AreFates (w : Words) (winners losers : List ℕ) : Type 0 where
  pub winners_are : (s : State) → HasState (shape_of w) w s → AreThose (IsCommitted s.log) winners
  pub losers_are : (s : State) → HasState (shape_of w) w s → AreThose (IsLoser s.log) losers

-- how many cells the recovery of an image needs: a checkpoint record is needed under no-force where a transaction runs, or has ended and isn't skipped
pub data HasNeed (shape : Shape) (s : State) (n : ℕ) : Type 0 where
  with_checkpoint : shape.policy ≡ 2 → HasOpen s.log → n ≡ total_need (part_of shape) shape.partitions s.log + 1 → HasNeed shape s n
  forced : shape.policy ≢ 2 → n ≡ total_need (part_of shape) shape.partitions s.log → HasNeed shape s n
  settled : (HasOpen s.log → ⊥) → n ≡ total_need (part_of shape) shape.partitions s.log → HasNeed shape s n

-- r records and a need of n take at most so many events
abbrev pub most_events : Shape → ℕ → ℕ → ℕ
most_events shape r n = 20 + 2 * r + (23 + shape.cells) * n + 7 * shape.buckets

-- so many events are within what the recovery of w may take
abbrev pub AreFew : Words → ℕ → Type 0
AreFew w events = (s : State) (n : ℕ) → HasState (shape_of w) w s → HasNeed (shape_of w) s n → events ≤ most_events (shape_of w) (length s.log) n
