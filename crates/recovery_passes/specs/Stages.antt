-- What the stages of a recovery share.
use Rattle.std.specs.Prelude.{◌≡◌, ℕ, ◌<◌, ◌≤◌, List}
use Rattle.persist_model.specs.Region.{Region}
use Rattle.persist_model.specs.Records.{IsAmong}
use Rattle.persist_model.specs.Shape.{Shape, heap, words_of_shape}
use Rattle.persist_model.specs.State.{State}
use Rattle.log_laws.specs.Recovery.{HasDecidingRecord}
use Rattle.lane_traits.specs.declared.device.Done.{Done}
use Rattle.lane_traits.specs.declared.device.Done.TheVariants.{Made}
use Rattle.lane_traits.specs.Device.{Counts}
use Rattle.recovery_run.specs.Reached.{newest_at, IsQuiet, HasFewBuckets}
use Rattle.recovery_analysis.specs.declared.changing.Change.{Change}

-- no recovery word of any partition asks for a repair
abbrev pub AreQuiet : Shape → Region → Type 0
AreQuiet shape region = (q : ℕ) → q < shape.partitions → IsQuiet q (newest_at region)

-- no chain has more than one bucket
abbrev pub AreShort : Shape → Region → Type 0
AreShort shape region = (q : ℕ) → q < shape.partitions → HasFewBuckets shape q (newest_at region)

-- no event was made, and no stop came
pub record IsIdle (done : Done) (before later : Region) (counts later_counts : Counts) : Type 0 where
  pub made : done ≡ Made
  pub cells : later ≡ before
  pub same : later_counts ≡ counts

-- each value is for a heap word whose standing value a record decides
pub record MayStore (shape : Shape) (y : State) (changes : List Change) : Type 0 where
  pub above : (c : Change) → IsAmong changes c → heap shape ≤ c.word
  pub below : (c : Change) → IsAmong changes c → c.word < words_of_shape shape
  pub covered : (c : Change) → IsAmong changes c → HasDecidingRecord shape.policy y.log c.word
