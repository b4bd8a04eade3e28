-- What a partition of the log sees of a region.
use Rattle.std.specs.Prelude.{◌≡◌, ◌⊎◌, ℕ, ◌<◌, List, length, map, slice_index}
use Rattle.std.specs.List.{range_with_len}
use Rattle.persist_model.specs.declared.event.Event.{Event}
use Rattle.persist_model.specs.declared.event.Event.TheVariants.{Store, PStore, WriteBack, Fence}
use Rattle.persist_model.specs.Region.{Words, Region, after}
use Rattle.persist_model.specs.Records.{Log}
use Rattle.persist_model.specs.Shape.{Shape}
use Rattle.persist_model.specs.Chain.{view, out_address, out_event}
use Rattle.persist_model.specs.Sound.{room_of}
use Rattle.atomic_list.specs.Rules.{IsList}
use Rattle.bucket_log.specs.Words.{IsLogWord}
use Rattle.bucket_log.specs.Scans.{IsLogIn}

-- the row of words that a partition sees
abbrev pub viewed : ℕ → List ℕ → List ℕ
viewed p words = map (view p (slice_index words)) (range_with_len 0 (length words))

-- the cells that a partition sees
abbrev pub viewed_cells : ℕ → Region → Region
viewed_cells p region = record { size = region.size; at = λ a. region.at (out_address p a) }

-- no list word of the partitions behind the first stands here
abbrev pub IsOutside : ℕ → Type 0
IsOutside a = (a < 21) ⊎ (30 < a)

abbrev pub NamesOutside : Event → Type 0
NamesOutside (Store a v) = IsOutside a
NamesOutside (PStore a v) = IsOutside a
NamesOutside (WriteBack a) = IsOutside a
NamesOutside Fence = Unit {0}

-- ---- the laws

-- an event made through the partition's addresses on the region is that event made on the view
abbrev pub ViewsShowEvents : Type 0
ViewsShowEvents = (p lane : ℕ) (region : Region) (e : Event) (a : ℕ) → p < 3 → NamesOutside e → IsOutside a →
    (viewed_cells p (after region lane (out_event p e))).at a ≡ (after (viewed_cells p region) lane e).at a

-- the second words have the first's list, records and room
pub record HasLogOf (shape : Shape) (p : ℕ) (w v : Words) : Type 0 where
  pub list : (chain : List ℕ) → IsList shape p w chain → IsList shape p v chain
  pub records : (chain : List ℕ) (log : Log) → IsList shape p w chain → IsLogIn shape.cells w chain log → IsLogIn shape.cells v chain log
  pub room : (chain : List ℕ) → IsList shape p w chain → room_of shape v p chain ≡ room_of shape w p chain

-- Views that agree on the partition's own words have the same log, whatever they show of other partitions: no own word is a list
-- word of another.
abbrev pub OwnWordsDecide : Type 0
OwnWordsDecide = (shape : Shape) (p : ℕ) (w v : Words) →
    ((a : ℕ) → IsLogWord shape p a → IsOutside a → v a ≡ w a) → HasLogOf shape p w v
