-- The beginning of a world: a region that is settled, with an empty log at rest.
use Rattle.std.specs.Prelude.{◌≡◌, ◌≢◌, ℕ, ◌+◌, ◌*◌, ◌<◌, ◌≤◌, ◌^◌, List, []}
use Rattle.persist_model.specs.Region.{Words, Region, MayStand, AreSettled}
use Rattle.persist_model.specs.Shape.{Shape, shape_of, log_words, heap_words, IsShape}
use Rattle.persist_model.specs.Chain.{view}
use Rattle.persist_model.specs.State.{State, IsSoundState}
use Rattle.persist_model.specs.Sound.{HasState}
use Rattle.atomic_list.specs.Rules.{IsAtRest}
use Rattle.region_layout.specs.Layout.{IsAllowed}
use Rattle.log_keeper.specs.Starting.{starting}
use Rattle.history_laws.specs.UnderWay.{nothing}
use Rattle.txn_laws.specs.Txns.{idle_lanes}
use Rattle.txn_laws.specs.Worlds.{World, IsWorldAt}

-- All words are settled, at base, which is sound, without a record, and whose lists are at rest.
pub record IsStartingRegion (shape : Shape) (base : Words) (s : State) (chains : ℕ → List ℕ) (region : Region) : Type 0 where
  pub allowed : IsAllowed shape
  pub of_shape : shape_of base ≡ shape
  pub header : IsShape region.size base
  pub settled : AreSettled region
  pub words : MayStand base region
  pub has : HasState shape base s
  pub sound : IsSoundState shape s
  pub no_record : s.log ≡ []
  pub rest : (p : ℕ) → p < shape.partitions → IsAtRest shape p (view p (log_words shape base)) (chains p)

-- nothing is under way, and no lane has a transaction
abbrev pub fresh_world : ℕ → ℕ → World
fresh_world lanes next = record { keeping = starting []; next = next; under = λ p. nothing; lanes = idle_lanes lanes; history = [] }

-- The invariant holds there, with the heap of the region's words and no history.
abbrev pub WorldsStart : Type 0
WorldsStart = (shape : Shape) (base : Words) (s : State) (chains : ℕ → List ℕ) (lanes next : ℕ) (region : Region) → shape.policy ≢ 2 →
    next + shape.cells * (shape.buckets + shape.partitions) + 1 ≤ 2 ^ 63 → IsStartingRegion shape base s chains region →
    IsWorldAt shape base s chains (heap_words shape base) (fresh_world lanes next) region
