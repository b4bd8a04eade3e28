-- All latches are taken at once, as for a checkpoint.
use Rattle.std.specs.Prelude.{◌≡◌, ℕ, ◌<◌, List}
use Rattle.persist_model.specs.Region.{Words, Region}
use Rattle.persist_model.specs.Shape.{Shape}
use Rattle.persist_model.specs.State.{State}
use Rattle.log_keeper.specs.Parts.{rests}
use Rattle.log_keeper.specs.Keeper.{all_latched}
use Rattle.txn_laws.specs.Worlds.{World, IsWorldAt}

-- One lane holds the latches of the first n partitions, where nothing is under way.
abbrev pub AllLatchesKeep : Type 0
AllLatchesKeep = (shape : Shape) (base : Words) (s : State) (chains : ℕ → List ℕ) (start : Words) (w : World) (region : Region) (lane n : ℕ) →
    ((p : ℕ) → p < n → (w.keeping.runs p).part ≡ rests) → IsWorldAt shape base s chains start w region →
    IsWorldAt shape base s chains start (record w { keeping = all_latched lane n w.keeping }) region
