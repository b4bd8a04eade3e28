-- What a stop leaves of a world of lanes.
use Rattle.std.specs.Prelude.{ℕ, List}
use Rattle.persist_model.specs.Region.{Words, Region, MayStand}
use Rattle.persist_model.specs.Shape.{Shape}
use Rattle.persist_model.specs.State.{State}
use Rattle.history_laws.specs.Stands.{StandsFor}
use Rattle.txn_laws.specs.Flights.{flight_of}
use Rattle.txn_laws.specs.Worlds.{World, IsWorldAt}

-- Each image stands for the history and those commits in flight that it has.
abbrev pub WorldsStand : Type 0
WorldsStand = (shape : Shape) (base : Words) (s : State) (chains : ℕ → List ℕ) (start : Words) (w : World) (region : Region) →
    IsWorldAt shape base s chains start w region → (i : Words) → MayStand i region → StandsFor region.size start w.history (flight_of w.lanes) i
