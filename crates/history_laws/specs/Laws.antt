-- Each image stands for the history and some of the flight.
use Rattle.std.specs.Prelude.{◌≡◌, ℕ, ◌<◌, List}
use Rattle.persist_model.specs.Region.{Words, Region, MayStand}
use Rattle.persist_model.specs.Shape.{Shape, shape_of, heap_words, IsShape}
use Rattle.persist_model.specs.State.{State}
use Rattle.log_keeper.specs.Logged.{Keeping, AreTracked, IsReached, IsLoggedAt}
use Rattle.history_laws.specs.Histories.{Entry, fold}
use Rattle.history_laws.specs.Stands.{StandsFor}
use Rattle.history_laws.specs.UnderWay.{UnderWay, run_of, runs_of}
use Rattle.history_laws.specs.Choices.{HasChoice}
use Rattle.history_laws.specs.Moments.{IsMoment}

-- Each image has a sound state whose log is the settled log with some of the stored records, and without some of those being closed, and
-- each heap word stands at its value behind the history and the commits in flight that are in that log.
abbrev pub ImagesHaveChoices : Type 0
ImagesHaveChoices = (shape : Shape) (base : Words) (s : State) (h : Words) (flight : List Entry) (under : ℕ → UnderWay) (i : Words) →
    IsMoment shape base s h flight under (heap_words shape i) → IsReached shape base (runs_of under) i → HasChoice shape under s h flight (heap_words shape i) shape.partitions i

-- So it stands for the history and some of the flight.
abbrev pub ImagesStand : Type 0
ImagesStand = (size : ℕ) (base : Words) (s : State) (start : Words) (history flight : List Entry) (under : ℕ → UnderWay) (i : Words) → IsShape size base →
    IsMoment (shape_of base) base s (fold start history) flight under (heap_words (shape_of base) i) → IsReached (shape_of base) base (runs_of under) i →
    StandsFor size start history flight i

-- So whatever a stop leaves of a region stands for the history and some of the flight, where what is asked holds with each image's heap words.
abbrev pub RegionsStand : Type 0
RegionsStand = (base : Words) (s : State) (start : Words) (history flight : List Entry) (under : ℕ → UnderWay) (holder : ℕ → ℕ) (region : Region) → IsShape region.size base →
    AreTracked (shape_of base) base (runs_of under) holder region →
    ((i : Words) → MayStand i region → IsMoment (shape_of base) base s (fold start history) flight under (heap_words (shape_of base) i)) →
    (i : Words) → MayStand i region → StandsFor region.size start history flight i

-- So it is for a region of the log's keeper, whose runs these are.
abbrev pub KeptRegionsStand : Type 0
KeptRegionsStand = (base : Words) (s : State) (chains : ℕ → List ℕ) (k : Keeping) (region : Region) (start : Words) (history flight : List Entry) (under : ℕ → UnderWay) →
    IsShape region.size base → IsLoggedAt (shape_of base) base s chains k region →
    ((p : ℕ) → p < (shape_of base).partitions → k.runs p ≡ run_of (under p)) →
    ((i : Words) → MayStand i region → IsMoment (shape_of base) base s (fold start history) flight under (heap_words (shape_of base) i)) →
    (i : Words) → MayStand i region → StandsFor region.size start history flight i
