-- A world that begins, and what a stop leaves of it.
use Rattle.std.specs.Prelude.{◌≡◌, ℕ, [], length, map}
use Rattle.persist_model.specs.Region.{Words, Region, MayStand}
use Rattle.region_layout.specs.declared.layout.Layout.{Layout}
use Rattle.lane_types.specs.Faces.{Base}
use Rattle.lane_book.specs.declared.book.Book.{Book}
use Rattle.lane_book.specs.FacesOf.{lane_at, idle_lane}
use Rattle.lane_book.specs.Flights.{flights_of}
use Rattle.history_laws.specs.Stands.{StandsFor}
use Rattle.txn_state.specs.Ties.{plain_entry}
use Rattle.txn_core.specs.States.{start_of}

-- So many lanes have done nothing, and no commit is in the history or in flight.
pub record IsNew {E : Type 0} (lanes : ℕ) (book : Book E) : Type 0 where
  pub many : length book.lanes.items ≡ lanes
  pub idle : (l : ℕ) → lane_at book l ≡ idle_lane
  pub no_history : book.history.items ≡ []
  pub no_flight : flights_of book ≡ []

-- Each image stands for the history and those commits in flight that it has.
abbrev pub StandForCommits : {E : Type 0} → Layout → Base → Book E → Region → Type 0
StandForCommits layout base book region = (i : Words) → MayStand i region →
    ∥ StandsFor region.size (start_of layout base) (map plain_entry book.history.items) (map plain_entry (flights_of book)) i ∥₁
