-- The commits in flight: their end is in the log, and their entry hasn't joined the history.
use Rattle.std.specs.Prelude.{ℕ, ◌&&◌, Bool, true, false, if◌then◌else◌, List, [], ◌∷◌, ◌++◌, Option, None, option_to_list}
use Rattle.lane_types.specs.declared.face.Entry.{Entry}
use Rattle.lane_book.specs.declared.lane.Lane.{Lane}
use Rattle.lane_book.specs.declared.lane.Doing.{Doing}
use Rattle.lane_book.specs.declared.book.Book.{Book}
use Rattle.lane_book.specs.FacesOf.{lane_at}

abbrev pub is_commit : Doing → Bool
is_commit Doing.Commit = true
is_commit _ = false

-- the entry of the lane's commit, where its end is stored
abbrev pub flight_of : {E : Type 0} → Lane E → Option (Entry E)
flight_of lane = if lane.ended && is_commit lane.doing then lane.entry else None

abbrev pub flight_at : {E : Type 0} → Book E → ℕ → Option (Entry E)
flight_at book l = flight_of (lane_at book l)

-- those of these lanes, in order
abbrev pub flights_in : {E : Type 0} → List (Lane E) → List (Entry E)
flights_in [] = []
flights_in (lane ∷ lanes) = option_to_list (flight_of lane) ++ flights_in lanes

abbrev pub flights_of : {E : Type 0} → Book E → List (Entry E)
flights_of book = flights_in book.lanes.items
