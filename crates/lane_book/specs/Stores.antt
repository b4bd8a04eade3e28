-- What becomes of a lane when a word of its call is stored or taken back.
use Rattle.std.specs.Prelude.{◌≡◌, ℕ, ◌-◌, true, get_or}
use Rattle.lane_traits.specs.declared.draft.WordWrite.{WordWrite}
use Rattle.lane_types.specs.Faces.{Base}
use Rattle.lane_types.specs.Asks.{has_word}
use Rattle.lane_book.specs.declared.lane.Lane.{Lane}
use Rattle.lane_book.specs.declared.book.Book.{Book}
use Rattle.lane_book.specs.FacesOf.{lane_at}
use Rattle.lane_book.specs.Steps.{held_by}

abbrev pub no_write : WordWrite
no_write = record { address = 0; value = 0 }

-- the first of the lane's writes that isn't stored
abbrev pub next_write : {E : Type 0} → Lane E → WordWrite
next_write lane = get_or lane.writes.items lane.stored no_write

-- one write less stands in the device
abbrev pub unstored_one : {E : Type 0} → Lane E → Lane E
unstored_one lane = record lane { stored = lane.stored - 1 }

-- the lane holds the word of its next write
abbrev pub HoldsNext : {E : Type 0} → Book E → ℕ → Base → Type 0
HoldsNext book l base = has_word (held_by base book l) (next_write (lane_at book l)).address ≡ true
