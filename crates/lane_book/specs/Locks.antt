-- Who holds a structure.
use Rattle.std.specs.Prelude.{◌≡◌, ℕ, ◌+◌, ◌<◌, Bool, true, false, length, None}
use Rattle.lane_types.specs.Heaps.{has_bit}
use Rattle.lane_types.specs.declared.call.Reply.TheVariants.{Begun}
use Rattle.lane_types.specs.declared.call.Stepped.{Stepped}
use Rattle.lane_types.specs.declared.call.Stepped.TheVariants.{Answered, Waiting}
use Rattle.lane_types.specs.declared.call.What.TheVariants.{Structure}
use Rattle.lane_book.specs.declared.book.Book.{Book}
use Rattle.lane_book.specs.Lanes.{noted, begun_lane, with_lane}
use Rattle.lane_book.specs.FacesOf.{lane_at}

abbrev pub is_held_by : {E : Type 0} → Book E → ℕ → ℕ → Bool
is_held_by book l s = has_bit (lane_at book l).held s

-- no lane holds the structure
abbrev pub IsLoose : {E : Type 0} → Book E → ℕ → Type 0
IsLoose book s = (l : ℕ) → is_held_by book l s ≡ false

-- The structure is the least of the set that some lane holds, and the lane holds it.
pub record IsLeastHeld {E : Type 0} (book : Book E) (set structure lane : ℕ) : Type 0 where
  pub among : has_bit set structure ≡ true
  pub held : is_held_by book lane structure ≡ true
  pub least : (s : ℕ) → s < structure → has_bit set s ≡ true → IsLoose book s

-- no structure of the set is held
abbrev pub AreLoose : {E : Type 0} → Book E → ℕ → Type 0
AreLoose book set = (s : ℕ) → s < 8 → has_bit set s ≡ true → IsLoose book s

-- A begin takes all its structures, or waits for the least that is held.
pub data BeginEnds {E : Type 0} (book later : Book E) (lane set : ℕ) : Stepped → Type 0 where
  waits : (s holder : ℕ) → IsLeastHeld book set s holder →
      later ≡ with_lane book lane (noted (Waiting (Structure s) holder) (lane_at book lane)) None →
      BeginEnds book later lane set (Waiting (Structure s) holder)
  takes : AreLoose book set →
      later ≡ record (with_lane book lane (begun_lane book.next_transaction set (length book.history.items) (lane_at book lane)) None) {
        next_transaction = book.next_transaction + 1;
      } → BeginEnds book later lane set (Answered (Begun book.next_transaction))
