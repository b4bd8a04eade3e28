-- The states that an image may have: the settled log with some of the records under way, and without some of those that are being closed.
use Rattle.std.specs.Prelude.{◌≡◌, ◌⊎◌, ℕ, ◌+◌, ◌<◌, ◌≤◌, List}
use Rattle.persist_model.specs.Region.{Words}
use Rattle.persist_model.specs.Records.{Record, IsAmong, HasNo, IsOf, IsEnd, IsRunning}
use Rattle.persist_model.specs.Shape.{Shape, part_of, IsHeapWord}
use Rattle.persist_model.specs.Standing.{Stands}
use Rattle.persist_model.specs.Need.{need_in}
use Rattle.persist_model.specs.State.{State, IsSoundState}
use Rattle.persist_model.specs.Sound.{HasState}
use Rattle.plan_records.specs.Courses.{own_records}
use Rattle.history_laws.specs.Histories.{Entry, value_behind}
use Rattle.history_laws.specs.Stands.{kept_of}
use Rattle.history_laws.specs.UnderWay.{UnderWay, IsAddedIn, IsClosedIn, IsUnderWayIn}

-- Of the first n partitions x has some of the records under way beyond s, and lacks some that are being closed. A transaction without a
-- record under way there has its records as in s while it runs, and the other partitions have as much room and need no more.
pub record IsChosen (shape : Shape) (under : ℕ → UnderWay) (n : ℕ) (s x : State) : Type 0 where
  pub from : (r : Record) → IsAmong x.log r → IsAmong s.log r ⊎ (q : ℕ) × (q < n) × IsAddedIn shape q (under q) r × (part_of shape r.at ≡ q)
  pub stays : (r : Record) → IsAmong s.log r → IsAmong x.log r ⊎ (q : ℕ) × (q < n) × IsClosedIn (under q) r × (part_of shape r.at ≡ q)
  pub whole : (e : Record) → IsAmong s.log e → IsEnd e → IsAmong x.log e ⊎ HasNo (IsOf e.transaction) x.log
  pub own : (t : ℕ) → IsRunning s.log t → ((q : ℕ) (r : Record) → q < n → IsUnderWayIn shape s.log q (under q) r → IsOf t r → ⊥) → own_records t x.log ≡ own_records t s.log
  pub need : (q : ℕ) → n ≤ q → need_in (part_of shape) q x.log ≤ need_in (part_of shape) q s.log
  pub room : (q : ℕ) → n ≤ q → s.room q ≤ x.room q
  pub spare : shape.policy ≡ 2 → need_in (part_of shape) 0 x.log + 1 ≤ x.room 0

-- The words w have such a state, which is sound, and with these heap words each word stands at its value behind the history, which is h, and
-- those entries of the flight that are committed in it.
pub record HasChoice (shape : Shape) (under : ℕ → UnderWay) (s : State) (h : Words) (flight : List Entry) (heap : Words) (n : ℕ) (w : Words) : Type 0 where
  pub state : State
  pub has : HasState shape w state
  pub sound : IsSoundState shape state
  pub chosen : IsChosen shape under n s state
  pub standing : (a : ℕ) → IsHeapWord shape a → Stands shape.policy state.log heap a (value_behind (kept_of state.log flight) a (h a))
