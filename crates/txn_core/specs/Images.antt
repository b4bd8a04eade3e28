-- What a stop leaves of a world of lanes.
use Rattle.std.specs.Prelude.{ℕ, map}
use Rattle.persist_model.specs.Region.{Words, Region, MayStand}
use Rattle.region_layout.specs.declared.layout.Layout.{Layout}
use Rattle.lane_book.specs.declared.book.Book.{Book}
use Rattle.lane_book.specs.Flights.{flights_of}
use Rattle.log_keeper.specs.declared.keeper.LogKeeper.{LogKeeper}
use Rattle.history_laws.specs.Stands.{StandsFor}
use Rattle.txn_state.specs.Ties.{plain_entry}
use Rattle.txn_state.specs.States.{IsStateOf}
use Rattle.txn_core.specs.Phases.{ArePhased}
use Rattle.persist_model.specs.Records.{HasNo, IsOf}
use Rattle.persist_model.specs.Shape.{Shape}
use Rattle.persist_model.specs.State.{State, IsSoundState}
use Rattle.persist_model.specs.Sound.{HasState}
use Rattle.region_layout.specs.Layout.{layout_shape}
use Rattle.lane_types.specs.declared.call.Reply.TheVariants.{Committed, Aborted}
use Rattle.lane_types.specs.declared.call.Stepped.{Stepped}
use Rattle.lane_types.specs.declared.call.Stepped.TheVariants.{Moved, Answered, Waiting, Stopped, Idle}

-- Each image stands for the history and those commits in flight that it has.
abbrev pub ImagesStand : Type 0 → Type 0
ImagesStand E = (layout : Layout) (start : Words) (book : Book E) (keeper : LogKeeper) (region : Region) (spare events : ℕ) → ArePhased book →
    IsStateOf layout start book keeper region spare events → (i : Words) → MayStand i region →
    StandsFor region.size start (map plain_entry book.history.items) (map plain_entry (flights_of book)) i

-- The image is sound, and its log has no record of transaction t.
pub record HasNothingOf (shape : Shape) (t : ℕ) (i : Words) : Type 0 where
  pub state : State
  pub has : HasState shape i state
  pub sound : IsSoundState shape state
  pub none : HasNo (IsOf t) state.log

-- Behind the end of a transaction, whatever a stop leaves has no record of it.
abbrev pub LeavesNothing : Layout → ℕ → Region → Stepped → Type 0
LeavesNothing layout t region Moved = Unit {0}
LeavesNothing layout t region (Answered Committed) = (i : Words) → MayStand i region → ∥ HasNothingOf (layout_shape layout) t i ∥₁
LeavesNothing layout t region (Answered Aborted) = (i : Words) → MayStand i region → ∥ HasNothingOf (layout_shape layout) t i ∥₁
LeavesNothing layout t region (Answered _) = Unit {0}
LeavesNothing layout t region (Waiting what holder) = Unit {0}
LeavesNothing layout t region Stopped = Unit {0}
LeavesNothing layout t region Idle = Unit {0}
