-- Who holds a latch, what a step makes of the latches, and that an event is made under each.
use Rattle.log_keeper.specs.declared.slots.TheConstants.{NOBODY}
use Rattle.std.specs.Prelude.{◌≡◌, ◌≢◌, ◌⊎◌, ℕ, ◌%◌, ◌<◌, ◌≤◌, true, false, Bool, ◌||◌, length}
use Rattle.region_layout.specs.declared.layout.Layout.{Layout}
use Rattle.region_layout.specs.Layout.{layout_shape}
use Rattle.lane_book.specs.declared.book.Book.{Book}
use Rattle.lane_book.specs.declared.lane.Doing.{Doing}
use Rattle.lane_book.specs.FacesOf.{lane_at}
use Rattle.log_keeper.specs.declared.keeper.LogKeeper.{LogKeeper}
use Rattle.log_keeper.specs.Keeper.{keeping_of}
use Rattle.log_keeper.specs.Logged.{plan_in}
use Rattle.txn_state.specs.ReadLaws.{appends_in, clears_in}
use Rattle.txn_state.specs.Stages.{Stage, stage_of}

-- ---- who holds one

-- the stages in which a lane holds the latch of its partition, or waits for it
abbrev pub is_latched : Stage → Bool
is_latched s = appends_in s || clears_in s

-- The lane holds the latch of partition p, where it appends: its call in progress appends there, closes or takes out, and an event is left of what is
-- under way.
pub record HoldsLatch {E : Type 0} (layout : Layout) (book : Book E) (keeper : LogKeeper) (p l : ℕ) : Type 0 where
  pub lane : l < length book.lanes.items
  pub here : l % layout.partitions ≡ p
  pub call : (lane_at book l).doing ≢ Doing.Nothing
  pub latched : is_latched (stage_of (lane_at book l)) ≡ true
  pub left : ((keeping_of keeper).runs p).made < length (plan_in (layout_shape layout) (keeping_of keeper) p)

-- The call has made an event under the latch: one of the append that is under way; or all of its end's, behind which it closes or takes out.
abbrev pub HasMadeOne : {E : Type 0} → Layout → Book E → LogKeeper → ℕ → ℕ → Type 0
HasMadeOne layout book keeper p l =
    ((appends_in (stage_of (lane_at book l)) ≡ true) × (1 ≤ ((keeping_of keeper).runs p).made)) ⊎ (clears_in (stage_of (lane_at book l)) ≡ true)

-- ---- what is kept of them

-- Where no step was told that the device has stopped, each append that is begun has made an event.
abbrev pub HaveBegun : {E : Type 0} → Layout → Book E → LogKeeper → Type 0
HaveBegun layout book keeper = book.stopped ≡ false → (k : ℕ) → k < length book.lanes.items → (keeping_of keeper).holder (k % layout.partitions) ≡ k →
    appends_in (stage_of (lane_at book k)) ≡ true → 1 ≤ ((keeping_of keeper).runs (k % layout.partitions)).made

-- ---- what a step makes of them

-- In partition q neither the latch nor what is under way is another.
pub record IsSamePart (keeper kept : LogKeeper) (q : ℕ) : Type 0 where
  pub holder : (keeping_of kept).holder q ≡ (keeping_of keeper).holder q
  pub run : (keeping_of kept).runs q ≡ (keeping_of keeper).runs q

-- so it is in all but the lane's
abbrev pub AreSameBeside : Layout → LogKeeper → LogKeeper → ℕ → Type 0
AreSameBeside layout keeper kept l = (q : ℕ) → q ≢ l % layout.partitions → IsSamePart keeper kept q

-- The lane is told that the device has stopped; or the log is as it was, and the lane at its stage yet, or it held no latch; or of its partition alone
-- something is another: an event is made of what is under way there, the lane begins to close or goes on to the next part of it, or the latch is let go.
pub data Latches {E : Type 0} (layout : Layout) (book later : Book E) (keeper kept : LogKeeper) (l : ℕ) : Type 0 where
  stop_told : later.stopped ≡ true → Latches layout book later keeper kept l
  same_stage : kept ≡ keeper → stage_of (lane_at later l) ≡ stage_of (lane_at book l) → Latches layout book later keeper kept l
  none_held : kept ≡ keeper → is_latched (stage_of (lane_at book l)) ≡ false → Latches layout book later keeper kept l
  event_made : AreSameBeside layout keeper kept l → 1 ≤ ((keeping_of kept).runs (l % layout.partitions)).made → Latches layout book later keeper kept l
  clearing : AreSameBeside layout keeper kept l → (keeping_of kept).holder (l % layout.partitions) ≡ l → clears_in (stage_of (lane_at later l)) ≡ true →
      Latches layout book later keeper kept l
  latch_free : AreSameBeside layout keeper kept l → (keeping_of kept).holder (l % layout.partitions) ≡ NOBODY → Latches layout book later keeper kept l
