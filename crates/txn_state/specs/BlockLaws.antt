-- A block stands otherwise.
use Rattle.std.specs.Prelude.{◌≡◌, ◌⊎◌, ℕ, ◌<◌, false, length}
use Rattle.persist_model.specs.Region.{Words, Region}
use Rattle.persist_model.specs.Records.{IsAmong}
use Rattle.region_layout.specs.declared.layout.Layout.{Layout}
use Rattle.offset_alloc.specs.declared.Standing.{Standing}
use Rattle.lane_book.specs.declared.book.Book.{Book}
use Rattle.lane_book.specs.FacesOf.{lane_at}
use Rattle.lane_book.specs.Refusals.{is_mine}
use Rattle.log_keeper.specs.declared.keeper.LogKeeper.{LogKeeper}
use Rattle.txn_state.specs.States.{IsStateOf}
use Rattle.txn_state.specs.Changes.{with_block}

-- no lane has the block,
abbrev pub IsNoLanes : {E : Type 0} → Book E → ℕ → Type 0
IsNoLanes book k = (l : ℕ) → l < length book.lanes.items → is_mine book.blocks (lane_at book l) k ≡ false

-- or gave it
abbrev pub IsUngiven : {E : Type 0} → Book E → ℕ → Type 0
IsUngiven book k = (l : ℕ) → l < length book.lanes.items → IsAmong (lane_at book l).gives.items k → ⊥

-- A block that no lane has, since the lane that took it is out or the lane that has its structure gave it, is pending from then on, and free where no lane
-- gave it.
abbrev pub BlocksGo : Type 0 → Type 0
BlocksGo E = (layout : Layout) (start : Words) (book : Book E) (keeper : LogKeeper) (region : Region) (spare events k : ℕ) (standing : Standing) →
    IsNoLanes book k → (standing ≡ Standing.Pending) ⊎ ((standing ≡ Standing.Free) × IsUngiven book k) →
    IsStateOf layout start book keeper region spare events → IsStateOf layout start (with_block k standing book) keeper region spare events
