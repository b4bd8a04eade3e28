-- A lane that makes events is in a call.
use Rattle.std.proofs.Common.{◌≡◌, ℕ, Bool, true, refl}
use Rattle.persist_model.specs.Region.{Region}
use Rattle.lane_traits.specs.Device.{Counts}
use Rattle.region_layout.specs.declared.layout.Layout.{Layout}
use Rattle.lane_types.specs.declared.call.Phase.{Phase}
use Rattle.lane_types.specs.Deeds.{Deeds}
use Rattle.lane_book.specs.declared.lane.Doing.{Doing}
use Rattle.lane_book.specs.declared.book.Book.{Book}
use Rattle.lane_book.specs.Books.{is_asked}
use Rattle.lane_book.specs.FacesOf.{lane_at}
use Rattle.log_keeper.specs.declared.keeper.LogKeeper.{LogKeeper}
use Rattle.txn_state.specs.Stages.{stage_of, stage_at}
use Rattle.txn_state.specs.ReadLaws.{makes_events}
use Rattle.txn_core.specs.States.{HasWorld}
use Rattle.txn_core.proofs.Facts.{is_book}

idle_makes_none : (phase : Phase) (recorded : Bool) (part : ℕ) → makes_events (stage_at phase recorded part Doing.Nothing) ≡ true → is_asked Doing.Nothing ≡ true
idle_makes_none Phase.Out recorded part makes = cc
idle_makes_none Phase.In recorded part makes = cc
idle_makes_none Phase.Calling recorded part makes = cc

makes_asked : (phase : Phase) (recorded : Bool) (part : ℕ) (doing : Doing) → makes_events (stage_at phase recorded part doing) ≡ true → is_asked doing ≡ true
makes_asked phase recorded part Doing.Nothing makes = idle_makes_none phase recorded part makes
makes_asked phase recorded part (Doing.Begin set) makes = refl
makes_asked phase recorded part (Doing.Read a) makes = refl
makes_asked phase recorded part (Doing.Write a v) makes = refl
makes_asked phase recorded part (Doing.Take s block) makes = refl
makes_asked phase recorded part (Doing.Give block) makes = refl
makes_asked phase recorded part Doing.Commit makes = refl
makes_asked phase recorded part Doing.Abort makes = refl
makes_asked phase recorded part Doing.Checkpoint makes = refl
makes_asked phase recorded part (Doing.Batch n) makes = refl
makes_asked phase recorded part Doing.Savepoint makes = refl
makes_asked phase recorded part (Doing.RollbackTo n) makes = refl

pub is_calling : {E : Type 0} (deeds : Deeds E) (layout : Layout) (book : Book E) (keeper : LogKeeper) (region : Region) (spare : ℕ) (counts : Counts) (l : ℕ) →
    makes_events (stage_of (lane_at book l)) ≡ true → HasWorld deeds layout book keeper region spare counts → (lane_at book l).phase ≡ Phase.Calling
is_calling deeds layout book keeper region spare counts l makes world =
    let lane = lane_at book l in
    (is_book deeds layout book keeper region spare counts world l).calling (makes_asked lane.phase lane.has_records lane.part lane.doing makes)
