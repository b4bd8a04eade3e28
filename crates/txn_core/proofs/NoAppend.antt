-- Where a lane closes or takes out, no append is under way.
use Rattle.std.proofs.Common.{◌≡◌, ℕ, ◌%◌, ◌<◌, Bool, true, false, length, ◌∙◌, ap}
use Rattle.std.proofs.Math.Logic.{∥∥₁_elim}
use Rattle.persist_model.specs.Region.{Words, Region}
use Rattle.persist_model.specs.Records.{Log}
use Rattle.lane_traits.specs.Device.{Counts}
use Rattle.region_layout.specs.declared.cell.Cell.{Cell}
use Rattle.region_layout.specs.declared.layout.Layout.{Layout}
use Rattle.region_layout.specs.Layout.{layout_shape}
use Rattle.lane_types.specs.Deeds.{Deeds}
use Rattle.lane_book.specs.declared.book.Book.{Book}
use Rattle.lane_book.specs.FacesOf.{lane_at}
use Rattle.log_keeper.specs.declared.keeper.LogKeeper.{LogKeeper}
use Rattle.log_keeper.specs.Keeper.{keeping_of}
use Rattle.log_keeper.specs.Parts.{Running}
use Rattle.history_laws.specs.UnderWay.{UnderWay, run_of}
use Rattle.txn_laws.specs.Rooms.{is_append}
use Rattle.txn_laws.specs.Txns.{Txn}
use Rattle.txn_state.specs.Stages.{Stage, Free, Between, Leaving, Naming, Storing, Securing, Opening, Undoing, TakingBack, Keeping, Ending, Closing, ClosingEnd, Dropping, Unbuilt, stage_of, Deleting}
use Rattle.txn_state.specs.Ties.{under_of, IsCome}
use Rattle.txn_state.specs.States.{IsStateOf}
use Rattle.txn_state.specs.ReadLaws.{clears_in}
use Rattle.txn_state.proofs.Holding.{lane_is, run_here}
use Rattle.txn_core.specs.declared.advancing.Went.TheVariants as Went
use Rattle.txn_core.specs.Running.{stored as run_stored}
use Rattle.txn_core.specs.Advancing.{Advances, stored}
use Rattle.txn_core.specs.States.{HasWorld, start_of}

clears_no_append : (log : Log) (u : UnderWay) (x : Txn) (stage : Stage) → clears_in stage ≡ true → IsCome log u x stage → is_append (run_of u).part ≡ false
clears_no_append log u x Free on come = cc
clears_no_append log u x Between on come = cc
clears_no_append log u x Leaving on come = cc
clears_no_append log u x Naming on come = cc
clears_no_append log u x Storing on come = cc
clears_no_append log u x Securing on come = cc
clears_no_append log u x Opening on come = cc
clears_no_append log u x Undoing on come = cc
clears_no_append log u x TakingBack on come = cc
clears_no_append log u x Keeping on come = cc
clears_no_append log u x Ending on come = cc
clears_no_append log u x Closing on come = ap (λ (v : UnderWay). is_append (run_of v).part) come.under_way
clears_no_append log u x ClosingEnd on come = ap (λ (v : UnderWay). is_append (run_of v).part) come.under_way
clears_no_append log u x Dropping on come = ap (λ (v : UnderWay). is_append (run_of v).part) come.under_way
clears_no_append log u x Deleting on come = cc
clears_no_append log u x Unbuilt on come = absurd come

no_append : {E : Type 0} (layout : Layout) (start : Words) (book : Book E) (keeper : LogKeeper) (region : Region) (spare events l : ℕ) → l < length book.lanes.items →
    clears_in (stage_of (lane_at book l)) ≡ true → (keeping_of keeper).holder (l % layout.partitions) ≡ l → IsStateOf layout start book keeper region spare events →
    is_append ((keeping_of keeper).runs (l % layout.partitions)).part ≡ false
no_append layout start book keeper region spare events l lt on holder state =
    ap (λ (run : Running). is_append run.part) (run_here layout start book keeper region spare events state l lt holder)
    ∙ clears_no_append state.s.log (under_of (layout_shape layout) state.w l) _ (stage_of (lane_at book l)) on
    (lane_is layout start book keeper region spare events state l lt).come

both : (b : Bool) → b ≡ true → b ≡ false → ⊥
both b on off = cc

-- so no gate of a record is stored there
pub never_stored : {E : Type 0} (deeds : Deeds E) (layout : Layout) (book between : Book E) (keeper mid : LogKeeper) (region behind : Region) (spare left : ℕ) (counts after : Counts) (l : ℕ) (c : Cell) →
    l < length book.lanes.items → clears_in (stage_of (lane_at book l)) ≡ true → HasWorld deeds layout book keeper region spare counts →
    Advances deeds layout keeper mid region behind counts after spare left book between l (Went.Stored c) → ⊥
never_stored deeds layout book between keeper mid region behind spare left counts after l c lt on world (stored cell (run_stored e place d is counted over part made) pays) =
    ∥∥₁_elim world (λ x y. absurd x) (λ w. both (is_append ((keeping_of keeper).runs (l % layout.partitions)).part) (ap is_append part)
    (no_append layout (start_of layout w.0) book keeper region spare counts.events l lt on is.holder w.1.state))
