-- No lane has a call in progress that isn't built.
use Rattle.std.proofs.Common.{◌≡◌, ℕ, ◌<◌, length, sym, ap, ◌∙◌, subst, arith}
use Rattle.std.proofs.Math.Logic.{∥∥₁_elim}
use Rattle.persist_model.specs.Region.{Region}
use Rattle.lane_traits.specs.Device.{Counts}
use Rattle.region_layout.specs.declared.layout.Layout.{Layout}
use Rattle.region_layout.specs.Layout.{layout_shape}
use Rattle.lane_types.specs.Deeds.{Deeds}
use Rattle.lane_book.specs.declared.book.Book.{Book}
use Rattle.lane_book.specs.declared.lane.Doing.{Doing}
use Rattle.lane_book.specs.FacesOf.{lane_at}
use Rattle.log_keeper.specs.declared.keeper.LogKeeper.{LogKeeper}
use Rattle.txn_laws.specs.Txns.{txn_at}
use Rattle.txn_state.specs.Stages.{Stage, Unbuilt, stage_at}
use Rattle.txn_state.specs.Ties.{IsCome, under_of, due_by}
use Rattle.txn_core.specs.States.{HasWorld}

pub unbuilt_never : {E : Type 0} (deeds : Deeds E) (layout : Layout) (book : Book E) (keeper : LogKeeper) (region : Region) (spare : ℕ) (counts : Counts) (l : ℕ) (doing : Doing) → l < length book.lanes.items →
    (lane_at book l).doing ≡ doing → stage_at (lane_at book l).phase (lane_at book l).has_records (lane_at book l).part doing ≡ Unbuilt →
    HasWorld deeds layout book keeper region spare counts → ⊥
unbuilt_never deeds layout book keeper region spare counts l doing lt is unbuilt world = ∥∥₁_elim world (λ a. absurd a) (λ y.
    subst (λ (s : Stage). IsCome y.1.state.s.log (under_of (layout_shape layout) y.1.state.w l) (txn_at y.1.state.w.lanes l) s)
    (ap (stage_at (lane_at book l).phase (lane_at book l).has_records (lane_at book l).part) is ∙ unbuilt)
    (y.1.state.tied.each l (subst (λ n. l < n) (sym y.1.state.tied.lanes) lt)).come)

-- For now no lane gives.
pub give_never : {E : Type 0} (deeds : Deeds E) (layout : Layout) (book : Book E) (keeper : LogKeeper) (region : Region) (spare : ℕ) (counts : Counts) (l k : ℕ) → l < length book.lanes.items →
    (lane_at book l).doing ≡ Doing.Give k → HasWorld deeds layout book keeper region spare counts → ⊥
give_never deeds layout book keeper region spare counts l k lt is world = ∥∥₁_elim world (λ a. absurd a) (λ y.
    let told = (y.1.state.tied.each l (subst (λ n. l < n) (sym y.1.state.tied.lanes) lt)).counts in
    let due = ap due_by is in
    let none = ap length (y.1.lawful.no_gives l) in
    omega (arith, told, due, none))
