-- What a call that clears is asked behind the last event of its part.
use Rattle.std.proofs.Common.{◌≡◌, ◌⊎◌, inl, inr, ℕ, ◌%◌, ◌<◌, Bool, true, false, length, filter, List, [], ◌∷◌, Option, Some, None, refl, sym, ◌∙◌, ap, subst}
use Rattle.std.proofs.Math.Logic.{∥∥₁_map, ∥∥₁_elim}
use Rattle.std.proofs.Math.Nat.{ℕ_set}
use Rattle.std.specs.Coded.{×_prop, Unit-prop, le_prop}
use Rattle.persist_model.specs.Region.{Region}
use Rattle.lane_traits.specs.declared.draft.WordWrite.{WordWrite}
use Rattle.lane_traits.specs.Device.{Counts}
use Rattle.region_layout.specs.declared.layout.Layout.{Layout}
use Rattle.region_layout.specs.Layout.{layout_shape}
use Rattle.lane_types.specs.Deeds.{Deeds}
use Rattle.lane_types.specs.Faces.{Base}
use Rattle.lane_book.specs.declared.book.Book.{Book}
use Rattle.lane_book.specs.declared.lane.Lane.{Lane}
use Rattle.lane_book.specs.declared.lane.Doing.{Doing}
use Rattle.lane_book.specs.FacesOf.{lane_at, is_of}
use Rattle.lane_book.specs.Lanes.{with_lane, paid_event}
use Rattle.lane_book.specs.Steps.{HasEntered}
use Rattle.lane_book.specs.Books.{IsBook}
use Rattle.lane_book.specs.Calls.{IsCalling}
use Rattle.lane_book.specs.Refusals.{AreHeapWords}
use Rattle.log_keeper.specs.declared.keeper.LogKeeper.{LogKeeper}
use Rattle.log_keeper.specs.Parts.{rests, Running}
use Rattle.log_keeper.specs.Logged.{Keeping}
use Rattle.log_keeper.specs.Keeper.{keeping_of}
use Rattle.txn_state.specs.Stages.{Stage, ClosingEnd, Dropping, stage_of, is_commit}
use Rattle.txn_state.specs.ReadLaws.{clears_in, makes_events, appends_in}
use Rattle.txn_state.specs.Changes.{GoesTo}
use Rattle.txn_state.specs.ClosingLaws.{HasCleared}
use Rattle.txn_state.specs.Ties.{IsWrittenWord}
use Rattle.txn_state.proofs.Making.{made_ends}
use Rattle.txn_state.proofs.StageSteps.{EndsCall, commit, abort, call_at}
use Rattle.txn_core.specs.declared.advancing.Went.TheVariants as Went
use Rattle.txn_core.specs.Running.{whole as run_whole}
use Rattle.txn_core.specs.Advancing.{Advances, whole}
use Rattle.txn_core.specs.Phases.{IsPhased}
use Rattle.txn_core.specs.States.{IsWorld, HasWorld}
use Rattle.txn_core.proofs.Facts.{slots_are}
use Rattle.txn_core.proofs.Freeing.{each_of, in_heap}
use Rattle.txn_core.proofs.Calling.{is_calling}
use Rattle.txn_core.proofs.Paid.{lanes_paid}
use Rattle.txn_core.proofs.Ending.{paid_calls}
use Rattle.txn_core.proofs.Closings.{whole_pays}
use Rattle.txn_core.proofs.Stagings.{has_joined}
use Rattle.txn_core.proofs.Paying.{goes_lane}

-- ---- the call

ends_by : (recorded : Bool) (doing : Doing) (stage : Stage) → EndsCall recorded doing stage → (doing ≡ Doing.Commit) ⊎ (doing ≡ Doing.Abort)
ends_by recorded doing stage (commit on is has) = inl is
ends_by recorded doing stage (abort on is has) = inr is

pub cleared_clears : {E : Type 0} (lane : Lane E) → HasCleared lane → clears_in (stage_of lane) ≡ true
cleared_clears lane (inl at) = ap clears_in at
cleared_clears lane (inr at) = ap clears_in at

pub cleared_makes : {E : Type 0} (lane : Lane E) → HasCleared lane → makes_events (stage_of lane) ≡ true
cleared_makes lane (inl at) = ap makes_events at
cleared_makes lane (inr at) = ap makes_events at

pub cleared_own : {E : Type 0} (lane : Lane E) → HasCleared lane → appends_in (stage_of lane) ≡ false
cleared_own lane (inl at) = ap appends_in at
cleared_own lane (inr at) = ap appends_in at

-- it ends a transaction
ends_call : {E : Type 0} (lane : Lane E) → HasCleared lane → (lane.doing ≡ Doing.Commit) ⊎ (lane.doing ≡ Doing.Abort)
ends_call lane (inl at) = ends_by lane.has_records lane.doing ClosingEnd (call_at lane.phase lane.has_records lane.part lane.doing ClosingEnd at refl)
ends_call lane (inr at) = ends_by lane.has_records lane.doing Dropping (call_at lane.phase lane.has_records lane.part lane.doing Dropping at refl)

-- ---- the entry of a commit

none_by : {A : Type 0} (o : Option A) → ∥ o ≡ None ∥₁ → o ≡ None
none_by None some = refl
none_by (Some a) some = absurd (∥∥₁_elim some (λ x. absurd x) (λ is. let no : Some a ≡ None = is in cc))

-- it has joined the history
has_entered : {E : Type 0} (deeds : Deeds E) (layout : Layout) (book : Book E) (keeper : LogKeeper) (region : Region) (spare : ℕ) (counts : Counts) (l : ℕ) →
    (lane_at book l).doing ≡ Doing.Commit → HasCleared (lane_at book l) → IsPhased (lane_at book l) → HasWorld deeds layout book keeper region spare counts →
    HasEntered book l
has_entered deeds layout book keeper region spare counts l doing at phased world = record {
  entered = on;
  out = none_by (lane_at book l).entry (∥∥₁_map world (λ w. (joined w).out));
  mine = λ none. ∥∥₁_elim world (λ a. absurd a) (λ w. (joined w).mine none);
}
  where
    on : (lane_at book l).entered ≡ true
    on = has_joined (lane_at book l) (stage_of (lane_at book l)) doing refl (cleared_clears (lane_at book l) at) phased

    joined : (base : Base) × IsWorld deeds layout base book keeper region spare counts.events → HasEntered book l
    joined w = w.1.state.is_book.entries.joined l (ap is_commit doing) on

heap_words_prop : (layout : Layout) (writes : List WordWrite) → IsProp (AreHeapWords layout writes)
heap_words_prop layout [] = Unit-prop
heap_words_prop layout (w ∷ writes) = ×_prop (×_prop le_prop le_prop) (heap_words_prop layout writes)

-- ---- behind the event

module _ {E : Type 0} (deeds : Deeds E) (layout : Layout) (book between : Book E) (keeper mid : LogKeeper) (region behind : Region) (spare left : ℕ)
    (counts after : Counts) (l : ℕ) where
  -- the partition has a slot yet, and nothing is under way there
  pub slots_behind : Advances deeds layout keeper mid region behind counts after spare left book between l Went.Whole →
      HasWorld deeds layout book keeper region spare counts → length mid.slots.items ≡ layout.partitions
  slots_behind (whole (run_whole e is counted over made) pays) world = made.slots.count ∙ slots_are deeds layout book keeper region spare counts world

  pub rests_behind : Advances deeds layout keeper mid region behind counts after spare left book between l Went.Whole →
      ((keeping_of mid).runs (l % layout.partitions)).part ≡ rests
  rests_behind (whole (run_whole e is counted over made) pays) =
      ap (λ (k : Keeping). (k.runs (l % layout.partitions)).part) made.kept
      ∙ ap (λ (run : Running). run.part) (made_ends (layout_shape layout) (l % layout.partitions) (keeping_of keeper) over)

  module _ (went : Advances deeds layout keeper mid region behind counts after spare left book between l Went.Whole) (lt : l < length book.lanes.items)
      (at : HasCleared (lane_at book l)) where
    pays : between ≡ with_lane book l (paid_event (lane_at book l)) book.touched
    pays = whole_pays deeds layout keeper mid region behind counts after spare left book between l went

    goes : GoesTo book between l (paid_event (lane_at book l))
    goes = goes_lane book between l (paid_event (lane_at book l)) book.touched lt pays

    same_doing : (lane_at between l).doing ≡ (lane_at book l).doing
    same_doing = ap (λ (x : Lane _). x.doing) goes.lanes.here

    -- the lane's writes are of heap words, and the blocks are the layout's
    pub writes_behind : HasWorld deeds layout book keeper region spare counts → AreHeapWords layout (lane_at between l).writes.items
    writes_behind world = subst (λ (x : Lane _). AreHeapWords layout x.writes.items) (sym goes.lanes.here)
        (∥∥₁_elim world (heap_words_prop layout (lane_at book l).writes.items) (λ y. in_heap layout (lane_at book l).writes.items
        (each_of (λ (w : WordWrite). IsWrittenWord (layout_shape layout) w.address) (lane_at book l).writes.items
        (y.1.state.tied.each l (subst (λ n. l < n) (sym y.1.state.tied.lanes) lt)).written_words)))

    pub blocks_behind : HasWorld deeds layout book keeper region spare counts → length between.blocks ≡ layout.blocks
    blocks_behind world = ap (λ bs. length bs) goes.lanes.blocks ∙ ∥∥₁_elim world (ℕ_set _ _) (λ y. y.1.state.is_book.blocks)

    -- the lane is in its call, which ends a transaction,
    pub calls_behind : HasWorld deeds layout book keeper region spare counts → IsBook between → IsCalling between l
    calls_behind world kept = record {
      inside = lanes_paid book between l pays lt;
      calling = paid_calls book between l lt pays (is_calling deeds layout book keeper region spare counts l (cleared_makes (lane_at book l) at) world);
      kept = kept;
    }

    pub ends_behind : ((lane_at between l).doing ≡ Doing.Commit) ⊎ ((lane_at between l).doing ≡ Doing.Abort)
    ends_behind = elim (ends_call (lane_at book l) at) [ inl is ↦ inl (same_doing ∙ is) | inr is ↦ inr (same_doing ∙ is) ]

    -- and a commit's entry has joined the history
    pub entered_behind : IsPhased (lane_at book l) → HasWorld deeds layout book keeper region spare counts → (lane_at between l).doing ≡ Doing.Commit →
        HasEntered between l
    entered_behind phased world doing =
        let was = has_entered deeds layout book keeper region spare counts l (sym same_doing ∙ doing) at phased world in record {
          entered = ap (λ (x : Lane _). x.entered) goes.lanes.here ∙ was.entered;
          out = ap (λ (x : Lane _). x.entry) goes.lanes.here ∙ was.out;
          mine = λ none. was.mine (ap (λ entries. filter (is_of l) entries.items) (sym goes.history) ∙ none);
        }
