-- What a lane has under way, by who holds its partition's latch.
use Rattle.std.proofs.Common.{◌≡◌, ◌≢◌, ℕ, ◌%◌, ◌<◌, ◌≤◌, true, [], length, inl, inr, refl, sym, ap, ◌∙◌, subst, arith}
use Rattle.std.proofs.lemmas.Bool.Decides.{eqb_tells}
use Rattle.std.proofs.Math.Nat.{mod-lt}
use Rattle.persist_model.specs.Region.{Words, Region}
use Rattle.persist_model.specs.Records.{Log}
use Rattle.persist_model.specs.Shape.{Shape}
use Rattle.region_layout.specs.declared.layout.Layout.{Layout}
use Rattle.region_layout.specs.Layout.{layout_shape}
use Rattle.lane_book.specs.declared.book.Book.{Book}
use Rattle.lane_book.specs.FacesOf.{lane_at}
use Rattle.log_keeper.specs.declared.keeper.LogKeeper.{LogKeeper}
use Rattle.log_keeper.specs.Keeper.{keeping_of}
use Rattle.log_keeper.specs.Ledger.{newest_log}
use Rattle.log_keeper.specs.Logged.{Keeping}
use Rattle.log_keeper.specs.Parts.{Running, plan_of}
use Rattle.history_laws.specs.UnderWay.{UnderWay, nothing, closes, drops, run_of}
use Rattle.txn_laws.specs.Txns.{Txn, txn_at}
use Rattle.txn_laws.specs.Worlds.{World}
use Rattle.txn_state.specs.Stages.{Stage, Free, Between, Leaving, Naming, Storing, Securing, Opening, Undoing, TakingBack, Keeping as Keeps, Ending, Closing, ClosingEnd, Dropping, Unbuilt, Deleting}
use Rattle.txn_state.specs.Ties.{under_of, IsCome, IsLaneOf}
use Rattle.txn_state.specs.Owing.{events_left}
use Rattle.txn_state.specs.States.{IsStateOf}
use Rattle.txn_state.specs.ReadLaws.{clears_in}

-- ---- by the latch

module _ (shape : Shape) (w : World) (l : ℕ) where
  pub under_held : w.keeping.holder (l % shape.partitions) ≡ l → under_of shape w l ≡ w.under (l % shape.partitions)
  under_held is = elim (eqb_tells (w.keeping.holder (l % shape.partitions)) l) [ inl e ↦ (rw e.0 refl) | inr off ↦ absurd (off.1 is) ]

  pub under_free : w.keeping.holder (l % shape.partitions) ≢ l → under_of shape w l ≡ nothing
  under_free ne = elim (eqb_tells (w.keeping.holder (l % shape.partitions)) l) [ inl e ↦ absurd (ne e.1) | inr off ↦ (rw off.0 refl) ]

  -- where something is, the lane holds the latch
  pub holds_it : under_of shape w l ≢ nothing → w.keeping.holder (l % shape.partitions) ≡ l
  holds_it some = elim (eqb_tells (w.keeping.holder (l % shape.partitions)) l) [ inl e ↦ e.1 | inr off ↦ absurd (some (under_free off.1)) ]

-- who clears has something under way
pub clears_some : (log : Log) (u : UnderWay) (x : Txn) (stage : Stage) → clears_in stage ≡ true → IsCome log u x stage → u ≢ nothing
clears_some log u x Free on come is = cc
clears_some log u x Between on come is = cc
clears_some log u x Leaving on come is = cc
clears_some log u x Naming on come is = cc
clears_some log u x Storing on come is = cc
clears_some log u x Securing on come is = cc
clears_some log u x Opening on come is = cc
clears_some log u x Undoing on come is = cc
clears_some log u x TakingBack on come is = cc
clears_some log u x Keeps on come is = cc
clears_some log u x Ending on come is = cc
clears_some log u x Closing on come is = let e : closes come.gates [] come.made ≡ nothing = sym come.under_way ∙ is in cc
clears_some log u x ClosingEnd on come is = let e : closes [] come.ends come.made ≡ nothing = sym come.under_way ∙ is in cc
clears_some log u x Dropping on come is = let e : drops come.removed come.made ≡ nothing = sym come.under_way ∙ is in cc
clears_some log u x Deleting on come is = cc
clears_some log u x Unbuilt on come is = absurd come

-- an event is left of what is under way
pub left_here : (shape : Shape) (p : ℕ) (u : UnderWay) (run : Running) → run ≡ run_of u → run.made < length (plan_of shape p run.part) → 1 ≤ events_left shape p u
left_here shape p u run is more =
    let there = subst (λ (r : Running). r.made < length (plan_of shape p r.part)) is more in omega (arith, there)

-- ---- in a state

module _ {E : Type 0} (layout : Layout) (start : Words) (book : Book E) (keeper : LogKeeper) (region : Region) (spare events : ℕ) (st : IsStateOf layout start book keeper region spare events) where
  pub holder_is : (p : ℕ) → st.w.keeping.holder p ≡ (keeping_of keeper).holder p
  holder_is p = ap (λ (k : Keeping). k.holder p) st.tied.keeping

  pub run_is : (p : ℕ) → p < layout.partitions → (keeping_of keeper).runs p ≡ run_of (st.w.under p)
  run_is p lt = sym (ap (λ (k : Keeping). k.runs p) st.tied.keeping) ∙ (st.world.parts p lt).run

  module _ (l : ℕ) (lt : l < length book.lanes.items) where
    pub lane_is : IsLaneOf layout book.blocks st.s.log (newest_log st.w.keeping.ledger) (under_of (layout_shape layout) st.w l) (l % layout.partitions) (lane_at book l) (txn_at st.w.lanes l)
    lane_is = st.tied.each l (subst (λ n. l < n) (sym st.tied.lanes) lt)

    pub few : l < 16
    few = let most = st.is_book.few in omega (arith, lt, most)

    pub inside : l % layout.partitions < layout.partitions
    inside = mod-lt l layout.partitions_within.0

    pub nothing_here : (keeping_of keeper).holder (l % layout.partitions) ≡ 17 → under_of (layout_shape layout) st.w l ≡ nothing
    nothing_here free = under_free (layout_shape layout) st.w l (λ is. (let f = few in let n : 17 ≡ l = sym free ∙ sym (holder_is (l % layout.partitions)) ∙ is in omega (arith, f, n)))

    pub under_here : (keeping_of keeper).holder (l % layout.partitions) ≡ l → under_of (layout_shape layout) st.w l ≡ st.w.under (l % layout.partitions)
    under_here is = under_held (layout_shape layout) st.w l (holder_is (l % layout.partitions) ∙ is)

    -- the run in the keeper is what it has under way
    pub run_here : (keeping_of keeper).holder (l % layout.partitions) ≡ l → (keeping_of keeper).runs (l % layout.partitions) ≡ run_of (under_of (layout_shape layout) st.w l)
    run_here is = run_is (l % layout.partitions) inside ∙ ap run_of (sym (under_here is))

    not_free : st.w.keeping.holder (l % layout.partitions) ≡ l → st.w.keeping.holder (l % layout.partitions) ≢ 17
    not_free is free = let f = few in let n : 17 ≡ l = sym free ∙ is in omega (arith, f, n)

    pub some_here : (keeping_of keeper).holder (l % layout.partitions) ≡ l → under_of (layout_shape layout) st.w l ≢ nothing
    some_here is none = st.tied.held.busy (l % layout.partitions) inside (not_free (holder_is (l % layout.partitions) ∙ is)) (sym (under_here is) ∙ none)

    -- who has something under way has an event left of it
    pub more_here : under_of (layout_shape layout) st.w l ≢ nothing → 1 ≤ events_left (layout_shape layout) (l % layout.partitions) (under_of (layout_shape layout) st.w l)
    more_here some =
        let is = holds_it (layout_shape layout) st.w l some in
        left_here (layout_shape layout) (l % layout.partitions) (under_of (layout_shape layout) st.w l) (st.w.keeping.runs (l % layout.partitions))
        ((st.world.parts (l % layout.partitions) inside).run ∙ ap run_of (sym (under_held (layout_shape layout) st.w l is)))
        (st.tied.held.unfinished (l % layout.partitions) inside (not_free is))
