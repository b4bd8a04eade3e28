-- Who holds a latch.
use Rattle.std.proofs.Common.{◌≡◌, ◌≢◌, ◌⊎◌, inl, inr, ℕ, ◌%◌, ◌<◌, ◌≤◌, true, false, ◌||◌, Result, Ok, Err, OnOk, IfErr, length, refl, sym, ap, ◌∙◌, subst, arith}
use Rattle.std.proofs.lemmas.Bool.Decides.{eqb_tells}
use Rattle.std.specs.Coded.{Coded-set, coded_bool}
use Rattle.std.proofs.Math.Logic.{∥∥₁_elim}
use Rattle.std.proofs.Props.{props}
use Rattle.persist_model.specs.Records.{Log}
use Rattle.persist_model.specs.Region.{Words, Region}
use Rattle.lane_traits.specs.Device.{Counts}
use Rattle.region_layout.specs.declared.layout.Layout.{Layout}
use Rattle.region_layout.specs.Layout.{layout_shape}
use Rattle.lane_types.specs.declared.call.Call.{Call}
use Rattle.lane_types.specs.Asks.{wanted}
use Rattle.lane_types.specs.Deeds.{Deeds}
use Rattle.lane_types.specs.Faces.{Base}
use Rattle.lane_book.specs.declared.book.Book.{Book}
use Rattle.lane_book.specs.declared.lane.Lane.{Lane}
use Rattle.lane_book.specs.declared.lane.Doing.{Doing}
use Rattle.lane_book.specs.FacesOf.{lane_at, idle_lane}
use Rattle.log_keeper.specs.declared.keeper.LogKeeper.{LogKeeper}
use Rattle.log_keeper.specs.Keeper.{keeping_of}
use Rattle.log_keeper.specs.Logged.{Keeping as Logging, plan_in}
use Rattle.log_keeper.specs.Parts.{Running}
use Rattle.history_laws.specs.UnderWay.{UnderWay, nothing}
use Rattle.txn_laws.specs.Txns.{Txn}
use Rattle.txn_state.specs.ReadLaws.{appends_in, clears_in}
use Rattle.txn_state.specs.Stages.{Stage, Free, Between, Leaving, Naming, Storing, Deleting, Securing, Opening, Undoing, TakingBack, Keeping, Ending, Closing, ClosingEnd, Dropping, Unbuilt, stage_at, stage_of}
use Rattle.txn_state.specs.States.{IsStateOf}
use Rattle.txn_state.specs.Ties.{IsCome}
use Rattle.txn_state.proofs.Holding.{holder_is, lane_is, under_here}
use Rattle.txn_core.specs.Latched.{HoldsLatch, HasMadeOne, HaveBegun, Latches, stop_told, same_stage, none_held, event_made, clearing, latch_free, is_latched}
use Rattle.txn_core.specs.Phases.{IsPhased}
use Rattle.txn_core.specs.States.{IsKept, HasWorld, start_of}
use Rattle.txn_core.proofs.AskedCalls.{rests}
use Rattle.txn_core.proofs.Facts.{few_lanes}
use Rattle.txn_core.specs.Latched.{IsSamePart}
use Rattle.txn_core.proofs.Latches.{part_of_lane}
use Rattle.txn_core.proofs.Latched.{some_bool, idle_unlatched, appends_or_clears, same_part}

-- something under way leaves these stages alone
busy_stage : (log : Log) (u : UnderWay) (x : Txn) (s : Stage) → IsCome log u x s → u ≢ nothing → is_latched s ≡ true
busy_stage log u x Free come busy = absurd (busy come.1)
busy_stage log u x Between come busy = absurd (busy come.rests)
busy_stage log u x Leaving come busy = absurd (busy come.between.rests)
busy_stage log u x Naming come busy = refl
busy_stage log u x Storing come busy = absurd (busy come.rests)
busy_stage log u x Deleting come busy = refl
busy_stage log u x Securing come busy = absurd (busy come.rests)
busy_stage log u x Opening come busy = refl
busy_stage log u x Undoing come busy = refl
busy_stage log u x TakingBack come busy = absurd (busy come.rests)
busy_stage log u x Keeping come busy = absurd (busy come.rests)
busy_stage log u x Ending come busy = refl
busy_stage log u x Closing come busy = refl
busy_stage log u x ClosingEnd come busy = refl
busy_stage log u x Dropping come busy = refl
busy_stage log u x Unbuilt come busy = absurd come

-- and a lane without a call is at none of them
some_call : {E : Type 0} (lane : Lane E) → is_latched (stage_of lane) ≡ true → lane.doing ≢ Doing.Nothing
some_call lane on none =
    let off : is_latched (stage_of lane) ≡ false = ap (λ d. is_latched (stage_at lane.phase lane.has_records lane.part d)) none ∙ idle_unlatched lane.phase in
    let wrong : true ≡ false = sym on ∙ off in absurd (cc)

module _ {E : Type 0} (layout : Layout) (start : Words) (book : Book E) (keeper : LogKeeper) (region : Region) (spare events : ℕ) (st : IsStateOf layout start book keeper region spare events)
    (p : ℕ) (lt : p < layout.partitions) (held : (keeping_of keeper).holder p ≢ 17) where
  some : st.w.keeping.holder p ≢ 17
  some is = held (sym (holder_is layout start book keeper region spare events st p) ∙ is)

  the_lane : (keeping_of keeper).holder p < length book.lanes.items
  the_lane = subst (λ n. (keeping_of keeper).holder p < n) st.tied.lanes
      (subst (λ n. n < length st.w.lanes) (holder_is layout start book keeper region spare events st p) (st.tied.held.lane p lt some))

  its_part : (keeping_of keeper).holder p % layout.partitions ≡ p
  its_part = subst (λ n. n % layout.partitions ≡ p) (holder_is layout start book keeper region spare events st p) (st.tied.held.here p lt some)

  its_stage : is_latched (stage_of (lane_at book ((keeping_of keeper).holder p))) ≡ true
  its_stage = busy_stage _ _ _ _ (lane_is layout start book keeper region spare events st ((keeping_of keeper).holder p) the_lane).come
      (λ rests. st.tied.held.busy p lt some
      (sym (ap st.w.under its_part)
      ∙ sym (under_here layout start book keeper region spare events st ((keeping_of keeper).holder p) the_lane (ap (keeping_of keeper).holder its_part)) ∙ rests))

  pub holds_latch : HoldsLatch layout book keeper p ((keeping_of keeper).holder p)
  holds_latch = record {
    lane = the_lane;
    here = its_part;
    call = some_call (lane_at book ((keeping_of keeper).holder p)) its_stage;
    latched = its_stage;
    left = subst (λ (k : Logging). (k.runs p).made < length (plan_in (layout_shape layout) k p)) st.tied.keeping (st.tied.held.unfinished p lt some);
  }

latch_prop : {E : Type 0} (layout : Layout) (book : Book E) (keeper : LogKeeper) (p l : ℕ) → IsProp (HoldsLatch layout book keeper p l)
latch_prop layout book keeper p l = hlevel props

pub latches_are_held : {E : Type 0} (deeds : Deeds E) (layout : Layout) (base : Base) (book : Book E) (keeper : LogKeeper) (region : Region) (spare : ℕ) (counts : Counts) →
    IsKept deeds layout base book keeper region spare counts → (p : ℕ) → p < layout.partitions → (keeping_of keeper).holder p ≢ 17 →
    HoldsLatch layout book keeper p ((keeping_of keeper).holder p)
latches_are_held deeds layout base book keeper region spare counts kept p lt held = ∥∥₁_elim kept (latch_prop layout book keeper p ((keeping_of keeper).holder p))
    (λ w. holds_latch layout (start_of layout base) book keeper region spare counts.events w.state p lt held)

-- ---- an event is made under it

by_stage : (s : Stage) (made : ℕ) → is_latched s ≡ true → (appends_in s ≡ true → 1 ≤ made) → ((appends_in s ≡ true) × (1 ≤ made)) ⊎ (clears_in s ≡ true)
by_stage s made on some = by (some_bool (appends_in s))
  where
    by : (appends_in s ≡ true) ⊎ (appends_in s ≡ false) → ((appends_in s ≡ true) × (1 ≤ made)) ⊎ (clears_in s ≡ true)
    by (inl appends) = inl (appends, some appends)
    by (inr off) = inr (sym (ap (λ b. b || clears_in s) off) ∙ on)

-- in a world that no step was told to have stopped
pub have_made_one : {E : Type 0} (deeds : Deeds E) (layout : Layout) (base : Base) (book : Book E) (keeper : LogKeeper) (region : Region) (spare : ℕ) (counts : Counts) →
    IsKept deeds layout base book keeper region spare counts → HaveBegun layout book keeper → book.stopped ≡ false → (p : ℕ) → p < layout.partitions → (keeping_of keeper).holder p ≢ 17 →
    HasMadeOne layout book keeper p ((keeping_of keeper).holder p)
have_made_one deeds layout base book keeper region spare counts kept begun running p lt held =
    let l = (keeping_of keeper).holder p in
    let latch = latches_are_held deeds layout base book keeper region spare counts kept p lt held in
    by_stage (stage_of (lane_at book l)) ((keeping_of keeper).runs p).made latch.latched
    (λ appends. subst (λ q. 1 ≤ ((keeping_of keeper).runs q).made) latch.here (begun running l latch.lane (ap (keeping_of keeper).holder latch.here) appends))

-- ---- a step keeps it

lane_latched : {E : Type 0} (deeds : Deeds E) (layout : Layout) (book : Book E) (keeper : LogKeeper) (region : Region) (spare : ℕ) (counts : Counts) (l : ℕ) →
    HasWorld deeds layout book keeper region spare counts → l < length book.lanes.items → (keeping_of keeper).holder (l % layout.partitions) ≡ l →
    is_latched (stage_of (lane_at book l)) ≡ true
lane_latched deeds layout book keeper region spare counts l world lt held = ∥∥₁_elim world (Coded-set coded_bool _ _) (λ w.
    subst (λ k. is_latched (stage_of (lane_at book k)) ≡ true) held
    (holds_latch layout (start_of layout w.0) book keeper region spare counts.events w.1.state (l % layout.partitions) (part_of_lane layout l)
    (λ none. (let few = few_lanes deeds layout book keeper region spare counts world in let n : 17 ≡ l = sym none ∙ held in omega (arith, few, n, lt)))).latched)

module _ {E : Type 0} (deeds : Deeds E) (layout : Layout) (book later : Book E) (keeper kept : LogKeeper) (region : Region) (spare : ℕ) (counts : Counts) (l : ℕ)
    (world : HasWorld deeds layout book keeper region spare counts) (count : length later.lanes.items ≡ length book.lanes.items)
    (others : (k : ℕ) → k ≢ l → lane_at later k ≡ lane_at book k) (running : book.stopped ≡ false) (was : HaveBegun layout book keeper) where
  there : (k : ℕ) → k < length later.lanes.items → k < length book.lanes.items
  there k lt = subst (λ n. k < n) count lt

  -- of another lane, in a partition that is the same
  beside_it : (k : ℕ) → k < length later.lanes.items → k ≢ l → IsSamePart keeper kept (k % layout.partitions) → (keeping_of kept).holder (k % layout.partitions) ≡ k →
      appends_in (stage_of (lane_at later k)) ≡ true → 1 ≤ ((keeping_of kept).runs (k % layout.partitions)).made
  beside_it k lt ne same held on = subst (λ (r : Running). 1 ≤ r.made) (sym same.run)
      (was running k (there k lt) (sym same.holder ∙ held) (sym (ap (λ (x : Lane E). appends_in (stage_of x)) (others k ne)) ∙ on))

  pub begins_keep : Latches layout book later keeper kept l → HaveBegun layout later kept
  begins_keep (stop_told told) off k lt held on = let wrong : true ≡ false = sym told ∙ off in absurd (cc)
  begins_keep (same_stage same stage) off k lt held on = elim (eqb_tells k l) [
    | inl e ↦ subst (λ (r : Running). 1 ≤ r.made) (sym (same_part keeper kept same (k % layout.partitions)).run)
        (was running k (there k lt) (sym (same_part keeper kept same (k % layout.partitions)).holder ∙ held)
        (subst (λ n. appends_in (stage_of (lane_at book n)) ≡ true) (sym e.1) (sym (ap appends_in stage) ∙ subst (λ n. appends_in (stage_of (lane_at later n)) ≡ true) e.1 on)))
    | inr ne ↦ beside_it k lt ne.1 (same_part keeper kept same (k % layout.partitions)) held on
  ]
  begins_keep (none_held same none) off k lt held on = elim (eqb_tells k l) [
    | inl e ↦ (let wrong : true ≡ false = sym (lane_latched deeds layout book keeper region spare counts l world (subst (λ n. n < length book.lanes.items) e.1 (there k lt))
        (subst (λ n. (keeping_of keeper).holder (n % layout.partitions) ≡ n) e.1 (sym (same_part keeper kept same (k % layout.partitions)).holder ∙ held))) ∙ none in absurd (cc))
    | inr ne ↦ beside_it k lt ne.1 (same_part keeper kept same (k % layout.partitions)) held on
  ]
  begins_keep (event_made beside made) off k lt held on = elim (eqb_tells (k % layout.partitions) (l % layout.partitions)) [
    | inl e ↦ subst (λ q. 1 ≤ ((keeping_of kept).runs q).made) (sym e.1) made
    | inr other ↦ beside_it k lt (λ e. other.1 (ap (λ n. n % layout.partitions) e)) (beside (k % layout.partitions) other.1) held on
  ]
  begins_keep (clearing beside mine clears) off k lt held on = elim (eqb_tells (k % layout.partitions) (l % layout.partitions)) [
    | inl e ↦ (let same : k ≡ l = sym held ∙ ap (keeping_of kept).holder e.1 ∙ mine in
        absurd (appends_or_clears (stage_of (lane_at later l)) (subst (λ n. appends_in (stage_of (lane_at later n)) ≡ true) same on) clears))
    | inr other ↦ beside_it k lt (λ e. other.1 (ap (λ n. n % layout.partitions) e)) (beside (k % layout.partitions) other.1) held on
  ]
  begins_keep (latch_free beside free) off k lt held on = elim (eqb_tells (k % layout.partitions) (l % layout.partitions)) [
    | inl e ↦ (let few = few_lanes deeds layout book keeper region spare counts world in
        let same : k ≡ 17 = sym held ∙ ap (keeping_of kept).holder e.1 ∙ free in let inside = there k lt in absurd (omega (arith, few, same, inside)))
    | inr other ↦ beside_it k lt (λ e. other.1 (ap (λ n. n % layout.partitions) e)) (beside (k % layout.partitions) other.1) held on
  ]

-- ---- and so does an ask

-- Nothing is begun: what the log has under way is as it was, and a lane that had no call holds no latch.
pub asks_begin : {E : Type 0} (deeds : Deeds E) (layout : Layout) (book later : Book E) (keeper kept : LogKeeper) (region : Region) (spare : ℕ) (counts : Counts) (l : ℕ) →
    HasWorld deeds layout book keeper region spare counts → length later.lanes.items ≡ length book.lanes.items → ((k : ℕ) → k ≢ l → lane_at later k ≡ lane_at book k) →
    later.stopped ≡ book.stopped → keeping_of kept ≡ keeping_of keeper → (stage_of (lane_at later l) ≡ stage_of (lane_at book l)) ⊎ (is_latched (stage_of (lane_at book l)) ≡ false) →
    HaveBegun layout book keeper → HaveBegun layout later kept
asks_begin deeds layout book later keeper kept region spare counts l world count others stopped same own was off k lt held on =
    subst (λ (n : Logging). 1 ≤ (n.runs (k % layout.partitions)).made) (sym same)
    (begins_keep deeds layout book later keeper keeper region spare counts l world count others (sym stopped ∙ off) was (by own) off k lt
    (sym (ap (λ (n : Logging). n.holder (k % layout.partitions)) same) ∙ held) on)
  where
    by : (stage_of (lane_at later l) ≡ stage_of (lane_at book l)) ⊎ (is_latched (stage_of (lane_at book l)) ≡ false) → Latches layout book later keeper keeper l
    by (inl stage) = same_stage refl stage
    by (inr none) = none_held refl none

-- an accepted call is of a lane that had none
pub asked_unlatched : {E : Type 0} (lane : Lane E) (call : Call E) → IsPhased lane → lane.phase ≡ wanted call → is_latched (stage_of lane) ≡ false
asked_unlatched lane call phased is =
    ap (λ d. is_latched (stage_at lane.phase lane.has_records lane.part d)) (rests lane call phased is) ∙ idle_unlatched lane.phase

pub either_answer : {A B : Type 0} {P R : Type 0} {Q : B → Type 0} (r : Result A B) → (P → R) → ((e : B) → Q e → R) → OnOk r P → IfErr r Q → R
either_answer (Ok x) f h p q = f p
either_answer (Err e) f h p q = h e q

-- ---- a world that begins

pub fresh_begun : {E : Type 0} (layout : Layout) (book : Book E) (keeper : LogKeeper) → ((l : ℕ) → lane_at book l ≡ idle_lane) → HaveBegun layout book keeper
fresh_begun layout book keeper idle off k lt held on =
    let wrong : true ≡ false = sym on ∙ ap (λ (x : Lane _). appends_in (stage_of x)) (idle k) in absurd (cc)

-- and one that a step was told to have stopped
pub stopped_begun : {E : Type 0} (layout : Layout) (book : Book E) (keeper : LogKeeper) → book.stopped ≡ true → HaveBegun layout book keeper
stopped_begun layout book keeper told off k lt held on = let wrong : true ≡ false = sym told ∙ off in absurd (cc)
