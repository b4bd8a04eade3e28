-- What is owed to the calls in progress is there.
use Rattle.std.proofs.Common.{◌≡◌, ◌≢◌, ℕ, ◌%◌, ◌<◌, ◌≤◌, true, length, refl, sym, ◌∙◌, subst, arith}
use Rattle.persist_model.specs.Region.{Words, Region}
use Rattle.persist_model.specs.Records.{Log}
use Rattle.persist_model.specs.Shape.{Shape}
use Rattle.region_layout.specs.declared.layout.Layout.{Layout}
use Rattle.region_layout.specs.Layout.{layout_shape}
use Rattle.lane_book.specs.declared.book.Book.{Book}
use Rattle.lane_book.specs.FacesOf.{lane_at}
use Rattle.log_keeper.specs.declared.keeper.LogKeeper.{LogKeeper}
use Rattle.log_keeper.specs.Keeper.{keeping_of, free_places}
use Rattle.history_laws.specs.UnderWay.{UnderWay, nothing, appends}
use Rattle.txn_laws.specs.Txns.{Txn, txn_at}
use Rattle.txn_state.specs.Stages.{Stage, Free, Between, Leaving, Naming, Storing, Deleting, Securing, Opening, Undoing, TakingBack, Keeping, Ending, Closing, ClosingEnd, Dropping, Unbuilt, stage_of}
use Rattle.txn_state.specs.Ties.{under_of, IsCome, waits, appends_it}
use Rattle.txn_state.specs.Owing.{needs_at, records_noted, events_left, append_left}
use Rattle.txn_state.specs.States.{IsStateOf}
use Rattle.txn_state.specs.ReadLaws.{makes_events, appends_in, clears_in, HoldersAreBusy, EventsAreOwed, RecordsAreOwed}
use Rattle.txn_state.proofs.Sums.{summand_within}
use Rattle.txn_state.proofs.Holding.{clears_some, holds_it, holder_is, lane_is, nothing_here, more_here}

-- ---- what is wanted

events_wanted : (shape : Shape) (log : Log) (p n c : ℕ) (u : UnderWay) (x : Txn) (stage : Stage) → makes_events stage ≡ true → (u ≢ nothing → 1 ≤ events_left shape p u) →
    IsCome log u x stage → 1 ≤ (needs_at shape p n c u x stage).events
events_wanted shape log p n c u x Free on more come = cc
events_wanted shape log p n c u x Between on more come = cc
events_wanted shape log p n c u x Leaving on more come = cc
events_wanted shape log p n c u x Naming on more come = omega arith
events_wanted shape log p n c u x Storing on more come = omega arith
events_wanted shape log p n c u x Securing on more come = omega arith
events_wanted shape log p n c u x Opening on more come = omega arith
events_wanted shape log p n c u x Undoing on more come = omega arith
events_wanted shape log p n c u x TakingBack on more come = omega arith
events_wanted shape log p n c u x Keeping on more come = omega arith
events_wanted shape log p n c u x Ending on more come = omega arith
events_wanted shape log p n c u x Closing on more come = omega arith
events_wanted shape log p n c u x ClosingEnd on more come = let one = more (clears_some log u x ClosingEnd refl come) in omega (arith, one)
events_wanted shape log p n c u x Dropping on more come = let one = more (clears_some log u x Dropping refl come) in omega (arith, one)
events_wanted shape log p n c u x Deleting on more come = elim come.under_way [
  | waits none ↦ subst (λ v. 1 ≤ append_left shape p v) (sym none) (omega arith)
  | appends_it adding made is kind ↦ (let one = more (λ none. (let e : appends adding made ≡ nothing = sym is ∙ none in cc)) in
      subst (λ v. 1 ≤ append_left shape p v) (sym is) (subst (λ v. 1 ≤ events_left shape p v) is one))
]
events_wanted shape log p n c u x Unbuilt on more come = absurd come

records_wanted : (shape : Shape) (p n c : ℕ) (u : UnderWay) (x : Txn) (stage : Stage) → appends_in stage ≡ true → u ≡ nothing → 1 ≤ (needs_at shape p n c u x stage).records
records_wanted shape p n c u x stage on none = subst (λ v. 1 ≤ (needs_at shape p n c v x stage).records) (sym none) (by stage on)
  where
    by : (stage : Stage) → appends_in stage ≡ true → 1 ≤ (needs_at shape p n c nothing x stage).records
    by Free on = cc
    by Between on = cc
    by Leaving on = cc
    by Naming on = omega arith
    by Storing on = cc
    by Securing on = cc
    by Opening on = omega arith
    by Undoing on = omega arith
    by TakingBack on = cc
    by Keeping on = cc
    by Ending on = omega arith
    by Closing on = cc
    by ClosingEnd on = cc
    by Dropping on = cc
    by Deleting on = omega arith
    by Unbuilt on = cc

-- ---- is there

module _ {E : Type 0} (layout : Layout) (start : Words) (book : Book E) (keeper : LogKeeper) (region : Region) (spare events l : ℕ) (lt : l < length book.lanes.items)
    (st : IsStateOf layout start book keeper region spare events) where
  events_there : makes_events (stage_of (lane_at book l)) ≡ true → (1 ≤ (lane_at book l).owed_events) × (1 ≤ spare)
  events_there on =
      let wanted = events_wanted (layout_shape layout) st.s.log (l % layout.partitions) (records_noted st.w (txn_at st.w.lanes l).number) (length (st.chains (l % layout.partitions)))
      (under_of (layout_shape layout) st.w l) (txn_at st.w.lanes l) (stage_of (lane_at book l)) on (more_here layout start book keeper region spare events st l lt)
      (lane_is layout start book keeper region spare events st l lt).come in
      let owed = (st.owing.each l lt).events in
      let within = summand_within (λ k. (lane_at book k).owed_events) l (length book.lanes.items) lt in
      let enough = st.owing.stores in
      (omega (arith, wanted, owed), omega (arith, wanted, owed, within, enough))

  records_there : appends_in (stage_of (lane_at book l)) ≡ true → (keeping_of keeper).holder (l % layout.partitions) ≡ 17 → (1 ≤ (lane_at book l).owed_records) × (1 ≤ free_places keeper)
  records_there on free =
      let wanted = records_wanted (layout_shape layout) (l % layout.partitions) (records_noted st.w (txn_at st.w.lanes l).number) (length (st.chains (l % layout.partitions)))
      (under_of (layout_shape layout) st.w l) (txn_at st.w.lanes l) (stage_of (lane_at book l)) on (nothing_here layout start book keeper region spare events st l lt free) in
      let owed = (st.owing.each l lt).records in
      let within = summand_within (λ k. (lane_at book k).owed_records) l (length book.lanes.items) lt in
      let enough = st.owing.places in
      (omega (arith, wanted, owed), omega (arith, wanted, owed, within, enough))

  clearing_holds : clears_in (stage_of (lane_at book l)) ≡ true → (keeping_of keeper).holder (l % layout.partitions) ≡ l
  clearing_holds on =
      let come = (lane_is layout start book keeper region spare events st l lt).come in
      sym (holder_is layout start book keeper region spare events st (l % layout.partitions))
      ∙ holds_it (layout_shape layout) st.w l (clears_some st.s.log (under_of (layout_shape layout) st.w l) (txn_at st.w.lanes l) (stage_of (lane_at book l)) on come)

pub holders_are_busy : {E : Type 0} → HoldersAreBusy E
holders_are_busy = record {
  clears = λ layout start book keeper region spare events l lt on st. clearing_holds layout start book keeper region spare events l lt st on;
  slots = λ layout start book keeper region spare events st. st.tied.slots;
}

pub events_are_owed : {E : Type 0} → EventsAreOwed E
events_are_owed layout start book keeper region spare events l lt on st = events_there layout start book keeper region spare events l lt st on

pub records_are_owed : {E : Type 0} → RecordsAreOwed E
records_are_owed layout start book keeper region spare events l lt on free st = records_there layout start book keeper region spare events l lt st on free
