-- Where nothing of a lane is under way, all records of its transaction are settled, and so is its newest change of a word.
use Rattle.std.proofs.Common.{◌≡◌, ◌≢◌, ℕ, ◌%◌, ◌<◌, [], length, Option, refl, sym, ap, ◌∙◌, subst, arith}
use Rattle.persist_model.specs.Region.{Words, Region}
use Rattle.persist_model.specs.Records.{Record, IsAmong, IsOf}
use Rattle.region_layout.specs.declared.layout.Layout.{Layout}
use Rattle.region_layout.specs.Layout.{layout_shape}
use Rattle.bucket_log.specs.declared.append.Place.{Place}
use Rattle.lane_book.specs.declared.book.Book.{Book}
use Rattle.lane_book.specs.FacesOf.{lane_at}
use Rattle.log_keeper.specs.declared.keeper.LogKeeper.{LogKeeper}
use Rattle.log_keeper.specs.Keeper.{keeping_of}
use Rattle.log_keeper.specs.Logged.{Keeping}
use Rattle.log_keeper.specs.Parts.{Running, rests, appends as adds, closes as shuts, takes_back as drops_deletions, drops as takes_out}
use Rattle.log_keeper.specs.Ledger.{Stage as Progress, Drawn, Stored, Settled, Noted, AreNewestFirst, settled_log}
use Rattle.log_keeper.specs.Changes.{all_records, IsLastChange, AreSettledOf}
use Rattle.log_keeper.proofs.LastChanges.{changes_are_settled}
use Rattle.history_laws.specs.Histories.{fold}
use Rattle.history_laws.specs.UnderWay.{UnderWay, nothing, appends, closes, takes_back, drops, record_of_adding, run_of}
use Rattle.txn_laws.specs.Txns.{txn_at}
use Rattle.txn_laws.specs.PartsOf.{Fits}
use Rattle.txn_state.specs.Stages.{TakingBack, stage_of}
use Rattle.txn_state.specs.Ties.{IsTakingBack, IsCome, under_of}
use Rattle.txn_state.specs.States.{IsStateOf}
use Rattle.txn_state.proofs.Holding.{lane_is, under_held, few, inside}

module _ {E : Type 0} (layout : Layout) (start : Words) (book : Book E) (keeper : LogKeeper) (region : Region) (spare events : ℕ) (st : IsStateOf layout start book keeper region spare events)
    (l : ℕ) (lt : l < length book.lanes.items) where
  -- a partition where a record of its transaction is appended is held by the lane
  held_by_lane : (q : ℕ) (place : Place) (r : Record) → q < layout.partitions → (st.w.keeping.runs q).part ≡ adds place r → IsOf (txn_at st.w.lanes l).number r → st.w.keeping.holder q ≡ l
  held_by_lane q place r within is of = by (st.w.under q) (st.world.parts q within).fits (sym (ap (λ (x : Running). x.part) (st.world.parts q within).run) ∙ is)
    where
      by : (u : UnderWay) → Fits (layout_shape layout) st.s (fold start st.w.history) q (txn_at st.w.lanes (st.w.keeping.holder q)) u → (run_of u).part ≡ adds place r → st.w.keeping.holder q ≡ l
      by nothing fits e = let f : rests ≡ adds place r = e in cc
      by (closes gates ends made) fits e = let f : shuts gates ends [] ≡ adds place r = e in cc
      by (takes_back gates made) fits e = let f : drops_deletions gates ≡ adds place r = e in cc
      by (drops d made) fits e = let f : takes_out d ≡ adds place r = e in cc
      by (appends adding made) fits e =
          let f : adds adding.place (record_of_adding adding) ≡ adds place r = e in
          let same : record_of_adding adding ≡ r = cc in
          st.world.transactions.apart (st.w.keeping.holder q) l fits.number (sym fits.of ∙ ap (λ (x : Record). x.transaction) same ∙ of.0)

  module _ (none : under_of (layout_shape layout) st.w l ≡ nothing) where
    -- so there is none
    appends_nothing : (q : ℕ) (place : Place) (r : Record) → q < layout.partitions → (st.w.keeping.runs q).part ≡ adds place r → IsOf (txn_at st.w.lanes l).number r → ⊥
    appends_nothing q place r within is of =
        let held = held_by_lane q place r within is of in
        let small = few layout start book keeper region spare events st l lt in
        let here : st.w.keeping.holder q % layout.partitions ≡ q = st.tied.held.here q within (λ free. (let same : 17 ≡ l = sym free ∙ held in omega (arith, small, same))) in
        let there : l % layout.partitions ≡ q = ap (λ n. n % layout.partitions) (sym held) ∙ here in
        let rest : st.w.under (l % layout.partitions) ≡ nothing =
        sym (under_held (layout_shape layout) st.w l (ap st.w.keeping.holder there ∙ held)) ∙ none in
        let wrong : rests ≡ adds place r = sym (ap (λ (u : UnderWay). (run_of u).part) rest)
        ∙ sym (ap (λ (x : Running). x.part) (st.world.parts (l % layout.partitions) (inside layout start book keeper region spare events st l lt)).run)
        ∙ ap (λ n. (st.w.keeping.runs n).part) there ∙ is in
        cc

    settled_own : (x : Noted) → IsAmong st.w.keeping.ledger x → IsOf (txn_at st.w.lanes l).number x.entry → x.stage ≡ Settled
    settled_own x m of = by x.stage refl
      where
        elsewhere : x.stage ≢ Settled → ⊥
        elsewhere ne = let o = st.world.log.fits.others x m ne in appends_nothing o.0 o.2 x.entry o.1 o.3 of

        by : (stage : Progress) → x.stage ≡ stage → x.stage ≡ Settled
        by Drawn is = absurd (elsewhere (λ e. (let f : Drawn ≡ Settled = sym is ∙ e in cc)))
        by Stored is = absurd (elsewhere (λ e. (let f : Stored ≡ Settled = sym is ∙ e in cc)))
        by Settled is = is

  module _ (at : stage_of (lane_at book l) ≡ TakingBack) where
    come_back : IsTakingBack (under_of (layout_shape layout) st.w l) (txn_at st.w.lanes l)
    come_back = subst (IsCome st.s.log (under_of (layout_shape layout) st.w l) (txn_at st.w.lanes l)) at (lane_is layout start book keeper region spare events st l lt).come

    changes_settled : AreSettledOf (lane_at book l).transaction (keeping_of keeper).ledger
    changes_settled = subst (λ (k : Keeping). AreSettledOf (lane_at book l).transaction k.ledger) st.tied.keeping
        (subst (λ t. AreSettledOf t st.w.keeping.ledger) (lane_is layout start book keeper region spare events st l lt).txn.number (settled_own come_back.rests))

    -- the change that the keeper finds is that of the settled records
    pub change_is : (a : ℕ) (v : Option ℕ) →
        (AreNewestFirst (keeping_of keeper).ledger → IsLastChange (lane_at book l).transaction a (all_records (keeping_of keeper).ledger) v) →
        IsLastChange (lane_at book l).transaction a (settled_log (keeping_of keeper).ledger) v
    change_is a v found = changes_are_settled (lane_at book l).transaction a (keeping_of keeper).ledger v changes_settled
        (found (subst (λ (k : Keeping). AreNewestFirst k.ledger) st.tied.keeping st.world.log.ordered.newest_first))
