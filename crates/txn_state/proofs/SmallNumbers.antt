-- The numbers of a state are far below what 64 bits have.
use Rattle.std.proofs.Common.{◌≡◌, ℕ, zero, suc, ◌*◌, ◌-◌, ◌<◌, ◌≤◌, ◌^◌, Bool, true, false, if◌then◌else◌, List, [], ◌∷◌, length, inl, inr, refl, sym, ap, ◌∙◌, subst, arith}
use Rattle.std.proofs.lemmas.List.{get_or_past}
use Rattle.std.proofs.lemmas.Bool.{cases_lt}
use Rattle.persist_model.specs.Region.{Words, Region}
use Rattle.persist_model.specs.Kinds.{COMPENSATION, UPDATE}
use Rattle.persist_model.specs.Order.{is_kind_of}
use Rattle.persist_model.specs.Records.{Log, IsAmong}
use Rattle.persist_model.specs.Need.{rest, to_undo}
use Rattle.region_layout.specs.declared.layout.Layout.{Layout}
use Rattle.region_layout.specs.Layout.{layout_shape}
use Rattle.lane_book.specs.declared.book.Book.{Book}
use Rattle.lane_book.specs.FacesOf.{lane_at, idle_lane}
use Rattle.log_keeper.specs.declared.keeper.LogKeeper.{LogKeeper}
use Rattle.log_keeper.specs.Ledger.{Stage as Progress, Drawn, Stored, Settled, Noted, AreNewestFirst, if_settled, settled_log}
use Rattle.history_laws.specs.UnderWay.{UnderWay, nothing, appends, closes, takes_back, drops}
use Rattle.txn_laws.specs.Rooms.{sum_below}
use Rattle.txn_laws.specs.Txns.{txn_at}
use Rattle.txn_state.specs.Stages.{Free, Storing, stage_of}
use Rattle.txn_state.specs.Ties.{under_of, IsCome, IsStoring}
use Rattle.txn_state.specs.Numbers.{unpaid}
use Rattle.txn_state.specs.States.{IsStateOf}
use Rattle.txn_state.specs.ReadLaws.{NumbersAreSmall}
use Rattle.txn_state.proofs.Holding.{lane_is}

-- ---- sums

pub sum_at_most : (f : ℕ → ℕ) (c n : ℕ) → ((k : ℕ) → f k ≤ c) → sum_below f n ≤ n * c
sum_at_most f c zero most = omega arith
sum_at_most f c (suc n) most = let others = sum_at_most f c n most in let last = most n in omega (arith, others, last)

unpaid_most : (u : UnderWay) → unpaid u ≤ 10
unpaid_most nothing = omega arith
unpaid_most (appends adding made) = omega arith
unpaid_most (closes gates ends made) = omega arith
unpaid_most (takes_back gates made) = omega arith
unpaid_most (drops r made) = omega arith

-- ---- records are no more than their numbers

pub ledger_short : (ledger : List Noted) (next : ℕ) → AreNewestFirst ledger → ((x : Noted) → IsAmong ledger x → x.entry.lsn < next) → length ledger ≤ next
ledger_short [] next first below = omega arith
ledger_short (x ∷ ledger) next first below =
    let others = ledger_short ledger x.entry.lsn first.1 first.0 in
    let top = below x (inl refl) in
    omega (arith, others, top)

pub settled_short : (ledger : List Noted) → length (settled_log ledger) ≤ length ledger
settled_short [] = omega arith
settled_short (x ∷ ledger) = by x.stage (settled_short ledger)
  where
    by : (stage : Progress) → length (settled_log ledger) ≤ length ledger → length (if_settled stage x.entry (settled_log ledger)) ≤ suc (length ledger)
    by Drawn less = omega (arith, less)
    by Stored less = omega (arith, less)
    by Settled less = omega (arith, less)

rest_short : (log : Log) → length (rest log) ≤ length log
rest_short [] = omega arith
rest_short (r ∷ log) = omega arith

pub undo_short : (t : ℕ) (log : Log) → length (to_undo t log) ≤ length log
undo_short t [] = omega arith
undo_short t (r ∷ log) = by (is_kind_of t UPDATE r) (is_kind_of t COMPENSATION r) (undo_short t log) (rest_short (to_undo t log))
  where
    by : (a b : Bool) → length (to_undo t log) ≤ length log → length (rest (to_undo t log)) ≤ length (to_undo t log) →
        length (if a then r ∷ to_undo t log else (if b then rest (to_undo t log) else to_undo t log)) ≤ suc (length log)
    by true b less fewer = omega (arith, less)
    by false true less fewer = omega (arith, less, fewer)
    by false false less fewer = omega (arith, less)

-- ---- in a state

module _ {E : Type 0} (layout : Layout) (start : Words) (book : Book E) (keeper : LogKeeper) (region : Region) (spare events : ℕ) (counted : events < 2 ^ 64)
    (st : IsStateOf layout start book keeper region spare events) where
  pub next_small : st.w.next < 2 ^ 61
  next_small =
      let drawn = st.numbered.records in
      let most = sum_at_most (λ p. unpaid (st.w.under p)) 10 layout.partitions (λ p. unpaid_most (st.w.under p)) in
      let few = layout.partitions_within.1 in
      omega (arith, drawn, most, few, counted)

  begun_small : book.next_transaction < 2 ^ 64 - 1
  begun_small =
      let drawn = st.numbered.transactions in
      let most = sum_at_most (λ l. (lane_at book l).begun) (2 ^ 59) (length book.lanes.items) st.numbered.begun in
      let few = st.is_book.few in
      omega (arith, drawn, most, few)

  module _ (l : ℕ) (at : stage_of (lane_at book l) ≡ Storing) where
    -- past the last there is no lane
    there : l < length book.lanes.items
    there = elim (cases_lt l (length book.lanes.items)) [
      | inl lt ↦ lt
      | inr past ↦ (let e : Free ≡ Storing = ap stage_of (sym (get_or_past book.lanes.items l idle_lane past)) ∙ at in cc)
    ]

    come : IsStoring (under_of (layout_shape layout) st.w l) (txn_at st.w.lanes l)
    come = subst (IsCome st.s.log (under_of (layout_shape layout) st.w l) (txn_at st.w.lanes l)) at (lane_is layout start book keeper region spare events st l there).come

    stored_small : (lane_at book l).stored < 2 ^ 62
    stored_small =
        let c = come in
        let next = next_small in
        let is = (lane_is layout start book keeper region spare events st l there).txn.stored in
        let undo = ap length (((st.world.transactions.each l).going c.going.runs).to_undo_is) in
        let log = undo_short (txn_at st.w.lanes l).number st.s.log in
        let settled = settled_short st.w.keeping.ledger in
        let same = ap length st.world.log.logged.records in
        let ledger = ledger_short st.w.keeping.ledger st.w.next st.world.log.ordered.newest_first st.world.log.ordered.below in
        let last = c.last_waits in
        let all = c.updates_all in
        omega (arith, next, is, undo, log, settled, same, ledger, last, all)

pub numbers_are_small : {E : Type 0} → NumbersAreSmall E
numbers_are_small layout start book keeper region spare events counted st = record {
  records = (let small = next_small layout start book keeper region spare events counted st in let e = st.tied.next in omega (arith, small, e));
  transactions = begun_small layout start book keeper region spare events counted st;
  commits = λ l. (let most = st.numbered.commits l in let begun = st.numbered.begun l in omega (arith, most, begun));
  stored = λ l at. stored_small layout start book keeper region spare events counted st l at;
}
