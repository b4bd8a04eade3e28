-- Between its calls the log has of a lane's transaction its updates, and no other record.
use Rattle.std.proofs.Common.{◌≡◌, ◌≢◌, inl, inr, ℕ, ◌+◌, ◌%◌, ◌<◌, ◌≤◌, ◌==◌, ◌&&◌, ◌++◌, not, if◌then◌else◌, Bool, true, false, List, [], ◌∷◌, length, reverse, refl, sym, ap, ◌∙◌, subst, length-append, arith}
use Rattle.std.proofs.Math.Logic.{∥∥₁_elim}
use Rattle.std.proofs.Math.Bridge.{le_prop}
use Rattle.persist_model.specs.Kinds.{CHECKPOINT, COMPENSATION, END, UPDATE}
use Rattle.persist_model.specs.Need.{to_undo, rest}
use Rattle.persist_model.specs.Order.{is_kind_of}
use Rattle.persist_model.specs.Records.{Record, Log, IsAmong}
use Rattle.persist_model.specs.Region.{Words, Region}
use Rattle.lane_traits.specs.Device.{Counts}
use Rattle.region_layout.specs.declared.layout.Layout.{Layout}
use Rattle.region_layout.specs.Layout.{layout_shape}
use Rattle.lane_types.specs.Deeds.{Deeds}
use Rattle.lane_book.specs.declared.book.Book.{Book}
use Rattle.lane_book.specs.FacesOf.{lane_at}
use Rattle.log_keeper.specs.declared.keeper.LogKeeper.{LogKeeper}
use Rattle.log_keeper.specs.Keeper.{keeping_of}
use Rattle.log_keeper.specs.Ledger.{Stage as Progress, Drawn, Stored, Settled, Noted, if_settled, if_stored, settled_log, newest_log}
use Rattle.log_keeper.specs.Listing.{is_chosen, gates_in}
use Rattle.log_keeper.specs.Logged.{Keeping}
use Rattle.log_keeper.specs.Parts.{Running}
use Rattle.history_laws.specs.Histories.{fold}
use Rattle.history_laws.specs.UnderWay.{UnderWay}
use Rattle.txn_laws.specs.AreTransactions.{IsGoing}
use Rattle.txn_laws.specs.Txns.{Gift, Txn, txn_at}
use Rattle.txn_state.specs.Seen.{noticed}
use Rattle.txn_state.specs.Stages.{Between, stage_of}
use Rattle.txn_state.specs.States.{IsStateOf}
use Rattle.txn_state.specs.Ties.{AreCellsOf, IsCome, IsBetween, IsLaneOf, under_of}
use Rattle.txn_state.proofs.EndGroups.{and_parts, append_runs, same_number}
use Rattle.txn_state.proofs.Holding.{lane_is, under_held}
use Rattle.txn_state.proofs.Named.{updates_counted}
use Rattle.txn_state.proofs.Making.{test_same}
use Rattle.txn_state.proofs.PartsOver.{settled_among, settled_or_not}
use Rattle.txn_core.specs.States.{HasWorld, start_of}
use Rattle.txn_core.proofs.AskedEnds.{gives_none}
use Rattle.txn_core.proofs.Latched.{some_bool}

-- ---- tests

and_of : (b c : Bool) → b ≡ true → c ≡ true → (b && c) ≡ true
and_of true true on more = refl
and_of true false on more = cc
and_of false c on more = cc

other_of : (m n : ℕ) → not (m == n) ≡ true → m ≢ n
other_of m n on is = let wrong : false ≡ true = sym (ap not (test_same m n is)) ∙ on in cc

-- ---- the ledger and the log

-- a settled record is among the newest
newest_in : (ledger : List Noted) (r : Record) → IsAmong (settled_log ledger) r → IsAmong (newest_log ledger) r
newest_in [] r m = m
newest_in (x ∷ ledger) r m = by x.stage m (newest_in ledger r)
  where
    by : (s : Progress) → IsAmong (if_settled s x.entry (settled_log ledger)) r → (IsAmong (settled_log ledger) r → IsAmong (newest_log ledger) r) → IsAmong (if_stored s x.entry (newest_log ledger)) r
    by Drawn m more = more m
    by Stored m more = inr (more m)
    by Settled (inl same) more = inl same
    by Settled (inr m) more = inr (more m)

more_in : (x : Noted) (log : Log) (r : Record) → IsAmong log r → IsAmong (if_settled x.stage x.entry log) r
more_in x log r m = by x.stage
  where
    by : (s : Progress) → IsAmong (if_settled s x.entry log) r
    by Drawn = m
    by Stored = m
    by Settled = inr m

-- what is to be undone grows with a record that is no compensation,
undo_more : (t : ℕ) (r : Record) (log : Log) → is_kind_of t COMPENSATION r ≡ false → length (to_undo t log) ≤ length (to_undo t (r ∷ log))
undo_more t r log off = by (is_kind_of t UPDATE r)
  where
    by : (b : Bool) → length (to_undo t log) ≤ length (if b then r ∷ to_undo t log else (if is_kind_of t COMPENSATION r then rest (to_undo t log) else to_undo t log))
    by true = omega arith
    by false = let same = ap (λ b. length (if b then rest (to_undo t log) else to_undo t log)) off in omega (arith, same)

-- by one with an update
undo_one : (t : ℕ) (r : Record) (log : Log) → is_kind_of t UPDATE r ≡ true → length (to_undo t (r ∷ log)) ≡ length (to_undo t log) + 1
undo_one t r log on =
    let same = ap (λ b. length (if b then r ∷ to_undo t log else (if is_kind_of t COMPENSATION r then rest (to_undo t log) else to_undo t log))) on in omega (arith, same)

settled_more : (t : ℕ) (s : Progress) (r : Record) (log : Log) → (s ≡ Settled → is_kind_of t COMPENSATION r ≡ false) → length (to_undo t log) ≤ length (to_undo t (if_settled s r log))
settled_more t Drawn r log off = omega arith
settled_more t Stored r log off = omega arith
settled_more t Settled r log off = undo_more t r log (off refl)

-- Where each record of the transaction but its end is a settled update, there are no more than those that are to be undone.
few_gates : (t : ℕ) (ledger : List Noted) →
    ((x : Noted) → IsAmong ledger x → is_chosen t false x.entry ≡ true → (x.stage ≡ Settled) × (is_kind_of t UPDATE x.entry ≡ true)) →
    ((r : Record) → IsAmong (settled_log ledger) r → is_kind_of t COMPENSATION r ≡ true → ⊥) → length (gates_in t false ledger) ≤ length (to_undo t (settled_log ledger))
few_gates t [] chosen none = omega arith
few_gates t (x ∷ ledger) chosen none =
    by (is_chosen t false x.entry) refl (few_gates t ledger (λ y m on. chosen y (inr m) on) (λ r m on. none r (more_in x (settled_log ledger) r m) on))
  where
    no_compensation : x.stage ≡ Settled → is_kind_of t COMPENSATION x.entry ≡ false
    no_compensation is = elim (some_bool (is_kind_of t COMPENSATION x.entry)) [
      | inl on ↦ absurd (none x.entry (subst (λ s. IsAmong (if_settled s x.entry (settled_log ledger)) x.entry) (sym is) (inl refl)) on)
      | inr off ↦ off
    ]

    by : (b : Bool) → is_chosen t false x.entry ≡ b → length (gates_in t false ledger) ≤ length (to_undo t (settled_log ledger)) →
        length (gates_in t false ledger ++ (if b then x.entry.at ∷ [] else [])) ≤ length (to_undo t (if_settled x.stage x.entry (settled_log ledger)))
    by true on before =
        let found = chosen x (inl refl) on in
        subst (λ s. length (gates_in t false ledger ++ x.entry.at ∷ []) ≤ length (to_undo t (if_settled s x.entry (settled_log ledger)))) (sym found.0)
        (let one = undo_one t x.entry (settled_log ledger) found.1 in let long = length-append (gates_in t false ledger) (x.entry.at ∷ []) in omega (arith, one, long, before))
    by false off before =
        let more = settled_more t x.stage x.entry (settled_log ledger) no_compensation in let long = length-append (gates_in t false ledger) [] in omega (arith, more, long, before)

-- ---- in a state

only_update : (k : ℕ) → 1 ≤ k → k ≤ 6 → k ≢ 2 → k ≢ 3 → k ≢ END → k ≢ CHECKPOINT → k ≢ 6 → k ≡ UPDATE
only_update k some few no_compensation no_rollback no_end no_checkpoint no_deletion = omega (arith, some, few, no_compensation, no_rollback, no_end, no_checkpoint, no_deletion)

no_gift : (gifts : List Gift) (g : Gift) → length gifts ≡ 0 → IsAmong gifts g → ⊥
no_gift [] g none m = m
no_gift (h ∷ gifts) g none m = omega (arith, none)

module _ {E : Type 0} (layout : Layout) (start : Words) (book : Book E) (keeper : LogKeeper) (region : Region) (spare events : ℕ) (st : IsStateOf layout start book keeper region spare events)
    (l : ℕ) (lt : l < length book.lanes.items) (at : stage_of (lane_at book l) ≡ Between) (no_gives : (lane_at book l).gives.items ≡ []) where
  abbrev x : Txn
  x = txn_at st.w.lanes l

  abbrev u : UnderWay
  u = under_of (layout_shape layout) st.w l

  abbrev ledger : List Noted
  ledger = st.w.keeping.ledger

  own : IsLaneOf layout book.blocks st.s.log (newest_log ledger) u (l % layout.partitions) (lane_at book l) x
  own = lane_is layout start book keeper region spare events st l lt

  come : IsBetween u x
  come = subst (IsCome st.s.log u x) at own.come

  going : IsGoing st.s.log (fold start st.w.history) x
  going = (st.world.transactions.each l).going come.going.runs

  pub unrolled : (lane_at book l).rolled ≡ false
  unrolled = sym own.txn.rolled ∙ ap (λ v. (noticed (layout_shape layout) (l % layout.partitions) v x).rolled) come.rests ∙ come.written.unrolled

  no_gifts : length x.gifts ≡ 0
  no_gifts = let counts = own.counts in let none = ap length no_gives in omega (arith, counts, none)

  in_log : (r : Record) → IsAmong (settled_log ledger) r → IsAmong st.s.log r
  in_log r m = subst (λ (log : Log). IsAmong log r) (sym st.world.log.logged.records) m

  -- nothing of it is under way
  settled : (y : Noted) → IsAmong ledger y → y.entry.transaction ≡ x.number → y.stage ≡ Settled
  settled y m of = elim (settled_or_not y.stage) [
    | inl is ↦ is
    | inr ne ↦ absurd (
        let o = st.world.log.fits.others y m ne in
        let part = st.world.parts o.0 o.1 in
        let a = append_runs (layout_shape layout) st.s (fold start st.w.history) o.0 (txn_at st.w.lanes (st.w.keeping.holder o.0)) (st.w.under o.0) o.2 y.entry
        (ap (λ (r : Running). r.part) (sym part.run) ∙ o.3) part.fits in
        let mine : st.w.keeping.holder o.0 ≡ l = st.world.transactions.apart (st.w.keeping.holder o.0) l a.0 (sym a.1 ∙ of) in
        let taken : st.w.keeping.holder o.0 ≢ 17 = λ none. (let few = st.is_book.few in let n : 17 ≡ l = sym none ∙ mine in omega (arith, few, n, lt)) in
        let here : l % layout.partitions ≡ o.0 = subst (λ h. h % layout.partitions ≡ o.0) mine (st.tied.held.here o.0 o.1 taken) in
        st.tied.held.busy o.0 o.1 taken (ap st.w.under (sym here) ∙ sym (under_held (layout_shape layout) st.w l (ap st.w.keeping.holder here ∙ mine)) ∙ come.rests))
  ]

  no_compensation : (r : Record) → IsAmong (settled_log ledger) r → is_kind_of x.number COMPENSATION r ≡ true → ⊥
  no_compensation r m on =
      let both = and_parts (r.transaction == x.number) (r.kind == COMPENSATION) on in
      let kind = same_number r.kind COMPENSATION both.1 in
      own.uncompensated unrolled come.going.some come.going.runs r (newest_in ledger r m) ((same_number r.transaction x.number both.0, λ e. omega (arith, kind, e)), kind)

  update : (y : Noted) → IsAmong ledger y → is_chosen x.number false y.entry ≡ true → (y.stage ≡ Settled) × (is_kind_of x.number UPDATE y.entry ≡ true)
  update y m on =
      let both = and_parts (y.entry.transaction == x.number) (not (y.entry.kind == END)) on in
      let of = same_number y.entry.transaction x.number both.0 in
      let done = settled y m of in
      let there = in_log y.entry (settled_among ledger y m done) in
      let formed = (st.world.log.sound.formed y.entry there).kind in
      let known = st.world.transactions.known y.entry there in
      let no_end : y.entry.kind ≢ END = other_of y.entry.kind END both.1 in
      let no_checkpoint : y.entry.kind ≢ CHECKPOINT = known.2.1 in
      let no_compensated : y.entry.kind ≢ 2 = λ e. own.uncompensated unrolled come.going.some come.going.runs y.entry (newest_in ledger y.entry (settled_among ledger y m done))
      ((of, no_checkpoint), e) in
      let no_rollback : y.entry.kind ≢ 3 = λ e. going.rolled_is come.written.unrolled y.entry there ((of, no_checkpoint), e) in
      let no_deletion : y.entry.kind ≢ 6 = λ e. (let g = (st.world.transactions.each l).deletions y.entry.word y.entry there (e, refl, of) in no_gift x.gifts g.0 no_gifts g.1) in (
        done,
        and_of (y.entry.transaction == x.number) (y.entry.kind == UPDATE) both.0
            (test_same y.entry.kind UPDATE (only_update y.entry.kind formed.0 formed.1 no_compensated no_rollback no_end no_checkpoint no_deletion)),
      )

  pub few_records : length (gates_in (lane_at book l).transaction false (keeping_of keeper).ledger) ≤ length (lane_at book l).updates.items
  few_records =
      let gates = few_gates x.number ledger update no_compensation in
      let undone = ap (λ (log : Log). length (to_undo x.number log)) (sym st.world.log.logged.records) ∙ ap length going.to_undo_is in
      let cells = updates_counted (lane_at book l).updates.items x.updates
      (subst (λ (z : Txn). AreCellsOf (reverse (lane_at book l).updates.items) z.updates) (ap (λ v. noticed (layout_shape layout) (l % layout.partitions) v x) come.rests) own.txn.updates) in
      let number = ap (λ n. length (gates_in n false ledger)) own.txn.number in
      let kept = ap (λ (k : Keeping). length (gates_in (lane_at book l).transaction false k.ledger)) st.tied.keeping in
      omega (arith, gates, undone, cells, number, kept)

pub few_own : {E : Type 0} (deeds : Deeds E) (layout : Layout) (book : Book E) (keeper : LogKeeper) (region : Region) (spare : ℕ) (counts : Counts) (l : ℕ) → l < length book.lanes.items →
    stage_of (lane_at book l) ≡ Between → HasWorld deeds layout book keeper region spare counts →
    length (gates_in (lane_at book l).transaction false (keeping_of keeper).ledger) ≤ length (lane_at book l).updates.items
few_own deeds layout book keeper region spare counts l lt at world = ∥∥₁_elim world le_prop (λ y. few_records layout (start_of layout y.0) book keeper region spare counts.events y.1.state l lt at
    (gives_none deeds layout book keeper region spare counts l world))
