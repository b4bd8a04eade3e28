-- The lists of a closing have memory for what comes next.
use Rattle.std.proofs.Common.{◌≡◌, ◌≢◌, ◌⊎◌, ℕ, ◌+◌, ◌%◌, ◌<◌, ◌≤◌, ◌==◌, Bool, true, false, if◌then◌else◌, List, [], ◌∷◌, ◌++◌, length, inl, inr, refl, sym, ap, ◌∙◌, subst, arith, length-append}
use Rattle.std.proofs.lemmas.Bool.Decides.{eqb_tells}
use Rattle.persist_model.specs.Region.{Words, Region}
use Rattle.persist_model.specs.Kinds.{CHECKPOINT, END}
use Rattle.persist_model.specs.Order.{FollowEach}
use Rattle.persist_model.specs.Records.{Record, Log, IsAmong, IsEnd}
use Rattle.persist_model.specs.Shape.{Shape, part_of}
use Rattle.persist_model.specs.State.{State}
use Rattle.region_layout.specs.declared.layout.Layout.{Layout}
use Rattle.region_layout.specs.Layout.{layout_shape}
use Rattle.bucket_log.specs.declared.append.Place.{Place}
use Rattle.lane_book.specs.declared.book.Book.{Book}
use Rattle.lane_book.specs.FacesOf.{lane_at}
use Rattle.log_keeper.specs.declared.keeper.LogKeeper.{LogKeeper}
use Rattle.log_keeper.specs.declared.slots.Slot.{Slot}
use Rattle.log_keeper.specs.Keeper.{keeping_of, HasRoomIn}
use Rattle.log_keeper.specs.Ledger.{Stage as Progress, Drawn, Stored, Settled, Noted, AreNewestFirst, staged, with_stage}
use Rattle.log_keeper.specs.Listing.{is_chosen, gate_if, gates_in}
use Rattle.log_keeper.specs.Logged.{Keeping, ended}
use Rattle.log_keeper.specs.Making.{is_over, settled_by, stored_by, gone_on, made_of_run}
use Rattle.log_keeper.specs.Parts.{LogPart, rests, appends as adds, closes as shuts, takes_back as drops_deletions, drops as takes_out, Running, plan_of}
use Rattle.log_keeper.proofs.Ledgers.{left_among, closed_first}
use Rattle.log_keeper.proofs.Newest.{settled_among}
use Rattle.history_laws.specs.Histories.{fold}
use Rattle.history_laws.specs.UnderWay.{Adding, record_of_adding, UnderWay, nothing, appends, closes, takes_back, drops, run_of}
use Rattle.txn_laws.specs.PartsOf.{Fits}
use Rattle.txn_laws.specs.Txns.{Txn, txn_at}
use Rattle.txn_state.specs.Stages.{Ending, Closing, stage_of}
use Rattle.txn_state.specs.Ties.{under_of, IsAppending, waits, appends_it, IsCome, IsEndingIt, IsClosingNow}
use Rattle.txn_state.specs.Owing.{needs_at, needs_of, records_noted}
use Rattle.txn_state.specs.States.{IsStateOf}
use Rattle.txn_state.specs.AppendLaws.{made_in}
use Rattle.txn_state.specs.ReadLaws.{ListsAreKept}
use Rattle.txn_state.proofs.Holding.{holds_it, holder_is, lane_is, run_here, some_here}

-- memory for more is memory for fewer
pub fewer_gates : (slots : List Slot) (p n m : ℕ) → n ≤ m → HasRoomIn slots p m → HasRoomIn slots p n
fewer_gates slots p n m le room x is =
    let all = room x is in
    let first = all.0 in
    let second = all.1 in
    let third = all.2 in
    (omega (arith, le, first), omega (arith, le, second), omega (arith, le, third))

-- ---- behind an append's event

-- a record's stage says nothing of its gate
pub gates_staged : (t : ℕ) (ends : Bool) (n : ℕ) (stage : Progress) (ledger : List Noted) → gates_in t ends (with_stage n stage ledger) ≡ gates_in t ends ledger
gates_staged t ends n stage [] = refl
gates_staged t ends n stage (x ∷ ledger) = by (x.entry.lsn == n) (gates_staged t ends n stage ledger)
  where
    by : (on : Bool) → gates_in t ends (with_stage n stage ledger) ≡ gates_in t ends ledger →
        gates_in t ends (with_stage n stage ledger) ++ gate_if t ends (if on then staged x stage else x) ≡ gates_in t ends ledger ++ gate_if t ends x
    by true same = ap (λ gates. gates ++ gate_if t ends x) same
    by false same = ap (λ gates. gates ++ gate_if t ends x) same

-- so an event of an append leaves all gates
pub append_leaves_gates : (shape : Shape) (p t : ℕ) (ends : Bool) (run : Running) (k : Keeping) (place : Place) (r : Record) → run.part ≡ adds place r →
    gates_in t ends (made_of_run shape p run k).ledger ≡ gates_in t ends k.ledger
append_leaves_gates shape p t ends run k place r is = by (is_over (plan_of shape p run.part) (run.made + 1)) (is_over (plan_of shape p run.part) (run.made + 2))
  where
    by : (over last : Bool) → gates_in t ends (if over then ended p (settled_by run.part k.ledger) k else gone_on last p run k).ledger ≡ gates_in t ends k.ledger
    by true last = ap (λ part. gates_in t ends (settled_by part k.ledger)) is ∙ gates_staged t ends r.lsn Settled k.ledger
    by false true = ap (λ part. gates_in t ends (stored_by part k.ledger)) is ∙ gates_staged t ends r.lsn Stored k.ledger
    by false false = refl

-- ---- at most one end

chosen_end : (t : ℕ) (r : Record) → is_chosen t true r ≡ true → (r.transaction ≡ t) × IsEnd r
chosen_end t r on = elim (eqb_tells r.transaction t) [
  | inr off ↦ (let e : is_chosen t true r ≡ false = rw off.0 refl in let off_on : true ≡ false = sym on ∙ e in cc)
  | inl of ↦ elim (eqb_tells r.kind END) [
    | inr off ↦ (let e : is_chosen t true r ≡ false = rw (of.0, off.0) refl in let off_on : true ≡ false = sym on ∙ e in cc)
    | inl is ↦ (of.1, is.1)
  ]
]

end_no_checkpoint : (r : Record) → IsEnd r → r.kind ≢ CHECKPOINT
end_no_checkpoint r is five = let e : END ≡ CHECKPOINT = sym is ∙ five in absurd (omega (arith, e))

-- in a log in order a transaction has one
ends_are_one : (part : ℕ → ℕ) (whole log : Log) (e f : Record) → FollowEach part whole log → IsAmong log e → IsAmong log f → IsEnd e → IsEnd f → e.transaction ≡ f.transaction → e ≡ f
ends_are_one part whole [] e f order m k is too same = absurd m
ends_are_one part whole (r ∷ log) e f order (inl m) (inl k) is too same = m ∙ sym k
ends_are_one part whole (r ∷ log) e f order (inl m) (inr k) is too same =
    absurd (order.0.not_ended f k ((sym same ∙ ap (λ (x : Record). x.transaction) m, end_no_checkpoint f too), end_no_checkpoint r (sym (ap (λ (x : Record). x.kind) m) ∙ is), too))
ends_are_one part whole (r ∷ log) e f order (inr m) (inl k) is too same =
    absurd (order.0.not_ended e m ((same ∙ ap (λ (x : Record). x.transaction) k, end_no_checkpoint e is), end_no_checkpoint r (sym (ap (λ (x : Record). x.kind) k) ∙ too), is))
ends_are_one part whole (r ∷ log) e f order (inr m) (inr k) is too same = ends_are_one part whole log e f order.1 m k is too same

length_gate : (t : ℕ) (ends : Bool) (x : Noted) → (length (gate_if t ends x) ≤ 1) × (is_chosen t ends x.entry ≡ false → length (gate_if t ends x) ≡ 0)
length_gate t ends x = by (is_chosen t ends x.entry)
  where
    by : (on : Bool) → (length (if on then x.entry.at ∷ [] else []) ≤ 1) × (on ≡ false → length (if on then x.entry.at ∷ [] else []) ≡ 0)
    by true = (omega arith, λ off. cc)
    by false = (omega arith, λ off. refl)

none_chosen : (t : ℕ) (ends : Bool) (ledger : List Noted) → ((y : Noted) → IsAmong ledger y → is_chosen t ends y.entry ≡ false) → length (gates_in t ends ledger) ≡ 0
none_chosen t ends [] none = refl
none_chosen t ends (x ∷ ledger) none =
    let all = length-append (gates_in t ends ledger) (gate_if t ends x) in
    let others = none_chosen t ends ledger (λ y m. none y (inr m)) in
    let first = (length_gate t ends x).1 (none x (inl refl)) in
    omega (arith, all, others, first)

chosen_or_not : (b : Bool) → (b ≡ true) ⊎ (b ≡ false)
chosen_or_not true = inl refl
chosen_or_not false = inr refl

one_chosen : (t : ℕ) (ends : Bool) (ledger : List Noted) → AreNewestFirst ledger →
    ((x y : Noted) → IsAmong ledger x → IsAmong ledger y → is_chosen t ends x.entry ≡ true → is_chosen t ends y.entry ≡ true → x.entry.lsn ≡ y.entry.lsn) → length (gates_in t ends ledger) ≤ 1
one_chosen t ends [] first one = omega arith
one_chosen t ends (x ∷ ledger) first one =
    let all = length-append (gates_in t ends ledger) (gate_if t ends x) in
    let size = length_gate t ends x in
    let most = size.0 in
    elim (chosen_or_not (is_chosen t ends x.entry)) [
      | inl on ↦ (let none = none_chosen t ends ledger (λ y m. elim (chosen_or_not (is_chosen t ends y.entry)) [
        | inl too ↦ (let same = one x y (inl refl) (inr m) on too in let below = first.0 y m in absurd (omega (arith, same, below)))
        | inr off ↦ off
      ]) in omega (arith, all, none, most))
      | inr off ↦ (let others = one_chosen t ends ledger first.1 (λ y z m k on too. one y z (inr m) (inr k) on too) in let none = size.1 off in omega (arith, all, others, none))
    ]

-- ---- behind a closing's event

record IsLeftOf (ledger later : List Noted) : Type 0 where
  first : AreNewestFirst later
  among : (y : Noted) → IsAmong later y → IsAmong ledger y

closing_leaves : (shape : Shape) (p : ℕ) (run : Running) (k : Keeping) (gates ends : List ℕ) → AreNewestFirst k.ledger → run.part ≡ shuts gates ends [] →
    IsLeftOf k.ledger (made_of_run shape p run k).ledger
closing_leaves shape p run k gates ends first is = by (is_over (plan_of shape p run.part) (run.made + 1)) (is_over (plan_of shape p run.part) (run.made + 2))
  where
    by : (over last : Bool) → IsLeftOf k.ledger (if over then ended p (settled_by run.part k.ledger) k else gone_on last p run k).ledger
    by true last = subst (λ part. IsLeftOf k.ledger (settled_by part k.ledger)) (sym is)
        (record { first = closed_first gates ends [] k.ledger first; among = λ y m. left_among gates ends [] k.ledger y m })
    by false true = subst (λ part. IsLeftOf k.ledger (stored_by part k.ledger)) (sym is) (record { first = first; among = λ y m. m })
    by false false = record { first = first; among = λ y m. m }

settled_or_not : (stage : Progress) → (stage ≡ Settled) ⊎ (stage ≢ Settled)
settled_or_not Drawn = inr (λ e. cc)
settled_or_not Stored = inr (λ e. cc)
settled_or_not Settled = inl refl

abbrev record_in : LogPart → Record → Record
record_in rests r = r
record_in (adds place x) r = x
record_in (shuts gates ends checkpoints) r = r
record_in (drops_deletions gates) r = r
record_in (takes_out x) r = r

-- whose an append under way is
append_of : (shape : Shape) (s : State) (h : Words) (q : ℕ) (x : Txn) (u : UnderWay) (place : Place) (r : Record) → (run_of u).part ≡ adds place r → Fits shape s h q x u →
    (r.transaction ≡ x.number) × (x.over ≡ false)
append_of shape s h q x nothing place r is fits = (let e : rests ≡ adds place r = is in cc)
append_of shape s h q x (appends adding made) place r is fits = (ap (λ part. (record_in part r).transaction) (sym is) ∙ fits.of, fits.runs)
append_of shape s h q x (closes gates ends made) place r is fits = (let e : shuts gates ends [] ≡ adds place r = is in cc)
append_of shape s h q x (takes_back gates made) place r is fits = (let e : drops_deletions gates ≡ adds place r = is in cc)
append_of shape s h q x (drops d made) place r is fits = (let e : takes_out d ≡ adds place r = is in cc)

-- ---- in a state

module _ {E : Type 0} (layout : Layout) (start : Words) (book : Book E) (keeper : LogKeeper) (region : Region) (spare events l : ℕ) (lt : l < length book.lanes.items)
    (st : IsStateOf layout start book keeper region spare events) where
  abbrev shape : Shape
  shape = layout_shape layout

  abbrev p : ℕ
  p = l % layout.partitions

  abbrev u : UnderWay
  u = under_of (layout_shape layout) st.w l

  abbrev x : Txn
  x = txn_at st.w.lanes l

  abbrev t : ℕ
  t = (lane_at book l).transaction

  room : HasRoomIn keeper.slots.items (l % layout.partitions) (needs_of (layout_shape layout) st.chains book st.w l).gates
  room = (st.owing.each l lt).lists

  come : IsCome st.s.log (under_of (layout_shape layout) st.w l) (txn_at st.w.lanes l) (stage_of (lane_at book l))
  come = (lane_is layout start book keeper region spare events st l lt).come

  number : (txn_at st.w.lanes l).number ≡ (lane_at book l).transaction
  number = (lane_is layout start book keeper region spare events st l lt).txn.number

  -- the records that the end leaves to be closed
  module _ (at : stage_of (lane_at book l) ≡ Ending) (here : (keeping_of keeper).holder (l % layout.partitions) ≡ l) where
    wanted : (needs_of (layout_shape layout) st.chains book st.w l).gates ≡ records_noted st.w (txn_at st.w.lanes l).number + 1
    wanted = ap (λ stage. (needs_at shape p (records_noted st.w x.number) (length (st.chains p)) u x stage).gates) at

    appended : (adding : Adding) (made : ℕ) → under_of (layout_shape layout) st.w l ≡ appends adding made →
        gates_in (lane_at book l).transaction false (made_in layout keeper (l % layout.partitions)).ledger ≡ gates_in (lane_at book l).transaction false (keeping_of keeper).ledger
    appended adding made is = append_leaves_gates shape p t false ((keeping_of keeper).runs p) (keeping_of keeper) adding.place (record_of_adding adding)
        (ap (λ (run : Running). run.part) (run_here layout start book keeper region spare events st l lt here) ∙ ap (λ v. (run_of v).part) is)

    by_append : {kind : _} → IsAppending kind (under_of (layout_shape layout) st.w l) →
        gates_in (lane_at book l).transaction false (made_in layout keeper (l % layout.partitions)).ledger ≡ gates_in (lane_at book l).transaction false (keeping_of keeper).ledger
    by_append (waits none) = absurd (some_here layout start book keeper region spare events st l lt here none)
    by_append (appends_it adding made is added) = appended adding made is

    pub room_for_records : HasRoomIn keeper.slots.items (l % layout.partitions) (length (gates_in (lane_at book l).transaction false (made_in layout keeper (l % layout.partitions)).ledger))
    room_for_records =
        let ending : IsEndingIt u x = subst (IsCome st.s.log u x) at come in
        let same = ap length (by_append ending.under_way) in
        let noted : length (gates_in t false (keeping_of keeper).ledger) ≡ records_noted st.w x.number =
        ap (λ (k : Keeping). length (gates_in t false k.ledger)) (sym st.tied.keeping) ∙ ap (λ n. length (gates_in n false st.w.keeping.ledger)) (sym number) in
        let need = wanted in
        fewer_gates keeper.slots.items p _ _ (omega (arith, same, noted, need)) room

  -- its end
  module _ (at : stage_of (lane_at book l) ≡ Closing) where
    closing : IsClosingNow (under_of (layout_shape layout) st.w l) (txn_at st.w.lanes l)
    closing = subst (IsCome st.s.log u x) at come

    one_wanted : (needs_of (layout_shape layout) st.chains book st.w l).gates ≡ 1
    one_wanted = ap (λ stage. (needs_at shape p (records_noted st.w x.number) (length (st.chains p)) u x stage).gates) at

    -- no record of the transaction is under way
    settled : (y : Noted) → IsAmong st.w.keeping.ledger y → y.entry.transaction ≡ (txn_at st.w.lanes l).number → y.stage ≡ Settled
    settled y m of = elim (settled_or_not y.stage) [
      | inl is ↦ is
      | inr off ↦ (
          let run = st.world.log.fits.others y m off in
          let part = st.world.parts run.0 run.1 in
          let its = append_of shape st.s (fold start st.w.history) run.0 (txn_at st.w.lanes (st.w.keeping.holder run.0)) (st.w.under run.0) run.2 y.entry
          (sym (ap (λ (r : Running). r.part) part.run) ∙ run.3) part.fits in
          let same : l ≡ st.w.keeping.holder run.0 = st.world.transactions.apart l (st.w.keeping.holder run.0) closing.over.some (sym of ∙ its.0) in
          let over : true ≡ false = sym closing.over.is_over ∙ ap (λ k. (txn_at st.w.lanes k).over) same ∙ its.1 in
          cc)
    ]

    logged : (y : Noted) → IsAmong st.w.keeping.ledger y → is_chosen (txn_at st.w.lanes l).number true y.entry ≡ true → IsAmong st.s.log y.entry
    logged y m on = subst (λ log. IsAmong log y.entry) (sym st.world.log.logged.records)
        (settled_among st.w.keeping.ledger y m (settled y m (chosen_end x.number y.entry on).0))

    same_number : (y z : Noted) → IsAmong st.w.keeping.ledger y → IsAmong st.w.keeping.ledger z → is_chosen (txn_at st.w.lanes l).number true y.entry ≡ true →
        is_chosen (txn_at st.w.lanes l).number true z.entry ≡ true → y.entry.lsn ≡ z.entry.lsn
    same_number y z m k on too =
        let a = chosen_end x.number y.entry on in
        let b = chosen_end x.number z.entry too in
        ap (λ (r : Record). r.lsn) (ends_are_one (part_of shape) st.s.log st.s.log y.entry z.entry st.world.log.sound.order (logged y m on) (logged z k too) a.1 b.1 (a.0 ∙ sym b.0))

    holds : (keeping_of keeper).holder (l % layout.partitions) ≡ l
    holds = sym (holder_is layout start book keeper region spare events st p)
        ∙ holds_it (layout_shape layout) st.w l (λ none. (let e : closes closing.gates [] closing.made ≡ nothing = sym closing.under_way ∙ none in cc))

    left : IsLeftOf (keeping_of keeper).ledger (made_in layout keeper (l % layout.partitions)).ledger
    left = closing_leaves shape p ((keeping_of keeper).runs p) (keeping_of keeper) closing.gates [] (subst (λ (k : Keeping). AreNewestFirst k.ledger) st.tied.keeping st.world.log.ordered.newest_first)
        (ap (λ (run : Running). run.part) (run_here layout start book keeper region spare events st l lt holds) ∙ ap (λ v. (run_of v).part) closing.under_way)

    kept : (y : Noted) → IsAmong (made_in layout keeper (l % layout.partitions)).ledger y → IsAmong st.w.keeping.ledger y
    kept y m = subst (λ (k : Keeping). IsAmong k.ledger y) (sym st.tied.keeping) (left.among y m)

    one : length (gates_in (txn_at st.w.lanes l).number true (made_in layout keeper (l % layout.partitions)).ledger) ≤ 1
    one = one_chosen x.number true (made_in layout keeper p).ledger left.first (λ y z m k on too. same_number y z (kept y m) (kept z k) on too)

    pub room_for_end : HasRoomIn keeper.slots.items (l % layout.partitions) (length (gates_in (lane_at book l).transaction true (made_in layout keeper (l % layout.partitions)).ledger))
    room_for_end =
        let few = one in
        let same = ap (λ n. length (gates_in n true (made_in layout keeper (l % layout.partitions)).ledger)) number in
        let need = one_wanted in
        fewer_gates keeper.slots.items p _ _ (omega (arith, few, same, need)) room

pub lists_are_kept : {E : Type 0} → ListsAreKept E
lists_are_kept = record {
  records = λ layout start book keeper region spare events l lt at last here st. room_for_records layout start book keeper region spare events l lt st at here;
  ends = λ layout start book keeper region spare events l lt at last st. room_for_end layout start book keeper region spare events l lt st at;
}
