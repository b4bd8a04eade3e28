-- Behind the first group of a closing the transaction's end is left, alone, and its closing is the second group.
use Rattle.std.proofs.Common.{◌≡◌, ◌≢◌, inl, inr, ℕ, ◌+◌, ◌*◌, ◌%◌, ◌<◌, ◌≤◌, ◌==◌, ◌&&◌, Bool, true, false, if◌then◌else◌, List, [], ◌∷◌, ◌++◌, length, refl, sym, ap, ◌∙◌, subst, arith, length-append}
use Rattle.std.proofs.lemmas.Bool.Decides.{eqb_tells}
use Rattle.std.proofs.lemmas.List.{append-nil}
use Rattle.persist_model.specs.declared.event.Event.{Event}
use Rattle.persist_model.specs.Region.{Words, Region}
use Rattle.persist_model.specs.Kinds.{END}
use Rattle.persist_model.specs.ImageRecords.{record_at}
use Rattle.persist_model.specs.Records.{Record, Log, IsAmong, IsOf, IsEnd}
use Rattle.persist_model.specs.Shape.{Shape, log_words, part_of}
use Rattle.persist_model.specs.State.{State}
use Rattle.region_layout.specs.declared.layout.Layout.{Layout}
use Rattle.region_layout.specs.Layout.{layout_shape}
use Rattle.bucket_log.specs.declared.append.Place.{Place}
use Rattle.log_clearing.specs.Closed.{AreGroups, IsListed}
use Rattle.log_clearing.specs.Plans.{group, closing_plan}
use Rattle.log_clearing.proofs.PlanEvents.{length-group}
use Rattle.lane_book.specs.declared.lane.Doing.{Doing}
use Rattle.lane_book.specs.declared.book.Book.{Book}
use Rattle.lane_book.specs.FacesOf.{lane_at}
use Rattle.lane_types.specs.declared.call.Phase.{Phase}
use Rattle.log_keeper.specs.declared.keeper.LogKeeper.{LogKeeper}
use Rattle.log_keeper.specs.Parts.{rests, appends as adds, closes as shuts, takes_back as drops_deletions, drops as takes_out, Running, plan_of, CanRun, IsListedGate}
use Rattle.log_keeper.specs.Ledger.{Settled, Noted, AreNewestFirst, left_open, newest_log}
use Rattle.log_keeper.specs.Listing.{is_chosen, gates_in}
use Rattle.log_keeper.specs.Logged.{Keeping}
use Rattle.log_keeper.specs.Making.{made_part}
use Rattle.log_keeper.specs.Events.{region_made}
use Rattle.log_keeper.proofs.GateLists.{gates_are_listed}
use Rattle.log_keeper.proofs.Ledgers.{in_ledger}
use Rattle.history_laws.specs.Histories.{fold}
use Rattle.history_laws.specs.UnderWay.{UnderWay, nothing, appends, closes, takes_back, drops, record_of_adding, run_of}
use Rattle.txn_laws.specs.Txns.{Txn, txn_at}
use Rattle.txn_laws.specs.PartsOf.{Fits, IsClosingOf}
use Rattle.txn_laws.specs.Worlds.{World, IsWorldAt}
use Rattle.txn_laws.specs.Dropped.{dropped}
use Rattle.txn_laws.proofs.ClosedTxns.{one_end, left_is_end}
use Rattle.txn_laws.proofs.LeftOpen.{left_stays}
use Rattle.txn_state.specs.declared.parts.TheConstants.{CLOSE_END}
use Rattle.txn_state.specs.Seen.{noticed}
use Rattle.txn_state.specs.Stages.{Stage, Closing, ClosingEnd, stage_at, stage_of}
use Rattle.txn_state.specs.Ties.{IsClosingNow, AreEndsAlone, under_of}
use Rattle.txn_state.specs.Owing.{REMOVAL_EVENTS}
use Rattle.txn_state.specs.States.{IsStateOf}
use Rattle.txn_state.specs.AppendLaws.{IsMade, AreLeft, made_in}
use Rattle.txn_state.specs.ClosingLaws.{ClosingsGoOn}
use Rattle.txn_state.proofs.Making.{test_same}
use Rattle.txn_state.proofs.StageSteps.{EndsCall, commit, abort, call_at, stage_of_call}
use Rattle.txn_state.proofs.HeapSteps.{owes_of, come_here}
use Rattle.txn_state.proofs.PartsOver.{settled_or_not, settled_among, group_closing, group_can}
use Rattle.txn_state.proofs.Cleared.{IsGroupOver, holder_now, under_now, one_event, last_event, mine_now, group_done}
use Rattle.txn_state.proofs.NextParts.{next_state}
use Rattle.txn_state.proofs.Given.{ends_no_gifts}
use Rattle.txn_state.proofs.StageSteps.{ends_by}

-- ---- the gates of a transaction's ends

pub and_parts : (b c : Bool) → (b && c) ≡ true → (b ≡ true) × (c ≡ true)
and_parts true true e = (refl, refl)
and_parts true false e = cc
and_parts false c e = cc

pub same_number : (a b : ℕ) → (a == b) ≡ true → a ≡ b
same_number a b on = elim (eqb_tells a b) [ inl k ↦ k.1 | inr k ↦ absurd (let e : true ≡ false = sym on ∙ k.0 in cc) ]

chosen_told : (t : ℕ) (r : Record) → is_chosen t true r ≡ true → (r.transaction ≡ t) × IsEnd r
chosen_told t r on = let both = and_parts (r.transaction == t) (r.kind == END) on in (same_number r.transaction t both.0, same_number r.kind END both.1)

chosen_found : (t : ℕ) (r : Record) → r.transaction ≡ t → IsEnd r → is_chosen t true r ≡ true
chosen_found t r of ends = ap (λ b. b && (r.kind == END)) (test_same r.transaction t of) ∙ test_same r.kind END ends

none_chosen : (t : ℕ) (ledger : List Noted) → ((y : Noted) → IsAmong ledger y → is_chosen t true y.entry ≡ true → ⊥) → gates_in t true ledger ≡ []
none_chosen t [] none = refl
none_chosen t (y ∷ ledger) none = by (is_chosen t true y.entry) refl (none_chosen t ledger (λ z m. none z (inr m)))
  where
    by : (b : Bool) → is_chosen t true y.entry ≡ b → gates_in t true ledger ≡ [] → gates_in t true ledger ++ (if b then y.entry.at ∷ [] else []) ≡ []
    by true on rest = absurd (none y (inl refl) on)
    by false off rest = append-nil (gates_in t true ledger) ∙ rest

-- where any two of them have one number there is at most one
gates_few : (t : ℕ) (ledger : List Noted) → AreNewestFirst ledger →
    ((x y : Noted) → IsAmong ledger x → IsAmong ledger y → is_chosen t true x.entry ≡ true → is_chosen t true y.entry ≡ true → x.entry.lsn ≡ y.entry.lsn) → length (gates_in t true ledger) ≤ 1
gates_few t [] first one = omega arith
gates_few t (x ∷ ledger) first one = by (is_chosen t true x.entry) refl (gates_few t ledger first.1 (λ y z m k c d. one y z (inr m) (inr k) c d))
  where
    by : (b : Bool) → is_chosen t true x.entry ≡ b → length (gates_in t true ledger) ≤ 1 → length (gates_in t true ledger ++ (if b then x.entry.at ∷ [] else [])) ≤ 1
    by true on rest =
        let none = ap length (none_chosen t ledger (λ y m c. (let lt = first.0 y m in let same = one x y (inl refl) (inr m) on c in omega (arith, lt, same)))) in
        let long = length-append (gates_in t true ledger) (x.entry.at ∷ []) in
        omega (arith, none, long)
    by false off rest =
        let long = length-append (gates_in t true ledger) [] in
        omega (arith, rest, long)

some_among : (xs : List ℕ) (a : ℕ) → IsAmong xs a → 1 ≤ length xs
some_among [] a m = absurd m
some_among (x ∷ xs) a m = omega arith

none_in_none : (xs : List ℕ) (a : ℕ) → xs ≡ [] → IsAmong xs a → ⊥
none_in_none xs a none m = subst (λ (ys : List ℕ). IsAmong ys a) none m

-- ---- the records of a transaction that is over

-- an append is of a transaction that runs
pub append_runs : (shape : Shape) (s : State) (h : Words) (q : ℕ) (y : Txn) (u : UnderWay) (place : Place) (r : Record) → (run_of u).part ≡ adds place r → Fits shape s h q y u →
    (1 ≤ y.number) × (r.transaction ≡ y.number) × (y.over ≡ false)
append_runs shape s h q y nothing place r is fits = absurd (let e : rests ≡ adds place r = is in cc)
append_runs shape s h q y (appends adding made) place r is fits =
    let e : adds adding.place (record_of_adding adding) ≡ adds place r = is in
    let same : record_of_adding adding ≡ r = cc in
    (fits.number, ap (λ (z : Record). z.transaction) (sym same) ∙ fits.of, fits.runs)
append_runs shape s h q y (closes gates ends made) place r is fits = absurd (let e : shuts gates ends [] ≡ adds place r = is in cc)
append_runs shape s h q y (takes_back gates made) place r is fits = absurd (let e : drops_deletions gates ≡ adds place r = is in cc)
append_runs shape s h q y (drops x made) place r is fits = absurd (let e : takes_out x ≡ adds place r = is in cc)

module _ (shape : Shape) (base : Words) (s : State) (chains : ℕ → List ℕ) (start : Words) (w : World) (region : Region) (world : IsWorldAt shape base s chains start w region) where
  -- a record is known by its gate
  at_gate : (r : Record) → IsAmong s.log r → r ≡ record_at (log_words shape base) r.at
  at_gate r m =
      let k = (world.log.logged.has.records.each r).0 m in
      k.2.is ∙ ap (record_at (log_words shape base)) (sym (ap (λ (z : Record). z.at) k.2.is))

  pub one_at : (r d : Record) → IsAmong s.log r → IsAmong s.log d → r.at ≡ d.at → r ≡ d
  one_at r d m k same = at_gate r m ∙ ap (record_at (log_words shape base)) same ∙ sym (at_gate d k)

  module _ (l : ℕ) (over : (txn_at w.lanes l).over ≡ true) where
    abbrev t : ℕ
    t = (txn_at w.lanes l).number

    abbrev ledger : List Noted
    ledger = w.keeping.ledger

    own_settled : (x : Noted) → IsAmong ledger x → x.entry.transaction ≡ t → x.stage ≡ Settled
    own_settled x m of = elim (settled_or_not x.stage) [
      | inl is ↦ is
      | inr ne ↦ absurd (
          let o = world.log.fits.others x m ne in
          let part = world.parts o.0 o.1 in
          let a = append_runs shape s (fold start w.history) o.0 (txn_at w.lanes (w.keeping.holder o.0)) (w.under o.0) o.2 x.entry (ap (λ (r : Running). r.part) (sym part.run) ∙ o.3) part.fits in
          let same = world.transactions.apart (w.keeping.holder o.0) l a.0 (sym a.1 ∙ of) in
          let f : false ≡ true = sym a.2 ∙ subst (λ h. (txn_at w.lanes h).over ≡ true) (sym same) over in cc)
    ]

    own_logged : (x : Noted) → IsAmong ledger x → x.entry.transaction ≡ t → IsAmong s.log x.entry
    own_logged x m of = subst (λ (log : Log). IsAmong log x.entry) (sym world.log.logged.records) (settled_among ledger x m (own_settled x m of))

    -- the gates of its ends are those of its settled ends
    pub end_at : (a : ℕ) → IsAmong (gates_in t true ledger) a → (r : Record) × IsAmong s.log r × (r.at ≡ a) × IsEnd r × (r.transaction ≡ t)
    end_at a m =
        let x = gates_are_listed.own t true ledger a m in
        let is = chosen_told t x.0.entry x.2 in
        (x.0.entry, own_logged x.0 x.1 is.0, x.3, is.1, is.0)

    pub end_listed : (r : Record) → IsAmong s.log r → r.transaction ≡ t → IsEnd r → IsAmong (gates_in t true ledger) r.at
    end_listed r m of ends =
        let x = in_ledger ledger r (subst (λ (log : Log). IsAmong log r) world.log.logged.records m) in
        let of_x : x.0.entry.transaction ≡ t = ap (λ (z : Record). z.transaction) x.2 ∙ of in
        let ends_x : IsEnd x.0.entry = ap (λ (z : Record). z.kind) x.2 ∙ ends in
        subst (IsAmong (gates_in t true ledger)) (ap (λ (z : Record). z.at) x.2) (gates_are_listed.all t true ledger x.0 x.1 (chosen_found t x.0.entry of_x ends_x))

    pub one_gate : length (gates_in t true ledger) ≤ 1
    one_gate = gates_few t ledger world.log.ordered.newest_first (λ x y m k c d. (
        let a = chosen_told t x.entry c in
        let b = chosen_told t y.entry d in
        ap (λ (r : Record). r.lsn) (one_end (part_of shape) s.log world.log.sound.order x.entry y.entry (own_logged x m a.0) (own_logged y k b.0) a.1 b.1 (a.0 ∙ sym b.0))))

-- ---- the second group

-- In this state the ends' gates are one, that of the end, which is alone left of x's records.
pub record IsEndGroup (shape : Shape) (base : Words) (s : State) (chain : List ℕ) (p : ℕ) (x : Txn) (ends : List ℕ) : Type 0 where
  pub can : CanRun shape p base s chain (shuts [] ends [])
  pub fits : IsClosingOf s.log p x [] ends
  pub one : length ends ≡ 1
  pub listed : (r : Record) → IsAmong s.log r → IsOf x.number r → IsAmong ends r.at
  pub alone : AreEndsAlone x.number s.log

end_of : (t : ℕ) (r : Record) → r.transaction ≡ t → IsEnd r → IsOf t r
end_of t r of ends = (of, λ five. absurd (omega (arith, ends, five)))

module _ (shape : Shape) (base : Words) (s : State) (chains : ℕ → List ℕ) (start : Words) (w : World) (region : Region) (world : IsWorldAt shape base s chains start w region) (l p : ℕ)
    (before : State) (gates : List ℕ) (groups : AreGroups before.log gates [] []) (closing : IsClosingOf before.log p (txn_at w.lanes l) gates []) (log_is : s.log ≡ left_open gates [] [] before.log)
    (alone : AreEndsAlone (txn_at w.lanes l).number s.log) (no_gifts : (txn_at w.lanes l).gifts ≡ []) (none_zeroed : (txn_at w.lanes l).zeroed ≡ 0)
    (there : (r : Record) × IsAmong s.log r × IsEnd r × (r.transaction ≡ (txn_at w.lanes l).number)) where
  abbrev its : Txn
  its = txn_at w.lanes l

  abbrev end_gates : List ℕ
  end_gates = gates_in its.number true w.keeping.ledger

  own_end : (a : ℕ) → IsAmong end_gates a → (r : Record) × IsAmong s.log r × (r.at ≡ a) × IsEnd r × (r.transaction ≡ its.number)
  own_end = end_at shape base s chains start w region world l closing.is_over

  all_listed : (r : Record) → IsAmong s.log r → IsOf its.number r → IsAmong end_gates r.at
  all_listed r m of = end_listed shape base s chains start w region world l closing.is_over r m of.0 (alone r m of)

  in_its_part : (a : ℕ) → IsListedGate [] end_gates [] a → part_of shape a ≡ p
  in_its_part a (inl none) = absurd none
  in_its_part a (inr (inl m)) = (
      let r = own_end a m in
      ap (part_of shape) (sym r.2) ∙ (world.transactions.each l).in_part r.0 r.1 (end_of its.number r.0 r.4 r.3) ∙ closing.here)
  in_its_part a (inr (inr none)) = absurd none

  listed_own : (r : Record) → IsAmong s.log r → IsListed [] end_gates [] r → IsOf its.number r
  listed_own r m (inl none) = absurd none
  listed_own r m (inr (inl k)) = (
      let d = own_end r.at k in
      let same = one_at shape base s chains start w region world d.0 r d.1 m d.2 in
      subst (IsOf its.number) same (end_of its.number d.0 d.4 d.3))
  listed_own r m (inr (inr none)) = absurd none

  pub end_group : IsEndGroup shape base s (chains p) p its end_gates
  end_group = record {
    can = (
      record {
        of_gates = λ a none. absurd none;
        of_ends = λ a m. (let r = own_end a m in (r.0, r.1, (r.2, r.3)));
        of_checkpoints = λ a none. absurd none;
      },
      in_its_part,
    );
    fits = record {
      number = closing.number;
      here = closing.here;
      is_over = closing.is_over;
      zeroed_all = λ commits. none_zeroed ∙ sym (ap length no_gifts);
      fenced_all = closing.fenced_all;
      own = listed_own;
      first = λ none r m of ne. absurd (ne (alone r m of));
      rest = λ e m on ends r k of. all_listed r k of;
    };
    one = (
        let few = one_gate shape base s chains start w region world l closing.is_over in
        let some = some_among end_gates there.0.at (all_listed there.0 there.1 (end_of its.number there.0 there.3 there.2)) in
        omega (arith, few, some));
    listed = all_listed;
    alone = alone;
  }

-- ---- the law

end_stage : (phase : Phase) (rec : Bool) (doing : Doing) (stage : Stage) → EndsCall rec doing stage → (stage_at phase rec CLOSE_END doing ≡ ClosingEnd) × (rec ≡ true)
end_stage phase rec doing stage (commit on is has) = (stage_of_call phase rec CLOSE_END doing Doing.Commit on is, on)
end_stage phase rec doing stage (abort on is has) = (stage_of_call phase rec CLOSE_END doing Doing.Abort on is, on)

end_plan : (ends : List ℕ) → length ends ≡ 1 → length (closing_plan [] ends []) ≡ 2
end_plan ends one =
    let whole = ap length (append-nil (group ends)) in
    let long = length-group ends (some ends one) in
    omega (arith, whole, long, one)
  where
    some : (xs : List ℕ) → length xs ≡ 1 → length xs ≢ 0
    some xs is none = omega (arith, is, none)

module _ {E : Type 0} (layout : Layout) (start : Words) (book : Book E) (keeper : LogKeeper) (region behind : Region) (spare left events made l : ℕ) (e : Event)
    (state : IsStateOf layout start book keeper region spare events) (m : IsMade layout keeper region behind l e spare left events made) (last_one : AreLeft layout keeper (l % layout.partitions) 1)
    (in_book : l < length book.lanes.items) (at : stage_of (lane_at book l) ≡ Closing) where
  abbrev the_shape : Shape
  the_shape = layout_shape layout

  abbrev the_part : ℕ
  the_part = l % layout.partitions

  abbrev the_txn : Txn
  the_txn = txn_at state.w.lanes l

  abbrev behind_world : World
  behind_world = dropped the_shape the_part state.w

  pub come_closing : IsClosingNow (under_of the_shape state.w l) the_txn
  come_closing = come_here layout start book keeper region spare events l in_book state Closing at

  abbrev first_gates : List ℕ
  first_gates = come_closing.gates

  pub first_over : IsGroupOver the_shape start state.s state.chains state.w the_part the_txn.number (region_made state.w.keeping the_part e region) first_gates []
  first_over = group_done layout start book keeper region behind spare left events made l e state m last_one in_book first_gates [] come_closing.made come_closing.under_way

  under_there : state.w.under the_part ≡ closes first_gates [] come_closing.made
  under_there = sym (under_now layout start book keeper region behind spare left events made l e state m last_one in_book) ∙ come_closing.under_way

  holder_there : state.w.keeping.holder the_part ≡ l
  holder_there = holder_now layout start book keeper region behind spare left events made l e state m last_one in_book

  first_closing : IsClosingOf state.s.log the_part the_txn first_gates []
  first_closing = subst (λ h. IsClosingOf state.s.log the_part (txn_at state.w.lanes h) first_gates []) holder_there
      (group_closing the_shape state.base state.s state.chains start state.w region the_part e first_gates [] come_closing.made under_there
      (last_event layout start book keeper region behind spare left events made l e state m last_one in_book (closes first_gates [] come_closing.made) come_closing.under_way) state.world)

  first_groups : AreGroups state.s.log first_gates [] []
  first_groups = (group_can the_shape state.base state.s state.chains start state.w region the_part e first_gates [] come_closing.made under_there
      (last_event layout start book keeper region behind spare left events made l e state m last_one in_book (closes first_gates [] come_closing.made) come_closing.under_way) state.world).0

  ends_alone : AreEndsAlone the_txn.number first_over.over.state.log
  ends_alone r among of = left_is_end the_shape state.s.log (fold start state.w.history) (part_of the_shape) state.world.log.sound.order the_part the_txn first_gates [] first_groups first_closing r
      (subst (λ (log : Log). IsAmong log r) first_over.log_is among) of

  -- a gate of the first group
  first_gate : (a : ℕ) × IsAmong first_gates a
  first_gate = some_of first_gates (λ none. (
      let busy = state.tied.held.unfinished the_part (inside_of state.world.log.logged.allowed.partitions.0) (λ free. (let few = m.inside in let same = sym holder_there ∙ free in absurd (omega (arith, few, same)))) in
      let run = (state.world.parts the_part (inside_of state.world.log.logged.allowed.partitions.0)).run in
      let empty = subst (λ (r : Running). r.made < length (plan_of the_shape the_part r.part)) (run ∙ ap run_of (under_there ∙ ap (λ gates. closes gates [] come_closing.made) none)) busy in
      omega (arith, empty)))
    where
      inside_of : 1 ≤ layout.partitions → the_part < layout.partitions
      inside_of one = omega (arith, one)

      some_of : (xs : List ℕ) → (xs ≡ [] → ⊥) → (a : ℕ) × IsAmong xs a
      some_of [] none = absurd (none refl)
      some_of (x ∷ xs) none = (x, inl refl)

  -- so the transaction has an end, which isn't in that group
  end_left : (r : Record) × IsAmong first_over.over.state.log r × IsEnd r × (r.transaction ≡ the_txn.number)
  end_left =
      let d = first_groups.of_gates first_gate.0 first_gate.1 in
      let of = first_closing.own d.0 d.1 (inl (subst (IsAmong first_gates) (sym d.2.0) first_gate.1)) in
      let e = ((state.world.transactions.each l).ended come_closing.over.is_over).has_end (d.0, d.1, of) in (
        e.0,
        subst (λ (log : Log). IsAmong log e.0) (sym first_over.log_is) (left_stays first_gates [] [] state.s.log e.0 e.1 (λ on. elim on [
          | inl among ↦ (
              let g = first_groups.of_gates e.0.at among in
              let same = one_at the_shape state.base state.s state.chains start state.w region state.world g.0 e.0 g.1 e.1 g.2.0 in
              g.2.1 (ap (λ (z : Record). z.kind) same ∙ e.2.0))
          | inr none ↦ elim none [ inl n ↦ absurd n | inr n ↦ absurd n ]
        ])),
        e.2.0,
        e.2.1,
      )

  pub second_group : IsEndGroup the_shape first_over.over.base first_over.over.state (first_over.over.chains_behind the_part) the_part the_txn
      (gates_in the_txn.number true (made_part the_shape the_part state.w.keeping).ledger)
  second_group = end_group the_shape first_over.over.base first_over.over.state first_over.over.chains_behind start behind_world (region_made state.w.keeping the_part e region) first_over.over.world l the_part
      state.s first_gates first_groups first_closing first_over.log_is ends_alone (ends_no_gifts layout book.blocks state.s.log (newest_log state.w.keeping.ledger) (under_of the_shape state.w l) the_part (lane_at book l) the_txn
      (mine_now layout start book keeper region behind spare left events made l e state m last_one in_book)
      (ends_by (lane_at book l).phase (lane_at book l).has_records (lane_at book l).part (lane_at book l).doing Closing at))
      (mine_now layout start book keeper region behind spare left events made l e state m last_one in_book).txn.zeroed end_left

  -- the same with the gates as the keeper lists them
  pub second_listed : IsEndGroup the_shape first_over.over.base first_over.over.state (first_over.over.chains_behind the_part) the_part the_txn
      (gates_in (lane_at book l).transaction true (made_in layout keeper the_part).ledger)
  second_listed = subst (IsEndGroup the_shape first_over.over.base first_over.over.state (first_over.over.chains_behind the_part) the_part the_txn)
      (ap (λ t. gates_in t true (made_part the_shape the_part state.w.keeping).ledger) (mine_now layout start book keeper region behind spare left events made l e state m last_one in_book).txn.number
      ∙ ap (λ (k : Keeping). gates_in (lane_at book l).transaction true (made_part the_shape the_part k).ledger) state.tied.keeping) second_group

  pub closing_owed : 3 + REMOVAL_EVENTS * length (first_over.over.chains_behind the_part) ≤ (lane_at book l).owed_events
  closing_owed =
      let one = one_event layout start book keeper region behind spare left events made l e state m last_one in_book in
      let owes = (owes_of the_shape state.chains book keeper state.w l Closing at (state.owing.each l in_book)).events in
      let same : length (first_over.over.chains_behind the_part) ≡ length (state.chains the_part) = ap (λ (c : ℕ → List ℕ). length (c the_part)) first_over.chains_same in
      omega (arith, one, owes, same)

pub closings_go_on : {E : Type 0} → ClosingsGoOn E
closings_go_on layout start book later keeper kept region behind spare left events made l e m last at goes is_book is state =
    let closing = come_closing layout start book keeper region behind spare left events made l e state m last goes.lanes.inside at in
    let first = first_over layout start book keeper region behind spare left events made l e state m last goes.lanes.inside at in
    let second = second_listed layout start book keeper region behind spare left events made l e state m last goes.lanes.inside at in
    let owed = closing_owed layout start book keeper region behind spare left events made l e state m last goes.lanes.inside at in
    let plan = end_plan (gates_in (lane_at book l).transaction true (made_in layout keeper (l % layout.partitions)).ledger) second.one in
    let stage = end_stage (lane_at book l).phase (lane_at book l).has_records (lane_at book l).doing Closing
    (call_at (lane_at book l).phase (lane_at book l).has_records (lane_at book l).part (lane_at book l).doing Closing at refl) in
    next_state layout start book later keeper kept region behind spare left events made l e state m last first.over
    (closes [] (gates_in (lane_at book l).transaction true (made_in layout keeper (l % layout.partitions)).ledger) 0) (λ none. cc) (λ place r added. cc) refl
    (omega (arith, plan)) second.can second.fits refl CLOSE_END ClosingEnd stage.0 (λ off. cc) (λ off. cc) closing.over.is_over stage.1
    (ap (λ u. noticed (layout_shape layout) (l % layout.partitions) u (txn_at state.w.lanes l)) closing.under_way) refl
    (record {
      over = closing.over;
      ends_alone = second.alone;
      ends = gates_in (lane_at book l).transaction true (made_in layout keeper (l % layout.partitions)).ledger;
      made = 0;
      under_way = refl;
      all_listed = second.listed;
    })
    (record {
      events = omega (arith, plan, owed);
      records = omega arith;
      lists = λ x has. (omega arith, omega arith, omega arith);
    })
    (omega (arith, owed)) goes is_book is
