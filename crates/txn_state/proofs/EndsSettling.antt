-- The last event of the append of an end: the closing of the transaction's other records begins.
use Rattle.std.proofs.Common.{◌≡◌, ◌≢◌, ◌⊎◌, inl, inr, ℕ, ◌+◌, ◌-◌, ◌*◌, ◌%◌, ◌<◌, ◌≤◌, ◌==◌, ◌&&◌, ◌++◌, not, Bool, true, false, if◌then◌else◌, List, [], ◌∷◌, length, map, length-append, None, Some, refl, sym, ap, ◌∙◌, subst, arith}
use Rattle.std.specs.List.{filter}
use Rattle.std.proofs.lemmas.List.Elements.{filter-append}
use Rattle.std.proofs.lemmas.Bool.Decides.{eqb_tells}
use Rattle.persist_model.specs.declared.event.Event.{Event}
use Rattle.persist_model.specs.Region.{Words, Region}
use Rattle.persist_model.specs.Kinds.{CHECKPOINT, END}
use Rattle.persist_model.specs.Records.{Log, Record, IsAmong, IsOf, IsEnd}
use Rattle.persist_model.specs.Shape.{Shape, log_words, part_of}
use Rattle.persist_model.specs.Chain.{view}
use Rattle.persist_model.specs.State.{State}
use Rattle.atomic_list.specs.Rules.{IsAtRest}
use Rattle.atomic_list.proofs.Parts.{parts_fit}
use Rattle.atomic_list.proofs.Walks.{few_buckets}
use Rattle.region_layout.specs.declared.layout.Layout.{Layout}
use Rattle.region_layout.specs.Layout.{layout_shape}
use Rattle.bucket_log.specs.declared.append.Place.{Place}
use Rattle.log_clearing.specs.Plans.{closing_plan}
use Rattle.log_clearing.specs.Closed.{IsListed}
use Rattle.lane_types.specs.declared.face.Entry.{Entry}
use Rattle.lane_book.specs.declared.book.Book.{Book}
use Rattle.lane_book.specs.declared.lane.Lane.{Lane}
use Rattle.lane_book.specs.declared.lane.Doing.TheVariants as Doing
use Rattle.lane_book.specs.FacesOf.{is_of, lane_at}
use Rattle.lane_book.specs.Lanes.{moved, entered_lane}
use Rattle.lane_book.specs.Steps.{IsNextEntry}
use Rattle.log_keeper.specs.declared.keeper.LogKeeper.{LogKeeper}
use Rattle.log_keeper.specs.declared.slots.Slot.{Slot}
use Rattle.log_keeper.specs.Keeper.{free_places, KeepsSlots, HasRoomIn}
use Rattle.log_keeper.specs.Ledger.{Drawn, Stored, Settled, Noted, if_settled, settled_log, newest_log}
use Rattle.log_keeper.specs.Ledger.{Stage as Step}
use Rattle.log_keeper.specs.Listing.{is_chosen, gates_in}
use Rattle.log_keeper.specs.Making.{made_part}
use Rattle.log_keeper.specs.Logged.{begun}
use Rattle.log_keeper.specs.Parts.{Running, rests, appends as adds, closes as shuts, plan_of, IsListedGate, CanRun}
use Rattle.log_keeper.proofs.GateLists.{gates_are_listed}
use Rattle.log_keeper.proofs.Ledgers.{in_ledger}
use Rattle.log_keeper.proofs.Newest.{in_newest}
use Rattle.history_laws.specs.Histories as plain
use Rattle.history_laws.specs.Histories.{fold}
use Rattle.history_laws.specs.UnderWay.{Added, an_update, a_deletion, a_rollback, a_compensation, an_undone_end, a_commit_end, Adding, record_of_adding, UnderWay, nothing, appends, closes}
use Rattle.txn_laws.specs.Txns.{Txn, txn_at, entry_of}
use Rattle.txn_laws.specs.NextRecords.{IsAppendOf}
use Rattle.txn_laws.specs.PartsOf.{IsClosingOf, Fits}
use Rattle.txn_laws.specs.Settled.{txn_behind, history_behind}
use Rattle.txn_laws.specs.Asks.{begun_part}
use Rattle.txn_laws.specs.Rooms.{sum_below}
use Rattle.txn_laws.specs.Worlds.{World, IsWorldAt}
use Rattle.txn_laws.proofs.Asking.{parts_begin}
use Rattle.txn_laws.proofs.TakenTxns.{one_record}
use Rattle.txn_state.specs.declared.parts.TheConstants.{CLOSE}
use Rattle.txn_state.specs.Stages.{Stage, Ending, Closing, stage_of, is_commit}
use Rattle.txn_state.specs.Seen.{noticed}
use Rattle.txn_state.specs.Ties.{plain_entry, IsEnding, IsEndingIt, IsCome, under_of, IsLaneOf}
use Rattle.txn_state.specs.Owing.{Needs, needs_at, records_noted}
use Rattle.txn_state.specs.Numbers.{unpaid, pending}
use Rattle.txn_state.specs.States.{is_joining, IsWorldBook, IsStateOf, reserved_for}
use Rattle.txn_state.specs.Changes.{HasLane, IsKept, paid_event}
use Rattle.txn_state.specs.AppendLaws.{IsMade, AreLeft, made_in, closing_begun, UndoneEndsSettle, CommitEndsSettle}
use Rattle.txn_state.proofs.Making.{test_same, test_other, under_held, held_changed, held_by_lane, IsChangedIn}
use Rattle.txn_state.proofs.Lanes.{reserved_less, lane_sum, HasItsEntry, its_entry, same_entry, entries_go, entries_stay, world_book}
use Rattle.txn_state.proofs.StageSteps.{EndsCall, commit, abort, call_at, stage_of_call}
use Rattle.txn_state.proofs.Named.{adding_of, AddsEnd, adds_end}
use Rattle.txn_state.proofs.PlanLengths.{append_between, closing_length}
use Rattle.txn_state.proofs.Rebuilding.{Owes, events_paid, records_owed, unpaid_sum, numbered_there, rebuilt}
use Rattle.txn_state.proofs.Moving.{HasSameBook, lane_as, appended_of}
use Rattle.txn_state.proofs.Going as going
use Rattle.txn_state.proofs.Settling as settling
use Rattle.txn_state.proofs.Given.{ends_no_gifts}
use Rattle.txn_state.proofs.StageSteps.{ends_by}

-- ---- with fewer wants

pub room_fewer : (slots : List Slot) (p m n : ℕ) → m ≤ n → HasRoomIn slots p n → HasRoomIn slots p m
room_fewer slots p m n le room x is = let has = room x is in let a = has.0 in let b = has.1 in let c = has.2 in (omega (arith, le, a), omega (arith, le, b), omega (arith, le, c))

-- at least an event less
pub record IsLess (needs later : Needs) : Type 0 where
  pub events : later.events + 1 ≤ needs.events
  pub records : later.records ≤ needs.records
  pub gates : later.gates ≤ needs.gates

pub owes_fewer : (E : Type 0) (shape : Shape) (p : ℕ) (n c : ℕ) (u : UnderWay) (x : Txn) (m d : ℕ) (v : UnderWay) (y : Txn) (stage : Stage) (keeper kept : LogKeeper) (lane later : Lane E) →
    p < length keeper.slots.items → KeepsSlots keeper.slots.items kept.slots.items → stage_of later ≡ stage → later.owed_events ≡ lane.owed_events - 1 → later.owed_records ≡ lane.owed_records →
    IsLess (needs_at shape p n c u x (stage_of lane)) (needs_at shape p m d v y stage) → Owes shape p n c u x keeper lane → Owes shape p m d v y kept later
owes_fewer E shape p n c u x m d v y stage keeper kept lane later inside slots is events records less owes = record {
  events = subst (λ st. (needs_at shape p m d v y st).events ≤ later.owed_events) (sym is) (let a = less.events in let b = owes.events in omega (arith, a, b, events));
  records = subst (λ st. (needs_at shape p m d v y st).records ≤ later.owed_records) (sym is) (let a = less.records in let b = owes.records in omega (arith, a, b, records));
  lists = subst (λ st. HasRoomIn kept.slots.items p (needs_at shape p m d v y st).gates) (sym is)
      (room_fewer kept.slots.items p (needs_at shape p m d v y stage).gates (needs_at shape p n c u x (stage_of lane)).gates less.gates
      (slots.lists p (needs_at shape p n c u x (stage_of lane)).gates inside owes.lists));
}

-- ---- the ledger's records of a transaction

pub settled_told : (stage : Step) → (stage ≡ Settled) ⊎ (stage ≢ Settled)
settled_told Drawn = inr (λ e. cc)
settled_told Stored = inr (λ e. cc)
settled_told Settled = inl refl

pub settled_among : (ledger : List Noted) (x : Noted) → IsAmong ledger x → x.stage ≡ Settled → IsAmong (settled_log ledger) x.entry
settled_among [] x m e = absurd m
settled_among (y ∷ ledger) x (inl same) e =
    subst (λ (st : Step). IsAmong (if_settled st y.entry (settled_log ledger)) x.entry) (sym e ∙ ap (λ (q : Noted). q.stage) same) (inl (ap (λ (q : Noted). q.entry) same))
settled_among (y ∷ ledger) x (inr m) e = by y.stage (settled_among ledger x m e)
  where
    by : (stage : Step) → IsAmong (settled_log ledger) x.entry → IsAmong (if_settled stage y.entry (settled_log ledger)) x.entry
    by Drawn k = k
    by Stored k = k
    by Settled k = inr k

-- a record of it that is no end
chosen_told : (t : ℕ) (r : Record) → is_chosen t false r ≡ true → (r.transaction ≡ t) × (IsEnd r → ⊥)
chosen_told t r on = elim (eqb_tells r.transaction t) [
  | inr ne ↦ absurd (let off = ne.0 in let none : (r.transaction == t) && not (r.kind == END) ≡ false = ap (λ (b : Bool). b && not (r.kind == END)) off in let e : true ≡ false = sym on ∙ none in cc)
  | inl same ↦ (
    same.1,
    λ ends. (
        let yes : (r.kind == END) ≡ true = test_same r.kind END ends in
        let none : (r.transaction == t) && not (r.kind == END) ≡ false = ap (λ (b : Bool). (r.transaction == t) && not b) yes ∙ ap (λ (b : Bool). b && false) same.0 in
        let e : true ≡ false = sym on ∙ none in cc),
  )
]

chosen_is : (t : ℕ) (r : Record) → r.transaction ≡ t → (IsEnd r → ⊥) → is_chosen t false r ≡ true
chosen_is t r of no_end = ap (λ (b : Bool). b && not (r.kind == END)) (test_same r.transaction t of) ∙ ap not (test_other r.kind END no_end)

some_gates : (gates : List ℕ) (a : ℕ) → IsAmong gates a → 1 ≤ length gates
some_gates [] a m = absurd m
some_gates (b ∷ gates) a m = omega arith

closing_long : (gates : List ℕ) → 1 ≤ length gates → length (closing_plan gates [] []) ≡ length gates + 1
closing_long [] one = absurd (omega (arith, one))
closing_long (a ∷ gates) one = closing_length a gates

-- a partition's chain has no more buckets than the region
pub chain_short : (shape : Shape) (p : ℕ) (w : Words) (chain : List ℕ) → p < shape.partitions → IsAtRest shape p w chain → length chain ≤ shape.buckets
chain_short shape p w chain inside rest = let few = few_buckets shape p chain rest.no_repeats rest.buckets in let fit = parts_fit shape p inside in omega (arith, few, fit)

-- with its end it is over
ends_over : (commits : Bool) (added : Added) (r : Record) (x : Txn) → IsEnding commits added → txn_behind added r x ≡ record x { over = true }
ends_over commits (an_update u) r x k = absurd k
ends_over commits (a_deletion g) r x k = absurd k
ends_over commits (a_rollback t) r x k = absurd k
ends_over commits (a_compensation u cell) r x k = absurd k
ends_over commits (an_undone_end t) r x k = refl
ends_over commits (a_commit_end t) r x k = refl

undone_history : (added : Added) (x : Txn) (history : List plain.Entry) → IsEnding false added → history_behind added x history ≡ history
undone_history (an_update u) x history k = refl
undone_history (a_deletion g) x history k = refl
undone_history (a_rollback t) x history k = refl
undone_history (a_compensation u cell) x history k = refl
undone_history (an_undone_end t) x history k = refl
undone_history (a_commit_end t) x history k = absurd (let e : false ≡ true = k in cc)

commit_history : (added : Added) (x : Txn) (history : List plain.Entry) → IsEnding true added → history_behind added x history ≡ history ++ entry_of x ∷ []
commit_history (an_update u) x history k = absurd k
commit_history (a_deletion g) x history k = absurd k
commit_history (a_rollback t) x history k = absurd k
commit_history (a_compensation u cell) x history k = absurd k
commit_history (an_undone_end t) x history k = absurd (let e : true ≡ false = k in cc)
commit_history (a_commit_end t) x history k = refl

-- ---- the closing begins

module _ (E : Type 0) (layout : Layout) (start : Words) (book : Book E) (keeper kept : LogKeeper) (region behind : Region) (spare left events made l : ℕ) (e : Event)
    (m : IsMade layout keeper region behind l e spare left events made) (st : IsStateOf layout start book keeper region spare events) (are : AreLeft layout keeper (l % layout.partitions) 1)
    (adding : Adding) (n : ℕ) (is : st.w.under (l % layout.partitions) ≡ appends adding n) (at : stage_of (lane_at book l) ≡ Ending)
    (come : IsEndingIt (appends adding n) (txn_at st.w.lanes l)) (kind : IsEnding (txn_at st.w.lanes l).commits adding.added)
    (keeps : IsKept keeper kept (closing_begun (l % layout.partitions) (lane_at book l).transaction (made_in layout keeper (l % layout.partitions)))) where
  abbrev p : ℕ
  p = l % layout.partitions

  abbrev x : Txn
  x = txn_at st.w.lanes l

  abbrev z : Txn
  z = record (txn_at st.w.lanes l) { over = true }

  abbrev t : ℕ
  t = (lane_at book l).transaction

  abbrev base_there : Words
  base_there = settling.base_there E layout start book keeper region behind spare left events made l e m st are adding n is

  abbrev state_there : State
  state_there = settling.state_there E layout start book keeper region behind spare left events made l e m st are adding n is

  abbrev chains_there : ℕ → List ℕ
  chains_there = settling.chains_there E layout start book keeper region behind spare left events made l e m st are adding n is

  abbrev pub settled : World
  settled = settling.settled E layout start book keeper region behind spare left events made l e m st are adding n is

  abbrev gates : List ℕ
  gates = gates_in (lane_at book l).transaction false settled.keeping.ledger

  abbrev v : World
  v = begun_part (l % layout.partitions) (closes gates [] 0) settled

  world_there : IsWorldAt (layout_shape layout) base_there state_there chains_there start settled behind
  world_there = settling.world_there E layout start book keeper region behind spare left events made l e m st are adding n is

  was : IsLaneOf layout book.blocks st.s.log (newest_log st.w.keeping.ledger) (appends adding n) p (lane_at book l) (txn_at st.w.lanes l)
  was = settling.was_here E layout start book keeper region behind spare left events made l e m st are adding n is

  fits : IsAppendOf (layout_shape layout) st.s (fold start st.w.history) p (txn_at st.w.lanes l) adding n
  fits = settling.fits E layout start book keeper region behind spare left events made l e m st are adding n is

  k : AddsEnd adding.added
  k = adds_end (txn_at st.w.lanes l).commits adding.added kind

  inside : l % layout.partitions < layout.partitions
  inside = settling.inside E layout start book keeper region behind spare left events made l e m st are adding n is

  txn_there : txn_at settled.lanes l ≡ z
  txn_there = settling.txn_there E layout start book keeper region behind spare left events made l e m st are adding n is
      ∙ ends_over (txn_at st.w.lanes l).commits adding.added (record_of_adding adding) (txn_at st.w.lanes l) kind

  number_is : (txn_at settled.lanes l).number ≡ (lane_at book l).transaction
  number_is = ap (λ (q : Txn). q.number) txn_there ∙ was.txn.number

  held_there : settled.keeping.holder p ≡ l
  held_there = settling.holder_there E layout start book keeper region behind spare left events made l e m st are adding n is p ∙ going.held_is E layout start book keeper region behind spare left events made l e m st

  rests_there : (settled.keeping.runs p).part ≡ rests
  rests_there = ap (λ (run : Running). run.part) (settling.rests_there E layout start book keeper region behind spare left events made l e m st are adding n is)

  -- each of its records in the ledger is settled
  all_settled : (q : Noted) → IsAmong settled.keeping.ledger q → q.entry.transaction ≡ (lane_at book l).transaction → q.stage ≡ Settled
  all_settled q among of = elim (settled_told q.stage) [ inl on ↦ on | inr off ↦ absurd (no_other (world_there.log.fits.others q among off)) ]
    where
      no_other : (i : ℕ) × (i < layout.partitions) × (place : Place) × ((settled.keeping.runs i).part ≡ adds place q.entry) → ⊥
      no_other run =
          let found = adding_of (settled.under run.0) run.2 q.entry (sym (ap (λ (r : Running). r.part) (world_there.parts run.0 run.1).run) ∙ run.3) in
          let fit : IsAppendOf (layout_shape layout) state_there (fold start settled.history) run.0 (txn_at settled.lanes (settled.keeping.holder run.0)) found.0 found.1 =
          subst (λ (u : UnderWay). Fits (layout_shape layout) state_there (fold start settled.history) run.0 (txn_at settled.lanes (settled.keeping.holder run.0)) u) found.2 (world_there.parts run.0 run.1).fits in
          let number : (txn_at settled.lanes (settled.keeping.holder run.0)).number ≡ (txn_at settled.lanes l).number = sym fit.of ∙ ap (λ (r : Record). r.transaction) found.3 ∙ of ∙ sym number_is in
          let same : settled.keeping.holder run.0 ≡ l = world_there.transactions.apart (settled.keeping.holder run.0) l fit.number number in
          let here : (txn_at settled.lanes l).part ≡ run.0 = sym (ap (λ (j : ℕ). (txn_at settled.lanes j).part) same) ∙ fit.here in
          let one : run.0 ≡ p = sym here ∙ ap (λ (q : Txn). q.part) txn_there ∙ fits.here in
          let no : rests ≡ adds run.2 q.entry = sym rests_there ∙ ap (λ (i : ℕ). (settled.keeping.runs i).part) (sym one) ∙ run.3 in cc

  -- a gate of the closing is that of a settled record
  listed : (a : ℕ) → IsAmong gates a → (r : Record) × IsAmong state_there.log r × (r.at ≡ a) × (r.transaction ≡ (lane_at book l).transaction) × (IsEnd r → ⊥)
  listed a among =
      let q = gates_are_listed.own (lane_at book l).transaction false settled.keeping.ledger a among in
      let told = chosen_told (lane_at book l).transaction q.0.entry q.2 in
      (q.0.entry, subst (λ (log : Log). IsAmong log q.0.entry) (sym world_there.log.logged.records) (settled_among settled.keeping.ledger q.0 q.1 (all_settled q.0 q.1 told.0)), q.3, told.0, told.1)

  no_check : (r : Record) → IsAmong state_there.log r → r.kind ≢ CHECKPOINT
  no_check r among = (world_there.transactions.known r among).2.1

  of_listed : (r : Record) → IsAmong state_there.log r → IsListed gates [] [] r → (r.transaction ≡ (lane_at book l).transaction) × (IsEnd r → ⊥)
  of_listed r among (inl on) =
      let q = listed r.at on in
      let same : r ≡ q.0 = one_record (layout_shape layout) base_there state_there world_there.log.logged.has r q.0 among q.1 (sym q.2) in
      (ap (λ (y : Record). y.transaction) same ∙ q.3, λ ends. q.4 (subst IsEnd same ends))
  of_listed r among (inr (inl on)) = absurd on
  of_listed r among (inr (inr on)) = absurd on

  closing_of : IsClosingOf state_there.log p z gates []
  closing_of = record {
    number = fits.number;
    here = fits.here;
    is_over = refl;
    zeroed_all = λ commits. was.txn.zeroed ∙ sym (ap length (ends_no_gifts layout book.blocks st.s.log (newest_log st.w.keeping.ledger) (appends adding n) p (lane_at book l) (txn_at st.w.lanes l) was
        (ends_by (lane_at book l).phase (lane_at book l).has_records (lane_at book l).part (lane_at book l).doing Ending at)));
    fenced_all = come.fenced;
    own = λ r among on. ((of_listed r among on).0 ∙ sym was.txn.number, no_check r among);
    first = λ none r among of no_end. (
        let q = in_ledger settled.keeping.ledger r (subst (λ (log : Log). IsAmong log r) world_there.log.logged.records among) in
        let chosen : is_chosen (lane_at book l).transaction false q.0.entry ≡ true =
        subst (λ (y : Record). is_chosen (lane_at book l).transaction false y ≡ true) (sym q.2) (chosen_is (lane_at book l).transaction r (of.0 ∙ was.txn.number) no_end) in
        subst (λ (y : Record). IsAmong gates y.at) q.2 (gates_are_listed.all (lane_at book l).transaction false settled.keeping.ledger q.0 q.1 chosen));
    rest = λ end among on is_end r other of. absurd ((of_listed end among on).1 is_end);
  }

  can_close : CanRun (layout_shape layout) p base_there state_there (chains_there p) (shuts gates [] [])
  can_close = (
    record {
      of_gates = λ a among. (let q = listed a among in (q.0, q.1, (q.2, q.4, no_check q.0 q.1)));
      of_ends = λ a among. absurd among;
      of_checkpoints = λ a among. absurd among;
    },
    in_part,
  )
    where
      in_part : (a : ℕ) → IsListedGate gates [] [] a → part_of (layout_shape layout) a ≡ p
      in_part a (inl among) =
          let q = listed a among in
          let of : IsOf (txn_at settled.lanes l).number q.0 = (q.3 ∙ sym number_is, no_check q.0 q.1) in
          ap (part_of (layout_shape layout)) (sym q.2) ∙ (world_there.transactions.each l).in_part q.0 q.1 of ∙ ap (λ (y : Txn). y.part) txn_there ∙ fits.here
      in_part a (inr (inl among)) = absurd among
      in_part a (inr (inr among)) = absurd among

  world : IsWorldAt (layout_shape layout) base_there state_there chains_there start v behind
  world = parts_begin (layout_shape layout) base_there state_there chains_there start settled behind p (closes gates [] 0) (record {
    inside = inside;
    free = rests_there;
    no_append = λ place r same. (let no : shuts gates [] [] ≡ adds place r = same in cc);
    none_made = refl;
    can = can_close;
    fits = subst (λ (q : Txn). IsClosingOf state_there.log p q gates []) (sym (ap (txn_at settled.lanes) held_there ∙ txn_there)) closing_of;
  }) world_there

  holder_is : v.keeping.holder p ≡ l
  holder_is = ap (λ (b : Bool). if b then settled.keeping.holder p else settled.keeping.holder p) (test_same p p refl) ∙ held_there

  under_here : v.under p ≡ closes gates [] 0
  under_here = ap (λ (b : Bool). if b then closes gates [] 0 else settled.under p) (test_same p p refl)

  under_is : under_of (layout_shape layout) v l ≡ closes gates [] 0
  under_is = under_held v p l holder_is ∙ under_here

  elsewhere : (q : ℕ) → q ≢ p → v.keeping.holder q ≡ (made_part (layout_shape layout) p st.w.keeping).holder q
  elsewhere q ne = ap (λ (b : Bool). if b then settled.keeping.holder p else settled.keeping.holder q) (test_other q p ne)

  runs_stay : (q : ℕ) → q ≢ p → v.keeping.runs q ≡ (made_part (layout_shape layout) p st.w.keeping).runs q
  runs_stay q ne = ap (λ (b : Bool). if b then begun (shuts gates [] []) else settled.keeping.runs q) (test_other q p ne)

  unders_stay : (q : ℕ) → q ≢ p → v.under q ≡ settled.under q
  unders_stay q ne = ap (λ (b : Bool). if b then closes gates [] 0 else settled.under q) (test_other q p ne)

  nobody : (j : ℕ) → j ≢ l → v.keeping.holder p ≢ j
  nobody j ne same = ne (sym same ∙ holder_is)

  changed : IsChangedIn (layout_shape layout) l st.w v
  changed = settling.changed E layout start book keeper region behind spare left events made l e m st are adding n is v refl elsewhere runs_stay unders_stay (λ j ne lt. nobody j ne) refl

  newest_is : newest_log v.keeping.ledger ≡ newest_log st.w.keeping.ledger
  newest_is = settling.newest_there E layout start book keeper region behind spare left events made l e m st are adding n is

  -- there is something to close
  has_gates : 1 ≤ length gates
  has_gates =
      let some = was.has_some come.going.some recorded come.going.runs in
      let q = in_newest settled.keeping.ledger some.0 (subst (λ (log : Log). IsAmong log some.0) (sym newest_is) some.1) in
      let chosen : is_chosen (lane_at book l).transaction false q.0.entry ≡ true =
      subst (λ (y : Record). is_chosen (lane_at book l).transaction false y ≡ true) (sym q.2) (chosen_is (lane_at book l).transaction some.0 (some.2.0.0 ∙ was.txn.number) some.2.1) in
      some_gates gates q.0.entry.at (gates_are_listed.all (lane_at book l).transaction false settled.keeping.ledger q.0 q.1 chosen)
    where
      recorded : (lane_at book l).has_records ≡ true
      recorded = by (call_at (lane_at book l).phase (lane_at book l).has_records (lane_at book l).part (lane_at book l).doing Ending at refl)
        where
          by : EndsCall (lane_at book l).has_records (lane_at book l).doing Ending → (lane_at book l).has_records ≡ true
          by (commit on doing has) = on
          by (abort on doing has) = on

  in_lanes : l < length st.w.lanes
  in_lanes = going.in_lanes E layout start book keeper region behind spare left events made l e m st

  runs_here : v.keeping.runs p ≡ begun (shuts gates [] [])
  runs_here = ap (λ (b : Bool). if b then begun (shuts gates [] []) else settled.keeping.runs p) (test_same p p refl)

  abbrev noted : ℕ
  noted = records_noted st.w (txn_at st.w.lanes l).number

  count_is : length gates ≡ noted
  count_is = ap length (settling.noted_there E layout start book keeper region behind spare left events made l e m st are adding n is (lane_at book l).transaction false)
      ∙ ap (records_noted st.w) (sym was.txn.number)

  owed_here : Owes (layout_shape layout) p noted (length (st.chains p)) (appends adding n) (txn_at st.w.lanes l) keeper (lane_at book l)
  owed_here = settling.owed_here E layout start book keeper region behind spare left events made l e m st are adding n is

  less : (j : ℕ) → IsLess (needs_at (layout_shape layout) p noted (length (st.chains p)) (appends adding n) (txn_at st.w.lanes l) (stage_of (lane_at book l)))
      (needs_at (layout_shape layout) p j (length (chains_there p)) (closes gates [] 0) z Closing)
  less j = subst (λ s. IsLess (needs_at (layout_shape layout) p noted (length (st.chains p)) (appends adding n) (txn_at st.w.lanes l) s)
      (needs_at (layout_shape layout) p j (length (chains_there p)) (closes gates [] 0) z Closing)) (sym at) (
      let short = chain_short (layout_shape layout) p (view p (log_words (layout_shape layout) base_there)) (chains_there p) inside (world_there.log.logged.rest p inside) in
      let long = closing_long gates has_gates in
      let count = count_is in
      let whole = settling.whole E layout start book keeper region behind spare left events made l e m st are adding n is in
      record { events = omega (arith, short, long, count, whole); records = omega arith; gates = omega arith })

  numbers : 10 * v.next ≤ made + (10 + sum_below (λ (q : ℕ). unpaid (v.under q)) layout.partitions)
  numbers =
      let old = st.numbered.records in
      let sum = unpaid_sum layout.partitions p st.w v inside (λ q ne. changed.unders q ne) in
      let before : unpaid (st.w.under p) ≡ 10 - n = ap unpaid is in
      let after : unpaid (v.under p) ≡ 0 = ap unpaid under_here in
      let long = (append_between (layout_shape layout) p adding.place (record_of_adding adding)).0 in
      let whole = settling.whole E layout start book keeper region behind spare left events made l e m st are adding n is in
      let count = m.counted in
      omega (arith, old, sum, before, after, long, whole, count)

  module _ (later : Book E) (here : Lane E) (same : HasSameBook (lane_at book l) here) (stage : stage_of here ≡ Closing) (owed : here.owed_events ≡ (lane_at book l).owed_events - 1)
      (owed_records : here.owed_records ≡ (lane_at book l).owed_records) (lanes : HasLane book later l here) (history : settled.history ≡ map plain_entry later.history.items)
      (next : later.next_transaction ≡ book.next_transaction) (reserved : (q : ℕ) → reserved_for layout later q ≤ reserved_for layout book q) (begun_same : here.begun ≡ (lane_at book l).begun)
      (commits : here.commits + pending here ≤ (lane_at book l).commits + pending (lane_at book l)) (is_book : IsWorldBook layout later) where
    own : IsLaneOf layout book.blocks state_there.log (newest_log v.keeping.ledger) (under_of (layout_shape layout) v l) p here (txn_at v.lanes l)
    own = subst (λ (q : Txn). IsLaneOf layout book.blocks state_there.log (newest_log v.keeping.ledger) (under_of (layout_shape layout) v l) p here q) (sym txn_there)
        (subst (λ (u : UnderWay). IsLaneOf layout book.blocks state_there.log (newest_log v.keeping.ledger) u p here z) (sym under_is)
        (subst (λ (log : Log). IsLaneOf layout book.blocks state_there.log log (closes gates [] 0) p here z) (sym newest_is)
        (lane_as E layout book.blocks st.s.log state_there.log (newest_log st.w.keeping.ledger) (appends adding n) (closes gates [] 0) p (txn_at st.w.lanes l) z (lane_at book l) here Closing was
        (record { number = refl; part = refl; words = refl; writes = refl; stored = refl; zeroed = refl; commits = refl; ended = refl; fenced = refl }) refl
        (λ off. (let e : true ≡ false = off in cc)) same (sym (ap (λ (q : Txn). q.updates) seen)) (sym (ap (λ (q : Txn). q.rolled) seen)) was.txn.linked was.txn.point (sym (ap (λ (q : Txn). q.gifts) seen)) stage (λ e. cc) (λ e. cc)
        (record { over = record { some = come.going.some; is_over = refl; fenced = come.fenced }; gates = gates; made = 0; under_way = refl }))))
      where
        seen : noticed (layout_shape layout) p (appends adding n) (txn_at st.w.lanes l) ≡ txn_at st.w.lanes l
        seen = settling.noticed_here E layout start book keeper region behind spare left events made l e m st are adding n is ∙ k.books (record_of_adding adding) (txn_at st.w.lanes l)

    owes_there : Owes (layout_shape layout) p (records_noted v (txn_at v.lanes l).number) (length (chains_there p)) (under_of (layout_shape layout) v l) (txn_at v.lanes l) kept here
    owes_there =
        subst (λ (q : Txn). Owes (layout_shape layout) p (records_noted v q.number) (length (chains_there p)) (under_of (layout_shape layout) v l) q kept here) (sym txn_there)
        (subst (λ (u : UnderWay). Owes (layout_shape layout) p (records_noted v z.number) (length (chains_there p)) u z kept here) (sym under_is)
        (owes_fewer E (layout_shape layout) p noted (length (st.chains p)) (appends adding n) (txn_at st.w.lanes l) (records_noted v z.number) (length (chains_there p)) (closes gates [] 0) z Closing
        keeper kept (lane_at book l) here (going.has_slot E layout start book keeper region behind spare left events made l e m st) keeps.slots stage owed owed_records
        (less (records_noted v z.number)) owed_here))

    one_owed : 1 ≤ (lane_at book l).owed_events
    one_owed = let a = (less 0).events in let b = owed_here.events in omega (arith, a, b)

    pub closing_state : IsStateOf layout start later kept behind left made
    closing_state = rebuilt E layout start book later keeper kept region behind spare left events made l (txn_at st.w.lanes l).number here base_there state_there chains_there v st (record {
      world = world;
      roomy = settling.roomy_there E layout start book keeper region behind spare left events made l e m st are adding n is (reserved_for layout later) reserved;
      beside = settling.beside E layout start book keeper region behind spare left events made l e m st are adding n is v refl elsewhere runs_stay unders_stay (λ j ne lt. nobody j ne) refl;
      apart = going.apart E layout start book keeper region behind spare left events made l e m st;
      lanes = lanes;
      keeping = ap (closing_begun p (lane_at book l).transaction) (ap (made_part (layout_shape layout) p) st.tied.keeping) ∙ sym keeps.kept;
      next = st.tied.next ∙ sym keeps.number;
      slots = keeps.slots;
      history = history;
      held = held_changed (layout_shape layout) l st.w v changed st.tied.held (held_by_lane (layout_shape layout) v l m.inside (subst (λ (j : ℕ). l < j) (sym changed.count) in_lanes) holder_is
          (λ none. (let no : closes gates [] 0 ≡ nothing = sym under_here ∙ none in cc))
          (subst (λ (run : Running). run.made < length (plan_of (layout_shape layout) p run.part)) (sym runs_here) (let long = closing_long gates has_gates in omega (arith, long))));
      own = own;
      fresh = subst (λ (j : ℕ). j < later.next_transaction) (sym (ap (λ (q : Txn). q.number) txn_there))
          (subst (λ (j : ℕ). (txn_at st.w.lanes l).number < j) (sym next) (st.tied.fresh l));
      no_less = omega (arith, next);
      owes = owes_there;
      stores = events_paid E book later l spare left here lanes (let one = one_owed in omega (arith, one, owed)) m.places st.owing.stores;
      places = records_owed E book later l (free_places keeper) (free_places kept) here lanes owed_records keeps.places st.owing.places;
      numbered = numbered_there E layout.partitions book later st.w v events made l here lanes next begun_same commits numbers st.numbered;
      opens = subst (λ (j : ℕ). 1 ≤ j) (sym keeps.number) st.opens;
      is_book = is_book;
    })

-- ---- what is appended at the end of a call

ending_of : (E : Type 0) (layout : Layout) (start : Words) (book : Book E) (keeper : LogKeeper) (region : Region) (spare events l : ℕ) (st : IsStateOf layout start book keeper region spare events) →
    stage_of (lane_at book l) ≡ Ending → IsCome st.s.log (st.w.under (l % layout.partitions)) (txn_at st.w.lanes l) (stage_of (lane_at book l)) → IsEndingIt (st.w.under (l % layout.partitions)) (txn_at st.w.lanes l)
ending_of E layout start book keeper region spare events l st at come = subst (IsCome st.s.log (st.w.under (l % layout.partitions)) (txn_at st.w.lanes l)) at come

pub undone_ends_settle : (E : Type 0) → UndoneEndsSettle E
undone_ends_settle E layout start book later keeper kept region behind spare left events made l e m are at aborts goes is_book keeps st =
    closing_state E layout start book keeper kept region behind spare left events made l e m st are found.0 found.1 found.2 at (subst (λ (u : UnderWay). IsEndingIt u (txn_at st.w.lanes l)) found.2 come) found.3 keeps
    later (moved CLOSE (paid_event (lane_at book l)))
    (record { transaction = refl; held = refl; writes = refl; updates = refl; stored = refl; gives = refl; has_records = refl; rolled = refl; ended = refl; committing = refl; takes = λ s k call. call; due = refl; ending = refl; gates = refl; entry = λ e has. has })
    stage refl refl goes.lanes
    (settling.history_there E layout start book keeper region behind spare left events made l e m st are found.0 found.1 found.2
    ∙ undone_history found.0.added (txn_at st.w.lanes l) st.w.history (subst (λ (b : Bool). IsEnding b found.0.added) (commits_is ∙ aborts) found.3)
    ∙ st.tied.history ∙ ap (λ h. map plain_entry h.items) (sym goes.history))
    goes.next (λ q. reserved_less layout book later l (moved CLOSE (paid_event (lane_at book l))) goes.lanes (omega arith) q) refl (omega arith)
    (world_book layout book later l (moved CLOSE (paid_event (lane_at book l))) goes.lanes is_book
    (entries_stay book later l (moved CLOSE (paid_event (lane_at book l))) goes
    (same_entry book.history.items l (lane_at book l) (moved CLOSE (paid_event (lane_at book l))) refl refl refl refl (its_entry book l st.is_book.entries)) (omega arith) st.is_book.entries) st.is_book)
  where
    come : IsEndingIt (st.w.under (l % layout.partitions)) (txn_at st.w.lanes l)
    come = ending_of E layout start book keeper region spare events l st at (going.was_here E layout start book keeper region behind spare left events made l e m st).come

    found : (adding : Adding) × (n : ℕ) × (st.w.under (l % layout.partitions) ≡ appends adding n) × IsEnding (txn_at st.w.lanes l).commits adding.added
    found = appended_of (IsEnding (txn_at st.w.lanes l).commits) (st.w.under (l % layout.partitions)) (going.busy E layout start book keeper region behind spare left events made l e m st) come.under_way

    commits_is : (txn_at st.w.lanes l).commits ≡ is_commit (lane_at book l).doing
    commits_is = (going.was_here E layout start book keeper region behind spare left events made l e m st).txn.commits

    stage : stage_of (moved CLOSE (paid_event (lane_at book l))) ≡ Closing
    stage = by (call_at (lane_at book l).phase (lane_at book l).has_records (lane_at book l).part (lane_at book l).doing Ending at refl)
      where
        by : EndsCall (lane_at book l).has_records (lane_at book l).doing Ending → stage_of (moved CLOSE (paid_event (lane_at book l))) ≡ Closing
        by (commit on doing has) = stage_of_call (lane_at book l).phase (lane_at book l).has_records CLOSE (lane_at book l).doing Doing.Commit on doing
        by (abort on doing has) = stage_of_call (lane_at book l).phase (lane_at book l).has_records CLOSE (lane_at book l).doing Doing.Abort on doing

-- ---- a commit

kept_mine : (E : Type 0) (l : ℕ) (xs : List (Entry E)) (entry : Entry E) → filter (is_of l) xs ≢ [] → filter (is_of l) (xs ++ entry ∷ []) ≢ []
kept_mine E l xs entry some none = some (front (filter (is_of l) xs) (filter (is_of l) (entry ∷ [])) (sym (filter-append (is_of l) xs (entry ∷ [])) ∙ none))
  where
    front : (ys zs : List (Entry E)) → ys ++ zs ≡ [] → ys ≡ []
    front [] zs e = refl
    front (y ∷ ys) zs e = absurd (let none : y ∷ (ys ++ zs) ≡ [] = e in cc)

new_mine : (E : Type 0) (l : ℕ) (xs : List (Entry E)) (entry : Entry E) → entry.lane ≡ l → filter (is_of l) (xs ++ entry ∷ []) ≢ []
new_mine E l xs entry mine none =
    back (filter (is_of l) xs) (sym (ap (λ (bs : List (Entry E)). filter (is_of l) xs ++ bs) one) ∙ sym (filter-append (is_of l) xs (entry ∷ [])) ∙ none)
  where
    one : filter (is_of l) (entry ∷ []) ≡ entry ∷ []
    one = ap (λ (b : Bool). if b then entry ∷ [] else []) (test_same entry.lane l mine)

    back : (ys : List (Entry E)) → ys ++ entry ∷ [] ≡ [] → ⊥
    back [] e = let none : entry ∷ [] ≡ [] = e in cc
    back (y ∷ ys) e = let none : y ∷ (ys ++ entry ∷ []) ≡ [] = e in cc

map_more : {A B : Type 0} (f : A → B) (xs : List A) (y : A) → map f (xs ++ y ∷ []) ≡ map f xs ++ f y ∷ []
map_more f [] y = refl
map_more f (x ∷ xs) y = ap (λ ys. f x ∷ ys) (map_more f xs y)

pub commit_ends_settle : (E : Type 0) → CommitEndsSettle E
commit_ends_settle E layout start book later keeper kept region behind spare left events made l e entry m are at commits has joins is_book keeps st =
    closing_state E layout start book keeper kept region behind spare left events made l e m st are found.0 found.1 found.2 at (subst (λ (u : UnderWay). IsEndingIt u (txn_at st.w.lanes l)) found.2 come) found.3 keeps
    later (moved CLOSE (entered_lane (paid_event (lane_at book l))))
    (record {
      transaction = refl;
      held = refl;
      writes = refl;
      updates = refl;
      stored = refl;
      gives = refl;
      has_records = refl;
      rolled = refl;
      ended = refl;
      committing = refl;
      takes = λ s k call. call;
      due = refl;
      ending = refl;
      gates = refl;
      entry = λ e none. (let no : None ≡ Some e = none in cc);
    })
    stage refl refl joins.lanes
    (settling.history_there E layout start book keeper region behind spare left events made l e m st are found.0 found.1 found.2
    ∙ commit_history found.0.added (txn_at st.w.lanes l) st.w.history (subst (λ (b : Bool). IsEnding b found.0.added) (commits_is ∙ commits) found.3)
    ∙ ap (λ (h : List plain.Entry). h ++ entry_of (txn_at st.w.lanes l) ∷ []) st.tied.history
    ∙ ap (λ (y : plain.Entry). map plain_entry book.history.items ++ y ∷ []) (sym (here.txn.entry entry has))
    ∙ sym (map_more plain_entry book.history.items entry) ∙ ap (map plain_entry) (sym joins.items))
    joins.next (λ q. reserved_less layout book later l (moved CLOSE (entered_lane (paid_event (lane_at book l)))) joins.lanes (omega arith) q) refl counted
    (world_book layout book later l (moved CLOSE (entered_lane (paid_event (lane_at book l)))) joins.lanes is_book
    (entries_go book later l (moved CLOSE (entered_lane (paid_event (lane_at book l)))) joins.lanes
    (λ k some. subst (λ (h : List (Entry E)). filter (is_of k) h ≢ []) (sym joins.items) (kept_mine E k book.history.items entry some)) own_entry places st.is_book.entries) st.is_book)
  where
    here : IsLaneOf layout book.blocks st.s.log (newest_log st.w.keeping.ledger) (st.w.under (l % layout.partitions)) (l % layout.partitions) (lane_at book l) (txn_at st.w.lanes l)
    here = going.was_here E layout start book keeper region behind spare left events made l e m st

    come : IsEndingIt (st.w.under (l % layout.partitions)) (txn_at st.w.lanes l)
    come = ending_of E layout start book keeper region spare events l st at here.come

    found : (adding : Adding) × (n : ℕ) × (st.w.under (l % layout.partitions) ≡ appends adding n) × IsEnding (txn_at st.w.lanes l).commits adding.added
    found = appended_of (IsEnding (txn_at st.w.lanes l).commits) (st.w.under (l % layout.partitions)) (going.busy E layout start book keeper region behind spare left events made l e m st) come.under_way

    commits_is : (txn_at st.w.lanes l).commits ≡ is_commit (lane_at book l).doing
    commits_is = here.txn.commits

    stage : stage_of (moved CLOSE (entered_lane (paid_event (lane_at book l)))) ≡ Closing
    stage = by (call_at (lane_at book l).phase (lane_at book l).has_records (lane_at book l).part (lane_at book l).doing Ending at refl)
      where
        by : EndsCall (lane_at book l).has_records (lane_at book l).doing Ending → stage_of (moved CLOSE (entered_lane (paid_event (lane_at book l)))) ≡ Closing
        by (commit on doing has) = stage_of_call (lane_at book l).phase (lane_at book l).has_records CLOSE (lane_at book l).doing Doing.Commit on doing
        by (abort on doing has) = stage_of_call (lane_at book l).phase (lane_at book l).has_records CLOSE (lane_at book l).doing Doing.Abort on doing

    -- its entry hasn't joined yet
    unentered : (b : Bool) → (lane_at book l).entered ≡ b → b ≡ false
    unentered false is = refl
    unentered true is = absurd (let none = (st.is_book.entries.joined l commits is).out in let no : Some entry ≡ None = sym has ∙ none in cc)

    waits : (lane_at book l).entered ≡ false
    waits = unentered (lane_at book l).entered refl

    mine : entry.lane ≡ l
    mine = (subst (λ o. IsNextEntry l (lane_at book l).begun o) has (st.is_book.entries.waits l commits waits).next).0

    own_entry : HasItsEntry later.history.items l (moved CLOSE (entered_lane (paid_event (lane_at book l))))
    own_entry = record {
      others = λ off. absurd (let no : true ≡ false = sym commits ∙ off in cc);
      waits = λ on new. absurd (let no : true ≡ false = new in cc);
      joined = λ on is. (refl, subst (λ (h : List (Entry E)). filter (is_of l) h ≢ []) (sym joins.items) (new_mine E l book.history.items entry mine));
    }

    joining_was : is_joining (lane_at book l) ≡ 1
    joining_was = ap (λ (b : Bool). if b && not (lane_at book l).entered then 1 else 0) commits ∙ ap (λ (b : Bool). if not b then 1 else 0) waits

    joining_is : is_joining (moved CLOSE (entered_lane (paid_event (lane_at book l)))) ≡ 0
    joining_is = ap (λ (b : Bool). if b && false then 1 else 0) commits

    places : length later.history.items + sum_below (λ k. is_joining (lane_at later k)) (length later.lanes.items) ≤ later.history.capacity
    places =
        let sum = lane_sum is_joining book later l (moved CLOSE (entered_lane (paid_event (lane_at book l)))) joins.lanes in
        let old = st.is_book.entries.places in
        let was = joining_was in
        let now = joining_is in
        let count : length later.history.items ≡ length (book.history.items ++ entry ∷ []) = ap length joins.items in
        let more = length-append book.history.items (entry ∷ []) in
        let room = joins.capacity in
        omega (arith, sum, old, was, now, count, more, room)

    counted : (moved CLOSE (entered_lane (paid_event (lane_at book l)))).commits + pending (moved CLOSE (entered_lane (paid_event (lane_at book l)))) ≤
        (lane_at book l).commits + pending (lane_at book l)
    counted = let one : pending (lane_at book l) ≡ 1 = pends in omega (arith, one)
      where
        pends : pending (lane_at book l) ≡ 1
        pends = ap (λ (b : Bool). if b then 0 else (if (lane_at book l).transaction == 0 then 0 else 1)) waits
            ∙ ap (λ (b : Bool). if b then 0 else 1) (test_other (lane_at book l).transaction 0 (λ none. (let some = come.going.some in let is = here.txn.number in omega (arith, some, is, none))))
