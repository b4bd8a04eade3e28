-- An event of a lane's part that neither stores a gate nor is the last.
use Rattle.std.proofs.Common.{◌≡◌, ◌≢◌, inl, inr, ℕ, ◌+◌, ◌%◌, ◌<◌, ◌≤◌, ◌==◌, ◌&&◌, Bool, true, false, if◌then◌else◌, List, length, map, reverse, refl, sym, ap, ◌∙◌, subst, arith}
use Rattle.std.proofs.lemmas.Bool.Decides.{eqb_tells}
use Rattle.persist_model.specs.declared.event.Event.{Event}
use Rattle.persist_model.specs.Region.{Words, Region}
use Rattle.persist_model.specs.Records.{Log, Record}
use Rattle.persist_model.specs.Shape.{Shape}
use Rattle.persist_model.specs.State.{State}
use Rattle.region_layout.specs.declared.layout.Layout.{Layout}
use Rattle.region_layout.specs.Layout.{layout_shape}
use Rattle.offset_alloc.specs.declared.Standing.{Standing}
use Rattle.lane_book.specs.declared.book.Book.{Book}
use Rattle.lane_book.specs.declared.lane.Lane.{Lane}
use Rattle.lane_book.specs.FacesOf.{lane_at}
use Rattle.lane_book.specs.Books.{IsBook}
use Rattle.lane_book.specs.Reserved.{reserved_by}
use Rattle.log_keeper.specs.declared.keeper.LogKeeper.{LogKeeper}
use Rattle.log_keeper.specs.Keeper.{keeping_of, free_places}
use Rattle.log_keeper.specs.Parts.{LogPart, Running, appends as adds, plan_of}
use Rattle.log_keeper.specs.Ledger.{newest_log}
use Rattle.log_keeper.specs.Making.{made_part}
use Rattle.log_keeper.specs.Logged.{Keeping, plan_in}
use Rattle.log_keeper.proofs.Newest.{newest_logs_made}
use Rattle.history_laws.specs.Histories.{fold}
use Rattle.history_laws.specs.UnderWay.{UnderWay, nothing, appends, closes, takes_back, drops, run_of, record_of_adding}
use Rattle.bucket_log.specs.declared.append.Place.{Place}
use Rattle.bucket_log.specs.Appends.{region_append}
use Rattle.txn_laws.specs.Txns.{Txn, txn_at, Gift}
use Rattle.txn_laws.specs.PartsOf.{Fits}
use Rattle.txn_laws.specs.Going.{further, gone_on}
use Rattle.txn_laws.specs.Rooms.{IsRoomy, is_append, stores_gate, taken_in}
use Rattle.txn_laws.specs.Worlds.{World}
use Rattle.txn_laws.proofs.Rooms.{parts_are_roomy}
use Rattle.txn_state.specs.Stages.{stage_of}
use Rattle.txn_state.specs.Ties.{plain_entry, AreCellsOf, under_of, IsLaneOf, HasGiven}
use Rattle.txn_state.specs.Owing.{needs_at, records_noted}
use Rattle.txn_state.specs.States.{is_joining, IsStateOf, reserved_for}
use Rattle.txn_state.specs.Changes.{GoesTo, IsKept, paid_event}
use Rattle.txn_state.specs.QuietLaws.{HasSameTransaction}
use Rattle.txn_state.specs.AppendLaws.{IsMade, AreLeft, made_in, PartsGoOn}
use Rattle.txn_state.proofs.Making.{test_same, adds_same, takes_same, beside_changed, region_is, left_there, keeping_there}
use Rattle.txn_state.proofs.Lanes.{reserved_less, reserved_by_same, its_entry, same_entry, joining_same, entries_stay, world_book}
use Rattle.txn_state.proofs.Likeness.{IsLike, like_lane, IsOneLess, WaitsYet, come_further, txn_waits, noticed_waits, needs_further}
use Rattle.txn_state.proofs.Rebuilding.{Owes, events_paid, records_owed, numbered_there, rebuilt}
use Rattle.txn_state.proofs.SameTransaction.{pending_same}
use Rattle.txn_state.proofs.Going as going
use Rattle.txn_state.proofs.Given.{block_further}

-- where the next event doesn't store the gate, it isn't stored behind it
waits_of : (shape : Shape) (s : State) (h : Words) (p n : ℕ) (x : Txn) (u : UnderWay) → (run_of u).made + (n + 2) ≡ length (plan_of shape p (run_of u).part) →
    (is_append (run_of u).part && ((run_of u).made + 2 == length (plan_of shape p (run_of u).part))) ≡ false → Fits shape s h p x u → WaitsYet shape p x u
waits_of shape s h p n x nothing left off fits = tt
waits_of shape s h p n x (appends adding made) left off fits = (
  elim (eqb_tells (made + 2) (length (region_append shape p adding.place (record_of_adding adding)))) [
    | inl e ↦ absurd (let on = e.0 in let is : true ≡ false = sym on ∙ off in cc)
    | inr e ↦ (let ne = e.1 in omega (arith, left, ne))
  ],
  fits.ended_is,
)
waits_of shape s h p n x (closes gates ends made) left off fits = tt
waits_of shape s h p n x (takes_back gates made) left off fits = tt
waits_of shape s h p n x (drops r made) left off fits = tt

-- the lane has one event more made
pub lane_further : (E : Type 0) (layout : Layout) (blocks : List Standing) (log newest : Log) (u : UnderWay) (p : ℕ) (lane : Lane E) (x : Txn) → u ≢ nothing → WaitsYet (layout_shape layout) p x u →
    IsLaneOf layout blocks log newest u p lane x → IsLaneOf layout blocks log newest (further u) p lane x
lane_further E layout blocks log newest u p lane x busy waits is = let t = is.txn in record {
  txn = record {
    number = t.number;
    here = t.here;
    writes = t.writes;
    stored = t.stored;
    zeroed = t.zeroed;
    commits = t.commits;
    updates = subst (λ (y : Txn). AreCellsOf (reverse lane.updates.items) y.updates) (sym (noticed_waits (layout_shape layout) p x u waits)) t.updates;
    rolled = ap (λ (y : Txn). y.rolled) (noticed_waits (layout_shape layout) p x u waits) ∙ t.rolled;
    ended = t.ended;
    linked = t.linked;
    point = t.point;
    entry = t.entry;
  };
  come = come_further log u x (stage_of lane) busy is.come;
  given = subst (λ (gs : List Gift). HasGiven layout blocks lane.held lane.gives.items lane.gates.items gs x.words) (sym (ap (λ (y : Txn). y.gifts) (noticed_waits (layout_shape layout) p x u waits))) is.given;
  counts = is.counts;
  deleting = λ k call. (block_further layout k u (is.deleting k call).0, (is.deleting k call).1);
  ends_ungiven = is.ends_ungiven;
  written_words = is.written_words;
  taking = is.taking;
  naming = is.naming;
  recorded = is.recorded;
  begun = is.begun;
  has_some = is.has_some;
  uncompensated = is.uncompensated;
}

like_of : (E : Type 0) (lane later : Lane E) → HasSameTransaction (paid_event lane) later → IsLike lane later
like_of E lane later same = record {
  stage = same.stage;
  transaction = same.transaction;
  held = same.held;
  writes = same.writes;
  updates = same.updates;
  waits = same.waits;
  stored = same.stored;
  gives = same.gives;
  has_records = same.has_records;
  rolled = same.rolled;
  ended = same.ended;
  entry = same.entry;
  committing = same.committing;
  takes = same.takes;
  due = same.due;
  gives_same = same.gives_same;
  ending = same.ending;
  gates = same.gates;
  gates_wait = same.gates_wait;
  promised = same.promised;
}

none_taken : (b t : Bool) → t ≡ false → ◌≡◌ {A = ℕ} (if b && t then 1 else 0) 0
none_taken true t off = subst (λ (k : Bool). ◌≡◌ {A = ℕ} (if k then 1 else 0) 0) (sym off) refl
none_taken false t off = refl

module _ (E : Type 0) (layout : Layout) (start : Words) (book later : Book E) (keeper kept : LogKeeper) (region behind : Region) (spare left events made l n : ℕ) (e : Event) (lane : Lane E)
    (m : IsMade layout keeper region behind l e spare left events made) (are : AreLeft layout keeper (l % layout.partitions) (n + 2))
    (no_gate : stores_gate (layout_shape layout) (keeping_of keeper) (l % layout.partitions) ≡ false)
    (same : HasSameTransaction (paid_event (lane_at book l)) lane) (goes : GoesTo book later l lane) (is_book : IsBook later)
    (keeps : IsKept keeper kept (made_in layout keeper (l % layout.partitions))) (st : IsStateOf layout start book keeper region spare events) where
  abbrev p : ℕ
  p = l % layout.partitions

  abbrev x : Txn
  x = txn_at st.w.lanes l

  abbrev u : UnderWay
  u = st.w.under p

  gate_off : stores_gate (layout_shape layout) st.w.keeping p ≡ false
  gate_off = subst (λ (k : Keeping). stores_gate (layout_shape layout) k p ≡ false) (sym st.tied.keeping) no_gate

  left_is : (st.w.keeping.runs p).made + (n + 2) ≡ length (plan_in (layout_shape layout) st.w.keeping p)
  left_is = left_there E layout book keeper st.s st.w st.tied (going.one_part E layout start book keeper region behind spare left events made l e m st) region behind l e spare left events made m (n + 2) are

  more : (st.w.keeping.runs p).made + 1 < length (plan_in (layout_shape layout) st.w.keeping p)
  more = let is = left_is in omega (arith, is)

  run_eq : st.w.keeping.runs p ≡ run_of (st.w.under p)
  run_eq = going.run_is E layout start book keeper region behind spare left events made l e m st

  waits : WaitsYet (layout_shape layout) p (txn_at st.w.lanes l) (st.w.under p)
  waits = waits_of (layout_shape layout) st.s (fold start st.w.history) p n (txn_at st.w.lanes l) (st.w.under p)
      (subst (λ (run : Running). run.made + (n + 2) ≡ length (plan_of (layout_shape layout) p run.part)) run_eq left_is)
      (subst (λ (run : Running). (is_append run.part && (run.made + 2 == length (plan_of (layout_shape layout) p run.part))) ≡ false) run_eq gate_off)
      (going.fits_is E layout start book keeper region behind spare left events made l e m st)

  abbrev v : World
  v = gone_on (layout_shape layout) (l % layout.partitions) st.w

  txn_same : txn_at v.lanes l ≡ txn_at st.w.lanes l
  txn_same = going.txn_on E layout start book keeper region behind spare left events made l e m st more ∙ txn_waits (layout_shape layout) p (txn_at st.w.lanes l) (st.w.under p) waits

  under_same : under_of (layout_shape layout) v l ≡ further (st.w.under p)
  under_same = going.under_on E layout start book keeper region behind spare left events made l e m st more

  newest_same : newest_log (made_part (layout_shape layout) p st.w.keeping).ledger ≡ newest_log st.w.keeping.ledger
  newest_same = elim (eqb_tells n 0) [
    | inr ne ↦ (let some = ne.1 in let is = left_is in newest_logs_made.waits (layout_shape layout) p st.w.keeping (omega (arith, some, is)))
    | inl none ↦ newest_logs_made.adds_none (layout_shape layout) p st.w.keeping (no_append none.1) more
  ]
    where
      no_append : n ≡ 0 → (place : Place) (r : Record) → (st.w.keeping.runs p).part ≢ adds place r
      no_append none place r is = (
          let off : (is_append (adds place r) && ((st.w.keeping.runs p).made + 2 == length (plan_in (layout_shape layout) st.w.keeping p))) ≡ false =
          subst (λ (part : LogPart). (is_append part && ((st.w.keeping.runs p).made + 2 == length (plan_in (layout_shape layout) st.w.keeping p))) ≡ false) is gate_off in
          let long = left_is in
          let on = test_same ((st.w.keeping.runs p).made + 2) (length (plan_in (layout_shape layout) st.w.keeping p)) (omega (arith, long, none)) in
          let no : true ≡ false = sym on ∙ off in cc)

  own_lane : IsLaneOf layout book.blocks st.s.log (newest_log v.keeping.ledger) (under_of (layout_shape layout) v l) p lane (txn_at v.lanes l)
  own_lane =
      subst (λ (y : Txn). IsLaneOf layout book.blocks st.s.log (newest_log v.keeping.ledger) (under_of (layout_shape layout) v l) p lane y) (sym txn_same)
      (subst (λ (y : UnderWay). IsLaneOf layout book.blocks st.s.log (newest_log v.keeping.ledger) y p lane (txn_at st.w.lanes l)) (sym under_same)
      (subst (λ (log : Log). IsLaneOf layout book.blocks st.s.log log (further (st.w.under p)) p lane (txn_at st.w.lanes l)) (sym newest_same)
      (lane_further E layout book.blocks st.s.log (newest_log st.w.keeping.ledger) (st.w.under p) p lane (txn_at st.w.lanes l)
      (going.busy E layout start book keeper region behind spare left events made l e m st) waits
      (like_lane E layout book.blocks st.s.log (newest_log st.w.keeping.ledger) (st.w.under p) p (lane_at book l) lane (txn_at st.w.lanes l) (like_of E (lane_at book l) lane same)
      (going.was_here E layout start book keeper region behind spare left events made l e m st)))))

  abbrev noted : ℕ
  noted = records_noted st.w (txn_at st.w.lanes l).number

  less : IsOneLess (needs_at (layout_shape layout) p noted (length (st.chains p)) (st.w.under p) (txn_at st.w.lanes l) (stage_of (lane_at book l)))
      (needs_at (layout_shape layout) p noted (length (st.chains p)) (further (st.w.under p)) (txn_at st.w.lanes l) (stage_of (lane_at book l)))
  less = needs_further (layout_shape layout) p noted (length (st.chains p)) st.s.log (st.w.under p) (txn_at st.w.lanes l) (stage_of (lane_at book l))
      (going.busy E layout start book keeper region behind spare left events made l e m st) (going.has_event E layout start book keeper region behind spare left events made l e m st more)
      (going.was_here E layout start book keeper region behind spare left events made l e m st).come

  owes_there : Owes (layout_shape layout) p (records_noted v (txn_at v.lanes l).number) (length (st.chains p)) (under_of (layout_shape layout) v l) (txn_at v.lanes l) kept lane
  owes_there =
      subst (λ (y : Txn). Owes (layout_shape layout) p (records_noted v y.number) (length (st.chains p)) (under_of (layout_shape layout) v l) y kept lane) (sym txn_same)
      (subst (λ (y : UnderWay). Owes (layout_shape layout) p (records_noted v (txn_at st.w.lanes l).number) (length (st.chains p)) y (txn_at st.w.lanes l) kept lane) (sym under_same)
      (subst (λ (k : ℕ). Owes (layout_shape layout) p k (length (st.chains p)) (further (st.w.under p)) (txn_at st.w.lanes l) kept lane)
      (sym (ap length (going.noted_on E layout start book keeper region behind spare left events made l e m st more (txn_at st.w.lanes l).number false)))
      (going.owes_less E (layout_shape layout) p noted (length (st.chains p)) (st.w.under p) (txn_at st.w.lanes l) noted (length (st.chains p)) (further (st.w.under p)) (txn_at st.w.lanes l)
      keeper kept (lane_at book l) lane (going.has_slot E layout start book keeper region behind spare left events made l e m st) keeps.slots same.stage same.owed_events same.owed_records less
      (going.owed_here E layout start book keeper region behind spare left events made l e m st))))

  one_owed : 1 ≤ (lane_at book l).owed_events
  one_owed = going.event_owed E (layout_shape layout) p noted (length (st.chains p)) (st.w.under p) (txn_at st.w.lanes l)
      (needs_at (layout_shape layout) p noted (length (st.chains p)) (further (st.w.under p)) (txn_at st.w.lanes l) (stage_of (lane_at book l))) keeper (lane_at book l) less
      (going.owed_here E layout start book keeper region behind spare left events made l e m st)

  same_reserved : reserved_by lane ≤ reserved_by (lane_at book l)
  same_reserved = let is : reserved_by lane ≡ reserved_by (lane_at book l) = reserved_by_same (lane_at book l) lane same.promised same.has_records same.ended same.rolled same.updates in omega (arith, is)

  roomy : IsRoomy (layout_shape layout) behind (reserved_for layout later)
  roomy = subst (λ (r : Region). IsRoomy (layout_shape layout) r (reserved_for layout later))
      (sym (region_is E layout book keeper st.s st.w st.tied (going.one_part E layout start book keeper region behind spare left events made l e m st) region behind l e spare left events made m))
      (parts_are_roomy (layout_shape layout) st.base st.s st.chains start st.w region (reserved_for layout book) (reserved_for layout later) p e
      (going.next E layout start book keeper region behind spare left events made l e m st) st.world
      (λ q lt. (let none : taken_in (layout_shape layout) st.w.keeping p q ≡ 0 = none_taken (q == p) (stores_gate (layout_shape layout) st.w.keeping p) gate_off in
      let fewer = reserved_less layout book later l lane goes.lanes same_reserved q in omega (arith, none, fewer))) st.roomy)

  pub state_on : IsStateOf layout start later kept behind left made
  state_on = rebuilt E layout start book later keeper kept region behind spare left events made l (txn_at st.w.lanes l).number lane st.base st.s st.chains v st (record {
    world = going.world_on E layout start book keeper region behind spare left events made l e m st more;
    roomy = roomy;
    beside = beside_changed (layout_shape layout) l (txn_at st.w.lanes l).number st.s.log st.s.log st.chains st.chains st.w v
        (going.changed_on E layout start book keeper region behind spare left events made l e m st more) (adds_same (txn_at st.w.lanes l).number st.s.log st.s.log refl)
        (adds_same (txn_at st.w.lanes l).number (newest_log st.w.keeping.ledger) (newest_log v.keeping.ledger) newest_same)
        (takes_same (txn_at st.w.lanes l).number (newest_log st.w.keeping.ledger) (newest_log v.keeping.ledger) newest_same)
        (λ t ne. going.noted_on E layout start book keeper region behind spare left events made l e m st more t false) (λ q ne. refl);
    apart = going.apart E layout start book keeper region behind spare left events made l e m st;
    lanes = goes.lanes;
    keeping = keeping_there E layout book keeper st.s st.w st.tied (going.one_part E layout start book keeper region behind spare left events made l e m st) region behind l e spare left events made m
        (keeping_of kept) keeps.kept;
    next = st.tied.next ∙ sym keeps.number;
    slots = keeps.slots;
    history = st.tied.history ∙ ap (λ h. map plain_entry h.items) (sym goes.history);
    held = going.held_on E layout start book keeper region behind spare left events made l e m st more;
    own = own_lane;
    fresh = subst (λ (y : Txn). y.number < later.next_transaction) (sym txn_same) (subst (λ (k : ℕ). (txn_at st.w.lanes l).number < k) (sym goes.next) (st.tied.fresh l));
    no_less = (let is = goes.next in omega (arith, is));
    owes = owes_there;
    stores = events_paid E book later l spare left lane goes.lanes (let one = one_owed in let is = same.owed_events in omega (arith, one, is)) m.places st.owing.stores;
    places = records_owed E book later l (free_places keeper) (free_places kept) lane goes.lanes same.owed_records keeps.places st.owing.places;
    numbered = numbered_there E layout.partitions book later st.w v events made l lane goes.lanes goes.next same.begun
        (let a = same.commits in let b = pending_same (lane_at book l) lane same.entered same.transaction in omega (arith, a, b))
        (going.records_on E layout start book keeper region behind spare left events made l e m st more) st.numbered;
    opens = subst (λ (k : ℕ). 1 ≤ k) (sym keeps.number) st.opens;
    is_book = world_book layout book later l lane goes.lanes is_book
        (entries_stay book later l lane goes (same_entry book.history.items l (lane_at book l) lane same.committing same.entered same.entry same.begun (its_entry book l st.is_book.entries))
        (let is : is_joining lane ≡ is_joining (lane_at book l) = joining_same (lane_at book l) lane same.committing same.entered in omega (arith, is)) st.is_book.entries) st.is_book;
  })

pub parts_go_on : (E : Type 0) → PartsGoOn E
parts_go_on E layout start book later keeper kept region behind spare left events made l n e lane m are no_gate same goes is_book keeps st =
    state_on E layout start book later keeper kept region behind spare left events made l n e lane m are no_gate same goes is_book keeps st
