-- Behind the last event of a group of a closing, or of a removal, the lane begins the next part.
use Rattle.std.proofs.Common.{◌≡◌, ◌≢◌, inl, inr, ℕ, ◌+◌, ◌*◌, ◌-◌, ◌%◌, ◌<◌, ◌≤◌, ◌==◌, ◌||◌, Bool, true, false, if◌then◌else◌, List, ◌∷◌, length, reverse, refl, sym, ap, ◌∙◌, subst, arith, length-append}
use Rattle.std.proofs.lemmas.Bool.Decides.{eqb_tells}
use Rattle.persist_model.specs.declared.event.Event.{Event}
use Rattle.persist_model.specs.Region.{Words, Region}
use Rattle.persist_model.specs.Shape.{Shape, log_words}
use Rattle.persist_model.specs.Chain.{view, out_address}
use Rattle.persist_model.specs.State.{State}
use Rattle.atomic_list.specs.declared.plans.Remove.{Remove}
use Rattle.atomic_list.specs.Rules.{IsAtRest, at_rest}
use Rattle.atomic_list.specs.Walk.{chain_of}
use Rattle.atomic_list.proofs.Walks.{chain_of_list}
use Rattle.region_layout.specs.declared.layout.Layout.{Layout}
use Rattle.region_layout.specs.Layout.{layout_shape}
use Rattle.bucket_log.specs.Words.{IsLogWord}
use Rattle.bucket_log.proofs.Appended.{inside_log}
use Rattle.bucket_log.proofs.Partitions.{part_word_below, log_word_out}
use Rattle.bucket_log.proofs.PartWords.{own_words_take}
use Rattle.log_clearing.specs.Dropping.{IsFirstClosed}
use Rattle.log_clearing.proofs.PartPlans.{own_words_drop}
use Rattle.log_clearing.proofs.RemovalStates.{read_removals_may_be_made}
use Rattle.lane_book.specs.declared.lane.Lane.{Lane}
use Rattle.lane_book.specs.declared.lane.Doing.{Doing}
use Rattle.lane_book.specs.declared.book.Book.{Book}
use Rattle.lane_book.specs.FacesOf.{lane_at}
use Rattle.lane_book.specs.Books.{IsBook}
use Rattle.lane_book.specs.Lanes.{moved}
use Rattle.lane_book.specs.Reserved.{reserved_by}
use Rattle.lane_types.specs.declared.call.Phase.{Phase}
use Rattle.log_keeper.specs.declared.keeper.LogKeeper.{LogKeeper}
use Rattle.log_keeper.specs.Parts.{LogPart, rests, drops as takes_out, Running, plan_of, CanRun}
use Rattle.log_keeper.specs.Keeper.{begun_in}
use Rattle.log_keeper.specs.Ledger.{newest_log}
use Rattle.log_keeper.specs.Logged.{Keeping, begun, plan_in, IsLoggedAt}
use Rattle.log_keeper.specs.Laws.{IsAtRestIn}
use Rattle.log_keeper.specs.Making.{made_part}
use Rattle.log_keeper.specs.Ordered.{IsNoAppend}
use Rattle.log_keeper.specs.Events.{region_made}
use Rattle.log_keeper.proofs.EventsPass.{resting_parts_are_settled}
use Rattle.history_laws.specs.Histories.{fold}
use Rattle.history_laws.specs.UnderWay.{UnderWay, nothing, drops, run_of}
use Rattle.txn_laws.specs.Txns.{Txn, txn_at}
use Rattle.txn_laws.specs.PartsOf.{Fits}
use Rattle.txn_laws.specs.Rooms.{sum_below}
use Rattle.txn_laws.specs.Worlds.{World, IsWorldAt}
use Rattle.txn_laws.specs.Asks.{begun_part}
use Rattle.txn_laws.specs.Dropped.{dropped}
use Rattle.txn_laws.proofs.Asking.{parts_begin}
use Rattle.txn_laws.proofs.Rooms.{AreFilled, newest_stand, filled_after}
use Rattle.txn_state.specs.declared.parts.TheConstants.{DROP}
use Rattle.txn_state.specs.Seen.{noticed}
use Rattle.txn_state.specs.Stages.{Stage, Naming, Dropping, stage_at, stage_of, Deleting}
use Rattle.txn_state.specs.Ties.{AreCellsOf, IsTxnOf, IsCome, under_of, IsLaneOf, HasGiven}
use Rattle.txn_state.specs.Owing.{REMOVAL_EVENTS, records_noted}
use Rattle.txn_state.specs.Numbers.{unpaid, pending}
use Rattle.txn_state.specs.States.{IsStateOf}
use Rattle.txn_state.specs.Changes.{GoesTo, IsKept, paid_event}
use Rattle.txn_state.specs.AppendLaws.{newest_image, IsMade, AreLeft, made_in}
use Rattle.txn_state.specs.ClosingLaws.{IsRemovalRead, RemovalsBegin}
use Rattle.txn_state.proofs.Sums.{sums_same}
use Rattle.txn_state.proofs.Making.{test_same, test_other, under_held, IsChangedIn, held_changed, held_by_lane, made_holder, made_elsewhere, made_ends, part_inside, holder_is, lane_inside, others_off, region_is, left_there}
use Rattle.txn_state.proofs.StageSteps.{EndsCall, commit, abort, stage_of_call, due_none}
use Rattle.txn_state.proofs.HeapSteps.{OwesIt, owes_to, le_same, less_one}
use Rattle.txn_state.proofs.PartsOver.{IsPartOver}
use Rattle.txn_state.proofs.ClosingSteps.{part_behind}
use Rattle.txn_state.proofs.Cleared.{IsCleared, cleared}
use Rattle.txn_state.proofs.Given.{deletes_none}

-- ---- the lane

-- the lane is at another part, with another part of the log under way, and has its transaction as it was
moved_txn : {E : Type 0} (shape : Shape) (p part : ℕ) (lane : Lane E) (u next : UnderWay) (x : Txn) → noticed shape p u x ≡ x → noticed shape p next x ≡ x → IsTxnOf shape p lane u x →
    IsTxnOf shape p (moved part (paid_event lane)) next x
moved_txn shape p part lane u next x was is t = record {
  number = t.number;
  here = t.here;
  writes = t.writes;
  stored = t.stored;
  zeroed = t.zeroed;
  commits = t.commits;
  updates = subst (λ (z : Txn). AreCellsOf (reverse lane.updates.items) z.updates) (was ∙ sym is) t.updates;
  rolled = ap (λ (z : Txn). z.rolled) (is ∙ sym was) ∙ t.rolled;
  ended = t.ended;
  linked = t.linked;
  point = t.point;
  entry = t.entry;
}

-- ---- the next part begins

module _ {E : Type 0} (layout : Layout) (start : Words) (book later : Book E) (keeper kept : LogKeeper) (region behind : Region) (spare left events made l : ℕ) (e : Event)
    (state : IsStateOf layout start book keeper region spare events) (m : IsMade layout keeper region behind l e spare left events made) (last_one : AreLeft layout keeper (l % layout.partitions) 1)
    (over : IsPartOver (layout_shape layout) start state.s state.chains state.w (l % layout.partitions) (txn_at state.w.lanes l).number (region_made state.w.keeping (l % layout.partitions) e region))
    (next : UnderWay) where
  abbrev its_shape : Shape
  its_shape = layout_shape layout

  abbrev p : ℕ
  p = l % layout.partitions

  abbrev was : World
  was = state.w

  abbrev x : Txn
  x = txn_at was.lanes l

  abbrev made_keeping : Keeping
  made_keeping = made_part its_shape p was.keeping

  abbrev region_there : Region
  region_there = region_made was.keeping p e region

  abbrev its_next : LogPart
  its_next = (run_of next).part

  abbrev begun_world : World
  begun_world = begun_part p next (dropped its_shape p was)

  some_part : 1 ≤ layout.partitions
  some_part = state.world.log.logged.allowed.partitions.0

  pub p_inside : p < layout.partitions
  p_inside = part_inside E layout book keeper state.s was state.tied some_part region behind l e spare left events made m

  holder_here : made_keeping.holder p ≡ l
  holder_here = made_holder its_shape p was.keeping p ∙ holder_is E layout book keeper state.s was state.tied some_part region behind l e spare left events made m

  inside : l < length was.lanes
  inside = lane_inside E layout book keeper state.s was state.tied some_part region behind l e spare left events made m

  last_there : (was.keeping.runs p).made + 1 ≡ length (plan_in its_shape was.keeping p)
  last_there = left_there E layout book keeper state.s was state.tied some_part region behind l e spare left events made m 1 last_one

  pub rests_there : (made_keeping.runs p).part ≡ rests
  rests_there = ap (λ (r : Running). r.part) (made_ends its_shape p was.keeping last_there)

  own_value : {A : Type 0} (a b : A) → (if p == p then a else b) ≡ a
  own_value a b = ap (λ t. if t then a else b) (test_same p p refl)

  other_value : {A : Type 0} (q : ℕ) (a b : A) → q ≢ p → (if q == p then a else b) ≡ b
  other_value q a b ne = ap (λ t. if t then a else b) (test_other q p ne)

  holder_now : begun_world.keeping.holder p ≡ l
  holder_now = own_value (made_keeping.holder p) (made_keeping.holder p) ∙ holder_here

  next_now : begun_world.under p ≡ next
  next_now = own_value next ((dropped its_shape p was).under p)

  pub under_next : under_of its_shape begun_world l ≡ next
  under_next = under_held begun_world p l holder_now ∙ next_now

  run_next : begun_world.keeping.runs p ≡ begun its_next
  run_next = own_value (begun its_next) (made_keeping.runs p)

  changed : IsChangedIn its_shape l was begun_world
  changed = record {
    holders = λ q ne. other_value q (made_keeping.holder p) (made_keeping.holder q) ne ∙ made_holder its_shape p was.keeping q;
    runs = λ q ne. other_value q (begun its_next) (made_keeping.runs q) ne ∙ made_elsewhere its_shape p was.keeping q ne;
    unders = λ q ne. other_value q next ((dropped its_shape p was).under q) ne ∙ other_value q nothing (was.under q) ne;
    before = λ k ne lt. others_off E layout book keeper state.s was state.tied some_part region behind l e spare left events made m k ne;
    behind = λ k ne lt holds. ne (sym holds ∙ holder_now);
    count = refl;
    others = λ k ne. refl;
  }

  module _ (busy : next ≢ nothing) (no_append : IsNoAppend its_next) (none_made : (run_of next).made ≡ 0) (some_events : 0 < length (plan_of its_shape p its_next))
      (can : CanRun its_shape p over.base over.state (over.chains_behind p) its_next) (fits : Fits its_shape over.state (fold start was.history) p x next) (none_unpaid : unpaid next ≡ 0) where
    world_there : IsWorldAt its_shape over.base over.state over.chains_behind start begun_world region_there
    world_there = parts_begin its_shape over.base over.state over.chains_behind start (dropped its_shape p was) region_there p next (record {
      inside = p_inside;
      free = rests_there;
      no_append = no_append;
      none_made = none_made;
      can = can;
      fits = subst (λ h. Fits its_shape over.state (fold start was.history) p (txn_at was.lanes h) next) (sym holder_here) fits;
    }) over.world

    unpaid_there : sum_below (λ q. unpaid (begun_world.under q)) layout.partitions ≡ sum_below (λ q. unpaid (was.under q)) layout.partitions
    unpaid_there = sums_same (λ q. unpaid (begun_world.under q)) (λ q. unpaid (was.under q)) layout.partitions (λ q lt. elim (eqb_tells q p) [
      | inl same ↦ subst (λ z. unpaid (begun_world.under z) ≡ unpaid (was.under z)) (sym same.1) (ap unpaid next_now ∙ none_unpaid ∙ sym over.none_unpaid)
      | inr ne ↦ ap unpaid (changed.unders q ne.1)
    ])

    pub next_state : (part : ℕ) (stage : Stage) → stage_of (moved part (paid_event (lane_at book l))) ≡ stage → stage ≢ Naming → stage ≢ Deleting → x.over ≡ true → (lane_at book l).has_records ≡ true →
        noticed its_shape p (under_of its_shape was l) x ≡ x → noticed its_shape p next x ≡ x → IsCome over.state.log next x stage →
        OwesIt its_shape p (records_noted begun_world x.number) (length (over.chains_behind p)) next x stage (moved part (paid_event (lane_at book l))) kept.slots.items → 1 ≤ (lane_at book l).owed_events →
        GoesTo book later l (moved part (paid_event (lane_at book l))) → IsBook later → IsKept keeper kept (begun_in p its_next (made_in layout keeper p).ledger (made_in layout keeper p)) →
        IsStateOf layout start later kept behind left made
    next_state part stage stage_is other undeleted is_over recorded unnoticed next_unnoticed come owes some goes is_book is =
        part_behind layout start book later keeper kept region behind spare left events made l e (begun_in p its_next (made_in layout keeper p).ledger (made_in layout keeper p)) state m
        (moved part (paid_event (lane_at book l))) goes is_book is over begun_world (record {
          changed = changed;
          world = world_there;
          ledger = refl;
          keeping = ap (λ (k : Keeping). begun_in p its_next k.ledger k) (ap (made_part its_shape p) state.tied.keeping) ∙ sym is.kept;
          next = refl;
          history = refl;
          held = held_changed its_shape l was begun_world changed state.tied.held (held_by_lane its_shape begun_world l m.inside inside holder_now (λ none. busy (sym next_now ∙ none))
              (subst (λ (run : Running). run.made < length (plan_of its_shape p run.part)) (sym run_next) some_events));
          mine = subst (λ u. IsLaneOf layout book.blocks over.state.log (newest_log made_keeping.ledger) u p (moved part (paid_event (lane_at book l))) x) (sym under_next) (record {
            txn = moved_txn its_shape p part (lane_at book l) (under_of its_shape was l) next x unnoticed next_unnoticed mine.txn;
            come = subst (IsCome over.state.log next x) (sym stage_is) come;
            given = subst (λ (z : Txn). HasGiven layout book.blocks (lane_at book l).held (lane_at book l).gives.items (lane_at book l).gates.items z.gifts x.words) (unnoticed ∙ sym next_unnoticed) mine.given;
            counts = mine.counts;
            deleting = deletes_none layout next (moved part (paid_event (lane_at book l)))
                (due_none (lane_at book l).phase (lane_at book l).has_records part (lane_at book l).doing stage stage_is undeleted);
            ends_ungiven = mine.ends_ungiven;
            written_words = mine.written_words;
            taking = mine.taking;
            naming = λ at. absurd (other (sym stage_is ∙ at));
            recorded = λ one has. recorded;
            begun = mine.begun;
            has_some = λ one has off. absurd (let f : true ≡ false = sym is_over ∙ off in cc);
            uncompensated = λ unrolled one off. absurd (let f : true ≡ false = sym is_over ∙ off in cc);
          });
          number = state.tied.fresh l;
          owes = owes_to its_shape over.chains_behind later kept begun_world l (moved part (paid_event (lane_at book l))) x next stage goes.lanes.here refl under_next stage_is owes;
          unpaid_same = unpaid_there;
          pays = record {
            events_less = less_one 0 (lane_at book l).owed_events some;
            records_less = le_same (lane_at book l).owed_records;
            reserves = le_same (reserved_by (lane_at book l));
            entry = inl (record { commit = refl; entered = refl; entry = refl; begun = refl });
            numbers = record { begun = refl; commits = le_same ((lane_at book l).commits + pending (lane_at book l)) };
          };
        })
      where
        mine : IsLaneOf layout book.blocks state.s.log (newest_log was.keeping.ledger) (under_of its_shape was l) p (lane_at book l) x
        mine = state.tied.each l inside

-- ---- a removal that is read

view_out : (p : ℕ) (w : Words) (a : ℕ) → view p w a ≡ w (out_address p a)
view_out p w a = by ((a == 8) || (a == 9) || (a == 10) || (a == 11) || (a == 12)) (p == 0)
  where
    by : (t u : Bool) → (if t then w ((if u then 8 else 16 + 5 * p) + (a - 8)) else w a) ≡ w (if t then (if u then 8 else 16 + 5 * p) + (a - 8) else a)
    by true u = refl
    by false u = refl

module _ (shape : Shape) (base : Words) (s : State) (chains : ℕ → List ℕ) (k : Keeping) (region : Region) (p : ℕ) (inside : p < shape.partitions) (free : (k.runs p).part ≡ rests)
    (h : IsLoggedAt shape base s chains k region) (filled : AreFilled region) where
  abbrev image : Words
  image = newest_image region

  there : IsAtRestIn shape base chains p image
  there = resting_parts_are_settled shape base s chains k region image p inside free h (newest_stand region image filled (λ a lt. refl))

  -- the view of what is read is that of the settled words
  pub read_words : (a : ℕ) → IsLogWord shape p a → view p (log_words shape base) a ≡ view p image a
  read_words a word =
      let out = log_word_out shape p a word in
      let low = part_word_below shape p (out_address p a) h.allowed inside out in
      view_out p (log_words shape base) a ∙ inside_log shape base (out_address p a) low ∙ sym (there.words (out_address p a) out) ∙ sym (view_out p image a)

  pub read_list : IsAtRest shape p (view p image) (chains p)
  read_list = own_words_take.at_rest shape p (view p (log_words shape base)) (view p image) (chains p) (λ a word. sym (read_words a word)) (h.rest p inside)

  pub read_chain : chain_of shape (view p image) ≡ chains p
  read_chain = (chain_of_list shape p (view p image) (chains p) inside (at_rest read_list)).0

  module _ (r : Remove) (read : IsFirstClosed shape (view p image) (chain_of shape (view p image)) r) where
    first : IsFirstClosed shape (view p image) (chains p) r
    first = subst (λ c. IsFirstClosed shape (view p image) c r) read_chain read

    pub read_can : CanRun shape p base s (chains p) (takes_out r)
    read_can = own_words_drop shape p (view p image) (view p (log_words shape base)) r read_words (read_removals_may_be_made shape p (view p image) (chains p) r read_list first)

    pub read_some : 1 ≤ length (chains p)
    read_some = let is = ap length first.chain_is in let long = length-append first.front (r.node ∷ first.rest) in omega (arith, is, long)

-- ---- a removal begins

drop_stage : (phase : Phase) (rec : Bool) (doing : Doing) (stage : Stage) → EndsCall rec doing stage → (stage_at phase rec DROP doing ≡ Dropping) × (rec ≡ true)
drop_stage phase rec doing stage (commit on is has) = (stage_of_call phase rec DROP doing Doing.Commit on is, on)
drop_stage phase rec doing stage (abort on is has) = (stage_of_call phase rec DROP doing Doing.Abort on is, on)

drop_events : (c o : ℕ) → 1 ≤ c → 1 + REMOVAL_EVENTS * c ≤ o → REMOVAL_EVENTS + REMOVAL_EVENTS * (c - 1) ≤ o - 1
drop_events c o one owed = plain (c - 1) (subst (λ k. 1 + REMOVAL_EVENTS * k ≤ o) next owed)
  where
    next : c ≡ (c - 1) + 1
    next = omega (arith, one)

    plain : (d : ℕ) → 1 + REMOVAL_EVENTS * (d + 1) ≤ o → REMOVAL_EVENTS + REMOVAL_EVENTS * d ≤ o - 1
    plain d le = omega (arith, le)

pub removals_begin : {E : Type 0} → RemovalsBegin E
removals_begin {E} layout start book later keeper kept region behind spare left events made l e r m last at read goes is_book is state =
    next_state layout start book later keeper kept region behind spare left events made l e state m last c.over (drops r 0) (λ none. cc) (λ place x added. cc) refl (omega arith)
    (read_can (layout_shape layout) c.over.base c.over.state c.over.chains_behind (made_part (layout_shape layout) (l % layout.partitions) state.w.keeping)
    (region_made state.w.keeping (l % layout.partitions) e region) (l % layout.partitions)
    (p_inside layout start book later keeper kept region behind spare left events made l e state m last c.over (drops r 0))
    (rests_there layout start book later keeper kept region behind spare left events made l e state m last c.over (drops r 0)) c.over.world.log.logged filled r read_there)
    tt refl DROP Dropping stage.0 (λ e. cc) (λ e. cc) c.now.is_over stage.1 c.unnoticed refl
    (record { over = c.now; no_record = c.none; removed = r; made = 0; under_way = refl })
    (record {
      events = drop_events (length (c.over.chains_behind (l % layout.partitions))) (lane_at book l).owed_events some c.owed;
      records = omega arith;
      lists = λ x at. (omega arith, omega arith, omega arith);
    }) (let owed = c.owed in omega (arith, owed)) goes is_book is
  where
    c : IsCleared layout start book keeper region spare events l e state
    c = cleared layout start book keeper region behind spare left events made l e state m last goes.lanes.inside at

    stage : (stage_at (lane_at book l).phase (lane_at book l).has_records DROP (lane_at book l).doing ≡ Dropping) × ((lane_at book l).has_records ≡ true)
    stage = drop_stage (lane_at book l).phase (lane_at book l).has_records (lane_at book l).doing c.stage c.call

    filled : AreFilled (region_made state.w.keeping (l % layout.partitions) e region)
    filled = filled_after region (state.w.keeping.holder (l % layout.partitions)) e state.roomy.full

    read_there : IsFirstClosed (layout_shape layout) (view (l % layout.partitions) (newest_image (region_made state.w.keeping (l % layout.partitions) e region)))
        (chain_of (layout_shape layout) (view (l % layout.partitions) (newest_image (region_made state.w.keeping (l % layout.partitions) e region)))) r
    read_there = subst (λ g. IsRemovalRead layout (l % layout.partitions) g r)
        (region_is E layout book keeper state.s state.w state.tied state.world.log.logged.allowed.partitions.0 region behind l e spare left events made m) read

    some : 1 ≤ length (c.over.chains_behind (l % layout.partitions))
    some = read_some (layout_shape layout) c.over.base c.over.state c.over.chains_behind (made_part (layout_shape layout) (l % layout.partitions) state.w.keeping)
        (region_made state.w.keeping (l % layout.partitions) e region) (l % layout.partitions)
        (p_inside layout start book later keeper kept region behind spare left events made l e state m last c.over (drops r 0))
        (rests_there layout start book later keeper kept region behind spare left events made l e state m last c.over (drops r 0)) c.over.world.log.logged filled r read_there
