-- The last event of an append, where there is no checkpoint.
use Rattle.std.proofs.Common.{◌≡◌, ◌≢◌, ◌⊎◌, inl, inr, ℕ, ◌+◌, ◌<◌, ◌≤◌, ◌==◌, Bool, true, false, nat_lt, if◌then◌else◌, List, ◌∷◌, length, refl, sym, ap, ◌∙◌, subst, arith}
use Rattle.std.proofs.lemmas.Bool.{cases_lt}
use Rattle.std.proofs.lemmas.Bool.Decides.{eqb_tells, nat_tests}
use Rattle.std.proofs.lemmas.List.{take_all}
use Rattle.persist_model.specs.declared.event.Event.{Event}
use Rattle.persist_model.specs.Region.{Words, Region, IsCandidate, newest}
use Rattle.persist_model.specs.Progress.{start, latest, advance_all}
use Rattle.persist_model.specs.Records.{Record, Log, IsAmong, HasNo, IsOf, NamesWord}
use Rattle.persist_model.specs.Standing.{IsToUndo, IsToDelete, IsToRedo, IsLatest, Stands, redone, kept}
use Rattle.log_laws.proofs.Standings.{stands_one}
use Rattle.log_laws.proofs.Growing.{numbered}
use Rattle.persist_model.specs.Shape.{Shape, part_of, heap, heap_words, log_words, IsHeapWord, IsShape}
use Rattle.persist_model.specs.Chain.{view}
use Rattle.persist_model.specs.State.{State, IsSoundState}
use Rattle.persist_model.proofs.Candidates.{IsCandidate_newest}
use Rattle.log_laws.specs.Moves.{IsChangeBy}
use Rattle.log_clearing.proofs.ClearingStates.{sound_with_heap}
use Rattle.bucket_log.specs.Appends.{CanAppend, region_append, chain_behind}
use Rattle.bucket_log.proofs.Partitions.{few_parts}
use Rattle.plan_records.specs.Passing.{inserted}
use Rattle.plan_records.specs.Appends.{MayAppend, MayStandAt, seen, with_record}
use Rattle.plan_records.specs.Courses.{own_records}
use Rattle.plan_records.proofs.Changes.{heap_word_is}
use Rattle.plan_records.proofs.HeapUpdates.{olds_meet}
use Rattle.plan_records.proofs.OwnRecords.{own_first, own_gained, own_beside}
use Rattle.plan_records.proofs.Passing.{inserted_in, inserted_out}
use Rattle.plan_records.proofs.Records.{updates_keep, deletions_keep, rollbacks_keep, compensations_keep, commit_ends_write}
use Rattle.plan_records.proofs.RoomBound.{room_is_bounded}
use Rattle.plan_records.proofs.UndoneEnds.{undone_ends_keep}
use Rattle.log_keeper.specs.Parts.{LogPart, rests, appends as adds, closes as shuts, takes_back as drops_deletions, drops as takes_out, Running, plan_of, waits_for, CanRun}
use Rattle.log_keeper.specs.Making.{made_part}
use Rattle.log_keeper.specs.Logged.{Keeping, resting, with_chain, one_more}
use Rattle.log_keeper.specs.Events.{IsLastEvent, region_made}
use Rattle.log_keeper.specs.Ordered.{Spares}
use Rattle.log_keeper.proofs.Progressing.{by_part, size_after, part_on, words_outside}
use Rattle.log_keeper.proofs.Made.{appends_are_made}
use Rattle.log_keeper.proofs.Steps.{last_events_end}
use Rattle.log_keeper.proofs.Orders.{orders_keep}
use Rattle.log_keeper.proofs.Runs.{runs_keep}
use Rattle.history_laws.specs.Histories.{Entry, fold}
use Rattle.history_laws.specs.UnderWay.{Added, an_update, a_deletion, a_rollback, a_compensation, an_undone_end, a_commit_end, Adding, record_of_adding, nothing, appends, run_of, IsStored}
use Rattle.history_laws.specs.Moments.{CanAdd, Serves}
use Rattle.history_laws.specs.Stands.{IsHeader}
use Rattle.history_laws.proofs.AppendsBeside.{HeapMeets, Leaves}
use Rattle.history_laws.proofs.Conditions.{added_plain}
use Rattle.history_laws.proofs.Headers.{header_is_none's, same_shape, is_shape}
use Rattle.txn_laws.specs.Txns.{Txn, txn_at, with_txn, written}
use Rattle.txn_laws.specs.Flights.{flight_of}
use Rattle.txn_laws.specs.Owners.{IsMine, IsNobodys, AreOwners}
use Rattle.txn_laws.specs.Heaps.{StandsForHeap}
use Rattle.txn_laws.specs.AreTransactions.{IsGoing, IsTransaction}
use Rattle.txn_laws.specs.NextRecords.{IsAppendOf}
use Rattle.txn_laws.specs.PartsOf.{Fits, IsPartIn}
use Rattle.txn_laws.specs.Worlds.{World, IsLogOf}
use Rattle.txn_laws.specs.Going.{with_under}
use Rattle.txn_laws.specs.Settled.{settled_with, base_behind, state_behind}
use Rattle.txn_laws.proofs.Finding.{stands_word}
use Rattle.txn_laws.proofs.Moments.{record_by, append_part}
use Rattle.redo_laws.proofs.Owned.{bars_own, not_deleted}
use Rattle.redo_laws.proofs.Moments.{can_add, serves_there, below_next}
use Rattle.redo_laws.proofs.Plain.{IsPlainAt}
use Rattle.redo_laws.specs.Worlds.{IsSpare}
use Rattle.persist_model.specs.Kinds.{CHECKPOINT}
use Rattle.redo_laws.specs.Stages.{IsUnmarked, IsNoClosing}
use Rattle.redo_laws.specs.Transactions.{IsLanes, IsGone}
use Rattle.txn_laws.proofs.Lanes.{with_here, by_lane, IsFound, now_found, owners_same, nobodys_same, numbers_same, numbers_changed, known_same, rests_fits}
use Rattle.txn_laws.proofs.SameRecords.{transaction_same}
use Rattle.txn_laws.proofs.LogEvents.{LeavesHeap, next_is_log, leaves_heap}
use Rattle.txn_laws.proofs.FitsBeside.{told_heap}
use Rattle.redo_laws.proofs.FitsBeside.{fits_same}
use Rattle.redo_laws.proofs.Plain.{plain_found}

-- ---- words with the log of one and a chosen value in one heap word, elsewhere the newest

abbrev pub mixed : Shape → Words → Region → ℕ → ℕ → Words
mixed shape w region a u = λ b. if nat_lt b (heap shape) then w b else (if b == a then u else newest (region.at b))

pub mixed_log : (shape : Shape) (w : Words) (region : Region) (a u b : ℕ) → b < heap shape → mixed shape w region a u b ≡ w b
mixed_log shape w region a u b lt = let on : nat_lt b (heap shape) ≡ true = grind (arith, nat_tests, lt) in rw on refl

mixed_heap : (shape : Shape) (w : Words) (region : Region) (a u b : ℕ) → heap shape ≤ b → mixed shape w region a u b ≡ (if b == a then u else newest (region.at b))
mixed_heap shape w region a u b le = let off : nat_lt b (heap shape) ≡ false = grind (arith, nat_tests, le) in rw off refl

pub mixed_here : (shape : Shape) (w : Words) (region : Region) (a u : ℕ) → heap shape ≤ a → mixed shape w region a u a ≡ u
mixed_here shape w region a u le = mixed_heap shape w region a u a le ∙ elim (eqb_tells a a) [ inl e ↦ (rw e.0 refl) | inr ne ↦ absurd (ne.1 refl) ]

pub mixed_may : (shape : Shape) (w : Words) (region : Region) (a u : ℕ) → ((b : ℕ) → IsHeapWord shape b → 0 < length (region.at b)) → IsCandidate (region.at a) u →
    (b : ℕ) → IsHeapWord shape b → IsCandidate (region.at b) (mixed shape w region a u b)
mixed_may shape w region a u full is b m = subst (IsCandidate (region.at b)) (sym (mixed_heap shape w region a u b m.0)) (by (b == a) (eqb_tells b a))
  where
    by : (t : Bool) → ((t ≡ true) × (b ≡ a)) ⊎ ((t ≡ false) × (b ≢ a)) → IsCandidate (region.at b) (if t then u else newest (region.at b))
    by true (inl e) = subst (λ c. IsCandidate (region.at c) u) (sym e.1) is
    by true (inr e) = cc
    by false told = IsCandidate_newest (region.at b) (full b m)

-- behind the whole append
whole_leaves : (shape : Shape) (p : ℕ) (w v : Words) (s : State) (chain : List ℕ) (adding : Adding) (added : Added) → let r = record_by adding added in
    MayAppend shape p w s chain adding.place r → CanAdd shape s r added → HeapMeets shape s (heap_words shape v) r added →
    MayStandAt shape w (region_append shape p adding.place r) (length (region_append shape p adding.place r)) v → Leaves shape v s (with_record p s r) added
whole_leaves shape p w v s chain adding (an_update u) may can meets reached = (updates_keep shape p w s chain adding.place adding.number u may can).whole v meets reached
whole_leaves shape p w v s chain adding (a_deletion g) may can meets reached = (deletions_keep shape p w s chain adding.place adding.number g may can).whole v tt reached
whole_leaves shape p w v s chain adding (a_rollback t) may can meets reached = (rollbacks_keep shape p w s chain adding.place adding.number t may can).whole v tt reached
whole_leaves shape p w v s chain adding (a_compensation u cell) may can meets reached = (compensations_keep shape p w s chain adding.place adding.number u cell can.0 may can.1).whole v tt reached
whole_leaves shape p w v s chain adding (an_undone_end t) may can meets reached = (undone_ends_keep shape p w s chain adding.place adding.number t may can).whole v meets reached
whole_leaves shape p w v s chain adding (a_commit_end t) may can meets reached = (commit_ends_write shape p w s chain adding.place adding.number t may can).whole v meets reached

leaves_sound : (shape : Shape) (v : Words) (s y : State) (added : Added) → Leaves shape v s y added → IsSoundState shape (seen shape v y)
leaves_sound shape v s y (an_update u) k = k.sound
leaves_sound shape v s y (a_deletion g) k = k.sound
leaves_sound shape v s y (a_rollback t) k = k.sound
leaves_sound shape v s y (a_compensation u cell) k = k.sound
leaves_sound shape v s y (an_undone_end t) k = k.sound
leaves_sound shape v s y (a_commit_end t) k = k.sound

module _ (shape : Shape) (base : Words) (s : State) (chains : ℕ → List ℕ) (start_heap : Words) (w : World) (region : Region) (p : ℕ) (e : Event) (adding : Adding) (made : ℕ)
    (is : w.under p ≡ appends adding made) (lane_in : w.keeping.holder p < length w.lanes) (last : IsLastEvent shape w.keeping p e (adds adding.place (record_of_adding adding)))
    (world : IsPlainAt shape base s chains start_heap w region) where
  abbrev h : Words
  h = fold start_heap w.history

  abbrev l : ℕ
  l = w.keeping.holder p

  abbrev x : Txn
  x = txn_at w.lanes (w.keeping.holder p)

  abbrev r : Record
  r = record_of_adding adding

  abbrev grown : Log
  grown = inserted (record_of_adding adding) s.log

  abbrev later : Region
  later = region_made w.keeping p e region

  abbrev plan : List Event
  plan = region_append shape p adding.place (record_of_adding adding)

  part_in : p < shape.partitions
  part_in = last.event.inside

  run_is : w.keeping.runs p ≡ run_of (appends adding made)
  run_is = (world.parts p part_in).run ∙ ap run_of is

  pub fits : IsAppendOf shape s h p x adding made
  fits = subst (Fits shape s h p x) is (world.parts p part_in).fits

  last_made : made + 1 ≡ length plan
  last_made = subst (λ (run : Running). run.made + 1 ≡ length (plan_of shape p run.part)) run_is last.last

  stored : IsStored shape p adding made
  stored = let n = last_made in omega (arith, n)

  can_append : CanAppend shape p (view p (log_words shape base)) (chains p) adding.place r
  can_append = subst (CanRun shape p base s (chains p)) last.under_way (world.log.logged.can p part_in)

  pub stands_in : part_of shape r.at ≡ p
  stands_in = append_part shape p (view p (log_words shape base)) (chains p) adding.place r world.log.logged.allowed part_in can_append

  can : CanAdd shape s r adding.added
  can = can_add shape base s chains start_heap w region world l p part_in adding made fits stands_in

  of_x : IsOf x.number r
  of_x = (fits.of, added_plain adding)

  pub told : IsTransaction shape s.log h x
  told = world.transactions.each l

  going : IsGoing s.log h x
  going = told.going fits.runs

  -- the transaction's other records are older
  pub above : (q : Record) → IsAmong s.log q → IsOf x.number q → q.lsn < r.lsn
  above q m of = elim (cases_lt q.lsn r.lsn) [
    | inl lt ↦ lt
    | inr le ↦ (let differ = fits.passes.fresh q m in absurd ((fits.passes.newer q m (omega (arith, le, differ))).other (of.0 ∙ sym fits.of, of.1)))
  ]

  pub own_is : own_records x.number grown ≡ own_records x.number (r ∷ s.log)
  own_is = own_gained x.number r s.log of_x above ∙ sym (own_first x.number r s.log of_x)

  may : MayAppend shape p base s (chains p) adding.place r
  may = record {
    allowed = world.log.logged.allowed;
    inside = part_in;
    has = world.log.logged.has;
    sound = world.log.sound;
    can = can_append;
    passes = fits.passes;
    top = w.next;
    above = below_next shape base s chains start_heap w region world;
    own = (
        let n = world.log.fits.noted p adding.place r part_in last.under_way in
        let lt = subst (λ (q : Record). q.lsn < w.next) n.2 (world.log.ordered.below n.0 n.1) in omega (arith, lt));
    numbers = (let few = room_is_bounded shape base s world.log.logged.has in let left = world.log.numbers in omega (arith, few, left));
  }

  -- ---- words that a stop may leave behind it

  module _ (a u : ℕ) (heap_word : IsHeapWord shape a) (may_be : IsCandidate (region.at a) u) where
    abbrev v : Words
    v = mixed shape (base_behind shape p adding base) region a u

    candidates : (b : ℕ) → IsHeapWord shape b → IsCandidate (region.at b) (v b)
    candidates = mixed_may shape (base_behind shape p adding base) region a u world.heap.full may_be

    reached : MayStandAt shape base plan (length plan) v
    reached b lt = inl (mixed_log shape (base_behind shape p adding base) region a u b lt
        ∙ ap (λ es. (advance_all (start base) es).durable b) (sym (take_all (length plan) plan (omega arith))))

    serves : Serves shape s h (flight_of w.lanes) (heap_words shape v) r adding.added
    serves = serves_there shape base s chains start_heap w region world v candidates l p part_in adding made fits stored

    -- an own word that the transaction hasn't changed stands for the history by no other's update or deletion
    not_undone : (b : ℕ) → IsMine x b → HasNo (IsChangeBy r.transaction b) s.log → HasNo (IsToUndo s.log b) s.log
    not_undone b mine none q m k = none q m (inl k.0, k.1, (bars_own shape s.log h w.lanes world.owners world.transactions l b q mine m k.1 (inl (inl (inl k.0), k.2))).0 ∙ sym fits.of)

    stands_once : (b y : ℕ) → IsMine x b → Stands shape.policy s.log (λ c. v b) b y → h b ≡ y
    stands_once b y mine st =
        let m = world.owners.heap_words l b mine in
        stands_one shape.policy s.log (λ c. v b) b (h b) y (numbered (part_of shape) s.log s.log world.log.sound.order) (world.stands b (v b) m (candidates b m)) st

    deleted_none : (b : ℕ) → IsMine x b → HasNo (IsToDelete s.log b) s.log
    deleted_none b mine = not_deleted shape s.log h w.lanes world.owners world.transactions l b mine going.running

    -- what is to be redone of it is the history's, and where nothing is, the word itself
    redone_there : (b : ℕ) (q : Record) → IsMine x b → HasNo (IsChangeBy r.transaction b) s.log → IsLatest (IsToRedo shape.policy s.log b) s.log q → h b ≡ q.after
    redone_there b q mine none newest_is = stands_once b q.after mine (redone (not_undone b mine none) (deleted_none b mine) q newest_is refl)

    unchanged_there : (b : ℕ) → IsMine x b → HasNo (IsChangeBy r.transaction b) s.log → HasNo (IsToRedo shape.policy s.log b) s.log → h b ≡ heap_words shape v b
    unchanged_there b mine none never =
        stands_once b (v b) mine (kept (not_undone b mine none) (deleted_none b mine) never refl) ∙ sym (heap_word_is shape v b (world.owners.heap_words l b mine))

    meets : HeapMeets shape s (heap_words shape v) r adding.added
    meets = by adding.added can serves fits.own redone_there unchanged_there
      where
        by : (added : Added) → let q = record_by adding added in CanAdd shape s q added → Serves shape s h (flight_of w.lanes) (heap_words shape v) q added → (NamesWord q → IsMine x q.word) →
            ((b : ℕ) (y : Record) → IsMine x b → HasNo (IsChangeBy q.transaction b) s.log → IsLatest (IsToRedo shape.policy s.log b) s.log y → h b ≡ y.after) →
            ((b : ℕ) → IsMine x b → HasNo (IsChangeBy q.transaction b) s.log → HasNo (IsToRedo shape.policy s.log b) s.log → h b ≡ heap_words shape v b) →
            HeapMeets shape s (heap_words shape v) q added
        by (an_update u) able served own again same = olds_meet shape s (record_by adding (an_update u)) (heap_words shape v) world.log.sound able.running.running able.free served.undo_next (record {
          own = served.own;
          redone = λ none q newest_is. served.plain none ∙ again u.word q (own (inl (inl refl))) none newest_is;
          plain = λ none never. served.plain none ∙ same u.word (own (inl (inl refl))) none never;
        })
        by (a_deletion g) able served own again same = tt
        by (a_rollback t) able served own again same = tt
        by (a_compensation u cell) able served own again same = tt
        by (an_undone_end t) able served own again same = served
        by (a_commit_end t) able served own again same = served.0

    pub leaves_there : Leaves shape v s (with_record p s r) adding.added
    leaves_there = whole_leaves shape p base v s (chains p) adding adding.added may can meets reached

    pub sound_there : IsSoundState shape (state_behind shape p adding base s)
    sound_there = sound_with_heap shape (seen shape v (with_record p s r)) (heap_words shape (base_behind shape p adding base))
        (leaves_sound shape v s (with_record p s r) adding.added leaves_there)

    pub before_there : Stands shape.policy s.log (heap_words shape v) a (h a)
    before_there = stands_word shape.policy s.log (λ b. u) (heap_words shape v) a (h a)
        (sym (heap_word_is shape v a heap_word ∙ mixed_here shape (base_behind shape p adding base) region a u heap_word.0)) (world.stands a u heap_word may_be)

    pub back_there : (log : Log) (value : ℕ) → Stands shape.policy log (heap_words shape v) a value → Stands shape.policy log (λ b. u) a value
    back_there log value st = stands_word shape.policy log (heap_words shape v) (λ b. u) a value
        (heap_word_is shape v a heap_word ∙ mixed_here shape (base_behind shape p adding base) region a u heap_word.0) st

  -- ---- the log

  outside : (a : ℕ) → IsHeader a → base_behind shape p adding base a ≡ base a
  outside a m = words_outside shape p base (adds adding.place r)
      (part_on shape p base s (chains p) (adds adding.place r) world.log.logged.allowed part_in world.log.logged.has can_append) a
      (λ k. header_is_none's shape p a (few_parts shape p world.log.logged.allowed part_in) m k)

  log_there : IsSoundState shape (state_behind shape p adding base s) → IsLogOf shape (base_behind shape p adding base) (state_behind shape p adding base s)
      (with_chain p (chain_behind adding.place (chains p)) chains) (made_part shape p w.keeping) w.next later
  log_there sound = record {
    of_shape = same_shape region.size base (base_behind shape p adding base) world.log.header outside ∙ world.log.of_shape;
    header = subst (λ n. IsShape n (base_behind shape p adding base)) (sym (size_after region l e)) (is_shape region.size base (base_behind shape p adding base) world.log.header outside);
    logged = appends_are_made shape base s chains w.keeping region p e adding.place r last world.log.ordered.newest_first world.log.fits world.log.logged;
    sound = sound;
    ordered = orders_keep.made shape p w.next w.keeping world.log.ordered;
    fits = runs_keep.made shape p w.keeping part_in world.log.ordered.newest_first (subst (λ (part : LogPart). Spares part w.keeping.ledger) (sym last.under_way) tt) world.log.fits;
    numbers = world.log.numbers;
  }

  log_leaves : LeavesHeap shape region later
  log_leaves = leaves_heap shape region l e (next_is_log shape base s chains w.keeping region p e last.event world.log.logged)

  -- ---- the other lanes

  not_theirs : (k : ℕ) → k ≢ l → IsOf (txn_at w.lanes k).number r → ⊥
  not_theirs k ne of = ne (sym (world.transactions.apart l k fits.number (sym fits.of ∙ of.0)))

  others_own : (k : ℕ) → k ≢ l → own_records (txn_at w.lanes k).number grown ≡ own_records (txn_at w.lanes k).number s.log
  others_own k ne = own_beside (txn_at w.lanes k).number r s.log (not_theirs k ne)

  deleted_forth : (a : ℕ) → HasNo (IsToDelete grown a) grown → HasNo (IsToDelete s.log a) s.log
  deleted_forth a none q m d = none q (inserted_in r s.log q (inr m)) (d.0, d.1, (d.2.0, inserted_in r s.log d.2.0 (inr d.2.1), d.2.2))

  runs_there : (q : ℕ) → (made_part shape p w.keeping).runs q ≡ (if q == p then resting else w.keeping.runs q)
  runs_there q = ap (λ (k : Keeping). k.runs q) (last_events_end shape w.keeping p last.last).kept
      ∙ by_part (λ n t. (if t then resting else (if t then one_more (w.keeping.runs p) else w.keeping.runs n)) ≡ (if t then resting else w.keeping.runs n)) p q refl (λ ne. refl)

  holder_there : (q : ℕ) → (made_part shape p w.keeping).holder q ≡ w.keeping.holder q
  holder_there q = ap (λ (k : Keeping). k.holder q) (last_events_end shape w.keeping p last.last).kept

  -- ---- the world behind it

  module _ (y : Txn) (history : List Entry) (words_is : y.words ≡ x.words) (number_is : y.number ≡ x.number)
      (sound : IsSoundState shape (state_behind shape p adding base s))
      (told_y : IsTransaction shape grown (fold start_heap history) y) (same : (k : ℕ) → k ≢ l → (a : ℕ) → IsMine (txn_at w.lanes k) a → fold start_heap history a ≡ h a)
      (same_nobodys : (a : ℕ) → IsNobodys w.lanes a → fold start_heap history a ≡ h a)
      (value_y : (a : ℕ) → IsMine x a → HasNo (IsToDelete grown a) grown → latest (written x) a (h a) ≡ latest (written y) a (fold start_heap history a))
      (stands_y : StandsForHeap shape grown (fold start_heap history) region) where
    owners_there : AreOwners shape (with_txn l y w.lanes)
    owners_there = owners_same shape l y w.lanes lane_in words_is world.owners

    found_there : IsFound shape grown (fold start_heap history) (with_txn l y w.lanes) later
    found_there = record {
      own = λ k a. by_lane (λ j z. IsMine z a → HasNo (IsToDelete grown a) grown → newest (later.at a) ≡ latest (written z) a (fold start_heap history a)) l y w.lanes lane_in
          (λ m none. (let mine = subst (λ (f : ℕ → Bool). f a ≡ true) words_is m in
          log_leaves.newest_is a (world.owners.heap_words l a mine) ∙ (plain_found shape base s chains start_heap w region world).own l a mine (deleted_forth a none) ∙ value_y a mine none))
          (λ j ne m none. log_leaves.newest_is a (world.owners.heap_words j a m) ∙ (plain_found shape base s chains start_heap w region world).own j a m (deleted_forth a none)
          ∙ ap (latest (written (txn_at w.lanes j)) a) (sym (same j ne a m))) k;
      others = λ a m nobodys none. (
          let was = nobodys_same l y w.lanes a lane_in words_is nobodys in
          log_leaves.newest_is a m ∙ (plain_found shape base s chains start_heap w region world).others a m was (deleted_forth a none) ∙ sym (same_nobodys a was));
    }

    grown_unmarked : IsUnmarked grown
    grown_unmarked q m five = elim (inserted_out r s.log q m) [
      | inl e ↦ added_plain adding (sym (ap (λ (n : Record). n.kind) e) ∙ five)
      | inr there ↦ world.unmarked q there five
    ]

    -- the transaction's record keeps a cell for recovery's checkpoint
    spare_there : IsSpare shape (state_behind shape p adding base s)
    spare_there = (sound.room 0 world.log.logged.allowed.partitions.0).checkpoint refl world.no_force
        (r, inserted_in r s.log r (inl refl), (added_plain adding, λ k. (let c = k.2.1 in grown_unmarked c.0 c.1 c.2.0)))

    part_there : (q : ℕ) → q < shape.partitions → IsPartIn shape (state_behind shape p adding base s) (fold start_heap history) (made_part shape p w.keeping) (with_txn l y w.lanes) q (with_under p nothing w.under q)
    part_there q lt = record {
      run = runs_there q ∙ by_part (λ n t. n < shape.partitions → (if t then resting else w.keeping.runs n) ≡ run_of (if t then nothing else w.under n)) p q (λ lt. refl) (λ ne lt. (world.parts q lt).run) lt;
      fits = subst (λ j. Fits shape (state_behind shape p adding base s) (fold start_heap history) q (txn_at (with_txn l y w.lanes) j) (with_under p nothing w.under q)) (sym (holder_there q))
          (by_part (λ n t. n < shape.partitions → Fits shape (state_behind shape p adding base s) (fold start_heap history) n (txn_at (with_txn l y w.lanes) (w.keeping.holder n)) (if t then nothing else w.under n)) p q
          (λ lt. tt) (λ ne lt. there q lt ne) lt);
    }
      where
        there : (n : ℕ) → n < shape.partitions → n ≢ p → Fits shape (state_behind shape p adding base s) (fold start_heap history) n (txn_at (with_txn l y w.lanes) (w.keeping.holder n)) (w.under n)
        there n lt ne = by_lane (λ j z. w.keeping.holder n ≡ j → Fits shape (state_behind shape p adding base s) (fold start_heap history) n z (w.under n)) l y w.lanes lane_in
            (λ held. rests_fits shape (state_behind shape p adding base s) (fold start_heap history) n y (w.under n) (sym (ap (λ (q : Running). q.part) (world.parts n lt).run) ∙ alone held (w.keeping.runs n).part refl))
            (λ j other held. fits_same shape p n base (heap_words shape (base_behind shape p adding base)) s (chains n) h (fold start_heap history) r (txn_at w.lanes j) spare_there ne fits.passes
            (λ q m of. told.in_part q m (of.0 ∙ fits.of, of.1) ∙ fits.here ∙ sym stands_in) stands_in (others_own j other) (not_theirs j other) (same j other) (added_plain adding) (w.under n)
            (subst (λ (run : Running). CanRun shape n base s (chains n) run.part) (world.parts n lt).run (world.log.logged.can n lt))
            (facts j other held)
            (subst (λ i. Fits shape s h n (txn_at w.lanes i) (w.under n)) held (world.parts n lt).fits))
            (w.keeping.holder n) refl
          where
            alone : w.keeping.holder n ≡ l → (part : LogPart) → (w.keeping.runs n).part ≡ part → (w.keeping.runs n).part ≡ rests
            alone held rests f = f
            alone held (adds place q) f = absurd (last.event.alone n lt ne (ap (λ (part : LogPart). waits_for part (w.keeping.holder n)) f ∙ held))
            alone held (shuts gates ends checkpoints) f = absurd (last.event.alone n lt ne (ap (λ (part : LogPart). waits_for part (w.keeping.holder n)) f ∙ held))
            alone held (drops_deletions gates) f = absurd (last.event.alone n lt ne (ap (λ (part : LogPart). waits_for part (w.keeping.holder n)) f ∙ held))
            alone held (takes_out q) f = absurd (last.event.alone n lt ne (ap (λ (part : LogPart). waits_for part (w.keeping.holder n)) f ∙ held))

            facts : (j : ℕ) → j ≢ l → w.keeping.holder n ≡ j → (other : Adding) (n_made : ℕ) → w.under n ≡ appends other n_made → (part_of shape (record_of_adding other).at ≡ n) ×
                (r.lsn ≢ (record_of_adding other).lsn) × (NamesWord (record_of_adding other) → NamesWord r → r.word ≢ (record_of_adding other).word)
            facts j off held other n_made f = (
              append_part shape n (view n (log_words shape base)) (chains n) other.place (record_of_adding other) world.log.logged.allowed lt
                  (subst (CanRun shape n base s (chains n)) part_is (world.log.logged.can n lt)),
              world.log.fits.apart n p other.place adding.place (record_of_adding other) r lt part_in (λ e. ne (sym e)) part_is last.under_way,
              λ ny nr word. off (sym held ∙ world.owners.apart (w.keeping.holder n) l (record_of_adding other).word (fits_n.own ny) (subst (IsMine x) word (fits.own nr))),
            )
              where
                run_n : w.keeping.runs n ≡ run_of (appends other n_made)
                run_n = (world.parts n lt).run ∙ ap run_of f

                part_is : (w.keeping.runs n).part ≡ adds other.place (record_of_adding other)
                part_is = ap (λ (q : Running). q.part) run_n

                fits_n : IsAppendOf shape s h n (txn_at w.lanes (w.keeping.holder n)) other n_made
                fits_n = subst (Fits shape s h n (txn_at w.lanes (w.keeping.holder n))) f (world.parts n lt).fits

    closing_there : (q : ℕ) → q < shape.partitions → IsNoClosing (with_under p nothing w.under q)
    closing_there q lt = by_part (λ n t. n < shape.partitions → IsNoClosing (if t then nothing else w.under n)) p q (λ lt. tt) (λ ne lt. world.no_closing q lt) lt

    numbers_there : (n k : ℕ) → ((j : ℕ) → (txn_at w.lanes j).number ≢ n) → (txn_at (with_txn l y w.lanes) k).number ≢ n
    numbers_there n k none = by_lane (λ j z. z.number ≢ n) l y w.lanes lane_in (λ e. none l (sym number_is ∙ e)) (λ j ne. none j) k

    known_there : (q : Record) → IsAmong grown q → q.kind ≢ CHECKPOINT → IsLanes (with_txn l y w.lanes) q ⊎ IsGone grown (with_txn l y w.lanes) q
    known_there q m plain = elim (inserted_out r s.log q m) [
      | inl f ↦ inl (known_same l y w.lanes q lane_in number_is (l, fits.number, subst (IsOf x.number) (sym f) of_x))
      | inr there ↦ elim (world.transactions.known q there plain) [
        | inl k ↦ inl (known_same l y w.lanes q lane_in number_is k)
        | inr gone ↦ inr ((gone.0.0, inserted_in r s.log gone.0.0 (inr gone.0.1), gone.0.2), λ k. numbers_there q.transaction k gone.1)
      ]
    ]

    told_there : (k : ℕ) → IsTransaction shape grown (fold start_heap history) (txn_at (with_txn l y w.lanes) k)
    told_there = by_lane (λ j z. IsTransaction shape grown (fold start_heap history) z) l y w.lanes lane_in told_y
        (λ j ne. told_heap shape grown h (fold start_heap history) (txn_at w.lanes j) (same j ne) (transaction_same shape s.log grown h (txn_at w.lanes j) (others_own j ne) (world.transactions.each j)))

    -- a committed deletion of a transaction that is gone was there before
    barred_there : (q : Record) (k a : ℕ) → IsAmong grown q → IsToDelete grown a q → IsMine (txn_at (with_txn l y w.lanes) k) a → IsOf (txn_at (with_txn l y w.lanes) k).number q
    barred_there q k a m d mine = elim (known_there q m (λ five. (let six = d.0 in omega (arith, five, six)))) [
      | inl j ↦ (
          let own = (told_there j.0).names q m j.2 (inr (d.0, d.2)) in
          subst (λ n. IsOf (txn_at (with_txn l y w.lanes) n).number q) (owners_there.apart j.0 k a (subst (IsMine (txn_at (with_txn l y w.lanes) j.0)) d.1 own) mine) j.2)
      | inr gone ↦ elim (inserted_out r s.log q m) [
        | inl f ↦ absurd (gone.1 l (ap (λ (z : Txn). z.number) (with_here l y w.lanes lane_in) ∙ number_is ∙ sym fits.of ∙ sym (ap (λ (n : Record). n.transaction) f)))
        | inr there ↦ (let e = d.2 in elim (inserted_out r s.log e.0 e.1) [
          | inl f ↦ absurd (gone.1 l (ap (λ (z : Txn). z.number) (with_here l y w.lanes lane_in) ∙ number_is ∙ sym fits.of ∙ sym (ap (λ (n : Record). n.transaction) f) ∙ e.2.0.1))
          | inr before ↦ by_lane (λ j z. IsMine z a → IsOf z.number q) l y w.lanes lane_in
              (λ mi. subst (λ n. IsOf n q) (sym number_is) (world.transactions.barred q l a there (d.0, d.1, (e.0, before, e.2)) (subst (λ (f : ℕ → Bool). f a ≡ true) words_is mi)))
              (λ j ne mi. world.transactions.barred q j a there (d.0, d.1, (e.0, before, e.2)) mi) k mine
        ])
      ]
    ]

    pub settled_there : IsPlainAt shape (base_behind shape p adding base) (state_behind shape p adding base s) (with_chain p (chain_behind adding.place (chains p)) chains) start_heap
        (settled_with shape p y history w) later
    settled_there = record {
      no_force = world.no_force;
      log = log_there sound;
      spare = spare_there;
      owners = owners_there;
      transactions = record {
        each = told_there;
        known = known_there;
        apart = numbers_changed l y w.lanes lane_in (numbers_same l y w.lanes number_is world.transactions.apart) world.transactions.apart;
        barred = barred_there;
      };
      heap = record {
        full = λ a m. log_leaves.full a m (world.heap.full a m);
        now = now_found shape grown (fold start_heap history) (with_txn l y w.lanes) later owners_there found_there;
      };
      stands = λ a u m may_be. stands_y a u m (log_leaves.fewer a u m may_be);
      unmarked = grown_unmarked;
      parts = part_there;
      no_closing = closing_there;
    }
