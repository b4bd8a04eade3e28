-- The last event of the append of a checkpoint's record.
use Rattle.std.proofs.Common.{◌≡◌, ◌≢◌, inl, inr, ℕ, ◌+◌, ◌<◌, ◌≤◌, ◌==◌, if◌then◌else◌, List, length, refl, sym, ap, ◌∙◌, subst, arith}
use Rattle.std.proofs.lemmas.List.{take_all}
use Rattle.persist_model.specs.declared.event.Event.{Event}
use Rattle.persist_model.specs.Kinds.{CHECKPOINT}
use Rattle.persist_model.specs.Region.{Words, Region, IsCandidate, newest}
use Rattle.persist_model.specs.Progress.{start, advance_all}
use Rattle.persist_model.specs.Records.{Record, Log, IsAmong, HasNo, IsEnd}
use Rattle.persist_model.specs.Standing.{IsToDelete, Stands}
use Rattle.persist_model.specs.Need.{need_in}
use Rattle.persist_model.specs.Shape.{Shape, part_of, heap, heap_words, log_words, IsHeapWord, IsShape}
use Rattle.persist_model.specs.Chain.{view}
use Rattle.persist_model.specs.State.{State, IsSoundState}
use Rattle.persist_model.proofs.Candidates.{IsCandidate_newest}
use Rattle.log_clearing.proofs.ClearingStates.{sound_with_heap}
use Rattle.bucket_log.specs.declared.append.Place.{Place}
use Rattle.bucket_log.specs.Appends.{CanAppend, region_append, chain_behind}
use Rattle.bucket_log.proofs.Partitions.{few_parts}
use Rattle.plan_records.specs.Passing.{inserted}
use Rattle.plan_records.specs.Appends.{Keeps, MayAppend, MayStandAt, seen, with_record}
use Rattle.plan_records.proofs.Changes.{heap_word_is}
use Rattle.plan_records.proofs.OwnRecords.{own_beside}
use Rattle.plan_records.proofs.Passing.{inserted_in, inserted_out}
use Rattle.plan_records.proofs.Records.{checkpoints_keep}
use Rattle.plan_records.proofs.RoomBound.{room_is_bounded}
use Rattle.noforce_policy.proofs.Sweeps.{sweeps_tell}
use Rattle.log_keeper.specs.Parts.{LogPart, appends as adds, words_behind, CanRun}
use Rattle.log_keeper.specs.Making.{made_part}
use Rattle.log_keeper.specs.Logged.{Keeping, resting, one_more, with_chain}
use Rattle.log_keeper.specs.Events.{IsLastEvent, region_made}
use Rattle.log_keeper.specs.Ordered.{Spares}
use Rattle.log_keeper.proofs.Progressing.{by_part, size_after, part_on, words_outside}
use Rattle.log_keeper.proofs.Made.{appends_are_made}
use Rattle.log_keeper.proofs.Needs.{checkpoints_need}
use Rattle.log_keeper.proofs.Steps.{last_events_end}
use Rattle.log_keeper.proofs.Orders.{orders_keep}
use Rattle.log_keeper.proofs.Runs.{runs_keep}
use Rattle.history_laws.specs.Histories.{fold}
use Rattle.history_laws.specs.Stands.{IsHeader}
use Rattle.history_laws.proofs.Headers.{header_is_none's, same_shape, is_shape}
use Rattle.txn_laws.specs.Txns.{txn_at}
use Rattle.txn_laws.proofs.Finding.{stands_word}
use Rattle.txn_laws.proofs.LogEvents.{LeavesHeap, next_is_log, leaves_heap}
use Rattle.txn_laws.proofs.Moments.{append_part}
use Rattle.txn_laws.proofs.SameRecords.{transaction_same}
use Rattle.redo_laws.specs.Checkpoints.{notes, checkpoint_record}
use Rattle.redo_laws.specs.Transactions.{AreRedoTransactions}
use Rattle.redo_laws.specs.Stages.{AreTold, AreSkipped, IsNoting}
use Rattle.redo_laws.specs.Worlds.{RedoWorld, IsSpare, IsRedoWorldAt}
use Rattle.redo_laws.specs.Notes.{noted_behind, NotesSettle}
use Rattle.redo_laws.proofs.Beside.{stage_is}
use Rattle.redo_laws.proofs.Idle.{numbered_below}
use Rattle.redo_laws.proofs.Settling.{mixed, mixed_log, mixed_here, mixed_may}
use Rattle.redo_laws.proofs.SweptWords.{swept_in}
use Rattle.redo_laws.proofs.Telling.{log_stores_none, told_beside}

module _ (shape : Shape) (base : Words) (s : State) (chains : ℕ → List ℕ) (start_heap : Words) (z : RedoWorld) (region : Region) (l : ℕ) (place : Place) (number made : ℕ) (e : Event)
    (stage : IsNoting shape s z.world z.dirty l place number made region) (last : IsLastEvent shape z.world.keeping 0 e (adds place (checkpoint_record place number)))
    (world : IsRedoWorldAt shape base s chains start_heap z region) where
  abbrev h : Words
  h = fold start_heap z.world.history

  abbrev c : Record
  c = checkpoint_record place number

  abbrev grown : Log
  grown = inserted (checkpoint_record place number) s.log

  abbrev behind : Words
  behind = words_behind shape 0 (adds place (checkpoint_record place number)) base

  abbrev state : State
  state = record { log = inserted (checkpoint_record place number) s.log; words = heap_words shape behind; room = (with_record 0 s (checkpoint_record place number)).room }

  abbrev later : Region
  later = region_made z.world.keeping 0 e region

  abbrev plan : List Event
  plan = region_append shape 0 place (checkpoint_record place number)

  first : 0 < shape.partitions
  first = last.event.inside

  can_append : CanAppend shape 0 (view 0 (log_words shape base)) (chains 0) place c
  can_append = subst (CanRun shape 0 base s (chains 0)) last.under_way (world.log.logged.can 0 first)

  stands_in : part_of shape c.at ≡ 0
  stands_in = append_part shape 0 (view 0 (log_words shape base)) (chains 0) place c world.log.logged.allowed first can_append

  may : MayAppend shape 0 base s (chains 0) place c
  may = record {
    allowed = world.log.logged.allowed;
    inside = first;
    has = world.log.logged.has;
    sound = world.log.sound;
    can = can_append;
    passes = stage.passes;
    top = z.world.next;
    above = numbered_below shape base s chains start_heap z region world;
    own = (
        let n = world.log.fits.noted 0 place c first last.under_way in
        let lt = subst (λ (q : Record). q.lsn < z.world.next) n.2 (world.log.ordered.below n.0 n.1) in omega (arith, lt));
    numbers = (let few = room_is_bounded shape base s world.log.logged.has in let left = world.log.numbers in omega (arith, few, left));
  }

  module _ (a u : ℕ) (heap_word : IsHeapWord shape a) (may_be : IsCandidate (region.at a) u) where
    abbrev v : Words
    v = mixed shape behind region a u

    reached : MayStandAt shape base plan (length plan) v
    reached b lt = inl (mixed_log shape behind region a u b lt
        ∙ ap (λ es. (advance_all (start base) es).durable b) (sym (take_all (length plan) plan (omega arith))))

    keeps : Keeps shape v s (with_record 0 s c)
    keeps = (checkpoints_keep shape 0 base s (chains 0) place number may stage.can).whole v
        (swept_in shape base s chains start_heap z region world stage.told stage.all_swept v (mixed_may shape behind region a u world.heap.full may_be)) reached

    pub stands_there : Stands shape.policy grown (λ b. u) a (h a)
    stands_there =
        let here = heap_word_is shape v a heap_word ∙ mixed_here shape behind region a u heap_word.0 in
        stands_word shape.policy grown (heap_words shape v) (λ b. u) a (h a) here
        (keeps.standing a (h a) (stands_word shape.policy s.log (λ b. u) (heap_words shape v) a (h a) (sym here) (world.stands a u heap_word may_be)))

    pub sound_there : IsSoundState shape state
    sound_there = sound_with_heap shape (seen shape v (with_record 0 s c)) (heap_words shape behind) keeps.sound

  first_word : IsHeapWord shape (heap shape)
  first_word = let some = world.log.logged.allowed.blocks.0 in (omega arith, omega (arith, some))

  sound_it : IsSoundState shape state
  sound_it = sound_there (heap shape) (newest (region.at (heap shape))) first_word (IsCandidate_newest (region.at (heap shape)) (world.heap.full (heap shape) first_word))

  outside : (a : ℕ) → IsHeader a → behind a ≡ base a
  outside a m = words_outside shape 0 base (adds place c)
      (part_on shape 0 base s (chains 0) (adds place c) world.log.logged.allowed first world.log.logged.has can_append) a
      (λ k. header_is_none's shape 0 a (few_parts shape 0 world.log.logged.allowed first) m k)

  log_leaves : LeavesHeap shape region later
  log_leaves = leaves_heap shape region (z.world.keeping.holder 0) e (next_is_log shape base s chains z.world.keeping region 0 e last.event world.log.logged)

  -- ---- the records

  old : (q : Record) → IsAmong grown q → q.kind ≢ CHECKPOINT → IsAmong s.log q
  old q m plain = elim (inserted_out c s.log q m) [ inl f ↦ absurd (plain (ap (λ (n : Record). n.kind) f)) | inr there ↦ there ]

  new : (q : Record) → IsAmong s.log q → IsAmong grown q
  new q m = inserted_in c s.log q (inr m)

  end_plain : (q : Record) → IsEnd q → q.kind ≢ CHECKPOINT
  end_plain q four five = omega (arith, four, five)

  deleted_back : (a : ℕ) (q : Record) → IsAmong grown q → IsToDelete grown a q → IsAmong s.log q × IsToDelete s.log a q
  deleted_back a q m d = (
    old q m (λ five. (let six = d.0 in omega (arith, five, six))),
    (d.0, d.1, (d.2.0, old d.2.0 d.2.1 (end_plain d.2.0 d.2.2.0.0), d.2.2)),
  )

  deleted_forth : (a : ℕ) → HasNo (IsToDelete grown a) grown → HasNo (IsToDelete s.log a) s.log
  deleted_forth a none q m d = none q (new q m) (d.0, d.1, (d.2.0, new d.2.0 d.2.1, d.2.2))

  transactions_there : AreRedoTransactions shape grown h z.world.lanes
  transactions_there = record {
    each = λ k. transaction_same shape s.log grown h (txn_at z.world.lanes k) (own_beside (txn_at z.world.lanes k).number c s.log (λ of. of.1 refl)) (world.transactions.each k);
    known = λ q m plain. elim (world.transactions.known q (old q m plain) plain) [
      | inl k ↦ inl k
      | inr gone ↦ inr ((gone.0.0, new gone.0.0 gone.0.1, gone.0.2), gone.1)
    ];
    apart = world.transactions.apart;
    barred = λ q k a m d mine. (let b = deleted_back a q m d in world.transactions.barred q k a b.0 b.1 mine);
  }

  skipped_there : AreSkipped grown
  skipped_there q m end =
      let there = old q m (end_plain q end) in
      (q, m, ((end, refl), (c, inserted_in c s.log c (inl refl), (refl, stage.passes.checkpoint refl q there))))

  spare_there : IsSpare shape state
  spare_there =
      let same = checkpoints_need shape 0 s.log c refl (stage.passes.checkpoint refl) in
      let enough = stage.can.cells.checkpoint_here world.no_force stands_in in
      let here : need_in (part_of shape) 0 s.log + 1 + 1 ≤ s.room 0 = subst (λ p. need_in (part_of shape) p s.log + 1 + 1 ≤ s.room p) stands_in enough in
      omega (arith, same, here)

  runs_there : (q : ℕ) → (made_part shape 0 z.world.keeping).runs q ≡ (if q == 0 then resting else z.world.keeping.runs q)
  runs_there q = ap (λ (k : Keeping). k.runs q) (last_events_end shape z.world.keeping 0 last.last).kept
      ∙ by_part (λ n t. (if t then resting else (if t then one_more (z.world.keeping.runs 0) else z.world.keeping.runs n)) ≡ (if t then resting else z.world.keeping.runs n)) 0 q refl (λ ne. refl)

  holder_there : (q : ℕ) → (made_part shape 0 z.world.keeping).holder q ≡ z.world.keeping.holder q
  holder_there q = ap (λ (k : Keeping). k.holder q) (last_events_end shape z.world.keeping 0 last.last).kept

  told_there : AreTold shape z.dirty later
  told_there = told_beside shape z.dirty region (z.world.keeping.holder 0) e
      (λ a m. log_stores_none shape a e m (next_is_log shape base s chains z.world.keeping region 0 e last.event world.log.logged)) stage.told

  pub noted_there : IsRedoWorldAt shape behind state (with_chain 0 (chain_behind place (chains 0)) chains) start_heap (noted_behind shape l z) later
  noted_there = record {
    no_force = world.no_force;
    log = record {
      of_shape = same_shape region.size base behind world.log.header outside ∙ world.log.of_shape;
      header = subst (λ n. IsShape n behind) (sym (size_after region (z.world.keeping.holder 0) e)) (is_shape region.size base behind world.log.header outside);
      logged = appends_are_made shape base s chains z.world.keeping region 0 e place c last world.log.ordered.newest_first world.log.fits world.log.logged;
      sound = sound_it;
      ordered = orders_keep.made shape 0 z.world.next z.world.keeping world.log.ordered;
      fits = runs_keep.made shape 0 z.world.keeping first world.log.ordered.newest_first (subst (λ (part : LogPart). Spares part z.world.keeping.ledger) (sym last.under_way) tt) world.log.fits;
      numbers = world.log.numbers;
    };
    spare = spare_there;
    owners = world.owners;
    transactions = transactions_there;
    heap = record { full = λ a m. log_leaves.full a m (world.heap.full a m); now = λ a m none. log_leaves.newest_is a m ∙ world.heap.now a m (deleted_forth a none) };
    stands = λ a u m may_be. stands_there a u m (log_leaves.fewer a u m may_be);
    stage = record {
      tells = sweeps_tell.begins shape z.dirty l later told_there;
      told = λ none_yet. told_there;
      all_swept = λ a m d. (let u = stage.all_swept a m d in (u.0, new u.0 u.1, (u.2.0, u.2.1, λ q k end. u.2.2 q (old q k (end_plain q end.0)) end)));
      skipped = skipped_there;
      at_rest = record {
        held = record { holder = λ p lt. holder_there p ∙ stage.held.holder p lt; landed = stage.held.landed };
        run = λ p lt. runs_there p ∙ by_part (λ n t. n < shape.partitions → (if t then resting else z.world.keeping.runs n) ≡ resting) 0 p (λ k. refl) (λ ne k. stage.others p k ne) lt;
        under = stage.under;
      };
      deleted = λ a m. absurd m;
      zero = λ a m. absurd m;
    };
  }

pub notes_settle : NotesSettle
notes_settle shape base s chains start_heap z region l place number made e is last world =
    noted_there shape base s chains start_heap z region l place number made e
    (stage_is shape s (fold start_heap z.world.history) z.world z.dirty region z.checkpoint (notes l place number made) is world.stage) last world
