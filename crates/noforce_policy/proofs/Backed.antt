-- What keeps the words of a log backed.
use Rattle.std.proofs.Common.{◌≡◌, ◌≢◌, ◌⊎◌, inl, inr, ℕ, ◌<◌, [], ◌∷◌, ◌++◌, refl, sym, ap, ◌∙◌, subst, arith, Option, Some, None}
use Rattle.persist_model.specs.declared.event.Event.{Event}
use Rattle.persist_model.specs.declared.event.Event.TheVariants.{Store}
use Rattle.persist_model.specs.Region.{Words, Region, candidate, newest, after}
use Rattle.persist_model.specs.Records.{Record, Log, IsAmong, Has, HasNo, IsChange, IsCheckpoint, IsEnd, IsRunning, IsSkipped}
use Rattle.persist_model.specs.Shape.{Shape, IsHeapWord, part_of}
use Rattle.persist_model.specs.Standing.{IsToUndo, IsToDelete, IsToRedo, IsLatest}
use Rattle.persist_model.specs.Order.{Follows}
use Rattle.persist_model.specs.State.{State, IsSoundState}
use Rattle.persist_model.proofs.Candidates.{newest-push}
use Rattle.log_laws.specs.Closing.{IsClosing}
use Rattle.log_laws.specs.Moves.{IsChangeBy}
use Rattle.log_laws.proofs.Deciding.{IsDecided, decide_equal, decide_less, decide_to_undo, decide_to_delete, decide_to_redo, has_or_none, ended_or_running}
use Rattle.log_laws.proofs.Growing.{numbered, word_is_one's}
use Rattle.log_laws.proofs.Keeping.{good_of}
use Rattle.log_laws.proofs.Standings.{AreNumbered, latest_some}
use Rattle.log_laws.proofs.Undoing.{lesser_before}
use Rattle.log_laws.proofs.Closings.{part_among, part_cases, running_back, skipped_on as skipped_closed}
use Rattle.plan_records.specs.Passing.{inserted, Passes}
use Rattle.plan_records.specs.Courses.{own_records, IsAboveOwn}
use Rattle.plan_records.specs.HeapCourses.{IsChanged}
use Rattle.plan_records.proofs.Changes.{decide_change, to_undo_of}
use Rattle.plan_records.proofs.OwnRecords.{own_in, own_out}
use Rattle.plan_records.proofs.Passing.{inserted_out, inserted_in}
use Rattle.noforce_policy.specs.Backed.{HasOneValue, IsUnpassed, IsBacked, IsCommittedWord, AreBacked, AreOwnBacked, AreAllSwept, IsNoStoreTo}
use Rattle.noforce_policy.specs.BackedLaws.{EventsKeepBacked, RecordsKeepBacked, RecordsKeepOwn, ChangedWordsAreOwn, ChangesAreBacked, EmptyLogsBack}
use Rattle.noforce_policy.proofs.Sweeps.{same_word, same_newest, stays}

-- ---- changes

no_end_change : (r : Record) → IsChange r → IsEnd r → ⊥
no_end_change r (inl one) four = omega (arith, one, four)
no_end_change r (inr two) four = omega (arith, two, four)

pub no_check_change : (r : Record) → IsChange r → r.kind ≢ 5
no_check_change r (inl one) five = omega (arith, one, five)
no_check_change r (inr two) five = omega (arith, two, five)

-- no checkpoint has passed a running transaction
running_unpassed : (log : Log) (t : ℕ) → IsRunning log t → IsSkipped log t → ⊥
running_unpassed log t running s = running s.0 s.1 s.2.0

-- the last change by a running transaction is the latest of all
pub own_is_latest : (shape : Shape) (x : State) (t a : ℕ) (r : Record) → IsSoundState shape x → IsRunning x.log t → IsLatest (IsChangeBy t a) x.log r →
    IsLatest (IsUnpassed x.log a) x.log r
own_is_latest shape x t a r sound running l = record {
  among = l.among;
  has = (l.has.0, l.has.1, λ s. running_unpassed x.log t running (subst (λ y. IsSkipped x.log y) l.has.2 s));
  last = λ s m k. elim (decide_equal s.transaction t) [
    | inl e ↦ l.last s m (k.0, k.1, e)
    | inr ne ↦ elim (decide_less r.lsn s.lsn) [
      | inl lt ↦ absurd (barred s k lt ne (lesser_before (part_of shape) x.log x.log sound.order (good_of shape x sound).falls r s l.among m lt))
      | inr below ↦ omega (arith, below)
    ]
  ];
}
  where
    barred : (s : Record) → IsUnpassed x.log a s → r.lsn < s.lsn → s.transaction ≢ t → (earlier : Log) × IsAmong earlier r × Follows (part_of shape) x.log earlier s → ⊥
    barred s k lt ne f = f.2.word (inl k.0) r f.1 (l.has.1 ∙ sym k.1, (λ e. ne (sym e ∙ l.has.2)), inl (inl l.has.0, subst (λ y. IsRunning x.log y) (sym l.has.2) running))

-- a word is backed by its latest change
backed_by : (log : Log) (region : Region) (a : ℕ) (r : Record) → AreNumbered log → IsLatest (IsUnpassed log a) log r → newest (region.at a) ≡ r.after → IsBacked log region a
backed_by log region a r apart l e = record {
  changed = λ x k. e ∙ ap (λ (y : Record). y.after) (apart r x l.among k.among (let p = l.last x k.among k.has in let q = k.last r l.among l.has in omega (arith, p, q)));
  unchanged = λ none. absurd (none r l.among l.has);
}

-- ---- events

backed_event : (log : Log) (region : Region) (by a : ℕ) (e : Event) → IsNoStoreTo a e → IsBacked log region a → IsBacked log (after region by e) a
backed_event log region by a e away b = record {
  changed = λ r l. same_newest region by a e away ∙ b.changed r l;
  unchanged = λ none. stays region by a e away (b.unchanged none);
}

backed_store : (shape : Shape) (x : State) (region : Region) (lane t a : ℕ) (r : Record) → IsSoundState shape x → IsRunning x.log t → IsLatest (IsChangeBy t a) x.log r →
    IsBacked x.log (after region lane (Store a r.after)) a
backed_store shape x region lane t a r sound running l =
    backed_by x.log (after region lane (Store a r.after)) a r (numbered (part_of shape) x.log x.log sound.order) (own_is_latest shape x t a r sound running l)
    (ap newest (same_word a (λ cs. cs ++ candidate r.after 0 ∷ []) region) ∙ newest-push (region.at a) (candidate r.after 0))

pub events_keep_backed : EventsKeepBacked
events_keep_backed = record {
  word = backed_event;
  each = λ shape log region by e stores all a is. elim (stores a is.heap_word) [
    | inl away ↦ backed_event log region by a e away (all a is)
    | inr (inl u) ↦ absurd (is.not_undone u.0 u.1 u.2)
    | inr (inr d) ↦ absurd (is.not_deleted d.0 d.1 d.2)
  ];
  own = λ log region t by waiting e away own a apart changed. backed_event log region by a e (away a changed) (own a apart changed);
  store = backed_store;
}

-- ---- a record that doesn't change the word

skipped_on : (r : Record) (log : Log) (t : ℕ) → IsSkipped log t → IsSkipped (inserted r log) t
skipped_on r log t s = (s.0, inserted_in r log s.0 (inr s.1), (s.2.0, (s.2.1.0, inserted_in r log s.2.1.0 (inr s.2.1.1), s.2.1.2)))

skipped_back : (r : Record) (log : Log) (t : ℕ) → Passes log r → r.kind ≢ 5 → IsSkipped (inserted r log) t → IsSkipped log t
skipped_back r log t passes no_check s = by s.0 s.2.1.0 s.2.0 s.2.1.2 (inserted_out r log s.0 s.1) (inserted_out r log s.2.1.0 s.2.1.1)
  where
    by : (e c : Record) → IsEnd e × (e.transaction ≡ t) → IsCheckpoint c × (e.lsn < c.lsn) → (e ≡ r) ⊎ IsAmong log e → (c ≡ r) ⊎ IsAmong log c → IsSkipped log t
    by e c end check m (inl k) = absurd (no_check (ap (λ (y : Record). y.kind) (sym k) ∙ check.0))
    by e c end check (inl m) (inr k) = absurd ((passes.newer c k (subst (λ (y : Record). y.lsn < c.lsn) m check.1)).no_checkpoint check.0)
    by e c end check (inr m) (inr k) = (e, m, (end, (c, k, check)))

backed_record : (log : Log) (region : Region) (r : Record) (a : ℕ) → Passes log r → r.kind ≢ 5 → (IsChange r → r.word ≢ a) → IsBacked log region a → IsBacked (inserted r log) region a
backed_record log region r a passes no_check other b = record {
  changed = λ x l. b.changed x (record {
    among = (back x (inserted_out r log x l.among) l.has).0;
    has = (back x (inserted_out r log x l.among) l.has).1;
    last = λ s m k. l.last s (inserted_in r log s (inr m)) (on s k);
  });
  unchanged = λ none. b.unchanged (λ s m k. none s (inserted_in r log s (inr m)) (on s k));
}
  where
    on : (x : Record) → IsUnpassed log a x → IsUnpassed (inserted r log) a x
    on x k = (k.0, k.1, λ s. k.2 (skipped_back r log x.transaction passes no_check s))

    back : (x : Record) → (x ≡ r) ⊎ IsAmong log x → IsUnpassed (inserted r log) a x → IsAmong log x × IsUnpassed log a x
    back x (inl e) k = absurd (other (subst IsChange e k.0) (ap (λ (y : Record). y.word) (sym e) ∙ k.1))
    back x (inr m) k = (m, (k.0, k.1, λ s. k.2 (skipped_on r log x.transaction s)))

-- ---- the words that are to be undone or deleted

deleted_on : (r : Record) (log : Log) (a : ℕ) (d : Record) → IsToDelete log a d → IsToDelete (inserted r log) a d
deleted_on r log a d k = (k.0, k.1, (k.2.0, inserted_in r log k.2.0 (inr k.2.1), k.2.2))

-- a transaction that the record doesn't end runs on
runs_on : (r : Record) (log : Log) (t : ℕ) → (IsEnd r → r.transaction ≢ t) → IsRunning log t → IsRunning (inserted r log) t
runs_on r log t other running e m end = elim (inserted_out r log e m) [
  | inl k ↦ other (ap (λ (y : Record). y.kind) (sym k) ∙ end.0) (ap (λ (y : Record). y.transaction) (sym k) ∙ end.1)
  | inr k ↦ running e k end
]

-- a committed word behind a record that is no end was one before
committed_back : (shape : Shape) (log : Log) (r : Record) (a : ℕ) → r.kind ≢ 4 → IsCommittedWord shape (inserted r log) a → IsCommittedWord shape log a
committed_back shape log r a no_end is = record {
  heap_word = is.heap_word;
  not_undone = λ u m k. is.not_undone u (inserted_in r log u (inr m)) (k.0, k.1, runs_on r log u.transaction (λ four. absurd (no_end four)) k.2);
  not_deleted = λ d m k. is.not_deleted d (inserted_in r log d (inr m)) (deleted_on r log a d k);
}

backed_running : (shape : Shape) (s x : State) (region : Region) (r : Record) → Passes s.log r → r.kind ≢ 4 → r.kind ≢ 5 → IsRunning s.log r.transaction →
    x.log ≡ inserted r s.log → IsSoundState shape x → AreBacked shape s.log region → AreBacked shape x.log region
backed_running shape s x region r passes no_end no_check running is sound all a word =
    subst (λ l. IsBacked l region a) (sym is) (backed_record s.log region r a passes no_check other
    (all a (committed_back shape s.log r a no_end (subst (λ l. IsCommittedWord shape l a) is word))))
  where
    other : IsChange r → r.word ≢ a
    other change e =
        let runs = subst (λ l. IsRunning l r.transaction) (sym is) (runs_on r s.log r.transaction (λ four. absurd (no_end four)) running) in
        let u = to_undo_of shape x r.transaction a r sound runs (subst (λ l. IsAmong l r) (sym is) (inserted_in r s.log r (inl refl))) (change, e, refl) in
        word.not_undone u.0 u.1 u.2

backed_end : (shape : Shape) (log : Log) (region : Region) (e : Record) → Passes log e → IsEnd e → AreOwnBacked e.transaction None log region →
    AreBacked shape log region → AreBacked shape (inserted e log) region
backed_end shape log region e passes end own all a word =
    backed_record log region e a passes (λ five. (let four : e.kind ≡ 4 = end in omega (arith, four, five))) (λ change. absurd (no_end_change e change end))
    (by (has_or_none (IsToUndo log a) log (decide_to_undo log a)))
  where
    by : Has (IsToUndo log a) log ⊎ HasNo (IsToUndo log a) log → IsBacked log region a
    by (inl u) = elim (decide_equal u.0.transaction e.transaction) [
      | inl same ↦ own a (λ e. cc) (u.0, u.1, (inl u.2.0, u.2.1, same))
      | inr ne ↦ absurd (word.not_undone u.0 (inserted_in e log u.0 (inr u.1)) (u.2.0, u.2.1, runs_on e log u.0.transaction (λ four same. ne (sym same)) u.2.2))
    ]
    by (inr none) = all a (record { heap_word = word.heap_word; not_undone = none; not_deleted = λ d m k. word.not_deleted d (inserted_in e log d (inr m)) (deleted_on e log a d k) })

-- ---- a checkpoint record

-- of a word that isn't to be undone each change that no checkpoint has passed is to be redone
pub to_redo_of : (shape : Shape) (x : State) (a : ℕ) (r : Record) → shape.policy ≡ 2 → IsSoundState shape x → HasNo (IsToUndo x.log a) x.log → IsAmong x.log r → IsUnpassed x.log a r →
    IsToRedo shape.policy x.log a r
to_redo_of shape x a r two sound none m k = elim (ended_or_running x.log r.transaction) [
  | inl ended ↦ (two, k.0, k.1, ended, k.2)
  | inr running ↦ (let u = to_undo_of shape x r.transaction a r sound running m (k.0, k.1, refl) in absurd (none u.0 u.1 u.2))
]

backed_checkpoint : (shape : Shape) (s : State) (region : Region) (c : Record) → shape.policy ≡ 2 → IsSoundState shape s → IsCheckpoint c → Passes s.log c →
    AreBacked shape s.log region → AreAllSwept shape s.log region → AreBacked shape (inserted c s.log) region
backed_checkpoint shape s region c two sound check passes all swept a word = record {
  changed = λ r l. absurd (none r (inserted_out c s.log r l.among) l.has);
  unchanged = λ _. one (has_or_none (IsToRedo shape.policy s.log a) s.log (decide_to_redo shape.policy s.log a));
}
  where
    before : IsCommittedWord shape s.log a
    before = committed_back shape s.log c a (λ four. (let five : c.kind ≡ 5 = check in omega (arith, four, five))) word

    -- each ended transaction is skipped now
    none : (r : Record) → (r ≡ c) ⊎ IsAmong s.log r → IsUnpassed (inserted c s.log) a r → ⊥
    none r (inl e) k = no_check_change r k.0 (ap (λ (y : Record). y.kind) e ∙ check)
    none r (inr m) k =
        let e = (to_redo_of shape s a r two sound before.not_undone m (k.0, k.1, λ skipped. k.2 (skipped_on c s.log r.transaction skipped))).3 in
        k.2 (e.0, inserted_in c s.log e.0 (inr e.1), (e.2, (c, inserted_in c s.log c (inl refl), (check, passes.checkpoint check e.0 e.1))))

    one : Has (IsToRedo shape.policy s.log a) s.log ⊎ HasNo (IsToRedo shape.policy s.log a) s.log → HasOneValue region a
    one (inl h) = swept a before (subst (λ n. Has (IsToRedo n s.log a) s.log) two h)
    one (inr off) = (all a before).unchanged (λ r m k. off r m (to_redo_of shape s a r two sound before.not_undone m k))

backed_own : (shape : Shape) (s : State) (region : Region) (c : Record) (t : ℕ) (waiting : Option ℕ) → IsSoundState shape s → IsCheckpoint c → IsRunning s.log t →
    AreOwnBacked t waiting s.log region → AreOwnBacked t waiting (inserted c s.log) region
backed_own shape s region c t waiting sound check running own a apart changed = by (latest_some (IsChangeBy t a) s.log (decide_change t a))
  where
    before : (x : Record) → IsChange x → (x ≡ c) ⊎ IsAmong s.log x → IsAmong s.log x
    before x change (inl e) = absurd (no_check_change x change (ap (λ (y : Record). y.kind) e ∙ check))
    before x change (inr m) = m

    was : (x : Record) → IsAmong (inserted c s.log) x → IsUnpassed (inserted c s.log) a x → IsAmong s.log x × IsUnpassed s.log a x
    was x m k = (before x k.0 (inserted_out c s.log x m), (k.0, k.1, λ skipped. k.2 (skipped_on c s.log x.transaction skipped)))

    by : ((r : Record) × IsLatest (IsChangeBy t a) s.log r) ⊎ HasNo (IsChangeBy t a) s.log → IsBacked (inserted c s.log) region a
    by (inr none) = absurd (none changed.0 (before changed.0 changed.2.0 (inserted_out c s.log changed.0 changed.1)) changed.2)
    by (inl r) =
        let l = own_is_latest shape s t a r.0 sound running r.1 in
        let runs = runs_on c s.log t (λ four. (let five : c.kind ≡ 5 = check in absurd (omega (arith, four, five)))) running in
        let still : IsUnpassed (inserted c s.log) a r.0 = (l.has.0, l.has.1, λ skipped. running_unpassed (inserted c s.log) t runs (subst (λ y. IsSkipped (inserted c s.log) y) r.1.has.2 skipped)) in
        record {
          changed = λ x k. (
              let w = was x k.among k.has in
              let p = l.last x w.0 w.1 in
              let q = k.last r.0 (inserted_in c s.log r.0 (inr l.among)) still in
              (own a apart (r.0, l.among, r.1.has)).changed r.0 l ∙ ap (λ (y : Record). y.after) (numbered (part_of shape) s.log s.log sound.order r.0 x l.among w.0 (omega (arith, p, q))));
          unchanged = λ none. absurd (none r.0 (inserted_in c s.log r.0 (inr l.among)) still);
        }

-- ---- a closing

backed_closing : (shape : Shape) (s : State) (region : Region) (w : Words) (later : Log) → shape.policy ≡ 2 → IsSoundState shape s → IsClosing shape.policy s.log w later →
    ((a : ℕ) → IsHeapWord shape a → Has (IsToDelete s.log a) s.log → HasOneValue region a) → AreBacked shape s.log region → AreBacked shape later region
backed_closing shape s region w later two sound closing zero all a word = record {
  changed = λ r l. absurd (none r l.among l.has);
  unchanged = λ _. one (has_or_none (IsToDelete s.log a) s.log (decide_to_delete s.log a));
}
  where
    not_undone : HasNo (IsToUndo s.log a) s.log
    not_undone u m k = elim (part_cases _ later s.log closing.part u m) [
      | inl still ↦ word.not_undone u still (k.0, k.1, λ e n end. k.2 e (part_among _ later s.log closing.part e n) end)
      | inr gone ↦ elim gone.ended [ inl five ↦ no_check_change u (inl k.0) five | inr ended ↦ k.2 ended.0 ended.1 ended.2 ]
    ]

    none : (r : Record) → IsAmong later r → IsUnpassed later a r → ⊥
    none r m k = elim (ended_or_running later r.transaction) [
      | inl ended ↦ closing.redone a r (part_among _ later s.log closing.part r m) (
        two,
        k.0,
        k.1,
        (ended.0, part_among _ later s.log closing.part ended.0 ended.1, ended.2),
        λ skipped. k.2 (skipped_closed shape.policy s.log w later closing r.transaction (r, m, (refl, no_check_change r k.0)) skipped),
      )
      | inr running ↦ (
          let before = part_among _ later s.log closing.part r m in
          let runs = running_back shape.policy s.log w later closing r.transaction (r, m, (refl, no_check_change r k.0)) running in
          let u = to_undo_of shape s r.transaction a r sound runs before (k.0, k.1, refl) in
          not_undone u.0 u.1 u.2)
    ]

    one : Has (IsToDelete s.log a) s.log ⊎ HasNo (IsToDelete s.log a) s.log → HasOneValue region a
    one (inl d) = zero a word.heap_word d
    one (inr off) = (all a (record { heap_word = word.heap_word; not_undone = not_undone; not_deleted = off })).unchanged
        (λ r m k. closing.redone a r m (to_redo_of shape s a r two sound not_undone m k))

pub records_keep_backed : RecordsKeepBacked
records_keep_backed = record { word = backed_record; running = backed_running; ends = backed_end; checkpoints = backed_checkpoint; closings = backed_closing }

-- ---- the words of a running transaction

-- behind a record that doesn't change them
own_others : (shape : Shape) (s x : State) (region : Region) (r : Record) (t : ℕ) (waiting : Option ℕ) → Passes s.log r → r.kind ≢ 5 → (IsChange r → r.transaction ≢ t) →
    IsRunning s.log r.transaction → IsRunning s.log t → x.log ≡ inserted r s.log → IsSoundState shape x → AreOwnBacked t waiting s.log region → AreOwnBacked t waiting x.log region
own_others shape s x region r t waiting passes no_check apart runs running is sound own a off changed =
    subst (λ l. IsBacked l region a) (sym is) (backed_record s.log region r a passes no_check other (own a off (before (inserted_out r s.log changed.0 here))))
  where
    here : IsAmong (inserted r s.log) changed.0
    here = subst (λ l. IsAmong l changed.0) is changed.1

    before : (changed.0 ≡ r) ⊎ IsAmong s.log changed.0 → IsChanged s.log t a
    before (inl e) = absurd (apart (subst IsChange e changed.2.0) (ap (λ (y : Record). y.transaction) (sym e) ∙ changed.2.2))
    before (inr m) = (changed.0, m, changed.2)

    other : IsChange r → r.word ≢ a
    other change word =
        let runs_later : IsRunning x.log r.transaction = subst (λ l. IsRunning l r.transaction) (sym is) (runs_on r s.log r.transaction (λ four. absurd (no_end_change r change four)) runs) in
        let own_later : IsRunning x.log changed.0.transaction = subst (λ y. IsRunning x.log y) (sym changed.2.2)
        (subst (λ l. IsRunning l t) (sym is) (runs_on r s.log t (λ four. absurd (no_end_change r change four)) running)) in
        word_is_one's (part_of shape) x.log sound.order r changed.0 (subst (λ l. IsAmong l r) (sym is) (inserted_in r s.log r (inl refl))) changed.1
        (inl change) (inl changed.2.0) (word ∙ sym changed.2.1) (inl (inl change, runs_later)) (inl (inl changed.2.0, own_later)) (λ e. apart change (e ∙ changed.2.2))

-- behind a closing
own_closing : (shape : Shape) (s : State) (region : Region) (w : Words) (later : Log) (t : ℕ) (waiting : Option ℕ) → IsSoundState shape s → IsClosing shape.policy s.log w later → IsRunning s.log t →
    AreOwnBacked t waiting s.log region → AreOwnBacked t waiting later region
own_closing shape s region w later t waiting sound closing running own a apart changed = by (latest_some (IsChangeBy t a) s.log (decide_change t a))
  where
    before : (x : Record) → IsAmong later x → IsAmong s.log x
    before x m = part_among _ later s.log closing.part x m

    was : (x : Record) → IsAmong later x → IsUnpassed later a x → IsUnpassed s.log a x
    was x m k = (k.0, k.1, λ skipped. k.2 (skipped_closed shape.policy s.log w later closing x.transaction (x, m, (refl, no_check_change x k.0)) skipped))

    -- a record of t stays
    still : (r : Record) → IsAmong s.log r → IsChangeBy t a r → IsAmong later r
    still r m k = elim (part_cases _ later s.log closing.part r m) [
      | inl on ↦ on
      | inr gone ↦ absurd (elim gone.ended [ inl five ↦ no_check_change r k.0 five | inr ended ↦ running ended.0 ended.1 (ended.2.0, ended.2.1 ∙ k.2) ])
    ]

    by : ((r : Record) × IsLatest (IsChangeBy t a) s.log r) ⊎ HasNo (IsChangeBy t a) s.log → IsBacked later region a
    by (inr none) = absurd (none changed.0 (before changed.0 changed.1) changed.2)
    by (inl r) =
        let l = own_is_latest shape s t a r.0 sound running r.1 in
        let here = still r.0 l.among r.1.has in
        let open_one : IsUnpassed later a r.0 = (l.has.0, l.has.1, λ skipped. running skipped.0 (before skipped.0 skipped.1) (skipped.2.0.0, skipped.2.0.1 ∙ r.1.has.2)) in
        record {
          changed = λ x k. (
              let p = l.last x (before x k.among) (was x k.among k.has) in
              let q = k.last r.0 here open_one in
              (own a apart (r.0, l.among, r.1.has)).changed r.0 l ∙ ap (λ (y : Record). y.after) (numbered (part_of shape) s.log s.log sound.order r.0 x l.among (before x k.among) (omega (arith, p, q))));
          unchanged = λ none. absurd (none r.0 here open_one);
        }

pub records_keep_own : RecordsKeepOwn
records_keep_own = record {
  none = λ log region t none a apart changed. absurd (none changed.0 changed.1 (changed.2.2, no_check_change changed.0 changed.2.0));
  others = own_others;
  checkpoints = backed_own;
  closings = own_closing;
}

changed_one : (shape : Shape) (x : State) (t u a : ℕ) → IsSoundState shape x → IsRunning x.log t → IsRunning x.log u → IsChanged x.log t a → IsChanged x.log u a → t ≡ u
changed_one shape x t u a sound runs other c d = elim (decide_equal t u) [
  | inl e ↦ e
  | inr ne ↦ absurd (word_is_one's (part_of shape) x.log sound.order c.0 d.0 c.1 d.1 (inl c.2.0) (inl d.2.0) (c.2.1 ∙ sym d.2.1)
      (inl (inl c.2.0, subst (λ y. IsRunning x.log y) (sym c.2.2) runs)) (inl (inl d.2.0, subst (λ y. IsRunning x.log y) (sym d.2.2) other)) (λ e. ne (sym c.2.2 ∙ e ∙ d.2.2)))
]

pub changed_words_are_own : ChangedWordsAreOwn
changed_words_are_own = record { undone = λ shape x t a sound running c. to_undo_of shape x t a c.0 sound running c.1 c.2; one = changed_one }

-- ---- a change and its store

change_recorded : (shape : Shape) (s : State) (region : Region) (r : Record) → Passes s.log r → IsChange r → AreOwnBacked r.transaction None s.log region →
    AreOwnBacked r.transaction (Some r.word) (inserted r s.log) region
change_recorded shape s region r passes change own a apart changed =
    backed_record s.log region r a passes (no_check_change r change) (λ c e. apart (ap (λ n. Some n) e)) (own a (λ e. cc) (before (inserted_out r s.log changed.0 changed.1)))
  where
    before : (changed.0 ≡ r) ⊎ IsAmong s.log changed.0 → IsChanged s.log r.transaction a
    before (inl e) = absurd (apart (ap (λ n. Some n) (ap (λ (z : Record). z.word) (sym e) ∙ changed.2.1)))
    before (inr m) = (changed.0, m, changed.2)

change_last : (log : Log) (r : Record) → IsChange r → IsAboveOwn r.transaction log r.lsn → IsLatest (IsChangeBy r.transaction r.word) (inserted r log) r
change_last log r change above = record {
  among = inserted_in r log r (inl refl);
  has = (change, refl, refl);
  last = λ y m k. elim (inserted_out r log y m) [
    | inl e ↦ (let same : y.lsn ≡ r.lsn = ap (λ (z : Record). z.lsn) e in omega (arith, same))
    | inr n ↦ (let lt = above y n (k.2, no_check_change y k.0) in omega (arith, lt))
  ];
}

change_waits : (log later : Log) (t a : ℕ) (r : Record) → own_records t later ≡ own_records t log → IsLatest (IsChangeBy t a) log r → IsLatest (IsChangeBy t a) later r
change_waits log later t a r same l = record {
  among = (own_out t later r (subst (λ o. IsAmong o r) (sym same) (own_in t log r l.among (l.has.2, no_check_change r l.has.0)))).0;
  has = l.has;
  last = λ y m k. l.last y (own_out t log y (subst (λ o. IsAmong o y) same (own_in t later y m (k.2, no_check_change y k.0)))).0 k;
}

change_stored : (shape : Shape) (x : State) (region : Region) (lane t a : ℕ) (r : Record) → IsSoundState shape x → IsRunning x.log t → IsLatest (IsChangeBy t a) x.log r →
    AreOwnBacked t (Some a) x.log region → AreOwnBacked t None x.log (after region lane (Store a r.after))
change_stored shape x region lane t a r sound running l own b apart changed = by (decide_equal b a)
  where
    by : IsDecided (b ≡ a) → IsBacked x.log (after region lane (Store a r.after)) b
    by (inl e) = subst (λ c. IsBacked x.log (after region lane (Store a r.after)) c) (sym e) (backed_store shape x region lane t a r sound running l)
    by (inr ne) = backed_event x.log region lane b (Store a r.after) ne (own b (λ e. ne (cc)) changed)

pub changes_are_backed : ChangesAreBacked
changes_are_backed = record { recorded = change_recorded; last = change_last; waits = change_waits; stored = change_stored }

pub empty_logs_back : EmptyLogsBack
empty_logs_back shape region one a word = record { changed = λ r l. absurd l.among; unchanged = λ none. one a word.heap_word }
