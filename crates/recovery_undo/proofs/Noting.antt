-- The records that an undo appends, one by one: each may come, and the undo goes on with it.
use Rattle.std.proofs.Common.{◌≡◌, ◌≢◌, inl, inr, ℕ, ◌+◌, ◌-◌, zero-add, ◌<◌, ◌≤◌, true, false, [], ◌∷◌, length, refl, sym, ap, ◌∙◌, subst, arith}
use Rattle.std.proofs.lemmas.Bool.Decides.{eqb_tells}
use Rattle.persist_model.specs.Records.{Record, Log, IsAmong, Has, HasNo, IsOf, IsUpdate, IsRollback, IsRunning, IsLoser}
use Rattle.persist_model.specs.Order.{IsInOrder}
use Rattle.persist_model.specs.Shape.{Shape, part_of}
use Rattle.persist_model.specs.ImageRecords.{IsWellFormed}
use Rattle.persist_model.specs.Need.{to_undo, need_of, has_kind_of}
use Rattle.persist_model.specs.State.{State, IsSoundState}
use Rattle.log_laws.specs.StateAppends.{MayCome}
use Rattle.log_laws.specs.Recovery.{AreApplied, HasDecidingRecord, Appends, IsOfLoser, IsStored, grown, Step, rolls_back, compensates, ends}
use Rattle.log_laws.specs.Recovering.{with_heap}
use Rattle.log_laws.proofs.Deciding.{decide_equal}
use Rattle.log_laws.proofs.Growing.{Descends, numbered, one_before}
use Rattle.log_laws.proofs.Keeping.{recovery_keeps, good_of, undone_of}
use Rattle.log_laws.proofs.Clearing.{loser_needs}
use Rattle.log_laws.proofs.Needs.{need_rollback, need_compensation, has_kind_true, has_kind_false}
use Rattle.log_laws.proofs.Applying.{applied_stored, applied_noted, applied_ended}
use Rattle.log_laws.proofs.Passes.{part_inside}
use Rattle.bucket_log.specs.States.{less_room}
use Rattle.bucket_log.proofs.PartStates.{less_here, less_elsewhere}
use Rattle.recovery_run.specs.Reached.{with_value}
use Rattle.recovery_run.proofs.Coming.{compensation_may_come, rollback_may_come}
use Rattle.recovery_undo.specs.Numbers.{next_lsn}
use Rattle.recovery_undo.specs.UndoProgress.{IsNote, IsUndoing}
use Rattle.recovery_undo.specs.Records.{compensation_of, plain_record}

-- ---- a record takes the next number and a cell of its part

newest_is_above : (x : Record) (log : Log) → Descends (x ∷ log) → (s : Record) → IsAmong (x ∷ log) s → s.lsn < x.lsn + 1
newest_is_above x log falls s (inl e) = let i : s.lsn ≡ x.lsn = ap (λ (y : Record). y.lsn) e in omega (arith, i)
newest_is_above x log falls s (inr m) = let lt = falls.0 s m in omega (arith, lt)

pub above_all : (log : Log) → Descends log → (s : Record) → IsAmong log s → s.lsn < next_lsn log
above_all [] falls s m = absurd m
above_all (x ∷ log) falls s m = newest_is_above x log falls s m

next_is : (log : Log) (s : Record) → IsAmong log s → (x : Record) × IsAmong log x × (next_lsn log ≡ x.lsn + 1)
next_is [] s m = absurd m
next_is (x ∷ log) s m = (x, inl refl, refl)

less_more : (part : ℕ) (room : ℕ → ℕ) → 1 ≤ room part → less_room part room part + 1 ≡ room part
less_more part room some = let less = less_here part room (room part - 1) (omega (arith, some)) in omega (arith, less, some)

pub appends_here : (shape : Shape) (part : ℕ) (s : State) (r x : Record) → 1 ≤ shape.partitions → IsSoundState shape s → IsAmong s.log x → 1 ≤ s.room part → part_of shape r.at ≡ part →
    r.lsn ≡ next_lsn s.log → IsWellFormed shape r → Appends shape s r (less_room part s.room)
appends_here shape part s r x some h m enough here next formed = record {
  formed = formed;
  above = λ y k. (let lt = above_all s.log (good_of shape s h).falls y k in omega (arith, lt, next));
  next = (let k = next_is s.log x m in (k.0, k.1, next ∙ k.2));
  inside = part_inside shape r.at some;
  here = subst (λ q. less_room part s.room q + 1 ≡ s.room q) (sym here) (less_more part s.room enough);
  elsewhere = λ p ne. less_elsewhere part s.room p (λ e. ne (e ∙ sym here));
}

-- ---- the undo of one transaction

in_one_part : (part : ℕ → ℕ) (log : Log) (t : ℕ) → IsInOrder part log → (x y : Record) → IsAmong log x → IsAmong log y → IsOf t x → IsOf t y → part x.at ≡ part y.at
in_one_part part log t f x y m k of_x of_y = elim (decide_equal (part x.at) (part y.at)) [
  | inl e ↦ e
  | inr ne ↦ absurd (elim (one_before part log log f x y m k) [
    | inl same ↦ ne (ap (λ (z : Record). part z.at) same)
    | inr (inl h) ↦ h.2.one_part y h.1 ((of_y.0 ∙ sym of_x.0, of_y.1), of_x.1, (λ e. ne (sym e)))
    | inr (inr h) ↦ h.2.one_part x h.1 ((of_x.0 ∙ sym of_y.0, of_x.1), of_y.1, ne)
  ])
]

pub undoing_begins : (shape : Shape) (t : ℕ) (y : State) (x : Record) → IsSoundState shape y → IsLoser y.log t → AreApplied shape.policy y.log y.words → IsAmong y.log x → IsOf t x →
    IsUndoing shape t (part_of shape x.at) y y
undoing_begins shape t y x sound loser applied m of = record {
  sound = sound;
  running = loser.1;
  some = loser.0;
  in_part = λ r k of_r. in_one_part (part_of shape) y.log t sound.order r x k m of_r of;
  applied = applied;
  news = [];
  log = refl;
  notes = λ r k. absurd k;
  need = zero-add (need_of y.log t);
}

module _ (shape : Shape) (t part : ℕ) (y z : State) (few : 1 ≤ shape.partitions) (h : IsUndoing shape t part y z) where
  pub has_room : 1 ≤ z.room part
  has_room =
      let n = loser_needs (part_of shape) part t z.log h.running h.some h.in_part in
      let inside : part < shape.partitions = subst (λ p. p < shape.partitions) (h.in_part h.some.0 h.some.1 h.some.2) (part_inside shape h.some.0.at few) in
      let k = (h.sound.room part inside).undo in
      omega (arith, n, k)

  pub positive : 1 ≤ t
  positive = elim (h.sound.formed h.some.0 h.some.1).transaction [
    | inl c ↦ absurd (h.some.2.1 c.0)
    | inr k ↦ (let e = h.some.2.0 in let one = k.1 in omega (arith, e, one))
  ]

  -- a record of t in its part
  pub note_appends : (r : Record) → part_of shape r.at ≡ part → r.lsn ≡ next_lsn z.log → IsWellFormed shape r → Appends shape z r (less_room part z.room)
  note_appends r here next formed = appends_here shape part z r h.some.0 few h.sound h.some.1 has_room here next formed

  pub note_loser : (r : Record) → r.transaction ≡ t → part_of shape r.at ≡ part → IsOfLoser shape z.log r
  note_loser r owner here = record {
    running = subst (λ x. IsLoser z.log x) (sym owner) (h.some, h.running);
    one_part = λ x m of. h.in_part x m (of.0 ∙ owner, of.1) ∙ sym here;
  }

  not_ended : has_kind_of t 4 z.log ≡ false
  not_ended = has_kind_false t 4 z.log h.running

  -- a note came
  noted : (r : Record) → IsNote t r → part_of shape r.at ≡ part → Step shape z (grown z r (less_room part z.room)) → need_of (r ∷ z.log) t + 1 ≡ need_of z.log t →
      IsUndoing shape t part y (grown z r (less_room part z.room))
  noted r note here step less =
      let sound = (recovery_keeps shape z (grown z r (less_room part z.room)) h.sound step).0 in
      let not_four : r.kind ≢ 4 = λ four. elim note.1 [ inl two ↦ absurd (omega (arith, two, four)) | inr three ↦ absurd (omega (arith, three, four)) ] in
      let not_five : r.kind ≢ 5 = λ five. elim note.1 [ inl two ↦ absurd (omega (arith, two, five)) | inr three ↦ absurd (omega (arith, three, five)) ] in
      let not_one : r.kind ≢ 1 = λ one. elim note.1 [ inl two ↦ absurd (omega (arith, two, one)) | inr three ↦ absurd (omega (arith, three, one)) ] in
      record {
        sound = sound;
        running = λ e m end. elim m [ inl same ↦ not_four (ap (λ (x : Record). x.kind) (sym same) ∙ end.0) | inr k ↦ h.running e k end ];
        some = (h.some.0, inr h.some.1, h.some.2);
        in_part = λ x m of. elim m [ inl same ↦ ap (λ (w : Record). part_of shape w.at) same ∙ here | inr k ↦ h.in_part x k of ];
        applied = applied_noted shape.policy z.log z.words r (not_four, not_five) not_one (subst (λ x. IsRunning z.log x) (sym note.0) h.running)
            (numbered (part_of shape) (r ∷ z.log) (r ∷ z.log) sound.order) h.applied;
        news = r ∷ h.news;
        log = ap (λ (l : Log). r ∷ l) h.log;
        notes = λ x m. elim m [ inl same ↦ subst (λ (w : Record). IsNote t w) (sym same) note | inr k ↦ h.notes x k ];
        need = (let n = h.need in omega (arith, n, less));
      }

  -- ---- a rollback record

  rollback_formed : (at : ℕ) → IsWellFormed shape (plain_record at (next_lsn z.log) t 3 0)
  rollback_formed at = record {
    kind = (omega arith, omega arith);
    transaction = inr ((omega arith), positive);
    change = λ c. elim c [ inl u ↦ absurd (omega (arith, u)) | inr u ↦ absurd (omega (arith, u)) ];
    deletion = λ d. absurd (omega (arith, d));
    outcome = inr ((omega arith), refl);
  }

  pub rollback_comes : (at : ℕ) → part_of shape at ≡ part → HasNo (λ x. IsOf t x × IsRollback x) z.log → MayCome shape z (plain_record at (next_lsn z.log) t 3 0) (less_room part z.room)
  rollback_comes at here first =
      let r = plain_record at (next_lsn z.log) t 3 0 in
      rollback_may_come shape z r (less_room part z.room) (note_appends r here refl (rollback_formed at)) (note_loser r refl here) refl first

  pub rollback_less : (at : ℕ) → HasNo (λ x. IsOf t x × IsRollback x) z.log → need_of (plain_record at (next_lsn z.log) t 3 0 ∷ z.log) t + 1 ≡ need_of z.log t
  rollback_less at first = need_rollback t (plain_record at (next_lsn z.log) t 3 0) z.log refl refl not_ended
      (has_kind_false t 3 z.log (λ x m k. first x m ((k.1, (λ five. (let three = k.0 in absurd (omega (arith, three, five))))), k.0)))

  pub rolled_back : (at : ℕ) → part_of shape at ≡ part → HasNo (λ x. IsOf t x × IsRollback x) z.log →
      IsUndoing shape t part y (grown z (plain_record at (next_lsn z.log) t 3 0) (less_room part z.room))
  rolled_back at here first =
      let r = plain_record at (next_lsn z.log) t 3 0 in
      noted r (refl, inr refl) here (rolls_back r (less_room part z.room) (note_appends r here refl (rollback_formed at)) (note_loser r refl here) refl first)
      (rollback_less at first)

  -- ---- a compensation

  pub compensation_less : (u : Record) (stack : Log) (at : ℕ) → to_undo t z.log ≡ u ∷ stack → need_of (compensation_of t u at (next_lsn z.log) ∷ z.log) t + 1 ≡ need_of z.log t
  compensation_less u stack at top = need_compensation t (compensation_of t u at (next_lsn z.log)) u stack z.log refl refl not_ended top

  compensation_formed : (u : Record) (at : ℕ) → IsAmong z.log u → IsUpdate u → IsWellFormed shape (compensation_of t u at (next_lsn z.log))
  compensation_formed u at m is = record {
    kind = (omega arith, omega arith);
    transaction = inr ((omega arith), positive);
    change = λ _. (h.sound.formed u m).change (inl is);
    deletion = λ d. absurd (omega (arith, d));
    outcome = inr ((omega arith), refl);
  }

  pub compensation_comes : (u : Record) (stack : Log) (at : ℕ) → part_of shape at ≡ part → IsAmong z.log u → IsUpdate u → to_undo t z.log ≡ u ∷ stack →
      MayCome shape z (compensation_of t u at (next_lsn z.log)) (less_room part z.room)
  compensation_comes u stack at here m is top =
      let c = compensation_of t u at (next_lsn z.log) in
      compensation_may_come shape z c u stack (less_room part z.room) (note_appends c here refl (compensation_formed u at m is)) (note_loser c refl here) refl top
      (record { word = refl; before = refl; after = refl; undo_next = refl })

  pub compensated : (u : Record) (stack : Log) (at : ℕ) → part_of shape at ≡ part → IsAmong z.log u → IsUpdate u → to_undo t z.log ≡ u ∷ stack →
      IsUndoing shape t part y (grown z (compensation_of t u at (next_lsn z.log)) (less_room part z.room))
  compensated u stack at here m is top =
      let c = compensation_of t u at (next_lsn z.log) in
      noted c (refl, inl refl) here (compensates c u stack (less_room part z.room) (note_appends c here refl (compensation_formed u at m is)) (note_loser c refl here) refl top
      (record { word = refl; before = refl; after = refl; undo_next = refl }))
      (compensation_less u stack at top)

  -- ---- a store of an OLD

  pub covers : (u : Record) → IsAmong z.log u → IsUpdate u → u.transaction ≡ t → HasDecidingRecord shape.policy z.log u.word
  covers u m is owner = inl (u, m, (is, refl, subst (λ x. IsRunning z.log x) (sym owner) h.running))

  pub stored : (u : Record) → IsAmong z.log u → IsUpdate u → u.transaction ≡ t → IsUndoing shape t part y (with_heap z (with_value z.words u.word u.before))
  stored u m is owner = record {
    sound = record { newest_first = h.sound.newest_first; gates = h.sound.gates; formed = h.sound.formed; order = h.sound.order; room = h.sound.room; numbers = h.sound.numbers };
    running = h.running;
    some = h.some;
    in_part = h.in_part;
    applied = applied_stored shape.policy z.log z.words (with_value z.words u.word u.before) (numbered (part_of shape) z.log z.log h.sound.order)
        (λ a. elim (eqb_tells a u.word) [
          | inr ne ↦ inl (let off = ne.0 in rw off refl)
          | inl e ↦ inr (u, m, (is, sym e.1, subst (λ x. IsRunning z.log x) (sym owner) h.running))
        ]) h.applied;
    news = h.news;
    log = h.log;
    notes = h.notes;
    need = h.need;
  }

  -- ---- the end

  end_formed : (at : ℕ) → IsWellFormed shape (plain_record at (next_lsn z.log) t 4 2)
  end_formed at = record {
    kind = (omega arith, omega arith);
    transaction = inr ((omega arith), positive);
    change = λ c. elim c [ inl u ↦ absurd (omega (arith, u)) | inr u ↦ absurd (omega (arith, u)) ];
    deletion = λ d. absurd (omega (arith, d));
    outcome = inl (refl, inr refl);
  }

  pub end_comes : (at : ℕ) → part_of shape at ≡ part → Has (λ x. IsOf t x × IsRollback x) z.log → to_undo t z.log ≡ [] → IsStored t z.log z.words →
      Step shape z (grown z (plain_record at (next_lsn z.log) t 4 2) (less_room part z.room))
  end_comes at here rolled nothing stored =
      let e = plain_record at (next_lsn z.log) t 4 2 in
      ends e (less_room part z.room) (note_appends e here refl (end_formed at)) (note_loser e refl here) refl refl rolled nothing stored

  pub ended_sound : (at : ℕ) → part_of shape at ≡ part → Has (λ x. IsOf t x × IsRollback x) z.log → to_undo t z.log ≡ [] → IsStored t z.log z.words →
      IsSoundState shape (grown z (plain_record at (next_lsn z.log) t 4 2) (less_room part z.room))
  ended_sound at here rolled nothing stored =
      (recovery_keeps shape z (grown z (plain_record at (next_lsn z.log) t 4 2) (less_room part z.room)) h.sound (end_comes at here rolled nothing stored)).0

  pub ended_applied : (at : ℕ) → part_of shape at ≡ part → Has (λ x. IsOf t x × IsRollback x) z.log → to_undo t z.log ≡ [] → IsStored t z.log z.words →
      AreApplied shape.policy (plain_record at (next_lsn z.log) t 4 2 ∷ z.log) z.words
  ended_applied at here rolled nothing stored =
      let e = plain_record at (next_lsn z.log) t 4 2 in
      applied_ended (part_of shape) shape.policy t z.log z.words e (good_of shape z h.sound) (undone_of shape z t h.sound h.running nothing stored)
      (record { end = refl; owner = refl; outcome = λ o. absurd (omega (arith, o)); above = (note_appends e here refl (end_formed at)).above })
      (numbered (part_of shape) (e ∷ z.log) (e ∷ z.log) (ended_sound at here rolled nothing stored).order) h.applied

  pub ended_need : Has (λ x. IsOf t x × IsRollback x) z.log → to_undo t z.log ≡ [] → length h.news + 1 ≡ need_of y.log t
  ended_need rolled nothing =
      let three : has_kind_of t 3 z.log ≡ true = has_kind_true t 3 z.log (rolled.0, rolled.1, (rolled.2.1, rolled.2.0.0)) in
      let one : need_of z.log t ≡ 1 = rw (not_ended, three, nothing) refl in
      let n = h.need in omega (arith, n, one)
