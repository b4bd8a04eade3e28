-- The undo of a running transaction, record by record: a rollback record, compensations from the top of its stack, and an end.
use Rattle.std.proofs.Common.{◌≡◌, ◌≢◌, ◌⊎◌, inl, inr, ℕ, ◌<◌, [], ◌∷◌, refl, sym, ap, ◌∙◌, subst, arith}
use Rattle.std.proofs.lemmas.Bool.Decides.{eqb_tells}
use Rattle.persist_model.specs.Region.{Words}
use Rattle.persist_model.specs.Records.{Record, Log, IsAmong, Has, HasNo, IsCompensation, IsRollback, IsCheckpoint, IsEnd, IsOf, IsChange, NamesWord, IsRunning, IsEnded, IsCommitted, IsSkipped}
use Rattle.persist_model.specs.Standing.{IsToUndo, IsToDelete, IsToRedo, IsEarliest, IsLatest, Stands, undone, deleted, redone, kept}
use Rattle.persist_model.specs.Order.{last_new, IsNextToUndo, Compensates, Bars, Follows, FollowEach, IsInOrder}
use Rattle.log_laws.specs.Closing.{IsApplied}
use Rattle.log_laws.specs.Moves.{IsChangeBy}
use Rattle.persist_model.specs.Need.{to_undo}
use Rattle.log_laws.proofs.Standings.{latest_some}
use Rattle.log_laws.proofs.Deciding.{has_or_none, decide_to_redo, decide_equal, decide_less, IsDecided}
use Rattle.log_laws.proofs.Growing.{Descends, IsAbove, has_on, has_back, numbered, word_is_one's}
use Rattle.log_laws.proofs.Stacks.{first_old, top_new, first_old_is, IsUpdateBy, HasStack, has_stack, IsTo, updates, compensates, neither, is_to, update_test}

-- ---- the record may follow

-- the transaction's records stand in the record's part
abbrev pub IsInPart : (ℕ → ℕ) → Log → Record → Type 0
IsInPart part log r = (s : Record) → IsAmong log s → IsOf r.transaction s → part s.at ≡ part r.at

pub fresh_above : (r : Record) (log : Log) → IsAbove r log → HasNo (λ s. s.lsn ≡ r.lsn) log
fresh_above r log above s m e = let lt = above s m in absurd (omega (arith, lt, e))

pub rollback_follows : (part : ℕ → ℕ) (log : Log) (r : Record) → IsRollback r → IsRunning log r.transaction → IsAbove r log → IsInPart part log r →
    HasNo (λ s. IsOf r.transaction s × IsRollback s) log → Follows part (r ∷ log) log r
rollback_follows part log r is running above inside none = record {
  fresh = fresh_above r log above;
  one_part = λ s m k. k.2 (inside s m k.0);
  not_ended = λ s m k. running s m (k.2, k.0.0);
  word = λ names. elim names [ inl c ↦ elim c [ inl u ↦ absurd (omega (arith, is, u)) | inr u ↦ absurd (omega (arith, is, u)) ] | inr d ↦ absurd (omega (arith, is, d)) ];
  undo = λ ne runs. record {
    no_rollback = λ _. none;
    undo_next = λ u. absurd (omega (arith, is, u));
    before = λ u. absurd (omega (arith, is, u));
    compensates = λ u. absurd (omega (arith, is, u));
  };
}

pub end_follows : (part : ℕ → ℕ) (log : Log) (r : Record) → IsEnd r → IsRunning log r.transaction → IsAbove r log → IsInPart part log r → Follows part (r ∷ log) log r
end_follows part log r is running above inside = record {
  fresh = fresh_above r log above;
  one_part = λ s m k. k.2 (inside s m k.0);
  not_ended = λ s m k. running s m (k.2, k.0.0);
  word = λ names. elim names [ inl c ↦ elim c [ inl u ↦ absurd (omega (arith, is, u)) | inr u ↦ absurd (omega (arith, is, u)) ] | inr d ↦ absurd (omega (arith, is, d)) ];
  undo = λ ne runs. absurd (runs r (inl refl) (is, refl));
}

pub checkpoint_follows : (part : ℕ → ℕ) (log : Log) (r : Record) → IsCheckpoint r → IsAbove r log → Follows part (r ∷ log) log r
checkpoint_follows part log r is above = record {
  fresh = fresh_above r log above;
  one_part = λ s m k. k.1 is;
  not_ended = λ s m k. k.1 is;
  word = λ names. elim names [ inl c ↦ elim c [ inl u ↦ absurd (omega (arith, is, u)) | inr u ↦ absurd (omega (arith, is, u)) ] | inr d ↦ absurd (omega (arith, is, d)) ];
  undo = λ ne runs. absurd (ne is);
}

-- u's word is no other transaction's
pub compensation_follows : (part : ℕ → ℕ) (log : Log) (c u : Record) → IsInOrder part log → IsCompensation c → IsRunning log c.transaction → IsAbove c log → IsInPart part log c →
    IsNextToUndo c.transaction log u → Compensates c u → Follows part (c ∷ log) log c
compensation_follows part log c u order is running above inside next comp = record {
  fresh = fresh_above c log above;
  one_part = λ s m k. k.2 (inside s m k.0);
  not_ended = λ s m k. running s m (k.2, k.0.0);
  word = λ names s m k. bars s m k.0 k.1 k.2;
  undo = λ ne runs. record {
    no_rollback = λ k. elim k [ inl x ↦ absurd (omega (arith, is, x)) | inr y ↦ elim y [ inl x ↦ absurd (omega (arith, is, x)) | inr x ↦ absurd (omega (arith, is, x)) ] ];
    undo_next = λ x. absurd (omega (arith, is, x));
    before = λ x. absurd (omega (arith, is, x));
    compensates = λ _. (u, next, comp);
  };
}
  where
    u_bars : Bars log u
    u_bars = inl (inl (inl next.update), subst (λ t. IsRunning log t) (sym next.owner) running)

    names_of : (s : Record) → Bars log s → NamesWord s
    names_of s (inl k) = k.0
    names_of s (inr k) = inr k.0

    before : (s : Record) → Bars (c ∷ log) s → Bars log s
    before s (inl k) = inl (k.0, λ e m p. k.1 e (inr m) p)
    before s (inr k) = inr (k.0, has_back _ c log (λ p. absurd (omega (arith, is, p.0.0))) k.1)

    bars : (s : Record) → IsAmong log s → s.word ≡ c.word → s.transaction ≢ c.transaction → Bars (c ∷ log) s → ⊥
    bars s m e apart b = let bs = before s b in
        word_is_one's part log order s u m next.among (names_of s bs) (inl (inl next.update)) (e ∙ comp.word) bs u_bars (λ t. apart (t ∙ next.owner))

-- ---- the end

-- a compensation names the word of an update of its transaction
pub compensated_word : (part : ℕ → ℕ) (all log : Log) (t : ℕ) → IsRunning all t → FollowEach part all log → (s : Record) → IsAmong log s → IsCompensation s → s.transaction ≡ t →
    Has (IsUpdateBy t s.word) log
compensated_word part all [] t running f s m is owner = absurd m
compensated_word part all (x ∷ log) t running f s (inr m) is owner = has_on _ x log (compensated_word part all log t running f.1 s m is owner)
compensated_word part all (x ∷ log) t running f s (inl e) is owner =
    let follows : Follows part all log s = subst (λ y. Follows part all log y) (sym e) f.0 in
    let well = follows.undo (λ five. absurd (omega (arith, is, five))) (subst (λ y. IsRunning all y) (sym owner) running) in
    let c = well.compensates is in
    (c.0, inr c.1.among, (c.1.update, sym c.2.word, c.1.owner ∙ owner))

pub last_new_is : (t a d : ℕ) (log : Log) (r : Record) → Descends log → IsLatest (IsChangeBy t a) log r → last_new t a d log ≡ r.after
last_new_is t a d [] r falls h = absurd h.among
last_new_is t a d (x ∷ log) r falls h = by_kind (is_to t x) h.among (λ m. last_new_is t a d log r falls.1 (record { among = m; has = h.has; last = λ s k. h.last s (inr k) }))
  where
    newest : IsChangeBy t a x → (r ≡ x) ⊎ IsAmong log r → r ≡ x
    newest c (inl e) = e
    newest c (inr m) = let le = h.last x (inl refl) c in let lt = falls.0 r m in absurd (omega (arith, le, lt))

    not_here : (IsChangeBy t a x → ⊥) → (r ≡ x) ⊎ IsAmong log r → IsAmong log r
    not_here none (inl e) = absurd (none (subst (λ y. IsChangeBy t a y) e h.has))
    not_here none (inr m) = m

    by_kind : IsTo t x → (r ≡ x) ⊎ IsAmong log r → (IsAmong log r → last_new t a d log ≡ r.after) → last_new t a d (x ∷ log) ≡ r.after
    by_kind (updates one update owner) m again = elim (eqb_tells x.word a) [
      | inl e ↦ (rw (one, e.0) (ap (λ (y : Record). y.after) (sym (newest (inl update, e.1, owner) m))))
      | inr ne ↦ (rw (one, ne.0) (again (not_here (λ k. ne.1 k.1) m)))
    ]
    by_kind (compensates not_one two comp owner) m again = elim (eqb_tells x.word a) [
      | inl e ↦ (rw (not_one, two, e.0) (ap (λ (y : Record). y.after) (sym (newest (inr comp, e.1, owner) m))))
      | inr ne ↦ (rw (not_one, two, ne.0) (again (not_here (λ k. ne.1 k.1) m)))
    ]
    by_kind (neither not_one not_two none) m again = rw (not_one, not_two)
        (again (not_here (λ k. elim k.0 [ inl u ↦ (none k.2).0 u | inr c ↦ (none k.2).1 c ]) m))

-- the older of two records has the smaller number
pub lesser_before : (part : ℕ → ℕ) (all log : Log) → FollowEach part all log → Descends log → (r s : Record) → IsAmong log r → IsAmong log s → r.lsn < s.lsn →
    (earlier : Log) × IsAmong earlier r × Follows part all earlier s
lesser_before part all [] f falls r s m k lt = absurd m
lesser_before part all (x ∷ log) f falls r s (inl e) (inl d) lt = let same : r.lsn ≡ s.lsn = ap (λ (y : Record). y.lsn) (e ∙ sym d) in absurd (omega (arith, lt, same))
lesser_before part all (x ∷ log) f falls r s (inl e) (inr k) lt =
    let less = falls.0 s k in let same : r.lsn ≡ x.lsn = ap (λ (y : Record). y.lsn) e in absurd (omega (arith, lt, less, same))
lesser_before part all (x ∷ log) f falls r s (inr m) (inl d) lt = (log, m, subst (λ y. Follows part all log y) (sym d) f.0)
lesser_before part all (x ∷ log) f falls r s (inr m) (inr k) lt = lesser_before part all log f.1 falls.1 r s m k lt

-- The transaction t is undone in the words: it runs, no update of it is left to undo, and each word that it updated has its first OLD.
pub record IsUndone (t : ℕ) (log : Log) (w : Words) : Type 0 where
  pub running : IsRunning log t
  pub nothing_left : to_undo t log ≡ []
  pub stored : (a d : ℕ) → Has (IsUpdateBy t a) log → w a ≡ first_old t a d log

-- The log is in order, newest first, with open gates.
pub record IsGood (part : ℕ → ℕ) (log : Log) : Type 0 where
  pub order : IsInOrder part log
  pub falls : Descends log
  pub nonzero : (r : Record) → IsAmong log r → r.lsn ≢ 0

-- the end of a transaction that is rolled back
pub record IsRollbackEnd (t : ℕ) (log : Log) (e : Record) : Type 0 where
  pub end : IsEnd e
  pub owner : e.transaction ≡ t
  pub outcome : e.outcome ≢ 1
  pub above : IsAbove e log

kind_is_not : (e s : Record) (k l : ℕ) → s ≡ e → e.kind ≡ k → k ≢ l → s.kind ≢ l
kind_is_not e s k l same is ne other = ne (sym is ∙ ap (λ (x : Record). x.kind) (sym same) ∙ other)

end_committed_back : (t : ℕ) (log : Log) (e : Record) → IsRollbackEnd t log e → (x : ℕ) → IsCommitted (e ∷ log) x → IsCommitted log x
end_committed_back t log e h x k = has_back _ e log (λ p. h.outcome p.1) k

end_running_on : (t : ℕ) (log : Log) (e : Record) → IsRollbackEnd t log e → (x : ℕ) → x ≢ t → IsRunning log x → IsRunning (e ∷ log) x
end_running_on t log e h x ne running s (inl same) end = ne (sym end.1 ∙ ap (λ (y : Record). y.transaction) same ∙ h.owner)
end_running_on t log e h x ne running s (inr m) end = running s m end

end_ended_back : (t : ℕ) (log : Log) (e : Record) → IsRollbackEnd t log e → (x : ℕ) → x ≢ t → IsEnded (e ∷ log) x → IsEnded log x
end_ended_back t log e h x ne k = has_back _ e log (λ p. ne (sym p.1 ∙ h.owner)) k

end_skipped_back : (t : ℕ) (log : Log) (e : Record) → IsRollbackEnd t log e → (x : ℕ) → IsSkipped (e ∷ log) x → IsSkipped log x
end_skipped_back t log e h x k =
    let c = has_back _ e log (λ p. omega (arith, h.end, p.0)) k.2.1 in
    elim k.1 [
      | inl same ↦ (let lt = h.above c.0 c.1 in let is : k.0.lsn ≡ e.lsn = ap (λ (y : Record). y.lsn) same in let less = c.2.1 in absurd (omega (arith, lt, is, less)))
      | inr m ↦ (k.0, m, (k.2.0, c))
    ]

skipped_on : (e : Record) (log : Log) (t : ℕ) → IsSkipped log t → IsSkipped (e ∷ log) t
skipped_on e log t h = (h.0, inr h.1, (h.2.0, has_on _ e log h.2.1))

-- a word that t hasn't updated
stands_ended_other : (part : ℕ → ℕ) (policy t : ℕ) (log : Log) (w : Words) (e : Record) → IsGood part log → IsUndone t log w → IsRollbackEnd t log e →
    (a v : ℕ) → HasNo (IsUpdateBy t a) log → Stands policy log w a v → Stands policy (e ∷ log) w a v
stands_ended_other part policy t log w e good un h a v free s = cases s
  where
    not_mine : (s : Record) → IsAmong log s → IsChange s → s.word ≡ a → s.transaction ≢ t
    not_mine s m (inl u) word owner = free s m (u, word, owner)
    not_mine s m (inr c) word owner = let k = compensated_word part log log t un.running good.order s m c owner in
        free k.0 k.1 (k.2.0, k.2.1 ∙ word, k.2.2)

    undo_back : (s : Record) → IsAmong (e ∷ log) s → IsToUndo (e ∷ log) a s → IsAmong log s × IsToUndo log a s
    undo_back s (inl same) k = absurd (kind_is_not e s 4 1 same h.end (omega arith) k.0)
    undo_back s (inr m) k = (m, (k.0, k.1, λ x n p. k.2 x (inr n) p))

    undo_on : (s : Record) → IsAmong log s → IsToUndo log a s → IsToUndo (e ∷ log) a s
    undo_on s m k = (k.0, k.1, end_running_on t log e h s.transaction (not_mine s m (inl k.0) k.1) k.2)

    delete_back : (s : Record) → IsAmong (e ∷ log) s → IsToDelete (e ∷ log) a s → IsAmong log s × IsToDelete log a s
    delete_back s (inl same) k = absurd (kind_is_not e s 4 6 same h.end (omega arith) k.0)
    delete_back s (inr m) k = (m, (k.0, k.1, end_committed_back t log e h s.transaction k.2))

    redo_back : (s : Record) → IsAmong (e ∷ log) s → IsToRedo policy (e ∷ log) a s → IsAmong log s × IsToRedo policy log a s
    redo_back s (inl same) k = absurd (elim k.1 [ inl u ↦ kind_is_not e s 4 1 same h.end (omega arith) u | inr c ↦ kind_is_not e s 4 2 same h.end (omega arith) c ])
    redo_back s (inr m) k = (m, (k.0, k.1, k.2, end_ended_back t log e h s.transaction (not_mine s m k.1 k.2) k.3, λ x. k.4 (skipped_on e log s.transaction x)))

    redo_on : (s : Record) → IsToRedo policy log a s → IsToRedo policy (e ∷ log) a s
    redo_on s k = (k.0, k.1, k.2, has_on _ e log k.3, λ x. k.4 (end_skipped_back t log e h s.transaction x))

    no_undo : HasNo (IsToUndo log a) log → HasNo (IsToUndo (e ∷ log) a) (e ∷ log)
    no_undo none s m k = let b = undo_back s m k in none s b.0 b.1

    no_delete : HasNo (IsToDelete log a) log → HasNo (IsToDelete (e ∷ log) a) (e ∷ log)
    no_delete none s m k = let b = delete_back s m k in none s b.0 b.1

    no_redo : HasNo (IsToRedo policy log a) log → HasNo (IsToRedo policy (e ∷ log) a) (e ∷ log)
    no_redo none s m k = let b = redo_back s m k in none s b.0 b.1

    cases : Stands policy log w a v → Stands policy (e ∷ log) w a v
    cases (undone u first is) = undone u (record {
      among = inr first.among;
      has = undo_on u first.among first.has;
      first = λ s m k. let b = undo_back s m k in first.first s b.0 b.1;
    }) is
    cases (deleted none d is) = deleted (no_undo none) (d.0, inr d.1, (d.2.0, d.2.1, has_on _ e log d.2.2)) is
    cases (redone nu nd s last is) = redone (no_undo nu) (no_delete nd) s (record {
      among = inr last.among;
      has = redo_on s last.has;
      last = λ x m k. let b = redo_back x m k in last.last x b.0 b.1;
    }) is
    cases (kept nu nd nr is) = kept (no_undo nu) (no_delete nd) (no_redo nr) is

-- a word that t has updated
stands_ended_own : (part : ℕ → ℕ) (policy t : ℕ) (log : Log) (w : Words) (e : Record) → IsGood part log → IsUndone t log w → IsRollbackEnd t log e →
    (a v : ℕ) (u : Record) → IsAmong log u → IsUpdateBy t a u → IsEarliest (IsToUndo log a) log u → v ≡ u.before → Stands policy (e ∷ log) w a v
stands_ended_own part policy t log w e good un h a v u among mine first is = elim (decide_equal policy 2) [
  | inl no_force ↦ elim (latest_some (IsToRedo policy (e ∷ log) a) (e ∷ log) (decide_to_redo policy (e ∷ log) a)) [
    | inr none ↦ absurd (none u (inr among) (redo_mine u mine no_force))
    | inl r ↦ redone no_undo no_delete r.0 r.1 (value ∙ sym (last_value no_force r.0 r.1))
  ]
  | inr force ↦ kept no_undo no_delete (λ s m k. force k.0) (value ∙ sym (un.stored a 0 (u, among, mine)))
]
  where
    value : v ≡ first_old t a 0 log
    value = is ∙ sym (first_old_is t a 0 log u good.falls (record {
      among = among;
      has = mine;
      first = λ s m k. first.first s m (k.0, k.1, subst (λ x. IsRunning log x) (sym k.2) un.running);
    }))

    u_bars : Bars log u
    u_bars = inl (inl (inl mine.0), subst (λ x. IsRunning log x) (sym mine.2) un.running)

    no_undo : HasNo (IsToUndo (e ∷ log) a) (e ∷ log)
    no_undo s (inl same) k = kind_is_not e s 4 1 same h.end (omega arith) k.0
    no_undo s (inr m) k = word_is_one's part log good.order s u m among (inl (inl k.0)) (inl (inl mine.0)) (k.1 ∙ sym mine.1)
        (inl (inl (inl k.0), λ x n p. k.2 x (inr n) p)) u_bars
        (λ same. k.2 e (inl refl) (h.end, h.owner ∙ sym (same ∙ mine.2)))

    no_delete : HasNo (IsToDelete (e ∷ log) a) (e ∷ log)
    no_delete s (inl same) k = kind_is_not e s 4 6 same h.end (omega arith) k.0
    no_delete s (inr m) k = let c = end_committed_back t log e h s.transaction k.2 in
        word_is_one's part log good.order s u m among (inr k.0) (inl (inl mine.0)) (k.1 ∙ sym mine.1) (inr (k.0, c)) u_bars
        (λ same. un.running c.0 c.1 (c.2.0.0, c.2.0.1 ∙ same ∙ mine.2))

    redo_mine : (s : Record) → IsUpdateBy t a s → policy ≡ 2 → IsToRedo policy (e ∷ log) a s
    redo_mine s k no_force = (
      no_force,
      inl k.0,
      k.1,
      (e, inl refl, (h.end, h.owner ∙ sym k.2)),
      λ x. (let y = end_skipped_back t log e h s.transaction x in
          un.running y.0 y.1 (y.2.0.0, y.2.0.1 ∙ k.2)),
    )

    change_redone : (s : Record) → IsChangeBy t a s → policy ≡ 2 → IsToRedo policy (e ∷ log) a s
    change_redone s k no_force = (
      no_force,
      k.0,
      k.1,
      (e, inl refl, (h.end, h.owner ∙ sym k.2)),
      λ x. (let y = end_skipped_back t log e h s.transaction x in
          un.running y.0 y.1 (y.2.0.0, y.2.0.1 ∙ k.2)),
    )

    last_value : policy ≡ 2 → (r : Record) → IsLatest (IsToRedo policy (e ∷ log) a) (e ∷ log) r → r.after ≡ first_old t a 0 log
    last_value no_force r last = elim (decide_equal r.transaction t) [
      | inl owner ↦ sym (last_new_is t a 0 log r good.falls (record {
        among = in_log;
        has = (last.has.1, last.has.2, owner);
        last = λ s m k. last.last s (inr m) (change_redone s k no_force);
      })) ∙ stack.after a 0 ∙ ap (λ x. top_new a (first_old t a 0 log) x) un.nothing_left
      | inr other ↦ absurd (elim (decide_less u.lsn r.lsn) [
        | inl lt ↦ (let k = lesser_before part log log good.order good.falls u r among in_log lt in
            k.2.word (inl last.has.1) u k.1 (mine.1 ∙ sym last.has.2, (λ same. other (sym same ∙ mine.2)), u_bars))
        | inr ge ↦ (let le = last.last u (inr among) (redo_mine u mine no_force) in
            let same : r ≡ u = numbered part log log good.order r u in_log among (omega (arith, ge, le)) in
            other (ap (λ (y : Record). y.transaction) same ∙ mine.2))
      ])
    ]
      where
        in_log : IsAmong log r
        in_log = elim last.among [
          | inl same ↦ absurd (elim last.has.1 [ inl x ↦ kind_is_not e r 4 1 same h.end (omega arith) x | inr x ↦ kind_is_not e r 4 2 same h.end (omega arith) x ])
          | inr m ↦ m
        ]

        stack : HasStack t log
        stack = has_stack part t log log un.running (numbered part log log good.order) good.nonzero good.order

-- The end of an undone transaction keeps standing values.
pub stands_ended : (part : ℕ → ℕ) (policy t : ℕ) (log : Log) (w : Words) (e : Record) → IsGood part log → IsUndone t log w → IsRollbackEnd t log e →
    (a v : ℕ) → Stands policy log w a v → Stands policy (e ∷ log) w a v
stands_ended part policy t log w e good un h a v s = elim (has_or_none (IsUpdateBy t a) log (decide_update_by t a)) [
  | inr free ↦ stands_ended_other part policy t log w e good un h a v free s
  | inl mine ↦ own s mine.0 mine.1 mine.2
]
  where
    decide_update_by : (t a : ℕ) (r : Record) → IsDecided (IsUpdateBy t a r)
    decide_update_by t a r = elim (update_test t a r) [ inl k ↦ inl k.1 | inr k ↦ inr k.1 ]

    to_undo_mine : (x : Record) → IsUpdateBy t a x → IsToUndo log a x
    to_undo_mine x k = (k.0, k.1, subst (λ y. IsRunning log y) (sym k.2) un.running)

    own : Stands policy log w a v → (x : Record) → IsAmong log x → IsUpdateBy t a x → Stands policy (e ∷ log) w a v
    own (undone u first is) x m k = elim (decide_equal u.transaction t) [
      | inl owner ↦ stands_ended_own part policy t log w e good un h a v u first.among (first.has.0, first.has.1, owner) first is
      | inr other ↦ absurd (word_is_one's part log good.order u x first.among m (inl (inl first.has.0)) (inl (inl k.0)) (first.has.1 ∙ sym k.1)
          (inl (inl (inl first.has.0), first.has.2)) (inl (inl (inl k.0), (to_undo_mine x k).2)) (λ same. other (same ∙ k.2)))
    ]
    own (deleted none d is) x m k = absurd (none x m (to_undo_mine x k))
    own (redone none nd r last is) x m k = absurd (none x m (to_undo_mine x k))
    own (kept none nd nr is) x m k = absurd (none x m (to_undo_mine x k))

-- A checkpoint record keeps standing values where each word has its own, or is to be undone.
pub stands_swept : (policy : ℕ) (log : Log) (w : Words) (c : Record) → IsCheckpoint c → IsAbove c log →
    ((a : ℕ) → HasNo (IsToUndo log a) log → HasNo (IsToDelete log a) log → IsApplied policy log w a) → (a v : ℕ) → Stands policy log w a v → Stands policy (c ∷ log) w a v
stands_swept policy log w c is above applied a v s = cases s
  where
    running_on : (t : ℕ) → IsRunning log t → IsRunning (c ∷ log) t
    running_on t running x (inl same) end = kind_is_not c x 5 4 same is (omega arith) end.0
    running_on t running x (inr m) end = running x m end

    undo_back : (x : Record) → IsAmong (c ∷ log) x → IsToUndo (c ∷ log) a x → IsAmong log x × IsToUndo log a x
    undo_back x (inl same) k = absurd (kind_is_not c x 5 1 same is (omega arith) k.0)
    undo_back x (inr m) k = (m, (k.0, k.1, λ y n p. k.2 y (inr n) p))

    no_undo : HasNo (IsToUndo log a) log → HasNo (IsToUndo (c ∷ log) a) (c ∷ log)
    no_undo none x m k = let b = undo_back x m k in none x b.0 b.1

    no_delete : HasNo (IsToDelete log a) log → HasNo (IsToDelete (c ∷ log) a) (c ∷ log)
    no_delete none x (inl same) k = kind_is_not c x 5 6 same is (omega arith) k.0
    no_delete none x (inr m) k = none x m (k.0, k.1, has_back _ c log (λ p. absurd (omega (arith, is, p.0.0))) k.2)

    no_redo : HasNo (IsToRedo policy (c ∷ log) a) (c ∷ log)
    no_redo x m k = let y = has_back _ c log (λ p. absurd (omega (arith, is, p.0))) k.3 in
        k.4 (y.0, inr y.1, (y.2, (c, inl refl, (is, above y.0 y.1))))

    value : HasNo (IsToUndo log a) log → HasNo (IsToDelete log a) log → v ≡ w a
    value nu nd = applied a nu nd v s

    cases : Stands policy log w a v → Stands policy (c ∷ log) w a v
    cases (undone u first e) = undone u (record {
      among = inr first.among;
      has = (first.has.0, first.has.1, running_on u.transaction first.has.2);
      first = λ x m k. let b = undo_back x m k in first.first x b.0 b.1;
    }) e
    cases (deleted none d e) = deleted (no_undo none) (d.0, inr d.1, (d.2.0, d.2.1, has_on _ c log d.2.2)) e
    cases (redone nu nd r last e) = kept (no_undo nu) (no_delete nd) no_redo (value nu nd)
    cases (kept nu nd nr e) = kept (no_undo nu) (no_delete nd) no_redo e

-- where each word has its standing value or is to be undone, a checkpoint record keeps standing values
pub stands_checkpointed : (policy : ℕ) (log : Log) (w : Words) (c : Record) → IsCheckpoint c → IsAbove c log →
    ((a : ℕ) → Has (IsToUndo log a) log ⊎ IsApplied policy log w a) → (a v : ℕ) → Stands policy log w a v → Stands policy (c ∷ log) w a v
stands_checkpointed policy log w c is above applied a v s =
    stands_swept policy log w c is above (λ b nu nd. elim (applied b) [ inl u ↦ absurd (nu u.0 u.1 u.2) | inr same ↦ same ]) a v s

-- a word of an undone transaction has its standing value
pub undone_value : (part : ℕ → ℕ) (policy t : ℕ) (log : Log) (w : Words) → IsGood part log → IsUndone t log w → (a v : ℕ) → Has (IsUpdateBy t a) log → Stands policy log w a v → v ≡ w a
undone_value part policy t log w good un a v mine (undone u first is) = elim (decide_equal u.transaction t) [
  | inl owner ↦ is ∙ sym (first_old_is t a 0 log u good.falls (record {
    among = first.among;
    has = (first.has.0, first.has.1, owner);
    first = λ s m k. first.first s m (k.0, k.1, subst (λ x. IsRunning log x) (sym k.2) un.running);
  })) ∙ sym (un.stored a 0 mine)
  | inr other ↦ absurd (word_is_one's part log good.order u mine.0 first.among mine.1 (inl (inl first.has.0)) (inl (inl mine.2.0)) (first.has.1 ∙ sym mine.2.1)
      (inl (inl (inl first.has.0), first.has.2)) (inl (inl (inl mine.2.0), subst (λ y. IsRunning log y) (sym mine.2.2) un.running)) (λ same. other (same ∙ mine.2.2)))
]
undone_value part policy t log w good un a v mine (deleted nothing d is) = absurd (nothing mine.0 mine.1 (mine.2.0, mine.2.1, subst (λ y. IsRunning log y) (sym mine.2.2) un.running))
undone_value part policy t log w good un a v mine (redone nothing nd r last is) = absurd (nothing mine.0 mine.1 (mine.2.0, mine.2.1, subst (λ y. IsRunning log y) (sym mine.2.2) un.running))
undone_value part policy t log w good un a v mine (kept nothing nd nr is) = absurd (nothing mine.0 mine.1 (mine.2.0, mine.2.1, subst (λ y. IsRunning log y) (sym mine.2.2) un.running))
