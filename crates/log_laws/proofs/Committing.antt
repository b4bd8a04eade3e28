-- What an update and the end of a commit do to standing values.
use Rattle.std.proofs.Common.{◌≡◌, ◌≢◌, ◌⊎◌, inl, inr, ℕ, ◌≤◌, ◌∷◌, refl, sym, ap, ◌∙◌, subst, arith}
use Rattle.persist_model.specs.Region.{Words}
use Rattle.persist_model.specs.Records.{Record, Log, IsAmong, Has, HasNo, IsUpdate, IsEnd, NamesWord, IsRunning, IsSkipped}
use Rattle.persist_model.specs.Standing.{IsToUndo, IsToDelete, IsToRedo, IsEarliest, IsLatest, Stands, undone, deleted, redone, kept}
use Rattle.persist_model.specs.Order.{Bars, IsInOrder}
use Rattle.log_laws.proofs.Deciding.{has_or_none, decide_equal, decide_less, decide_to_undo}
use Rattle.log_laws.proofs.Growing.{IsAbove, has_on, has_back, word_is_one's}
use Rattle.log_laws.specs.Moves.{IsDeletionBy, IsChangeBy}
use Rattle.log_laws.proofs.Undoing.{IsGood, lesser_before}

-- the end of a commit of t
pub record IsCommitEnd (t : ℕ) (log : Log) (e : Record) : Type 0 where
  pub end : IsEnd e
  pub owner : e.transaction ≡ t
  pub outcome : e.outcome ≡ 1
  pub above : IsAbove e log
  pub running : IsRunning log t

kind_of : (e s : Record) (k l : ℕ) → s ≡ e → e.kind ≡ k → k ≢ l → s.kind ≢ l
kind_of e s k l same is ne other = ne (sym is ∙ ap (λ (x : Record). x.kind) (sym same) ∙ other)

skipped_back : (t : ℕ) (log : Log) (e : Record) → IsCommitEnd t log e → (x : ℕ) → IsSkipped (e ∷ log) x → IsSkipped log x
skipped_back t log e h x k =
    let c = has_back _ e log (λ p. omega (arith, h.end, p.0)) k.2.1 in
    elim k.1 [
      | inl same ↦ (let lt = h.above c.0 c.1 in let is : k.0.lsn ≡ e.lsn = ap (λ (y : Record). y.lsn) same in let less = c.2.1 in absurd (omega (arith, lt, is, less)))
      | inr m ↦ (k.0, m, (k.2.0, c))
    ]

skipped_on : (e : Record) (log : Log) (t : ℕ) → IsSkipped log t → IsSkipped (e ∷ log) t
skipped_on e log t h = (h.0, inr h.1, (h.2.0, has_on _ e log h.2.1))

-- a record of t that names a lets no other transaction's update of a be undone
no_undo : (part : ℕ → ℕ) (t : ℕ) (log : Log) (e : Record) → IsInOrder part log → IsCommitEnd t log e → (a : ℕ) (r : Record) → IsAmong log r → NamesWord r → r.word ≡ a → r.transaction ≡ t →
    HasNo (IsToUndo (e ∷ log) a) (e ∷ log)
no_undo part t log e order h a r m names word owner s (inl same) k = kind_of e s 4 1 same h.end (omega arith) k.0
no_undo part t log e order h a r m names word owner s (inr j) k = word_is_one's part log order s r j m (inl (inl k.0)) names (k.1 ∙ sym word)
    (inl (inl (inl k.0), λ x n p. k.2 x (inr n) p)) (inl (names, subst (λ x. IsRunning log x) (sym owner) h.running))
    (λ same. k.2 e (inl refl) (h.end, h.owner ∙ sym (same ∙ owner)))

-- a word that t has deleted stands at 0
pub stands_deleted : (part : ℕ → ℕ) (policy t : ℕ) (log : Log) (w : Words) (e : Record) → IsGood part log → IsCommitEnd t log e → (a : ℕ) → Has (IsDeletionBy t a) log → Stands policy (e ∷ log) w a 0
stands_deleted part policy t log w e good h a d = deleted (no_undo part t log e good.order h a d.0 d.1 (inr d.2.0) d.2.1 d.2.2)
    (d.0, inr d.1, (d.2.0, d.2.1, (e, inl refl, ((h.end, h.owner ∙ sym d.2.2), h.outcome)))) refl

-- a word that t has changed stands at the last NEW
pub stands_changed : (part : ℕ → ℕ) (policy t : ℕ) (log : Log) (w : Words) (e : Record) → IsGood part log → IsCommitEnd t log e → (a : ℕ) (r : Record) → HasNo (IsDeletionBy t a) log →
    IsLatest (IsChangeBy t a) log r → (policy ≢ 2 → w a ≡ r.after) → Stands policy (e ∷ log) w a r.after
stands_changed part policy t log w e good h a r free last stored = elim (decide_equal policy 2) [
  | inl two ↦ redone free_of_undo no_delete r (record { among = inr last.among; has = redo r last.has two; last = λ s m k. latest s m k }) refl
  | inr force ↦ kept free_of_undo no_delete (λ s m k. force k.0) (sym (stored force))
]
  where
    r_bars : Bars log r
    r_bars = inl (inl last.has.0, subst (λ x. IsRunning log x) (sym last.has.2) h.running)

    free_of_undo : HasNo (IsToUndo (e ∷ log) a) (e ∷ log)
    free_of_undo = no_undo part t log e good.order h a r last.among (inl last.has.0) last.has.1 last.has.2

    no_delete : HasNo (IsToDelete (e ∷ log) a) (e ∷ log)
    no_delete s (inl same) k = kind_of e s 4 6 same h.end (omega arith) k.0
    no_delete s (inr m) k = elim (decide_equal s.transaction t) [
      | inl mine ↦ free s m (k.0, k.1, mine)
      | inr other ↦ (
          let c = has_back _ e log (λ p. other (sym p.0.1 ∙ h.owner)) k.2 in
          word_is_one's part log good.order s r m last.among (inr k.0) (inl last.has.0) (k.1 ∙ sym last.has.1) (inr (k.0, c)) r_bars (λ same. other (same ∙ last.has.2)))
    ]

    redo : (s : Record) → IsChangeBy t a s → policy ≡ 2 → IsToRedo policy (e ∷ log) a s
    redo s k two = (
      two,
      k.0,
      k.1,
      (e, inl refl, (h.end, h.owner ∙ sym k.2)),
      λ x. (let y = skipped_back t log e h s.transaction x in
          h.running y.0 y.1 (y.2.0.0, y.2.0.1 ∙ k.2)),
    )

    latest : (s : Record) → IsAmong (e ∷ log) s → IsToRedo policy (e ∷ log) a s → s.lsn ≤ r.lsn
    latest s (inl same) k = absurd (elim k.1 [ inl x ↦ kind_of e s 4 1 same h.end (omega arith) x | inr x ↦ kind_of e s 4 2 same h.end (omega arith) x ])
    latest s (inr m) k = elim (decide_less r.lsn s.lsn) [
      | inr ge ↦ omega (arith, ge)
      | inl lt ↦ elim (decide_equal s.transaction t) [
        | inl mine ↦ last.last s m (k.1, k.2, mine)
        | inr other ↦ (let f = lesser_before part log log good.order good.falls r s last.among m lt in
            absurd (f.2.word (inl k.1) r f.1 (last.has.1 ∙ sym k.2, (λ same. other (sym same ∙ last.has.2)), r_bars)))
      ]
    ]

-- any other word keeps its standing value
pub stands_uncommitted : (policy t : ℕ) (log : Log) (w : Words) (e : Record) → IsCommitEnd t log e → (a v : ℕ) → HasNo (IsDeletionBy t a) log → HasNo (IsChangeBy t a) log →
    Stands policy log w a v → Stands policy (e ∷ log) w a v
stands_uncommitted policy t log w e h a v free unchanged s = cases s
  where
    undo_back : (s : Record) → IsAmong (e ∷ log) s → IsToUndo (e ∷ log) a s → IsAmong log s × IsToUndo log a s
    undo_back s (inl same) k = absurd (kind_of e s 4 1 same h.end (omega arith) k.0)
    undo_back s (inr m) k = (m, (k.0, k.1, λ x n p. k.2 x (inr n) p))

    undo_on : (s : Record) → IsAmong log s → IsToUndo log a s → IsToUndo (e ∷ log) a s
    undo_on s m k = (k.0, k.1, λ x n p. elim n [ inl same ↦ unchanged s m (inl k.0, k.1, sym p.1 ∙ ap (λ (y : Record). y.transaction) same ∙ h.owner) | inr j ↦ k.2 x j p ])

    delete_back : (s : Record) → IsAmong (e ∷ log) s → IsToDelete (e ∷ log) a s → IsAmong log s × IsToDelete log a s
    delete_back s (inl same) k = absurd (kind_of e s 4 6 same h.end (omega arith) k.0)
    delete_back s (inr m) k = (m, (k.0, k.1, has_back _ e log (λ p. free s m (k.0, k.1, sym p.0.1 ∙ h.owner)) k.2))

    redo_back : (s : Record) → IsAmong (e ∷ log) s → IsToRedo policy (e ∷ log) a s → IsAmong log s × IsToRedo policy log a s
    redo_back s (inl same) k = absurd (elim k.1 [ inl x ↦ kind_of e s 4 1 same h.end (omega arith) x | inr x ↦ kind_of e s 4 2 same h.end (omega arith) x ])
    redo_back s (inr m) k = (m, (k.0, k.1, k.2, has_back _ e log (λ p. unchanged s m (k.1, k.2, sym p.1 ∙ h.owner)) k.3, λ x. k.4 (skipped_on e log s.transaction x)))

    redo_on : (s : Record) → IsToRedo policy log a s → IsToRedo policy (e ∷ log) a s
    redo_on s k = (k.0, k.1, k.2, has_on _ e log k.3, λ x. k.4 (skipped_back t log e h s.transaction x))

    cases : Stands policy log w a v → Stands policy (e ∷ log) w a v
    cases (undone u first is) = undone u (record { among = inr first.among; has = undo_on u first.among first.has; first = λ s m k. let b = undo_back s m k in first.first s b.0 b.1 }) is
    cases (deleted nu d is) = deleted (λ s m k. let b = undo_back s m k in nu s b.0 b.1) (d.0, inr d.1, (d.2.0, d.2.1, has_on _ e log d.2.2)) is
    cases (redone nu nd s last is) = redone (λ s m k. let b = undo_back s m k in nu s b.0 b.1) (λ s m k. let b = delete_back s m k in nd s b.0 b.1) s
        (record { among = inr last.among; has = redo_on s last.has; last = λ x m k. let b = redo_back x m k in last.last x b.0 b.1 }) is
    cases (kept nu nd nr is) = kept (λ s m k. let b = undo_back s m k in nu s b.0 b.1) (λ s m k. let b = delete_back s m k in nd s b.0 b.1) (λ s m k. let b = redo_back s m k in nr s b.0 b.1) is

-- An update keeps all standing values, where its OLD is the standing value or its word has an update to undo already.
pub stands_updated : (policy : ℕ) (log : Log) (w : Words) (r : Record) → IsUpdate r → IsRunning log r.transaction → IsAbove r log →
    ((v : ℕ) → Stands policy log w r.word v → Has (IsToUndo log r.word) log ⊎ (r.before ≡ v)) → (a v : ℕ) → Stands policy log w a v → Stands policy (r ∷ log) w a v
stands_updated policy log w r is running above old a v s = elim (decide_equal r.word a) [
  | inr other ↦ away other s
  | inl same ↦ elim (has_or_none (IsToUndo log a) log (decide_to_undo log a)) [
    | inl u ↦ more u s
    | inr nothing ↦ first same nothing
  ]
]
  where
    quiet : (r.kind ≢ 4) × (r.kind ≢ 5)
    quiet = ((λ e. absurd (omega (arith, is, e))), (λ e. absurd (omega (arith, is, e))))

    running_more : (t : ℕ) → IsRunning log t → IsRunning (r ∷ log) t
    running_more t k e (inl same) end = quiet.0 (ap (λ (x : Record). x.kind) (sym same) ∙ end.0)
    running_more t k e (inr m) end = k e m end

    undo_back : (s : Record) → IsToUndo (r ∷ log) a s → IsToUndo log a s
    undo_back s k = (k.0, k.1, λ e m end. k.2 e (inr m) end)

    delete_back : (s : Record) → IsToDelete (r ∷ log) a s → IsToDelete log a s
    delete_back s k = (k.0, k.1, has_back _ r log (λ p. quiet.0 p.0.0) k.2)

    no_delete : HasNo (IsToDelete log a) log → HasNo (IsToDelete (r ∷ log) a) (r ∷ log)
    no_delete nd s (inl same) k = kind_of r s 1 6 same is (omega arith) k.0
    no_delete nd s (inr m) k = nd s m (delete_back s k)

    redo_back : (s : Record) → IsToRedo policy (r ∷ log) a s → IsToRedo policy log a s
    redo_back s k = (k.0, k.1, k.2, has_back _ r log (λ p. quiet.0 p.0) k.3, λ x. k.4 (skipped_on r log s.transaction x))

    mine : (s : Record) → s ≡ r → IsToRedo policy (r ∷ log) a s → ⊥
    mine s same k = let e = has_back _ r log (λ p. quiet.0 p.0) k.3 in running e.0 e.1 (e.2.0, e.2.1 ∙ ap (λ (x : Record). x.transaction) same)

    redo_more : (s : Record) → IsToRedo policy log a s → IsToRedo policy (r ∷ log) a s
    redo_more s k = (
      k.0,
      k.1,
      k.2,
      has_on _ r log k.3,
      λ x. k.4 (elim x.1 [
        | inl same ↦ absurd (quiet.0 (ap (λ (y : Record). y.kind) (sym same) ∙ x.2.0.0))
        | inr m ↦ (x.0, m, (x.2.0, has_back _ r log (λ p. quiet.1 p.0) x.2.1))
      ]),
    )

    first : r.word ≡ a → HasNo (IsToUndo log a) log → Stands policy (r ∷ log) w a v
    first same nothing = undone r (record {
      among = inl refl;
      has = (is, same, running_more r.transaction running);
      first = λ s m k. elim m [ inl e ↦ rw e (omega arith) | inr j ↦ absurd (nothing s j (undo_back s k)) ];
    }) (sym (elim (old v (subst (λ b. Stands policy log w b v) (sym same) s)) [ inl u ↦ absurd (nothing u.0 u.1 (u.2.0, u.2.1 ∙ same, u.2.2)) | inr e ↦ e ]))

    older : (u : Record) → IsAmong log u → u.lsn ≤ r.lsn
    older u m = let lt = above u m in omega (arith, lt)

    undone_more : (u : Record) → IsEarliest (IsToUndo log a) log u → IsEarliest (IsToUndo (r ∷ log) a) (r ∷ log) u
    undone_more u f = record {
      among = inr f.among;
      has = (f.has.0, f.has.1, running_more u.transaction f.has.2);
      first = λ s m k. elim m [ inl e ↦ rw e (older u f.among) | inr j ↦ f.first s j (undo_back s k) ];
    }

    more : Has (IsToUndo log a) log → Stands policy log w a v → Stands policy (r ∷ log) w a v
    more u (undone x f e) = undone x (undone_more x f) e
    more u (deleted nu d e) = absurd (nu u.0 u.1 u.2)
    more u (redone nu nd x last e) = absurd (nu u.0 u.1 u.2)
    more u (kept nu nd nr e) = absurd (nu u.0 u.1 u.2)

    no_undo_away : r.word ≢ a → HasNo (IsToUndo log a) log → HasNo (IsToUndo (r ∷ log) a) (r ∷ log)
    no_undo_away other nu s (inl same) k = other (ap (λ (x : Record). x.word) (sym same) ∙ k.1)
    no_undo_away other nu s (inr m) k = nu s m (undo_back s k)

    away : r.word ≢ a → Stands policy log w a v → Stands policy (r ∷ log) w a v
    away other (undone x f e) = undone x (undone_more x f) e
    away other (deleted nu d e) = deleted (no_undo_away other nu) (d.0, inr d.1, (d.2.0, d.2.1, has_on _ r log d.2.2)) e
    away other (redone nu nd x last e) = redone (no_undo_away other nu) (no_delete nd) x (record {
      among = inr last.among;
      has = redo_more x last.has;
      last = λ s m k. elim m [ inl same ↦ absurd (mine s same k) | inr j ↦ last.last s j (redo_back s k) ];
    }) e
    away other (kept nu nd nr e) = kept (no_undo_away other nu) (no_delete nd) (λ s m k. elim m [ inl same ↦ mine s same k | inr j ↦ nr s j (redo_back s k) ]) e
