-- What a new record does to the order of a log and to standing values.
use Rattle.std.proofs.Common.{◌≡◌, ◌≢◌, ◌⊎◌, inl, inr, ℕ, ◌<◌, [], ◌∷◌, sym, ap, ◌∙◌, subst}
use Rattle.persist_model.specs.Region.{Words}
use Rattle.persist_model.specs.Records.{Record, Log, IsAmong, Has, HasNo, IsEnd, NamesWord, IsRunning, IsCommitted, IsSkipped}
use Rattle.persist_model.specs.Standing.{IsToUndo, IsToDelete, IsToRedo, Stands, undone, deleted, redone, kept}
use Rattle.persist_model.specs.Order.{Bars, Follows, FollowEach, IsInOrder}
use Rattle.log_laws.proofs.Standings.{AreNumbered}

-- each record has a greater number than those behind it
abbrev pub Descends : Log → Type 0
Descends [] = Unit {0}
Descends (r ∷ earlier) = ((s : Record) → IsAmong earlier s → s.lsn < r.lsn) × Descends earlier

-- the new record's number is the greatest
abbrev pub IsAbove : Record → Log → Type 0
IsAbove r log = (s : Record) → IsAmong log s → s.lsn < r.lsn

pub has_on : (P : Record → Type 0) (r : Record) (log : Log) → Has P log → Has P (r ∷ log)
has_on P r log h = (h.0, inr h.1, h.2)

pub has_back : (P : Record → Type 0) (r : Record) (log : Log) → (P r → ⊥) → Has P (r ∷ log) → Has P log
has_back P r log none h = elim h.1 [ inl e ↦ absurd (none (subst P e h.2)) | inr m ↦ (h.0, m, h.2) ]

-- ---- the order

-- of two records one is before the other
pub one_before : (part : ℕ → ℕ) (all log : Log) → FollowEach part all log → (r s : Record) → IsAmong log r → IsAmong log s →
    (r ≡ s) ⊎ ((earlier : Log) × IsAmong earlier s × Follows part all earlier r) ⊎ ((earlier : Log) × IsAmong earlier r × Follows part all earlier s)
one_before part all [] f r s m k = absurd m
one_before part all (x ∷ log) f r s (inl e) (inl d) = inl (e ∙ sym d)
one_before part all (x ∷ log) f r s (inl e) (inr k) = inr (inl (log, k, subst (λ y. Follows part all log y) (sym e) f.0))
one_before part all (x ∷ log) f r s (inr m) (inl d) = inr (inr (log, m, subst (λ y. Follows part all log y) (sym d) f.0))
one_before part all (x ∷ log) f r s (inr m) (inr k) = one_before part all log f.1 r s m k

pub numbered : (part : ℕ → ℕ) (all log : Log) → FollowEach part all log → AreNumbered log
numbered part all log f r s m k e = elim (one_before part all log f r s m k) [
  | inl same ↦ same
  | inr (inl h) ↦ absurd (h.2.fresh s h.1 (sym e))
  | inr (inr h) ↦ absurd (h.2.fresh r h.1 e)
]

-- two records that bar each other's word are of one transaction
pub word_is_one's : (part : ℕ → ℕ) (log : Log) → IsInOrder part log → (r s : Record) → IsAmong log r → IsAmong log s →
    NamesWord r → NamesWord s → r.word ≡ s.word → Bars log r → Bars log s → r.transaction ≢ s.transaction → ⊥
word_is_one's part log f r s m k nr ns e br bs apart = elim (one_before part log log f r s m k) [
  | inl same ↦ apart (ap (λ (x : Record). x.transaction) same)
  | inr (inl h) ↦ h.2.word nr s h.1 (sym e, (λ t. apart (sym t)), bs)
  | inr (inr h) ↦ h.2.word ns r h.1 (e, apart, br)
]

-- what bars with a new record barred before
pub bars_before : (r : Record) (log : Log) → (IsEnd r → IsRunning log r.transaction) → (s : Record) → Bars (r ∷ log) s → Bars log s
bars_before r log end s (inl k) = inl (k.0, λ e m p. k.1 e (inr m) p)
bars_before r log end s (inr k) = elim k.1.1 [
  | inl e ↦ inl (inr k.0, subst (λ t. IsRunning log t) (ap (λ (x : Record). x.transaction) (sym e) ∙ k.1.2.0.1) (end (ap (λ (x : Record). x.kind) (sym e) ∙ k.1.2.0.0)))
  | inr m ↦ inr (k.0, (k.1.0, m, k.1.2))
]

follow_each_grown : (part : ℕ → ℕ) (r : Record) (all log : Log) → (IsEnd r → IsRunning all r.transaction) → FollowEach part all log → FollowEach part (r ∷ all) log
follow_each_grown part r all [] end f = f
follow_each_grown part r all (x ∷ log) end f = (
  record {
    fresh = f.0.fresh;
    one_part = f.0.one_part;
    not_ended = f.0.not_ended;
    word = λ names s m k. f.0.word names s m (k.0, k.1, bars_before r all end s k.2);
    undo = λ ne running. f.0.undo ne (λ e m p. running e (inr m) p);
  },
  follow_each_grown part r all log end f.1,
)

-- a record that follows the log leaves it in order
pub order_grown : (part : ℕ → ℕ) (r : Record) (log : Log) → (IsEnd r → IsRunning log r.transaction) → Follows part (r ∷ log) log r →
    IsInOrder part log → IsInOrder part (r ∷ log)
order_grown part r log end follows f = (follows, follow_each_grown part r log log end f)

-- ---- a record that is neither an end nor a checkpoint record

-- the record neither ends a transaction nor lets one be skipped
abbrev pub IsQuiet : Record → Type 0
IsQuiet r = (r.kind ≢ 4) × (r.kind ≢ 5)

running_on : (r : Record) (log : Log) (t : ℕ) → IsQuiet r → IsRunning log t → IsRunning (r ∷ log) t
running_on r log t quiet running e (inl same) end = quiet.0 (ap (λ (x : Record). x.kind) (sym same) ∙ end.0)
running_on r log t quiet running e (inr m) end = running e m end

running_back : (r : Record) (log : Log) (t : ℕ) → IsRunning (r ∷ log) t → IsRunning log t
running_back r log t running e m end = running e (inr m) end

committed_back : (r : Record) (log : Log) (t : ℕ) → IsQuiet r → IsCommitted (r ∷ log) t → IsCommitted log t
committed_back r log t quiet h = has_back _ r log (λ k. quiet.0 k.0.0) h

skipped_on : (r : Record) (log : Log) (t : ℕ) → IsSkipped log t → IsSkipped (r ∷ log) t
skipped_on r log t h = (h.0, inr h.1, (h.2.0, has_on _ r log h.2.1))

skipped_back : (r : Record) (log : Log) (t : ℕ) → IsQuiet r → IsSkipped (r ∷ log) t → IsSkipped log t
skipped_back r log t quiet h = elim h.1 [
  | inl same ↦ absurd (quiet.0 (ap (λ (x : Record). x.kind) (sym same) ∙ h.2.0.0))
  | inr m ↦ (h.0, m, (h.2.0, has_back _ r log (λ k. quiet.1 k.0) h.2.1))
]

undo_on : (r : Record) (log : Log) (a : ℕ) (s : Record) → IsQuiet r → IsToUndo log a s → IsToUndo (r ∷ log) a s
undo_on r log a s quiet h = (h.0, h.1, running_on r log s.transaction quiet h.2)

undo_back : (r : Record) (log : Log) (a : ℕ) (s : Record) → IsToUndo (r ∷ log) a s → IsToUndo log a s
undo_back r log a s h = (h.0, h.1, running_back r log s.transaction h.2)

delete_on : (r : Record) (log : Log) (a : ℕ) (s : Record) → IsToDelete log a s → IsToDelete (r ∷ log) a s
delete_on r log a s h = (h.0, h.1, has_on _ r log h.2)

delete_back : (r : Record) (log : Log) (a : ℕ) (s : Record) → IsQuiet r → IsToDelete (r ∷ log) a s → IsToDelete log a s
delete_back r log a s quiet h = (h.0, h.1, committed_back r log s.transaction quiet h.2)

redo_on : (policy : ℕ) (r : Record) (log : Log) (a : ℕ) (s : Record) → IsQuiet r → IsToRedo policy log a s → IsToRedo policy (r ∷ log) a s
redo_on policy r log a s quiet h = (h.0, h.1, h.2, has_on _ r log h.3, λ k. h.4 (skipped_back r log s.transaction quiet k))

redo_back : (policy : ℕ) (r : Record) (log : Log) (a : ℕ) (s : Record) → IsQuiet r → IsToRedo policy (r ∷ log) a s → IsToRedo policy log a s
redo_back policy r log a s quiet h = (h.0, h.1, h.2, has_back _ r log (λ k. quiet.0 k.0) h.3, λ k. h.4 (skipped_on r log s.transaction k))

-- a record that isn't an update, an end or a checkpoint record, of a running transaction, keeps standing values
pub stands_noted : (policy : ℕ) (log : Log) (w : Words) (r : Record) → IsQuiet r → r.kind ≢ 1 → IsRunning log r.transaction →
    (a v : ℕ) → Stands policy log w a v → Stands policy (r ∷ log) w a v
stands_noted policy log w r quiet ne running a v h = cases h
  where
    no_undo : HasNo (IsToUndo log a) log → HasNo (IsToUndo (r ∷ log) a) (r ∷ log)
    no_undo none s (inl e) k = ne (ap (λ (x : Record). x.kind) (sym e) ∙ k.0)
    no_undo none s (inr m) k = none s m (undo_back r log a s k)

    no_delete : HasNo (IsToDelete log a) log → HasNo (IsToDelete (r ∷ log) a) (r ∷ log)
    no_delete none s (inl e) k =
        let c = committed_back r log s.transaction quiet k.2 in
        running c.0 c.1 (c.2.0.0, c.2.0.1 ∙ ap (λ (x : Record). x.transaction) e)
    no_delete none s (inr m) k = none s m (delete_back r log a s quiet k)

    mine_not_redone : (s : Record) → s ≡ r → IsToRedo policy (r ∷ log) a s → ⊥
    mine_not_redone s e k =
        let end = has_back _ r log (λ p. quiet.0 p.0) k.3 in
        running end.0 end.1 (end.2.0, end.2.1 ∙ ap (λ (x : Record). x.transaction) e)

    no_redo : HasNo (IsToRedo policy log a) log → HasNo (IsToRedo policy (r ∷ log) a) (r ∷ log)
    no_redo none s (inl e) k = mine_not_redone s e k
    no_redo none s (inr m) k = none s m (redo_back policy r log a s quiet k)

    cases : Stands policy log w a v → Stands policy (r ∷ log) w a v
    cases (undone u first e) = undone u (record {
      among = inr first.among;
      has = undo_on r log a u quiet first.has;
      first = λ s m k. elim m [ inl same ↦ absurd (ne (ap (λ (x : Record). x.kind) (sym same) ∙ k.0)) | inr old ↦ first.first s old (undo_back r log a s k) ];
    }) e
    cases (deleted none d e) = deleted (no_undo none) (d.0, inr d.1, delete_on r log a d.0 d.2) e
    cases (redone nu nd s last e) = redone (no_undo nu) (no_delete nd) s (record {
      among = inr last.among;
      has = redo_on policy r log a s quiet last.has;
      last = λ x m k. elim m [ inl same ↦ absurd (mine_not_redone x same k) | inr old ↦ last.last x old (redo_back policy r log a x quiet k) ];
    }) e
    cases (kept nu nd nr e) = kept (no_undo nu) (no_delete nd) (no_redo nr) e
