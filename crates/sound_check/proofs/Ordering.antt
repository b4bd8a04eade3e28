-- What the tests of records say of the order rule.
use Rattle.std.proofs.Common.{◌≡◌, ◌≢◌, ◌⊎◌, ◌↔◌, inl, inr, ℕ, Bool, true, not, ◌==◌, ◌&&◌, refl, sym, ◌∙◌, subst, arith}
use Rattle.std.specs.Prelude.{Option, Some, None, is_some}
use Rattle.std.specs.List.{list_any}
use Rattle.persist_model.specs.Records.{Record, Log, Has, HasNo, IsRollback, NamesWord, IsOf, IsEndOf, IsRunning, IsEnded, IsCommitted}
use Rattle.persist_model.specs.Order.{is_kind_of, undo_point, last_new, Compensates, IsNextToUndo, UndoesWell, Bars, Follows}
use Rattle.persist_model.specs.Need.{has_kind_of}
use Rattle.log_laws.proofs.LogFaults.{next_on, next_back}
use Rattle.bucket_log.specs.declared.scanning.Placed.{Placed}
use Rattle.log_tables.specs.Tables.{has_commit_of, has_outside, has_claim, holds_found}
use Rattle.sound_check.specs.Barring.{names_word, is_barring, IsClaim, compensates}
use Rattle.sound_check.proofs.Asking.{log_has, kinds_any, both_true, either_true, equal_true, not_true, as_told, and_true}

-- ---- single questions

pub number_tells : (log : Log) (n : ℕ) (t : Bool) → t ≡ list_any (λ (s : Record). (s.lsn == n) && true) log → (t ≡ true) ↔ Has (λ s. s.lsn ≡ n) log
number_tells log n t e = log_has (λ s. s.lsn ≡ n) (λ (s : Record). (s.lsn == n) && true) log t e (λ r. subst (λ b. (b ≡ true) ↔ (r.lsn ≡ n)) (sym (and_true (r.lsn == n))) (equal_true r.lsn n))

pub some_holds : (o : Option Placed) → is_some o ≡ holds_found (λ r. true) o
some_holds None = refl
some_holds (Some u) = refl

-- a record of this kind of a transaction
abbrev pub IsKindOf : ℕ → ℕ → Record → Type 0
IsKindOf tr k s = (s.transaction ≡ tr) × (s.kind ≡ k)

pub kind_of_true : (tr k : ℕ) (r : Record) → (is_kind_of tr k r ≡ true) ↔ IsKindOf tr k r
kind_of_true tr k r = both_true _ _ _ _ (equal_true r.transaction tr) (equal_true r.kind k)

pub kind_tells : (log : Log) (tr k : ℕ) (t : Bool) → t ≡ has_kind_of tr k log → (t ≡ true) ↔ Has (IsKindOf tr k) log
kind_tells log tr k t e = log_has (IsKindOf tr k) (is_kind_of tr k) log t (e ∙ sym (kinds_any tr k log)) (kind_of_true tr k)

pub has_as : (P Q : Record → Type 0) (log : Log) → ((r : Record) → P r → Q r) → Has P log → Has Q log
has_as P Q log on h = (h.0, h.1, on h.0 h.2)

pub end_tells : (log : Log) (tr : ℕ) (t : Bool) → t ≡ has_kind_of tr 4 log → (t ≡ true) ↔ IsEnded log tr
end_tells log tr t e = as_told t (Has (IsKindOf tr 4) log) (IsEnded log tr) (kind_tells log tr 4 t e)
    (has_as (IsKindOf tr 4) (IsEndOf tr) log (λ r p. (p.1, p.0))) (has_as (IsEndOf tr) (IsKindOf tr 4) log (λ r p. (p.1, p.0)))

pub commit_tells : (log : Log) (tr : ℕ) (t : Bool) → t ≡ has_commit_of tr log → (t ≡ true) ↔ IsCommitted log tr
commit_tells log tr t e = as_told t _ (IsCommitted log tr)
    (log_has (λ s. IsKindOf tr 4 s × (s.outcome ≡ 1)) (λ (s : Record). is_kind_of tr 4 s && (s.outcome == 1)) log t e
    (λ r. both_true _ _ _ _ (kind_of_true tr 4 r) (equal_true r.outcome 1)))
    (has_as _ _ log (λ r p. ((p.0.1, p.0.0), p.1))) (has_as _ _ log (λ r p. ((p.0.1, p.0.0), p.1)))

pub rollback_tells : (log : Log) (tr : ℕ) (t : Bool) → t ≡ has_kind_of tr 3 log → (t ≡ true) ↔ Has (λ s. IsOf tr s × IsRollback s) log
rollback_tells log tr t e = as_told t (Has (IsKindOf tr 3) log) _ (kind_tells log tr 3 t e)
    (has_as (IsKindOf tr 3) _ log (λ r p. ((p.0, (λ five. let three = p.1 in omega (arith, three, five))), p.1)))
    (has_as _ (IsKindOf tr 3) log (λ r p. (p.0.0, p.1)))

pub names_tells : (r : Record) → (names_word r ≡ true) ↔ NamesWord r
names_tells r = as_told _ ((r.kind ≡ 1) ⊎ ((r.kind ≡ 2) ⊎ (r.kind ≡ 6))) (NamesWord r)
    (either_true _ _ _ _ (equal_true r.kind 1) (either_true _ _ _ _ (equal_true r.kind 2) (equal_true r.kind 6)))
    (λ h. elim h [ inl k ↦ inl (inl k) | inr j ↦ elim j [ inl k ↦ inl (inr k) | inr k ↦ inr k ] ])
    (λ h. elim h [ inl j ↦ elim j [ inl k ↦ inl k | inr k ↦ inr (inl k) ] | inr k ↦ inr (inr k) ])

-- ---- a record that bars others

pub barring_tells : (log : Log) (s : Record) → (is_barring log s ≡ true) ↔ Bars log s
barring_tells log s =
    either_true _ _ _ _
    (both_true _ _ _ _ (names_tells s) (as_told _ (IsEnded log s.transaction → ⊥) (IsRunning log s.transaction)
    (not_true _ _ (end_tells log s.transaction _ refl)) (λ n r m p. n (r, m, p)) (λ n h. n h.0 h.1 h.2)))
    (both_true _ _ _ _ (equal_true s.kind 6) (commit_tells log s.transaction _ refl))

pub claimed_tells : (log earlier : Log) (r : Record) (t : Bool) → t ≡ has_claim (is_barring log) r.word r.transaction earlier → (t ≡ true) ↔ Has (IsClaim log r) earlier
claimed_tells log earlier r t e =
    as_told t _ _ (log_has (λ s. Bars log s × ((s.word ≡ r.word) × (s.transaction ≡ r.transaction → ⊥)))
    (λ (s : Record). is_barring log s && ((s.word == r.word) && not (s.transaction == r.transaction))) earlier t e
    (λ s. both_true _ _ _ _ (barring_tells log s) (both_true _ _ _ _ (equal_true s.word r.word) (not_true _ _ (equal_true s.transaction r.transaction)))))
    (has_as _ _ earlier (λ s p. (p.1.0, p.1.1, p.0))) (has_as _ _ earlier (λ s p. (p.2, (p.0, p.1))))

-- r names a word from which it is barred
pub barred_tells : (log earlier : Log) (r : Record) (t : Bool) → t ≡ (names_word r && has_claim (is_barring log) r.word r.transaction earlier) →
    (t ≡ true) ↔ (NamesWord r × Has (IsClaim log r) earlier)
barred_tells log earlier r t e =
    subst (λ b. (b ≡ true) ↔ (NamesWord r × Has (IsClaim log r) earlier)) (sym e) (both_true _ _ _ _ (names_tells r) (claimed_tells log earlier r _ refl))

-- ---- a transaction in two partitions

pub scattered_tells : (part : ℕ → ℕ) (log : Log) (tr p : ℕ) (t : Bool) → t ≡ has_outside part tr p log → (t ≡ true) ↔ Has (λ s. IsOf tr s × (part s.at ≢ p)) log
scattered_tells part log tr p t e =
    log_has (λ s. IsOf tr s × (part s.at ≢ p)) _ log t e
    (λ s. both_true _ _ _ _ (both_true _ _ _ _ (equal_true s.transaction tr) (not_true _ _ (equal_true s.kind 5))) (not_true _ _ (equal_true (part s.at) p)))

-- ---- what is undone

pub compensated_tells : (earlier : Log) (r : Record) (t : Bool) → t ≡ list_any (λ (u : Record). (u.lsn == undo_point r.transaction earlier) && compensates r u) earlier →
    (t ≡ true) ↔ ((u : Record) × IsNextToUndo r.transaction earlier u × Compensates r u)
compensated_tells earlier r t e =
    as_told t _ _ (log_has (λ u. (u.lsn ≡ undo_point r.transaction earlier) × (IsKindOf r.transaction 1 u × ((r.word ≡ u.word) × ((r.before ≡ u.after) × ((r.after ≡ u.before) × (r.undo_next ≡ u.undo_next))))))
    (λ (u : Record). (u.lsn == undo_point r.transaction earlier) && compensates r u) earlier t e
    (λ u. both_true _ _ _ _ (equal_true u.lsn (undo_point r.transaction earlier)) (both_true _ _ _ _ (kind_of_true r.transaction 1 u)
    (both_true _ _ _ _ (equal_true r.word u.word) (both_true _ _ _ _ (equal_true r.before u.after)
    (both_true _ _ _ _ (equal_true r.after u.before) (equal_true r.undo_next u.undo_next)))))))
    (λ h. next_on earlier r (has_as _ _ earlier (λ u p. ((p.1.0.1, (p.1.0.0, p.0)), p.1.1)) h))
    (λ k. has_as _ _ earlier (λ u p. (p.0.1.1, ((p.0.1.0, p.0.0), p.1))) (next_back earlier r k))

pub update_undoes : (earlier : Log) (r : Record) (t : Bool) → r.kind ≡ 1 →
    t ≡ (not (has_kind_of r.transaction 3 earlier) && ((r.undo_next == undo_point r.transaction earlier) && (r.before == last_new r.transaction r.word r.before earlier))) →
    (t ≡ true) ↔ UndoesWell earlier r
update_undoes earlier r t one e =
    let told = both_true _ _ _ _ (not_true _ _ (rollback_tells earlier r.transaction _ refl))
    (both_true _ _ _ _ (equal_true r.undo_next (undo_point r.transaction earlier)) (equal_true r.before (last_new r.transaction r.word r.before earlier))) in (
      (λ on. let h = told.0 (sym e ∙ on) in record {
        no_rollback = λ k s m p. h.0 (s, m, p);
        undo_next = λ k. h.1.0;
        before = λ k. h.1.1;
        compensates = λ two. absurd (omega (arith, one, two));
      }),
      (λ w. e ∙ told.1 ((λ h. w.no_rollback (inl one) h.0 h.1 h.2), (w.undo_next one, w.before one))),
    )

pub rest_undoes : (earlier : Log) (r : Record) (t : Bool) → (r.kind ≡ 6) ⊎ (r.kind ≡ 3) → t ≡ has_kind_of r.transaction 3 earlier → ((not t) ≡ true) ↔ UndoesWell earlier r
rest_undoes earlier r t kind e =
    let told = not_true _ _ (rollback_tells earlier r.transaction t e) in (
      (λ on. record {
        no_rollback = λ k s m p. told.0 on (s, m, p);
        undo_next = λ one. absurd (other one);
        before = λ one. absurd (other one);
        compensates = λ two. absurd (another two);
      }),
      (λ w. told.1 (λ h. w.no_rollback (inr kind) h.0 h.1 h.2)),
    )
  where
    other : r.kind ≡ 1 → ⊥
    other one = elim kind [ inl k ↦ omega (arith, one, k) | inr k ↦ omega (arith, one, k) ]

    another : r.kind ≡ 2 → ⊥
    another two = elim kind [ inl k ↦ omega (arith, two, k) | inr k ↦ omega (arith, two, k) ]

pub compensation_undoes : (earlier : Log) (r : Record) (t : Bool) → r.kind ≡ 2 → t ≡ list_any (λ (u : Record). (u.lsn == undo_point r.transaction earlier) && compensates r u) earlier →
    (t ≡ true) ↔ UndoesWell earlier r
compensation_undoes earlier r t two e =
    let told = compensated_tells earlier r t e in (
      (λ on. record {
        no_rollback = λ k. absurd (elim k [ inl one ↦ omega (arith, one, two) | inr j ↦ elim j [ inl six ↦ omega (arith, six, two) | inr three ↦ omega (arith, three, two) ] ]);
        undo_next = λ one. absurd (omega (arith, one, two));
        before = λ one. absurd (omega (arith, one, two));
        compensates = λ k. told.0 on;
      }),
      (λ w. told.1 (w.compensates two)),
    )

-- ---- all

pub follows_alone : (part : ℕ → ℕ) (log earlier : Log) (r : Record) → r.kind ≡ 5 → HasNo (λ s. s.lsn ≡ r.lsn) earlier → Follows part log earlier r
follows_alone part log earlier r five fresh = record {
  fresh = fresh;
  one_part = λ s m p. p.1 five;
  not_ended = λ s m p. p.1 five;
  word = λ k. absurd (elim k [ inl j ↦ elim j [ inl one ↦ omega (arith, one, five) | inr two ↦ omega (arith, two, five) ] | inr six ↦ omega (arith, six, five) ]);
  undo = λ ne. absurd (ne five);
}

pub follows_by : (part : ℕ → ℕ) (log earlier : Log) (r : Record) → HasNo (λ s. s.lsn ≡ r.lsn) earlier → HasNo (λ s. IsOf r.transaction s × (part s.at ≢ part r.at)) earlier →
    (IsEnded earlier r.transaction → ⊥) → (NamesWord r → HasNo (IsClaim log r) earlier) → (IsRunning log r.transaction → UndoesWell earlier r) → Follows part log earlier r
follows_by part log earlier r fresh here unended free undo = record {
  fresh = fresh;
  one_part = λ s m p. here s m (p.0, p.2);
  not_ended = λ s m p. unended (s, m, (p.2, p.0.0));
  word = free;
  undo = λ ne. undo;
}

-- an earlier end of r's transaction
pub follows_no_end : (part : ℕ → ℕ) (log earlier : Log) (r : Record) → r.kind ≢ 5 → IsEnded earlier r.transaction → Follows part log earlier r → ⊥
follows_no_end part log earlier r ne h f = f.not_ended h.0 h.1 ((h.2.1, (λ five. let four = h.2.0 in omega (arith, four, five))), ne, h.2.0)
