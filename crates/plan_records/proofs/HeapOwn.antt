-- A transaction's last changes of words.
use Rattle.std.proofs.Common.{◌≡◌, ◌≢◌, ◌⊎◌, inl, inr, ℕ, ◌<◌, [], ◌∷◌, refl, sym, ap, ◌∙◌, subst, arith}
use Rattle.persist_model.specs.Progress.{Progress}
use Rattle.persist_model.specs.Records.{Record, Log, IsAmong, IsOf, IsChange}
use Rattle.persist_model.specs.Standing.{IsLatest}
use Rattle.log_laws.specs.Moves.{IsChangeBy}
use Rattle.persist_model.specs.Order.{undo_point}
use Rattle.log_laws.proofs.Deciding.{decide_equal}
use Rattle.log_laws.proofs.Stacks.{IsTo, updates, compensates, neither, is_to}
use Rattle.plan_records.specs.Courses.{own_records}
use Rattle.plan_records.specs.HeapCourses.{IsChanged, AreNewest}
use Rattle.plan_records.proofs.OwnRecords.{own_first, own_in, own_out, own_other}

-- ---- the last change of a word

-- a change by t is a record of t
pub change_of : (t a : ℕ) (r : Record) → IsChangeBy t a r → IsOf t r
change_of t a r c = (c.2, by c.0)
  where
    by : IsChange r → r.kind ≢ 5
    by (inl one) = λ five. absurd (omega (arith, one, five))
    by (inr two) = λ five. absurd (omega (arith, two, five))

pub latest_own : (t a : ℕ) (log : Log) (r : Record) → IsLatest (IsChangeBy t a) log r → IsLatest (IsChangeBy t a) (own_records t log) r
latest_own t a log r h = record {
  among = own_in t log r h.among (change_of t a r h.has);
  has = h.has;
  last = λ x m c. h.last x (own_out t log x m).0 c;
}

pub latest_all : (t a : ℕ) (log : Log) (r : Record) → IsLatest (IsChangeBy t a) (own_records t log) r → IsLatest (IsChangeBy t a) log r
latest_all t a log r h = record {
  among = (own_out t log r h.among).0;
  has = h.has;
  last = λ x m c. h.last x (own_in t log x m (change_of t a x c)) c;
}

-- behind a change by t that is above all of t's, its word's last change is that one, and other words' are as before
pub latest_changed : (t a : ℕ) (e : Record) (o : Log) (r : Record) → IsChange e → e.transaction ≡ t → ((x : Record) → IsAmong o x → IsOf t x → x.lsn < e.lsn) →
    IsLatest (IsChangeBy t a) (e ∷ o) r → ((e.word ≡ a) × (r ≡ e)) ⊎ ((e.word ≢ a) × IsLatest (IsChangeBy t a) o r)
latest_changed t a e o r change own above h = elim (decide_equal e.word a) [ inl same ↦ inl (same, newest same h.among) | inr ne ↦ inr (ne, before ne h.among) ]
  where
    newest : e.word ≡ a → (r ≡ e) ⊎ IsAmong o r → r ≡ e
    newest same (inl k) = k
    newest same (inr m) =
        let le = h.last e (inl refl) (change, same, own) in
        let lt = above r m (change_of t a r h.has) in absurd (omega (arith, le, lt))

    before : e.word ≢ a → (r ≡ e) ⊎ IsAmong o r → IsLatest (IsChangeBy t a) o r
    before ne (inl k) = absurd (ne (ap (λ (x : Record). x.word) (sym k) ∙ h.has.1))
    before ne (inr m) = record { among = m; has = h.has; last = λ x k c. h.last x (inr k) c }

-- behind another record they all are
pub latest_same : (t a : ℕ) (e : Record) (o : Log) (r : Record) → (IsChange e → ⊥) → IsLatest (IsChangeBy t a) (e ∷ o) r → IsLatest (IsChangeBy t a) o r
latest_same t a e o r off h = by h.among
  where
    by : (r ≡ e) ⊎ IsAmong o r → IsLatest (IsChangeBy t a) o r
    by (inl k) = absurd (off (subst IsChange k h.has.0))
    by (inr m) = record { among = m; has = h.has; last = λ x k c. h.last x (inr k) c }

-- ---- what is newest

pub newest_own : (log : Log) (t : ℕ) (q : Progress) → AreNewest log t q → AreNewest (own_records t log) t q
newest_own log t q h a r last = h a r (latest_all t a log r last)

pub changed_own : (log : Log) (t a : ℕ) → IsChanged log t a → IsChanged (own_records t log) t a
changed_own log t a k = (k.0, own_in t log k.0 k.1 (change_of t a k.0 k.2), k.2)

pub changed_all : (log : Log) (t a : ℕ) → IsChanged (own_records t log) t a → IsChanged log t a
changed_all log t a k = (k.0, (own_out t log k.0 k.1).0, k.2)

pub newest_all : (log : Log) (t : ℕ) (q : Progress) → AreNewest (own_records t log) t q → AreNewest log t q
newest_all log t q h a r last = h a r (latest_own t a log r last)

-- ---- the undo point

own_cases : (t : ℕ) (r : Record) (log : Log) → (own_records t (r ∷ log) ≡ r ∷ own_records t log) ⊎ (own_records t (r ∷ log) ≡ own_records t log)
own_cases t r log = elim (decide_equal r.transaction t) [
  | inr ne ↦ inr (own_other t r log (λ of. ne of.0))
  | inl own ↦ elim (decide_equal r.kind 5) [ inl five ↦ inr (own_other t r log (λ of. of.1 five)) | inr some ↦ inl (own_first t r log (own, some)) ]
]

undo_point_own : (t : ℕ) (log : Log) → undo_point t log ≡ undo_point t (own_records t log)
undo_point_own t [] = refl
undo_point_own t (r ∷ log) = by (is_to t r) (undo_point_own t log)
  where
    by : IsTo t r → undo_point t log ≡ undo_point t (own_records t log) → undo_point t (r ∷ log) ≡ undo_point t (own_records t (r ∷ log))
    by (updates one is own) again = rw (own_first t r log (own, λ five. (let e = is in omega (arith, e, five)))) (rw one refl)
    by (compensates not_one two is own) again = rw (own_first t r log (own, λ five. (let e = is in omega (arith, e, five)))) (rw (not_one, two) refl)
    by (neither not_one not_two k) again = elim (own_cases t r log) [
      | inl first ↦ rw first (rw (not_one, not_two) again)
      | inr rest ↦ rw rest (rw (not_one, not_two) again)
    ]

pub undo_point_stays : (log later : Log) (t : ℕ) → own_records t later ≡ own_records t log → undo_point t later ≡ undo_point t log
undo_point_stays log later t same = undo_point_own t later ∙ ap (undo_point t) same ∙ sym (undo_point_own t log)
