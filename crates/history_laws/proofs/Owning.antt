-- A transaction's own records where others' come and go.
use Rattle.std.proofs.Common.{◌≡◌, ◌≢◌, ◌⊎◌, inl, inr, ℕ, ◌<◌, true, false, [], ◌∷◌, refl, sym, ap, ◌∙◌, subst, arith}
use Rattle.persist_model.specs.Records.{Record, Log, IsAmong, Has, HasNo, IsOf, IsEndOf, IsRunning}
use Rattle.persist_model.specs.Standing.{IsLatest}
use Rattle.persist_model.specs.Order.{undo_point}
use Rattle.persist_model.specs.Need.{has_of, to_undo, need_in}
use Rattle.persist_model.specs.Shape.{Shape}
use Rattle.persist_model.specs.State.{State}
use Rattle.log_laws.specs.Moves.{IsDeletionBy, IsChangeBy}
use Rattle.log_laws.proofs.Needs.{of_test, has_of_true, need_stays}
use Rattle.log_laws.proofs.MoveNeeds.{need_began_elsewhere}
use Rattle.plan_records.specs.Courses.{own_records}
use Rattle.plan_records.specs.Passing.{inserted, renumbered, Passes}
use Rattle.plan_records.proofs.HeapOwn.{change_of, undo_point_stays}
use Rattle.plan_records.proofs.OwnRecords.{own_in, own_out, to_undo_own}
use Rattle.plan_records.proofs.PassingNeeds.{need_in_inserted}
use Rattle.history_laws.specs.UnderWay.{UnderWay, IsUnderWayIn}
use Rattle.history_laws.specs.Choices.{IsChosen}

-- ---- whether a transaction has a record

pub of_cases : (t : ℕ) (log : Log) → ((has_of t log ≡ true) × Has (IsOf t) log) ⊎ (has_of t log ≡ false)
of_cases t [] = inr refl
of_cases t (r ∷ log) = elim (of_test t r) [
  | inl h ↦ inl ((rw h.0 refl), (r, inl refl, h.1))
  | inr h ↦ elim (of_cases t log) [
    | inl k ↦ inl ((rw (h.0, k.0) refl), (k.1.0, inr k.1.1, k.1.2))
    | inr k ↦ inr (rw (h.0, k) refl)
  ]
]

-- an end or a deletion of t is a record of t
pub end_of : (t : ℕ) (r : Record) → IsEndOf t r → IsOf t r
end_of t r end = (end.1, λ five. (let four = end.0 in omega (arith, four, five)))

pub deletion_of : (t a : ℕ) (r : Record) → IsDeletionBy t a r → IsOf t r
deletion_of t a r d = (d.2, λ five. (let six = d.0 in omega (arith, six, five)))

-- ---- t runs in s, and has no record under way in the first n partitions

module _ (shape : Shape) (under : ℕ → UnderWay) (n : ℕ) (s x : State) (c : IsChosen shape under n s x) (t : ℕ) (running : IsRunning s.log t)
    (none : (q : ℕ) (y : Record) → q < n → IsUnderWayIn shape s.log q (under q) y → IsOf t y → ⊥) where
  pub same_own : own_records t x.log ≡ own_records t s.log
  same_own = c.own t running none

  pub own_back : (y : Record) → IsAmong x.log y → IsOf t y → IsAmong s.log y
  own_back y m of = (own_out t s.log y (subst (λ l. IsAmong l y) same_own (own_in t x.log y m of))).0

  pub own_forth : (y : Record) → IsAmong s.log y → IsOf t y → IsAmong x.log y
  own_forth y m of = (own_out t x.log y (subst (λ l. IsAmong l y) (sym same_own) (own_in t s.log y m of))).0

  pub own_running : IsRunning x.log t
  own_running e m end = running e (own_back e m (end_of t e end)) end

  pub own_has_of : has_of t x.log ≡ has_of t s.log
  own_has_of = elim (of_cases t x.log) [
    | inl k ↦ k.0 ∙ sym (has_of_true t s.log (k.1.0, own_back k.1.0 k.1.1 k.1.2, k.1.2))
    | inr k ↦ elim (of_cases t s.log) [
      | inl j ↦ (let on = has_of_true t x.log (j.1.0, own_forth j.1.0 j.1.1 j.1.2, j.1.2) in on ∙ sym j.0)
      | inr j ↦ k ∙ sym j
    ]
  ]

  pub own_undo_point : undo_point t x.log ≡ undo_point t s.log
  own_undo_point = undo_point_stays s.log x.log t same_own

  pub own_to_undo : to_undo t x.log ≡ to_undo t s.log
  own_to_undo = to_undo_own t x.log ∙ ap (to_undo t) same_own ∙ sym (to_undo_own t s.log)

  pub latest_back : (a : ℕ) (y : Record) → IsLatest (IsChangeBy t a) x.log y → IsLatest (IsChangeBy t a) s.log y
  latest_back a y h = record {
    among = own_back y h.among (change_of t a y h.has);
    has = h.has;
    last = λ z m k. h.last z (own_forth z m (change_of t a z k)) k;
  }

  pub changes_back : (a : ℕ) → HasNo (IsChangeBy t a) x.log → HasNo (IsChangeBy t a) s.log
  changes_back a never y m k = never y (own_forth y m (change_of t a y k)) k

  pub deletions_back : (a : ℕ) → HasNo (IsDeletionBy t a) x.log → HasNo (IsDeletionBy t a) s.log
  deletions_back a never y m k = never y (own_forth y m (deletion_of t a y k)) k

  pub deleted_forth : (a : ℕ) → Has (IsDeletionBy t a) s.log → Has (IsDeletionBy t a) x.log
  deleted_forth a d = (d.0, own_forth d.0 d.1 (deletion_of t a d.0 d.2), d.2)

  pub deletions_forth : (a : ℕ) → HasNo (IsDeletionBy t a) s.log → HasNo (IsDeletionBy t a) x.log
  deletions_forth a never y m k = never y (own_back y m (deletion_of t a y k)) k

  pub changes_forth : (a : ℕ) → HasNo (IsChangeBy t a) s.log → HasNo (IsChangeBy t a) x.log
  changes_forth a never y m k = never y (own_back y m (change_of t a y k)) k

  pub latest_forth : (a : ℕ) (y : Record) → IsLatest (IsChangeBy t a) s.log y → IsLatest (IsChangeBy t a) x.log y
  latest_forth a y h = record {
    among = own_forth y h.among (change_of t a y h.has);
    has = h.has;
    last = λ z m k. h.last z (own_back z m (change_of t a z k)) k;
  }

-- ---- the need of other partitions

need_beside : (part : ℕ → ℕ) (q : ℕ) (r : Record) (log : Log) → ((y : Record) → IsAmong log y → IsOf r.transaction y → part y.at ≡ part r.at) → q ≢ part r.at →
    need_in part q (r ∷ log) ≡ need_in part q log
need_beside part q r log inside ne = elim (of_cases r.transaction log) [
  | inl k ↦ need_stays part q r log k.1 inside ne
  | inr k ↦ sym (need_began_elsewhere part q r log k ne)
]

-- a record that comes into the log changes the need of its own partition alone
pub need_passing : (part : ℕ → ℕ) (q : ℕ) (r : Record) (log : Log) → Passes log r → ((y : Record) → IsAmong log y → IsOf r.transaction y → part y.at ≡ part r.at) → q ≢ part r.at →
    need_in part q (inserted r log) ≡ need_in part q log
need_passing part q r log passes inside ne =
    need_in_inserted part q r.lsn r log (λ y m lt same. (let may = passes.newer y m lt in may.other (same, may.no_checkpoint))) ∙
    need_beside part q (renumbered r.lsn r) log inside ne
