-- What each record of a running transaction does to the need of its part.
use Rattle.std.proofs.Common.{◌≡◌, ◌≢◌, inl, inr, ℕ, zero, suc, ◌+◌, ◌<◌, ◌≤◌, true, false, ◌==◌, [], ◌∷◌, refl, sym, subst, arith}
use Rattle.std.proofs.lemmas.Bool.Decides.{eqb_tells, nat_tests}
use Rattle.persist_model.specs.Records.{Record, Log, IsAmong, Has, IsOf, IsUpdate, IsRollback, IsEnd, IsDeletion}
use Rattle.persist_model.specs.Need.{to_undo, has_kind_of, need_of, is_of, has_of, need_at, need_in}
use Rattle.persist_model.specs.State.{total_need}
use Rattle.log_laws.proofs.Needs.{kind_test, total_same, need_other, or_false, of_test, sum_same, sum_moved, counted_later, counted_first, has_of_true}

-- ---- one transaction

-- an update adds its compensation
pub need_updated : (u : Record) (log : Log) → IsUpdate u → has_kind_of u.transaction 4 log ≡ false → need_of log u.transaction + 1 ≡ need_of (u ∷ log) u.transaction
need_updated u log is running =
    let one = kind_test u.transaction 1 u refl 1 is in
    let three = kind_test u.transaction 3 u refl 1 is in
    let four = kind_test u.transaction 4 u refl 1 is in
    rw (one, three, four, running) (omega arith)

-- a deletion adds nothing
pub need_deleted : (d : Record) (log : Log) → IsDeletion d → need_of log d.transaction + 0 ≡ need_of (d ∷ log) d.transaction
need_deleted d log is =
    let one = kind_test d.transaction 1 d refl 6 is in
    let two = kind_test d.transaction 2 d refl 6 is in
    let three = kind_test d.transaction 3 d refl 6 is in
    let four = kind_test d.transaction 4 d refl 6 is in
    rw (one, two, three, four) (omega arith)

-- an end takes the whole need away
pub need_ended : (e : Record) (log : Log) → IsEnd e → need_of (e ∷ log) e.transaction ≡ 0
need_ended e log is = let four = kind_test e.transaction 4 e refl 4 is in rw four refl

-- a running transaction with a record needs at least its end
pub need_positive : (t : ℕ) (log : Log) → has_kind_of t 4 log ≡ false → 1 ≤ need_of log t
need_positive t log running = rw running (omega arith)

-- ---- a transaction without records

no_kind : (t k : ℕ) (log : Log) → k ≢ 5 → has_of t log ≡ false → has_kind_of t k log ≡ false
no_kind t k [] ne none = refl
no_kind t k (r ∷ log) ne none =
    let both = or_false (is_of t r) (has_of t log) none in
    let others = no_kind t k log ne both.1 in
    elim (eqb_tells r.transaction t) [
      | inr other ↦ (rw (other.0, others) refl)
      | inl own ↦ elim (eqb_tells r.kind k) [
        | inr other ↦ (rw (own.0, other.0, others) refl)
        | inl same ↦ (
            let five : (r.kind == 5) ≡ false = (let e = same.1 in grind (arith, nat_tests)) in
            let mine : is_of t r ≡ true = rw (own.0, five) refl in
            absurd (cc))
      ]
    ]

no_undo : (t : ℕ) (log : Log) → has_of t log ≡ false → to_undo t log ≡ []
no_undo t [] none = refl
no_undo t (r ∷ log) none =
    let both = or_false (is_of t r) (has_of t log) none in
    let others = no_undo t log both.1 in
    elim (of_test t r) [
      | inl h ↦ absurd (cc)
      | inr h ↦ elim h.1 [
        | inr other ↦ (let off : (r.transaction == t) ≡ false = grind (arith, nat_tests) in rw off others)
        | inl five ↦ (
            let one : (r.kind == 1) ≡ false = grind (arith, nat_tests) in
            let two : (r.kind == 2) ≡ false = grind (arith, nat_tests) in
            elim (eqb_tells r.transaction t) [ inl own ↦ (rw (own.0, one, two) others) | inr other ↦ (rw other.0 others) ])
      ]
    ]

-- the first update of a transaction brings its compensation, its rollback record and its end
pub need_first_update : (u : Record) (log : Log) → IsUpdate u → has_of u.transaction log ≡ false → need_of (u ∷ log) u.transaction ≡ 3
need_first_update u log is none =
    let one = kind_test u.transaction 1 u refl 1 is in
    let three = kind_test u.transaction 3 u refl 1 is in
    let four = kind_test u.transaction 4 u refl 1 is in
    let rolled = no_kind u.transaction 3 log (omega arith) none in
    let ended = no_kind u.transaction 4 log (omega arith) none in
    let stack = no_undo u.transaction log none in
    rw (one, three, four, rolled, ended, stack) refl

-- a deletion that comes first brings the rollback record and the end
pub need_first_deletion : (d : Record) (log : Log) → IsDeletion d → has_of d.transaction log ≡ false → need_of (d ∷ log) d.transaction ≡ 2
need_first_deletion d log is none =
    let one = kind_test d.transaction 1 d refl 6 is in
    let two = kind_test d.transaction 2 d refl 6 is in
    let three = kind_test d.transaction 3 d refl 6 is in
    let four = kind_test d.transaction 4 d refl 6 is in
    let rolled = no_kind d.transaction 3 log (omega arith) none in
    let ended = no_kind d.transaction 4 log (omega arith) none in
    let stack = no_undo d.transaction log none in
    rw (one, two, three, four, rolled, ended, stack) refl

-- a rollback record that comes first brings the end
pub need_first_rollback : (r : Record) (log : Log) → IsRollback r → has_of r.transaction log ≡ false → need_of (r ∷ log) r.transaction ≡ 1
need_first_rollback r log is none =
    let one = kind_test r.transaction 1 r refl 3 is in
    let two = kind_test r.transaction 2 r refl 3 is in
    let three = kind_test r.transaction 3 r refl 3 is in
    let four = kind_test r.transaction 4 r refl 3 is in
    let ended = no_kind r.transaction 4 log (omega arith) none in
    let stack = no_undo r.transaction log none in
    rw (one, two, three, four, ended, stack) refl

-- ---- the need of a part

-- a record more of a transaction that has some, and whose need grows by d
pub need_rose : (part : ℕ → ℕ) (d : ℕ) (r : Record) (log : Log) → Has (IsOf r.transaction) log → ((x : Record) → IsAmong log x → IsOf r.transaction x → part x.at ≡ part r.at) →
    need_of log r.transaction + d ≡ need_of (r ∷ log) r.transaction → need_in part (part r.at) log + d ≡ need_in part (part r.at) (r ∷ log)
need_rose part d r log some inside more =
    let has = has_of_true r.transaction log some in
    let first = counted_later part (part r.at) (need_of (r ∷ log)) r log has in
    let others = sum_moved part (part r.at) d (need_of log) (need_of (r ∷ log)) r.transaction log (λ x ne. sym (need_other x r log (λ e. ne (sym e)))) more has inside in
    omega (arith, first, others)

-- a record more of a transaction that has some, and whose need falls by d
pub need_fell_by : (part : ℕ → ℕ) (d : ℕ) (r : Record) (log : Log) → Has (IsOf r.transaction) log → ((x : Record) → IsAmong log x → IsOf r.transaction x → part x.at ≡ part r.at) →
    need_of (r ∷ log) r.transaction + d ≡ need_of log r.transaction → need_in part (part r.at) (r ∷ log) + d ≡ need_in part (part r.at) log
need_fell_by part d r log some inside less =
    let has = has_of_true r.transaction log some in
    let first = counted_later part (part r.at) (need_of (r ∷ log)) r log has in
    let others = sum_moved part (part r.at) d (need_of (r ∷ log)) (need_of log) r.transaction log (λ x ne. need_other x r log (λ e. ne (sym e))) less has inside in
    omega (arith, first, others)

-- the first record of a transaction adds its need
pub need_began : (part : ℕ → ℕ) (r : Record) (log : Log) → r.kind ≢ 5 → has_of r.transaction log ≡ false →
    need_in part (part r.at) log + need_of (r ∷ log) r.transaction ≡ need_in part (part r.at) (r ∷ log)
need_began part r log plain none =
    let five : (r.kind == 5) ≡ false = grind (arith, nat_tests) in
    let first = counted_first part (part r.at) (need_of (r ∷ log)) r log five none refl in
    let others = sum_same part (part r.at) (need_of log) (need_of (r ∷ log)) r.transaction log (λ x ne. sym (need_other x r log (λ e. ne (sym e)))) none in
    omega (arith, first, others)

-- the need of another part stays
pub need_began_elsewhere : (part : ℕ → ℕ) (p : ℕ) (r : Record) (log : Log) → has_of r.transaction log ≡ false → p ≢ part r.at → need_in part p log ≡ need_in part p (r ∷ log)
need_began_elsewhere part p r log none ne =
    let others = sum_same part p (need_of log) (need_of (r ∷ log)) r.transaction log (λ x other. sym (need_other x r log (λ e. other (sym e)))) none in
    let off : (part r.at == p) ≡ false = (let other : part r.at ≢ p = (λ e. ne (sym e)) in grind (arith, nat_tests)) in
    let first : need_at part p (need_of (r ∷ log)) r log ≡ 0 = elim (eqb_tells r.kind 5) [ inl five ↦ (rw five.0 refl) | inr other ↦ (rw (other.0, none, off) refl) ] in
    omega (arith, first, others)

-- the need of all parts, where one rises by d
pub total_rose : (part : ℕ → ℕ) (n q d : ℕ) (log later : Log) → q < n → need_in part q log + d ≡ need_in part q later →
    ((p : ℕ) → p ≢ q → need_in part p later ≡ need_in part p log) → total_need part n log + d ≡ total_need part n later
total_rose part zero q d log later lt rose stays = absurd (omega arith)
total_rose part (suc n) q d log later lt rose stays = elim (eqb_tells q n) [
  | inl same ↦ (
      let below = total_same part n log later (λ p less. stays p (λ e. absurd (omega (arith, e, less, same.1)))) in
      let here : need_in part n log + d ≡ need_in part n later = subst (λ x. need_in part x log + d ≡ need_in part x later) same.1 rose in
      omega (arith, below, here))
  | inr other ↦ (
      let ne = other.1 in
      let below = total_rose part n q d log later (omega arith) rose stays in
      let here = stays n (λ e. other.1 (sym e)) in
      omega (arith, below, here))
]
