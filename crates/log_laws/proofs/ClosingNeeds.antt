-- A closing doesn't raise the need.
use Rattle.std.proofs.Common.{◌≡◌, ◌≢◌, inl, inr, ℕ, zero, suc, ◌≤◌, true, false, not, ◌==◌, ◌&&◌, if◌then◌else◌, refl, arith}
use Rattle.std.proofs.lemmas.Bool.Decides.{eqb_tells}
use Rattle.persist_model.specs.Region.{Words}
use Rattle.persist_model.specs.Records.{Record, Log, IsAmong, IsOf, IsEnded}
use Rattle.log_laws.specs.Closing.{MayClose, IsSublog, empty, stays, goes, IsClosing}
use Rattle.persist_model.specs.Need.{to_undo, has_kind_of, need_of, is_of, has_of, need_at, sum_over, need_in}
use Rattle.persist_model.specs.State.{total_need}
use Rattle.log_laws.proofs.Deciding.{ended_or_running}
use Rattle.log_laws.proofs.Closings.{running_back, not_kind, none_goes}
use Rattle.log_laws.proofs.Needs.{has_kind_true, of_test}

-- where no record of t goes, all that is asked of t stays
has_kind_part : (P : Record → Type 0) (t k : ℕ) (later log : Log) → k ≢ 5 → ((r : Record) → P r → IsOf t r → ⊥) → IsSublog P later log → has_kind_of t k later ≡ has_kind_of t k log
has_kind_part P t k _ _ ne none empty = refl
has_kind_part P t k _ _ ne none (stays r part) = rw (has_kind_part P t k _ _ ne none part) refl
has_kind_part P t k _ _ ne none (goes r p part) = rw (not_kind t k r (none r p) ne) (has_kind_part P t k _ _ ne none part)

to_undo_part : (P : Record → Type 0) (t : ℕ) (later log : Log) → ((r : Record) → P r → IsOf t r → ⊥) → IsSublog P later log → to_undo t later ≡ to_undo t log
to_undo_part P t _ _ none empty = refl
to_undo_part P t _ _ none (stays r part) = rw (to_undo_part P t _ _ none part) refl
to_undo_part P t _ _ none (goes r p part) =
    rw (not_kind t 1 r (none r p) (omega arith), not_kind t 2 r (none r p) (omega arith)) (to_undo_part P t _ _ none part)

not_of : (t : ℕ) (r : Record) → (IsOf t r → ⊥) → is_of t r ≡ false
not_of t r none = elim (of_test t r) [ inl h ↦ absurd (none h.1) | inr h ↦ h.0 ]

has_of_part : (P : Record → Type 0) (t : ℕ) (later log : Log) → ((r : Record) → P r → IsOf t r → ⊥) → IsSublog P later log → has_of t later ≡ has_of t log
has_of_part P t _ _ none empty = refl
has_of_part P t _ _ none (stays r part) = rw (has_of_part P t _ _ none part) refl
has_of_part P t _ _ none (goes r p part) = rw (not_of t r (none r p)) (has_of_part P t _ _ none part)

need_part : (P : Record → Type 0) (t : ℕ) (later log : Log) → ((r : Record) → P r → IsOf t r → ⊥) → IsSublog P later log → need_of later t ≡ need_of log t
need_part P t later log none part =
    rw (has_kind_part P t 4 later log (omega arith) none part, has_kind_part P t 3 later log (omega arith) none part, to_undo_part P t later log none part) refl

counted_most : (part_of : ℕ → ℕ) (p : ℕ) (f : ℕ → ℕ) (r : Record) (earlier : Log) → need_at part_of p f r earlier ≤ f r.transaction
counted_most part_of p f r earlier =
    elim (not (r.kind == 5) && (not (has_of r.transaction earlier) && (part_of r.at == p))) as (λ b. (if b then f r.transaction else 0) ≤ f r.transaction) [ true ↦ omega arith | false ↦ omega arith ]

need_ended : (t : ℕ) (log : Log) → IsEnded log t → need_of log t ≡ 0
need_ended t log e = rw (has_kind_true t 4 log e) refl

sum_closed : (part_of : ℕ → ℕ) (p policy : ℕ) (log : Log) (w : Words) (later : Log) → IsClosing policy log w later →
    (left front : Log) → IsSublog (MayClose policy log w later) left front → ((r : Record) → IsAmong left r → IsAmong later r) →
    sum_over part_of p (need_of later) left ≤ sum_over part_of p (need_of log) front
sum_closed part_of p policy log w later h _ _ empty inside = omega arith
sum_closed part_of p policy log w later h _ _ (goes r {later = left} {log = front} q part) inside =
    let others = sum_closed part_of p policy log w later h left front part inside in
    omega (arith, others)
sum_closed part_of p policy log w later h _ _ (stays r {later = left} {log = front} part) inside =
    let others = sum_closed part_of p policy log w later h left front part (λ s m. inside s (inr m)) in
    let first : need_at part_of p (need_of later) r left ≤ need_at part_of p (need_of log) r front = elim (ended_or_running later r.transaction) [
      | inl e ↦ (let most = counted_most part_of p (need_of later) r left in let none = need_ended r.transaction later e in omega (arith, most, none))
      | inr running ↦ elim (eqb_tells r.kind 5) [
        | inl five ↦ (rw five.0 (omega arith))
        | inr ne ↦ (
            let before = running_back policy log w later h r.transaction (r, inside r (inl refl), (refl, ne.1)) running in
            let none = none_goes policy log w later r.transaction before in
            rw (need_part _ r.transaction later log none h.part, has_of_part _ r.transaction left front none part) (omega arith))
      ]
    ] in
    omega (arith, first, others)

pub need_closed : (part_of : ℕ → ℕ) (p policy : ℕ) (log : Log) (w : Words) (later : Log) → IsClosing policy log w later → need_in part_of p later ≤ need_in part_of p log
need_closed part_of p policy log w later h = sum_closed part_of p policy log w later h later log h.part (λ r m. m)

pub total_closed : (part_of : ℕ → ℕ) (n policy : ℕ) (log : Log) (w : Words) (later : Log) → IsClosing policy log w later → total_need part_of n later ≤ total_need part_of n log
total_closed part_of zero policy log w later h = omega arith
total_closed part_of (suc n) policy log w later h =
    let below = total_closed part_of n policy log w later h in let here = need_closed part_of n policy log w later h in omega (arith, below, here)
