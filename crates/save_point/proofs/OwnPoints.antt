-- A transaction's undo point is the number of the newest update that is left to undo.
use Rattle.std.proofs.Common.{◌≡◌, ◌⊎◌, inl, inr, ℕ, [], ◌∷◌, refl, sym, ap, ◌∙◌, subst, arith}
use Rattle.persist_model.specs.Kinds.{COMPENSATION}
use Rattle.persist_model.specs.Records.{Record, Log, IsOf, IsRunning}
use Rattle.persist_model.specs.Order.{undo_point}
use Rattle.persist_model.specs.Need.{to_undo}
use Rattle.persist_model.specs.Shape.{Shape, part_of}
use Rattle.persist_model.specs.State.{State, IsSoundState}
use Rattle.log_laws.proofs.Deciding.{decide_equal}
use Rattle.log_laws.proofs.Growing.{numbered}
use Rattle.log_laws.proofs.Stacks.{IsTo, updates, compensates, neither, is_to, IsStack, has_stack, top_lsn}
use Rattle.plan_records.specs.Courses.{own_records}
use Rattle.plan_records.proofs.OwnRecords.{own_first, own_other, to_undo_own}
use Rattle.plan_records.proofs.HeapOwn.{undo_point_stays}
use Rattle.save_point.specs.Ends.{top_number}

own_cases : (t : ℕ) (r : Record) (log : Log) → (own_records t (r ∷ log) ≡ r ∷ own_records t log) × IsOf t r ⊎ (own_records t (r ∷ log) ≡ own_records t log)
own_cases t r log = elim (decide_equal r.transaction t) [
  | inr ne ↦ inr (own_other t r log (λ of. ne of.0))
  | inl own ↦ elim (decide_equal r.kind 5) [ inl five ↦ inr (own_other t r log (λ of. of.1 five)) | inr some ↦ inl (own_first t r log (own, some), (own, some)) ]
]

own_twice : (t : ℕ) (log : Log) → own_records t (own_records t log) ≡ own_records t log
own_twice t [] = refl
own_twice t (r ∷ log) = by (own_cases t r log) (own_twice t log)
  where
    by : (own_records t (r ∷ log) ≡ r ∷ own_records t log) × IsOf t r ⊎ (own_records t (r ∷ log) ≡ own_records t log) → own_records t (own_records t log) ≡ own_records t log →
        own_records t (own_records t (r ∷ log)) ≡ own_records t (r ∷ log)
    by (inl first) again = ap (own_records t) first.0 ∙ own_first t r (own_records t log) first.1 ∙ ap (λ l. r ∷ l) again ∙ sym first.0
    by (inr later) again = ap (own_records t) later ∙ again ∙ sym later

pub undo_point_own : (t : ℕ) (log : Log) → undo_point t (own_records t log) ≡ undo_point t log
undo_point_own t log = undo_point_stays log (own_records t log) t (own_twice t log)

-- a compensation's UNDO_NEXT is the undo point behind it
pub undo_point_less : (t : ℕ) (r : Record) (log : Log) → r.kind ≡ COMPENSATION → r.transaction ≡ t → undo_point t (r ∷ log) ≡ r.undo_next
undo_point_less t r log is own = by (is_to t r)
  where
    by : IsTo t r → undo_point t (r ∷ log) ≡ r.undo_next
    by (updates one update own') = absurd (omega (arith, is, update))
    by (compensates not_one two comp own') = rw (not_one, two) refl
    by (neither not_one not_two k) = absurd ((k own).1 is)

-- each update's UNDO_NEXT is the number of the one below it
abbrev pub IsLinked : Log → Type 0
IsLinked [] = Unit {0}
IsLinked (u ∷ stack) = (u.undo_next ≡ top_number stack) × IsLinked stack

-- The updates that are left to undo are linked, and the undo point is the newest one's number.
pub record HasPoint (t : ℕ) (o : Log) : Type 0 where
  pub linked : IsLinked (to_undo t o)
  pub point : undo_point t o ≡ top_number (to_undo t o)

top_is : (stack : Log) → top_lsn stack ≡ top_number stack
top_is [] = refl
top_is (u ∷ stack) = refl

stack_linked : (t : ℕ) (log stack : Log) → IsStack t log stack → IsLinked stack
stack_linked t log [] h = tt
stack_linked t log (u ∷ stack) h = (h.0.below ∙ top_is stack, stack_linked t log stack h.1)

-- so it is in a sound state
pub has_point : (shape : Shape) (s : State) (t : ℕ) → IsSoundState shape s → IsRunning s.log t → HasPoint t (own_records t s.log)
has_point shape s t sound running =
    let h = has_stack (part_of shape) t s.log s.log running (numbered (part_of shape) s.log s.log sound.order) sound.gates sound.order in
    let same = to_undo_own t s.log in
    record {
      linked = subst IsLinked same (stack_linked t s.log (to_undo t s.log) h.stack);
      point = undo_point_own t s.log ∙ h.point ∙ top_is (to_undo t s.log) ∙ ap top_number same;
    }
