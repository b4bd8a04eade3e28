-- What is put in and what is taken out.
use Rattle.std.proofs.Common.{◌≡◌, ◌≢◌, ◌↔◌, ℕ, Bool, true, List, sym, subst}
use Rattle.std.proofs.Common.{◌==◌, eq-eqb}
use Rattle.std.proofs.lemmas.Bool.{eqb-true}
use Rattle.persist_model.specs.Region.{Words}
use Rattle.persist_model.specs.Shape.{Shape}
use Rattle.persist_model.specs.Records.{IsAmong}
use Rattle.persist_model.specs.Chain.{TO_APPEND, TO_REMOVE, next_of, prev_of, AppendRule, RemoveRule}
use Rattle.persist_model.specs.Sound.{IsClosedBucket}
use Rattle.persist_model.specs.Faults.{MayAppend, MayRemove}
use Rattle.log_laws.proofs.Deciding.{absent_of, absent_not}

pub append_none : (w : Words) (visited : List ℕ) (n : ℕ) → n ≡ w TO_APPEND → n ≢ 0 → IsAmong visited n → (w TO_APPEND ≢ 0 → MayAppend w visited (w TO_APPEND)) → ⊥
append_none w visited n e ne m h = absent_not visited (w TO_APPEND) (h (subst (λ x. x ≢ 0) e ne)).0 (subst (IsAmong visited) e m)

pub append_by : (w : Words) (visited : List ℕ) (n : ℕ) (t : Bool) → n ≡ w TO_APPEND → n ≢ 0 → (IsAmong visited n → ⊥) → (t ≡ true) ↔ AppendRule w n →
    (t ≡ true) ↔ (w TO_APPEND ≢ 0 → MayAppend w visited (w TO_APPEND))
append_by w visited n t e ne off k = (
  (λ on z. (absent_of visited (w TO_APPEND) (λ m. off (subst (IsAmong visited) (sym e) m)), subst (AppendRule w) e (k.0 on))),
  (λ h. k.1 (subst (AppendRule w) (sym e) (h (subst (λ x. x ≢ 0) e ne)).1)),
)

pub remove_none : (shape : Shape) (w : Words) (chain : List ℕ) (n : ℕ) → n ≡ w TO_REMOVE → n ≢ 0 → (RemoveRule w chain n (w (prev_of n)) (w (next_of n)) → ⊥) →
    (w TO_REMOVE ≢ 0 → MayRemove shape w chain (w TO_REMOVE)) → ⊥
remove_none shape w chain n e ne off h = off (subst (λ x. RemoveRule w chain x (w (prev_of x)) (w (next_of x))) (sym e) (h (subst (λ x. x ≢ 0) e ne)).0)

pub remove_by : (shape : Shape) (w : Words) (chain : List ℕ) (n : ℕ) (t : Bool) → n ≡ w TO_REMOVE → n ≢ 0 → RemoveRule w chain n (w (prev_of n)) (w (next_of n)) → (t ≡ true) ↔ IsClosedBucket shape w n →
    (t ≡ true) ↔ (w TO_REMOVE ≢ 0 → MayRemove shape w chain (w TO_REMOVE))
remove_by shape w chain n t e ne rule k = (
  (λ on z. (subst (λ x. RemoveRule w chain x (w (prev_of x)) (w (next_of x))) e rule, subst (IsClosedBucket shape w) e (k.0 on))),
  (λ h. k.1 (subst (IsClosedBucket shape w) (sym e) (h (subst (λ x. x ≢ 0) e ne)).1)),
)

-- a test of a number in place of the fact
pub tested : (n m : ℕ) (P : Type 0) → ((n ≡ m) ↔ P) → ((n == m) ≡ true) ↔ P
tested n m P h = ((λ t. h.0 (eqb-true n m t)), (λ p. eq-eqb n m (h.1 p)))
