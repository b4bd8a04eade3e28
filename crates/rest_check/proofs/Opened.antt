-- The least address of an open gate.
use Rattle.std.proofs.Common.{◌≡◌, inl, inr, ◌⊎◌, ℕ, ◌≤◌, ◌+◌, ◌<◌, Option, Some, None, List, [], ◌∷◌, length, map, reverse, take, get_or, refl, sym, ap, ◌∙◌, subst, arith}
use Rattle.std.specs.Prelude.{IfSome}
use Rattle.persist_model.specs.Records.{Record, Log, IsAmong}
use Rattle.bucket_log.specs.declared.scanning.Placed.{Placed}
use Rattle.bucket_log.specs.Scans.{record_of_placed}
use Rattle.recovery_analysis.proofs.Fated.{log_more}
use Rattle.rest_check.specs.Rest.{IsFirstOpen, IsLeastGate}

abbrev value_of : Option ℕ → ℕ
value_of None = 0
value_of (Some b) = b

abbrev is_none : Option ℕ → Type 0
is_none None = Unit {0}
is_none (Some b) = ⊥

-- with one record more
pub least_more : (log : Log) (r : Record) (least : Option ℕ) (m : ℕ) → IsLeastGate log least → (m ≡ r.at) ⊎ (least ≡ Some m) → m ≤ r.at → IfSome least (λ b. m ≤ b) →
    IsFirstOpen (r ∷ log) m
least_more log r None m none one first second = record {
  stands = elim one [
    | inl e ↦ (r, inl refl, sym e)
    | inr e ↦ absurd (subst is_none e tt)
  ];
  least = λ x among. elim among [
    | inl e ↦ (let at = ap (λ (y : Record). y.at) e in omega (arith, first, at))
    | inr k ↦ absurd (subst (λ (l : Log). IsAmong l x) none k)
  ];
}
least_more log r (Some b) m h one first second = record {
  stands = elim one [
    | inl e ↦ (r, inl refl, sym e)
    | inr e ↦ (h.stands.0, inr h.stands.1, h.stands.2 ∙ ap value_of e)
  ];
  least = λ x among. elim among [
    | inl e ↦ (let at = ap (λ (y : Record). y.at) e in omega (arith, first, at))
    | inr k ↦ (let low = h.least x k in omega (arith, second, low))
  ];
}

pub opened_is_one : (log : Log) (a b : ℕ) → IsFirstOpen log a → IsFirstOpen log b → a ≡ b
opened_is_one log a b h k =
    let at = h.stands.2 in
    let bt = k.stands.2 in
    let low = h.least k.stands.0 k.stands.1 in
    let high = k.least h.stands.0 h.stands.1 in
    omega (arith, at, bt, low, high)

pub opened_is_some : (log : Log) (a : ℕ) → IsFirstOpen log a → log ≡ [] → ⊥
opened_is_some log a h none = subst (λ (l : Log). IsAmong l h.stands.0) none h.stands.1

-- the next of the records that were read
pub gate_more : (xs : List Placed) (i : ℕ) (d : Placed) (least : Option ℕ) (m : ℕ) → i < length xs → IsLeastGate (reverse (map record_of_placed (take i xs))) least →
    (m ≡ (get_or xs i d).at) ⊎ (least ≡ Some m) → m ≤ (get_or xs i d).at → IfSome least (λ b. m ≤ b) → IsFirstOpen (reverse (map record_of_placed (take (i + 1) xs))) m
gate_more xs i d least m lt h one first second =
    subst (λ (l : Log). IsFirstOpen l m) (sym (log_more xs i d lt))
    (least_more (reverse (map record_of_placed (take i xs))) (record_of_placed (get_or xs i d)) least m h one first second)
