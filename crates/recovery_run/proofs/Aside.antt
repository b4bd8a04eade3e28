-- Words that no event of a plan stores to.
use Rattle.std.proofs.Common.{inl, inr, ℕ, zero, suc, ◌+◌, ◌==◌, Bool, true, false, if◌then◌else◌, List, [], ◌∷◌, ◌++◌, take, subst}
use Rattle.std.proofs.lemmas.Bool.Decides.{eqb_tells}
use Rattle.persist_model.specs.declared.event.Event.{Event}
use Rattle.persist_model.specs.declared.event.Event.TheVariants.{Store, PStore, WriteBack, Fence}
use Rattle.persist_model.specs.Region.{Region, after, IsCandidate, candidate, mark_last}
use Rattle.persist_model.proofs.Candidates.{IsCandidate-fenced, IsCandidate_same_values, map-value_of-mark_last}
use Rattle.log_laws.specs.Parts.{after_plan}
use Rattle.recovery_run.specs.Edges.{StoresElsewhere, StoreElsewhere, HasOnlyValue}

-- what a word may be after an event that doesn't store to it, it may be before
pub candidate_before : (region : Region) (lane : ℕ) (e : Event) (a v : ℕ) → StoresElsewhere a e → IsCandidate ((after region lane e).at a) v → IsCandidate (region.at a) v
candidate_before region lane (Store b x) a v off k = elim (eqb_tells a b) [
  | inl t ↦ absurd (off t.1)
  | inr f ↦ subst (λ (q : Bool). IsCandidate (if q then region.at a ++ candidate x 0 ∷ [] else region.at a) v) f.0 k
]
candidate_before region lane (PStore b x) a v off k = elim (eqb_tells a b) [
  | inl t ↦ absurd (off t.1)
  | inr f ↦ subst (λ (q : Bool). IsCandidate (if q then region.at a ++ candidate x (lane + 1) ∷ [] else region.at a) v) f.0 k
]
candidate_before region lane (WriteBack b) a v off k = by_test (a == b) k
  where
    by_test : (q : Bool) → IsCandidate (if q then mark_last (lane + 1) (region.at a) else region.at a) v → IsCandidate (region.at a) v
    by_test true h = IsCandidate_same_values (mark_last (lane + 1) (region.at a)) (region.at a) v (map-value_of-mark_last (lane + 1) (region.at a)) h
    by_test false h = h
candidate_before region lane Fence a v off k = IsCandidate-fenced (lane + 1) (region.at a) v k

pub elsewhere_take : (a k : ℕ) (plan : List Event) → StoreElsewhere a plan → StoreElsewhere a (take k plan)
elsewhere_take a zero plan h = tt
elsewhere_take a (suc k) [] h = tt
elsewhere_take a (suc k) (e ∷ plan) h = (h.0, elsewhere_take a k plan h.1)

-- a word that can be nothing but v stays so
pub plan_keeps : (lane : ℕ) (region : Region) (plan : List Event) (a v : ℕ) → StoreElsewhere a plan → HasOnlyValue v (region.at a) → HasOnlyValue v ((after_plan lane region plan).at a)
plan_keeps lane region [] a v off one = one
plan_keeps lane region (e ∷ plan) a v off one = plan_keeps lane (after region lane e) plan a v off.1 (λ x k. one x (candidate_before region lane e a x off.0 k))
