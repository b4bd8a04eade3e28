-- Loops along a chain.
use Rattle.std.proofs.Common.{◌≡◌, ◌⊎◌, ◌↔◌, inl, inr, ℕ, ◌+◌, ◌<◌, ◌≤◌, List, [], ◌∷◌, length, get_or, drop, refl, subst}
use Rattle.std.proofs.lemmas.List.{drop_all}
use Rattle.persist_model.specs.Region.{Words}
use Rattle.persist_model.specs.Chain.{IsBefore, LinksBackBut, IsExcepted, prev_of}
use Rattle.persist_model.specs.Faults.{TryLinksBack, NoFault}
use Rattle.log_laws.proofs.ListFaults.{Splits, splits_none, splits_back, splits_first, splits_behind, splits_empty}
use Rattle.sound_check.proofs.BucketLists.{drop_next}

-- ---- whether p stands before q

pub record IsSplitLeft (chain : List ℕ) (p q before : ℕ) (left : List ℕ) : Type 0 where
  pub on : Splits 0 chain p q → Splits before left p q
  pub back : Splits before left p q → Splits 0 chain p q

pub split_all : (chain : List ℕ) (p q : ℕ) → IsSplitLeft chain p q 0 chain
split_all chain p q = record { on = λ h. h; back = λ h. h }

split_step : (chain : List ℕ) (p q before x : ℕ) (left : List ℕ) → IsSplitLeft chain p q before (x ∷ left) → ((p ≡ before) × (q ≡ x) → ⊥) → IsSplitLeft chain p q x left
split_step chain p q before x left h ne = record {
  on = λ s. elim (splits_back before x left p q (h.on s)) [ inl e ↦ absurd (ne e) | inr k ↦ k ];
  back = λ s. h.back (splits_behind before x left p q s);
}

pub split_next : (chain : List ℕ) (p q before i : ℕ) → i < length chain → IsSplitLeft chain p q before (drop i chain) → ((p ≡ before) × (q ≡ get_or chain i 0) → ⊥) →
    IsSplitLeft chain p q (get_or chain i 0) (drop (i + 1) chain)
split_next chain p q before i lt h ne = split_step chain p q before (get_or chain i 0) (drop (i + 1) chain) (subst (IsSplitLeft chain p q before) (drop_next chain i lt) h) ne

pub before_of_splits : (chain : List ℕ) (p q : ℕ) → Splits 0 chain p q → IsBefore chain p q
before_of_splits chain p q h = record { front = h.0; rest = h.1; is = h.2; p_is = h.3; q_is = h.4 }

pub splits_of_before : (chain : List ℕ) (p q : ℕ) → IsBefore chain p q → Splits 0 chain p q
splits_of_before chain p q h = (h.front, h.rest, h.is, h.p_is, h.q_is)

pub split_here : (chain : List ℕ) (p q before i : ℕ) → i < length chain → IsSplitLeft chain p q before (drop i chain) → p ≡ before → q ≡ get_or chain i 0 → IsBefore chain p q
split_here chain p q before i lt h e f =
    before_of_splits chain p q ((subst (IsSplitLeft chain p q before) (drop_next chain i lt) h).back (splits_first before (get_or chain i 0) (drop (i + 1) chain) p q (e, f)))

-- at the end p stands before q exactly if it is the last, and q is 0
pub split_end : (chain : List ℕ) (p q before i : ℕ) → length chain ≤ i → IsSplitLeft chain p q before (drop i chain) → ((p ≡ before) × (q ≡ 0)) ↔ IsBefore chain p q
split_end chain p q before i le h =
    let k : IsSplitLeft chain p q before [] = subst (IsSplitLeft chain p q before) (drop_all i chain le) h in
    ((λ e. before_of_splits chain p q (k.back (splits_empty before p q e))), (λ b. splits_none before p q (k.on (splits_of_before chain p q b))))

-- ---- the PREVs

pub record IsBackLeft (w : Words) (chain : List ℕ) (before : ℕ) (left : List ℕ) : Type 0 where
  pub holds : LinksBackBut w before left → LinksBackBut w 0 chain
  pub fails : (i a : ℕ) → TryLinksBack w before left NoFault i a → TryLinksBack w 0 chain NoFault i a

pub back_all : (w : Words) (chain : List ℕ) → IsBackLeft w chain 0 chain
back_all w chain = record { holds = λ h. h; fails = λ i a f. f }

pub back_next : (w : Words) (chain : List ℕ) (before i : ℕ) → i < length chain → IsBackLeft w chain before (drop i chain) → (w (prev_of (get_or chain i 0)) ≡ before) ⊎ IsExcepted w (prev_of (get_or chain i 0)) →
    IsBackLeft w chain (get_or chain i 0) (drop (i + 1) chain)
back_next w chain before i lt h good =
    let k = subst (IsBackLeft w chain before) (drop_next chain i lt) h in
    record { holds = λ g. k.holds (good, g); fails = λ n a f. k.fails n a (inr (good, f)) }

pub back_here : (w : Words) (chain : List ℕ) (before i : ℕ) → i < length chain → IsBackLeft w chain before (drop i chain) → ((w (prev_of (get_or chain i 0)) ≡ before) ⊎ IsExcepted w (prev_of (get_or chain i 0)) → ⊥) →
    TryLinksBack w 0 chain NoFault 6 (prev_of (get_or chain i 0))
back_here w chain before i lt h bad = (subst (IsBackLeft w chain before) (drop_next chain i lt) h).fails 6 (prev_of (get_or chain i 0)) (inl (bad, refl, refl))

pub back_none : (w : Words) (chain : List ℕ) (before i : ℕ) → length chain ≤ i → IsBackLeft w chain before (drop i chain) → LinksBackBut w 0 chain
back_none w chain before i le h = (subst (IsBackLeft w chain before) (drop_all i chain le) h).holds tt
