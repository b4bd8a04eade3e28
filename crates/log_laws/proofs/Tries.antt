-- Rules that are tried in order: where each can be decided some fault comes or none; there is one; and none where all hold.
use Rattle.std.proofs.Common.{◌≡◌, ◌⊎◌, inl, inr, ℕ, List, [], ◌∷◌, refl, sym, ◌∙◌}
use Rattle.persist_model.specs.Chain.{Each}
use Rattle.persist_model.specs.Records.{Record, Log}
use Rattle.persist_model.specs.Faults.{FaultSet, Tried, TriedEach, TriedOldest, NoFault}
use Rattle.log_laws.proofs.Deciding.{IsDecided}

-- R holds, or there is a fault
abbrev pub CanFail : Type 0 → FaultSet → Type 0
CanFail R faults = R ⊎ ((fault : ℕ) × (a : ℕ) × faults fault a)

-- there is no fault
abbrev pub Excludes : FaultSet → Type 0
Excludes faults = (fault a : ℕ) → faults fault a → ⊥

-- each fault of the first is that of the second
abbrev pub AreOne : FaultSet → FaultSet → Type 0
AreOne faults others = (i a j b : ℕ) → faults i a → others j b → (i ≡ j) × (a ≡ b)

-- two facts that say the same
abbrev pub Alike : Type 0 → Type 0 → Type 0
Alike P Q = (P → Q) × (Q → P)

-- each record is good by those behind it
abbrev pub AllGood : (Log → Record → Type 0) → Log → Type 0
AllGood Good [] = Unit {0}
AllGood Good (r ∷ earlier) = Good earlier r × AllGood Good earlier

-- ---- some fault, or none

unfoldable pub none_fails : CanFail (Unit {0}) NoFault
none_fails = inl tt

unfoldable pub tried_some : (P R : Type 0) (n x : ℕ) (next : FaultSet) → IsDecided P → (P → CanFail R next) → CanFail (P × R) (Tried P n x next)
tried_some P R n x next (inr bad) go = inr (n, x, inl (bad, refl, refl))
tried_some P R n x next (inl p) go = elim (go p) [ inl r ↦ inl (p, r) | inr f ↦ inr (f.0, f.1, inr (p, f.2)) ]

unfoldable pub each_some : (P : ℕ → Type 0) (R : Type 0) (n : ℕ) (at : ℕ → ℕ) (xs : List ℕ) (next : FaultSet) →
    ((x : ℕ) → IsDecided (P x)) → (Each P xs → CanFail R next) → CanFail (Each P xs × R) (TriedEach P n at xs next)
each_some P R n at [] next d go = elim (go tt) [ inl r ↦ inl (tt, r) | inr f ↦ inr f ]
each_some P R n at (x ∷ xs) next d go = elim (d x) [
  | inr bad ↦ inr (n, at x, inl (bad, refl, refl))
  | inl p ↦ elim (each_some P R n at xs next d (λ h. go (p, h))) [ inl r ↦ inl ((p, r.0), r.1) | inr f ↦ inr (f.0, f.1, inr (p, f.2)) ]
]

unfoldable pub oldest_some : (Good : Log → Record → Type 0) (R : Type 0) (n : ℕ) (log : Log) (next : FaultSet) →
    ((earlier : Log) (r : Record) → IsDecided (Good earlier r)) → (AllGood Good log → CanFail R next) → CanFail (AllGood Good log × R) (TriedOldest Good n log next)
unfolding tried_some
oldest_some Good R n [] next d go = elim (go tt) [ inl r ↦ inl (tt, r) | inr f ↦ inr f ]
oldest_some Good R n (r ∷ earlier) next d go =
    elim (oldest_some Good (Good earlier r × R) n earlier (Tried (Good earlier r) n r.at next) d
    (λ g. tried_some (Good earlier r) R n r.at next (d earlier r) (λ p. go (p, g)))) [ inl h ↦ inl ((h.1.0, h.0), h.1.1) | inr f ↦ inr f ]

-- ---- no fault where all hold

pub none_excluded : Excludes NoFault
none_excluded i a h = h

pub tried_none : (P : Type 0) (n x : ℕ) (next : FaultSet) → P → Excludes next → Excludes (Tried P n x next)
tried_none P n x next p ex i a (inl h) = h.0 p
tried_none P n x next p ex i a (inr h) = ex i a h.1

pub each_none : (P : ℕ → Type 0) (n : ℕ) (at : ℕ → ℕ) (xs : List ℕ) (next : FaultSet) → Each P xs → Excludes next → Excludes (TriedEach P n at xs next)
each_none P n at [] next h ex = ex
each_none P n at (x ∷ xs) next h ex = tried_none (P x) n (at x) (TriedEach P n at xs next) h.0 (each_none P n at xs next h.1 ex)

pub oldest_none : (Good : Log → Record → Type 0) (n : ℕ) (log : Log) (next : FaultSet) → AllGood Good log → Excludes next → Excludes (TriedOldest Good n log next)
oldest_none Good n [] next h ex = ex
oldest_none Good n (r ∷ earlier) next h ex = oldest_none Good n earlier (Tried (Good earlier r) n r.at next) h.1 (tried_none (Good earlier r) n r.at next h.0 ex)

-- ---- one fault

pub none_one : AreOne NoFault NoFault
none_one i a j b h k = absurd h

pub tried_one : (P Q : Type 0) (n x : ℕ) (next others : FaultSet) → Alike P Q → AreOne next others → AreOne (Tried P n x next) (Tried Q n x others)
tried_one P Q n x next others same one i a j b (inl h) (inl k) = (h.1 ∙ sym k.1, h.2 ∙ sym k.2)
tried_one P Q n x next others same one i a j b (inl h) (inr k) = absurd (h.0 (same.1 k.0))
tried_one P Q n x next others same one i a j b (inr h) (inl k) = absurd (k.0 (same.0 h.0))
tried_one P Q n x next others same one i a j b (inr h) (inr k) = one i a j b h.1 k.1

pub alike : (P : Type 0) → Alike P P
alike P = ((λ p. p), λ p. p)

pub each_one : (P Q : ℕ → Type 0) (n : ℕ) (at : ℕ → ℕ) (xs : List ℕ) (next others : FaultSet) → Each (λ x. Alike (P x) (Q x)) xs → AreOne next others →
    AreOne (TriedEach P n at xs next) (TriedEach Q n at xs others)
each_one P Q n at [] next others same one = one
each_one P Q n at (x ∷ xs) next others same one =
    tried_one (P x) (Q x) n (at x) (TriedEach P n at xs next) (TriedEach Q n at xs others) same.0 (each_one P Q n at xs next others same.1 one)

pub each_alike : (P : ℕ → Type 0) (xs : List ℕ) → Each (λ x. Alike (P x) (P x)) xs
each_alike P [] = tt
each_alike P (x ∷ xs) = (alike (P x), each_alike P xs)

pub oldest_one : (Good : Log → Record → Type 0) (n : ℕ) (log : Log) (next others : FaultSet) → AreOne next others → AreOne (TriedOldest Good n log next) (TriedOldest Good n log others)
oldest_one Good n [] next others one = one
oldest_one Good n (r ∷ earlier) next others one =
    oldest_one Good n earlier (Tried (Good earlier r) n r.at next) (Tried (Good earlier r) n r.at others)
    (tried_one (Good earlier r) (Good earlier r) n r.at next others (alike (Good earlier r)) one)
