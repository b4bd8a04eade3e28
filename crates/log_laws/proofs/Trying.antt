-- How a checker of rules that are tried in order comes to its fault: each rule before it holds, and this one fails.
use Rattle.std.proofs.Common.{inl, inr, ℕ, List, [], ◌∷◌, ◌++◌, refl}
use Rattle.persist_model.specs.Region.{Words}
use Rattle.persist_model.specs.Records.{Record, Log}
use Rattle.persist_model.specs.Shape.{Shape, IsBucketOf, list_words}
use Rattle.persist_model.specs.Chain.{view, out_address, Each, IsLink, LinksBackBut}
use Rattle.persist_model.specs.Visit.{IsVisit, chain_from, address_words}
use Rattle.persist_model.specs.Faults.{FaultSet, Tried, TriedEach, TriedOldest, TryLinksBack, TryPoints, TryAddressesOf, TryListOf, TryAddresses, TryLists}
use Rattle.log_laws.proofs.Tries.{AllGood}
use Rattle.log_laws.proofs.ListFaults.{AddressesHold, PointsHold}

-- ---- one rule

pub tried_here : (P : Type 0) (n x : ℕ) (next : FaultSet) → (P → ⊥) → Tried P n x next n x
tried_here P n x next bad = inl (bad, refl, refl)

pub tried_past : (P : Type 0) (n x : ℕ) (next : FaultSet) (i a : ℕ) → P → next i a → Tried P n x next i a
tried_past P n x next i a p f = inr (p, f)

-- ---- a list

pub each_here : (P : ℕ → Type 0) (n : ℕ) (at : ℕ → ℕ) (front : List ℕ) (x : ℕ) (xs : List ℕ) (next : FaultSet) → Each P front → (P x → ⊥) → TriedEach P n at (front ++ x ∷ xs) next n (at x)
each_here P n at [] x xs next h bad = inl (bad, refl, refl)
each_here P n at (y ∷ front) x xs next h bad = inr (h.0, each_here P n at front x xs next h.1 bad)

pub each_past : (P : ℕ → Type 0) (n : ℕ) (at : ℕ → ℕ) (xs : List ℕ) (next : FaultSet) (i a : ℕ) → Each P xs → next i a → TriedEach P n at xs next i a
each_past P n at [] next i a h f = f
each_past P n at (x ∷ xs) next i a h f = inr (h.0, each_past P n at xs next i a h.1 f)

-- ---- a log, the oldest first

pub oldest_past : (Good : Log → Record → Type 0) (n : ℕ) (log : Log) (next : FaultSet) (i a : ℕ) → AllGood Good log → next i a → TriedOldest Good n log next i a
oldest_past Good n [] next i a h f = f
oldest_past Good n (r ∷ earlier) next i a h f = oldest_past Good n earlier (Tried (Good earlier r) n r.at next) i a h.1 (inr (h.0, f))

pub oldest_here : (Good : Log → Record → Type 0) (n : ℕ) (newer : Log) (r : Record) (earlier : Log) (next : FaultSet) → AllGood Good earlier → (Good earlier r → ⊥) →
    TriedOldest Good n (newer ++ r ∷ earlier) next n r.at
oldest_here Good n [] r earlier next h bad = oldest_past Good n earlier (Tried (Good earlier r) n r.at next) n r.at h (inl (bad, refl, refl))
oldest_here Good n (s ∷ newer) r earlier next h bad = oldest_here Good n newer r earlier (Tried (Good (newer ++ r ∷ earlier) s) n s.at next) h bad

-- ---- the partitions, one after another

-- the rule holds of each of these partitions, by what the walk visits
abbrev pub HasGoodAddresses : Shape → Words → ℕ → Type 0
HasGoodAddresses shape z p = (visited : List ℕ) × IsVisit (IsBucketOf shape p) (view p z) visited × AddressesHold shape z p visited

abbrev pub HasGoodPoints : Shape → Words → ℕ → Type 0
HasGoodPoints shape z p = (visited : List ℕ) × IsVisit (IsBucketOf shape p) (view p z) visited × PointsHold shape (view p z) visited (Unit {0})

pub addresses_past : (shape : Shape) (z : Words) (ps : List ℕ) (next : FaultSet) (i a : ℕ) → Each (HasGoodAddresses shape z) ps → next i a → TryAddresses shape z ps next i a
addresses_past shape z [] next i a h f = f
addresses_past shape z (p ∷ ps) next i a h f = (
  h.0.0,
  h.0.1,
  each_past (λ b. IsLink (IsBucketOf shape p) (view p z b)) 5 (out_address p) (address_words (view p z) h.0.0) (TryAddresses shape z ps next) i a h.0.2 (addresses_past shape z ps next i a h.1 f),
)

pub addresses_here : (shape : Shape) (z : Words) (front : List ℕ) (p : ℕ) (ps : List ℕ) (next : FaultSet) (i a : ℕ) → Each (HasGoodAddresses shape z) front →
    ((rest : FaultSet) → TryAddressesOf shape z p rest i a) → TryAddresses shape z (front ++ p ∷ ps) next i a
addresses_here shape z [] p ps next i a h f = f (TryAddresses shape z ps next)
addresses_here shape z (q ∷ front) p ps next i a h f = (
  h.0.0,
  h.0.1,
  each_past (λ b. IsLink (IsBucketOf shape q) (view q z b)) 5 (out_address q) (address_words (view q z) h.0.0) (TryAddresses shape z (front ++ p ∷ ps) next) i a h.0.2
      (addresses_here shape z front p ps next i a h.1 f),
)

back_past : (shape : Shape) (base : ℕ) (w : Words) (visited : List ℕ) (next : FaultSet) (i a : ℕ) → PointsHold shape w visited (Unit {0}) → next i a → TryPoints shape base w visited next i a
back_past shape base w visited next i a h f =
    inr (h.0, inr (h.1.0, inr (h.1.1.0, inr (h.1.1.1.0, prevs _ 0 (chain_from w visited) h.1.1.1.1.0 (inr (h.1.1.1.1.1.0, f))))))
  where
    prevs : (faults : FaultSet) (before : ℕ) (xs : List ℕ) → LinksBackBut w before xs → faults i a → TryLinksBack w before xs faults i a
    prevs faults before [] k g = g
    prevs faults before (x ∷ xs) k g = inr (k.0, prevs faults x xs k.1 g)

pub lists_past : (shape : Shape) (z : Words) (ps : List ℕ) (next : FaultSet) (i a : ℕ) → Each (HasGoodPoints shape z) ps → next i a → TryLists shape z ps next i a
lists_past shape z [] next i a h f = f
lists_past shape z (p ∷ ps) next i a h f = (h.0.0, h.0.1, back_past shape (list_words p) (view p z) h.0.0 (TryLists shape z ps next) i a h.0.2 (lists_past shape z ps next i a h.1 f))

pub lists_here : (shape : Shape) (z : Words) (front : List ℕ) (p : ℕ) (ps : List ℕ) (next : FaultSet) (i a : ℕ) → Each (HasGoodPoints shape z) front →
    ((rest : FaultSet) → TryListOf shape z p rest i a) → TryLists shape z (front ++ p ∷ ps) next i a
lists_here shape z [] p ps next i a h f = f (TryLists shape z ps next)
lists_here shape z (q ∷ front) p ps next i a h f =
    (h.0.0, h.0.1, back_past shape (list_words q) (view q z) h.0.0 (TryLists shape z (front ++ p ∷ ps) next) i a h.0.2 (lists_here shape z front p ps next i a h.1 f))
