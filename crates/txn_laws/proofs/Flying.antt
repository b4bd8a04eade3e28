-- The commits in flight, lane by lane.
use Rattle.std.proofs.Common.{◌≡◌, ◌≢◌, ◌⊎◌, inl, inr, ℕ, zero, suc, Bool, true, false, not, ◌&&◌, if◌then◌else◌, List, [], ◌∷◌, ◌++◌, refl, ap, arith}
use Rattle.persist_model.specs.Records.{IsAmong}
use Rattle.history_laws.specs.Histories.{Entry}
use Rattle.txn_laws.specs.Txns.{Txn, idle, txn_at, entry_of}
use Rattle.txn_laws.specs.Flights.{is_flying, flight_of}

pub record IsFlying (x : Txn) : Type 0 where
  pub commits_is : x.commits ≡ true
  pub ended_is : x.ended ≡ true
  pub over_is : x.over ≡ false

three : (a b c : Bool) → (a && (b && not c)) ≡ true → (a ≡ true) × (b ≡ true) × (c ≡ false)
three true true false e = (refl, refl, refl)
three true true true e = cc
three true false c e = cc
three false b c e = cc

pub flying_is : (x : Txn) → is_flying x ≡ true → IsFlying x
flying_is x e = let h = three x.commits x.ended x.over e in record { commits_is = h.0; ended_is = h.1; over_is = h.2 }

pub is_in_flight : (x : Txn) → IsFlying x → is_flying x ≡ true
is_in_flight x h = rw (h.commits_is, h.ended_is, h.over_is) refl

-- e is the entry of lane l, which is in flight
pub record IsEntryAt (lanes : List Txn) (l : ℕ) (e : Entry) : Type 0 where
  pub flying : IsFlying (txn_at lanes l)
  pub entry : e ≡ entry_of (txn_at lanes l)

abbrev flight_with : Bool → Txn → List Entry → List Entry
flight_with b x flight = if b then entry_of x ∷ flight else flight

pub flight_from : (lanes : List Txn) (e : Entry) → IsAmong (flight_of lanes) e → (l : ℕ) × IsEntryAt lanes l e
flight_from [] e m = absurd m
flight_from (x ∷ lanes) e m = by (is_flying x) refl (λ k. (let h = flight_from lanes e k in (suc h.0, record { flying = h.1.flying; entry = h.1.entry }))) m
  where
    by : (b : Bool) → is_flying x ≡ b → (IsAmong (flight_of lanes) e → (l : ℕ) × IsEntryAt (x ∷ lanes) l e) → IsAmong (flight_with b x (flight_of lanes)) e → (l : ℕ) × IsEntryAt (x ∷ lanes) l e
    by true is further (inl same) = (0, record { flying = flying_is x is; entry = same })
    by true is further (inr k) = further k
    by false is further k = further k

-- the flight around the entry of lane l
pub record IsSplitAt (lanes : List Txn) (l : ℕ) : Type 0 where
  pub front : List Entry
  pub rest : List Entry
  pub split : flight_of lanes ≡ front ++ entry_of (txn_at lanes l) ∷ rest
  pub others : (e : Entry) → IsAmong front e ⊎ IsAmong rest e → (k : ℕ) × (k ≢ l) × IsEntryAt lanes k e

not_idle : is_flying idle ≡ true → ⊥
not_idle e = cc

pub split_at : (lanes : List Txn) (l : ℕ) → is_flying (txn_at lanes l) ≡ true → IsSplitAt lanes l
split_at [] l e = absurd (not_idle e)
split_at (x ∷ lanes) zero e = record {
  front = [];
  rest = flight_of lanes;
  split = rw e refl;
  others = λ f m. elim m [
    | inl k ↦ absurd k
    | inr k ↦ (let h = flight_from lanes f k in (suc h.0, (λ z. omega (arith, z)), record { flying = h.1.flying; entry = h.1.entry }))
  ];
}
split_at (x ∷ lanes) (suc l) e = by (is_flying x) refl (split_at lanes l e)
  where
    raised : (f : Entry) → (k : ℕ) × (k ≢ l) × IsEntryAt lanes k f → (k : ℕ) × (k ≢ suc l) × IsEntryAt (x ∷ lanes) k f
    raised f h = let ne = h.1 in (suc h.0, (λ z. ne (omega (arith, z))), record { flying = h.2.flying; entry = h.2.entry })

    by : (b : Bool) → is_flying x ≡ b → IsSplitAt lanes l → IsSplitAt (x ∷ lanes) (suc l)
    by true is h = record {
      front = entry_of x ∷ h.front;
      rest = h.rest;
      split = rw is (ap (λ es. entry_of x ∷ es) h.split);
      others = λ f m. elim m [
        | inl (inl same) ↦ (0, (λ z. omega (arith, z)), record { flying = flying_is x is; entry = same })
        | inl (inr k) ↦ raised f (h.others f (inl k))
        | inr k ↦ raised f (h.others f (inr k))
      ];
    }
    by false is h = record { front = h.front; rest = h.rest; split = rw is h.split; others = λ f m. raised f (h.others f m) }
