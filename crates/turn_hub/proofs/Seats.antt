-- Seats of one lane.
use Rattle.std.proofs.Common.{◌≡◌, ℕ, suc, ◌==◌, true, List, [], ◌∷◌, length, refl, sym, ap, subst, arith, None}
use Rattle.std.proofs.lemmas.Bool.Decides.{nat_tests}
use Rattle.lane_types.specs.Seen.{Seen}
use Rattle.turn_hub.specs.declared.view.Sight.{Sight}
use Rattle.turn_hub.specs.Turns.{sight, lanes_in, seen_by, times, Shows}
use Rattle.turn_hub.specs.Plays.{Sat, alone, turning, IsResting, IsTurning}

module _ {T E : Type 0} (R : T → Seen E) where
  -- a view of one lane alone
  pub one_sight : (lane : ℕ) (sights : List (Sight T)) → lanes_in sights ≡ lane ∷ [] → (value : T) × (sights ≡ sight lane value ∷ [])
  one_sight lane [] e = absurd (cc)
  one_sight lane (s ∷ []) e = (s.value, ap (λ (l : ℕ). sight l s.value ∷ []) (ap (head_or lane) e))
    where
      head_or : ℕ → List ℕ → ℕ
      head_or d [] = d
      head_or d (x ∷ xs) = x
  one_sight lane (s ∷ t ∷ sights) e = let long : suc (suc (length (lanes_in sights))) ≡ 1 = ap length e in absurd (omega arith)

  pub own_times : (lane : ℕ) (sights : List (Sight T)) → lanes_in sights ≡ lane ∷ [] → times lane sights ≡ 1
  own_times lane sights e =
      let s = one_sight lane sights e in
      let same : (lane == lane) ≡ true = grind (arith, nat_tests) in
      subst (λ (xs : List (Sight T)). times lane xs ≡ 1) (sym s.1) (rw same refl)

  -- a value that shows a view of one lane has the face that it saw
  pub shown_face : (lane : ℕ) (value : T) (sights : List (Sight T)) → lanes_in sights ≡ lane ∷ [] → Shows R value sights → (R value).faces lane ≡ (seen_by R sights).faces lane
  shown_face lane value sights e h =
      let s = one_sight lane sights e in
      subst (λ (xs : List (Sight T)). Shows R value xs → (R value).faces lane ≡ (seen_by R xs).faces lane) (sym s.1) (λ k. k.0.1) h

  -- and as many lanes and words
  pub shown_like : (lane : ℕ) (value : T) (sights : List (Sight T)) → lanes_in sights ≡ lane ∷ [] → Shows R value sights
      → ((R value).lanes ≡ (seen_by R sights).lanes) × ((R value).span ≡ (seen_by R sights).span)
  shown_like lane value sights e h =
      let s = one_sight lane sights e in
      subst (λ (xs : List (Sight T)). Shows R value xs → ((R value).lanes ≡ (seen_by R xs).lanes) × ((R value).span ≡ (seen_by R xs).span)) (sym s.1) (λ k. (k.0.0.lanes, k.0.0.span)) h

  pub rest_at : (lane : ℕ) (m : Sat T) → IsResting lane m → (seen : T) × (m ≡ (alone lane seen m.0.missed, []))
  rest_at lane m r = let s = one_sight lane m.0.sights r.lanes in (s.0, λ i. (record { sights = s.1 i; grip = r.grip i; missed = m.0.missed }, r.slots i))

  pub turn_at : (lane : ℕ) (picture : T) (m : Sat T) → IsTurning lane picture m → (seen : T) × (m ≡ (turning lane seen picture m.0.missed, (0, None) ∷ []))
  turn_at lane picture m r = let s = one_sight lane m.0.sights r.lanes in (s.0, λ i. (record { sights = s.1 i; grip = r.has_grip i; missed = m.0.missed }, r.slots i))
