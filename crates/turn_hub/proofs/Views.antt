-- Lists of views, of which one seat's changes.
use Rattle.std.proofs.Common.{◌≡◌, ◌≢◌, ℕ, zero, suc, ◌+◌, ◌<◌, ◌≤◌, List, [], ◌∷◌, ◌++◌, length, set, refl, sym, ap, ◌∙◌, subst, ⊎_elim, arith, true, false, ◌==◌}
use Rattle.std.proofs.lemmas.Bool.Decides.{nat_tests, eqb_tells}
use mathlib.Core.Option.{some, some-injective, some-ne-none}
use lib.ListN.{get_elem?}
use Rattle.atomic_table.proofs.Lists.{at_set, at_snoc, set_else}
use Rattle.lane_types.specs.Seen.{Seen}
use Rattle.turn_hub.specs.declared.view.Sight.{Sight}
use Rattle.turn_hub.specs.declared.view.View.{View}
use Rattle.turn_hub.specs.Turns.{times, seats_of, IsAlike, Shows, sight}
use Rattle.turn_hub.specs.Plays.{spent, first_sight, other_sights, sights_from}

pub inside : {A : Type 0} (xs : List A) (i : ℕ) (x : A) → get_elem? xs i ≡ some x → i < length xs
inside [] i x e = absurd (some-ne-none x (sym e))
inside (y ∷ ys) zero x e = omega arith
inside (y ∷ ys) (suc i) x e = let less = inside ys i x e in omega arith

module _ {T : Type 0} where
  -- what holds at each seat, where one seat has changed
  pub each_set : (P : ℕ → View T → Type 0) (views : List (View T)) (id : ℕ) (w : View T) → P id w
      → ((j : ℕ) (u : View T) → j ≢ id → get_elem? views j ≡ some u → P j u)
      → (j : ℕ) (u : View T) → get_elem? (set views id w) j ≡ some u → P j u
  each_set P views id w mine others j u e =
      ⊎_elim
      (λ (t : (j ≡ id) × (w ≡ u)). subst (λ (x : ℕ × View T). P x.0 x.1) (λ i. (sym t.0 i, t.1 i)) mine)
      (λ (t : (j ≢ id) × (get_elem? views j ≡ some u)). others j u t.0 t.1)
      (at_set views id j w u e)

  pub each_push : (P : ℕ → View T → Type 0) (views : List (View T)) (w : View T) → ((j : ℕ) → P j w) → ((j : ℕ) (u : View T) → get_elem? views j ≡ some u → P j u)
      → (j : ℕ) (u : View T) → get_elem? (views ++ w ∷ []) j ≡ some u → P j u
  each_push P views w new old j u e = ⊎_elim (λ was. old j u was) (λ (same : w ≡ u). subst (P j) same (new j)) (at_snoc views w u j e)

  pub only : (P : ℕ → View T → Type 0) (v : View T) → P 0 v → (j : ℕ) (u : View T) → get_elem? (v ∷ []) j ≡ some u → P j u
  only P v h zero u e = subst (P 0) (some-injective v u e) h
  only P v h (suc j) u e = absurd (some-ne-none u (sym e))

  pub seats_of_set : (lane : ℕ) (views : List (View T)) (id : ℕ) (v w : View T) → get_elem? views id ≡ some v
      → seats_of lane (set views id w) + times lane v.sights ≡ seats_of lane views + times lane w.sights
  seats_of_set lane [] id v w e = absurd (some-ne-none v (sym e))
  seats_of_set lane (u ∷ views) zero v w e =
      let same : times lane u.sights ≡ times lane v.sights = ap (λ (x : View T). times lane x.sights) (some-injective u v e) in omega arith
  seats_of_set lane (u ∷ views) (suc id) v w e = let more = seats_of_set lane views id v w e in omega arith

  pub seats_of_push : (lane : ℕ) (views : List (View T)) (w : View T) → seats_of lane (views ++ w ∷ []) ≡ seats_of lane views + times lane w.sights
  seats_of_push lane [] w = omega arith
  seats_of_push lane (u ∷ views) w = let more = seats_of_push lane views w in omega arith

  pub one_seat : (lane : ℕ) (views : List (View T)) (id : ℕ) (v : View T) → get_elem? views id ≡ some v → times lane v.sights ≤ seats_of lane views
  one_seat lane views id v e = let t = seats_of_set lane views id v spent e in omega arith

  pub two_seats : (lane : ℕ) (views : List (View T)) (id other : ℕ) (v w : View T) → other ≢ id → get_elem? views id ≡ some v → get_elem? views other ≡ some w
      → times lane v.sights + times lane w.sights ≤ seats_of lane views
  two_seats lane views id other v w ne e f =
      let t = seats_of_set lane views id v spent e in
      let u = one_seat lane (set views id spent) other w (set_else views id other spent ne ∙ f) in
      omega arith

  pub times-append : (lane : ℕ) (xs ys : List (Sight T)) → times lane (xs ++ ys) ≡ times lane xs + times lane ys
  times-append lane [] ys = omega arith
  times-append lane (x ∷ xs) ys = let more = times-append lane xs ys in omega arith

  pub times-split : (lane : ℕ) (xs : List (Sight T)) → times lane (other_sights xs) + times lane (first_sight xs) ≡ times lane xs
  times-split lane [] = omega arith
  times-split lane (x ∷ xs) = omega arith

  pub before_from : (value : T) (lane from n : ℕ) → lane < from → times lane (sights_from value from n) ≡ 0
  before_from value lane from zero h = refl
  before_from value lane from (suc n) h =
      let e : (from == lane) ≡ false = grind (arith, nat_tests) in
      let more = before_from value lane (suc from) n (omega arith) in
      rw e (omega arith)

  pub within_from : (value : T) (lane from n : ℕ) → from ≤ lane → lane < from + n → times lane (sights_from value from n) ≡ 1
  within_from value lane from zero a b = absurd (omega arith)
  within_from value lane from (suc n) a b = ⊎_elim
      (λ (t : ((from == lane) ≡ true) × (from ≡ lane)). let e = t.0 in let more = before_from value lane (suc from) n (omega (arith, t.1)) in rw e (omega arith))
      (λ (t : ((from == lane) ≡ false) × (from ≢ lane)). let e = t.0 in let ne = t.1 in let more = within_from value lane (suc from) n (omega arith) (omega arith) in rw e (omega arith))
      (eqb_tells from lane)

  pub beyond_from : (value : T) (lane from n : ℕ) → from + n ≤ lane → times lane (sights_from value from n) ≡ 0
  beyond_from value lane from zero h = refl
  beyond_from value lane from (suc n) h =
      let e : (from == lane) ≡ false = grind (arith, nat_tests) in
      let more = beyond_from value lane (suc from) n (omega arith) in
      rw e (omega arith)

module _ {T E : Type 0} (R : T → Seen E) where
  pub Shows-other : (picture : T) (xs : List (Sight T)) → Shows R picture xs → Shows R picture (other_sights xs)
  Shows-other picture [] h = tt
  Shows-other picture (x ∷ xs) h = h.1

  pub Shows-first : (picture : T) (xs : List (Sight T)) → Shows R picture xs → Shows R picture (first_sight xs)
  Shows-first picture [] h = tt
  Shows-first picture (x ∷ xs) h = (h.0, tt)

  pub Shows-append : (picture : T) (xs ys : List (Sight T)) → Shows R picture xs → Shows R picture ys → Shows R picture (xs ++ ys)
  Shows-append picture [] ys a b = b
  Shows-append picture (x ∷ xs) ys a b = (a.0, Shows-append picture xs ys a.1 b)

  pub alike_again : (value : T) → IsAlike R value value
  alike_again value = record { lanes = refl; span = refl; base = refl }

  pub alike_then : (a b c : T) → IsAlike R a b → IsAlike R b c → IsAlike R a c
  alike_then a b c x y = record { lanes = x.lanes ∙ y.lanes; span = x.span ∙ y.span; base = x.base ∙ y.base }

  pub alike_back : (a b : T) → IsAlike R a b → IsAlike R b a
  alike_back a b x = record { lanes = sym x.lanes; span = sym x.span; base = sym x.base }

  -- the faces of other lanes are the same in another picture
  pub Shows-elsewhere : (old new : T) (lane : ℕ) → IsAlike R new old → ((other : ℕ) → other ≢ lane → (R new).faces other ≡ (R old).faces other)
      → (sights : List (Sight T)) → times lane sights ≡ 0 → Shows R old sights → Shows R new sights
  Shows-elsewhere old new lane alike same [] none h = h
  Shows-elsewhere old new lane alike same (s ∷ sights) none h =
      let off : s.lane ≢ lane = λ e. not_here s.lane sights none e in
      let rest : times lane sights ≡ 0 = omega arith in
      ((alike_then new old s.value alike h.0.0, same s.lane off ∙ h.0.1), Shows-elsewhere old new lane alike same sights rest h.1)
    where
      not_here : (here : ℕ) (sights : List (Sight T)) → times lane (sight here old ∷ sights) ≡ 0 → here ≡ lane → ⊥
      not_here here sights none e = grind (arith, nat_tests)

  pub Shows-from : (value : T) (lane n : ℕ) → Shows R value (sights_from value lane n)
  Shows-from value lane zero = tt
  Shows-from value lane (suc n) = ((alike_again value, refl), Shows-from value (suc lane) n)
