-- Lists of passes.
use Rattle.std.proofs.Common.{◌≡◌, ◌≢◌, ⊎_elim, ℕ, zero, suc, ◌+◌, ◌<◌, ◌==◌, ◌||◌, Bool, true, false, List, [], ◌∷◌, ◌++◌, length, refl, sym, ap, ◌∙◌, subst, arith, None}
use Rattle.std.specs.Prelude.{All}
use Rattle.std.specs.List.{list_any}
use Rattle.std.proofs.lemmas.Bool.Decides.{eqb_tells}
use mathlib.Core.List.{append_assoc}
use Rattle.atomic_table.specs.Table.{Joins}
use Rattle.atomic_table.specs.Seated.{TableId}
use Rattle.lane_types.specs.declared.laned.Laned.{Ghosts}
use Rattle.lane_types.specs.declared.deed.Deed as deed
use Rattle.lane_types.specs.Faces.{WholeFace}
use Rattle.lane_types.specs.Seen.{Seen}
use Rattle.turn_hub.specs.declared.pass.Pass.{Pass}
use Rattle.turn_hub.specs.declared.view.Sight.{Sight}
use Rattle.turn_hub.specs.declared.view.View.{View}
use Rattle.turn_hub.specs.Turns.{times, Shows, TurnRule}
use Rattle.turn_hub.specs.Plays.{Sat, joined, spent}
use Rattle.turn_hub.specs.Hub.{IsNewPass, ArePasses, has_lane, SawFaces, sights_back}
use Rattle.turn_hub.proofs.Views.{times-append}
use Rattle.turn_hub.proofs.Seats.{own_times, shown_face}
use Rattle.turn_hub.proofs.Moves.{meets}

module _ {A : Type 0} (P : A → Type 0) where
  pub All-snoc : (xs : List A) (x : A) → All P (xs ++ x ∷ []) → All P xs × P x
  All-snoc [] x h = ((λ k d below. absurd (omega arith)), h 0 x (omega arith))
  All-snoc (y ∷ xs) x h = let t = All-snoc xs x (λ k d below. h (suc k) d (omega arith)) in (before t.0, t.1)
    where
      before : All P xs → All P (y ∷ xs)
      before more zero d below = h 0 d (omega arith)
      before more (suc k) d below = more k d (omega arith)

module _ {T E : Type 0} {L : Ghosts T E} {D : deed.Ghosts E} where
  pub sights_back-push : (passes : List (Pass T E L D)) (p : Pass T E L D) → sights_back (passes ++ p ∷ []) ≡ p.place.me.0.sights ++ sights_back passes
  sights_back-push [] p = sym (append_nil p.place.me.0.sights)
    where
      append_nil : (xs : List (Sight T)) → xs ++ [] ≡ xs
      append_nil [] = refl
      append_nil (x ∷ xs) = ap (λ ys. x ∷ ys) (append_nil xs)
  sights_back-push (q ∷ passes) p =
      ap (λ (xs : List (Sight T)). xs ++ q.place.me.0.sights) (sights_back-push passes p) ∙ append_assoc p.place.me.0.sights (sights_back passes) q.place.me.0.sights

  -- one pass joined
  pub joined_more : (v first : List (Sight T)) (passes rest all : List (Pass T E L D)) (p : Pass T E L D) → passes ≡ rest ++ p ∷ [] → v ++ sights_back passes ≡ first ++ sights_back all
      → (v ++ p.place.me.0.sights) ++ sights_back rest ≡ first ++ sights_back all
  joined_more v first passes rest all p split so =
      append_assoc v p.place.me.0.sights (sights_back rest)
      ∙ ap (λ (x : List (Sight T)). v ++ x) (sym (sights_back-push rest p))
      ∙ ap (λ (x : List (Pass T E L D)). v ++ sights_back x) (sym split)
      ∙ so

  -- all passes joined to the last one
  pub gathered : (now : List (Sight T)) (passes rest : List (Pass T E L D)) (p : Pass T E L D) → passes ≡ rest ++ p ∷ [] → now ≡ p.place.me.0.sights ++ sights_back rest → now ≡ sights_back passes
  gathered now passes rest p split so = so ∙ sym (sights_back-push rest p) ∙ ap (λ (x : List (Pass T E L D)). sights_back x) (sym split)

  -- a lane of one of the passes is among what they saw
  pub times-back : (lane : ℕ) (passes : List (Pass T E L D)) → has_lane lane passes ≡ true → 0 < times lane (sights_back passes)
  times-back lane [] h = absurd (cc)
  times-back lane (p ∷ passes) h =
      let both = times-append lane (sights_back passes) p.place.me.0.sights in
      by_head p.lane (own_times L.seen p.lane p.place.me.0.sights p.own) (times lane (sights_back passes)) (times lane (sights_back (p ∷ passes))) (list_any (λ q. q.lane == lane) passes) h both (times-back lane passes)
    where
      by_head : (here : ℕ) → times here p.place.me.0.sights ≡ 1 → (few all : ℕ) (rest : Bool) → ((here == lane) || rest) ≡ true → all ≡ few + times lane p.place.me.0.sights → (rest ≡ true → 0 < few) → 0 < all
      by_head here one few all true h e more = let m = more refl in omega arith
      by_head here one few all false h e more =
          ⊎_elim
          (λ (t : ((here == lane) ≡ true) × (here ≡ lane)). let own : times lane p.place.me.0.sights ≡ 1 = subst (λ (n : ℕ). times n p.place.me.0.sights ≡ 1) t.1 one in omega arith)
          (λ (t : ((here == lane) ≡ false) × (here ≢ lane)). let off : ((here == lane) || false) ≡ true = h in absurd (let is = t.0 in cc))
          (eqb_tells here lane)

  pub SawFaces-from : (value : T) (passes : List (Pass T E L D)) → Shows L.seen value (sights_back passes) → SawFaces (L.seen value).faces passes
  SawFaces-from value [] h = tt
  SawFaces-from value (p ∷ passes) h = let t = cut (sights_back passes) p.place.me.0.sights h in (shown_face L.seen p.lane value p.place.me.0.sights p.own t.1, SawFaces-from value passes t.0)
    where
      cut : (xs ys : List (Sight T)) → Shows L.seen value (xs ++ ys) → Shows L.seen value xs × Shows L.seen value ys
      cut [] ys h = (tt, h)
      cut (x ∷ xs) ys h = let t = cut xs ys h.1 in ((h.0, t.0), t.1)

  pub ArePasses-push : (id : TableId) (faces : ℕ → WholeFace E) (lane at : ℕ) (passes : List (Pass T E L D)) (p : Pass T E L D) → ArePasses id faces lane passes → IsNewPass id at (faces at) p → at ≡ lane + length passes
      → ArePasses id faces lane (passes ++ p ∷ [])
  ArePasses-push id faces lane at [] p h new e = (subst (λ (l : ℕ). IsNewPass id l (faces l) p) (let e : at ≡ lane + 0 = e in let same : at ≡ lane = omega arith in same) new, tt)
  ArePasses-push id faces lane at (q ∷ passes) p h new e = (h.0, ArePasses-push id faces (suc lane) at passes p h.1 new (omega arith))

module _ {T E : Type 0} (R : T → Seen E) where
  pub meets_alone : (start : T) (id other : ℕ) (v : View T) (m : Sat T) → v.grip ≡ None → m.0.grip ≡ None → Joins (TurnRule R start) id v other m.0 (joined v m.0) spent
  meets_alone start id other v m bare bare' = meets R start id v other m.0 bare bare'
