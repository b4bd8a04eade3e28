-- Steps one after another.
use Rattle.std.proofs.Common.{◌≡◌, true, sym, subst}
use Rattle.lane_types.specs.declared.call.Stepped.{Stepped}
use Rattle.lane_types.specs.Deeds.{Deeds}
use Rattle.lane_types.specs.Faces.{WholeFace}
use Rattle.lane_types.specs.LaneSteps.{LaneStep}
use Rattle.turn_hub.specs.Hub.{Through, here, on, goes_on}

module _ {E : Type 0} (deeds : Deeds E) where
  pub through : {f g h : WholeFace E} → Through deeds f g → Through deeds g h → Through deeds f h
  through a (here g) = a
  through a (on g k h answer b s goes) = on _ k h answer (through a b) s goes

  pub still : (f g : WholeFace E) → g ≡ f → Through deeds f g
  still f g same = subst (λ (x : WholeFace E). Through deeds f x) (sym same) (here f)

  pub one_step : (f g : WholeFace E) (answer : Stepped) → LaneStep deeds answer f g → goes_on answer ≡ true → Through deeds f g
  one_step f g answer s goes = on f f g answer (here f) s goes
