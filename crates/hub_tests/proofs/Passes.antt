-- What a pass of two counters knows of itself.
use Rattle.std.proofs.Common.{◌≡◌, ℕ, zero, suc, ◌<◌, true, List, [], ◌∷◌, refl, arith, All}
use Rattle.atomic_table.specs.Seated.{TableId}
use Rattle.lane_types.specs.declared.laned.Laned.{Ghosts}
use Rattle.lane_types.specs.declared.deed.Deed as deed
use Rattle.lane_types.specs.Faces.{WholeFace}
use Rattle.lane_types.specs.Asks.{has_word}
use Rattle.lane_types.specs.Seen.{Seen}
use Rattle.turn_hub.specs.declared.pass.Pass.{Pass}
use Rattle.turn_hub.specs.declared.view.Sight.{Sight}
use Rattle.turn_hub.specs.Hub.{ArePasses}
use Rattle.turn_hub.specs.Turns.{lanes_in, seen_by}
use Rattle.hub_tests.specs.declared.deed.Nothing.{Nothing}
use Rattle.hub_tests.specs.declared.counters.Counters.{Counters}
use Rattle.hub_tests.specs.Counters.{seen_of}

abbrev seen : Counters → Seen Nothing
seen c = seen_of c.first c.second c.last

pub own_lane : (sights : List (Sight Counters)) (lane : ℕ) → lanes_in sights ≡ lane ∷ [] → ((seen_by seen sights).faces lane).face.lane ≡ lane
own_lane [] lane own = absurd (cc)
own_lane (s ∷ sights) lane own = refl

pub low_lane : (sights : List (Sight Counters)) (lane : ℕ) → lane < (seen_by seen sights).lanes → lane < 2
low_lane [] lane low = omega arith
low_lane (s ∷ sights) lane low = low

pub own_word : (sights : List (Sight Counters)) (lane : ℕ) → lane < (seen_by seen sights).lanes → has_word ((seen_by seen sights).faces lane).words (suc lane) ≡ true
own_word [] lane low = absurd (omega arith)
own_word (s ∷ sights) zero low = refl
own_word (s ∷ sights) (suc zero) low = refl
own_word (s ∷ sights) (suc (suc n)) low = absurd (omega arith)

module _ {T E : Type 0} {L : Ghosts T E} {D : deed.Ghosts E} where
  pub all_here : (id : TableId) (faces : ℕ → WholeFace E) (lane : ℕ) (passes : List (Pass T E L D)) → ArePasses id faces lane passes → All (λ p. p.place.table_id ≡ id) passes
  all_here id faces lane [] are k d low = absurd (omega arith)
  all_here id faces lane (p ∷ passes) are zero d low = are.0.hub
  all_here id faces lane (p ∷ passes) are (suc k) d low = all_here id faces (suc lane) passes are.1 k d (omega arith)
