-- What each step of the hub tells.
use Rattle.std.specs.Prelude.{◌≡◌, ◌≢◌, ℕ, zero, suc, ◌-◌, true, false, List, [], ◌∷◌, ◌++◌, Option, Some, None}
use Rattle.atomic_table.specs.Table.{Me, Step}
use Rattle.turn_hub.specs.declared.view.Sight.{Sight}
use Rattle.turn_hub.specs.declared.view.Grip.{Grip}
use Rattle.turn_hub.specs.declared.view.View.{View}
use Rattle.lane_types.specs.Seen.{Seen}
use Rattle.turn_hub.specs.Turns.{sight, grip, lanes_in, IsAlike, Shows}

abbrev pub Sat : Type 0 → Type 0
Sat T = Me (Option T) (View T)

module _ {T : Type 0} where
  abbrev pub spent : View T
  spent = record { sights = []; grip = None; missed = 0 }

  -- these lanes, all seen in one value
  abbrev pub sights_from : T → ℕ → ℕ → List (Sight T)
  sights_from value lane zero = []
  sights_from value lane (suc n) = sight lane value ∷ sights_from value (suc lane) n

  -- the first seat: all lanes, and the turn of lane 0
  abbrev pub opening_view : T → ℕ → View T
  opening_view value count = record { sights = sights_from value 0 count; grip = Some (grip 0 value false); missed = 0 }

  -- some lanes, none of which has the turn
  abbrev pub free_view : T → ℕ → ℕ → View T
  free_view value lane count = record { sights = sights_from value lane count; grip = None; missed = 0 }

  -- one lane, between its turns
  abbrev pub alone : ℕ → T → ℕ → View T
  alone lane seen missed = record { sights = sight lane seen ∷ []; grip = None; missed = missed }

  -- one lane, in its turn
  abbrev pub turning : ℕ → T → T → ℕ → View T
  turning lane seen picture missed = record { sights = sight lane seen ∷ []; grip = Some (grip lane picture true); missed = missed }

  -- the seat has this lane alone, and neither the turn nor the slot
  pub record IsResting (lane : ℕ) (m : Sat T) : Type 0 where
    pub lanes : lanes_in m.0.sights ≡ lane ∷ []
    pub grip : m.0.grip ≡ None
    pub slots : m.1 ≡ []

  -- the seat has this lane alone, its turn with this picture, and the empty slot
  pub record IsTurning (lane : ℕ) (picture : T) (m : Sat T) : Type 0 where
    pub lanes : lanes_in m.0.sights ≡ lane ∷ []
    pub has_grip : m.0.grip ≡ Some (grip lane picture true)
    pub slots : m.1 ≡ (0, None) ∷ []

  -- the seat has the turn in addition
  abbrev pub in_turn : ℕ → T → View T → View T
  in_turn lane picture v = record v { grip = Some (grip lane picture true) }

  abbrev pub busy : View T → View T
  busy v = record v { missed = suc v.missed }

  abbrev pub first_sight : List (Sight T) → List (Sight T)
  first_sight [] = []
  first_sight (s ∷ sights) = s ∷ []

  abbrev pub other_sights : List (Sight T) → List (Sight T)
  other_sights [] = []
  other_sights (s ∷ sights) = sights

  -- a seat without its first lane, and a seat with that lane alone
  abbrev pub without_first : View T → View T
  without_first v = record v { sights = other_sights v.sights }

  abbrev pub first_alone : View T → View T
  first_alone v = record { sights = first_sight v.sights; grip = None; missed = 0 }

  abbrev pub joined : View T → View T → View T
  joined v w = record v { sights = v.sights ++ w.sights }

  -- the one lane sees the value in the slot
  abbrev pub seen_now : List (ℕ × Option T) → List (Sight T) → List (Sight T)
  seen_now ((k, Some value) ∷ slots) (s ∷ []) = sight s.lane value ∷ []
  seen_now slots sights = sights

  abbrev pub opened : Step (Option T) → Sat T → ℕ → Sat T → Type 0
  opened st m n m' = (value : T) → m.0.grip ≡ Some (grip 0 value false) → m' ≡ (record m.0 { grip = Some (grip 0 value true) }, (0, None) ∷ [])

  abbrev pub laid : Step (Option T) → Sat T → ℕ → Sat T → Type 0
  laid st m n m' = m' ≡ (record m.0 { grip = None }, [])

  abbrev pub gave : Step (Option T) → Sat T → ℕ → Sat T → Type 0
  gave st m n m' = m' ≡ (record { sights = seen_now m.1 m.0.sights; grip = None; missed = m.0.missed }, [])

  -- the grip shows the value in the slot
  abbrev pub shown_now : List (ℕ × Option T) → Option (Grip T) → Option (Grip T)
  shown_now ((k, Some value) ∷ slots) (Some g) = Some (grip g.lane value g.out)
  shown_now slots g = g

  abbrev pub noted : Step (Option T) → Sat T → ℕ → Sat T → Type 0
  noted st m n m' = m' ≡ (record { sights = seen_now m.1 m.0.sights; grip = shown_now m.1 m.0.grip; missed = m.0.missed }, m.1)

module _ {T E : Type 0} (R : T → Seen E) where
  -- n is the word a of each of these faces that has it
  abbrev pub Reads : ℕ → ℕ → List (Sight T) → Type 0
  Reads a n [] = Unit {0}
  Reads a n (s ∷ sights) = ((v : ℕ) → ((R s.value).faces s.lane).words.word a ≡ Some v → n ≡ v) × Reads a n sights

  abbrev pub known : Step (Option T) → Sat T → ℕ → Sat T → Type 0
  known st m n m' = (m' ≡ m) × Reads (st.word - 1) n m.0.sights

  -- the turn was free, and the seat has it and the value, or it was another's
  abbrev pub took : Step (Option T) → Sat T → ℕ → Sat T → Type 0
  took st m n m' =
      (n ≡ 0 → (value : T) × Shows R value m.0.sights × (m' ≡ (record m.0 { grip = Some (grip (st.second - 1) value true) }, (0, Some value) ∷ [])))
      × (n ≢ 0 → m' ≡ (record m.0 { missed = suc m.0.missed }, []))

  -- what the value is to the picture, once a lane has changed it
  pub record IsChange (lane : ℕ) (picture value : T) : Type 0 where
    pub alike : IsAlike R value picture
    pub others : (other : ℕ) → other ≢ lane → (R value).faces other ≡ (R picture).faces other
