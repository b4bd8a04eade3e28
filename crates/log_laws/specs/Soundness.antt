-- What the rules of a sound image say together.
use Rattle.std.specs.Prelude.{◌≡◌, ◌⊎◌, ℕ}
use Rattle.persist_model.specs.Region.{Words}
use Rattle.persist_model.specs.Sound.{IsSound, StandsIn}
use Rattle.persist_model.specs.Faults.{IsFirstFault}

-- Words are a sound image or have a first fault.
abbrev pub SoundOrFaulty : Type 0
SoundOrFaulty = (size : ℕ) (w : Words) → IsSound size w ⊎ ((fault : ℕ) × (a : ℕ) × IsFirstFault size w fault a)

-- A sound image has none.
abbrev pub SoundHasNoFault : Type 0
SoundHasNoFault = (size : ℕ) (w : Words) (fault a : ℕ) → IsSound size w → IsFirstFault size w fault a → ⊥

-- There is only one first fault.
abbrev pub FirstFaultIsOne : Type 0
FirstFaultIsOne = (size : ℕ) (w : Words) (i a j b : ℕ) → IsFirstFault size w i a → IsFirstFault size w j b → (i ≡ j) × (a ≡ b)

-- Each word of a sound image has a standing value, and only one.
abbrev pub StandingIsOne : Type 0
StandingIsOne = (size : ℕ) (w : Words) (a : ℕ) → IsSound size w → (v : ℕ) × StandsIn w a v × ((x : ℕ) → StandsIn w a x → x ≡ v)
