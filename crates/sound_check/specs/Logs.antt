-- The rules of a log, said of each state that an image is.
use Rattle.std.specs.Prelude.{◌≡◌, ℕ, ◌+◌, ◌<◌}
use Rattle.persist_model.specs.ImageRules.{ROOM_RULE}
use Rattle.persist_model.specs.Region.{Words}
use Rattle.persist_model.specs.Records.{Log}
use Rattle.persist_model.specs.Shape.{Shape, list_words}
use Rattle.persist_model.specs.State.{State, HasRoom, IsSoundState}
use Rattle.persist_model.specs.Sound.{HasState}
use Rattle.persist_model.specs.Faults.{FaultSet, TriedEach, NoFault, parts, IsLogFault}

-- each partition of the image has room for this log
abbrev pub HasAllRoom : Shape → Words → Log → Type 0
HasAllRoom shape w log = (s : State) → HasState shape w s → (p : ℕ) → p < shape.partitions → HasRoom shape log p (s.room p)

-- the first partition that hasn't
abbrev pub LacksRoom : Shape → Words → Log → FaultSet
LacksRoom shape w log fault a =
    (s : State) → HasState shape w s → TriedEach (λ p. HasRoom shape log p (s.room p)) ROOM_RULE (λ p. list_words p + 1) (parts shape) NoFault fault a

-- where the image has this log its state is sound
abbrev pub HoldsLog : Shape → Words → Log → Type 0
HoldsLog shape w log = (s : State) → HasState shape w s → log ≡ s.log → IsSoundState shape s

-- where it has, this is the first that does
abbrev pub HasLogFault : Shape → Words → Log → FaultSet
HasLogFault shape w log fault a = (s : State) → HasState shape w s → log ≡ s.log → IsLogFault shape s fault a
