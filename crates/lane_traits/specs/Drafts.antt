-- The calls that a draft has answered.
use Rattle.std.specs.Prelude.{ℕ, List}
use Rattle.lane_traits.specs.declared.draft.WordWrite.{WordWrite}
use Rattle.lane_traits.specs.declared.draft.Draft.{Draft}

-- its writes, in order
abbrev pub writes_made : {R : _} {g : _} → Draft R g → List WordWrite
writes_made draft = draft.log.items

-- the blocks that were given to it, in order
abbrev pub gives_made : {R : _} {g : _} → Draft R g → List ℕ
gives_made draft = draft.gives
