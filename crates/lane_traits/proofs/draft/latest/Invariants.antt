use Rattle.std.proofs.Common.{◌≡◌, take, unwrap_or}
use Rattle.persist_model.specs.Region.{Words}
use Rattle.lane_traits.specs.Draft.{after_writes}
use Rattle.lane_traits.proofs.draft.latest.Given as goal

abbrev pub invariant-loop-write : goal.invariant-loop-write
invariant-loop-write l = (w : Words) → after_writes (take l.write-index l.log) w l.a ≡ unwrap_or l.found (w l.a)
