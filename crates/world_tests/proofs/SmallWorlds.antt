-- What a guard has looked at is what an ask requires.
use Rattle.std.proofs.Common.{◌≡◌, ◌≢◌, ℕ, ◌<◌, ◌^◌, [], sym, subst, ap, ◌∙◌, arith}
use Rattle.lane_types.specs.declared.face.Face.{Face}
use Rattle.lane_types.specs.Faces.{WholeFace}
use Rattle.lane_types.specs.May.{MayBegin, MayCommit}
use Rattle.world_tests.specs.declared.deed.Named.{Named}
use Rattle.world_tests.specs.Deeds.{no_meaning}

few_begun : (n : ℕ) → n < 1000 → n < 2 ^ 59
few_begun n few = omega (arith, few)

pub may_begin : {E : Type 0} (f : WholeFace E) (face : Face) (set : ℕ) → face ≡ f.face → set ≢ 0 → set < 4 → face.begun < 1000 →
    f.base.structures ≡ 2 → MayBegin f set
may_begin f face set is some inside few two = record {
  some = some;
  inside = rw two inside;
  few = few_begun f.face.begun (subst (λ (g : Face). g.begun < 1000) is few);
}

pub may_commit : (f : WholeFace Named) (face : Face) (deed : Named) → face ≡ f.face → deed.names ≡ face.held → f.base.sorts ≡ [] →
    MayCommit no_meaning f deed
may_commit f face deed is names sorts = record {
  names = names ∙ ap (λ (g : Face). g.held) is;
  sorts = sym sorts;
  means = tt;
}
