use Rattle.std.proofs.Common.{◌≡◌, ℕ, true}
use Rattle.std.specs.List.{list_any}
use Rattle.pooled_region.specs.Pool.{candidates_at, is_marked}
use Rattle.pooled_region.specs.Marks.{AreSifted, IsLeft}
use Rattle.pooled_region.proofs.marks.sift_all.Given as goal

abbrev pub invariant-loop-index : goal.invariant-loop-index
invariant-loop-index l = record {
  sifted : AreSifted l.listed l.positions l.kept l.index;
  left : (a : ℕ) → list_any is_marked (candidates_at l.places l.words a) ≡ true → IsLeft l.listed l.positions l.kept l.index a;
}
