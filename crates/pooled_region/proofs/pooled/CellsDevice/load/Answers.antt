use Rattle.std.proofs.Common.{◌≡◌, arith}
use Rattle.std.specs.Vec.{with_items}
use Rattle.pooled_region.specs.Pool.{later_count}
use Rattle.pooled_region.proofs.Counts.{bare_count}
use Rattle.pooled_region.proofs.Found.{found_bare}
use Rattle.pooled_region.proofs.pooled.CellsDevice.load.Goals as goal

pub invariant_of-self-clause-none_lost : goal.invariant_of-self-clause-none_lost
invariant_of-self-clause-none_lost c =
    let none : later_count c.in_ok-made.made.items ≡ 0 = bare_count c.in_ok-made.made.items c.in_ok-made.ensures.bare in
    omega (arith, none, c.free_all-self.ensures.count, c.deref_mut.ensures.len, c.args.self.now.places.ok.0)

pub invariant_of-self-clause-are_found : goal.invariant_of-self-clause-are_found
invariant_of-self-clause-are_found c =
    found_bare (with_items c.args.self.now.places c.free_all-self.new.places).items c.in_ok-made.made.items c.in_ok-listed.listed.items c.in_ok-positions.positions.items c.in_ok-made.ensures.bare
