use Rattle.std.proofs.Common.{sym, subst, arith}
use Rattle.lane_traits.specs.Space.{Space}
use Rattle.persist_cells.specs.Calls.{HoldsMap}
use Rattle.persist_cells.proofs.Fresh.{memory_map_by}
use Rattle.persist_cells.proofs.tests.fresh.Goals as goal

pub returns : goal.returns
returns c = subst (λ (s : Space). HoldsMap s 16) (sym c.new-2.ensures.space) (memory_map_by c.in_ok-words.words.items (c.in_ok-words.ensures.owners 0 (omega arith)) (λ a ne. c.in_ok-words.ensures.others a (λ k lt e. ne (omega (arith, lt, e)))) c.new.result c.new.ensures)
