use Rattle.std.proofs.Common.{◌+◌, sym, subst, arith}
use Rattle.lane_traits.specs.Space.{Space}
use Rattle.persist_tree.specs.Calls.{HoldsMap}
use Rattle.persist_tree.proofs.Fresh.{memory_map}
use Rattle.persist_tree.proofs.tests.memory.fresh.Goals as goal

pub returns-clause-map : goal.returns-clause-map
returns-clause-map c = subst (λ (s : Space). HoldsMap s 16) (sym c.new.ensures.space) (memory_map c.in_ok-words.words.items (c.args.spare + 1) c.in_ok-others.others (record {
  some = omega arith;
  few = (let most = c.requires in omega (arith, most));
  size = c.in_ok-words.ensures.size;
  owners = c.in_ok-words.ensures.owners;
  top_is = c.in_ok-words.ensures.others 17 (λ k lt e. omega (arith, e));
  others = c.in_ok-others.ensures;
}))
