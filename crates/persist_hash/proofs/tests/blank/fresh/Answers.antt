use Rattle.std.proofs.Common.{◌+◌, sym, subst, arith}
use Rattle.lane_traits.specs.Space.{Space}
use Rattle.persist_hash.specs.Calls.{HasMap}
use Rattle.persist_hash.proofs.Fresh.{blank_map}
use Rattle.persist_hash.proofs.tests.blank.fresh.Goals as goal

pub returns-clause-map : goal.returns-clause-map
returns-clause-map c =
    subst (λ (s : Space). HasMap s 16) (sym c.new.ensures.space) (blank_map (c.args.spare + 1) c.in_ok-others.others (omega arith) c.in_ok-others.ensures)
