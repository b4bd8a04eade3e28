use Rattle.std.proofs.Common.{arith}
use Rattle.lane_worker.specs.HandMade.{hand_begun, hand_written}
use Rattle.lane_worker.proofs.HandMade.{begun_shown, written_next}
use Rattle.lane_worker.proofs.tests.driven.writes.Goals as goal

pub next-requires : goal.next-requires
next-requires g c = (hand_begun, c.requires, begun_shown)

pub answered-requires : goal.answered-requires
answered-requires g c = (let n = (written_next c.next.new.self c.in_ok-act.act c.in-Some.a c.in-Some.v (c.in_ok-act.ensures.call hand_begun c.requires begun_shown) (c.written.ensures c.in-Some.a c.in-Some.v c.in-Some.is) (omega arith) (omega arith)) in (n.f, hand_written, n.asking, n.row, n.told))

pub returns : goal.returns
returns g c = (let n = (written_next c.next.new.self c.in_ok-act.act c.in-Some.a c.in-Some.v (c.in_ok-act.ensures.call hand_begun c.requires begun_shown) (c.written.ensures c.in-Some.a c.in-Some.v c.in-Some.is) (omega arith) (omega arith)) in c.answered.ensures.ready n.f (hand_written) n.asking n.row n.told)
