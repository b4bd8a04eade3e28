use Rattle.std.proofs.Common.{arith}
use Rattle.lane_worker.specs.HandMade.{hand_out, hand_begun}
use Rattle.lane_worker.proofs.HandMade.{out_shown, begun_next}
use Rattle.lane_worker.proofs.tests.driven.begins.Goals as goal

pub next-requires : goal.next-requires
next-requires g c = (hand_out, c.requires, out_shown)

pub answered-requires : goal.answered-requires
answered-requires g c = (let n = (begun_next c.next.new.self c.in_ok-act.act c.in-Some.set (c.in_ok-act.ensures.call hand_out c.requires out_shown) (c.set_of.ensures c.in-Some.set c.in-Some.is) (omega arith)) in (n.f, hand_begun, n.asking, n.row, n.told))

pub returns : goal.returns
returns g c = (let n = (begun_next c.next.new.self c.in_ok-act.act c.in-Some.set (c.in_ok-act.ensures.call hand_out c.requires out_shown) (c.set_of.ensures c.in-Some.set c.in-Some.is) (omega arith)) in c.answered.ensures.ready n.f (hand_begun) n.asking n.row n.told)
