use Rattle.lane_worker.specs.HandMade.{hand_written, hand_committed}
use Rattle.lane_worker.proofs.HandMade.{written_shown, committed_next}
use Rattle.lane_worker.proofs.tests.driven.commits.Goals as goal

pub next-requires : goal.next-requires
next-requires g c = (hand_written, c.requires, written_shown)

pub answered-requires : goal.answered-requires
answered-requires g c = (let n = (committed_next c.next.new.self c.in_ok-act.act c.in-Some.deed (c.in_ok-act.ensures.call hand_written c.requires written_shown) (c.deed_of.ensures c.in-Some.deed c.in-Some.is)) in (n.f, hand_committed c.in-Some.deed, n.asking, n.row, n.told))

pub returns : goal.returns
returns g c = (let n = (committed_next c.next.new.self c.in_ok-act.act c.in-Some.deed (c.in_ok-act.ensures.call hand_written c.requires written_shown) (c.deed_of.ensures c.in-Some.deed c.in-Some.is)) in (c.in-Some.deed, c.answered.ensures.ready n.f (hand_committed c.in-Some.deed) n.asking n.row n.told))
