use Rattle.lane_worker.specs.HandMade.{hand_committed}
use Rattle.lane_worker.proofs.HandMade.{new_at_hand, committed_shown}
use Rattle.lane_worker.proofs.tests.driven.drive.Goals as goal

pub begins-requires : goal.begins-requires
begins-requires g c = (let l = c.in_ok-script.ensures.layout in new_at_hand c.in_ok-script.script c.in_ok-worker.worker c.in_ok-worker.ensures l.0 l.1 l.2 c.in_ok-script.ensures.kinds c.in_ok-script.ensures.lanes)

pub next-requires : goal.next-requires
next-requires g c = (let d = c.in_ok-commits.ensures in (hand_committed d.0, d.1, committed_shown d.0))
