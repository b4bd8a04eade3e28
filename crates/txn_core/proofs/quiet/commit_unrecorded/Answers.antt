use Rattle.txn_core.proofs.Facts.{is_book}
use Rattle.txn_core.proofs.QuietFacts.{few_commits, has_entry, has_place}
use Rattle.txn_core.proofs.QuietSteps.{commits_so}
use Rattle.txn_core.proofs.quiet.commit_unrecorded.Goals as goal
use Rattle.txn_core.proofs.ExactJoins.{commits_at_once}

pub commit-requires-clause-lane : goal.commit-requires-clause-lane
commit-requires-clause-lane g c = record {
  inside = c.requires.lane;
  calling = c.requires.calling;
  call = c.requires.doing;
  kept = is_book _ _ _ _ _ _ (g.D.Device.counts c.args.device.now) c.requires.world;
}

pub commit-requires-clause-entry : goal.commit-requires-clause-entry
commit-requires-clause-entry g c = has_entry _ _ _ _ _ _ (g.D.Device.counts c.args.device.now) c.args.lane c.requires.doing c.requires.unjoined c.requires.world

pub commit-requires-clause-few : goal.commit-requires-clause-few
commit-requires-clause-few g c = few_commits _ _ _ _ _ _ (g.D.Device.counts c.args.device.now) c.args.lane c.requires.world

pub commit-requires-clause-room : goal.commit-requires-clause-room
commit-requires-clause-room g c = has_place _ _ _ _ _ _ (g.D.Device.counts c.args.device.now) c.args.lane c.requires.lane c.requires.doing c.requires.unjoined c.requires.world

pub returns-clause-steps : goal.returns-clause-steps
returns-clause-steps g c = commits_so g.E.Deed.meaning c.args.layout c.args.book.now c.commit.new.self c.args.log.now (g.D.Device.cells c.args.device.now) (g.D.Device.spare c.args.device.now)
    (g.D.Device.counts c.args.device.now) c.args.lane c.requires.lane
    c.commit.ensures.book g.met.E.Deed.depends c.commit.result c.requires.stage c.requires.doing
    (has_entry _ _ _ _ _ _ (g.D.Device.counts c.args.device.now) c.args.lane c.requires.doing c.requires.unjoined c.requires.world)
    (is_book _ _ _ _ _ _ (g.D.Device.counts c.args.device.now) c.requires.world) c.commit.ensures.is c.commit.ensures.step

pub returns-clause-exact : goal.returns-clause-exact
returns-clause-exact g c = commits_at_once c.args.layout c.args.book.now c.commit.new.self c.args.log.now (g.D.Device.counts c.args.device.now) c.args.lane _ c.commit.ensures.result c.requires.lane c.requires.stage c.requires.doing
    (has_entry _ _ _ _ _ _ (g.D.Device.counts c.args.device.now) c.args.lane c.requires.doing c.requires.unjoined c.requires.world) c.commit.ensures.is
