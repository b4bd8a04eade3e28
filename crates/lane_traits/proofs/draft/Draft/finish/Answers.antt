use Rattle.lane_traits.proofs.Drafts.{change_is}
use Rattle.lane_traits.proofs.draft.Draft.finish.Goals as goal

pub returns-clause-change : goal.returns-clause-change
returns-clause-change g c = change_is (g.R.Reads.space c.args.self.base) c.args.self.structure c.args.self.log.items _ c.args.self.gives c.args.self.spare
    c.args.self.own_gives c.args.self.not_root c.args.self.apart c.args.self.gives_once c.args.self.own_writes c.last_of_each.ensures
