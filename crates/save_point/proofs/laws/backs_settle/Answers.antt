use Rattle.save_point.proofs.ClosedSteps as lemmas
use Rattle.save_point.proofs.laws.backs_settle.Goals as goal

pub returns : goal.returns
returns c = lemmas.backs_settle
