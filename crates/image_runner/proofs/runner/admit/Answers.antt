use Rattle.image_runner.specs.Ends.{unfit}
use Rattle.image_runner.proofs.Recovering.{refused_by}
use Rattle.image_runner.proofs.runner.admit.Goals as goal

pub returns-in-Err-clause-refused : goal.returns-in-Err-clause-refused
returns-in-Err-clause-refused g c = refused_by (record { kinds = c.args.kinds.now; words = g.W.Look.words c.args.words.now }) c.in-Err.refusal c.in-Err.ensures.unsound

pub returns-in-Some-clause-refused : goal.returns-in-Some-clause-refused
returns-in-Some-clause-refused g c = unfit c.in-Ok.ensures.sound c.in-Some.ensures.fault
