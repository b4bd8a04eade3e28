use Rattle.world_tests.proofs.script.Script.step.Goals as goal

pub invariant_of-self : goal.invariant_of-self
invariant_of-self g c = record { small = rw (c.step.ensures.layout, c.step.ensures.sorts) c.args.self.now.small }
