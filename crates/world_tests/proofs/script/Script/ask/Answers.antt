use Rattle.world_tests.proofs.script.Script.ask.Goals as goal

pub ask-requires-clause-may : goal.ask-requires-clause-may
ask-requires-clause-may g c = c.expect_may.ensures.may _ (c.args.self.now.small _ _)

pub invariant_of-self : goal.invariant_of-self
invariant_of-self g c = record { small = rw (c.ask.ensures.layout, c.ask.ensures.sorts) c.args.self.now.small }
