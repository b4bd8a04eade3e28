use Rattle.std.proofs.Common.{◌∙◌, ap, ℕ, ◌++◌, Option, option_to_list}
use Rattle.lane_traits.proofs.Drafts.{taken_is, popped_among, popped_once}
use Rattle.lane_traits.proofs.draft.DraftWords.take.Goals as goal

pub invariant_of-self : goal.invariant_of-self
invariant_of-self g c =
    let self = c.args.self.now in
    let popped = popped_among c.pop.result self.spare c.pop.new.self c.pop.ensures.last in
    record {
      own_spare = λ b among. self.own_spare b (popped b among);
      own_gives = self.own_gives;
      not_root = self.not_root;
      apart = λ b given among. self.apart b given (popped b among);
      spare_once = popped_once c.pop.result self.spare c.pop.new.self c.pop.ensures.last self.spare_once;
      gives_once = self.gives_once;
      own_writes = self.own_writes;
      can_read = self.can_read;
    }

pub returns-in-Some-clause-taken : goal.returns-in-Some-clause-taken
returns-in-Some-clause-taken g c =
    let self = c.args.self.now in
    let base = g.R.Reads.space self.base in
    taken_is base self.structure self.log.items self.gives self.spare c.pop.new.self c.in-Some.block
    (c.pop.ensures.last ∙ ap (λ (r : Option ℕ). c.pop.new.self ++ option_to_list r) c.in-Some.is) self.own_spare self.apart self.spare_once
