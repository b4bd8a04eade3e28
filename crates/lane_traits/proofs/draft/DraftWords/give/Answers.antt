use Rattle.std.proofs.Common.{◌≢◌, ◌∙◌, ap, ℕ, List, ⊎_elim, sym, subst}
use Rattle.persist_model.specs.Records.{IsAmong}
use Rattle.lane_traits.specs.Space.{root_block}
use Rattle.lane_traits.specs.Draft.{drafted, of_structure, IsOwnAt}
use Rattle.lane_traits.specs.DraftLaws.{own_below}
use Rattle.lane_traits.proofs.Drafts.{drafted_given, own_at, pushed_list, given_among, given_once, not_given, not_spare}
use Rattle.lane_traits.proofs.draft.DraftWords.give.Goals as goal

pub invariant_of-self : goal.invariant_of-self
invariant_of-self g c =
    let self = c.args.self.now in
    let base = g.R.Reads.space self.base in
    let land = of_structure self.structure base.land in
    let b = c.args.block in
    let pushed = pushed_list c.push.result self.gives c.push.new.self b c.push.ensures.ok c.push.ensures.err in
    record {
      own_spare = self.own_spare;
      own_gives = λ d among. ⊎_elim (self.own_gives d)
          (λ e. subst (IsOwnAt land) (sym e) (own_at land b (own_below base self.structure self.log.items self.gives self.spare b c.requires.own)))
          (given_among self.gives c.push.new.self b pushed d among);
      not_root = λ d among. ⊎_elim (self.not_root d)
          (λ e. subst (λ (x : ℕ). x ≢ root_block land) (sym e) c.requires.not_root)
          (given_among self.gives c.push.new.self b pushed d among);
      apart = λ d among spare. ⊎_elim (λ given. self.apart d given spare)
          (λ e. not_spare base self.structure self.log.items self.gives self.spare b c.requires.own (subst (IsAmong self.spare) e spare))
          (given_among self.gives c.push.new.self b pushed d among);
      spare_once = self.spare_once;
      gives_once = given_once self.gives c.push.new.self b pushed self.gives_once (not_given base self.structure self.log.items self.gives self.spare b c.requires.own);
      own_writes = self.own_writes;
      can_read = self.can_read;
    }

pub returns-in-Ok-clause-given : goal.returns-in-Ok-clause-given
returns-in-Ok-clause-given g c =
    let self = c.args.self.now in
    let base = g.R.Reads.space self.base in
    ap (λ (xs : List ℕ). drafted self.structure self.log.items xs self.spare base) c.in-Ok.ensures.ok
    ∙ drafted_given base self.structure self.log.items self.gives self.spare c.args.block
