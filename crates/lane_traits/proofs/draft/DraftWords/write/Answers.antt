use Rattle.std.proofs.Common.{◌∙◌, ap, List, ⊎_elim, sym, subst}
use Rattle.lane_traits.specs.declared.draft.WordWrite.{WordWrite}
use Rattle.lane_traits.specs.Draft.{drafted, of_structure, IsDataAt}
use Rattle.lane_traits.specs.DraftLaws.{data_below}
use Rattle.lane_traits.proofs.Drafts.{drafted_written, data_at, pushed_writes}
use Rattle.lane_traits.proofs.draft.DraftWords.write.Goals as goal

pub invariant_of-self : goal.invariant_of-self
invariant_of-self g c =
    let self = c.args.self.now in
    let base = g.R.Reads.space self.base in
    let land = of_structure self.structure base.land in
    record {
      own_spare = self.own_spare;
      own_gives = self.own_gives;
      not_root = self.not_root;
      apart = self.apart;
      spare_once = self.spare_once;
      gives_once = self.gives_once;
      own_writes = λ a among. ⊎_elim (self.own_writes a)
          (λ e. subst (IsDataAt land) (sym e) (data_at land c.args.a (data_below base self.structure self.log.items self.gives self.spare c.args.a c.requires)))
          (pushed_writes _ self.log.items _ _ c.push.ensures.items a among);
      can_read = self.can_read;
    }

pub returns-in-Ok-clause-made : goal.returns-in-Ok-clause-made
returns-in-Ok-clause-made g c =
    let self = c.args.self.now in
    let base = g.R.Reads.space self.base in
    ap (λ (xs : List WordWrite). drafted self.structure xs self.gives self.spare base) c.in-Ok.ensures.items
    ∙ drafted_written base self.structure self.log.items self.gives self.spare c.args.a c.args.v
