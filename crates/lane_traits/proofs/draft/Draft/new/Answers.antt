use Rattle.std.proofs.Common.{ℕ, List, sym, subst}
use Rattle.persist_model.specs.Records.{IsAmong}
use Rattle.persist_model.specs.Chain.{HasNoRepeats}
use Rattle.lane_traits.proofs.Drafts.{own_at}
use Rattle.lane_traits.specs.declared.draft.WordWrite.{WordWrite}
use Rattle.lane_traits.specs.Draft.{of_structure, addresses}
use Rattle.lane_traits.proofs.draft.Draft.new.Goals as goal

pub invariant_of-result : goal.invariant_of-result
invariant_of-result g c = record {
  own_spare = λ b among. own_at (of_structure c.args.structure (g.R.Reads.space c.args.base).land) b (c.requires.set_aside.own b among);
  own_gives = λ b among. absurd (subst (λ (xs : List ℕ). IsAmong xs b) c.new-2.ensures among);
  not_root = λ b among. absurd (subst (λ (xs : List ℕ). IsAmong xs b) c.new-2.ensures among);
  apart = λ b among spare. subst (λ (xs : List ℕ). IsAmong xs b) c.new-2.ensures among;
  spare_once = c.requires.set_aside.once;
  gives_once = subst (λ (xs : List ℕ). HasNoRepeats xs) (sym c.new-2.ensures) tt;
  own_writes = λ a among. absurd (subst (λ (xs : List WordWrite). IsAmong (addresses xs) a) c.new.ensures.items among);
  can_read = c.requires.can_read;
}
