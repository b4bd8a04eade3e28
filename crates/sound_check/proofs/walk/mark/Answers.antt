use Rattle.std.proofs.Common.{[], ◌∷◌, ◌++◌, subst}
use Rattle.std.specs.BTreeSet.{contains}
use Rattle.std.specs.Ordering.{nat_cmp}
use Rattle.sound_check.specs.Walks.{AreMarks}
use Rattle.sound_check.proofs.Marked.{marks_more}
use Rattle.sound_check.proofs.walk.mark.Goals as goal

pub returns : goal.returns
returns c = λ visited old. subst (λ x. AreMarks c.insert.new.self (visited ++ x ∷ [])) c.from.ensures
    (marks_more (contains nat_cmp c.args.marks.now) (contains nat_cmp c.insert.new.self) visited c.from.result c.in_ok-insert.ensures.updates.0 old)
