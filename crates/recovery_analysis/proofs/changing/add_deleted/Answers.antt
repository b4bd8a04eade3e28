use Rattle.std.proofs.Common.{sym, ◌∙◌, arith}
use Rattle.recovery_analysis.specs.Changes.{is_deleted, given_back}
use Rattle.recovery_analysis.proofs.Lists.{among_at}
use Rattle.recovery_analysis.proofs.Redoing.{changes_more, changes_all}
use Rattle.recovery_analysis.proofs.changing.add_deleted.Goals as goal

pub keep_change-requires : goal.keep_change-requires
keep_change-requires c = λ on. c.requires.words _ (among_at c.args.merged.now c.loop-deletion.deletion-index _ (omega arith)) (sym c.is_deleted-wanted.ensures ∙ on)

pub loop-deletion-preserved : goal.loop-deletion-preserved
loop-deletion-preserved c = changes_more given_back (is_deleted c.args.winners.now) c.args.merged.now c.loop-deletion.deletion-index _ c.args.changes.now
    c.loop-deletion.changes c.keep_change.new.changes c.is_deleted-wanted.result (omega arith) c.is_deleted-wanted.ensures c.loop-deletion.invariant c.in_ok-keep_change.ensures

pub returns : goal.returns
returns c = changes_all given_back (is_deleted c.args.winners.now) c.args.merged.now c.loop-deletion.deletion-index c.args.changes.now
    c.loop-deletion.changes (omega arith) c.loop-deletion.invariant
