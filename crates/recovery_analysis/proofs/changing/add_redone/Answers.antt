use Rattle.std.proofs.Common.{sym, ◌∙◌, arith}
use Rattle.region_layout.specs.Layout.{policy_number}
use Rattle.recovery_analysis.specs.Changes.{is_redone, new_value}
use Rattle.recovery_analysis.proofs.Lists.{among_at}
use Rattle.recovery_analysis.proofs.Redoing.{changes_more, changes_all}
use Rattle.recovery_analysis.proofs.changing.add_redone.Goals as goal

pub keep_change-requires : goal.keep_change-requires
keep_change-requires c = λ on. c.requires.words _ (among_at c.args.merged.now c.loop-placed.placed-index _ (omega arith)) (sym c.is_redone-wanted.ensures ∙ on)

pub loop-placed-preserved : goal.loop-placed-preserved
loop-placed-preserved c = changes_more new_value (is_redone (policy_number c.args.policy) c.args.unskipped.now) c.args.merged.now c.loop-placed.placed-index _ c.args.changes.now
    c.loop-placed.changes c.keep_change.new.changes c.is_redone-wanted.result (omega arith) c.is_redone-wanted.ensures c.loop-placed.invariant c.in_ok-keep_change.ensures

pub returns : goal.returns
returns c = changes_all new_value (is_redone (policy_number c.args.policy) c.args.unskipped.now) c.args.merged.now c.loop-placed.placed-index c.args.changes.now
    c.loop-placed.changes (omega arith) c.loop-placed.invariant
