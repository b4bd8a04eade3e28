use Rattle.std.proofs.Common.{sym, subst, if◌then◌else◌}
use Rattle.region_layout.specs.Layout.{layout_shape}
use Rattle.log_partition.specs.Used.{KnowsChains, with_bucket}
use Rattle.recovery_undo.proofs.appending.add_bucket.Goals as goal

pub returns-then-place : goal.returns-then-place
returns-then-place c = λ chains knows.
    subst (λ fresh. KnowsChains (layout_shape c.args.layout) c.add.new.self (if fresh then with_bucket c.args.p c.args.place.bucket chains else chains)) (sym c.if-place.true)
    (c.add.ensures chains knows)
