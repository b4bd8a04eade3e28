use Rattle.persist_model.specs.Shape.{part_of}
use Rattle.bucket_log.specs.Scans.{record_of_placed}
use Rattle.region_layout.specs.Layout.{layout_shape}
use Rattle.log_tables.proofs.Tabled.{summary_behind}
use Rattle.log_tables.proofs.summaries.Summary.behind.Goals as goal

pub returns : goal.returns
returns c = λ log s. summary_behind (part_of (layout_shape c.args.layout)) c.args.self _ (record_of_placed c.args.s.now) log c.record_behind.ensures c.parts_behind.ensures
    c.rollback_behind.ensures c.commit_behind.ensures c.end_behind.ensures.some c.end_behind.ensures.below c.point_behind.ensures c.count_behind.ensures.count c.count_behind.ensures.bound s
