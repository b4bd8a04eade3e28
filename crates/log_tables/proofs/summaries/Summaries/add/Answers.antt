use Rattle.std.proofs.Common.{arith}
use Rattle.std.specs.Ordering.{nat_cmp}
use Rattle.std.specs.BTreeMap.{get}
use Rattle.persist_model.specs.Shape.{part_of}
use Rattle.bucket_log.specs.Scans.{record_of_placed}
use Rattle.region_layout.specs.Layout.{layout_shape}
use Rattle.log_tables.proofs.Tabled.{summaries_more}
use Rattle.log_tables.proofs.summaries.Summaries.add.Goals as goal

pub behind-requires : goal.behind-requires
behind-requires c =
    let le = (c.of-before.ensures.summary (part_of (layout_shape c.args.layout)) c.requires.0 c.requires.1).bound in let lt = c.requires.2 in omega (arith, le, lt)

pub returns : goal.returns
returns c = λ log sums. summaries_more (part_of (layout_shape c.args.layout)) (record_of_placed c.args.s.now) log (get nat_cmp c.args.self.now.table) (get nat_cmp c.put.new.self.table) c.behind.result
    c.in_ok-put.ensures sums (c.behind.ensures log (c.of-before.ensures.summary (part_of (layout_shape c.args.layout)) log sums))
