use Rattle.std.proofs.Common.{◌∷◌}
use Rattle.persist_model.specs.Shape.{part_of}
use Rattle.bucket_log.specs.Scans.{record_of_placed}
use Rattle.region_layout.specs.Layout.{layout_shape}
use Rattle.std.proofs.Common.{sym, subst}
use Rattle.log_tables.specs.Homes.{AreHomes}
use Rattle.log_tables.proofs.Homed.{homes_more}
use Rattle.log_tables.proofs.transactions.Transactions.add.Goals as goal

pub add-requires : goal.add-requires
add-requires c = (c.requires.0, c.requires.1.summaries, c.requires.2)

pub returns : goal.returns
returns c = λ log all. record {
  summaries = c.in_ok-add.ensures log all.summaries;
  homes = subst (λ homes. AreHomes (part_of (layout_shape c.args.layout)) homes (record_of_placed c.args.s.now ∷ log)) (sym c.in_ok-add_home.ensures)
      (homes_more (part_of (layout_shape c.args.layout)) c.args.self.now.homes.items (record_of_placed c.args.s.now) log c.is_first.result c.of-before.result.has_record c.is_first.ensures
      (c.of-before.ensures.summary (part_of (layout_shape c.args.layout)) log all.summaries).some all.homes);
}
