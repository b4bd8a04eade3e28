use Rattle.std.specs.Prelude.{slice_index}
use Rattle.bucket_log.proofs.Scans.{kept_more}
use Rattle.bucket_log.proofs.scanning.scan_bucket.Goals as goal

pub loop-cell-preserved : goal.loop-cell-preserved
loop-cell-preserved g c = kept_more (slice_index (g.W.Look.words c.args.words.now)) c.args.bucket c.loop-cell.cell c.args.found.now.items c.loop-cell.found.items _ c.read_cell.result c.read_cell.ensures c.loop-cell.invariant c.in_ok-keep_open.ensures
