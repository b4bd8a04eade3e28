use Rattle.std.specs.Prelude.{slice_index, length}
use Rattle.std.proofs.Common.{map, reverse, sym, subst}
use Rattle.atomic_list.specs.Walk.{chain_of}
use Rattle.region_layout.specs.Layout.{layout_shape}
use Rattle.bucket_log.specs.Scans.{record_of_placed, IsLogIn}
use Rattle.bucket_log.proofs.ScanLogs.{scan_log}
use Rattle.bucket_log.proofs.scanning.scan.Goals as goal

pub returns : goal.returns
returns g c = λ w same. subst (λ xs. IsLogIn c.args.layout.cells w (chain_of (layout_shape c.args.layout) w) (reverse (map record_of_placed xs))) (sym c.from_vec.ensures)
    (scan_log c.args.layout (length (g.W.Look.words c.args.words.now)) (slice_index (g.W.Look.words c.args.words.now)) c.requires w same c.in_ok-found.found.items c.in_ok-sorted.sorted.items c.in_ok-found.ensures c.in_ok-sorted.ensures)
