use Rattle.std.proofs.Common.{◌≡◌, ◌++◌, drop}
use Rattle.rewind_script.specs.Report.{maps_from}
use Rattle.rewind_script.proofs.report.append_maps.Given as goal

abbrev pub invariant-loop-map : goal.invariant-loop-map
invariant-loop-map l = (l.text ++ maps_from l.number (drop l.map-index l.maps) ≡ l.initial.text ++ maps_from 0 l.maps) × (l.number ≡ l.map-index)
