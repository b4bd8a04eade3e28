-- The text of a stop's report.
use Rattle.std.specs.Prelude.{ℕ, List, [], ◌∷◌, ◌++◌, codes, flat_map}
use Rattle.rewind_script.specs.declared.report.Named.{Named}
use Rattle.rewind_script.specs.declared.stopped.StopReport.{StopReport}
use Rattle.rewind_script.specs.Report.{line, commit_lines}

-- flight L I
abbrev pub flight_line : Named → List ℕ
flight_line named = line (codes "flight") (named.lane ∷ named.number ∷ [])

-- the commits and their gets, the commits in flight, and the last line
unfoldable pub stop_report : StopReport → List ℕ
stop_report r = flat_map commit_lines r.commits ++ flat_map flight_line r.flight ++ line (codes "stopped") []
