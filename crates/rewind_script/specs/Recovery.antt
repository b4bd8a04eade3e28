-- The text of a recovery's report.
use Rattle.std.specs.Prelude.{ℕ, List, [], ◌∷◌, ◌++◌, codes, flat_map}
use Rattle.rewind_script.specs.declared.recovery.RecoveryReport.{RecoveryReport}
use Rattle.rewind_script.specs.Report.{line, maps_from}

-- events E
abbrev pub events_line : ℕ → List ℕ
events_line events = line (codes "events") (events ∷ [])

-- winner T
abbrev pub winner_line : ℕ → List ℕ
winner_line transaction = line (codes "winner") (transaction ∷ [])

-- loser T
abbrev pub loser_line : ℕ → List ℕ
loser_line transaction = line (codes "loser") (transaction ∷ [])

-- the events, the committed transactions, the running ones, the maps, and the end
unfoldable pub recovery_report : RecoveryReport → List ℕ
recovery_report r = events_line r.events ++ flat_map winner_line r.winners ++ flat_map loser_line r.losers ++ maps_from 0 r.maps ++ line (codes "end") []
