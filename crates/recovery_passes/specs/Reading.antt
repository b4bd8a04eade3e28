-- The records with which a recovery begins.
use Rattle.std.specs.Prelude.{◌≡◌, List, map, reverse}
use Rattle.persist_model.specs.Region.{Words}
use Rattle.persist_model.specs.Sound.{HasState}
use Rattle.persist_model.specs.State.{State}
use Rattle.region_layout.specs.declared.layout.Layout.{Layout}
use Rattle.region_layout.specs.Layout.{layout_shape}
use Rattle.bucket_log.specs.declared.scanning.Placed.{Placed}
use Rattle.bucket_log.specs.Scans.{record_of_placed}

-- the records are those of these words: read from the last they are the log, newest first
abbrev pub IsLogRead : Layout → List Placed → Words → Type 0
IsLogRead layout records w = (s : State) → HasState (layout_shape layout) w s → reverse (map record_of_placed records) ≡ s.log
