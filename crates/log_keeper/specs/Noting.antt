-- The ledger that the code keeps, oldest first, as plain data.
use Rattle.std.specs.Prelude.{ℕ, Bool, not, ◌==◌, if◌then◌else◌, List, [], ◌∷◌, ◌++◌}
use Rattle.bucket_log.specs.Scans.{record_of_placed}
use Rattle.log_keeper.specs.declared.ledger.Progress.{Progress}
use Rattle.log_keeper.specs.declared.ledger.Progress.TheVariants.{Drawn as IsDrawn, Stored as IsStored, Settled as IsSettled}
use Rattle.log_keeper.specs.declared.ledger.Entry.{Entry}
use Rattle.log_keeper.specs.Ledger.{Stage, Drawn, Stored, Settled, Noted, is_listed}

abbrev pub stage_of : Progress → Stage
stage_of IsDrawn = Drawn
stage_of IsStored = Stored
stage_of IsSettled = Settled

abbrev pub noted_of : Entry → Noted
noted_of x = record { lane = x.lane; entry = record_of_placed x.placed; stage = stage_of x.stage }

abbrev pub ledger_of : List Entry → List Noted
ledger_of [] = []
ledger_of (x ∷ entries) = ledger_of entries ++ noted_of x ∷ []

-- an entry, where its record of this number comes to a stage
abbrev pub staged_entry : ℕ → Progress → Entry → Entry
staged_entry n stage x = record { lane = x.lane; placed = x.placed; stage = if x.placed.cell.lsn == n then stage else x.stage }

-- whether an entry's gate is none of these
abbrev pub is_kept : List ℕ → List ℕ → List ℕ → Entry → Bool
is_kept gates ends checkpoints x =
    not (is_listed gates ends checkpoints x.placed.at)
