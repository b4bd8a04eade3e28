-- What a recovery holds of the log while it appends records.
use Rattle.std.specs.Prelude.{◌≡◌}
use Rattle.persist_model.specs.Region.{Region}
use Rattle.persist_model.specs.Records.{Log}
use Rattle.region_layout.specs.declared.layout.Layout.{Layout}
use Rattle.recovery_run.specs.declared.gates.Gates.{Gates}
use Rattle.recovery_run.specs.Groups.{ListsAll}
use Rattle.recovery_undo.specs.declared.held.Held.{Held}
use Rattle.recovery_undo.specs.Numbers.{next_lsn}
use Rattle.recovery_undo.specs.RecoveryAppends.{KnowsRegion}

-- the lists have the gates of all records of the log
abbrev pub AreGatesOf : Log → Gates → Type 0
AreGatesOf log gates = ListsAll log gates.gates.items gates.ends.items gates.checkpoints.items

-- What is held is that of this log and this region: the number behind all, the gates of all records, and the buckets of the chains.
pub record IsHeld (layout : Layout) (log : Log) (held : Held) (region : Region) : Type 0 where
  pub next : held.next ≡ next_lsn log
  pub gates : AreGatesOf log held.gates
  pub table : KnowsRegion layout held.table region
