-- An event of a part of the log that isn't its last: nothing is settled yet.
use Rattle.std.specs.Prelude.{ℕ, suc, ◌+◌, ◌<◌, ◌==◌, if◌then◌else◌, List, length}
use Rattle.persist_model.specs.declared.event.Event.{Event}
use Rattle.persist_model.specs.Region.{Words, Region}
use Rattle.persist_model.specs.Shape.{Shape}
use Rattle.persist_model.specs.State.{State}
use Rattle.log_keeper.specs.Making.{made_part}
use Rattle.log_keeper.specs.Logged.{plan_in}
use Rattle.log_keeper.specs.Events.{IsNextEvent, region_made}
use Rattle.history_laws.specs.UnderWay.{UnderWay, nothing, appends, closes, takes_back, drops}
use Rattle.txn_laws.specs.Txns.{Txn, txn_at, with_txn}
use Rattle.txn_laws.specs.NextRecords.{ended_by}
use Rattle.txn_laws.specs.Worlds.{World, IsWorldAt}

abbrev pub with_under : ℕ → UnderWay → (ℕ → UnderWay) → ℕ → UnderWay
with_under p u under q = if q == p then u else under q

-- one event more is made
abbrev pub further : UnderWay → UnderWay
further nothing = nothing
further (appends adding made) = appends adding (suc made)
further (closes gates ends made) = closes gates ends (suc made)
further (takes_back gates made) = takes_back gates (suc made)
further (drops r made) = drops r (suc made)

-- with the store of its end's gate the transaction is ended
abbrev pub txn_further : Shape → ℕ → UnderWay → Txn → Txn
txn_further shape p nothing x = x
txn_further shape p (appends adding made) x = record x { ended = ended_by shape p adding (suc made) }
txn_further shape p (closes gates ends made) x = x
txn_further shape p (takes_back gates made) x = x
txn_further shape p (drops r made) x = x

-- the next event of the partition's part was made
abbrev pub gone_on : Shape → ℕ → World → World
gone_on shape p w = record w {
  keeping = made_part shape p w.keeping;
  under = with_under p (further (w.under p)) w.under;
  lanes = with_txn (w.keeping.holder p) (txn_further shape p (w.under p) (txn_at w.lanes (w.keeping.holder p))) w.lanes;
}

abbrev pub PartsKeep : Type 0
PartsKeep = (shape : Shape) (base : Words) (s : State) (chains : ℕ → List ℕ) (start : Words) (w : World) (region : Region) (p : ℕ) (e : Event) →
    w.keeping.holder p < length w.lanes → IsNextEvent shape w.keeping p e → (w.keeping.runs p).made + 1 < length (plan_in shape w.keeping p) →
    IsWorldAt shape base s chains start w region → IsWorldAt shape base s chains start (gone_on shape p w) (region_made w.keeping p e region)
