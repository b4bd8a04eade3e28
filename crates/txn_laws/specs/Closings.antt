-- The last event of a group of the closing of an ended transaction.
use Rattle.std.specs.Prelude.{◌≡◌, ℕ, ◌≤◌, Bool, true, List, []}
use Rattle.persist_model.specs.declared.event.Event.{Event}
use Rattle.persist_model.specs.Region.{Words, Region}
use Rattle.persist_model.specs.Records.{Log}
use Rattle.persist_model.specs.Shape.{Shape}
use Rattle.persist_model.specs.State.{State}
use Rattle.log_keeper.specs.Parts.{closes as shuts, words_behind}
use Rattle.log_keeper.specs.Ledger.{left_open}
use Rattle.log_keeper.specs.Events.{IsLastEvent, region_made}
use Rattle.history_laws.specs.UnderWay.{closes}
use Rattle.txn_laws.specs.Txns.{Txn, txn_at}
use Rattle.txn_laws.specs.Worlds.{World, with_lane, IsWorldAt}
use Rattle.txn_laws.specs.Dropped.{dropped}

-- The invariant holds with some state that has this log and no less room.
pub record HasLeft (shape : Shape) (base : Words) (s : State) (chains : ℕ → List ℕ) (start : Words) (w : World) (region : Region) (log : Log) : Type 0 where
  pub state : State
  pub log_is : state.log ≡ log
  pub no_less : (p : ℕ) → s.room p ≤ state.room p
  pub world : IsWorldAt shape base state chains start w region

-- what it gave isn't its any more, and these words are
abbrev pub with_words : (ℕ → Bool) → Txn → Txn
with_words words x = record x { words = words; gifts = []; zeroed = 0 }

-- the world behind the group, with these words left to the holder
abbrev pub world_closed : Shape → ℕ → (ℕ → Bool) → World → World
world_closed shape p words w = with_lane (w.keeping.holder p) (with_words words (txn_at w.lanes (w.keeping.holder p))) (dropped shape p w)

-- The log has the records of the group no more. Of its words, which no record bars others from any more, the transaction may keep any.
abbrev pub GroupsEnd : Type 0
GroupsEnd = (shape : Shape) (base : Words) (s : State) (chains : ℕ → List ℕ) (start : Words) (w : World) (region : Region) (p : ℕ) (e : Event) (gates ends : List ℕ) (made : ℕ) (words : ℕ → Bool) →
    w.under p ≡ closes gates ends made → IsLastEvent shape w.keeping p e (shuts gates ends []) →
    ((a : ℕ) → words a ≡ true → (txn_at w.lanes (w.keeping.holder p)).words a ≡ true) → IsWorldAt shape base s chains start w region →
    HasLeft shape (words_behind shape p (shuts gates ends []) base) s chains start (world_closed shape p words w) (region_made w.keeping p e region) (left_open gates ends [] s.log)
