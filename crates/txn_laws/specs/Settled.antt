-- The last event of an append: the record is settled, and the lane's transaction has it.
use Rattle.std.specs.Prelude.{◌≡◌, ℕ, ◌<◌, true, List, [], ◌∷◌, ◌++◌, length}
use Rattle.persist_model.specs.declared.event.Event.{Event}
use Rattle.persist_model.specs.Region.{Words, Region}
use Rattle.persist_model.specs.Records.{Record}
use Rattle.persist_model.specs.Need.{rest}
use Rattle.persist_model.specs.Shape.{Shape, heap_words}
use Rattle.persist_model.specs.State.{State}
use Rattle.log_laws.specs.Recovering.{with_heap}
use Rattle.bucket_log.specs.Appends.{chain_behind}
use Rattle.plan_records.specs.Appends.{with_record}
use Rattle.log_keeper.specs.Parts.{appends as adds, words_behind}
use Rattle.log_keeper.specs.Making.{made_part}
use Rattle.log_keeper.specs.Logged.{with_chain}
use Rattle.log_keeper.specs.Events.{IsLastEvent, region_made}
use Rattle.history_laws.specs.Histories.{Entry}
use Rattle.history_laws.specs.UnderWay.{Added, an_update, a_deletion, a_rollback, a_compensation, an_undone_end, a_commit_end, Adding, record_of_adding, nothing, appends}
use Rattle.txn_laws.specs.Txns.{Txn, txn_at, with_txn, entry_of}
use Rattle.txn_laws.specs.Going.{with_under}
use Rattle.txn_laws.specs.Worlds.{World, IsWorldAt}

-- with its update it has the update, with a deletion the gift, with a compensation one update less, and with its end it is over
abbrev pub txn_behind : Added → Record → Txn → Txn
txn_behind (an_update u) r x = record x { updates = r ∷ x.updates; point = r.lsn }
txn_behind (a_deletion g) r x = record x { gifts = x.gifts ++ record { word = r.word; gate = r.at } ∷ [] }
txn_behind (a_rollback t) r x = record x { rolled = true }
txn_behind (a_compensation u cell) r x = record x { updates = rest x.updates; point = r.undo_next }
txn_behind (an_undone_end t) r x = record x { over = true }
txn_behind (a_commit_end t) r x = record x { over = true }

-- with a commit's end its entry joins the history
abbrev pub history_behind : Added → Txn → List Entry → List Entry
history_behind (an_update u) x history = history
history_behind (a_deletion g) x history = history
history_behind (a_rollback t) x history = history
history_behind (a_compensation u cell) x history = history
history_behind (an_undone_end t) x history = history
history_behind (a_commit_end t) x history = history ++ entry_of x ∷ []

-- the world with the transaction y of the partition's holder, behind the last event of its part
abbrev pub settled_with : Shape → ℕ → Txn → List Entry → World → World
settled_with shape p y history w = record w {
  keeping = made_part shape p w.keeping;
  under = with_under p nothing w.under;
  lanes = with_txn (w.keeping.holder p) y w.lanes;
  history = history;
}

abbrev pub world_behind : Shape → ℕ → Adding → World → World
world_behind shape p adding w =
    let x = txn_at w.lanes (w.keeping.holder p) in
    settled_with shape p (txn_behind adding.added (record_of_adding adding) x) (history_behind adding.added x w.history) w

-- the words and the state that are settled then
abbrev pub base_behind : Shape → ℕ → Adding → Words → Words
base_behind shape p adding base = words_behind shape p (adds adding.place (record_of_adding adding)) base

abbrev pub state_behind : Shape → ℕ → Adding → Words → State → State
state_behind shape p adding base s = with_heap (with_record p s (record_of_adding adding)) (heap_words shape (base_behind shape p adding base))

abbrev pub AppendsSettle : Type 0
AppendsSettle = (shape : Shape) (base : Words) (s : State) (chains : ℕ → List ℕ) (start : Words) (w : World) (region : Region) (p : ℕ) (e : Event) (adding : Adding) (made : ℕ) →
    w.under p ≡ appends adding made → w.keeping.holder p < length w.lanes → IsLastEvent shape w.keeping p e (adds adding.place (record_of_adding adding)) →
    IsWorldAt shape base s chains start w region →
    IsWorldAt shape (base_behind shape p adding base) (state_behind shape p adding base s) (with_chain p (chain_behind adding.place (chains p)) chains) start (world_behind shape p adding w)
    (region_made w.keeping p e region)
