-- What a lane has under way, and its transaction as its book has it.
use Rattle.std.specs.Prelude.{ℕ, ◌+◌, Bool, if◌then◌else◌, ◌==◌}
use Rattle.persist_model.specs.Records.{Record}
use Rattle.persist_model.specs.Shape.{Shape}
use Rattle.bucket_log.specs.Appends.{region_append}
use Rattle.log_keeper.specs.Making.{is_over}
use Rattle.history_laws.specs.UnderWay.{Added, an_update, a_deletion, a_rollback, a_compensation, an_undone_end, a_commit_end, Adding, record_of_adding, UnderWay, nothing, appends, closes, takes_back, drops}
use Rattle.txn_laws.specs.Txns.{Txn}
use Rattle.txn_laws.specs.Settled.{txn_behind}
use Rattle.txn_laws.specs.Worlds.{World}

-- what lane l has under way in partition p: all that is under way there, where it holds the latch
abbrev pub under_by : World → ℕ → ℕ → UnderWay
under_by w p l = if w.keeping.holder p == l then w.under p else nothing

-- the gate of an append's record is stored, where so many of its events are made
abbrev pub is_gate_stored : Shape → ℕ → Adding → ℕ → Bool
is_gate_stored shape p adding made = is_over (region_append shape p adding.place (record_of_adding adding)) (made + 1)

-- the transaction with the record; a book has an end apart from what it ends
abbrev pub booked : Added → Record → Txn → Txn
booked (an_update u) r x = txn_behind (an_update u) r x
booked (a_deletion g) r x = txn_behind (a_deletion g) r x
booked (a_rollback t) r x = txn_behind (a_rollback t) r x
booked (a_compensation u cell) r x = txn_behind (a_compensation u cell) r x
booked (an_undone_end t) r x = x
booked (a_commit_end t) r x = x

-- A book has a record from the store of its gate on, one event before it is settled.
abbrev pub noticed : Shape → ℕ → UnderWay → Txn → Txn
noticed shape p nothing x = x
noticed shape p (appends adding made) x = if is_gate_stored shape p adding made then booked adding.added (record_of_adding adding) x else x
noticed shape p (closes gates ends made) x = x
noticed shape p (takes_back gates made) x = x
noticed shape p (drops r made) x = x
