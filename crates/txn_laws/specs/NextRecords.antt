-- What a lane appends: the record that comes next in its transaction, and what is asked for it. All of it is said of the settled log.
use Rattle.std.specs.Prelude.{◌≡◌, ℕ, ◌≤◌, ◌+◌, true, false, Bool, List, ◌∷◌, [], length, if◌then◌else◌}
use Rattle.persist_model.specs.Region.{Words}
use Rattle.persist_model.specs.Records.{Record, NamesWord}
use Rattle.persist_model.specs.Need.{has_of}
use Rattle.persist_model.specs.Shape.{Shape, IsRootOwner, IsPlainOwner}
use Rattle.persist_model.specs.State.{State}
use Rattle.log_laws.specs.MoveRoom.{HasCells, HasItsCells}
use Rattle.bucket_log.specs.Appends.{region_append}
use Rattle.plan_records.specs.Cells.{IsCellOf}
use Rattle.plan_records.specs.Passing.{Passes}
use Rattle.log_keeper.specs.Making.{is_over}
use Rattle.history_laws.specs.UnderWay.{Added, an_update, a_deletion, a_rollback, a_compensation, an_undone_end, a_commit_end, Adding, record_of_adding}
use Rattle.txn_laws.specs.Txns.{Txn}
use Rattle.txn_laws.specs.Owners.{IsMine}
use Rattle.txn_laws.specs.AreTransactions.{IsUpdateAt}

-- the update of the first write that has none yet
pub record IsNextUpdate (shape : Shape) (s : State) (h : Words) (x : Txn) (r : Record) : Type 0 where
  pub no_root : IsRootOwner shape r.word → ⊥
  pub of_write : IsUpdateAt h x.writes (length x.updates) r
  pub point_is : r.undo_next ≡ x.point
  pub unrolled : x.rolled ≡ false
  pub cells : HasCells shape s r (if has_of r.transaction s.log then 2 else 4)

-- a deletion of a block that isn't a root
pub record IsNextDeletion (shape : Shape) (s : State) (x : Txn) (r : Record) : Type 0 where
  pub plain : IsPlainOwner shape r.word
  pub unrolled : x.rolled ≡ false
  pub cells : HasCells shape s r (if has_of r.transaction s.log then 1 else 3)

-- the compensation of the newest update u
pub record IsNextCompensation (x : Txn) (u : Record) : Type 0 where
  pub others : List Record
  pub newest_is : x.updates ≡ u ∷ others

-- an end where all that is written stands durably
pub record IsNextEnd (shape : Shape) (s : State) (x : Txn) (r : Record) (commits : Bool) : Type 0 where
  pub commits_is : x.commits ≡ commits
  pub fenced_is : x.fenced ≡ true
  pub stored_is : x.stored ≡ length x.updates
  pub cells : HasItsCells shape s r 1

-- what each kind asks
abbrev pub ComesNext : Shape → State → Words → Txn → Record → Added → Type 0
ComesNext shape s h x r (an_update u) = IsNextUpdate shape s h x r
ComesNext shape s h x r (a_deletion g) = IsNextDeletion shape s x r
ComesNext shape s h x r (a_rollback t) = (x.rolled ≡ false) × HasItsCells shape s r 2
ComesNext shape s h x r (a_compensation u cell) = IsCellOf cell u × IsNextCompensation x u
ComesNext shape s h x r (an_undone_end t) = (x.updates ≡ []) × IsNextEnd shape s x r false
ComesNext shape s h x r (a_commit_end t) = (length x.updates ≡ length x.writes) × IsNextEnd shape s x r true

abbrev pub is_end : Added → Bool
is_end (an_update u) = false
is_end (a_deletion g) = false
is_end (a_rollback t) = false
is_end (a_compensation u cell) = false
is_end (an_undone_end t) = true
is_end (a_commit_end t) = true

-- whether the end's gate is stored, where so many events of the append are made: it is with all but the last
abbrev pub ended_by : Shape → ℕ → Adding → ℕ → Bool
ended_by shape p adding made = if is_end adding.added then is_over (region_append shape p adding.place (record_of_adding adding)) (made + 1) else false

-- The lane whose transaction x is appends the record of `adding` in the partition p, and has made so many events of it.
pub record IsAppendOf (shape : Shape) (s : State) (h : Words) (p : ℕ) (x : Txn) (adding : Adding) (made : ℕ) : Type 0 where
  pub number : 1 ≤ x.number
  pub of : (record_of_adding adding).transaction ≡ x.number
  pub here : x.part ≡ p
  pub runs : x.over ≡ false
  pub passes : Passes s.log (record_of_adding adding)
  pub own : NamesWord (record_of_adding adding) → IsMine x (record_of_adding adding).word
  pub next : ComesNext shape s h x (record_of_adding adding) adding.added
  pub ended_is : x.ended ≡ ended_by shape p adding made
