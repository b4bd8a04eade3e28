-- The definitions on literals: transaction 7 of lane 0 has written 5 to word 170 and gives the block at 176 back; transaction 9 of lane 1 has
-- written 1 and then 2 to word 190, and the second isn't stored yet.
use Rattle.std.proofs.Common.{◌≡◌, ℕ, true, false, ◌==◌, ◌||◌, [], ◌∷◌, refl, arith}
use Rattle.persist_model.specs.Region.{Words}
use Rattle.persist_model.specs.Progress.{write}
use Rattle.persist_model.specs.Records.{Record}
use Rattle.persist_model.specs.Kinds.{NO_OUTCOME, UPDATE}
use Rattle.txn_laws.specs.Txns.{Txn, idle, idle_lanes, txn_at, with_txn}
use Rattle.txn_laws.specs.Flights.{flight_of}
use Rattle.txn_laws.specs.Owners.{IsMine}
use Rattle.txn_laws.specs.Heaps.{now_of}
use Rattle.txn_laws.specs.AreTransactions.{IsUpdateAt, AreUpdatesOf, recorded}

-- an update of transaction 9's word 190
abbrev update : ℕ → ℕ → ℕ → Record
update number before after = record {
  at = 40;
  lsn = number;
  transaction = 9;
  kind = UPDATE;
  word = 190;
  before = before;
  after = after;
  undo_next = 0;
  outcome = NO_OUTCOME;
}

abbrev first : Txn
first = record idle {
  number = 7;
  words = λ a. (a == 170) || (a == 176);
  writes = write 170 5 ∷ [];
  stored = 1;
  gifts = record { word = 176; gate = 56 } ∷ [];
  commits = true;
  ended = true;
}

abbrev second : Txn
second = record idle { number = 9; words = λ a. a == 190; writes = write 190 1 ∷ write 190 2 ∷ []; updates = update 4 1 2 ∷ update 3 8 1 ∷ []; stored = 1 }

-- the history's heap has 8 in each word
abbrev heap : Words
heap = λ a. 8

-- ---- whose a word is, and what is found there

own_word : IsMine first 176
own_word = refl

found_first : now_of (first ∷ second ∷ []) heap 170 ≡ 5
found_first = refl

-- a block that is given back keeps its owner word until the commit's end is fenced
found_given : now_of (first ∷ second ∷ []) heap 176 ≡ 8
found_given = refl

found_second : now_of (first ∷ second ∷ []) heap 190 ≡ 1
found_second = refl

found_nobodys : now_of (first ∷ second ∷ []) heap 200 ≡ 8
found_nobodys = refl

-- once it has joined the history, the history has its writes
found_over : now_of (record first { over = true } ∷ second ∷ []) heap 170 ≡ 8
found_over = refl

-- ---- the flight

flight_one : flight_of (first ∷ second ∷ []) ≡ record { transaction = 7; writes = write 170 5 ∷ write 176 0 ∷ [] } ∷ []
flight_one = refl

flight_before : flight_of (record first { ended = false } ∷ second ∷ []) ≡ []
flight_before = refl

flight_behind : flight_of (record first { over = true } ∷ second ∷ []) ≡ []
flight_behind = refl

-- the end of an undo is no commit
flight_undone : flight_of (record first { commits = false } ∷ second ∷ []) ≡ []
flight_undone = refl

-- ---- the updates of the writes

updates_two : AreUpdatesOf heap second.writes second.updates
updates_two = (record { of_write = refl; before = refl }, (record { of_write = refl; before = refl }, tt))

-- the second write's OLD is the first's value
wrong_old : IsUpdateAt heap second.writes 1 (update 4 8 2) → ⊥
wrong_old h = let e : 8 ≡ 1 = h.before in omega (arith, e)

recorded_one : recorded (record second { updates = update 3 8 1 ∷ [] }) ≡ write 190 1 ∷ []
recorded_one = refl

-- ---- lanes

changed_lane : txn_at (with_txn 1 second (idle_lanes 3)) 1 ≡ second
changed_lane = refl

past_lanes : txn_at (first ∷ second ∷ []) 2 ≡ idle
past_lanes = refl
