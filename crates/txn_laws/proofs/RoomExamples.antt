-- What lanes need and what is reserved for them, on literals: two partitions of four buckets with one cell each. In the first, transaction 9 of lane 0
-- has two updates, and transaction 7 of lane 1 is over; transaction 5 of lane 2 is in the second, with one deletion.
use Rattle.std.proofs.Common.{◌≡◌, ℕ, zero, suc, true, false, List, [], ◌∷◌, refl}
use Rattle.persist_model.specs.Kinds.{COMMITTED, DELETION, END, NO_OUTCOME, UPDATE}
use Rattle.persist_model.specs.Records.{Record, Log}
use Rattle.persist_model.specs.Shape.{Shape}
use Rattle.bucket_log.specs.declared.append.Place.{Place}
use Rattle.log_keeper.specs.Parts.{appends, closes}
use Rattle.log_keeper.specs.Logged.{Keeping}
use Rattle.log_keeper.specs.Needs.{need_at}
use Rattle.txn_laws.specs.Txns.{Txn, idle, txn_at}
use Rattle.txn_laws.specs.Needs.{undo_cells, is_open, need_by, sum_lanes}
use Rattle.txn_laws.specs.Rooms.{stores_gate, taken_in, Share, reserved_by, reserved_in, sum_below}

abbrev shape : Shape
shape = record { policy = 1; cells = 1; buckets = 8; blocks = 16; structures = 1; format = 2; partitions = 2 }

abbrev record_of : ℕ → ℕ → ℕ → ℕ → ℕ → Record
record_of at lsn t kind outcome = record { at = at; lsn = lsn; transaction = t; kind = kind; word = 190; before = 0; after = 0; undo_next = 0; outcome = outcome }

abbrev second : Record
second = record_of 56 4 9 UPDATE NO_OUTCOME

abbrev first : Record
first = record_of 40 3 9 UPDATE NO_OUTCOME

abbrev records : Log
records = record_of 104 5 5 DELETION NO_OUTCOME ∷ second ∷ first ∷ record_of 72 2 7 END COMMITTED ∷ []

abbrev writer : Txn
writer = record idle { number = 9; part = 0; updates = second ∷ first ∷ [] }

abbrev ender : Txn
ender = record idle { number = 7; part = 0; commits = true; ended = true; over = true }

abbrev giver : Txn
giver = record idle { number = 5; part = 1; gifts = record { word = 190; gate = 104 } ∷ [] }

abbrev lanes : List Txn
lanes = writer ∷ ender ∷ giver ∷ []

-- ---- needs

-- two compensations, a rollback record and an end; behind the rollback record one less
undone : (undo_cells writer ≡ 4) × (undo_cells (record writer { rolled = true }) ≡ 3) × (undo_cells giver ≡ 2)
undone = (refl, refl, refl)

-- an ended transaction isn't open, nor one without a record
opened : (is_open records writer ≡ true) × (is_open records ender ≡ false) × (is_open records (record idle { number = 3 }) ≡ false)
opened = (refl, refl, refl)

needs : (sum_lanes (need_by 0 records) lanes ≡ 4) × (need_at shape 0 records ≡ 4) × (sum_lanes (need_by 1 records) lanes ≡ 2) × (need_at shape 1 records ≡ 2)
needs = (refl, refl, refl, refl)

-- ---- reserved cells

-- lane 0 has a call that writes one word more, and lane 1 has begun nothing
abbrev shares : ℕ → Share
shares zero = record { promised = 2; bound = true }
shares (suc zero) = record { promised = 0; bound = false }
shares (suc (suc l)) = record { promised = 0; bound = true }

reserved : (reserved_in shares lanes 0 ≡ 6) × (reserved_in shares lanes 1 ≡ 2)
reserved = (refl, refl)

summed : sum_below (λ l. reserved_by 0 (shares l) (txn_at lanes l)) 3 ≡ 6
summed = refl

-- a first call's promise has two cells beside it
first_call : reserved_by 0 (record { promised = 2; bound = true }) (record idle { number = 3 }) ≡ 4
first_call = refl

-- ---- a cell is taken

abbrev place : Place
place = record { bucket = 32; cell = 0; fresh = false; tail = 32 }

abbrev appending : ℕ → Keeping
appending made = record { ledger = []; runs = λ q. record { part = appends place second; made = made }; holder = λ q. 0 }

-- with the ninth of an append's ten events, in its own partition
takes : (taken_in shape (appending 8) 0 0 ≡ 1) × (taken_in shape (appending 8) 0 1 ≡ 0) × (taken_in shape (appending 7) 0 0 ≡ 0) × (taken_in shape (appending 9) 0 0 ≡ 0)
takes = (refl, refl, refl, refl)

-- a closing takes none
closing_takes : stores_gate shape (record { ledger = []; runs = λ q. record { part = closes (40 ∷ []) [] []; made = 0 }; holder = λ q. 0 }) 0 ≡ false
closing_takes = refl
