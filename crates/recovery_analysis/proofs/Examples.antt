-- The definitions at a small log: two running transactions and a committed one, and a compensation.
use Rattle.std.proofs.Common.{◌≡◌, ℕ, ◌+◌, List, [], ◌∷◌, length, map, reverse, refl}
use Rattle.std.specs.List.{filter}
use Rattle.persist_model.specs.Region.{Words}
use Rattle.persist_model.specs.Records.{Log}
use Rattle.persist_model.specs.Need.{need_of}
use Rattle.persist_model.specs.State.{total_need}
use Rattle.bucket_log.specs.declared.scanning.Placed.{Placed}
use Rattle.bucket_log.specs.Scans.{record_of_placed}
use Rattle.recovery_run.specs.Groups.{records_of}
use Rattle.recovery_analysis.specs.Changes.{stored, is_redone, is_deleted, new_value, given_back}
use Rattle.recovery_analysis.specs.Works.{next_lsn}

abbrev placed : ℕ → ℕ → ℕ → ℕ → ℕ → Placed
placed gate t kind address value = record {
  at = gate + 100;
  cell = record { lsn = gate; transaction = t; kind = kind; word = address; before = 0; after = value; undo_next = 0; outcome = 1 };
}

-- by the transactions 7, 9 and 8; 9 is committed
abbrev merged : List Placed
merged = placed 1 7 1 400 5 ∷ placed 2 9 1 401 6 ∷ placed 3 8 1 402 7 ∷ placed 4 7 2 400 0 ∷ placed 5 9 6 432 1 ∷ placed 6 9 4 0 0 ∷ placed 7 9 1 401 8 ∷ []

abbrev log : Log
log = reverse (map record_of_placed merged)

records_example : length (records_of 7 log) ≡ 2
records_example = refl

-- a rollback record, a compensation of each open update, and an end
need_example : map (need_of log) (7 ∷ 8 ∷ 9 ∷ []) ≡ 2 ∷ 3 ∷ 0 ∷ []
need_example = refl

total_example : total_need (λ at. 0) 1 log ≡ 5
total_example = refl

next_example : next_lsn log ≡ 8
next_example = refl

next_of_none : next_lsn [] ≡ 1
next_of_none = refl

-- under no-force the updates of 9, in order, and then its deletion
redo_example : map new_value (filter (is_redone 2 (9 ∷ [])) merged) ≡ record { word = 401; value = 6 } ∷ record { word = 401; value = 8 } ∷ []
redo_example = refl

force_example : map new_value (filter (is_redone 1 (9 ∷ [])) merged) ≡ []
force_example = refl

deletion_example : map given_back (filter (is_deleted (9 ∷ [])) merged) ≡ record { word = 432; value = 0 } ∷ []
deletion_example = refl

-- the last value of a word counts
stored_example : (w : Words) → stored (record { word = 401; value = 6 } ∷ record { word = 401; value = 8 } ∷ []) w 401 ≡ 8
stored_example w = refl

other_word : (w : Words) → stored (record { word = 401; value = 6 } ∷ []) w 402 ≡ w 402
other_word w = refl
