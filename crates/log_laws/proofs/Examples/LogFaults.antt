-- Changes of the image of a put, and logs in buckets of 16 cells, that break the record rule, the order rule or the room rule.
use Rattle.std.proofs.Common.{ℕ, List, [], ◌∷◌, refl}
use Rattle.persist_model.specs.Faults.{IsFirstFault}
use Rattle.persist_model.specs.Sound.{IsSound}
use Rattle.log_laws.proofs.Soundness.{shape_some, parts_some, chains_in}
use Rattle.log_laws.proofs.RecordSorting.{log_of}
use Rattle.log_laws.proofs.LogFaults.{log_some}
use Rattle.log_laws.proofs.Verdicts.{word, words_of, is_sound, log_fault}
use Rattle.log_laws.proofs.Examples.LiteralImages.{simple, bucketed, header, ends, cell, update, compensation, rollback, ending, checkpoint, deletion}
use Rattle.log_laws.proofs.Examples.FirstScript.{first}
use Rattle.log_laws.proofs.Examples.Logged.{Breaks, breaks}

-- ---- records

-- kind 7, transaction 0, an address before the heap, the root's owner, an outcome of an update
kind_7 : IsFirstFault 352 (words_of (word 42 7 ∷ first)) 7 40
unfolding shape_some parts_some log_of log_some chains_in
kind_7 = log_fault 352 (words_of (word 42 7 ∷ first)) simple (record (update 40 1 1 103 0 7 0) { kind = 7 } ∷ []) 7 40 refl refl refl refl refl

no_transaction : IsFirstFault 352 (words_of (word 41 0 ∷ first)) 7 40
unfolding shape_some parts_some log_of log_some chains_in
no_transaction = log_fault 352 (words_of (word 41 0 ∷ first)) simple (update 40 1 0 103 0 7 0 ∷ []) 7 40 refl refl refl refl refl

before_heap : IsFirstFault 352 (words_of (word 43 95 ∷ first)) 7 40
unfolding shape_some parts_some log_of log_some chains_in
before_heap = log_fault 352 (words_of (word 43 95 ∷ first)) simple (update 40 1 1 95 0 7 0 ∷ []) 7 40 refl refl refl refl refl

owner_of_root : IsFirstFault 352 (words_of (word 43 96 ∷ first)) 7 40
unfolding shape_some parts_some log_of log_some chains_in
owner_of_root = log_fault 352 (words_of (word 43 96 ∷ first)) simple (update 40 1 1 96 0 7 0 ∷ []) 7 40 refl refl refl refl refl

outcome_of_update : IsFirstFault 352 (words_of (word 47 1 ∷ first)) 7 40
unfolding shape_some parts_some log_of log_some chains_in
outcome_of_update = log_fault 352 (words_of (word 47 1 ∷ first)) simple (record (update 40 1 1 103 0 7 0) { outcome = 1 } ∷ []) 7 40 refl refl refl refl refl

-- a deferred deletion of a root, and of a data word
deletion_of_root : IsFirstFault 352 (words_of (cell (deletion 40 1 1 96 1) first)) 7 40
unfolding shape_some parts_some log_of log_some chains_in
deletion_of_root = log_fault 352 (words_of (cell (deletion 40 1 1 96 1) first)) simple (deletion 40 1 1 96 1 ∷ []) 7 40 refl refl refl refl refl

deletion_of_data : IsFirstFault 352 (words_of (cell (deletion 40 1 1 113 1) first)) 7 40
unfolding shape_some parts_some log_of log_some chains_in
deletion_of_data = log_fault 352 (words_of (cell (deletion 40 1 1 113 1) first)) simple (deletion 40 1 1 113 1 ∷ []) 7 40 refl refl refl refl refl

-- an end without an outcome, and a checkpoint record of a transaction
end_without : IsFirstFault 352 (words_of (cell (ending 40 1 1 0) first)) 7 40
unfolding shape_some parts_some log_of log_some chains_in
end_without = log_fault 352 (words_of (cell (ending 40 1 1 0) first)) simple (ending 40 1 1 0 ∷ []) 7 40 refl refl refl refl refl

checkpoint_of : IsFirstFault 352 (words_of (cell (record (checkpoint 40 1) { transaction = 3 }) first)) 7 40
unfolding shape_some parts_some log_of log_some chains_in
checkpoint_of = log_fault 352 (words_of (cell (record (checkpoint 40 1) { transaction = 3 }) first)) simple (record (checkpoint 40 1) { transaction = 3 } ∷ []) 7 40 refl refl refl refl refl

-- kind 0, an outcome that is none, an address behind the heap and one below it
kind_0 : Breaks 1 (record (update 40 1 1 583 0 5 0) { kind = 0 } ∷ []) 7 40
unfolding shape_some parts_some log_of log_some chains_in
kind_0 = breaks 1 (record (update 40 1 1 583 0 5 0) { kind = 0 } ∷ []) 7 40 refl refl refl refl refl

outcome_3 : Breaks 1 (ending 40 1 1 3 ∷ []) 7 40
unfolding shape_some parts_some log_of log_some chains_in
outcome_3 = breaks 1 (ending 40 1 1 3 ∷ []) 7 40 refl refl refl refl refl

behind_heap : Breaks 1 (update 40 1 1 832 0 5 0 ∷ []) 7 40
unfolding shape_some parts_some log_of log_some chains_in
behind_heap = breaks 1 (update 40 1 1 832 0 5 0 ∷ []) 7 40 refl refl refl refl refl

below_heap : Breaks 1 (update 40 1 1 575 0 5 0 ∷ []) 7 40
unfolding shape_some parts_some log_of log_some chains_in
below_heap = breaks 1 (update 40 1 1 575 0 5 0 ∷ []) 7 40 refl refl refl refl refl

-- a compensation's word is tried as an update's is, before its order is
compensation_behind_heap : Breaks 1 (compensation 48 2 1 832 5 0 0 ∷ update 40 1 1 583 0 5 0 ∷ []) 7 48
unfolding shape_some parts_some log_of log_some chains_in
compensation_behind_heap = breaks 1 (compensation 48 2 1 832 5 0 0 ∷ update 40 1 1 583 0 5 0 ∷ []) 7 48 refl refl refl refl refl

compensation_of_root : Breaks 1 (compensation 48 2 1 576 5 0 0 ∷ update 40 1 1 583 0 5 0 ∷ []) 7 48
unfolding shape_some parts_some log_of log_some chains_in
compensation_of_root = breaks 1 (compensation 48 2 1 576 5 0 0 ∷ update 40 1 1 583 0 5 0 ∷ []) 7 48 refl refl refl refl refl

-- ---- order

-- the first update of a transaction has nothing to undo next
undo_next_1 : IsFirstFault 352 (words_of (word 46 1 ∷ first)) 8 40
unfolding shape_some parts_some log_of log_some chains_in
undo_next_1 = log_fault 352 (words_of (word 46 1 ∷ first)) simple (update 40 1 1 103 0 7 1 ∷ []) 8 40 refl refl refl refl refl

-- one bucket of 16 cells, which begin at 40
abbrev log_of_cells : (List (ℕ × ℕ) → List (ℕ × ℕ)) → List (ℕ × ℕ)
log_of_cells cells = header 1 16 (ends 32 32 (cells (word 576 1 ∷ [])))

-- a record behind its transaction's end
after_end : IsFirstFault 832 (words_of (log_of_cells (λ more. cell (update 40 1 1 583 0 5 0) (cell (ending 48 2 1 1) (cell (update 56 3 1 583 5 6 1) (more)))))) 8 56
unfolding shape_some parts_some log_of log_some chains_in
after_end = log_fault 832 (words_of (log_of_cells (λ more. cell (update 40 1 1 583 0 5 0) (cell (ending 48 2 1 1) (cell (update 56 3 1 583 5 6 1) (more)))))) (bucketed 1) (update 56 3 1 583 5 6 1 ∷ ending 48 2 1 1 ∷ update 40 1 1 583 0 5 0 ∷ []) 8 56 refl refl refl refl refl

-- a word that a running transaction has changed, and one whose block a committed one has given back
word_of_running : IsFirstFault 832 (words_of (log_of_cells (λ more. cell (update 40 1 1 583 0 5 0) (cell (update 48 2 2 583 5 6 0) (more))))) 8 48
unfolding shape_some parts_some log_of log_some chains_in
word_of_running = log_fault 832 (words_of (log_of_cells (λ more. cell (update 40 1 1 583 0 5 0) (cell (update 48 2 2 583 5 6 0) (more))))) (bucketed 1) (update 48 2 2 583 5 6 0 ∷ update 40 1 1 583 0 5 0 ∷ []) 8 48 refl refl refl refl refl

word_given : IsFirstFault 832 (words_of (log_of_cells (λ more. cell (deletion 40 1 1 592 1) (cell (ending 48 2 1 1) (cell (update 56 3 2 592 0 2 0) (more)))))) 8 56
unfolding shape_some parts_some log_of log_some chains_in
word_given = log_fault 832 (words_of (log_of_cells (λ more. cell (deletion 40 1 1 592 1) (cell (ending 48 2 1 1) (cell (update 56 3 2 592 0 2 0) (more)))))) (bucketed 1) (update 56 3 2 592 0 2 0 ∷ ending 48 2 1 1 ∷ deletion 40 1 1 592 1 ∷ []) 8 56 refl refl refl refl refl

-- an update behind its transaction's rollback record
update_after_rollback : IsFirstFault 832 (words_of (log_of_cells (λ more. cell (update 40 1 1 583 0 5 0) (cell (rollback 48 2 1) (cell (update 56 3 1 584 0 5 1) (more)))))) 8 56
unfolding shape_some parts_some log_of log_some chains_in
update_after_rollback = log_fault 832 (words_of (log_of_cells (λ more. cell (update 40 1 1 583 0 5 0) (cell (rollback 48 2 1) (cell (update 56 3 1 584 0 5 1) (more)))))) (bucketed 1) (update 56 3 1 584 0 5 1 ∷ rollback 48 2 1 ∷ update 40 1 1 583 0 5 0 ∷ []) 8 56 refl refl refl refl refl

-- an old value that isn't the last new one, and an undo next that isn't the undo point
wrong_before : IsFirstFault 832 (words_of (log_of_cells (λ more. cell (update 40 1 1 583 0 5 0) (cell (update 48 2 1 583 4 6 1) (more))))) 8 48
unfolding shape_some parts_some log_of log_some chains_in
wrong_before = log_fault 832 (words_of (log_of_cells (λ more. cell (update 40 1 1 583 0 5 0) (cell (update 48 2 1 583 4 6 1) (more))))) (bucketed 1) (update 48 2 1 583 4 6 1 ∷ update 40 1 1 583 0 5 0 ∷ []) 8 48 refl refl refl refl refl

wrong_undo_next : IsFirstFault 832 (words_of (log_of_cells (λ more. cell (update 40 1 1 583 0 5 0) (cell (update 48 2 1 583 5 6 0) (more))))) 8 48
unfolding shape_some parts_some log_of log_some chains_in
wrong_undo_next = log_fault 832 (words_of (log_of_cells (λ more. cell (update 40 1 1 583 0 5 0) (cell (update 48 2 1 583 5 6 0) (more))))) (bucketed 1) (update 48 2 1 583 5 6 0 ∷ update 40 1 1 583 0 5 0 ∷ []) 8 48 refl refl refl refl refl

-- a compensation of the older of two updates, and one of nothing
older_compensated : IsFirstFault 832 (words_of (log_of_cells (λ more. cell (update 40 1 1 583 0 5 0) (cell (update 48 2 1 584 0 6 1) (cell (compensation 56 3 1 583 5 0 0) (more)))))) 8 56
unfolding shape_some parts_some log_of log_some chains_in
older_compensated = log_fault 832 (words_of (log_of_cells (λ more. cell (update 40 1 1 583 0 5 0) (cell (update 48 2 1 584 0 6 1) (cell (compensation 56 3 1 583 5 0 0) (more)))))) (bucketed 1) (compensation 56 3 1 583 5 0 0 ∷ update 48 2 1 584 0 6 1 ∷ update 40 1 1 583 0 5 0 ∷ []) 8 56 refl refl refl refl refl

nothing_compensated : IsFirstFault 832 (words_of (log_of_cells (λ more. cell (update 40 1 1 583 0 5 0) (cell (compensation 48 2 1 583 5 0 0) (cell (compensation 56 3 1 583 5 0 0) (more)))))) 8 56
unfolding shape_some parts_some log_of log_some chains_in
nothing_compensated = log_fault 832 (words_of (log_of_cells (λ more. cell (update 40 1 1 583 0 5 0) (cell (compensation 48 2 1 583 5 0 0) (cell (compensation 56 3 1 583 5 0 0) (more)))))) (bucketed 1) (compensation 56 3 1 583 5 0 0 ∷ compensation 48 2 1 583 5 0 0 ∷ update 40 1 1 583 0 5 0 ∷ []) 8 56 refl refl refl refl refl

-- the record rule is tried for all before the order rule
record_before_order : IsFirstFault 832 (words_of (log_of_cells (λ more. cell (update 40 1 1 583 0 5 1) (cell (record (update 48 2 1 583 5 6 1) { kind = 7 }) (more))))) 7 48
unfolding shape_some parts_some log_of log_some chains_in
record_before_order = log_fault 832 (words_of (log_of_cells (λ more. cell (update 40 1 1 583 0 5 1) (cell (record (update 48 2 1 583 5 6 1) { kind = 7 }) (more))))) (bucketed 1) (record (update 48 2 1 583 5 6 1) { kind = 7 } ∷ update 40 1 1 583 0 5 1 ∷ []) 7 48 refl refl refl refl refl

-- ---- room

-- the number is the greatest that a number may be, and recovery would draw three more
no_numbers : IsFirstFault 352 (words_of (word 40 9223372036854775808 ∷ first)) 9 9
unfolding shape_some parts_some log_of log_some chains_in
no_numbers = log_fault 352 (words_of (word 40 9223372036854775808 ∷ first)) simple (update 40 9223372036854775808 1 103 0 7 0 ∷ []) 9 9 refl refl refl refl refl

numbers_of_three : IsFirstFault 352 (words_of (word 40 9223372036854775806 ∷ first)) 9 9
unfolding shape_some parts_some log_of log_some chains_in
numbers_of_three = log_fault 352 (words_of (word 40 9223372036854775806 ∷ first)) simple (update 40 9223372036854775806 1 103 0 7 0 ∷ []) 9 9 refl refl refl refl refl

-- with three left it is sound
numbers_left : IsSound 352 (words_of (word 40 9223372036854775805 ∷ first))
unfolding shape_some parts_some log_of log_some chains_in
numbers_left = is_sound 352 (words_of (word 40 9223372036854775805 ∷ first)) simple (update 40 9223372036854775805 1 103 0 7 0 ∷ []) refl refl refl refl refl

-- under no-force a running transaction needs a cell more, for recovery's checkpoint record, than the three that are free
running_needs_four : IsFirstFault 352 (words_of (word 1 2 ∷ first)) 9 9
unfolding shape_some parts_some log_of log_some chains_in
running_needs_four = log_fault 352 (words_of (word 1 2 ∷ first)) (record simple { policy = 2 }) (update 40 1 1 103 0 7 0 ∷ []) 9 9 refl refl refl refl refl

-- and an ended one that isn't skipped needs that cell alone
abbrev ended : List (ℕ × ℕ)
ended = word 1 2 ∷ word 9 48 ∷ word 32 48 ∷ word 49 32 ∷ cell (ending 56 2 1 1) first

ended_needs_one : IsSound 352 (words_of ended)
unfolding shape_some parts_some log_of log_some chains_in
ended_needs_one = is_sound 352 (words_of ended) (record simple { policy = 2 }) (ending 56 2 1 1 ∷ update 40 1 1 103 0 7 0 ∷ []) refl refl refl refl refl
