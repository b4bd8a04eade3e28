-- Logs that break the order rule by what is undone and by what is given back, each behind or beside an update of word 583 from 0 to 5.
use Rattle.std.proofs.Common.{[], ◌∷◌, refl}
use Rattle.persist_model.specs.Records.{Record}
use Rattle.log_laws.proofs.Soundness.{shape_some, parts_some, chains_in}
use Rattle.log_laws.proofs.RecordSorting.{log_of}
use Rattle.log_laws.proofs.LogFaults.{log_some}
use Rattle.log_laws.proofs.Examples.LiteralImages.{update, compensation, rollback, ending, deletion}
use Rattle.log_laws.proofs.Examples.Logged.{Breaks, IsGood, breaks, good}

abbrev u : Record
u = update 40 1 1 583 0 5 0

-- ---- its compensation, and those with one field wrong

compensated : IsGood 1 (compensation 48 2 1 583 5 0 0 ∷ u ∷ [])
unfolding shape_some parts_some log_of log_some chains_in
compensated = good 1 (compensation 48 2 1 583 5 0 0 ∷ u ∷ []) refl refl refl refl refl

other_before : Breaks 1 (compensation 48 2 1 583 0 0 0 ∷ u ∷ []) 8 48
unfolding shape_some parts_some log_of log_some chains_in
other_before = breaks 1 (compensation 48 2 1 583 0 0 0 ∷ u ∷ []) 8 48 refl refl refl refl refl

other_after : Breaks 1 (compensation 48 2 1 583 5 4 0 ∷ u ∷ []) 8 48
unfolding shape_some parts_some log_of log_some chains_in
other_after = breaks 1 (compensation 48 2 1 583 5 4 0 ∷ u ∷ []) 8 48 refl refl refl refl refl

other_word : Breaks 1 (compensation 48 2 1 584 5 0 0 ∷ u ∷ []) 8 48
unfolding shape_some parts_some log_of log_some chains_in
other_word = breaks 1 (compensation 48 2 1 584 5 0 0 ∷ u ∷ []) 8 48 refl refl refl refl refl

other_undo_next : Breaks 1 (compensation 48 2 1 583 5 0 1 ∷ u ∷ []) 8 48
unfolding shape_some parts_some log_of log_some chains_in
other_undo_next = breaks 1 (compensation 48 2 1 583 5 0 1 ∷ u ∷ []) 8 48 refl refl refl refl refl

-- ---- behind a rollback record

second_rollback : Breaks 1 (rollback 56 3 1 ∷ rollback 48 2 1 ∷ u ∷ []) 8 56
unfolding shape_some parts_some log_of log_some chains_in
second_rollback = breaks 1 (rollback 56 3 1 ∷ rollback 48 2 1 ∷ u ∷ []) 8 56 refl refl refl refl refl

deletion_after_rollback : Breaks 1 (deletion 56 3 1 592 1 ∷ rollback 48 2 1 ∷ u ∷ []) 8 56
unfolding shape_some parts_some log_of log_some chains_in
deletion_after_rollback = breaks 1 (deletion 56 3 1 592 1 ∷ rollback 48 2 1 ∷ u ∷ []) 8 56 refl refl refl refl refl

-- ---- a running transaction's deletion bars others from its word, and its update bars their deletions

update_of_given : Breaks 1 (update 48 2 2 592 1 2 0 ∷ deletion 40 1 1 592 1 ∷ []) 8 48
unfolding shape_some parts_some log_of log_some chains_in
update_of_given = breaks 1 (update 48 2 2 592 1 2 0 ∷ deletion 40 1 1 592 1 ∷ []) 8 48 refl refl refl refl refl

deletion_of_updated : Breaks 1 (deletion 48 2 2 592 1 ∷ update 40 1 1 592 0 1 0 ∷ []) 8 48
unfolding shape_some parts_some log_of log_some chains_in
deletion_of_updated = breaks 1 (deletion 48 2 2 592 1 ∷ update 40 1 1 592 0 1 0 ∷ []) 8 48 refl refl refl refl refl

-- ---- of an ended transaction no undo point is asked

ended_undo_next : IsGood 1 (ending 48 2 1 1 ∷ update 40 1 1 583 0 5 9 ∷ [])
unfolding shape_some parts_some log_of log_some chains_in
ended_undo_next = good 1 (ending 48 2 1 1 ∷ update 40 1 1 583 0 5 9 ∷ []) refl refl refl refl refl
