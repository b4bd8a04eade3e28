-- What literal logs say of their transactions.
use Rattle.std.proofs.Common.{[], ◌∷◌, refl}
use Rattle.persist_model.specs.Records.{Log, IsEnded, IsRunning, IsCommitted, IsSkipped}
use Rattle.persist_model.specs.State.{HasOpen}
use Rattle.log_laws.proofs.Deciding.{from_yes, from_no, decide_ended, decide_running, decide_committed, decide_skipped}
use Rattle.log_laws.proofs.LogFaults.{decide_open}
use Rattle.log_laws.proofs.Examples.LiteralImages.{update, rollback, ending, checkpoint}

-- transaction 1 is committed, 2 rolled back, 3 runs
abbrev log : Log
log = update 88 7 3 584 0 1 0 ∷ ending 80 6 2 2 ∷ rollback 72 5 2 ∷ checkpoint 64 4 ∷ ending 56 3 1 1 ∷ update 48 2 1 583 5 6 1 ∷ update 40 1 1 583 0 5 0 ∷ []

ended_1 : IsEnded log 1
unfolding decide_ended
ended_1 = from_yes (decide_ended log 1) refl

committed_1 : IsCommitted log 1
unfolding decide_committed
committed_1 = from_yes (decide_committed log 1) refl

-- its end is older than the checkpoint record
skipped_1 : IsSkipped log 1
unfolding decide_skipped
skipped_1 = from_yes (decide_skipped log 1) refl

running_1 : IsRunning log 1 → ⊥
unfolding decide_running
running_1 = from_no (decide_running log 1) refl

ended_2 : IsEnded log 2
unfolding decide_ended
ended_2 = from_yes (decide_ended log 2) refl

committed_2 : IsCommitted log 2 → ⊥
unfolding decide_committed
committed_2 = from_no (decide_committed log 2) refl

skipped_2 : IsSkipped log 2 → ⊥
unfolding decide_skipped
skipped_2 = from_no (decide_skipped log 2) refl

running_3 : IsRunning log 3
unfolding decide_running
running_3 = from_yes (decide_running log 3) refl

ended_3 : IsEnded log 3 → ⊥
unfolding decide_ended
ended_3 = from_no (decide_ended log 3) refl

skipped_3 : IsSkipped log 3 → ⊥
unfolding decide_skipped
skipped_3 = from_no (decide_skipped log 3) refl

-- there is work for recovery, and none where all ends are skipped
open_log : HasOpen log
unfolding decide_open
open_log = from_yes (decide_open log) refl

skipped_log : HasOpen (checkpoint 64 4 ∷ ending 56 3 1 1 ∷ update 40 1 1 583 0 5 0 ∷ []) → ⊥
unfolding decide_open
skipped_log = from_no (decide_open (checkpoint 64 4 ∷ ending 56 3 1 1 ∷ update 40 1 1 583 0 5 0 ∷ [])) refl
