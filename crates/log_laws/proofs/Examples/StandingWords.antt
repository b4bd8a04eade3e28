-- What words stand at, on logs in one bucket of 16 cells. Word 583 is data of the root, and 592 the owner of a plain block.
use Rattle.std.proofs.Common.{◌≡◌, ℕ, List, [], ◌∷◌, refl}
use Rattle.persist_model.specs.Need.{to_undo, unnamed_updates, need_of}
use Rattle.persist_model.specs.Order.{undo_point}
use Rattle.persist_model.specs.Faults.{IsFirstFault}
use Rattle.persist_model.specs.Sound.{IsSound, StandsIn}
use Rattle.log_laws.proofs.Standings.{stands_some}
use Rattle.log_laws.proofs.Soundness.{shape_some, parts_some, chains_in}
use Rattle.log_laws.proofs.RecordSorting.{log_of}
use Rattle.log_laws.proofs.LogFaults.{log_some}
use Rattle.log_laws.proofs.Verdicts.{word, words_of, is_sound, log_fault, stands_at}
use Rattle.log_laws.proofs.Examples.LiteralImages.{bucketed, header, ends, cell, update, compensation, rollback, ending, checkpoint, deletion}
use Rattle.log_laws.proofs.Examples.Logged.{StandsAt, stands}

-- an image with these cells and heap words
abbrev image : ℕ → (List (ℕ × ℕ) → List (ℕ × ℕ)) → List (ℕ × ℕ) → List (ℕ × ℕ)
image policy cells heap = header policy 16 (ends 32 32 (cells (word 576 1 ∷ heap)))

-- a running update over a committed one: the old value of the running one
abbrev over : List (ℕ × ℕ)
over = image 2 (λ more. cell (update 40 1 1 583 0 5 0) (cell (ending 48 2 1 1) (cell (update 56 3 2 583 5 9 0) (more)))) (word 583 9 ∷ [])

over_is_sound : IsSound 832 (words_of over)
unfolding shape_some parts_some log_of log_some chains_in
over_is_sound = is_sound 832 (words_of over) (bucketed 2) (update 56 3 2 583 5 9 0 ∷ ending 48 2 1 1 ∷ update 40 1 1 583 0 5 0 ∷ []) refl refl refl refl refl

over_583 : StandsIn (words_of over) 583 5
unfolding parts_some log_of chains_in stands_some
over_583 = stands_at 832 (words_of over) (bucketed 2) (update 56 3 2 583 5 9 0 ∷ ending 48 2 1 1 ∷ update 40 1 1 583 0 5 0 ∷ []) 583 5 refl refl refl refl

-- a committed update that isn't in the heap yet: its new value, under no-force
abbrev committed : List (ℕ × ℕ)
committed = image 2 (λ more. cell (update 40 1 1 583 0 5 0) (cell (ending 48 2 1 1) (more))) ([])

committed_is_sound : IsSound 832 (words_of committed)
unfolding shape_some parts_some log_of log_some chains_in
committed_is_sound = is_sound 832 (words_of committed) (bucketed 2) (ending 48 2 1 1 ∷ update 40 1 1 583 0 5 0 ∷ []) refl refl refl refl refl

committed_583 : StandsIn (words_of committed) 583 5
unfolding parts_some log_of chains_in stands_some
committed_583 = stands_at 832 (words_of committed) (bucketed 2) (ending 48 2 1 1 ∷ update 40 1 1 583 0 5 0 ∷ []) 583 5 refl refl refl refl

-- under force the word itself, which has it
abbrev forced : List (ℕ × ℕ)
forced = image 1 (λ more. cell (update 40 1 1 583 0 5 0) (cell (ending 48 2 1 1) (more))) (word 583 5 ∷ [])

forced_is_sound : IsSound 832 (words_of forced)
unfolding shape_some parts_some log_of log_some chains_in
forced_is_sound = is_sound 832 (words_of forced) (bucketed 1) (ending 48 2 1 1 ∷ update 40 1 1 583 0 5 0 ∷ []) refl refl refl refl refl

forced_583 : StandsIn (words_of forced) 583 5
unfolding parts_some log_of chains_in stands_some
forced_583 = stands_at 832 (words_of forced) (bucketed 1) (ending 48 2 1 1 ∷ update 40 1 1 583 0 5 0 ∷ []) 583 5 refl refl refl refl

-- an end that is older than a checkpoint record: its transaction is skipped, and the word itself stands
abbrev skipped : List (ℕ × ℕ)
skipped = image 2 (λ more. cell (update 40 1 1 583 0 5 0) (cell (ending 48 2 1 1) (cell (checkpoint 56 3) (more)))) (word 583 4 ∷ [])

skipped_is_sound : IsSound 832 (words_of skipped)
unfolding shape_some parts_some log_of log_some chains_in
skipped_is_sound = is_sound 832 (words_of skipped) (bucketed 2) (checkpoint 56 3 ∷ ending 48 2 1 1 ∷ update 40 1 1 583 0 5 0 ∷ []) refl refl refl refl refl

skipped_583 : StandsIn (words_of skipped) 583 4
unfolding parts_some log_of chains_in stands_some
skipped_583 = stands_at 832 (words_of skipped) (bucketed 2) (checkpoint 56 3 ∷ ending 48 2 1 1 ∷ update 40 1 1 583 0 5 0 ∷ []) 583 4 refl refl refl refl

-- an end that is newer than it
abbrev ended_later : List (ℕ × ℕ)
ended_later = image 2 (λ more. cell (checkpoint 40 1) (cell (update 48 2 1 583 0 5 0) (cell (ending 56 3 1 1) (more)))) (word 583 4 ∷ [])

ended_later_is_sound : IsSound 832 (words_of ended_later)
unfolding shape_some parts_some log_of log_some chains_in
ended_later_is_sound = is_sound 832 (words_of ended_later) (bucketed 2) (ending 56 3 1 1 ∷ update 48 2 1 583 0 5 0 ∷ checkpoint 40 1 ∷ []) refl refl refl refl refl

ended_later_583 : StandsIn (words_of ended_later) 583 5
unfolding parts_some log_of chains_in stands_some
ended_later_583 = stands_at 832 (words_of ended_later) (bucketed 2) (ending 56 3 1 1 ∷ update 48 2 1 583 0 5 0 ∷ checkpoint 40 1 ∷ []) 583 5 refl refl refl refl

-- a transaction that was rolled back: the new value of its compensation
abbrev rolled_back : List (ℕ × ℕ)
rolled_back = image 2 (λ more. cell (update 40 1 1 583 0 5 0) (cell (rollback 48 2 1) (cell (compensation 56 3 1 583 5 0 0) (cell (ending 64 4 1 2) (more))))) (word 583 5 ∷ [])

rolled_back_is_sound : IsSound 832 (words_of rolled_back)
unfolding shape_some parts_some log_of log_some chains_in
rolled_back_is_sound = is_sound 832 (words_of rolled_back) (bucketed 2) (ending 64 4 1 2 ∷ compensation 56 3 1 583 5 0 0 ∷ rollback 48 2 1 ∷ update 40 1 1 583 0 5 0 ∷ []) refl refl refl refl refl

rolled_back_583 : StandsIn (words_of rolled_back) 583 0
unfolding parts_some log_of chains_in stands_some
rolled_back_583 = stands_at 832 (words_of rolled_back) (bucketed 2) (ending 64 4 1 2 ∷ compensation 56 3 1 583 5 0 0 ∷ rollback 48 2 1 ∷ update 40 1 1 583 0 5 0 ∷ []) 583 0 refl refl refl refl

-- a deferred deletion of a committed transaction: 0
abbrev given : List (ℕ × ℕ)
given = image 1 (λ more. cell (deletion 40 1 1 592 1) (cell (ending 48 2 1 1) (more))) (word 592 1 ∷ [])

given_is_sound : IsSound 832 (words_of given)
unfolding shape_some parts_some log_of log_some chains_in
given_is_sound = is_sound 832 (words_of given) (bucketed 1) (ending 48 2 1 1 ∷ deletion 40 1 1 592 1 ∷ []) refl refl refl refl refl

given_592 : StandsIn (words_of given) 592 0
unfolding parts_some log_of chains_in stands_some
given_592 = stands_at 832 (words_of given) (bucketed 1) (ending 48 2 1 1 ∷ deletion 40 1 1 592 1 ∷ []) 592 0 refl refl refl refl

-- of a running one: the owner stays
abbrev giving : List (ℕ × ℕ)
giving = image 1 (λ more. cell (deletion 40 1 1 592 1) (more)) (word 592 1 ∷ [])

giving_is_sound : IsSound 832 (words_of giving)
unfolding shape_some parts_some log_of log_some chains_in
giving_is_sound = is_sound 832 (words_of giving) (bucketed 1) (deletion 40 1 1 592 1 ∷ []) refl refl refl refl refl

giving_592 : StandsIn (words_of giving) 592 1
unfolding parts_some log_of chains_in stands_some
giving_592 = stands_at 832 (words_of giving) (bucketed 1) (deletion 40 1 1 592 1 ∷ []) 592 1 refl refl refl refl

-- of one that was rolled back
abbrev not_given : List (ℕ × ℕ)
not_given = image 1 (λ more. cell (deletion 40 1 1 592 1) (cell (rollback 48 2 1) (cell (ending 56 3 1 2) (more)))) (word 592 1 ∷ [])

not_given_is_sound : IsSound 832 (words_of not_given)
unfolding shape_some parts_some log_of log_some chains_in
not_given_is_sound = is_sound 832 (words_of not_given) (bucketed 1) (ending 56 3 1 2 ∷ rollback 48 2 1 ∷ deletion 40 1 1 592 1 ∷ []) refl refl refl refl refl

not_given_592 : StandsIn (words_of not_given) 592 1
unfolding parts_some log_of chains_in stands_some
not_given_592 = stands_at 832 (words_of not_given) (bucketed 1) (ending 56 3 1 2 ∷ rollback 48 2 1 ∷ deletion 40 1 1 592 1 ∷ []) 592 1 refl refl refl refl

-- a compensation without a rollback record, and an update behind it: the earliest old value
abbrev taken_back : List (ℕ × ℕ)
taken_back = image 1 (λ more. cell (update 40 1 1 583 0 5 0) (cell (compensation 48 2 1 583 5 0 0) (cell (update 56 3 1 583 0 9 0) (more)))) (word 583 9 ∷ [])

taken_back_is_sound : IsSound 832 (words_of taken_back)
unfolding shape_some parts_some log_of log_some chains_in
taken_back_is_sound = is_sound 832 (words_of taken_back) (bucketed 1) (update 56 3 1 583 0 9 0 ∷ compensation 48 2 1 583 5 0 0 ∷ update 40 1 1 583 0 5 0 ∷ []) refl refl refl refl refl

taken_back_583 : StandsIn (words_of taken_back) 583 0
unfolding parts_some log_of chains_in stands_some
taken_back_583 = stands_at 832 (words_of taken_back) (bucketed 1) (update 56 3 1 583 0 9 0 ∷ compensation 48 2 1 583 5 0 0 ∷ update 40 1 1 583 0 5 0 ∷ []) 583 0 refl refl refl refl

-- the compensation names the first update, so the second one is left: a rollback record, its compensation and an end
taken_back_left : (to_undo 1 (update 56 3 1 583 0 9 0 ∷ compensation 48 2 1 583 5 0 0 ∷ update 40 1 1 583 0 5 0 ∷ []) ≡ update 56 3 1 583 0 9 0 ∷ [])
    × (unnamed_updates 1 (update 56 3 1 583 0 9 0 ∷ compensation 48 2 1 583 5 0 0 ∷ update 40 1 1 583 0 5 0 ∷ []) (update 56 3 1 583 0 9 0 ∷ compensation 48 2 1 583 5 0 0 ∷ update 40 1 1 583 0 5 0 ∷ []) ≡ update 56 3 1 583 0 9 0 ∷ [])
    × (undo_point 1 (update 56 3 1 583 0 9 0 ∷ compensation 48 2 1 583 5 0 0 ∷ update 40 1 1 583 0 5 0 ∷ []) ≡ 3) × (need_of (update 56 3 1 583 0 9 0 ∷ compensation 48 2 1 583 5 0 0 ∷ update 40 1 1 583 0 5 0 ∷ []) 1 ≡ 3)
taken_back_left = (refl, refl, refl, refl)

-- its undo next is the undo point, which is 0 and not the update that was taken back
abbrev wrong_point : List (ℕ × ℕ)
wrong_point = image 1 (λ more. cell (update 40 1 1 583 0 5 0) (cell (compensation 48 2 1 583 5 0 0) (cell (update 56 3 1 583 0 9 1) more))) []

wrong_point_fault : IsFirstFault 832 (words_of wrong_point) 8 56
unfolding shape_some parts_some log_of log_some chains_in
wrong_point_fault = log_fault 832 (words_of wrong_point) (bucketed 1) (update 56 3 1 583 0 9 1 ∷ compensation 48 2 1 583 5 0 0 ∷ update 40 1 1 583 0 5 0 ∷ []) 8 56 refl refl refl refl refl

-- ---- where two cases are near

-- under force nothing is redone, whatever the heap holds
forced_other : StandsAt 1 (ending 48 2 1 1 ∷ update 40 1 1 583 0 5 0 ∷ []) (word 583 4 ∷ []) 583 4
unfolding shape_some parts_some log_of log_some chains_in stands_some
forced_other = stands 1 (ending 48 2 1 1 ∷ update 40 1 1 583 0 5 0 ∷ []) (word 583 4 ∷ []) 583 4 refl refl refl refl refl refl

-- a skipped transaction's deletion is made all the same
skipped_given : StandsAt 2 (checkpoint 56 3 ∷ ending 48 2 1 1 ∷ deletion 40 1 1 592 1 ∷ []) (word 592 1 ∷ []) 592 0
unfolding shape_some parts_some log_of log_some chains_in stands_some
skipped_given = stands 2 (checkpoint 56 3 ∷ ending 48 2 1 1 ∷ deletion 40 1 1 592 1 ∷ []) (word 592 1 ∷ []) 592 0 refl refl refl refl refl refl

-- a deletion goes before what is to be redone
given_redone : StandsAt 2 (ending 56 3 1 1 ∷ deletion 48 2 1 592 1 ∷ update 40 1 1 592 0 1 0 ∷ []) (word 592 1 ∷ []) 592 0
unfolding shape_some parts_some log_of log_some chains_in stands_some
given_redone = stands 2 (ending 56 3 1 1 ∷ deletion 48 2 1 592 1 ∷ update 40 1 1 592 0 1 0 ∷ []) (word 592 1 ∷ []) 592 0 refl refl refl refl refl refl
