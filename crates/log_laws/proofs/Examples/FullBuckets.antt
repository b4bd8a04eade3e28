-- Logs in buckets of 16 cells, of which the second begins at 168: where records count, and which closed cells are room.
use Rattle.std.proofs.Common.{◌≡◌, ℕ, List, [], ◌∷◌, refl}
use Rattle.persist_model.specs.Records.{Log}
use Rattle.persist_model.specs.Faults.{IsFirstFault}
use Rattle.persist_model.specs.Sound.{IsSound, StandsIn, room_of}
use Rattle.log_laws.proofs.Standings.{stands_some}
use Rattle.log_laws.proofs.Soundness.{shape_some, parts_some, chains_in}
use Rattle.log_laws.proofs.RecordSorting.{log_of}
use Rattle.log_laws.proofs.LogFaults.{log_some}
use Rattle.log_laws.proofs.Verdicts.{word, words_of, is_sound, log_fault, stands_at}
use Rattle.log_laws.proofs.Examples.LiteralImages.{bucketed, header, ends, update, checkpoint}
use Rattle.log_laws.proofs.Examples.Logged.{StandsAt, stands, cells}

-- ---- a record in the sixteenth cell counts

last_cell : StandsAt 1 (update 160 1 1 583 0 5 0 ∷ []) (word 583 5 ∷ []) 583 0
unfolding shape_some parts_some log_of log_some chains_in stands_some
last_cell = stands 1 (update 160 1 1 583 0 5 0 ∷ []) (word 583 5 ∷ []) 583 0 refl refl refl refl refl refl

-- ---- so does one in the bucket that TO_APPEND names, which no link names yet

abbrev appended_log : Log
appended_log = update 176 1 1 583 0 5 0 ∷ []

abbrev appending : List (ℕ × ℕ)
appending = word 10 168 ∷ word 11 32 ∷ word 169 32 ∷ header 1 16 (ends 32 32 (cells appended_log (word 576 1 ∷ word 583 5 ∷ [])))

appending_is_sound : IsSound 832 (words_of appending)
unfolding shape_some parts_some log_of log_some chains_in
appending_is_sound = is_sound 832 (words_of appending) (bucketed 1) appended_log refl refl refl refl refl

appending_583 : StandsIn (words_of appending) 583 0
unfolding parts_some log_of chains_in stands_some
appending_583 = stands_at 832 (words_of appending) (bucketed 1) appended_log 583 0 refl refl refl refl

-- ---- closed cells of an earlier bucket are no room

-- all four buckets are in the chain: the last one begins at 440, and its first cell stands at 448
abbrev four : Log → List (ℕ × ℕ)
four log = word 32 168 ∷ word 168 304 ∷ word 304 440 ∷ word 169 32 ∷ word 305 168 ∷ word 441 304 ∷ header 1 16 (ends 32 440 (cells log (word 576 1 ∷ [])))

-- 13 checkpoint records, and one update in the last bucket: two cells of it are closed, and 48 before it
abbrev filling : Log
filling = update 552 14 1 583 0 5 0 ∷ checkpoint 544 13 ∷ checkpoint 536 12 ∷ checkpoint 528 11 ∷ checkpoint 520 10 ∷ checkpoint 512 9 ∷ checkpoint 504 8 ∷ checkpoint 496 7
    ∷ checkpoint 488 6 ∷ checkpoint 480 5 ∷ checkpoint 472 4 ∷ checkpoint 464 3 ∷ checkpoint 456 2 ∷ checkpoint 448 1 ∷ []

filling_room : room_of (bucketed 1) (words_of (four filling)) 0 (32 ∷ 168 ∷ 304 ∷ 440 ∷ []) ≡ 2
filling_room = refl

no_room : IsFirstFault 832 (words_of (four filling)) 9 9
unfolding shape_some parts_some log_of log_some chains_in
no_room = log_fault 832 (words_of (four filling)) (bucketed 1) filling 9 9 refl refl refl refl refl
