-- A put of 7 under key 3 of a cells map, in a fresh region. Its first 23 events leave this image with the newest values: an
-- update of word 103 from 0 to 7 in the log, and the new value in the word.
use Rattle.std.proofs.Common.{◌≡◌, ℕ, List, [], ◌∷◌, refl, sym, ◌∙◌, arith}
use Rattle.persist_model.specs.Shape.{SECOND_MAGIC, part_of}
use Rattle.persist_model.specs.Records.{Record, IsLoser}
use Rattle.persist_model.specs.Need.{need_in}
use Rattle.persist_model.specs.Sound.{HasChain, IsSound, StandsIn, room_of}
use Rattle.persist_model.specs.Faults.{IsFirstFault}
use Rattle.log_laws.proofs.Deciding.{from_yes, decide_both, decide_has, decide_running}
use Rattle.log_laws.proofs.Soundness.{shape_some, parts_some, chains_in, standing_is_one}
use Rattle.log_laws.proofs.RecordSorting.{log_of}
use Rattle.log_laws.proofs.LogFaults.{log_some, decide_of}
use Rattle.log_laws.proofs.Standings.{stands_some}
use Rattle.log_laws.proofs.Verdicts.{word, words_of, is_sound, log_fault, stands_at, chain_at, sound_has_no}
use Rattle.log_laws.proofs.Examples.LiteralImages.{simple, second_simple, header, ends, cell, update}

abbrev pub the_update : Record
the_update = update 40 1 1 103 0 7 0

-- the owner of the root, and the new value
abbrev pub first : List (ℕ × ℕ)
first = header 1 1 (ends 32 32 (cell the_update (word 96 1 ∷ word 103 7 ∷ [])))

first_is_sound : IsSound 352 (words_of first)
unfolding shape_some parts_some log_of log_some chains_in
first_is_sound = is_sound 352 (words_of first) simple (the_update ∷ []) refl refl refl refl refl

first_chain : HasChain simple (words_of first) 0 (32 ∷ [])
unfolding parts_some chains_in
first_chain = chain_at (words_of first) simple 0 (32 ∷ []) refl (omega arith) refl

-- one transaction is running
first_loser : IsLoser (the_update ∷ []) 1
unfolding decide_both decide_has decide_of decide_running
first_loser = from_yes (decide_both _ _ (decide_has _ (the_update ∷ []) (decide_of 1)) (decide_running (the_update ∷ []) 1)) refl

-- a rollback record, a compensation and an end; three buckets are free
first_needs : need_in (part_of simple) 0 (the_update ∷ []) ≡ 3
first_needs = refl

first_room : room_of simple (words_of first) 0 (32 ∷ []) ≡ 3
first_room = refl

-- word 103 holds 7 and stands at 0, and another word stands at what it holds
first_103 : StandsIn (words_of first) 103 0
unfolding parts_some log_of chains_in stands_some
first_103 = stands_at 352 (words_of first) simple (the_update ∷ []) 103 0 refl refl refl refl

first_not_7 : StandsIn (words_of first) 103 7 → ⊥
first_not_7 h = apart ((standing_is_one 352 (words_of first) 103 first_is_sound).2 7 h ∙ sym ((standing_is_one 352 (words_of first) 103 first_is_sound).2 0 first_103))
  where
    apart : ◌≡◌ {A = ℕ} 7 0 → ⊥
    apart e = cc

first_96 : StandsIn (words_of first) 96 1
unfolding parts_some log_of chains_in stands_some
first_96 = stands_at 352 (words_of first) simple (the_update ∷ []) 96 1 refl refl refl refl

-- ---- the same in format 2

abbrev pub second : List (ℕ × ℕ)
second = word 0 SECOND_MAGIC ∷ word 6 1 ∷ word 13 1 ∷ first

second_is_sound : IsSound 352 (words_of second)
unfolding shape_some parts_some log_of log_some chains_in
second_is_sound = is_sound 352 (words_of second) second_simple (the_update ∷ []) refl refl refl refl refl

second_103 : StandsIn (words_of second) 103 0
unfolding parts_some log_of chains_in stands_some
second_103 = stands_at 352 (words_of second) second_simple (the_update ∷ []) 103 0 refl refl refl refl

-- ---- a second bucket whose open gate has the same number

abbrev other_update : Record
other_update = update 56 1 2 104 0 8 0

abbrev twice : List (ℕ × ℕ)
twice = word 9 48 ∷ word 32 48 ∷ word 49 32 ∷ cell other_update first

twice_fault : IsFirstFault 352 (words_of twice) 8 56
unfolding shape_some parts_some log_of log_some chains_in
twice_fault = log_fault 352 (words_of twice) simple (other_update ∷ the_update ∷ []) 8 56 refl refl refl refl refl

-- so it isn't sound
twice_unsound : IsSound 352 (words_of twice) → ⊥
twice_unsound = sound_has_no 352 (words_of twice) 8 56 twice_fault

-- with the next number the order holds, and the two free cells are too few for two transactions
abbrev next_update : Record
next_update = update 56 2 2 104 0 8 0

two_running : IsFirstFault 352 (words_of (word 56 2 ∷ twice)) 9 9
unfolding shape_some parts_some log_of log_some chains_in
two_running = log_fault 352 (words_of (word 56 2 ∷ twice)) simple (next_update ∷ the_update ∷ []) 9 9 refl refl refl refl refl
