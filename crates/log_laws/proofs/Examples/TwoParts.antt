-- A log of two partitions: eight buckets of one cell, the second partition's from 96 on, its list words at 21 to 25.
use Rattle.std.proofs.Common.{◌≡◌, ℕ, List, [], ◌∷◌, refl, arith}
use Rattle.persist_model.specs.Shape.{Shape, SECOND_MAGIC, heap, words_of_shape, first_bucket, count_buckets, part_of}
use Rattle.persist_model.specs.Need.{need_in}
use Rattle.persist_model.specs.Sound.{HasChain}
use Rattle.persist_model.specs.Faults.{IsFirstFault}
use Rattle.persist_model.specs.Sound.{IsSound, StandsIn, room_of}
use Rattle.log_laws.proofs.Standings.{stands_some}
use Rattle.log_laws.proofs.Soundness.{shape_some, parts_some, chains_in}
use Rattle.log_laws.proofs.RecordSorting.{log_of}
use Rattle.log_laws.proofs.LogFaults.{log_some}
use Rattle.log_laws.proofs.Verdicts.{word, words_of, is_sound, log_fault, lists_fault, stands_at, chain_at}
use Rattle.log_laws.proofs.Examples.LiteralImages.{cell, update, checkpoint}

abbrev pub two_parts : Shape
two_parts = record { policy = 1; cells = 1; buckets = 8; blocks = 16; structures = 2; format = 2; partitions = 2 }

two_parts_sizes : (heap two_parts ≡ 160) × (words_of_shape two_parts ≡ 416) × (first_bucket two_parts 1 ≡ 4) × (count_buckets two_parts 1 ≡ 4)
two_parts_sizes = (refl, refl, refl, refl)

abbrev one : List (ℕ × ℕ)
one = word 0 SECOND_MAGIC ∷ word 1 1 ∷ word 2 1 ∷ word 3 8 ∷ word 4 16 ∷ word 5 2 ∷ word 6 2 ∷ word 13 1 ∷ word 14 1
    ∷ word 8 32 ∷ word 9 32 ∷ word 21 96 ∷ word 22 96 ∷ cell (update 40 1 1 167 0 7 0) (cell (update 104 2 2 181 0 9 0) (word 160 1 ∷ word 176 2 ∷ word 167 7 ∷ []))

one_is_sound : IsSound 416 (words_of one)
unfolding shape_some parts_some log_of log_some chains_in
one_is_sound = is_sound 416 (words_of one) two_parts (update 104 2 2 181 0 9 0 ∷ update 40 1 1 167 0 7 0 ∷ []) refl refl refl refl refl

first_chain : HasChain two_parts (words_of one) 0 (32 ∷ [])
unfolding parts_some chains_in
first_chain = chain_at (words_of one) two_parts 0 (32 ∷ []) refl (omega arith) refl

second_chain : HasChain two_parts (words_of one) 1 (96 ∷ [])
unfolding parts_some chains_in
second_chain = chain_at (words_of one) two_parts 1 (96 ∷ []) refl (omega arith) refl

-- each partition has the room and the need of its own transaction
rooms : (room_of two_parts (words_of one) 0 (32 ∷ []) ≡ 3) × (room_of two_parts (words_of one) 1 (96 ∷ []) ≡ 3)
rooms = (refl, refl)

needs : (need_in (part_of two_parts) 0 (update 104 2 2 181 0 9 0 ∷ update 40 1 1 167 0 7 0 ∷ []) ≡ 3) × (need_in (part_of two_parts) 1 (update 104 2 2 181 0 9 0 ∷ update 40 1 1 167 0 7 0 ∷ []) ≡ 3)
needs = (refl, refl)

word_of_first : StandsIn (words_of one) 167 0
unfolding parts_some log_of chains_in stands_some
word_of_first = stands_at 416 (words_of one) two_parts (update 104 2 2 181 0 9 0 ∷ update 40 1 1 167 0 7 0 ∷ []) 167 0 refl refl refl refl

-- ---- faults of the second partition, at its own words

-- a bucket of the first partition
head_of_first : IsFirstFault 416 (words_of (word 21 48 ∷ one)) 5 21
unfolding shape_some parts_some
head_of_first = lists_fault 416 (words_of (word 21 48 ∷ one)) two_parts 5 21 refl refl refl

append_of_first : IsFirstFault 416 (words_of (word 23 48 ∷ one)) 5 23
unfolding shape_some parts_some
append_of_first = lists_fault 416 (words_of (word 23 48 ∷ one)) two_parts 5 23 refl refl refl

next_of_first : IsFirstFault 416 (words_of (word 96 48 ∷ one)) 5 96
unfolding shape_some parts_some
next_of_first = lists_fault 416 (words_of (word 96 48 ∷ one)) two_parts 5 96 refl refl refl

both_set : IsFirstFault 416 (words_of (word 23 112 ∷ word 25 128 ∷ one)) 6 25
unfolding shape_some parts_some
both_set = lists_fault 416 (words_of (word 23 112 ∷ word 25 128 ∷ one)) two_parts 6 25 refl refl refl

cycle : IsFirstFault 416 (words_of (word 96 96 ∷ one)) 6 21
unfolding shape_some parts_some
cycle = lists_fault 416 (words_of (word 96 96 ∷ one)) two_parts 6 21 refl refl refl

appended_prev : IsFirstFault 416 (words_of (word 23 112 ∷ word 24 96 ∷ one)) 6 23
unfolding shape_some parts_some
appended_prev = lists_fault 416 (words_of (word 23 112 ∷ word 24 96 ∷ one)) two_parts 6 23 refl refl refl

removed_apart : IsFirstFault 416 (words_of (word 25 112 ∷ one)) 6 25
unfolding shape_some parts_some
removed_apart = lists_fault 416 (words_of (word 25 112 ∷ one)) two_parts 6 25 refl refl refl

prev_wrong : IsFirstFault 416 (words_of (word 97 112 ∷ one)) 6 97
unfolding shape_some parts_some
prev_wrong = lists_fault 416 (words_of (word 97 112 ∷ one)) two_parts 6 97 refl refl refl

tail_wrong : IsFirstFault 416 (words_of (word 22 0 ∷ one)) 6 22
unfolding shape_some parts_some
tail_wrong = lists_fault 416 (words_of (word 22 0 ∷ one)) two_parts 6 22 refl refl refl

-- the lists are tried in order, and the addresses of both before the lists
first_before_second : IsFirstFault 416 (words_of (word 9 48 ∷ word 22 0 ∷ one)) 6 9
unfolding shape_some parts_some
first_before_second = lists_fault 416 (words_of (word 9 48 ∷ word 22 0 ∷ one)) two_parts 6 9 refl refl refl

addresses_before_lists : IsFirstFault 416 (words_of (word 9 48 ∷ word 21 48 ∷ one)) 5 21
unfolding shape_some parts_some
addresses_before_lists = lists_fault 416 (words_of (word 9 48 ∷ word 21 48 ∷ one)) two_parts 5 21 refl refl refl

-- a transaction with records in both
in_both : IsFirstFault 416 (words_of (cell (update 104 2 1 181 0 9 1) one)) 8 104
unfolding shape_some parts_some log_of log_some chains_in
in_both = log_fault 416 (words_of (cell (update 104 2 1 181 0 9 1) one)) two_parts (update 104 2 1 181 0 9 1 ∷ update 40 1 1 167 0 7 0 ∷ []) 8 104 refl refl refl refl refl

-- all four buckets of the second partition are taken
abbrev full : List (ℕ × ℕ)
full = word 22 144 ∷ word 96 112 ∷ word 112 128 ∷ word 128 144 ∷ word 113 96 ∷ word 129 112 ∷ word 145 128
    ∷ cell (update 120 3 2 182 0 9 2) (cell (update 136 4 2 183 0 9 3) (cell (update 152 5 2 184 0 9 4) one))

no_room : IsFirstFault 416 (words_of full) 9 22
unfolding shape_some parts_some log_of log_some chains_in
no_room = log_fault 416 (words_of full) two_parts (update 152 5 2 184 0 9 4 ∷ update 136 4 2 183 0 9 3 ∷ update 120 3 2 182 0 9 2 ∷ update 104 2 2 181 0 9 0 ∷ update 40 1 1 167 0 7 0 ∷ []) 9 22 refl refl refl refl refl

-- ---- a checkpoint record in each: no rule asks where it stands

abbrev passed_twice : List (ℕ × ℕ)
passed_twice = cell (checkpoint 40 1) (cell (checkpoint 104 2) one)

passed_twice_is_sound : IsSound 416 (words_of passed_twice)
unfolding shape_some parts_some log_of log_some chains_in
passed_twice_is_sound = is_sound 416 (words_of passed_twice) two_parts (checkpoint 104 2 ∷ checkpoint 40 1 ∷ []) refl refl refl refl refl
