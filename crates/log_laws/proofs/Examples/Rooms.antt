-- The room rule at its edge, in buckets of one cell.
use Rattle.std.proofs.Common.{◌≡◌, ℕ, List, [], ◌∷◌, refl}
use Rattle.persist_model.specs.Shape.{Shape, SECOND_MAGIC, part_of}
use Rattle.persist_model.specs.Records.{Log}
use Rattle.persist_model.specs.Need.{unnamed_updates, sum_over, need_in}
use Rattle.persist_model.specs.Faults.{IsFirstFault}
use Rattle.persist_model.specs.Sound.{IsSound, room_of}
use Rattle.log_laws.specs.Naming.{unnamed_need}
use Rattle.log_laws.proofs.Soundness.{shape_some, parts_some, chains_in}
use Rattle.log_laws.proofs.RecordSorting.{log_of}
use Rattle.log_laws.proofs.LogFaults.{log_some}
use Rattle.log_laws.proofs.Verdicts.{word, words_of, is_sound, log_fault}
use Rattle.log_laws.proofs.Examples.LiteralImages.{simple, header, ends, update, rollback}
use Rattle.log_laws.proofs.Examples.Logged.{cells}

-- ---- the buckets 32 and 48 are in the chain, and two are free

abbrev two_buckets : Log → List (ℕ × ℕ)
two_buckets log = word 32 48 ∷ word 49 32 ∷ header 1 1 (ends 32 48 (cells log (word 96 1 ∷ [])))

-- the rollback record is there: a compensation and an end are left
abbrev rolling : Log
rolling = rollback 56 2 1 ∷ update 40 1 1 103 0 7 0 ∷ []

rolling_is_sound : IsSound 352 (words_of (two_buckets rolling))
unfolding shape_some parts_some log_of log_some chains_in
rolling_is_sound = is_sound 352 (words_of (two_buckets rolling)) simple rolling refl refl refl refl refl

-- it isn't: the two free cells are one too few, and the closed one of the first bucket is no room
abbrev alone : Log
alone = update 56 1 1 103 0 7 0 ∷ []

alone_fault : IsFirstFault 352 (words_of (two_buckets alone)) 9 9
unfolding shape_some parts_some log_of log_some chains_in
alone_fault = log_fault 352 (words_of (two_buckets alone)) simple alone 9 9 refl refl refl refl refl

-- ---- two running transactions

abbrev two : Log
two = update 56 2 2 104 0 8 0 ∷ update 40 1 1 103 0 7 0 ∷ []

two_fault : IsFirstFault 352 (words_of (two_buckets two)) 9 9
unfolding shape_some parts_some log_of log_some chains_in
two_fault = log_fault 352 (words_of (two_buckets two)) simple two 9 9 refl refl refl refl refl

-- by the stacks and by those that no compensation names six cells are needed, and two are free
two_unnamed : (unnamed_updates 1 two two ≡ update 40 1 1 103 0 7 0 ∷ []) × (unnamed_updates 2 two two ≡ update 56 2 2 104 0 8 0 ∷ [])
two_unnamed = (refl, refl)

two_needs : (need_in (part_of simple) 0 two ≡ 6) × (sum_over (part_of simple) 0 (unnamed_need two) two ≡ 6) × (room_of simple (words_of (two_buckets two)) 0 (32 ∷ 48 ∷ []) ≡ 2)
two_needs = (refl, refl, refl)

-- ---- three partitions of four buckets, which begin at 32, 96 and 160, with a running transaction in each

abbrev three_parts : Shape
three_parts = record { policy = 1; cells = 1; buckets = 12; blocks = 16; structures = 1; format = 2; partitions = 3 }

abbrev three_image : Log → List (ℕ × ℕ)
three_image log = word 0 SECOND_MAGIC ∷ word 1 1 ∷ word 2 1 ∷ word 3 12 ∷ word 4 16 ∷ word 5 1 ∷ word 6 3 ∷ word 13 1
    ∷ word 8 32 ∷ word 9 32 ∷ word 21 96 ∷ word 22 96 ∷ word 26 160 ∷ word 27 160 ∷ cells log (word 224 1 ∷ [])

abbrev each_runs : Log
each_runs = update 168 3 3 229 0 9 0 ∷ update 104 2 2 228 0 8 0 ∷ update 40 1 1 227 0 7 0 ∷ []

-- three cells are free in each, and three are needed
three_is_sound : IsSound 480 (words_of (three_image each_runs))
unfolding shape_some parts_some log_of log_some chains_in
three_is_sound = is_sound 480 (words_of (three_image each_runs)) three_parts each_runs refl refl refl refl refl

-- a second update in the third: two are free, and four are needed, whatever the others have
abbrev third_more : Log
third_more = update 184 4 3 230 0 9 3 ∷ each_runs

abbrev third_full : List (ℕ × ℕ)
third_full = word 27 176 ∷ word 160 176 ∷ word 177 160 ∷ three_image third_more

third_fault : IsFirstFault 480 (words_of third_full) 9 27
unfolding shape_some parts_some log_of log_some chains_in
third_fault = log_fault 480 (words_of third_full) three_parts third_more 9 27 refl refl refl refl refl
