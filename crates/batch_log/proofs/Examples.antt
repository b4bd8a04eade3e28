-- The definitions on small literals: a region with buckets of one cell at 32, 48, 64 and 80, and buckets of 16 cells at 32 and 168.
use Rattle.std.proofs.Common.{◌≡◌, ℕ, ◌==◌, if◌then◌else◌, [], ◌∷◌, length, refl, arith, Some}
use Rattle.std.specs.Prelude.{slice_get}
use Rattle.persist_model.specs.declared.event.Event.TheVariants.{PStore, Fence}
use Rattle.persist_model.specs.Region.{Words}
use Rattle.persist_model.specs.Shape.{Shape}
use Rattle.region_layout.specs.declared.cell.Cell.{Cell}
use Rattle.region_layout.specs.Cell.{record_of}
use Rattle.batch_log.specs.FreeBuckets.{free_buckets, buckets_for}
use Rattle.batch_log.specs.Plans.{bucket_plan, group_plan, bucket_events, count_fences}
use Rattle.batch_log.specs.Buckets.{free_cells}
use Rattle.batch_log.specs.States.{falls}
use Rattle.batch_log.specs.Groups.{group_records, MayHave, room_behind}

small : Shape
small = record { policy = 1; cells = 1; buckets = 4; blocks = 16; structures = 1; format = 1; partitions = 1 }

cell_of : ℕ → Cell
cell_of lsn = record { lsn = lsn; transaction = 1; kind = 1; word = 100; before = 3; after = 4; undo_next = 0; outcome = 0 }

-- a bucket of two cells with one record: the record's eight words, the other gate, and the insertion
one_of_two : bucket_plan 2 32 0 (cell_of 9 ∷ []) ≡
    PStore 40 9 ∷ PStore 41 1 ∷ PStore 42 1 ∷ PStore 43 100 ∷ PStore 44 3 ∷ PStore 45 4 ∷ PStore 46 0 ∷ PStore 47 0 ∷ PStore 48 0 ∷
    PStore 32 0 ∷ PStore 33 0 ∷ PStore 11 0 ∷ Fence ∷ PStore 10 32 ∷ Fence ∷ PStore 8 32 ∷ PStore 9 32 ∷ Fence ∷ PStore 10 0 ∷ Fence ∷ []
unfolding cell_of
one_of_two = refl

-- one record in a bucket of 16 cells: 34 events, the 28th of which stores TO_APPEND
first_of_sixteen : length (bucket_plan 16 32 0 (cell_of 1 ∷ [])) ≡ 34
unfolding cell_of
first_of_sixteen = refl

append_word : slice_get (bucket_plan 16 32 0 (cell_of 1 ∷ [])) 27 ≡ Some (PStore 10 32)
unfolding cell_of
append_word = refl

events_of_one : bucket_events 16 1 ≡ 34
events_of_one = refl

events_of_full : bucket_events 16 16 ≡ 139
events_of_full = refl

fences_of_one : count_fences (bucket_plan 16 32 0 (cell_of 1 ∷ [])) ≡ 4
unfolding cell_of
fences_of_one = refl

-- 16 records take one bucket, 17 take two
sixteen : buckets_for 16 16 ≡ 1
sixteen = refl

seventeen : buckets_for 16 17 ≡ 2
seventeen = refl

-- two records in buckets of one cell: the second bucket is put behind the first
two_buckets : slice_get (group_plan 1 0 (48 ∷ 80 ∷ []) (cell_of 9 ∷ cell_of 10 ∷ [])) 28 ≡ Some (PStore 81 48)
unfolding cell_of
two_buckets = refl

records_of_two : group_records 1 (48 ∷ 80 ∷ []) (cell_of 9 ∷ cell_of 10 ∷ []) ≡ record_of 56 (cell_of 9) ∷ record_of 88 (cell_of 10) ∷ []
unfolding cell_of
records_of_two = refl

-- the free buckets of a chain that has the third and the first
free_of_two : free_buckets small (record { first = 0; count = 4 }) (64 ∷ 32 ∷ []) ≡ 48 ∷ 80 ∷ []
unfolding small
free_of_two = refl

-- one free cell in the last bucket, and none where the chain is empty
words : Words
words a = if a == 72 then 7 else 0

one_free : free_cells small words (64 ∷ 32 ∷ []) ≡ 1
unfolding small words
one_free = refl

last_is_full : free_cells small words (32 ∷ 64 ∷ []) ≡ 0
unfolding small words
last_is_full = refl

no_last : free_cells small words [] ≡ 0
unfolding small
no_last = refl

-- before the store of TO_APPEND no image has the record, behind its fence none is without it
none_before : MayHave 16 (32 ∷ []) (cell_of 1 ∷ []) 27 1 → ⊥
unfolding cell_of
none_before h = let low = h.0 in omega (arith, low)

either_at : MayHave 16 (32 ∷ []) (cell_of 1 ∷ []) 28 0 × MayHave 16 (32 ∷ []) (cell_of 1 ∷ []) 28 1
unfolding cell_of
either_at = (omega arith, (omega arith, refl))

all_behind : MayHave 16 (32 ∷ []) (cell_of 1 ∷ []) 29 0 → ⊥
unfolding cell_of
all_behind h = omega (arith, h)

-- 3 free cells and 2 records: 5 cells less
five_less : (falls 1 5 (λ q. 20) 1 ≡ 15) × (falls 1 5 (λ q. 20) 0 ≡ 20) × (room_behind 1 3 (λ q. 20) 0 [] 1 ≡ 20)
five_less = (refl, refl, refl)
