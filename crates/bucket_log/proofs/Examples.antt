-- The definitions on small worked words: a region with buckets of one cell at 32, 48, 64 and 80.
use Rattle.std.proofs.Common.{◌≡◌, ℕ, true, false, ◌==◌, if◌then◌else◌, [], ◌∷◌, map, inl, inr, refl, arith}
use Rattle.persist_model.specs.declared.event.Event.TheVariants.{PStore, Fence}
use Rattle.persist_model.specs.Region.{Words}
use Rattle.persist_model.specs.Records.{Record}
use Rattle.persist_model.specs.Shape.{Shape}
use Rattle.persist_model.specs.Sound.{room_of}
use Rattle.bucket_log.specs.declared.append.Place.{Place}
use Rattle.bucket_log.specs.Plans.{append_plan, append_events}
use Rattle.bucket_log.specs.Places.{IsNextPlace}
use Rattle.bucket_log.specs.Scans.{record_of_placed, chain_cells}
use Rattle.bucket_log.specs.States.{less_room}

small : Shape
small = record { policy = 1; cells = 1; buckets = 4; blocks = 16; structures = 1; format = 2; partitions = 1 }

two_parts : Shape
two_parts = record { policy = 1; cells = 1; buckets = 8; blocks = 16; structures = 1; format = 2; partitions = 2 }

update_at : ℕ → Record
update_at at = record { at = at; lsn = 9; transaction = 1; kind = 1; word = 100; before = 3; after = 4; undo_next = 0; outcome = 0 }

first_place : Place
first_place = record { bucket = 32; cell = 0; fresh = true; tail = 0 }

-- the first append of a log: the gate, the insertion, the body and the gate at last
first_append : append_plan 1 first_place (update_at 40) ≡
    PStore 40 0 ∷ PStore 32 0 ∷ PStore 33 0 ∷ PStore 11 0 ∷ Fence ∷ PStore 10 32 ∷ Fence ∷ PStore 8 32 ∷ PStore 9 32 ∷ Fence ∷ PStore 10 0 ∷ Fence ∷
    PStore 41 1 ∷ PStore 42 1 ∷ PStore 43 100 ∷ PStore 44 3 ∷ PStore 45 4 ∷ PStore 46 0 ∷ PStore 47 0 ∷ Fence ∷ PStore 40 9 ∷ Fence ∷ []
unfolding first_place update_at
first_append = refl

-- and one in a bucket of the chain
used_place : Place
used_place = record { bucket = 32; cell = 0; fresh = false; tail = 32 }

used_append : append_plan 1 used_place (update_at 40) ≡
    PStore 41 1 ∷ PStore 42 1 ∷ PStore 43 100 ∷ PStore 44 3 ∷ PStore 45 4 ∷ PStore 46 0 ∷ PStore 47 0 ∷ Fence ∷ PStore 40 9 ∷ Fence ∷ []
unfolding used_place update_at
used_append = refl

-- 22 and 37 events in a fresh bucket of one cell and of sixteen, 10 in another
events_of_one : append_events 1 first_place ≡ 22
unfolding first_place
events_of_one = refl

events_of_sixteen : append_events 16 first_place ≡ 37
unfolding first_place
events_of_sixteen = refl

events_of_used : append_events 16 used_place ≡ 10
unfolding used_place
events_of_used = refl

-- two buckets in the chain, the second one's cell closed
words : Words
words a = if a == 8 then 32 else (if a == 9 then 64 else (if a == 32 then 64 else (if a == 65 then 32 else (if a == 40 then 7 else 0))))

-- one closed cell, and two buckets that aren't in the chain
room_of_three : room_of small words 0 (32 ∷ 64 ∷ []) ≡ 3
unfolding small words
room_of_three = refl

-- an empty chain has all cells
room_of_all : room_of small words 0 [] ≡ 4
unfolding small
room_of_all = refl

-- the second part has the last four buckets
room_of_part : room_of two_parts words 1 [] ≡ 4
unfolding two_parts
room_of_part = refl

-- the next place is the closed cell of the last bucket
last_place : Place
last_place = record { bucket = 64; cell = 0; fresh = false; tail = 64 }

last_is_next : IsNextPlace small 0 words (32 ∷ 64 ∷ []) last_place
unfolding small words last_place
last_is_next = record {
  is_place = record { bucket = inr (inl refl); last = refl; closed = refl };
  below = omega arith;
  tail = refl;
  first_cell = λ e. cc;
  first_closed = λ e c lt. absurd (omega (arith, lt));
  least = λ e. cc;
}

-- a fresh bucket isn't, as long as the last one has a closed cell
fresh_is_not_next : IsNextPlace small 0 words (32 ∷ 64 ∷ []) (record { bucket = 48; cell = 0; fresh = true; tail = 64 }) → ⊥
unfolding small words
fresh_is_not_next h = h.is_place.full (λ e. omega (arith, e)) 0 (omega arith) refl

-- one open cell
cells_of_words : map record_of_placed (chain_cells words 1 (32 ∷ 64 ∷ [])) ≡
    record { at = 40; lsn = 7; transaction = 0; kind = 0; word = 0; before = 0; after = 0; undo_next = 0; outcome = 0 } ∷ []
unfolding words
cells_of_words = refl

-- one cell less in one part alone
less : (less_room 1 (λ p. 4) 1 ≡ 3) × (less_room 1 (λ p. 4) 0 ≡ 4)
less = (refl, refl)
