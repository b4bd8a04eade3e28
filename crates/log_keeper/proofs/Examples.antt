-- The definitions on small literal data: two partitions of four buckets with one cell each. Transaction 1 has an update at 40 and an end at 56, and
-- transaction 2 a deletion at 72; lane 5 appends an update of transaction 3 in the second partition, at 104.
use Rattle.std.proofs.Common.{◌≡◌, ◌≢◌, inl, inr, ℕ, zero, suc, ◌<◌, ◌==◌, if◌then◌else◌, true, false, List, [], ◌∷◌, length, Some, None, slice_get, refl, sym, ap, subst, arith}
use Rattle.persist_model.specs.declared.event.Event.TheVariants.{PStore, Fence}
use Rattle.persist_model.specs.Chain.{view}
use Rattle.persist_model.specs.Records.{Record, Log, IsAmong}
use Rattle.persist_model.specs.Region.{Words}
use Rattle.persist_model.specs.Shape.{Shape, log_words}
use Rattle.atomic_list.specs.Rules.{IsList, at_rest}
use Rattle.atomic_list.specs.declared.plans.Remove.{Remove}
use Rattle.bucket_log.specs.declared.append.Place.{Place}
use Rattle.bucket_log.specs.declared.scanning.Placed.{Placed}
use Rattle.log_clearing.specs.Closed.{IsListed}
use Rattle.plan_records.specs.Passing.{inserted}
use Rattle.log_keeper.specs.declared.slots.TheConstants.{NOBODY}
use Rattle.log_keeper.specs.Parts.{LogPart, rests, appends, closes, takes_back, drops, plan_of, waits_for}
use Rattle.log_keeper.specs.Ledger.{Drawn, Stored, Settled, Noted, AreNewestFirst, settled_log, newest_log, with_stage, left_open, without}
use Rattle.log_keeper.specs.Logged.{Keeping, resting, plan_in, waiting}
use Rattle.log_keeper.specs.Changes.{all_records, left_behind, IsLastChange, AreSettledOf}
use Rattle.log_keeper.specs.Plans.{events_of, IsInside}
use Rattle.log_keeper.specs.Making.{made_part}
use Rattle.log_keeper.specs.Keeper.{appending, begun_in, latched_if, all_latched_if}
use Rattle.log_keeper.specs.Ordered.{IsOrdered, IsNotedAt, stage_behind, FitsRuns}
use Rattle.log_keeper.specs.Starting.{found, starting, AreOldestFirst}
use Rattle.log_keeper.specs.Events.{IsNextEvent, IsLastEvent}
use Rattle.log_keeper.specs.Newest.{AreOver}
use Rattle.log_keeper.specs.Needs.{need_at, IsComing}
use Rattle.log_keeper.specs.Rooms.{IsRoomAt, IsElsewhere, HasRooms}

abbrev shape : Shape
shape = record { policy = 1; cells = 1; buckets = 8; blocks = 16; structures = 1; format = 2; partitions = 2 }

abbrev record_of_kind : ℕ → ℕ → ℕ → ℕ → Record
record_of_kind kind at lsn t = record { at = at; lsn = lsn; transaction = t; kind = kind; word = 169; before = 0; after = 5; undo_next = 0; outcome = 0 }

abbrev update : Record
update = record_of_kind 1 40 1 1

abbrev end : Record
end = record_of_kind 4 56 2 1

abbrev deletion : Record
deletion = record_of_kind 6 72 3 2

-- the record of the second partition
abbrev later : Record
later = record_of_kind 1 104 4 3

abbrev noted : Record → Noted
noted r = record { lane = 3; entry = r; stage = Settled }

abbrev old : List Noted
old = noted deletion ∷ noted end ∷ noted update ∷ []

-- ---- the ledger

-- a number is drawn, and neither log has the record
abbrev drawn : List Noted
drawn = record { lane = 5; entry = later; stage = Drawn } ∷ old

drawn_logs : (settled_log drawn ≡ deletion ∷ end ∷ update ∷ []) × (newest_log drawn ≡ deletion ∷ end ∷ update ∷ [])
drawn_logs = (refl, refl)

-- its gate is stored, and the newest log has it
stored_logs : (settled_log (with_stage 4 Stored drawn) ≡ deletion ∷ end ∷ update ∷ []) × (newest_log (with_stage 4 Stored drawn) ≡ later ∷ deletion ∷ end ∷ update ∷ [])
stored_logs = (refl, refl)

-- and that is fenced
settled_logs : settled_log (with_stage 4 Settled drawn) ≡ later ∷ deletion ∷ end ∷ update ∷ []
settled_logs = refl

another_number : with_stage 5 Settled drawn ≡ drawn
another_number = refl

-- what closings leave
left : (left_open (40 ∷ []) [] [] (newest_log drawn) ≡ deletion ∷ end ∷ []) × (left_open [] (56 ∷ []) (72 ∷ []) (newest_log drawn) ≡ update ∷ [])
    × (without (40 ∷ 72 ∷ []) (56 ∷ []) [] drawn ≡ record { lane = 5; entry = later; stage = Drawn } ∷ [])
left = (refl, refl, refl)

below_by : (n : ℕ) (x y : Noted) → y ≡ x → x.entry.lsn < n → y.entry.lsn < n
below_by n x y e lt = subst (λ (z : Noted). z.entry.lsn < n) (sym e) lt

old_below : (n : ℕ) → 3 < n → (y : Noted) → IsAmong old y → y.entry.lsn < n
old_below n lt y (inl e) = below_by n (noted deletion) y e lt
old_below n lt y (inr (inl e)) = below_by n (noted end) y e (omega (arith, lt))
old_below n lt y (inr (inr (inl e))) = below_by n (noted update) y e (omega (arith, lt))
old_below n lt y (inr (inr (inr m))) = absurd m

end_below : (y : Noted) → IsAmong (noted end ∷ noted update ∷ []) y → y.entry.lsn < 3
end_below y (inl e) = below_by 3 (noted end) y e (omega arith)
end_below y (inr (inl e)) = below_by 3 (noted update) y e (omega arith)
end_below y (inr (inr m)) = absurd m

update_below : (y : Noted) → IsAmong (noted update ∷ []) y → y.entry.lsn < 2
update_below y (inl e) = below_by 2 (noted update) y e (omega arith)
update_below y (inr m) = absurd m

old_first : AreNewestFirst old
old_first = (end_below, (update_below, ((λ y m. absurd m), tt)))

-- numbers below the next one, 4 or more, and not where that is 3
ordered : IsOrdered (record { ledger = old; runs = λ p. resting; holder = λ p. NOBODY }) 4
ordered = record { newest_first = old_first; below = old_below 4 (omega arith) }

unordered : IsOrdered (record { ledger = old; runs = λ p. resting; holder = λ p. NOBODY }) 3 → ⊥
unordered k = (let lt = k.below (noted deletion) (inl refl) in absurd (omega (arith, lt)))

-- ---- a transaction's newest change of a word

-- a deletion is no change
changes : (left_behind 1 169 (all_records drawn) None ≡ Some 5) × (left_behind 1 170 (all_records drawn) None ≡ None) × (left_behind 2 169 (all_records drawn) None ≡ None)
changes = (refl, refl, refl)

-- that of the record whose number is drawn is none of the settled log's
drawn_change : (left_behind 3 169 (all_records drawn) None ≡ Some 5) × (left_behind 3 169 (settled_log drawn) None ≡ None)
drawn_change = (refl, refl)

unsettled_change : AreSettledOf 3 drawn → ⊥
unsettled_change settled = let e : Drawn ≡ Settled = settled (record { lane = 5; entry = later; stage = Drawn }) (inl refl) (refl, λ five. absurd (omega (arith, five))) in cc

not_none : IsLastChange 3 169 (all_records drawn) None → ⊥
not_none none = none later (inl refl) (inl refl, refl, refl)

-- ---- an append

abbrev place : Place
place = record { bucket = 96; cell = 0; fresh = false; tail = 96 }

-- lane 5 holds the second latch
abbrev idle : Keeping
idle = record { ledger = old; runs = λ p. resting; holder = λ p. if p == 1 then 5 else NOBODY }

abbrev behind : ℕ → Keeping
behind zero = appending 1 place later idle
behind (suc n) = made_part shape 1 (behind n)

-- how many events parts have
counts : (events_of shape (appends place later) ≡ 10) × (events_of shape (closes (40 ∷ 72 ∷ []) [] []) ≡ 3) × (events_of shape (closes [] (56 ∷ []) []) ≡ 2) × (events_of shape (takes_back []) ≡ 0)
counts = (refl, refl, refl, refl)

-- word 104 is one of 105 words, and none of 104
inside : IsInside 105 (PStore 104 4) × (IsInside 104 (PStore 104 4) → ⊥) × IsInside 0 Fence
inside = (omega arith, (λ lt. omega (arith, lt)), tt)

-- of its ten events the ninth is the store of the gate
append_events : (length (plan_in shape (behind 0) 1) ≡ 10) × (slice_get (plan_in shape (behind 0) 1) 8 ≡ Some (PStore 104 4))
    × (slice_get (plan_in shape (behind 0) 1) 9 ≡ Some Fence)
append_events = (refl, refl, refl)

append_stages : ((behind 8).ledger ≡ drawn) × ((behind 9).ledger ≡ with_stage 4 Stored drawn) × ((behind 10).ledger ≡ with_stage 4 Settled drawn)
append_stages = (refl, refl, refl)

append_runs : ((behind 9).runs 1 ≡ record { part = appends place later; made = 9 }) × ((behind 10).runs 1 ≡ resting) × ((behind 10).runs 0 ≡ resting)
    × ((behind 10).holder 1 ≡ 5)
append_runs = (refl, refl, refl, refl)

stages : (stage_behind (plan_in shape (behind 0) 1) 8 ≡ Drawn) × (stage_behind (plan_in shape (behind 0) 1) 9 ≡ Stored)
stages = (refl, refl)

-- the partition waits for its holder's fences, and another for nobody's
waited : (waiting (behind 3) 1 ≡ 5) × (waiting (behind 3) 0 ≡ NOBODY) × (waiting (behind 10) 1 ≡ NOBODY)
waited = (refl, refl, refl)

-- an append is no other part, and tells its record
rests_no : (there : Place) (r : Record) → rests ≡ appends there r → ⊥
rests_no there r e = cc

no_rest : (there : Place) (r : Record) → appends there r ≡ rests → ⊥
no_rest there r e = cc

no_closing : (there : Place) (r : Record) (gates ends checkpoints : List ℕ) → appends there r ≡ closes gates ends checkpoints → ⊥
no_closing there r gates ends checkpoints e = cc

no_taking_back : (there : Place) (r : Record) (gates : List ℕ) → appends there r ≡ takes_back gates → ⊥
no_taking_back there r gates e = cc

no_drop : (there : Place) (r : Record) (bucket : Remove) → appends there r ≡ drops bucket → ⊥
no_drop there r bucket e = cc

same_record : (a b : Place) (r x : Record) → appends a r ≡ appends b x → r ≡ x
same_record a b r x e = cc

-- the append's record is noted as drawn behind three events, and all others are settled
fits : FitsRuns shape (behind 3)
fits = record { noted = noted_there; apart = apart_there; others = others_there }
  where
    noted_there : (p : ℕ) (there : Place) (r : Record) → p < 2 → ((behind 3).runs p).part ≡ appends there r →
        IsNotedAt (behind 3).ledger r (stage_behind (plan_in shape (behind 3) p) ((behind 3).runs p).made)
    noted_there zero there r lt e = absurd (rests_no there r e)
    noted_there (suc zero) there r lt e = (record { lane = 5; entry = later; stage = Drawn }, inl refl, same_record place there later r e, refl)
    noted_there (suc (suc p)) there r lt e = absurd (omega (arith, lt))

    apart_there : (p q : ℕ) (a b : Place) (r x : Record) → p < 2 → q < 2 → q ≢ p → ((behind 3).runs p).part ≡ appends a r → ((behind 3).runs q).part ≡ appends b x → x.lsn ≢ r.lsn
    apart_there zero q a b r x below lt ne e f = absurd (rests_no a r e)
    apart_there (suc zero) zero a b r x below lt ne e f = absurd (rests_no b x f)
    apart_there (suc zero) (suc zero) a b r x below lt ne e f = absurd (ne refl)
    apart_there (suc zero) (suc (suc q)) a b r x below lt ne e f = absurd (omega (arith, lt))
    apart_there (suc (suc p)) q a b r x below lt ne e f = absurd (omega (arith, below))

    others_there : (x : Noted) → IsAmong (behind 3).ledger x → x.stage ≢ Settled → (p : ℕ) × (p < 2) × (there : Place) × (((behind 3).runs p).part ≡ appends there x.entry)
    others_there x (inl e) ne = (1, omega arith, place, ap (λ (z : Noted). appends place z.entry) (sym e))
    others_there x (inr (inl e)) ne = absurd (ne (ap (λ (z : Noted). z.stage) e))
    others_there x (inr (inr (inl e))) ne = absurd (ne (ap (λ (z : Noted). z.stage) e))
    others_there x (inr (inr (inr (inl e)))) ne = absurd (ne (ap (λ (z : Noted). z.stage) e))
    others_there x (inr (inr (inr (inr m)))) ne = absurd m

-- with nothing under way no record may be drawn
unfit : FitsRuns shape (record { ledger = drawn; runs = λ p. resting; holder = λ p. 17 }) → ⊥
unfit k = (let h = k.others (record { lane = 5; entry = later; stage = Drawn }) (inl refl) drawn_unsettled in rests_no h.2 later h.3)
  where
    drawn_unsettled : Drawn ≡ Settled → ⊥
    drawn_unsettled e = cc

-- ---- the other parts

-- a lane begins this part in the first partition, whose latch lane 3 holds
abbrev begun_first : LogPart → Keeping
begun_first part = begun_in 0 part old (record { ledger = old; runs = λ p. resting; holder = λ p. if p == 0 then 3 else NOBODY })

abbrev closing : Keeping
closing = begun_first (closes (40 ∷ []) [] [])

-- the record leaves the ledger with the fence
closed : ((made_part shape 0 closing).ledger ≡ old) × ((made_part shape 0 (made_part shape 0 closing)).ledger ≡ noted deletion ∷ noted end ∷ [])
    × ((made_part shape 0 (made_part shape 0 closing)).runs 0 ≡ resting)
closed = (refl, refl, refl)

alone : (q : ℕ) → q < 2 → q ≢ 0 → waiting closing q ≢ 3
alone zero lt ne = absurd (ne refl)
alone (suc zero) lt ne = λ e. absurd (omega (arith, e))
alone (suc (suc q)) lt ne = absurd (omega (arith, lt))

-- the store of 0 to the gate is the part's next event, and isn't its last
next : IsNextEvent shape closing 0 (PStore 40 0)
next = record { inside = omega arith; held = omega arith; alone = alone; next = refl }

not_last : IsLastEvent shape closing 0 (PStore 40 0) (closes (40 ∷ []) [] []) → ⊥
not_last k = (let e = k.last in absurd (omega (arith, e)))

fenced : (plan_in shape closing 0 ≡ PStore 40 0 ∷ Fence ∷ []) × (plan_of shape 0 (closes [] (56 ∷ []) []) ≡ PStore 56 0 ∷ Fence ∷ [])
fenced = (refl, refl)

taken_back : (plan_of shape 0 (takes_back (72 ∷ [])) ≡ PStore 72 0 ∷ Fence ∷ [])
    × ((made_part shape 0 (made_part shape 0 (begun_first (takes_back (72 ∷ []))))).ledger ≡ noted end ∷ noted update ∷ [])
taken_back = (refl, refl)

abbrev removed : Remove
removed = record { node = 96; prev = 0; next = 112 }

-- a removal in the second partition, whose list words stand from 21 on
dropped : plan_of shape 1 (drops removed) ≡ PStore 25 96 ∷ Fence ∷ PStore 21 112 ∷ PStore 113 0 ∷ Fence ∷ PStore 25 0 ∷ Fence ∷ []
dropped = refl

nothing : (plan_of shape 0 rests ≡ []) × (waits_for rests 3 ≡ NOBODY) × (waits_for (drops removed) 3 ≡ 3)
nothing = (refl, refl, refl)

-- ---- latches

latches : ((latched_if true 0 3 idle).holder 0 ≡ 3) × ((latched_if false 1 3 idle).holder 1 ≡ 5)
latches = (refl, refl)

all_latches : ((all_latched_if true 3 2 idle).holder 0 ≡ 3) × ((all_latched_if true 3 2 idle).holder 1 ≡ 3) × ((all_latched_if true 3 2 idle).holder 2 ≡ NOBODY)
    × ((all_latched_if false 3 2 idle).holder 1 ≡ 5)
all_latches = (refl, refl, refl, refl)

-- ---- the beginning

abbrev placed : ℕ → ℕ → Placed
placed at lsn = record { at = at; cell = record { lsn = lsn; transaction = 1; kind = 1; word = 169; before = 0; after = 5; undo_next = 0; outcome = 0 } }

-- records are found oldest first, and noted newest first
start : (starting (placed 40 1 ∷ placed 56 2 ∷ [])).ledger ≡ found (placed 56 2) ∷ found (placed 40 1) ∷ []
start = refl

start_log : settled_log (starting (placed 40 1 ∷ placed 56 2 ∷ [])).ledger ≡ record_of_kind 1 56 2 1 ∷ record_of_kind 1 40 1 1 ∷ []
start_log = refl

placed_above : (y : Placed) → IsAmong (placed 56 2 ∷ []) y → 1 < y.cell.lsn
placed_above y (inl e) = subst (λ (z : Placed). 1 < z.cell.lsn) (sym e) (omega arith)
placed_above y (inr m) = absurd m

rising : AreOldestFirst 3 (placed 40 1 ∷ placed 56 2 ∷ [])
rising = (omega arith, placed_above, (omega arith, (λ y m. absurd m), tt))

falling : AreOldestFirst 3 (placed 56 2 ∷ placed 40 1 ∷ []) → ⊥
falling k = (let lt = k.1 (placed 40 1) (inl refl) in absurd (omega (arith, lt)))

-- ---- records that may come

abbrev old_log : Log
old_log = deletion ∷ end ∷ update ∷ []

-- transaction 3 has no record in it
not_third : (x : Record) → IsAmong old_log x → x.transaction ≡ 3 → ⊥
not_third x (inl e) third = (let two = ap (λ (y : Record). y.transaction) e in omega (arith, two, third))
not_third x (inr (inl e)) third = (let one = ap (λ (y : Record). y.transaction) e in omega (arith, one, third))
not_third x (inr (inr (inl e))) third = (let one = ap (λ (y : Record). y.transaction) e in omega (arith, one, third))
not_third x (inr (inr (inr m))) third = absurd m

coming : IsComing shape old_log later
coming = record {
  running = record { running = λ x m is. not_third x m is.1; one_part = λ x m is. absurd (not_third x m is.0) };
  newer = λ x m lt. not_third x m;
}

-- a record doesn't come before a newer one of its own transaction
overtaken : IsComing shape old_log (record_of_kind 1 80 2 2) → ⊥
overtaken k = k.newer deletion (inl refl) (omega arith) refl

-- ---- needs, and records that are over

-- a first update needs its compensation, the rollback record and the end, and a second one its compensation
update_need : (need_at shape 0 (update ∷ []) ≡ 3) × (need_at shape 1 (update ∷ []) ≡ 0) × (need_at shape 0 (record_of_kind 1 56 2 1 ∷ update ∷ []) ≡ 4)
update_need = (refl, refl, refl)

-- a first deletion needs two cells, a rollback record takes one of them, and an end the rest
other_need : (need_at shape 0 (deletion ∷ []) ≡ 2) × (need_at shape 0 (record_of_kind 3 56 4 2 ∷ deletion ∷ []) ≡ 1) × (need_at shape 0 (end ∷ update ∷ []) ≡ 0)
other_need = (refl, refl, refl)

-- a compensation takes its own
compensation_need : need_at shape 0 (record_of_kind 2 56 5 1 ∷ update ∷ []) ≡ 2
compensation_need = refl

-- the update comes before a newer record, of the other partition
inserted_need : (inserted update (later ∷ []) ≡ later ∷ update ∷ []) × (need_at shape 0 (inserted update (later ∷ [])) ≡ 3) × (need_at shape 1 (inserted update (later ∷ [])) ≡ 3)
inserted_need = (refl, refl, refl)

abbrev ended : Log
ended = end ∷ update ∷ []

-- an end doesn't leave before its transaction's other records
too_early : AreOver ended (IsListed [] (56 ∷ []) []) → ⊥
too_early k = elim (k.whole end (inl refl) (inr (inl (inl refl))) refl update (inr (inl refl)) (refl, λ e. absurd (omega (arith, e)))) [
  | inl m ↦ absurd m
  | inr (inl (inl e)) ↦ absurd (omega (arith, e))
  | inr (inl (inr m)) ↦ absurd m
  | inr (inr m) ↦ absurd m
]

-- ---- rooms

-- a store to TO_REMOVE of the second partition, or to its gate at 104, is elsewhere for the first one alone
elsewhere : IsElsewhere shape 0 Fence × (IsElsewhere shape 1 (PStore 25 96) → ⊥) × (IsElsewhere shape 1 (PStore 104 4) → ⊥)
elsewhere = (tt, (λ k. k (inl (omega arith, omega arith))), (λ k. k (inr (96, (4, omega arith, omega arith, refl), omega arith, omega arith))))

-- the second partition's list has the bucket at 96 alone, with this gate
abbrev listed : ℕ → Words
listed gate = λ a. if a == 21 then 96 else (if a == 22 then 96 else (if a == 104 then gate else 0))

list_is : (gate : ℕ) → IsList shape 1 (view 1 (log_words shape (listed gate))) (96 ∷ [])
list_is gate = at_rest (record {
  to_append = refl;
  to_remove = refl;
  last_tail = inl refl;
  buckets = ((4, omega arith, omega arith, refl), tt);
  no_repeats = (tt, tt);
  links = (refl, omega arith, refl);
  links_back = (refl, tt);
  tail = refl;
})

-- with a closed gate all four cells are free, and with an open one those of the other buckets
rooms : IsRoomAt shape 1 (listed 0) 4 × IsRoomAt shape 1 (listed 4) 3
rooms = ((96 ∷ [], list_is 0, refl), (96 ∷ [], list_is 4, refl))

-- up to the store of the gate the room is the settled one
has_rooms : HasRooms shape (record { log = old_log; words = λ a. 0; room = λ q. 4 }) (behind 8) 1 (listed 0)
has_rooms = record {
  resting = λ e. absurd (no_rest place later e);
  waiting = λ there r e few. rooms.0;
  closing = λ gates ends checkpoints e. absurd (no_closing place later gates ends checkpoints e);
  taking_back = λ gates e. absurd (no_taking_back place later gates e);
  dropping = λ bucket e. absurd (no_drop place later bucket e);
}
