-- The definitions on small literal logs: one cell a bucket, two transactions, of which one is to be undone.
use Rattle.std.proofs.Common.{◌≡◌, ◌⊎◌, inl, inr, ℕ, ◌<◌, List, [], ◌∷◌, ◌++◌, true, refl, sym, ap, subst, arith}
use Rattle.persist_model.specs.declared.event.Event.TheVariants.{PStore}
use Rattle.persist_model.specs.Records.{Record, Log, IsAmong, IsOf, NamesWord}
use Rattle.persist_model.specs.Shape.{Shape, part_of}
use Rattle.persist_model.specs.Need.{to_undo}
use Rattle.persist_model.specs.State.{State}
use Rattle.region_layout.specs.declared.layout.Policy.TheVariants.{Force, NoForce}
use Rattle.bucket_log.specs.declared.append.Place.{Place}
use Rattle.plan_records.specs.declared.parts.Update.{Update}
use Rattle.plan_records.specs.declared.parts.Part.{Part}
use Rattle.plan_records.specs.declared.parts.Part.TheVariants.{Append, Word, Fence, Clear}
use Rattle.persist_model.specs.declared.kinds.Outcome.TheVariants.{Committed, RolledBack}
use Rattle.plan_records.specs.Cells.{cell_of_update, appended}
use Rattle.region_layout.specs.RecordCells.{cell_of_compensation, cell_of_rollback, cell_of_end, cell_of_checkpoint}
use Rattle.plan_records.specs.Sequences.{undo_parts}
use Rattle.plan_records.specs.Passing.{inserted, MayPass, Passes}
use Rattle.plan_records.specs.Appends.{with_record, total_room}
use Rattle.plan_records.specs.Courses.{own_records, Course, begins, appends, meanwhile, AreCellsOf, CanAbort, commit_parts, abort_parts}

abbrev shape : Shape
shape = record { policy = 1; cells = 1; buckets = 8; blocks = 16; structures = 2; format = 2; partitions = 1 }

abbrev first_update : Update
first_update = record { transaction = 7; word = 170; before = 5; after = 6; undo_next = 0 }

abbrev second_update : Update
second_update = record { transaction = 7; word = 170; before = 6; after = 9; undo_next = 1 }

abbrev place : ℕ → Place
place bucket = record { bucket = bucket; cell = 0; fresh = true; tail = 0 }

abbrev first : Record
first = appended (place 32) 1 (cell_of_update first_update)

abbrev second : Record
second = appended (place 64) 3 (cell_of_update second_update)

-- of another transaction
abbrev other : Record
other = record { at = 56; lsn = 2; transaction = 8; kind = 1; word = 186; before = 0; after = 4; undo_next = 0; outcome = 0 }

abbrev log : Log
log = second ∷ other ∷ first ∷ []

-- the gate stands behind the bucket's eight words, and the update names the undo point before it
first_is : first ≡ record { at = 40; lsn = 1; transaction = 7; kind = 1; word = 170; before = 5; after = 6; undo_next = 0; outcome = 0 }
first_is = refl

-- a compensation has the values the other way round
compensation_is : appended (place 80) 5 (cell_of_compensation (cell_of_update second_update)) ≡
    record { at = 88; lsn = 5; transaction = 7; kind = 2; word = 170; before = 9; after = 6; undo_next = 1; outcome = 0 }
compensation_is = refl

ends_are : (cell_of_end 7 Committed ≡ record { lsn = 0; transaction = 7; kind = 4; word = 0; before = 0; after = 0; undo_next = 0; outcome = 1 })
    × (cell_of_end 7 RolledBack ≡ record { lsn = 0; transaction = 7; kind = 4; word = 0; before = 0; after = 0; undo_next = 0; outcome = 2 })
    × (cell_of_checkpoint ≡ record { lsn = 0; transaction = 0; kind = 5; word = 0; before = 0; after = 0; undo_next = 0; outcome = 0 })
ends_are = (refl, refl, refl)

-- ---- a transaction's own records

own_is : (own_records 7 log ≡ second ∷ first ∷ []) × (own_records 8 log ≡ other ∷ []) × (own_records 9 log ≡ [])
own_is = (refl, refl, refl)

left_is : to_undo 7 log ≡ second ∷ first ∷ []
left_is = refl

-- the cells of what is to be undone come newest first
newest_first : AreCellsOf (cell_of_update second_update ∷ cell_of_update first_update ∷ []) (to_undo 7 log)
newest_first = (refl, (refl, tt))

oldest_first : AreCellsOf (cell_of_update first_update ∷ cell_of_update second_update ∷ []) (to_undo 7 log) → ⊥
oldest_first h = let e : ◌≡◌ {A = ℕ} 5 6 = ap (λ (r : Record). r.before) h.0 in absurd (omega (arith, e))

one_is_left_out : AreCellsOf (cell_of_update second_update ∷ []) (to_undo 7 log) → ⊥
one_is_left_out h = h.1

-- the transaction may be undone
may_abort : CanAbort shape 0 7 log (cell_of_update second_update ∷ cell_of_update first_update ∷ [])
may_abort = record {
  going = record {
    transaction = omega arith;
    running = λ e m end. kinds e m (sym end.0);
    in_part = λ y m of. stand y m;
  };
  first = λ e m k. rolled e m k.1;
  left = newest_first;
}
  where
    one : (e : Record) → IsAmong log e → e.kind ≡ 1
    one e (inl a) = ap (λ (r : Record). r.kind) a
    one e (inr (inl a)) = ap (λ (r : Record). r.kind) a
    one e (inr (inr (inl a))) = ap (λ (r : Record). r.kind) a
    one e (inr (inr (inr a))) = absurd a

    kinds : (e : Record) → IsAmong log e → 4 ≡ e.kind → ⊥
    kinds e m four = let k = one e m in omega (arith, k, four)

    rolled : (e : Record) → IsAmong log e → e.kind ≡ 3 → ⊥
    rolled e m three = let k = one e m in omega (arith, k, three)

    stand : (e : Record) → IsAmong log e → part_of shape e.at ≡ 0
    stand e (inl a) = ap (λ (r : Record). part_of shape r.at) a
    stand e (inr (inl a)) = ap (λ (r : Record). part_of shape r.at) a
    stand e (inr (inr (inl a))) = ap (λ (r : Record). part_of shape r.at) a
    stand e (inr (inr (inr a))) = absurd a

-- ---- the plans

abort_is : abort_parts Force 7 (cell_of_update second_update ∷ cell_of_update first_update ∷ []) ≡
    Append (cell_of_rollback 7) ∷ Append (cell_of_compensation (cell_of_update second_update)) ∷ Word (PStore 170 6) ∷
    Append (cell_of_compensation (cell_of_update first_update)) ∷ Word (PStore 170 5) ∷ Fence ∷ Append (cell_of_end 7 RolledBack) ∷ Clear ∷ []
abort_is = refl

commit_is : (commit_parts Force 7 (176 ∷ 192 ∷ []) ≡ Fence ∷ Append (cell_of_end 7 Committed) ∷ Word (PStore 176 0) ∷ Word (PStore 192 0) ∷ Fence ∷ Clear ∷ [])
    × (commit_parts Force 7 [] ≡ Fence ∷ Append (cell_of_end 7 Committed) ∷ Clear ∷ [])
    × (commit_parts NoForce 7 (176 ∷ []) ≡ Append (cell_of_end 7 Committed) ∷ [])
commit_is = (refl, refl, refl)

-- ---- a course of the abort: others append, and then the rollback record comes

abbrev state : Log → State
state l = record { log = l; words = λ a. 0; room = λ p. 5 }

abbrev plan : List Part
plan = abort_parts Force 7 (cell_of_update second_update ∷ cell_of_update first_update ∷ [])

abbrev later : Record
later = record { at = 72; lsn = 4; transaction = 8; kind = 1; word = 187; before = 0; after = 4; undo_next = 2; outcome = 0 }

-- t's own records have smaller numbers
own_before : (number : ℕ) → 3 < number → (y : Record) → IsAmong (later ∷ log) y → IsOf 7 y → y.lsn < number
own_before number lt y (inl e) of = let is : y.transaction ≡ 8 = ap (λ (r : Record). r.transaction) e in let own = of.0 in absurd (omega (arith, is, own))
own_before number lt y (inr (inl e)) of = let is : y.lsn ≡ 3 = ap (λ (r : Record). r.lsn) e in omega (arith, is, lt)
own_before number lt y (inr (inr (inl e))) of = let is : y.lsn ≡ 2 = ap (λ (r : Record). r.lsn) e in omega (arith, is, lt)
own_before number lt y (inr (inr (inr (inl e)))) of = let is : y.lsn ≡ 1 = ap (λ (r : Record). r.lsn) e in omega (arith, is, lt)
own_before number lt y (inr (inr (inr (inr m)))) of = absurd m

abbrev rollback : Record
rollback = appended (place 80) 5 (cell_of_rollback 7)

course : Course shape 0 7 (state log) plan (undo_parts Force (cell_of_update second_update ∷ cell_of_update first_update ∷ []) ++ Fence ∷ Append (cell_of_end 7 RolledBack) ∷ Clear ∷ [])
    (with_record 0 (state (later ∷ log)) rollback)
course = appends (cell_of_rollback 7) (place 80) 5 (meanwhile (state (later ∷ log)) begins refl) refl (own_before 5 (omega arith))

-- its room: a cell less
course_room : total_room (with_record 0 (state (later ∷ log)) rollback).room 1 ≡ 4
course_room = refl

-- ---- the other one's record was numbered behind the rollback record, and was there before it

abbrev newer : Record
newer = record { at = 72; lsn = 6; transaction = 8; kind = 1; word = 187; before = 0; after = 4; undo_next = 2; outcome = 0 }

comes_between : (inserted rollback (newer ∷ log) ≡ newer ∷ rollback ∷ log) × (inserted rollback (later ∷ log) ≡ rollback ∷ later ∷ log)
comes_between = (refl, refl)

own_still : own_records 7 (inserted rollback (newer ∷ log)) ≡ rollback ∷ own_records 7 log
own_still = refl

numbers : (y : Record) → IsAmong (newer ∷ log) y → (y ≡ newer) ⊎ (y.lsn < 5)
numbers y (inl e) = inl e
numbers y (inr (inl e)) = inr (let is : y.lsn ≡ 3 = ap (λ (r : Record). r.lsn) e in omega (arith, is))
numbers y (inr (inr (inl e))) = inr (let is : y.lsn ≡ 2 = ap (λ (r : Record). r.lsn) e in omega (arith, is))
numbers y (inr (inr (inr (inl e)))) = inr (let is : y.lsn ≡ 1 = ap (λ (r : Record). r.lsn) e in omega (arith, is))
numbers y (inr (inr (inr (inr m)))) = absurd m

passes : Passes (newer ∷ log) rollback
passes = record {
  fresh = λ y m same. elim (numbers y m) [ inl e ↦ (let is : y.lsn ≡ 6 = ap (λ (r : Record). r.lsn) e in omega (arith, is, same)) | inr lt ↦ (let less = lt in omega (arith, less, same)) ];
  newer = λ y m lt. elim (numbers y m) [
    | inl e ↦ subst (λ (r : Record). MayPass rollback r) (sym e) (record {
      other = λ of. (let eight = of.0 in omega (arith, eight));
      no_checkpoint = λ five. omega (arith, five);
      word = λ names. absurd (names_none names);
    })
    | inr less ↦ absurd (omega (arith, lt, less))
  ];
  checkpoint = λ check. absurd (omega (arith, check));
}
  where
    names_none : NamesWord rollback → ⊥
    names_none (inl (inl k)) = omega (arith, k)
    names_none (inl (inr k)) = omega (arith, k)
    names_none (inr k) = omega (arith, k)

-- a record of its own transaction, a checkpoint record, and one that names its word may not be there before it
own_may_not_pass : MayPass second first → ⊥
own_may_not_pass h = h.other (refl, λ e. omega (arith, e))

checkpoint_may_not_pass : MayPass rollback (appended (place 32) 6 cell_of_checkpoint) → ⊥
checkpoint_may_not_pass h = h.no_checkpoint refl

same_word_may_not_pass : MayPass newer (record newer { transaction = 9 }) → ⊥
same_word_may_not_pass h = h.word (inl (inl refl)) (inl (inl refl)) refl

-- and none may be there before a checkpoint record
before_checkpoint : Passes (newer ∷ log) (appended (place 80) 5 cell_of_checkpoint) → ⊥
before_checkpoint h = let lt = h.checkpoint refl newer (inl refl) in omega (arith, lt)
