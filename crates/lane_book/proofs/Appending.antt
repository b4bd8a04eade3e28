-- A record of a call is in the log: no face sees it, and so many cells are let go.
use Rattle.std.proofs.Common.{◌≡◌, ◌==◌, ◌||◌, ◌&&◌, not, ℕ, zero, suc, ◌+◌, ◌-◌, ◌*◌, ◌<◌, ◌≤◌, Bool, true, false, if◌then◌else◌, List, [], ◌∷◌, ◌++◌, length, take, refl, sym, ◌∙◌, ap, arith, None}
use Rattle.std.proofs.Math.ListN.{length-append}
use Rattle.std.proofs.lemmas.Bool.Decides.{nat_tests}
use Rattle.region_layout.specs.declared.cell.Cell.{Cell}
use Rattle.lane_types.specs.declared.call.Phase.TheVariants.{Calling}
use Rattle.lane_types.specs.declared.call.Stepped.TheVariants.{Moved}
use Rattle.lane_types.specs.Deeds.{Deeds}
use Rattle.lane_types.specs.Faces.{Base, stepped}
use Rattle.lane_types.specs.LaneSteps.{Moves}
use Rattle.lane_book.specs.declared.lane.Lane.{Lane}
use Rattle.lane_book.specs.declared.book.Book.{Book}
use Rattle.lane_book.specs.Lanes.{moved, with_lane}
use Rattle.lane_book.specs.FacesOf.{lane_at, face_of}
use Rattle.lane_book.specs.Steps.{Steps}
use Rattle.lane_book.specs.declared.lane.Doing.{Doing}
use Rattle.lane_book.specs.Books.{ends, IsCounted}
use Rattle.lane_book.specs.Reserved.{is_bound, undo_cells, reserved_by}
use Rattle.lane_book.specs.Appends.{with_update, with_group, with_deletion, with_rollback, with_compensation, with_end, IsOpen, CanUpdate, CanGroup, CanDelete, CanRollBack, CanCompensate, CanEnd, writes_one, is_batch, gives_one}
use Rattle.lane_book.proofs.Faces.{step_of_lane}

pub logged_row : {E : Type 0} (deeds : Deeds E) (book : Book E) (l : ℕ) (later : Lane E) → l < length book.lanes.items → (lane_at book l).phase ≡ Calling →
    ((base : Base) → face_of base book.history.items l later ≡ stepped Moved (face_of base book.history.items l (lane_at book l))) →
    Steps deeds book (with_lane book l later None) l Moved
logged_row deeds book l later lt calling face base =
    step_of_lane deeds base book l later None Moved lt record { calling = calling; row = Moves.going_on (face base) }

-- ---- a transaction that is bound

pub bound_by : (h e : Bool) (promised : ℕ) → 1 ≤ promised → e ≡ false → ((h || not (promised == 0)) && not e) ≡ true
bound_by true e promised some going = ap not going
bound_by false e zero some going = absurd (omega (arith, some))
bound_by false e (suc promised) some going = ap (λ (t : Bool). not t && not e) (some_is promised) ∙ ap not going
  where
    some_is : (n : ℕ) → (suc n == 0) ≡ false
    some_is n = grind (arith, nat_tests)

bound_now : (h e t : Bool) → h ≡ true → e ≡ false → ((h || t) && not e) ≡ true
bound_now h e t has going = ap (λ (x : Bool). (x || t) && not e) has ∙ ap not going

-- the reserved cells of a lane that is bound
bound_cells : {E : Type 0} (lane : Lane E) → is_bound lane ≡ true → reserved_by lane ≡ lane.promised + undo_cells lane
bound_cells lane bound = ap (λ (t : Bool). lane.promised + (if t then undo_cells lane else 0)) bound

promised_cells : {E : Type 0} (lane : Lane E) → 1 ≤ lane.promised → lane.ended ≡ false → reserved_by lane ≡ lane.promised + undo_cells lane
promised_cells lane some going = bound_cells lane (bound_by lane.has_records lane.ended lane.promised some going)

open_cells : {E : Type 0} (lane : Lane E) → IsOpen lane → reserved_by lane ≡ lane.promised + undo_cells lane
open_cells lane is = bound_cells lane (bound_now lane.has_records lane.ended (not (lane.promised == 0)) is.records is.going)

-- ---- what is counted of a lane

-- a record is there, and what is promised falls
pub logged_cells : {h r e : Bool} {u u' p : ℕ} {d : Doing} (n : ℕ) → IsCounted h r e u p d → IsCounted true r e u' (p - n) d
logged_cells n cells = record { fresh = λ e. cc; going = cells.going; unpromised = λ e. let none = cells.unpromised e in omega (arith, none) }

-- the undo of a transaction with a record goes on
pub rolled_cells : {h r r' e : Bool} {u u' p : ℕ} {d : Doing} → h ≡ true → IsCounted h r e u p d → IsCounted h r' e u' p d
rolled_cells has cells = record { fresh = λ e. let never : false ≡ true = sym e ∙ has in cc; going = cells.going; unpromised = cells.unpromised }

-- its end is stored
pub ended_cells : {h r e : Bool} {u p : ℕ} {d : Doing} → ends d ≡ true → IsCounted h r e u p d → IsCounted h r true u p d
ended_cells ending cells = record { fresh = cells.fresh; going = λ e. let never : false ≡ true = sym e ∙ ending in cc; unpromised = cells.unpromised }

-- ---- the calls that append don't end the transaction

pub write_goes_on : (d : Doing) → writes_one d ≡ true → ends d ≡ false
write_goes_on Doing.Nothing e = cc
write_goes_on (Doing.Begin set) e = cc
write_goes_on (Doing.Read a) e = cc
write_goes_on (Doing.Write a v) e = refl
write_goes_on (Doing.Take s b) e = refl
write_goes_on (Doing.Give b) e = cc
write_goes_on Doing.Commit e = cc
write_goes_on Doing.Abort e = cc
write_goes_on Doing.Checkpoint e = cc
write_goes_on (Doing.Batch n) e = cc
write_goes_on Doing.Savepoint e = cc
write_goes_on (Doing.RollbackTo n) e = cc

pub batch_goes_on : (d : Doing) → is_batch d ≡ true → ends d ≡ false
batch_goes_on Doing.Nothing e = cc
batch_goes_on (Doing.Begin set) e = cc
batch_goes_on (Doing.Read a) e = cc
batch_goes_on (Doing.Write a v) e = cc
batch_goes_on (Doing.Take s b) e = cc
batch_goes_on (Doing.Give b) e = cc
batch_goes_on Doing.Commit e = cc
batch_goes_on Doing.Abort e = cc
batch_goes_on Doing.Checkpoint e = cc
batch_goes_on (Doing.Batch n) e = refl
batch_goes_on Doing.Savepoint e = cc
batch_goes_on (Doing.RollbackTo n) e = cc

pub give_goes_on : (d : Doing) → gives_one d ≡ true → ends d ≡ false
give_goes_on Doing.Nothing e = cc
give_goes_on (Doing.Begin set) e = cc
give_goes_on (Doing.Read a) e = cc
give_goes_on (Doing.Write a v) e = cc
give_goes_on (Doing.Take s b) e = cc
give_goes_on (Doing.Give b) e = refl
give_goes_on Doing.Commit e = cc
give_goes_on Doing.Abort e = cc
give_goes_on Doing.Checkpoint e = cc
give_goes_on (Doing.Batch n) e = cc
give_goes_on Doing.Savepoint e = cc
give_goes_on (Doing.RollbackTo n) e = cc

-- ---- each record

sum_group : (promised n spare updates frame later before long : ℕ) → 2 * n + spare ≤ promised → long ≡ updates + n →
    later ≡ (promised - (2 * n + spare)) + (long + frame) → before ≡ promised + (updates + frame) → later + (n + spare) ≡ before
sum_group promised n spare updates frame later before long enough e f g = omega (arith, enough, e, f, g)

sum_less : (promised n undo later before : ℕ) → n ≤ promised → later ≡ (promised - n) + undo → before ≡ promised + undo → later + n ≡ before
sum_less promised n undo later before enough f g = omega (arith, enough, f, g)

grouped : {E : Type 0} (lane : Lane E) (updates : List Cell) (spare part : ℕ) → lane.ended ≡ false → 1 ≤ length updates → 2 * length updates + spare ≤ lane.promised →
    reserved_by (moved part (with_group updates spare lane)) + (length updates + spare) ≡ reserved_by lane
grouped lane updates spare part going some cells =
    sum_group lane.promised (length updates) spare (length lane.updates.items) ((if lane.rolled then 0 else 1) + 1) _ _ (length (lane.updates.items ++ updates)) cells
    (length-append lane.updates.items updates)
    (open_cells (moved part (with_group updates spare lane)) (record { records = refl; going = going }))
    (promised_cells lane (omega (arith, some, cells)) going)

pub group_cells : {E : Type 0} (lane : Lane E) (updates : List Cell) (spare part : ℕ) → CanGroup (length updates) spare lane → lane.ended ≡ false →
    reserved_by (moved part (with_group updates spare lane)) + (length updates + spare) ≡ reserved_by lane
group_cells lane updates spare part can going = grouped lane updates spare part going can.some can.cells

pub update_cells : {E : Type 0} (lane : Lane E) (update : Cell) (part : ℕ) → CanUpdate lane → lane.ended ≡ false → reserved_by (moved part (with_update update lane)) + 1 ≡ reserved_by lane
update_cells lane update part can going = grouped lane (update ∷ []) 0 part going (omega arith) can.cells

pub deletion_cells : {E : Type 0} (lane : Lane E) (gate part : ℕ) → CanDelete lane → lane.ended ≡ false → reserved_by (moved part (with_deletion gate lane)) + 1 ≡ reserved_by lane
deletion_cells lane gate part can going = sum_less lane.promised 1 (undo_cells lane) _ _ can.cells
    (open_cells (moved part (with_deletion gate lane)) (record { records = refl; going = going }))
    (promised_cells lane can.cells going)

pub rollback_cells : {E : Type 0} (lane : Lane E) (part : ℕ) → CanRollBack lane → reserved_by (moved part (with_rollback lane)) + 1 ≡ reserved_by lane
rollback_cells lane part can = sum_one lane.promised (length lane.updates.items) _ _
    (open_cells (moved part (with_rollback lane)) (record { records = can.is_open.records; going = can.is_open.going }))
    (open_cells lane can.is_open ∙ ap (λ (t : Bool). lane.promised + (length lane.updates.items + ((if t then 0 else 1) + 1))) can.first)
  where
    sum_one : (promised updates later before : ℕ) → later ≡ promised + (updates + (0 + 1)) → before ≡ promised + (updates + (1 + 1)) → later + 1 ≡ before
    sum_one promised updates later before f g = omega (arith, f, g)

length_take : {X : Type 0} (m : ℕ) (xs : List X) → m ≤ length xs → length (take m xs) ≡ m
length_take zero xs le = refl
length_take (suc m) [] le = absurd (omega (arith, le))
length_take (suc m) (x ∷ xs) le = ap (λ (n : ℕ). suc n) (length_take m xs (omega (arith, le)))

pub compensation_cells : {E : Type 0} (lane : Lane E) (part : ℕ) → CanCompensate lane → reserved_by (moved part (with_compensation lane)) + 1 ≡ reserved_by lane
compensation_cells lane part can = sum_one lane.promised (length lane.updates.items) ((if lane.rolled then 0 else 1) + 1) _ _ _ can.some
    (length_take (length lane.updates.items - 1) lane.updates.items (omega arith))
    (open_cells (moved part (with_compensation lane)) (record { records = can.is_open.records; going = can.is_open.going }))
    (open_cells lane can.is_open)
  where
    sum_one : (promised updates frame left later before : ℕ) → 1 ≤ updates → left ≡ updates - 1 → later ≡ promised + (left + frame) →
        before ≡ promised + (updates + frame) → later + 1 ≡ before
    sum_one promised updates frame left later before some e f g = omega (arith, some, e, f, g)

pub end_cells : {E : Type 0} (lane : Lane E) (part : ℕ) → CanEnd lane → reserved_by (moved part (with_end lane)) + undo_cells lane ≡ reserved_by lane
end_cells lane part can = sum_all lane.promised (undo_cells lane) _ _
    (ap (λ (t : Bool). lane.promised + (if t then undo_cells lane else 0)) (never (lane.has_records || not (lane.promised == 0))))
    (open_cells lane can.is_open)
  where
    never : (t : Bool) → (t && false) ≡ false
    never true = refl
    never false = refl

    sum_all : (promised undo later before : ℕ) → later ≡ promised + 0 → before ≡ promised + undo → later + undo ≡ before
    sum_all promised undo later before f g = omega (arith, f, g)
