-- What the last event of a closing's first group leaves.
use Rattle.std.proofs.Common.{◌≡◌, ℕ, ◌%◌, ◌<◌, ◌≤◌, ◌-◌, true, length, None, refl, sym, ◌∙◌, ap, subst}
use Rattle.std.proofs.Math.Logic.{∥∥₁_elim}
use Rattle.std.proofs.Math.Bridge.{le_prop}
use Rattle.std.specs.Vec.{vec_len, vec_capacity}
use Rattle.persist_model.specs.Region.{Words, Region}
use Rattle.lane_traits.specs.Device.{Counts}
use Rattle.region_layout.specs.declared.layout.Layout.{Layout}
use Rattle.lane_types.specs.declared.call.Stepped.{Stepped}
use Rattle.lane_types.specs.Deeds.{Deeds}
use Rattle.lane_types.specs.Faces.{Base}
use Rattle.lane_book.specs.declared.book.Book.{Book}
use Rattle.lane_book.specs.declared.lane.Lane.{Lane}
use Rattle.lane_book.specs.FacesOf.{lane_at}
use Rattle.lane_book.specs.Lanes.{with_lane, moved, paid_event}
use Rattle.lane_book.specs.Calls.{Moves}
use Rattle.lawful_book.proofs.GoingOn.{moved_on}
use Rattle.log_keeper.specs.declared.keeper.LogKeeper.{LogKeeper}
use Rattle.log_keeper.specs.Keeper.{keeping_of, free_places, HasRoomIn}
use Rattle.log_keeper.specs.Slots.{HasRoomOf}
use Rattle.log_keeper.specs.Listing.{gates_in}
use Rattle.log_keeper.specs.Logged.{Keeping}
use Rattle.txn_state.specs.declared.parts.TheConstants.{CLOSE_END}
use Rattle.txn_state.specs.Changes.{IsKept}
use Rattle.txn_state.specs.Stages.{Closing, stage_at, stage_of}
use Rattle.txn_state.specs.ClosingLaws.{end_closing_begun}
use Rattle.txn_state.specs.AppendLaws.{AreLeft, made_in}
use Rattle.txn_state.specs.States.{IsStateOf}
use Rattle.txn_state.proofs.ListRooms.{lists_are_kept}
use Rattle.txn_state.proofs.EndGroups.{closings_go_on}
use Rattle.txn_core.specs.declared.advancing.Went.TheVariants as Went
use Rattle.txn_core.specs.Running.{whole as run_whole}
use Rattle.txn_core.specs.Advancing.{Advances, whole}
use Rattle.txn_core.specs.Clearing.{HasTurned}
use Rattle.txn_core.specs.States.{IsWorld, HasWorld, start_of}
use Rattle.txn_core.specs.Stepping.{StepsWorld, HasMade, IsCause}
use Rattle.txn_core.proofs.Latches.{slots_kept, slot_of_lane}
use Rattle.txn_state.specs.ReadLaws.{clears_in}
use Rattle.txn_core.proofs.Latched.{same_part, turned_latches}
use Rattle.txn_core.proofs.PhasedSteps.{part_phased, clears_on, end_group}
use Rattle.txn_core.proofs.Paid.{paid_goes, paid_step, lawful_with, lawful_paid, lanes_paid, count_paid, steps_world}
use Rattle.txn_core.proofs.Touching.{touches_none, made_leaves}
use Rattle.txn_core.proofs.Paying.{goes_lane}

-- ---- the keeper behind the event

pub turned_then : (keeper mid later : LogKeeper) (k : Keeping) (change : Keeping → Keeping) → IsKept keeper mid k → HasTurned mid later (change (keeping_of mid)) →
    IsKept keeper later (change k)
turned_then keeper mid later k change was is = record {
  kept = is.kept ∙ ap change was.kept;
  number = is.number ∙ was.number;
  places = subst (λ n. free_places keeper ≤ n) (sym (ap (λ entries. vec_capacity entries - vec_len entries) is.ledger)) was.places;
  slots = slots_kept keeper.slots.items mid.slots.items later.slots.items was.slots is.slots;
}

-- ---- the last event of the first group

pub whole_pays : {E : Type 0} (deeds : Deeds E) (layout : Layout) (keeper mid : LogKeeper) (region behind : Region) (counts after : Counts) (spare left : ℕ) (book between : Book E) (l : ℕ) →
    Advances deeds layout keeper mid region behind counts after spare left book between l Went.Whole → between ≡ with_lane book l (paid_event (lane_at book l)) book.touched
whole_pays deeds layout keeper mid region behind counts after spare left book between l (whole runs pays) = pays

pub closing_whole : {E : Type 0} (deeds : Deeds E) (layout : Layout) (book between later : Book E) (keeper mid kept : LogKeeper) (region behind : Region) (spare left : ℕ) (counts after : Counts) (l : ℕ) (answer : Stepped) →
    answer ≡ Stepped.Moved → l < length book.lanes.items → stage_of (lane_at book l) ≡ Closing →
    Advances deeds layout keeper mid region behind counts after spare left book between l Went.Whole →
    HasTurned mid kept (end_closing_begun (l % layout.partitions) (lane_at book l).transaction (keeping_of mid)) →
    Moves deeds between later l None answer (moved CLOSE_END (lane_at between l)) →
    StepsWorld deeds layout book later keeper kept region behind spare left counts after l answer
closing_whole deeds layout book between later keeper mid kept region behind spare left counts after l answer told lt at (whole (run_whole e is counted over made) pays) turned moves =
    steps_world deeds layout book later keeper kept region behind spare left counts after l answer stays (paid_step deeds book between later l answer lt pays moves.step)
    (subst (λ (a : Stepped). HasMade a counts after) (sym told) counted)
    (part_phased book between later l CLOSE_END lt pays moves.is
    (clears_on (lane_at book l).phase (lane_at book l).has_records (lane_at book l).part CLOSE_END (lane_at book l).doing end_group (ap clears_in at) ∙ sym (ap clears_in at)))
    (subst (λ (a : Stepped). IsCause layout book keeper counts l a) (sym told) tt)
    (count_paid book between later l (moved CLOSE_END (lane_at between l)) pays (ap (λ (b : Book _). b.lanes) moves.is))
    (λ base world. touches_none layout region behind later.touched (ap (λ (b : Book _). b.touched) moves.is)
    (made_leaves layout (start_of layout base) book keeper region behind spare left counts.events after.events l e is world.state))
    (turned_latches deeds layout book book between keeper keeper mid region behind spare left counts after l (λ q ne. same_part keeper keeper refl q) later kept _ _
    (whole (run_whole e is counted over made) pays) turned.kept (ap (λ (x : Lane _). clears_in (stage_of x)) behind_stage ∙ clears_next))
  where
    inside : l < length between.lanes.items
    inside = lanes_paid book between l pays lt

    clears_next : clears_in (stage_at (lane_at book l).phase (lane_at book l).has_records CLOSE_END (lane_at book l).doing) ≡ true
    clears_next = clears_on (lane_at book l).phase (lane_at book l).has_records (lane_at book l).part CLOSE_END (lane_at book l).doing end_group (ap clears_in at)

    behind_stage : lane_at later l ≡ moved CLOSE_END (paid_event (lane_at book l))
    behind_stage = (paid_goes book between later l (paid_event (lane_at book l)) (moved CLOSE_END) book.touched lt pays
        (goes_lane between later l (moved CLOSE_END (lane_at between l)) None inside moves.is)).lanes.here

    stays : (base : Base) → IsWorld deeds layout base book keeper region spare counts.events → IsWorld deeds layout base later kept behind left after.events
    stays base world = record {
      state = closings_go_on layout (start_of layout base) book later keeper kept region behind spare left counts.events after.events l e is over at
          (paid_goes book between later l (paid_event (lane_at book l)) (moved CLOSE_END) book.touched lt pays
          (goes_lane between later l (moved CLOSE_END (lane_at between l)) None inside moves.is)) moves.kept
          (turned_then keeper mid kept (made_in layout keeper (l % layout.partitions)) (end_closing_begun (l % layout.partitions) (lane_at book l).transaction) made turned) world.state;
      lawful = lawful_with deeds layout base between later l (moved CLOSE_END (lane_at between l)) None inside moves.is (moved_on CLOSE_END (lane_at between l))
          (lawful_paid deeds layout base book between l lt pays world.lawful);
    }

-- the lists have memory for the gates of the end
end_room : {E : Type 0} (layout : Layout) (start : Words) (book : Book E) (keeper mid : LogKeeper) (region : Region) (spare events l : ℕ) → l < length book.lanes.items →
    stage_of (lane_at book l) ≡ Closing → AreLeft layout keeper (l % layout.partitions) 1 → IsKept keeper mid (made_in layout keeper (l % layout.partitions)) →
    IsStateOf layout start book keeper region spare events →
    HasRoomIn mid.slots.items (l % layout.partitions) (length (gates_in (lane_at book l).transaction true (keeping_of mid).ledger))
end_room layout start book keeper mid region spare events l lt at over made state =
    made.slots.lists (l % layout.partitions) _ (slot_of_lane layout keeper l state.tied.slots)
    (subst (λ (k : Keeping). HasRoomIn keeper.slots.items (l % layout.partitions) (length (gates_in (lane_at book l).transaction true k.ledger))) (sym made.kept)
    (lists_are_kept.ends layout start book keeper region spare events l lt at over state))

pub has_end_room : {E : Type 0} (deeds : Deeds E) (layout : Layout) (book between : Book E) (keeper mid : LogKeeper) (region behind : Region) (spare left : ℕ) (counts after : Counts) (l t : ℕ) →
    t ≡ (lane_at book l).transaction → l < length book.lanes.items → stage_of (lane_at book l) ≡ Closing → HasWorld deeds layout book keeper region spare counts →
    Advances deeds layout keeper mid region behind counts after spare left book between l Went.Whole →
    HasRoomIn mid.slots.items (l % layout.partitions) (length (gates_in t true (keeping_of mid).ledger))
has_end_room deeds layout book between keeper mid region behind spare left counts after l t told lt at world (whole (run_whole e is counted over made) pays) x is_x =
    let room : (w : (base : Base) × IsWorld deeds layout base book keeper region spare counts.events) → HasRoomOf x (length (gates_in t true (keeping_of mid).ledger)) =
    λ w. subst (λ n. HasRoomOf x (length (gates_in n true (keeping_of mid).ledger))) (sym told)
    (end_room layout (start_of layout w.0) book keeper mid region spare counts.events l lt at over made w.1.state x is_x) in
    (∥∥₁_elim world le_prop (λ w. (room w).0), ∥∥₁_elim world le_prop (λ w. (room w).1), ∥∥₁_elim world le_prop (λ w. (room w).2))

-- the partition has a slot yet
pub slot_behind : {E : Type 0} (deeds : Deeds E) (layout : Layout) (book between : Book E) (keeper mid : LogKeeper) (region behind : Region) (spare left : ℕ) (counts after : Counts) (l : ℕ) →
    length keeper.slots.items ≡ layout.partitions → Advances deeds layout keeper mid region behind counts after spare left book between l Went.Whole →
    l % layout.partitions < length mid.slots.items
slot_behind deeds layout book between keeper mid region behind spare left counts after l slots (whole (run_whole e is counted over made) pays) =
    slot_of_lane layout mid l (made.slots.count ∙ slots)
