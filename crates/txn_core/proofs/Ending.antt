-- What a fence leaves.
use Rattle.std.proofs.Common.{◌≡◌, ◌⊎◌, inl, inr, ℕ, ◌<◌, true, false, refl, length, None, sym, ◌∙◌, ap, subst}
use Rattle.persist_model.specs.declared.event.Event.{Event}
use Rattle.persist_model.specs.declared.event.Event.TheVariants.{Fence}
use Rattle.persist_model.specs.Region.{Region}
use Rattle.lane_traits.specs.Device.{Counts}
use Rattle.lane_traits.specs.declared.device.Done.TheVariants as Done
use Rattle.region_layout.specs.declared.layout.Layout.{Layout}
use Rattle.lane_types.specs.declared.call.Phase.{Phase}
use Rattle.lane_types.specs.declared.call.Stepped.{Stepped}
use Rattle.lane_types.specs.Deeds.{Deeds}
use Rattle.lane_types.specs.Faces.{Base}
use Rattle.lane_book.specs.declared.book.Book.{Book}
use Rattle.lane_book.specs.declared.lane.Lane.{Lane}
use Rattle.lane_book.specs.FacesOf.{lane_at}
use Rattle.lane_book.specs.Lanes.{with_lane, noted, moved, paid_event}
use Rattle.lane_book.specs.Steps.{Steps}
use Rattle.lane_book.specs.Books.{IsBook}
use Rattle.lane_book.specs.Steps.{Steps}
use Rattle.lane_book.specs.Books.{IsBook}
use Rattle.lane_book.specs.Calls.{Moves}
use Rattle.lawful_book.proofs.GoingOn.{moved_on}
use Rattle.log_keeper.specs.declared.keeper.LogKeeper.{LogKeeper}
use Rattle.txn_state.specs.declared.parts.TheConstants.{END}
use Rattle.txn_state.specs.Stages.{Stage, Securing, Keeping, stage_of}
use Rattle.txn_state.specs.ReadLaws.{makes_events}
use Rattle.txn_core.specs.Latched.{is_latched, none_held}
use Rattle.txn_state.proofs.HeapSteps.{fences_keep}
use Rattle.txn_core.specs.Advancing.{Stops}
use Rattle.txn_core.specs.Making.{Makes, stopped, made}
use Rattle.txn_core.specs.States.{IsWorld, start_of}
use Rattle.txn_core.specs.Stepping.{StepsWorld, HasMade, IsCause}
use Rattle.txn_core.proofs.PhasedSteps.{part_phased, end_open, fence_open}
use Rattle.txn_core.proofs.Paid.{paid_goes, paid_step, lawful_with, lawful_paid, lanes_paid, count_paid, steps_world, stops_world}
use Rattle.txn_core.proofs.Touching.{touches_none, log_leaves}
use Rattle.txn_core.proofs.Paying.{goes_lane}

-- it is none of a latched part
fence_aside : (s : Stage) → (s ≡ Securing) ⊎ (s ≡ Keeping) → is_latched s ≡ false
fence_aside s (inl at) = ap is_latched at
fence_aside s (inr at) = ap is_latched at

pub fenced_world : {E : Type 0} (deeds : Deeds E) (layout : Layout) (book between later : Book E) (keeper : LogKeeper) (region behind : Region) (spare left : ℕ) (counts after : Counts) (l : ℕ) (answer : Stepped) → answer ≡ Stepped.Moved →
    l < length book.lanes.items → (stage_of (lane_at book l) ≡ Securing) ⊎ (stage_of (lane_at book l) ≡ Keeping) →
    Makes Fence region behind counts after spare left book between l Done.Made → Moves deeds between later l None answer (moved END (lane_at between l)) →
    StepsWorld deeds layout book later keeper keeper region behind spare left counts after l answer
fenced_world deeds layout book between later keeper region behind spare left counts after l answer told lt at (made event counted paid) moves =
    steps_world deeds layout book later keeper keeper region behind spare left counts after l answer stays (paid_step deeds book between later l answer lt paid moves.step)
    (subst (λ (a : Stepped). HasMade a counts after) (sym told) counted)
    (part_phased book between later l END lt paid moves.is (end_open (lane_at book l).phase (lane_at book l).has_records (lane_at book l).doing ∙ sym (fence_open (stage_of (lane_at book l)) at)))
    (subst (λ (a : Stepped). IsCause layout book keeper counts l a) (sym told) tt)
    (count_paid book between later l (moved END (lane_at between l)) paid (ap (λ (b : Book _). b.lanes) moves.is))
    (λ base world. touches_none layout region behind later.touched (ap (λ (b : Book _). b.touched) moves.is) (log_leaves layout region behind l Fence event.cells tt))
    (none_held refl (fence_aside (stage_of (lane_at book l)) at))
  where
    inside : l < length between.lanes.items
    inside = lanes_paid book between l paid lt

    stays : (base : Base) → IsWorld deeds layout base book keeper region spare counts.events → IsWorld deeds layout base later keeper behind left after.events
    stays base world = record {
      state = fences_keep layout (start_of layout base) book later keeper region behind spare left counts.events after.events l event at
          (paid_goes book between later l (paid_event (lane_at book l)) (moved END) book.touched lt paid
          (goes_lane between later l (moved END (lane_at between l)) None inside moves.is)) moves.kept world.state;
      lawful = lawful_with deeds layout base between later l (moved END (lane_at between l)) None inside moves.is (moved_on END (lane_at between l))
          (lawful_paid deeds layout base book between l lt paid world.lawful);
    }

-- a fence is an event
pub fence_makes : (s : Stage) → (s ≡ Securing) ⊎ (s ≡ Keeping) → makes_events s ≡ true
fence_makes s (inl at) = ap makes_events at
fence_makes s (inr at) = ap makes_events at

-- behind a payment the lane is in its call yet
pub paid_calls : {E : Type 0} (book between : Book E) (l : ℕ) → l < length book.lanes.items → between ≡ with_lane book l (paid_event (lane_at book l)) book.touched →
    (lane_at book l).phase ≡ Phase.Calling → (lane_at between l).phase ≡ Phase.Calling
paid_calls book between l lt paid calling = ap (λ (x : Lane _). x.phase) (goes_lane book between l (paid_event (lane_at book l)) book.touched lt paid).lanes.here ∙ calling

-- What `made` says of the book where the device made the event.
pub made_pays : {E : Type 0} (e : Event) (region behind : Region) (counts after : Counts) (spare left : ℕ) (book later : Book E) (l : ℕ) →
    Makes e region behind counts after spare left book later l Done.Made → later ≡ with_lane book l (paid_event (lane_at book l)) book.touched
made_pays e region behind counts after spare left book later l (made event counted paid) = paid

pub made_stops : {E : Type 0} (deeds : Deeds E) (layout : Layout) (keeper : LogKeeper) (e : Event) (region behind : Region) (counts after : Counts) (spare left : ℕ) (book between later : Book E) (l : ℕ) (answer : Stepped) →
    answer ≡ Stepped.Stopped → l < length book.lanes.items → Makes e region behind counts after spare left book between l Done.Stopped →
    later ≡ record (with_lane between l (noted Stepped.Stopped (lane_at between l)) None) { stopped = true } → Steps deeds between later l answer → IsBook later →
    StepsWorld deeds layout book later keeper keeper region behind spare left counts after l answer
made_stops deeds layout keeper e region behind counts after spare left book between later l answer told lt (stopped device same) is step kept =
    subst (λ (a : Stepped). StepsWorld deeds layout book later keeper keeper region behind spare left counts after l a) (sym told)
    (stops_world deeds layout book later keeper region behind spare left counts after l lt device (subst (λ (b : Book _). Stops deeds b later l) same
    (record { is = is; step = subst (λ (a : Stepped). Steps deeds between later l a) told step; kept = kept })))
