-- Behind the end of a transaction no image has a record of it.
use Rattle.std.proofs.Common.{◌≡◌, ◌≢◌, ◌⊎◌, ℕ, zero, suc, Bool, true, ◌<◌, ◌≤◌, List, [], ◌∷◌, length, refl, sym, ap, ◌∙◌, subst, inl, inr, arith}
use Rattle.std.proofs.Math.Logic.{∥∥₁_elim, ∥∥₁_map}
use Rattle.std.proofs.Props.{props}
use Rattle.std.proofs.lemmas.Bool.{cases_lt}
use Rattle.std.proofs.lemmas.List.{get_or_past}
use Rattle.persist_model.specs.Records.{Record, IsAmong, IsOf}
use Rattle.persist_model.specs.Region.{Words, Region, MayStand}
use Rattle.persist_model.specs.Shape.{Shape, heap_words, part_of}
use Rattle.persist_model.specs.State.{State}
use Rattle.lane_traits.specs.Device.{Counts}
use Rattle.region_layout.specs.declared.layout.Layout.{Layout}
use Rattle.region_layout.specs.Layout.{layout_shape}
use Rattle.lane_types.specs.declared.call.Reply.TheVariants.{Begun, Word, Written, Block, Given, Committed, Aborted, Checkpointed, Saved, RolledBack}
use Rattle.lane_types.specs.declared.call.Stepped.{Stepped}
use Rattle.lane_types.specs.declared.call.Stepped.TheVariants.{Moved, Answered, Waiting, Stopped, Idle}
use Rattle.lane_types.specs.Deeds.{Deeds}
use Rattle.lane_types.specs.Faces.{Base, WholeFace}
use Rattle.lane_types.specs.LaneSteps.{CommitStep}
use Rattle.lane_types.specs.LaneSteps as rows
use Rattle.lane_book.specs.declared.book.Book.{Book}
use Rattle.lane_book.specs.declared.lane.Lane.{Lane}
use Rattle.lane_book.specs.declared.lane.Doing.{Doing}
use Rattle.lane_book.specs.Books.{is_asked}
use Rattle.lane_types.specs.declared.call.Phase.TheVariants as Phase
use Rattle.lane_book.specs.FacesOf.{lane_at, idle_lane, faces_of}
use Rattle.lane_book.specs.Steps.{IsStep}
use Rattle.log_keeper.specs.declared.keeper.LogKeeper.{LogKeeper}
use Rattle.log_keeper.proofs.EventsPass.{tracked_images_reach}
use Rattle.log_keeper.proofs.Reading.{keepers_track}
use Rattle.log_keeper.specs.Logged.{IsReached, waiting}
use Rattle.history_laws.specs.Choices.{HasChoice}
use Rattle.history_laws.specs.Histories.{fold}
use Rattle.history_laws.specs.UnderWay.{UnderWay, nothing, appends, closes, takes_back, drops, runs_of, IsAddedIn}
use Rattle.history_laws.proofs.ImagesStand.{images_have_choices}
use Rattle.txn_laws.specs.Flights.{flight_of}
use Rattle.txn_laws.specs.PartsOf.{Fits}
use Rattle.txn_laws.specs.Txns.{Txn, txn_at}
use Rattle.txn_laws.specs.Worlds.{World, IsWorldAt}
use Rattle.txn_laws.proofs.Moments.{moment}
use Rattle.txn_state.specs.Stages.{Stage, Free, stage_at, stage_of}
use Rattle.txn_state.specs.Ties.{IsCome}
use Rattle.txn_state.specs.States.{IsStateOf}
use Rattle.txn_core.specs.Images.{HasNothingOf, LeavesNothing}
use Rattle.txn_core.specs.States.{IsKept, start_of}

-- ---- what an image has

module _ (shape : Shape) (base : Words) (s : State) (chains : ℕ → List ℕ) (start : Words) (w : World) (region : Region) (world : IsWorldAt shape base s chains start w region) where
  -- a record that is under way is of a lane
  added_of : (p : ℕ) (r : Record) (u : UnderWay) → Fits shape s (fold start w.history) p (txn_at w.lanes (w.keeping.holder p)) u → IsAddedIn shape p u r →
      (l : ℕ) × (1 ≤ (txn_at w.lanes l).number) × (r.transaction ≡ (txn_at w.lanes l).number)
  added_of p r nothing fits added = absurd added
  added_of p r (appends adding made) fits added =
      (w.keeping.holder p, fits.number, subst (λ x. x.transaction ≡ (txn_at w.lanes (w.keeping.holder p)).number) (sym added.1) fits.of)
  added_of p r (closes gates ends made) fits added = absurd added
  added_of p r (takes_back gates made) fits added = absurd added
  added_of p r (drops d made) fits added = absurd added

  module _ (i : Words) (may : MayStand i region) where
    reached : IsReached shape base (runs_of w.under) i
    reached = tracked_images_reach shape base (runs_of w.under) (waiting w.keeping) region i world.log.logged.allowed
        (keepers_track shape base s chains w.keeping region (runs_of w.under) (λ p lt. (world.parts p lt).run) world.log.logged) may

    choice : HasChoice shape w.under s (fold start w.history) (flight_of w.lanes) (heap_words shape i) shape.partitions i
    choice = images_have_choices shape base s (fold start w.history) (flight_of w.lanes) w.under i
        (moment shape base s chains start w region world i (λ a m. let size = world.log.logged.size in let below = m.1 in may a (omega (arith, size, below)))) reached

    -- so no record is of a transaction that no lane has
    pub nothing_of : (t : ℕ) → ((l : ℕ) → 1 ≤ (txn_at w.lanes l).number → (txn_at w.lanes l).number ≡ t → ⊥) → HasNothingOf shape t i
    nothing_of t others = record { state = choice.state; has = choice.has; sound = choice.sound; none = λ r m of. by r of (choice.chosen.from r m) }
      where
        by : (r : Record) → IsOf t r → IsAmong s.log r ⊎ ((q : ℕ) × (q < shape.partitions) × IsAddedIn shape q (w.under q) r × (part_of shape r.at ≡ q)) → ⊥
        by r of (inl settled) = let known = world.transactions.known r settled in others known.0 known.1 (sym known.2.0 ∙ of.0)
        by r of (inr added) = let known = added_of added.0 r (w.under added.0) (world.parts added.0 added.1).fits added.2 in others known.0 known.1 (sym known.2 ∙ of.0)

-- ---- the lanes

-- past the last lane there is no transaction
lane_there : (lanes : List Txn) (l : ℕ) → 1 ≤ (txn_at lanes l).number → l < length lanes
lane_there [] l some = absurd (omega (arith, some))
lane_there (x ∷ lanes) zero some = omega arith
lane_there (x ∷ lanes) (suc l) some = let lt = lane_there lanes l some in omega (arith, lt)

-- nor has a lane that is out of any
idle_free : (recorded : Bool) (part : ℕ) (d : Doing) → (is_asked d ≡ true → ⊥) → stage_at Phase.Out recorded part d ≡ Free
idle_free recorded part Doing.Nothing none = refl
idle_free recorded part (Doing.Begin set) none = absurd (none refl)
idle_free recorded part (Doing.Read a) none = absurd (none refl)
idle_free recorded part (Doing.Write a v) none = absurd (none refl)
idle_free recorded part (Doing.Take s block) none = absurd (none refl)
idle_free recorded part (Doing.Give block) none = absurd (none refl)
idle_free recorded part Doing.Commit none = absurd (none refl)
idle_free recorded part Doing.Abort none = absurd (none refl)
idle_free recorded part Doing.Checkpoint none = absurd (none refl)
idle_free recorded part (Doing.Batch n) none = absurd (none refl)
idle_free recorded part Doing.Savepoint none = absurd (none refl)
idle_free recorded part (Doing.RollbackTo n) none = absurd (none refl)

out_free : {E : Type 0} (lane : Lane E) → lane.phase ≡ Phase.Out → (is_asked lane.doing ≡ true → lane.phase ≡ Phase.Calling) → stage_of lane ≡ Free
out_free lane out calling = ap (λ p. stage_at p lane.has_records lane.part lane.doing) out
    ∙ idle_free lane.has_records lane.part lane.doing (λ on. let wrong : Phase.Out ≡ Phase.Calling = sym out ∙ calling on in absurd (cc))

none_come : (log : _) (u : UnderWay) (x : Txn) (stage : Stage) → stage ≡ Free → IsCome log u x stage → x.number ≡ 0
none_come log u x stage free come = let at : IsCome log u x Free = subst (IsCome log u x) free come in ap (λ (y : Txn). y.number) at.0

-- no lane has the transaction that has ended
module _ {E : Type 0} (layout : Layout) (start : Words) (book later : Book E) (keeper kept : LogKeeper) (region behind : Region) (spare left events made : ℕ) (l : ℕ) (lt : l < length book.lanes.items)
    (others : (k : ℕ) → k ≢ l → lane_at later k ≡ lane_at book k) (out : (lane_at later l).phase ≡ Phase.Out)
    (was : IsStateOf layout start book keeper region spare events) (is : IsStateOf layout start later kept behind left made) where
  there_was : (k : ℕ) → 1 ≤ (lane_at book k).transaction → k < length was.w.lanes
  there_was k some = elim (cases_lt k (length book.lanes.items)) [
    | inl below ↦ subst (λ n. k < n) (sym was.tied.lanes) below
    | inr past ↦ (let none : (lane_at book k).transaction ≡ 0 = ap (λ (x : Lane E). x.transaction) (get_or_past book.lanes.items k idle_lane past) in absurd (omega (arith, none, some)))
  ]

  module _ (k : ℕ) (some : 1 ≤ (txn_at is.w.lanes k).number) (same : (txn_at is.w.lanes k).number ≡ (lane_at book l).transaction) where
    there : k < length is.w.lanes
    there = lane_there is.w.lanes k some

    now : (txn_at is.w.lanes k).number ≡ (lane_at later k).transaction
    now = (is.tied.each k there).txn.number

    -- it isn't the lane's own
    not_own : k ≢ l
    not_own e =
        let free : stage_of (lane_at later k) ≡ Free = out_free (lane_at later k) (ap (λ n. (lane_at later n).phase) e ∙ out) (is.is_book.kept k).calling in
        let none = none_come _ _ (txn_at is.w.lanes k) (stage_of (lane_at later k)) free (is.tied.each k there).come in omega (arith, none, some)

    -- nor another's
    of_other : (lane_at book k).transaction ≡ (lane_at book l).transaction
    of_other = ap (λ (x : Lane E). x.transaction) (sym (others k not_own)) ∙ sym now ∙ same

    some_own : 1 ≤ (lane_at book l).transaction
    some_own = omega (arith, same, some)

    some_other : 1 ≤ (lane_at book k).transaction
    some_other = let e = of_other in let own = some_own in omega (arith, e, own)

    own_number : (txn_at was.w.lanes l).number ≡ (lane_at book l).transaction
    own_number = (was.tied.each l (subst (λ n. l < n) (sym was.tied.lanes) lt)).txn.number

    other_number : (txn_at was.w.lanes k).number ≡ (lane_at book k).transaction
    other_number = (was.tied.each k (there_was k some_other)).txn.number

    pub ended_gone : ⊥
    ended_gone = not_own (sym (was.world.transactions.apart l k (let e = own_number in let own = some_own in omega (arith, e, own)) (own_number ∙ sym of_other ∙ sym other_number)))

-- ---- the row of the answer

committed_over : {E : Type 0} (f g : WholeFace E) → CommitStep f g → g.face.phase ≡ Phase.Out
committed_over f g (rows.after_entering deed call entered next) = ap (λ (x : WholeFace _). x.face.phase) next
committed_over f g (rows.entering_now e is next) = ap (λ (x : WholeFace _). x.face.phase) next

-- ---- a step

bottom_prop : IsProp ⊥
bottom_prop = hlevel props

module _ {E : Type 0} (deeds : Deeds E) (layout : Layout) (base : Base) (book later : Book E) (keeper kept : LogKeeper) (region behind : Region) (spare left : ℕ) (counts after : Counts) (l : ℕ)
    (lt : l < length book.lanes.items) (others : (k : ℕ) → k ≢ l → lane_at later k ≡ lane_at book k)
    (was : IsKept deeds layout base book keeper region spare counts) (is : IsKept deeds layout base later kept behind left after) where
  behind_end : (lane_at later l).phase ≡ Phase.Out → (i : Words) → MayStand i behind → ∥ HasNothingOf (layout_shape layout) (lane_at book l).transaction i ∥₁
  behind_end out i may = ∥∥₁_map is (λ w. nothing_of (layout_shape layout) w.state.base w.state.s w.state.chains (start_of layout base) w.state.w behind w.state.world i may (lane_at book l).transaction
      (λ k some same. ∥∥₁_elim was bottom_prop (λ v. ended_gone layout (start_of layout base) book later keeper kept region behind spare left counts.events after.events l lt others out v.state w.state k some same)))

  pub leaves_nothing : (answer : Stepped) → IsStep deeds (faces_of base book) (faces_of base later) l answer → LeavesNothing layout (lane_at book l).transaction behind answer
  leaves_nothing Moved step = tt
  leaves_nothing (Answered (Begun n)) step = tt
  leaves_nothing (Answered (Word v)) step = tt
  leaves_nothing (Answered Written) step = tt
  leaves_nothing (Answered (Block b)) step = tt
  leaves_nothing (Answered Given) step = tt
  leaves_nothing (Answered Committed) step = behind_end (committed_over (faces_of base book l) (faces_of base later l) step.step.row)
  leaves_nothing (Answered Aborted) step = behind_end (ap (λ (x : WholeFace _). x.face.phase) step.step.row.next)
  leaves_nothing (Answered Checkpointed) step = tt
  leaves_nothing (Answered (Saved n)) step = tt
  leaves_nothing (Answered RolledBack) step = tt
  leaves_nothing (Waiting what holder) step = tt
  leaves_nothing Stopped step = tt
  leaves_nothing Idle step = tt
