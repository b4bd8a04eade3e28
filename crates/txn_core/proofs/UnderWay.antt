-- What stands behind the begin of an append, and behind an event of a part that is answered.
use Rattle.std.proofs.Common.{◌≡◌, ℕ, ◌+◌, ◌-◌, ◌%◌, ◌<◌, ◌≤◌, ◌==◌, ◌&&◌, if◌then◌else◌, Bool, true, false, List, Option, length, None, inr, refl, sym, ap, ◌∙◌, subst, arith, inl}
use Rattle.std.specs.Vec.{vec_len, vec_capacity}
use Rattle.persist_model.specs.Region.{Region}
use Rattle.lane_traits.specs.Device.{Counts}
use Rattle.region_layout.specs.declared.cell.Cell.{Cell}
use Rattle.region_layout.specs.declared.layout.Layout.{Layout}
use Rattle.lane_types.specs.declared.call.Phase.{Phase}
use Rattle.lane_types.specs.declared.call.Stepped.{Stepped}
use Rattle.lane_types.specs.Deeds.{Deeds}
use Rattle.lane_types.specs.Faces.{Base}
use Rattle.lane_book.specs.declared.book.Book.{Book}
use Rattle.lane_book.specs.declared.lane.Lane.{Lane}
use Rattle.lane_book.specs.FacesOf.{lane_at, faces_of}
use Rattle.lane_book.specs.declared.lane.Doing.{Doing}
use Rattle.lane_book.specs.Appends.{with_update}
use Rattle.lane_book.specs.Lanes.{with_lane, noted, moved, owing, paid_event, paid_record}
use Rattle.lane_book.specs.Steps.{IsStep}
use Rattle.lane_book.specs.Books.{IsBook}
use Rattle.lane_book.specs.Calls.{Moves}
use Rattle.lawful_book.specs.Laws.{GoesOn}
use Rattle.lawful_book.proofs.GoingOn.{noted_on, moved_on, update_on, rollback_on, compensation_on, end_on}
use Rattle.txn_core.proofs.LawfulKept.{steps_keep, same_books_keep}
use Rattle.log_keeper.specs.declared.keeper.LogKeeper.{LogKeeper}
use Rattle.log_keeper.specs.Keeper.{keeping_of, KeepsSlots, free_places}
use Rattle.log_keeper.specs.Logged.{Keeping as Logging, latched}
use Rattle.txn_state.specs.Changes.{GoesTo, IsKept}
use Rattle.txn_state.specs.QuietLaws.{HasSameTransaction}
use Rattle.txn_state.specs.AppendLaws.{IsNextCell, Notices, LetsGoOne, GoesOnTo, made_in, undo_part, update, rollback, compensation, end, store_word, undo, take_back}
use Rattle.txn_state.specs.ReadLaws.{IsNextPlaceSeen, clears_in}
use Rattle.txn_state.specs.States.{reserved_for}
use Rattle.txn_state.specs.declared.parts.TheConstants.{FIRST, STORE, END, CLOSE, CLOSE_END}
use Rattle.txn_state.specs.Stages.{Stage, Free, Between, Leaving, Naming, Storing, Securing, Opening, Undoing, TakingBack, Keeping, Ending, Closing, ClosingEnd, Dropping, Unbuilt, stage_at, stage_of, commit_stage, is_commit, Deleting}
use Rattle.txn_state.proofs.AppendBegins.{appends_begin}
use Rattle.txn_state.proofs.PartsGoing.{parts_go_on}
use Rattle.txn_state.proofs.GateStores.{gates_are_stored}
use Rattle.txn_state.proofs.Lanes.{reserved_less}
use Rattle.txn_state.proofs.RecordsSettling.{records_settle}
use Rattle.txn_state.proofs.SameTransaction.{notes_keep}
use Rattle.txn_state.proofs.ReservedRoom.{views_are_read}
use Rattle.txn_core.specs.declared.advancing.Went.{Went}
use Rattle.txn_core.specs.declared.running.Ran.TheVariants as Ran
use Rattle.txn_core.specs.Beginning.{Begins, holds, begins}
use Rattle.txn_core.specs.Running.{Runs, HasStopped, stopped, going, stored, whole, one_made}
use Rattle.txn_core.specs.Advancing.{Advances, Stops, stopped as stops_so, going as goes_so, stored as stored_so, whole as whole_so}
use Rattle.txn_core.specs.States.{IsWorld, start_of}
use Rattle.txn_core.specs.Stepping.{HasMade, IsCause}
use Rattle.txn_core.specs.Phases.{IsPhased, ArePhased}
use Rattle.txn_core.proofs.Facts.{IsRead}
use Rattle.txn_core.proofs.Phasing.{phased_with, noted_phased, owing_phased, moved_phased, other_phased}
use Rattle.txn_core.proofs.OpenParts.{IsOpenPart, store_part, part_open, undoes_open, naming_open}
use Rattle.txn_core.proofs.Latches.{part_of_lane, slots_kept}
use Rattle.txn_core.proofs.Paying.{goes_lane, goes_stopped, goes_then, inside_then, IsPaid, paid_none, paid_lane, paid_step, paid_book, paid_lawful, noted_same, moved_same}

-- ---- an append is begun

pub begun_paid : {E : Type 0} (layout : Layout) (keeper mid : LogKeeper) (book between : Book E) (words : List ℕ) (l : ℕ) (cell : Cell) → l < length book.lanes.items →
    Begins layout keeper mid book between words l cell None → IsPaid book between l
begun_paid layout keeper mid book between words l cell lt (holds held same_keeper same) = subst (λ (b : Book _). IsPaid book b l) (sym same) (paid_none book l lt)
begun_paid layout keeper mid book between words l cell lt (begins place free seen drawn is) =
    paid_lane book between l (lane_at book l).owed_events ((paid_record (lane_at book l)).owed_records) book.touched lt is

-- The cell has to be the next one only where the append begins.
pub begun_world_if_free : {E : Type 0} (deeds : Deeds E) (layout : Layout) (base : Base) (keeper mid : LogKeeper) (book between : Book E) (words : List ℕ) (region : Region) (spare : ℕ) (counts : Counts) (l : ℕ) (cell : Cell) →
    IsRead words region counts → l < length book.lanes.items →
    ((keeping_of keeper).holder (l % layout.partitions) ≡ 17 → IsNextCell region (lane_at book l) cell) → Begins layout keeper mid book between words l cell None →
    IsWorld deeds layout base book keeper region spare counts.events → IsWorld deeds layout base between mid region spare counts.events
begun_world_if_free deeds layout base keeper mid book between words region spare counts l cell read lt next (holds held same_keeper same) world =
    subst (λ (b : Book _). IsWorld deeds layout base b mid region spare counts.events) (sym same)
    (subst (λ k. IsWorld deeds layout base book k region spare counts.events) (sym same_keeper) world)
begun_world_if_free deeds layout base keeper mid book between words region spare counts l cell read lt next (begins place free seen drawn is) world = record {
  state = appends_begin _ layout (start_of layout base) book between keeper mid region spare counts.events l place cell free
      (views_are_read.place layout (start_of layout base) book keeper region spare counts.events (l % layout.partitions) place (part_of_lane layout l) read.full world.state
      (subst (λ ws. IsNextPlaceSeen layout (l % layout.partitions) ws place) read.reads seen)) (next free) (λ a within. read.full a) read.few
      (goes_lane book between l (paid_record (lane_at book l)) book.touched lt is)
      (paid_book book between l (lane_at book l).owed_events ((paid_record (lane_at book l)).owed_records) book.touched lt is world.state.is_book.kept) drawn world.state;
  lawful = paid_lawful deeds layout base book between l (lane_at book l).owed_events ((paid_record (lane_at book l)).owed_records) book.touched lt is world.lawful;
}

pub begun_world : {E : Type 0} (deeds : Deeds E) (layout : Layout) (base : Base) (keeper mid : LogKeeper) (book between : Book E) (words : List ℕ) (region : Region) (spare : ℕ) (counts : Counts) (l : ℕ) (cell : Cell) →
    IsRead words region counts → l < length book.lanes.items → IsNextCell region (lane_at book l) cell → Begins layout keeper mid book between words l cell None →
    IsWorld deeds layout base book keeper region spare counts.events → IsWorld deeds layout base between mid region spare counts.events
begun_world deeds layout base keeper mid book between words region spare counts l cell read lt next =
    begun_world_if_free deeds layout base keeper mid book between words region spare counts l cell read lt (λ free. next)

-- ---- an event of the part is answered

pub same_device : {E : Type 0} (deeds : Deeds E) (layout : Layout) (base : Base) (book : Book E) (keeper kept : LogKeeper) (region behind : Region) (spare left events made : ℕ) →
    kept ≡ keeper → behind ≡ region → left ≡ spare → made ≡ events → IsWorld deeds layout base book keeper region spare events → IsWorld deeds layout base book kept behind left made
same_device deeds layout base book keeper kept region behind spare left events made same_keeper same_region same_spare same_events world =
    subst (λ k. IsWorld deeds layout base book k behind left made) (sym same_keeper) (subst (λ r. IsWorld deeds layout base book keeper r left made) (sym same_region)
    (subst (λ n. IsWorld deeds layout base book keeper region n made) (sym same_spare) (subst (λ n. IsWorld deeds layout base book keeper region spare n) (sym same_events) world)))

-- a note of a lane leaves the world as it was
pub noted_world : {E : Type 0} (deeds : Deeds E) (layout : Layout) (base : Base) (book later : Book E) (keeper : LogKeeper) (region : Region) (spare events l : ℕ) (answer : Stepped) → l < length book.lanes.items →
    later ≡ with_lane book l (noted answer (lane_at book l)) None → IsBook later →
    IsWorld deeds layout base book keeper region spare events → IsWorld deeds layout base later keeper region spare events
noted_world deeds layout base book later keeper region spare events l answer lt is kept world = record {
  state = notes_keep layout (start_of layout base) book later keeper region spare events l (noted answer (lane_at book l)) (noted_same answer (lane_at book l))
      (goes_lane book later l (noted answer (lane_at book l)) None lt is) kept world.state;
  lawful = steps_keep deeds layout base book later l (noted answer (lane_at book l)) None world.lawful lt is (noted_on answer (lane_at book l));
}

-- and so does a stop
pub stopped_world : {E : Type 0} (deeds : Deeds E) (layout : Layout) (base : Base) (book later : Book E) (keeper : LogKeeper) (region : Region) (spare events l : ℕ) → l < length book.lanes.items →
    Stops deeds book later l → IsWorld deeds layout base book keeper region spare events → IsWorld deeds layout base later keeper region spare events
stopped_world deeds layout base book later keeper region spare events l lt stops world = record {
  state = notes_keep layout (start_of layout base) book later keeper region spare events l (noted Stepped.Stopped (lane_at book l)) (noted_same Stepped.Stopped (lane_at book l))
      (goes_stopped book later l (noted Stepped.Stopped (lane_at book l)) None lt stops.is) stops.kept world.state;
  lawful = same_books_keep deeds layout base (with_lane book l (noted Stepped.Stopped (lane_at book l)) None) later
      (steps_keep deeds layout base book (with_lane book l (noted Stepped.Stopped (lane_at book l)) None) l (noted Stepped.Stopped (lane_at book l)) None world.lawful lt refl
      (noted_on Stepped.Stopped (lane_at book l)))
      (record {
        lanes = ap (λ (b : Book _). b.lanes) stops.is;
        history = ap (λ (b : Book _). b.history.items) stops.is;
        blocks = ap (λ (b : Book _). b.blocks) stops.is;
        next = ap (λ (b : Book _). b.next_transaction) stops.is;
      });
}

-- what the device is where it stopped
pub stopped_runs : (layout : Layout) (keeper kept : LogKeeper) (region behind : Region) (counts after : Counts) (l spare left : ℕ) →
    Runs layout keeper kept region behind counts after l spare left Ran.Stopped → HasStopped region behind counts after spare left × (kept ≡ keeper)
stopped_runs layout keeper kept region behind counts after l spare left (stopped has same) = (has, same)

going_world : {E : Type 0} (deeds : Deeds E) (layout : Layout) (base : Base) (book between later : Book E) (keeper kept : LogKeeper) (region behind : Region) (spare left : ℕ) (counts after : Counts) (l : ℕ) →
    l < length book.lanes.items → Runs layout keeper kept region behind counts after l spare left Ran.Going →
    between ≡ with_lane book l (paid_event (lane_at book l)) book.touched →
    Moves deeds between later l None Stepped.Moved (moved (lane_at between l).part (lane_at between l)) →
    IsWorld deeds layout base book keeper region spare counts.events → IsWorld deeds layout base later kept behind left after.events
going_world deeds layout base book between later keeper kept region behind spare left counts after l lt (going e n made counted are no_gate keeps) pays moves world =
    let goes = goes_lane book between l (paid_event (lane_at book l)) book.touched lt pays in
    let inside = inside_then book between l (paid_event (lane_at book l)) goes in
    record {
      state = parts_go_on _ layout (start_of layout base) book later keeper kept region behind spare left counts.events after.events l n e
          (moved (lane_at between l).part (lane_at between l)) made are no_gate
          (subst (λ (x : Lane _). HasSameTransaction x (moved (lane_at between l).part (lane_at between l))) goes.lanes.here (moved_same (lane_at between l)))
          (goes_then book between later l (paid_event (lane_at book l)) (moved (lane_at between l).part (lane_at between l)) goes
          (goes_lane between later l (moved (lane_at between l).part (lane_at between l)) None inside moves.is)) moves.kept keeps world.state;
      lawful = steps_keep deeds layout base between later l (moved (lane_at between l).part (lane_at between l)) None
          (paid_lawful deeds layout base book between l ((paid_event (lane_at book l)).owed_events) (lane_at book l).owed_records book.touched lt pays world.lawful) inside moves.is
          (moved_on (lane_at between l).part (lane_at between l));
    }

-- An event of the part is answered: the device has stopped, or the call goes on.
pub answered_world : {E : Type 0} (deeds : Deeds E) (layout : Layout) (base : Base) (book later : Book E) (keeper kept : LogKeeper) (region behind : Region) (spare left : ℕ) (counts after : Counts) (l : ℕ) (answer : Stepped) →
    l < length book.lanes.items → Advances deeds layout keeper kept region behind counts after spare left book later l (Went.Answered answer) →
    IsWorld deeds layout base book keeper region spare counts.events → IsWorld deeds layout base later kept behind left after.events
answered_world deeds layout base book later keeper kept region behind spare left counts after l _ lt (stops_so between runs pays stops) world =
    let has = stopped_runs layout keeper kept region behind counts after l spare left runs in
    same_device deeds layout base later keeper kept region behind spare left counts.events after.events has.1 has.0.region_stays has.0.spare_stays
    (ap (λ (each : Counts). each.events) has.0.counted_it)
    (stopped_world deeds layout base book later keeper region spare counts.events l lt (subst (λ (b : Book _). Stops deeds b later l) pays stops) world)
answered_world deeds layout base book later keeper kept region behind spare left counts after l _ lt (goes_so between runs pays moves) world =
    going_world deeds layout base book between later keeper kept region behind spare left counts after l lt runs pays moves world

pub going_counted : (layout : Layout) (keeper kept : LogKeeper) (region behind : Region) (counts after : Counts) (l spare left : ℕ) →
    Runs layout keeper kept region behind counts after l spare left Ran.Going → after ≡ one_made counts
going_counted layout keeper kept region behind counts after l spare left (going e n made counted are no_gate keeps) = counted

pub answered_made : {E : Type 0} (deeds : Deeds E) (layout : Layout) (book later : Book E) (keeper kept : LogKeeper) (region behind : Region) (spare left : ℕ) (counts after : Counts) (l : ℕ) (answer : Stepped) →
    Advances deeds layout keeper kept region behind counts after spare left book later l (Went.Answered answer) → HasMade answer counts after
answered_made deeds layout book later keeper kept region behind spare left counts after l _ (stops_so between runs pays stops) =
    inr (stopped_runs layout keeper kept region behind counts after l spare left runs).0.counted_it
answered_made deeds layout book later keeper kept region behind spare left counts after l _ (goes_so between runs pays moves) =
    going_counted layout keeper kept region behind counts after l spare left runs

pub answered_step : {E : Type 0} (deeds : Deeds E) (layout : Layout) (base : Base) (book later : Book E) (keeper kept : LogKeeper) (region behind : Region) (spare left : ℕ) (counts after : Counts) (l : ℕ) (answer : Stepped) →
    l < length book.lanes.items → Advances deeds layout keeper kept region behind counts after spare left book later l (Went.Answered answer) →
    IsStep deeds (faces_of base book) (faces_of base later) l answer
answered_step deeds layout base book later keeper kept region behind spare left counts after l _ lt (stops_so between runs pays stops) =
    subst (λ (b : Book _). IsStep deeds (faces_of base b) (faces_of base later) l Stepped.Stopped) pays (stops.step base)
answered_step deeds layout base book later keeper kept region behind spare left counts after l _ lt (goes_so between runs pays moves) =
    paid_step deeds base book between l Stepped.Moved (faces_of base later)
    (paid_lane book between l ((paid_event (lane_at book l)).owed_events) (lane_at book l).owed_records book.touched lt pays) (moves.step base)

-- ---- a record's gate is stored

reserved_paid : {E : Type 0} (layout : Layout) (book between : Book E) (l : ℕ) → l < length book.lanes.items →
    between ≡ with_lane book l (paid_event (lane_at book l)) book.touched → (q : ℕ) → reserved_for layout between q ≤ reserved_for layout book q
reserved_paid layout book between l lt pays q =
    reserved_less layout book between l (paid_event (lane_at book l)) (goes_lane book between l (paid_event (lane_at book l)) book.touched lt pays).lanes (omega arith) q

lets_go : (a b c d : ℕ) → a + b ≤ c → c ≤ d → a + b ≤ d
lets_go a b c d less paid = omega (arith, less, paid)

part_noticed : {E : Type 0} (lane : Lane E) (c : Cell) (later : Lane E) → Notices lane c later → later.part ≡ lane.part
part_noticed lane c _ (update at) = refl
part_noticed lane c _ (rollback at) = refl
part_noticed lane c _ (compensation at) = refl
part_noticed lane c _ (end at) = refl

noticed_on : {E : Type 0} (part : ℕ) (lane : Lane E) (c : Cell) (later : Lane E) → Notices lane c later → GoesOn lane (moved part later)
noticed_on part lane c _ (update at) = update_on part c lane
noticed_on part lane c _ (rollback at) = rollback_on part lane
noticed_on part lane c _ (compensation at) = compensation_on part lane
noticed_on part lane c _ (end at) = end_on part lane

behind_store : {E : Type 0} (deeds : Deeds E) (layout : Layout) (base : Base) (book between later : Book E) (keeper kept : LogKeeper) (region behind : Region) (spare left : ℕ) (counts after : Counts) (l : ℕ) (c : Cell)
    (lane : Lane E) → l < length book.lanes.items → Runs layout keeper kept region behind counts after l spare left (Ran.Stored c) →
    between ≡ with_lane book l (paid_event (lane_at book l)) book.touched → Notices (lane_at between l) c lane → LetsGoOne layout between later (l % layout.partitions) →
    Moves deeds between later l None Stepped.Moved (moved (lane_at between l).part lane) →
    IsWorld deeds layout base book keeper region spare counts.events → IsWorld deeds layout base later kept behind left after.events
behind_store deeds layout base book between later keeper kept region behind spare left counts after l c lane lt (stored e place _ made counted are part_is keeps) pays notices falls moves world =
    let goes = goes_lane book between l (paid_event (lane_at book l)) book.touched lt pays in
    let inside = inside_then book between l (paid_event (lane_at book l)) goes in
    let step = goes_then book between later l (paid_event (lane_at book l)) (moved (lane_at between l).part lane) goes
    (goes_lane between later l (moved (lane_at between l).part lane) None inside moves.is) in
    record {
      state = gates_are_stored _ layout (start_of layout base) book later keeper kept region behind spare left counts.events after.events l e place c lane made are part_is
          (subst (λ (x : Lane _). Notices x c lane) goes.lanes.here notices)
          (λ q. lets_go (reserved_for layout later q) (if q == l % layout.partitions then 1 else 0) (reserved_for layout between q) (reserved_for layout book q) (falls q)
          (reserved_paid layout book between l lt pays q))
          (subst (λ n. GoesTo book later l (moved n lane)) (sym (part_noticed (lane_at between l) c lane notices)) step) moves.kept keeps world.state;
      lawful = steps_keep deeds layout base between later l (moved (lane_at between l).part lane) None
          (paid_lawful deeds layout base book between l ((paid_event (lane_at book l)).owed_events) (lane_at book l).owed_records book.touched lt pays world.lawful) inside moves.is
          (noticed_on (lane_at between l).part (lane_at between l) c lane notices);
    }

-- a record's gate is stored
pub stored_world : {E : Type 0} (deeds : Deeds E) (layout : Layout) (base : Base) (book between later : Book E) (keeper kept : LogKeeper) (region behind : Region) (spare left : ℕ) (counts after : Counts) (l : ℕ) (c : Cell)
    (lane : Lane E) → l < length book.lanes.items → Advances deeds layout keeper kept region behind counts after spare left book between l (Went.Stored c) →
    Notices (lane_at between l) c lane → LetsGoOne layout between later (l % layout.partitions) →
    Moves deeds between later l None Stepped.Moved (moved (lane_at between l).part lane) →
    IsWorld deeds layout base book keeper region spare counts.events → IsWorld deeds layout base later kept behind left after.events
stored_world deeds layout base book between later keeper kept region behind spare left counts after l c lane lt (stored_so _ runs pays) notices falls moves world =
    behind_store deeds layout base book between later keeper kept region behind spare left counts after l c lane lt runs pays notices falls moves world

-- ---- a record is settled

-- the keeper let the latch of the partition go, and is else as it was
pub record LetsLatchGo (p : ℕ) (keeper later : LogKeeper) : Type 0 where
  pub kept : keeping_of later ≡ latched p 17 (keeping_of keeper)
  pub number : later.next_lsn ≡ keeper.next_lsn
  pub ledger : later.ledger ≡ keeper.ledger
  pub slots : KeepsSlots keeper.slots.items later.slots.items

goes_paid : {E : Type 0} (lane : Lane E) (part : ℕ) → GoesOnTo (paid_event lane) part → GoesOnTo lane part
goes_paid lane _ (store_word at) = store_word at
goes_paid lane _ (undo at) = undo at
goes_paid lane _ (take_back at) = take_back at

kept_latch : (p : ℕ) (keeper mid kept : LogKeeper) (k : Logging) → IsKept keeper mid k → LetsLatchGo p mid kept → IsKept keeper kept (latched p 17 k)
kept_latch p keeper mid kept k keeps lets = record {
  kept = lets.kept ∙ ap (latched p 17) keeps.kept;
  number = lets.number ∙ keeps.number;
  places = subst (λ entries. free_places keeper ≤ vec_capacity entries - vec_len entries) (sym lets.ledger) keeps.places;
  slots = slots_kept keeper.slots.items mid.slots.items kept.slots.items keeps.slots lets.slots;
}

behind_settling : {E : Type 0} (deeds : Deeds E) (layout : Layout) (base : Base) (book between later : Book E) (keeper mid kept : LogKeeper) (region behind : Region) (spare left : ℕ) (counts after : Counts) (l part : ℕ) →
    l < length book.lanes.items → Runs layout keeper mid region behind counts after l spare left Ran.Whole →
    between ≡ with_lane book l (paid_event (lane_at book l)) book.touched → GoesOnTo (lane_at between l) part → LetsLatchGo (l % layout.partitions) mid kept →
    Moves deeds between later l None Stepped.Moved (moved part (lane_at between l)) →
    IsWorld deeds layout base book keeper region spare counts.events → IsWorld deeds layout base later kept behind left after.events
behind_settling deeds layout base book between later keeper mid kept region behind spare left counts after l part lt (whole e made counted are keeps) pays goes_on lets moves world =
    let goes = goes_lane book between l (paid_event (lane_at book l)) book.touched lt pays in
    let inside = inside_then book between l (paid_event (lane_at book l)) goes in
    let step = goes_then book between later l (paid_event (lane_at book l)) (moved part (lane_at between l)) goes
    (goes_lane between later l (moved part (lane_at between l)) None inside moves.is) in
    record {
      state = records_settle _ layout (start_of layout base) book later keeper kept region behind spare left counts.events after.events l part e made are
          (goes_paid (lane_at book l) part (subst (λ (x : Lane _). GoesOnTo x part) goes.lanes.here goes_on))
          (subst (λ (x : Lane _). GoesTo book later l (moved part x)) goes.lanes.here step) moves.kept
          (kept_latch (l % layout.partitions) keeper mid kept (made_in layout keeper (l % layout.partitions)) keeps lets) world.state;
      lawful = steps_keep deeds layout base between later l (moved part (lane_at between l)) None
          (paid_lawful deeds layout base book between l ((paid_event (lane_at book l)).owed_events) (lane_at book l).owed_records book.touched lt pays world.lawful) inside moves.is
          (moved_on part (lane_at between l));
    }

-- its part is whole
pub settled_world : {E : Type 0} (deeds : Deeds E) (layout : Layout) (base : Base) (book between later : Book E) (keeper mid kept : LogKeeper) (region behind : Region) (spare left : ℕ) (counts after : Counts) (l part : ℕ) →
    l < length book.lanes.items → Advances deeds layout keeper mid region behind counts after spare left book between l Went.Whole →
    GoesOnTo (lane_at between l) part → LetsLatchGo (l % layout.partitions) mid kept → Moves deeds between later l None Stepped.Moved (moved part (lane_at between l)) →
    IsWorld deeds layout base book keeper region spare counts.events → IsWorld deeds layout base later kept behind left after.events
settled_world deeds layout base book between later keeper mid kept region behind spare left counts after l part lt (whole_so runs pays) goes_on lets moves world =
    behind_settling deeds layout base book between later keeper mid kept region behind spare left counts after l part lt runs pays goes_on lets moves world

-- ---- what an event is that was not answered yet

pub stored_counted : (layout : Layout) (keeper kept : LogKeeper) (region behind : Region) (counts after : Counts) (l spare left : ℕ) (c : Cell) →
    Runs layout keeper kept region behind counts after l spare left (Ran.Stored c) → after ≡ one_made counts
stored_counted layout keeper kept region behind counts after l spare left _ (stored e place c made counted are part_is keeps) = counted

pub whole_counted : (layout : Layout) (keeper kept : LogKeeper) (region behind : Region) (counts after : Counts) (l spare left : ℕ) →
    Runs layout keeper kept region behind counts after l spare left Ran.Whole → after ≡ one_made counts
whole_counted layout keeper kept region behind counts after l spare left (whole e made counted are keeps) = counted

-- the lane paid for it, and the device counted it
pub record HasPaidOne {E : Type 0} (book between : Book E) (l : ℕ) (counts after : Counts) : Type 0 where
  pub paid : IsPaid book between l
  pub counted : after ≡ one_made counts

pub stored_paid : {E : Type 0} (deeds : Deeds E) (layout : Layout) (book between : Book E) (keeper kept : LogKeeper) (region behind : Region) (spare left : ℕ) (counts after : Counts) (l : ℕ) (c : Cell) →
    l < length book.lanes.items → Advances deeds layout keeper kept region behind counts after spare left book between l (Went.Stored c) → HasPaidOne book between l counts after
stored_paid deeds layout book between keeper kept region behind spare left counts after l _ lt (stored_so c runs pays) = record {
  paid = paid_lane book between l ((paid_event (lane_at book l)).owed_events) (lane_at book l).owed_records book.touched lt pays;
  counted = stored_counted layout keeper kept region behind counts after l spare left c runs;
}

pub whole_paid : {E : Type 0} (deeds : Deeds E) (layout : Layout) (book between : Book E) (keeper kept : LogKeeper) (region behind : Region) (spare left : ℕ) (counts after : Counts) (l : ℕ) →
    l < length book.lanes.items → Advances deeds layout keeper kept region behind counts after spare left book between l Went.Whole → HasPaidOne book between l counts after
whole_paid deeds layout book between keeper kept region behind spare left counts after l lt (whole_so runs pays) = record {
  paid = paid_lane book between l ((paid_event (lane_at book l)).owed_events) (lane_at book l).owed_records book.touched lt pays;
  counted = whole_counted layout keeper kept region behind counts after l spare left runs;
}

-- ---- the phases

-- the stages of a commit
abbrev of_commit : Stage → Bool
of_commit Free = false
of_commit Between = false
of_commit Leaving = true
of_commit Naming = false
of_commit Storing = false
of_commit Securing = true
of_commit Opening = false
of_commit Undoing = false
of_commit TakingBack = false
of_commit Keeping = false
of_commit Ending = true
of_commit Closing = true
of_commit ClosingEnd = true
of_commit Dropping = true
of_commit Deleting = false
of_commit Unbuilt = false

commit_told : (recorded : Bool) (part : ℕ) → of_commit (if recorded then commit_stage part else Leaving) ≡ true
commit_told recorded part = by recorded (part == FIRST) (part == END) (part == CLOSE) (part == CLOSE_END)
  where
    by : (r a b c d : Bool) → of_commit (if r then (if a then Securing else (if b then Ending else (if c then Closing else (if d then ClosingEnd else Dropping)))) else Leaving) ≡ true
    by false a b c d = refl
    by true true b c d = refl
    by true false true c d = refl
    by true false false true d = refl
    by true false false false true = refl
    by true false false false false = refl

no_commit : (phase : Phase) (recorded : Bool) (part : ℕ) (doing : Doing) → of_commit (stage_at phase recorded part doing) ≡ false → is_commit doing ≡ false
no_commit phase recorded part Doing.Nothing off = refl
no_commit phase recorded part (Doing.Begin set) off = refl
no_commit phase recorded part (Doing.Read a) off = refl
no_commit phase recorded part (Doing.Write a v) off = refl
no_commit phase recorded part (Doing.Take s block) off = refl
no_commit phase recorded part (Doing.Give block) off = refl
no_commit phase recorded part Doing.Commit off = (let told = commit_told recorded part in let wrong : true ≡ false = sym told ∙ off in absurd (cc))
no_commit phase recorded part Doing.Abort off = refl
no_commit phase recorded part Doing.Checkpoint off = refl
no_commit phase recorded part (Doing.Batch n) off = refl
no_commit phase recorded part Doing.Savepoint off = refl
no_commit phase recorded part (Doing.RollbackTo n) off = refl

-- a lane at another stage is about no commit
no_commit_at : {E : Type 0} (lane : Lane E) (stage : Stage) → stage_of lane ≡ stage → of_commit stage ≡ false → is_commit lane.doing ≡ false
no_commit_at lane stage is off = no_commit lane.phase lane.has_records lane.part lane.doing (ap of_commit is ∙ off)

-- what is appended tells no phase
noticed_phased : {E : Type 0} (lane : Lane E) (c : Cell) (later : Lane E) → Notices lane c later → IsPhased lane → IsPhased (moved lane.part later)
noticed_phased lane c _ (update is) phased = let off = no_commit_at lane Naming is refl in record {
  calling = phased.calling;
  joined = phased.joined ∙ ap (λ b. b && clears_in (stage_of lane)) off ∙ ap (λ b. b && clears_in (stage_of (moved lane.part (with_update c lane)))) (sym off);
  undone = λ on no_commit. absurd (naming_open lane.phase lane.has_records lane.part lane.doing is on);
}
noticed_phased lane c _ (rollback is) phased = record { calling = phased.calling; joined = phased.joined; undone = phased.undone }
noticed_phased lane c _ (compensation is) phased = record { calling = phased.calling; joined = phased.joined; undone = phased.undone }
noticed_phased lane c _ (end is) phased = record { calling = phased.calling; joined = phased.joined; undone = phased.undone }

-- behind it the call goes on at a part that closes nothing
open_phased : {E : Type 0} (lane : Lane E) (part : ℕ) → IsOpenPart part → is_commit lane.doing ≡ false → IsPhased lane → IsPhased (moved part lane)
open_phased lane part is off phased = other_phased lane part off (λ on. absurd (part_open lane.phase lane.has_records part lane.doing is off on)) phased

settled_phased : {E : Type 0} (lane : Lane E) (part : ℕ) → GoesOnTo lane part → IsPhased lane → IsPhased (moved part lane)
settled_phased lane _ (store_word is) phased = open_phased lane STORE store_part (no_commit_at lane Naming is refl) phased
settled_phased lane _ (undo is) phased = open_phased lane (undo_part lane) (undoes_open (length lane.updates.items == 0)) (no_commit_at lane Opening is refl) phased
settled_phased lane _ (take_back is) phased = open_phased lane STORE store_part (no_commit_at lane Undoing is refl) phased

paid_phased : {E : Type 0} (book later : Book E) (l events records : ℕ) (touched : Option ℕ) → l < length book.lanes.items →
    later ≡ with_lane book l (owing events records (lane_at book l)) touched → ArePhased book → ArePhased later
paid_phased book later l events records touched lt is =
    phased_with book later l (owing events records (lane_at book l)) touched lt (ap (λ (b : Book _). b.lanes) is) (owing_phased (lane_at book l) events records)

-- the phases behind the begin of an append,
pub begun_phased : {E : Type 0} (layout : Layout) (keeper mid : LogKeeper) (book between : Book E) (words : List ℕ) (l : ℕ) (cell : Cell) → l < length book.lanes.items →
    Begins layout keeper mid book between words l cell None → ArePhased book → ArePhased between
begun_phased layout keeper mid book between words l cell lt (holds held same_keeper same) phased = subst ArePhased (sym same) phased
begun_phased layout keeper mid book between words l cell lt (begins place free seen drawn is) phased =
    paid_phased book between l (lane_at book l).owed_events ((paid_record (lane_at book l)).owed_records) book.touched lt is phased

-- and behind an event that is answered, or will be
pub answered_phased : {E : Type 0} (deeds : Deeds E) (layout : Layout) (book later : Book E) (keeper kept : LogKeeper) (region behind : Region) (spare left : ℕ) (counts after : Counts) (l : ℕ) (answer : Stepped) →
    l < length book.lanes.items → Advances deeds layout keeper kept region behind counts after spare left book later l (Went.Answered answer) → ArePhased book → ArePhased later
answered_phased deeds layout book later keeper kept region behind spare left counts after l _ lt (stops_so between runs pays stops) phased =
    phased_with between later l (noted Stepped.Stopped (lane_at between l)) None (subst (λ (b : Book _). l < length b.lanes.items) (sym pays) lt)
    (ap (λ (b : Book _). b.lanes) stops.is) (noted_phased (lane_at between l) Stepped.Stopped) (subst ArePhased (sym pays) phased)
answered_phased deeds layout book later keeper kept region behind spare left counts after l _ lt (goes_so between runs pays moves) phased =
    phased_with between later l (moved (lane_at between l).part (lane_at between l)) None
    (inside_then book between l (paid_event (lane_at book l)) (goes_lane book between l (paid_event (lane_at book l)) book.touched lt pays))
    (ap (λ (b : Book _). b.lanes) moves.is) (moved_phased (lane_at between l) (lane_at between l).part refl)
    (paid_phased book between l ((paid_event (lane_at book l)).owed_events) (lane_at book l).owed_records book.touched lt pays phased)

pub stored_phased : {E : Type 0} (deeds : Deeds E) (layout : Layout) (book between later : Book E) (keeper kept : LogKeeper) (region behind : Region) (spare left : ℕ) (counts after : Counts) (l : ℕ) (c : Cell)
    (lane : Lane E) → l < length book.lanes.items → Advances deeds layout keeper kept region behind counts after spare left book between l (Went.Stored c) →
    Notices (lane_at between l) c lane → Moves deeds between later l None Stepped.Moved (moved (lane_at between l).part lane) → ArePhased book → ArePhased later
stored_phased deeds layout book between later keeper kept region behind spare left counts after l _ lane lt (stored_so c runs pays) notices moves phased =
    phased_with between later l (moved (lane_at between l).part lane) None
    (inside_then book between l (paid_event (lane_at book l)) (goes_lane book between l (paid_event (lane_at book l)) book.touched lt pays))
    (ap (λ (b : Book _). b.lanes) moves.is) (noticed_phased (lane_at between l) c lane notices)
    (paid_phased book between l ((paid_event (lane_at book l)).owed_events) (lane_at book l).owed_records book.touched lt pays phased)

pub whole_phased : {E : Type 0} (deeds : Deeds E) (layout : Layout) (book between later : Book E) (keeper mid : LogKeeper) (region behind : Region) (spare left : ℕ) (counts after : Counts) (l part : ℕ) →
    l < length book.lanes.items → Advances deeds layout keeper mid region behind counts after spare left book between l Went.Whole →
    GoesOnTo (lane_at between l) part → Moves deeds between later l None Stepped.Moved (moved part (lane_at between l)) → ArePhased book → ArePhased later
whole_phased deeds layout book between later keeper mid region behind spare left counts after l part lt (whole_so runs pays) goes_on moves phased =
    phased_with between later l (moved part (lane_at between l)) None
    (inside_then book between l (paid_event (lane_at book l)) (goes_lane book between l (paid_event (lane_at book l)) book.touched lt pays))
    (ap (λ (b : Book _). b.lanes) moves.is) (settled_phased (lane_at between l) part goes_on)
    (paid_phased book between l ((paid_event (lane_at book l)).owed_events) (lane_at book l).owed_records book.touched lt pays phased)

-- why a part's event is answered so
pub answered_cause : {E : Type 0} (deeds : Deeds E) (layout : Layout) (first : Book E) (log : LogKeeper) (book later : Book E) (keeper kept : LogKeeper) (region behind : Region) (spare left : ℕ) (counts after : Counts) (l : ℕ) (answer : Stepped) →
    Advances deeds layout keeper kept region behind counts after spare left book later l (Went.Answered answer) → IsCause layout first log counts l answer
answered_cause deeds layout first log book later keeper kept region behind spare left counts after l _ (stops_so between runs pays stops) =
    inl (stopped_runs layout keeper kept region behind counts after l spare left runs).0.at_budget
answered_cause deeds layout first log book later keeper kept region behind spare left counts after l _ (goes_so between runs pays moves) = tt
