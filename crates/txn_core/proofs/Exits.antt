-- What each end of a step leaves of the state, and of the faces.
use Rattle.std.proofs.Common.{◌≡◌, ℕ, ◌%◌, ◌<◌, true, List, length, None, sym, ap, ◌∙◌, subst, refl}
use Rattle.std.proofs.Math.Logic.{∥∥₁_map, ∥∥₁_elim}
use Rattle.persist_model.specs.Region.{Region}
use Rattle.lane_traits.specs.Device.{Counts}
use Rattle.region_layout.specs.declared.cell.Cell.{Cell}
use Rattle.region_layout.specs.declared.layout.Layout.{Layout}
use Rattle.lane_types.specs.declared.call.Stepped.{Stepped}
use Rattle.lane_types.specs.declared.call.What.TheVariants as What
use Rattle.lane_types.specs.Deeds.{Deeds}
use Rattle.lane_book.specs.declared.book.Book.{Book}
use Rattle.lane_book.specs.declared.lane.Lane.{Lane}
use Rattle.lane_book.specs.FacesOf.{lane_at, faces_of}
use Rattle.lane_book.specs.Lanes.{noted, moved}
use Rattle.lane_book.specs.Calls.{Moves}
use Rattle.log_keeper.specs.declared.keeper.LogKeeper.{LogKeeper}
use Rattle.log_keeper.specs.Keeper.{keeping_of}
use Rattle.txn_state.specs.Stages.{stage_of}
use Rattle.txn_state.specs.AppendLaws.{IsNextCell, Notices, LetsGoOne, GoesOnTo}
use Rattle.txn_state.specs.ReadLaws.{appends_in, clears_in}
use Rattle.txn_core.specs.declared.advancing.Went.{Went}
use Rattle.txn_core.specs.Advancing.{Advances, Appends}
use Rattle.txn_core.specs.Latched.{same_stage}
use Rattle.txn_core.specs.States.{start_of}
use Rattle.txn_core.specs.Stepping.{StepsWorld}
use Rattle.txn_core.specs.Advancing.{WaitsForLatch, IsSameDevice, waits, runs}
use Rattle.txn_core.proofs.Facts.{IsRead}
use Rattle.txn_core.proofs.Latched.{same_part, begins_beside, answered_latches, stored_latches, freed_latches}
use Rattle.txn_core.proofs.Paying.{IsPaid, goes_lane, paid_then, paid_step, inside_then}
pub use Rattle.txn_core.proofs.UnderWay.{LetsLatchGo, answered_cause}
use Rattle.txn_core.proofs.UnderWay.{begun_paid, begun_world_if_free, same_device, noted_world, answered_world, answered_made, answered_step, stored_world, stored_paid, settled_world, whole_paid, begun_phased, answered_phased, stored_phased, whole_phased}
use Rattle.txn_core.proofs.Phasing.{phased_with, noted_phased}
use Rattle.txn_core.proofs.Touching.{touches_prop, touches_none, same_leaves, advance_leaves, count_with, answered_none}

-- the lane waits for the latch
waits_exit : {E : Type 0} (deeds : Deeds E) (layout : Layout) (book later : Book E) (keeper kept : LogKeeper) (region behind : Region) (spare left : ℕ) (counts after : Counts) (l holder : ℕ) →
    l < length book.lanes.items → WaitsForLatch deeds layout keeper book later l holder → kept ≡ keeper → IsSameDevice region behind counts after spare left →
    StepsWorld deeds layout book later keeper kept region behind spare left counts after l (Stepped.Waiting (What.Latch (l % layout.partitions)) holder)
waits_exit deeds layout book later keeper kept region behind spare left counts after l holder lt waiting same device = record {
  stays = λ base. λ stood. ∥∥₁_map stood (λ world.
      same_device deeds layout base later keeper kept region behind spare left counts.events after.events same device.region_stays device.spare_stays
      (ap (λ (each : Counts). each.events) device.counts_stay)
      (noted_world deeds layout base book later keeper region spare counts.events l (Stepped.Waiting (What.Latch (l % layout.partitions)) holder) lt waiting.moves.is waiting.moves.kept world));
  face = λ base stood. waiting.moves.step base;
  made = device.counts_stay;
  phased = phased_with book later l (noted (Stepped.Waiting (What.Latch (l % layout.partitions)) holder) (lane_at book l)) None lt (ap (λ (b : Book _). b.lanes) waiting.moves.is)
      (noted_phased (lane_at book l) (Stepped.Waiting (What.Latch (l % layout.partitions)) holder));
  cause = record { part = refl; held = waiting.held; some = waiting.some; other = waiting.other };
  count = count_with book later l (noted (Stepped.Waiting (What.Latch (l % layout.partitions)) holder) (lane_at book l)) (ap (λ (b : Book _). b.lanes) waiting.moves.is);
  touches = λ base stood. touches_none layout region behind later.touched (ap (λ (b : Book _). b.touched) waiting.moves.is) (same_leaves layout region behind device.region_stays);
  latches = same_stage same (ap stage_of (goes_lane book later l (noted (Stepped.Waiting (What.Latch (l % layout.partitions)) holder) (lane_at book l)) None lt waiting.moves.is).lanes.here);
}

same_answer : (answer other : Stepped) → Went.Answered answer ≡ Went.Answered other → answer ≡ other
same_answer answer other is = cc

inside_paid : {E : Type 0} (book between : Book E) (l : ℕ) → IsPaid book between l → l < length between.lanes.items
inside_paid book between l paid = inside_then book between l _ paid.goes

-- a step of an append that is answered as the call goes on, waits or has stopped
pub append_answered_if_free : {E : Type 0} (deeds : Deeds E) (layout : Layout) (book later : Book E) (keeper kept : LogKeeper) (words : List ℕ) (region behind : Region) (spare left : ℕ) (counts after : Counts) (l : ℕ) (cell : Cell) (answer : Stepped) →
    IsRead words region counts → l < length book.lanes.items → appends_in (stage_of (lane_at book l)) ≡ true →
    ((keeping_of keeper).holder (l % layout.partitions) ≡ 17 → IsNextCell region (lane_at book l) cell) →
    Appends deeds layout keeper kept words region behind counts after spare left book later l cell (Went.Answered answer) →
    StepsWorld deeds layout book later keeper kept region behind spare left counts after l answer
append_answered_if_free deeds layout book later keeper kept words region behind spare left counts after l cell answer read lt appends next (waits holder is waiting same device) =
    subst (λ a. StepsWorld deeds layout book later keeper kept region behind spare left counts after l a)
    (sym (same_answer answer (Stepped.Waiting (What.Latch (l % layout.partitions)) holder) is))
    (waits_exit deeds layout book later keeper kept region behind spare left counts after l holder lt waiting same device)
append_answered_if_free deeds layout book later keeper kept words region behind spare left counts after l cell answer read lt appends next (runs mid between begun advance) =
    let paid = begun_paid layout keeper mid book between words l cell lt begun in
    let inside = inside_paid book between l paid in
    record {
      stays = λ base. λ stood. ∥∥₁_map stood (λ world.
          answered_world deeds layout base between later mid kept region behind spare left counts after l answer inside advance
          (begun_world_if_free deeds layout base keeper mid book between words region spare counts l cell read lt next begun world));
      face = λ base stood. paid_step deeds base book between l answer (faces_of base later) paid
          (answered_step deeds layout base between later mid kept region behind spare left counts after l answer inside advance);
      made = answered_made deeds layout between later mid kept region behind spare left counts after l answer advance;
      phased = λ phased. answered_phased deeds layout between later mid kept region behind spare left counts after l answer inside advance
          (begun_phased layout keeper mid book between words l cell lt begun phased);
      cause = answered_cause deeds layout book keeper between later mid kept region behind spare left counts after l answer advance;
      count = (answered_none deeds layout between later mid kept region behind spare left counts after l answer advance).count ∙ paid.goes.lanes.count;
      touches = λ base stood. ∥∥₁_elim stood (touches_prop layout region behind later.touched) (λ world.
          touches_none layout region behind later.touched (answered_none deeds layout between later mid kept region behind spare left counts after l answer advance).none
          (advance_leaves deeds layout (start_of layout base) between later mid kept region behind spare left counts after l (Went.Answered answer) advance
          (begun_world_if_free deeds layout base keeper mid book between words region spare counts l cell read lt next begun world).state));
      latches = answered_latches deeds layout book between later keeper mid kept region behind spare left counts after l (begins_beside layout keeper mid book between words l cell begun) answer advance;
    }

pub append_answered : {E : Type 0} (deeds : Deeds E) (layout : Layout) (book later : Book E) (keeper kept : LogKeeper) (words : List ℕ) (region behind : Region) (spare left : ℕ) (counts after : Counts) (l : ℕ) (cell : Cell) (answer : Stepped) →
    IsRead words region counts → l < length book.lanes.items → appends_in (stage_of (lane_at book l)) ≡ true → IsNextCell region (lane_at book l) cell →
    Appends deeds layout keeper kept words region behind counts after spare left book later l cell (Went.Answered answer) →
    StepsWorld deeds layout book later keeper kept region behind spare left counts after l answer
append_answered deeds layout book later keeper kept words region behind spare left counts after l cell answer read lt appends next =
    append_answered_if_free deeds layout book later keeper kept words region behind spare left counts after l cell answer read lt appends (λ free. next)

-- the gate of the record is stored, and the lane notices it
pub append_stored_if_free : {E : Type 0} (deeds : Deeds E) (layout : Layout) (book between later : Book E) (keeper kept : LogKeeper) (words : List ℕ) (region behind : Region) (spare left : ℕ) (counts after : Counts) (l : ℕ) (cell c : Cell) (lane : Lane E) →
    IsRead words region counts → l < length book.lanes.items → appends_in (stage_of (lane_at book l)) ≡ true →
    ((keeping_of keeper).holder (l % layout.partitions) ≡ 17 → IsNextCell region (lane_at book l) cell) →
    Appends deeds layout keeper kept words region behind counts after spare left book between l cell (Went.Stored c) →
    Notices (lane_at between l) c lane → LetsGoOne layout between later (l % layout.partitions) →
    Moves deeds between later l None Stepped.Moved (moved (lane_at between l).part lane) →
    StepsWorld deeds layout book later keeper kept region behind spare left counts after l Stepped.Moved
append_stored_if_free deeds layout book between later keeper kept words region behind spare left counts after l cell c lane read lt appends next (waits holder is waiting same device) notices falls moves = absurd (cc)
append_stored_if_free deeds layout book between later keeper kept words region behind spare left counts after l cell c lane read lt appends next (runs mid begun_book begun advance) notices falls moves =
    let paid = begun_paid layout keeper mid book begun_book words l cell lt begun in
    let inside = inside_paid book begun_book l paid in
    let one = stored_paid deeds layout begun_book between mid kept region behind spare left counts after l c inside advance in
    record {
      stays = λ base. λ stood. ∥∥₁_map stood (λ world.
          stored_world deeds layout base begun_book between later mid kept region behind spare left counts after l c lane inside advance notices falls moves
          (begun_world_if_free deeds layout base keeper mid book begun_book words region spare counts l cell read lt next begun world));
      face = λ base stood. paid_step deeds base book between l Stepped.Moved (faces_of base later) (paid_then book begun_book between l paid one.paid) (moves.step base);
      made = one.counted;
      phased = λ phased. stored_phased deeds layout begun_book between later mid kept region behind spare left counts after l c lane inside advance notices moves
          (begun_phased layout keeper mid book begun_book words l cell lt begun phased);
      cause = tt;
      count = count_with between later l (moved (lane_at between l).part lane) (ap (λ (b : Book _). b.lanes) moves.is) ∙ one.paid.goes.lanes.count ∙ paid.goes.lanes.count;
      touches = λ base stood. ∥∥₁_elim stood (touches_prop layout region behind later.touched) (λ world.
          touches_none layout region behind later.touched (ap (λ (b : Book _). b.touched) moves.is)
          (advance_leaves deeds layout (start_of layout base) begun_book between mid kept region behind spare left counts after l (Went.Stored c) advance
          (begun_world_if_free deeds layout base keeper mid book begun_book words region spare counts l cell read lt next begun world).state));
      latches = stored_latches deeds layout book begun_book between keeper mid kept region behind spare left counts after l (begins_beside layout keeper mid book begun_book words l cell begun) later c advance;
    }

pub append_stored : {E : Type 0} (deeds : Deeds E) (layout : Layout) (book between later : Book E) (keeper kept : LogKeeper) (words : List ℕ) (region behind : Region) (spare left : ℕ) (counts after : Counts) (l : ℕ) (cell c : Cell) (lane : Lane E) →
    IsRead words region counts → l < length book.lanes.items → appends_in (stage_of (lane_at book l)) ≡ true → IsNextCell region (lane_at book l) cell →
    Appends deeds layout keeper kept words region behind counts after spare left book between l cell (Went.Stored c) →
    Notices (lane_at between l) c lane → LetsGoOne layout between later (l % layout.partitions) →
    Moves deeds between later l None Stepped.Moved (moved (lane_at between l).part lane) →
    StepsWorld deeds layout book later keeper kept region behind spare left counts after l Stepped.Moved
append_stored deeds layout book between later keeper kept words region behind spare left counts after l cell c lane read lt appends next =
    append_stored_if_free deeds layout book between later keeper kept words region behind spare left counts after l cell c lane read lt appends (λ free. next)

-- the record is settled, and the latch is let go
pub append_settled_if_free : {E : Type 0} (deeds : Deeds E) (layout : Layout) (book between later : Book E) (keeper mid kept : LogKeeper) (words : List ℕ) (region behind : Region) (spare left : ℕ) (counts after : Counts) (l part : ℕ) (cell : Cell) →
    IsRead words region counts → l < length book.lanes.items → appends_in (stage_of (lane_at book l)) ≡ true →
    ((keeping_of keeper).holder (l % layout.partitions) ≡ 17 → IsNextCell region (lane_at book l) cell) →
    Appends deeds layout keeper mid words region behind counts after spare left book between l cell Went.Whole →
    GoesOnTo (lane_at between l) part → LetsLatchGo (l % layout.partitions) mid kept →
    Moves deeds between later l None Stepped.Moved (moved part (lane_at between l)) →
    StepsWorld deeds layout book later keeper kept region behind spare left counts after l Stepped.Moved
append_settled_if_free deeds layout book between later keeper mid kept words region behind spare left counts after l part cell read lt appends next (waits holder is waiting same device) goes lets moves = absurd (cc)
append_settled_if_free deeds layout book between later keeper mid kept words region behind spare left counts after l part cell read lt appends next (runs begun_log begun_book begun advance) goes lets moves =
    let paid = begun_paid layout keeper begun_log book begun_book words l cell lt begun in
    let inside = inside_paid book begun_book l paid in
    let one = whole_paid deeds layout begun_book between begun_log mid region behind spare left counts after l inside advance in
    record {
      stays = λ base. λ stood. ∥∥₁_map stood (λ world.
          settled_world deeds layout base begun_book between later begun_log mid kept region behind spare left counts after l part inside advance goes lets moves
          (begun_world_if_free deeds layout base keeper begun_log book begun_book words region spare counts l cell read lt next begun world));
      face = λ base stood. paid_step deeds base book between l Stepped.Moved (faces_of base later) (paid_then book begun_book between l paid one.paid) (moves.step base);
      made = one.counted;
      phased = λ phased. whole_phased deeds layout begun_book between later begun_log mid region behind spare left counts after l part inside advance goes moves
          (begun_phased layout keeper begun_log book begun_book words l cell lt begun phased);
      cause = tt;
      count = count_with between later l (moved part (lane_at between l)) (ap (λ (b : Book _). b.lanes) moves.is) ∙ one.paid.goes.lanes.count ∙ paid.goes.lanes.count;
      touches = λ base stood. ∥∥₁_elim stood (touches_prop layout region behind later.touched) (λ world.
          touches_none layout region behind later.touched (ap (λ (b : Book _). b.touched) moves.is)
          (advance_leaves deeds layout (start_of layout base) begun_book between begun_log mid region behind spare left counts after l Went.Whole advance
          (begun_world_if_free deeds layout base keeper begun_log book begun_book words region spare counts l cell read lt next begun world).state));
      latches = freed_latches deeds layout book begun_book between keeper begun_log mid region behind spare left counts after l (begins_beside layout keeper begun_log book begun_book words l cell begun) later kept advance lets.kept;
    }

pub append_settled : {E : Type 0} (deeds : Deeds E) (layout : Layout) (book between later : Book E) (keeper mid kept : LogKeeper) (words : List ℕ) (region behind : Region) (spare left : ℕ) (counts after : Counts) (l part : ℕ) (cell : Cell) →
    IsRead words region counts → l < length book.lanes.items → appends_in (stage_of (lane_at book l)) ≡ true → IsNextCell region (lane_at book l) cell →
    Appends deeds layout keeper mid words region behind counts after spare left book between l cell Went.Whole →
    GoesOnTo (lane_at between l) part → LetsLatchGo (l % layout.partitions) mid kept →
    Moves deeds between later l None Stepped.Moved (moved part (lane_at between l)) →
    StepsWorld deeds layout book later keeper kept region behind spare left counts after l Stepped.Moved
append_settled deeds layout book between later keeper mid kept words region behind spare left counts after l part cell read lt appends next =
    append_settled_if_free deeds layout book between later keeper mid kept words region behind spare left counts after l part cell read lt appends (λ free. next)

-- a step of a closing or a removal that is answered as the call goes on or has stopped
pub clearing_answered : {E : Type 0} (deeds : Deeds E) (layout : Layout) (book later : Book E) (keeper kept : LogKeeper) (region behind : Region) (spare left : ℕ) (counts after : Counts) (l : ℕ) (answer : Stepped) →
    l < length book.lanes.items → clears_in (stage_of (lane_at book l)) ≡ true →
    Advances deeds layout keeper kept region behind counts after spare left book later l (Went.Answered answer) →
    StepsWorld deeds layout book later keeper kept region behind spare left counts after l answer
clearing_answered deeds layout book later keeper kept region behind spare left counts after l answer lt clears went = record {
  stays = λ base. λ stood. ∥∥₁_map stood (answered_world deeds layout base book later keeper kept region behind spare left counts after l answer lt went);
  face = λ base stood. answered_step deeds layout base book later keeper kept region behind spare left counts after l answer lt went;
  made = answered_made deeds layout book later keeper kept region behind spare left counts after l answer went;
  phased = answered_phased deeds layout book later keeper kept region behind spare left counts after l answer lt went;
  cause = answered_cause deeds layout book keeper book later keeper kept region behind spare left counts after l answer went;
  count = (answered_none deeds layout book later keeper kept region behind spare left counts after l answer went).count;
  touches = λ base stood. ∥∥₁_elim stood (touches_prop layout region behind later.touched) (λ world.
      touches_none layout region behind later.touched (answered_none deeds layout book later keeper kept region behind spare left counts after l answer went).none
      (advance_leaves deeds layout (start_of layout base) book later keeper kept region behind spare left counts after l (Went.Answered answer) went world.state));
  latches = answered_latches deeds layout book book later keeper keeper kept region behind spare left counts after l (λ q ne. same_part keeper keeper refl q) answer went;
}
