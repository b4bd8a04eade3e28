-- The steps without an event, each by its laws.
use Rattle.std.proofs.Common.{◌≡◌, ◌≢◌, inl, ℕ, ◌<◌, ◌^◌, ◌++◌, ◌∷◌, List, [], map, Bool, true, false, length, Option, Some, None, refl, sym, ap, ◌∙◌, subst, inr}
use Rattle.std.proofs.Math.Logic.{∥∥₁_elim}
use Rattle.std.specs.Coded.{Coded-set, coded_bool}
use Rattle.persist_model.specs.Region.{Region}
use Rattle.lane_traits.specs.Device.{Counts}
use Rattle.region_layout.specs.declared.layout.Layout.{Layout}
use Rattle.lane_types.specs.declared.call.Phase.{Phase}
use Rattle.lane_types.specs.declared.call.Reply.{Reply}
use Rattle.lane_types.specs.declared.call.What.TheVariants.{Structure}
use Rattle.lane_types.specs.declared.call.Stepped.{Stepped}
use Rattle.lane_types.specs.declared.face.Entry.{Entry}
use Rattle.lane_types.specs.Deeds.{Deeds}
use Rattle.lane_types.specs.Faces.{Base, phase_after}
use Rattle.lane_book.specs.declared.book.Book.{Book}
use Rattle.lane_book.specs.declared.lane.Lane.{Lane}
use Rattle.lane_book.specs.declared.lane.Doing.{Doing}
use Rattle.lane_book.specs.FacesOf.{lane_at, faces_of}
use Rattle.lane_book.specs.Lanes.{with_lane, with_history, noted, closed, left, begun_lane, entered_lane}
use Rattle.lane_book.specs.Steps.{Steps, StepsIf, IsStep, HasEntry, IsNextEntry, held_by}
use Rattle.lane_book.specs.Books.{IsBook, ends}
use Rattle.lane_book.specs.Calls.{Moves}
use Rattle.lane_book.specs.Locks.{BeginEnds}
use Rattle.log_keeper.specs.declared.keeper.LogKeeper.{LogKeeper}
use Rattle.lawful_book.specs.LawfulBooks.{is_inside}
use Rattle.txn_core.proofs.LawfulKept as lawful
use Rattle.lawful_book.proofs.Histories.{Depends}
use Rattle.lawful_book.proofs.GoingOn.{noted_on, closed_answers, inside_of}
use Rattle.txn_state.specs.Stages.{Free, Between, Naming, Leaving, stage_of, stage_at, is_commit, Deleting, Unbuilt, idle_stage}
use Rattle.txn_state.proofs.Begins.{begins_keep}
use Rattle.txn_state.proofs.SameTransaction.{notes_keep}
use Rattle.txn_state.proofs.Leaves.{unrecorded_aborts_keep, unrecorded_commits_keep}
use Rattle.txn_core.specs.Latched.{is_latched, Latches, stop_told, same_stage, none_held}
use Rattle.txn_core.specs.States.{IsWorld, IsKept, HasWorld}
use Rattle.txn_core.specs.Stepping.{HasMade, IsCause}
use Rattle.txn_core.specs.Quiet.{KeepsWorld}
use Rattle.txn_core.proofs.Latched.{idle_unlatched}
use Rattle.txn_core.proofs.Touching.{TouchesNone, none_with}
use Rattle.txn_core.proofs.Phasing.{phased_with, noted_phased, closed_phased, left_phased, begun_phased, commit_left_phased}
use Rattle.txn_core.proofs.QuietAnswers.{answer_is, steps_answer, last_is}
use Rattle.txn_core.proofs.Quieting.{joins_to, has_begun, quiet, answers_keep}
use Rattle.lane_types.specs.May.{AreData}
use Rattle.lane_traits.specs.declared.draft.WordWrite.{WordWrite}
use Rattle.region_layout.specs.Layout.{layout_shape}
use Rattle.txn_laws.specs.Txns.{txn_at}
use Rattle.txn_state.specs.Ties.{due_by, plain_write, IsCome, under_of}
use Rattle.txn_state.proofs.StageSteps.{due_none, ends_at, ends_by}
use Rattle.txn_core.proofs.Paying.{goes_lane, goes_stopped, noted_same}

-- ---- a lane that is as if it had no call

idle_not : (phase : Phase) → idle_stage phase ≢ Deleting
idle_not Phase.Out e = let off : Free ≡ Deleting = e in cc
idle_not Phase.In e = let off : Between ≡ Deleting = e in cc
idle_not Phase.Calling e = let off : Unbuilt ≡ Deleting = e in cc

idle_goes : (phase : Phase) → ends_at (idle_stage phase) ≡ false
idle_goes Phase.Out = refl
idle_goes Phase.In = refl
idle_goes Phase.Calling = refl

-- it is about no give,
idle_due : {E : Type 0} (lane : Lane E) (reply : Reply) → stage_of (closed reply lane) ≡ stage_of lane → due_by lane.doing ≡ 0
idle_due lane reply is = due_none lane.phase lane.has_records lane.part lane.doing (idle_stage (phase_after reply)) (sym is) (idle_not (phase_after reply))

-- and about no end
idle_ends : {E : Type 0} (lane : Lane E) (reply : Reply) → stage_of (closed reply lane) ≡ stage_of lane → ends lane.doing ≡ false
idle_ends lane reply is = ends_by lane.phase lane.has_records lane.part lane.doing (idle_stage (phase_after reply)) (sym is) ∙ idle_goes (phase_after reply)

-- a transaction without a record has no write
none_mapped : (writes : List WordWrite) → map plain_write writes ≡ [] → writes ≡ []
none_mapped [] is = refl
none_mapped (w ∷ writes) is = cc

none_written : {E : Type 0} (deeds : Deeds E) (layout : Layout) (base : Base) (book : Book E) (keeper : LogKeeper) (region : Region) (spare : ℕ) (counts : Counts) (l : ℕ) → l < length book.lanes.items →
    stage_of (lane_at book l) ≡ Leaving → IsWorld deeds layout base book keeper region spare counts.events → AreData base.heap (lane_at book l).writes.items
none_written deeds layout base book keeper region spare counts l lt stage world =
    let own = world.state.tied.each l (subst (λ n. l < n) (sym world.state.tied.lanes) lt) in
    let come = subst (IsCome world.state.s.log (under_of (layout_shape layout) world.state.w l) (txn_at world.state.w.lanes l)) stage own.come in
    subst (AreData base.heap) (sym (none_mapped (lane_at book l).writes.items (sym own.txn.writes ∙ come.unwritten))) tt

module _ {E : Type 0} (deeds : Deeds E) (layout : Layout) (book later : Book E) (keeper : LogKeeper) (region : Region) (spare : ℕ) (counts : Counts) (l : ℕ)
    (lt : l < length book.lanes.items) (kept : IsBook later) where
  -- ---- the answer alone is noted

  noted_world : (base : Base) (answer : Stepped) (b : Book E) → b ≡ with_lane book l (noted answer (lane_at book l)) None → IsBook b →
      IsWorld deeds layout base book keeper region spare counts.events → IsWorld deeds layout base b keeper region spare counts.events
  noted_world base answer b is whole world = record {
    state = notes_keep layout _ book b keeper region spare counts.events l (noted answer (lane_at book l)) (noted_same answer (lane_at book l))
        (goes_lane book b l (noted answer (lane_at book l)) None lt is) whole world.state;
    lawful = lawful.steps_keep deeds layout base book b l (noted answer (lane_at book l)) None world.lawful lt is (noted_on answer (lane_at book l));
  }

  -- no word is touched
  touches_nothing : (lane : Lane E) → later.lanes ≡ (with_lane book l lane None).lanes → later.touched ≡ None → TouchesNone book later
  touches_nothing lane is none = none_with book later l lane is none

  -- the lane is at its stage yet
  same_latches : (answer : Stepped) → later ≡ with_lane book l (noted answer (lane_at book l)) None → Latches layout book later keeper keeper l
  same_latches answer is = same_stage refl (ap stage_of (goes_lane book later l (noted answer (lane_at book l)) None lt is).lanes.here)

  pub notes : (answer : Stepped) → later ≡ with_lane book l (noted answer (lane_at book l)) None → Steps deeds book later l answer → HasMade answer counts counts →
      IsCause layout book keeper counts l answer → KeepsWorld deeds layout book later keeper region spare counts l answer
  notes answer is steps made cause = quiet deeds layout book later keeper region spare counts l answer (λ base world. noted_world base answer later is kept world) (λ base world. steps base) made
      (phased_with book later l (noted answer (lane_at book l)) None lt (ap (λ (b : Book E). b.lanes) is) (noted_phased (lane_at book l) answer)) cause
      (touches_nothing (noted answer (lane_at book l)) (ap (λ (b : Book E). b.lanes) is) (ap (λ (b : Book E). b.touched) is)) (same_latches answer is)

  -- the same where the answer is told by the steps
  pub idles : (answer : Stepped) → (lane_at book l).doing ≡ Doing.Nothing → later ≡ with_lane book l (noted Stepped.Idle (lane_at book l)) None → Steps deeds book later l answer →
      KeepsWorld deeds layout book later keeper region spare counts l answer
  idles answer rests is steps = let at = steps_answer deeds counts book later l answer Stepped.Idle steps (last_is deeds book book later l _ Stepped.Idle None lt (ap (λ (b : Book E). b.lanes) is) refl) in
      subst (λ (a : Stepped). KeepsWorld deeds layout book later keeper region spare counts l a) (sym at)
      (notes Stepped.Idle is (subst (λ (a : Stepped). Steps deeds book later l a) at steps) refl rests)

  stopped_world : (base : Base) → later ≡ record (with_lane book l (noted Stepped.Stopped (lane_at book l)) None) { stopped = true } →
      IsWorld deeds layout base book keeper region spare counts.events → IsWorld deeds layout base later keeper region spare counts.events
  stopped_world base is world = record {
    state = notes_keep layout _ book later keeper region spare counts.events l (noted Stepped.Stopped (lane_at book l)) (noted_same Stepped.Stopped (lane_at book l))
        (goes_stopped book later l (noted Stepped.Stopped (lane_at book l)) None lt is) kept world.state;
    lawful = lawful.same_books_keep deeds layout base (with_lane book l (noted Stepped.Stopped (lane_at book l)) None) later
        (lawful.steps_keep deeds layout base book _ l (noted Stepped.Stopped (lane_at book l)) None world.lawful lt refl (noted_on Stepped.Stopped (lane_at book l)))
        (record {
          lanes = ap (λ (b : Book E). b.lanes) is;
          history = ap (λ (b : Book E). b.history.items) is;
          blocks = ap (λ (b : Book E). b.blocks) is;
          next = ap (λ (b : Book E). b.next_transaction) is;
        });
  }

  pub stops : (answer : Stepped) → book.stopped ≡ true → later ≡ record (with_lane book l (noted Stepped.Stopped (lane_at book l)) None) { stopped = true } → Steps deeds book later l answer →
      KeepsWorld deeds layout book later keeper region spare counts l answer
  stops answer before is steps = let at = steps_answer deeds counts book later l answer Stepped.Stopped steps (last_is deeds book book later l _ Stepped.Stopped None lt (ap (λ (b : Book E). b.lanes) is) refl) in
      subst (λ (a : Stepped). KeepsWorld deeds layout book later keeper region spare counts l a) (sym at)
      (quiet deeds layout book later keeper region spare counts l Stepped.Stopped (λ base world. stopped_world base is world)
      (λ base world. subst (λ (a : Stepped). Steps deeds book later l a) at steps base) (inl refl)
      (phased_with book later l (noted Stepped.Stopped (lane_at book l)) None lt (ap (λ (b : Book E). b.lanes) is) (noted_phased (lane_at book l) Stepped.Stopped)) (inr before)
      (touches_nothing (noted Stepped.Stopped (lane_at book l)) (ap (λ (b : Book E). b.lanes) is) (ap (λ (b : Book E). b.touched) is))
      (stop_told (ap (λ (b : Book E). b.stopped) is)))

  -- ---- a call is answered, and the transaction goes on or there is none

  -- what a lane is about whose entry isn't there
  pub record IsQuiet (lane : Lane E) (reply : Reply) : Type 0 where
    pub stage_is : stage_of (closed reply lane) ≡ stage_of lane
    pub other : stage_of lane ≢ Naming
    pub no_commit : is_commit lane.doing ≡ false
    pub inside : phase_after reply ≡ Phase.In → is_inside lane.phase lane.doing ≡ true

  no_call : (d : Doing) → is_commit d ≡ false → d ≢ Doing.Commit
  no_call d off is = let on = ap is_commit is in let clash : true ≡ false = sym on ∙ off in cc

  closed_world : (base : Base) (reply : Reply) → later ≡ with_lane book l (closed reply (lane_at book l)) None → IsQuiet (lane_at book l) reply →
      IsWorld deeds layout base book keeper region spare counts.events → IsWorld deeds layout base later keeper region spare counts.events
  closed_world base reply is quiet_lane world = record {
    state = answers_keep layout _ book later keeper region spare counts.events l (closed reply (lane_at book l)) quiet_lane.other (idle_due (lane_at book l) reply quiet_lane.stage_is) (record {
      stage = quiet_lane.stage_is;
      transaction = refl;
      held = refl;
      begun = refl;
      commits = refl;
      writes = refl;
      updates = refl;
      waits = λ at. refl;
      stored = refl;
      gives = refl;
      has_records = refl;
      rolled = refl;
      ended = refl;
      entry = refl;
      entered = sym (world.state.is_book.entries.others l quiet_lane.no_commit).unentered;
      committing = sym quiet_lane.no_commit;
      takes = λ s k call. absurd (let off : Doing.Nothing ≡ Doing.Take s k = call in cc);
      due = sym (idle_due (lane_at book l) reply quiet_lane.stage_is);
      gives_same = λ k call. absurd (let off : Doing.Nothing ≡ Doing.Give k = call in cc);
      ending = sym (idle_ends (lane_at book l) reply quiet_lane.stage_is);
      gates = refl;
      gates_wait = λ due. refl;
      promised = refl;
      owed_events = refl;
      owed_records = refl;
    }) (goes_lane book later l (closed reply (lane_at book l)) None lt is) kept world.state;
    lawful = lawful.answers_keep deeds layout base book later l reply (closed reply (lane_at book l)) None world.lawful lt is
        (closed_answers reply (lane_at book l) (no_call (lane_at book l).doing quiet_lane.no_commit) quiet_lane.inside);
  }

  pub closes : (reply : Reply) → IsQuiet (lane_at book l) reply → later ≡ with_lane book l (closed reply (lane_at book l)) None →
      ((base : Base) → IsKept deeds layout base book keeper region spare counts → IsStep deeds (faces_of base book) (faces_of base later) l (Stepped.Answered reply)) →
      KeepsWorld deeds layout book later keeper region spare counts l (Stepped.Answered reply)
  closes reply quiet_lane is steps = quiet deeds layout book later keeper region spare counts l (Stepped.Answered reply) (λ base world. closed_world base reply is quiet_lane world) steps (inl refl)
      (phased_with book later l (closed reply (lane_at book l)) None lt (ap (λ (b : Book E). b.lanes) is) (closed_phased (lane_at book l) reply)) tt
      (touches_nothing (closed reply (lane_at book l)) (ap (λ (b : Book E). b.lanes) is) (ap (λ (b : Book E). b.touched) is))
      (none_held refl (ap is_latched (sym quiet_lane.stage_is) ∙ idle_unlatched (phase_after reply)))

  -- ---- a transaction without a record ends

  pub aborts : stage_of (lane_at book l) ≡ Leaving → (lane_at book l).doing ≡ Doing.Abort → later ≡ with_lane book l (left Reply.Aborted (lane_at book l)) None →
      Steps deeds book later l (Stepped.Answered Reply.Aborted) → KeepsWorld deeds layout book later keeper region spare counts l (Stepped.Answered Reply.Aborted)
  aborts stage doing is steps = quiet deeds layout book later keeper region spare counts l (Stepped.Answered Reply.Aborted) (λ base world. record {
    state = unrecorded_aborts_keep layout _ book later keeper region spare counts.events l stage doing (goes_lane book later l (left Reply.Aborted (lane_at book l)) None lt is) kept world.state;
    lawful = lawful.leaves_keep deeds layout base book later l Reply.Aborted None world.lawful lt refl (λ new. none_written deeds layout base book keeper region spare counts l lt stage world) is;
  }) (λ base world. steps base) (inl refl)
      (phased_with book later l (left Reply.Aborted (lane_at book l)) None lt (ap (λ (b : Book E). b.lanes) is) (left_phased (lane_at book l) Reply.Aborted)) tt
      (touches_nothing (left Reply.Aborted (lane_at book l)) (ap (λ (b : Book E). b.lanes) is) (ap (λ (b : Book E). b.touched) is)) (none_held refl (ap is_latched stage))

  pub commits : Depends deeds → (e : Entry E) → stage_of (lane_at book l) ≡ Leaving → (lane_at book l).doing ≡ Doing.Commit → (lane_at book l).entry ≡ Some e → IsBook book →
      later ≡ with_history (book.history.items ++ e ∷ []) (with_lane book l (left Reply.Committed (entered_lane (lane_at book l))) None) →
      Steps deeds book later l (Stepped.Answered Reply.Committed) → KeepsWorld deeds layout book later keeper region spare counts l (Stepped.Answered Reply.Committed)
  commits depends e stage doing entry whole is steps = quiet deeds layout book later keeper region spare counts l (Stepped.Answered Reply.Committed) (λ base world. record {
    state = unrecorded_commits_keep layout _ book later keeper region spare counts.events l e stage doing entry
        (joins_to book later l (left Reply.Committed (entered_lane (lane_at book l))) e lt is) kept world.state;
    lawful = lawful.commits_keep deeds depends layout base book later l e world.lawful whole lt entry is;
  }) (λ base world. steps base) (inl refl)
      (phased_with book later l (left Reply.Committed (entered_lane (lane_at book l))) None lt (ap (λ (b : Book E). b.lanes) is) (commit_left_phased (lane_at book l) Reply.Committed)) tt
      (touches_nothing (left Reply.Committed (entered_lane (lane_at book l))) (ap (λ (b : Book E). b.lanes) is) (ap (λ (b : Book E). b.touched) is)) (none_held refl (ap is_latched stage))

  -- ---- a transaction begins

  pub begins : (set : ℕ) (answer : Stepped) → (lane_at book l).doing ≡ Doing.Begin set → (lane_at book l).begun < 2 ^ 59 → IsBook book → BeginEnds book later l set answer →
      ((base : Base) → IsKept deeds layout base book keeper region spare counts → IsStep deeds (faces_of base book) (faces_of base later) l answer) →
      KeepsWorld deeds layout book later keeper region spare counts l answer
  begins set answer doing few whole (BeginEnds.waits s holder held is) steps =
      quiet deeds layout book later keeper region spare counts l (Stepped.Waiting (Structure s) holder) (λ base world. noted_world base (Stepped.Waiting (Structure s) holder) later is kept world) steps refl
      (phased_with book later l (noted (Stepped.Waiting (Structure s) holder) (lane_at book l)) None lt (ap (λ (b : Book E). b.lanes) is) (noted_phased (lane_at book l) (Stepped.Waiting (Structure s) holder)))
      (record { set = set; call = doing; least = held })
      (touches_nothing (noted (Stepped.Waiting (Structure s) holder) (lane_at book l)) (ap (λ (b : Book E). b.lanes) is) (ap (λ (b : Book E). b.touched) is))
      (same_latches (Stepped.Waiting (Structure s) holder) is)
  begins set answer doing few whole (BeginEnds.takes loose is) steps =
      quiet deeds layout book later keeper region spare counts l (Stepped.Answered (Reply.Begun book.next_transaction)) (λ base world. record {
        state = begins_keep layout _ book later keeper region spare counts.events l set (record {
          free = ap (stage_at (lane_at book l).phase (lane_at book l).has_records (lane_at book l).part) doing;
          loose = loose;
          few = few;
        }) (has_begun book later l set lt is) (ap (λ (b : Book E). b.history) is) (ap (λ (b : Book E). b.next_transaction) is) kept world.state;
        lawful = lawful.begins_keep deeds layout base book later l set (Stepped.Answered (Reply.Begun book.next_transaction)) world.lawful lt doing whole (BeginEnds.takes loose is);
      }) steps (inl refl)
      (phased_with book later l (begun_lane book.next_transaction set (length book.history.items) (lane_at book l)) None lt (ap (λ (b : Book E). b.lanes) is) (begun_phased (lane_at book l) book.next_transaction set (length book.history.items))) tt
      (touches_nothing (begun_lane book.next_transaction set (length book.history.items) (lane_at book l)) (ap (λ (b : Book E). b.lanes) is) (ap (λ (b : Book E). b.touched) is))
      (none_held refl (ap (λ d. is_latched (stage_at (lane_at book l).phase (lane_at book l).has_records (lane_at book l).part d)) doing))

  -- ---- the answers, as the book's calls tell them

  pub checkpoints : (answer : Stepped) → (lane_at book l).doing ≡ Doing.Checkpoint → Moves deeds book later l None answer (closed Reply.Checkpointed (lane_at book l)) →
      KeepsWorld deeds layout book later keeper region spare counts l answer
  checkpoints answer doing moves =
      let at = steps_answer deeds counts book later l answer (Stepped.Answered Reply.Checkpointed) moves.step (last_is deeds book book later l _ (Stepped.Answered Reply.Checkpointed) None lt (ap (λ (b : Book E). b.lanes) moves.is) refl) in
      let free : stage_of (lane_at book l) ≡ Free = ap (stage_at (lane_at book l).phase (lane_at book l).has_records (lane_at book l).part) doing in
      subst (λ (a : Stepped). KeepsWorld deeds layout book later keeper region spare counts l a) (sym at)
      (closes Reply.Checkpointed (record {
        stage_is = sym free;
        other = λ naming. (let clash : Free ≡ Naming = sym free ∙ naming in cc);
        no_commit = ap is_commit doing;
        inside = λ is. (let clash : Phase.Out ≡ Phase.In = is in cc);
      }) moves.is (λ base world. subst (λ (a : Stepped). Steps deeds book later l a) at moves.step base))

  pub aborts_so : (answer : Stepped) → stage_of (lane_at book l) ≡ Leaving → (lane_at book l).doing ≡ Doing.Abort → Moves deeds book later l None answer (left Reply.Aborted (lane_at book l)) →
      KeepsWorld deeds layout book later keeper region spare counts l answer
  aborts_so answer stage doing moves =
      let at = steps_answer deeds counts book later l answer (Stepped.Answered Reply.Aborted) moves.step (last_is deeds book book later l _ (Stepped.Answered Reply.Aborted) None lt (ap (λ (b : Book E). b.lanes) moves.is) refl) in
      subst (λ (a : Stepped). KeepsWorld deeds layout book later keeper region spare counts l a) (sym at)
      (aborts stage doing moves.is (subst (λ (a : Stepped). Steps deeds book later l a) at moves.step))

  pub commits_so : Depends deeds → (answer : Stepped) → stage_of (lane_at book l) ≡ Leaving → (lane_at book l).doing ≡ Doing.Commit → HasEntry l (lane_at book l) → IsBook book →
      ((e : Entry E) → (lane_at book l).entry ≡ Some e → later ≡ with_history (book.history.items ++ e ∷ []) (with_lane book l (left Reply.Committed (entered_lane (lane_at book l))) None)) →
      Steps deeds book later l answer → KeepsWorld deeds layout book later keeper region spare counts l answer
  commits_so depends answer stage doing has whole is steps = by_entry (lane_at book l).entry refl has.next
    where
      by_entry : (o : Option (Entry E)) → (lane_at book l).entry ≡ o → IsNextEntry l (lane_at book l).begun o → KeepsWorld deeds layout book later keeper region spare counts l answer
      by_entry None entry next = absurd next
      by_entry (Some e) entry next =
          let at = steps_answer deeds counts book later l answer (Stepped.Answered Reply.Committed) steps
          (last_is deeds book book later l (left Reply.Committed (entered_lane (lane_at book l))) (Stepped.Answered Reply.Committed) None lt (ap (λ (b : Book E). b.lanes) (is e entry)) refl) in
          subst (λ (a : Stepped). KeepsWorld deeds layout book later keeper region spare counts l a) (sym at)
          (commits depends e stage doing entry whole (is e entry) (subst (λ (a : Stepped). Steps deeds book later l a) at steps))

  is_answered : Stepped → Bool
  is_answered (Stepped.Answered reply) = true
  is_answered Stepped.Moved = false
  is_answered (Stepped.Waiting what holder) = false
  is_answered Stepped.Stopped = false
  is_answered Stepped.Idle = false

  answers_made : (answer : Stepped) → is_answered answer ≡ true → HasMade answer counts counts
  unfolding is_answered
  answers_made (Stepped.Answered reply) on = inl refl
  answers_made Stepped.Moved on = cc
  answers_made (Stepped.Waiting what holder) on = refl
  answers_made Stepped.Stopped on = inl refl
  answers_made Stepped.Idle on = refl

  answers_cause : (answer : Stepped) → is_answered answer ≡ true → IsCause layout book keeper counts l answer
  unfolding is_answered
  answers_cause (Stepped.Answered reply) on = tt
  answers_cause Stepped.Moved on = tt
  answers_cause (Stepped.Waiting what holder) on = cc
  answers_cause Stepped.Stopped on = cc
  answers_cause Stepped.Idle on = cc

  is_an_answer : (reply : Reply) (answer : Stepped) → answer ≡ Stepped.Answered reply → is_answered answer ≡ true
  unfolding is_answered
  is_an_answer reply answer is = ap is_answered is

  pub reads : (a v : ℕ) (answer : Stepped) → (lane_at book l).phase ≡ Phase.Calling → (lane_at book l).doing ≡ Doing.Read a → later ≡ with_lane book l (closed (Reply.Word v) (lane_at book l)) None →
      ((base : Base) → IsKept deeds layout base book keeper region spare counts → (held_by base book l).word a ≡ Some v) →
      StepsIf (λ base. (held_by base book l).word a ≡ Some v) deeds book later l answer → HasWorld deeds layout book keeper region spare counts →
      KeepsWorld deeds layout book later keeper region spare counts l answer
  reads a v answer calling doing is held steps world =
      quiet deeds layout book later keeper region spare counts l answer (λ base kept_world. closed_world base (Reply.Word v) is here kept_world) (λ base kept_world. steps base (held base kept_world))
      (answers_made answer told)
      (phased_with book later l (closed (Reply.Word v) (lane_at book l)) None lt (ap (λ (b : Book E). b.lanes) is) (closed_phased (lane_at book l) (Reply.Word v)))
      (answers_cause answer told)
      (touches_nothing (closed (Reply.Word v) (lane_at book l)) (ap (λ (b : Book E). b.lanes) is) (ap (λ (b : Book E). b.touched) is)) (none_held refl (ap is_latched between))
    where
      told : is_answered answer ≡ true
      told = ∥∥₁_elim world (Coded-set coded_bool _ _) (λ w. is_an_answer (Reply.Word v) answer
          (answer_is deeds w.0 book later l answer (Stepped.Answered (Reply.Word v)) (steps w.0 (held w.0 ∣ w.1 ∣₁))
          (last_is deeds book book later l (closed (Reply.Word v) (lane_at book l)) (Stepped.Answered (Reply.Word v)) None lt (ap (λ (b : Book E). b.lanes) is) refl)))

      between : stage_of (lane_at book l) ≡ Between
      between = ap (stage_at (lane_at book l).phase (lane_at book l).has_records (lane_at book l).part) doing

      here : IsQuiet (lane_at book l) (Reply.Word v)
      here = record {
        stage_is = sym between;
        other = λ naming. (let clash : Between ≡ Naming = sym between ∙ naming in cc);
        no_commit = ap is_commit doing;
        inside = λ is_in. inside_of (Doing.Read a) (lane_at book l) calling doing refl;
      }
