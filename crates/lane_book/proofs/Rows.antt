-- The rows of a lane's step: each is a change of the book.
use Rattle.std.proofs.Common.{◌≡◌, ◌≢◌, ◌==◌, ℕ, ◌+◌, ◌<◌, ◌≤◌, Bool, true, false, if◌then◌else◌, List, [], ◌∷◌, ◌++◌, length, refl, sym, ◌∙◌, ap, subst, arith, Option, Some, None}
use Rattle.std.specs.List.{filter}
use Rattle.lane_types.specs.declared.call.Call.{Call}
use Rattle.lane_types.specs.declared.call.Phase.TheVariants.{Calling}
use Rattle.lane_types.specs.declared.call.Reply.{Reply}
use Rattle.lane_types.specs.declared.call.Reply.TheVariants.{Word, Committed, Aborted, Checkpointed}
use Rattle.lane_types.specs.declared.call.Stepped.{Stepped}
use Rattle.lane_types.specs.declared.call.Stepped.TheVariants.{Moved, Answered, Waiting, Stopped, Idle}
use Rattle.lane_types.specs.declared.call.What.{What}
use Rattle.lane_types.specs.declared.face.Entry.{Entry}
use Rattle.lane_types.specs.Deeds.{Deeds}
use Rattle.lane_types.specs.Heaps.{Heap, owners_after, owner_word, with_writes}
use Rattle.lane_types.specs.Faces.{Base, WholeFace, answered, stepped, let_go, entering}
use Rattle.lane_traits.proofs.Among.{same_eq, apart_eq}
use Rattle.lane_types.specs.Histories.{fold}
use Rattle.lane_types.specs.LaneSteps.{LaneStep, Moves, IsEntryOf, CommitStep}
use Rattle.lane_book.specs.declared.lane.Lane.{Lane}
use Rattle.lane_book.specs.declared.lane.Doing.{Doing}
use Rattle.lane_book.specs.declared.book.Book.{Book}
use Rattle.lane_book.specs.Stocked.{Stocked}
use Rattle.lane_book.specs.Lanes.{noted, closed, moved, left, entered_lane, with_lane, with_history}
use Rattle.lane_book.specs.FacesOf.{lane_at, face_of, face_over, faces_of, call_of, commit_of, last_commit, words_of, begun_heap, is_of}
use Rattle.lane_book.specs.Steps.{IsStep, Steps, StepsIf, AreBehindHistory, IsNextEntry, HasEntry, HasEntered}
use Rattle.lane_book.proofs.Faces.{step_of_lane, lane_at-same, lane_at-other, doing_is, take_before, filter_last, nothing_is_held}

-- the later book in another form
pub steps_at : {E : Type 0} (deeds : Deeds E) (book later real : Book E) (l : ℕ) (answer : Stepped) → real ≡ later → Steps deeds book later l answer →
    Steps deeds book real l answer
steps_at deeds book later real l answer is steps = subst (λ (b : Book _). Steps deeds book b l answer) (sym is) steps

pub steps_if_at : {E : Type 0} (holds : Base → Type 0) (deeds : Deeds E) (book later real : Book E) (l : ℕ) (answer : Stepped) → real ≡ later →
    StepsIf holds deeds book later l answer → StepsIf holds deeds book real l answer
steps_if_at holds deeds book later real l answer is steps = subst (λ (b : Book _). StepsIf holds deeds book b l answer) (sym is) steps

-- ---- nothing comes of the step but the tally

pub idle_row : {E : Type 0} (deeds : Deeds E) (book : Book E) (l : ℕ) → l < length book.lanes.items → (lane_at book l).doing ≡ Doing.Nothing →
    Steps deeds book (with_lane book l (noted Idle (lane_at book l)) None) l Idle
idle_row deeds book l lt doing base = step_of_lane deeds base book l (noted Idle (lane_at book l)) None Idle lt record {
  call = ap (λ (d : Doing). call_of (filter (is_of l) book.history.items) (lane_at book l).entry (lane_at book l).writes.items d) doing;
  next = refl;
}

pub stop_row : {E : Type 0} (deeds : Deeds E) (book : Book E) (l : ℕ) → l < length book.lanes.items →
    Steps deeds book (record (with_lane book l (noted Stopped (lane_at book l)) None) { stopped = true }) l Stopped
stop_row deeds book l lt base = step_of_lane deeds base book l (noted Stopped (lane_at book l)) None Stopped lt refl

pub wait_row : {E : Type 0} (deeds : Deeds E) (book : Book E) (l : ℕ) (what : What) (holder : ℕ) → l < length book.lanes.items → (lane_at book l).phase ≡ Calling →
    Steps deeds book (with_lane book l (noted (Waiting what holder) (lane_at book l)) None) l (Waiting what holder)
wait_row deeds book l what holder lt calling base =
    step_of_lane deeds base book l (noted (Waiting what holder) (lane_at book l)) None (Waiting what holder) lt record { calling = calling; next = refl }

pub move_row : {E : Type 0} (deeds : Deeds E) (book : Book E) (l part : ℕ) → l < length book.lanes.items → (lane_at book l).phase ≡ Calling →
    Steps deeds book (with_lane book l (moved part (lane_at book l)) None) l Moved
move_row deeds book l part lt calling base =
    step_of_lane deeds base book l (moved part (lane_at book l)) None Moved lt record { calling = calling; row = Moves.going_on refl }

-- ---- the call is answered, and its words stay

-- a lane that is about something of which no write and no give is waiting
pub read_row : {E : Type 0} (deeds : Deeds E) (book : Book E) (l a v : ℕ) → l < length book.lanes.items → (lane_at book l).phase ≡ Calling →
    (lane_at book l).doing ≡ Doing.Read a →
    StepsIf (λ base. (words_of (begun_heap base book.history.items (lane_at book l)) (lane_at book l)).word a ≡ Some v) deeds book
    (with_lane book l (closed (Word v) (lane_at book l)) None) l (Answered (Word v))
read_row deeds book l a v lt calling doing base has =
    step_of_lane deeds base book l (closed (Word v) (lane_at book l)) None (Answered (Word v)) lt
    (row (lane_at book l) calling doing has)
  where
    row : (lane : Lane _) → lane.phase ≡ Calling → lane.doing ≡ Doing.Read a → (words_of (begun_heap base book.history.items lane) lane).word a ≡ Some v →
        LaneStep deeds (Answered (Word v)) (face_of base book.history.items l lane) (face_of base book.history.items l (closed (Word v) lane))
    row lane calling doing has = record {
      calling = calling;
      row = record {
        at = a;
        call = ap (λ (d : Doing). call_of (filter (is_of l) book.history.items) lane.entry lane.writes.items d) doing;
        word = has;
        next = subst (λ (x : Lane _). face_of base book.history.items l (closed (Word v) x) ≡ answered (Word v) (face_of base book.history.items l x))
            (sym (doing_is lane (Doing.Read a) doing)) refl;
      };
    }

pub checkpoint_row : {E : Type 0} (deeds : Deeds E) (book : Book E) (l : ℕ) → l < length book.lanes.items → (lane_at book l).phase ≡ Calling →
    (lane_at book l).doing ≡ Doing.Checkpoint →
    Steps deeds book (with_lane book l (closed Checkpointed (lane_at book l)) None) l (Answered Checkpointed)
checkpoint_row deeds book l lt calling doing base =
    step_of_lane deeds base book l (closed Checkpointed (lane_at book l)) None (Answered Checkpointed) lt (row (lane_at book l) calling doing)
  where
    row : (lane : Lane _) → lane.phase ≡ Calling → lane.doing ≡ Doing.Checkpoint →
        LaneStep deeds (Answered Checkpointed) (face_of base book.history.items l lane) (face_of base book.history.items l (closed Checkpointed lane))
    row lane calling doing = record {
      calling = calling;
      row = record {
        call = ap (λ (d : Doing). call_of (filter (is_of l) book.history.items) lane.entry lane.writes.items d) doing;
        next = subst (λ (x : Lane _). face_of base book.history.items l (closed Checkpointed x) ≡ answered Checkpointed (face_of base book.history.items l x))
            (sym (doing_is lane Doing.Checkpoint doing)) refl;
      };
    }

-- ---- the transaction is over

-- the face of a lane that has left
left_over : {E : Type 0} (base : Base) (begun : Heap) (mine : List (Entry E)) (l : ℕ) (reply : Reply) (lane : Lane E) →
    face_over base begun mine l (left reply lane) ≡ let_go (answered reply (face_over base begun mine l lane))
left_over base begun mine l reply lane = λ i. record (face_over base begun mine l (left reply lane)) {
  words = nothing_is_held begun (owners_after begun [] []) (with_writes [] begun).at i;
  first = nothing_is_held begun (owner_word begun) begun.at i;
}

pub left_face : {E : Type 0} (base : Base) (history : List (Entry E)) (l : ℕ) (reply : Reply) (lane : Lane E) →
    face_of base history l (left reply lane) ≡ let_go (answered reply (face_of base history l lane))
left_face base history l reply lane = left_over base (begun_heap base history (left reply lane)) (filter (is_of l) history) l reply lane

pub abort_row : {E : Type 0} (deeds : Deeds E) (book : Book E) (l : ℕ) → l < length book.lanes.items → (lane_at book l).phase ≡ Calling →
    (lane_at book l).doing ≡ Doing.Abort →
    Steps deeds book (with_lane book l (left Aborted (lane_at book l)) None) l (Answered Aborted)
abort_row deeds book l lt calling doing base =
    step_of_lane deeds base book l (left Aborted (lane_at book l)) None (Answered Aborted) lt record {
      calling = calling;
      row = record {
        call = ap (λ (d : Doing). call_of (filter (is_of l) book.history.items) (lane_at book l).entry (lane_at book l).writes.items d) doing;
        next = left_face base book.history.items l Aborted (lane_at book l);
      };
    }

-- ---- the history grows by an entry of the lane

last_is : {E : Type 0} (mine : List (Entry E)) (e : Entry E) → last_commit (mine ++ e ∷ []) ≡ Some (Call.Commit e.deed)
last_is [] e = refl
last_is (f ∷ []) e = refl
last_is (f ∷ g ∷ mine) e = last_is (g ∷ mine) e

-- a face of a transaction that began before the entry, in a lane that it isn't of
face_before : {E : Type 0} (base : Base) (history : List (Entry E)) (e : Entry E) (l : ℕ) (lane : Lane E) → lane.joined ≤ length history →
    (e.lane == l) ≡ false → face_of base (history ++ e ∷ []) l lane ≡ face_of base history l lane
face_before base history e l lane behind not_mine =
    ap (λ (begun : List (Entry _)). face_over base (fold base.heap begun) (filter (is_of l) (history ++ e ∷ [])) l lane)
    (take_before lane.joined history (e ∷ []) behind) ∙
    ap (λ (mine : List (Entry _)). face_over base (begun_heap base history lane) mine l lane)
    (filter_last (is_of l) history e ∙
    ap (λ (t : Bool). if t then filter (is_of l) history ++ e ∷ [] else filter (is_of l) history) not_mine)

-- and in the lane that it is of
face_joined : {E : Type 0} (base : Base) (history : List (Entry E)) (e : Entry E) (l : ℕ) (lane : Lane E) → lane.joined ≤ length history →
    (e.lane == l) ≡ true → face_of base (history ++ e ∷ []) l lane ≡ face_over base (begun_heap base history lane) (filter (is_of l) history ++ e ∷ []) l lane
face_joined base history e l lane behind is_mine =
    ap (λ (begun : List (Entry _)). face_over base (fold base.heap begun) (filter (is_of l) (history ++ e ∷ [])) l lane)
    (take_before lane.joined history (e ∷ []) behind) ∙
    ap (λ (mine : List (Entry _)). face_over base (begun_heap base history lane) mine l lane)
    (filter_last (is_of l) history e ∙
    ap (λ (t : Bool). if t then filter (is_of l) history ++ e ∷ [] else filter (is_of l) history) is_mine)

-- the lane's record is another, and its entry has joined
step_of_entry : {E : Type 0} (deeds : Deeds E) (base : Base) (book : Book E) (l : ℕ) (lane : Lane E) (e : Entry E) (answer : Stepped) →
    l < length book.lanes.items → e.lane ≡ l → AreBehindHistory book → lane.joined ≤ length book.history.items →
    LaneStep deeds answer (face_of base book.history.items l (lane_at book l))
    (face_over base (begun_heap base book.history.items lane) (filter (is_of l) book.history.items ++ e ∷ []) l lane) →
    IsStep deeds (faces_of base book) (faces_of base (with_history (book.history.items ++ e ∷ []) (with_lane book l lane None))) l answer
step_of_entry deeds base book l lane e answer lt own behind joined step = record {
  others = λ k ne.
      ap (face_of base (book.history.items ++ e ∷ []) k) (lane_at-other book l k lane None ne) ∙
      face_before base book.history.items e k (lane_at book k) (behind k) (apart_eq e.lane k (λ same. ne (sym same ∙ own)));
  step = subst (λ (f : WholeFace _). LaneStep deeds answer (face_of base book.history.items l (lane_at book l)) f)
      (sym (ap (face_of base (book.history.items ++ e ∷ []) l) (lane_at-same book l lane None lt) ∙
      face_joined base book.history.items e l lane joined (same_of e.lane l own)))
      step;
}
  where
    same_of : (n m : ℕ) → n ≡ m → (n == m) ≡ true
    same_of n m e = subst (λ (k : ℕ). (n == k) ≡ true) e (same_eq n)

-- the lane's next entry is told of the face
entry_of : {E : Type 0} (base : Base) (history : List (Entry E)) (l : ℕ) (lane : Lane E) (e : Entry E) → lane.doing ≡ Doing.Commit →
    lane.entered ≡ false → lane.entry ≡ Some e → (e.lane ≡ l) × (lane.begun ≡ e.number + 1) → IsEntryOf (face_of base history l lane) e
entry_of base history l lane e doing new has next = record {
  lane = next.0;
  number = next.1;
  call = ap (λ (d : Doing). call_of (filter (is_of l) history) lane.entry lane.writes.items d) doing ∙ ap (commit_of (filter (is_of l) history)) has;
  new = new;
}

-- what the lane has for an entry, by cases
with_entry : {E : Type 0} (l : ℕ) (lane : Lane E) (entry : Option (Entry E)) → lane.entry ≡ entry → IsNextEntry l lane.begun entry →
    (e : Entry E) × (lane.entry ≡ Some e) × (e.lane ≡ l) × (lane.begun ≡ e.number + 1)
with_entry l lane None has next = absurd next
with_entry l lane (Some e) has next = (e, has, next.0, next.1)

pub join_row : {E : Type 0} (deeds : Deeds E) (book later : Book E) (l part : ℕ) → l < length book.lanes.items → (lane_at book l).phase ≡ Calling →
    (lane_at book l).doing ≡ Doing.Commit → HasEntry l (lane_at book l) → AreBehindHistory book →
    ((e : Entry E) → (lane_at book l).entry ≡ Some e →
    later ≡ with_history (book.history.items ++ e ∷ []) (with_lane book l (moved part (entered_lane (lane_at book l))) None)) →
    Steps deeds book later l Moved
join_row deeds book later l part lt calling doing has behind is base =
    let found = with_entry l (lane_at book l) (lane_at book l).entry refl has.next in
    by_entry found.0 found.1 (found.2, found.3)
  where
    by_entry : (e : Entry _) → (lane_at book l).entry ≡ Some e → (e.lane ≡ l) × ((lane_at book l).begun ≡ e.number + 1) →
        IsStep deeds (faces_of base book) (faces_of base later) l Moved
    by_entry e entry next = subst (λ (b : Book _). IsStep deeds (faces_of base book) (faces_of base b) l Moved) (sym (is e entry))
        (step_of_entry deeds base book l (moved part (entered_lane (lane_at book l))) e Moved lt next.0 behind (behind l) record {
          calling = calling;
          row = Moves.entering_on e (entry_of base book.history.items l (lane_at book l) e doing has.new entry next)
              (moved_face (lane_at book l) e doing entry);
        })
      where
        moved_face : (lane : Lane _) (e : Entry _) → lane.doing ≡ Doing.Commit → lane.entry ≡ Some e →
            face_over base (begun_heap base book.history.items lane) (filter (is_of l) book.history.items ++ e ∷ []) l (moved part (entered_lane lane)) ≡
            stepped Moved (entering e (face_of base book.history.items l lane))
        moved_face lane e doing entry =
            ap (λ (c : Option (Call _)). record (stepped Moved (entering e (face_of base book.history.items l lane))) { call = c })
            (ap (call_of (filter (is_of l) book.history.items ++ e ∷ []) None lane.writes.items) doing ∙
            last_is (filter (is_of l) book.history.items) e ∙
            sym (ap (λ (d : Doing). call_of (filter (is_of l) book.history.items) lane.entry lane.writes.items d) doing ∙
            ap (commit_of (filter (is_of l) book.history.items)) entry))

pub commit_row : {E : Type 0} (deeds : Deeds E) (book later : Book E) (l : ℕ) → l < length book.lanes.items → (lane_at book l).phase ≡ Calling →
    (lane_at book l).doing ≡ Doing.Commit → HasEntry l (lane_at book l) → AreBehindHistory book →
    ((e : Entry E) → (lane_at book l).entry ≡ Some e →
    later ≡ with_history (book.history.items ++ e ∷ []) (with_lane book l (left Committed (entered_lane (lane_at book l))) None)) →
    Steps deeds book later l (Answered Committed)
commit_row deeds book later l lt calling doing has behind is base =
    let found = with_entry l (lane_at book l) (lane_at book l).entry refl has.next in
    by_entry found.0 found.1 (found.2, found.3)
  where
    by_entry : (e : Entry _) → (lane_at book l).entry ≡ Some e → (e.lane ≡ l) × ((lane_at book l).begun ≡ e.number + 1) →
        IsStep deeds (faces_of base book) (faces_of base later) l (Answered Committed)
    by_entry e entry next = subst (λ (b : Book _). IsStep deeds (faces_of base book) (faces_of base b) l (Answered Committed)) (sym (is e entry))
        (step_of_entry deeds base book l (left Committed (entered_lane (lane_at book l))) e (Answered Committed) lt next.0 behind (omega arith) record {
          calling = calling;
          row = CommitStep.entering_now e (entry_of base book.history.items l (lane_at book l) e doing has.new entry next)
              (left_over base (begun_heap base book.history.items (left Committed (entered_lane (lane_at book l)))) (filter (is_of l) book.history.items ++ e ∷ []) l Committed (entered_lane (lane_at book l)));
        })

-- a commit whose entry has joined
last_of : {E : Type 0} (mine : List (Entry E)) → mine ≢ [] → (deed : E) × (last_commit mine ≡ Some (Call.Commit deed))
last_of [] some = absurd (some refl)
last_of (e ∷ []) some = (e.deed, refl)
last_of (e ∷ f ∷ mine) some = last_of (f ∷ mine) (λ none. cc)

pub committed_row : {E : Type 0} (deeds : Deeds E) (book : Book E) (l : ℕ) → l < length book.lanes.items → (lane_at book l).phase ≡ Calling →
    (lane_at book l).doing ≡ Doing.Commit → HasEntered book l →
    Steps deeds book (with_lane book l (left Committed (lane_at book l)) None) l (Answered Committed)
committed_row deeds book l lt calling doing has base =
    let last = last_of (filter (is_of l) book.history.items) has.mine in
    step_of_lane deeds base book l (left Committed (lane_at book l)) None (Answered Committed) lt record {
      calling = calling;
      row = CommitStep.after_entering last.0
          (ap (λ (d : Doing). call_of (filter (is_of l) book.history.items) (lane_at book l).entry (lane_at book l).writes.items d) doing ∙
          ap (commit_of (filter (is_of l) book.history.items)) has.out ∙ last.1)
          has.entered (left_face base book.history.items l Committed (lane_at book l));
    }

-- a lane and the history change at once
pub entered_book : {E : Type 0} (book : Book E) (l : ℕ) (x y : Lane E) (h k : Stocked (Entry E)) → x ≡ y → h ≡ k →
    record (with_lane book l x None) { history = h } ≡ record (with_lane book l y None) { history = k }
entered_book book l x y h k lanes history = λ i. record (with_lane book l (lanes i) None) { history = history i }
