-- A commit's entry joins the history: with the last event of its end's append, or with the answer.
use Rattle.std.proofs.Common.{◌≡◌, ◌≢◌, ◌⊎◌, ℕ, ◌<◌, ◌≤◌, true, false, List, [], ◌∷◌, ◌++◌, length, Option, Some, None, refl, sym, ap, ◌∙◌, subst, inl, inr}
use Rattle.lane_traits.specs.Device.{Counts}
use Rattle.region_layout.specs.declared.layout.Layout.{Layout}
use Rattle.lane_types.specs.declared.call.Reply.TheVariants as Reply
use Rattle.lane_types.specs.declared.call.Stepped.{Stepped}
use Rattle.lane_types.specs.declared.call.Stepped.TheVariants as answer
use Rattle.lane_types.specs.declared.call.What.TheVariants as What
use Rattle.lane_types.specs.declared.face.Entry.{Entry}
use Rattle.lane_types.specs.Deeds.{Deeds}
use Rattle.lane_book.specs.declared.book.Book.{Book}
use Rattle.lane_book.specs.declared.lane.Lane.{Lane}
use Rattle.lane_book.specs.declared.lane.Doing.{Doing}
use Rattle.lane_book.specs.FacesOf.{lane_at}
use Rattle.lane_book.specs.Lanes.{with_lane, with_history, noted, moved, left as left_lane, entered_lane, begun_lane}
use Rattle.lane_book.specs.Locks.{AreLoose, BeginEnds, waits, takes}
use Rattle.lane_book.specs.Steps.{HasEntry, IsNextEntry}
use Rattle.lane_book.proofs.Faces.{lane_at-same, lane_at-other}
use Rattle.log_keeper.specs.declared.keeper.LogKeeper.{LogKeeper}
use Rattle.txn_state.specs.ReadLaws.{makes_events, appends_in}
use Rattle.txn_state.specs.declared.parts.TheConstants.{CLOSE}
use Rattle.txn_state.specs.Stages.{Stage, Leaving, Securing, Keeping, Ending, Closing, stage_of, stage_at}
use Rattle.txn_core.specs.Clearing.{Clears, begins, ends}
use Rattle.txn_core.specs.Exact.{IsUnblocked, GoesExactly, stays, joins, joins_at_once}
use Rattle.txn_core.proofs.Paying.{goes_lane}
use Rattle.txn_core.proofs.Exactly.{quiet_begin, quiet_exactly, joined_exactly, noted_spends}
use Rattle.txn_core.proofs.ExactParts.{HasPaidExactly, paid_moves, paid_answers_with}

-- the entry is there
pub the_entry : {E : Type 0} (l begun : ℕ) (o : Option (Entry E)) → IsNextEntry l begun o → (e : Entry E) × (o ≡ Some e)
the_entry l begun None next = absurd next
the_entry l begun (Some e) next = (e, refl)

-- the lanes of a book whose history is another
here_joined : {E : Type 0} (book : Book E) (l : ℕ) (lane : Lane E) (entries : List (Entry E)) → l < length book.lanes.items →
    lane_at (with_history entries (with_lane book l lane None)) l ≡ lane
here_joined book l lane entries lt = lane_at-same book l lane None lt

others_joined : {E : Type 0} (book : Book E) (l : ℕ) (lane : Lane E) (entries : List (Entry E)) → (q : ℕ) → q ≢ l →
    lane_at (with_history entries (with_lane book l lane None)) q ≡ lane_at book q
others_joined book l lane entries q ne = lane_at-other book l q lane None ne

-- ---- behind the end's append

closing_stage : {E : Type 0} (lane : Lane E) → lane.doing ≡ Doing.Commit → lane.has_records ≡ true → stage_of (moved CLOSE (entered_lane lane)) ≡ Closing
closing_stage lane commits recorded =
    ap (λ d. stage_at lane.phase lane.has_records CLOSE d) commits ∙ ap (λ b. stage_at lane.phase b CLOSE Doing.Commit) recorded

pub commit_joins : {E : Type 0} (layout : Layout) (book between later : Book E) (keeper : LogKeeper) (counts after : Counts) (l : ℕ) (answer : Stepped) →
    answer ≡ Stepped.Moved → HasPaidExactly layout book between keeper counts after l → makes_events (stage_of (lane_at book l)) ≡ true → after.events ≤ after.budget →
    stage_of (lane_at book l) ≡ Ending → (lane_at book l).doing ≡ Doing.Commit → (lane_at between l).has_records ≡ true → (lane_at between l).entry ≡ (lane_at book l).entry →
    HasEntry l (lane_at between l) →
    ((e : Entry E) → (lane_at between l).entry ≡ Some e → later ≡ with_history (between.history.items ++ e ∷ []) (with_lane between l (moved CLOSE (entered_lane (lane_at between l))) None)) →
    GoesExactly layout book later keeper counts after l answer
commit_joins layout book between later keeper counts after l answer told paid makes within at commits recorded same has join =
    let found = the_entry l (lane_at between l).begun (lane_at between l).entry has.next in
    let is = join found.0 found.1 in
    let lane = moved CLOSE (entered_lane (lane_at between l)) in
    let entries = between.history.items ++ found.0 ∷ [] in
    let here : lane_at later l ≡ lane = ap (λ (b : Book _). lane_at b l) is ∙ here_joined between l lane entries paid.inside in
    joined_exactly layout book between later keeper counts after l lane answer told paid.on here
    (λ q ne. ap (λ (b : Book _). lane_at b q) is ∙ others_joined between l lane entries q ne) refl refl paid.unblocked makes paid.counted within
    (joins found.0 commits (sym same ∙ found.1) at (ap stage_of here ∙ closing_stage (lane_at between l) (paid.on.call ∙ commits) recorded) refl
    (ap (λ (b : Book _). b.history.items) is ∙ ap (λ h. h ++ found.0 ∷ []) paid.on.history))

-- ---- with the answer

abbrev IsBegin : Doing → Type 0
IsBegin (Doing.Begin set) = Unit {0}
IsBegin _ = ⊥

leaves_quiet : {E : Type 0} (lane : Lane E) → stage_of lane ≡ Leaving → makes_events (stage_of lane) ≡ false
leaves_quiet lane at = ap makes_events at

-- a call that appends nothing and is no begin needs nothing of another lane
pub unblocked_quiet : {E : Type 0} (layout : Layout) (book : Book E) (keeper : LogKeeper) (l : ℕ) → appends_in (stage_of (lane_at book l)) ≡ false →
    ((set : ℕ) → (lane_at book l).doing ≡ Doing.Begin set → AreLoose book set) → IsUnblocked layout book keeper l
unblocked_quiet layout book keeper l own loose = record {
  latch = λ appends. let wrong : true ≡ false = sym appends ∙ own in absurd (cc);
  structures = loose;
}

pub commits_at_once : {E : Type 0} (layout : Layout) (book later : Book E) (keeper : LogKeeper) (counts : Counts) (l : ℕ) (answer : Stepped) →
    answer ≡ Stepped.Answered Reply.Committed → l < length book.lanes.items → stage_of (lane_at book l) ≡ Leaving → (lane_at book l).doing ≡ Doing.Commit → HasEntry l (lane_at book l) →
    ((e : Entry E) → (lane_at book l).entry ≡ Some e → later ≡ with_history (book.history.items ++ e ∷ []) (with_lane book l (left_lane Reply.Committed (entered_lane (lane_at book l))) None)) →
    GoesExactly layout book later keeper counts counts l answer
commits_at_once layout book later keeper counts l answer told lt at commits has join =
    let found = the_entry l (lane_at book l).begun (lane_at book l).entry has.next in
    let is = join found.0 found.1 in
    let lane = left_lane Reply.Committed (entered_lane (lane_at book l)) in
    let entries = book.history.items ++ found.0 ∷ [] in
    let here : lane_at later l ≡ lane = ap (λ (b : Book _). lane_at b l) is ∙ here_joined book l lane entries lt in
    quiet_exactly layout book later keeper counts l answer Reply.Committed told (ap (λ (x : Lane _). x.doing) here)
    (λ q ne. ap (λ (b : Book _). lane_at b q) is ∙ others_joined book l lane entries q ne)
    (unblocked_quiet layout book keeper l (ap appends_in at) (λ set begin. absurd (subst IsBegin (sym begin ∙ commits) tt))) (leaves_quiet (lane_at book l) at)
    (joins_at_once found.0 commits found.1 at told (ap (λ (b : Book _). b.history.items) is))

-- ---- calls without an event

pub quiet_call : {E : Type 0} (layout : Layout) (book later : Book E) (keeper : LogKeeper) (counts : Counts) (l : ℕ) (doing : Doing) (lane : Lane E) (touched : Option ℕ) (answer : Stepped) (reply : _) →
    answer ≡ Stepped.Answered reply → l < length book.lanes.items → (lane_at book l).doing ≡ doing → (IsBegin doing → ⊥) → makes_events (stage_of (lane_at book l)) ≡ false →
    appends_in (stage_of (lane_at book l)) ≡ false → lane.doing ≡ Doing.Nothing → later ≡ with_lane book l lane touched →
    GoesExactly layout book later keeper counts counts l answer
quiet_call layout book later keeper counts l doing lane touched answer reply told lt calls no_begin makes own over is =
    let to = goes_lane book later l lane touched lt is in
    quiet_exactly layout book later keeper counts l answer reply told (ap (λ (x : Lane _). x.doing) to.lanes.here ∙ over) to.lanes.others
    (unblocked_quiet layout book keeper l own (λ set begin. absurd (no_begin (subst IsBegin (sym begin ∙ calls) tt)))) makes
    (stays (ap (λ h. h.items) to.history))

-- the stage of a call that is no part of a plan
pub quiet_doing : {E : Type 0} (lane : Lane E) (doing : Doing) → lane.doing ≡ doing → makes_events (stage_of lane) ≡ makes_events (stage_at lane.phase lane.has_records lane.part doing)
quiet_doing lane doing calls = ap (λ d. makes_events (stage_at lane.phase lane.has_records lane.part d)) calls

pub own_doing : {E : Type 0} (lane : Lane E) (doing : Doing) → lane.doing ≡ doing → appends_in (stage_of lane) ≡ appends_in (stage_at lane.phase lane.has_records lane.part doing)
own_doing lane doing calls = ap (λ d. appends_in (stage_at lane.phase lane.has_records lane.part d)) calls

-- a begin takes its structures, or waits for one
pub begin_exactly : {E : Type 0} (layout : Layout) (book later : Book E) (keeper : LogKeeper) (counts : Counts) (l set : ℕ) (answer : Stepped) →
    l < length book.lanes.items → (lane_at book l).doing ≡ Doing.Begin set → BeginEnds book later l set answer → GoesExactly layout book later keeper counts counts l answer
begin_exactly layout book later keeper counts l set _ lt begin (waits s holder least is) =
    let lane = noted (answer.Waiting (What.Structure s) holder) (lane_at book l) in
    let to = goes_lane book later l lane None lt is in
    record {
      goes = record { set = set; call = begin; least = least };
      spends = noted_spends book later l lane counts counts to refl refl refl;
      others = to.lanes.others;
      history = stays (ap (λ h. h.items) to.history);
    }
begin_exactly layout book later keeper counts l set _ lt begin (takes loose is) =
    let lane = begun_lane book.next_transaction set (length book.history.items) (lane_at book l) in
    let here : lane_at later l ≡ lane = ap (λ (b : Book _). lane_at b l) is ∙ lane_at-same book l lane None lt in
    quiet_exactly layout book later keeper counts l (answer.Answered (Reply.Begun book.next_transaction)) (Reply.Begun book.next_transaction) refl (ap (λ (x : Lane _). x.doing) here)
    (λ q ne. ap (λ (b : Book _). lane_at b q) is ∙ lane_at-other book l q lane None ne)
    (unblocked_quiet layout book keeper l (own_doing (lane_at book l) (Doing.Begin set) begin) (λ other also. subst (λ n. AreLoose book n) (same_set set other (sym begin ∙ also)) loose))
    (quiet_begin (lane_at book l) set begin) (stays (ap (λ (b : Book _). b.history.items) is))
  where
    set_of : Doing → ℕ
    set_of (Doing.Begin n) = n
    set_of _ = 0

    same_set : (n m : ℕ) → Doing.Begin n ≡ Doing.Begin m → n ≡ m
    same_set n m is = ap set_of is

-- ---- a fence

pub fences_make : (s : Stage) → (s ≡ Securing) ⊎ (s ≡ Keeping) → makes_events s ≡ true
fences_make s (inl at) = ap makes_events at
fences_make s (inr at) = ap makes_events at

pub fences_own : (s : Stage) → (s ≡ Securing) ⊎ (s ≡ Keeping) → appends_in s ≡ false
fences_own s (inl at) = ap appends_in at
fences_own s (inr at) = ap appends_in at

-- ---- behind a closing or a removal

pub clears_exactly : {E : Type 0} (deeds : Deeds E) (layout : Layout) (book between later : Book E) (keeper mid kept : LogKeeper) (words : List ℕ) (counts after : Counts) (l : ℕ) (answer : Stepped) →
    HasPaidExactly layout book between keeper counts after l → makes_events (stage_of (lane_at book l)) ≡ true → after.events ≤ after.budget →
    Clears deeds layout mid kept words between later l answer → GoesExactly layout book later keeper counts after l answer
clears_exactly deeds layout book between later keeper mid kept words counts after l answer paid makes within (begins r seen told turned moves) =
    paid_moves deeds layout book between later keeper counts after l None _ answer told paid makes within refl refl moves
clears_exactly deeds layout book between later keeper mid kept words counts after l answer paid makes within (ends told turned moves) =
    paid_answers_with layout book between later keeper counts after l None _ _ answer _ told paid makes within refl moves.is
