-- A call that appends nothing is asked, or is refused for want of memory.
use Rattle.std.proofs.Common.{◌≡◌, ℕ, ◌<◌, false, [], length, refl, sym, ap, ◌∙◌, append-nil, arith}
use Rattle.std.proofs.Math.Logic.{∥∥₁_map}
use Rattle.std.proofs.Math.ListN.{length-set}
use Rattle.lane_types.specs.declared.call.Call.{Call}
use Rattle.lane_types.specs.declared.call.Phase.{Phase}
use Rattle.lane_types.specs.Deeds.{Deeds}
use Rattle.lane_types.specs.Faces.{WholeFace}
use Rattle.lane_types.specs.Asks.{wanted}
use Rattle.lane_book.specs.declared.book.Book.{Book}
use Rattle.lane_book.specs.declared.lane.Lane.{Lane}
use Rattle.lane_book.specs.declared.lane.Doing.{Doing}
use Rattle.lane_book.specs.FacesOf.{lane_at}
use Rattle.lane_book.specs.Books.{IsBook, ends}
use Rattle.lane_book.specs.Lanes.{IsRoomier, with_lane}
use Rattle.lane_book.specs.Steps.{Asks, IsPlain, IsAskedOf, IsAskedIn, IsRoomierIn}
use Rattle.lane_book.specs.Steps as steps
use Rattle.txn_state.specs.Stages.{Naming, stage_of, stage_at, idle_stage, is_commit}
use Rattle.txn_state.specs.QuietLaws.{HasSameTransaction}
use Rattle.txn_state.proofs.SameTransaction.{notes_keep}
use Rattle.lawful_book.specs.Laws as laws
use Rattle.txn_core.proofs.LawfulKept.{asks_keep, refusals_keep}
use Rattle.txn_core.specs.Asking.{ChangesFace, StaysAlways, StaysAsked, AppendsNothing}
use Rattle.txn_core.specs.Asking as asking
use Rattle.txn_state.specs.Ties.{due_by}
use Rattle.txn_core.proofs.Paying.{goes_lane}

pub is_plain : {E : Type 0} (call : Call E) (doing : Doing) → AppendsNothing call doing → IsPlain call doing
is_plain call doing asking.begin = steps.begin
is_plain call doing asking.read = steps.read
is_plain call doing asking.checkpoint = steps.checkpoint

-- in the book one lane is another
pub changes_face : {E : Type 0} (change : WholeFace E → WholeFace E) (book later : Book E) (l : ℕ) → later ≡ with_lane book l (lane_at later l) book.touched → Asks change book later l →
    ChangesFace change book later l
changes_face change book later l is asks = record {
  asks = asks;
  many = ap (λ (b : Book _). length b.lanes.items) is ∙ length-set book.lanes.items l (lane_at later l);
  touched = ap (λ (b : Book _). b.touched) is;
}

idle_not_naming : (phase : Phase) → idle_stage phase ≡ Naming → ⊥
idle_not_naming Phase.Out e = absurd (cc)
idle_not_naming Phase.In e = absurd (cc)
idle_not_naming Phase.Calling e = absurd (cc)

-- the stage of a lane without a call
idle_at : {E : Type 0} (lane : Lane E) → lane.doing ≡ Doing.Nothing → stage_of lane ≡ idle_stage lane.phase
idle_at lane nothing = ap (stage_at lane.phase lane.has_records lane.part) nothing

not_naming : {E : Type 0} (lane : Lane E) → lane.doing ≡ Doing.Nothing → stage_of lane ≡ Naming → ⊥
not_naming lane nothing naming = idle_not_naming lane.phase (sym (idle_at lane nothing) ∙ naming)

pub roomier_same : {E : Type 0} (lane later : Lane E) → lane.doing ≡ Doing.Nothing → IsRoomier lane later → HasSameTransaction lane later
roomier_same lane later nothing more = record {
  stage = ap (λ (x : Lane _). stage_of x) more.is;
  transaction = ap (λ (x : Lane _). x.transaction) more.is;
  held = ap (λ (x : Lane _). x.held) more.is;
  begun = ap (λ (x : Lane _). x.begun) more.is;
  commits = ap (λ (x : Lane _). x.commits) more.is;
  writes = more.writes;
  updates = more.updates;
  waits = λ naming. absurd (not_naming lane nothing naming);
  stored = ap (λ (x : Lane _). x.stored) more.is;
  gives = more.gives;
  has_records = ap (λ (x : Lane _). x.has_records) more.is;
  rolled = ap (λ (x : Lane _). x.rolled) more.is;
  ended = ap (λ (x : Lane _). x.ended) more.is;
  entry = ap (λ (x : Lane _). x.entry) more.is;
  entered = ap (λ (x : Lane _). x.entered) more.is;
  committing = ap (λ (x : Lane _). is_commit x.doing) more.is;
  takes = λ s k call. sym (ap (λ (x : Lane _). x.doing) more.is) ∙ call;
  due = ap (λ (x : Lane _). due_by x.doing) more.is;
  gives_same = λ k call. sym (ap (λ (x : Lane _). x.doing) more.is) ∙ call;
  ending = ap (λ (x : Lane _). ends x.doing) more.is;
  gates = more.gates;
  gates_wait = λ due. absurd (let none = ap due_by nothing in omega (arith, due, none));
  promised = ap (λ (x : Lane _). x.promised) more.is;
  owed_events = ap (λ (x : Lane _). x.owed_events) more.is;
  owed_records = ap (λ (x : Lane _). x.owed_records) more.is;
}

pub stays_roomier : {E : Type 0} (deeds : Deeds E) (book later : Book E) (l : ℕ) → l < length book.lanes.items → (lane_at book l).doing ≡ Doing.Nothing → IsRoomierIn book later l → IsBook later → StaysAlways deeds book later
stays_roomier deeds book later l lt nothing roomier good layout base keeper region spare counts world = ∥∥₁_map world (λ w. record {
  state = notes_keep layout _ book later keeper region spare counts.events l (lane_at later l) (roomier_same (lane_at book l) (lane_at later l) nothing roomier.lane)
      (goes_lane book later l (lane_at later l) book.touched lt roomier.is) good w.state;
  lawful = refusals_keep deeds layout base book later l w.lawful lt roomier;
})

-- a call that appends nothing leaves the transaction at its stage
plain_stage : {E : Type 0} (lane later : Lane E) (call : Call E) (doing : Doing) → AppendsNothing call doing → lane.doing ≡ Doing.Nothing → lane.phase ≡ wanted call → later.doing ≡ doing →
    stage_of later ≡ stage_of lane
plain_stage lane later call doing asking.begin nothing phase is = ap (stage_at later.phase later.has_records later.part) is ∙ sym (idle_at lane nothing ∙ ap idle_stage phase)
plain_stage lane later call doing asking.read nothing phase is = ap (stage_at later.phase later.has_records later.part) is ∙ sym (idle_at lane nothing ∙ ap idle_stage phase)
plain_stage lane later call doing asking.checkpoint nothing phase is = ap (stage_at later.phase later.has_records later.part) is ∙ sym (idle_at lane nothing ∙ ap idle_stage phase)

plain_commits : {E : Type 0} (call : Call E) (doing : Doing) → AppendsNothing call doing → is_commit doing ≡ false
plain_commits call doing asking.begin = refl
plain_commits call doing asking.read = refl
plain_commits call doing asking.checkpoint = refl

plain_takes : {E : Type 0} (call : Call E) (doing : Doing) → AppendsNothing call doing → (s k : ℕ) → doing ≡ Doing.Take s k → ⊥
plain_takes call doing asking.begin s k is = let off : Doing.Begin _ ≡ Doing.Take s k = is in cc
plain_takes call doing asking.read s k is = let off : Doing.Read _ ≡ Doing.Take s k = is in cc
plain_takes call doing asking.checkpoint s k is = let off : Doing.Checkpoint ≡ Doing.Take s k = is in cc

plain_due : {E : Type 0} (call : Call E) (doing : Doing) → AppendsNothing call doing → due_by doing ≡ 0
plain_due call doing asking.begin = refl
plain_due call doing asking.read = refl
plain_due call doing asking.checkpoint = refl

plain_ends : {E : Type 0} (call : Call E) (doing : Doing) → AppendsNothing call doing → ends doing ≡ false
plain_ends call doing asking.begin = refl
plain_ends call doing asking.read = refl
plain_ends call doing asking.checkpoint = refl

pub asked_same : {E : Type 0} (lane later : Lane E) (call : Call E) (doing : Doing) → AppendsNothing call doing → lane.doing ≡ Doing.Nothing → lane.phase ≡ wanted call → lane.promised ≡ 0 →
    IsAskedOf lane call doing [] [] 0 later → HasSameTransaction lane later
asked_same lane later call doing quiet nothing phase unpromised it = record {
  stage = plain_stage lane later call doing quiet nothing phase (ap (λ (x : Lane _). x.doing) it.asks.is);
  transaction = ap (λ (x : Lane _). x.transaction) it.asks.is;
  held = ap (λ (x : Lane _). x.held) it.asks.is;
  begun = ap (λ (x : Lane _). x.begun) it.asks.is;
  commits = ap (λ (x : Lane _). x.commits) it.asks.is;
  writes = it.asks.writes_more ∙ append-nil lane.writes.items;
  updates = it.asks.updates_stay;
  waits = λ naming. absurd (not_naming lane nothing naming);
  stored = ap (λ (x : Lane _). x.stored) it.asks.is;
  gives = it.asks.gives_more ∙ append-nil lane.gives.items;
  has_records = ap (λ (x : Lane _). x.has_records) it.asks.is;
  rolled = ap (λ (x : Lane _). x.rolled) it.asks.is;
  ended = ap (λ (x : Lane _). x.ended) it.asks.is;
  entry = it.entry_stays;
  entered = ap (λ (x : Lane _). x.entered) it.asks.is;
  committing = ap (λ (x : Lane _). is_commit x.doing) it.asks.is ∙ plain_commits call doing quiet ∙ sym (ap is_commit nothing);
  takes = λ s k take. absurd (plain_takes call doing quiet s k (sym (ap (λ (x : Lane _). x.doing) it.asks.is) ∙ take));
  due = ap (λ (x : Lane _). due_by x.doing) it.asks.is ∙ plain_due call doing quiet ∙ sym (ap due_by nothing);
  gives_same = λ k give. absurd (let none = plain_due call doing quiet in let one = ap due_by (sym (ap (λ (x : Lane _). x.doing) it.asks.is) ∙ give) in omega (arith, none, one));
  ending = ap (λ (x : Lane _). ends x.doing) it.asks.is ∙ plain_ends call doing quiet ∙ sym (ap ends nothing);
  gates = it.gates_stay;
  gates_wait = λ due. absurd (let none = ap due_by nothing in omega (arith, due, none));
  promised = ap (λ (x : Lane _). x.promised) it.asks.is ∙ sym unpromised;
  owed_events = ap (λ (x : Lane _). x.owed_events) it.asks.is;
  owed_records = ap (λ (x : Lane _). x.owed_records) it.asks.is;
}

pub stays_asked : {E : Type 0} (deeds : Deeds E) (book later : Book E) (l : ℕ) (call : Call E) (doing : Doing) → l < length book.lanes.items → (lane_at book l).doing ≡ Doing.Nothing →
    (lane_at book l).phase ≡ wanted call → AppendsNothing call doing → IsBook book → IsAskedIn call doing [] [] 0 book later l → IsBook later → StaysAsked deeds call book later l
stays_asked deeds book later l call doing lt nothing phase quiet was asked good layout base keeper region spare counts fits may world = ∥∥₁_map world (λ w. record {
  state = notes_keep layout _ book later keeper region spare counts.events l (lane_at later l)
      (asked_same (lane_at book l) (lane_at later l) call doing quiet nothing phase ((was l).cells.unpromised nothing) asked.lane)
      (goes_lane book later l (lane_at later l) book.touched lt asked.is) good w.state;
  lawful = asks_keep deeds layout base book later l 0 call doing [] w.lawful lt nothing (laws.plain (is_plain call doing quiet)) fits may asked;
})
