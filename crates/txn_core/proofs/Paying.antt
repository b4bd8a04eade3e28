-- A lane that paid shows the same face, and its book is lawful still.
use Rattle.std.proofs.Common.{◌≡◌, ℕ, ◌<◌, true, length, Option, refl, sym, ◌∙◌, subst, inl, inr}
use Rattle.std.proofs.lemmas.Bool.Decides.{eqb_tells}
use Rattle.std.proofs.lemmas.List.{length-set}
use Rattle.region_layout.specs.declared.layout.Layout.{Layout}
use Rattle.lane_types.specs.declared.call.Stepped.{Stepped}
use Rattle.lane_types.specs.Deeds.{Deeds}
use Rattle.lane_types.specs.Faces.{Base, WholeFace}
use Rattle.lane_types.specs.LaneSteps.{LaneStep}
use Rattle.lane_book.specs.declared.book.Book.{Book}
use Rattle.lane_book.specs.declared.lane.Lane.{Lane}
use Rattle.lane_book.specs.FacesOf.{lane_at, face_of, faces_of}
use Rattle.lane_book.specs.Lanes.{with_lane, owing, noted, moved}
use Rattle.lane_book.specs.Steps.{IsStep}
use Rattle.lane_book.specs.Books.{IsLane, IsBook}
use Rattle.lane_book.proofs.Faces.{lane_at-same, lane_at-other}
use Rattle.lane_book.proofs.Keeps.{keeps_lane}
use Rattle.txn_core.specs.LawfulWorlds.{IsLawfulWorld}
use Rattle.lawful_book.proofs.GoingOn.{owing_on}
use Rattle.txn_core.proofs.LawfulKept.{steps_keep}
use Rattle.txn_state.specs.Changes.{GoesTo}
use Rattle.txn_state.specs.QuietLaws.{HasSameTransaction}

-- ---- one lane is another

-- the lane is this one from then on
pub goes_lane : {E : Type 0} (book later : Book E) (l : ℕ) (lane : Lane E) (touched : Option ℕ) → l < length book.lanes.items → later ≡ with_lane book l lane touched →
    GoesTo book later l lane
goes_lane book later l lane touched lt is = subst (λ (b : Book _). GoesTo book b l lane) (sym is) (record {
  lanes = record {
    inside = lt;
    count = length-set book.lanes.items l lane;
    here = lane_at-same book l lane touched lt;
    others = λ k ne. lane_at-other book l k lane touched ne;
    blocks = refl;
  };
  history = refl;
  next = refl;
})

pub goes_stopped : {E : Type 0} (book later : Book E) (l : ℕ) (lane : Lane E) (touched : Option ℕ) → l < length book.lanes.items →
    later ≡ record (with_lane book l lane touched) { stopped = true } → GoesTo book later l lane
goes_stopped book later l lane touched lt is = subst (λ (b : Book _). GoesTo book b l lane) (sym is) (record {
  lanes = record {
    inside = lt;
    count = length-set book.lanes.items l lane;
    here = lane_at-same book l lane touched lt;
    others = λ k ne. lane_at-other book l k lane touched ne;
    blocks = refl;
  };
  history = refl;
  next = refl;
})

pub goes_nowhere : {E : Type 0} (book : Book E) (l : ℕ) → l < length book.lanes.items → GoesTo book book l (lane_at book l)
goes_nowhere book l lt = record {
  lanes = record { inside = lt; count = refl; here = refl; others = λ k ne. refl; blocks = refl };
  history = refl;
  next = refl;
}

pub goes_then : {E : Type 0} (book between later : Book E) (l : ℕ) (lane last : Lane E) → GoesTo book between l lane → GoesTo between later l last → GoesTo book later l last
goes_then book between later l lane last goes then_goes = record {
  lanes = record {
    inside = goes.lanes.inside;
    count = then_goes.lanes.count ∙ goes.lanes.count;
    here = then_goes.lanes.here;
    others = λ k ne. then_goes.lanes.others k ne ∙ goes.lanes.others k ne;
    blocks = then_goes.lanes.blocks ∙ goes.lanes.blocks;
  };
  history = then_goes.history ∙ goes.history;
  next = then_goes.next ∙ goes.next;
}

pub inside_then : {E : Type 0} (book later : Book E) (l : ℕ) (lane : Lane E) → GoesTo book later l lane → l < length later.lanes.items
inside_then book later l lane goes = subst (λ n. l < n) (sym goes.lanes.count) goes.lanes.inside

-- ---- what a lane owes

-- The later book is this one but for what lane l owes.
pub record IsPaid {E : Type 0} (book later : Book E) (l : ℕ) : Type 0 where
  pub events : ℕ
  pub records : ℕ
  pub goes : GoesTo book later l (owing events records (lane_at book l))

pub paid_none : {E : Type 0} (book : Book E) (l : ℕ) → l < length book.lanes.items → IsPaid book book l
paid_none book l lt = record { events = (lane_at book l).owed_events; records = (lane_at book l).owed_records; goes = goes_nowhere book l lt }

pub paid_lane : {E : Type 0} (book later : Book E) (l events records : ℕ) (touched : Option ℕ) → l < length book.lanes.items →
    later ≡ with_lane book l (owing events records (lane_at book l)) touched → IsPaid book later l
paid_lane book later l events records touched lt is = record {
  events = events;
  records = records;
  goes = goes_lane book later l (owing events records (lane_at book l)) touched lt is;
}

pub paid_then : {E : Type 0} (book between later : Book E) (l : ℕ) → IsPaid book between l → IsPaid between later l → IsPaid book later l
paid_then book between later l paid then_paid = record {
  events = then_paid.events;
  records = then_paid.records;
  goes = subst (λ (x : Lane _). GoesTo book later l (owing then_paid.events then_paid.records x)) paid.goes.lanes.here
      (goes_then book between later l (owing paid.events paid.records (lane_at book l)) (owing then_paid.events then_paid.records (lane_at between l)) paid.goes then_paid.goes);
}

-- the faces are the same
face_paid : {E : Type 0} (base : Base) (book later : Book E) (l : ℕ) → IsPaid book later l → (k : ℕ) → faces_of base later k ≡ faces_of base book k
face_paid base book later l paid k = elim (eqb_tells k l) [
  | inl same ↦ subst (λ n. faces_of base later n ≡ faces_of base book n) (sym same.1) (λ i. face_of base (paid.goes.history i).items l (paid.goes.lanes.here i))
  | inr ne ↦ (λ i. face_of base (paid.goes.history i).items k (paid.goes.lanes.others k ne.1 i))
]

-- so a step from behind what was paid is one from before
pub paid_step : {E : Type 0} (deeds : Deeds E) (base : Base) (book between : Book E) (l : ℕ) (answer : Stepped) (g : ℕ → WholeFace E) → IsPaid book between l →
    IsStep deeds (faces_of base between) g l answer → IsStep deeds (faces_of base book) g l answer
paid_step deeds base book between l answer g paid step = record {
  others = λ k ne. step.others k ne ∙ face_paid base book between l paid k;
  step = subst (λ (f : WholeFace _). LaneStep deeds answer f (g l)) (face_paid base book between l paid l) step.step;
}

owing_keeps : {E : Type 0} (n events records : ℕ) (lane : Lane E) → IsLane n lane → IsLane n (owing events records lane)
owing_keeps n events records lane is = record { behind = is.behind; points = is.points; rising = is.rising; about = is.about; cells = is.cells; out = is.out; calling = is.calling }

pub paid_book : {E : Type 0} (book later : Book E) (l events records : ℕ) (touched : Option ℕ) → l < length book.lanes.items →
    later ≡ with_lane book l (owing events records (lane_at book l)) touched → IsBook book → IsBook later
paid_book book later l events records touched lt is kept =
    keeps_lane book later l (owing events records (lane_at book l)) touched lt is kept (owing_keeps (length book.history.items) events records (lane_at book l))

pub paid_lawful : {E : Type 0} (deeds : Deeds E) (layout : Layout) (base : Base) (book later : Book E) (l events records : ℕ) (touched : Option ℕ) → l < length book.lanes.items →
    later ≡ with_lane book l (owing events records (lane_at book l)) touched → IsLawfulWorld deeds layout base book → IsLawfulWorld deeds layout base later
paid_lawful deeds layout base book later l events records touched lt is lawful =
    steps_keep deeds layout base book later l (owing events records (lane_at book l)) touched lawful lt is (owing_on events records (lane_at book l))

-- ---- what a note leaves

pub noted_same : {E : Type 0} (answer : Stepped) (lane : Lane E) → HasSameTransaction lane (noted answer lane)
noted_same answer lane = record {
  stage = refl;
  transaction = refl;
  held = refl;
  begun = refl;
  commits = refl;
  writes = refl;
  updates = refl;
  waits = λ at. refl;
  stored = refl;
  gives = refl;
  has_records = refl;
  rolled = refl;
  ended = refl;
  entry = refl;
  entered = refl;
  committing = refl;
  takes = λ s k call. call;
  due = refl;
  gives_same = λ k call. call;
  ending = refl;
  gates = refl;
  gates_wait = λ due. refl;
  promised = refl;
  owed_events = refl;
  owed_records = refl;
}

pub moved_same : {E : Type 0} (lane : Lane E) → HasSameTransaction lane (moved lane.part lane)
moved_same lane = record {
  stage = refl;
  transaction = refl;
  held = refl;
  begun = refl;
  commits = refl;
  writes = refl;
  updates = refl;
  waits = λ at. refl;
  stored = refl;
  gives = refl;
  has_records = refl;
  rolled = refl;
  ended = refl;
  entry = refl;
  entered = refl;
  committing = refl;
  takes = λ s k call. call;
  due = refl;
  gives_same = λ k call. call;
  ending = refl;
  gates = refl;
  gates_wait = λ due. refl;
  promised = refl;
  owed_events = refl;
  owed_records = refl;
}
