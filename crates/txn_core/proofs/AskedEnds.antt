-- A call that ends a transaction is asked, for which there is memory.
use Rattle.std.proofs.Common.{◌≡◌, ◌≢◌, ⊎_elim, ℕ, ◌+◌, ◌-◌, ◌%◌, ◌^◌, ◌<◌, ◌≤◌, ◌==◌, ◌&&◌, if◌then◌else◌, Bool, true, false, min, ◌++◌, List, [], length, map, Some, None, Result, Ok, Err, OnOk, OnErr, refl, sym, ap, ◌∙◌, subst, append-nil, arith}
use Rattle.std.proofs.Math.ListN.{length-set}
use Rattle.std.proofs.Math.Logic.{∥∥₁_map, ∥∥₁_elim}
use Rattle.std.proofs.lemmas.Bool.Decides.{eqb_tells}
use Rattle.std.specs.Coded.{Coded-set, coded_list, coded_ℕ, le_prop}
use Rattle.persist_model.specs.Region.{Region}
use Rattle.lane_traits.specs.Device.{Counts}
use Rattle.region_layout.specs.declared.layout.Layout.{Layout}
use Rattle.region_layout.specs.Layout.{layout_shape}
use Rattle.lane_types.specs.declared.call.Call.{Call}
use Rattle.lane_types.specs.declared.call.Phase.{Phase}
use Rattle.lane_types.specs.declared.face.Entry.{Entry}
use Rattle.lane_types.specs.Deeds.{Deeds}
use Rattle.lane_types.specs.Faces.{Base, WholeFace}
use Rattle.lane_types.specs.Asks.{Fits, is_logged, asked}
use Rattle.lane_types.specs.May.{May}
use Rattle.lane_book.specs.declared.book.Book.{Book}
use Rattle.lane_book.specs.declared.lane.Lane.{Lane}
use Rattle.lane_book.specs.declared.lane.Doing.{Doing}
use Rattle.lane_book.specs.Appends.{ReservesNeed}
use Rattle.lane_book.specs.Books.{IsBook}
use Rattle.lane_book.specs.Entries.{AreBlocks, committing, disowned, entry_of, writes_of_entry}
use Rattle.lane_book.specs.FacesOf.{lane_at, faces_of}
use Rattle.lane_book.specs.Lanes.{IsRoomier, owing, with_lane}
use Rattle.lane_book.specs.Reserved.{added_by, needed_by, promised_by, is_bound, reserved_in}
use Rattle.lane_book.specs.Steps.{Asks, IsAskedOf, IsAskedIn, IsRoomierIn}
use Rattle.lane_book.specs.Steps as steps
use Rattle.lawful_book.specs.Laws as laws
use Rattle.txn_core.proofs.LawfulKept as fitting
use Rattle.lawful_book.proofs.Histories.{Depends}
use Rattle.txn_core.proofs.LawfulKept.{asks_keep, commit_asks_keep, same_books_keep}
use Rattle.log_keeper.specs.declared.keeper.LogKeeper.{LogKeeper}
use Rattle.log_keeper.specs.Keeper.{keeping_of, HasRoomIn}
use Rattle.log_keeper.specs.Listing.{gates_in}
use Rattle.log_keeper.specs.Logged.{Keeping}
use Rattle.txn_state.specs.Changes.{GoesTo}
use Rattle.txn_state.specs.QuietLaws.{AsksEnd, HasMorePlaces, HasSameRecords, ending_needs}
use Rattle.txn_state.specs.ReadLaws.{clears_in}
use Rattle.txn_state.specs.Stages.{Between, Securing, Opening, Leaving, stage_of, stage_at, idle_stage, is_commit}
use Rattle.txn_state.specs.States.{HasNoEntry}
use Rattle.txn_state.specs.Ties.{plain_entry, plain_write}
use Rattle.txn_state.proofs.Asks.{ends_are_asked}
use Rattle.txn_state.proofs.SameTransaction.{places_are_taken}
use Rattle.txn_core.specs.Asking.{ChangesFace, Owes, StaysAlways, StaysBetween, StaysTaken, StaysRefused}
use Rattle.txn_core.specs.AskedEnds.{IsCommitAsked}
use Rattle.txn_core.specs.Phases.{IsPhased, ArePhased}
use Rattle.txn_core.specs.States.{IsKept, HasWorld}
use Rattle.txn_core.proofs.AskedFaces.{owed_phases}
use Rattle.txn_core.proofs.Asked.{changes_face, stays_roomier}
use Rattle.txn_core.proofs.Memory.{exact}
use Rattle.txn_core.proofs.OpenParts.{begins_clear}
use Rattle.txn_core.proofs.Paying.{goes_lane}

-- ---- what the code gets of a world's state

module _ {E : Type 0} (deeds : Deeds E) (layout : Layout) (book : Book E) (keeper : LogKeeper) (region : Region) (spare : ℕ) (counts : Counts) where
  -- a lane in a transaction has begun one
  pub has_begun : (l : ℕ) → (lane_at book l).doing ≡ Doing.Nothing → (lane_at book l).phase ≡ Phase.In → HasWorld deeds layout book keeper region spare counts → 1 ≤ (lane_at book l).begun
  has_begun l nothing phase world = ∥∥₁_elim world le_prop (λ w. fitting.transactions_have_begun deeds layout w.0 book w.1.lawful l phase nothing)

  -- for now no block is given
  pub gives_none : (l : ℕ) → HasWorld deeds layout book keeper region spare counts → (lane_at book l).gives.items ≡ []
  gives_none l world = ∥∥₁_elim world (Coded-set (coded_list coded_ℕ) (lane_at book l).gives.items []) (λ w. (w.1.lawful.no_gives l))

pub none_inside : (layout : Layout) (gives : List ℕ) → gives ≡ [] → AreBlocks layout gives
none_inside layout gives none = subst (AreBlocks layout) (sym none) tt

pub is_between : {E : Type 0} (lane : Lane E) → lane.doing ≡ Doing.Nothing → lane.phase ≡ Phase.In → stage_of lane ≡ Between
is_between lane nothing phase = ap (stage_at lane.phase lane.has_records lane.part) nothing ∙ ap idle_stage phase

-- ---- behind the memory

-- the lane owes, and then its face is
pub after_owing : {E : Type 0} (change : WholeFace E → WholeFace E) (book mid later : Book E) (l m n : ℕ) → Owes book mid l m n → ChangesFace change mid later l → ChangesFace change book later l
after_owing change book mid later l m n owes behind = record {
  asks = λ base. record {
    others = λ k ne. (behind.asks base).others k ne ∙ owes.faces base k;
    face = (behind.asks base).face ∙ ap change (owes.faces base l);
  };
  many = behind.many ∙ owes.goes.lanes.count;
  touched = behind.touched ∙ owes.touched;
}

-- the history has more places
pub after_places : {E : Type 0} (change : WholeFace E → WholeFace E) (book stocked later : Book E) (l : ℕ) → HasMorePlaces book stocked → ChangesFace change stocked later l → ChangesFace change book later l
after_places change book stocked later l places behind = record {
  asks = λ base. record {
    others = λ k ne. (behind.asks base).others k ne ∙ ap (λ (b : Book _). faces_of base b k) places.is;
    face = (behind.asks base).face ∙ ap (λ (b : Book _). change (faces_of base b l)) places.is;
  };
  many = behind.many ∙ ap (λ (b : Book _). length b.lanes.items) places.is;
  touched = behind.touched ∙ ap (λ (b : Book _). b.touched) places.is;
}

pub same_places : {E : Type 0} (book stocked : Book E) (l : ℕ) → HasMorePlaces book stocked → ChangesFace (λ face. face) book stocked l
same_places book stocked l places = record {
  asks = λ base. record { others = λ k ne. ap (λ (b : Book _). faces_of base b k) places.is; face = ap (λ (b : Book _). faces_of base b l) places.is };
  many = ap (λ (b : Book _). length b.lanes.items) places.is;
  touched = ap (λ (b : Book _). b.touched) places.is;
}

pub commit_changes : {E : Type 0} (layout : Layout) (deed : E) (book later : Book E) (l : ℕ) → IsCommitAsked layout deed book later l → ChangesFace (asked (Call.Commit deed)) book later l
commit_changes layout deed book later l it = after_places (asked (Call.Commit deed)) book it.stocked later l it.places record {
  asks = it.ask;
  many = ap (λ (b : Book _). length b.lanes.items) it.is
      ∙ length-set it.stocked.lanes.items l (committing l deed (writes_of_entry layout (lane_at it.stocked l)) (lane_at it.stocked l));
  touched = ap (λ (b : Book _). b.touched) it.is;
}

-- ---- phases

-- one lane is another
pub phased_to : {E : Type 0} (book later : Book E) (l : ℕ) (lane : Lane E) → GoesTo book later l lane → (IsPhased (lane_at book l) → IsPhased lane) → ArePhased book → ArePhased later
phased_to book later l lane goes step phased k = ⊎_elim (λ same. here same.1) (λ ne. there ne.1) (eqb_tells k l)
  where
    here : k ≡ l → IsPhased (lane_at later k)
    here same = subst (λ n. IsPhased (lane_at later n)) (sym same) (subst IsPhased (sym goes.lanes.here) (step (phased l)))

    there : k ≢ l → IsPhased (lane_at later k)
    there ne = subst IsPhased (sym (goes.lanes.others k ne)) (phased k)

pub phased_places : {E : Type 0} (book stocked : Book E) → HasMorePlaces book stocked → ArePhased book → ArePhased stocked
phased_places book stocked places phased k = subst IsPhased (sym (ap (λ (b : Book _). lane_at b k) places.is)) (phased k)

pub phased_roomier : {E : Type 0} (lane later : Lane E) → IsRoomier lane later → IsPhased lane → IsPhased later
phased_roomier lane later more was = record {
  calling = λ some. ap (λ (x : Lane _). x.phase) more.is ∙ was.calling (λ e. some (ap (λ (x : Lane _). x.doing) more.is ∙ e));
  joined = ap (λ (x : Lane _). x.entered) more.is ∙ was.joined ∙ sym (ap (λ (x : Lane _). is_commit x.doing && clears_in (stage_of x)) more.is);
  undone = λ on off. ap (λ (x : Lane _). x.stored) more.is ∙
      was.undone (sym (ap (λ (x : Lane _). clears_in (stage_of x)) more.is) ∙ on) (sym (ap (λ (x : Lane _). is_commit x.doing) more.is) ∙ off);
}

-- no entry has joined before
unjoined : {E : Type 0} (lane : Lane E) → lane.doing ≡ Doing.Nothing → IsPhased lane → lane.entered ≡ false
unjoined lane nothing was = was.joined ∙ ap (λ d. is_commit d && clears_in (stage_of lane)) nothing

pub phased_aborting : {E : Type 0} (lane later : Lane E) → lane.doing ≡ Doing.Nothing → IsAskedOf lane Call.Abort Doing.Abort [] [] 0 later → IsPhased lane → IsPhased later
phased_aborting lane later nothing it was = record {
  calling = λ some. ap (λ (x : Lane _). x.phase) it.asks.is;
  joined = ap (λ (x : Lane _). x.entered) it.asks.is ∙ unjoined lane nothing was ∙ sym (ap (λ (x : Lane _). is_commit x.doing && clears_in (stage_of later)) it.asks.is);
  undone = λ on off. (let wrong : true ≡ false = sym on ∙ ap (λ (x : Lane _). clears_in (stage_of x)) it.asks.is ∙ begins_clear lane.has_records Doing.Abort in absurd (cc));
}

-- a commit doesn't close yet
not_clearing : (recorded : Bool) → clears_in (if recorded then Securing else Leaving) ≡ false
not_clearing true = refl
not_clearing false = refl

pub phased_committing : {E : Type 0} (l : ℕ) (deed : E) (writes : List _) (lane : Lane E) → lane.doing ≡ Doing.Nothing → IsPhased lane → IsPhased (committing l deed writes lane)
phased_committing l deed writes lane nothing was = record { calling = λ some. refl; joined = unjoined lane nothing was ∙ sym (not_clearing lane.has_records); undone = λ on off. (let wrong : true ≡ false = off in absurd (cc)) }

-- ---- what is reserved

-- a call that appends no record of its own reserves nothing more
pub none_reserved : {E : Type 0} (k : ℕ) (call : Call E) (book later : Book E) (l partitions kept p : ℕ) → is_logged call ≡ false → ReservesNeed k call book later l →
    reserved_in later partitions kept p ≤ reserved_in book partitions kept p
none_reserved k call book later l partitions kept p free reserves = ⊎_elim here there (eqb_tells (l % partitions) p)
  where
    before : ℕ
    before = reserved_in book partitions kept p

    needed : ℕ
    needed = needed_by k book partitions kept l call

    by : (t : Bool) → ((l % partitions) == p) ≡ t → reserved_in later partitions kept p ≡ (if t then needed_by k book partitions kept l call else reserved_in book partitions kept p)
    by t e = reserves partitions kept p ∙ ap (λ (b : Bool). if b then needed_by k book partitions kept l call else reserved_in book partitions kept p) e

    nothing_added : added_by k (lane_at book l) call ≡ 0
    nothing_added = ap (λ (b : Bool). if b then promised_by k call + (if is_bound (lane_at book l) then 0 else 2) else 0) free

    here : (((l % partitions) == p) ≡ true) × (l % partitions ≡ p) → reserved_in later partitions kept p ≤ reserved_in book partitions kept p
    here same = let e = by true same.0 in let none = nothing_added in let at_p = ap (λ q. reserved_in book partitions kept q) same.1 in omega (arith, e, none, at_p)

    there : (((l % partitions) == p) ≡ false) × (l % partitions ≢ p) → reserved_in later partitions kept p ≤ reserved_in book partitions kept p
    there other = let e = by false other.0 in omega (arith, e)

-- ---- what is owed

-- a transaction with this number and so many updates owes enough for its end
abbrev pub OwesBy : Layout → LogKeeper → ℕ → Bool → ℕ → ℕ → ℕ → ℕ → Type 0
OwesBy layout keeper l commits transaction updates events records =
    (let wants = ending_needs (layout_shape layout) (length (gates_in transaction false (keeping_of keeper).ledger)) updates commits in
    (wants.events ≤ events) × (wants.records ≤ records) × HasRoomIn keeper.slots.items (l % layout.partitions) wants.gates)

pub record OwesEnd {E : Type 0} (layout : Layout) (keeper : LogKeeper) (l : ℕ) (commits : Bool) (lane : Lane E) : Type 0 where
  pub owes : OwesBy layout keeper l commits lane.transaction (length lane.updates.items) lane.owed_events lane.owed_records

pub owes_same : {E : Type 0} (layout : Layout) (keeper : LogKeeper) (l : ℕ) (commits : Bool) (lane later : Lane E) → HasSameRecords lane later → OwesEnd layout keeper l commits lane →
    OwesEnd layout keeper l commits later
owes_same layout keeper l commits lane later same enough = record {
  owes = subst (λ t. OwesBy layout keeper l commits t (length later.updates.items) later.owed_events later.owed_records) (sym same.transaction)
      (subst (λ (us : List _). OwesBy layout keeper l commits lane.transaction (length us) later.owed_events later.owed_records) (sym same.updates)
      (subst (λ n. OwesBy layout keeper l commits lane.transaction (length lane.updates.items) n later.owed_records) (sym same.owed_events)
      (subst (λ n. OwesBy layout keeper l commits lane.transaction (length lane.updates.items) lane.owed_events n) (sym same.owed_records) enough.owes)));
}

-- the keeper as it was before it took memory, and numbers that aren't the greatest
pub owes_abort : {E : Type 0} (layout : Layout) (keeper kept : LogKeeper) (l n updates events records gates : ℕ) (lane : Lane E) → keeping_of kept ≡ keeping_of keeper →
    n ≡ length (gates_in lane.transaction false (keeping_of keeper).ledger) → updates ≡ length lane.updates.items →
    events ≡ min (ending_needs (layout_shape layout) n updates false).events (2 ^ 64 - 1) → events < 2 ^ 64 - 1 →
    records ≡ min (updates + 2) (2 ^ 64 - 1) → records < 2 ^ 64 - 1 → gates ≡ min (n + updates + 2) (2 ^ 64 - 1) → gates < 2 ^ 64 - 1 →
    HasRoomIn kept.slots.items (l % layout.partitions) gates → OwesEnd layout kept l false (owing events records lane)
owes_abort layout keeper kept l n updates events records gates lane same n_is updates_are events_are few_events records_are few_records gates_are few_gates room = record {
  owes = subst (λ (k : ℕ). OwesAll k (length lane.updates.items)) (n_is ∙ ap (λ (k : Keeping). length (gates_in lane.transaction false k.ledger)) (sym same))
      (subst (λ (u : ℕ). OwesAll n u) updates_are (
        (let e = exact (ending_needs (layout_shape layout) n updates false).events events (2 ^ 64 - 1) events_are few_events in omega (arith, e)),
        (let e = exact (updates + 2) records (2 ^ 64 - 1) records_are few_records in omega (arith, e)),
        subst (HasRoomIn kept.slots.items (l % layout.partitions)) (let e = exact (n + updates + 2) gates (2 ^ 64 - 1) gates_are few_gates in omega (arith, e)) room,
      ));
}
  where
    OwesAll : ℕ → ℕ → Type 0
    OwesAll k u = (let wants = ending_needs (layout_shape layout) k u false in
        (wants.events ≤ events) × (wants.records ≤ records) × HasRoomIn kept.slots.items (l % layout.partitions) wants.gates)

pub owes_commit : {E : Type 0} (layout : Layout) (keeper kept : LogKeeper) (l n events records gates : ℕ) (lane : Lane E) → keeping_of kept ≡ keeping_of keeper →
    n ≡ length (gates_in lane.transaction false (keeping_of keeper).ledger) →
    events ≡ min (ending_needs (layout_shape layout) n 0 true).events (2 ^ 64 - 1) → events < 2 ^ 64 - 1 →
    records ≡ 1 → gates ≡ min (n + 1) (2 ^ 64 - 1) → gates < 2 ^ 64 - 1 →
    HasRoomIn kept.slots.items (l % layout.partitions) gates → OwesEnd layout kept l true (owing events records lane)
owes_commit layout keeper kept l n events records gates lane same n_is events_are few_events records_are gates_are few_gates room = record {
  owes = subst (λ (k : ℕ). OwesAll k) (n_is ∙ ap (λ (k : Keeping). length (gates_in lane.transaction false k.ledger)) (sym same)) (
    (let e = exact (ending_needs (layout_shape layout) n 0 true).events events (2 ^ 64 - 1) events_are few_events in omega (arith, e)),
    omega (arith, records_are),
    subst (HasRoomIn kept.slots.items (l % layout.partitions)) (exact (n + 1) gates (2 ^ 64 - 1) gates_are few_gates) room,
  );
}
  where
    OwesAll : ℕ → Type 0
    OwesAll k = (let wants = ending_needs (layout_shape layout) k (length lane.updates.items) true in
        (wants.events ≤ events) × (wants.records ≤ records) × HasRoomIn kept.slots.items (l % layout.partitions) wants.gates)

-- ---- an abort

same_aborting : {E : Type 0} (lane later : Lane E) → IsAskedOf lane Call.Abort Doing.Abort [] [] 0 later → HasSameRecords lane later
same_aborting lane later it = record {
  transaction = ap (λ (x : Lane _). x.transaction) it.asks.is;
  held = ap (λ (x : Lane _). x.held) it.asks.is;
  begun = ap (λ (x : Lane _). x.begun) it.asks.is;
  commits = ap (λ (x : Lane _). x.commits) it.asks.is;
  updates = it.asks.updates_stay;
  stored = ap (λ (x : Lane _). x.stored) it.asks.is;
  gives = it.asks.gives_more ∙ append-nil lane.gives.items;
  gates = it.gates_stay;
  has_records = ap (λ (x : Lane _). x.has_records) it.asks.is;
  rolled = ap (λ (x : Lane _). x.rolled) it.asks.is;
  ended = ap (λ (x : Lane _). x.ended) it.asks.is;
  entered = ap (λ (x : Lane _). x.entered) it.asks.is;
  owed_events = ap (λ (x : Lane _). x.owed_events) it.asks.is;
  owed_records = ap (λ (x : Lane _). x.owed_records) it.asks.is;
}

none_there : {E : Type 0} (e : Entry E) → Some e ≡ None → ⊥
none_there e is = cc

pub asks_abort : {E : Type 0} (layout : Layout) (book : Book E) (keeper : LogKeeper) (l : ℕ) (lane : Lane E) → (lane_at book l).doing ≡ Doing.Nothing → (lane_at book l).phase ≡ Phase.In →
    (lane_at book l).entry ≡ None → IsAskedOf (lane_at book l) Call.Abort Doing.Abort [] [] 0 lane → (lane_at book l).gives.items ≡ [] → OwesEnd layout keeper l false (lane_at book l) → AsksEnd layout book keeper l false lane
asks_abort layout book keeper l lane nothing phase none it gives enough = record {
  between = is_between (lane_at book l) nothing phase;
  ends = ap (λ (x : Lane _). stage_of x) it.asks.is ∙ sym (ap (λ (x : Lane _). if x.has_records then Opening else Leaving) it.asks.is);
  commits_is = ap (λ (x : Lane _). is_commit x.doing) it.asks.is;
  no_gives = it.asks.gives_more ∙ (append-nil (lane_at book l).gives.items ∙ gives);
  same = same_aborting (lane_at book l) lane it;
  writes = it.asks.writes_more ∙ append-nil (lane_at book l).writes.items;
  entry_is = λ on. absurd (cc);
  no_entry = λ off. it.entry_stays ∙ none;
  place = λ on. absurd (cc);
  entry = λ e some. absurd (none_there e (sym some ∙ it.entry_stays ∙ none));
  owes = (owes_same layout keeper l false (lane_at book l) lane (same_aborting (lane_at book l) lane it) enough).owes;
}

pub stays_aborting : {E : Type 0} (deeds : Deeds E) (layout : Layout) (base : Base) (book later : Book E) (keeper : LogKeeper) (region : Region) (spare : ℕ) (counts : Counts) (l : ℕ) →
    l < length book.lanes.items → (lane_at book l).doing ≡ Doing.Nothing → (lane_at book l).phase ≡ Phase.In → IsBook later → OwesEnd layout keeper l false (lane_at book l) →
    IsAskedIn Call.Abort Doing.Abort [] [] 0 book later l → ((k : ℕ) → ReservesNeed k Call.Abort book later l) → Fits (faces_of base book l) Call.Abort →
    May deeds (faces_of base book l) Call.Abort → IsKept deeds layout base book keeper region spare counts → IsKept deeds layout base later keeper region spare counts
stays_aborting deeds layout base book later keeper region spare counts l lt nothing phase good enough asked reserved fits may world = ∥∥₁_map world (λ w. record {
  state = ends_are_asked layout _ book later keeper region spare counts.events l false (lane_at later l)
      (asks_abort layout book keeper l (lane_at later l) nothing phase (w.state.is_book.entries.others l (ap is_commit nothing)).none asked.lane (w.lawful.no_gives l) enough)
      (λ q. none_reserved 0 Call.Abort book later l layout.partitions 0 q refl (reserved 0)) (goes_lane book later l (lane_at later l) book.touched lt asked.is) good w.state;
  lawful = asks_keep deeds layout base book later l 0 Call.Abort Doing.Abort [] w.lawful lt nothing (laws.plain steps.abort) fits may asked;
})

-- behind the memory that was taken for it
pub stays_abort : {E : Type 0} (deeds : Deeds E) (layout : Layout) (book mid later : Book E) (keeper kept : LogKeeper) (region : Region) (spare left : ℕ) (counts : Counts) (l m n : ℕ) →
    l < length book.lanes.items → (lane_at book l).doing ≡ Doing.Nothing → (lane_at book l).phase ≡ Phase.In → Owes book mid l m n →
    OwesEnd layout kept l false (owing m n (lane_at book l)) → StaysBetween deeds book mid keeper kept region spare left counts l → IsBook later →
    IsAskedIn Call.Abort Doing.Abort [] [] 0 mid later l → ((k : ℕ) → ReservesNeed k Call.Abort mid later l) →
    StaysTaken deeds layout Call.Abort book later keeper kept region spare left counts l
stays_abort deeds layout book mid later keeper kept region spare left counts l m n lt nothing phase owes enough stays good asked reserved base fits may world =
    stays_aborting deeds layout base mid later kept region left counts l (subst (λ k. l < k) (sym owes.goes.lanes.count) lt)
    (ap (λ (x : Lane _). x.doing) owes.goes.lanes.here ∙ nothing) (ap (λ (x : Lane _). x.phase) owes.goes.lanes.here ∙ phase) good
    (subst (λ (x : Lane _). OwesEnd layout kept l false x) (sym owes.goes.lanes.here) enough) asked reserved
    (subst (λ (f : WholeFace _). Fits f Call.Abort) (sym (owes.faces base l)) fits) (subst (λ (f : WholeFace _). May deeds f Call.Abort) (sym (owes.faces base l)) may)
    (stays layout base (is_between (lane_at book l) nothing phase) world)

-- ---- a commit

pub asks_commit : {E : Type 0} (layout : Layout) (book : Book E) (keeper : LogKeeper) (l : ℕ) (deed : E) → (lane_at book l).doing ≡ Doing.Nothing → (lane_at book l).phase ≡ Phase.In →
    HasNoEntry (lane_at book l) → 1 ≤ (lane_at book l).begun → (lane_at book l).gives.items ≡ [] → length book.history.items + 16 ≤ book.history.capacity →
    OwesEnd layout keeper l true (lane_at book l) → AsksEnd layout book keeper l true (committing l deed (writes_of_entry layout (lane_at book l)) (lane_at book l))
asks_commit layout book keeper l deed nothing phase none begun gives room enough = record {
  between = is_between (lane_at book l) nothing phase;
  ends = refl;
  commits_is = refl;
  no_gives = gives;
  same = record {
    transaction = refl;
    held = refl;
    begun = refl;
    commits = refl;
    updates = refl;
    stored = refl;
    gives = refl;
    gates = refl;
    has_records = refl;
    rolled = refl;
    ended = refl;
    entered = refl;
    owed_events = refl;
    owed_records = refl;
  };
  writes = refl;
  entry_is = λ on. record { next = (refl, omega (arith, begun)); new = none.unentered };
  no_entry = λ off. absurd (cc);
  place = λ on. room;
  entry = λ e some. by_entry e some;
  owes = enough.owes;
}
  where
    by_entry : (e : Entry _) → Some (entry_of l deed (writes_of_entry layout (lane_at book l)) (lane_at book l)) ≡ Some e →
        plain_entry e ≡ record { transaction = (lane_at book l).transaction; writes = map plain_write (lane_at book l).writes.items }
    by_entry e some = ap plain_entry (let same : e ≡ entry_of l deed (writes_of_entry layout (lane_at book l)) (lane_at book l) = cc in same)
        ∙ (λ i. record { transaction = (lane_at book l).transaction; writes = map plain_write (writes_whole i) })
      where
        writes_whole : writes_of_entry layout (lane_at book l) ≡ (lane_at book l).writes.items
        writes_whole = ap (λ (gs : List ℕ). (lane_at book l).writes.items ++ map (disowned layout) gs) gives ∙ append-nil (lane_at book l).writes.items

pub stays_committing : {E : Type 0} (deeds : Deeds E) → Depends deeds → (layout : Layout) (base : Base) (book later : Book E) (keeper : LogKeeper) (region : Region) (spare : ℕ) (counts : Counts) (l : ℕ) (deed : E) →
    l < length book.lanes.items → (lane_at book l).doing ≡ Doing.Nothing → (lane_at book l).phase ≡ Phase.In → 1 ≤ (lane_at book l).begun → IsBook later →
    OwesEnd layout keeper l true (lane_at book l) → length book.history.items + 16 ≤ book.history.capacity →
    later ≡ with_lane book l (committing l deed (writes_of_entry layout (lane_at book l)) (lane_at book l)) book.touched → ((k : ℕ) → ReservesNeed k (Call.Commit deed) book later l) →
    Fits (faces_of base book l) (Call.Commit deed) → May deeds (faces_of base book l) (Call.Commit deed) →
    IsKept deeds layout base book keeper region spare counts → IsKept deeds layout base later keeper region spare counts
stays_committing deeds depends layout base book later keeper region spare counts l deed lt nothing phase begun good enough room is reserved fits may world = ∥∥₁_map world (λ w. record {
  state = ends_are_asked layout _ book later keeper region spare counts.events l true (committing l deed (writes_of_entry layout (lane_at book l)) (lane_at book l))
      (asks_commit layout book keeper l deed nothing phase (w.state.is_book.entries.others l (ap is_commit nothing)) begun (w.lawful.no_gives l) room enough)
      (λ q. none_reserved 0 (Call.Commit deed) book later l layout.partitions 0 q refl (reserved 0))
      (goes_lane book later l (committing l deed (writes_of_entry layout (lane_at book l)) (lane_at book l)) book.touched lt is) good w.state;
  lawful = commit_asks_keep deeds depends layout base book later l deed (writes_of_entry layout (lane_at book l)) book.touched w.lawful w.state.is_book.kept lt nothing fits may refl is;
})

-- the history has more places
pub stays_stocked : {E : Type 0} (deeds : Deeds E) (book stocked : Book E) → HasMorePlaces book stocked → StaysAlways deeds book stocked
stays_stocked deeds book stocked places layout base keeper region spare counts world = ∥∥₁_map world (λ w. record {
  state = places_are_taken layout _ book stocked keeper region spare counts.events places w.state;
  lawful = same_books_keep deeds layout base book stocked w.lawful record {
    lanes = ap (λ (b : Book _). b.lanes) places.is;
    history = ap (λ (b : Book _). b.history.items) places.is;
    blocks = ap (λ (b : Book _). b.blocks) places.is;
    next = ap (λ (b : Book _). b.next_transaction) places.is;
  };
})

-- a lane of it is as before
stocked_lane : {E : Type 0} (book mid stocked : Book E) (l m n : ℕ) → Owes book mid l m n → HasMorePlaces mid stocked → lane_at stocked l ≡ owing m n (lane_at book l)
stocked_lane book mid stocked l m n owes places = ap (λ (b : Book _). lane_at b l) places.is ∙ owes.goes.lanes.here

pub stays_commit : {E : Type 0} (deeds : Deeds E) → Depends deeds → (layout : Layout) (book mid later : Book E) (keeper kept : LogKeeper) (region : Region) (spare left : ℕ) (counts : Counts) (l m n : ℕ) (deed : E) →
    l < length book.lanes.items → (lane_at book l).doing ≡ Doing.Nothing → (lane_at book l).phase ≡ Phase.In → 1 ≤ (lane_at book l).begun → Owes book mid l m n →
    OwesEnd layout kept l true (owing m n (lane_at book l)) → StaysBetween deeds book mid keeper kept region spare left counts l → IsBook later →
    IsCommitAsked layout deed mid later l → StaysTaken deeds layout (Call.Commit deed) book later keeper kept region spare left counts l
stays_commit deeds depends layout book mid later keeper kept region spare left counts l m n deed lt nothing phase begun owes enough stays good it base fits may world =
    stays_committing deeds depends layout base it.stocked later kept region left counts l deed
    (subst (λ k. l < k) (sym (ap (λ (b : Book _). length b.lanes.items) it.places.is ∙ owes.goes.lanes.count)) lt)
    (ap (λ (x : Lane _). x.doing) here ∙ nothing) (ap (λ (x : Lane _). x.phase) here ∙ phase) (subst (λ k. 1 ≤ k) (sym (ap (λ (x : Lane _). x.begun) here)) begun) good
    (subst (λ (x : Lane _). OwesEnd layout kept l true x) (sym here) enough) it.room it.is it.reserved
    (subst (λ (f : WholeFace _). Fits f (Call.Commit deed)) (sym face_is) fits) (subst (λ (f : WholeFace _). May deeds f (Call.Commit deed)) (sym face_is) may)
    (stays_stocked deeds mid it.stocked it.places layout base kept region left counts (stays layout base (is_between (lane_at book l) nothing phase) world))
  where
    here : lane_at it.stocked l ≡ owing m n (lane_at book l)
    here = stocked_lane book mid it.stocked l m n owes it.places

    face_is : faces_of base it.stocked l ≡ faces_of base book l
    face_is = ap (λ (b : Book _). faces_of base b l) it.places.is ∙ owes.faces base l

-- its phase, and that of all others
pub phased_commit : {E : Type 0} (layout : Layout) (deed : E) (book mid later : Book E) (l m n : ℕ) → l < length book.lanes.items → (lane_at book l).doing ≡ Doing.Nothing → Owes book mid l m n →
    IsCommitAsked layout deed mid later l → ArePhased book → ArePhased later
phased_commit layout deed book mid later l m n lt nothing owes it phased =
    let lane = committing l deed (writes_of_entry layout (lane_at it.stocked l)) (lane_at it.stocked l) in
    phased_to it.stocked later l lane
    (goes_lane it.stocked later l lane it.stocked.touched (subst (λ k. l < k) (sym (ap (λ (b : Book _). length b.lanes.items) it.places.is ∙ owes.goes.lanes.count)) lt) it.is)
    (phased_committing l deed (writes_of_entry layout (lane_at it.stocked l)) (lane_at it.stocked l)
    (ap (λ (x : Lane _). x.doing) (stocked_lane book mid it.stocked l m n owes it.places) ∙ nothing))
    (phased_places mid it.stocked it.places (owed_phases book mid l m n owes phased))

-- ---- behind the memory, as an abort

pub on_both : {A B : Type 0} {P Q S : Type 0} (r : Result A B) → (P → Q → S) → OnOk r P → OnOk r Q → OnOk r S
on_both (Ok x) f h k = f h k
on_both (Err e) f h k = h

pub on_both_err : {A B : Type 0} {P Q S : Type 0} (r : Result A B) → (P → Q → S) → OnErr r P → OnErr r Q → OnErr r S
on_both_err (Ok x) f h k = h
on_both_err (Err e) f h k = f h k

module _ {E : Type 0} (book mid later : Book E) (l m n : ℕ) (lt : l < length book.lanes.items) (nothing : (lane_at book l).doing ≡ Doing.Nothing) (owes : Owes book mid l m n) where
  inside : l < length mid.lanes.items
  inside = subst (λ k. l < k) (sym owes.goes.lanes.count) lt

  idle : (lane_at mid l).doing ≡ Doing.Nothing
  idle = ap (λ (x : Lane E). x.doing) owes.goes.lanes.here ∙ nothing

  pub phased_abort : IsAskedIn Call.Abort Doing.Abort [] [] 0 mid later l → ArePhased book → ArePhased later
  phased_abort asked phased = phased_to mid later l (lane_at later l) (goes_lane mid later l (lane_at later l) mid.touched inside asked.is)
      (phased_aborting (lane_at mid l) (lane_at later l) idle asked.lane) (owed_phases book mid l m n owes phased)

  pub phased_refused : IsRoomierIn mid later l → ArePhased book → ArePhased later
  phased_refused roomier phased = phased_to mid later l (lane_at later l) (goes_lane mid later l (lane_at later l) mid.touched inside roomier.is)
      (phased_roomier (lane_at mid l) (lane_at later l) roomier.lane) (owed_phases book mid l m n owes phased)

  pub changes_abort : Asks (asked Call.Abort) mid later l → IsAskedIn Call.Abort Doing.Abort [] [] 0 mid later l → ChangesFace (asked Call.Abort) book later l
  changes_abort asks it = after_owing (asked Call.Abort) book mid later l m n owes (changes_face (asked Call.Abort) mid later l it.is asks)

  pub same_refused : Asks (λ face. face) mid later l → IsRoomierIn mid later l → ChangesFace (λ face. face) book later l
  same_refused asks roomier = after_owing (λ face. face) book mid later l m n owes (changes_face (λ face. face) mid later l roomier.is asks)

  pub always_refused : (deeds : Deeds E) → IsRoomierIn mid later l → IsBook later → StaysAlways deeds mid later
  always_refused deeds roomier good = stays_roomier deeds mid later l inside idle roomier good

-- the memory stays taken
pub stays_behind : {E : Type 0} (deeds : Deeds E) (layout : Layout) (book mid later : Book E) (keeper kept : LogKeeper) (region : Region) (spare left : ℕ) (counts : Counts) (l : ℕ) →
    stage_of (lane_at book l) ≡ Between → StaysBetween deeds book mid keeper kept region spare left counts l → StaysAlways deeds mid later →
    StaysRefused deeds layout book later keeper kept region spare left counts
stays_behind deeds layout book mid later keeper kept region spare left counts l between stays always base world = always layout base kept region left counts (stays layout base between world)
