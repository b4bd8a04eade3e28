-- What the step that takes a word back asks, and leaves.
use Rattle.std.proofs.Common.{◌≡◌, ℕ, ◌-◌, ◌*◌, ◌==◌, ◌&&◌, ◌<◌, ◌≤◌, true, List, length, get_or, Option, Some, None, Fits, w64, refl, sym, ap, ◌∙◌, subst, arith}
use Rattle.std.specs.Prelude.{slice_get}
use Rattle.std.proofs.Math.Logic.{∥∥₁_elim}
use Rattle.std.proofs.Math.Bridge.{le_prop}
use Rattle.std.proofs.lemmas.Option.{slice_get_within, slice_get-get_or, get_or_from_slice_get}
use Rattle.persist_model.specs.declared.event.Event.TheVariants.{PStore}
use Rattle.persist_model.specs.Region.{Words, Region, newest}
use Rattle.lane_traits.specs.declared.draft.WordWrite.{WordWrite}
use Rattle.lane_traits.specs.Device.{Counts}
use Rattle.lane_traits.specs.declared.device.Done.TheVariants as Done
use Rattle.region_layout.specs.declared.layout.Layout.{Layout}
use Rattle.persist_model.specs.Shape.{IsHeapWord}
use Rattle.region_layout.specs.Layout.{layout_shape, IsDataWord}
use Rattle.lane_types.specs.declared.call.Stepped.{Stepped}
use Rattle.lane_types.specs.Deeds.{Deeds}
use Rattle.lane_types.specs.Faces.{Base}
use Rattle.lane_book.specs.declared.book.Book.{Book}
use Rattle.lane_book.specs.declared.lane.Lane.{Lane}
use Rattle.lane_book.specs.declared.lane.Doing.{Doing}
use Rattle.lane_book.specs.FacesOf.{lane_at}
use Rattle.lane_book.specs.Appends.{undoes}
use Rattle.lane_book.specs.Lanes.{with_lane, moved, paid_event}
use Rattle.lane_book.specs.Stores.{no_write, unstored_one}
use Rattle.lane_book.specs.Calls.{Moves}
use Rattle.lawful_book.proofs.GoingOn.{taken_back_on}
use Rattle.log_keeper.specs.declared.keeper.LogKeeper.{LogKeeper}
use Rattle.log_keeper.specs.Keeper.{keeping_of}
use Rattle.log_keeper.specs.Ledger.{AreNewestFirst}
use Rattle.log_keeper.specs.Changes.{all_records, IsLastChange}
use Rattle.txn_state.proofs.HeapSteps.{written_heap}
use Rattle.txn_state.specs.Stages.{TakingBack, stage_of, is_commit}
use Rattle.txn_state.specs.AppendLaws.{undo_part}
use Rattle.txn_state.specs.Changes.{GoesTo}
use Rattle.txn_state.specs.Ties.{IsWrittenWord}
use Rattle.txn_state.specs.HeapLaws.{IsEvent}
use Rattle.txn_state.specs.ReadLaws.{clears_in}
use Rattle.txn_state.specs.States.{IsStateOf}
use Rattle.txn_state.proofs.Ready.{lanes_are_ready}
use Rattle.txn_state.proofs.HeapSteps.{words_are_taken_back}
use Rattle.txn_core.specs.Making.{Makes, made, changed_word}
use Rattle.txn_core.specs.States.{IsWorld, HasWorld, start_of}
use Rattle.txn_core.specs.Latched.{is_latched, none_held}
use Rattle.txn_core.specs.Phases.{IsPhased, ArePhased}
use Rattle.txn_core.specs.Stepping.{StepsWorld, HasMade, IsCause}
use Rattle.txn_core.proofs.Facts.{IsRead, has_logs}
use Rattle.txn_core.proofs.OpenParts.{IsOpenPart, part_open, undoes_open}
use Rattle.txn_core.proofs.Phasing.{phased_with}
use Rattle.txn_core.proofs.PhasedSteps.{paid_phased}
use Rattle.txn_core.proofs.Paid.{paid_goes, paid_step, lawful_with, lawful_paid, lanes_paid, count_paid, steps_world}
use Rattle.txn_core.proofs.Touching.{written_touches}
use Rattle.txn_core.proofs.Aborting.{aborts_at}
use Rattle.txn_core.proofs.AbortingLedgers.{change_is}
use Rattle.txn_core.proofs.Paying.{goes_lane}

-- ---- the write

-- the last write that is stored
abbrev pub last_stored : {E : Type 0} → Lane E → WordWrite
last_stored lane = get_or lane.writes.items (lane.stored - 1) no_write

-- as the code reads it
pub last_read : {E : Type 0} (lane read : Lane E) (writes : List WordWrite) → read ≡ lane → writes ≡ read.writes.items →
    get_or writes (read.stored - 1) no_write ≡ last_stored lane
last_read lane read writes is same = ap (λ (ws : List WordWrite). get_or ws (read.stored - 1) no_write) same ∙ ap (λ (x : Lane _). last_stored x) is

-- there is one, and its word is one of so many
record IsLastStored {E : Type 0} (layout : Layout) (lane : Lane E) (size : ℕ) : Type 0 where
  some : 1 ≤ lane.stored
  below : lane.stored - 1 < length lane.writes.items
  got : slice_get lane.writes.items (lane.stored - 1) ≡ Some (last_stored lane)
  inside : (last_stored lane).address < size
  written : IsWrittenWord (layout_shape layout) (last_stored lane).address

is_last_stored : {E : Type 0} (layout : Layout) (start : Words) (book : Book E) (keeper : LogKeeper) (region : Region) (spare events l : ℕ) → l < length book.lanes.items →
    stage_of (lane_at book l) ≡ TakingBack → IsStateOf layout start book keeper region spare events → IsLastStored layout (lane_at book l) region.size
is_last_stored layout start book keeper region spare events l lt at st =
    let lane = lane_at book l in
    let ready = lanes_are_ready.to_take_back layout start book keeper region spare events l lt at st in
    let w = ready.0 in
    let within = slice_get_within lane.writes.items (lane.stored - 1) w ready.1.write in
    let same : last_stored lane ≡ w = get_or_from_slice_get lane.writes.items (lane.stored - 1) w no_write ready.1.write in
    let in_heap : IsHeapWord (layout_shape layout) w.address = written_heap (layout_shape layout) w.address ready.1.written_word in
    record {
      some = ready.2;
      below = within;
      got = slice_get-get_or lane.writes.items (lane.stored - 1) no_write within;
      inside = subst (λ (x : WordWrite). x.address < region.size) (sym same) (subst (λ n. w.address < n) (sym st.world.log.logged.size) in_heap.1);
      written = subst (λ (x : WordWrite). IsWrittenWord (layout_shape layout) x.address) (sym same) ready.1.written_word;
    }

-- ---- its newest change

-- what the keeper finds of the lane's transaction
abbrev pub FindsChange : {E : Type 0} → LogKeeper → Lane E → ℕ → Option ℕ → Type 0
FindsChange keeper lane a v = AreNewestFirst (keeping_of keeper).ledger → IsLastChange lane.transaction a (all_records (keeping_of keeper).ledger) v

pub finds_same : {E : Type 0} (keeper : LogKeeper) (lane read : Lane E) (a b : ℕ) (v : Option ℕ) → read ≡ lane → a ≡ b → FindsChange keeper read a v → FindsChange keeper lane b v
finds_same keeper lane read a b v is same found first =
    subst (λ (x : Lane _). IsLastChange x.transaction b (all_records (keeping_of keeper).ledger) v) is
    (subst (λ n. IsLastChange read.transaction n (all_records (keeping_of keeper).ledger) v) same (found first))

-- ---- what the code asks

fits_offset : (n k : ℕ) → n < k → k * 16 < 9223372036854775808 → Fits w64 (n * 16)
fits_offset n k lt few = record { fits = omega (arith, lt, few) }

module _ {E : Type 0} (deeds : Deeds E) (layout : Layout) (book : Book E) (keeper : LogKeeper) (region : Region) (spare : ℕ) (counts : Counts) (l : ℕ)
    (lt : l < length book.lanes.items) (at : stage_of (lane_at book l) ≡ TakingBack) where
  last_of : (world : (base : Base) × IsWorld deeds layout base book keeper region spare counts.events) → IsLastStored layout (lane_at book l) region.size
  last_of world = is_last_stored layout (start_of layout world.0) book keeper region spare counts.events l lt at world.1.state

  module _ (world : HasWorld deeds layout book keeper region spare counts) where
    -- a write is stored
    pub some_stored : 1 ≤ (lane_at book l).stored
    some_stored = ∥∥₁_elim world le_prop (λ w. (last_of w).some)

    stored_below : (lane_at book l).stored - 1 < length (lane_at book l).writes.items
    stored_below = ∥∥₁_elim world le_prop (λ w. (last_of w).below)

    -- and the code finds it
    pub read_below : (read : Lane E) (writes : List WordWrite) → read ≡ lane_at book l → writes ≡ read.writes.items → read.stored - 1 < length writes
    read_below read writes is same = subst (λ (ws : List WordWrite). read.stored - 1 < length ws) (sym same)
        (subst (λ (x : Lane E). x.stored - 1 < length x.writes.items) (sym is) stored_below)

    pub read_fits : (read : Lane E) (writes : List WordWrite) → read ≡ lane_at book l → writes ≡ read.writes.items → length writes * 16 < 9223372036854775808 →
        Fits w64 ((read.stored - 1) * 16)
    read_fits read writes is same few = fits_offset (read.stored - 1) (length writes) (read_below read writes is same) few

    -- a word of the device
    pub word_inside : (w : WordWrite) → w ≡ last_stored (lane_at book l) → w.address < region.size
    word_inside w is = subst (λ (x : WordWrite). x.address < region.size) (sym is) (∥∥₁_elim world le_prop (λ y. (last_of y).inside))

    pub word_seen : (words : List ℕ) (w : WordWrite) → IsRead words region counts → w ≡ last_stored (lane_at book l) → w.address < length words
    word_seen words w read is =
        let inside = word_inside w is in
        let long = (has_logs deeds layout book keeper words region spare counts read world).long in
        let size = ∥∥₁_elim world le_prop (λ y. same_size y.1.state.world.log.logged.size) in
        omega (arith, inside, long, size)
      where
        same_size : {n : ℕ} → region.size ≡ n → region.size ≤ n
        same_size e = omega (arith, e)

    -- the transaction has a change of it
    pub some_change : (w : WordWrite) → w ≡ last_stored (lane_at book l) → FindsChange keeper (lane_at book l) w.address None → ⊥
    some_change w is none = ∥∥₁_elim world (λ x y. absurd x) (λ w. missing w.0 w.1)
      where
        missing : (base : Base) → IsWorld deeds layout base book keeper region spare counts.events → ⊥
        missing base y =
            let st = y.state in
            let ready = lanes_are_ready.to_take_back layout (start_of layout base) book keeper region spare counts.events l lt at st in
            let same : last_stored (lane_at book l) ≡ ready.0 =
            get_or_from_slice_get (lane_at book l).writes.items ((lane_at book l).stored - 1) ready.0 no_write ready.1.write in
            change_is layout (start_of layout base) book keeper region spare counts.events st l lt at ready.0.address None
            (finds_same keeper (lane_at book l) (lane_at book l) w.address ready.0.address None refl (ap (λ (x : WordWrite). x.address) (is ∙ same)) none) ready.3 ready.4.among ready.4.has

-- ---- behind the event

module _ {E : Type 0} (book between : Book E) (l : ℕ) (lt : l < length book.lanes.items) (paid : between ≡ with_lane book l (paid_event (lane_at book l)) book.touched) where
  paid_here : lane_at between l ≡ paid_event (lane_at book l)
  paid_here = (goes_lane book between l (paid_event (lane_at book l)) book.touched lt paid).lanes.here

  -- the call is an abort still,
  pub paid_aborts : stage_of (lane_at book l) ≡ TakingBack → (lane_at between l).doing ≡ Doing.Abort
  paid_aborts at = ap (λ (x : Lane E). x.doing) paid_here ∙ aborts_at (lane_at book l) TakingBack at refl refl

  pub paid_undoes : stage_of (lane_at book l) ≡ TakingBack → undoes (lane_at between l).doing ≡ true
  paid_undoes at = ap undoes (paid_aborts at)

  -- and as many writes are stored
  pub paid_stored : 1 ≤ (lane_at book l).stored → 1 ≤ (lane_at between l).stored
  paid_stored some = subst (λ (x : Lane E). 1 ≤ x.stored) (sym paid_here) some

-- ---- what it leaves

unstored_phased : {E : Type 0} (lane : Lane E) (part : ℕ) → IsOpenPart part → lane.doing ≡ Doing.Abort → IsPhased lane → IsPhased (moved part (unstored_one lane))
unstored_phased lane part is doing phased = record {
  calling = phased.calling;
  joined = phased.joined ∙ ap (λ b. b && clears_in (stage_of lane)) (ap is_commit doing) ∙ sym (ap (λ b. b && clears_in (stage_of (moved part lane))) (ap is_commit doing));
  undone = λ on off. absurd (part_open lane.phase lane.has_records part lane.doing is off on);
}

pub taken_back_world : {E : Type 0} (deeds : Deeds E) (layout : Layout) (book between later : Book E) (keeper : LogKeeper) (region behind : Region) (spare left : ℕ) (counts after : Counts) (l part v : ℕ)
    (w : WordWrite) (touched : Option ℕ) (answer : Stepped) → answer ≡ Stepped.Moved → l < length book.lanes.items → stage_of (lane_at book l) ≡ TakingBack →
    w ≡ last_stored (lane_at book l) → part ≡ undo_part (lane_at book l) →
    FindsChange keeper (lane_at book l) w.address (Some v) → Makes (PStore w.address v) region behind counts after spare left book between l Done.Made →
    Moves deeds between later l touched answer (moved part (unstored_one (lane_at between l))) →
    (IsDataWord (layout_shape layout) w.address → touched ≡ changed_word (newest (region.at w.address)) v w.address) → ((IsDataWord (layout_shape layout) w.address → ⊥) → touched ≡ None) →
    StepsWorld deeds layout book later keeper keeper region behind spare left counts after l answer
taken_back_world deeds layout book between later keeper region behind spare left counts after l part v w touched answer told lt at is part_is change (made event counted paid) moves changes none =
    steps_world deeds layout book later keeper keeper region behind spare left counts after l answer stays (paid_step deeds book between later l answer lt paid moves.step)
    (subst (λ (a : Stepped). HasMade a counts after) (sym told) counted) phased
    (subst (λ (a : Stepped). IsCause layout book keeper counts l a) (sym told) tt)
    (count_paid book between later l (moved part (unstored_one (lane_at between l))) paid (ap (λ (b : Book _). b.lanes) moves.is))
    (λ base world. written_touches layout region behind l w.address v later.touched event.cells
    (subst (λ (x : WordWrite). IsWrittenWord (layout_shape layout) x.address) (sym is)
    (is_last_stored layout (start_of layout base) book keeper region spare counts.events l lt at world.state).written)
    (λ on. ap (λ (b : Book _). b.touched) moves.is ∙ changes on) (λ off. ap (λ (b : Book _). b.touched) moves.is ∙ none off)) (none_held refl (ap is_latched at))
  where
    inside : l < length between.lanes.items
    inside = lanes_paid book between l paid lt

    phased : ArePhased book → ArePhased later
    phased was = phased_with between later l (moved part (unstored_one (lane_at between l))) touched inside (ap (λ (b : Book _). b.lanes) moves.is)
        (unstored_phased (lane_at between l) part (subst IsOpenPart (sym part_is) (undoes_open (length (lane_at book l).updates.items == 0))) (paid_aborts book between l lt paid at)) (paid_phased book between l lt paid was)

    stays : (base : Base) → IsWorld deeds layout base book keeper region spare counts.events → IsWorld deeds layout base later keeper behind left after.events
    stays base world =
        let last = is_last_stored layout (start_of layout base) book keeper region spare counts.events l lt at world.state in
        let found = change_is layout (start_of layout base) book keeper region spare counts.events world.state l lt at w.address (Some v) change in
        let goes = paid_goes book between later l (paid_event (lane_at book l)) (λ (x : Lane _). moved part (unstored_one x)) book.touched lt paid
        (goes_lane between later l (moved part (unstored_one (lane_at between l))) touched inside moves.is) in
        record {
          state = words_are_taken_back layout (start_of layout base) book later keeper region behind spare left counts.events after.events l w found.0
              (subst (λ n. IsEvent region behind l (PStore w.address n) spare left counts.events after.events) found.2 event) at (last.got ∙ ap (λ (x : WordWrite). Some x) (sym is)) found.1
              (subst (λ n. GoesTo book later l (moved n (unstored_one (paid_event (lane_at book l))))) part_is goes) moves.kept world.state;
          lawful = lawful_with deeds layout base between later l (moved part (unstored_one (lane_at between l))) touched inside moves.is (taken_back_on part (lane_at between l))
              (lawful_paid deeds layout base book between l lt paid world.lawful);
        }
