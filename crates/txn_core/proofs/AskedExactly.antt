-- What an ask leaves of the other lanes and of the history, and what the lane's call may make.
use Rattle.std.proofs.Common.{◌≡◌, ℕ, ◌+◌, ◌-◌, ◌*◌, ◌<◌, ◌≤◌, ◌^◌, min, true, false, List, [], length, slice_set, Option, sym, ap, ◌∙◌, subst, arith}
use Rattle.lane_traits.specs.declared.draft.WordWrite.{WordWrite}
use Rattle.region_layout.specs.declared.layout.Layout.{Layout}
use Rattle.region_layout.specs.Layout.{layout_shape}
use Rattle.lane_types.specs.declared.call.Call.{Call}
use Rattle.offset_alloc.specs.declared.Standing.TheVariants.{Owned}
use Rattle.offset_alloc.specs.Blocks.{IsLeastFree}
use Rattle.lane_book.specs.declared.book.Book.{Book}
use Rattle.lane_book.specs.declared.lane.Lane.{Lane}
use Rattle.lane_book.specs.declared.lane.Doing.{Doing}
use Rattle.lane_book.specs.FacesOf.{lane_at}
use Rattle.lane_book.specs.Lanes.{with_lane, owing}
use Rattle.lane_book.specs.Steps.{IsAskedIn, IsRoomierIn}
use Rattle.txn_state.specs.Changes.{GoesTo, with_block}
use Rattle.txn_state.specs.Owing.{append_most, undoing_left, REMOVAL_EVENTS}
use Rattle.txn_state.specs.QuietLaws.{HasMorePlaces, ending_needs}
use Rattle.txn_state.specs.ReadLaws.{makes_events}
use Rattle.txn_state.specs.Stages.{stage_of}
use Rattle.txn_core.specs.AskedEnds.{IsCommitAsked}
use Rattle.txn_core.specs.Asking.{AppendsNothing, begin, read, checkpoint, Owes}
use Rattle.txn_core.specs.Exact.{events_owed, call_events, GoBlocks, blocks_stay, block_taken, KeepsBeside, MayMake}
use Rattle.txn_core.proofs.Paying.{goes_lane}
use Rattle.txn_core.proofs.Exactly.{owed_at_most, none_owed}

-- ---- the other lanes, and the history

pub beside_goes : {E : Type 0} (book later : Book E) (l : ℕ) (lane : Lane E) → GoesTo book later l lane → later.stopped ≡ book.stopped → KeepsBeside book later l
beside_goes book later l lane to stopped_is = record { others = to.lanes.others; history = ap (λ h. h.items) to.history; blocks = blocks_stay to.lanes.blocks; next = to.next; stopped = stopped_is }

pub beside_with : {E : Type 0} (book later : Book E) (l : ℕ) (lane : Lane E) (touched : Option ℕ) → l < length book.lanes.items → later ≡ with_lane book l lane touched → KeepsBeside book later l
beside_with book later l lane touched lt is = beside_goes book later l lane (goes_lane book later l lane touched lt is) (ap (λ (b : Book _). b.stopped) is)

pub beside_places : {E : Type 0} (book later : Book E) (l : ℕ) → HasMorePlaces book later → KeepsBeside book later l
beside_places book later l places = record {
  others = λ k ne. ap (λ (b : Book _). lane_at b k) places.is;
  history = ap (λ (b : Book _). b.history.items) places.is;
  blocks = blocks_stay (ap (λ (b : Book _). b.blocks) places.is);
  next = ap (λ (b : Book _). b.next_transaction) places.is;
  stopped = ap (λ (b : Book _). b.stopped) places.is;
}

-- behind a step that left the blocks
blocks_then : {E : Type 0} (book mid later : Book E) (l : ℕ) → mid.blocks ≡ book.blocks → GoBlocks mid later l → GoBlocks book later l
blocks_then book mid later l stand (blocks_stay is) = blocks_stay (is ∙ stand)
blocks_then book mid later l stand (block_taken s k doing least is) =
    block_taken s k doing (subst (λ bs. IsLeastFree bs k) stand least) (is ∙ ap (λ bs. slice_set bs k (Owned s)) stand)

pub beside_then : {E : Type 0} (book mid later : Book E) (l : ℕ) → mid.blocks ≡ book.blocks → KeepsBeside book mid l → KeepsBeside mid later l → KeepsBeside book later l
beside_then book mid later l stand one other = record {
  others = λ k ne. other.others k ne ∙ one.others k ne;
  history = other.history ∙ one.history;
  blocks = blocks_then book mid later l stand other.blocks;
  next = other.next ∙ one.next;
  stopped = other.stopped ∙ one.stopped;
}

pub beside_owing : {E : Type 0} (book mid later : Book E) (l m n : ℕ) → Owes book mid l m n → KeepsBeside mid later l → KeepsBeside book later l
beside_owing book mid later l m n owes = beside_then book mid later l owes.goes.lanes.blocks (beside_goes book mid l (owing m n (lane_at book l)) owes.goes owes.stopped)

there : {E : Type 0} (book mid : Book E) (l m n : ℕ) → l < length book.lanes.items → Owes book mid l m n → l < length mid.lanes.items
there book mid l m n lt owes = subst (λ k. l < k) (sym owes.goes.lanes.count) lt

pub beside_asked : {E : Type 0} (book mid later : Book E) (l m n : ℕ) (call : Call E) (doing : Doing) (writes : List WordWrite) (gives : List ℕ) (promised : ℕ) → l < length book.lanes.items → Owes book mid l m n →
    IsAskedIn call doing writes gives promised mid later l → KeepsBeside book later l
beside_asked book mid later l m n call doing writes gives promised lt owes asked =
    beside_owing book mid later l m n owes (beside_with mid later l (lane_at later l) mid.touched (there book mid l m n lt owes) asked.is)

pub beside_roomier : {E : Type 0} (book mid later : Book E) (l m n : ℕ) → l < length book.lanes.items → Owes book mid l m n → IsRoomierIn mid later l → KeepsBeside book later l
beside_roomier book mid later l m n lt owes roomier =
    beside_owing book mid later l m n owes (beside_with mid later l (lane_at later l) mid.touched (there book mid l m n lt owes) roomier.is)

pub beside_taken : {E : Type 0} (book mid later : Book E) (l m n s k : ℕ) (writes : List WordWrite) (gives : List ℕ) (promised : ℕ) → l < length book.lanes.items → Owes book mid l m n → IsLeastFree book.blocks k →
    IsAskedIn (Call.Take s) (Doing.Take s k) writes gives promised (with_block k (Owned s) mid) later l → KeepsBeside book later l
beside_taken book mid later l m n s k writes gives promised lt owes least asked =
    let to = goes_lane (with_block k (Owned s) mid) later l (lane_at later l) mid.touched (there book mid l m n lt owes) asked.is in
    beside_owing book mid later l m n owes (record {
      others = to.lanes.others;
      history = ap (λ h. h.items) to.history;
      blocks = block_taken s k (ap (λ (x : Lane _). x.doing) asked.lane.asks.is) (subst (λ bs. IsLeastFree bs k) (sym owes.goes.lanes.blocks) least) to.lanes.blocks;
      next = to.next;
      stopped = ap (λ (b : Book _). b.stopped) asked.is;
    })

stocked_there : {E : Type 0} (book mid stocked : Book E) (l m n : ℕ) → l < length book.lanes.items → Owes book mid l m n → HasMorePlaces mid stocked → l < length stocked.lanes.items
stocked_there book mid stocked l m n lt owes places = subst (λ k. l < k) (sym (ap (λ (b : Book _). length b.lanes.items) places.is)) (there book mid l m n lt owes)

pub beside_commit : {E : Type 0} (layout : Layout) (deed : E) (book mid later : Book E) (l m n : ℕ) → l < length book.lanes.items → Owes book mid l m n →
    IsCommitAsked layout deed mid later l → KeepsBeside book later l
beside_commit layout deed book mid later l m n lt owes it =
    beside_owing book mid later l m n owes (beside_then mid it.stocked later l (ap (λ (b : Book _). b.blocks) it.places.is) (beside_places mid it.stocked l it.places)
    (beside_with it.stocked later l _ it.stocked.touched (stocked_there book mid it.stocked l m n lt owes it.places) it.is))

-- ---- what the call may make

-- a call that appends nothing makes no event
pub quiet_owes : {E : Type 0} (book later : Book E) (l : ℕ) (call : Call E) (doing : Doing) → AppendsNothing call doing → IsAskedIn call doing [] [] 0 book later l →
    events_owed (lane_at later l) ≡ 0
quiet_owes book later l _ _ begin it = none_owed (lane_at later l) (ap (λ (x : Lane _). makes_events (stage_of x)) it.lane.asks.is)
quiet_owes book later l _ _ read it = none_owed (lane_at later l) (ap (λ (x : Lane _). makes_events (stage_of x)) it.lane.asks.is)
quiet_owes book later l _ _ checkpoint it = none_owed (lane_at later l) (ap (λ (x : Lane _). makes_events (stage_of x)) it.lane.asks.is)

at_most_so : (a b c : ℕ) → a ≤ b → b ≡ c → a ≤ c
at_most_so a b c le is = omega (arith, le, is)

at_most_min : (a b most : ℕ) → a ≡ min b most → a ≤ b
at_most_min a b most is = omega (arith, is)

pub at_most_then : (a b c : ℕ) → a ≤ b → b ≤ c → a ≤ c
at_most_then a b c one other = omega (arith, one, other)

none_at_most : (a b : ℕ) → a ≡ 0 → a ≤ b
none_at_most a b none = omega (arith, none)

-- the lane owes what its call was given
asked_owes : {E : Type 0} (book mid later : Book E) (l m n : ℕ) (call : Call E) (doing : Doing) (writes : List WordWrite) (gives : List ℕ) (promised : ℕ) → Owes book mid l m n →
    IsAskedIn call doing writes gives promised mid later l → events_owed (lane_at later l) ≤ m
asked_owes book mid later l m n call doing writes gives promised owes it =
    at_most_so (events_owed (lane_at later l)) (lane_at later l).owed_events m (owed_at_most (lane_at later l))
    (ap (λ (x : Lane _). x.owed_events) it.lane.asks.is ∙ ap (λ (x : Lane _). x.owed_events) owes.goes.lanes.here)

pub write_owes : {E : Type 0} (layout : Layout) (book mid later : Book E) (l m n a v : ℕ) (doing : Doing) (writes : List WordWrite) (gives : List ℕ) (promised : ℕ) → Owes book mid l m n →
    m ≡ append_most (layout_shape layout) + 1 → IsAskedIn (Call.Write a v) doing writes gives promised mid later l → MayMake layout (Call.Write a v) book later l
write_owes layout book mid later l m n a v doing writes gives promised owes m_is it =
    at_most_so (events_owed (lane_at later l)) m (append_most (layout_shape layout) + 1) (asked_owes book mid later l m n (Call.Write a v) doing writes gives promised owes it) m_is

pub take_owes : {E : Type 0} (layout : Layout) (book mid later : Book E) (l m n s k : ℕ) (writes : List WordWrite) (gives : List ℕ) (promised : ℕ) → Owes book mid l m n →
    m ≡ append_most (layout_shape layout) + 1 → IsAskedIn (Call.Take s) (Doing.Take s k) writes gives promised (with_block k (Owned s) mid) later l → MayMake layout (Call.Take s) book later l
take_owes layout book mid later l m n s k writes gives promised owes m_is it =
    at_most_so (events_owed (lane_at later l)) m (append_most (layout_shape layout) + 1)
    (at_most_so (events_owed (lane_at later l)) (lane_at later l).owed_events m (owed_at_most (lane_at later l))
    (ap (λ (x : Lane _). x.owed_events) it.lane.asks.is ∙ ap (λ (x : Lane _). x.owed_events) owes.goes.lanes.here)) m_is

-- a call of no event
pub quiet_may : {E : Type 0} (layout : Layout) (call : Call E) (book later : Book E) (l : ℕ) → events_owed (lane_at later l) ≡ 0 → MayMake layout call book later l
quiet_may layout call book later l none =
    none_at_most (events_owed (lane_at later l)) (call_events (layout_shape layout) (length (lane_at book l).updates.items) call) none

-- with more records an end may want more
aborts_grow : (a b c k n m : ℕ) → n ≤ m → a + (b + (1 + (a + ((n + 1 + k) + 1 + (2 + c))))) ≤ a + (b + (1 + (a + ((m + 1 + k) + 1 + (2 + c)))))
aborts_grow a b c k n m le = omega (arith, le)

commits_grow : (a c n m : ℕ) → n ≤ m → 1 + (a + ((n + 1) + (2 + c))) ≤ 1 + (a + ((m + 1) + (2 + c)))
commits_grow a c n m le = omega (arith, le)

-- the log has no more records of the transaction than updates of it stand
pub abort_owes : {E : Type 0} (layout : Layout) (book mid later : Book E) (l m n records updates : ℕ) (doing : Doing) → Owes book mid l m n →
    records ≤ length (lane_at book l).updates.items → updates ≡ length (lane_at book l).updates.items →
    m ≡ min (ending_needs (layout_shape layout) records updates false).events (2 ^ 64 - 1) →
    IsAskedIn Call.Abort doing [] [] 0 mid later l → MayMake layout Call.Abort book later l
abort_owes layout book mid later l m n records updates doing owes few updates_are m_is it =
    let shape = layout_shape layout in
    let own = length (lane_at book l).updates.items in
    subst (λ u. events_owed (lane_at later l) ≤ (ending_needs shape own u false).events) updates_are
    (at_most_then (events_owed (lane_at later l)) (ending_needs shape records updates false).events (ending_needs shape own updates false).events
    (at_most_then (events_owed (lane_at later l)) m (ending_needs shape records updates false).events
    (asked_owes book mid later l m n Call.Abort doing [] [] 0 owes it) (at_most_min m (ending_needs shape records updates false).events (2 ^ 64 - 1) m_is))
    (aborts_grow (append_most shape) (undoing_left shape updates) (REMOVAL_EVENTS * shape.buckets) updates records own few))

pub commit_owes : {E : Type 0} (layout : Layout) (deed : E) (book mid later : Book E) (l m n records : ℕ) → l < length book.lanes.items → Owes book mid l m n →
    records ≤ length (lane_at book l).updates.items → m ≡ min (ending_needs (layout_shape layout) records 0 true).events (2 ^ 64 - 1) →
    IsCommitAsked layout deed mid later l → MayMake layout (Call.Commit deed) book later l
commit_owes layout deed book mid later l m n records lt owes few m_is it =
    let shape = layout_shape layout in
    let to = goes_lane it.stocked later l _ it.stocked.touched (stocked_there book mid it.stocked l m n lt owes it.places) it.is in
    let owed : (lane_at later l).owed_events ≡ m = ap (λ (x : Lane _). x.owed_events) to.lanes.here
    ∙ ap (λ (b : Book _). (lane_at b l).owed_events) it.places.is ∙ ap (λ (x : Lane _). x.owed_events) owes.goes.lanes.here in
    at_most_then (events_owed (lane_at later l)) (ending_needs shape records 0 true).events (ending_needs shape (length (lane_at book l).updates.items) 0 true).events
    (at_most_then (events_owed (lane_at later l)) m (ending_needs shape records 0 true).events
    (at_most_so (events_owed (lane_at later l)) (lane_at later l).owed_events m (owed_at_most (lane_at later l)) owed)
    (at_most_min m (ending_needs shape records 0 true).events (2 ^ 64 - 1) m_is))
    (commits_grow (append_most shape) (REMOVAL_EVENTS * shape.buckets) records (length (lane_at book l).updates.items) few)
