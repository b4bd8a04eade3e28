-- The closing of an ended transaction's records, the removal of buckets behind it, and the end of its call.
use Rattle.log_keeper.specs.declared.slots.TheConstants.{NOBODY}
use Rattle.std.specs.Prelude.{◌≡◌, ◌⊎◌, ℕ, ◌%◌, Bool, true, if◌then◌else◌, [], Some}
use Rattle.persist_model.specs.declared.event.Event.{Event}
use Rattle.persist_model.specs.Region.{Words, Region}
use Rattle.persist_model.specs.Chain.{view}
use Rattle.atomic_list.specs.declared.plans.Remove.{Remove}
use Rattle.atomic_list.specs.Walk.{chain_of}
use Rattle.region_layout.specs.declared.layout.Layout.{Layout}
use Rattle.region_layout.specs.Layout.{layout_shape}
use Rattle.log_clearing.specs.Dropping.{IsRemovalOf}
use Rattle.lane_types.specs.declared.call.Reply.{Reply}
use Rattle.lane_book.specs.declared.book.Book.{Book}
use Rattle.lane_book.specs.declared.lane.Lane.{Lane}
use Rattle.lane_book.specs.FacesOf.{lane_at}
use Rattle.lane_book.specs.Books.{IsBook}
use Rattle.lane_book.specs.Lanes.{moved, left as left_lane}
use Rattle.log_keeper.specs.declared.keeper.LogKeeper.{LogKeeper}
use Rattle.log_keeper.specs.Parts.{closes, drops}
use Rattle.log_keeper.specs.Logged.{Keeping, latched}
use Rattle.log_keeper.specs.Listing.{gates_in}
use Rattle.log_keeper.specs.Keeper.{begun_in}
use Rattle.txn_state.specs.declared.parts.TheConstants.{CLOSE_END, DROP}
use Rattle.txn_state.specs.Stages.{Closing, ClosingEnd, Dropping, stage_of, is_commit}
use Rattle.txn_state.specs.States.{IsStateOf}
use Rattle.txn_state.specs.Changes.{GoesTo, IsKept, paid_event}
use Rattle.txn_state.specs.AppendLaws.{newest_image, IsMade, AreLeft, made_in}

-- ---- the last event of the first group

-- the closing of the transaction's end begins
abbrev pub end_closing_begun : ℕ → ℕ → Keeping → Keeping
end_closing_begun p t k = begun_in p (closes [] (gates_in t true k.ledger) []) k.ledger k

abbrev pub ClosingsGoOn : Type 0 → Type 0
ClosingsGoOn E = (layout : Layout) (start : Words) (book later : Book E) (keeper kept : LogKeeper) (region behind : Region) (spare left events made l : ℕ) (e : Event) →
    let p = l % layout.partitions in
    IsMade layout keeper region behind l e spare left events made → AreLeft layout keeper p 1 → stage_of (lane_at book l) ≡ Closing →
    GoesTo book later l (moved CLOSE_END (paid_event (lane_at book l))) → IsBook later →
    IsKept keeper kept (end_closing_begun p (lane_at book l).transaction (made_in layout keeper p)) →
    IsStateOf layout start book keeper region spare events → IsStateOf layout start later kept behind left made

-- ---- the last event of the second group, or of a removal

-- nothing is left in the log of the lane's transaction
abbrev pub HasCleared : {E : Type 0} → Lane E → Type 0
HasCleared lane = (stage_of lane ≡ ClosingEnd) ⊎ (stage_of lane ≡ Dropping)

-- the bucket that is taken out next, as a read finds it
abbrev pub IsRemovalRead : Layout → ℕ → Region → Remove → Type 0
IsRemovalRead layout p region r =
    let w = view p (newest_image region) in IsRemovalOf (layout_shape layout) w (chain_of (layout_shape layout) w) (Some r)

-- A bucket has only closed gates: its removal begins.
abbrev pub RemovalsBegin : Type 0 → Type 0
RemovalsBegin E = (layout : Layout) (start : Words) (book later : Book E) (keeper kept : LogKeeper) (region behind : Region) (spare left events made l : ℕ) (e : Event) (r : Remove) →
    let p = l % layout.partitions in
    IsMade layout keeper region behind l e spare left events made → AreLeft layout keeper p 1 → HasCleared (lane_at book l) → IsRemovalRead layout p behind r →
    GoesTo book later l (moved DROP (paid_event (lane_at book l))) → IsBook later →
    IsKept keeper kept (begun_in p (drops r) (made_in layout keeper p).ledger (made_in layout keeper p)) →
    IsStateOf layout start book keeper region spare events → IsStateOf layout start later kept behind left made

-- the reply to a call that ends its transaction
abbrev pub end_reply : Bool → Reply
end_reply commits = if commits then Reply.Committed else Reply.Aborted

-- The latch is let go, and the transaction is over.
abbrev pub TransactionsEnd : Type 0 → Type 0
TransactionsEnd E = (layout : Layout) (start : Words) (book later : Book E) (keeper kept : LogKeeper) (region behind : Region) (spare left events made l : ℕ) (e : Event) →
    let p = l % layout.partitions in
    IsMade layout keeper region behind l e spare left events made → AreLeft layout keeper p 1 → HasCleared (lane_at book l) →
    GoesTo book later l (left_lane (end_reply (is_commit (lane_at book l).doing)) (paid_event (lane_at book l))) → IsBook later →
    IsKept keeper kept (latched p NOBODY (made_in layout keeper p)) →
    IsStateOf layout start book keeper region spare events → IsStateOf layout start later kept behind left made
