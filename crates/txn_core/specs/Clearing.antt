-- What comes behind the last event of a closing's second group, or of a removal.
use Rattle.log_keeper.specs.declared.slots.TheConstants.{NOBODY}
use Rattle.std.specs.Prelude.{◌≡◌, ℕ, ◌%◌, List, None}
use Rattle.atomic_list.specs.declared.plans.Remove.{Remove}
use Rattle.region_layout.specs.declared.layout.Layout.{Layout}
use Rattle.lane_types.specs.declared.call.Stepped.{Stepped}
use Rattle.lane_types.specs.Deeds.{Deeds}
use Rattle.lane_book.specs.declared.book.Book.{Book}
use Rattle.lane_book.specs.FacesOf.{lane_at}
use Rattle.lane_book.specs.Lanes.{moved, left as left_lane}
use Rattle.lane_book.specs.Calls.{Moves}
use Rattle.log_keeper.specs.declared.keeper.LogKeeper.{LogKeeper}
use Rattle.log_keeper.specs.Parts.{drops}
use Rattle.log_keeper.specs.Logged.{Keeping, latched}
use Rattle.log_keeper.specs.Keeper.{keeping_of, begun_in, KeepsSlots}
use Rattle.txn_state.specs.declared.parts.TheConstants.{DROP}
use Rattle.txn_state.specs.Stages.{is_commit}
use Rattle.txn_state.specs.ReadLaws.{IsRemovalSeen}
use Rattle.txn_state.specs.ClosingLaws.{end_reply}
use Rattle.txn_core.specs.Freeing.{blocks_left, with_blocks}

-- the keeper's data are those, and all else of it is as it was
pub record HasTurned (keeper later : LogKeeper) (k : Keeping) : Type 0 where
  pub kept : keeping_of later ≡ k
  pub number : later.next_lsn ≡ keeper.next_lsn
  pub ledger : later.ledger ≡ keeper.ledger
  pub slots : KeepsSlots keeper.slots.items later.slots.items

-- The removal of the bucket that is read there begins; or the latch is let go, and the call is answered: the blocks that an aborted transaction took are free.
pub data Clears {E : Type 0} (deeds : Deeds E) (layout : Layout) (keeper kept : LogKeeper) (words : List ℕ) (book next : Book E) (l : ℕ) (answer : Stepped) : Type 0 where
  begins : (r : Remove) → IsRemovalSeen layout (l % layout.partitions) words r → answer ≡ Stepped.Moved →
      HasTurned keeper kept (begun_in (l % layout.partitions) (drops r) (keeping_of keeper).ledger (keeping_of keeper)) →
      Moves deeds book next l None answer (moved DROP (lane_at book l)) → Clears deeds layout keeper kept words book next l answer
  ends : answer ≡ Stepped.Answered (end_reply (is_commit (lane_at book l).doing)) → HasTurned keeper kept (latched (l % layout.partitions) NOBODY (keeping_of keeper)) →
      Moves deeds (with_blocks (blocks_left layout (is_commit (lane_at book l).doing) (lane_at book l) book.blocks) book) next l None answer
      (left_lane (end_reply (is_commit (lane_at book l).doing)) (lane_at book l)) → Clears deeds layout keeper kept words book next l answer
