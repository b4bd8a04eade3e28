-- What a lane stores to its own words, and its fences.
use Rattle.log_keeper.specs.declared.slots.TheConstants.{NOBODY}
use Rattle.std.specs.Prelude.{◌≡◌, ◌⊎◌, ℕ, ◌+◌, ◌-◌, ◌<◌, ◌≤◌, slice_get, Some}
use Rattle.persist_model.specs.declared.event.Event.{Event}
use Rattle.persist_model.specs.declared.event.Event.TheVariants.{PStore, Fence}
use Rattle.persist_model.specs.Region.{Words, Region, after}
use Rattle.persist_model.specs.Records.{Record}
use Rattle.persist_model.specs.Standing.{IsLatest}
use Rattle.log_laws.specs.Moves.{IsChangeBy}
use Rattle.region_layout.specs.declared.layout.Layout.{Layout}
use Rattle.lane_traits.specs.declared.draft.WordWrite.{WordWrite}
use Rattle.lane_types.specs.declared.call.Reply.TheVariants as Reply
use Rattle.lane_book.specs.declared.book.Book.{Book}
use Rattle.lane_book.specs.declared.lane.Doing.TheVariants as Doing
use Rattle.lane_book.specs.FacesOf.{lane_at}
use Rattle.lane_book.specs.Books.{IsBook}
use Rattle.lane_book.specs.Lanes.{moved, closed, stored_one}
use Rattle.lane_book.specs.Stores.{unstored_one}
use Rattle.log_keeper.specs.declared.keeper.LogKeeper.{LogKeeper}
use Rattle.log_keeper.specs.Keeper.{keeping_of}
use Rattle.log_keeper.specs.Ledger.{settled_log}
use Rattle.txn_state.specs.declared.parts.TheConstants.{END}
use Rattle.txn_state.specs.Stages.{Storing, Securing, TakingBack, Keeping, stage_of}
use Rattle.txn_state.specs.Ties.{owned}
use Rattle.txn_state.specs.States.{IsStateOf}
use Rattle.txn_state.specs.Changes.{GoesTo, paid_event}
use Rattle.txn_state.specs.AppendLaws.{undo_part}

-- the device has an event more, and perhaps a place less
pub record IsEvent (region later : Region) (l : ℕ) (e : Event) (spare left events made : ℕ) : Type 0 where
  pub cells : later ≡ after region l e
  pub places : spare ≤ left + 1
  pub counted : made ≡ events + 1
  pub inside : l < NOBODY

-- The word of a write whose update is appended is stored, and the write is answered.
abbrev pub WritesAreStored : Type 0 → Type 0
WritesAreStored E = (layout : Layout) (start : Words) (book later : Book E) (keeper : LogKeeper) (region behind : Region) (spare left events made l : ℕ) (w : WordWrite) →
    IsEvent region behind l (PStore w.address w.value) spare left events made →
    stage_of (lane_at book l) ≡ Storing → slice_get (lane_at book l).writes.items (lane_at book l).stored ≡ Some w →
    GoesTo book later l (closed Reply.Written (stored_one (paid_event (lane_at book l)))) → IsBook later →
    IsStateOf layout start book keeper region spare events → IsStateOf layout start later keeper behind left made

-- So is the owner word of a block that is taken.
abbrev pub TakesAreStored : Type 0 → Type 0
TakesAreStored E = (layout : Layout) (start : Words) (book later : Book E) (keeper : LogKeeper) (region behind : Region) (spare left events made l s k : ℕ) →
    IsEvent region behind l (PStore (owned layout s k).address (owned layout s k).value) spare left events made →
    stage_of (lane_at book l) ≡ Storing → (lane_at book l).doing ≡ Doing.Take s k →
    GoesTo book later l (closed (Reply.Block k) (stored_one (paid_event (lane_at book l)))) → IsBook later →
    IsStateOf layout start book keeper region spare events → IsStateOf layout start later keeper behind left made

-- The word whose update was compensated last becomes what the newest change by the transaction, which is the compensation, left.
abbrev pub WordsAreTakenBack : Type 0 → Type 0
WordsAreTakenBack E = (layout : Layout) (start : Words) (book later : Book E) (keeper : LogKeeper) (region behind : Region) (spare left events made l : ℕ) (w : WordWrite) (r : Record) →
    IsEvent region behind l (PStore w.address r.after) spare left events made →
    stage_of (lane_at book l) ≡ TakingBack → slice_get (lane_at book l).writes.items ((lane_at book l).stored - 1) ≡ Some w →
    IsLatest (IsChangeBy (lane_at book l).transaction w.address) (settled_log (keeping_of keeper).ledger) r →
    GoesTo book later l (moved (undo_part (lane_at book l)) (unstored_one (paid_event (lane_at book l)))) → IsBook later →
    IsStateOf layout start book keeper region spare events → IsStateOf layout start later keeper behind left made

-- A commit's fence, or an abort's behind all that it took back: the end may be appended.
abbrev pub FencesKeep : Type 0 → Type 0
FencesKeep E = (layout : Layout) (start : Words) (book later : Book E) (keeper : LogKeeper) (region behind : Region) (spare left events made l : ℕ) →
    IsEvent region behind l Fence spare left events made →
    (stage_of (lane_at book l) ≡ Securing) ⊎ (stage_of (lane_at book l) ≡ Keeping) →
    GoesTo book later l (moved END (paid_event (lane_at book l))) → IsBook later →
    IsStateOf layout start book keeper region spare events → IsStateOf layout start later keeper behind left made
