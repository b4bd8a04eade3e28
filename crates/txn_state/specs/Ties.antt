-- The lanes of a book against the transactions of the plain world.
use Rattle.log_keeper.specs.declared.slots.TheConstants.{NOBODY}
use Rattle.std.specs.Prelude.{◌≡◌, ◌≢◌, ◌⊎◌, ℕ, ◌+◌, ◌*◌, ◌%◌, ◌<◌, ◌≤◌, ◌==◌, Bool, true, false, ◌&&◌, ◌||◌, not, nat_lt, if◌then◌else◌, List, [], ◌∷◌, length, map, reverse, slice_get, Some}
use Rattle.persist_model.specs.Progress.{Write}
use Rattle.persist_model.specs.Records.{Record, Log, IsAmong, Has, HasNo, IsOf, IsEnd, IsCompensation}
use Rattle.persist_model.specs.Shape.{Shape, heap, block, IsPlainOwner}
use Rattle.persist_model.specs.State.{State}
use Rattle.lane_traits.specs.declared.draft.WordWrite.{WordWrite}
use Rattle.atomic_list.specs.declared.plans.Remove.{Remove}
use Rattle.lane_types.specs.declared.face.Entry.{Entry}
use Rattle.region_layout.specs.declared.cell.Cell.{Cell}
use Rattle.region_layout.specs.declared.layout.Layout.{Layout}
use Rattle.region_layout.specs.Cell.{record_of}
use Rattle.region_layout.specs.Layout.{layout_shape, IsDataWord}
use Rattle.std.specs.List.{list_any}
use Rattle.offset_alloc.specs.declared.Standing.{Standing}
use Rattle.offset_alloc.specs.declared.Standing.TheVariants.{Owned, Pending}
use Rattle.lane_types.specs.Heaps.{has_bit, names_in}
use Rattle.lane_book.specs.Books.{ends}
use Rattle.lane_book.specs.declared.lane.Lane.{Lane}
use Rattle.lane_book.specs.declared.lane.Doing.{Doing}
use Rattle.lane_book.specs.declared.book.Book.{Book}
use Rattle.lane_book.specs.FacesOf.{lane_at}
use Rattle.lane_book.specs.Lanes.{has_room}
use Rattle.lane_book.specs.Refusals.{is_mine, block_in, owner_number}
use Rattle.log_keeper.specs.declared.keeper.LogKeeper.{LogKeeper}
use Rattle.log_keeper.specs.Keeper.{keeping_of}
use Rattle.log_keeper.specs.Ledger.{newest_log}
use Rattle.log_keeper.specs.Logged.{plan_in}
use Rattle.history_laws.specs.Histories as plain
use Rattle.history_laws.specs.UnderWay.{Added, an_update, a_deletion, a_rollback, a_compensation, an_undone_end, a_commit_end, Adding, record_of_adding, UnderWay, nothing, appends, closes, takes_back, drops}
use Rattle.txn_laws.specs.Txns.{Gift, Txn, idle, txn_at, entry_of}
use Rattle.txn_laws.specs.Worlds.{World}
use Rattle.persist_model.specs.Need.{has_of}
use Rattle.txn_state.specs.Stages.{Stage, Free, Between, Leaving, Naming, Storing, Deleting, Securing, Opening, Undoing, TakingBack, Keeping, Ending, Closing, ClosingEnd, Dropping, Unbuilt, stage_of, is_commit}
use Rattle.txn_state.specs.Seen.{under_by, noticed}

-- ---- plain data

abbrev pub plain_write : WordWrite → Write
plain_write w = record { address = w.address; value = w.value }

abbrev pub plain_entry : {E : Type 0} → Entry E → plain.Entry
plain_entry e = record { transaction = e.transaction; writes = map plain_write e.writes }

-- the cells are those of the records, each with its number
abbrev pub AreCellsOf : List Cell → List Record → Type 0
AreCellsOf [] [] = Unit {0}
AreCellsOf [] (u ∷ updates) = ⊥
AreCellsOf (c ∷ cells) [] = ⊥
AreCellsOf (c ∷ cells) (u ∷ updates) = (record_of u.at c ≡ u) × AreCellsOf cells updates

-- the number of the newest update, 0 where there is none
abbrev pub top_of : List Record → ℕ
top_of [] = 0
top_of (u ∷ updates) = u.lsn

-- each update names the one before it as the next to undo
abbrev pub AreLinked : List Record → Type 0
AreLinked [] = Unit {0}
AreLinked (u ∷ updates) = (u.undo_next ≡ top_of updates) × AreLinked updates

-- the word is one of a block that the lane has
abbrev pub is_lanes : {E : Type 0} → Layout → List Standing → Lane E → ℕ → Bool
is_lanes layout blocks lane a =
    not (nat_lt a (heap (layout_shape layout))) && (nat_lt a (heap (layout_shape layout) + 16 * layout.blocks) && is_mine blocks lane (block_in layout a))

-- ---- the words that a lane writes

-- a data word, or the owner word of a block that isn't a root
abbrev pub IsWrittenWord : Shape → ℕ → Type 0
IsWrittenWord shape a = IsDataWord shape a ⊎ IsPlainOwner shape a

-- the write that gives the block to the structure
abbrev pub owned : Layout → ℕ → ℕ → WordWrite
owned layout s k = record { address = block (layout_shape layout) k; value = s + 1 }

-- a take that isn't stored yet is the next write
abbrev pub TakesNext : {E : Type 0} → Layout → Lane E → Type 0
TakesNext layout lane = (s k : ℕ) → lane.doing ≡ Doing.Take s k → slice_get lane.writes.items lane.stored ≡ Some (owned layout s k)

-- ---- the blocks that a lane gives

-- the gifts are those of the given blocks, oldest first, each with the gate of its record; the last block may have no record yet
abbrev pub AreGiftsOf : Shape → List ℕ → List ℕ → List Gift → Type 0
AreGiftsOf shape gives [] [] = Unit {0}
AreGiftsOf shape gives [] (g ∷ gifts) = ⊥
AreGiftsOf shape gives (gate ∷ gates) [] = ⊥
AreGiftsOf shape [] (gate ∷ gates) (g ∷ gifts) = ⊥
AreGiftsOf shape (k ∷ gives) (gate ∷ gates) (g ∷ gifts) = (g.word ≡ block shape k) × (g.gate ≡ gate) × AreGiftsOf shape gives gates gifts

-- the word is one of the heap's, in a block for which this holds
abbrev pub is_in : Layout → (ℕ → Bool) → ℕ → Bool
is_in layout has a = not (nat_lt a (heap (layout_shape layout))) && (nat_lt a (heap (layout_shape layout) + 16 * layout.blocks) && has (block_in layout a))

-- the block is of a structure of the set, and isn't given
abbrev pub is_own : List Standing → ℕ → List ℕ → ℕ → Bool
is_own blocks held gives k = names_in held (if list_any (λ given. k == given) gives then 0 else owner_number (slice_get blocks k))

-- or is given
abbrev pub is_given : List ℕ → ℕ → Bool
is_given gives k = list_any (λ given. k == given) gives

-- It is no root, and nobody else can have it.
pub record IsGivenBlock (layout : Layout) (blocks : List Standing) (held k : ℕ) : Type 0 where
  pub plain : layout.structures ≤ k
  pub inside : k < layout.blocks
  pub stands : (slice_get blocks k ≡ Some Pending) ⊎ ((s : ℕ) × (slice_get blocks k ≡ Some (Owned s)) × (has_bit held s ≡ true))

-- A lane with these structures gave these blocks: their words are its own, beside those of the blocks that it has.
pub record HasGiven (layout : Layout) (blocks : List Standing) (held : ℕ) (gives gates : List ℕ) (gifts : List Gift) (words : ℕ → Bool) : Type 0 where
  pub gifts_are : AreGiftsOf (layout_shape layout) gives gates gifts
  pub each : (k : ℕ) → IsAmong gives k → IsGivenBlock layout blocks held k
  pub words_are : (a : ℕ) → words a ≡ (is_in layout (is_own blocks held gives) a || is_in layout (is_given gives) a)

-- so many blocks of the call in progress have no record yet that is settled
abbrev pub due_by : Doing → ℕ
due_by Doing.Nothing = 0
due_by (Doing.Begin set) = 0
due_by (Doing.Read a) = 0
due_by (Doing.Write a v) = 0
due_by (Doing.Take s k) = 0
due_by (Doing.Give k) = 1
due_by Doing.Commit = 0
due_by Doing.Abort = 0
due_by Doing.Checkpoint = 0
due_by (Doing.Batch n) = 0
due_by Doing.Savepoint = 0
due_by (Doing.RollbackTo n) = 0

-- where the deletion isn't appended, a cell is promised, and there is a place for its gate
abbrev pub WaitsToDelete : {E : Type 0} → Lane E → Type 0
WaitsToDelete lane = (1 ≤ lane.promised) × has_room 1 lane.gates

-- the record that is appended names the block
abbrev pub IsOfBlock : Layout → ℕ → UnderWay → Type 0
IsOfBlock layout k nothing = Unit {0}
IsOfBlock layout k (appends adding made) = (record_of_adding adding).word ≡ block (layout_shape layout) k
IsOfBlock layout k (closes gates ends made) = Unit {0}
IsOfBlock layout k (takes_back gates made) = Unit {0}
IsOfBlock layout k (drops r made) = Unit {0}

-- a give that isn't answered is of the block that its record names
abbrev pub DeletesNext : {E : Type 0} → Layout → UnderWay → Lane E → Type 0
DeletesNext layout u lane = (k : ℕ) → lane.doing ≡ Doing.Give k → IsOfBlock layout k u × (length lane.gates.items + 1 ≡ length lane.gives.items → WaitsToDelete lane)

-- ---- a lane's transaction

-- x is the transaction of the lane, which appends to partition p and has u under way there.
pub record IsTxnOf {E : Type 0} (shape : Shape) (p : ℕ) (lane : Lane E) (u : UnderWay) (x : Txn) : Type 0 where
  pub number : x.number ≡ lane.transaction
  pub here : 1 ≤ x.number → x.part ≡ p
  pub writes : x.writes ≡ map plain_write lane.writes.items
  pub stored : x.stored ≡ lane.stored
  pub zeroed : x.zeroed ≡ 0
  pub commits : x.commits ≡ is_commit lane.doing
  pub updates : AreCellsOf (reverse lane.updates.items) (noticed shape p u x).updates
  pub rolled : (noticed shape p u x).rolled ≡ lane.rolled
  pub ended : x.ended ≡ lane.ended
  pub linked : AreLinked x.updates
  pub point : x.point ≡ top_of x.updates
  pub entry : (e : Entry E) → lane.entry ≡ Some e → plain_entry e ≡ entry_of x

-- ---- how far it has come

-- the kinds of what a lane appends
abbrev pub IsUpdating : Added → Type 0
IsUpdating (an_update u) = Unit {0}
IsUpdating (a_deletion g) = ⊥
IsUpdating (a_rollback t) = ⊥
IsUpdating (a_compensation u cell) = ⊥
IsUpdating (an_undone_end t) = ⊥
IsUpdating (a_commit_end t) = ⊥

abbrev pub IsDeleting : Added → Type 0
IsDeleting (an_update u) = ⊥
IsDeleting (a_deletion g) = Unit {0}
IsDeleting (a_rollback t) = ⊥
IsDeleting (a_compensation u cell) = ⊥
IsDeleting (an_undone_end t) = ⊥
IsDeleting (a_commit_end t) = ⊥

abbrev pub IsRollingBack : Added → Type 0
IsRollingBack (an_update u) = ⊥
IsRollingBack (a_deletion g) = ⊥
IsRollingBack (a_rollback t) = Unit {0}
IsRollingBack (a_compensation u cell) = ⊥
IsRollingBack (an_undone_end t) = ⊥
IsRollingBack (a_commit_end t) = ⊥

abbrev pub IsCompensating : Added → Type 0
IsCompensating (an_update u) = ⊥
IsCompensating (a_deletion g) = ⊥
IsCompensating (a_rollback t) = ⊥
IsCompensating (a_compensation u cell) = Unit {0}
IsCompensating (an_undone_end t) = ⊥
IsCompensating (a_commit_end t) = ⊥

-- an end of a commit, or of an abort
abbrev pub IsEnding : Bool → Added → Type 0
IsEnding commits (an_update u) = ⊥
IsEnding commits (a_deletion g) = ⊥
IsEnding commits (a_rollback t) = ⊥
IsEnding commits (a_compensation u cell) = ⊥
IsEnding commits (an_undone_end t) = commits ≡ false
IsEnding commits (a_commit_end t) = commits ≡ true

-- nothing is under way yet, or such an append
pub data IsAppending (kind : Added → Type 0) (u : UnderWay) : Type 0 where
  waits : u ≡ nothing → IsAppending kind u
  appends_it : (adding : Adding) (made : ℕ) → u ≡ appends adding made → kind adding.added → IsAppending kind u

-- it has a number, and its end isn't fenced, nor stored where nothing is under way
pub record IsGoingOn (u : UnderWay) (x : Txn) : Type 0 where
  pub some : 1 ≤ x.number
  pub runs : x.over ≡ false
  pub unended : u ≡ nothing → x.ended ≡ false

-- each of its writes has its update, and is stored
pub record IsWritten (x : Txn) : Type 0 where
  pub stored_all : x.stored ≡ length x.writes
  pub updates_all : length x.updates ≡ length x.writes
  pub unrolled : x.rolled ≡ false

pub record IsBetween (u : UnderWay) (x : Txn) : Type 0 where
  pub rests : u ≡ nothing
  pub going : IsGoingOn u x
  pub written : IsWritten x

pub record IsLeaving (log : Log) (u : UnderWay) (x : Txn) : Type 0 where
  pub between : IsBetween u x
  pub unwritten : x.writes ≡ []
  pub no_record : HasNo (IsOf x.number) log

pub record IsNaming (u : UnderWay) (x : Txn) : Type 0 where
  pub going : IsGoingOn u x
  pub last_waits : x.stored + 1 ≡ length x.writes
  pub updates_are : length x.updates ≡ x.stored
  pub unrolled : x.rolled ≡ false
  pub under_way : IsAppending IsUpdating u

pub record IsStoring (u : UnderWay) (x : Txn) : Type 0 where
  pub rests : u ≡ nothing
  pub going : IsGoingOn u x
  pub last_waits : x.stored + 1 ≡ length x.writes
  pub updates_all : length x.updates ≡ length x.writes
  pub unrolled : x.rolled ≡ false

pub record IsGiving (u : UnderWay) (x : Txn) : Type 0 where
  pub going : IsGoingOn u x
  pub written : IsWritten x
  pub under_way : IsAppending IsDeleting u

pub record IsOpening (u : UnderWay) (x : Txn) : Type 0 where
  pub going : IsGoingOn u x
  pub written : IsWritten x
  pub under_way : IsAppending IsRollingBack u

-- an update is left, whose compensation is appended
pub record IsUndoing (u : UnderWay) (x : Txn) : Type 0 where
  pub going : IsGoingOn u x
  pub rolled : x.rolled ≡ true
  pub some : 1 ≤ length x.updates
  pub stored_are : x.stored ≡ length x.updates
  pub under_way : IsAppending IsCompensating u

-- the word whose update was compensated last stands yet
pub record IsTakingBack (u : UnderWay) (x : Txn) : Type 0 where
  pub rests : u ≡ nothing
  pub going : IsGoingOn u x
  pub rolled : x.rolled ≡ true
  pub one_more : x.stored ≡ length x.updates + 1

pub record IsKeeping (u : UnderWay) (x : Txn) : Type 0 where
  pub rests : u ≡ nothing
  pub going : IsGoingOn u x
  pub rolled : x.rolled ≡ true
  pub none_left : x.updates ≡ []
  pub none_stored : x.stored ≡ 0

-- All that it wrote, or took back, is kept.
pub record IsEndingIt (u : UnderWay) (x : Txn) : Type 0 where
  pub going : IsGoingOn u x
  pub fenced : x.fenced ≡ true
  pub stored_are : x.stored ≡ length x.updates
  pub commits_all : x.commits ≡ true → length x.updates ≡ length x.writes
  pub undone_all : x.commits ≡ false → x.updates ≡ []
  pub rolled_is : x.commits ≡ false → x.rolled ≡ true
  pub under_way : IsAppending (IsEnding x.commits) u

-- its end is fenced, and nothing of its words waits
pub record IsOverNow (x : Txn) : Type 0 where
  pub some : 1 ≤ x.number
  pub is_over : x.over ≡ true
  pub fenced : x.fenced ≡ true

pub record IsClosingNow (u : UnderWay) (x : Txn) : Type 0 where
  pub over : IsOverNow x
  pub gates : List ℕ
  pub made : ℕ
  pub under_way : u ≡ closes gates [] made

-- the log has its end alone
abbrev pub AreEndsAlone : ℕ → Log → Type 0
AreEndsAlone t log = (r : Record) → IsAmong log r → IsOf t r → IsEnd r

-- the gates are those of all its records
pub record IsClosingEndNow (log : Log) (u : UnderWay) (x : Txn) : Type 0 where
  pub over : IsOverNow x
  pub ends_alone : AreEndsAlone x.number log
  pub ends : List ℕ
  pub made : ℕ
  pub under_way : u ≡ closes [] ends made
  pub all_listed : (r : Record) → IsAmong log r → IsOf x.number r → IsAmong ends r.at

pub record IsDroppingNow (log : Log) (u : UnderWay) (x : Txn) : Type 0 where
  pub over : IsOverNow x
  pub no_record : HasNo (IsOf x.number) log
  pub removed : Remove
  pub made : ℕ
  pub under_way : u ≡ drops removed made

-- so it is at each stage
abbrev pub IsCome : Log → UnderWay → Txn → Stage → Type 0
IsCome log u x Free = (x ≡ idle) × (u ≡ nothing)
IsCome log u x Between = IsBetween u x
IsCome log u x Leaving = IsLeaving log u x
IsCome log u x Naming = IsNaming u x
IsCome log u x Storing = IsStoring u x
IsCome log u x Deleting = IsGiving u x
IsCome log u x Securing = IsBetween u x
IsCome log u x Opening = IsOpening u x
IsCome log u x Undoing = IsUndoing u x
IsCome log u x TakingBack = IsTakingBack u x
IsCome log u x Keeping = IsKeeping u x
IsCome log u x Ending = IsEndingIt u x
IsCome log u x Closing = IsClosingNow u x
IsCome log u x ClosingEnd = IsClosingEndNow log u x
IsCome log u x Dropping = IsDroppingNow log u x
IsCome log u x Unbuilt = ⊥

-- ---- the world

-- what lane l has under way in its partition
abbrev pub under_of : Shape → World → ℕ → UnderWay
under_of shape w l = under_by w (l % shape.partitions) l

-- where the update of its last write isn't appended, two cells are promised, and there is a place for it
pub record WaitsToAppend {E : Type 0} (lane : Lane E) : Type 0 where
  pub promised : 2 ≤ lane.promised
  pub place : has_room 1 lane.updates

-- The lane's transaction is x, as far as its call has come; its words are those of the lane's blocks and of those that it gave, whose deletions are its
-- gifts; it writes data words, and owner words of blocks that it takes; and its book has a record where the newest log has one, which isn't its end, and
-- none without a transaction. Before its rollback record is there, no update of it is compensated. For now no transaction that gave a block comes to its end.
pub record IsLaneOf {E : Type 0} (layout : Layout) (blocks : List Standing) (log newest : Log) (u : UnderWay) (p : ℕ) (lane : Lane E) (x : Txn) : Type 0 where
  pub txn : IsTxnOf (layout_shape layout) p lane u x
  pub come : IsCome log u x (stage_of lane)
  pub given : HasGiven layout blocks lane.held lane.gives.items lane.gates.items (noticed (layout_shape layout) p u x).gifts x.words
  pub counts : length lane.gives.items ≡ length x.gifts + due_by lane.doing
  pub deleting : DeletesNext layout u lane
  pub ends_ungiven : ends lane.doing ≡ true → lane.gives.items ≡ []
  pub written_words : (w : WordWrite) → IsAmong lane.writes.items w → IsWrittenWord (layout_shape layout) w.address
  pub taking : TakesNext layout lane
  pub naming : stage_of lane ≡ Naming → length lane.updates.items ≡ lane.stored → WaitsToAppend lane
  pub recorded : 1 ≤ x.number → has_of x.number newest ≡ true → lane.has_records ≡ true
  pub begun : lane.has_records ≡ true → 1 ≤ x.number
  pub has_some : 1 ≤ x.number → lane.has_records ≡ true → x.over ≡ false → Has (λ r. IsOf x.number r × (IsEnd r → ⊥)) newest
  pub uncompensated : lane.rolled ≡ false → 1 ≤ x.number → x.over ≡ false → HasNo (λ r. IsOf x.number r × IsCompensation r) newest

-- A latch is held only where something is under way, an event of which is left, by a lane that appends there.
pub record AreHeld (shape : Shape) (w : World) : Type 0 where
  pub free : (p : ℕ) → p < shape.partitions → w.keeping.holder p ≡ NOBODY → w.under p ≡ nothing
  pub busy : (p : ℕ) → p < shape.partitions → w.keeping.holder p ≢ NOBODY → w.under p ≢ nothing
  pub unfinished : (p : ℕ) → p < shape.partitions → w.keeping.holder p ≢ NOBODY → (w.keeping.runs p).made < length (plan_in shape w.keeping p)
  pub lane : (p : ℕ) → p < shape.partitions → w.keeping.holder p ≢ NOBODY → w.keeping.holder p < length w.lanes
  pub here : (p : ℕ) → p < shape.partitions → w.keeping.holder p ≢ NOBODY → w.keeping.holder p % shape.partitions ≡ p

-- The book and the keeper are the plain world's.
pub record IsTied {E : Type 0} (layout : Layout) (book : Book E) (keeper : LogKeeper) (s : State) (w : World) : Type 0 where
  pub keeping : w.keeping ≡ keeping_of keeper
  pub next : w.next ≡ keeper.next_lsn
  pub slots : length keeper.slots.items ≡ layout.partitions
  pub lanes : length w.lanes ≡ length book.lanes.items
  pub history : w.history ≡ map plain_entry book.history.items
  pub held : AreHeld (layout_shape layout) w
  pub each : (l : ℕ) → l < length w.lanes →
      IsLaneOf layout book.blocks s.log (newest_log w.keeping.ledger) (under_of (layout_shape layout) w l) (l % layout.partitions) (lane_at book l) (txn_at w.lanes l)
  pub fresh : (l : ℕ) → (txn_at w.lanes l).number < book.next_transaction
