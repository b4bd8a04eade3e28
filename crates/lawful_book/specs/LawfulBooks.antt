-- What a book keeps so that its history stays lawful, over the heap that stood at the start.
use Rattle.std.specs.Prelude.{◌≡◌, ◌≢◌, ℕ, ◌+◌, ◌^◌, ◌<◌, ◌≤◌, Bool, true, false, ◌&&◌, List, [], ◌∷◌, length, Some, None}
use Rattle.std.specs.List.{filter}
use Rattle.persist_model.specs.Shape.{heap}
use Rattle.lane_traits.specs.declared.draft.WordWrite.{WordWrite}
use Rattle.region_layout.specs.declared.layout.Layout.{Layout}
use Rattle.region_layout.specs.Layout.{layout_shape}
use Rattle.offset_alloc.specs.Blocks.{AreAsOwned}
use Rattle.lane_types.specs.declared.call.Phase.{Phase}
use Rattle.lane_types.specs.declared.face.Entry.{Entry}
use Rattle.lane_types.specs.Deeds.{Deeds}
use Rattle.lane_types.specs.Heaps.{Heap, AreAlike, has_bit, is_data, is_owned, owner_word, block_of, with_writes}
use Rattle.lane_types.specs.Histories.{Lawful, HaveSorts, fold}
use Rattle.lane_types.specs.Faces.{Base}
use Rattle.lane_types.specs.May.{AreData}
use Rattle.lane_book.specs.declared.lane.Lane.{Lane}
use Rattle.lane_book.specs.declared.lane.Doing.{Doing}
use Rattle.lane_book.specs.declared.book.Book.{Book}
use Rattle.lane_book.specs.FacesOf.{lane_at, is_of, begun_heap}
use Rattle.lane_book.specs.Owed.{sum_of}

-- ---- words

-- a data word of a block that the set owns in the heap
abbrev pub is_word_of : ℕ → Heap → ℕ → Bool
is_word_of set heap a = is_data heap a && is_owned set heap (owner_word heap) (block_of heap a)

abbrev pub AreWordsOf : ℕ → Heap → List WordWrite → Type 0
AreWordsOf set heap [] = Unit {0}
AreWordsOf set heap (w ∷ writes) = (is_word_of set heap w.address ≡ true) × AreWordsOf set heap writes

-- ---- entries

abbrev pub Each : {X : Type 0} → (X → Type 0) → List X → Type 0
Each P [] = Unit {0}
Each P (x ∷ xs) = P x × Each P xs

-- An entry of the history is of a transaction that has begun. For now no commit takes or gives a block: it writes data words.
pub record IsPast {E : Type 0} (heap : Heap) (next : ℕ) (e : Entry E) : Type 0 where
  pub begun : e.transaction < next
  pub data_writes : AreData heap e.writes

-- Of a lane that has begun so many transactions and runs this one, or 0 where it runs none: its entries have lower numbers, and
-- until its entry joins none is of the one that it runs.
pub record IsBefore {E : Type 0} (l begun transaction : ℕ) (entered : Bool) (e : Entry E) : Type 0 where
  pub counted : e.lane ≡ l → e.number < begun
  pub older : transaction ≢ 0 → entered ≡ false → e.lane ≡ l → e.number + 1 < begun
  pub differs : transaction ≢ 0 → entered ≡ false → e.transaction ≢ transaction

-- The entry of a commit in progress, which hasn't joined: it is the running transaction's, and does to the heap at the begin what its
-- deed means.
pub record IsComing {E : Type 0} (deeds : Deeds E) (base : Base) (begun : Heap) (l : ℕ) (lane : Lane E) (e : Entry E) : Type 0 where
  pub some : lane.transaction ≢ 0
  pub new : lane.entered ≡ false
  pub call : lane.doing ≡ Doing.Commit
  pub lane_is : e.lane ≡ l
  pub number : lane.begun ≡ e.number + 1
  pub transaction : e.transaction ≡ lane.transaction
  pub writes : e.writes ≡ lane.writes.items
  pub names : deeds.names e.deed ≡ lane.held
  pub sorts : deeds.sorts e.deed ≡ base.sorts
  pub means : ∥ deeds.means e.deed begun (with_writes e.writes begun) ∥₁

-- ---- lanes

-- the lane is in a transaction, or about a call that is asked in one
abbrev pub is_inside : Phase → Doing → Bool
is_inside Phase.Out doing = false
is_inside Phase.In doing = true
is_inside Phase.Calling Doing.Nothing = false
is_inside Phase.Calling (Doing.Begin set) = false
is_inside Phase.Calling Doing.Checkpoint = false
is_inside Phase.Calling (Doing.Read a) = true
is_inside Phase.Calling (Doing.Write a v) = true
is_inside Phase.Calling (Doing.Take s block) = true
is_inside Phase.Calling (Doing.Give block) = true
is_inside Phase.Calling Doing.Commit = true
is_inside Phase.Calling Doing.Abort = true
is_inside Phase.Calling (Doing.Batch n) = true
is_inside Phase.Calling Doing.Savepoint = true
is_inside Phase.Calling (Doing.RollbackTo n) = true

-- A lane has begun no more transactions than it may, and has a commit for none that it runs.
pub record AreCounted (begun commits transaction : ℕ) (entered : Bool) : Type 0 where
  pub few : begun ≤ 2 ^ 59
  pub most : commits ≤ begun
  pub less : transaction ≢ 0 → entered ≡ false → commits < begun

-- what a begin asks for it may
pub record MayTake (structures begun set : ℕ) : Type 0 where
  pub inside : set < 2 ^ structures
  pub few : begun < 2 ^ 59

-- What a lane holds is as at its begin until its entry joins, and then as its own writes left it, since no other lane writes it. For
-- now it gives no block and writes data words of its own alone, so that the owner words are those of the start.
pub record IsLawfulLane {E : Type 0} (deeds : Deeds E) (base : Base) (history : List (Entry E)) (next l : ℕ) (lane : Lane E) : Type 0 where
  pub inside : lane.held < 2 ^ base.structures
  pub no_gives : lane.gives.items ≡ []
  pub own_writes : AreWordsOf lane.held base.heap lane.writes.items
  pub own_read : (a : ℕ) → lane.doing ≡ Doing.Read a → is_word_of lane.held base.heap a ≡ true
  pub own_set : (set : ℕ) → lane.doing ≡ Doing.Begin set → MayTake base.structures lane.begun set
  pub alike : lane.entered ≡ false → AreAlike lane.held (begun_heap base history lane) (fold base.heap history)
  pub alike_joined : lane.entered ≡ true → AreAlike lane.held (with_writes lane.writes.items (begun_heap base history lane)) (fold base.heap history)
  pub begun : lane.transaction < next
  pub counts : AreCounted lane.begun lane.commits lane.transaction lane.entered
  pub running : is_inside lane.phase lane.doing ≡ true → lane.transaction ≢ 0
  pub entering : lane.entered ≡ true → lane.doing ≡ Doing.Commit
  pub before : Each (IsBefore l lane.begun lane.transaction lane.entered) history
  pub has_entry : lane.doing ≡ Doing.Commit → lane.entered ≡ false → lane.entry ≢ None
  pub has_joined : lane.entered ≡ true → filter (is_of l) history ≢ []
  pub coming : (e : Entry E) → lane.entry ≡ Some e → IsComing deeds base (begun_heap base history lane) l lane e

-- ---- the book

-- The heap that stood at the start is that of the layout.
pub record IsHeapOf (layout : Layout) (base : Base) : Type 0 where
  pub start : base.heap.start ≡ heap (layout_shape layout)
  pub blocks : base.heap.blocks ≡ layout.blocks
  pub structures : base.structures ≡ layout.structures
  pub few : base.structures ≤ 8

-- no structure is held by two lanes
abbrev pub AreApart : {E : Type 0} → Book E → Type 0
AreApart book = (l k s : ℕ) → l ≢ k → has_bit (lane_at book l).held s ≡ true → has_bit (lane_at book k).held s ≡ false

-- no transaction is of two lanes
abbrev pub AreOfOne : {E : Type 0} → Book E → Type 0
AreOfOne book = (l k : ℕ) → l ≢ k → (lane_at book l).transaction ≢ 0 → (lane_at book l).transaction ≢ (lane_at book k).transaction

pub record IsLawfulBook {E : Type 0} (deeds : Deeds E) (layout : Layout) (base : Base) (book : Book E) : Type 0 where
  pub place : IsHeapOf layout base
  pub many : length book.blocks ≡ layout.blocks
  pub owners : AreAsOwned (layout_shape layout) base.heap.at book.blocks
  pub lawful : ∥ Lawful deeds base.heap book.history.items ∥₁
  pub sorts : HaveSorts deeds base.sorts book.history.items
  pub past : Each (IsPast base.heap book.next_transaction) book.history.items
  pub numbers : book.next_transaction ≡ sum_of (λ lane. lane.begun) book + 1
  pub lanes : (l : ℕ) → IsLawfulLane deeds base book.history.items book.next_transaction l (lane_at book l)
  pub apart : AreApart book
  pub of_one : AreOfOne book
