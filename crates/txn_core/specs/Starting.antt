-- Where a world begins.
use Rattle.std.specs.Prelude.{◌≡◌, ◌≢◌, ℕ, List, length, slice_index}
use Rattle.persist_model.specs.Region.{Region}
use Rattle.persist_model.specs.Shape.{shape_of}
use Rattle.persist_model.specs.Sound.{IsSound}
use Rattle.lane_traits.specs.Device.{Counts}
use Rattle.region_layout.specs.declared.layout.Layout.{Layout}
use Rattle.region_layout.specs.Layout.{layout_shape}
use Rattle.recovery_passes.specs.Recovered.{IsFinished}
use Rattle.offset_alloc.specs.Blocks.{AreAsOwned}
use Rattle.lane_types.specs.Deeds.{Deeds}
use Rattle.lane_book.specs.declared.book.Book.{Book}
use Rattle.lane_book.specs.Books.{IsBook, IsFresh}
use Rattle.log_keeper.specs.declared.keeper.LogKeeper.{LogKeeper}
use Rattle.txn_state.specs.StartLaw.{IsFreshKeeper}
use Rattle.txn_core.specs.States.{base_of, IsKept}

-- where the words are sound, their policy is force
abbrev pub IsForced : List ℕ → Type 0
IsForced words = IsSound (length words) (slice_index words) → (shape_of (slice_index words)).policy ≢ 2

-- So many lanes have done nothing, the blocks stand as the owner words tell, and the log has no record.
pub record Prepares {E : Type 0} (lanes : ℕ) (sorts words : List ℕ) (layout : Layout) (book : Book E) (log : LogKeeper) : Type 0 where
  pub fresh : IsFresh lanes book.blocks sorts book
  pub many : length book.blocks ≡ layout.blocks
  pub owned : AreAsOwned (layout_shape layout) (slice_index words) book.blocks
  pub kept : IsBook book
  pub unused : IsFreshKeeper layout log

-- The words are recovered, the layout is theirs, and with these parts the device is a state whose history begins at its words.
pub record Starts {E : Type 0} (deeds : Deeds E) (lanes : ℕ) (sorts words : List ℕ) (region : Region) (spare : ℕ) (counts : Counts) (layout : Layout) (book : Book E) (log : LogKeeper) : Type 0 where
  pub finished : IsFinished (length words) (slice_index words)
  pub shape : layout_shape layout ≡ shape_of (slice_index words)
  pub prepared : Prepares lanes sorts words layout book log
  pub stands : IsKept deeds layout (base_of layout sorts words counts) book log region spare counts
