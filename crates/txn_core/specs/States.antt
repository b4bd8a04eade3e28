-- What a world keeps between its calls.
use Rattle.std.specs.Prelude.{ℕ, List, take, slice_index}
use Rattle.persist_model.specs.Region.{Words, Region}
use Rattle.persist_model.specs.Shape.{heap, heap_words}
use Rattle.lane_traits.specs.Device.{Counts}
use Rattle.region_layout.specs.declared.layout.Layout.{Layout}
use Rattle.region_layout.specs.Layout.{layout_shape}
use Rattle.lane_types.specs.Deeds.{Deeds}
use Rattle.lane_types.specs.Faces.{Base}
use Rattle.lane_book.specs.declared.book.Book.{Book}
use Rattle.txn_core.specs.LawfulWorlds.{IsLawfulWorld}
use Rattle.log_keeper.specs.declared.keeper.LogKeeper.{LogKeeper}
use Rattle.txn_state.specs.States.{IsStateOf}

-- What stood where the world began: the words, the counts, and what the deeds have in common.
abbrev pub base_of : Layout → List ℕ → List ℕ → Counts → Base
base_of layout sorts words counts = record {
  sorts = sorts;
  structures = layout.structures;
  header = take 32 words;
  heap = record { start = heap (layout_shape layout); blocks = layout.blocks; at = slice_index words };
  counts = counts;
}

-- its heap's words
abbrev pub start_of : Layout → Base → Words
start_of layout base = heap_words (layout_shape layout) base.heap.at

-- Book, keeper and device are a state whose history began there, and the history is lawful.
pub record IsWorld {E : Type 0} (deeds : Deeds E) (layout : Layout) (base : Base) (book : Book E) (keeper : LogKeeper) (region : Region) (spare events : ℕ) : Type 0 where
  pub state : IsStateOf layout (start_of layout base) book keeper region spare events
  pub lawful : IsLawfulWorld deeds layout base book

abbrev pub IsKept : {E : Type 0} → Deeds E → Layout → Base → Book E → LogKeeper → Region → ℕ → Counts → Type 0
IsKept deeds layout base book keeper region spare counts = ∥ IsWorld deeds layout base book keeper region spare counts.events ∥₁

-- such a state, whatever stood at the start
abbrev pub HasWorld : {E : Type 0} → Deeds E → Layout → Book E → LogKeeper → Region → ℕ → Counts → Type 0
HasWorld deeds layout book keeper region spare counts = ∥ ((base : Base) × IsWorld deeds layout base book keeper region spare counts.events) ∥₁
