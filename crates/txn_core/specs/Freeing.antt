-- What an abort gives back: the blocks that its transaction took.
use Rattle.std.specs.Prelude.{ℕ, ◌-◌, ◌%◌, ◌==◌, Bool, true, false, if◌then◌else◌, List, [], ◌∷◌, slice_set}
use Rattle.persist_model.specs.Shape.{heap}
use Rattle.lane_traits.specs.declared.draft.WordWrite.{WordWrite}
use Rattle.region_layout.specs.declared.layout.Layout.{Layout}
use Rattle.region_layout.specs.Layout.{layout_shape}
use Rattle.offset_alloc.specs.declared.Standing.{Standing}
use Rattle.offset_alloc.specs.declared.Standing.TheVariants.{Free}
use Rattle.lane_book.specs.declared.book.Book.{Book}
use Rattle.lane_book.specs.declared.lane.Lane.{Lane}
use Rattle.lane_book.specs.Refusals.{block_in}

-- the heap word is the owner word of its block
abbrev pub is_owner : Layout → ℕ → Bool
is_owner layout a = ((a - heap (layout_shape layout)) % 16) == 0

-- where this is the owner word of a block, the block is free
abbrev pub freed_one : Layout → ℕ → List Standing → List Standing
freed_one layout a blocks = if is_owner layout a then slice_set blocks (block_in layout a) Free else blocks

-- each block whose owner word is among the writes is free
abbrev pub freed : Layout → List WordWrite → List Standing → List Standing
freed layout [] blocks = blocks
freed layout (w ∷ writes) blocks = freed layout writes (freed_one layout w.address blocks)

-- those of a transaction that ends so
abbrev pub blocks_left : {E : Type 0} → Layout → Bool → Lane E → List Standing → List Standing
blocks_left layout true lane blocks = blocks
blocks_left layout false lane blocks = freed layout lane.writes.items blocks

abbrev pub with_blocks : {E : Type 0} → List Standing → Book E → Book E
with_blocks blocks book = record book { blocks = blocks }
