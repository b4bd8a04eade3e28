-- The words of a region, as one structure's reader shows them.
use Rattle.std.specs.Prelude.{ℕ, List, [], slice_index}
use Rattle.lane_traits.specs.Space.{Space}
use Rattle.region_layout.specs.HeapBlocks.{land_of}

abbrev pub space_of : ℕ → ℕ → List ℕ → Space
space_of heap structure words = record { land = land_of heap (slice_index words) structure; word = slice_index words; spare = []; writes = 0 }
