-- A world of lanes, as a value that several lanes use.
use Rattle.std.specs.Prelude.{ℕ, List, length, slice_index}
use Rattle.lane_types.specs.declared.call.Call.{Call}
use Rattle.lane_types.specs.Deeds.{Deeds}
use Rattle.lane_types.specs.Faces.{Base, WholeFace}
use Rattle.lane_types.specs.May.{May}
use Rattle.lane_types.specs.Seen.{Seen}
use Rattle.lane_book.specs.declared.book.Book.{Book}
use Rattle.lane_book.specs.FacesOf.{faces_of}
use Rattle.txn_core.specs.Asking.{IsBuilt}

-- the lanes of the book, over these words, where this stood at the start
abbrev pub seen_in : {E : Type 0} → List ℕ → Base → Book E → Seen E
seen_in words base book = record {
  lanes = length book.lanes.items;
  span = length words;
  word = slice_index words;
  touched = book.touched;
  faces = faces_of base book;
}

-- The call is one that is built, and the lane may ask it.
pub record MayAsk {E : Type 0} (deeds : Deeds E) (f : WholeFace E) (call : Call E) : Type 0 where
  pub built : IsBuilt call
  pub may : May deeds f call
