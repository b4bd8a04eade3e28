-- The words of a fresh region.
use Rattle.std.specs.Prelude.{◌≡◌, ℕ, ◌+◌, ◌-◌, ◌*◌, ◌/◌, ◌%◌, ◌==◌, ◌&&◌, nat_lt, nat_le, if◌then◌else◌, List, [], length, map, slice_index, slice_index_or}
use Rattle.std.specs.List.{range_with_len}
use Rattle.persist_model.specs.Region.{Words}
use Rattle.persist_model.specs.Shape.{Shape, FIRST_MAGIC, SECOND_MAGIC, shape_of, heap, words_of_shape, log_words, heap_words, count_buckets}
use Rattle.persist_model.specs.State.{State}
use Rattle.persist_model.specs.Sound.{HaveChains, HasState, IsSound, room_of}
use Rattle.region_layout.specs.declared.layout.Kind.{Kind}
use Rattle.region_layout.specs.declared.layout.Kind.TheVariants.{Cells}
use Rattle.region_layout.specs.Layout.{kind_number, IsAllowed}

abbrev pub magic_of : ℕ → ℕ
magic_of format = if format == 2 then SECOND_MAGIC else FIRST_MAGIC

-- what the header has in format 2 alone: the number of partitions, and the kind of each structure from word 13 on
abbrev pub second_word : Shape → List Kind → ℕ → ℕ
second_word shape kinds a =
    if a == 6 then shape.partitions else
    (if nat_le 13 a && nat_lt a (13 + shape.structures) then kind_number (slice_index_or kinds (a - 13) Cells) else 0)

abbrev pub header_word : Shape → List Kind → ℕ → ℕ
header_word shape kinds a =
    if a == 0 then magic_of shape.format else
    (if a == 1 then shape.policy else
    (if a == 2 then shape.cells else
    (if a == 3 then shape.buckets else
    (if a == 4 then shape.blocks else
    (if a == 5 then shape.structures else
    (if shape.format == 2 then second_word shape kinds a else 0))))))

-- the word at this offset in the heap: structure s has block s as its root, whose owner is s + 1
abbrev pub root_word : Shape → ℕ → ℕ
root_word shape offset = if (offset % 16 == 0) && nat_lt (offset / 16) shape.structures then offset / 16 + 1 else 0

-- The header, the owners of the roots, and 0 elsewhere.
abbrev pub fresh_word : Shape → List Kind → ℕ → ℕ
fresh_word shape kinds a =
    if nat_lt a 32 then header_word shape kinds a else
    (if nat_lt a (heap shape) then 0 else root_word shape (a - heap shape))

unfoldable pub fresh_words : Shape → List Kind → List ℕ
fresh_words shape kinds = map (fresh_word shape kinds) (range_with_len 0 (words_of_shape shape))

-- no record, and the room of empty chains
abbrev pub empty_state : Shape → Words → State
empty_state shape w = record { log = []; words = heap_words shape w; room = λ p. room_of shape (log_words shape w) p [] }

-- The words of an empty region of this shape.
pub record IsEmptyRegion (shape : Shape) (w : Words) : Type 0 where
  pub shape_is : shape_of w ≡ shape
  pub sound : IsSound (words_of_shape shape) w
  pub chains : HaveChains shape w (λ p. [])
  pub state : HasState shape w (empty_state shape w)
  pub room : (p : ℕ) → room_of shape (log_words shape w) p [] ≡ shape.cells * count_buckets shape p

abbrev pub FreshIsEmpty : Type 0
FreshIsEmpty = (shape : Shape) (kinds : List Kind) → IsAllowed shape → length kinds ≡ shape.structures
    → IsEmptyRegion shape (slice_index (fresh_words shape kinds))
