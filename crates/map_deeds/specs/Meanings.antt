-- What a deed means: its commands, on the maps that its structures hold.
use Rattle.std.specs.Prelude.{◌≡◌, ℕ, ◌+◌, ◌*◌, nat_lt, Bool, true, if◌then◌else◌, List, map, Option}
use Rattle.std.specs.List.{slice_index_or}
use Rattle.persist_model.specs.Region.{Words}
use Rattle.lane_types.specs.Deeds.{Deeds}
use Rattle.lane_types.specs.Heaps.{Heap, has_bit}
use Rattle.region_layout.specs.declared.layout.Kind.{Kind}
use Rattle.region_layout.specs.declared.layout.Kind.TheVariants.{Cells}
use Rattle.region_layout.specs.Layout.{kind_number}
use Rattle.region_layout.specs.Contents.{IsMapOf}
use Rattle.rewind_script.specs.declared.script.Command.{Command}
use Rattle.map_deeds.specs.Maps.{Maps, after_transaction, replies_in}
use Rattle.map_deeds.specs.declared.deed.Done.{Done}
use Rattle.map_deeds.specs.declared.deed.MapDeed.{MapDeed}

abbrev pub command_of : Done → Command
command_of step = step.command

abbrev pub got_of : Done → Option ℕ
got_of step = step.got

abbrev pub commands_of : List Done → List Command
commands_of steps = map command_of steps

abbrev pub gots_of : List Done → List (Option ℕ)
gots_of steps = map got_of steps

-- the words of the heap, and 0 past its end
abbrev pub words_of : Heap → Words
words_of heap = λ a. if nat_lt a (heap.start + 16 * heap.blocks) then heap.at a else 0

abbrev pub kind_at : List Kind → ℕ → Kind
kind_at kinds s = slice_index_or kinds s Cells

-- the structures that the test picks are maps of their kinds, with these contents
abbrev pub HoldMaps : (ℕ → Bool) → List Kind → Heap → Maps → Type 0
HoldMaps picks kinds heap maps = (s : ℕ) → picks s ≡ true → IsMapOf (kind_at kinds s) heap.start (words_of heap) s (maps s)

-- The structures that the deed names are maps of its kinds, before and after. Its commands, in order, on the contents before
-- give its replies and the contents after.
pub record Means (deed : MapDeed) (before after : Heap) : Type 0 where
  pub maps : Maps
  pub before_are : HoldMaps (has_bit deed.set) deed.kinds before maps
  pub after_are : HoldMaps (has_bit deed.set) deed.kinds after (after_transaction maps (commands_of deed.steps))
  pub replies_are : gots_of deed.steps ≡ replies_in maps (commands_of deed.steps)

abbrev pub sorts_of : List Kind → List ℕ
sorts_of kinds = map kind_number kinds

abbrev pub map_deeds : Deeds MapDeed
map_deeds = record { means = Means; names = λ deed. deed.set; sorts = λ deed. sorts_of deed.kinds }
