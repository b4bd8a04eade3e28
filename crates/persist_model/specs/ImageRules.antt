-- The rules of an image, by the numbers that a report names.
use Rattle.std.specs.Prelude.{ℕ}
use Rattle.persist_model.specs.declared.rules.ImageRule.{ImageRule}
use Rattle.persist_model.specs.declared.rules.ImageRule.TheVariants.{Magic, Policy, Cells, Sizes, Address, List, Record, Order, Room, Map}

abbrev pub MAGIC_RULE : ℕ
MAGIC_RULE = 1

abbrev pub POLICY_RULE : ℕ
POLICY_RULE = 2

abbrev pub CELLS_RULE : ℕ
CELLS_RULE = 3

abbrev pub SIZES_RULE : ℕ
SIZES_RULE = 4

abbrev pub ADDRESS_RULE : ℕ
ADDRESS_RULE = 5

abbrev pub LIST_RULE : ℕ
LIST_RULE = 6

abbrev pub RECORD_RULE : ℕ
RECORD_RULE = 7

abbrev pub ORDER_RULE : ℕ
ORDER_RULE = 8

abbrev pub ROOM_RULE : ℕ
ROOM_RULE = 9

-- no rule of a sound image: each structure of a recovered image is to be a map
abbrev pub MAP_RULE : ℕ
MAP_RULE = 10

abbrev pub rule_number : ImageRule → ℕ
rule_number Magic = MAGIC_RULE
rule_number Policy = POLICY_RULE
rule_number Cells = CELLS_RULE
rule_number Sizes = SIZES_RULE
rule_number Address = ADDRESS_RULE
rule_number List = LIST_RULE
rule_number Record = RECORD_RULE
rule_number Order = ORDER_RULE
rule_number Room = ROOM_RULE
rule_number Map = MAP_RULE
