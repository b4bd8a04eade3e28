-- The scripts that the program runs so far: puts on one map of cells, by one lane, under force with a simple log.
use Rattle.std.specs.Prelude.{List, [], ◌∷◌, length, Bool, true, false, not, ◌&&◌, ◌==◌, nat_le}
use Rattle.std.specs.List.{list_all}
use Rattle.region_layout.specs.declared.layout.Policy.{Policy}
use Rattle.region_layout.specs.declared.layout.Policy.TheVariants.{Force, NoForce}
use Rattle.region_layout.specs.declared.layout.Kind.{Kind}
use Rattle.region_layout.specs.declared.layout.Kind.TheVariants.{Cells}
use Rattle.rewind_script.specs.declared.script.Item.{Item}
use Rattle.rewind_script.specs.declared.script.Item.TheVariants as item
use Rattle.rewind_script.specs.declared.script.Command.{Command}
use Rattle.rewind_script.specs.declared.script.Command.TheVariants as command
use Rattle.rewind_script.specs.declared.script.LaneText.{LaneText}
use Rattle.rewind_script.specs.declared.script.Script.{Script}

abbrev pub is_force : Policy → Bool
is_force Force = true
is_force NoForce = false

abbrev pub is_one_cells : List Kind → Bool
is_one_cells (Cells ∷ []) = true
is_one_cells _ = false

abbrev pub is_put : Command → Bool
is_put (command.Put map key value) = true
is_put _ = false

-- puts that are committed
abbrev pub is_served_item : Item → Bool
is_served_item (item.Transaction set commands commit) = commit && list_all is_put commands
is_served_item item.Checkpoint = false

abbrev pub is_served_lane : LaneText → Bool
is_served_lane lane = list_all is_served_item lane.items

abbrev pub has_served_region : Script → Bool
has_served_region script =
    is_force script.layout.policy && script.layout.cells == 1 && script.layout.partitions == 1 && not script.batch && is_one_cells script.kinds

abbrev pub has_served_lanes : Script → Bool
has_served_lanes script = length script.turns == 0 && nat_le (length script.lanes) 1 && list_all is_served_lane script.lanes

abbrev pub is_served : Script → Bool
is_served script = has_served_region script && has_served_lanes script
