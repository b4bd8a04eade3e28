use Rattle.std.proofs.Common.{◌≡◌, take}
use Rattle.std.specs.Prelude.{min}
use Rattle.std.specs.List.{sum_by}
use Rattle.map_deeds.specs.Weights.{command_cells}
use Rattle.map_deeds.proofs.weights.cells_of_commands.Given as goal

abbrev pub invariant-loop-command : goal.invariant-loop-command
invariant-loop-command l = l.sum ≡ min (sum_by (command_cells l.batch l.kinds) (take l.command-index l.commands)) 18446744073709551615
