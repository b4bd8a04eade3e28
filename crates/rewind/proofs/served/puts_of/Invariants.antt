use Rattle.std.proofs.Common.{◌≡◌, take}
use Rattle.std.specs.List.{flat_map}
use Rattle.rewind.specs.Served.{put_of}
use Rattle.rewind.proofs.served.puts_of.Given as goal

abbrev pub invariant-loop-command : goal.invariant-loop-command
invariant-loop-command l = l.puts ≡ flat_map put_of (take l.command-index l.commands)
