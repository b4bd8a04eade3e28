use Rattle.std.proofs.Common.{◌≡◌, ◌≤◌, drop}
use Rattle.rewind_script.specs.Commands.{live_after}
use Rattle.rewind_script.proofs.read.commands.standing.Given as goal

abbrev pub invariant-loop-command : goal.invariant-loop-command
invariant-loop-command l = (live_after l.live (drop l.command-index l.commands) ≡ live_after 0 l.commands) × (l.live ≤ l.command-index)
