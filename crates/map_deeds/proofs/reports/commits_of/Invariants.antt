use Rattle.std.proofs.Common.{◌≡◌, take, map}
use Rattle.map_deeds.specs.HistoryLaw.{printed_entry}
use Rattle.map_deeds.proofs.reports.commits_of.Given as goal

abbrev pub invariant-loop-entry : goal.invariant-loop-entry
invariant-loop-entry l = l.commits ≡ map printed_entry (take l.entry-index l.history)
