use Rattle.std.proofs.Common.{◌≡◌, take}
use Rattle.map_deeds.specs.HistoryLaw.{names_of}
use Rattle.map_deeds.proofs.reports.names_of_entries.Given as goal

abbrev pub invariant-loop-entry : goal.invariant-loop-entry
invariant-loop-entry l = l.names ≡ names_of (take l.entry-index l.entries)
