use Rattle.std.proofs.Common.{◌≡◌, take}
use Rattle.map_deeds.specs.HistoryLaw.{gets_of}
use Rattle.map_deeds.proofs.reports.gets_of_steps.Given as goal

abbrev pub invariant-loop-step : goal.invariant-loop-step
invariant-loop-step l = l.gets ≡ gets_of (take l.step-index l.steps)
