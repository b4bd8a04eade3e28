use Rattle.map_deeds.proofs.Reporting.{stop_reports_are_scripts}
use Rattle.map_deeds.proofs.laws.stop_reports_are_scripts.Goals as goal

pub returns : goal.returns
returns c = stop_reports_are_scripts
