use Rattle.map_deeds.proofs.Reporting.{reports_are_scripts}
use Rattle.map_deeds.proofs.laws.reports_are_scripts.Goals as goal

pub returns : goal.returns
returns c = reports_are_scripts
