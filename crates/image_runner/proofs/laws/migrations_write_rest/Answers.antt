use Rattle.image_runner.proofs.MigrationEnds.{writes_rest}
use Rattle.image_runner.proofs.laws.migrations_write_rest.Goals as goal

pub returns : goal.returns
returns c = writes_rest
