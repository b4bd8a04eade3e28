-- What the tests' commits mean.
use Rattle.std.specs.Prelude.{[]}
use Rattle.lane_types.specs.Deeds.{Deeds}
use Rattle.world_tests.specs.declared.deed.Named.{Named}

abbrev pub no_meaning : Deeds Named
no_meaning = record { means = λ deed before after. Unit {0}; names = λ deed. deed.names; sorts = λ deed. [] }
