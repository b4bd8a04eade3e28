use Rattle.std.proofs.Common.{◌≡◌, map, reverse, sym, subst}
use Rattle.bucket_log.specs.Scans.{record_of_placed}
use Rattle.rest_check.proofs.resting.check_rest.Goals as goal

pub unrested-requires-clause-records : goal.unrested-requires-clause-records
unrested-requires-clause-records g c = λ s has. subst (λ xs. reverse (map record_of_placed xs) ≡ s.log) (sym c.as_slice.ensures) (c.in-Ok.ensures.records s has)
