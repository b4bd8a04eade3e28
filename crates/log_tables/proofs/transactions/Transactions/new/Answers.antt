use Rattle.std.proofs.Common.{sym, ap}
use Rattle.std.specs.Prelude.{sum_by}
use Rattle.log_tables.specs.Homes.{share_of}
use Rattle.log_tables.proofs.transactions.Transactions.new.Goals as goal

pub returns : goal.returns
returns c = λ part. record {
  summaries = c.new.ensures part;
  homes = λ p number. sym (ap (sum_by (share_of p number)) c.new-2.ensures.items);
}
