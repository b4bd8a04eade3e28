use Rattle.std.proofs.Common.{sym}
use Rattle.std.specs.BTreeMap.{get}
use Rattle.bucket_log.specs.Scans.{record_of_placed}
use Rattle.log_tables.specs.Tables.{pair_cmp}
use Rattle.log_tables.proofs.Tabled.{news_more}
use Rattle.log_tables.proofs.past.add_new.Goals as goal

pub returns : goal.returns
returns c = λ log old. news_more (record_of_placed c.args.s.now) log (get pair_cmp c.args.news.now) (get pair_cmp c.insert.new.self) (sym c.if-not-is_change.ensures) c.in_ok-insert.ensures.updates.0 old
