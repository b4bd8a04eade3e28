use Rattle.log_tables.proofs.Tabled.{number_free}
use Rattle.log_tables.proofs.past.Past.add.Goals as goal

pub add-requires : goal.add-requires
add-requires c = (c.requires.1, c.requires.2.summaries, c.requires.3)

pub add_number-requires : goal.add_number-requires
add_number-requires c = number_free c.args.self.now.numbers c.requires.1 c.args.s.now.cell.lsn c.requires.2.numbers c.requires.4

pub returns : goal.returns
returns c = λ marks log bars past. record {
  summaries = c.in_ok-add.ensures log past.summaries;
  numbers = c.in_ok-add_number.ensures log past.numbers;
  news = c.in_ok-add_new.ensures log past.news;
  claims = c.in_ok-add_claim.ensures marks log bars past.claims;
}
