use Rattle.std.specs.Prelude.{slice_index}
use Rattle.std.proofs.Common.{subst}
use Rattle.std.proofs.lemmas.Result.{err_from_is_err_and}
use Rattle.persist_model.specs.ImageRules.{rule_number}
use Rattle.persist_model.specs.Visit.{address_words}
use Rattle.region_layout.specs.Layout.{layout_shape}
use Rattle.sound_check.specs.Rules.{AreLinks, IsWrongLink}
use Rattle.sound_check.proofs.list_rules.try_links_of.Goals as goal

pub returns-in_err-try_addresses-clause-fault : goal.returns-in_err-try_addresses-clause-fault
returns-in_err-try_addresses-clause-fault g c =
    let p = err_from_is_err_and c.from_residual-in_err-try_addresses.result c.from_residual-in_err-try_addresses.ensures.1 in
    rw (p.1, p.2) (record {
      visited = c.in_ok-visited.visited.items;
      visit = c.in_ok-visited.ensures;
      wrong = subst (λ xs. IsWrongLink (layout_shape c.args.layout) c.args.p (slice_index (g.W.Look.words c.args.words.now)) (address_words (slice_index (g.W.Look.words c.args.words.now)) xs) (rule_number c.in_err-try_addresses.field-0.0.rule) c.in_err-try_addresses.field-0.0.address) c.as_slice.ensures.value c.in_err-try_addresses.ensures.fault;
    })

pub returns-clause-ok : goal.returns-clause-ok
returns-clause-ok g c = record {
  visited = c.in_ok-visited.visited.items;
  visit = c.in_ok-visited.ensures;
  links = subst (λ xs. AreLinks (layout_shape c.args.layout) c.args.p (slice_index (g.W.Look.words c.args.words.now)) (address_words (slice_index (g.W.Look.words c.args.words.now)) xs)) c.as_slice.ensures.value c.in_ok-try_addresses.ensures.ok;
}
