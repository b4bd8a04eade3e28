use Rattle.std.specs.Prelude.{slice_index, length}
use Rattle.std.proofs.Common.{sym, subst, ap, ◌∙◌, arith}
use Rattle.std.proofs.lemmas.Result.{err_from_is_err_and}
use Rattle.persist_model.specs.ImageRules.{rule_number}
use Rattle.persist_model.specs.Shape.{list_words, IsBucketOf}
use Rattle.persist_model.specs.Chain.{AreBuckets}
use Rattle.persist_model.specs.Visit.{chain_from, address_words}
use Rattle.persist_model.specs.Faults.{TryPoints, NoFault}
use Rattle.region_layout.specs.Layout.{layout_shape}
use Rattle.log_laws.proofs.Visits.{visit_one}
use Rattle.sound_check.specs.Rules.{AreLinks, ListHolds}
use Rattle.sound_check.proofs.Buckets.{link_readable}
use Rattle.sound_check.proofs.list_rules.try_list_of.Goals as goal

pub chain-requires-clause-fits : goal.chain-requires-clause-fits
chain-requires-clause-fits g c = let r = link_readable c.args.layout c.args.p (length (g.W.Look.words c.args.words.now)) ((slice_index (g.W.Look.words c.args.words.now)) 10) c.requires.part c.requires.long c.requires.links.links.1.1.0 in omega (arith, r)

pub try_points-requires : goal.try_points-requires
try_points-requires g c = record {
  part = c.requires.part;
  long = c.requires.long;
  buckets = subst (AreBuckets (IsBucketOf (layout_shape c.args.layout) c.args.p)) (sym c.as_slice-2.ensures.value) c.in_ok-visited.ensures.buckets;
  links = subst (λ xs. AreLinks (layout_shape c.args.layout) c.args.p (slice_index (g.W.Look.words c.args.words.now)) (address_words (slice_index (g.W.Look.words c.args.words.now)) xs)) (sym c.as_slice-2.ensures.value) (subst (λ xs. AreLinks (layout_shape c.args.layout) c.args.p (slice_index (g.W.Look.words c.args.words.now)) (address_words (slice_index (g.W.Look.words c.args.words.now)) xs)) (visit_one (IsBucketOf (layout_shape c.args.layout) c.args.p) (slice_index (g.W.Look.words c.args.words.now)) c.requires.links.visited c.in_ok-visited.visited.items c.requires.links.visit c.in_ok-visited.ensures) c.requires.links.links);
  chain_is = c.as_slice-3.ensures.value ∙ c.in_ok-chain.ensures ∙ ap (chain_from (slice_index (g.W.Look.words c.args.words.now))) (c.as_slice.ensures.value ∙ sym c.as_slice-2.ensures.value);
}

pub returns-in_err-try_points-clause-fault : goal.returns-in_err-try_points-clause-fault
returns-in_err-try_points-clause-fault g c =
    let p = err_from_is_err_and c.from_residual-in_err-try_points.result c.from_residual-in_err-try_points.ensures.1 in
    rw (p.1, p.2) (record {
      visited = c.in_ok-visited.visited.items;
      visit = c.in_ok-visited.ensures;
      wrong = subst (λ xs. TryPoints (layout_shape c.args.layout) (list_words c.args.p) (slice_index (g.W.Look.words c.args.words.now)) xs NoFault (rule_number c.in_err-try_points.field-0.0.rule) c.in_err-try_points.field-0.0.address) c.as_slice-2.ensures.value c.in_err-try_points.ensures.fault;
    })

pub returns-clause-ok : goal.returns-clause-ok
returns-clause-ok g c = record {
  visited = c.in_ok-visited.visited.items;
  visit = c.in_ok-visited.ensures;
  links = (subst (λ xs. AreLinks (layout_shape c.args.layout) c.args.p (slice_index (g.W.Look.words c.args.words.now)) (address_words (slice_index (g.W.Look.words c.args.words.now)) xs)) (visit_one (IsBucketOf (layout_shape c.args.layout) c.args.p) (slice_index (g.W.Look.words c.args.words.now)) c.requires.links.visited c.in_ok-visited.visited.items c.requires.links.visit c.in_ok-visited.ensures) c.requires.links.links);
  list = subst (ListHolds (layout_shape c.args.layout) (slice_index (g.W.Look.words c.args.words.now)) c.in_ok-visited.visited.items) (c.as_slice-3.ensures.value ∙ c.in_ok-chain.ensures ∙ ap (chain_from (slice_index (g.W.Look.words c.args.words.now))) c.as_slice.ensures.value)
      (subst (λ xs. ListHolds (layout_shape c.args.layout) (slice_index (g.W.Look.words c.args.words.now)) xs c.as_slice-3.result.now) c.as_slice-2.ensures.value c.in_ok-try_points.ensures.ok);
}
