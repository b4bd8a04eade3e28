use Rattle.std.proofs.Common.{refl, ap, ◌∙◌}
use Rattle.persist_cells.proofs.Walks.{goes_on, are_all, none_below, all_keys, entries_below}
use Rattle.persist_cells.proofs.walking.walk.Goals as goal

pub loop-key-init : goal.loop-key-init
loop-key-init g c = record { same = refl; found = none_below _ _ _ c.new-found.ensures }

pub loop-key-preserved : goal.loop-key-preserved
loop-key-preserved g c = record {
  same = c.cell-value.ensures.same ∙ c.loop-key.invariant.same;
  found = goes_on (g.W.Reads.space c.args.words.now) (g.W.Reads.space c.loop-key.words) c.args.root c.loop-key.key c.cell-value.result _ _
      c.loop-key.invariant.same c.cell-value.ensures.value c.loop-key.invariant.found c.in_ok-append.ensures;
}

pub returns-clause-entries : goal.returns-clause-entries
returns-clause-entries g c m h = c.loop-key.invariant.found ∙ ap (entries_below (g.W.Reads.space c.args.words.now).word c.args.root) (let low = c.loop-key-test.false in let high = c.loop-key.auto.key-end in all_keys c.loop-key.key low high) ∙ are_all (g.W.Reads.space c.args.words.now).land (g.W.Reads.space c.args.words.now).word c.args.root m h
