use Rattle.std.specs.Prelude.{slice_index, length}
use Rattle.std.proofs.Common.{refl, sym, ap, subst, ◌+◌, ◌∙◌, ◌≡◌, ◌⊎◌}
use Rattle.std.proofs.lemmas.Result.{err_from_is_err_and}
use Rattle.persist_model.specs.ImageRules.{rule_number}
use Rattle.persist_model.specs.Shape.{list_words}
use Rattle.persist_model.specs.Chain.{TAIL, last_or, IsExcepted, LinksBackBut}
use Rattle.persist_model.specs.Faults.{TryPoints, TryLinksBack, NoFault}
use Rattle.region_layout.specs.Layout.{layout_shape}
use Rattle.sound_check.specs.Rules.{IsWrongChange, ChangesHold}
use Rattle.sound_check.proofs.Left.{fault_at}
use Rattle.sound_check.proofs.Readable.{can_read}
use Rattle.sound_check.proofs.Tried.{change_fails, prev_fails, tail_fails}
use Rattle.sound_check.proofs.points.try_points.Goals as goal

pub try_prevs-requires-clause-node : goal.try_prevs-requires-clause-node
try_prevs-requires-clause-node g c = (can_read c.args.layout c.args.p (length (g.W.Look.words c.args.words.now)) (slice_index (g.W.Look.words c.args.words.now)) c.args.visited.now c.args.chain.now c.requires).removed

pub try_prevs-requires-clause-next : goal.try_prevs-requires-clause-next
try_prevs-requires-clause-next g c = (can_read c.args.layout c.args.p (length (g.W.Look.words c.args.words.now)) (slice_index (g.W.Look.words c.args.words.now)) c.args.visited.now c.args.chain.now c.requires).next

pub try_prevs-requires-clause-chain : goal.try_prevs-requires-clause-chain
try_prevs-requires-clause-chain g c = (can_read c.args.layout c.args.p (length (g.W.Look.words c.args.words.now)) (slice_index (g.W.Look.words c.args.words.now)) c.args.visited.now c.args.chain.now c.requires).members

pub names_before-requires-clause-node : goal.names_before-requires-clause-node
names_before-requires-clause-node g c = (can_read c.args.layout c.args.p (length (g.W.Look.words c.args.words.now)) (slice_index (g.W.Look.words c.args.words.now)) c.args.visited.now c.args.chain.now c.requires).removed

pub names_before-requires-clause-next : goal.names_before-requires-clause-next
names_before-requires-clause-next g c = (can_read c.args.layout c.args.p (length (g.W.Look.words c.args.words.now)) (slice_index (g.W.Look.words c.args.words.now)) c.args.visited.now c.args.chain.now c.requires).next

pub returns-in_err-try_changes-clause-fault : goal.returns-in_err-try_changes-clause-fault
returns-in_err-try_changes-clause-fault g c =
    let p = err_from_is_err_and c.from_residual.result c.from_residual.ensures.1 in
    rw (p.1, p.2) (change_fails (layout_shape c.args.layout) (list_words c.args.p) (slice_index (g.W.Look.words c.args.words.now)) c.args.visited.now _ _
    (subst (λ xs. IsWrongChange (layout_shape c.args.layout) (list_words c.args.p) (slice_index (g.W.Look.words c.args.words.now)) c.args.visited.now xs (rule_number c.in_err-try_changes.field-0.0.rule) c.in_err-try_changes.field-0.0.address) c.requires.chain_is c.in_err-try_changes.ensures.fault))

pub returns-in_err-try_prevs-clause-fault : goal.returns-in_err-try_prevs-clause-fault
returns-in_err-try_prevs-clause-fault g c =
    let p = err_from_is_err_and c.from_residual-in_err-try_prevs.result c.from_residual-in_err-try_prevs.ensures.1 in
    rw (p.1, p.2) (prev_fails (layout_shape c.args.layout) (list_words c.args.p) (slice_index (g.W.Look.words c.args.words.now)) c.args.visited.now _ _
    (subst (ChangesHold (layout_shape c.args.layout) (slice_index (g.W.Look.words c.args.words.now)) c.args.visited.now) c.requires.chain_is c.in_ok-try_changes.ensures.ok)
    (subst (λ xs. TryLinksBack (slice_index (g.W.Look.words c.args.words.now)) 0 xs NoFault (rule_number c.in_err-try_prevs.field-0.0.rule) c.in_err-try_prevs.field-0.0.address) c.requires.chain_is c.in_err-try_prevs.ensures.fault))

pub returns-then-not-names_before-clause-fault : goal.returns-then-not-names_before-clause-fault
returns-then-not-names_before-clause-fault g c =
    fault_at (TryPoints (layout_shape c.args.layout) (list_words c.args.p) (slice_index (g.W.Look.words c.args.words.now)) c.args.visited.now NoFault) _ _ _ _ c.list_fault.ensures.0 (c.list_fault.ensures.1 ∙ ap (λ n. n + 1) c.list_words.ensures)
    (tail_fails (layout_shape c.args.layout) (list_words c.args.p) (slice_index (g.W.Look.words c.args.words.now)) c.args.visited.now
    (subst (ChangesHold (layout_shape c.args.layout) (slice_index (g.W.Look.words c.args.words.now)) c.args.visited.now) c.requires.chain_is c.in_ok-try_changes.ensures.ok)
    (subst (LinksBackBut (slice_index (g.W.Look.words c.args.words.now)) 0) c.requires.chain_is c.in_ok-try_prevs.ensures.ok)
    (λ h. let e = c.names_before.ensures.1 (subst (λ n. ((slice_index (g.W.Look.words c.args.words.now)) TAIL ≡ n) ⊎ IsExcepted (slice_index (g.W.Look.words c.args.words.now)) TAIL) (sym (c.from.ensures ∙ c.last_or.ensures ∙ ap (last_or 0) c.requires.chain_is)) h) in cc))

pub returns-clause-ok : goal.returns-clause-ok
returns-clause-ok g c = record {
  changes = c.in_ok-try_changes.ensures.ok;
  links_back = c.in_ok-try_prevs.ensures.ok;
  tail = subst (λ n. ((slice_index (g.W.Look.words c.args.words.now)) TAIL ≡ n) ⊎ IsExcepted (slice_index (g.W.Look.words c.args.words.now)) TAIL) (c.from.ensures ∙ c.last_or.ensures) (c.if-not-names_before.ensures.0 refl);
}
