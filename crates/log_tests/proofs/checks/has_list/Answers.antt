use Rattle.std.proofs.Common.{[], ◌∷◌, ◌++◌, length, refl}
use Rattle.std.specs.Prelude.{slice_index}
use Rattle.atomic_list.specs.Rules.{at_rest, appending, removing}
use Rattle.log_tests.proofs.Walking.{list_is}
use Rattle.log_tests.proofs.checks.has_list.Goals as goal

pub returns-then-is_at_rest : goal.returns-then-is_at_rest
returns-then-is_at_rest g c = λ _.
    list_is (length (g.W.Look.words c.args.words.now)) (slice_index (g.W.Look.words c.args.words.now)) c.args.change.now.before.now
    c.rules_are_cases.ensures (c.if-not-is_small.ensures refl) (at_rest (c.if-is_at_rest.ensures refl))

pub returns-then-is_at_rest-2 : goal.returns-then-is_at_rest-2
returns-then-is_at_rest-2 g c = λ _.
    list_is (length (g.W.Look.words c.args.words.now)) (slice_index (g.W.Look.words c.args.words.now)) c.args.change.now.after.now
    c.rules_are_cases.ensures (c.if-not-is_small.ensures refl) (at_rest (c.if-is_at_rest-2.ensures refl))

pub returns-then-is_appending : goal.returns-then-is_appending
returns-then-is_appending g c = λ _.
    list_is (length (g.W.Look.words c.args.words.now)) (slice_index (g.W.Look.words c.args.words.now)) (c.args.change.now.front.now ++ c.args.change.now.node ∷ [])
    c.rules_are_cases.ensures (c.if-not-is_small.ensures refl) (appending c.args.change.now.front.now c.args.change.now.node (c.if-is_appending.ensures refl) refl)

pub returns-then-is_removing : goal.returns-then-is_removing
returns-then-is_removing g c = λ _.
    list_is (length (g.W.Look.words c.args.words.now)) (slice_index (g.W.Look.words c.args.words.now)) (c.args.change.now.front.now ++ c.args.change.now.rest.now)
    c.rules_are_cases.ensures (c.if-not-is_small.ensures refl)
    (removing c.args.change.now.front.now c.args.change.now.node c.args.change.now.rest.now (c.if-is_removing.ensures refl) refl)

pub returns : goal.returns
returns g c = λ found.
    list_is (length (g.W.Look.words c.args.words.now)) (slice_index (g.W.Look.words c.args.words.now)) (c.args.change.now.front.now ++ c.args.change.now.rest.now)
    c.rules_are_cases.ensures (c.if-not-is_small.ensures refl)
    (removing c.args.change.now.front.now c.args.change.now.node c.args.change.now.rest.now (c.is_removing-2.ensures found) refl)
