use Rattle.std.proofs.Common.{◌≡◌, ◌<◌, ◌++◌, ap, sym, ◌∙◌, subst}
use Rattle.std.specs.Prelude.{All}
use Rattle.std.specs.Option.{option_to_list}
use Rattle.turn_hub.specs.Turns.{times, Shows}
use Rattle.turn_hub.proofs.Passes.{All-snoc, gathered, times-back, SawFaces-from}
use Rattle.turn_hub.proofs.close.unload_all.Goals as goal

pub gather-requires-clause-table : goal.gather-requires-clause-table
gather-requires-clause-table g c =
    let p = c.unwrap-place.result in
    let split = c.pop.ensures.items ∙ ap (λ o. c.pop.new.self.items ++ option_to_list o) c.unwrap-place.ensures in
    let t = All-snoc (λ p. p.place.table_id ≡ c.args.table.shared.table_id) c.pop.new.self.items p (subst (λ ps. All (λ p. p.place.table_id ≡ c.args.table.shared.table_id) ps) split c.requires.passes) in
    (t.1, c.requires.table.0)

pub gather-requires-clause-passes : goal.gather-requires-clause-passes
gather-requires-clause-passes g c =
    let p = c.unwrap-place.result in
    let split = c.pop.ensures.items ∙ ap (λ o. c.pop.new.self.items ++ option_to_list o) c.unwrap-place.ensures in
    (All-snoc (λ p. p.place.table_id ≡ c.args.table.shared.table_id) c.pop.new.self.items p (subst (λ ps. All (λ p. p.place.table_id ≡ c.args.table.shared.table_id) ps) split c.requires.passes)).0

pub unload-requires-clause-table : goal.unload-requires-clause-table
unload-requires-clause-table g c =
    let p = c.unwrap-place.result in
    let split = c.pop.ensures.items ∙ ap (λ o. c.pop.new.self.items ++ option_to_list o) c.unwrap-place.ensures in
    let t = All-snoc (λ p. p.place.table_id ≡ c.args.table.shared.table_id) c.pop.new.self.items p (subst (λ ps. All (λ p. p.place.table_id ≡ c.args.table.shared.table_id) ps) split c.requires.passes) in
    (c.gather.ensures.same.0 ∙ t.1, c.requires.table.1)

pub unload-requires-clause-all : goal.unload-requires-clause-all
unload-requires-clause-all g c =
    let p = c.unwrap-place.result in
    let split = c.pop.ensures.items ∙ ap (λ o. c.pop.new.self.items ++ option_to_list o) c.unwrap-place.ensures in
    let now = gathered c.gather.new.place.me.0.sights c.args.passes.items c.pop.new.self.items p split c.gather.ensures.sights in
    λ lane low. subst (λ ss. 0 < times lane ss) (sym now) (times-back lane c.args.passes.items (c.requires.all lane low))

pub returns-clause-faces : goal.returns-clause-faces
returns-clause-faces g c =
    let R = g.T.Laned.seen in
    let p = c.unwrap-place.result in
    let split = c.pop.ensures.items ∙ ap (λ o. c.pop.new.self.items ++ option_to_list o) c.unwrap-place.ensures in
    let now = gathered c.gather.new.place.me.0.sights c.args.passes.items c.pop.new.self.items p split c.gather.ensures.sights in
    SawFaces-from c.unload.result c.args.passes.items (subst (λ ss. Shows R c.unload.result ss) now c.unload.ensures.0)
