use Rattle.std.proofs.Common.{◌≡◌, ◌++◌, ap, ◌∙◌, subst}
use Rattle.std.specs.Prelude.{All}
use Rattle.turn_hub.specs.Hub.{sights_back}
use Rattle.turn_hub.proofs.Passes.{All-snoc, joined_more, meets_alone}
use Rattle.turn_hub.proofs.close.gather.Goals as goal

pub join_seat-requires : goal.join_seat-requires
join_seat-requires g c =
    let R = g.T.Laned.seen in
    let i = c.loop-pass.invariant in
    let p = c.in-Some.pass in
    let last = All-snoc (λ p. p.place.table_id ≡ c.args.top.now.table_id) c.pop.new.self.items p (subst (λ ps. All (λ p. p.place.table_id ≡ c.args.top.now.table_id) ps) c.in-Some.ensures.items i.5) in
    (i.1 ∙ c.requires.table.0, last.1, p.no_slots, c.requires.table.1, meets_alone R c.args.top.now.key.value.value _ _ _ p.place.me i.3 p.no_grip)

pub loop-pass-preserved : goal.loop-pass-preserved
loop-pass-preserved g c =
    let i = c.loop-pass.invariant in
    let j = c.join_seat.ensures in
    let p = c.in-Some.pass in (
      ap (λ m. m.0.sights ++ sights_back c.pop.new.self.items) j.2 ∙ joined_more c.loop-pass.place.me.0.sights c.args.place.now.me.0.sights c.loop-pass.passes.items c.pop.new.self.items c.args.passes.items p c.in-Some.ensures.items i.0,
      j.0 ∙ i.1,
      j.1 ∙ i.2,
      ap (λ m. m.0.grip) j.2 ∙ i.3,
      ap (λ m. m.1) j.2 ∙ i.4,
      (All-snoc (λ p. p.place.table_id ≡ c.args.top.now.table_id) c.pop.new.self.items p (subst (λ ps. All (λ p. p.place.table_id ≡ c.args.top.now.table_id) ps) c.in-Some.ensures.items i.5)).0,
    )
