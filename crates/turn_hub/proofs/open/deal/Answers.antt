use Rattle.std.proofs.Common.{◌≡◌, ◌<◌, ◌-◌, ◌+◌, [], arith, subst, sym, ap, ◌∙◌, length, length-append}
use Rattle.turn_hub.specs.Plays.{free_view}
use Rattle.turn_hub.specs.Hub.{IsNewPass, ArePasses}
use Rattle.turn_hub.proofs.Calls.{parts_all, first_part, other_part}
use Rattle.turn_hub.proofs.Passes.{ArePasses-push}
use Rattle.turn_hub.proofs.open.deal.Goals as goal

pub split_seat-other-requires : goal.split_seat-other-requires
split_seat-other-requires g c =
    let i = c.loop-lane.invariant in
    let wide = c.requires.table.1 in
    (i.1, omega arith, parts_all g.T.Laned.seen c.args.top.now.key.value.value c.loop-lane.place.id c.loop-lane.lane _ c.args.start.now.value.value _ i.0)

pub pass_of-requires-clause-alone : goal.pass_of-requires-clause-alone
pass_of-requires-clause-alone g c =
    let i = c.loop-lane.invariant in
    let value = c.args.start.now.value.value in
    let lane = c.loop-lane.lane in
    let below : lane < c.args.start.now.lanes = c.loop-lane-test.true in
    c.split_seat-other.ensures.4 ∙ ap (λ v. (v, [])) (first_part g.T.Laned.seen lane (c.args.start.now.lanes - lane) value _ i.0 (omega arith))

pub pass_of-requires-clause-wide : goal.pass_of-requires-clause-wide
pass_of-requires-clause-wide g c = ap (λ z. z.words) (c.split_seat-other.ensures.3 ∙ c.loop-lane.invariant.1) ∙ c.requires.table.1

pub loop-lane-preserved : goal.loop-lane-preserved
loop-lane-preserved g c =
    let R = g.T.Laned.seen in
    let i = c.loop-lane.invariant in
    let value = c.args.start.now.value.value in
    let id = c.args.top.now.table_id in
    let lane = c.loop-lane.lane in
    let lanes = c.args.start.now.lanes in
    let below : lane < lanes = c.loop-lane-test.true in
    let s = c.split_seat-other.ensures in
    let p = c.pass_of.result in
    let new = subst (λ t. IsNewPass t lane ((R value).faces lane) p) (s.3 ∙ i.1) c.pass_of.ensures in
    let more = ArePasses-push id (R value).faces 0 lane c.loop-lane.passes.items p i.2 new (let n = i.3 in omega arith) in
    let items = c.push_reserved.ensures.items in
    let long : length c.push_reserved.new.self.items ≡ length c.loop-lane.passes.items + 1 = ap length items ∙ length-append _ _ in
    let n = i.3 in
    let capacity = c.push_reserved.ensures.capacity in
    let wide = i.4 in
    let less : (lanes - lane) - 1 ≡ lanes - (lane + 1) = omega arith in (
      s.2 ∙ (λ j. (other_part R lane (lanes - lane) value _ i.0 (omega arith) j, ap (λ m. m.1) i.0 j)) ∙ ap (λ q. (free_view value (lane + 1) q, [])) less,
      s.0 ∙ i.1,
      subst (λ xs. ArePasses id (R value).faces 0 xs) (sym items) more,
      omega arith,
      omega arith,
    )
