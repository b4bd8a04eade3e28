use Rattle.std.proofs.Common.{◌≡◌, ℕ, List, sym, ap, ◌∙◌, subst, true}
use Rattle.std.specs.List.{flat_map}
use Rattle.rewind_script.specs.declared.script.LaneText.{LaneText}
use Rattle.rewind_script.specs.Grammar.{meaning_of}
use Rattle.rewind_script.specs.Served.{is_served}
use Rattle.rewind.specs.declared.script.Put.{Put}
use Rattle.rewind.specs.Served.{lane_of, IsInLimits}
use Rattle.rewind.proofs.ServedLimits.{within, serves-meaning}
use Rattle.rewind.proofs.served.served.Goals as goal

pub returns-clause-limits : goal.returns-clause-limits
returns-clause-limits c =
    let is : is_served c.args.whole.now ≡ true = sym c.is_served.ensures ∙ c.if-not-is_served.false in
    let limits = within (meaning_of c.args.whole.now) c.requires (serves-meaning c.args.whole.now ∙ is) in
    let all : c.in_ok-transactions.transactions ≡ flat_map lane_of c.args.whole.now.lanes =
    c.in_ok-transactions.ensures ∙ ap (λ (lanes : List LaneText). flat_map lane_of lanes) c.as_slice.ensures in
    subst (λ (ts : List (List Put)). IsInLimits c.from.result c.from-2.result ts) (sym all)
    (subst (λ (blocks : ℕ). IsInLimits c.from.result blocks (flat_map lane_of c.args.whole.now.lanes)) (sym c.from-2.ensures)
    (subst (λ (buckets : ℕ). IsInLimits buckets c.args.whole.now.layout.blocks (flat_map lane_of c.args.whole.now.lanes)) (sym c.from.ensures) limits))
