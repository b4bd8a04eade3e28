use Rattle.std.proofs.Common.{refl, ◌∙◌, ap, ◌++◌, ◌∷◌, [], arith}
use Rattle.lane_traits.specs.declared.draft.WordWrite.{WordWrite}
use Rattle.lane_book.proofs.Pushing.{listed_inside, listed_next, listed_end}
use Rattle.lane_book.proofs.asks.disown_all.Goals as goal

pub loop-block-init : goal.loop-block-init
loop-block-init c = record { inside = c.requires; whole = refl }

pub disown-requires : goal.disown-requires
disown-requires c = listed_inside c.args.layout c.args.list.now c.loop-block.list c.args.blocks.now c.loop-block.block-index 0
    c.loop-block.invariant c.loop-block-test.true

pub loop-block-preserved : goal.loop-block-preserved
loop-block-preserved c = listed_next c.args.layout c.args.list.now c.loop-block.list _ c.args.blocks.now c.loop-block.block-index 0
    c.loop-block.invariant c.loop-block-test.true
    (c.in_ok-put.ensures ∙ ap (λ (w : WordWrite). c.loop-block.list ++ w ∷ []) c.disown.ensures)

pub returns : goal.returns
returns c = listed_end c.args.layout c.args.list.now c.loop-block.list c.args.blocks.now c.loop-block.block-index c.loop-block.invariant
    (let out = c.loop-block-test.false in omega (arith, out))
