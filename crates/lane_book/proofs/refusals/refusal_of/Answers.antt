use Rattle.std.proofs.Common.{rules, ◌≡◌, ℕ, false, subst, sym, List}
use Rattle.region_layout.specs.declared.layout.Layout.{Layout}
use Rattle.offset_alloc.specs.declared.Standing.{Standing}
use Rattle.lane_types.specs.declared.call.Call.{Call}
use Rattle.lane_types.specs.declared.call.Refusal.TheVariants as Refusal
use Rattle.lane_types.specs.Asks.{wanted}
use Rattle.lane_book.specs.declared.lane.Lane.{Lane}
use Rattle.lane_book.specs.Refusals.{names_mine, owner_told, IsRefusedBy}
use Rattle.lane_book.proofs.refusals.refusal_of.Goals as goal

by_owner : {E : Type 0} (layout : Layout) (room need : ℕ) (blocks : List Standing) (lane : Lane E) (call : Call E) (told : ℕ) → lane.phase ≡ wanted call →
    (names_mine layout blocks lane call ≡ false) × (told ≡ owner_told layout blocks lane call) → IsRefusedBy layout room need blocks lane call (Refusal.NotHeld told)
by_owner layout room need blocks lane call told phase found =
    subst (λ (n : ℕ). IsRefusedBy layout room need blocks lane call (Refusal.NotHeld n)) (sym found.1) (IsRefusedBy.by_owner phase found.0)

pub returns-then-not-is_same : goal.returns-then-not-is_same
returns-then-not-is_same g c = IsRefusedBy.by_phase (search rules)

pub returns-in-Some : goal.returns-in-Some
returns-in-Some g c = by_owner c.args.layout c.args.room c.args.need c.args.blocks.now c.args.lane.now c.args.call.now c.in-Some.owner (search rules) c.in-Some.ensures

pub returns-then-is_too_long : goal.returns-then-is_too_long
returns-then-is_too_long g c = IsRefusedBy.by_room (search rules) (search rules) (search rules) (search rules)

pub returns-then-lacks_block : goal.returns-then-lacks_block
returns-then-lacks_block g c = IsRefusedBy.by_heap (record { phase = search rules; mine = search rules; room_is_there = search rules }) (search rules) (search rules)
