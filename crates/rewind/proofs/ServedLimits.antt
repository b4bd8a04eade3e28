-- A served script is within the limits, and whether a script is served is read from its meaning.
use Rattle.std.proofs.Common.{◌≡◌, ℕ, ◌≤◌, List, [], ◌∷◌, length, Bool, true, false, ◌&&◌, ◌==◌, not, nat_le, refl, sym, ap, subst, arith}
use Rattle.std.specs.List.{All, list_all, flat_map, slice_index_or}
use Rattle.std.proofs.lemmas.List.Elements.{All-nil, All-cons, All-head, All-tail, All-append}
use Rattle.std.proofs.lemmas.List.Sums.{sum_by-cons}
use Rattle.std.proofs.Math.ListN.{length-append}
use Rattle.region_layout.specs.declared.layout.Kind.{Kind}
use Rattle.region_layout.specs.declared.layout.Kind.TheVariants.{Cells, Tree, Hash}
use Rattle.region_layout.specs.declared.layout.Policy.{Policy}
use Rattle.region_layout.specs.declared.layout.Policy.TheVariants.{Force, NoForce}
use Rattle.region_layout.specs.Layout.{policy_number}
use Rattle.rewind_script.specs.declared.script.Command.{Command}
use Rattle.rewind_script.specs.declared.script.Command.TheVariants as command
use Rattle.rewind_script.specs.declared.script.Item.{Item}
use Rattle.rewind_script.specs.declared.script.Item.TheVariants as item
use Rattle.rewind_script.specs.declared.script.LaneText.{LaneText}
use Rattle.rewind_script.specs.declared.script.Script.{Script}
use Rattle.rewind_script.specs.Commands.{live_step}
use Rattle.rewind_script.specs.Grammar.{Meaning, meaning_of}
use Rattle.rewind_script.specs.Limits.{AllFit, is_one, IsItem, IsLaneText, IsWithinLimits, count_transactions, count_in_lanes}
use Rattle.rewind_script.specs.Served.{is_force, is_one_cells, is_served_lane, is_served}
use Rattle.rewind.specs.Served.{serves, puts_of, transaction_of, lane_of, IsPut, IsTransaction, IsInLimits}

-- ---- what is served

force_is : (p : Policy) → is_force p ≡ (policy_number p == 1)
force_is Force = refl
force_is NoForce = refl

pub serves-meaning : (s : Script) → serves (meaning_of s) ≡ is_served s
serves-meaning s = ap (λ b. (b && s.layout.cells == 1 && s.layout.partitions == 1 && not s.batch && is_one_cells s.kinds)
    && (length s.turns == 0 && nat_le (length s.lanes) 1 && list_all is_served_lane s.lanes)) (sym (force_is s.layout.policy))

-- ---- the kinds

and_left : (a b : Bool) → (a && b) ≡ true → a ≡ true
and_left true b h = refl
and_left false b h = h

and_right : (a b : Bool) → (a && b) ≡ true → b ≡ true
and_right true b h = h
and_right false b h = cc

one_cells : (kinds : List Kind) → is_one_cells kinds ≡ true → kinds ≡ Cells ∷ []
one_cells [] h = cc
one_cells (Cells ∷ []) h = refl
one_cells (Cells ∷ k ∷ rest) h = cc
one_cells (Tree ∷ rest) h = cc
one_cells (Hash ∷ rest) h = cc

-- ---- the puts

puts_fit : (set live : ℕ) (commands : List Command) → AllFit (Cells ∷ []) set live commands → All IsPut (puts_of commands)
puts_fit set live [] fit = All-nil IsPut
puts_fit set live (command.Put map key value ∷ rest) fit =
    All-cons IsPut (record { key = key; value = value }) (puts_of rest)
    (record {
      key = (let zero_is : map ≡ 0 = (let lt = fit.0.0.0 in omega (arith, lt)) in
          let low = fit.0.0.2 (ap (λ m. slice_index_or (Cells ∷ []) m Tree) zero_is) in omega (arith, low));
      value = fit.0.1;
    })
    (puts_fit set (live_step live (command.Put map key value)) rest fit.1)
puts_fit set live (command.Del map key ∷ rest) fit = puts_fit set (live_step live (command.Del map key)) rest fit.1
puts_fit set live (command.Get map key ∷ rest) fit = puts_fit set (live_step live (command.Get map key)) rest fit.1
puts_fit set live (command.Savepoint ∷ rest) fit = puts_fit set (live_step live command.Savepoint) rest fit.1
puts_fit set live (command.Rollback n ∷ rest) fit = puts_fit set (live_step live (command.Rollback n)) rest fit.1

few_puts : (commands : List Command) → length (puts_of commands) ≤ length commands
few_puts [] = omega arith
few_puts (command.Put map key value ∷ rest) = let h = few_puts rest in omega (arith, h)
few_puts (command.Del map key ∷ rest) = let h = few_puts rest in omega (arith, h)
few_puts (command.Get map key ∷ rest) = let h = few_puts rest in omega (arith, h)
few_puts (command.Savepoint ∷ rest) = let h = few_puts rest in omega (arith, h)
few_puts (command.Rollback n ∷ rest) = let h = few_puts rest in omega (arith, h)

-- ---- the transactions

item_fits : (i : Item) → IsItem (Cells ∷ []) i → All IsTransaction (transaction_of i)
item_fits (item.Transaction set commands commit) h =
    All-cons IsTransaction (puts_of commands) []
    (record { short = (let few = few_puts commands in let count = h.1.count in omega (arith, few, count)); each = puts_fit set 0 commands h.1.fit })
    (All-nil IsTransaction)
item_fits item.Checkpoint h = All-nil IsTransaction

items_fit : (items : List Item) → All (IsItem (Cells ∷ [])) items → All IsTransaction (flat_map transaction_of items)
items_fit [] h = All-nil IsTransaction
items_fit (i ∷ rest) h = All-append IsTransaction (transaction_of i) (flat_map transaction_of rest)
    (item_fits i (All-head (IsItem (Cells ∷ [])) i rest h)) (items_fit rest (All-tail (IsItem (Cells ∷ [])) i rest h))

lanes_fit : (lanes : List LaneText) → All (IsLaneText (Cells ∷ [])) lanes → All IsTransaction (flat_map lane_of lanes)
lanes_fit [] h = All-nil IsTransaction
lanes_fit (lane ∷ rest) h = All-append IsTransaction (lane_of lane) (flat_map lane_of rest)
    (items_fit lane.items (All-head (IsLaneText (Cells ∷ [])) lane rest h)) (lanes_fit rest (All-tail (IsLaneText (Cells ∷ [])) lane rest h))

-- ---- how many

count_items : (items : List Item) → length (flat_map transaction_of items) ≡ count_transactions items
count_items [] = refl
count_items (item.Transaction set commands commit ∷ rest) =
    let h = count_items rest in
    let one = sum_by-cons is_one (item.Transaction set commands commit) rest in
    omega (arith, h, one)
count_items (item.Checkpoint ∷ rest) =
    let h = count_items rest in
    let none = sum_by-cons is_one item.Checkpoint rest in
    omega (arith, h, none)

count_lanes : (lanes : List LaneText) → length (flat_map lane_of lanes) ≡ count_in_lanes lanes
count_lanes [] = refl
count_lanes (lane ∷ rest) =
    let h = count_lanes rest in
    let here = count_items lane.items in
    let sum = sum_by-cons (λ (l : LaneText). count_transactions l.items) lane rest in
    let long = length-append (lane_of lane) (flat_map lane_of rest) in
    omega (arith, h, here, sum, long)

-- ---- the whole

pub within : (m : Meaning) → IsWithinLimits m → serves m ≡ true → IsInLimits m.shape.buckets m.shape.blocks (flat_map lane_of m.lanes)
within m h is =
    let kinds : m.kinds ≡ Cells ∷ [] = one_cells m.kinds (and_right _ (is_one_cells m.kinds) (and_left _ _ is)) in
    record {
      buckets_within = h.region.buckets;
      blocks_within = h.region.blocks;
      short = (let n = count_lanes m.lanes in let few = h.transactions in omega (arith, n, few));
      each = lanes_fit m.lanes (subst (λ (ks : List Kind). All (IsLaneText ks) m.lanes) kinds h.lanes);
    }
