-- The parts of going back by their numbers.
use Rattle.std.proofs.Common.{◌≡◌, ℕ, ◌-◌, ◌*◌, ◌≤◌, List, ◌++◌, length, None, ap, ◌∙◌, arith}
use Rattle.std.specs.Prelude.{slice_get}
use Rattle.region_layout.specs.declared.cell.Cell.{Cell}
use Rattle.region_layout.specs.declared.layout.Policy.{Policy}
use Rattle.plan_records.specs.declared.parts.Part.{Part}
use Rattle.plan_records.specs.Sequences.{undo_parts}
use Rattle.plan_records.proofs.PartNumbers.{length-undo_parts, past_parts, slice_get-right}

pub undo_within : (policy : Policy) (us : List Cell) (i n : ℕ) → n ≡ length us → slice_get (undo_parts policy us) i ≡ None → 2 * n ≤ i
undo_within policy us i n l none = let past = past_parts (undo_parts policy us) i none in let m = length-undo_parts policy us in omega (arith, past, m, l)

-- what stands behind the undo
pub behind_undo : (policy : Policy) (us : List Cell) (others : List Part) (i n : ℕ) → n ≡ length us → slice_get (undo_parts policy us) i ≡ None →
    slice_get (undo_parts policy us ++ others) i ≡ slice_get others (i - 2 * n)
behind_undo policy us others i n l none =
    let m = length-undo_parts policy us in
    let same : i - length (undo_parts policy us) ≡ i - 2 * n = omega (arith, l, m) in
    slice_get-right (undo_parts policy us) others i (past_parts (undo_parts policy us) i none) ∙ ap (slice_get others) same
