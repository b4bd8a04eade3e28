-- Where a transaction may go back, and that each compensation has a cell.
use Rattle.std.proofs.Common.{◌≡◌, inl, ℕ, ◌<◌, ◌≤◌, List, [], ◌∷◌, ◌++◌, refl, sym, ap, subst, arith}
use Rattle.persist_model.specs.Records.{Log, IsAmong, Has, IsOf}
use Rattle.persist_model.specs.Need.{to_undo}
use Rattle.persist_model.specs.Shape.{Shape, part_of}
use Rattle.persist_model.specs.State.{State, IsSoundState}
use Rattle.log_laws.proofs.Clearing.{loser_needs}
use Rattle.region_layout.specs.declared.cell.Cell.{Cell}
use Rattle.region_layout.specs.declared.layout.Policy.{Policy}
use Rattle.plan_records.specs.declared.parts.Part.{Part}
use Rattle.plan_records.specs.declared.parts.Part.TheVariants.{Append}
use Rattle.plan_records.specs.Courses.{own_records, AreCellsOf}
use Rattle.plan_records.proofs.OwnRecords.{own_out, to_undo_among}
use Rattle.plan_records.proofs.Going.{going_all}
use Rattle.save_point.specs.Conditions.{FrontsGoBack, BacksHaveRoom}
use Rattle.save_point.proofs.UndoCourse.{Fits, compensates, first_cell, fits}

-- cells in two parts are of records in two parts
record IsParted (cells others : List Cell) (stack : Log) : Type 0 where
  pub front : Log
  pub left : Log
  pub whole : stack ≡ front ++ left
  pub first : AreCellsOf cells front
  pub second : AreCellsOf others left

parted : (cells others : List Cell) (stack : Log) → AreCellsOf (cells ++ others) stack → IsParted cells others stack
parted [] others stack are = record { front = []; left = stack; whole = refl; first = tt; second = are }
parted (cell ∷ cells) others [] are = absurd are
parted (cell ∷ cells) others (u ∷ stack) are =
    let k = parted cells others stack are.1 in
    record { front = u ∷ k.front; left = k.left; whole = ap (λ l. u ∷ l) k.whole; first = (are.0, k.first); second = k.second }

pub fronts_go_back : FrontsGoBack
fronts_go_back shape p t log updates others going not_rolled are =
    let k = parted updates others (to_undo t log) are in
    (k.left, record { going = going; not_rolled = not_rolled; front = k.front; cells = k.first; newest = k.whole }, k.second)

kept_cell : (policy : Policy) (shape : Shape) (p t : ℕ) (left first : Log) (cell : Cell) (others : List Part) (x : State) → p < shape.partitions →
    Fits policy shape p t left first (own_records t x.log) (Append cell ∷ others) → IsSoundState shape x → 1 ≤ x.room p
kept_cell policy shape p t left first _ _ x inside (compensates u us stays before) sound =
    let top = first_cell u us left (to_undo t (own_records t x.log)) before in
    let v = to_undo_among t (own_records t x.log) top.0 (subst (λ l. IsAmong l top.0) (sym top.2) (inl refl)) in
    let going = going_all shape p t x.log stays.going in
    let some : Has (IsOf t) x.log = (top.0, (own_out t x.log top.0 v.0).0, (v.2, λ five. (let one = v.1 in absurd (omega (arith, one, five))))) in
    let wants = loser_needs (part_of shape) p t x.log going.running some going.in_part in
    let room = (sound.room p inside).undo in
    omega (arith, wants, room)

pub backs_have_room : BacksHaveRoom
backs_have_room policy shape p t s us left cell others x inside can course sound =
    kept_cell policy shape p t left (own_records t s.log) cell others x inside (fits policy shape p t s us left (Append cell ∷ others) x can course) sound
