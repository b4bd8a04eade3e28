-- Updates that come at once, each at the place of its number.
use Rattle.std.proofs.Common.{◌≡◌, ◌≢◌, ℕ, suc, ◌+◌, ◌<◌, if◌then◌else◌, [], ◌∷◌, length, ap, arith}
use Rattle.persist_model.specs.Records.{Record, IsAmong}
use Rattle.persist_model.specs.Shape.{Shape, part_of}
use Rattle.persist_model.specs.Need.{need_in}
use Rattle.persist_model.specs.State.{State, total_need, IsSoundState}
use Rattle.log_laws.specs.Groups.{cells_behind, HasRoomBehind}
use Rattle.log_laws.specs.Recovery.{grown, KeepsStanding}
use Rattle.log_laws.proofs.Groups.{Rises, rises, first, room_left}
use Rattle.log_laws.proofs.Needs.{total_same}
use Rattle.plan_records.specs.Passing.{inserted, renumbered}
use Rattle.plan_records.specs.Groups.{with_one, MayComeAt, UpdatesComeAtOnce}
use Rattle.plan_records.proofs.PassingLaw.{passings_keep}
use Rattle.plan_records.proofs.PassingNeeds.{of_inserted, need_in_inserted}

module _ (shape : Shape) (t q top : ℕ) (s : State) (u : Record) (n : ℕ) (room : ℕ → ℕ) (h : IsSoundState shape s) (m : MayComeAt shape t q top s u)
    (left : HasRoomBehind shape t q top s (suc n) room) where
  -- u as if it came last
  abbrev raised : Record
  raised = renumbered top u

  up : (d : ℕ) × Rises shape t q s.log raised d
  up = rises shape t q top s raised m.comes

  last : IsSoundState shape (grown s raised room) × KeepsStanding shape.policy s (grown s raised room)
  last = first shape t q top s raised n room h m.comes left up.0 up.1

  pub one : IsSoundState shape (with_one s u room) × KeepsStanding shape.policy s (with_one s u room)
  one =
      let here = passings_keep shape s u room top m.gate m.within m.comes.above m.passes last.0 in
      (here.0, λ a v st. (here.1 a v).0 (last.1 a v st))

  others : (x : Record) → IsAmong s.log x → u.lsn < x.lsn → x.transaction ≢ u.transaction
  others x among lt same = let may = m.passes.newer x among lt in may.other (same, may.no_checkpoint)

  same_need : (p : ℕ) → need_in (part_of shape) p (inserted u s.log) ≡ need_in (part_of shape) p (raised ∷ s.log)
  same_need p = need_in_inserted (part_of shape) p top u s.log others

  same_total : total_need (part_of shape) shape.partitions (inserted u s.log) ≡ total_need (part_of shape) shape.partitions (raised ∷ s.log)
  same_total = total_same (part_of shape) shape.partitions (raised ∷ s.log) (inserted u s.log) (λ p lt. same_need p)

  same_cells : cells_behind t (inserted u s.log) n ≡ cells_behind t (raised ∷ s.log) n
  same_cells = ap (λ b. if b then n else n + 2) (of_inserted t u s.log)

  -- the room that is left for those behind it
  pub left_behind : HasRoomBehind shape t q top (with_one s u room) n room
  left_behind =
      let k = room_left shape t q top s raised n room h m.comes left up.0 up.1 in
      let need = same_need q in
      let cells = same_cells in
      record {
        inside = k.inside;
        here = (let enough = k.here in omega (arith, need, cells, enough));
        checkpoint_here = λ two zero. (let enough = k.checkpoint_here two zero in omega (arith, need, cells, enough));
        checkpoint_elsewhere = λ two other. (let enough = k.checkpoint_elsewhere two other in let same = same_need 0 in omega (arith, same, enough));
        elsewhere = λ p ne. omega arith;
        numbers = (let enough = k.numbers in let total = same_total in omega (arith, total, cells, enough));
      }

pub updates_come_at_once : UpdatesComeAtOnce
updates_come_at_once shape t q top s u [] room h m left = one shape t q top s u 0 room h m.0 left
updates_come_at_once shape t q top s u (x ∷ us) room h m left =
    let now = one shape t q top s u (length (x ∷ us)) room h m.0 left in
    let later = updates_come_at_once shape t q top (with_one s u room) x us room now.0 m.1 (left_behind shape t q top s u (length (x ∷ us)) room h m.0 left) in
    (later.0, λ a v st. later.1 a v (now.1 a v st))
