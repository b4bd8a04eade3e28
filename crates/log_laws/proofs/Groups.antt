-- Updates that come at once: one after another, each with the room that is left behind all.
use Rattle.std.proofs.Common.{◌≡◌, ◌≢◌, inl, inr, ℕ, suc, ◌+◌, ◌<◌, ◌≤◌, true, false, [], ◌∷◌, length, refl, sym, ◌∙◌, subst, arith}
use Rattle.std.proofs.lemmas.Bool.Decides.{eqb_tells}
use Rattle.persist_model.specs.Records.{Record, Log}
use Rattle.persist_model.specs.Shape.{Shape, part_of}
use Rattle.persist_model.specs.Need.{has_of, need_in}
use Rattle.persist_model.specs.State.{State, HasRoom, HasNumbers, total_need, IsSoundState}
use Rattle.log_laws.specs.Moves.{Arrives, adds_update}
use Rattle.log_laws.specs.Recovery.{grown, KeepsStanding}
use Rattle.log_laws.specs.Groups.{MayCome, cells_behind, HasRoomBehind, GroupsKeep}
use Rattle.log_laws.proofs.Needs.{need_stays, has_of_true}
use Rattle.log_laws.proofs.MoveNeeds.{need_updated, need_first_update, need_rose, need_began, need_began_elsewhere, total_rose}
use Rattle.log_laws.proofs.MoveRooms.{tells, some_of, running_test}
use Rattle.log_laws.proofs.Moving.{moves_keep}

-- the need of u's part rises by d, which is 1 behind another record of its transaction, and that of no other part
pub record Rises (shape : Shape) (t q : ℕ) (log : Log) (u : Record) (d : ℕ) : Type 0 where
  rose : need_in (part_of shape) q log + d ≡ need_in (part_of shape) q (u ∷ log)
  stays : (p : ℕ) → p ≢ q → need_in (part_of shape) p (u ∷ log) ≡ need_in (part_of shape) p log
  cells : (n : ℕ) → cells_behind t log (suc n) ≡ n + d
  some : 1 ≤ d

pub rises : (shape : Shape) (t q top : ℕ) (s : State) (u : Record) → MayCome shape t q top s u → (d : ℕ) × Rises shape t q s.log u d
rises shape t q top s u m = elim (tells u.transaction s.log) [
  | inl on ↦ (
      let some = some_of u.transaction s.log on in
      let of_t : has_of t s.log ≡ true = subst (λ x. has_of x s.log ≡ true) m.own on in
      let up = need_rose (part_of shape) 1 u s.log some m.running.one_part (need_updated u s.log m.is (running_test u.transaction s.log m.running.running)) in (
        1,
        record {
          rose = subst (λ p. need_in (part_of shape) p s.log + 1 ≡ need_in (part_of shape) p (u ∷ s.log)) m.here up;
          stays = λ p ne. need_stays (part_of shape) p u s.log some m.running.one_part (λ e. ne (e ∙ m.here));
          cells = λ n. (rw of_t (omega arith));
          some = omega arith;
        },
      ))
  | inr off ↦ (
      let is = m.is in
      let of_t : has_of t s.log ≡ false = subst (λ x. has_of x s.log ≡ false) m.own off in
      let plain : u.kind ≢ 5 = (λ e. absurd (omega (arith, is, e))) in
      let up = need_began (part_of shape) u s.log plain off in
      let three = need_first_update u s.log m.is off in (
        3,
        record {
          rose = subst (λ p. need_in (part_of shape) p s.log + 3 ≡ need_in (part_of shape) p (u ∷ s.log)) m.here
              (subst (λ n. need_in (part_of shape) (part_of shape u.at) s.log + n ≡ need_in (part_of shape) (part_of shape u.at) (u ∷ s.log)) three up);
          stays = λ p ne. sym (need_began_elsewhere (part_of shape) p u s.log off (λ e. ne (e ∙ m.here)));
          cells = λ n. (rw of_t (omega arith));
          some = omega arith;
        },
      ))
]

module _ (shape : Shape) (t q top : ℕ) (s : State) (u : Record) (n : ℕ) (room : ℕ → ℕ) (h : IsSoundState shape s) (m : MayCome shape t q top s u)
    (left : HasRoomBehind shape t q top s (suc n) room) (d : ℕ) (up : Rises shape t q s.log u d) where
  total : total_need (part_of shape) shape.partitions s.log + d ≡ total_need (part_of shape) shape.partitions (u ∷ s.log)
  total = total_rose (part_of shape) shape.partitions q d s.log (u ∷ s.log) left.inside up.rose up.stays

  fits : (p : ℕ) → p < shape.partitions → HasRoom shape (u ∷ s.log) p (room p)
  fits p lt = elim (eqb_tells p q) [
    | inl e ↦ subst (λ x. HasRoom shape (u ∷ s.log) x (room x)) (sym e.1) (
        let rose = up.rose in let cells = up.cells n in let enough = left.here in record {
          undo = omega (arith, rose, cells, enough);
          checkpoint = λ zero two o. (let more = left.checkpoint_here two zero in omega (arith, rose, cells, more));
        })
    | inr ne ↦ (
        let same = up.stays p ne.1 in let more = left.elsewhere p ne.1 in let was = (h.room p lt).undo in record {
          undo = omega (arith, same, more, was);
          checkpoint = λ zero two o. (
              let c = subst (λ x. need_in (part_of shape) x s.log + 1 ≤ room x) (sym zero) (left.checkpoint_elsewhere two (λ z. ne.1 (zero ∙ sym z))) in
              omega (arith, same, c));
        })
  ]

  numbers : HasNumbers shape (u ∷ s.log) u
  numbers = let enough = left.numbers in let low = m.within in let cells = up.cells n in let all = total in record {
    undo = omega (arith, enough, low, cells, all);
    checkpoint = λ two o. omega (arith, enough, low, cells, all);
  }

  arrives : Arrives shape s u room
  arrives = record { formed = m.formed; gate = m.gate; above = m.above; fits = fits; numbers = numbers }

  pub first : IsSoundState shape (grown s u room) × KeepsStanding shape.policy s (grown s u room)
  first = moves_keep shape s (grown s u room) h (adds_update u room arrives m.running m.is m.free m.may)

  -- the transaction has a record now
  behind : cells_behind t (u ∷ s.log) n ≡ n
  behind =
      let is = m.is in
      let on : has_of t (u ∷ s.log) ≡ true = has_of_true t (u ∷ s.log) (u, inl refl, (m.own, λ five. absurd (omega (arith, is, five)))) in
      rw on refl

  pub room_left : HasRoomBehind shape t q top (grown s u room) n room
  room_left = let rose = up.rose in let cells = up.cells n in let now = behind in let all = total in record {
    inside = left.inside;
    here = (let enough = left.here in omega (arith, rose, cells, now, enough));
    checkpoint_here = λ two zero. (let enough = left.checkpoint_here two zero in omega (arith, rose, cells, now, enough));
    checkpoint_elsewhere = λ two other. (let same = up.stays 0 (λ e. other (sym e)) in let enough = left.checkpoint_elsewhere two other in omega (arith, same, enough));
    elsewhere = λ p ne. omega arith;
    numbers = (let enough = left.numbers in omega (arith, enough, cells, now, all));
  }

pub groups_keep : GroupsKeep
groups_keep shape t q top s u [] room h m left =
    let up = rises shape t q top s u m.0 in first shape t q top s u 0 room h m.0 left up.0 up.1
groups_keep shape t q top s u (x ∷ us) room h m left =
    let up = rises shape t q top s u m.0 in
    let now = first shape t q top s u (length (x ∷ us)) room h m.0 left up.0 up.1 in
    let later = groups_keep shape t q top (grown s u room) x us room now.0 m.1 (room_left shape t q top s u (length (x ∷ us)) room h m.0 left up.0 up.1) in
    (later.0, λ a v st. later.1 a v (now.1 a v st))
