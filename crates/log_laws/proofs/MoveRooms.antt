-- The rule of room with one record more.
use Rattle.std.proofs.Common.{◌≡◌, ◌≢◌, ◌⊎◌, inl, inr, ℕ, ◌+◌, ◌≤◌, true, false, if◌then◌else◌, [], ◌∷◌, refl, sym, ◌∙◌, subst, arith}
use Rattle.std.proofs.lemmas.Bool.Decides.{eqb_tells}
use Rattle.persist_model.specs.Records.{Record, Log, Has, HasNo, IsOf, IsUpdate, IsCompensation, IsRollback, IsEnd, IsCheckpoint, IsDeletion, IsRunning}
use Rattle.persist_model.specs.Shape.{Shape, part_of}
use Rattle.persist_model.specs.Need.{to_undo, has_kind_of, need_of, is_of, has_of, need_in}
use Rattle.persist_model.specs.State.{State, HasOpen, HasRoom, IsSoundState}
use Rattle.log_laws.specs.Moves.{IsOfRunning}
use Rattle.log_laws.specs.MoveRoom.{TakesCell, HasCells, HasItsCells, FitsWith}
use Rattle.log_laws.proofs.Needs.{need_rollback, need_compensation, need_stays, has_kind_false, has_of_true, of_test}
use Rattle.log_laws.proofs.Keeping.{loser_open, need_in_checkpoint}
use Rattle.log_laws.proofs.MoveNeeds.{need_updated, need_deleted, need_ended, need_positive, need_first_update, need_first_deletion, need_first_rollback, need_rose, need_fell_by, need_began, need_began_elsewhere}

-- the need of r's part rises by d, and there are enough cells
fits_more : (shape : Shape) (s : State) (r : Record) (room : ℕ → ℕ) (d : ℕ) → IsSoundState shape s → TakesCell shape s r room → HasCells shape s r (d + 1) →
    need_in (part_of shape) (part_of shape r.at) s.log + d ≡ need_in (part_of shape) (part_of shape r.at) (r ∷ s.log) →
    ((p : ℕ) → p ≢ part_of shape r.at → need_in (part_of shape) p s.log ≡ need_in (part_of shape) p (r ∷ s.log)) → FitsWith shape s r room
fits_more shape s r room d h takes cells rose stays p lt = elim (eqb_tells p (part_of shape r.at)) [
  | inl e ↦ subst (λ q. HasRoom shape (r ∷ s.log) q (room q)) (sym e.1) (
      let here = takes.here in let k = cells.here in record {
        undo = omega (arith, here, k, rose);
        checkpoint = λ zero two o. (let c = cells.checkpoint_here two zero in omega (arith, here, c, rose));
      })
  | inr ne ↦ (
      let same = takes.elsewhere p ne.1 in let n = stays p ne.1 in let b = h.room p lt in let u = b.undo in record {
        undo = omega (arith, same, n, u);
        checkpoint = λ zero two o. (
            let off : part_of shape r.at ≢ 0 = (λ z. ne.1 (zero ∙ sym z)) in
            let c = subst (λ q. need_in (part_of shape) q s.log + 1 ≤ s.room q) (sym zero) (cells.checkpoint_elsewhere two off) in
            omega (arith, same, n, c));
      })
]

-- the need of r's part falls by d
fits_less : (shape : Shape) (s : State) (r : Record) (room : ℕ → ℕ) (d : ℕ) → IsSoundState shape s → TakesCell shape s r room → HasOpen s.log → 1 ≤ d →
    need_in (part_of shape) (part_of shape r.at) (r ∷ s.log) + d ≡ need_in (part_of shape) (part_of shape r.at) s.log →
    ((p : ℕ) → p ≢ part_of shape r.at → need_in (part_of shape) p (r ∷ s.log) ≡ need_in (part_of shape) p s.log) → FitsWith shape s r room
fits_less shape s r room d h takes opened some fell stays p lt = elim (eqb_tells p (part_of shape r.at)) [
  | inl e ↦ subst (λ q. HasRoom shape (r ∷ s.log) q (room q)) (sym e.1) (
      let here = takes.here in let b = h.room (part_of shape r.at) takes.inside in let u = b.undo in record {
        undo = omega (arith, here, u, fell, some);
        checkpoint = λ zero two o. (let c = b.checkpoint zero two opened in omega (arith, here, c, fell, some));
      })
  | inr ne ↦ (
      let same = takes.elsewhere p ne.1 in let n = stays p ne.1 in let b = h.room p lt in let u = b.undo in record {
        undo = omega (arith, same, n, u);
        checkpoint = λ zero two o. (let c = b.checkpoint zero two opened in omega (arith, same, n, c));
      })
]

-- ---- whether the transaction has a record

pub some_of : (t : ℕ) (log : Log) → has_of t log ≡ true → Has (IsOf t) log
some_of t [] is = cc
some_of t (r ∷ log) is = elim (of_test t r) [
  | inl h ↦ (r, inl refl, h.1)
  | inr h ↦ (let again = some_of t log (rest_true h.0) in (again.0, inr again.1, again.2))
]
  where
    rest_true : is_of t r ≡ false → has_of t log ≡ true
    rest_true off = rw off at is

pub tells : (t : ℕ) (log : Log) → (has_of t log ≡ true) ⊎ (has_of t log ≡ false)
tells t log = elim (has_of t log) as (λ b. (b ≡ true) ⊎ (b ≡ false)) [ true ↦ inl refl | false ↦ inr refl ]

pub running_test : (t : ℕ) (log : Log) → IsRunning log t → has_kind_of t 4 log ≡ false
running_test t log running = has_kind_false t 4 log running

-- where no record of its transaction is there, r's cells are
cells_there : (shape : Shape) (s : State) (r : Record) (n : ℕ) → has_of r.transaction s.log ≡ false → HasItsCells shape s r n → HasCells shape s r n
cells_there shape s r n off (inl some) = let on = has_of_true r.transaction s.log some in absurd (cc)
cells_there shape s r n off (inr cells) = cells

-- ---- the laws

pub update_fits : (shape : Shape) (s : State) (u : Record) (room : ℕ → ℕ) → IsSoundState shape s → IsUpdate u → IsOfRunning shape s.log u → TakesCell shape s u room →
    HasCells shape s u (if has_of u.transaction s.log then 2 else 4) → FitsWith shape s u room
update_fits shape s u room h is of takes cells = elim (tells u.transaction s.log) [
  | inl on ↦ (
      let some = some_of u.transaction s.log on in
      let enough : HasCells shape s u 2 = rw on at cells in
      fits_more shape s u room 1 h takes enough
      (need_rose (part_of shape) 1 u s.log some of.one_part (need_updated u s.log is (running_test u.transaction s.log of.running)))
      (λ p ne. sym (need_stays (part_of shape) p u s.log some of.one_part ne)))
  | inr off ↦ (
      let enough : HasCells shape s u 4 = rw off at cells in
      let plain : u.kind ≢ 5 = (λ e. absurd (omega (arith, is, e))) in
      fits_more shape s u room 3 h takes enough
      (subst (λ n. need_in (part_of shape) (part_of shape u.at) s.log + n ≡ need_in (part_of shape) (part_of shape u.at) (u ∷ s.log)) (need_first_update u s.log is off)
      (need_began (part_of shape) u s.log plain off))
      (λ p ne. need_began_elsewhere (part_of shape) p u s.log off ne))
]

pub deletion_fits : (shape : Shape) (s : State) (d : Record) (room : ℕ → ℕ) → IsSoundState shape s → IsDeletion d → IsOfRunning shape s.log d → TakesCell shape s d room →
    HasCells shape s d (if has_of d.transaction s.log then 1 else 3) → FitsWith shape s d room
deletion_fits shape s d room h is of takes cells = elim (tells d.transaction s.log) [
  | inl on ↦ (
      let some = some_of d.transaction s.log on in
      let enough : HasCells shape s d 1 = rw on at cells in
      fits_more shape s d room 0 h takes enough
      (need_rose (part_of shape) 0 d s.log some of.one_part (need_deleted d s.log is))
      (λ p ne. sym (need_stays (part_of shape) p d s.log some of.one_part ne)))
  | inr off ↦ (
      let enough : HasCells shape s d 3 = rw off at cells in
      let plain : d.kind ≢ 5 = (λ e. absurd (omega (arith, is, e))) in
      fits_more shape s d room 2 h takes enough
      (subst (λ n. need_in (part_of shape) (part_of shape d.at) s.log + n ≡ need_in (part_of shape) (part_of shape d.at) (d ∷ s.log)) (need_first_deletion d s.log is off)
      (need_began (part_of shape) d s.log plain off))
      (λ p ne. need_began_elsewhere (part_of shape) p d s.log off ne))
]

pub rollback_fits : (shape : Shape) (s : State) (r : Record) (room : ℕ → ℕ) → IsSoundState shape s → IsRollback r → IsOfRunning shape s.log r → TakesCell shape s r room →
    HasItsCells shape s r 2 → HasNo (λ x. IsOf r.transaction x × IsRollback x) s.log → FitsWith shape s r room
rollback_fits shape s r room h is of takes kept fresh = elim (tells r.transaction s.log) [
  | inl on ↦ (
      let some = some_of r.transaction s.log on in
      let rolled = has_kind_false r.transaction 3 s.log (λ y m k. fresh y m ((k.1, λ five. absurd (omega (arith, k.0, five))), k.0)) in
      fits_less shape s r room 1 h takes (loser_open s.log r.transaction (some, of.running)) (omega arith)
      (need_fell_by (part_of shape) 1 r s.log some of.one_part (need_rollback r.transaction r s.log is refl (running_test r.transaction s.log of.running) rolled))
      (λ p ne. need_stays (part_of shape) p r s.log some of.one_part ne))
  | inr off ↦ (
      let plain : r.kind ≢ 5 = (λ e. absurd (omega (arith, is, e))) in
      fits_more shape s r room 1 h takes (cells_there shape s r 2 off kept)
      (subst (λ n. need_in (part_of shape) (part_of shape r.at) s.log + n ≡ need_in (part_of shape) (part_of shape r.at) (r ∷ s.log)) (need_first_rollback r s.log is off)
      (need_began (part_of shape) r s.log plain off))
      (λ p ne. need_began_elsewhere (part_of shape) p r s.log off ne))
]

pub compensation_fits : (shape : Shape) (s : State) (c u : Record) (stack : Log) (room : ℕ → ℕ) → IsSoundState shape s → IsCompensation c → IsOfRunning shape s.log c → TakesCell shape s c room →
    Has (IsOf c.transaction) s.log → to_undo c.transaction s.log ≡ u ∷ stack → FitsWith shape s c room
compensation_fits shape s c u stack room h is of takes some shape_is =
    fits_less shape s c room 1 h takes (loser_open s.log c.transaction (some, of.running)) (omega arith)
    (need_fell_by (part_of shape) 1 c s.log some of.one_part (need_compensation c.transaction c u stack s.log is refl (running_test c.transaction s.log of.running) shape_is))
    (λ p ne. need_stays (part_of shape) p c s.log some of.one_part ne)

pub end_fits : (shape : Shape) (s : State) (e : Record) (room : ℕ → ℕ) → IsSoundState shape s → IsEnd e → IsOfRunning shape s.log e → TakesCell shape s e room →
    HasItsCells shape s e 1 → FitsWith shape s e room
end_fits shape s e room h is of takes kept = elim (tells e.transaction s.log) [
  | inl on ↦ (
      let some = some_of e.transaction s.log on in
      let gone = need_ended e s.log is in
      fits_less shape s e room (need_of s.log e.transaction) h takes (loser_open s.log e.transaction (some, of.running))
      (need_positive e.transaction s.log (running_test e.transaction s.log of.running))
      (need_fell_by (part_of shape) (need_of s.log e.transaction) e s.log some of.one_part (omega (arith, gone)))
      (λ p ne. need_stays (part_of shape) p e s.log some of.one_part ne))
  | inr off ↦ (
      let plain : e.kind ≢ 5 = (λ x. absurd (omega (arith, is, x))) in
      fits_more shape s e room 0 h takes (cells_there shape s e 1 off kept)
      (subst (λ n. need_in (part_of shape) (part_of shape e.at) s.log + n ≡ need_in (part_of shape) (part_of shape e.at) (e ∷ s.log)) (need_ended e s.log is)
      (need_began (part_of shape) e s.log plain off))
      (λ p ne. need_began_elsewhere (part_of shape) p e s.log off ne))
]

pub checkpoint_fits : (shape : Shape) (s : State) (c : Record) (room : ℕ → ℕ) → IsSoundState shape s → IsCheckpoint c → TakesCell shape s c room →
    HasCells shape s c 1 → FitsWith shape s c room
checkpoint_fits shape s c room h is takes cells =
    fits_more shape s c room 0 h takes cells
    (let n = need_in_checkpoint (part_of shape) (part_of shape c.at) c s.log is in omega (arith, n))
    (λ p ne. sym (need_in_checkpoint (part_of shape) p c s.log is))
