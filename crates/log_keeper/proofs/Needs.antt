-- The need of a log into which a record comes.
use Rattle.std.proofs.Common.{◌≡◌, ◌≢◌, inl, inr, ℕ, ◌+◌, ◌∷◌, refl, sym, ap, ◌∙◌, subst, arith}
use Rattle.persist_model.specs.Kinds.{CHECKPOINT}
use Rattle.persist_model.specs.Records.{Record, Log}
use Rattle.persist_model.specs.Need.{need_of, need_in}
use Rattle.persist_model.specs.Shape.{Shape, part_of}
use Rattle.log_laws.proofs.Needs.{has_kind_false, need_rollback, need_compensation, need_stays}
use Rattle.log_laws.proofs.MoveNeeds.{need_updated, need_deleted, need_ended, need_first_update, need_first_deletion, need_first_rollback, need_rose, need_fell_by, need_began, need_began_elsewhere}
use Rattle.log_laws.proofs.MoveRooms.{some_of, tells, running_test}
use Rattle.log_laws.proofs.Keeping.{need_in_checkpoint}
use Rattle.plan_records.specs.Passing.{inserted, renumbered}
use Rattle.plan_records.proofs.Passing.{inserted_first}
use Rattle.plan_records.proofs.PassingNeeds.{need_in_inserted}
use Rattle.log_keeper.specs.Needs.{IsComing, need_here, PassingsCome, UpdatesNeed, DeletionsNeed, RollbacksNeed, CompensationsNeed, EndsNeed, OthersNeed, CheckpointsNeed}

pub passings_come : PassingsCome
passings_come shape log r passes of = record {
  running = of;
  newer = λ x m lt same. (let other = passes.newer x m lt in other.other (same, other.no_checkpoint));
}

-- r as the last record
abbrev last : Record → Record
last r = renumbered r.lsn r

as_last : (shape : Shape) (p : ℕ) (log : Log) (r : Record) → IsComing shape log r → need_in (part_of shape) p (inserted r log) ≡ need_in (part_of shape) p (last r ∷ log)
as_last shape p log r coming = need_in_inserted (part_of shape) p r.lsn r log coming.newer

pub updates_need : UpdatesNeed
updates_need shape log u coming is = elim (tells u.transaction log) [
  | inl on ↦ (rw on (need_rose (part_of shape) 1 (last u) log (some_of u.transaction log on) coming.running.one_part
      (need_updated (last u) log is (running_test u.transaction log coming.running.running)) ∙ sym (as_last shape (part_of shape u.at) log u coming)))
  | inr off ↦ (
      let plain : u.kind ≢ CHECKPOINT = (λ e. absurd (omega (arith, is, e))) in
      rw off (subst (λ n. need_here shape u log + n ≡ need_here shape u (last u ∷ log)) (need_first_update (last u) log is off) (need_began (part_of shape) (last u) log plain off)
      ∙ sym (as_last shape (part_of shape u.at) log u coming)))
]

pub deletions_need : DeletionsNeed
deletions_need shape log d coming is = elim (tells d.transaction log) [
  | inl on ↦ (rw on (need_rose (part_of shape) 0 (last d) log (some_of d.transaction log on) coming.running.one_part
      (need_deleted (last d) log is) ∙ sym (as_last shape (part_of shape d.at) log d coming)))
  | inr off ↦ (
      let plain : d.kind ≢ CHECKPOINT = (λ e. absurd (omega (arith, is, e))) in
      rw off (subst (λ n. need_here shape d log + n ≡ need_here shape d (last d ∷ log)) (need_first_deletion (last d) log is off) (need_began (part_of shape) (last d) log plain off)
      ∙ sym (as_last shape (part_of shape d.at) log d coming)))
]

pub rollbacks_need : RollbacksNeed
rollbacks_need = record {
  later = λ shape log r coming is first on. (
      let rolled = has_kind_false r.transaction 3 log (λ y m k. first y m ((k.1, λ five. absurd (omega (arith, k.0, five))), k.0)) in
      ap (λ n. n + 1) (as_last shape (part_of shape r.at) log r coming)
      ∙ need_fell_by (part_of shape) 1 (last r) log (some_of r.transaction log on) coming.running.one_part
      (need_rollback r.transaction (last r) log is refl (running_test r.transaction log coming.running.running) rolled));
  alone = λ shape log r coming is off. (
      let plain : r.kind ≢ CHECKPOINT = (λ e. absurd (omega (arith, is, e))) in
      subst (λ n. need_here shape r log + n ≡ need_here shape r (last r ∷ log)) (need_first_rollback (last r) log is off) (need_began (part_of shape) (last r) log plain off)
      ∙ sym (as_last shape (part_of shape r.at) log r coming));
}

pub compensations_need : CompensationsNeed
compensations_need shape log stack c u coming is some shape_is =
    ap (λ n. n + 1) (as_last shape (part_of shape c.at) log c coming)
    ∙ need_fell_by (part_of shape) 1 (last c) log some coming.running.one_part
    (need_compensation c.transaction (last c) u stack log is refl (running_test c.transaction log coming.running.running) shape_is)

pub ends_need : EndsNeed
ends_need shape log e coming is = elim (tells e.transaction log) [
  | inl on ↦ (
      let gone = need_ended (last e) log is in
      let same = as_last shape (part_of shape e.at) log e coming in
      let fell = need_fell_by (part_of shape) (need_of log e.transaction) (last e) log (some_of e.transaction log on) coming.running.one_part (omega (arith, gone)) in
      rw on (ap (λ n. n + need_of log e.transaction) same ∙ fell))
  | inr off ↦ (
      let plain : e.kind ≢ CHECKPOINT = (λ x. absurd (omega (arith, is, x))) in
      let same = as_last shape (part_of shape e.at) log e coming in
      let began = subst (λ n. need_here shape e log + n ≡ need_here shape e (last e ∷ log)) (need_ended (last e) log is) (need_began (part_of shape) (last e) log plain off) in
      rw off (omega (arith, same, began)))
]

pub others_need : OthersNeed
others_need shape p log r coming plain ne = as_last shape p log r coming ∙ elim (tells r.transaction log) [
  | inl on ↦ need_stays (part_of shape) p (last r) log (some_of r.transaction log on) coming.running.one_part ne
  | inr off ↦ sym (need_began_elsewhere (part_of shape) p (last r) log off ne)
]

pub checkpoints_need : CheckpointsNeed
checkpoints_need shape p log c is older = ap (need_in (part_of shape) p) (inserted_first c log older) ∙ need_in_checkpoint (part_of shape) p c log is
