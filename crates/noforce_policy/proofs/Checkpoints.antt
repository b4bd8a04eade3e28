-- What a checkpoint's parts behind its sweep leave to a stop.
use Rattle.std.proofs.Common.{◌≡◌, ◌≢◌, ◌⊎◌, ◌↔◌, inl, inr, ℕ, ◌<◌, List, ◌∷◌, refl, sym, ap, ◌∙◌, subst, arith}
use Rattle.persist_model.specs.Region.{Words}
use Rattle.persist_model.specs.Records.{Record, Log, IsAmong, Has, HasNo, IsCheckpoint, IsEnded}
use Rattle.persist_model.specs.Shape.{heap_words}
use Rattle.persist_model.specs.Standing.{IsToUndo, IsToDelete, IsToRedo, Stands, undone, deleted, redone, kept}
use Rattle.log_laws.specs.Closing.{MayClear}
use Rattle.log_laws.specs.Recovery.{HasDecidingRecord}
use Rattle.log_laws.proofs.Deciding.{has_or_none, decide_to_undo}
use Rattle.log_laws.proofs.Growing.{has_on, has_back}
use Rattle.log_clearing.specs.Closed.{IsListed}
use Rattle.log_clearing.proofs.ClearingStates.{closings_keep}
use Rattle.plan_records.specs.Cells.{appended}
use Rattle.region_layout.specs.RecordCells.{cell_of_checkpoint}
use Rattle.plan_records.specs.Passing.{inserted}
use Rattle.plan_records.proofs.Passing.{inserted_first}
use Rattle.plan_records.proofs.Records.{checkpoints_keep}
use Rattle.noforce_policy.specs.Laws.{AreAllDeletions, CheckpointsServe}

-- c is a checkpoint record with the greatest number
module _ (policy : ℕ) (log : Log) (c : Record) (is : IsCheckpoint c) (above : (x : Record) → IsAmong log x → x.lsn < c.lsn) where
  no_end : (t : ℕ) → IsEnded (c ∷ log) t → IsEnded log t
  no_end t h = has_back _ c log (λ k. (let four = k.0 in absurd (omega (arith, is, four)))) h

  -- nothing is to be redone: each ended transaction is skipped
  nothing_redone : (a : ℕ) → HasNo (IsToRedo policy (c ∷ log) a) (c ∷ log)
  nothing_redone a x m k = let y = no_end x.transaction k.3 in k.4 (y.0, inr y.1, (y.2, (c, inl refl, (is, above y.0 y.1))))

  deletes_before : (a : ℕ) → Has (IsToDelete (c ∷ log) a) (c ∷ log) → Has (IsToDelete log a) log
  deletes_before a h =
      let d = has_back _ c log (λ k. (let six = k.0 in absurd (omega (arith, is, six)))) h in
      (d.0, d.1, (d.2.0, d.2.1, has_back _ c log (λ k. (let four = k.0.0 in absurd (omega (arith, is, four)))) d.2.2))

  deletes_behind : (a : ℕ) → Has (IsToDelete log a) log → Has (IsToDelete (c ∷ log) a) (c ∷ log)
  deletes_behind a d = (d.0, inr d.1, (d.2.0, d.2.1, has_on _ c log d.2.2))

  pub clear_ended : (h : Words) (owners gates ends checkpoints : List ℕ) → AreAllDeletions log owners → ((a : ℕ) → IsAmong owners a → h a ≡ 0) →
      ((r : Record) → IsAmong (c ∷ log) r → IsListed gates ends checkpoints r ↔ ((r ≡ c) ⊎ ((r.kind ≢ 5) × IsEnded (c ∷ log) r.transaction))) →
      MayClear policy (c ∷ log) h (IsListed gates ends checkpoints)
  clear_ended h owners gates ends checkpoints all zero listed = record {
    ended = λ r m on. elim ((listed r m).0 on) [ inl e ↦ inl (ap (λ (x : Record). x.kind) e ∙ is) | inr k ↦ inr k.1 ];
    applied = λ r m on _ _. elim (has_or_none (IsToUndo (c ∷ log) r.word) (c ∷ log) (decide_to_undo (c ∷ log) r.word)) [
      | inl u ↦ inl u
      | inr none ↦ inr (λ v st. value r.word none v st)
    ];
    whole = λ e m on end r k of. (listed r k).1 (inr (of.1, (e, m, (end, sym of.0))));
    skips = λ d m on check e k end lt r j of. (listed r j).1 (inr (of.1, (e, k, (end, sym of.0))));
    redone = nothing_redone;
  }
    where
      value : (a : ℕ) → HasNo (IsToUndo (c ∷ log) a) (c ∷ log) → (v : ℕ) → Stands policy (c ∷ log) h a v → v ≡ h a
      value a none v (undone u first e) = absurd (none u first.among first.has)
      value a none v (deleted nu d e) = e ∙ sym (zero a ((all a).1 (deletes_before a d)))
      value a none v (redone nu nd x last e) = absurd (nothing_redone a x last.among last.has)
      value a none v (kept nu nd nr e) = e

pub checkpoints_serve : CheckpointsServe
checkpoints_serve shape w s chain place number owners may can all =
    let c : Record = appended place number cell_of_checkpoint in
    let above : ((x : Record) → IsAmong s.log x → x.lsn < c.lsn) = may.passes.checkpoint refl in
    let first : inserted c s.log ≡ c ∷ s.log = inserted_first c s.log above in
    record {
      append = checkpoints_keep shape 0 w s chain place number may can;
      deletes = λ a m. subst (λ l. HasDecidingRecord shape.policy l a) (sym first) (inr (inl (deletes_behind shape.policy s.log c refl above a ((all a).0 m))));
      clear = λ z v x gates ends checkpoints k is close zero reached. (
          let same : x.log ≡ c ∷ s.log = is ∙ first in
          closings_keep shape z v x gates ends checkpoints k close.few close.has close.sound close.groups
          (subst (λ l. MayClear shape.policy l (heap_words shape v) (IsListed gates ends checkpoints)) (sym same)
          (clear_ended shape.policy s.log c refl above (heap_words shape v) owners gates ends checkpoints all zero
          (subst (λ (l : Log). (r : Record) → IsAmong l r → IsListed gates ends checkpoints r ↔ ((r ≡ c) ⊎ ((r.kind ≢ 5) × IsEnded l r.transaction))) same close.ended)))
          reached);
    }
