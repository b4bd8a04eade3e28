-- The records of a group of a checkpoint's closing may be cleared, with the heap words of any image.
use Rattle.std.proofs.Common.{◌⊎◌, inl, inr, ℕ, refl, sym, ◌∙◌, subst}
use Rattle.persist_model.specs.Region.{Words, Region, IsCandidate}
use Rattle.persist_model.specs.Records.{Record, IsAmong, Has, IsDeletion, IsCommitted, IsSkipped}
use Rattle.persist_model.specs.Standing.{IsToUndo, Stands, undone, deleted, redone, kept}
use Rattle.persist_model.specs.Shape.{Shape, part_of, IsHeapWord}
use Rattle.persist_model.specs.State.{State, IsSoundState}
use Rattle.log_laws.specs.Closing.{IsApplied, MayClear}
use Rattle.log_laws.proofs.Standings.{stands_one}
use Rattle.log_laws.proofs.Growing.{numbered}
use Rattle.txn_laws.specs.Heaps.{StandsForHeap}
use Rattle.txn_laws.proofs.Finding.{stands_word}
use Rattle.redo_laws.specs.Stages.{AreSkipped, AreZero, IsGroup}
use Rattle.redo_laws.proofs.Owned.{deletion_inside}

-- The words of committed deletions are 0, and nothing is left to redo.
pub group_clears : (shape : Shape) (s : State) (h : Words) (region : Region) (S : Record → Type 0) → IsSoundState shape s → IsGroup s.log S → AreSkipped s.log → AreZero s.log region →
    StandsForHeap shape s.log h region → (w : Words) → ((a : ℕ) → IsHeapWord shape a → IsCandidate (region.at a) (w a)) → MayClear shape.policy s.log w S
group_clears shape s h region S sound group skipped zero stands w image = record {
  ended = group.ended;
  applied = λ r m on deletion committed. applied_word r m deletion committed;
  whole = group.whole;
  skips = group.skips;
  redone = λ a r m k. (let e = k.3 in k.4 (subst (IsSkipped s.log) e.2.1 (skipped e.0 e.1 e.2.0)));
}
  where
    applied_word : (r : Record) → IsAmong s.log r → IsDeletion r → IsCommitted s.log r.transaction → Has (IsToUndo s.log r.word) s.log ⊎ IsApplied shape.policy s.log w r.word
    applied_word r m deletion committed = by (stands r.word (w r.word) inside (image r.word inside))
      where
        inside : IsHeapWord shape r.word
        inside = deletion_inside shape s sound r m deletion

        by : Stands shape.policy s.log (λ b. w r.word) r.word (h r.word) → Has (IsToUndo s.log r.word) s.log ⊎ IsApplied shape.policy s.log w r.word
        by (undone u first e) = inl (u, first.among, first.has)
        by (deleted nu d e) = inr (λ v st.
            stands_one shape.policy s.log w r.word v (h r.word) (numbered (part_of shape) s.log s.log sound.order) st
            (stands_word shape.policy s.log (λ b. w r.word) w r.word (h r.word) refl (deleted nu d e))
            ∙ e ∙ sym (zero r.word (w r.word) (r, m, (deletion, refl, committed)) (image r.word inside)))
        by (redone nu nd q last e) = absurd (nd r m (deletion, refl, committed))
        by (kept nu nd nr e) = absurd (nd r m (deletion, refl, committed))
