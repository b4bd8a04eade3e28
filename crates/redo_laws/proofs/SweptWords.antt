-- Behind a sweep each word that is neither to be undone nor deleted has its standing value, whatever a stop leaves.
use Rattle.std.proofs.Common.{◌≡◌, ◌⊎◌, inl, inr, ℕ, Bool, true, false, if◌then◌else◌, List, [], take, refl, sym, ◌∙◌, subst}
use Rattle.persist_model.specs.Region.{Words, Region, IsCandidate, newest}
use Rattle.persist_model.specs.Progress.{latest}
use Rattle.persist_model.specs.Records.{HasNo}
use Rattle.persist_model.specs.Standing.{IsToUndo, IsToDelete, Stands, undone, deleted, redone, kept}
use Rattle.persist_model.specs.Shape.{Shape, part_of, heap_words, IsHeapWord}
use Rattle.persist_model.specs.State.{State}
use Rattle.log_laws.proofs.Standings.{stands_one}
use Rattle.log_laws.proofs.Growing.{numbered}
use Rattle.plan_records.specs.Conditions.{AreSweptIn}
use Rattle.plan_records.proofs.Changes.{heap_word_is}
use Rattle.noforce_policy.specs.Backed.{HasOneValue}
use Rattle.history_laws.specs.Histories.{fold}
use Rattle.txn_laws.specs.Txns.{txn_at, written}
use Rattle.txn_laws.proofs.Finding.{stands_word}
use Rattle.txn_laws.proofs.Lanes.{whose}
use Rattle.txn_laws.proofs.Written.{latest_elsewhere}
use Rattle.redo_laws.specs.Stages.{AreTold, IsAllSwept}
use Rattle.redo_laws.specs.Worlds.{RedoWorld, IsRedoWorldAt}
use Rattle.redo_laws.proofs.Reading.{found_here}

module _ (shape : Shape) (base : Words) (s : State) (chains : ℕ → List ℕ) (start : Words) (z : RedoWorld) (region : Region) (world : IsRedoWorldAt shape base s chains start z region) where
  abbrev h : Words
  h = fold start z.world.history

  -- a word that isn't to be undone has no store of a running transaction
  unwritten : (l a : ℕ) → HasNo (IsToUndo s.log a) s.log → latest (written (txn_at z.world.lanes l)) a (h a) ≡ h a
  unwritten l a none = by (txn_at z.world.lanes l).over refl
    where
      by : (t : Bool) → (txn_at z.world.lanes l).over ≡ t → latest (if t then [] else take (txn_at z.world.lanes l).stored (txn_at z.world.lanes l).writes) a (h a) ≡ h a
      by true is = refl
      by false is = latest_elsewhere (take (txn_at z.world.lanes l).stored (txn_at z.world.lanes l).writes) a (h a) (λ v m e. (
          let going = (world.transactions.each l).going is in
          let u = going.covered v m in
          none u.0 u.1 (u.2.0, u.2.1 ∙ e, λ q k end. going.running q k (end.0, end.1 ∙ u.2.2))))

  -- so a read finds the history's value there
  pub committed_is : (a : ℕ) → IsHeapWord shape a → HasNo (IsToUndo s.log a) s.log → HasNo (IsToDelete s.log a) s.log → newest (region.at a) ≡ h a
  committed_is a m none free = elim (whose z.world.lanes a) [
    | inl k ↦ (found_here shape base s chains start z region world).own k.0 a k.1 free ∙ unwritten k.0 a none
    | inr nobodys ↦ (found_here shape base s chains start z region world).others a m nobodys free
  ]

  pub swept_in : AreTold shape z.dirty region → IsAllSwept shape s.log z.dirty → (i : Words) → ((a : ℕ) → IsHeapWord shape a → IsCandidate (region.at a) (i a)) → AreSweptIn shape s (heap_words shape i)
  swept_in told swept i image a none free v st = by st
    where
      one : IsHeapWord shape a → (z.dirty a ≡ true) ⊎ HasOneValue region a → HasOneValue region a
      one m (inl d) = absurd (let u = swept a m d in none u.0 u.1 u.2)
      one m (inr k) = k

      standing : IsHeapWord shape a → v ≡ heap_words shape i a
      standing m =
          stands_one shape.policy s.log (heap_words shape i) a v (h a) (numbered (part_of shape) s.log s.log world.log.sound.order) st
          (stands_word shape.policy s.log (λ b. i a) (heap_words shape i) a (h a) (sym (heap_word_is shape i a m)) (world.stands a (i a) m (image a m)))
          ∙ sym (heap_word_is shape i a m ∙ one m (told a m) (i a) (image a m) ∙ committed_is a m none free)

      by : Stands shape.policy s.log (heap_words shape i) a v → v ≡ heap_words shape i a
      by (undone u first e) = absurd (none u first.among first.has)
      by (deleted nu d e) = absurd (free d.0 d.1 d.2)
      by (kept nu nd nr e) = e
      by (redone nu nd r last e) = standing (subst (λ b. IsHeapWord shape b) last.has.2 ((world.log.sound.formed r last.among).change last.has.1).0)
