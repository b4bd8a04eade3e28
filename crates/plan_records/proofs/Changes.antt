-- The changes of a transaction, and the heap words of an image.
use Rattle.std.proofs.Common.{◌≡◌, inl, inr, ℕ, ◌<◌, ◌≤◌, nat_lt, cond, sym, ◌∙◌, subst, arith}
use Rattle.std.proofs.lemmas.Bool.Decides.{nat_tests}
use Rattle.persist_model.specs.Region.{Words}
use Rattle.persist_model.specs.Records.{Record, IsAmong, Has, IsChange, IsRunning}
use Rattle.persist_model.specs.Standing.{IsToUndo}
use Rattle.persist_model.specs.Shape.{Shape, IsHeapWord, heap, words_of_shape, heap_words, part_of}
use Rattle.persist_model.specs.State.{State, IsSoundState}
use Rattle.log_laws.specs.Moves.{IsChangeBy}
use Rattle.log_laws.proofs.Deciding.{IsDecided, decide_equal, decide_either}
use Rattle.log_laws.proofs.Undoing.{compensated_word}

pub decide_change : (t a : ℕ) (r : Record) → IsDecided (IsChangeBy t a r)
decide_change t a r = by (decide_either _ _ (decide_equal r.kind 1) (decide_equal r.kind 2)) (decide_equal r.word a) (decide_equal r.transaction t)
  where
    by : IsDecided (IsChange r) → IsDecided (r.word ≡ a) → IsDecided (r.transaction ≡ t) → IsDecided (IsChangeBy t a r)
    by (inl x) (inl y) (inl z) = inl (x, y, z)
    by (inr x) y z = inr (λ k. x k.0)
    by (inl x) (inr y) z = inr (λ k. y k.1)
    by (inl x) (inl y) (inr z) = inr (λ k. z k.2)

-- a running transaction that changed a word has an update of it to undo
pub to_undo_of : (shape : Shape) (x : State) (t a : ℕ) (r : Record) → IsSoundState shape x → IsRunning x.log t → IsAmong x.log r → IsChangeBy t a r → Has (IsToUndo x.log a) x.log
to_undo_of shape x t a r sound running m c = by c.0
  where
    by : IsChange r → Has (IsToUndo x.log a) x.log
    by (inl update) = (r, m, (update, c.1, subst (λ y. IsRunning x.log y) (sym c.2) running))
    by (inr comp) =
        let u = compensated_word (part_of shape) x.log x.log t running sound.order r m comp c.2 in
        (u.0, u.1, (u.2.0, u.2.1 ∙ c.1, subst (λ y. IsRunning x.log y) (sym u.2.2) running))

-- a heap word is itself in the heap words
pub heap_word_is : (shape : Shape) (w : Words) (a : ℕ) → IsHeapWord shape a → heap_words shape w a ≡ w a
heap_word_is shape w a m = by (heap shape) (words_of_shape shape) m.0 m.1
  where
    by : (low high : ℕ) → low ≤ a → a < high → cond (nat_lt a low) 0 (cond (nat_lt a high) (w a) 0) ≡ w a
    by low high above below = grind (arith, nat_tests)
