-- The words of one partition in words that have been made of two: the part of that partition may stand in them.
use Rattle.std.proofs.Common.{◌≡◌, inl, inr, ℕ, ◌<◌, ◌≤◌, Bool, true, false, if◌then◌else◌, cond, List, refl, sym, ap, ◌∙◌, subst, arith, nat_lt}
use Rattle.std.proofs.lemmas.Bool.{ltb-false}
use Rattle.persist_model.specs.declared.event.Event.{Event}
use Rattle.persist_model.specs.Region.{Words}
use Rattle.persist_model.specs.Progress.{Reaches}
use Rattle.persist_model.specs.Runs.{progress_at}
use Rattle.persist_model.specs.Shape.{Shape, bucket, heap, words_of_shape, log_words, heap_words}
use Rattle.persist_model.specs.Chain.{view}
use Rattle.persist_model.specs.State.{State}
use Rattle.persist_model.specs.ImageRecords.{AreRecords}
use Rattle.persist_model.specs.Sound.{IsListOf, HasState, room_of}
use Rattle.log_laws.specs.Recovering.{with_heap}
use Rattle.region_layout.specs.Layout.{IsAllowed}
use Rattle.region_layout.proofs.Places.{words_apart}
use Rattle.region_layout.proofs.Parts.{parts_apart}
use Rattle.bucket_log.specs.Words.{IsLogWord, IsPartWord}
use Rattle.bucket_log.specs.PartWords.{is_part_word, AreOnPart}
use Rattle.bucket_log.proofs.PartStates.{log_words_same}
use Rattle.bucket_log.proofs.PartWords.{part_words_are_told, parts_reach, own_words_take}
use Rattle.plan_records.specs.Appends.{MayStandAt}

-- each word of the log behind the header is some partition's
pub some_part : (shape : Shape) (a : ℕ) → IsAllowed shape → 32 ≤ a → a < heap shape → (p : ℕ) × (p < shape.partitions) × IsPartWord shape p a
some_part shape a ok high low = elim ((words_apart shape ok).covered a (omega (arith, low))) [
  | inl header ↦ absurd (omega (arith, header, high))
  | inr (inl j) ↦ (let p = (parts_apart shape ok).covered j.0 j.1.0 in (p.0, p.1, inr (bucket shape j.0, (j.0, p.2.0, p.2.1, refl), j.1.1, j.1.2)))
  | inr (inr k) ↦ (let above = ((words_apart shape ok).block_in_heap k.0 a k.1).0 in absurd (omega (arith, above, low)))
]

-- ---- words with one partition's words of others

module _ (shape : Shape) (p : ℕ) (base v : Words) where
  -- v, with p's words of base
  abbrev pub replaced : Words
  replaced = λ a. if is_part_word shape p a then base a else v a

  pub replaced_in : (a : ℕ) → IsPartWord shape p a → replaced a ≡ base a
  replaced_in a m = let on : is_part_word shape p a ≡ true = (part_words_are_told shape p a).1 m in rw on refl

  pub replaced_out : (a : ℕ) → (IsPartWord shape p a → ⊥) → replaced a ≡ v a
  replaced_out a off = by (is_part_word shape p a) refl
    where
      by : (t : Bool) → is_part_word shape p a ≡ t → (if t then base a else v a) ≡ v a
      by true e = absurd (off ((part_words_are_told shape p a).0 e))
      by false e = refl

  -- what a part of p has reached from base, it has reached from there
  pub reached_there : (plan : List Event) (k : ℕ) → AreOnPart shape p plan → Reaches (IsPartWord shape p) (progress_at base plan k) v → MayStandAt shape replaced plan k v
  reached_there plan k on h = parts_reach.words shape p k base v replaced plan on (record { own = replaced_in; others = λ a lt off. replaced_out a off }) h

  -- the partition's view is base's
  pub view_replaced : IsAllowed shape → p < shape.partitions → (a : ℕ) → IsLogWord shape p a → view p (log_words shape replaced) a ≡ view p (log_words shape base) a
  view_replaced ok inside = own_words_take.views shape p base replaced ok inside replaced_in

-- ---- the same log words, or heap words

pub log_words_alike : (shape : Shape) (w v : Words) → ((a : ℕ) → a < heap shape → v a ≡ w a) → log_words shape v ≡ log_words shape w
log_words_alike shape w v same = λ i a. log_words_same shape w v a (same a) i

heap_word_alike : (shape : Shape) (w v : Words) → ((a : ℕ) → heap shape ≤ a → v a ≡ w a) → (a : ℕ) → heap_words shape v a ≡ heap_words shape w a
heap_word_alike shape w v same a = by (nat_lt a (heap shape)) refl
  where
    by : (t : Bool) → nat_lt a (heap shape) ≡ t →
        cond t 0 (cond (nat_lt a (words_of_shape shape)) (v a) 0) ≡ cond t 0 (cond (nat_lt a (words_of_shape shape)) (w a) 0)
    by true e = refl
    by false e = ap (λ x. cond (nat_lt a (words_of_shape shape)) x 0) (same a (ltb-false a (heap shape) e))

pub heap_words_alike : (shape : Shape) (w v : Words) → ((a : ℕ) → heap shape ≤ a → v a ≡ w a) → heap_words shape v ≡ heap_words shape w
heap_words_alike shape w v same = λ i a. heap_word_alike shape w v same a i

-- words with the same log words have the same state, but for the heap words
pub same_state : (shape : Shape) (w v : Words) (s : State) → ((a : ℕ) → a < heap shape → v a ≡ w a) → HasState shape w s → HasState shape v (with_heap s (heap_words shape v))
same_state shape w v s same h =
    let e : log_words shape w ≡ log_words shape v = sym (log_words_alike shape w v same) in
    record {
      chains = h.chains;
      lists = λ p lt. subst (λ z. IsListOf shape p z (h.chains p)) e (h.lists p lt);
      records = subst (λ z. AreRecords shape h.chains z s.log) e h.records;
      words = refl;
      room = λ p lt. h.room p lt ∙ ap (λ z. room_of shape z p (h.chains p)) e;
    }
