-- What a state says of words, the words of the partitions and of the heap decide, and the format has no part in it.
use Rattle.std.proofs.Common.{◌≡◌, ◌≢◌, ◌↔◌, inl, inr, ℕ, ◌+◌, ◌*◌, ◌<◌, ◌≤◌, List, refl, sym, ◌∙◌, subst, arith}
use Rattle.persist_model.specs.Region.{Words}
use Rattle.persist_model.specs.Records.{Record, IsAmong}
use Rattle.persist_model.specs.Shape.{Shape, IsBucketOf, heap, words_of_shape, list_words, log_words}
use Rattle.persist_model.specs.Chain.{view, last_or}
use Rattle.persist_model.specs.ImageRecords.{cell_address, record_at, IsRecordOf}
use Rattle.persist_model.specs.Sound.{IsListOf, IsClosedBucket, HasState, room_of}
use Rattle.persist_model.specs.State.{State}
use Rattle.log_laws.proofs.SameLists.{chain_buckets, rules_same}
use Rattle.region_layout.specs.Layout.{IsAllowed}
use Rattle.bucket_log.specs.Words.{IsLogWord, IsPartWord}
use Rattle.bucket_log.proofs.Addresses.{list_word_is_log_word}
use Rattle.bucket_log.proofs.PartWords.{own_words_take}
use Rattle.bucket_log.proofs.PartStates.{log_words_same}
use Rattle.bucket_log.proofs.RecordSets.{same_cell}
use Rattle.bucket_log.proofs.Rooms.{room_same}
use Rattle.bucket_log.proofs.AppendImages.{Each-among, among_last}
use Rattle.recovery_run.proofs.ClosingPart.{same_heap}
use Rattle.migration.specs.Migrated.{in_format}

-- ---- words that agree on the partitions

module _ (shape : Shape) (ok : IsAllowed shape) (w v : Words) (p : ℕ) (inside : p < shape.partitions) (same : (a : ℕ) → IsPartWord shape p a → v a ≡ w a) where
  seen_same : (a : ℕ) → IsLogWord shape p a → view p (log_words shape v) a ≡ view p (log_words shape w) a
  seen_same a m = own_words_take.views shape p w v ok inside same a m

  log_same : (a : ℕ) → IsPartWord shape p a → log_words shape v a ≡ log_words shape w a
  log_same a m = log_words_same shape w v a (λ lt. same a m)

  bucket_same : (b a : ℕ) → IsBucketOf shape p b → b ≤ a → a < b + (8 + 8 * shape.cells) → log_words shape v a ≡ log_words shape w a
  bucket_same b a is low high = log_same a (inr (b, is, low, high))

  gate_same : (b c : ℕ) → IsBucketOf shape p b → c < shape.cells → log_words shape v (cell_address b c) ≡ log_words shape w (cell_address b c)
  gate_same b c is below = bucket_same b (cell_address b c) is (omega arith) (omega (arith, below))

  cell_same : (b c : ℕ) → IsBucketOf shape p b → c < shape.cells → record_at (log_words shape v) (cell_address b c) ≡ record_at (log_words shape w) (cell_address b c)
  cell_same b c is below = same_cell (log_words shape v) (log_words shape w) (cell_address b c) (λ a low high. bucket_same b a is (omega (arith, low)) (omega (arith, high, below)))

  register_same : (a : ℕ) → 8 ≤ a → a ≤ 12 → view p (log_words shape v) a ≡ view p (log_words shape w) a
  register_same a low high = seen_same a (list_word_is_log_word shape p a (inl (low, high)))

  links_same : (b : ℕ) → IsBucketOf shape p b →
      (view p (log_words shape v) b ≡ view p (log_words shape w) b) × (view p (log_words shape v) (b + 1) ≡ view p (log_words shape w) (b + 1))
  links_same b is = (seen_same b (list_word_is_log_word shape p b (inr (b, is, inl refl))), seen_same (b + 1) (list_word_is_log_word shape p (b + 1) (inr (b, is, inr refl))))

  module _ (chain : List ℕ) (h : IsListOf shape p (log_words shape w) chain) where
    bucket_of : (b : ℕ) → IsAmong chain b → IsBucketOf shape p b
    bucket_of b m = Each-among (IsBucketOf shape p) chain b (chain_buckets (IsBucketOf shape p) (view p (log_words shape w)) chain h.rules) m

    removed_bucket : log_words shape w (list_words p + 4) ≢ 0 → IsBucketOf shape p (log_words shape w (list_words p + 4))
    removed_bucket was = elim (h.rules.addresses.registers 12 (omega arith) (omega arith)) [ inl e ↦ absurd (was e) | inr is ↦ is ]

    pub list_alike : IsListOf shape p (log_words shape v) chain
    list_alike = record {
      rules = rules_same (IsBucketOf shape p) (view p (log_words shape w)) (view p (log_words shape v)) register_same links_same chain h.rules;
      removed = λ on.
          let register : log_words shape v (list_words p + 4) ≡ log_words shape w (list_words p + 4) = register_same 12 (omega arith) (omega arith) in
          let was : log_words shape w (list_words p + 4) ≢ 0 = λ e. on (register ∙ e) in
          subst (IsClosedBucket shape (log_words shape v)) (sym register)
          (λ c below. gate_same (log_words shape w (list_words p + 4)) c (removed_bucket was) below ∙ h.removed was c below);
    }

    pub records_alike : (r : Record) → IsRecordOf shape.cells chain (log_words shape v) r ↔ IsRecordOf shape.cells chain (log_words shape w) r
    records_alike r = (
      (λ k. record {
        bucket = k.bucket;
        is_among = k.is_among;
        place = k.place;
        below = k.below;
        is = k.is ∙ cell_same k.bucket k.place (bucket_of k.bucket k.is_among) k.below;
        gate = k.gate;
      }),
      (λ k. record {
        bucket = k.bucket;
        is_among = k.is_among;
        place = k.place;
        below = k.below;
        is = k.is ∙ sym (cell_same k.bucket k.place (bucket_of k.bucket k.is_among) k.below);
        gate = k.gate;
      }),
    )

    pub room_alike : room_of shape (log_words shape v) p chain ≡ room_of shape (log_words shape w) p chain
    room_alike = room_same shape (log_words shape v) (log_words shape w) p chain (λ c below on. gate_same (last_or 0 chain) c (bucket_of (last_or 0 chain) (among_last chain on)) below)

-- they have the same state
pub state_alike : (shape : Shape) → IsAllowed shape → (w v : Words) (s : State) → ((p : ℕ) → p < shape.partitions → (a : ℕ) → IsPartWord shape p a → v a ≡ w a) →
    ((a : ℕ) → heap shape ≤ a → a < words_of_shape shape → v a ≡ w a) → HasState shape w s → HasState shape v s
state_alike shape ok w v s same heap_same h = record {
  chains = h.chains;
  lists = λ p lt. list_alike shape ok w v p lt (same p lt) (h.chains p) (h.lists p lt);
  records = record {
    newest_first = h.records.newest_first;
    each = λ r. (
      (λ m. let k = (h.records.each r).0 m in (k.0, k.1, (records_alike shape ok w v k.0 k.1 (same k.0 k.1) (h.chains k.0) (h.lists k.0 k.1) r).1 k.2)),
      (λ k. (h.records.each r).1 (k.0, k.1, (records_alike shape ok w v k.0 k.1 (same k.0 k.1) (h.chains k.0) (h.lists k.0 k.1) r).0 k.2)),
    );
  };
  words = h.words ∙ sym (same_heap shape w v heap_same);
  room = λ p lt. h.room p lt ∙ sym (room_alike shape ok w v p lt (same p lt) (h.chains p) (h.lists p lt));
}

-- ---- the format

pub list_in_format : (m n : ℕ) (shape : Shape) (p : ℕ) (z : Words) (chain : List ℕ) → IsListOf (in_format m shape) p z chain → IsListOf (in_format n shape) p z chain
list_in_format m n shape p z chain h = record { rules = h.rules; removed = h.removed }

pub state_in_format : (m n : ℕ) (shape : Shape) (w : Words) (s : State) → HasState (in_format m shape) w s → HasState (in_format n shape) w s
state_in_format m n shape w s h = record {
  chains = h.chains;
  lists = λ p lt. list_in_format m n shape p (log_words shape w) (h.chains p) (h.lists p lt);
  records = record { newest_first = h.records.newest_first; each = h.records.each };
  words = h.words;
  room = h.room;
}
