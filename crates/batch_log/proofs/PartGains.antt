-- What several records that come at once in one partition make of the state.
use Rattle.std.proofs.Common.{◌≡◌, ◌≢◌, ◌⊎◌, ◌↔◌, inl, inr, ℕ, ◌+◌, ◌-◌, ◌*◌, ◌<◌, ◌≤◌, List, refl, ap, sym, ◌∙◌, arith, subst}
use Rattle.std.proofs.lemmas.Bool.Decides.{eqb_tells}
use Rattle.persist_model.specs.Region.{Words}
use Rattle.persist_model.specs.Records.{Record, Log, IsAmong, IsNewestFirst}
use Rattle.persist_model.specs.Shape.{Shape, IsBucketOf, heap, list_words, log_words, heap_words}
use Rattle.persist_model.specs.Chain.{view, out_address, last_or}
use Rattle.persist_model.specs.ImageRecords.{cell_address, record_at, IsRecordOf}
use Rattle.persist_model.specs.Sound.{IsListOf, IsClosedBucket, HaveChains, HasState, room_of}
use Rattle.persist_model.specs.State.{State}
use Rattle.log_laws.proofs.SameLists.{chain_buckets, rules_same}
use Rattle.log_laws.proofs.Views.{out_cases, view-out, view_behind}
use Rattle.region_layout.specs.Layout.{IsAllowed}
use Rattle.bucket_log.specs.Words.{IsPartWord}
use Rattle.bucket_log.proofs.Partitions.{part_words_apart}
use Rattle.bucket_log.proofs.PartStates.{log_words_same, with_chain, with_chain-here, with_chain-other}
use Rattle.bucket_log.proofs.RecordSets.{same_cell}
use Rattle.bucket_log.proofs.Rooms.{room_same}
use Rattle.bucket_log.proofs.AppendImages.{Each-among, among_last}
use Rattle.batch_log.specs.Buckets.{AddsRecords}
use Rattle.batch_log.specs.States.{GainsAll}

-- The state of z, and v, which differs from it in words of partition p and of the heap alone.
module _ (shape : Shape) (ok : IsAllowed shape) (z v : Words) (s : State) (p : ℕ) (inside : p < shape.partitions) (has : HasState shape z s)
    (same : (a : ℕ) → a < heap shape → (IsPartWord shape p a → ⊥) → v a ≡ z a) where
  abbrev before : Words
  before = log_words shape z

  abbrev later : Words
  later = log_words shape v

  unchanged : (a : ℕ) → (IsPartWord shape p a → ⊥) → later a ≡ before a
  unchanged a off = log_words_same shape z v a (λ lt. same a lt off)

  module _ (q : ℕ) (lt : q < shape.partitions) (ne : q ≢ p) where
    other_word : (a : ℕ) → IsPartWord shape q a → later a ≡ before a
    other_word a m = unchanged a (λ k. part_words_apart shape p q a ok inside lt ne m k)

    other_register : (a : ℕ) → 8 ≤ a → a ≤ 12 → view q later a ≡ view q before a
    other_register a low high = view-out q later a ∙ other_word (out_address q a) (is (out_cases q a)) ∙ sym (view-out q before a)
      where
        is : ((8 ≤ a) × (a ≤ 12) × (out_address q a ≡ list_words q + (a - 8))) ⊎ (((a < 8) ⊎ (12 < a)) × (out_address q a ≡ a)) → IsPartWord shape q (out_address q a)
        is (inl k) = let e = k.2 in inl (omega (arith, e), omega (arith, e, high))
        is (inr k) = elim k.0 [ inl x ↦ absurd (omega (arith, x, low)) | inr x ↦ absurd (omega (arith, x, high)) ]

    bucket_word : (b a : ℕ) → IsBucketOf shape q b → b ≤ a → a < b + (8 + 8 * shape.cells) → later a ≡ before a
    bucket_word b a is low high = other_word a (inr (b, is, low, high))

    other_links : (b : ℕ) → IsBucketOf shape q b → (view q later b ≡ view q before b) × (view q later (b + 1) ≡ view q before (b + 1))
    other_links b is =
        let e = is.3 in (
          view_behind q later b (omega (arith, e)) ∙ bucket_word b b is (omega arith) (omega arith) ∙ sym (view_behind q before b (omega (arith, e))),
          view_behind q later (b + 1) (omega (arith, e)) ∙ bucket_word b (b + 1) is (omega arith) (omega arith) ∙ sym (view_behind q before (b + 1) (omega (arith, e))),
        )

    other_gate : (b c : ℕ) → IsBucketOf shape q b → c < shape.cells → later (cell_address b c) ≡ before (cell_address b c)
    other_gate b c is below = bucket_word b (cell_address b c) is (omega arith) (omega (arith, below))

    other_list : (chain : List ℕ) → IsListOf shape q before chain → IsListOf shape q later chain
    other_list chain h = record {
      rules = rules_same (IsBucketOf shape q) (view q before) (view q later) other_register other_links chain h.rules;
      removed = λ on.
          let register : later (list_words q + 4) ≡ before (list_words q + 4) = other_register 12 (omega arith) (omega arith) in
          let was : before (list_words q + 4) ≢ 0 = λ e. on (register ∙ e) in
          subst (IsClosedBucket shape later) (sym register) (λ c below. other_gate (before (list_words q + 4)) c (removed_bucket h was) below ∙ h.removed was c below);
    }
      where
        removed_bucket : IsListOf shape q before chain → before (list_words q + 4) ≢ 0 → IsBucketOf shape q (before (list_words q + 4))
        removed_bucket h was = elim (h.rules.addresses.registers 12 (omega arith) (omega arith)) [ inl e ↦ absurd (was e) | inr is ↦ is ]

    chain_bucket : (chain : List ℕ) → IsListOf shape q before chain → (b : ℕ) → IsAmong chain b → IsBucketOf shape q b
    chain_bucket chain h b m = Each-among (IsBucketOf shape q) chain b (chain_buckets (IsBucketOf shape q) (view q before) chain h.rules) m

    other_cell : (b c : ℕ) → IsBucketOf shape q b → c < shape.cells → record_at later (cell_address b c) ≡ record_at before (cell_address b c)
    other_cell b c is below = same_cell later before (cell_address b c) (λ a low high. bucket_word b a is (omega (arith, low)) (omega (arith, high, below)))

    other_records : (chain : List ℕ) → IsListOf shape q before chain → (r : Record) → IsRecordOf shape.cells chain later r ↔ IsRecordOf shape.cells chain before r
    other_records chain h r = (
      (λ k. record {
        bucket = k.bucket;
        is_among = k.is_among;
        place = k.place;
        below = k.below;
        is = k.is ∙ other_cell k.bucket k.place (chain_bucket chain h k.bucket k.is_among) k.below;
        gate = k.gate;
      }),
      (λ k. record {
        bucket = k.bucket;
        is_among = k.is_among;
        place = k.place;
        below = k.below;
        is = k.is ∙ sym (other_cell k.bucket k.place (chain_bucket chain h k.bucket k.is_among) k.below);
        gate = k.gate;
      }),
    )

    other_room : (chain : List ℕ) → IsListOf shape q before chain → room_of shape later q chain ≡ room_of shape before q chain
    other_room chain h = room_same shape later before q chain (λ c below on. other_gate (last_or 0 chain) c (chain_bucket chain h (last_or 0 chain) (among_last chain on)) below)

  module _ (ys : List ℕ) (list : IsListOf shape p later ys) where
    abbrev chains : ℕ → List ℕ
    chains = with_chain p ys has.chains

    lists_later : HaveChains shape v chains
    lists_later q lt = elim (eqb_tells q p) [
      | inl e ↦ subst (λ n. IsListOf shape n later (chains n)) (sym e.1) (subst (IsListOf shape p later) (sym (with_chain-here p ys has.chains)) list)
      | inr e ↦ subst (IsListOf shape q later) (sym (with_chain-other p q ys has.chains e.1)) (other_list q lt e.1 (has.chains q) (has.lists q lt))
    ]

    -- r is a record of another partition
    abbrev IsOther : Record → Type 0
    IsOther r = (q : ℕ) × (q < shape.partitions) × (q ≢ p) × IsRecordOf shape.cells (has.chains q) before r

    was_record : (r : Record) → IsAmong s.log r ↔ (IsRecordOf shape.cells (has.chains p) before r ⊎ IsOther r)
    was_record r = (
      (λ m. let k = (has.records.each r).0 m in elim (eqb_tells k.0 p) [
        | inl e ↦ inl (subst (λ n. IsRecordOf shape.cells (has.chains n) before r) e.1 k.2)
        | inr e ↦ inr (k.0, k.1, e.1, k.2)
      ]),
      (λ h. elim h [ inl k ↦ (has.records.each r).1 (p, inside, k) | inr k ↦ (has.records.each r).1 (k.0, k.1, k.3) ]),
    )

    is_record : (r : Record) → (IsRecordOf shape.cells ys later r ⊎ IsOther r) ↔ ((q : ℕ) × (q < shape.partitions) × IsRecordOf shape.cells (chains q) later r)
    is_record r = (
      (λ h. elim h [
        | inl k ↦ (p, inside, subst (λ xs. IsRecordOf shape.cells xs later r) (sym (with_chain-here p ys has.chains)) k)
        | inr k ↦ (
          k.0,
          k.1,
          subst (λ xs. IsRecordOf shape.cells xs later r) (sym (with_chain-other p k.0 ys has.chains k.2)) ((other_records k.0 k.1 k.2 (has.chains k.0) (has.lists k.0 k.1) r).1 k.3),
        )
      ]),
      (λ k. elim (eqb_tells k.0 p) [
        | inl e ↦ inl (subst (λ xs. IsRecordOf shape.cells xs later r) (ap chains e.1 ∙ with_chain-here p ys has.chains) k.2)
        | inr e ↦ inr (
          k.0,
          k.1,
          e.1,
          (other_records k.0 k.1 e.1 (has.chains k.0) (has.lists k.0 k.1) r).0 (subst (λ xs. IsRecordOf shape.cells xs later r) (with_chain-other p k.0 ys has.chains e.1) k.2),
        )
      ]),
    )

    -- with the records that stand in v and some room of the partition, v has this state
    changed : (log : Log) (room : ℕ → ℕ) → IsNewestFirst log → ((r : Record) → IsAmong log r ↔ (IsRecordOf shape.cells ys later r ⊎ IsOther r)) →
        room p ≡ room_of shape later p ys → ((q : ℕ) → q ≢ p → room q ≡ s.room q) →
        HasState shape v (record { log = log; words = heap_words shape v; room = room })
    changed log room newest each here elsewhere = record {
      chains = chains;
      lists = lists_later;
      records = record { newest_first = newest; each = λ r. (λ m. (is_record r).0 ((each r).0 m), λ k. (each r).1 ((is_record r).1 k)) };
      words = refl;
      room = λ q lt. elim (eqb_tells q p) [
        | inl e ↦ ap room e.1 ∙ here ∙ ap (room_of shape later p) (sym (with_chain-here p ys has.chains)) ∙ ap (λ n. room_of shape later n (chains n)) (sym e.1)
        | inr e ↦ elsewhere q e.1 ∙ has.room q lt ∙ sym (other_room q lt e.1 (has.chains q) (has.lists q lt))
            ∙ ap (room_of shape later q) (sym (with_chain-other p q ys has.chains e.1))
      ];
    }

    -- some records more, and another room
    pub part_gains : (news : List Record) (log : Log) (room : ℕ → ℕ) → GainsAll s.log news log → AddsRecords shape.cells before (has.chains p) later ys news →
        room p ≡ room_of shape later p ys → ((q : ℕ) → q ≢ p → room q ≡ s.room q) → HasState shape v (record { log = log; words = heap_words shape v; room = room })
    part_gains news log room gains records here elsewhere = changed log room gains.newest_first (λ r. (
      (λ m. elim ((gains.each r).0 m) [
        | inl e ↦ inl ((records r).1 (inr e))
        | inr k ↦ elim ((was_record r).0 k) [ inl j ↦ inl ((records r).1 (inl j)) | inr j ↦ inr j ]
      ]),
      (λ h. (gains.each r).1 (elim h [
        | inl k ↦ elim ((records r).0 k) [ inl j ↦ inr ((was_record r).1 (inl j)) | inr e ↦ inl e ]
        | inr k ↦ inr ((was_record r).1 (inr k))
      ])),
    )) here elsewhere
