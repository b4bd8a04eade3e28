-- The laws of one bucket with its records.
use Rattle.std.proofs.Common.{◌≡◌, inl, inr, ℕ, ◌+◌, List, [], ◌∷◌, map, length, refl, ap, sym, subst, ◌∙◌}
use Rattle.std.proofs.lemmas.List.{map-append}
use Rattle.persist_model.specs.declared.event.Event.{Event}
use Rattle.persist_model.specs.Progress.{start, advance_all}
use Rattle.persist_model.specs.Records.{Record, Log, IsNewestFirst}
use Rattle.persist_model.specs.Shape.{log_words}
use Rattle.persist_model.specs.Chain.{out_event}
use Rattle.persist_model.specs.State.{State}
use Rattle.persist_model.proofs.Projecting.{advance_all-append}
use Rattle.log_laws.proofs.Views.{AreStoresOn-out}
use Rattle.atomic_list.specs.Plans.{insertion}
use Rattle.bucket_log.specs.Words.{IsLogWord, IsPartWord}
use Rattle.bucket_log.specs.States.{LeadsTo}
use Rattle.bucket_log.proofs.Appended.{AreOnLog-stores, AreDurable-out}
use Rattle.bucket_log.proofs.Partitions.{log_word_out, part_word_below}
use Rattle.bucket_log.proofs.PartWords.{on_part, own_words_take}
use Rattle.plan_records.specs.Passing.{inserted}
use Rattle.plan_records.specs.Groups.{with_one, with_all}
use Rattle.plan_records.proofs.Passing.{inserted_gains}
use Rattle.batch_log.specs.Plans.{filling, bucket_plan}
use Rattle.batch_log.specs.Buckets.{bucket_records, free_cells, region_bucket, EachFillingImage, BucketsLeaveChains, BucketsSettle, BucketsAreOnPart, OwnWordsFill}
use Rattle.batch_log.specs.States.{falls, GainsAll, behind, BucketsGain, BucketsWait, BucketsStand, BucketsAreOnLog, BucketsTakeRoom, AreFresh, BucketsComeAtOnce}
use Rattle.batch_log.proofs.Filling.{durable_append, filling_durable}
use Rattle.batch_log.proofs.BucketCells.{length-records_from}
use Rattle.batch_log.proofs.FillImages.{fill_stores}
use Rattle.batch_log.proofs.StateImages.{view_images, view_rests, state_waits, state_stands, bucket_leads, bucket_takes_room}

pub each_filling_image : EachFillingImage
each_filling_image shape p z v chain bucket tail records k ok inside can h = view_images shape ok p inside z v chain bucket tail records can (IsPartWord shape p) k (λ a m. m) h

pub buckets_leave_chains : BucketsLeaveChains
buckets_leave_chains shape p z v chain bucket tail records ok inside can h = view_rests shape ok p inside z v chain bucket tail records can (IsPartWord shape p) (λ a m. m) h

pub buckets_settle : BucketsSettle
buckets_settle shape p z bucket tail records =
    let put : List Event = insertion (record { node = bucket; tail = tail }) in
    ap (λ es. (advance_all (start z) es).pending) (map-append (out_event p) (filling bucket records shape.cells) put)
    ∙ ap (λ q. q.pending) (advance_all-append (start z) (map (out_event p) (filling bucket records shape.cells)) (map (out_event p) put))

pub buckets_are_on_part : BucketsAreOnPart
buckets_are_on_part shape p w chain bucket tail records inside can = on_part shape p (region_bucket shape p bucket tail records)
    (AreStoresOn-out (IsLogWord shape p) (IsPartWord shape p) p (log_word_out shape p) (bucket_plan shape.cells bucket tail records) (fill_stores shape p w w chain bucket tail records inside can))

pub own_words_fill : OwnWordsFill
own_words_fill shape p w v chain bucket tail records same can = record {
  at_rest = own_words_take.at_rest shape p w v chain same can.at_rest;
  is_bucket = can.is_bucket;
  absent = can.absent;
  tail_is = can.tail_is;
  some = can.some;
  few = can.few;
  gates = can.gates;
}

pub buckets_gain : BucketsGain
buckets_gain shape p z s chain bucket tail records later ok inside has can gains = bucket_leads shape ok p inside z s has chain bucket tail records can later gains

pub buckets_wait : BucketsWait
buckets_wait shape p z v s chain bucket tail records k ok inside has can short h = state_waits shape ok p inside z s has chain bucket tail records can k v short h

pub buckets_stand : BucketsStand
buckets_stand shape p z v s chain bucket tail records later k ok inside has can gains far h = state_stands shape ok p inside z s has chain bucket tail records can later gains k v far h

pub buckets_are_on_log : BucketsAreOnLog
buckets_are_on_log = record {
  on_log = λ shape p w chain bucket tail records ok inside can. AreOnLog-stores shape (IsPartWord shape p) (λ a m. part_word_below shape p a ok inside m) (region_bucket shape p bucket tail records)
      (AreStoresOn-out (IsLogWord shape p) (IsPartWord shape p) p (log_word_out shape p) (bucket_plan shape.cells bucket tail records) (fill_stores shape p w w chain bucket tail records inside can));
  durable = λ shape p bucket tail records. AreDurable-out p (bucket_plan shape.cells bucket tail records)
      (durable_append (filling bucket records shape.cells) (insertion (record { node = bucket; tail = tail })) (filling_durable bucket shape.cells records)
      (tt, (tt, (tt, (tt, (tt, (tt, (tt, (tt, (tt, (tt, (tt, tt))))))))))));
}

pub buckets_take_room : BucketsTakeRoom
buckets_take_room shape p z s chain bucket tail records ok inside has can = bucket_takes_room shape ok p inside z s has chain bucket tail records can

-- ---- each at the place of its number

pub all_inserted : Log → List Record → Log
all_inserted log [] = log
all_inserted log (u ∷ us) = all_inserted (inserted u log) us

pub with_all_is : (s : State) (us : List Record) (room : ℕ → ℕ) → with_all s us room ≡ record { log = all_inserted s.log us; words = s.words; room = room }
unfolding all_inserted
with_all_is s [] room = refl
with_all_is s (u ∷ us) room = with_all_is (with_one s u room) us room

pub all_gain : (log : Log) (us : List Record) → IsNewestFirst log → AreFresh log us → GainsAll log us (all_inserted log us)
unfolding all_inserted
all_gain log [] first fresh = record { newest_first = first; each = λ x. ((λ m. inr m), (λ h. elim h [ inl n ↦ absurd n | inr m ↦ m ])) }
all_gain log (u ∷ us) first fresh =
    let one = inserted_gains u log fresh.0 first in
    let rest = all_gain (inserted u log) us one.newest_first fresh.1 in
    record {
      newest_first = rest.newest_first;
      each = λ x. (
        (λ m. elim ((rest.each x).0 m) [ inl k ↦ inl (inr k) | inr k ↦ elim ((one.each x).0 k) [ inl e ↦ inl (inl e) | inr j ↦ inr j ] ]),
        (λ h. (rest.each x).1 (elim h [
          | inl m ↦ elim m [ inl e ↦ inr ((one.each x).1 (inl e)) | inr k ↦ inl k ]
          | inr j ↦ inr ((one.each x).1 (inr j))
        ])),
      );
    }

pub buckets_come_at_once : BucketsComeAtOnce
buckets_come_at_once shape p z s chain bucket tail records ok inside has can fresh =
    let free : ℕ = free_cells shape (log_words shape z) chain in
    let news : List Record = bucket_records bucket records in
    let is : behind p free s news (all_inserted s.log news) ≡ with_all s news (falls p (free + length records) s.room) =
    ap (λ n. record { log = all_inserted s.log news; words = s.words; room = falls p (free + n) s.room }) (length-records_from bucket 0 records)
    ∙ sym (with_all_is s news (falls p (free + length records) s.room)) in
    subst (λ x. LeadsTo shape z s x (region_bucket shape p bucket tail records)) is
    (bucket_leads shape ok p inside z s has chain bucket tail records can (all_inserted s.log news) (all_gain s.log news has.records.newest_first fresh))
