-- The repair of a partition's list in the form of states.
use Rattle.std.proofs.Common.{◌≡◌, inl, inr, ℕ, ◌+◌, ◌<◌, List, length, map, take, sym, ◌∙◌, subst, arith}
use Rattle.std.proofs.lemmas.List.{take_all, length-map}
use Rattle.persist_model.specs.declared.event.Event.{Event}
use Rattle.persist_model.specs.Region.{Words}
use Rattle.persist_model.specs.Progress.{Wrote, Reaches, start, advance_all}
use Rattle.persist_model.specs.Runs.{progress_at}
use Rattle.persist_model.specs.Records.{IsAmong}
use Rattle.persist_model.specs.Shape.{Shape, IsBucketOf, heap, heap_words, log_words, list_words}
use Rattle.persist_model.specs.Chain.{out_event, last_or}
use Rattle.persist_model.specs.State.{State}
use Rattle.persist_model.specs.Sound.{HasChain, HasState}
use Rattle.log_laws.specs.Recovering.{with_heap}
use Rattle.log_laws.proofs.Views.{AreStoresOn}
use Rattle.atomic_list.specs.Plans.{repair_plan}
use Rattle.atomic_list.specs.Repairing.{repaired, RepairLeaves}
use Rattle.atomic_list.specs.Rules.{IsList, IsListWord, IsAtRest}
use Rattle.atomic_list.specs.Views.{IsListWordOrGate, IsRemovedClosed}
use Rattle.atomic_list.proofs.Cases.{chain_is_buckets}
use Rattle.atomic_list.proofs.Closings.{repaired_stays_closed, list_in_view, list_from_view}
use Rattle.atomic_list.proofs.Repairs.{still, repair_images, repair_ends, repair_is_on_list}
use Rattle.region_layout.specs.Layout.{IsAllowed}
use Rattle.bucket_log.specs.Words.{IsLogWord, SameRecords}
use Rattle.bucket_log.proofs.Addresses.{list_word_is_log_word, cell_word_is_log_word}
use Rattle.bucket_log.proofs.Appended.{AreDurable-out, inside_log}
use Rattle.bucket_log.proofs.AppendImages.{Each-among, among_last}
use Rattle.bucket_log.proofs.ListFacts.{list_plan_stores}
use Rattle.bucket_log.proofs.Partitions.{part_word_below}
use Rattle.bucket_log.proofs.PartStates.{part_kept}
use Rattle.bucket_log.proofs.Rooms.{room_same}
use Rattle.recovery_run.specs.Reached.{IsQuiet}
use Rattle.recovery_lists.specs.Repairs.{seen, asked_in, region_repair, IsRepair, RepairsAreStates}
use Rattle.recovery_lists.proofs.PlanEvents.{repair_short, repair_durable}
use Rattle.recovery_lists.proofs.PartPlans.{part_on_log, seen_reached, others_stay, gate_stays, cell_stays}

-- a list word or a gate is a log word
pub log_word_of : (shape : Shape) (p a : ℕ) → IsListWordOrGate shape p a → IsLogWord shape p a
log_word_of shape p a (inl m) = list_word_is_log_word shape p a m
log_word_of shape p a (inr k) = let lt = k.3 in let e = k.4 in cell_word_is_log_word shape p k.0 k.2 a k.1 lt (omega (arith, e)) (omega (arith, e))

-- where the view has nothing pending and a list at rest, the partition is quiet
pub quiet_at_rest : (shape : Shape) (p : ℕ) (v : Words) (xs : List ℕ) → IsAllowed shape → p < shape.partitions → IsAtRest shape p (seen shape p v) xs → IsQuiet p v
quiet_at_rest shape p v xs ok inside rest = (
  sym (inside_log shape v (list_words p + 2) (part_word_below shape p (list_words p + 2) ok inside (inl (omega arith, omega arith)))) ∙ rest.to_append,
  sym (inside_log shape v (list_words p + 4) (part_word_below shape p (list_words p + 4) ok inside (inl (omega arith, omega arith)))) ∙ rest.to_remove,
)

module _ (shape : Shape) (ok : IsAllowed shape) (p : ℕ) (inside : p < shape.partitions) (w : Words) (s : State) (has : HasState shape w s) where
  abbrev plan : List Event
  plan = repair_plan (asked_in shape p w)

  list_of : (xs : List ℕ) → HasChain shape w p xs → IsList shape p (seen shape p w) xs × IsRemovedClosed shape (seen shape p w)
  list_of xs chain = list_in_view shape p (log_words shape w) xs chain

  stores : AreStoresOn (IsListWord shape p) plan
  stores = list_plan_stores shape p plan (repair_is_on_list shape p (seen shape p w) (has.chains p) (list_of (has.chains p) (has.lists p inside)).0)

  chain_bucket : (b : ℕ) → IsAmong (has.chains p) b → IsBucketOf shape p b
  chain_bucket b m = Each-among (IsBucketOf shape p) (has.chains p) b
      (chain_is_buckets shape p (seen shape p w) (has.chains p) (list_of (has.chains p) (has.lists p inside)).0) m

  module _ (k : ℕ) (v : Words) (h : Reaches (λ a. a < heap shape) (progress_at w (map (out_event p) plan) k) v) where
    reached : Reaches (IsLogWord shape p) (repaired (seen shape p w) k) (seen shape p v)
    reached = seen_reached shape ok p inside w plan stores k v h

    chain_stays : (xs : List ℕ) → HasChain shape w p xs → HasChain shape v p xs
    chain_stays xs chain = list_from_view shape p (log_words shape v) xs (
      repair_images shape p (seen shape p w) (seen shape p v) xs k (list_of xs chain).0 (λ a m. reached a (list_word_is_log_word shape p a m)),
      repaired_stays_closed shape p (seen shape p w) (seen shape p v) xs k (list_of xs chain).0 (list_of xs chain).1 (λ a m. reached a (log_word_of shape p a m)),
    )

    same_records : SameRecords shape.cells (log_words shape w) (has.chains p) (log_words shape v) (has.chains p)
    same_records r = (
      (λ m. record {
        bucket = m.bucket;
        is_among = m.is_among;
        place = m.place;
        below = m.below;
        is = m.is ∙ cell_stays shape ok p inside w plan stores k v h m.bucket m.place (chain_bucket m.bucket m.is_among) m.below;
        gate = m.gate;
      }),
      (λ m. record {
        bucket = m.bucket;
        is_among = m.is_among;
        place = m.place;
        below = m.below;
        is = m.is ∙ sym (cell_stays shape ok p inside w plan stores k v h m.bucket m.place (chain_bucket m.bucket m.is_among) m.below);
        gate = m.gate;
      }),
    )

    state_stays : HasState shape v (with_heap s (heap_words shape v))
    state_stays = part_kept shape ok w v s p inside has (others_stay shape ok p inside w plan stores k v h) (has.chains p) (chain_stays (has.chains p) (has.lists p inside)) same_records
        (room_same shape (log_words shape v) (log_words shape w) p (has.chains p)
        (λ c below ne. gate_stays shape ok p inside w plan stores k v h (last_or 0 (has.chains p)) c (chain_bucket (last_or 0 (has.chains p)) (among_last (has.chains p) ne)) below))

  leaves : RepairLeaves shape p (seen shape p w) (has.chains p) (advance_all (start (seen shape p w)) plan)
  leaves = subst (λ (es : List Event). RepairLeaves shape p (seen shape p w) (has.chains p) (advance_all (start (seen shape p w)) es)) (take_all 5 plan (repair_short (asked_in shape p w)))
      (repair_ends shape p (seen shape p w) (has.chains p) (list_of (has.chains p) (has.lists p inside)).0)

  quiet_last : (v : Words) → Reaches (λ a. a < heap shape) (progress_at w (map (out_event p) plan) (length (map (out_event p) plan))) v → IsQuiet p v
  quiet_last v h = quiet_at_rest shape p v (has.chains p) ok inside
      (still shape p (advance_all (start (seen shape p w)) plan).durable (seen shape p v) (has.chains p) leaves.at_rest (λ a m. word a m))
    where
      size : length (map (out_event p) plan) ≡ length plan
      size = length-map plan (out_event p)

      all : take (length (map (out_event p) plan)) plan ≡ plan
      all = take_all (length (map (out_event p) plan)) plan (omega (arith, size))

      ends : Reaches (IsLogWord shape p) (advance_all (start (seen shape p w)) plan) (seen shape p v)
      ends = subst (λ (es : List Event). Reaches (IsLogWord shape p) (advance_all (start (seen shape p w)) es) (seen shape p v)) all (reached (length (map (out_event p) plan)) v h)

      word : (a : ℕ) → IsListWord shape p a → seen shape p v a ≡ (advance_all (start (seen shape p w)) plan).durable a
      word a m = elim (ends a (list_word_is_log_word shape p a m)) [
        | inl e ↦ e
        | inr wrote ↦ absurd (subst (λ ws. Wrote ws a (seen shape p v a)) leaves.nothing_pending wrote)
      ]

  pub is_repair : IsRepair shape p w s (region_repair p (asked_in shape p w))
  is_repair = record {
    on_log = part_on_log shape ok p inside w plan stores;
    durable = AreDurable-out p plan (repair_durable (asked_in shape p w));
    images = λ k v h. state_stays k v h;
    chain = λ k v h. chain_stays k v h;
    others = λ k v h. others_stay shape ok p inside w plan stores k v h;
    last = λ v h. quiet_last v h;
  }

pub repairs_are_states : RepairsAreStates
repairs_are_states shape p w s ok inside has = is_repair shape ok p inside w s has
