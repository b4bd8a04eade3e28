-- The removal of a closed bucket as a part of recovery, where no record is left.
use Rattle.std.specs.Prelude.{All}
use Rattle.std.proofs.Common.{◌≡◌, inl, inr, ℕ, ◌+◌, ◌<◌, ◌≤◌, ◌==◌, Bool, true, false, if◌then◌else◌, List, [], length, take, refl, sym, subst, arith}
use Rattle.persist_model.specs.declared.event.Event.{Event}
use Rattle.persist_model.specs.Region.{Words, Region}
use Rattle.persist_model.specs.Progress.{Reaches, start, advance_all}
use Rattle.persist_model.specs.Runs.{progress_at}
use Rattle.persist_model.specs.Records.{Log}
use Rattle.persist_model.specs.Shape.{Shape, heap, heap_words}
use Rattle.persist_model.specs.State.{State, IsSoundState}
use Rattle.persist_model.specs.Sound.{HasState}
use Rattle.log_laws.specs.Closing.{IsClosing, empty}
use Rattle.lane_traits.specs.Device.{IsWithin}
use Rattle.log_laws.specs.Recovery.{Steps, start as begins, makes, closes}
use Rattle.log_laws.specs.Recovering.{RECOVERY_LANE, with_heap}
use Rattle.log_laws.specs.Parts.{after_plan, Leads, EachKeeps}
use Rattle.log_laws.proofs.Parts.{part_image}
use Rattle.log_laws.proofs.Recovering.{heap_step}
use Rattle.log_laws.proofs.Views.{AreStoresOn}
use Rattle.atomic_list.specs.declared.plans.Remove.{Remove}
use Rattle.atomic_list.specs.Plans.{removal}
use Rattle.atomic_list.specs.Walk.{chain_of}
use Rattle.region_layout.specs.Layout.{IsAllowed}
use Rattle.bucket_log.specs.Words.{IsPartWord}
use Rattle.bucket_log.proofs.Partitions.{part_word_below}
use Rattle.log_clearing.specs.Removals.{CanDrop, region_removal, more_room, with_room, IsDrop}
use Rattle.log_clearing.proofs.RemovalStates.{removals_are_states}
use Rattle.recovery_run.specs.Edges.{AreOffHeader}
use Rattle.recovery_run.specs.Reached.{newest_at, HasSettled, IsQuiet}
use Rattle.recovery_run.proofs.Composing.{parts_keep}
use Rattle.recovery_lists.specs.Repairs.{seen}
use Rattle.recovery_lists.specs.Lists.{KeepsLists, HasDropped}
use Rattle.recovery_lists.proofs.KeptLists.{quiet_stays, few_stays}
use Rattle.recovery_lists.proofs.PartPlans.{part_stores, others_stay}
use Rattle.recovery_lists.proofs.PlanEvents.{within_of, removal_settles, off_header}
use Rattle.recovery_lists.proofs.Reading.{settled_state}
use Rattle.recovery_lists.proofs.RemovalEnds.{removal_on_list, not_few, removal_quiet, removal_shortens}
use Rattle.recovery_lists.proofs.RepairPart.{heap_stays}
use Rattle.recovery_lists.proofs.Settling.{end_reached, at_rest_here, come_here, settled_behind, newest_behind}

-- where there is no record, none is closed
closing_none : (policy : ℕ) (w : Words) (log : Log) → log ≡ [] → IsClosing policy log w log
closing_none policy w log e = subst (λ (l : Log). IsClosing policy l w l) (sym e) (record { part = empty; redone = λ a r m k. m })

no_less : (p cells : ℕ) (room : ℕ → ℕ) (q : ℕ) → room q ≤ more_room p cells room q
no_less p cells room q = by_test (q == p)
  where
    by_test : (t : Bool) → room q ≤ (if t then room q + cells else room q)
    by_test true = omega arith
    by_test false = omega arith

module _ (shape : Shape) (ok : IsAllowed shape) (p : ℕ) (inside : p < shape.partitions) (first y : State) (region : Region) (h : HasSettled shape first y region) (r : Remove)
    (can : CanDrop shape p (seen shape p (newest_at region)) r) where
  abbrev w : Words
  w = newest_at region

  abbrev plan : List Event
  plan = region_removal p r

  abbrev d : Words
  d = (advance_all (start w) plan).durable

  has : HasState shape w y
  has = settled_state shape first y region h

  law : IsDrop shape w y (more_room p shape.cells y.room) plan
  law = removals_are_states shape p w y r ok inside has can

  ends : advance_all (start w) plan ≡ start d
  ends = removal_settles p w r

  pub drop_on_part : AreStoresOn (IsPartWord shape p) plan
  drop_on_part = part_stores shape ok p inside w (removal r) (removal_on_list shape p w r can)

  pub drop_off_header : AreOffHeader shape plan
  drop_off_header = off_header shape p inside plan drop_on_part

  pub drop_within : All (IsWithin region.size) plan
  drop_within = within_of (IsPartWord shape p) region.size (λ a m. (let below = part_word_below shape p a ok inside m in let size = h.come.size in omega (arith, below, size))) plan drop_on_part

  module _ (none : y.log ≡ []) where
    leads : Leads shape (start w) y plan
    leads = record {
      durable = law.durable;
      images = λ k v reached. (
          let parts = part_image shape (start w) w v y plan k (at_rest_here shape first y region h) law.on_log reached in
          let stored = makes begins (heap_step shape w v y has.words parts.1) in
          elim (law.images k v parts.0) [
            | inl before ↦ (with_heap y (heap_words shape v), before, stored)
            | inr behind ↦ (
              with_room y (more_room p shape.cells y.room) (heap_words shape v),
              behind,
              makes stored (closes y.log (more_room p shape.cells y.room) (closing_none shape.policy (heap_words shape v) y.log none) (no_less p shape.cells y.room)),
            )
          ]);
    }

    abbrev z : State
    z = with_room y (more_room p shape.cells y.room) y.words

    has_there : HasState shape d z
    has_there = subst (λ (x : Words). HasState shape d (with_room y (more_room p shape.cells y.room) x)) (heap_stays shape w d y plan has law.on_log ends)
        (law.last d (end_reached (λ a. a < heap shape) w d plan d ends (λ a m. refl)))

    steps_there : Steps shape y z
    steps_there = makes begins (closes y.log (more_room p shape.cells y.room) (closing_none shape.policy y.words y.log none) (no_less p shape.cells y.room))

    pub drop_done : HasDropped shape first y (after_plan RECOVERY_LANE region plan)
    drop_done = record {
      state = z;
      settled = settled_behind shape first y region h z plan d leads ends has_there steps_there drop_off_header;
      empty = none;
      words = refl;
    }

    pub drop_keeps : IsSoundState shape first → (k : ℕ) → EachKeeps shape first (after_plan RECOVERY_LANE region (take k plan))
    drop_keeps sound k = parts_keep shape first (start w) w y region plan k sound (come_here shape first y region h) leads

    there : Reaches (λ a. a < heap shape) (progress_at w plan 7) (newest_at (after_plan RECOVERY_LANE region plan))
    there = end_reached (λ a. a < heap shape) w (newest_at (after_plan RECOVERY_LANE region plan)) plan d ends
        (λ a lt. newest_behind shape first y region h z plan d leads ends has_there steps_there a (omega (arith, lt)))

    pub drop_quiet : IsQuiet p (newest_at (after_plan RECOVERY_LANE region plan))
    drop_quiet = removal_quiet shape ok p inside w r can (newest_at (after_plan RECOVERY_LANE region plan)) there

    pub drop_shortens : length (chain_of shape (seen shape p (newest_at (after_plan RECOVERY_LANE region plan)))) + 1 ≡ length (chain_of shape (seen shape p w))
    drop_shortens = removal_shortens shape ok p inside w r can (newest_at (after_plan RECOVERY_LANE region plan)) there

    others : (a : ℕ) → a < heap shape → (IsPartWord shape p a → ⊥) → newest_at (after_plan RECOVERY_LANE region plan) a ≡ w a
    others = others_stay shape ok p inside w (removal r) (removal_on_list shape p w r can) 7 (newest_at (after_plan RECOVERY_LANE region plan)) there

    pub drop_lists : KeepsLists shape region (after_plan RECOVERY_LANE region plan)
    drop_lists = record {
      quiet = quiet_stays shape ok p inside w (newest_at (after_plan RECOVERY_LANE region plan)) y has others drop_quiet;
      few = few_stays shape ok p inside w (newest_at (after_plan RECOVERY_LANE region plan)) y has others (λ few. absurd (not_few shape ok p inside w r can y has few));
    }
