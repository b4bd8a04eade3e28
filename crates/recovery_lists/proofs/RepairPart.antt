-- A repair as a part of recovery.
use Rattle.std.specs.Prelude.{All}
use Rattle.std.proofs.Common.{◌≡◌, ℕ, ◌<◌, List, length, take, refl, sym, ◌∙◌, subst, arith}
use Rattle.persist_model.specs.declared.event.Event.{Event}
use Rattle.persist_model.specs.Region.{Words, Region}
use Rattle.persist_model.specs.Progress.{Reaches, start, advance_all}
use Rattle.persist_model.specs.Runs.{progress_at}
use Rattle.persist_model.specs.Shape.{Shape, heap, words_of_shape, heap_words}
use Rattle.persist_model.specs.State.{State, IsSoundState}
use Rattle.persist_model.specs.Sound.{HasState}
use Rattle.lane_traits.specs.Device.{IsWithin}
use Rattle.log_laws.specs.Recovery.{start as begins, makes}
use Rattle.log_laws.specs.Recovering.{RECOVERY_LANE, with_heap, AreOnLog}
use Rattle.log_laws.specs.Parts.{after_plan, Leads, EachKeeps}
use Rattle.log_laws.proofs.Parts.{part_image, part_image_settled}
use Rattle.log_laws.proofs.Recovering.{heap_step}
use Rattle.log_laws.proofs.Views.{AreStoresOn}
use Rattle.atomic_list.specs.Plans.{repair_plan}
use Rattle.atomic_list.proofs.Repairs.{repair_is_on_list}
use Rattle.region_layout.specs.Layout.{IsAllowed}
use Rattle.bucket_log.specs.Words.{IsPartWord}
use Rattle.bucket_log.proofs.ListFacts.{list_plan_stores}
use Rattle.bucket_log.proofs.Partitions.{part_word_below}
use Rattle.recovery_run.specs.Edges.{AreOffHeader}
use Rattle.recovery_run.specs.Reached.{newest_at, HasSettled, IsQuiet}
use Rattle.recovery_run.proofs.ClosingPart.{same_heap}
use Rattle.recovery_run.proofs.Composing.{parts_keep}
use Rattle.recovery_lists.specs.Repairs.{seen, asked_in, region_repair, IsRepair}
use Rattle.recovery_lists.specs.Lists.{KeepsLists}
use Rattle.recovery_lists.proofs.KeptLists.{list_seen, few_of, quiet_stays, few_stays}
use Rattle.recovery_lists.proofs.PartPlans.{part_stores}
use Rattle.recovery_lists.proofs.PlanEvents.{within_of, repair_settles, off_header}
use Rattle.recovery_lists.proofs.Reading.{settled_state}
use Rattle.recovery_lists.proofs.RepairStates.{repairs_are_states}
use Rattle.recovery_lists.proofs.Settling.{end_reached, at_rest_here, come_here, settled_behind, newest_behind}

-- a plan on log words stores to no heap word: behind the whole of it these are as they were
pub heap_stays : (shape : Shape) (w d : Words) (s : State) (plan : List Event) → HasState shape w s → AreOnLog shape plan → advance_all (start w) plan ≡ start d → heap_words shape d ≡ s.words
heap_stays shape w d s plan has on ends =
    same_heap shape w d (part_image_settled shape w d plan (length plan) on (end_reached (λ a. a < words_of_shape shape) w d plan d ends (λ a m. refl))) ∙ sym has.words

module _ (shape : Shape) (ok : IsAllowed shape) (p : ℕ) (inside : p < shape.partitions) (first y : State) (region : Region) (h : HasSettled shape first y region) where
  abbrev w : Words
  w = newest_at region

  abbrev plan : List Event
  plan = region_repair p (asked_in shape p (newest_at region))

  abbrev d : Words
  d = (advance_all (start w) plan).durable

  has : HasState shape w y
  has = settled_state shape first y region h

  law : IsRepair shape p w y plan
  law = repairs_are_states shape p w y ok inside has

  ends : advance_all (start w) plan ≡ start d
  ends = repair_settles p w (asked_in shape p w)

  pub repair_on_part : AreStoresOn (IsPartWord shape p) plan
  repair_on_part = part_stores shape ok p inside w (repair_plan (asked_in shape p w))
      (list_plan_stores shape p (repair_plan (asked_in shape p w)) (repair_is_on_list shape p (seen shape p w) (has.chains p) (list_seen shape p w (has.chains p) (has.lists p inside))))

  pub repair_off_header : AreOffHeader shape plan
  repair_off_header = off_header shape p inside plan repair_on_part

  pub repair_within : All (IsWithin region.size) plan
  repair_within = within_of (IsPartWord shape p) region.size (λ a m. (let below = part_word_below shape p a ok inside m in let size = h.come.size in omega (arith, below, size))) plan repair_on_part

  leads : Leads shape (start w) y plan
  leads = record {
    durable = law.durable;
    images = λ k v reached. (
        let parts = part_image shape (start w) w v y plan k (at_rest_here shape first y region h) law.on_log reached in
        (with_heap y (heap_words shape v), law.images k v parts.0, makes begins (heap_step shape w v y has.words parts.1)));
  }

  has_there : HasState shape d y
  has_there = subst (λ (x : Words). HasState shape d (with_heap y x)) (heap_stays shape w d y plan has law.on_log ends)
      (law.images (length plan) d (end_reached (λ a. a < heap shape) w d plan d ends (λ a m. refl)))

  pub repair_done : HasSettled shape first y (after_plan RECOVERY_LANE region plan)
  repair_done = settled_behind shape first y region h y plan d leads ends has_there begins repair_off_header

  pub repair_keeps : IsSoundState shape first → (k : ℕ) → EachKeeps shape first (after_plan RECOVERY_LANE region (take k plan))
  repair_keeps sound k = parts_keep shape first (start w) w y region plan k sound (come_here shape first y region h) leads

  there : Reaches (λ a. a < heap shape) (progress_at w plan (length plan)) (newest_at (after_plan RECOVERY_LANE region plan))
  there = end_reached (λ a. a < heap shape) w (newest_at (after_plan RECOVERY_LANE region plan)) plan d ends
      (λ a lt. newest_behind shape first y region h y plan d leads ends has_there begins a (omega (arith, lt)))

  pub repair_quiet : IsQuiet p (newest_at (after_plan RECOVERY_LANE region plan))
  repair_quiet = law.last (newest_at (after_plan RECOVERY_LANE region plan)) there

  pub repair_lists : KeepsLists shape region (after_plan RECOVERY_LANE region plan)
  repair_lists = record {
    quiet = quiet_stays shape ok p inside w (newest_at (after_plan RECOVERY_LANE region plan)) y has (law.others (length plan) (newest_at (after_plan RECOVERY_LANE region plan)) there) repair_quiet;
    few = few_stays shape ok p inside w (newest_at (after_plan RECOVERY_LANE region plan)) y has (law.others (length plan) (newest_at (after_plan RECOVERY_LANE region plan)) there)
        (λ few. few_of shape p (newest_at (after_plan RECOVERY_LANE region plan)) (has.chains p)
        (list_seen shape p (newest_at (after_plan RECOVERY_LANE region plan)) (has.chains p)
        (law.chain (length plan) (newest_at (after_plan RECOVERY_LANE region plan)) there (has.chains p) (has.lists p inside)))
        (few (has.chains p) (has.lists p inside)));
  }
