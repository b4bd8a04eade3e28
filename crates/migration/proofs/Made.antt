-- What the plan of a migration makes of a settled region, whole or stopped.
use Rattle.std.proofs.Common.{◌≡◌, inl, inr, ℕ, zero, suc, ◌+◌, ◌<◌, ◌≤◌, List, [], ◌∷◌, ◌++◌, length, map, take, sum_by, refl, sym, ◌∙◌, subst, arith}
use Rattle.std.specs.Prelude.{slice_index, All}
use Rattle.std.proofs.lemmas.List.{get_or_past}
use Rattle.std.proofs.lemmas.Bool.{cases_lt}
use Rattle.persist_model.specs.declared.event.Event.{Event}
use Rattle.persist_model.specs.Region.{Words, Region, IsImage, AreSettled, newest_words}
use Rattle.persist_model.specs.Progress.{Progress, Wrote, Tracks, Reaches, start, advance_all}
use Rattle.persist_model.specs.Records.{IsAmong}
use Rattle.persist_model.specs.Runs.{progress_at}
use Rattle.persist_model.specs.Shape.{FIRST_MAGIC}
use Rattle.persist_model.proofs.Images.{length-newest_words, settled_is}
use Rattle.persist_model.proofs.Projecting.{AreAway-take, IsFixed-aways, IsFixed-start}
use Rattle.persist_model.proofs.Tracking.{Tracks-settled, Reaches-image}
use Rattle.lane_traits.specs.Device.{IsWithin, stores_of}
use Rattle.log_laws.specs.Parts.{after_plan, AreDurable}
use Rattle.log_laws.specs.Recovering.{RECOVERY_LANE}
use Rattle.log_laws.proofs.Views.{AreStoresOn, AreStoresOn-append, AreAway-stores}
use Rattle.region_layout.specs.declared.layout.Kind.{Kind}
use Rattle.recovery_run.specs.Reached.{newest_at}
use Rattle.recovery_run.proofs.Composing.{size_plan, tracks_plan}
use Rattle.recovery_run.proofs.Reaching.{read_newest, newest_tracked, single_plan}
use Rattle.recovery_lists.proofs.PlanEvents.{within_of}
use Rattle.migration.specs.Plan.{IsReserved, reserved_words, store_reserved, migration_plan}
use Rattle.migration.specs.Migrated.{AreMigrated, IsOnTheWay}
use Rattle.migration.proofs.Plans.{tail, among_reserved, plan_is_on_the_way, plan_migrates}

-- ---- the events

reserved_low : (a : ℕ) → IsReserved a → a < 32
reserved_low a (inl e) = omega (arith, e)
reserved_low a (inr (inl e)) = omega (arith, e)
reserved_low a (inr (inr k)) = let high = k.1 in omega (arith, high)

stores_on : (kinds : List Kind) (xs : List ℕ) → ((a : ℕ) → IsAmong xs a → a < 32) → AreStoresOn (λ a. a < 32) (map (store_reserved kinds) xs)
stores_on kinds [] low = tt
stores_on kinds (x ∷ xs) low = (low x (inl refl), stores_on kinds xs (λ a m. low a (inr m)))

plan_low : (kinds : List Kind) → AreStoresOn (λ a. a < 32) (migration_plan kinds)
unfolding migration_plan
plan_low kinds = AreStoresOn-append (λ a. a < 32) (map (store_reserved kinds) reserved_words) tail (stores_on kinds reserved_words (λ a m. reserved_low a (among_reserved a m))) (tt, (omega arith, (tt, tt)))

stores_durable : (kinds : List Kind) (xs : List ℕ) (rest : List Event) → AreDurable rest → AreDurable (map (store_reserved kinds) xs ++ rest)
stores_durable kinds [] rest h = h
stores_durable kinds (x ∷ xs) rest h = (tt, stores_durable kinds xs rest h)

plan_durable : (kinds : List Kind) → AreDurable (migration_plan kinds)
unfolding migration_plan
plan_durable kinds = stores_durable kinds reserved_words tail (tt, (tt, (tt, tt)))

durable_take : (k : ℕ) (plan : List Event) → AreDurable plan → AreDurable (take k plan)
durable_take zero plan h = tt
durable_take (suc k) [] h = tt
durable_take (suc k) (e ∷ plan) h = (h.0, durable_take k plan h.1)

pub plan_within : (kinds : List Kind) (size : ℕ) → 32 ≤ size → All (IsWithin size) (migration_plan kinds)
plan_within kinds size enough = within_of (λ a. a < 32) size (λ a lt. omega (arith, lt, enough)) (migration_plan kinds) (plan_low kinds)

pub plan_stores : (kinds : List Kind) → sum_by stores_of (migration_plan kinds) ≡ 22
unfolding migration_plan
plan_stores kinds = refl

pub plan_length : (kinds : List Kind) → length (migration_plan kinds) ≡ 24
unfolding migration_plan
plan_length kinds = refl

-- ---- the region

-- past its end a region reads as 0
pub past_end : (region : Region) (a : ℕ) → region.size ≤ a → newest_at region a ≡ 0
past_end region a le = get_or_past (newest_words region) a 0 (omega (arith, le, length-newest_words region))

module _ (kinds : List Kind) (region : Region) (settled : AreSettled region) (enough : 32 ≤ region.size) where
  abbrev w : Words
  w = newest_at region

  abbrev Inside : ℕ → Type 0
  Inside a = a < region.size

  begun : Tracks Inside RECOVERY_LANE (start w) region
  begun = Tracks-settled Inside RECOVERY_LANE w region (λ a lt v k. settled_is (region.at a) v (settled a lt) k ∙ sym (read_newest region a lt))

  tracked : (plan : List Event) → AreDurable plan → Tracks Inside RECOVERY_LANE (advance_all (start w) plan) (after_plan RECOVERY_LANE region plan)
  tracked plan durable = tracks_plan Inside RECOVERY_LANE (start w) region plan durable begun

  -- past the header nothing is stored
  far_durable : (k a : ℕ) → 32 ≤ a → (progress_at w (migration_plan kinds) k).durable a ≡ w a
  far_durable k a ge = (IsFixed-aways (start w) a (w a) (take k (migration_plan kinds))
      (AreAway-take a k (migration_plan kinds) (AreAway-stores (λ b. b < 32) a (migration_plan kinds) (λ b lt e. absurd (omega (arith, lt, e, ge))) (plan_low kinds)))
      (IsFixed-start w a)).durable

  pub image_on_way : (k : ℕ) (words : List ℕ) → w 0 ≡ FIRST_MAGIC → IsImage words (after_plan RECOVERY_LANE region (take k (migration_plan kinds))) →
      IsOnTheWay kinds w (slice_index words)
  image_on_way k words magic image = plan_is_on_the_way kinds w (slice_index words) k magic everywhere
    where
      there : Region
      there = after_plan RECOVERY_LANE region (take k (migration_plan kinds))

      size : (after_plan RECOVERY_LANE region (take k (migration_plan kinds))).size ≡ region.size
      size = size_plan RECOVERY_LANE region (take k (migration_plan kinds))

      inside : Reaches Inside (progress_at w (migration_plan kinds) k) (slice_index words)
      inside = Reaches-image Inside RECOVERY_LANE (progress_at w (migration_plan kinds) k) (after_plan RECOVERY_LANE region (take k (migration_plan kinds))) (slice_index words)
          (λ a lt. subst (λ n. a < n) (sym size) lt) image.each (tracked (take k (migration_plan kinds)) (durable_take k (migration_plan kinds) (plan_durable kinds)))

      everywhere : Reaches (λ a. Unit {0}) (progress_at w (migration_plan kinds) k) (slice_index words)
      everywhere a t = elim (cases_lt a region.size) [
        | inl lt ↦ inside a lt
        | inr ge ↦ inl (get_or_past words a 0 (omega (arith, ge, size, image.long)) ∙ sym (past_end region a ge) ∙ sym (far_durable k a (omega (arith, ge, enough))))
      ]

  abbrev later : Region
  later = after_plan RECOVERY_LANE region (migration_plan kinds)

  pub size_later : later.size ≡ region.size
  size_later = size_plan RECOVERY_LANE region (migration_plan kinds)

  pub settled_later : AreSettled later
  settled_later a lt = single_plan region.size (start w) region (migration_plan kinds) refl (plan_durable kinds) begun (λ b below none. settled b below) a lt
      (λ v k. subst (λ (q : Progress). Wrote q.pending a v) (plan_migrates kinds w).1 k)

  newest_later : (a : ℕ) → a < region.size → newest_at later a ≡ (plan_migrates kinds w).0 a
  newest_later a lt =
      let below : a < later.size = subst (λ n. a < n) (sym size_later) lt in
      read_newest later a below
      ∙ newest_tracked (RECOVERY_LANE + 1) ((plan_migrates kinds w).0 a) [] a (later.at a)
      (subst (λ (q : Progress). Tracks Inside RECOVERY_LANE q later) (plan_migrates kinds w).1 (tracked (migration_plan kinds) (plan_durable kinds)) a lt) (λ none. settled_later a below)

  pub migrated_later : AreMigrated kinds w (newest_at later)
  migrated_later =
      let are = (plan_migrates kinds w).2 in
      record {
        magic = newest_later 0 (omega (arith, enough)) ∙ are.magic;
        reserved = λ a is. (let low = reserved_low a is in newest_later a (omega (arith, low, enough)) ∙ are.reserved a is);
        rest = λ a ne off. elim (cases_lt a region.size) [
          | inl lt ↦ newest_later a lt ∙ are.rest a ne off
          | inr ge ↦ past_end later a (omega (arith, ge, size_later)) ∙ sym (past_end region a ge)
        ];
      }
