-- What a migration has done at its end, or at a stop.
use Rattle.std.proofs.Common.{◌≡◌, inl, ℕ, ◌+◌, ◌≤◌, ◌==◌, if◌then◌else◌, List, length, take, sym, ap, ◌∙◌, subst, arith}
use Rattle.std.specs.Prelude.{slice_index, Err}
use Rattle.persist_model.specs.Region.{Words, Region, IsImage, AreSettled, newest_words}
use Rattle.persist_model.specs.Shape.{Shape, FIRST_MAGIC, SECOND_MAGIC, shape_of, IsHeapWord}
use Rattle.persist_model.specs.Sound.{IsSound}
use Rattle.lane_traits.specs.Device.{Counts, counted}
use Rattle.lane_traits.specs.declared.device.Done.TheVariants.{Made}
use Rattle.log_laws.specs.Parts.{after_plan}
use Rattle.log_laws.specs.Recovering.{RECOVERY_LANE}
use Rattle.region_layout.specs.declared.layout.Kind.{Kind}
use Rattle.recovery_run.specs.Edges.{counts_with}
use Rattle.recovery_run.specs.Reached.{newest_at}
use Rattle.recovery_run.proofs.Composing.{size_plan}
use Rattle.recovery_passes.specs.declared.recovering.Recovered.{Recovered}
use Rattle.recovery_passes.specs.Recovered.{IsFinished, StandsAsIn, AreFew}
use Rattle.recovery_passes.specs.declared.recovering.Unfinished.{Unfinished}
use Rattle.recovery_passes.specs.declared.recovering.Unfinished.TheVariants as unfinished
use Rattle.recovery_passes.specs.Recovery.{HasFinished, HasHalted, KeepsHeader, IsRecoveryOfSound}
use Rattle.migration.specs.Fits.{Fit}
use Rattle.migration.specs.Plan.{migration_plan}
use Rattle.migration.specs.Migrated.{in_format, AreMigrated, IsOnTheWay, second}
use Rattle.migration.specs.Laws.{Stands}
use Rattle.migration.specs.Owed.{MigratesAs, own_events, AreFewInAll, HasStoppedAt, HasMigrated, HasBrokenOff}
use Rattle.migration.specs.Outcomes.{IsMigrationOfSound}
use Rattle.migration.proofs.Headers.{newest_image, each_settled, stands_finished, image_header, shape_header, fit_header, image_migrates}
use Rattle.migration.proofs.Standing.{way_stands, way_shape, not_second, high_is_read}
use Rattle.migration.proofs.Made.{image_on_way, size_later, settled_later, migrated_later, plan_length}

own_second : (w : Words) → w 0 ≡ SECOND_MAGIC → own_events w ≡ 0
own_second w e = ap (λ n. if n == SECOND_MAGIC then 0 else 24) e

own_first : (w : Words) → w 0 ≡ FIRST_MAGIC → own_events w ≡ 24
own_first w e = ap (λ n. if n == SECOND_MAGIC then 0 else 24) e

-- the events of a recovery, and so many more
few_more : (w : Words) (e more : ℕ) → AreFew w e → more ≤ own_events w → AreFewInAll w (e + more)
few_more w e more few le s n has need = let h = few s n has need in omega (arith, h, le)

few_alone : (w : Words) (e : ℕ) → AreFew w e → AreFewInAll w e
few_alone w e few s n has need = let h = few s n has need in omega (arith, h)

-- what is on the way may be migrated in the place of the words before the recovery
way_migrates : (kinds : List Kind) (w m i : Words) (size : ℕ) → StandsAsIn w m → shape_of m ≡ shape_of w → IsFinished size m → m 0 ≡ FIRST_MAGIC → Fit m kinds →
    IsOnTheWay kinds m i → MigratesAs kinds w size i
way_migrates kinds w m i size stands shape finished magic fit way =
    let h = way_stands size kinds m i finished magic fit way in
    record {
      sound = h.finished.sound;
      standing = λ a v inside at. h.standing a v (subst (λ (sh : Shape). IsHeapWord sh a) (sym shape) inside) (stands a v inside at);
      shape = way_shape kinds m i magic way ∙ ap (in_format 2) shape;
      fit = h.fit;
    }

module _ (kinds : List Kind) (before : Region) (counts : Counts) (settled : AreSettled before) (sound : IsSound before.size (newest_at before)) (fit : Fit (newest_at before) kinds) where
  abbrev w : Words
  w = newest_at before

  enough : 32 ≤ before.size
  enough = sound.shape.enough

  few : w 5 ≤ 8
  few = sound.shape.structures.1

  -- ---- a stop of the recovery

  pub recovery_halted : (after : Region) (counts_after : Counts) → KeepsHeader before after → HasHalted before counts after counts_after →
      HasBrokenOff kinds before counts after counts_after
  recovery_halted after counts_after header h = record {
    sound = sound;
    each = λ words image. (let there = h.stands words image in image_migrates before after settled enough header words image kinds fit few there.0 there.1);
    stopped = h.stopped;
    early = λ n sum. few_alone w (n + 1) (h.early n sum);
    unfinished = λ finished magic. h.unfinished finished;
  }

  -- ---- behind the recovery

  module _ (mid : Region) (counts_mid : Counts) (header : KeepsHeader before mid) (done : Recovered) (h : HasFinished before counts mid counts_mid done) where
    abbrev m : Words
    m = newest_at mid

    -- what is read of it is one of its images
    image_mid : IsImage (newest_words mid) mid
    image_mid = newest_image mid h.settled

    shape_mid : shape_of m ≡ shape_of w
    shape_mid = shape_header before mid settled enough header (newest_words mid) image_mid

    magic_mid : m 0 ≡ w 0
    magic_mid = image_header before mid settled enough header (newest_words mid) image_mid 0 (inl (omega arith))

    fit_mid : Fit m kinds
    fit_mid = fit_header before mid settled enough header (newest_words mid) image_mid kinds fit few

    stands_mid : StandsAsIn w m
    stands_mid = stands_finished w m mid.size h.finished h.restored shape_mid

    pub already_second : w 0 ≡ SECOND_MAGIC → HasMigrated kinds before counts mid counts_mid done.events
    already_second magic = record {
      sound = sound;
      settled = h.settled;
      finished = h.finished;
      format = magic_mid ∙ magic;
      fit = fit_mid;
      reserved = λ first. absurd (not_second (sym first ∙ magic));
      restored = h.restored;
      each = each_settled kinds w mid h.settled (record { sound = h.finished.sound; standing = stands_mid; shape = ap (in_format 2) shape_mid; fit = fit_mid });
      counted = h.events;
      few = few_alone w done.events h.few;
      again = λ finished. h.again finished ∙ sym (own_second w magic);
      same = λ finished second. h.same finished;
    }

    module _ (magic : w 0 ≡ FIRST_MAGIC) where
      first_mid : m 0 ≡ FIRST_MAGIC
      first_mid = magic_mid ∙ magic

      enough_mid : 32 ≤ mid.size
      enough_mid = h.finished.sound.shape.enough

      -- ---- the whole plan

      module _ (after : Region) (counts_after : Counts) (cells : after ≡ after_plan RECOVERY_LANE mid (migration_plan kinds)) (made : counts_after ≡ counts_with counts_mid 24 Made) where
        settled_after : AreSettled after
        settled_after = subst (λ (r : Region). AreSettled r) (sym cells) (settled_later kinds mid h.settled enough_mid)

        migrated_after : AreMigrated kinds m (newest_at after)
        migrated_after = subst (λ (r : Region). AreMigrated kinds m (newest_at r)) (sym cells) (migrated_later kinds mid h.settled enough_mid)

        size_after : after.size ≡ mid.size
        size_after = ap (λ (r : Region). r.size) cells ∙ size_later kinds mid h.settled enough_mid

        pub migrated_first : HasMigrated kinds before counts after counts_after (done.events + 24)
        migrated_first = record {
          sound = sound;
          settled = settled_after;
          finished = subst (λ n. IsFinished n (newest_at after)) (sym size_after) there.finished;
          format = migrated_after.magic;
          fit = there.fit;
          reserved = λ first a is. migrated_after.reserved a is;
          restored = λ a v inside stands. same_word a inside ∙ h.restored a v inside stands;
          each = each_settled kinds w after settled_after (subst (λ n. MigratesAs kinds w n (newest_at after)) (sym size_after)
              (way_migrates kinds w m (newest_at after) mid.size stands_mid shape_mid h.finished first_mid fit_mid (second migrated_after)));
          counted = counts_there;
          few = few_more w done.events 24 h.few (let own = own_first w magic in omega (arith, own));
          again = λ finished. (let none = h.again finished in let own = own_first w magic in omega (arith, none, own));
          same = λ finished second. absurd (not_second (sym magic ∙ second));
        }
          where
            there : Stands mid.size kinds m (newest_at after)
            there = way_stands mid.size kinds m (newest_at after) h.finished first_mid fit_mid (second migrated_after)

            same_word : (a : ℕ) → IsHeapWord (shape_of w) a → newest_at after a ≡ m a
            same_word a inside =
                let low = inside.0 in
                migrated_after.rest a (λ e. absurd (omega (arith, e, low))) (high_is_read a (omega (arith, low)))

            counts_there : counts_after ≡ record counts { events = counts.events + (done.events + 24) }
            counts_there = made ∙ ap (λ (c : Counts). counts_with c 24 Made) h.events ∙ ap (λ n. record counts { events = n }) (omega arith)

      -- ---- a stop of the plan

      pub plan_halted : (after : Region) (counts_after : Counts) → HasStoppedAt (migration_plan kinds) mid counts_mid after counts_after →
          HasBrokenOff kinds before counts after counts_after
      plan_halted after counts_after stop = record {
        sound = sound;
        each = λ words image. migrates words (subst (λ (r : Region). IsImage words r) stop.cells image);
        stopped = counts_there;
        early = λ n sum. (
            let e = ap (λ (c : Counts). c.events) h.events in
            let b = ap (λ (c : Counts). c.budget) h.events in
            let cause = stop.cause in
            let early = stop.early in
            let length_is = plan_length kinds in
            let own = own_first w magic in
            subst (AreFewInAll w) (let same : done.events + (stop.made + 1) ≡ n + 1 = omega (arith, sum, cause, e, b) in same)
            (few_more w done.events (stop.made + 1) h.few (omega (arith, early, length_is, own))));
        unfinished = λ finished second. not_second (sym magic ∙ second);
      }
        where
          migrates : (words : List ℕ) → IsImage words (after_plan RECOVERY_LANE mid (take stop.made (migration_plan kinds))) → MigratesAs kinds w (length words) (slice_index words)
          migrates words image = subst (λ n. MigratesAs kinds w n (slice_index words)) (sym (image.long ∙ size_plan RECOVERY_LANE mid (take stop.made (migration_plan kinds))))
              (way_migrates kinds w m (slice_index words) mid.size stands_mid shape_mid h.finished first_mid fit_mid
              (image_on_way kinds mid h.settled enough_mid stop.made words first_mid image))

          counts_there : counts_after ≡ record counts { events = counts.budget; stopped = counted counts.stopped }
          counts_there =
              let b = ap (λ (c : Counts). c.budget) h.events in
              stop.counted ∙ ap (λ n. record counts_mid { events = n; stopped = counted counts_mid.stopped }) stop.cause
              ∙ ap (λ (c : Counts). record c { events = c.budget; stopped = counted c.stopped }) h.events

-- a recovery that wasn't finished
pub unfinished_owes : (kinds : List Kind) (before after : Region) (counts counts_after : Counts) → AreSettled before → IsSound before.size (newest_at before) →
    Fit (newest_at before) kinds → KeepsHeader before after → (fault : Unfinished) → IsRecoveryOfSound before counts after counts_after (Err fault) →
    IsMigrationOfSound kinds before counts after counts_after (Err fault)
unfinished_owes kinds before after counts counts_after settled sound fit header unfinished.Stopped h =
    recovery_halted kinds before counts settled sound fit after counts_after header h
unfinished_owes kinds before after counts counts_after settled sound fit header unfinished.NoMemory h = h

-- all events are counted
pub all_events : (counts mid later : Counts) (events : ℕ) → mid ≡ record counts { events = counts.events + events } → later ≡ counts_with mid 24 Made →
    later.events ≡ counts.events + events + 24
all_events counts mid later events before behind =
    let e = ap (λ (c : Counts). c.events) before in
    let f = ap (λ (c : Counts). c.events) behind in
    omega (arith, e, f)
