-- A group of a checkpoint's closing begins.
use Rattle.std.proofs.Common.{◌≡◌, ℕ, ◌<◌, nat_lt, true, refl, sym, ap, ◌∙◌, subst, arith}
use Rattle.std.proofs.lemmas.Bool.Decides.{nat_tests}
use Rattle.persist_model.specs.Progress.{start, Tracks, AreSettledAt}
use Rattle.persist_model.specs.Runs.{progress_at}
use Rattle.persist_model.specs.Records.{Record, IsAmong}
use Rattle.persist_model.specs.Shape.{Shape}
use Rattle.persist_model.proofs.Tracking.{Tracks-settled}
use Rattle.bucket_log.specs.declared.append.Place.{Place}
use Rattle.bucket_log.specs.Words.{IsPartWord}
use Rattle.log_keeper.specs.declared.slots.TheConstants.{NOBODY}
use Rattle.log_keeper.specs.Parts.{rests, appends as adds, Running, plan_of, waits_for, CanRun}
use Rattle.log_keeper.specs.Logged.{Keeping, resting, IsLoggedAt}
use Rattle.log_keeper.specs.Ledger.{Noted}
use Rattle.log_keeper.specs.Ordered.{FitsRuns}
use Rattle.log_keeper.proofs.Progressing.{settled_of}
use Rattle.log_keeper.proofs.Orders.{orders_keep}
use Rattle.history_laws.specs.Histories.{fold}
use Rattle.redo_laws.specs.Checkpoints.{Group, zeroed, shuts, shutting_part, shutting_run}
use Rattle.redo_laws.specs.Clears.{shutting, GroupsBegin}
use Rattle.redo_laws.proofs.Beside.{leaves_itself, beside, stage_is}

-- where no append is under way before and behind, a ledger with no more records fits
pub fits_closing : (shape : Shape) (k x : Keeping) → ((n : Noted) → IsAmong x.ledger n → IsAmong k.ledger n) → ((p : ℕ) → p < shape.partitions → (place : Place) (r : Record) → (k.runs p).part ≡ adds place r → ⊥) →
    ((p : ℕ) → p < shape.partitions → (place : Place) (r : Record) → (x.runs p).part ≡ adds place r → ⊥) → FitsRuns shape k → FitsRuns shape x
fits_closing shape k x fewer before behind fits = record {
  noted = λ p place r lt is. absurd (behind p lt place r is);
  apart = λ p q place there r y lt lq ne is other. absurd (behind p lt place r is);
  others = λ n m ne. (let h = fits.others n (fewer n m) ne in absurd (before h.0 h.1 h.2 n.entry h.3));
}

pub no_append_rests : (run : Running) (place : Place) (r : Record) → run ≡ resting → run.part ≡ adds place r → ⊥
no_append_rests run place r is e = let f : rests ≡ adds place r = sym (ap (λ (x : Running). x.part) is) ∙ e in cc

pub no_append_shuts : (run : Running) (g : Group) (p : ℕ) (place : Place) (r : Record) → run ≡ shutting_run g p → run.part ≡ adds place r → ⊥
no_append_shuts run g p place r is e = let f : shutting_part g p ≡ adds place r = sym (ap (λ (x : Running). x.part) is) ∙ e in cc

shutting_is : (shape : Shape) (g : Group) (k : Keeping) (p : ℕ) → p < shape.partitions → (shutting shape g k).runs p ≡ shutting_run g p
shutting_is shape g k p lt = let on : nat_lt p shape.partitions ≡ true = grind (arith, nat_tests, lt) in rw on refl

pub groups_begin : GroupsBegin
groups_begin shape base s chains start_heap z region l g is may world =
    let stage = stage_is shape s (fold start_heap z.world.history) z.world z.dirty region z.checkpoint (zeroed l) is world.stage in
    beside shape base s chains start_heap z region region (shutting shape g z.world.keeping) z.world.next z.dirty (shuts l g) (record {
      of_shape = world.log.of_shape;
      header = world.log.header;
      logged = logged;
      sound = world.log.sound;
      ordered = orders_keep.stays z.world.next z.world.keeping (shutting shape g z.world.keeping) refl world.log.ordered;
      fits = fits_closing shape z.world.keeping (shutting shape g z.world.keeping) (λ n m. m) (λ p lt place r e. no_append_rests (z.world.keeping.runs p) place r (may.run p lt) e)
          (λ p lt place r e. no_append_shuts ((shutting shape g z.world.keeping).runs p) g p place r (shutting_is shape g z.world.keeping p lt) e) world.log.fits;
      numbers = world.log.numbers;
    }) (leaves_itself shape region) (record {
      told = stage.told;
      skipped = stage.skipped;
      zero = stage.zero;
      held = record { holder = stage.held.holder; landed = stage.held.landed };
      run = λ p lt. shutting_is shape g z.world.keeping p lt;
      under = may.under;
      unfenced = λ p lt. (let none_yet = may.none_made p in omega (arith, none_yet));
      group = may.group;
    }) world
  where
    settled : (p : ℕ) → p < shape.partitions → AreSettledAt (IsPartWord shape p) base region
    settled p lt = settled_of (IsPartWord shape p) NOBODY (start base) region refl
        (subst (λ (r : Running). Tracks (IsPartWord shape p) (waits_for r.part (z.world.keeping.holder p)) (progress_at base (plan_of shape p r.part) r.made) region) (may.run p lt) (world.log.logged.parts p lt))

    begins : (p : ℕ) → p < shape.partitions → (lane : ℕ) → Tracks (IsPartWord shape p) lane (progress_at base (plan_of shape p (shutting_part g p)) (g.made p)) region
    begins p lt lane = subst (λ n. Tracks (IsPartWord shape p) lane (progress_at base (plan_of shape p (shutting_part g p)) n) region) (sym (may.none_made p))
        (Tracks-settled (IsPartWord shape p) lane base region (settled p lt))

    logged : IsLoggedAt shape base s chains (shutting shape g z.world.keeping) region
    logged = record {
      size = world.log.logged.size;
      allowed = world.log.logged.allowed;
      has = world.log.logged.has;
      records = world.log.logged.records;
      rest = world.log.logged.rest;
      header = world.log.logged.header;
      parts = λ p lt. subst (λ (r : Running). Tracks (IsPartWord shape p) (waits_for r.part (z.world.keeping.holder p)) (progress_at base (plan_of shape p r.part) r.made) region)
          (sym (shutting_is shape g z.world.keeping p lt)) (begins p lt _);
      can = λ p lt. subst (λ (r : Running). CanRun shape p base s (chains p) r.part) (sym (shutting_is shape g z.world.keeping p lt)) (may.can p lt);
    }
