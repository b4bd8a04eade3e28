-- What the end of a migration says of the image that was loaded.
use Rattle.std.proofs.Common.{◌≡◌, ◌⊎◌, inl, inr, ℕ, ◌+◌, ◌≤◌, List, length, sym, ◌∙◌, ap, subst, arith, slice_index, Option, Some, None, Result, Err}
use Rattle.persist_model.specs.Region.{Words, Region, AreSettled, loaded, newest_words, restarted}
use Rattle.persist_model.specs.Shape.{SECOND_MAGIC}
use Rattle.persist_model.proofs.Images.{AreFull, length-newest_words}
use Rattle.lane_traits.specs.Device.{Counts, counted, since_load, with_restart, MAX_WORDS}
use Rattle.region_layout.specs.declared.layout.Kind.{Kind}
use Rattle.image_text.specs.declared.image.Image.{Image}
use Rattle.image_text.specs.Written.{IsWritable, image_text}
use Rattle.image_text.specs.Grammar.{IsImageText}
use Rattle.image_text.proofs.Meanings.{written_reads, says_one_image}
use Rattle.recovery_run.specs.Reached.{newest_at}
use Rattle.recovery_passes.specs.declared.recovering.RecoverFault.{RecoverFault}
use Rattle.recovery_passes.specs.declared.recovering.RecoverFault.TheVariants as fault
use Rattle.recovery_passes.specs.declared.recovering.Unfinished.{Unfinished}
use Rattle.recovery_passes.specs.declared.recovering.Unfinished.TheVariants as unfinished
use Rattle.recovery_passes.specs.Recovered.{IsFinished, Restores}
use Rattle.recovery_passes.specs.Refusals.{recover_fault, unfinished_fault}
use Rattle.sound_check.specs.declared.fault.CheckFault.{CheckFault}
use Rattle.sound_check.specs.declared.fault.CheckFault.TheVariants as refusal
use Rattle.sound_check.specs.Faulty.{IfUnsound}
use Rattle.migration.specs.Fits.{Fit}
use Rattle.migration.specs.Owed.{HasMigrated, HasBrokenOff, EachMigratesAs, AreFewInAll, own_events}
use Rattle.migration.specs.Outcomes.{IsMigrationOfSound}
use Rattle.image_runner.specs.declared.runner.Ended.{Ended}
use Rattle.image_runner.specs.declared.runner.Ended.TheVariants as ended
use Rattle.image_runner.specs.declared.migrating.Stop.{Stop}
use Rattle.image_runner.specs.Ends.{words_of, AreStanding, IsAdmitted, IsRefusedBy, IsLoaded}
use Rattle.image_runner.specs.Tells.{TellsWords, TellsImage}
use Rattle.image_runner.specs.Migrations.{IsMigrated, WasMigrated, HasComeTo, whole, stopped, WasStopped, WasRestarted, IsBrought, IsWritten, WasBrokenOff, IsShortOf, unloaded, unmade, behind, IsMigrationOfImage, IsComing, IsComingTo, end_of_migration, WritesRest, RestStays}
use Rattle.image_runner.proofs.Kept.{reads_loaded, newest_loaded, are_standing}
use Rattle.image_runner.proofs.Cuts.{no_own}
use Rattle.image_runner.proofs.Restarts.{restarted_image, restarted_same, restarted_settled}

-- ---- a migration of the loaded words

module _ (i : Image) (cells later : Region) (before counts later_counts : Counts) (is_loaded : cells ≡ loaded i.words) (since : counts ≡ since_load before) (admitted : IsAdmitted i) where
  reads : newest_at cells ≡ words_of i
  reads = ap newest_at is_loaded ∙ reads_loaded i.words

  there : (P : ℕ → Words → Type 0) → P cells.size (newest_at cells) → P (length i.words) (words_of i)
  there P h = subst (λ n. P n (words_of i)) (ap (λ (r : Region). r.size) is_loaded) (subst (λ (w : Words). P cells.size w) reads h)

  back : (P : ℕ → Words → Type 0) → P (length i.words) (words_of i) → P cells.size (newest_at cells)
  back P h = subst (λ (w : Words). P cells.size w) (sym reads) (subst (λ n. P n (words_of i)) (sym (ap (λ (r : Region). r.size) is_loaded)) h)

  first_back : words_of i 0 ≡ SECOND_MAGIC → newest_at cells 0 ≡ SECOND_MAGIC
  first_back second = ap (λ (w : Words). w 0) reads ∙ second

  pub was_migrated : later.size ≡ cells.size → (events : ℕ) → HasMigrated i.kinds cells counts later later_counts events → WasMigrated i before later later_counts
  was_migrated size events h = record {
    admitted = admitted;
    migrated = record {
      standing = are_standing (words_of i) later (size ∙ ap (λ (r : Region). r.size) is_loaded ∙ admitted.sound.shape.long) (there (λ n w. Restores w (newest_at later)) h.restored);
      settled = h.settled;
      finished = h.finished;
      format = h.format;
      fit = h.fit;
      each = there (λ n w. EachMigratesAs i.kinds w later) h.each;
    };
    events = events;
    counted = h.counted ∙ ap (λ (c : Counts). record c { events = c.events + events }) since;
    few = there (λ n w. AreFewInAll w events) h.few;
    again = λ finished. h.again (back IsFinished finished) ∙ ap own_events reads;
    same = λ finished second. ap newest_words (h.same (back IsFinished finished) (first_back second)) ∙ ap newest_words is_loaded ∙ newest_loaded i.words;
  }

  pub was_broken_off : HasBrokenOff i.kinds cells counts later later_counts → WasBrokenOff None i before later later_counts
  was_broken_off h = record {
    admitted = admitted;
    each = there (λ n w. EachMigratesAs i.kinds w later) h.each;
    counted = h.stopped ∙ ap (λ (c : Counts). record c { events = c.budget; stopped = counted c.stopped }) since;
    early = λ n e. there (λ m w. AreFewInAll w (n + 1)) (h.early n (ap (λ (c : Counts). c.events + n) since ∙ e ∙ sym (ap (λ (c : Counts). c.budget) since)));
    before = λ s some. absurd (let e : ◌≡◌ {A = Option Stop} None (Some s) = some in cc);
    unfinished = λ finished second. h.unfinished (back IsFinished finished) (first_back second);
  }

  pub failed_coming : (region : Region) (why : Unfinished) → IsMigrationOfSound i.kinds cells counts later later_counts (Err why) → IsComing i region before later later_counts (Err (unfinished_fault why))
  failed_coming region unfinished.Stopped h = was_broken_off h
  failed_coming region unfinished.NoMemory h = inr (record { words = h.cells ∙ is_loaded; unmade = h.unmade ∙ since })

-- an image that was refused
pub refused_coming : (i : Image) (region later : Region) (counts later_counts : Counts) (why : CheckFault) → IsLoaded i counts later later_counts
    → IfUnsound why (IsRefusedBy i) → IsComing i region counts later later_counts (Err (recover_fault why))
refused_coming i region later counts later_counts (refusal.Unsound found) is_loaded by = (by, is_loaded)
refused_coming i region later counts later_counts refusal.NoMemory is_loaded by = inr is_loaded

-- the kinds of a view are those of the image
pub owed_by : (kinds kinds' : List Kind) (cells later : Region) (counts later_counts : Counts) (result : Result ℕ Unfinished) → kinds ≡ kinds'
    → IsMigrationOfSound kinds cells counts later later_counts result → IsMigrationOfSound kinds' cells counts later later_counts result
owed_by kinds kinds' cells later counts later_counts result same h = subst (λ (ks : List Kind). IsMigrationOfSound ks cells counts later later_counts result) same h

-- ---- behind it

module _ (stop : Option Stop) (i : Image) (region later : Region) (counts later_counts : Counts) where
  -- the text of the words
  written : IsWritable i.kinds i.words → later.size ≤ MAX_WORDS → IsBrought stop i counts later later_counts → (text : List ℕ) → TellsImage i.kinds (newest_words later) text
      → IsWritten stop i counts later later_counts text
  written writable small brought text told = record {
    brought = brought;
    told = record {
      text_is = told.is;
      reads = subst (λ (t : List ℕ). IsImageText t i.kinds (newest_words later)) (sym told.is)
          (written_reads i.kinds (newest_words later) (record { some = writable.some; few = writable.few; small = omega (arith, small, length-newest_words later); fit = told.fit }));
    };
  }

  pub told_end : IsWritable i.kinds i.words → later.size ≤ MAX_WORDS → IsBrought stop i counts later later_counts → (end : Ended) → TellsWords i.kinds (newest_words later) end
      → IsMigrationOfImage stop i region counts later later_counts end
  told_end writable small brought (ended.Misread line) h = absurd h
  told_end writable small brought (ended.Unsound found) h = absurd h
  told_end writable small brought ended.Stopped h = absurd h
  told_end writable small brought (ended.Broken root) h = absurd h
  told_end writable small brought ended.NoMemory h = behind brought
  told_end writable small brought (ended.Done text) h = written writable small brought text h

  short_of : ((later ≡ region) × (later_counts ≡ counts)) ⊎ IsLoaded i counts later later_counts → IsShortOf stop i region counts later later_counts
  short_of (inl same) = unloaded same.0 same.1
  short_of (inr there) = unmade there

pub tells_by : (kinds kinds' : List Kind) (words words' : List ℕ) (end : Ended) → kinds ≡ kinds' → words ≡ words' → TellsWords kinds words end → TellsWords kinds' words' end
tells_by kinds kinds' words words' end same_kinds same_words h =
    subst (λ (ws : List ℕ). TellsWords kinds' ws end) same_words (subst (λ (ks : List Kind). TellsWords ks words end) same_kinds h)

pub failed_whole : (i : Image) (region later : Region) (counts later_counts : Counts) (why : RecoverFault) → IsComing i region counts later later_counts (Err why)
    → IsMigrationOfImage None i region counts later later_counts (end_of_migration why)
failed_whole i region later counts later_counts (fault.Unsound found) h = h
failed_whole i region later counts later_counts fault.Stopped h = h
failed_whole i region later counts later_counts fault.NoMemory h = short_of None i region later counts later_counts h

pub failed_restart : (stop : Stop) (i : Image) (region later : Region) (counts later_counts : Counts) (why : RecoverFault) → IsComingTo stop i region counts later later_counts (Some why)
    → IsMigrationOfImage (Some stop) i region counts later later_counts (end_of_migration why)
failed_restart stop i region later counts later_counts (fault.Unsound found) h = h
failed_restart stop i region later counts later_counts fault.Stopped h = h
failed_restart stop i region later counts later_counts fault.NoMemory h = short_of (Some stop) i region later counts later_counts h

-- ---- the restart

module _ (i : Image) (stop : Stop) (left : Region) (full : AreFull left) where
  each_restarted : EachMigratesAs i.kinds (words_of i) left → EachMigratesAs i.kinds (words_of i) (restarted stop.pick left)
  each_restarted each words image = each words (restarted_image stop.pick left full words image)

  whole_restarted : IsMigrated i left → IsMigrated i (restarted stop.pick left)
  whole_restarted h =
      let same : newest_at (restarted stop.pick left) ≡ newest_at left = ap (λ (ws : List ℕ). slice_index ws) (restarted_same stop.pick left full h.settled) in
      record {
        standing = subst (λ (w : Words). AreStanding (words_of i) w) (sym same) h.standing;
        settled = restarted_settled stop.pick left;
        finished = subst (λ (w : Words). IsFinished left.size w) (sym same) h.finished;
        format = ap (λ (w : Words). w 0) same ∙ h.format;
        fit = subst (λ (w : Words). Fit w i.kinds) (sym same) h.fit;
        each = each_restarted h.each;
      }

  far_restarted : (events : ℕ) → HasComeTo i stop.events events left → HasComeTo i stop.events events (restarted stop.pick left)
  far_restarted events (whole h) = whole (whole_restarted h)
  far_restarted events (stopped at early) = stopped at early

  pub was_restarted : (counts counts_left counts_after : Counts) (later : Region) → later ≡ restarted stop.pick left → counts_after ≡ with_restart stop.pick counts_left
      → WasStopped i stop.events counts left counts_left → WasRestarted i stop counts later counts_after
  was_restarted counts counts_left counts_after later is counted_is h = record {
    left = left;
    counts_left = counts_left;
    before = h;
    region = is;
    counted = counted_is;
    settled = subst AreSettled (sym is) (restarted_settled stop.pick left);
    each = subst (λ (r : Region). EachMigratesAs i.kinds (words_of i) r) (sym is) (each_restarted h.each);
    far = subst (λ (r : Region). HasComeTo i stop.events h.events r) (sym is) (far_restarted h.events h.far);
    same = λ finished second.
        let kept = h.kept finished second in
        ap newest_words is ∙ restarted_same stop.pick left full kept.settled ∙ kept.words;
  }

-- ---- the laws

pub writes_rest : WritesRest
writes_rest i later counts counts_after region_after text h says =
    let same = says_one_image text i.kinds later.kinds (newest_words region_after) later.words h.told.reads says in
    let words : newest_words region_after ≡ later.words = same.1 in
    let kinds : i.kinds ≡ later.kinds = same.0 in
    let w : newest_at region_after ≡ words_of later = ap (λ (ws : List ℕ). slice_index ws) words in
    let long : region_after.size ≡ length later.words = sym (length-newest_words region_after) ∙ ap length words in
    let finished : IsFinished (length later.words) (words_of later) = subst (λ n. IsFinished n (words_of later)) long (subst (λ (x : Words). IsFinished region_after.size x) w h.brought.migrated.finished) in
    record {
      admitted = record {
        sound = finished.sound;
        fit = subst (λ (x : Words). Fit x later.kinds) w (subst (λ (ks : List Kind). Fit (newest_at region_after) ks) kinds h.brought.migrated.fit);
      };
      finished = finished;
      second = sym (ap (λ (x : Words). x 0) w) ∙ h.brought.migrated.format;
      text_is = h.told.text_is ∙ ap (λ (ks : List Kind). image_text ks (newest_words region_after)) kinds ∙ ap (image_text later.kinds) words;
    }

unmoved : (counts counts_after : Counts) (n : ℕ) → n ≡ 0 → counts_after ≡ record (since_load counts) { events = counts.events + n } → counts_after ≡ since_load counts
unmoved counts counts_after n none is = is ∙ (λ k. record (since_load counts) { events = (let e : counts.events + n ≡ counts.events = omega (arith, none) in e) k })

pub rest_stays : RestStays
rest_stays i text out counts counts_after region_after rest h = record {
  unmade = unmoved counts counts_after h.brought.events (h.brought.again rest.finished ∙ no_own (words_of i) rest.second) h.brought.counted;
  same = h.told.text_is ∙ ap (image_text i.kinds) (h.brought.same rest.finished rest.second) ∙ sym rest.text_is;
}
