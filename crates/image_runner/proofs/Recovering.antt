-- What the end of a recovery says of the image that was loaded.
use Rattle.std.proofs.Common.{◌≡◌, ℕ, ◌+◌, ◌≤◌, List, length, refl, sym, ◌∙◌, ap, subst, arith, Err}
use Rattle.persist_model.specs.Region.{Words, Region, loaded, newest_words}
use Rattle.persist_model.specs.Shape.{Shape, shape_of, heap}
use Rattle.persist_model.specs.Faults.{IsFirstFault}
use Rattle.persist_model.proofs.Images.{AreFull, length-newest_words}
use Rattle.lane_traits.specs.Device.{Counts, counted, since_load, MAX_WORDS}
use Rattle.region_layout.specs.declared.layout.Kind.{Kind}
use Rattle.image_text.specs.declared.image.Image.{Image}
use Rattle.image_text.specs.Written.{IsWritable}
use Rattle.image_text.specs.Grammar.{IsImageText}
use Rattle.recovery_run.specs.Edges.{KeepsWords, IsPlainHeaderWord}
use Rattle.recovery_run.specs.Reached.{newest_at}
use Rattle.recovery_passes.specs.declared.recovering.Recovered.{Recovered}
use Rattle.recovery_passes.specs.Recovered.{IsFinished, Restores, EachStands, AreFates, AreFew}
use Rattle.recovery_passes.specs.Recovery.{HasFinished, HasHalted, IsRecoveryOfSound, KeepsHeader}
use Rattle.image_runner.specs.declared.runner.Wanted.{Wanted}
use Rattle.image_runner.specs.declared.runner.Wanted.TheVariants as want
use Rattle.image_runner.specs.declared.runner.Ended.{Ended}
use Rattle.image_runner.specs.declared.runner.Ended.TheVariants as ended
use Rattle.image_runner.specs.Ends.{AreStanding, words_of, IsAdmitted, IsRefusedBy, unsound, IsLoaded, IsRecovered, EachRecoversAs, WasRecovered, IsTold, IsHalted, unmade, behind, IsEndOfImage}
use Rattle.recovery_passes.specs.declared.recovering.Unfinished.{Unfinished}
use Rattle.recovery_passes.specs.declared.recovering.Unfinished.TheVariants as failed
use Rattle.sound_check.specs.declared.fault.CheckFault.{CheckFault}
use Rattle.sound_check.specs.declared.fault.CheckFault.TheVariants as refusal
use Rattle.sound_check.specs.Faulty.{IfUnsound}
use Rattle.image_runner.specs.Tells.{end_of_refusal, end_of_fault, Tells, TellsText}
use Rattle.image_runner.proofs.Kept.{reads_loaded, same_standing, recovered_by}
use Rattle.image_runner.proofs.Again.{each_recovers}
use Rattle.image_runner.proofs.Contents.{AreSameFrom, hold_there, broken_there}
use Rattle.image_text.proofs.Meanings.{written_reads}

module _ (i : Image) (cells later : Region) (before counts later_counts : Counts) (is_loaded : cells ≡ loaded i.words) (since : counts ≡ since_load before) (admitted : IsAdmitted i) where
  reads : newest_at cells ≡ words_of i
  reads = ap newest_at is_loaded ∙ reads_loaded i.words

  there : (P : ℕ → Words → Type 0) → P cells.size (newest_at cells) → P (length i.words) (words_of i)
  there P h = subst (λ n. P n (words_of i)) (ap (λ (r : Region). r.size) is_loaded) (subst (λ (w : Words). P cells.size w) reads h)

  back : (P : ℕ → Words → Type 0) → P (length i.words) (words_of i) → P cells.size (newest_at cells)
  back P h = subst (λ (w : Words). P cells.size w) (sym reads) (subst (λ n. P n (words_of i)) (sym (ap (λ (r : Region). r.size) is_loaded)) h)

  header_there : KeepsHeader cells later → KeepsWords (IsPlainHeaderWord (shape_of (words_of i))) (loaded i.words) later
  header_there header = subst (λ (r : Region). KeepsWords (IsPlainHeaderWord (shape_of (words_of i))) r later) is_loaded
      (there (λ n w. KeepsWords (IsPlainHeaderWord (shape_of w)) cells later) header.words)

  again_by : KeepsHeader cells later → EachStands (words_of i) later → EachRecoversAs i later
  again_by header stands = each_recovers i later admitted (header.size ∙ ap (λ (r : Region). r.size) is_loaded) (header_there header) stands

  halted_end : KeepsHeader cells later → HasHalted cells counts later later_counts → IsHalted i before later later_counts
  halted_end header h = record {
    admitted = admitted;
    stands = there (λ n w. EachStands w later) h.stands;
    counted = h.stopped ∙ ap (λ (c : Counts). record c { events = c.budget; stopped = counted c.stopped }) since;
    early = λ n e. there (λ m w. AreFew w (n + 1)) (h.early n (ap (λ (c : Counts). c.events + n) since ∙ e ∙ sym (ap (λ (c : Counts). c.budget) since)));
    unfinished = λ finished. h.unfinished (back IsFinished finished);
    again = again_by header (there (λ n w. EachStands w later) h.stands);
  }

  pub failed_end : (wanted : Wanted) (region : Region) (fault : Unfinished) → KeepsHeader cells later → IsRecoveryOfSound cells counts later later_counts (Err fault)
      → IsEndOfImage wanted i region before later later_counts (end_of_fault fault)
  failed_end wanted region failed.Stopped header h = halted_end header h
  failed_end wanted region failed.NoMemory header h = unmade (record { words = h.cells ∙ is_loaded; unmade = h.unmade ∙ since })

  module _ (full : AreFull later) (done : Recovered) (header : KeepsHeader cells later) (h : HasFinished cells counts later later_counts done) where
    size_is : later.size ≡ length i.words
    size_is = header.size ∙ ap (λ (r : Region). r.size) is_loaded

    restored_is : Restores (words_of i) (newest_at later)
    restored_is = there (λ n w. Restores w (newest_at later)) h.restored

    header_is : KeepsWords (IsPlainHeaderWord (shape_of (words_of i))) (loaded i.words) later
    header_is = header_there header

    pub recovered_is : IsRecovered (words_of i) later
    recovered_is = recovered_by i.words later full size_is admitted.sound header_is restored_is h.settled h.finished

    was : WasRecovered i before later later_counts
    was = record {
      admitted = admitted;
      recovered = recovered_is;
      events = done.events;
      made = record {
        counted = h.events ∙ ap (λ (c : Counts). record c { events = c.events + done.events }) since;
        few = there (λ n w. AreFew w done.events) h.few;
        again = λ finished. h.again (back IsFinished finished);
      };
      again = again_by header recovered_is.each;
    }

    same_words : (z : Words) → AreStanding (words_of i) z → AreSameFrom (heap (shape_of (words_of i))) (newest_at later) z
    same_words z standing a above = same_standing (length i.words) (words_of i) (newest_at later) z admitted.sound recovered_is.standing standing a above

    module _ (writable : IsWritable i.kinds i.words) (small : later.size ≤ MAX_WORDS) where
      told_text : (wanted : Wanted) (text : List ℕ) → TellsText wanted (heap (shape_of (words_of i))) i.kinds done (newest_words later) text → IsTold wanted i done.events later text
      told_text want.Report text told = record {
        report = record { events = done.events; winners = done.winners; losers = done.losers; maps = told.maps };
        events_are = refl;
        fates = there (λ n w. AreFates w done.winners done.losers) h.fates;
        maps = λ z standing. hold_there (heap (shape_of (words_of i))) (newest_at later) z i.kinds told.maps (same_words z standing) told.hold;
        text_is = told.is;
      }
      told_text want.Image text told =
          let writes : IsWritable i.kinds (newest_words later) = record {
            some = writable.some;
            few = writable.few;
            small = omega (arith, length-newest_words later);
            fit = told.fit;
          } in
          record {
            text_is = told.is;
            reads = subst (λ (t : List ℕ). IsImageText t i.kinds (newest_words later)) (sym told.is) (written_reads i.kinds (newest_words later) writes);
          }

      pub told_end : (wanted : Wanted) (region : Region) (end : Ended) → Tells wanted (heap (shape_of (words_of i))) i.kinds done (newest_words later) end
          → IsEndOfImage wanted i region before later later_counts end
      unfolding was
      told_end wanted region (ended.Misread line) h = absurd h
      told_end wanted region (ended.Unsound found) h = absurd h
      told_end wanted region ended.Stopped h = absurd h
      told_end wanted region (ended.Broken root) h = record {
        report = h.0;
        recovery = was;
        broken = λ z standing. broken_there (heap (shape_of (words_of i))) (newest_at later) z i.kinds root (same_words z standing) h.1;
      }
      told_end wanted region ended.NoMemory h = behind was
      told_end wanted region (ended.Done text) h = record { recovery = was; told = told_text wanted text h }

-- the first rule that a check found broken refuses the image
pub refused_by : (i : Image) (why : CheckFault) → IfUnsound why (IsFirstFault (length i.words) (words_of i)) → IfUnsound why (IsRefusedBy i)
refused_by i (refusal.Unsound found) h = unsound h
refused_by i refusal.NoMemory h = tt

-- an image that was refused
pub refused_end : (wanted : Wanted) (i : Image) (region later : Region) (counts later_counts : Counts) (why : CheckFault) → IsLoaded i counts later later_counts
    → IfUnsound why (IsRefusedBy i) → IsEndOfImage wanted i region counts later later_counts (end_of_refusal why)
refused_end wanted i region later counts later_counts (refusal.Unsound found) is_loaded by = (by, is_loaded)
refused_end wanted i region later counts later_counts refusal.NoMemory is_loaded by = unmade is_loaded

pub tells_by : (wanted : Wanted) (shape shape' : Shape) (kinds kinds' : List Kind) (done : Recovered) (words words' : List ℕ) (end : Ended)
    → shape ≡ shape' → kinds ≡ kinds' → words ≡ words' → Tells wanted (heap shape) kinds done words end → Tells wanted (heap shape') kinds' done words' end
tells_by wanted shape shape' kinds kinds' done words words' end same_shape same_kinds same_words h =
    subst (λ (ws : List ℕ). Tells wanted (heap shape') kinds' done ws end) same_words
    (subst (λ (ks : List Kind). Tells wanted (heap shape') ks done words end) same_kinds
    (subst (λ (sh : Shape). Tells wanted (heap sh) kinds done words end) same_shape h))

-- an image by its parts
pub image_by : (i : Image) (kinds : List Kind) (words : List ℕ) → kinds ≡ i.kinds → words ≡ i.words → ◌≡◌ {A = Image} (record { kinds = kinds; words = words }) i
image_by i kinds words same_kinds same_words = λ j. record { kinds = same_kinds j; words = same_words j }
