-- Each input has one due status for each job.
use Rattle.std.proofs.Common.{◌≡◌, ◌⊎◌, inl, inr, ⊎_elim, ℕ, ◌<◌, ◌≤◌, List, length, sym, ◌∙◌, subst, arith, slice_index}
use Rattle.std.proofs.lemmas.Bool.{cases_lt}
use Rattle.persist_model.specs.Region.{Words}
use Rattle.persist_model.specs.Shape.{Shape, shape_of, heap}
use Rattle.persist_model.specs.Sound.{IsSound}
use Rattle.persist_model.specs.Faults.{IsFirstFault}
use Rattle.region_layout.specs.declared.layout.Kind.{Kind}
use Rattle.image_text.specs.declared.image.Image.{Image}
use Rattle.image_text.specs.Grammar.{IsImageText, IsTextOf, BreaksAt}
use Rattle.image_text.proofs.Meanings.{has_meaning, breaks_nowhere}
use Rattle.image_runner.specs.declared.runner.Wanted.{Wanted}
use Rattle.image_runner.specs.declared.runner.Wanted.TheVariants as want
use Rattle.image_runner.specs.Maps.{AreMaps, IsFirstBroken}
use Rattle.image_runner.specs.Ends.{words_of, AreStanding, IsAdmitted, IsRefusedBy, unsound, unfit, RecoversAs}
use Rattle.image_runner.proofs.Kept.{same_standing}
use Rattle.image_runner.proofs.Contents.{are_maps_there, broken_there}
use Rattle.image_runner.proofs.Excluding.{refused_admitted, report_image}
use Rattle.image_runner.proofs.Deciding.{rule_trial, LineTrial, fits, faulty, line_trial, standing_words, maps_or_broken}
use Rattle.rewind.specs.declared.status.Status.{Status}
use Rattle.rewind.specs.declared.status.Status.TheVariants as status
use Rattle.rewind.specs.declared.words.Job.TheVariants as job
use Rattle.rewind.specs.Words.{IMAGE_LIMIT}
use Rattle.rewind.specs.Due.{due, IsDue, long, misread, refused, broken, reported, imaged, HaveOneDue, HaveSameDue}
use Rattle.rewind.proofs.Recoveries.{ok_same, refused_due, misread_due, broken_due, done_due}

-- ---- one at most

sure : (s t : Status) → (s ≡ status.NoMemory → ⊥) → (s ≡ t) ⊎ (s ≡ status.NoMemory) → s ≡ t
sure s t other (inl same) = same
sure s t other (inr none) = absurd (other none)

pub long_one : (wanted : Wanted) (bytes : List ℕ) (t : Status) → IMAGE_LIMIT < length bytes → IsDue wanted bytes t → status.TooLong ≡ t
long_one wanted bytes t more (long m is) = sym is
long_one wanted bytes t more (misread less line e is) = absurd (omega (arith, more, less))
long_one wanted bytes t more (refused less j there f b k is) = absurd (omega (arith, more, less))
long_one wanted bytes t more (broken less j there k r z standing b first is) = absurd (omega (arith, more, less))
long_one wanted bytes t more (reported less j there k z standing maps is) = absurd (omega (arith, more, less))
long_one wanted bytes t more (imaged less j there k m is) = absurd (omega (arith, more, less))

script_other : status.Script ≡ status.NoMemory → ⊥
script_other e = let x : ◌≡◌ {A = Status} status.Script status.NoMemory = e in cc

unsound_other : status.Unsound ≡ status.NoMemory → ⊥
unsound_other e = let x : ◌≡◌ {A = Status} status.Unsound status.NoMemory = e in cc

done_other : status.Done ≡ status.NoMemory → ⊥
done_other e = let x : ◌≡◌ {A = Status} status.Done status.NoMemory = e in cc

recover_one : (wanted : Wanted) (bytes : List ℕ) (s t : Status) → IsDue wanted bytes s → IsDue wanted bytes t → s ≡ t
recover_one wanted bytes s t (long more is) d = is ∙ long_one wanted bytes t more d
recover_one wanted bytes s t (misread less line e is) d = is ∙ sure status.Script t script_other (misread_due wanted bytes less line t e d)
recover_one wanted bytes s t (refused less i there f a k is) d = is ∙ sure status.Unsound t unsound_other (refused_due wanted bytes less i f a t there k d)
recover_one wanted bytes s t (broken less i there k r z standing a first is) d =
    is ∙ sure status.Unsound t unsound_other (broken_due wanted bytes less i a t there r
    (λ y other. broken_there (heap (shape_of (words_of i))) z y i.kinds a (same_standing (length i.words) (words_of i) z y k.sound standing other) first) d)
recover_one wanted bytes s t (reported less i there k z standing maps is) d =
    is ∙ sure status.Done t done_other (done_due wanted bytes less i t there k
    (λ r y other. are_maps_there (heap (shape_of (words_of i))) z y 0 i.kinds (same_standing (length i.words) (words_of i) z y k.sound standing other) maps) d)
recover_one wanted bytes s t (imaged less i there k m is) d =
    is ∙ sure status.Done t done_other (done_due wanted bytes less i t there k (λ r y other. absurd (report_image wanted r m)) d)

-- ---- one at least

module _ (wanted : Wanted) (bytes : List ℕ) (none : (s : Status) → IsDue wanted bytes s → ⊥) (less : length bytes ≤ IMAGE_LIMIT) where
  module _ (i : Image) (is : IsTextOf bytes i) where
    by_maps : (admitted : IsAdmitted i) → wanted ≡ want.Report → (z : Words) → AreStanding (words_of i) z
        → AreMaps (heap (shape_of (words_of i))) z i.kinds ⊎ ((a : ℕ) × IsFirstBroken (heap (shape_of (words_of i))) z i.kinds a) → ⊥
    by_maps admitted r z standing (inl maps) = none status.Done (reported less i is admitted z standing maps (λ k. status.Done))
    by_maps admitted r z standing (inr b) = none status.Unsound (broken less i is admitted r z standing b.0 b.1 (λ k. status.Unsound))

    by_wanted : (w : Wanted) → wanted ≡ w → IsAdmitted i → ⊥
    by_wanted want.Image m admitted = none status.Done (imaged less i is admitted m (λ k. status.Done))
    by_wanted want.Report r admitted =
        let stand = standing_words (length i.words) (words_of i) admitted.sound in
        maps_or_broken (heap (shape_of (words_of i))) stand.0 i.kinds (by_maps admitted r stand.0 stand.1)

    by_lines : IsSound (length i.words) (words_of i) → LineTrial (words_of i) i.kinds → ⊥
    by_lines sound (fits fit) = by_wanted wanted (λ k. wanted) (record { sound = sound; fit = fit })
    by_lines sound (faulty fault a line) = none status.Unsound (refused less i is fault a (unfit sound line) (λ k. status.Unsound))

    by_rules : IsSound (length i.words) (words_of i) ⊎ ((fault : ℕ) × (a : ℕ) × IsFirstFault (length i.words) (words_of i) fault a) → ⊥
    by_rules (inl sound) = by_lines sound (line_trial (words_of i) i.kinds)
    by_rules (inr first) = none status.Unsound (refused less i is first.0 first.1 (unsound first.2) (λ k. status.Unsound))

  by_text : ((kinds : List Kind) × (words : List ℕ) × IsImageText bytes kinds words) ⊎ ((n : ℕ) × BreaksAt bytes n) → ⊥
  by_text (inl says) =
      let i : Image = record { kinds = says.0; words = says.1 } in
      by_rules (record { kinds = says.0; words = says.1 }) says.2 (rule_trial (length says.1) (slice_index says.1))
  by_text (inr breaks) = none status.Script (misread less breaks.0 breaks.1 (λ k. status.Script))

recover_some : (wanted : Wanted) (bytes : List ℕ) → ((s : Status) → IsDue wanted bytes s → ⊥) → ⊥
recover_some wanted bytes none =
    ⊎_elim (λ (more : IMAGE_LIMIT < length bytes). none status.TooLong (long more (λ k. status.TooLong)))
    (λ (less : length bytes ≤ IMAGE_LIMIT). by_text wanted bytes none less (has_meaning bytes))
    (cases_lt IMAGE_LIMIT (length bytes))

pub one_due : HaveOneDue
one_due job.Run bytes = record { some = λ none. none (due bytes) (λ k. due bytes); one = λ s t h k. h ∙ sym k }
one_due (job.Recover wanted) bytes = record { some = recover_some wanted bytes; one = recover_one wanted bytes }
one_due (job.Migrate stop) bytes = record { some = recover_some want.Image bytes; one = recover_one want.Image bytes }

-- ---- the same for an image in another's place

module _ (i later : Image) (again : RecoversAs i later) where
  moved : (P : ℕ → List Kind → Type 0) → P (heap (shape_of (words_of i))) i.kinds → P (heap (shape_of (words_of later))) later.kinds
  moved P h =
      subst (λ (kinds : List Kind). P (heap (shape_of (words_of later))) kinds) (sym again.lines)
      (subst (λ (shape : Shape). P (heap shape) i.kinds) (sym again.shape) h)

pub same_due : HaveSameDue
same_due wanted bytes text i later s admitted again here there short short_text (long more is) = absurd (omega (arith, short, more))
same_due wanted bytes text i later s admitted again here there short short_text (misread less line e is) = absurd (breaks_nowhere bytes i.kinds i.words line here e)
same_due wanted bytes text i later s admitted again here there short short_text (refused less j says f a k is) =
    absurd (refused_admitted i f a (subst (λ (x : Image). IsRefusedBy x f a) (ok_same bytes j i says here) k) admitted)
same_due wanted bytes text i later s admitted again here there short short_text (broken less j says k r z standing a first is) =
    let same = ok_same bytes j i says here in
    broken short_text later there again.admitted r z ((again.standing z).1 (subst (λ (x : Image). AreStanding (words_of x) z) same standing)) a
    (moved i later again (λ h kinds. IsFirstBroken h z kinds a) (subst (λ (x : Image). IsFirstBroken (heap (shape_of (words_of x))) z x.kinds a) same first)) is
same_due wanted bytes text i later s admitted again here there short short_text (reported less j says k z standing maps is) =
    let same = ok_same bytes j i says here in
    reported short_text later there again.admitted z ((again.standing z).1 (subst (λ (x : Image). AreStanding (words_of x) z) same standing))
    (moved i later again (λ h kinds. AreMaps h z kinds) (subst (λ (x : Image). AreMaps (heap (shape_of (words_of x))) z x.kinds) same maps)) is
same_due wanted bytes text i later s admitted again here there short short_text (imaged less j says k m is) = imaged short_text later there again.admitted m is
