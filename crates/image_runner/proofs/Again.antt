-- What a recovery leaves may be recovered again.
use Rattle.std.proofs.Common.{◌≡◌, ◌↔◌, ℕ, ◌+◌, ◌<◌, ◌≤◌, List, length, sym, ◌∙◌, subst, arith, slice_index}
use Rattle.persist_model.specs.ImageRules.{rule_number}
use Rattle.persist_model.specs.Region.{Words, Region, IsImage, loaded}
use Rattle.persist_model.specs.Shape.{Shape, shape_of, words_of_shape, IsHeapWord}
use Rattle.persist_model.specs.Sound.{IsSound}
use Rattle.log_laws.proofs.Soundness.{standing_is_one}
use Rattle.region_layout.specs.declared.layout.Kind.{Kind}
use Rattle.image_text.specs.declared.image.Image.{Image}
use Rattle.image_text.specs.Grammar.{IsTextOf}
use Rattle.image_text.proofs.Meanings.{says_one_image, breaks_nowhere}
use Rattle.lane_traits.specs.Device.{Counts}
use Rattle.recovery_run.specs.Edges.{KeepsWords, IsPlainHeaderWord}
use Rattle.recovery_passes.specs.Recovered.{StandsAsIn, EachStands}
use Rattle.image_runner.specs.declared.runner.Wanted.{Wanted}
use Rattle.image_runner.specs.declared.runner.Ended.{Ended}
use Rattle.image_runner.specs.declared.runner.Ended.TheVariants as ended
use Rattle.migration.specs.Fits.{Fit}
use Rattle.image_runner.specs.Ends.{AreStanding, words_of, IsAdmitted, IsRefusedBy, RecoversAs, EachRecoversAs, IsEndOf, RecoversAgain, IsNeverUnsound}
use Rattle.image_runner.proofs.Kept.{header_word, kind_word, one_loaded, same_shape}
use Rattle.image_runner.proofs.Excluding.{refused_admitted}

-- words with the same standing words
stand_alike : (m n : ℕ) (w u : Words) → IsSound n w → IsSound m u → shape_of u ≡ shape_of w → StandsAsIn w u → (z : Words) → AreStanding u z ↔ AreStanding w z
stand_alike m n w u sound sound_there same stands z = (
  λ there. record {
    heap = λ a v within at. there.heap a v (subst (λ (shape : Shape). IsHeapWord shape a) (sym same) within) (stands a v within at);
    past = λ a beyond. there.past a (subst (λ (shape : Shape). words_of_shape shape ≤ a) (sym same) beyond);
  },
  λ here. record {
    heap = λ a v within at. (
        let place = subst (λ (shape : Shape). IsHeapWord shape a) same within in
        let one = standing_is_one n w a sound in
        let two = standing_is_one m u a sound_there in
        here.heap a one.0 place one.1 ∙ two.2 one.0 (stands a one.0 place one.1) ∙ sym (two.2 v at));
    past = λ a beyond. here.past a (subst (λ (shape : Shape). words_of_shape shape ≤ a) same beyond);
  },
)

-- lines fit words whose counts and kinds are the same
fit_there : (u w : Words) (kinds : List Kind) → Fit w kinds → w 5 ≤ 8 → u 0 ≡ w 0 → u 5 ≡ w 5 → ((s : ℕ) → s < 8 → u (13 + s) ≡ w (13 + s)) → Fit u kinds
fit_there u w kinds fit few magic count each = record {
  count = fit.count ∙ sym count;
  each = λ second s within kind at. (
      let as_many = fit.count in
      each s (omega (arith, within, as_many, few)) ∙ fit.each (sym magic ∙ second) s within kind at);
}

module _ (i : Image) (later : Region) (admitted : IsAdmitted i) (size : later.size ≡ length i.words)
    (header : KeepsWords (IsPlainHeaderWord (shape_of (words_of i))) (loaded i.words) later) (stands : EachStands (words_of i) later) where
  module _ (words : List ℕ) (image : IsImage words later) where
    plain_kept : (a : ℕ) → IsPlainHeaderWord (shape_of (words_of i)) a → slice_index words a ≡ words_of i a
    plain_kept a plain =
        let enough = admitted.sound.shape.enough in
        let below = plain.below in
        header a (words_of i a) plain (one_loaded i.words a) (slice_index words a) (image.each a (omega (arith, size, enough, below)))

    low_kept : (a : ℕ) → a ≤ 6 → slice_index words a ≡ words_of i a
    low_kept a low = plain_kept a (header_word (shape_of (words_of i)) a low)

    recovers : RecoversAs i (record { kinds = i.kinds; words = words })
    recovers =
        let there = stands words image in
        let same = same_shape (slice_index words) (words_of i) low_kept in
        record {
          admitted = record {
            sound = there.0;
            fit = fit_there (slice_index words) (words_of i) i.kinds admitted.fit admitted.sound.shape.structures.1 (low_kept 0 (omega arith)) (low_kept 5 (omega arith))
                (λ s low. plain_kept (13 + s) (kind_word (shape_of (words_of i)) s low));
          };
          lines = λ j. i.kinds;
          shape = same;
          standing = stand_alike (length words) (length i.words) (words_of i) (slice_index words) admitted.sound there.0 same there.1;
        }

  pub each_recovers : EachRecoversAs i later
  each_recovers words image = recovers words image

-- ---- at the end of a call

same_image : (text : List ℕ) (i j : Image) → IsTextOf text i → IsTextOf text j → i ≡ j
same_image text i j here there = (let same = says_one_image text i.kinds j.kinds i.words j.words here there in λ k. record { kinds = same.0 k; words = same.1 k })

pub leaves_again : (wanted : Wanted) (text : List ℕ) (region region_after : Region) (counts counts_after : Counts) (end : Ended) → IsEndOf wanted text region counts region_after counts_after end
    → (i : Image) → IsTextOf text i → IsAdmitted i → (end ≡ ended.NoMemory → ⊥) → EachRecoversAs i region_after
leaves_again wanted text region region_after counts counts_after (ended.Misread line) h i is admitted enough = absurd (breaks_nowhere text i.kinds i.words line is h.0)
leaves_again wanted text region region_after counts counts_after (ended.Unsound found) h i is admitted enough =
    absurd (refused_admitted i (rule_number found.rule) found.address (subst (λ (j : Image). IsRefusedBy j (rule_number found.rule) found.address) (same_image text h.0 i h.1 is) h.2.0) admitted)
leaves_again wanted text region region_after counts counts_after ended.Stopped h i is admitted enough =
    subst (λ (j : Image). EachRecoversAs j region_after) (same_image text h.0 i h.1 is) h.2.again
leaves_again wanted text region region_after counts counts_after (ended.Broken root) h i is admitted enough =
    subst (λ (j : Image). EachRecoversAs j region_after) (same_image text h.0 i h.1 is) h.2.recovery.again
leaves_again wanted text region region_after counts counts_after ended.NoMemory h i is admitted enough = absurd (enough (λ k. ended.NoMemory))
leaves_again wanted text region region_after counts counts_after (ended.Done out) h i is admitted enough =
    subst (λ (j : Image). EachRecoversAs j region_after) (same_image text h.0 i h.1 is) h.2.recovery.again

-- ---- the laws

pub recovers_again : RecoversAgain
recovers_again i j k first second = record {
  admitted = second.admitted;
  lines = second.lines ∙ first.lines;
  shape = second.shape ∙ first.shape;
  standing = λ z. (λ there. (first.standing z).0 ((second.standing z).0 there), λ here. (second.standing z).1 ((first.standing z).1 here));
}

pub never_unsound : IsNeverUnsound
never_unsound i later h fault a refused = refused_admitted later fault a refused h.admitted
