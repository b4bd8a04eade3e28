-- What a restart leaves is an image of the device before it.
use Rattle.std.proofs.Common.{◌≡◌, inl, inr, ℕ, zero, suc, ◌<◌, List, [], ◌∷◌, length, map, refl, subst, arith, slice_index}
use Rattle.persist_model.specs.declared.event.Candidate.{Candidate}
use Rattle.persist_model.specs.declared.pick.Pick.{Pick}
use Rattle.persist_model.specs.declared.pick.Pick.TheVariants.{Old, New, Mix}
use Rattle.persist_model.specs.Pick.{index_of_pick}
use Rattle.persist_model.specs.Region.{Region, IsCandidate, IsImage, AreSettled, value_of, picked, restarted, newest_words}
use Rattle.persist_model.proofs.Images.{AreFull, image_narrower, newest_words_image, settled_image}

slice_candidate : (cs : List Candidate) (i : ℕ) → i < length cs → IsCandidate cs (slice_index (map value_of cs) i)
slice_candidate [] i lt = absurd (omega (arith, lt))
slice_candidate (c ∷ cs) zero lt = inl refl
slice_candidate (c ∷ cs) (suc i) lt = inr (slice_candidate cs i (omega (arith, lt)))

index_below : (pick : Pick) (a n : ℕ) → 0 < n → index_of_pick pick a n < n
index_below Old a n lt = lt
index_below New a n lt = omega arith
index_below (Mix m) a n lt = omega arith

picked_candidate : (pick : Pick) (a : ℕ) (cs : List Candidate) → 0 < length cs → IsCandidate cs (picked pick a cs).value
picked_candidate pick a cs some = slice_candidate cs (index_of_pick pick a (length cs)) (index_below pick a (length cs) some)

pub restarted_settled : (pick : Pick) (region : Region) → AreSettled (restarted pick region)
restarted_settled pick region a below = refl

module _ (pick : Pick) (region : Region) (full : AreFull region) where
  pub restarted_image : (words : List ℕ) → IsImage words (restarted pick region) → IsImage words region
  restarted_image words image = image_narrower region (restarted pick region) words refl (λ a v m. from_picked a v m) image
    where
      from_picked : (a v : ℕ) → IsCandidate ((restarted pick region).at a) v → IsCandidate (region.at a) v
      from_picked a v (inl is) = subst (IsCandidate (region.at a)) is (picked_candidate pick a (region.at a) (full a))
      from_picked a v (inr none) = absurd none

  -- a settled device is as it was, but for its marks
  pub restarted_same : AreSettled region → newest_words (restarted pick region) ≡ newest_words region
  restarted_same settled =
      settled_image region (newest_words (restarted pick region)) settled
      (restarted_image (newest_words (restarted pick region)) (newest_words_image (restarted pick region) (λ a. (let e : length ((restarted pick region).at a) ≡ 1 = refl in omega (arith, e)))))
