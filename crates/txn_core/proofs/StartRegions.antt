-- A recovered region whose words are settled is one where a world may begin.
use Rattle.std.proofs.Common.{◌≡◌, ℕ, ◌<◌, List, length, slice_index, refl, sym, ◌∙◌, subst, arith}
use Rattle.std.proofs.lemmas.List.FromFn.{length-map-range_with_len}
use Rattle.persist_model.specs.Region.{Words, Region, IsCandidate, MayStand, AreSettled, newest, newest_words}
use Rattle.persist_model.specs.Shape.{Shape, shape_of, log_words, IsShape}
use Rattle.persist_model.specs.Chain.{view}
use Rattle.persist_model.specs.State.{State}
use Rattle.persist_model.specs.Sound.{HasState}
use Rattle.persist_model.proofs.Candidates.{IsCandidate_newest}
use Rattle.persist_model.proofs.Images.{get_or-newest_words}
use Rattle.atomic_list.specs.Rules.{IsAtRest, IsList, at_rest, appending, removing}
use Rattle.region_layout.specs.Layout.{IsAllowed}
use Rattle.region_layout.proofs.Headers.{shapes_are_read}
use Rattle.bucket_log.proofs.Addresses.{bucket_above}
use Rattle.recovery_run.specs.Reached.{IsQuiet}
use Rattle.recovery_lists.specs.Repairs.{seen}
use Rattle.recovery_lists.proofs.Asking.{append_word, remove_word}
use Rattle.recovery_lists.proofs.KeptLists.{list_seen}
use Rattle.recovery_passes.specs.Recovered.{IsFinished}
use Rattle.txn_laws.specs.StartLaws.{IsStartingRegion}

-- a list whose recovery words are 0 is at rest
rests_of : (shape : Shape) (p : ℕ) (w : Words) (xs : List ℕ) → w 10 ≡ 0 → w 12 ≡ 0 → IsList shape p w xs → IsAtRest shape p w xs
rests_of shape p w xs first second (at_rest h) = h
rests_of shape p w xs first second (appending front node h e) = let above = bucket_above shape p node h.bucket in let is = h.to_append in absurd (omega (arith, above, is, first))
rests_of shape p w xs first second (removing front node rest h e) = let above = bucket_above shape p node h.bucket in let is = h.to_remove in absurd (omega (arith, above, is, second))

-- a quiet partition of a sound image has its list at rest
list_rests : (shape : Shape) (w : Words) (s : State) (p : ℕ) → IsAllowed shape → p < shape.partitions → (has : HasState shape w s) → IsQuiet p w →
    IsAtRest shape p (view p (log_words shape w)) (has.chains p)
list_rests shape w s p ok lt has quiet = rests_of shape p (seen shape p w) (has.chains p) (append_word shape ok p lt w ∙ quiet.0) (remove_word shape ok p lt w ∙ quiet.1)
    (list_seen shape p w (has.chains p) (has.lists p lt))

-- the words that a read gives may stand, where each word has a candidate
pub newest_stand : (region : Region) → ((a : ℕ) → a < region.size → 0 < length (region.at a)) → MayStand (slice_index (newest_words region)) region
newest_stand region full a lt = subst (IsCandidate (region.at a)) (sym (get_or-newest_words region a lt)) (IsCandidate_newest (region.at a) (full a lt))

pub settled_full : (region : Region) → AreSettled region → (a : ℕ) → a < region.size → 0 < length (region.at a)
settled_full region settled a lt = let one : length (region.at a) ≡ 1 = settled a lt in omega (arith, one)

pub newest_size : (region : Region) → length (newest_words region) ≡ region.size
newest_size region = length-map-range_with_len (λ a. newest (region.at a)) 0 region.size

pub finished_region : (size : ℕ) (w : Words) (region : Region) → size ≡ region.size → MayStand w region → AreSettled region → (done : IsFinished size w) →
    IsStartingRegion (shape_of w) w done.sound.state done.sound.has.chains region
finished_region size w region long stand settled done = record {
  allowed = allowed;
  of_shape = refl;
  header = subst (λ n. IsShape n w) long done.sound.shape;
  settled = settled;
  words = stand;
  has = done.sound.has;
  sound = done.sound.sound;
  no_record = done.empty done.sound.state done.sound.has;
  rest = λ p lt. list_rests (shape_of w) w done.sound.state p allowed lt done.sound.has (done.quiet p lt);
}
  where
    allowed : IsAllowed (shape_of w)
    allowed = shapes_are_read.allowed size w done.sound.shape
