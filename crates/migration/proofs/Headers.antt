-- The header of a region that was recovered, and what its images may be migrated for.
use Rattle.std.proofs.Common.{◌≡◌, ◌⊎◌, inl, inr, ℕ, ◌+◌, ◌<◌, ◌≤◌, ◌==◌, Bool, if◌then◌else◌, nat_lt, List, [], length, sym, ap, ◌∙◌, subst, arith}
use Rattle.std.specs.Prelude.{slice_index}
use Rattle.std.proofs.lemmas.Bool.{le-ltb, lt-ltb}
use Rattle.std.proofs.lemmas.Bool.Decides.{eqb_tells}
use Rattle.persist_model.specs.Region.{Words, Region, IsImage, IsCandidate, AreSettled, newest_words}
use Rattle.persist_model.specs.Records.{Log}
use Rattle.persist_model.specs.Shape.{Shape, FIRST_MAGIC, SECOND_MAGIC, shape_of, heap, words_of_shape, heap_words, IsHeapWord, IsMagic}
use Rattle.persist_model.specs.Standing.{Stands as StandsAt, kept}
use Rattle.persist_model.specs.Sound.{HasState, IsSound}
use Rattle.persist_model.specs.State.{State}
use Rattle.persist_model.proofs.Images.{settled_is, settled_image, length-newest_words}
use Rattle.persist_model.proofs.Candidates.{IsCandidate_newest}
use Rattle.region_layout.specs.declared.layout.Kind.{Kind}
use Rattle.region_layout.specs.declared.layout.Layout.{Layout}
use Rattle.region_layout.specs.Layout.{layout_shape}
use Rattle.recovery_run.specs.Edges.{HasOnlyValue}
use Rattle.recovery_run.specs.Reached.{newest_at}
use Rattle.recovery_run.proofs.Reaching.{read_newest, read_is_header}
use Rattle.recovery_passes.specs.Recovered.{IsFinished, Restores, StandsAsIn}
use Rattle.recovery_passes.specs.Recovery.{KeepsHeader}
use Rattle.migration.specs.Fits.{Fit}
use Rattle.migration.specs.Migrated.{in_format}
use Rattle.migration.specs.Owed.{MigratesAs, EachMigratesAs}

-- ---- what the first words decide

pub same_shape : (u w : Words) → ((a : ℕ) → a ≤ 6 → u a ≡ w a) → shape_of u ≡ shape_of w
same_shape u w same = λ i. record {
  policy = same 1 (omega arith) i;
  cells = same 2 (omega arith) i;
  buckets = same 3 (omega arith) i;
  blocks = same 4 (omega arith) i;
  structures = same 5 (omega arith) i;
  format = if same 0 (omega arith) i == SECOND_MAGIC then 2 else 1;
  partitions = if same 0 (omega arith) i == SECOND_MAGIC then same 6 (omega arith) i else 1;
}

-- kinds fit words whose magic, count and kinds are the same
pub fit_there : (u w : Words) (kinds : List Kind) → Fit w kinds → w 5 ≤ 8 → u 0 ≡ w 0 → u 5 ≡ w 5 → ((s : ℕ) → s < 8 → u (13 + s) ≡ w (13 + s)) → Fit u kinds
fit_there u w kinds fit few magic count each = record {
  count = fit.count ∙ sym count;
  each = λ second s within kind at. (
      let as_many = fit.count in
      each s (omega (arith, within, as_many, few)) ∙ fit.each (sym magic ∙ second) s within kind at);
}

-- ---- the format that is read

format_by : (layout : Layout) (w : Words) → layout_shape layout ≡ shape_of w → layout.format ≡ (if w 0 == SECOND_MAGIC then 2 else 1)
format_by layout w same = ap (λ (shape : Shape). shape.format) same

pub format_second : (layout : Layout) (w : Words) → layout_shape layout ≡ shape_of w → layout.format ≡ 2 → w 0 ≡ SECOND_MAGIC
format_second layout w same is = elim (eqb_tells (w 0) SECOND_MAGIC) [
  | inl e ↦ e.1
  | inr e ↦ (let by = format_by layout w same ∙ ap (λ (b : Bool). if b then 2 else 1) e.0 in absurd (omega (arith, by, is)))
]

pub format_first : (layout : Layout) (w : Words) → layout_shape layout ≡ shape_of w → IsMagic (w 0) → (layout.format ≡ 2 → ⊥) → w 0 ≡ FIRST_MAGIC
format_first layout w same (inl e) off = e
format_first layout w same (inr e) off = absurd (off (format_by layout w same ∙ ap (λ n. if n == SECOND_MAGIC then 2 else 1) e))

-- ---- words without records

stands_alone : (policy : ℕ) (log : Log) (w : Words) (a v : ℕ) → log ≡ [] → v ≡ w a → StandsAt policy log w a v
stands_alone policy log w a v none is =
    subst (λ (l : Log). StandsAt policy l w a v) (sym none) (kept (λ r among p. among) (λ r among p. among) (λ r among p. among) is)

heap_word_is : (shape : Shape) (w : Words) (a : ℕ) → IsHeapWord shape a → heap_words shape w a ≡ w a
heap_word_is shape w a within =
    ap (λ b. if b then 0 else (if nat_lt a (words_of_shape shape) then w a else 0)) (le-ltb a (heap shape) within.0)
    ∙ ap (λ b. if b then w a else 0) (lt-ltb a (words_of_shape shape) within.1)

-- what was recovered has the standing words
pub stands_finished : (w u : Words) (size : ℕ) → IsFinished size u → Restores w u → shape_of u ≡ shape_of w → StandsAsIn w u
stands_finished w u size finished restored shape a v within stands =
    let s : State = finished.sound.state in
    let has : HasState (shape_of u) u s = finished.sound.has in
    let here : IsHeapWord (shape_of u) a = subst (λ (sh : Shape). IsHeapWord sh a) (sym shape) within in (
      s,
      has,
      stands_alone (u 1) s.log s.words a v (finished.empty s has)
          (sym (ap (λ (x : Words). x a) has.words ∙ heap_word_is (shape_of u) u a here ∙ restored a v within stands)),
    )

-- ---- a settled region

-- what is read of it is its image
pub newest_image : (region : Region) → AreSettled region → IsImage (newest_words region) region
newest_image region settled = record {
  long = length-newest_words region;
  each = λ a lt. subst (IsCandidate (region.at a)) (sym (read_newest region a lt)) (IsCandidate_newest (region.at a) (let one : length (region.at a) ≡ 1 = settled a lt in omega (arith, one)));
}

-- its images are what is read of it
pub each_settled : (kinds : List Kind) (w : Words) (region : Region) → AreSettled region → MigratesAs kinds w region.size (newest_at region) → EachMigratesAs kinds w region
each_settled kinds w region settled h words image =
    subst (λ (xs : List ℕ). MigratesAs kinds w (length xs) (slice_index xs)) (sym (settled_image region words settled image))
    (subst (λ n. MigratesAs kinds w n (newest_at region)) (sym (length-newest_words region)) h)

-- ---- behind a recovery

module _ (before after : Region) (settled : AreSettled before) (enough : 32 ≤ before.size) (h : KeepsHeader before after) where
  one_value : (a : ℕ) → a < 32 → HasOnlyValue (newest_at before a) (before.at a)
  one_value a lt v k = let below : a < before.size = omega (arith, lt, enough) in settled_is (before.at a) v (settled a below) k ∙ sym (read_newest before a below)

  plain_value : (a : ℕ) → (a ≤ 7) ⊎ ((13 ≤ a) × (a ≤ 20)) → (v : ℕ) → IsCandidate (after.at a) v → v ≡ newest_at before a
  plain_value a where_is v k = let plain = read_is_header (shape_of (newest_at before)) a where_is in h.words a (newest_at before a) plain (one_value a plain.below) v k

  pub image_header : (words : List ℕ) → IsImage words after → (a : ℕ) → (a ≤ 7) ⊎ ((13 ≤ a) × (a ≤ 20)) → slice_index words a ≡ newest_at before a
  image_header words image a where_is =
      let below = (read_is_header (shape_of (newest_at before)) a where_is).below in
      let size = h.size in
      plain_value a where_is (slice_index words a) (image.each a (omega (arith, below, size, enough)))

  module _ (words : List ℕ) (image : IsImage words after) where
    low_header : (a : ℕ) → a ≤ 7 → slice_index words a ≡ newest_at before a
    low_header a le = image_header words image a (inl le)

    pub shape_header : shape_of (slice_index words) ≡ shape_of (newest_at before)
    shape_header = same_shape (slice_index words) (newest_at before) (λ a le. low_header a (omega (arith, le)))

    pub fit_header : (kinds : List Kind) → Fit (newest_at before) kinds → newest_at before 5 ≤ 8 → Fit (slice_index words) kinds
    fit_header kinds fit few = fit_there (slice_index words) (newest_at before) kinds fit few (low_header 0 (omega arith)) (low_header 5 (omega arith))
        (λ s lt. image_header words image (13 + s) (inr (omega arith, omega (arith, lt))))

    pub image_migrates : (kinds : List Kind) → Fit (newest_at before) kinds → newest_at before 5 ≤ 8 → IsSound (length words) (slice_index words) → StandsAsIn (newest_at before) (slice_index words) →
        MigratesAs kinds (newest_at before) (length words) (slice_index words)
    image_migrates kinds fit few sound stands = record { sound = sound; standing = stands; shape = ap (in_format 2) shape_header; fit = fit_header kinds fit few }
