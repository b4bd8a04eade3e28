-- What stands in a device that was loaded with an image and recovered.
use Rattle.std.proofs.Common.{◌≡◌, inl, inr, ◌⊎◌, Bool, false-eqb, ℕ, ◌+◌, ◌*◌, ◌<◌, ◌≤◌, ◌==◌, true, false, if◌then◌else◌, List, [], length, refl, sym, ◌∙◌, ap, subst, arith, nat_lt, slice_index}
use Rattle.std.proofs.lemmas.List.{ext_get_or, get_or_past}
use Rattle.std.proofs.lemmas.Bool.{lt-ltb, le-ltb, cases_lt}
use Rattle.persist_model.specs.Region.{Words, Region, IsImage, AreSettled, loaded, newest_words}
use Rattle.persist_model.specs.Records.{Log}
use Rattle.persist_model.specs.Shape.{Shape, shape_of, heap, words_of_shape, list_words, heap_words, IsHeapWord, SECOND_MAGIC}
use Rattle.persist_model.specs.Standing.{Stands, kept}
use Rattle.persist_model.specs.State.{State}
use Rattle.persist_model.specs.Sound.{HasState, IsSound}
use Rattle.persist_model.proofs.Images.{AreFull, get_or-newest_words, length-newest_words, settled_is}
use Rattle.log_laws.proofs.Soundness.{standing_is_one}
use Rattle.recovery_run.specs.Edges.{HasOnlyValue, KeepsWords, IsPlainHeaderWord}
use Rattle.recovery_run.specs.Reached.{newest_at}
use Rattle.recovery_run.proofs.Reaching.{newest_one}
use Rattle.recovery_passes.specs.Recovered.{IsFinished, Restores, StandsAsIn, EachStands}
use Rattle.image_runner.specs.Ends.{AreStanding, IsRecovered}

-- ---- a loaded device

pub newest_loaded : (words : List ℕ) → newest_words (loaded words) ≡ words
newest_loaded words =
    ext_get_or 0 (newest_words (loaded words)) words (length-newest_words (loaded words))
    (λ a below. get_or-newest_words (loaded words) a (subst (λ n. a < n) (length-newest_words (loaded words)) below))

pub loaded_settled : (words : List ℕ) → AreSettled (loaded words)
loaded_settled words a below = refl

pub reads_loaded : (words : List ℕ) → newest_at (loaded words) ≡ slice_index words
reads_loaded words = ap (λ (ws : List ℕ). slice_index ws) (newest_loaded words)

pub sound_loaded : (words : List ℕ) (cells : Region) → cells ≡ loaded words → IsSound (length words) (slice_index words) → IsSound cells.size (newest_at cells)
sound_loaded words cells is sound = subst (λ (r : Region). IsSound r.size (newest_at r)) (sym is) (subst (IsSound (length words)) (sym (reads_loaded words)) sound)

pub shape_loaded : (words : List ℕ) (cells : Region) (shape : Shape) → cells ≡ loaded words → shape ≡ shape_of (slice_index words) → shape ≡ shape_of (newest_at cells)
shape_loaded words cells shape is same = same ∙ sym (ap (λ (w : Words). shape_of w) (ap newest_at is ∙ reads_loaded words))

-- what is said of the words is said of the device's
pub of_loaded : (P : Words → Type 0) (words : List ℕ) (cells : Region) → cells ≡ loaded words → P (slice_index words) → P (newest_at cells)
of_loaded P words cells is h = subst P (sym (ap newest_at is ∙ reads_loaded words)) h

-- ---- its header stays

list_words_low : (p : ℕ) → 8 ≤ list_words p
list_words_low p = elim (p == 0) as (λ b. 8 ≤ (if b then 8 else 16 + 5 * p)) [ true ↦ omega arith | false ↦ omega arith ]

pub header_word : (shape : Shape) (a : ℕ) → a ≤ 6 → IsPlainHeaderWord shape a
header_word shape a low = record {
  below = omega arith;
  apart = λ p within. inl (omega (arith, list_words_low p));
}

-- the word of a structure's kind
pub kind_word : (shape : Shape) (s : ℕ) → s < 8 → IsPlainHeaderWord shape (13 + s)
kind_word shape s low = record {
  below = omega arith;
  apart = λ p within. by_part p (p == 0) refl;
}
  where
    by_part : (p : ℕ) (b : Bool) → (p == 0) ≡ b → (13 + s < list_words p) ⊎ (list_words p + 4 < 13 + s)
    by_part p true first =
        let at : list_words p ≡ 8 = ap (λ t. if t then 8 else 16 + 5 * p) first in
        inr (omega (arith, at))
    by_part p false other =
        let at : list_words p ≡ 16 + 5 * p = ap (λ t. if t then 8 else 16 + 5 * p) other in
        inl (omega (arith, at, false-eqb p 0 (sym other)))

-- the first words give the shape
pub same_shape : (u w : Words) → ((a : ℕ) → a ≤ 6 → u a ≡ w a) → shape_of u ≡ shape_of w
same_shape u w same = shape_by (same 0 (omega arith)) (same 1 (omega arith)) (same 2 (omega arith)) (same 3 (omega arith)) (same 4 (omega arith)) (same 5 (omega arith)) (same 6 (omega arith))
  where
    shape_by : u 0 ≡ w 0 → u 1 ≡ w 1 → u 2 ≡ w 2 → u 3 ≡ w 3 → u 4 ≡ w 4 → u 5 ≡ w 5 → u 6 ≡ w 6 → shape_of u ≡ shape_of w
    shape_by e0 e1 e2 e3 e4 e5 e6 = λ i. record {
      policy = e1 i;
      cells = e2 i;
      buckets = e3 i;
      blocks = e4 i;
      structures = e5 i;
      format = if e0 i == SECOND_MAGIC then 2 else 1;
      partitions = if e0 i == SECOND_MAGIC then e6 i else 1;
    }

pub one_loaded : (words : List ℕ) (a : ℕ) → HasOnlyValue (slice_index words a) ((loaded words).at a)
one_loaded words a x (inl same) = sym same
one_loaded words a x (inr none) = absurd none

module _ (words : List ℕ) (later : Region) (full : AreFull later) (size : later.size ≡ length words) (enough : 32 ≤ length words)
    (header : KeepsWords (IsPlainHeaderWord (shape_of (slice_index words))) (loaded words) later) where
  header_kept : (a : ℕ) → a ≤ 6 → newest_at later a ≡ slice_index words a
  header_kept a low =
      get_or-newest_words later a (omega arith)
      ∙ newest_one (later.at a) (slice_index words a) (full a) (header a (slice_index words a) (header_word (shape_of (slice_index words)) a low) (one_loaded words a))

  pub shape_kept : shape_of (newest_at later) ≡ shape_of (slice_index words)
  shape_kept = same_shape (newest_at later) (slice_index words) header_kept

-- ---- its standing words

pub are_standing : (w : Words) (later : Region) → later.size ≡ words_of_shape (shape_of w) → Restores w (newest_at later) → AreStanding w (newest_at later)
are_standing w later size restored = record {
  heap = restored;
  past = λ a beyond. get_or_past (newest_words later) a 0 (omega (arith, length-newest_words later));
}

-- the standing words are one
pub same_standing : (size : ℕ) (w y z : Words) → IsSound size w → AreStanding w y → AreStanding w z → (a : ℕ) → heap (shape_of w) ≤ a → y a ≡ z a
same_standing size w y z sound here there a above = elim (cases_lt a (words_of_shape (shape_of w))) [
  | inl below ↦ (let one = standing_is_one size w a sound in here.heap a one.0 (above, below) one.1 ∙ sym (there.heap a one.0 (above, below) one.1))
  | inr beyond ↦ here.past a beyond ∙ sym (there.past a beyond)
]

-- ---- each of its images

image_settled : (words : List ℕ) (region : Region) → AreSettled region → IsImage words region → words ≡ newest_words region
image_settled words region settled image =
    ext_get_or 0 words (newest_words region) (image.long ∙ sym (length-newest_words region))
    (λ a below. let within : a < region.size = omega (arith, image.long) in
    settled_is (region.at a) (slice_index words a) (settled a within) (image.each a within) ∙ sym (get_or-newest_words region a within))

heap_word_is : (shape : Shape) (w : Words) (a : ℕ) → IsHeapWord shape a → heap_words shape w a ≡ w a
heap_word_is shape w a within =
    ap (λ b. if b then 0 else (if nat_lt a (words_of_shape shape) then w a else 0)) (le-ltb a (heap shape) within.0)
    ∙ ap (λ b. if b then w a else 0) (lt-ltb a (words_of_shape shape) within.1)

stands_alone : (policy : ℕ) (log : Log) (w : Words) (a v : ℕ) → log ≡ [] → v ≡ w a → Stands policy log w a v
stands_alone policy log w a v none is =
    subst (λ (l : Log). Stands policy l w a v) (sym none) (kept (λ r among p. among) (λ r among p. among) (λ r among p. among) is)

stands_finished : (w u : Words) (size : ℕ) → IsFinished size u → Restores w u → shape_of u ≡ shape_of w → StandsAsIn w u
stands_finished w u size finished restored shape a v within stands =
    let s : State = finished.sound.state in
    let has : HasState (shape_of u) u s = finished.sound.has in
    let here : IsHeapWord (shape_of u) a = subst (λ (sh : Shape). IsHeapWord sh a) (sym shape) within in (
      s,
      has,
      stands_alone (u 1) s.log s.words a v (finished.empty s has)
          (sym (ap (λ (x : Words). x a) has.words ∙ heap_word_is (shape_of u) u a here ∙ restored a v within stands)),
    )

pub each_stands : (w : Words) (region : Region) → AreSettled region → IsFinished region.size (newest_at region) → Restores w (newest_at region)
    → shape_of (newest_at region) ≡ shape_of w → EachStands w region
each_stands w region settled finished restored shape words image =
    let is : words ≡ newest_words region = image_settled words region settled image in
    let sound : IsSound (length (newest_words region)) (newest_at region) = subst (λ n. IsSound n (newest_at region)) (sym (length-newest_words region)) finished.sound in
    subst (λ (ws : List ℕ). IsSound (length ws) (slice_index ws) × StandsAsIn w (slice_index ws)) (sym is)
    (sound, stands_finished w (newest_at region) region.size finished restored shape)

-- ---- all of it

pub recovered_by : (words : List ℕ) (later : Region) → AreFull later → later.size ≡ length words → IsSound (length words) (slice_index words)
    → KeepsWords (IsPlainHeaderWord (shape_of (slice_index words))) (loaded words) later → Restores (slice_index words) (newest_at later)
    → AreSettled later → IsFinished later.size (newest_at later) → IsRecovered (slice_index words) later
recovered_by words later full size sound header restored settled finished =
    let shape = shape_kept words later full size sound.shape.enough header in
    record {
      standing = are_standing (slice_index words) later (size ∙ sound.shape.long) restored;
      settled = settled;
      finished = finished;
      shape = shape;
      each = each_stands (slice_index words) later settled finished restored shape;
    }
