-- What the end of a recovery, and a stop in it, say of the words with which it began.
use Rattle.std.proofs.Common.{◌≡◌, ◌⊎◌, inl, inr, ℕ, ◌+◌, ◌<◌, ◌≤◌, ◌==◌, true, false, if◌then◌else◌, List, [], length, refl, sym, ap, ◌∙◌, subst, arith, nat_lt}
use Rattle.std.specs.Prelude.{slice_index}
use Rattle.std.proofs.lemmas.Bool.Decides.{nat_tests}
use Rattle.persist_model.specs.Region.{Words, Region, IsImage, AreSettled}
use Rattle.persist_model.specs.Records.{Log}
use Rattle.persist_model.specs.Shape.{Shape, shape_of, heap, words_of_shape, heap_words, IsShape, SECOND_MAGIC, IsMagic, IsPolicy, IsCellCount, IsBucketCount, IsBlockCount, IsStructureCount, IsPartitionCount, IsKind}
use Rattle.persist_model.specs.Standing.{Stands}
use Rattle.persist_model.specs.State.{State, IsSoundState}
use Rattle.persist_model.specs.Sound.{HasState, StandsIn}
use Rattle.persist_model.proofs.Images.{settled_is}
use Rattle.log_laws.specs.Parts.{EachKeeps}
use Rattle.log_laws.proofs.Applying.{stands_empty}
use Rattle.log_laws.proofs.Soundness.{same_log}
use Rattle.recovery_run.specs.Edges.{HasOnlyValue, KeepsWords, IsPlainHeaderWord}
use Rattle.recovery_run.specs.Reached.{newest_at, HasHeader, HasReached, HasSettled, HasFewBuckets}
use Rattle.recovery_run.proofs.Reaching.{read_newest, read_is_header, has_state, reached_sound, settled_reached}
use Rattle.recovery_passes.specs.Recovered.{IsFinished, Restores, EachStands}
use Rattle.recovery_passes.specs.Stages.{AreQuiet, AreShort}

below_is : (a b : ℕ) → a < b → nat_lt a b ≡ true
below_is a b lt = grind (arith, nat_tests)

above_is : (a b : ℕ) → b ≤ a → nat_lt a b ≡ false
above_is a b le = grind (arith, nat_tests)

-- ---- words with the same header

module _ (n m : ℕ) (w v : Words) (h : IsShape n w) (size : m ≡ n) (same : (a : ℕ) → (a ≤ 7) ⊎ ((13 ≤ a) × (a ≤ 20)) → v a ≡ w a) where
  low : (a : ℕ) → a ≤ 7 → v a ≡ w a
  low a le = same a (inl le)

  pub shape_same : shape_of v ≡ shape_of w
  shape_same = λ i. record {
    policy = low 1 (omega arith) i;
    cells = low 2 (omega arith) i;
    buckets = low 3 (omega arith) i;
    blocks = low 4 (omega arith) i;
    structures = low 5 (omega arith) i;
    format = if low 0 (omega arith) i == SECOND_MAGIC then 2 else 1;
    partitions = if low 0 (omega arith) i == SECOND_MAGIC then low 6 (omega arith) i else 1;
  }

  pub is_shape_same : IsShape m v
  is_shape_same = record {
    enough = subst (λ k. 32 ≤ k) (sym size) h.enough;
    magic = subst IsMagic (sym (low 0 (omega arith))) h.magic;
    policy = subst IsPolicy (sym (low 1 (omega arith))) h.policy;
    cells = subst IsCellCount (sym (low 2 (omega arith))) h.cells;
    buckets = subst IsBucketCount (sym (low 3 (omega arith))) h.buckets;
    blocks = subst IsBlockCount (sym (low 4 (omega arith))) h.blocks;
    structures = subst IsStructureCount (sym (low 5 (omega arith))) h.structures;
    partitions = λ second. subst (λ k. IsPartitionCount k (v 6)) (sym (low 3 (omega arith)))
        (subst (λ k. IsPartitionCount (w 3) k) (sym (low 6 (omega arith))) (h.partitions (sym (low 0 (omega arith)) ∙ second)));
    kinds = λ second s lt.
        let less : s < w 5 = subst (λ k. s < k) (low 5 (omega arith)) lt in
        let few = h.structures.1 in
        subst IsKind (sym (same (13 + s) (inr (omega arith, omega (arith, less, few))))) (h.kinds (sym (low 0 (omega arith)) ∙ second) s less);
    long = size ∙ h.long ∙ ap words_of_shape (sym shape_same);
  }

-- ---- a settled region with a sound image

-- what recovery begins with
pub record IsBegun (old : Region) (s0 : State) : Type 0 where
  pub settled : AreSettled old
  pub shape : IsShape old.size (newest_at old)
  pub has : HasState (shape_of (newest_at old)) (newest_at old) s0
  pub sound : IsSoundState (shape_of (newest_at old)) s0

pub begins_header : (old : Region) (s0 : State) → IsBegun old s0 → HasHeader (shape_of (newest_at old)) old
begins_header old s0 h = record { header = h.shape; shape_is = refl }

-- a word has the standing value that its log gives
stands_first : (old : Region) (s0 : State) (a v : ℕ) → IsBegun old s0 → StandsIn (newest_at old) a v → Stands (newest_at old 1) s0.log s0.words a v
stands_first old s0 a v h st =
    let log_is : st.0.log ≡ s0.log = same_log (shape_of (newest_at old)) (newest_at old) st.0 s0 st.1 h.has in
    let words_are : st.0.words ≡ s0.words = st.1.words ∙ sym h.has.words in
    subst (λ (z : Words). Stands (newest_at old 1) s0.log z a v) words_are (subst (λ (l : Log). Stands (newest_at old 1) l st.0.words a v) log_is st.2)

module _ (old later : Region) (s0 : State) (h : IsBegun old s0) (size : later.size ≡ old.size) (keeps : KeepsWords (IsPlainHeaderWord (shape_of (newest_at old))) old later) where
  abbrev w : Words
  w = newest_at old

  one_before : (a : ℕ) → a < old.size → HasOnlyValue (w a) (old.at a)
  one_before a lt v k = settled_is (old.at a) v (h.settled a lt) k ∙ sym (read_newest old a lt)

  -- each image has the header's words
  image_header : (words : List ℕ) → IsImage words later → (a : ℕ) → (a ≤ 7) ⊎ ((13 ≤ a) × (a ≤ 20)) → slice_index words a ≡ w a
  image_header words image a where_is =
      let header = read_is_header (shape_of w) a where_is in
      let enough = h.shape.enough in
      let low = header.below in
      keeps a (w a) header (one_before a (omega (arith, enough, low))) (slice_index words a) (image.each a (omega (arith, enough, low, size)))

  pub each_stands : EachKeeps (shape_of w) s0 later → EachStands w later
  each_stands kept words image =
      let i : Words = slice_index words in
      let same = image_header words image in
      let length_is : length words ≡ old.size = image.long ∙ size in
      let shape_is : shape_of i ≡ shape_of w = shape_same old.size (length words) w i h.shape length_is same in
      let x = kept.each words image in (
        record {
          shape = is_shape_same old.size (length words) w i h.shape length_is same;
          state = x.0;
          has = subst (λ (s : Shape). HasState s i x.0) (sym shape_is) x.1;
          sound = subst (λ (s : Shape). IsSoundState s x.0) (sym shape_is) x.2;
        },
        λ a v heap_word st. (
          x.0,
          subst (λ (s : Shape). HasState s i x.0) (sym shape_is) x.1,
          subst (λ p. Stands p x.0.log x.0.words a v) (sym (same 1 (inl (omega arith)))) (x.3 a v (stands_first old s0 a v h st)),
        ),
      )

  module _ (z : State) (settled : HasSettled (shape_of w) s0 z later) (empty : z.log ≡ []) where
    reached : HasReached (shape_of w) s0 z later
    reached = settled_reached (shape_of w) s0 z later settled

    state_there : HasState (shape_of w) (newest_at later) z
    state_there = has_state (shape_of w) s0 z later reached

    pub restored : Restores w (newest_at later)
    restored a v heap_word st =
        let kept = (reached_sound (shape_of w) s0 z later reached h.sound).1 a v (stands_first old s0 a v h st) in
        let is : v ≡ z.words a = stands_empty (w 1) z.words a v (subst (λ (l : Log). Stands (w 1) l z.words a v) empty kept) in
        let here : heap_words (shape_of w) (newest_at later) a ≡ newest_at later a =
        (let le = heap_word.0 in let lt = heap_word.1 in
        let above : nat_lt a (heap (shape_of w)) ≡ false = above_is a (heap (shape_of w)) le in
        let below : nat_lt a (words_of_shape (shape_of w)) ≡ true = below_is a (words_of_shape (shape_of w)) lt in
        rw (above, below) refl) in
        sym here ∙ sym (ap (λ (f : Words). f a) state_there.words) ∙ sym is

    pub finished : AreQuiet (shape_of w) later → AreShort (shape_of w) later → IsFinished later.size (newest_at later)
    finished quiet short =
        let v : Words = newest_at later in
        let shape_is : shape_of v ≡ shape_of w = settled.header.shape_is in
        record {
          sound = record {
            shape = settled.header.header;
            state = z;
            has = subst (λ (s : Shape). HasState s v z) (sym shape_is) state_there;
            sound = subst (λ (s : Shape). IsSoundState s z) (sym shape_is) (reached_sound (shape_of w) s0 z later reached h.sound).0;
          };
          empty = λ s has. same_log (shape_of w) v s z (subst (λ (k : Shape). HasState k v s) shape_is has) state_there ∙ empty;
          quiet = λ p lt. quiet p (subst (λ (s : Shape). p < s.partitions) shape_is lt);
          few = λ p lt. subst (λ (s : Shape). HasFewBuckets s p v) (sym shape_is) (short p (subst (λ (s : Shape). p < s.partitions) shape_is lt));
        }
