-- Words on the way are sound, with the same standing words.
use Rattle.std.proofs.Common.{◌≡◌, ◌≢◌, inl, inr, ℕ, ◌+◌, ◌-◌, ◌<◌, ◌≤◌, ◌==◌, false, if◌then◌else◌, nat_lt, List, [], length, refl, sym, ap, ◌∙◌, subst, arith, get_or}
use Rattle.std.specs.List.{slice_get}
use Rattle.std.proofs.lemmas.Option.{slice_get-get_or}
use Rattle.std.proofs.lemmas.Bool.Decides.{nat_tests}
use Rattle.persist_model.specs.Region.{Words}
use Rattle.persist_model.specs.Records.{Log}
use Rattle.persist_model.specs.Shape.{Shape, FIRST_MAGIC, SECOND_MAGIC, shape_of, heap, words_of_shape, log_words, IsMagic, IsPolicy, IsCellCount, IsBucketCount, IsBlockCount, IsStructureCount, IsKind, IsShape}
use Rattle.persist_model.specs.Standing.{Stands as StandsAt}
use Rattle.persist_model.specs.Sound.{HasChain, HasState}
use Rattle.persist_model.specs.State.{State, IsSoundState}
use Rattle.region_layout.specs.Layout.{IsAllowed, kind_number}
use Rattle.region_layout.specs.declared.layout.Kind.{Kind}
use Rattle.region_layout.specs.declared.layout.Kind.TheVariants.{Cells, Tree, Hash}
use Rattle.region_layout.proofs.Headers.{shapes_are_read}
use Rattle.bucket_log.specs.Words.{IsPartWord}
use Rattle.bucket_log.proofs.Partitions.{bucket_word_above}
use Rattle.recovery_run.specs.Reached.{IsQuiet}
use Rattle.recovery_passes.specs.Recovered.{IsFinished, StandsAsIn}
use Rattle.migration.specs.Fits.{IsOfKind, Fit}
use Rattle.migration.specs.Plan.{IsReserved, number_or_none, reserved_word}
use Rattle.migration.specs.Migrated.{in_format, KeepsRest, AreMigrated, IsOnTheWay, first, second}
use Rattle.migration.specs.Laws.{WayStands}
use Rattle.migration.proofs.Alike.{list_alike, list_in_format, state_alike, state_in_format}

-- ---- words that differ in the magic and the reserved words alone

-- two headers that read alike: one partition, and all but the magic and the reserved words the same
record AreAlike (w v : Words) : Type 0 where
  rest : KeepsRest w v
  one : (shape_of w).partitions ≡ 1
  one_there : (shape_of v).partitions ≡ 1

turned : (w v : Words) → AreAlike w v → AreAlike v w
turned w v h = record { rest = λ a ne off. sym (h.rest a ne off); one = h.one_there; one_there = h.one }

-- a word past 0 that no stop leaves otherwise
low_is_read : (a : ℕ) → a < 6 → IsReserved a → ⊥
low_is_read a lt (inl e) = absurd (omega (arith, e, lt))
low_is_read a lt (inr (inl e)) = absurd (omega (arith, e, lt))
low_is_read a lt (inr (inr k)) = let low = k.0 in absurd (omega (arith, low, lt))

list_is_read : (a : ℕ) → 8 ≤ a → a ≤ 12 → IsReserved a → ⊥
list_is_read a low high (inl e) = absurd (omega (arith, e, low))
list_is_read a low high (inr (inl e)) = absurd (omega (arith, e, low))
list_is_read a low high (inr (inr k)) = let le = k.0 in absurd (omega (arith, le, high))

pub high_is_read : (a : ℕ) → 32 ≤ a → IsReserved a → ⊥
high_is_read a ge (inl e) = absurd (omega (arith, e, ge))
high_is_read a ge (inr (inl e)) = absurd (omega (arith, e, ge))
high_is_read a ge (inr (inr k)) = let le = k.1 in absurd (omega (arith, le, ge))

module _ (w v : Words) (h : KeepsRest w v) where
  low_same : (a : ℕ) → a ≢ 0 → a < 6 → v a ≡ w a
  low_same a ne lt = h a ne (low_is_read a lt)

  high_same : (a : ℕ) → 32 ≤ a → v a ≡ w a
  high_same a ge = h a (λ e. absurd (omega (arith, e, ge))) (high_is_read a ge)

  list_same : (a : ℕ) → 8 ≤ a → a ≤ 12 → v a ≡ w a
  list_same a low high = h a (λ e. absurd (omega (arith, e, low))) (list_is_read a low high)

module _ (w v : Words) (h : AreAlike w v) where
  -- the shape but for the format
  shape_alike : shape_of v ≡ in_format (shape_of v).format (shape_of w)
  shape_alike = λ i. record {
    policy = low_same w v h.rest 1 (omega arith) (omega arith) i;
    cells = low_same w v h.rest 2 (omega arith) (omega arith) i;
    buckets = low_same w v h.rest 3 (omega arith) (omega arith) i;
    blocks = low_same w v h.rest 4 (omega arith) (omega arith) i;
    structures = low_same w v h.rest 5 (omega arith) (omega arith) i;
    format = (shape_of v).format;
    partitions = (h.one_there ∙ sym h.one) i;
  }

  first_part : (p : ℕ) → p < (shape_of w).partitions → p ≡ 0
  first_part p lt = let one = h.one in omega (arith, lt, one)

  part_same : (p : ℕ) → p < (shape_of w).partitions → (a : ℕ) → IsPartWord (shape_of w) p a → v a ≡ w a
  part_same p lt a m = by_place (subst (λ q. IsPartWord (shape_of w) q a) (first_part p lt) m)
    where
      by_place : IsPartWord (shape_of w) 0 a → v a ≡ w a
      by_place (inl k) = list_same w v h.rest a k.0 k.1
      by_place (inr k) = high_same w v h.rest a (bucket_word_above (shape_of w) 0 a k)

  heap_same : (a : ℕ) → heap (shape_of w) ≤ a → a < words_of_shape (shape_of w) → v a ≡ w a
  heap_same a le lt = high_same w v h.rest a (omega (arith, le))

  has_alike : IsAllowed (shape_of w) → (s : State) → HasState (shape_of w) w s → HasState (shape_of v) v s
  has_alike ok s has = subst (λ (shape : Shape). HasState shape v s) (sym shape_alike)
      (state_in_format (shape_of w).format (shape_of v).format (shape_of w) v s (state_alike (shape_of w) ok w v s part_same heap_same has))

  chain_alike : IsAllowed (shape_of w) → (p : ℕ) → p < (shape_of w).partitions → (chain : List ℕ) → HasChain (shape_of w) w p chain → HasChain (shape_of v) v p chain
  chain_alike ok p lt chain has = subst (λ (shape : Shape). HasChain shape v p chain) (sym shape_alike)
      (list_in_format (shape_of w).format (shape_of v).format (shape_of w) p (log_words (shape_of w) v) chain (list_alike (shape_of w) ok w v p lt (part_same p lt) chain has))

-- ---- no records

-- a state without records is sound
empty_sound : (shape : Shape) (s : State) → s.log ≡ [] → IsSoundState shape s
empty_sound shape s none = subst (λ (l : Log). IsSoundState shape (record { log = l; words = s.words; room = s.room })) (sym none) (record {
  newest_first = tt;
  gates = λ r m. elim m [ ];
  formed = λ r m. elim m [ ];
  order = tt;
  room = λ p lt. record { undo = omega arith; checkpoint = λ one two open_log. absurd open_log.1 };
  numbers = λ r m. elim m [ ];
})

-- ---- the kinds

is_kind : (kind : Kind) → IsKind (kind_number kind)
is_kind Cells = (omega arith, omega arith)
is_kind Tree = (omega arith, omega arith)
is_kind Hash = (omega arith, omega arith)

reserved_kind : (kinds : List Kind) (s : ℕ) → reserved_word kinds (13 + s) ≡ number_or_none (slice_get kinds s)
reserved_kind kinds s =
    let six : (13 + s == 6) ≡ false = grind (arith, nat_tests) in
    let above : nat_lt (13 + s) 13 ≡ false = grind (arith, nat_tests) in
    let back : 13 + s - 13 ≡ s = omega arith in
    rw (six, above) (ap (λ n. number_or_none (slice_get kinds n)) back)

module _ (kinds : List Kind) (w i : Words) (h : AreMigrated kinds w i) (few : length kinds ≤ 8) where
  kind_there : (s : ℕ) → s < length kinds → IsOfKind i kinds s
  kind_there s lt kind at = h.reserved (13 + s) (inr (inr (omega arith, omega (arith, lt, few)))) ∙ reserved_kind kinds s ∙ ap number_or_none at

  kinds_there : (s : ℕ) → s < length kinds → IsKind (i (13 + s))
  kinds_there s lt = subst IsKind (sym (kind_there s lt (get_or kinds s Cells) (slice_get-get_or kinds s Cells lt))) (is_kind (get_or kinds s Cells))

-- ---- words on the way

pub not_second : FIRST_MAGIC ≡ SECOND_MAGIC → ⊥
not_second e = absurd (omega (arith, e))

way_rest : (kinds : List Kind) (w i : Words) → IsOnTheWay kinds w i → KeepsRest w i
way_rest kinds w i (first magic rest) = rest
way_rest kinds w i (second are) = are.rest

six_there : (kinds : List Kind) (w i : Words) → AreMigrated kinds w i → i 6 ≡ 1
six_there kinds w i h = h.reserved 6 (inl refl)

-- the partitions by the magic
parts_by : (w : Words) (magic : ℕ) → w 0 ≡ magic → (shape_of w).partitions ≡ (if magic == SECOND_MAGIC then w 6 else 1)
parts_by w magic e = ap (λ n. if n == SECOND_MAGIC then w 6 else 1) e

one_first : (w : Words) → w 0 ≡ FIRST_MAGIC → (shape_of w).partitions ≡ 1
one_first w e = parts_by w FIRST_MAGIC e

one_second : (w : Words) → w 0 ≡ SECOND_MAGIC → w 6 ≡ 1 → (shape_of w).partitions ≡ 1
one_second w e six = parts_by w SECOND_MAGIC e ∙ six

way_alike : (kinds : List Kind) (w i : Words) → w 0 ≡ FIRST_MAGIC → IsOnTheWay kinds w i → AreAlike w i
way_alike kinds w i begins (first magic rest) = record { rest = rest; one = one_first w begins; one_there = one_first i magic }
way_alike kinds w i begins (second are) = record { rest = are.rest; one = one_first w begins; one_there = one_second i are.magic (six_there kinds w i are) }

pub way_shape : (kinds : List Kind) (w i : Words) → w 0 ≡ FIRST_MAGIC → IsOnTheWay kinds w i → in_format 2 (shape_of i) ≡ in_format 2 (shape_of w)
way_shape kinds w i begins way = ap (in_format 2) (shape_alike w i (way_alike kinds w i begins way))

module _ (size : ℕ) (kinds : List Kind) (w i : Words) (h : IsFinished size w) (begins : w 0 ≡ FIRST_MAGIC) (fit : Fit w kinds) (way : IsOnTheWay kinds w i) where
  alike : AreAlike w i
  alike = way_alike kinds w i begins way

  low : (a : ℕ) → a ≢ 0 → a < 6 → i a ≡ w a
  low a ne lt = low_same w i alike.rest a ne lt

  five : i 5 ≡ w 5
  five = low 5 (omega arith) (omega arith)

  few : length kinds ≤ 8
  few = let most = h.sound.shape.structures.1 in let count = fit.count in omega (arith, most, count)

  magic_there : IsMagic (i 0)
  magic_there = by_way way
    where
      by_way : IsOnTheWay kinds w i → IsMagic (i 0)
      by_way (first magic rest) = inl magic
      by_way (second are) = inr are.magic

  -- what the magic of format 2 says of the words is so
  migrated_there : i 0 ≡ SECOND_MAGIC → AreMigrated kinds w i
  migrated_there magic = by_way way
    where
      by_way : IsOnTheWay kinds w i → AreMigrated kinds w i
      by_way (first other rest) = absurd (not_second (sym other ∙ magic))
      by_way (second are) = are

  shape_there : IsShape size i
  shape_there = record {
    enough = h.sound.shape.enough;
    magic = magic_there;
    policy = subst IsPolicy (sym (low 1 (omega arith) (omega arith))) h.sound.shape.policy;
    cells = subst IsCellCount (sym (low 2 (omega arith) (omega arith))) h.sound.shape.cells;
    buckets = subst IsBucketCount (sym (low 3 (omega arith) (omega arith))) h.sound.shape.buckets;
    blocks = subst IsBlockCount (sym (low 4 (omega arith) (omega arith))) h.sound.shape.blocks;
    structures = subst IsStructureCount (sym five) h.sound.shape.structures;
    partitions = λ magic.
        let one = six_there kinds w i (migrated_there magic) in
        let enough = h.sound.shape.buckets.0 in
        let three = low 3 (omega arith) (omega arith) in
        (omega (arith, one), omega (arith, one), omega (arith, one, enough, three));
    kinds = λ magic s lt. (let count = fit.count in let e = five in kinds_there kinds w i (migrated_there magic) few s (omega (arith, lt, count, e)));
    long = h.sound.shape.long ∙ sym (ap words_of_shape (shape_alike w i alike));
  }

  allowed : IsAllowed (shape_of w)
  allowed = shapes_are_read.allowed size w h.sound.shape

  allowed_there : IsAllowed (shape_of i)
  allowed_there = shapes_are_read.allowed size i shape_there

  state_there : HasState (shape_of i) i h.sound.state
  state_there = has_alike w i alike allowed h.sound.state h.sound.has

  part_there : (p : ℕ) → p < (shape_of i).partitions → p < (shape_of w).partitions
  part_there p lt = let one = alike.one in let one_there = alike.one_there in omega (arith, lt, one, one_there)

  quiet_there : (p : ℕ) → p < (shape_of i).partitions → IsQuiet p i
  quiet_there p lt = subst (λ q. IsQuiet q i) (sym (first_part w i alike p (part_there p lt))) (
    list_same w i alike.rest 10 (omega arith) (omega arith) ∙ was.0,
    list_same w i alike.rest 12 (omega arith) (omega arith) ∙ was.1,
  )
    where
      was : IsQuiet 0 w
      was = h.quiet 0 (let one = alike.one in omega (arith, one))

  finished_there : IsFinished size i
  finished_there = record {
    sound = record {
      shape = shape_there;
      state = h.sound.state;
      has = state_there;
      sound = empty_sound (shape_of i) h.sound.state (h.empty h.sound.state h.sound.has);
    };
    empty = λ s has. h.empty s (has_alike i w (turned w i alike) allowed_there s has);
    quiet = quiet_there;
    few = λ p lt chain has. h.few p (part_there p lt) chain (chain_alike i w (turned w i alike) allowed_there p lt chain has);
  }

  stands_there : StandsAsIn w i
  stands_there a v inside stands =
      let one : w 1 ≡ i 1 = sym (low 1 (omega arith) (omega arith)) in
      (stands.0, has_alike w i alike allowed stands.0 stands.1, subst (λ policy. StandsAt policy stands.0.log stands.0.words a v) one stands.2)

  fit_there : Fit i kinds
  fit_there = record {
    count = fit.count ∙ sym five;
    each = λ magic s lt. kind_there kinds w i (migrated_there magic) few s lt;
  }

pub way_stands : WayStands
way_stands size kinds w i h begins fit way = record {
  finished = finished_there size kinds w i h begins fit way;
  standing = stands_there size kinds w i h begins fit way;
  fit = fit_there size kinds w i h begins fit way;
}
