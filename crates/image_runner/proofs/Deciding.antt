-- What an image comes to, whatever it is.
use Rattle.std.proofs.Common.{◌≡◌, ◌⊎◌, inl, inr, ⊎_elim, ℕ, zero, suc, ◌+◌, ◌<◌, ◌≤◌, List, [], ◌∷◌, length, take, refl, sym, ◌∙◌, ap, subst, arith, Option, Some, None}
use Rattle.std.specs.List.{slice_get}
use Rattle.std.proofs.lemmas.Bool.{cases_lt}
use Rattle.persist_model.specs.ImageRules.{SIZES_RULE}
use Rattle.persist_model.specs.Region.{Words}
use Rattle.persist_model.specs.Shape.{shape_of, words_of_shape, SECOND_MAGIC}
use Rattle.persist_model.specs.Sound.{IsSound, StandsIn}
use Rattle.persist_model.specs.Faults.{IsFirstFault}
use Rattle.log_laws.proofs.Soundness.{standing_is_one, sound_or_faulty}
use Rattle.region_layout.specs.declared.layout.Kind.{Kind}
use Rattle.region_layout.specs.Layout.{kind_number}
use Rattle.region_layout.specs.HeapBlocks.{root_of}
use Rattle.region_layout.specs.Contents.{IsMap}
use Rattle.migration.specs.Fits.{IsOfKind, Fit, IsLineFault, counted as miscounted, other}
use Rattle.image_runner.specs.Maps.{AreMapsFrom, AreMaps, IsFirstBroken}
use Rattle.image_runner.specs.Ends.{AreStanding}

equal_or : (m n : ℕ) → (m ≡ n) ⊎ (m ≡ n → ⊥)
equal_or m n =
    ⊎_elim (λ (l : m < n). inr (λ e. omega (arith, e, l)))
    (λ (l : n ≤ m). ⊎_elim (λ (k : n < m). inr (λ e. omega (arith, e, k))) (λ (k : m ≤ n). inl (omega arith)) (cases_lt n m))
    (cases_lt m n)

-- ---- the rules

-- words are a sound image, or break a rule first
pub rule_trial : (size : ℕ) (w : Words) → IsSound size w ⊎ ((fault : ℕ) × (a : ℕ) × IsFirstFault size w fault a)
rule_trial size w = sound_or_faulty size w

-- ---- the lines

none_some : (kind : Kind) → None ≡ Some kind → ⊥
none_some kind e = cc

inner : (k kind : Kind) → Some k ≡ Some kind → k ≡ kind
inner k kind e = cc

of_kind_or : (w : Words) (kinds : List Kind) (s : ℕ) → IsOfKind w kinds s ⊎ (IsOfKind w kinds s → ⊥)
of_kind_or w kinds s = by_line (slice_get kinds s) refl
  where
    by_line : (o : Option Kind) → slice_get kinds s ≡ o → IsOfKind w kinds s ⊎ (IsOfKind w kinds s → ⊥)
    by_line None is = inl (λ kind at. absurd (none_some kind (sym is ∙ at)))
    by_line (Some k) is =
        ⊎_elim (λ (same : w (13 + s) ≡ kind_number k). inl (λ kind at. same ∙ ap kind_number (inner k kind (sym is ∙ at))))
        (λ (apart : w (13 + s) ≡ kind_number k → ⊥). inr (λ h. apart (h k is)))
        (equal_or (w (13 + s)) (kind_number k))

pub data FirstOther (w : Words) (kinds : List Kind) (n : ℕ) : Type 0 where
  all_of_kind : ((s : ℕ) → s < n → IsOfKind w kinds s) → FirstOther w kinds n
  one_other : (s : ℕ) → s < n → (IsOfKind w kinds s → ⊥) → ((t : ℕ) → t < s → IsOfKind w kinds t) → FirstOther w kinds n

first_other : (w : Words) (kinds : List Kind) (n : ℕ) → FirstOther w kinds n
first_other w kinds zero = all_of_kind (λ s l. absurd (omega (arith, l)))
first_other w kinds (suc n) = by_rest (first_other w kinds n)
  where
    by_last : ((s : ℕ) → s < n → IsOfKind w kinds s) → IsOfKind w kinds n ⊎ (IsOfKind w kinds n → ⊥) → FirstOther w kinds (suc n)
    by_last all (inl here) = all_of_kind (λ s l.
        ⊎_elim (λ (below : s < n). all s below) (λ (last : n ≤ s). let e : n ≡ s = omega (arith, l, last) in subst (IsOfKind w kinds) e here) (cases_lt s n))
    by_last all (inr none) = one_other n (omega arith) none all

    by_rest : FirstOther w kinds n → FirstOther w kinds (suc n)
    by_rest (all_of_kind all) = by_last all (of_kind_or w kinds n)
    by_rest (one_other s l none before) = one_other s (omega (arith, l)) none before

-- lines fit, or have a fault
pub data LineTrial (w : Words) (kinds : List Kind) : Type 0 where
  fits : Fit w kinds → LineTrial w kinds
  faulty : (fault a : ℕ) → IsLineFault w kinds fault a → LineTrial w kinds

pub line_trial : (w : Words) (kinds : List Kind) → LineTrial w kinds
line_trial w kinds = by_count (equal_or (length kinds) (w 5))
  where
    by_kinds : length kinds ≡ w 5 → w 0 ≡ SECOND_MAGIC → FirstOther w kinds (length kinds) → LineTrial w kinds
    by_kinds count second (all_of_kind all) = fits (record { count = count; each = λ x s within. all s within })
    by_kinds count second (one_other s l none before) = faulty SIZES_RULE (13 + s) (other count second s l none before refl refl)

    by_magic : length kinds ≡ w 5 → (w 0 ≡ SECOND_MAGIC) ⊎ (w 0 ≡ SECOND_MAGIC → ⊥) → LineTrial w kinds
    by_magic count (inl second) = by_kinds count second (first_other w kinds (length kinds))
    by_magic count (inr first) = fits (record { count = count; each = λ second s within. absurd (first second) })

    by_count : (length kinds ≡ w 5) ⊎ (length kinds ≡ w 5 → ⊥) → LineTrial w kinds
    by_count (inl count) = by_magic count (equal_or (w 0) SECOND_MAGIC)
    by_count (inr differ) = faulty SIZES_RULE 5 (miscounted differ refl refl)

-- ---- the standing words

pub standing_words : (size : ℕ) (w : Words) → IsSound size w → (z : Words) × AreStanding w z
standing_words size w sound = (
  λ a. at a (cases_lt a (words_of_shape (shape_of w))),
  record {
    heap = λ a v within stands. stands_at a v (cases_lt a (words_of_shape (shape_of w))) within.1 stands;
    past = λ a beyond. none_at a (cases_lt a (words_of_shape (shape_of w))) beyond;
  },
)
  where
    at : (a : ℕ) → (a < words_of_shape (shape_of w)) ⊎ (words_of_shape (shape_of w) ≤ a) → ℕ
    at a (inl below) = (standing_is_one size w a sound).0
    at a (inr beyond) = 0

    stands_at : (a v : ℕ) (c : (a < words_of_shape (shape_of w)) ⊎ (words_of_shape (shape_of w) ≤ a)) → a < words_of_shape (shape_of w) → StandsIn w a v → at a c ≡ v
    stands_at a v (inl below) within stands = sym ((standing_is_one size w a sound).2 v stands)
    stands_at a v (inr beyond) within stands = absurd (omega (arith, within, beyond))

    none_at : (a : ℕ) (c : (a < words_of_shape (shape_of w)) ⊎ (words_of_shape (shape_of w) ≤ a)) → words_of_shape (shape_of w) ≤ a → at a c ≡ 0
    none_at a (inl below) beyond = absurd (omega (arith, below, beyond))
    none_at a (inr there) beyond = refl

-- ---- the maps

-- a structure from s on is the first that is no map
record IsBrokenFrom (heap : ℕ) (w : Words) (s : ℕ) (kinds : List Kind) : Type 0 where
  structure : ℕ
  kind : Kind
  of : slice_get kinds structure ≡ Some kind
  before : AreMapsFrom heap w s (take structure kinds)
  broken : IsMap kind heap w (s + structure) → ⊥

shift : (heap : ℕ) (w : Words) (s : ℕ) (kind : Kind) (kinds : List Kind) → IsMap kind heap w s → IsBrokenFrom heap w (s + 1) kinds → IsBrokenFrom heap w s (kind ∷ kinds)
shift heap w s kind kinds here h = record {
  structure = suc h.structure;
  kind = h.kind;
  of = h.of;
  before = (here, h.before);
  broken = λ holds. h.broken (subst (λ n. IsMap h.kind heap w n) (let e : s + suc h.structure ≡ s + 1 + h.structure = omega arith in e) holds);
}

either_way : (P : Type 0) → (P ⊎ (P → ⊥) → ⊥) → ⊥
either_way P none = none (inr (λ p. none (inl p)))

from : (heap : ℕ) (w : Words) (s : ℕ) (kinds : List Kind) → (AreMapsFrom heap w s kinds ⊎ IsBrokenFrom heap w s kinds → ⊥) → ⊥
from heap w s [] none = none (inl tt)
from heap w s (kind ∷ kinds) none = either_way (IsMap kind heap w s) (by_first (λ rest. from heap w (s + 1) kinds rest))
  where
    by_rest : IsMap kind heap w s → AreMapsFrom heap w (s + 1) kinds ⊎ IsBrokenFrom heap w (s + 1) kinds → ⊥
    by_rest here (inl maps) = none (inl (here, maps))
    by_rest here (inr broken) = none (inr (shift heap w s kind kinds here broken))

    by_first : ((AreMapsFrom heap w (s + 1) kinds ⊎ IsBrokenFrom heap w (s + 1) kinds → ⊥) → ⊥) → IsMap kind heap w s ⊎ (IsMap kind heap w s → ⊥) → ⊥
    by_first goes_on (inl here) = goes_on (by_rest here)
    by_first goes_on (inr broken) = none (inr (record {
      structure = 0;
      kind = kind;
      of = refl;
      before = tt;
      broken = λ holds. broken (subst (λ n. IsMap kind heap w n) (let e : s + 0 ≡ s = omega arith in e) holds);
    }))

-- all structures are maps, or there is a first that is none
pub maps_or_broken : (heap : ℕ) (w : Words) (kinds : List Kind) → (AreMaps heap w kinds ⊎ ((a : ℕ) × IsFirstBroken heap w kinds a) → ⊥) → ⊥
maps_or_broken heap w kinds none = from heap w 0 kinds (by_from none)
  where
    by_from : (AreMaps heap w kinds ⊎ ((a : ℕ) × IsFirstBroken heap w kinds a) → ⊥) → AreMapsFrom heap w 0 kinds ⊎ IsBrokenFrom heap w 0 kinds → ⊥
    by_from none (inl maps) = none (inl maps)
    by_from none (inr b) = none (inr (
      root_of heap b.structure,
      record {
        structure = b.structure;
        kind = b.kind;
        of = b.of;
        before = b.before;
        broken = λ holds. b.broken (subst (λ n. IsMap b.kind heap w n) (let e : b.structure ≡ 0 + b.structure = omega arith in e) holds);
        root = refl;
      },
    ))
