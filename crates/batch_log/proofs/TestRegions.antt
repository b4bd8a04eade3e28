-- The list of the tests' region is sound.
use Rattle.std.proofs.Common.{◌≡◌, inl, inr, ℕ, zero, suc, ◌+◌, ◌<◌, ◌≤◌, List, [], ◌∷◌, length, refl, ap, sym, subst, arith}
use Rattle.std.specs.Prelude.{slice_index}
use Rattle.persist_model.specs.Region.{Words}
use Rattle.persist_model.specs.Shape.{Shape, IsShape}
use Rattle.persist_model.specs.Chain.{Each}
use Rattle.atomic_list.specs.Rules.{IsList, at_rest}
use Rattle.atomic_list.proofs.CasesToRules.{rules_of_list}
use Rattle.region_layout.specs.declared.layout.Layout.{Layout}
use Rattle.region_layout.specs.declared.layout.Buckets.{Buckets}
use Rattle.region_layout.specs.Layout.{layout_shape, IsPartition}
use Rattle.bucket_log.specs.Reads.{IsLogOfPart}
use Rattle.test_regions.specs.Pairs.{word_in, words_in, addresses}
use Rattle.test_regions.proofs.Regions.{words_long, words_are}
use Rattle.batch_log.specs.FreeBuckets.{buckets_for}
use Rattle.batch_log.specs.TestRegion.{sixteens, two_chained}

abbrev w : Words
w = word_in two_chained

all_below : Each (λ b. b < 832) (addresses two_chained)
all_below = (omega arith, (omega arith, (omega arith, (omega arith, (omega arith, (omega arith, (omega arith, (omega arith, (omega arith, (omega arith, (omega arith, (omega arith, tt))))))))))))

is_shape : IsShape 832 w
is_shape = record {
  enough = omega arith;
  magic = inr refl;
  policy = inl refl;
  cells = inr refl;
  buckets = (omega arith, omega arith);
  blocks = (omega arith, omega arith);
  structures = (omega arith, omega arith);
  partitions = λ second. (omega arith, omega arith, omega arith);
  kinds = λ second s lt. kind s lt;
  long = refl;
}
  where
    kind : (s : ℕ) → s < 1 → (1 ≤ w (13 + s)) × (w (13 + s) ≤ 3)
    kind zero lt = (omega arith, omega arith)
    kind (suc s) lt = absurd (omega (arith, lt))

two_list : IsList sixteens 0 w (304 ∷ 32 ∷ [])
two_list = at_rest (record {
  to_append = refl;
  to_remove = refl;
  last_tail = inl refl;
  buckets = ((2, omega arith, omega arith, refl), ((0, omega arith, omega arith, refl), tt));
  no_repeats = (((λ e. omega (arith, e)), tt), (tt, tt));
  links = (refl, (λ e. omega (arith, e)), (refl, (λ e. omega (arith, e)), refl));
  links_back = (refl, (refl, tt));
  tail = refl;
})

log_of : (layout : Layout) (part : Buckets) → layout_shape layout ≡ sixteens → IsPartition (layout_shape layout) 0 part → IsLogOfPart layout part 832 w
log_of layout part shape is = record {
  log = record {
    has_list = record { shape = is_shape; part = 0; below = omega arith; chain = 304 ∷ 32 ∷ []; rules = rules_of_list sixteens 0 w (304 ∷ 32 ∷ []) two_list };
    has_layout = sym shape;
  };
  is_part = is;
}

pub row_has_log : (layout : Layout) (part : Buckets) (row : List ℕ) → layout_shape layout ≡ sixteens → IsPartition (layout_shape layout) 0 part → row ≡ words_in two_chained 832 →
    IsLogOfPart layout part (length row) (slice_index row)
row_has_log layout part row shape is e = subst (λ xs. IsLogOfPart layout part (length xs) (slice_index xs)) (sym e)
    (subst (λ n. IsLogOfPart layout part n (slice_index (words_in two_chained 832))) (sym (words_long two_chained 832))
    (subst (IsLogOfPart layout part 832) (sym (words_are two_chained 832 all_below)) (log_of layout part shape is)))

pub cells_are : (layout : Layout) → layout_shape layout ≡ sixteens → layout.cells ≡ 16
cells_are layout e = ap (λ (s : Shape). s.cells) e

pub few_buckets : (cells count spare : ℕ) → cells ≡ 16 → count ≤ 64 → 4 ≤ spare → buckets_for cells count ≤ spare
few_buckets cells count spare e few room = subst (λ n. buckets_for n count ≤ spare) (sym e) (omega (arith, few, room))
