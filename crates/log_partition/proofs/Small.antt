-- The lists of the tests' region are sound.
use Rattle.std.proofs.Common.{◌≡◌, inl, inr, ℕ, zero, suc, ◌+◌, ◌*◌, ◌<◌, ◌≤◌, List, [], ◌∷◌, length, refl, sym, subst, arith}
use Rattle.std.specs.Prelude.{slice_index}
use Rattle.persist_model.specs.Region.{Words}
use Rattle.persist_model.specs.Shape.{IsShape, IsBucketOf}
use Rattle.persist_model.specs.Chain.{view, Each, ListRules}
use Rattle.atomic_list.specs.Rules.{IsList, at_rest}
use Rattle.atomic_list.proofs.CasesToRules.{rules_of_list}
use Rattle.region_layout.specs.declared.layout.Layout.{Layout}
use Rattle.region_layout.specs.Layout.{layout_shape}
use Rattle.test_regions.specs.Pairs.{word_in, words_in, addresses}
use Rattle.test_regions.proofs.Regions.{words_long, words_are}
use Rattle.log_partition.specs.TableRegion.{small, two_chains}
use Rattle.log_partition.specs.Merging.{AreLogsOf}

abbrev w : Words
w = word_in two_chains

-- ---- the words

all_below : Each (λ b. b < 416) (addresses two_chains)
all_below = (omega arith, (omega arith, (omega arith, (omega arith, (omega arith, (omega arith, (omega arith, (omega arith, (omega arith, (omega arith, (omega arith, (omega arith, (omega arith, (omega arith, tt))))))))))))))

-- ---- the header and the lists

is_shape : IsShape 416 w
is_shape = record {
  enough = omega arith;
  magic = inr refl;
  policy = inl refl;
  cells = inl refl;
  buckets = (omega arith, omega arith);
  blocks = (omega arith, omega arith);
  structures = (omega arith, omega arith);
  partitions = λ second. (omega arith, omega arith, omega arith);
  kinds = λ second s lt. kind s lt;
  long = refl;
}
  where
    kind : (s : ℕ) → s < 1 → (1 ≤ w (13 + s)) × (w (13 + s) ≤ 3)
    kind zero lt = (omega arith, omega arith)
    kind (suc s) lt = absurd (omega (arith, lt))

bucket_of : (q j : ℕ) → q < 2 → 4 * q ≤ j → j < 4 * q + 4 → IsBucketOf small q (32 + j * 16)
bucket_of zero j lt low high = (j, omega arith, omega (arith, high), refl)
bucket_of (suc zero) j lt low high = (j, omega (arith, low), omega (arith, high), refl)
bucket_of (suc (suc q)) j lt low high = absurd (omega (arith, lt))

first_list : IsList small 0 (view 0 w) (64 ∷ 32 ∷ [])
first_list = at_rest (record {
  to_append = refl;
  to_remove = refl;
  last_tail = inl refl;
  buckets = (bucket_of 0 2 (omega arith) (omega arith) (omega arith), (bucket_of 0 0 (omega arith) (omega arith) (omega arith), tt));
  no_repeats = (((λ e. omega (arith, e)), tt), (tt, tt));
  links = (refl, (λ e. omega (arith, e)), (refl, (λ e. omega (arith, e)), refl));
  links_back = (refl, (refl, tt));
  tail = refl;
})

second_list : IsList small 1 (view 1 w) (96 ∷ [])
second_list = at_rest (record {
  to_append = refl;
  to_remove = refl;
  last_tail = inl refl;
  buckets = (bucket_of 1 4 (omega arith) (omega arith) (omega arith), tt);
  no_repeats = (tt, tt);
  links = (refl, (λ e. omega (arith, e)), refl);
  links_back = (refl, tt);
  tail = refl;
})

lists : (p : ℕ) → p < 2 → (chain : List ℕ) × ListRules (IsBucketOf small p) (view p w) chain
lists zero lt = (64 ∷ 32 ∷ [], rules_of_list small 0 (view 0 w) (64 ∷ 32 ∷ []) first_list)
lists (suc zero) lt = (96 ∷ [], rules_of_list small 1 (view 1 w) (96 ∷ []) second_list)
lists (suc (suc p)) lt = absurd (omega (arith, lt))

-- ---- of a row with these words

pub small_logs : (layout : Layout) (row : List ℕ) → layout_shape layout ≡ small → row ≡ words_in two_chains 416 → AreLogsOf layout (length row) (slice_index row)
small_logs layout row shape is = subst (λ xs. AreLogsOf layout (length xs) (slice_index xs)) (sym is)
    (subst (λ n. AreLogsOf layout n (slice_index (words_in two_chains 416))) (sym (words_long two_chains 416))
    (subst (AreLogsOf layout 416) (sym (words_are two_chains 416 all_below)) (record {
      shape = is_shape;
      has_layout = sym shape;
      lists = λ p lt. subst (λ s. (chain : List ℕ) × ListRules (IsBucketOf s p) (view p w) chain) (sym shape) (lists p (subst (λ s. p < s.partitions) shape lt));
    })))

pub bucket_at : (layout : Layout) (p j : ℕ) → layout_shape layout ≡ small → p < 2 → 4 * p ≤ j → j < 4 * p + 4 → IsBucketOf (layout_shape layout) p (32 + j * 16)
bucket_at layout p j shape lt low high = subst (λ s. IsBucketOf s p (32 + j * 16)) (sym shape) (bucket_of p j lt low high)
