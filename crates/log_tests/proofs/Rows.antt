-- From what the checks find to a log at rest.
use Rattle.std.proofs.Common.{◌≡◌, ◌≢◌, ℕ, ◌+◌, ◌*◌, ◌<◌, ◌≤◌, List, [], ◌∷◌, ◌++◌, map, take, length, get_or, refl, ap, sym, ◌∙◌, arith, subst}
use Rattle.std.proofs.lemmas.List.{map-append, take_more}
use Rattle.persist_model.specs.Region.{Words}
use Rattle.persist_model.specs.Shape.{Shape, shape_of, bucket, bucket_size, heap, IsBucketOf, IsShape}
use Rattle.persist_model.specs.Chain.{HEAD, IsLink, Links, ListRules}
use Rattle.atomic_list.specs.Rules.{IsAtRest, at_rest, RulesAreCases}
use Rattle.atomic_list.proofs.Chains.{Each-weaker, Each-push, HasNoRepeats-push, Links-push, LinksBack-push, last-push}
use Rattle.atomic_list.proofs.Parts.{parts_fit}
use Rattle.region_layout.specs.declared.layout.Layout.{Layout}
use Rattle.region_layout.specs.declared.layout.Buckets.{Buckets}
use Rattle.region_layout.specs.Layout.{layout_shape, IsPartition}
use Rattle.bucket_log.specs.Reads.{IsLogOfPart}
use Rattle.log_tests.specs.Rows.{IsRow}

rows_fit : (j n s : ℕ) → j < n → j * s + s ≤ n * s
rows_fit j n s below = grind arith

-- a numbered bucket is inside
pub bucket_fits : (shape : Shape) (j : ℕ) → j < shape.buckets → bucket shape j + 8 ≤ heap shape
bucket_fits shape j below = let rows = rows_fit j shape.buckets (bucket_size shape) below in omega (arith, rows)

-- the part's buckets are among all
pub number_below : (shape : Shape) (p : ℕ) (part : Buckets) (j : ℕ) → p < shape.partitions → IsPartition shape p part → j < part.first + part.count → j < shape.buckets
number_below shape p part j below is lt = let fit = parts_fit shape p below in let first = is.0 in let count = is.1 in omega (arith, fit, first, count, lt)

pub bucket_of : (shape : Shape) (p : ℕ) (part : Buckets) (j : ℕ) → IsPartition shape p part → part.first ≤ j → j < part.first + part.count → IsBucketOf shape p (bucket shape j)
bucket_of shape p part j is low high = let first = is.0 in let count = is.1 in (j, omega (arith, low, first), omega (arith, high, first, count), refl)

pub row_starts : (shape : Shape) (p : ℕ) (w : Words) → IsRow shape p w [] 8 0
row_starts shape p w = record { links = refl; link_is = refl; links_back = tt; last_is = refl; buckets = tt; no_repeats = tt; below = tt }

pub row_goes_on : (shape : Shape) (p : ℕ) (w : Words) (xs : List ℕ) (link last x : ℕ) → IsRow shape p w xs link last → IsBucketOf shape p x → link < x → w link ≡ x → w (x + 1) ≡ last →
    IsRow shape p w (xs ++ x ∷ []) x x
row_goes_on shape p w xs link last x h is later named back = record {
  links = Links-push w HEAD xs x (w x) (subst (Links w HEAD xs) named h.links) (omega (arith, later)) refl;
  link_is = sym (last-push HEAD xs x);
  links_back = LinksBack-push w 0 xs x h.links_back (back ∙ h.last_is);
  last_is = sym (last-push 0 xs x);
  buckets = Each-push (IsBucketOf shape p) xs x h.buckets is;
  no_repeats = HasNoRepeats-push xs x h.no_repeats (Each-weaker (λ y. y ≤ link) (λ y. x ≢ y) (λ y le. (λ e. omega (arith, later, le, e))) xs h.below);
  below = Each-push (λ y. y ≤ x) xs x (Each-weaker (λ y. y ≤ link) (λ y. y ≤ x) (λ y le. omega (arith, later, le)) xs h.below) (omega arith);
}

-- one number more
pub row_of_more : (shape : Shape) (p : ℕ) (w : Words) (numbers : List ℕ) (i link last : ℕ) → i < length numbers → IsRow shape p w (map (bucket shape) (take i numbers)) link last →
    IsBucketOf shape p (bucket shape (get_or numbers i 0)) → link < bucket shape (get_or numbers i 0) → w link ≡ bucket shape (get_or numbers i 0) → w (bucket shape (get_or numbers i 0) + 1) ≡ last →
    IsRow shape p w (map (bucket shape) (take (i + 1) numbers)) (bucket shape (get_or numbers i 0)) (bucket shape (get_or numbers i 0))
row_of_more shape p w numbers i link last lt h is later named back =
    subst (λ xs. IsRow shape p w xs (bucket shape (get_or numbers i 0)) (bucket shape (get_or numbers i 0)))
    (sym (ap (map (bucket shape)) (take_more numbers i 0 lt) ∙ map-append (bucket shape) (take i numbers) (get_or numbers i 0 ∷ [])))
    (row_goes_on shape p w (map (bucket shape) (take i numbers)) link last (bucket shape (get_or numbers i 0)) h is later named back)

pub rest_of_row : (shape : Shape) (p : ℕ) (w : Words) (xs : List ℕ) (link last : ℕ) → IsRow shape p w xs link last → w link ≡ 0 → w 9 ≡ last → w 10 ≡ 0 → w 12 ≡ 0 →
    IsLink (IsBucketOf shape p) (w 11) → IsAtRest shape p w xs
rest_of_row shape p w xs link last h end tail to_append to_remove last_tail = record {
  to_append = to_append;
  to_remove = to_remove;
  last_tail = last_tail;
  buckets = h.buckets;
  no_repeats = h.no_repeats;
  links = subst (Links w HEAD xs) end h.links;
  links_back = h.links_back;
  tail = tail ∙ h.last_is;
}

pub log_of_rest : (layout : Layout) (part : Buckets) (p size : ℕ) (w : Words) (xs : List ℕ) → RulesAreCases → IsShape size w → layout_shape layout ≡ shape_of w → p < layout.partitions →
    IsPartition (layout_shape layout) p part → IsAtRest (layout_shape layout) p w xs → IsLogOfPart layout part size w
log_of_rest layout part p size w xs cases shape is below part_is rest = record {
  log = record {
    has_list = record {
      shape = shape;
      part = p;
      below = subst (λ s. p < s.partitions) is below;
      chain = xs;
      rules = subst (λ s. ListRules (IsBucketOf s p) w xs) is ((cases (layout_shape layout) p w xs).1 (at_rest rest));
    };
    has_layout = sym is;
  };
  is_part = part_is;
}
