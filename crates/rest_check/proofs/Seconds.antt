-- The second bucket of a chain.
use Rattle.std.proofs.Common.{◌≡◌, ◌≢◌, inl, inr, ℕ, ◌+◌, ◌*◌, ◌<◌, ◌≤◌, ◌==◌, Bool, true, false, if◌then◌else◌, List, [], ◌∷◌, length, refl, sym, ap, ◌∙◌, subst, arith}
use Rattle.std.specs.Prelude.{slice_index}
use Rattle.std.proofs.lemmas.Bool.Decides.{eqb_tells}
use Rattle.persist_model.specs.Region.{Words}
use Rattle.persist_model.specs.Shape.{Shape, shape_of, IsBucketOf, bucket_size, log_words}
use Rattle.persist_model.specs.Chain.{view, Each, first_or, ListRules}
use Rattle.persist_model.specs.Sound.{HasChain}
use Rattle.log_laws.proofs.SameLists.{chain_buckets, rules_same}
use Rattle.atomic_list.specs.Walk.{chain_of}
use Rattle.atomic_list.specs.Reads.{HasList, next_in, behind}
use Rattle.atomic_list.proofs.Parts.{whole_bucket_fits}
use Rattle.atomic_list.proofs.RulesToCases.{list_of_rules}
use Rattle.atomic_list.proofs.Walks.{chain_of_list}
use Rattle.region_layout.specs.declared.layout.Layout.{Layout}
use Rattle.region_layout.specs.Layout.{layout_shape}
use Rattle.bucket_log.proofs.Partitions.{few_parts}
use Rattle.log_partition.specs.Merging.{AreLogsOf}
use Rattle.log_partition.specs.Views.{viewed}
use Rattle.log_partition.proofs.Merged.{allowed_of, log_of_view}
use Rattle.log_partition.proofs.Views.{viewed-is, view_below}
use Rattle.recovery_run.specs.Reached.{HasFewBuckets}
use Rattle.rest_check.specs.Rest.{second_of, IsFirstSecond}

bucket_is_some : (shape : Shape) (p b : ℕ) → IsBucketOf shape p b → b ≢ 0
bucket_is_some shape p b is none = let at = is.3 in omega (arith, at, none)

second_first : (x : ℕ) (rest : List ℕ) → second_of (x ∷ rest) ≡ first_or 0 rest
second_first x [] = refl
second_first x (y ∷ rest) = refl

behind_first : (x : ℕ) (rest : List ℕ) (t u : Bool) → t ≡ false → u ≡ true →
    first_or 0 rest ≡ (if t then x else (if u then first_or 0 rest else behind x rest))
behind_first x rest true u off on = absurd cc
behind_first x rest false true off on = refl
behind_first x rest false false off on = absurd cc

same_is : (x : ℕ) → (x == x) ≡ true
same_is x = elim (eqb_tells x x) [ inl k ↦ k.0 | inr k ↦ absurd (k.1 refl) ]

other_is : (x : ℕ) → x ≢ 0 → (x == 0) ≡ false
other_is x ne = elim (eqb_tells x 0) [ inl k ↦ absurd (ne k.1) | inr k ↦ k.0 ]

-- no bucket follows where there is none
pub none_is : (shape : Shape) (p : ℕ) (chain : List ℕ) → Each (IsBucketOf shape p) chain → next_in chain 0 ≡ 0 → second_of chain ≡ 0
none_is shape p [] each e = refl
none_is shape p (x ∷ rest) each e = absurd (bucket_is_some shape p x each.0 e)

-- and else the one behind the first
pub second_is : (chain : List ℕ) (first : ℕ) → first ≡ next_in chain 0 → first ≢ 0 → second_of chain ≡ next_in chain first
second_is [] first e ne = absurd (ne e)
second_is (x ∷ rest) first e ne =
    second_first x rest ∙ behind_first x rest (x == 0) (x == x) (other_is x (subst (λ n. n ≢ 0) e ne)) (same_is x)
    ∙ ap (next_in (x ∷ rest)) (sym e)

pub few_have_none : (chain : List ℕ) → length chain ≤ 1 → second_of chain ≡ 0
few_have_none [] le = refl
few_have_none (x ∷ []) le = refl
few_have_none (x ∷ (y ∷ chain)) le = absurd (omega (arith, le))

none_are_few : (shape : Shape) (p : ℕ) (chain : List ℕ) → Each (IsBucketOf shape p) chain → second_of chain ≡ 0 → length chain ≤ 1
none_are_few shape p [] each e = omega arith
none_are_few shape p (x ∷ []) each e = omega arith
none_are_few shape p (x ∷ (y ∷ chain)) each e = absurd (bucket_is_some shape p y each.1.0 e)

pub buckets_of : (shape : Shape) (w : Words) (p : ℕ) (chain : List ℕ) → HasChain shape w p chain → Each (IsBucketOf shape p) chain
buckets_of shape w p chain h = chain_buckets (IsBucketOf shape p) (view p (log_words shape w)) chain h.rules

-- a partition whose chain has no second bucket has few
pub few_where_none : (shape : Shape) (w : Words) (p : ℕ) → ((chain : List ℕ) → HasChain shape w p chain → second_of chain ≡ 0) → HasFewBuckets shape p w
few_where_none shape w p none = λ chain h. none_are_few shape p chain (buckets_of shape w p chain h) (none chain h)

-- ---- what is read of a partition's view

module _ (layout : Layout) (p : ℕ) (xs row : List ℕ) (lt : p < layout.partitions) (logs : AreLogsOf layout (length xs) (slice_index xs)) (is : row ≡ viewed p xs) where
  pub list_of_row : HasList (length row) (slice_index row)
  list_of_row = (log_of_view layout p xs row lt logs is).has_list

  few : p < 3
  few = few_parts (layout_shape layout) p (allowed_of layout (length xs) (slice_index xs) logs) lt

  rules_read : (chain : List ℕ) → HasChain (layout_shape layout) (slice_index xs) p chain → ListRules (IsBucketOf (layout_shape layout) p) (view p (slice_index xs)) chain
  rules_read chain h = rules_same (IsBucketOf (layout_shape layout) p) (view p (log_words (layout_shape layout) (slice_index xs))) (view p (slice_index xs))
      (λ a low high. view_below (layout_shape layout) p (slice_index xs) a few (omega (arith, high)))
      (λ b m. (let fits = whole_bucket_fits (layout_shape layout) p b lt m in
      (view_below (layout_shape layout) p (slice_index xs) b few (omega (arith, fits)), view_below (layout_shape layout) p (slice_index xs) (b + 1) few (omega (arith, fits)))))
      chain h.rules

  pub chain_read : (chain : List ℕ) → HasChain (layout_shape layout) (slice_index xs) p chain → chain_of (shape_of (slice_index row)) (slice_index row) ≡ chain
  chain_read chain h =
      ap (λ s. chain_of s (slice_index row)) (log_of_view layout p xs row lt logs is).has_layout
      ∙ ap (λ ys. chain_of (layout_shape layout) (slice_index ys)) is
      ∙ ap (chain_of (layout_shape layout)) (viewed-is p xs)
      ∙ (chain_of_list (layout_shape layout) p (view p (slice_index xs)) chain lt
      (list_of_rules (layout_shape layout) p (view p (slice_index xs)) chain (rules_read chain h))).0

-- ---- one partition is the first

pub second_is_one : (shape : Shape) (w : Words) (a b : ℕ) (chains : ℕ → List ℕ) → ((p : ℕ) → p < shape.partitions → HasChain shape w p (chains p)) →
    (h : IsFirstSecond shape w a) (k : IsFirstSecond shape w b) → h.part ≡ k.part → a ≡ b
second_is_one shape w a b chains has h k e =
    sym (h.second (chains h.part) (has h.part h.inside))
    ∙ k.second (chains h.part) (subst (λ p. HasChain shape w p (chains h.part)) e (has h.part h.inside))

pub second_is_not_few : (shape : Shape) (w : Words) (a : ℕ) (chains : ℕ → List ℕ) → ((p : ℕ) → p < shape.partitions → HasChain shape w p (chains p)) →
    (h : IsFirstSecond shape w a) → HasFewBuckets shape h.part w → ⊥
second_is_not_few shape w a chains has h few =
    h.some (sym (h.second (chains h.part) (has h.part h.inside)) ∙ few_have_none (chains h.part) (few (chains h.part) (has h.part h.inside)))
