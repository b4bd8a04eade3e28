-- From what the checks find to the three cases of a list.
use Rattle.std.proofs.Common.{◌≡◌, ◌≢◌, ◌⊎◌, inl, inr, ℕ, ◌+◌, ◌<◌, ◌≤◌, Bool, true, false, not, ◌==◌, if◌then◌else◌, List, [], ◌∷◌, ◌++◌, refl, ap, sym, ◌∙◌, arith, subst}
use Rattle.std.specs.Prelude.{IsTrue}
use Rattle.persist_model.specs.Region.{Words}
use Rattle.persist_model.specs.Shape.{Shape, shape_of, words_of_shape, SECOND_MAGIC, IsBucketOf, IsShape}
use Rattle.persist_model.specs.Chain.{Each, IsLink, IsAbsent, HasNoRepeats, last_or, Links, LinksBack, ListRules}
use Rattle.atomic_list.specs.Rules.{IsAtRest, IsAppending, IsRemoving, IsList, RulesAreCases}
use Rattle.atomic_list.specs.Reads.{HasList}
use Rattle.atomic_list.proofs.Chains.{Each-weaker, Each-push, Each-append, HasNoRepeats-push, Links-push, LinksBack-push, last-push}
use Rattle.atomic_list.proofs.Removing.{first_of_links}
use Rattle.log_tests.specs.Walked.{small, IsSmall, Follows, Walked}

pub is_true : (b : Bool) → not b ≡ false → IsTrue b
is_true true e = refl
is_true false e = cc

pub Walked-start : (w : Words) (from before : ℕ) → from < 96 → Walked w from before [] from before
Walked-start w from before within = record {
  links = refl;
  link_is = refl;
  links_back = tt;
  last_is = refl;
  buckets = tt;
  no_repeats = tt;
  above = tt;
  below = tt;
  ascends = omega arith;
  within = within;
}

pub Walked-push : (w : Words) (from before : ℕ) (xs : List ℕ) (link last x : ℕ) → Walked w from before xs link last → Follows w link last x → x < 96 →
    Walked w from before (xs ++ x ∷ []) x x
Walked-push w from before xs link last x h f within = record {
  links = Links-push w from xs x (w x) (subst (Links w from xs) f.named h.links) (let later = f.later in omega arith) refl;
  link_is = sym (last-push from xs x);
  links_back = LinksBack-push w before xs x h.links_back (f.back ∙ h.last_is);
  last_is = sym (last-push before xs x);
  buckets = Each-push (IsBucketOf small 0) xs x h.buckets f.bucket;
  no_repeats = HasNoRepeats-push xs x h.no_repeats (Each-weaker (λ y. y ≤ link) (λ y. x ≢ y) (λ y le. let later = f.later in omega arith) xs h.below);
  above = Each-push (λ y. from < y) xs x h.above (let later = f.later in let up = h.ascends in omega arith);
  below = Each-push (λ y. y ≤ x) xs x (Each-weaker (λ y. y ≤ link) (λ y. y ≤ x) (λ y le. let later = f.later in omega arith) xs h.below) (omega arith);
  ascends = (let later = f.later in let up = h.ascends in omega arith);
  within = within;
}

pub rest_of : (w : Words) (chain : List ℕ) (link last : ℕ) → Walked w 8 0 chain link last → w link ≡ 0 → w 9 ≡ last → w 10 ≡ 0 → w 12 ≡ 0 →
    IsLink (IsBucketOf small 0) (w 11) → IsAtRest small 0 w chain
rest_of w chain link last h end tail to_append to_remove last_tail = record {
  to_append = to_append;
  to_remove = to_remove;
  last_tail = last_tail;
  buckets = h.buckets;
  no_repeats = h.no_repeats;
  links = subst (Links w 8 chain) end h.links;
  links_back = h.links_back;
  tail = tail ∙ h.last_is;
}

pub appending_of : (w : Words) (front : List ℕ) (node link last : ℕ) → Walked w 8 0 front link last → IsBucketOf small 0 node → link < node →
    (w link ≡ 0) ⊎ (w link ≡ node) → (w 9 ≡ last) ⊎ (w 9 ≡ node) → w 10 ≡ node → w 12 ≡ 0 → w 11 ≡ last → w node ≡ 0 → w (node + 1) ≡ last →
    IsAppending small 0 w front node
appending_of w front node link last h bucket later end tail to_append to_remove last_tail next prev = record {
  to_append = to_append;
  to_remove = to_remove;
  last_tail = last_tail ∙ h.last_is;
  bucket = bucket;
  buckets = h.buckets;
  absent = Each-weaker (λ y. y ≤ link) (λ y. node ≢ y) (λ y le. omega arith) front h.below;
  no_repeats = h.no_repeats;
  links = elim end [ inl e ↦ inl (subst (Links w 8 front) e h.links) | inr e ↦ inr (subst (Links w 8 front) e h.links) ];
  links_back = h.links_back;
  next = next;
  prev = prev ∙ h.last_is;
  tail = elim tail [ inl e ↦ inl (e ∙ h.last_is) | inr e ↦ inr e ];
}

joined : (xs ys : List ℕ) → HasNoRepeats xs → HasNoRepeats ys → Each (λ x. IsAbsent x ys) xs → HasNoRepeats (xs ++ ys)
joined [] ys h k apart = k
joined (x ∷ xs) ys h k apart = (Each-append (λ z. x ≢ z) xs ys h.0 apart.0, joined xs ys h.1 k apart.1)

pub removing_of : (w : Words) (front rest : List ℕ) (node before link last behind end : ℕ) → Walked w 8 0 front link last → Walked w node before rest behind end →
    IsBucketOf small 0 node → link < node → (before ≡ node) ⊎ (before ≡ last) → w behind ≡ 0 → w 9 ≡ end → (w link ≡ node) ⊎ (w link ≡ w node) →
    w 10 ≡ 0 → w 12 ≡ node → w (node + 1) ≡ last → IsLink (IsBucketOf small 0) (w 11) → IsRemoving small 0 w front node rest
removing_of w front rest node before link last behind end h k bucket later named stops tail links to_append to_remove prev last_tail = record {
  to_append = to_append;
  to_remove = to_remove;
  last_tail = last_tail;
  bucket = bucket;
  buckets = Each-append (IsBucketOf small 0) front rest h.buckets k.buckets;
  absent = Each-append (λ y. node ≢ y) front rest (Each-weaker (λ y. y ≤ link) (λ y. node ≢ y) (λ y le. omega arith) front h.below)
      (Each-weaker (λ y. node < y) (λ y. node ≢ y) (λ y lt. omega arith) rest k.above);
  no_repeats = joined front rest h.no_repeats k.no_repeats (Each-weaker (λ y. y ≤ link) (λ y. IsAbsent y rest)
      (λ y le. Each-weaker (λ z. node < z) (λ z. y ≢ z) (λ z lt. omega arith) rest k.above) front h.below);
  links = elim links [
    | inl e ↦ inl (subst (Links w 8 front) e h.links)
    | inr e ↦ inr (subst (Links w 8 front) (e ∙ first_of_links w node rest 0 next) h.links)
  ];
  next = next;
  prev = prev ∙ h.last_is;
  links_back = h.links_back;
  rest_links_back = elim named [
    | inl e ↦ inl (subst (λ b. LinksBack w b rest) e k.links_back)
    | inr e ↦ inr (subst (λ b. LinksBack w b rest) (e ∙ h.last_is) k.links_back)
  ];
  tail = elim named [
    | inl e ↦ inl (tail ∙ k.last_is ∙ ap (λ b. last_or b rest) e)
    | inr e ↦ inr (tail ∙ k.last_is ∙ ap (λ b. last_or b rest) (e ∙ h.last_is))
  ];
}
  where
    next : Links w node rest 0
    next = subst (Links w node rest) stops k.links

-- ---- the region

abbrev shape_by : ℕ → ℕ → ℕ → ℕ → ℕ → ℕ → ℕ → Shape
shape_by a b c d e f g = record {
  policy = b;
  cells = c;
  buckets = d;
  blocks = e;
  structures = f;
  format = if a == SECOND_MAGIC then 2 else 1;
  partitions = if a == SECOND_MAGIC then g else 1;
}

small_is : (size : ℕ) (w : Words) → IsSmall size w → shape_of w ≡ small
small_is size w h = λ i. shape_by (h.magic i) (h.policy i) (h.cells i) (h.buckets i) (h.blocks i) (h.structures i) (h.partitions i)

shape_is : (size : ℕ) (w : Words) → IsSmall size w → IsShape size w
shape_is size w h = record {
  enough = (let s = h.long in omega arith);
  magic = inr h.magic;
  policy = inl h.policy;
  cells = inl h.cells;
  buckets = (let e = h.buckets in (omega arith, omega arith));
  blocks = (let e = h.blocks in (omega arith, omega arith));
  structures = (let e = h.structures in (omega arith, omega arith));
  partitions = λ _. let e = h.partitions in let f = h.buckets in (omega arith, omega arith, omega arith);
  kinds = λ _ s lt. let e = h.structures in let k = h.kind in let first : s ≡ 0 = omega arith in
      subst (λ n. (1 ≤ w (13 + n)) × (w (13 + n) ≤ 3)) (sym first) (omega arith, omega arith);
  long = h.long ∙ ap words_of_shape (sym (small_is size w h));
}

pub list_is : (size : ℕ) (w : Words) (chain : List ℕ) → RulesAreCases → IsSmall size w → IsList small 0 w chain → HasList size w
list_is size w chain cases h is =
    let e = small_is size w h in record {
      shape = shape_is size w h;
      part = 0;
      below = subst (λ s. 0 < s.partitions) (sym e) (omega arith);
      chain = chain;
      rules = subst (λ s. ListRules (IsBucketOf s 0) w chain) (sym e) ((cases small 0 w chain).1 is);
    }
