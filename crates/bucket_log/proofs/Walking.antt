-- How far a loop has walked along a chain.
use Rattle.std.proofs.Common.{◌≡◌, ◌≢◌, ◌⊎◌, inl, inr, ℕ, ◌+◌, ◌*◌, ◌<◌, ◌≤◌, ◌^◌, List, [], ◌∷◌, ◌++◌, length, refl, ap, sym, ◌∙◌, arith, subst, append-nil, append_assoc, length-append}
use Rattle.std.proofs.lemmas.Bool.Decides.{eqb_tells}
use Rattle.persist_model.specs.Region.{Words}
use Rattle.persist_model.specs.Records.{IsAmong}
use Rattle.persist_model.specs.Shape.{Shape, shape_of, heap, IsBucketOf, count_buckets}
use Rattle.persist_model.specs.Chain.{TAIL, TO_APPEND, TO_REMOVE, AreBuckets, HasNoRepeats, first_or, last_or}
use Rattle.persist_model.proofs.Among.{among_left}
use Rattle.atomic_list.specs.Rules.{IsList, at_rest, appending, removing}
use Rattle.atomic_list.specs.Reads.{SameLog, IsInChain, next_in}
use Rattle.atomic_list.specs.Walk.{chain_of}
use Rattle.atomic_list.proofs.Agreeing.{list_of, shape_same, chain_same}
use Rattle.atomic_list.proofs.Cases.{chain_is_buckets, chain_has_no_repeats}
use Rattle.atomic_list.proofs.Chains.{bucket_above, last-push}
use Rattle.atomic_list.proofs.NextBuckets.{among_not_0, next_in-bucket, behind-front}
use Rattle.atomic_list.proofs.Parts.{parts_fit, whole_bucket_fits, shape_fits}
use Rattle.atomic_list.proofs.Splits.{HasNoRepeats-left, Each-right}
use Rattle.atomic_list.proofs.Walks.{chain_of_list}
use Rattle.region_layout.specs.declared.layout.Layout.{Layout}
use Rattle.region_layout.specs.declared.layout.Buckets.{Buckets}
use Rattle.region_layout.specs.Layout.{layout_shape}
use Rattle.bucket_log.specs.Reads.{IsLogOf, IsLogOfPart}
use Rattle.bucket_log.proofs.AppendImages.{Each-among, among_last}

-- ---- the chain of sound words

pub record IsGoodChain (shape : Shape) (part : ℕ) (chain : List ℕ) : Type 0 where
  pub below : part < shape.partitions
  pub buckets : AreBuckets (IsBucketOf shape part) chain
  pub once : HasNoRepeats chain
  pub few : length chain ≤ count_buckets shape part
  pub inside : length chain ≤ shape.buckets

good_of : (shape : Shape) (part : ℕ) (w : Words) (chain : List ℕ) → part < shape.partitions → IsList shape part w chain → IsGoodChain shape part (chain_of shape w)
good_of shape part w chain below list =
    let found = chain_of_list shape part w chain below list in
    subst (IsGoodChain shape part) (sym found.0) (record {
      below = below;
      buckets = chain_is_buckets shape part w chain list;
      once = chain_has_no_repeats shape part w chain list;
      few = found.1;
      inside = (let fit = parts_fit shape part below in let few = found.1 in omega (arith, fit, few));
    })

pub good_chain : (layout : Layout) (size : ℕ) (w : Words) → (log : IsLogOf layout size w) → IsGoodChain (layout_shape layout) log.has_list.part (chain_of (layout_shape layout) w)
good_chain layout size w log = subst (λ s. IsGoodChain s log.has_list.part (chain_of s w)) log.has_layout
    (good_of (shape_of w) log.has_list.part w log.has_list.chain log.has_list.below (list_of size w log.has_list))

-- the words end behind the heap's first word, and are few
pub record IsRoomy (layout : Layout) (size : ℕ) : Type 0 where
  pub within : heap (layout_shape layout) ≤ size
  pub small : size < 2 ^ 31

pub roomy : (layout : Layout) (size : ℕ) (w : Words) → IsLogOf layout size w → IsRoomy layout size
roomy layout size w log =
    let fits = shape_fits size w log.has_list.shape in
    record { within = subst (λ s. heap s ≤ size) log.has_layout fits.0; small = fits.1 }

-- a bucket of the chain is inside
pub bucket_inside : (layout : Layout) (size : ℕ) (w : Words) (b : ℕ) → IsLogOf layout size w → IsAmong (chain_of (layout_shape layout) w) b → b + (8 + 8 * layout.cells) ≤ size
bucket_inside layout size w b log m =
    let good = good_chain layout size w log in
    let fits = whole_bucket_fits (layout_shape layout) log.has_list.part b good.below (Each-among (IsBucketOf (layout_shape layout) log.has_list.part) (chain_of (layout_shape layout) w) b good.buckets m) in
    let within = (roomy layout size w log).within in
    omega (arith, fits, within)

pub last_inside : (layout : Layout) (size : ℕ) (w : Words) → IsLogOf layout size w → last_or 0 (chain_of (layout_shape layout) w) ≢ 0 →
    last_or 0 (chain_of (layout_shape layout) w) + (8 + 8 * layout.cells) ≤ size
last_inside layout size w log ne = bucket_inside layout size w (last_or 0 (chain_of (layout_shape layout) w)) log (among_last (chain_of (layout_shape layout) w) ne)

-- where no bucket is being put behind or taken out TAIL names the last one
tail_of : (shape : Shape) (part : ℕ) (w : Words) (xs : List ℕ) → IsList shape part w xs → w TO_APPEND ≡ 0 → w TO_REMOVE ≡ 0 → w TAIL ≡ last_or 0 xs
tail_of shape part w xs (at_rest h) none still = h.tail
tail_of shape part w xs (appending front node h e) none still =
    let above = bucket_above shape part node h.bucket in let is = h.to_append in absurd (omega (arith, above, is, none))
tail_of shape part w xs (removing front node rest h e) none still =
    let above = bucket_above shape part node h.bucket in let is = h.to_remove in absurd (omega (arith, above, is, still))

pub tail_is : (layout : Layout) (size : ℕ) (w : Words) → IsLogOf layout size w → w TO_APPEND ≡ 0 → w TO_REMOVE ≡ 0 → w TAIL ≡ last_or 0 (chain_of (layout_shape layout) w)
tail_is layout size w log none still =
    let list = list_of size w log.has_list in
    let found = chain_of_list (shape_of w) log.has_list.part w log.has_list.chain log.has_list.below list in
    tail_of (shape_of w) log.has_list.part w log.has_list.chain list none still
    ∙ ap (last_or 0) (sym found.0) ∙ ap (λ s. last_or 0 (chain_of s w)) log.has_layout

pub last_small : (layout : Layout) (size : ℕ) (w : Words) → IsLogOf layout size w → last_or 0 (chain_of (layout_shape layout) w) < 2 ^ 31
last_small layout size w log = elim (eqb_tells (last_or 0 (chain_of (layout_shape layout) w)) 0) [
  | inl e ↦ (let z = e.1 in omega (arith, z))
  | inr e ↦ (let inside = last_inside layout size w log e.1 in let small = (roomy layout size w log).small in omega (arith, inside, small))
]

-- the part's buckets are among all
pub part_inside : (layout : Layout) (part : Buckets) (size : ℕ) (w : Words) → IsLogOfPart layout part size w → part.first + part.count ≤ layout.buckets
part_inside layout part size w log =
    let fit = parts_fit (layout_shape layout) log.log.has_list.part (good_chain layout size w log.log).below in
    let first = log.is_part.0 in
    let count = log.is_part.1 in
    omega (arith, fit, first, count)

-- a bucket or none in the layout's terms
pub in_chain : (layout : Layout) (size : ℕ) (w : Words) (b : ℕ) → IsLogOf layout size w → (b ≡ 0) ⊎ IsAmong (chain_of (layout_shape layout) w) b → IsInChain w b
in_chain layout size w b log h = subst (λ s. (b ≡ 0) ⊎ IsAmong (chain_of s w) b) (sym log.has_layout) h

-- what comes next, read from these words
pub next_is : (layout : Layout) (size : ℕ) (w : Words) (node next : ℕ) → IsLogOf layout size w → ((v : Words) → SameLog w v → next ≡ next_in (chain_of (shape_of v) v) node) →
    next ≡ next_in (chain_of (layout_shape layout) w) node
next_is layout size w node next log h = subst (λ s. next ≡ next_in (chain_of s w) node) log.has_layout (h w (λ a lt. refl))

-- what comes next and isn't 0 is in the chain
pub next_among : (layout : Layout) (size : ℕ) (w : Words) (next : ℕ) → IsLogOf layout size w → IsInChain w next → next ≢ 0 → IsAmong (chain_of (layout_shape layout) w) next
next_among layout size w next log h ne = elim (subst (λ s. (next ≡ 0) ⊎ IsAmong (chain_of s w) next) log.has_layout h) [ inl e ↦ absurd (ne e) | inr m ↦ m ]

-- words with the same log have the same chain
pub same_chain : (layout : Layout) (size : ℕ) (w v : Words) → IsLogOf layout size w → SameLog w v → chain_of (layout_shape layout) v ≡ chain_of (layout_shape layout) w
same_chain layout size w v log same =
    let e : shape_of v ≡ layout_shape layout = shape_same w v same ∙ log.has_layout in
    sym (ap (λ s. chain_of s v) e) ∙ chain_same size w v log.has_list same ∙ ap (λ s. chain_of s w) log.has_layout

pub same_below : (layout : Layout) (size : ℕ) (w v : Words) → IsLogOf layout size w → SameLog w v → (a : ℕ) → a < heap (layout_shape layout) → v a ≡ w a
same_below layout size w v log same a lt = same a (subst (λ s. a < heap s) (sym log.has_layout) lt)

-- ---- a walk. P holds of what has been walked.

pub record IsWalked (P : List ℕ → Type 0) (chain : List ℕ) (last count : ℕ) : Type 0 where
  pub front : List ℕ
  pub back : List ℕ
  pub chain_is : chain ≡ front ++ back
  pub last_is : last ≡ last_or 0 front
  pub count_is : count ≡ length front
  pub holds : P front

pub walk_begins : (P : List ℕ → Type 0) (chain : List ℕ) → P [] → IsWalked P chain 0 0
walk_begins P chain h = record { front = []; back = chain; chain_is = refl; last_is = refl; count_is = refl; holds = h }

last_among : (x : ℕ) (xs : List ℕ) → IsAmong (x ∷ xs) (last_or x xs)
last_among x [] = inl refl
last_among x (y ∷ ys) = inr (last_among y ys)

front_node : (front back : List ℕ) → (last_or 0 front ≡ 0) ⊎ IsAmong (front ++ back) (last_or 0 front)
front_node [] back = inl refl
front_node (x ∷ xs) back = inr (among_left (x ∷ xs) back (last_or x xs) (last_among x xs))

pub walk_node : (P : List ℕ → Type 0) (chain : List ℕ) (last count : ℕ) → IsWalked P chain last count → (last ≡ 0) ⊎ IsAmong chain last
walk_node P chain last count h = subst (λ n. (n ≡ 0) ⊎ IsAmong chain n) (sym h.last_is)
    (subst (λ ys. (last_or 0 h.front ≡ 0) ⊎ IsAmong ys (last_or 0 h.front)) (sym h.chain_is) (front_node h.front h.back))

next_of_front : (shape : Shape) (part : ℕ) (front back : List ℕ) → AreBuckets (IsBucketOf shape part) (front ++ back) → HasNoRepeats (front ++ back) →
    next_in (front ++ back) (last_or 0 front) ≡ first_or 0 back
next_of_front shape part [] back b once = refl
next_of_front shape part (x ∷ xs) back b once =
    next_in-bucket ((x ∷ xs) ++ back) (last_or x xs) (among_not_0 shape part ((x ∷ xs) ++ back) (last_or x xs) b (among_left (x ∷ xs) back (last_or x xs) (last_among x xs)))
    ∙ behind-front x xs back (HasNoRepeats-left (x ∷ xs) back once)

walk_next : (shape : Shape) (part : ℕ) (P : List ℕ → Type 0) (chain : List ℕ) (last count : ℕ) → IsGoodChain shape part chain → (h : IsWalked P chain last count) → next_in chain last ≡ first_or 0 h.back
walk_next shape part P chain last count good h =
    subst (λ n. next_in chain n ≡ first_or 0 h.back) (sym h.last_is)
    (subst (λ ys. next_in ys (last_or 0 h.front) ≡ first_or 0 h.back) (sym h.chain_is)
    (next_of_front shape part h.front h.back (subst (AreBuckets (IsBucketOf shape part)) h.chain_is good.buckets) (subst HasNoRepeats h.chain_is good.once)))

-- one bucket further, where Q holds then
pub walk_goes_to : (shape : Shape) (part : ℕ) (P Q : List ℕ → Type 0) (chain : List ℕ) (last count next : ℕ) → IsGoodChain shape part chain → (h : IsWalked P chain last count) →
    next ≡ next_in chain last → next ≢ 0 → (P h.front → Q (h.front ++ next ∷ [])) → IsWalked Q chain next (count + 1)
walk_goes_to shape part P Q chain last count next good h e ne grows = go h.front h.back h.chain_is h.count_is (e ∙ walk_next shape part P chain last count good h) (grows h.holds)
  where
    go : (front back : List ℕ) → chain ≡ front ++ back → count ≡ length front → next ≡ first_or 0 back → Q (front ++ next ∷ []) → IsWalked Q chain next (count + 1)
    go front [] is len q more = absurd (ne q)
    go front (y ∷ ys) is len q more = record {
      front = front ++ y ∷ [];
      back = ys;
      chain_is = is ∙ sym (append_assoc front (y ∷ []) ys);
      last_is = q ∙ sym (last-push 0 front y);
      count_is = (let l = length-append front (y ∷ []) in omega (arith, l, len));
      holds = subst (λ n. Q (front ++ n ∷ [])) q more;
    }

pub walk_goes_on : (shape : Shape) (part : ℕ) (P : List ℕ → Type 0) (chain : List ℕ) (last count next : ℕ) → IsGoodChain shape part chain → (h : IsWalked P chain last count) →
    next ≡ next_in chain last → next ≢ 0 → (P h.front → P (h.front ++ next ∷ [])) → IsWalked P chain next (count + 1)
walk_goes_on shape part P chain last count next good h e ne grows = walk_goes_to shape part P P chain last count next good h e ne grows

-- the whole chain has been walked
pub record IsAtEnd (P : List ℕ → Type 0) (chain : List ℕ) (last count : ℕ) : Type 0 where
  pub last_is : last ≡ last_or 0 chain
  pub count_is : count ≡ length chain
  pub holds : P chain

at_end : (P : List ℕ → Type 0) (chain : List ℕ) (last count : ℕ) → (h : IsWalked P chain last count) → h.back ≡ [] → IsAtEnd P chain last count
at_end P chain last count h e =
    let is : chain ≡ h.front = h.chain_is ∙ ap (λ ys. h.front ++ ys) e ∙ append-nil h.front in
    record { last_is = h.last_is ∙ ap (last_or 0) (sym is); count_is = h.count_is ∙ ap length (sym is); holds = subst P (sym is) h.holds }

pub walk_stops : (shape : Shape) (part : ℕ) (P : List ℕ → Type 0) (chain : List ℕ) (last count next : ℕ) → IsGoodChain shape part chain → IsWalked P chain last count →
    next ≡ next_in chain last → next ≡ 0 → IsAtEnd P chain last count
walk_stops shape part P chain last count next good h e z =
    at_end P chain last count h (nil h.back (Each-right (IsBucketOf shape part) h.front h.back (subst (AreBuckets (IsBucketOf shape part)) h.chain_is good.buckets))
    (sym (walk_next shape part P chain last count good h) ∙ sym e ∙ z))
  where
    nil : (back : List ℕ) → AreBuckets (IsBucketOf shape part) back → first_or 0 back ≡ 0 → back ≡ []
    nil [] b e = refl
    nil (y ∷ ys) b e = absurd (among_not_0 shape part (y ∷ ys) y b (inl refl) e)

pub walk_is_over : (P : List ℕ → Type 0) (chain : List ℕ) (last count : ℕ) → IsWalked P chain last count → length chain ≤ count → IsAtEnd P chain last count
walk_is_over P chain last count h le = at_end P chain last count h (nil h.front h.back h.chain_is h.count_is)
  where
    nil : (front back : List ℕ) → chain ≡ front ++ back → count ≡ length front → back ≡ []
    nil front [] is len = refl
    nil front (y ∷ ys) is len = let l = length-append front (y ∷ ys) in let m = ap length is in absurd (omega (arith, l, m, len, le))
