-- How the next removal is found along the chain.
use Rattle.std.proofs.Common.{◌≡◌, ◌≢◌, inl, inr, ℕ, ◌+◌, ◌<◌, List, [], ◌∷◌, ◌++◌, Option, Some, None, refl, ap, sym, ◌∙◌, arith, subst, append_assoc}
use Rattle.persist_model.specs.Region.{Words}
use Rattle.persist_model.specs.Records.{IsAmong}
use Rattle.persist_model.specs.Shape.{Shape, IsBucketOf}
use Rattle.persist_model.specs.Chain.{last_or}
use Rattle.persist_model.specs.ImageRecords.{cell_address}
use Rattle.persist_model.specs.Sound.{IsClosedBucket}
use Rattle.atomic_list.specs.declared.plans.Remove.{Remove}
use Rattle.atomic_list.specs.Reads.{SameLog, next_in}
use Rattle.atomic_list.specs.Walk.{chain_of}
use Rattle.atomic_list.proofs.Parts.{whole_bucket_fits}
use Rattle.region_layout.specs.declared.layout.Layout.{Layout}
use Rattle.region_layout.specs.Layout.{layout_shape}
use Rattle.bucket_log.specs.Reads.{IsLogOf}
use Rattle.bucket_log.proofs.AppendImages.{Each-among, IsAmong-cases}
use Rattle.bucket_log.proofs.Walking.{IsGoodChain, good_chain, same_chain, same_below, IsWalked, IsAtEnd, walk_goes_to, walk_goes_on, walk_stops}
use Rattle.log_clearing.specs.Dropping.{IsFirstClosed, IsRemovalOf}

-- each of these buckets has an open gate
abbrev pub AreOpen : Shape → Words → List ℕ → Type 0
AreOpen shape w front = (b : ℕ) → IsAmong front b → IsClosedBucket shape w b → ⊥

-- what has been walked ends with node, behind prev, and P holds of what is before
pub record IsStep (P : List ℕ → Type 0) (prev node : ℕ) (walked : List ℕ) : Type 0 where
  pub front : List ℕ
  pub walked_is : walked ≡ front ++ node ∷ []
  pub prev_is : prev ≡ last_or 0 front
  pub before : P front

pub step_on : (shape : Shape) (part : ℕ) (P : List ℕ → Type 0) (chain : List ℕ) (prev count node : ℕ) → IsGoodChain shape part chain → IsWalked P chain prev count →
    node ≡ next_in chain prev → node ≢ 0 → IsWalked (IsStep P prev node) chain node (count + 1)
step_on shape part P chain prev count node good h e ne =
    walk_goes_to shape part P (IsStep P prev node) chain prev count node good h e ne (λ p. record { front = h.front; walked_is = refl; prev_is = h.last_is; before = p })

pub found : (shape : Shape) (part : ℕ) (w : Words) (chain : List ℕ) (prev count node next : ℕ) → IsGoodChain shape part chain → IsWalked (AreOpen shape w) chain prev count →
    node ≡ next_in chain prev → node ≢ 0 → next ≡ next_in chain node → next ≢ 0 → IsClosedBucket shape w node →
    IsFirstClosed shape w chain (record { node = node; prev = prev; next = next })
found shape part w chain prev count node next good h e ne f nonzero shut =
    let k = step_on shape part (AreOpen shape w) chain prev count node good h e ne in
    let m = step_on shape part (IsStep (AreOpen shape w) prev node) chain node (count + 1) next good k f nonzero in
    let both = m.holds.before in
    record {
      front = both.front;
      rest = next ∷ m.back;
      chain_is = m.chain_is ∙ ap (λ xs. xs ++ m.back) (m.holds.walked_is ∙ ap (λ xs. xs ++ next ∷ []) both.walked_is)
          ∙ append_assoc (both.front ++ node ∷ []) (next ∷ []) m.back ∙ append_assoc both.front (node ∷ []) (next ∷ m.back);
      prev = both.prev_is;
      next = refl;
      not_last = nonzero;
      closed = shut;
      first = both.before;
    }

-- the walk has come to the last bucket
pub none_before : (shape : Shape) (part : ℕ) (w : Words) (chain : List ℕ) (prev count node next : ℕ) → IsGoodChain shape part chain → IsWalked (AreOpen shape w) chain prev count →
    node ≡ next_in chain prev → node ≢ 0 → next ≡ next_in chain node → next ≡ 0 → IsRemovalOf shape w chain None
none_before shape part w chain prev count node next good h e ne f zero_next =
    of_end (walk_stops shape part (IsStep (AreOpen shape w) prev node) chain node (count + 1) next good (step_on shape part (AreOpen shape w) chain prev count node good h e ne) f zero_next)
  where
    of_end : IsAtEnd (IsStep (AreOpen shape w) prev node) chain node (count + 1) → IsRemovalOf shape w chain None
    of_end k b m last shut = elim (IsAmong-cases k.holds.front node b (subst (λ xs. IsAmong xs b) k.holds.walked_is m)) [
      | inl j ↦ k.holds.before b j shut
      | inr is ↦ last (is ∙ k.last_is)
    ]

-- the walk is over
pub none_at_all : (shape : Shape) (w : Words) (chain : List ℕ) → AreOpen shape w chain → IsRemovalOf shape w chain None
none_at_all shape w chain h = λ b m last shut. h b m shut

pub walk_on : (shape : Shape) (part : ℕ) (w : Words) (chain : List ℕ) (prev count node : ℕ) → IsGoodChain shape part chain → IsWalked (AreOpen shape w) chain prev count →
    node ≡ next_in chain prev → node ≢ 0 → (IsClosedBucket shape w node → ⊥) → IsWalked (AreOpen shape w) chain node (count + 1)
walk_on shape part w chain prev count node good h e ne is_open =
    walk_goes_on shape part (AreOpen shape w) chain prev count node good h e ne (λ p b m shut. elim (IsAmong-cases h.front node b m) [
      | inl j ↦ p b j shut
      | inr is ↦ is_open (subst (IsClosedBucket shape w) is shut)
    ])

-- ---- words with the same log

pub removal_same : (layout : Layout) (size : ℕ) (w v : Words) (result : Option Remove) → IsLogOf layout size w → SameLog w v →
    IsRemovalOf (layout_shape layout) w (chain_of (layout_shape layout) w) result → IsRemovalOf (layout_shape layout) v (chain_of (layout_shape layout) v) result
removal_same layout size w v result log same h =
    subst (λ xs. IsRemovalOf (layout_shape layout) v xs result) (sym (same_chain layout size w v log same)) (by result h)
  where
    gate : (b c : ℕ) → IsAmong (chain_of (layout_shape layout) w) b → c < layout.cells → v (cell_address b c) ≡ w (cell_address b c)
    gate b c m below =
        let good = good_chain layout size w log in
        let fits = whole_bucket_fits (layout_shape layout) log.has_list.part b good.below
        (Each-among (IsBucketOf (layout_shape layout) log.has_list.part) (chain_of (layout_shape layout) w) b good.buckets m) in
        same_below layout size w v log same (cell_address b c) (omega (arith, fits, below))

    there : (b : ℕ) → IsAmong (chain_of (layout_shape layout) w) b → IsClosedBucket (layout_shape layout) w b → IsClosedBucket (layout_shape layout) v b
    there b m shut c below = gate b c m below ∙ shut c below

    back : (b : ℕ) → IsAmong (chain_of (layout_shape layout) w) b → IsClosedBucket (layout_shape layout) v b → IsClosedBucket (layout_shape layout) w b
    back b m shut c below = sym (gate b c m below) ∙ shut c below

    among_front : (front rest : List ℕ) (b : ℕ) → IsAmong front b → IsAmong (front ++ rest) b
    among_front [] rest b m = elim m [ ]
    among_front (x ∷ front) rest b (inl e) = inl e
    among_front (x ∷ front) rest b (inr m) = inr (among_front front rest b m)

    among_middle : (front : List ℕ) (n : ℕ) (rest : List ℕ) → IsAmong (front ++ n ∷ rest) n
    among_middle [] n rest = inl refl
    among_middle (x ∷ front) n rest = inr (among_middle front n rest)

    by : (result : Option Remove) → IsRemovalOf (layout_shape layout) w (chain_of (layout_shape layout) w) result →
        IsRemovalOf (layout_shape layout) v (chain_of (layout_shape layout) w) result
    by None k = λ b m last shut. k b m last (back b m shut)
    by (Some r) k = record {
      front = k.front;
      rest = k.rest;
      chain_is = k.chain_is;
      prev = k.prev;
      next = k.next;
      not_last = k.not_last;
      closed = there r.node (subst (λ xs. IsAmong xs r.node) (sym k.chain_is) (among_middle k.front r.node k.rest)) k.closed;
      first = λ b m shut. k.first b m (back b (subst (λ xs. IsAmong xs b) (sym k.chain_is) (among_front k.front (r.node ∷ k.rest) b m)) shut);
    }
