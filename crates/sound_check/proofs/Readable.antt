-- What may be read of a partition's view whose address rule holds.
use Rattle.std.proofs.Common.{◌≡◌, ◌≢◌, inl, inr, ℕ, ◌+◌, ◌*◌, ◌<◌, ◌≤◌, List, [], ◌∷◌, ◌++◌, sym, subst, arith}
use Rattle.std.proofs.lemmas.Bool.Decides.{eqb_tells}
use Rattle.persist_model.specs.Region.{Words}
use Rattle.persist_model.specs.Shape.{IsBucketOf}
use Rattle.persist_model.specs.Chain.{TO_APPEND, LAST_TAIL, TO_REMOVE, next_of, prev_of, Each, AreBuckets, IsLink, last_or, without}
use Rattle.persist_model.specs.Visit.{walk_from, chain_from, links_of, links_at}
use Rattle.log_laws.proofs.AddressLists.{each_right, each_join}
use Rattle.log_laws.proofs.Deciding.{decide_equal}
use Rattle.log_laws.proofs.ListFaults.{walk_none, walk_some, links_at_some}
use Rattle.atomic_list.proofs.Parts.{whole_bucket_fits}
use Rattle.region_layout.specs.declared.layout.Layout.{Layout}
use Rattle.region_layout.specs.Layout.{layout_shape}
use Rattle.sound_check.specs.Rules.{AreLinks, IsReadable, MayBeTried}
use Rattle.sound_check.proofs.Buckets.{heap_small, link_readable, buckets_readable, last_inside}

pub record CanRead (cells size : ℕ) (w : Words) (visited chain : List ℕ) : Type 0 where
  pub long : 32 ≤ size
  pub last : last_or 8 visited < size
  pub appended : IsReadable size (w TO_APPEND)
  pub last_tail : IsReadable size (w LAST_TAIL)
  pub removed : IsReadable size (w TO_REMOVE)
  pub next : w TO_REMOVE ≢ 0 → IsReadable size (w (next_of (w TO_REMOVE)))
  pub prev : w TO_REMOVE ≢ 0 → IsReadable size (w (prev_of (w TO_REMOVE)))
  pub whole : w TO_REMOVE ≢ 0 → w TO_REMOVE + (8 + 8 * cells) ≤ size
  pub members : Each (IsReadable size) chain

each_without : (P : ℕ → Type 0) (b : ℕ) (xs : List ℕ) → Each P xs → Each P (without b xs)
each_without P b [] h = tt
each_without P b (x ∷ xs) h = elim (eqb_tells x b) [ inl e ↦ rw e.0 (each_without P b xs h.1) | inr e ↦ rw e.0 (h.0, each_without P b xs h.1) ]

a_bucket : (B : ℕ → Type 0) (b : ℕ) → IsLink B b → b ≢ 0 → B b
a_bucket B b (inl e) ne = absurd (ne e)
a_bucket B b (inr h) ne = h

pub can_read : (layout : Layout) (p size : ℕ) (w : Words) (visited chain : List ℕ) → MayBeTried (layout_shape layout) p size w visited chain → CanRead layout.cells size w visited chain
can_read layout p size w visited chain h = record {
  long = (let small = heap_small layout in let long = h.long in omega (arith, small, long));
  last = last_inside layout p size visited h.part h.long h.buckets;
  appended = readable (w TO_APPEND) h.links.1.1.0;
  last_tail = readable (w LAST_TAIL) h.links.1.1.1.0;
  removed = readable (w TO_REMOVE) h.links.1.1.1.1.0;
  next = λ ne. readable _ (named ne).0;
  prev = λ ne. readable _ (named ne).1.0;
  whole = λ ne. (let fits = whole_bucket_fits (layout_shape layout) p (w TO_REMOVE) h.part (a_bucket B (w TO_REMOVE) h.links.1.1.1.1.0 ne) in let long = h.long in omega (arith, fits, long));
  members = subst (Each (IsReadable size)) (sym h.chain_is) (buckets_readable layout p size (chain_from w visited) h.part h.long (each_without B (w TO_REMOVE) (walk_from w visited) walked));
}
  where
    B : ℕ → Type 0
    B = IsBucketOf (layout_shape layout) p

    readable : (b : ℕ) → IsLink B b → IsReadable size b
    readable b is = link_readable layout p size b h.part h.long is

    named : w TO_REMOVE ≢ 0 → AreLinks (layout_shape layout) p w (next_of (w TO_REMOVE) ∷ prev_of (w TO_REMOVE) ∷ [])
    named ne = subst (AreLinks (layout_shape layout) p w) (links_at_some w TO_REMOVE ne)
        (each_right (λ a. IsLink B (w a)) (links_at w TO_APPEND) (links_at w TO_REMOVE) (each_right (λ a. IsLink B (w a)) (links_of visited) (links_at w TO_APPEND ++ links_at w TO_REMOVE) h.links.1.1.1.1.1))

    walked : AreBuckets B (walk_from w visited)
    walked = elim (decide_equal (w TO_APPEND) 0) [
      | inl e ↦ subst (AreBuckets B) (sym (walk_none w visited e)) h.buckets
      | inr ne ↦ subst (AreBuckets B) (sym (walk_some w visited ne)) (each_join B visited (w TO_APPEND ∷ []) h.buckets (a_bucket B (w TO_APPEND) h.links.1.1.0 ne, tt))
    ]

-- ---- the words that name

-- a number that is the one at 12
pub at_removed : (cells size : ℕ) (w : Words) (visited chain : List ℕ) (n : ℕ) → CanRead cells size w visited chain → n ≡ w TO_REMOVE → n ≢ 0 →
    IsReadable size n × IsReadable size (w (next_of n)) × IsReadable size (w (prev_of n)) × (n + (8 + 8 * cells) ≤ size)
at_removed cells size w visited chain n h e ne =
    subst (λ x. IsReadable size x × IsReadable size (w (next_of x)) × IsReadable size (w (prev_of x)) × (x + (8 + 8 * cells) ≤ size)) (sym e)
    (h.removed, h.next (subst (λ x. x ≢ 0) e ne), h.prev (subst (λ x. x ≢ 0) e ne), h.whole (subst (λ x. x ≢ 0) e ne))
