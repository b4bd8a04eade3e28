-- What is known where the words of a list are read.
use Rattle.std.proofs.Common.{◌≡◌, inl, inr, ℕ, ◌<◌, ◌≤◌, ◌^◌, sym, subst}
use Rattle.std.proofs.lemmas.Bool.Decides.{eqb_tells}
use Rattle.persist_model.specs.Region.{Words}
use Rattle.persist_model.specs.Shape.{shape_of, heap}
use Rattle.atomic_list.specs.Rules.{IsList}
use Rattle.atomic_list.specs.Walk.{chain_of}
use Rattle.atomic_list.specs.Reads.{HasList, IsInChain, next_in}
use Rattle.atomic_list.proofs.Walks.{chain_of_list}
use Rattle.atomic_list.proofs.Parts.{shape_fits}
use Rattle.atomic_list.proofs.Fits.{AskedFit, asked_fit}
use Rattle.atomic_list.proofs.NextBuckets.{next_in-among, FindsNext, finds_next, ReadsFit, reads_fit}
use Rattle.atomic_list.proofs.Agreeing.{list_of}

pub record IsReadable (size limit : ℕ) : Type 0 where
  pub within : limit ≤ size
  pub small : size < 2 ^ 31

pub readable : (size : ℕ) (w : Words) → HasList size w → IsReadable size (heap (shape_of w))
readable size w has = let fits = shape_fits size w has.shape in record { within = fits.0; small = fits.1 }

pub asked : (size : ℕ) (w : Words) → HasList size w → AskedFit (heap (shape_of w)) w
asked size w has = asked_fit (shape_of w) has.part w has.chain has.below (list_of size w has)

own_chain : (size : ℕ) (w : Words) → (has : HasList size w) → IsList (shape_of w) has.part w (chain_of (shape_of w) w)
own_chain size w has =
    let is = list_of size w has in
    subst (IsList (shape_of w) has.part w) (sym (chain_of_list (shape_of w) has.part w has.chain has.below is).0) is

pub finds : (size : ℕ) (w : Words) (b : ℕ) → HasList size w → IsInChain w b → FindsNext w (chain_of (shape_of w) w) b
finds size w b has is_in = finds_next (shape_of w) has.part w (chain_of (shape_of w) w) b (own_chain size w has) is_in

pub reads : (size : ℕ) (w : Words) (b : ℕ) → HasList size w → IsInChain w b → ReadsFit (heap (shape_of w)) w b
reads size w b has is_in = reads_fit (shape_of w) has.part w (chain_of (shape_of w) w) b has.below (own_chain size w has) is_in

-- what is next is in the chain, or 0
pub next_is_in_chain : (w : Words) (b c : ℕ) → c ≡ next_in (chain_of (shape_of w) w) b → IsInChain w c
next_is_in_chain w b c e = subst (IsInChain w) (sym e) (elim (eqb_tells (next_in (chain_of (shape_of w) w) b) 0) [
  | inl none ↦ inl none.1
  | inr some ↦ inr (next_in-among (chain_of (shape_of w) w) b some.1)
])
