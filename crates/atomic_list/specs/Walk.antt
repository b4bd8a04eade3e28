-- The chain as a function of the words, for code to speak of. It agrees with the relation where the list is sound.
use Rattle.std.specs.Prelude.{◌≡◌, ℕ, zero, suc, ◌<◌, ◌≤◌, ◌==◌, if◌then◌else◌, List, [], ◌∷◌, ◌++◌, length}
use Rattle.persist_model.specs.Region.{Words}
use Rattle.persist_model.specs.Shape.{Shape, count_buckets}
use Rattle.persist_model.specs.Chain.{HEAD, TO_APPEND, LAST_TAIL, TO_REMOVE, next_of, without}
use Rattle.atomic_list.specs.Rules.{IsList}

-- at most n buckets along NEXT, from the one that this word names up to 0 or through last
abbrev pub follow : Words → ℕ → ℕ → ℕ → List ℕ
follow w last zero from = []
follow w last (suc n) from =
    if w from == 0 then [] else (if w from == last then w from ∷ [] else w from ∷ follow w last n (next_of (w from)))

unfoldable pub chain_of : Shape → Words → List ℕ
chain_of shape w =
    if w TO_APPEND == 0
    then without (w TO_REMOVE) (follow w 0 (suc shape.buckets) HEAD)
    else (if w LAST_TAIL == 0 then [] else follow w (w LAST_TAIL) (suc shape.buckets) HEAD) ++ w TO_APPEND ∷ []

-- sound list words have this chain, of at most as many buckets as the partition
abbrev pub ChainOfList : Type 0
ChainOfList = (shape : Shape) (p : ℕ) (w : Words) (xs : List ℕ) → p < shape.partitions → IsList shape p w xs →
    (chain_of shape w ≡ xs) × (length xs ≤ count_buckets shape p)
