-- What the list words of a sound image are, in three cases: at rest, and where a bucket is being put behind or taken out.
-- w are the words of partition p's view.
use Rattle.std.specs.Prelude.{◌≡◌, ◌⊎◌, ◌↔◌, ℕ, ◌≤◌, List, [], ◌∷◌, ◌++◌}
use Rattle.persist_model.specs.Region.{Words}
use Rattle.persist_model.specs.Shape.{Shape, IsBucketOf}
use Rattle.persist_model.specs.Chain.{HEAD, TAIL, TO_APPEND, LAST_TAIL, TO_REMOVE, next_of, prev_of, IsLink, AreBuckets, IsAbsent, HasNoRepeats, first_or, last_or, Links, LinksBack, Chain, ListRules}

-- no recovery word asks for a repair, and xs is linked both ways
pub record IsAtRest (shape : Shape) (p : ℕ) (w : Words) (xs : List ℕ) : Type 0 where
  pub to_append : w TO_APPEND ≡ 0
  pub to_remove : w TO_REMOVE ≡ 0
  pub last_tail : IsLink (IsBucketOf shape p) (w LAST_TAIL)
  pub buckets : AreBuckets (IsBucketOf shape p) xs
  pub no_repeats : HasNoRepeats xs
  pub links : Links w HEAD xs 0
  pub links_back : LinksBack w 0 xs
  pub tail : w TAIL ≡ last_or 0 xs

-- node is being put behind front: the word that names it, and TAIL, are stored or not
pub record IsAppending (shape : Shape) (p : ℕ) (w : Words) (front : List ℕ) (node : ℕ) : Type 0 where
  pub to_append : w TO_APPEND ≡ node
  pub to_remove : w TO_REMOVE ≡ 0
  pub last_tail : w LAST_TAIL ≡ last_or 0 front
  pub bucket : IsBucketOf shape p node
  pub buckets : AreBuckets (IsBucketOf shape p) front
  pub absent : IsAbsent node front
  pub no_repeats : HasNoRepeats front
  pub links : Links w HEAD front 0 ⊎ Links w HEAD front node
  pub links_back : LinksBack w 0 front
  pub next : w (next_of node) ≡ 0
  pub prev : w (prev_of node) ≡ last_or 0 front
  pub tail : (w TAIL ≡ last_or 0 front) ⊎ (w TAIL ≡ node)

-- node is being taken out between front and rest: the two words that name it are stored or not
pub record IsRemoving (shape : Shape) (p : ℕ) (w : Words) (front : List ℕ) (node : ℕ) (rest : List ℕ) : Type 0 where
  pub to_append : w TO_APPEND ≡ 0
  pub to_remove : w TO_REMOVE ≡ node
  pub last_tail : IsLink (IsBucketOf shape p) (w LAST_TAIL)
  pub bucket : IsBucketOf shape p node
  pub buckets : AreBuckets (IsBucketOf shape p) (front ++ rest)
  pub absent : IsAbsent node (front ++ rest)
  pub no_repeats : HasNoRepeats (front ++ rest)
  pub links : Links w HEAD front node ⊎ Links w HEAD front (first_or 0 rest)
  pub next : Links w (next_of node) rest 0
  pub prev : w (prev_of node) ≡ last_or 0 front
  pub links_back : LinksBack w 0 front
  pub rest_links_back : LinksBack w node rest ⊎ LinksBack w (last_or 0 front) rest
  pub tail : (w TAIL ≡ last_or node rest) ⊎ (w TAIL ≡ last_or (last_or 0 front) rest)

-- w's list words are sound, and xs is its chain
pub data IsList (shape : Shape) (p : ℕ) (w : Words) (xs : List ℕ) : Type 0 where
  at_rest : IsAtRest shape p w xs → IsList shape p w xs
  appending : (front : List ℕ) (node : ℕ) → IsAppending shape p w front node → xs ≡ front ++ node ∷ [] → IsList shape p w xs
  removing : (front : List ℕ) (node : ℕ) (rest : List ℕ) → IsRemoving shape p w front node rest → xs ≡ front ++ rest → IsList shape p w xs

-- a is one of the words of the list: the five that name buckets, or the NEXT or PREV of a bucket of the partition
abbrev pub IsListWord : Shape → ℕ → ℕ → Type 0
IsListWord shape p a = ((HEAD ≤ a) × (a ≤ TO_REMOVE)) ⊎ (b : ℕ) × IsBucketOf shape p b × ((a ≡ next_of b) ⊎ (a ≡ prev_of b))

-- ---- the laws

-- the rules hold exactly in the three cases
abbrev pub RulesAreCases : Type 0
RulesAreCases = (shape : Shape) (p : ℕ) (w : Words) (chain : List ℕ) → ListRules (IsBucketOf shape p) w chain ↔ IsList shape p w chain

-- words that agree on the list words have the same list
abbrev pub ListsAgree : Type 0
ListsAgree = (shape : Shape) (p : ℕ) (w v : Words) (xs : List ℕ) → ((a : ℕ) → IsListWord shape p a → v a ≡ w a) → IsList shape p w xs → IsList shape p v xs

-- sound list words have the chain
abbrev pub ListHasChain : Type 0
ListHasChain = (shape : Shape) (p : ℕ) (w : Words) (xs : List ℕ) → IsList shape p w xs → Chain w xs

-- words have at most one chain
abbrev pub ChainIsOne : Type 0
ChainIsOne = (w : Words) (xs ys : List ℕ) → Chain w xs → Chain w ys → xs ≡ ys
