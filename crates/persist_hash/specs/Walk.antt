-- The pairs that a walk gives.
use Rattle.std.specs.Prelude.{◌≡◌, ℕ, zero, suc, ◌≤◌, List, [], ◌++◌, length, map}
use Rattle.lane_traits.specs.Device.{MAX_WORDS}
use Rattle.lane_traits.specs.Space.{Space}
use Rattle.lane_traits.specs.declared.words.Pair.{Pair}
use Rattle.region_layout.specs.FiniteMap.{FiniteMap}
use Rattle.region_layout.specs.HashMap.{Node, Chains, IsChain}
use Rattle.persist_hash.specs.Chains.{AreOwnNodes}

abbrev pub entry_of : Pair → ℕ × ℕ
entry_of pair = (pair.key, pair.value)

-- the entries that the pairs are
abbrev pub entries_of : List Pair → FiniteMap
entries_of pairs = map entry_of pairs

abbrev pub node_pair : Node → Pair
node_pair n = record { key = n.key; value = n.value }

abbrev pub node_pairs : List Node → List Pair
node_pairs ns = map node_pair ns

-- the nodes of the first n chains, in order
unfoldable pub nodes_up_to : ℕ → Chains → List Node
nodes_up_to zero chains = []
nodes_up_to (suc n) chains = nodes_up_to n chains ++ chains n

-- A walk along a chain has put the pairs of the nodes in front behind what it had, and is at the link to the others.
pub record IsWalked (s : Space) (first node : ℕ) (before now : List Pair) : Type 0 where
  pub front : List Node
  pub rest : List Node
  pub laid : IsChain s.word first (front ++ rest)
  pub own : AreOwnNodes s.land (front ++ rest)
  pub few : length (front ++ rest) ≤ MAX_WORDS
  pub here : IsChain s.word node rest
  pub items : now ≡ before ++ node_pairs front
