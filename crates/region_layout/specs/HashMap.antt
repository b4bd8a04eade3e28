-- The map in a structure of kind hash: 64 chains of nodes, found by eight directory blocks that the root block names.
use Rattle.std.specs.Prelude.{◌≡◌, ℕ, zero, suc, ◌+◌, ◌*◌, ◌/◌, ◌%◌, ◌^◌, ◌<◌, ◌≤◌, List, [], ◌∷◌, ◌++◌, map, if◌then◌else◌, ◌==◌, ◌-◌, refl}
use Rattle.persist_model.specs.Region.{Words}
use Rattle.persist_model.specs.Records.{IsAmong}
use Rattle.persist_model.specs.Chain.{HasNoRepeats}
use Rattle.lane_traits.specs.Space.{Land, IsOwn}
use Rattle.region_layout.specs.FiniteMap.{FiniteMap, HasAscendingKeys, lookup}

abbrev pub CHAINS : ℕ
CHAINS = 64

-- the chain of a key: the upper 6 of the lower 64 bits of a product
abbrev pub chain_number : ℕ → ℕ
chain_number key = (key * 0x9E3779B97F4A7C15 % 2 ^ 64) / 2 ^ 58

-- a node: its block, its key and its value
pub record Node : Type 0 where
  pub block : ℕ
  pub key : ℕ
  pub value : ℕ

abbrev pub block_of : Node → ℕ
block_of n = n.block

abbrev pub key_of : Node → ℕ
key_of n = n.key

abbrev pub pair_of : Node → ℕ × ℕ
pair_of n = (n.key, n.value)

abbrev pub blocks : List Node → List ℕ
blocks ns = map block_of ns

abbrev pub keys : List Node → List ℕ
keys ns = map key_of ns

abbrev pub pairs : List Node → FiniteMap
pairs ns = map pair_of ns

-- The nodes that a link leads to, in order: word 1 of a node is its key, 2 its value, 3 the link to the next. 0 leads to none.
abbrev pub IsChain : Words → ℕ → List Node → Type 0
IsChain w link [] = link ≡ 0
IsChain w link (n ∷ ns) = (link ≡ n.block) × (w (n.block + 1) ≡ n.key) × (w (n.block + 2) ≡ n.value) × IsChain w (w (n.block + 3)) ns

-- each node has P
abbrev pub EachNode : (Node → Type 0) → List Node → Type 0
EachNode P [] = Unit {0}
EachNode P (n ∷ ns) = P n × EachNode P ns

-- the nodes of each chain, by its number
abbrev pub Chains : Type 0
Chains = ℕ → List Node

-- the word of the root that names the directory block of a chain
abbrev pub directory_word : ℕ → ℕ → ℕ
directory_word root c = root + 1 + c / 8

-- the directory block of a chain, or 0
abbrev pub directory_of : Words → ℕ → ℕ → ℕ
directory_of w root c = w (directory_word root c)

-- the word of a directory block that links to a chain
abbrev pub chain_word : ℕ → ℕ → ℕ
chain_word directory c = directory + 1 + c % 8

-- the link to the first node of a chain
abbrev pub first_link : Words → ℕ → ℕ → ℕ
first_link w root c = if directory_of w root c == 0 then 0 else w (chain_word (directory_of w root c) c)

-- the directory blocks that the first n words of the root name
unfoldable pub directories : ℕ → Words → ℕ → List ℕ
directories zero w root = []
directories (suc n) w root = if w (root + 1 + n) == 0 then directories n w root else w (root + 1 + n) ∷ directories n w root

-- the nodes of the first n chains
unfoldable pub nodes : ℕ → Chains → List Node
nodes zero chains = []
nodes (suc n) chains = chains n ++ nodes n chains

-- the blocks that are reached from the root
unfoldable pub reached : Words → ℕ → Chains → List ℕ
reached w root chains = directories 8 w root ++ blocks (nodes CHAINS chains)

-- The chains lie in the words. The structure owns the blocks that are reached, each once, and no block beside them and the root.
-- Each key stands in its chain, and once.
pub record IsHash (land : Land) (w : Words) (root : ℕ) (chains : Chains) : Type 0 where
  pub root_own : IsOwn land root
  pub laid : (c : ℕ) → c < CHAINS → IsChain w (first_link w root c) (chains c)
  pub own : (b : ℕ) → IsAmong (reached w root chains) b → IsOwn land b
  pub once : HasNoRepeats (root ∷ reached w root chains)
  pub all : (b : ℕ) → IsOwn land b → IsAmong (root ∷ reached w root chains) b
  pub in_chain : (c : ℕ) → c < CHAINS → EachNode (λ n. chain_number n.key ≡ c) (chains c)
  pub keys_once : (c : ℕ) → c < CHAINS → HasNoRepeats (keys (chains c))
  pub filled : (c : ℕ) → c < CHAINS → EachNode (λ n. 1 ≤ n.value) (chains c)

-- the words are a map with these entries
pub record IsHashMap (land : Land) (w : Words) (root : ℕ) (contents : FiniteMap) : Type 0 where
  pub chains : Chains
  pub is : IsHash land w root chains
  pub ascending : HasAscendingKeys contents
  pub lookup_is : (key : ℕ) → lookup key contents ≡ lookup key (pairs (chains (chain_number key)))

-- ---- the chains of small keys and of the largest

chain_of_0 : chain_number 0 ≡ 0
chain_of_0 = refl

chain_of_1 : chain_number 1 ≡ 39
chain_of_1 = refl

chain_of_2 : chain_number 2 ≡ 15
chain_of_2 = refl

chain_of_largest : chain_number (2 ^ 64 - 1) ≡ 24
chain_of_largest = refl

-- ---- one key in a small heap: the root at 16, the directory block at 32, the node at 48

small : Words
small a = if a == 21 then 32 else (if a == 40 then 48 else (if a == 49 then 1 else (if a == 50 then 7 else 0)))

small_node : Node
small_node = record { block = 48; key = 1; value = 7 }

small_link : first_link small 16 39 ≡ 48
unfolding small
small_link = refl

small_chain : IsChain small 48 (small_node ∷ [])
unfolding small small_node
small_chain = (refl, refl, refl, refl)

other_link : first_link small 16 38 ≡ 0
unfolding small
other_link = refl

no_directory : first_link small 16 15 ≡ 0
unfolding small
no_directory = refl
