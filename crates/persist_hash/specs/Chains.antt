-- A chain of nodes as a search sees it.
use Rattle.std.specs.Prelude.{◌≡◌, ◌≢◌, ℕ, zero, suc, ◌+◌, ◌≤◌, List, [], ◌∷◌, ◌++◌, length, if◌then◌else◌, ◌==◌}
use Rattle.persist_model.specs.Region.{Words}
use Rattle.lane_traits.specs.Device.{MAX_WORDS}
use Rattle.lane_traits.specs.Space.{Land, Space, IsOwn, IsDataWordOf}
use Rattle.region_layout.specs.HashMap.{Node, Chains, IsChain, EachNode, IsHash, chain_number, chain_word, directory_of}

-- the address of the link behind these nodes of a chain whose first link stands here
abbrev pub link_behind : ℕ → List Node → ℕ
link_behind at [] = at
link_behind at (n ∷ ns) = link_behind (n.block + 3) ns

abbrev pub AreOwnNodes : Land → List Node → Type 0
AreOwnNodes land ns = EachNode (λ n. IsOwn land n.block) ns

-- From the link at this address a chain of the structure's nodes begins.
pub record BeginsChain (s : Space) (at : ℕ) (ns : List Node) : Type 0 where
  pub «data» : IsDataWordOf s.land at
  pub laid : IsChain s.word (s.word at) ns
  pub own : AreOwnNodes s.land ns
  pub few : length ns ≤ MAX_WORDS

pub record HasChain (s : Space) (at : ℕ) : Type 0 where
  pub nodes : List Node
  pub begins : BeginsChain s at nodes

abbrev pub HasNotKey : ℕ → List Node → Type 0
HasNotKey key ns = EachNode (λ n. key ≢ n.key) ns

-- A search of the key has passed the nodes in front, and is at this link. Which node it names.
pub record IsSought (s : Space) (at key : ℕ) (link node : ℕ) : Type 0 where
  pub front : List Node
  pub rest : List Node
  pub begins : BeginsChain s at (front ++ rest)
  pub link_is : link ≡ link_behind at front
  pub «data» : IsDataWordOf s.land link
  pub node_is : node ≡ s.word link
  pub passed : HasNotKey key front

-- the first of these nodes has the key, or there is none
abbrev pub IsHead : ℕ → List Node → Type 0
IsHead key [] = Unit {0}
IsHead key (n ∷ ns) = n.key ≡ key

pub record IsFound (s : Space) (at key : ℕ) (link node : ℕ) : Type 0 where
  pub sought : IsSought s at key link node
  pub head : IsHead key sought.rest

-- the nodes that the links lead to from here, n at most
unfoldable pub chain_from : ℕ → Words → ℕ → List Node
chain_from zero w link = []
chain_from (suc n) w link =
    if link == 0 then [] else record { block = link; key = w (link + 1); value = w (link + 2) } ∷ chain_from n w (w (link + 3))

-- how many nodes a search has before it
unfoldable pub nodes_left : Words → ℕ → ℕ
nodes_left w link = length (chain_from MAX_WORDS w link)

-- the block of the first node, or 0
abbrev pub first_block : List Node → ℕ
first_block [] = 0
first_block (n ∷ ns) = n.block

-- Where a key is, or would be: the directory block of its chain, the link behind the nodes that haven't the key, and the node with it.
pub record IsPlaceOf (s : Space) (root key : ℕ) (ns : List Node) (directory link node : ℕ) : Type 0 where
  pub directory_is : directory ≡ directory_of s.word root (chain_number key)
  pub front : List Node
  pub rest : List Node
  pub parts : ns ≡ front ++ rest
  pub passed : HasNotKey key front
  pub head : IsHead key rest
  pub node_is : node ≡ first_block rest
  pub link_is : directory ≢ 0 → link ≡ link_behind (chain_word directory (chain_number key)) front

pub record HasHash (s : Space) (root : ℕ) : Type 0 where
  pub chains : Chains
  pub is : IsHash s.land s.word root chains

-- this chain in place of another
abbrev pub put_chain : ℕ → List Node → Chains → Chains
put_chain c ns chains = λ d. if d == c then ns else chains d
