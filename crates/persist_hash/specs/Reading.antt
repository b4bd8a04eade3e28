-- What is known of words while they are read as a hash.
use Rattle.std.specs.Prelude.{◌≡◌, ◌≢◌, ℕ, ◌+◌, ◌*◌, ◌<◌, ◌≤◌, Bool, false, ◌||◌, List, [], ◌∷◌, length, slice_index, slice_index_or, if◌then◌else◌, ◌==◌}
use Rattle.std.specs.BTreeSet.{BTreeSet, contains, btree_set_len}
use Rattle.std.specs.Ordering.{nat_cmp}
use Rattle.persist_model.specs.Region.{Words}
use Rattle.persist_model.specs.Records.{IsAmong}
use Rattle.persist_model.specs.Chain.{HasNoRepeats}
use Rattle.lane_traits.specs.Device.{MAX_WORDS}
use Rattle.lane_traits.specs.Space.{Land, IsOwn}
use Rattle.lane_traits.specs.Draft.{is_among}
use Rattle.region_layout.specs.FiniteMap.{FiniteMap}
use Rattle.region_layout.specs.HeapBlocks.{land_of}
use Rattle.region_layout.specs.HashMap.{Node, Chains, IsChain, EachNode, IsHash, IsHashMap, blocks, keys, directories, nodes, first_link, chain_number}
use Rattle.persist_hash.specs.Chains.{chain_from}

-- the words of a heap, and how many blocks it has
pub record IsHeap (words : List ℕ) (heap count : ℕ) : Type 0 where
  pub long : length words ≡ heap + 16 * count
  pub positive : 0 < heap
  pub fits : length words ≤ MAX_WORDS

-- whose its blocks are
abbrev pub land_in : List ℕ → ℕ → ℕ → Land
land_in words heap structure = land_of heap (slice_index words) structure

-- the words of the structure are a map
pub record HasHashMap (land : Land) (w : Words) (root : ℕ) : Type 0 where
  pub contents : FiniteMap
  pub is : IsHashMap land w root contents

-- they aren't a hash
abbrev pub IsNoHash : Land → Words → ℕ → Type 0
IsNoHash land w root = (chains : Chains) → IsHash land w root chains → ⊥

-- ---- blocks that are claimed

-- for each block of the heap whether it passes the test
abbrev pub AreMarks : ℕ → List Bool → (ℕ → Bool) → Type 0
AreMarks heap marks test = (k : ℕ) → k < length marks → slice_index_or marks k false ≡ test (heap + 16 * k)

abbrev pub with_block : ℕ → (ℕ → Bool) → ℕ → Bool
with_block b test = λ x. (x == b) || test x

abbrev pub with_link : ℕ → (ℕ → Bool) → ℕ → Bool
with_link link test = λ x. if link == 0 then test x else (x == link) || test x

abbrev pub is_root : ℕ → ℕ → Bool
is_root root x = x == root

-- the root, and the directory blocks that its first n words name
abbrev pub in_directories : Words → ℕ → ℕ → ℕ → Bool
in_directories w root n x = is_among (directories n w root) x || (x == root)

-- the nodes of each chain, as its links lead to them
unfoldable pub chains_in : Words → ℕ → Chains
chains_in w root c = chain_from MAX_WORDS w (first_link w root c)

-- these, all directory blocks and the root
abbrev pub in_chains : Words → ℕ → ℕ → ℕ → Bool
in_chains w root n x = is_among (blocks (nodes n (chains_in w root))) x || in_directories w root 8 x

-- and the nodes in front
abbrev pub in_front : Words → ℕ → ℕ → List Node → ℕ → Bool
in_front w root c front x = is_among (blocks front) x || in_chains w root c x

-- ---- what was read

-- the first n words of the root name directory blocks of the structure or none, each once
pub record HasDirectories (land : Land) (w : Words) (root n : ℕ) : Type 0 where
  pub root_own : IsOwn land root
  pub own : (d : ℕ) → d < n → w (root + 1 + d) ≢ 0 → IsOwn land (w (root + 1 + d))
  pub no_root : (d : ℕ) → d < n → w (root + 1 + d) ≢ root
  pub once : (d e : ℕ) → d < n → e < n → d ≢ e → w (root + 1 + d) ≢ 0 → w (root + 1 + d) ≢ w (root + 1 + e)

-- so they do, and the first n chains are sound
pub record HasChains (land : Land) (w : Words) (root n : ℕ) : Type 0 where
  pub directories : HasDirectories land w root 8
  pub laid : (c : ℕ) → c < n → IsChain w (first_link w root c) (chains_in w root c)
  pub own : (c b : ℕ) → c < n → IsAmong (blocks (chains_in w root c)) b → IsOwn land b
  pub no_root : (c : ℕ) → c < n → IsAmong (blocks (chains_in w root c)) root → ⊥
  pub no_directory : (d c : ℕ) → d < 8 → c < n → IsAmong (blocks (chains_in w root c)) (w (root + 1 + d)) → ⊥
  pub once : (c : ℕ) → c < n → HasNoRepeats (blocks (chains_in w root c))
  pub apart : (c d b : ℕ) → c < n → d < n → c ≢ d → IsAmong (blocks (chains_in w root c)) b → IsAmong (blocks (chains_in w root d)) b → ⊥
  pub in_chain : (c : ℕ) → c < n → EachNode (λ m. chain_number m.key ≡ c) (chains_in w root c)
  pub keys_once : (c : ℕ) → c < n → HasNoRepeats (keys (chains_in w root c))
  pub filled : (c : ℕ) → c < n → EachNode (λ m. 1 ≤ m.value) (chains_in w root c)

-- from one link these nodes lead to the other
abbrev pub IsSegment : Words → ℕ → List Node → ℕ → Type 0
IsSegment w link [] to = link ≡ to
IsSegment w link (n ∷ ns) to = (link ≡ n.block) × (w (n.block + 1) ≡ n.key) × (w (n.block + 2) ≡ n.value) × IsSegment w (w (n.block + 3)) ns to

-- a chain was read up to a link, and what was read is sound
pub record HasFront (land : Land) (w : Words) (root c : ℕ) (front : List Node) (node : ℕ) : Type 0 where
  pub segment : IsSegment w (first_link w root c) front node
  pub own : (b : ℕ) → IsAmong (blocks front) b → IsOwn land b
  pub apart : (b : ℕ) → IsAmong (blocks front) b → in_chains w root c b ≡ false
  pub once : HasNoRepeats (blocks front)
  pub in_chain : EachNode (λ m. chain_number m.key ≡ c) front
  pub keys_once : HasNoRepeats (keys front)
  pub filled : EachNode (λ m. 1 ≤ m.value) front

-- the set has these keys, and no others
abbrev pub AreKeys : BTreeSet ℕ → List ℕ → Type 0
AreKeys set listed = (k : ℕ) → contains nat_cmp set k ≡ is_among listed k

pub record IsReading (land : Land) (w : Words) (heap root c node : ℕ) (marks : List Bool) (keys_read : BTreeSet ℕ) : Type 0 where
  pub front : List Node
  pub has : HasFront land w root c front node
  pub keys_are : AreKeys keys_read (keys front)
  pub count_is : btree_set_len keys_read ≡ length front
  pub marks_are : AreMarks heap marks (in_front w root c front)
