-- A new node in a chain, and a new directory block.
use Rattle.std.specs.Prelude.{◌≡◌, ◌≢◌, ℕ, ◌+◌, ◌<◌, if◌then◌else◌, ◌==◌}
use Rattle.persist_model.specs.Records.{IsAmong}
use Rattle.lane_traits.specs.Space.{Space, IsBlock, IsOwn, taken, written}

-- a node in this block in front of what the link led to
abbrev pub linked : ℕ → ℕ → ℕ → ℕ → Space → Space
linked slot node key value s =
    written slot node (written (node + 3) (s.word slot) (written (node + 2) value (written (node + 1) key s)))

-- a block is taken for a node, which stands in front then
pub record AddsNode (slot key value : ℕ) (s u : Space) : Type 0 where
  pub node : ℕ
  pub among : IsAmong s.spare node
  pub block : IsBlock s.land node
  pub space : u ≡ linked slot node key value (taken node s)

-- what the links of a new directory block lead to: the one at this place to the node
abbrev pub link_to : ℕ → ℕ → ℕ → ℕ
link_to place node i = if i == place then node else 0

-- The first n links of the directory block are written, and no other word.
pub record FillsLinks (directory place node n : ℕ) (s u : Space) : Type 0 where
  pub land : u.land ≡ s.land
  pub spare : u.spare ≡ s.spare
  pub writes : u.writes ≡ s.writes + n
  pub links : (i : ℕ) → i < n → u.word (directory + (1 + i)) ≡ link_to place node i
  pub elsewhere : (a : ℕ) → ((i : ℕ) → i < n → a ≢ directory + (1 + i)) → u.word a ≡ s.word a

-- The word of the root names the directory block, which links to a chain of one node. No other word is written.
pub record OpensChain (root index directory place node key value : ℕ) (s u : Space) : Type 0 where
  pub land : u.land ≡ s.land
  pub spare : u.spare ≡ s.spare
  pub writes : u.writes ≡ s.writes + 12
  pub named : u.word (root + (1 + index)) ≡ directory
  pub links : (i : ℕ) → i < 8 → u.word (directory + (1 + i)) ≡ link_to place node i
  pub key_is : u.word (node + 1) ≡ key
  pub value_is : u.word (node + 2) ≡ value
  pub next_is : u.word (node + 3) ≡ 0
  pub elsewhere : (a : ℕ) → ((i : ℕ) → i < 8 → a ≢ directory + (1 + i)) → a ≢ node + 1 → a ≢ node + 2 → a ≢ node + 3 → a ≢ root + (1 + index)
      → u.word a ≡ s.word a

-- two blocks are taken, one for the directory and one for the node
pub record AddsDirectory (root index place key value : ℕ) (s u : Space) : Type 0 where
  pub directory : ℕ
  pub among : IsAmong s.spare directory
  pub block : IsBlock s.land directory
  pub node : ℕ
  pub node_among : IsAmong (taken directory s).spare node
  pub node_block : IsBlock (taken directory s).land node
  pub opens : OpensChain root index directory place node key value (taken node (taken directory s)) u

-- three blocks of the structure
pub record AreThree (s : Space) (root directory node : ℕ) : Type 0 where
  pub root_own : IsOwn s.land root
  pub directory_own : IsOwn s.land directory
  pub node_own : IsOwn s.land node
  pub root_directory : root ≢ directory
  pub root_node : root ≢ node
  pub directory_node : directory ≢ node
