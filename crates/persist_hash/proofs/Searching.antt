-- A search in a chain.
use Rattle.std.proofs.Common.{◌≡◌, ◌≢◌, ◌⊎◌, inl, inr, ℕ, ◌+◌, ◌^◌, ◌<◌, ◌≤◌, List, [], ◌∷◌, ◌++◌, length, refl, ap, sym, ◌∙◌, arith, subst}
use Rattle.persist_model.specs.Region.{Words}
use Rattle.lane_traits.specs.Space.{Land, Space, IsOwn, IsDataWordOf}
use Rattle.region_layout.specs.HashMap.{Node, IsChain}
use Rattle.persist_hash.specs.Chains.{link_behind, AreOwnNodes, HasChain, BeginsChain, IsSought, IsFound, IsHead, nodes_left}
use Rattle.persist_hash.proofs.ChainLaws.{each_joined, each_right, nodes-assoc, chain_behind, nodes_left-is}

pub data_word : (land : Land) (b i : ℕ) → IsOwn land b → 0 < i → i < 16 → IsDataWordOf land (b + i)
data_word land b i own above below = record { block = b; index = i; own = own; place = refl; above = above; below = below }

pub sought_first : (s : Space) (at key node : ℕ) → HasChain s at → node ≡ s.word at → IsSought s at key at node
sought_first s at key node chain node_is = record {
  front = [];
  rest = chain.nodes;
  begins = chain.begins;
  link_is = refl;
  «data» = chain.begins.«data»;
  node_is = node_is;
  passed = tt;
}

-- what a chain begins with is a number of 32 bits
pub chain_fits : (land : Land) (w : Words) (link : ℕ) (ns : List Node) → AreOwnNodes land ns → IsChain w link ns → link < 2 ^ 32
chain_fits land w link [] own laid = omega (arith, laid)
chain_fits land w link (n ∷ ns) own laid = let f = own.0.0.fits in let e = laid.0 in omega (arith, f, e)

pub first_fits : (s : Space) (at : ℕ) → HasChain s at → s.word at < 2 ^ 32
first_fits s at chain = chain_fits s.land s.word (s.word at) chain.nodes chain.begins.own chain.begins.laid

-- a link that isn't 0 names a node
pub record IsNodeAt (s : Space) (node : ℕ) (rest : List Node) : Type 0 where
  pub first : Node
  pub more : List Node
  pub is : rest ≡ first ∷ more
  pub block : node ≡ first.block
  pub key : s.word (node + 1) ≡ first.key
  pub value : s.word (node + 2) ≡ first.value
  pub laid : IsChain s.word (s.word (node + 3)) more
  pub own : IsOwn s.land node
  pub own_more : AreOwnNodes s.land more

pub node_at : (s : Space) (node : ℕ) (rest : List Node) → IsChain s.word node rest → AreOwnNodes s.land rest → node ≢ 0 → IsNodeAt s node rest
node_at s node [] laid own positive = absurd (positive laid)
node_at s node (n ∷ more) laid own positive = record {
  first = n;
  more = more;
  is = refl;
  block = laid.0;
  key = ap (λ b. s.word (b + 1)) laid.0 ∙ laid.1;
  value = ap (λ b. s.word (b + 2)) laid.0 ∙ laid.2;
  laid = subst (λ b. IsChain s.word (s.word (b + 3)) more) (sym laid.0) laid.3;
  own = subst (IsOwn s.land) (sym laid.0) own.0;
  own_more = own.1;
}

pub laid_rest : (s : Space) (at key link node : ℕ) (sought : IsSought s at key link node) → IsChain s.word node sought.rest
laid_rest s at key link node sought =
    subst (λ x. IsChain s.word x sought.rest) (sym (sought.node_is ∙ ap s.word sought.link_is))
    (chain_behind s.word at sought.front sought.rest sought.begins.laid)

pub own_rest : (s : Space) (at key link node : ℕ) (sought : IsSought s at key link node) → AreOwnNodes s.land sought.rest
own_rest s at key link node sought = each_right (λ n. IsOwn s.land n.block) sought.front sought.rest sought.begins.own

pub sought_node : (s : Space) (at key link node : ℕ) (sought : IsSought s at key link node) → node ≢ 0 → IsNodeAt s node sought.rest
sought_node s at key link node sought positive =
    node_at s node sought.rest (laid_rest s at key link node sought) (own_rest s at key link node sought) positive

pub sought_own : (s : Space) (at key link node : ℕ) → IsSought s at key link node → node ≢ 0 → IsOwn s.land node
sought_own s at key link node sought positive = (sought_node s at key link node sought positive).own

link_behind-last : (at : ℕ) (front : List Node) (n : Node) → link_behind at (front ++ n ∷ []) ≡ n.block + 3
link_behind-last at [] n = refl
link_behind-last at (m ∷ front) n = link_behind-last (m.block + 3) front n

-- one node further
pub sought_next : (s : Space) (at key link node next : ℕ) (sought : IsSought s at key link node) → node ≢ 0 → key ≢ s.word (node + 1)
    → next ≡ s.word (node + 3) → IsSought s at key (node + 3) next
sought_next s at key link node next sought positive other next_is =
    let at_node = sought_node s at key link node sought positive in
    let first = at_node.first in
    let joined : (sought.front ++ first ∷ []) ++ at_node.more ≡ sought.front ++ sought.rest =
    nodes-assoc sought.front (first ∷ []) at_node.more ∙ ap (λ xs. sought.front ++ xs) (sym at_node.is) in
    record {
      front = sought.front ++ first ∷ [];
      rest = at_node.more;
      begins = subst (BeginsChain s at) (sym joined) sought.begins;
      link_is = ap (λ b. b + 3) at_node.block ∙ sym (link_behind-last at sought.front first);
      «data» = data_word s.land node 3 at_node.own (omega arith) (omega arith);
      node_is = next_is;
      passed = each_joined (λ n. key ≢ n.key) sought.front (first ∷ []) sought.passed ((λ e. other (e ∙ sym at_node.key)), tt);
    }

pub next_fits : (s : Space) (at key link node : ℕ) → IsSought s at key link node → node ≢ 0 → s.word (node + 3) < 2 ^ 32
next_fits s at key link node sought positive =
    let at_node = sought_node s at key link node sought positive in
    chain_fits s.land s.word (s.word (node + 3)) at_node.more at_node.own_more at_node.laid

pub length-right : (ns ms : List Node) → length ms ≤ length (ns ++ ms)
length-right [] ms = omega arith
length-right (n ∷ ns) ms = let again = length-right ns ms in omega (arith, again)

-- and fewer are left
pub fewer_left : (s : Space) (at key link node : ℕ) (sought : IsSought s at key link node) → node ≢ 0
    → nodes_left s.word (s.word (node + 3)) < nodes_left s.word node
fewer_left s at key link node sought positive =
    let at_node = sought_node s at key link node sought positive in
    let long = length-right sought.front sought.rest in
    let few = sought.begins.few in
    let rest_is = ap length at_node.is in
    let here = nodes_left-is s.land s.word node sought.rest (own_rest s at key link node sought) (laid_rest s at key link node sought) (omega (arith, long, few)) in
    let there = nodes_left-is s.land s.word (s.word (node + 3)) at_node.more at_node.own_more at_node.laid (omega (arith, long, few, rest_is)) in
    omega (arith, here, there, rest_is)

head_of : (key : ℕ) (s : Space) (node : ℕ) (rest : List Node) → IsChain s.word node rest → (node ≡ 0) ⊎ ((node ≢ 0) × (s.word (node + 1) ≡ key)) → AreOwnNodes s.land rest → IsHead key rest
head_of key s node [] laid stops own = tt
head_of key s node (n ∷ ns) laid (inl e) own = absurd (let p = own.0.0.positive in let q = laid.0 in omega (arith, p, q, e))
head_of key s node (n ∷ ns) laid (inr h) own = sym (ap (λ b. s.word (b + 1)) laid.0 ∙ laid.1) ∙ h.1

pub found_at : (s : Space) (at key link node : ℕ) → IsSought s at key link node → (node ≡ 0) ⊎ ((node ≢ 0) × (s.word (node + 1) ≡ key)) → IsFound s at key link node
found_at s at key link node sought stops = record {
  sought = sought;
  head = head_of key s node sought.rest (laid_rest s at key link node sought) stops (own_rest s at key link node sought);
}
