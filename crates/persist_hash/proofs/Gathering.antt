-- A walk along one chain.
use Rattle.std.proofs.Common.{◌≡◌, ◌≢◌, ℕ, ◌+◌, ◌^◌, ◌<◌, ◌≤◌, List, [], ◌∷◌, ◌++◌, length, refl, ap, sym, ◌∙◌, arith, subst, append_assoc, append-nil}
use Rattle.lane_traits.specs.Device.{MAX_WORDS}
use Rattle.lane_traits.specs.Space.{Space, IsOwn}
use Rattle.lane_traits.specs.declared.words.Pair.{Pair}
use Rattle.region_layout.specs.HashMap.{Node, Chains, IsChain, IsHash, first_link, blocks}
use Rattle.persist_hash.specs.Chains.{AreOwnNodes, HasHash, nodes_left}
use Rattle.persist_hash.specs.Walk.{node_pair, node_pairs, IsWalked}
use Rattle.persist_hash.proofs.Lists.{at_most, each_of}
use Rattle.persist_hash.proofs.ChainLaws.{chain_once, nodes_left-is, nodes-assoc, each_right}
use Rattle.persist_hash.proofs.Searching.{IsNodeAt, node_at, chain_fits, length-right}
use Rattle.persist_hash.proofs.Blocks.{placed_of}
use Rattle.persist_hash.proofs.Places.{own_chain, length-blocks}
use Rattle.persist_hash.proofs.Walks.{node_pairs-append}

few_nodes : (s : Space) (root : ℕ) (chains : Chains) (c : ℕ) → IsHash s.land s.word root chains → c < 64 → length (chains c) ≤ MAX_WORDS
few_nodes s root chains c h below =
    let p = placed_of s.land s.word root chains h in
    let few = at_most MAX_WORDS (blocks (chains c)) (p.nodes_once c below)
    (each_of (λ x. x < MAX_WORDS) (blocks (chains c)) (λ b k. let f = (p.own_node c b below k).0.fits in omega (arith, f))) in
    let long = length-blocks (chains c) in
    omega (arith, few, long)

pub walked_first : (s : Space) (root c node : ℕ) (now : List Pair) (hash : HasHash s root) → c < 64 → node ≡ first_link s.word root c
    → IsWalked s (first_link s.word root c) node now now
walked_first s root c node now hash below is = record {
  front = [];
  rest = hash.chains c;
  laid = hash.is.laid c below;
  own = own_chain s.land s.word root hash.chains c hash.is below;
  few = few_nodes s root hash.chains c hash.is below;
  here = subst (λ l. IsChain s.word l (hash.chains c)) (sym is) (hash.is.laid c below);
  items = sym (append-nil now);
}

walked_node : (s : Space) (first node : ℕ) (before now : List Pair) (walked : IsWalked s first node before now) → node ≢ 0 → IsNodeAt s node walked.rest
walked_node s first node before now walked some =
    node_at s node walked.rest walked.here (each_right (λ n. IsOwn s.land n.block) walked.front walked.rest walked.own) some

pub walked_own : (s : Space) (first node : ℕ) (before now : List Pair) → IsWalked s first node before now → node ≢ 0 → IsOwn s.land node
walked_own s first node before now walked some = (walked_node s first node before now walked some).own

pub walked_fits : (s : Space) (first node : ℕ) (before now : List Pair) → IsWalked s first node before now → node ≢ 0 → s.word (node + 3) < 2 ^ 32
walked_fits s first node before now walked some =
    let at = walked_node s first node before now walked some in
    chain_fits s.land s.word (s.word (node + 3)) at.more at.own_more at.laid

pub walked_next : (s : Space) (first node next : ℕ) (before now later : List Pair) (pair : Pair) → IsWalked s first node before now → node ≢ 0
    → pair.key ≡ s.word (node + 1) → pair.value ≡ s.word (node + 2) → next ≡ s.word (node + 3) → later ≡ now ++ pair ∷ [] → IsWalked s first next before later
walked_next s first node next before now later pair walked some key value next_is later_is =
    let at = walked_node s first node before now walked some in
    let n = at.first in
    let joined : (walked.front ++ n ∷ []) ++ at.more ≡ walked.front ++ walked.rest =
    nodes-assoc walked.front (n ∷ []) at.more ∙ ap (λ xs. walked.front ++ xs) (sym at.is) in
    let k : pair.key ≡ n.key = key ∙ at.key in
    let v : pair.value ≡ n.value = value ∙ at.value in
    let is : pair ≡ node_pair n = λ i. record { key = k i; value = v i } in
    record {
      front = walked.front ++ n ∷ [];
      rest = at.more;
      laid = subst (IsChain s.word first) (sym joined) walked.laid;
      own = subst (AreOwnNodes s.land) (sym joined) walked.own;
      few = subst (λ (xs : List Node). length xs ≤ MAX_WORDS) (sym joined) walked.few;
      here = subst (λ l. IsChain s.word l at.more) (sym next_is) at.laid;
      items = later_is ∙ ap (λ (x : Pair). now ++ x ∷ []) is ∙ ap (λ xs. xs ++ node_pair n ∷ []) walked.items
          ∙ append_assoc before (node_pairs walked.front) (node_pair n ∷ []) ∙ ap (λ xs. before ++ xs) (sym (node_pairs-append walked.front (n ∷ [])));
    }

pub walked_fewer : (s : Space) (first node : ℕ) (before now : List Pair) → IsWalked s first node before now → node ≢ 0
    → nodes_left s.word (s.word (node + 3)) < nodes_left s.word node
walked_fewer s first node before now walked some =
    let at = walked_node s first node before now walked some in
    let long = length-right walked.front walked.rest in
    let few = walked.few in
    let is = ap length at.is in
    let here = nodes_left-is s.land s.word node walked.rest (each_right (λ n. IsOwn s.land n.block) walked.front walked.rest walked.own) walked.here (omega (arith, long, few)) in
    let there = nodes_left-is s.land s.word (s.word (node + 3)) at.more at.own_more at.laid (omega (arith, long, few, is)) in
    omega (arith, here, there, is)

none_left : (s : Space) (node : ℕ) (rest : List Node) → IsChain s.word node rest → AreOwnNodes s.land rest → node ≡ 0 → rest ≡ []
none_left s node [] here own none = refl
none_left s node (n ∷ rest) here own none = absurd (let p = own.0.0.positive in let e = here.0 in omega (arith, p, e, none))

pub walked_end : (s : Space) (root c node : ℕ) (before now : List Pair) → IsWalked s (first_link s.word root c) node before now → node ≡ 0
    → (chains : Chains) → IsHash s.land s.word root chains → c < 64 → now ≡ before ++ node_pairs (chains c)
walked_end s root c node before now walked none chains h below =
    let empty = none_left s node walked.rest walked.here (each_right (λ n. IsOwn s.land n.block) walked.front walked.rest walked.own) none in
    let all : walked.front ≡ chains c =
    sym (ap (λ xs. walked.front ++ xs) empty ∙ append-nil walked.front)
    ∙ chain_once s.land s.word (first_link s.word root c) (walked.front ++ walked.rest) (chains c) walked.own (own_chain s.land s.word root chains c h below)
    walked.laid (h.laid c below) in
    walked.items ∙ ap (λ ms. before ++ node_pairs ms) all
