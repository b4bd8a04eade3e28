-- Chains in words: that they are one, what a write leaves of them, and how a search goes on.
use Rattle.std.proofs.Common.{◌≡◌, ◌≢◌, inl, inr, ℕ, zero, suc, ◌+◌, ◌*◌, ◌<◌, ◌≤◌, true, false, ◌==◌, List, [], ◌∷◌, ◌++◌, length, refl, ap, sym, ◌∙◌, arith, subst}
use Rattle.std.proofs.lemmas.Bool.Decides.{nat_tests}
use Rattle.persist_model.specs.Region.{Words}
use Rattle.persist_model.specs.Records.{IsAmong}
use Rattle.persist_model.specs.Chain.{HasNoRepeats}
use Rattle.lane_traits.specs.Device.{MAX_WORDS}
use Rattle.lane_traits.specs.Space.{Land, IsOwn}
use Rattle.region_layout.specs.HashMap.{Node, IsChain, EachNode, blocks, keys}
use Rattle.lane_traits.proofs.Among.{of_absent}
use Rattle.persist_hash.specs.Chains.{link_behind, AreOwnNodes, chain_from, nodes_left}

-- ---- lists of nodes

pub each_joined : (P : Node → Type 0) (ns ms : List Node) → EachNode P ns → EachNode P ms → EachNode P (ns ++ ms)
each_joined P [] ms hn hm = hm
each_joined P (n ∷ ns) ms hn hm = (hn.0, each_joined P ns ms hn.1 hm)

pub each_left : (P : Node → Type 0) (ns ms : List Node) → EachNode P (ns ++ ms) → EachNode P ns
each_left P [] ms h = tt
each_left P (n ∷ ns) ms h = (h.0, each_left P ns ms h.1)

pub each_right : (P : Node → Type 0) (ns ms : List Node) → EachNode P (ns ++ ms) → EachNode P ms
each_right P [] ms h = h
each_right P (n ∷ ns) ms h = each_right P ns ms h.1

pub each_weaker : (P Q : Node → Type 0) (ns : List Node) → ((n : Node) → P n → Q n) → EachNode P ns → EachNode Q ns
each_weaker P Q [] f h = tt
each_weaker P Q (n ∷ ns) f h = (f n h.0, each_weaker P Q ns f h.1)

pub own_of_blocks : (land : Land) (ns : List Node) → ((b : ℕ) → IsAmong (blocks ns) b → IsOwn land b) → AreOwnNodes land ns
own_of_blocks land [] f = tt
own_of_blocks land (n ∷ ns) f = (f n.block (inl refl), own_of_blocks land ns (λ b h. f b (inr h)))

pub own_block : (land : Land) (ns : List Node) (b : ℕ) → AreOwnNodes land ns → IsAmong (blocks ns) b → IsOwn land b
own_block land [] b own h = absurd h
own_block land (n ∷ ns) b own (inl e) = subst (IsOwn land) (sym e) own.0
own_block land (n ∷ ns) b own (inr h) = own_block land ns b own.1 h

pub blocks-append : (ns ms : List Node) → blocks (ns ++ ms) ≡ blocks ns ++ blocks ms
blocks-append [] ms = refl
blocks-append (n ∷ ns) ms = ap (λ xs. n.block ∷ xs) (blocks-append ns ms)

pub keys-append : (ns ms : List Node) → keys (ns ++ ms) ≡ keys ns ++ keys ms
keys-append [] ms = refl
keys-append (n ∷ ns) ms = ap (λ xs. n.key ∷ xs) (keys-append ns ms)

pub nodes-assoc : (ns ms ls : List Node) → (ns ++ ms) ++ ls ≡ ns ++ (ms ++ ls)
nodes-assoc [] ms ls = refl
nodes-assoc (n ∷ ns) ms ls = ap (λ xs. n ∷ xs) (nodes-assoc ns ms ls)

-- ---- one chain from one link

pub chain_once : (land : Land) (w : Words) (link : ℕ) (ns ms : List Node) → AreOwnNodes land ns → AreOwnNodes land ms
    → IsChain w link ns → IsChain w link ms → ns ≡ ms
chain_once land w link [] [] on om hn hm = refl
chain_once land w link [] (m ∷ ms) on om hn hm = absurd (let p = om.0.0.positive in let e = hm.0 in omega (arith, p, e, hn))
chain_once land w link (n ∷ ns) [] on om hn hm = absurd (let p = on.0.0.positive in let e = hn.0 in omega (arith, p, e, hm))
chain_once land w link (n ∷ ns) (m ∷ ms) on om hn hm =
    let block : n.block ≡ m.block = sym hn.0 ∙ hm.0 in
    let key : n.key ≡ m.key = sym hn.1 ∙ ap (λ b. w (b + 1)) block ∙ hm.1 in
    let value : n.value ≡ m.value = sym hn.2 ∙ ap (λ b. w (b + 2)) block ∙ hm.2 in
    let node : n ≡ m = λ i. record { block = block i; key = key i; value = value i } in
    let rest : ns ≡ ms = chain_once land w (w (n.block + 3)) ns ms on.1 om.1 hn.3 (subst (λ b. IsChain w (w (b + 3)) ms) (sym block) hm.3) in
    ap (λ (x : Node). x ∷ ns) node ∙ ap (λ xs. m ∷ xs) rest

-- where the words of its nodes stay, the chain stays
pub chain_kept : (w u : Words) (link : ℕ) (ns : List Node) → ((b i : ℕ) → IsAmong (blocks ns) b → 0 < i → i < 4 → u (b + i) ≡ w (b + i))
    → IsChain w link ns → IsChain u link ns
chain_kept w u link [] same h = h
chain_kept w u link (n ∷ ns) same h = (
  h.0,
  same n.block 1 (inl refl) (omega arith) (omega arith) ∙ h.1,
  same n.block 2 (inl refl) (omega arith) (omega arith) ∙ h.2,
  subst (λ l. IsChain u l ns) (sym (same n.block 3 (inl refl) (omega arith) (omega arith)))
      (chain_kept w u (w (n.block + 3)) ns (λ b i k. same b i (inr k)) h.3),
)

-- the chain behind its first nodes
pub chain_behind : (w : Words) (at : ℕ) (front rest : List Node) → IsChain w (w at) (front ++ rest) → IsChain w (w (link_behind at front)) rest
chain_behind w at [] rest h = h
chain_behind w at (n ∷ front) rest h = chain_behind w (n.block + 3) front rest h.3

link_behind-last : (at : ℕ) (front : List Node) (n : Node) → link_behind at (front ++ n ∷ []) ≡ n.block + 3
link_behind-last at [] n = refl
link_behind-last at (m ∷ front) n = link_behind-last (m.block + 3) front n

-- ---- how many nodes are left

pub chain_from_is : (land : Land) (w : Words) (link n : ℕ) (ns : List Node) → AreOwnNodes land ns → IsChain w link ns → length ns ≤ n → chain_from n w link ≡ ns
unfolding chain_from
chain_from_is land w link zero [] own h few = refl
chain_from_is land w link zero (m ∷ ns) own h few = absurd (omega (arith, few))
chain_from_is land w link (suc n) [] own h few = let on : (link == 0) ≡ true = grind (arith, nat_tests) in rw on refl
chain_from_is land w link (suc n) (m ∷ ns) own h few =
    let positive = own.0.0.positive in
    let e = h.0 in
    let off : (link == 0) ≡ false = grind (arith, nat_tests) in
    let key : w (link + 1) ≡ m.key = ap (λ b. w (b + 1)) h.0 ∙ h.1 in
    let value : w (link + 2) ≡ m.value = ap (λ b. w (b + 2)) h.0 ∙ h.2 in
    let rest : chain_from n w (w (link + 3)) ≡ ns =
    ap (λ b. chain_from n w (w (b + 3))) h.0 ∙ chain_from_is land w (w (m.block + 3)) n ns own.1 h.3 (omega (arith, few)) in
    let node : record { block = link; key = w (link + 1); value = w (link + 2) } ≡ m = λ i. record { block = e i; key = key i; value = value i } in
    rw off (ap (λ (x : Node). x ∷ chain_from n w (w (link + 3))) node ∙ ap (λ xs. m ∷ xs) rest)

pub nodes_left-is : (land : Land) (w : Words) (link : ℕ) (ns : List Node) → AreOwnNodes land ns → IsChain w link ns → length ns ≤ MAX_WORDS → nodes_left w link ≡ length ns
unfolding nodes_left
nodes_left-is land w link ns own h few = ap length (chain_from_is land w link MAX_WORDS ns own h few)

-- ---- a link is changed

apart_by_number : (h m n i j : ℕ) → m ≢ n → i < 16 → j < 16 → h + 16 * m + i ≢ h + 16 * n + j
apart_by_number h m n i j ne li lj = λ e. ne (omega (arith, e, li, lj))

-- words of different blocks are different
pub blocks_apart : (land : Land) (b c i j : ℕ) → IsOwn land b → IsOwn land c → b ≢ c → i < 16 → j < 16 → b + i ≢ c + j
blocks_apart land b c i j hb hc ne li lj = λ e.
    let pb = hb.0.place in
    let pc = hc.0.place in
    apart_by_number land.heap hb.0.number hc.0.number i j (λ same. ne (pb ∙ ap (λ n. land.heap + 16 * n) same ∙ sym pc)) li lj
    (ap (λ x. x + i) (sym pb) ∙ e ∙ ap (λ x. x + j) pc)

-- behind a node stands the link of a node
pub link_in : (at : ℕ) (n : Node) (ns : List Node) → (b : ℕ) × IsAmong (blocks (n ∷ ns)) b × (link_behind at (n ∷ ns) ≡ b + 3)
link_in at n [] = (n.block, inl refl, refl)
link_in at n (m ∷ ns) = let again = link_in (n.block + 3) m ns in (again.0, inr again.1, again.2)

-- A link behind the first nodes is changed, and no other word of these: they lead to what begins there then.
pub chain_relinked : (w u : Words) (at : ℕ) (front rest later : List Node) → IsChain w (w at) (front ++ rest) → HasNoRepeats (blocks front)
    → ((b : ℕ) → IsAmong (blocks front) b → at ≢ b + 3)
    → ((b i : ℕ) → IsAmong (blocks front) b → 0 < i → i < 3 → u (b + i) ≡ w (b + i))
    → ((b : ℕ) → IsAmong (blocks front) b → b + 3 ≢ link_behind at front → u (b + 3) ≡ w (b + 3))
    → (at ≢ link_behind at front → u at ≡ w at)
    → IsChain u (u (link_behind at front)) later → IsChain u (u at) (front ++ later)
chain_relinked w u at [] rest later h once apart fields links first behind = behind
chain_relinked w u at (n ∷ front) rest later h once apart fields links first behind =
    let last = link_in at n front in (
      first (λ e. apart last.0 last.1 (e ∙ last.2)) ∙ h.0,
      fields n.block 1 (inl refl) (omega arith) (omega arith) ∙ h.1,
      fields n.block 2 (inl refl) (omega arith) (omega arith) ∙ h.2,
      chain_relinked w u (n.block + 3) front rest later h.3 once.1
          (λ b k e. of_absent (blocks front) n.block once.0 (subst (IsAmong (blocks front)) (let q : b ≡ n.block = omega (arith, e) in q) k))
          (λ b i k. fields b i (inr k))
          (λ b k. links b (inr k))
          (λ ne. links n.block (inl refl) ne)
          behind,
    )
