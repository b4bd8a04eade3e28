-- A hash in which one chain is changed, or a directory block is new.
use Rattle.std.proofs.Common.{◌≡◌, ◌≢◌, ◌⊎◌, inl, inr, ⊎_elim, ℕ, ◌+◌, ◌/◌, ◌%◌, ◌<◌, ◌≤◌, true, false, if◌then◌else◌, ◌==◌, List, [], ◌∷◌, refl, ap, sym, ◌∙◌, arith, subst}
use Rattle.std.proofs.lemmas.Bool.Decides.{nat_tests, eqb_tells}
use Rattle.persist_model.specs.Region.{Words}
use Rattle.persist_model.specs.Records.{IsAmong}
use Rattle.persist_model.specs.Chain.{HasNoRepeats}
use Rattle.lane_traits.specs.Space.{Land, IsOwn}
use Rattle.region_layout.specs.HashMap.{Node, Chains, CHAINS, IsChain, EachNode, blocks, keys, directory_of, chain_word, first_link, chain_number}
use Rattle.persist_hash.specs.Chains.{put_chain}
use Rattle.persist_hash.proofs.Lists.{AreApart}
use Rattle.persist_hash.proofs.ChainLaws.{blocks_apart, chain_kept}
use Rattle.persist_hash.proofs.Blocks.{IsPlaced}

-- what holds of the changed chain, and of each other one
pub for_each : (P : ℕ → List Node → Type 0) (c : ℕ) (ns : List Node) (chains : Chains) → P c ns → ((d : ℕ) → d ≢ c → P d (chains d)) → (d : ℕ) → P d (put_chain c ns chains d)
for_each P c ns chains here others d = ⊎_elim
    (λ same. let e : d ≡ c = same.1 in subst (λ k. P k (put_chain c ns chains k)) (sym e) (let on : (c == c) ≡ true = grind (arith, nat_tests) in rw on here))
    (λ other. let off = other.0 in rw off (others d other.1))
    (eqb_tells d c)

pub put_chain_same : (c : ℕ) (ns : List Node) (chains : Chains) → put_chain c ns chains c ≡ ns
put_chain_same c ns chains = let on : (c == c) ≡ true = grind (arith, nat_tests) in rw on refl

pub put_chain_other : (c d : ℕ) (ns : List Node) (chains : Chains) → d ≢ c → put_chain c ns chains d ≡ chains d
put_chain_other c d ns chains ne = let off : (d == c) ≡ false = grind (arith, nat_tests) in rw off refl

-- The nodes of a chain become these. All other words of blocks that were the structure's before stay, but for the link to the first.
pub record ChangesChain (land : Land) (w : Words) (root : ℕ) (chains : Chains) (c : ℕ) (later : Land) (u : Words) (ns : List Node) : Type 0 where
  pub elsewhere : (b i : ℕ) → IsOwn land b → (IsAmong (blocks (chains c)) b → ⊥) → 0 < i → i < 9 → b + i ≢ chain_word (directory_of w root c) c → u (b + i) ≡ w (b + i)
  pub laid : IsChain u (u (chain_word (directory_of w root c) c)) ns
  pub kept : (b : ℕ) → IsOwn land b → (IsAmong (blocks (chains c)) b → ⊥) → IsOwn later b
  pub own : (b : ℕ) → IsAmong (blocks ns) b → IsOwn later b
  pub from : (b : ℕ) → IsAmong (blocks ns) b → IsAmong (blocks (chains c)) b ⊎ (IsOwn land b → ⊥)
  pub once : HasNoRepeats (blocks ns)
  pub all : (b : ℕ) → IsOwn later b → (IsOwn land b × (IsAmong (blocks (chains c)) b → ⊥)) ⊎ IsAmong (blocks ns) b
  pub in_chain : EachNode (λ n. chain_number n.key ≡ c) ns
  pub keys_once : HasNoRepeats (keys ns)
  pub filled : EachNode (λ n. 1 ≤ n.value) ns

index_below : (c : ℕ) → c < 64 → c / 8 < 8
index_below c below = omega (arith, below)

part_below : (c : ℕ) → c % 8 < 8
part_below c = omega arith

-- a word of the root stays
root_word : (land : Land) (w : Words) (root : ℕ) (chains : Chains) (c : ℕ) (later : Land) (u : Words) (ns : List Node) → IsPlaced land w root chains → c < CHAINS
    → directory_of w root c ≢ 0 → ChangesChain land w root chains c later u ns → (d : ℕ) → d < 8 → u (root + 1 + d) ≡ w (root + 1 + d)
root_word land w root chains c later u ns p below some h d ld =
    let place : root + (1 + d) ≡ root + 1 + d = omega arith in
    let at : chain_word (directory_of w root c) c ≡ directory_of w root c + (1 + c % 8) = omega arith in
    let apart = blocks_apart land root (directory_of w root c) (1 + d) (1 + c % 8) p.root_own (p.own_directory (c / 8) (index_below c below) some)
    (λ e. p.root_no_directory (c / 8) (index_below c below) (sym e)) (omega (arith, ld)) (let q = part_below c in omega (arith, q)) in
    ap u (sym place) ∙ h.elsewhere root (1 + d) p.root_own (p.root_no_node c below) (omega arith) (omega (arith, ld)) (λ e. apart (e ∙ at)) ∙ ap w place

-- so does the link to another chain
link_word : (land : Land) (w : Words) (root : ℕ) (chains : Chains) (c : ℕ) (later : Land) (u : Words) (ns : List Node) → IsPlaced land w root chains → c < CHAINS
    → directory_of w root c ≢ 0 → ChangesChain land w root chains c later u ns → (d : ℕ) → d < CHAINS → d ≢ c → directory_of w root d ≢ 0
    → u (chain_word (directory_of w root d) d) ≡ w (chain_word (directory_of w root d) d)
link_word land w root chains c later u ns p below some h d ld ne there =
    let place : directory_of w root d + (1 + d % 8) ≡ chain_word (directory_of w root d) d = omega arith in
    let at : chain_word (directory_of w root c) c ≡ directory_of w root c + (1 + c % 8) = omega arith in
    let qd = part_below d in
    let qc = part_below c in
    let apart : directory_of w root d + (1 + d % 8) ≢ directory_of w root c + (1 + c % 8) = λ e. ⊎_elim
    (λ same. let s = same.1 in
    let parts : d % 8 ≢ c % 8 = (λ f. omega (arith, s, f, ne)) in
    parts (let g : directory_of w root d ≡ directory_of w root c = ap (λ k. w (root + 1 + k)) s in omega (arith, e, g)))
    (λ other. blocks_apart land (directory_of w root d) (directory_of w root c) (1 + d % 8) (1 + c % 8)
    (p.own_directory (d / 8) (index_below d ld) there) (p.own_directory (c / 8) (index_below c below) some)
    (p.directories_once (d / 8) (c / 8) (index_below d ld) (index_below c below) other.1 there) (omega (arith, qd)) (omega (arith, qc)) e)
    (eqb_tells (d / 8) (c / 8)) in
    ap u (sym place) ∙ h.elsewhere (directory_of w root d) (1 + d % 8) (p.own_directory (d / 8) (index_below d ld) there)
    (p.directory_no_node (d / 8) c (index_below d ld) below) (omega arith) (omega (arith, qd)) (λ e. apart (e ∙ at)) ∙ ap w place

pub first_kept : (w u : Words) (root d : ℕ) → directory_of u root d ≡ directory_of w root d
    → (directory_of w root d ≢ 0 → u (chain_word (directory_of w root d) d) ≡ w (chain_word (directory_of w root d) d)) → first_link u root d ≡ first_link w root d
first_kept w u root d same word =
    ap (λ x. if x == 0 then 0 else u (chain_word x d)) same ∙ step (directory_of w root d) word
  where
    step : (x : ℕ) → (x ≢ 0 → u (chain_word x d) ≡ w (chain_word x d)) → (if x == 0 then 0 else u (chain_word x d)) ≡ (if x == 0 then 0 else w (chain_word x d))
    step x word = ⊎_elim (λ on. let t = on.0 in rw t refl) (λ off. let t = off.0 in rw t (word off.1)) (eqb_tells x 0)

first_here : (u : Words) (root c x : ℕ) → directory_of u root c ≡ x → x ≢ 0 → first_link u root c ≡ u (chain_word x c)
first_here u root c x same some =
    let off : (x == 0) ≡ false = grind (arith, nat_tests) in
    ap (λ y. if y == 0 then 0 else u (chain_word y c)) same ∙ rw off refl

pub changed : (land : Land) (w : Words) (root : ℕ) (chains : Chains) (c : ℕ) (later : Land) (u : Words) (ns : List Node) → IsPlaced land w root chains → c < CHAINS
    → directory_of w root c ≢ 0 → ChangesChain land w root chains c later u ns → IsPlaced later u root (put_chain c ns chains)
changed land w root chains c later u ns p below some h = record {
  root_own = h.kept root p.root_own (p.root_no_node c below);
  laid = for_each (λ d ms. d < CHAINS → IsChain u (first_link u root d) ms) c ns chains
      (λ lt. subst (λ l. IsChain u l ns) (sym (first_here u root c (directory_of w root c) (rooted (c / 8) (index_below c below)) some)) h.laid)
      (λ d ne lt. subst (λ l. IsChain u l (chains d))
      (sym (first_kept w u root d (rooted (d / 8) (index_below d lt)) (λ there. link_word land w root chains c later u ns p below some h d lt ne there)))
      (chain_kept w u (first_link w root d) (chains d) (node_word d ne lt) (p.laid d lt)));
  own_directory = λ d ld there. subst (IsOwn later) (sym (rooted d ld))
      (h.kept (w (root + 1 + d)) (p.own_directory d ld (λ z. there (rooted d ld ∙ z))) (p.directory_no_node d c ld below));
  own_node = λ d b lt k. for_each (λ e ms. e < CHAINS → IsAmong (blocks ms) b → IsOwn later b) c ns chains
      (λ l m. h.own b m) (λ e ne l m. h.kept b (p.own_node e b l m) (p.nodes_apart e c l below ne b m)) d lt k;
  root_no_directory = λ d ld e. p.root_no_directory d ld (sym (rooted d ld) ∙ e);
  root_no_node = for_each (λ d ms. d < CHAINS → IsAmong (blocks ms) root → ⊥) c ns chains
      (λ lt m. ⊎_elim (p.root_no_node c below) (λ f. f p.root_own) (h.from root m)) (λ d ne lt m. p.root_no_node d lt m);
  directories_once = λ d e ld le ne there same. p.directories_once d e ld le ne (λ z. there (rooted d ld ∙ z)) (sym (rooted d ld) ∙ same ∙ rooted e le);
  directory_no_node = λ d e ld le k. no_node d ld e le (subst (IsAmong (blocks (put_chain c ns chains e))) (rooted d ld) k);
  nodes_once = for_each (λ d ms. d < CHAINS → HasNoRepeats (blocks ms)) c ns chains (λ lt. h.once) (λ d ne lt. p.nodes_once d lt);
  nodes_apart = λ d e ld le ne. for_each (λ x ms. x < CHAINS → x ≢ e → AreApart (blocks ms) (blocks (put_chain c ns chains e))) c ns chains
      (λ lx nx b k. for_each (λ y ls. y < CHAINS → c ≢ y → IsAmong (blocks ls) b → ⊥) c ns chains
      (λ ly ny m. ny refl) (λ y other ly ny m. new_apart y other ly b k m) e le nx)
      (λ x other lx nx b k. for_each (λ y ls. y < CHAINS → x ≢ y → IsAmong (blocks ls) b → ⊥) c ns chains
      (λ ly ny m. new_apart x other lx b m k) (λ y another ly ny m. p.nodes_apart x y lx ly ny b k m) e le nx)
      d ld ne;
  all = λ b own. ⊎_elim (λ was. ⊎_elim (λ e. inl e) (λ there. inr (⊎_elim
      (λ d. inl (record { index = d.index; below = d.below; named = rooted d.index d.below ∙ d.named; positive = d.positive }))
      (λ n. inr (record {
        chain = n.chain;
        below = n.below;
        among = for_each (λ d ms. d ≡ n.chain → IsAmong (blocks ms) b) c ns chains
            (λ e. absurd (was.1 (subst (λ k. IsAmong (blocks (chains k)) b) (sym e) n.among)))
            (λ d ne e. subst (λ k. IsAmong (blocks (chains k)) b) (sym e) n.among) n.chain refl;
      })) there)) (p.all b was.0))
      (λ new. inr (inr (record { chain = c; below = below; among = subst (λ ms. IsAmong (blocks ms) b) (sym (put_chain_same c ns chains)) new })))
      (h.all b own);
  in_chain = for_each (λ d ms. d < CHAINS → EachNode (λ n. chain_number n.key ≡ d) ms) c ns chains (λ lt. h.in_chain) (λ d ne lt. p.in_chain d lt);
  keys_once = for_each (λ d ms. d < CHAINS → HasNoRepeats (keys ms)) c ns chains (λ lt. h.keys_once) (λ d ne lt. p.keys_once d lt);
  filled = for_each (λ d ms. d < CHAINS → EachNode (λ n. 1 ≤ n.value) ms) c ns chains (λ lt. h.filled) (λ d ne lt. p.filled d lt);
}
  where
    rooted : (d : ℕ) → d < 8 → u (root + 1 + d) ≡ w (root + 1 + d)
    rooted = root_word land w root chains c later u ns p below some h

    node_word : (d : ℕ) → d ≢ c → d < CHAINS → (b i : ℕ) → IsAmong (blocks (chains d)) b → 0 < i → i < 4 → u (b + i) ≡ w (b + i)
    node_word d ne lt b i k positive small =
        let at : chain_word (directory_of w root c) c ≡ directory_of w root c + (1 + c % 8) = omega arith in
        let qc = part_below c in
        let own = p.own_node d b lt k in
        let apart = blocks_apart land b (directory_of w root c) i (1 + c % 8) own (p.own_directory (c / 8) (index_below c below) some)
        (λ e. p.directory_no_node (c / 8) d (index_below c below) lt (subst (IsAmong (blocks (chains d))) e k)) (omega (arith, small)) (omega (arith, qc)) in
        h.elsewhere b i own (p.nodes_apart d c lt below ne b k) positive (omega (arith, small)) (λ e. apart (e ∙ at))

    no_node : (d : ℕ) → d < 8 → (e : ℕ) → e < CHAINS → IsAmong (blocks (put_chain c ns chains e)) (w (root + 1 + d)) → ⊥
    no_node d ld = for_each (λ e ms. e < CHAINS → IsAmong (blocks ms) (w (root + 1 + d)) → ⊥) c ns chains
        (λ le m. ⊎_elim (p.directory_no_node d c ld below)
        (λ f. ⊎_elim (λ zero_is. let q = (h.own (w (root + 1 + d)) m).0.positive in let z = zero_is.1 in omega (arith, q, z))
        (λ there. f (p.own_directory d ld there.1)) (eqb_tells (w (root + 1 + d)) 0))
        (h.from (w (root + 1 + d)) m))
        (λ e ne le m. p.directory_no_node d e ld le m)

    new_apart : (d : ℕ) → d ≢ c → d < CHAINS → (b : ℕ) → IsAmong (blocks ns) b → IsAmong (blocks (chains d)) b → ⊥
    new_apart d ne lt b k m = ⊎_elim (λ was. p.nodes_apart c d below lt (λ e. ne (sym e)) b was m) (λ f. f (p.own_node d b lt m)) (h.from b k)

-- ---- a new directory block

-- A block that was nobody's is the directory block of a chain that had none, and links to nothing.
pub record OpensDirectory (land : Land) (w : Words) (root c directory : ℕ) (later : Land) (u : Words) : Type 0 where
  pub not_own : IsOwn land directory → ⊥
  pub own : IsOwn later directory
  pub kept : (b : ℕ) → IsOwn land b → IsOwn later b
  pub all : (b : ℕ) → IsOwn later b → IsOwn land b ⊎ (b ≡ directory)
  pub named : directory_of u root c ≡ directory
  pub empty : (i : ℕ) → i < 8 → u (directory + 1 + i) ≡ 0
  pub elsewhere : (b i : ℕ) → IsOwn land b → 0 < i → i < 9 → b + i ≢ root + 1 + c / 8 → u (b + i) ≡ w (b + i)

no_chain : (land : Land) (w u : Words) (ns : List Node) → ((b : ℕ) → IsAmong (blocks ns) b → IsOwn land b) → IsChain w 0 ns → IsChain u 0 ns
no_chain land w u [] own h = refl
no_chain land w u (n ∷ ns) own h = absurd (let p = (own n.block (inl refl)).0.positive in let e = h.0 in omega (arith, p, e))

pub opened : (land : Land) (w : Words) (root : ℕ) (chains : Chains) (c directory : ℕ) (later : Land) (u : Words) → IsPlaced land w root chains → c < CHAINS
    → directory_of w root c ≡ 0 → OpensDirectory land w root c directory later u → IsPlaced later u root chains
opened land w root chains c directory later u p below none h = record {
  root_own = h.kept root p.root_own;
  laid = λ d lt. ⊎_elim
      (λ same. let e : d / 8 ≡ c / 8 = same.1 in
      let was : first_link w root d ≡ 0 = first_none w root d (ap (λ k. w (root + 1 + k)) e ∙ none) in
      let is : first_link u root d ≡ 0 = first_here u root d directory (ap (λ k. u (root + 1 + k)) e ∙ h.named) positive ∙ h.empty (d % 8) (part_below d) in
      subst (λ l. IsChain u l (chains d)) (sym is)
      (no_chain land w u (chains d) (λ b k. p.own_node d b lt k) (subst (λ l. IsChain w l (chains d)) was (p.laid d lt))))
      (λ other. subst (λ l. IsChain u l (chains d)) (sym (first_kept w u root d (rooted (d / 8) (index_below d lt) other.1) (λ there.
      let place : directory_of w root d + (1 + d % 8) ≡ chain_word (directory_of w root d) d = omega arith in
      let q = part_below d in
      ap u (sym place) ∙ h.elsewhere (directory_of w root d) (1 + d % 8) (p.own_directory (d / 8) (index_below d lt) there) (omega arith) (omega (arith, q))
      (λ e. blocks_apart land root (directory_of w root d) (1 + c / 8) (1 + d % 8) p.root_own (p.own_directory (d / 8) (index_below d lt) there)
      (λ f. p.root_no_directory (d / 8) (index_below d lt) (sym f)) (let i = index_below c below in omega (arith, i)) (omega (arith, q)) (omega (arith, e)))
      ∙ ap w place)))
      (chain_kept w u (first_link w root d) (chains d) (λ b i k pos small. node_word d lt b i k pos small) (p.laid d lt)))
      (eqb_tells (d / 8) (c / 8));
  own_directory = λ d ld there. by_index d ld (λ x. x ≢ 0 → IsOwn later x) (λ ne there. h.kept (w (root + 1 + d)) (p.own_directory d ld there)) (λ e there. h.own) there;
  own_node = λ d b lt k. h.kept b (p.own_node d b lt k);
  root_no_directory = λ d ld. by_index d ld (λ x. x ≢ root) (λ ne. p.root_no_directory d ld) (λ e same. h.not_own (subst (IsOwn land) (sym same) p.root_own));
  root_no_node = p.root_no_node;
  directories_once = λ d e ld le ne. by_index d ld (λ x. x ≢ 0 → x ≢ u (root + 1 + e))
      (λ other there. by_index e le (λ y. w (root + 1 + d) ≢ y) (λ another. p.directories_once d e ld le ne there)
      (λ g same. h.not_own (subst (IsOwn land) same (p.own_directory d ld there))))
      (λ f there. by_index e le (λ y. directory ≢ y)
      (λ another same. h.not_own (subst (IsOwn land) (sym same) (p.own_directory e le (λ z. positive (same ∙ z)))))
      (λ g same. ne (f ∙ sym g)));
  directory_no_node = λ d e ld le. by_index d ld (λ x. IsAmong (blocks (chains e)) x → ⊥) (λ other. p.directory_no_node d e ld le)
      (λ f k. h.not_own (p.own_node e directory le k));
  nodes_once = p.nodes_once;
  nodes_apart = p.nodes_apart;
  all = λ b own. ⊎_elim
      (λ was. ⊎_elim (λ e. inl e) (λ there. inr (⊎_elim
      (λ d. inl (record {
        index = d.index;
        below = d.below;
        named = rooted d.index d.below (λ e. d.positive (sym d.named ∙ ap (λ k. w (root + 1 + k)) e ∙ none)) ∙ d.named;
        positive = d.positive;
      }))
      (λ n. inr n) there)) (p.all b was))
      (λ e. inr (inl (record { index = c / 8; below = index_below c below; named = h.named ∙ sym e; positive = λ z. positive (sym e ∙ z) })))
      (h.all b own);
  in_chain = p.in_chain;
  keys_once = p.keys_once;
  filled = p.filled;
}
  where
    positive : directory ≢ 0
    positive z = let q = h.own.0.positive in omega (arith, q, z)

    first_none : (v : Words) (r d : ℕ) → directory_of v r d ≡ 0 → first_link v r d ≡ 0
    first_none v r d e = ap (λ x. if x == 0 then 0 else v (chain_word x d)) e

    rooted : (d : ℕ) → d < 8 → d ≢ c / 8 → u (root + 1 + d) ≡ w (root + 1 + d)
    rooted d ld ne =
        let place : root + (1 + d) ≡ root + 1 + d = omega arith in
        ap u (sym place) ∙ h.elsewhere root (1 + d) p.root_own (omega arith) (omega (arith, ld)) (λ e. ne (omega (arith, e))) ∙ ap w place

    -- what a word of the root names: what it named, or the new block
    by_index : (d : ℕ) → d < 8 → (P : ℕ → Type 0) → (d ≢ c / 8 → P (w (root + 1 + d))) → (d ≡ c / 8 → P directory) → P (u (root + 1 + d))
    by_index d ld P other here = ⊎_elim
        (λ same. subst P (sym (ap (λ k. u (root + 1 + k)) same.1 ∙ h.named)) (here same.1))
        (λ apart. subst P (sym (rooted d ld apart.1)) (other apart.1))
        (eqb_tells d (c / 8))

    node_word : (d : ℕ) → d < CHAINS → (b i : ℕ) → IsAmong (blocks (chains d)) b → 0 < i → i < 4 → u (b + i) ≡ w (b + i)
    node_word d lt b i k pos small =
        let q = index_below c below in
        h.elsewhere b i (p.own_node d b lt k) pos (omega (arith, small))
        (λ e. blocks_apart land b root i (1 + c / 8) (p.own_node d b lt k) p.root_own (λ f. p.root_no_node d lt (subst (IsAmong (blocks (chains d))) f k))
        (omega (arith, small)) (omega (arith, q)) (omega (arith, e)))
