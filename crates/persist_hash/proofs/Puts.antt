-- A put: the words are the map with the pair then.
use Rattle.std.proofs.Common.{◌≡◌, ◌≢◌, inl, inr, ⊎_elim, ℕ, ◌+◌, ◌/◌, ◌%◌, ◌<◌, ◌≤◌, true, false, Bool, if◌then◌else◌, ◌==◌, nat_lt, ltb-true, ◌-◌, List, [], ◌∷◌, Some, refl, ap, sym, ◌∙◌, arith, subst}
use Rattle.std.proofs.lemmas.Bool.Decides.{nat_tests, eqb_tells}
use Rattle.persist_model.specs.Region.{Words}
use Rattle.persist_model.specs.Records.{IsAmong}
use Rattle.lane_traits.specs.Space.{Land, Space, AreSpare, IsBlock, IsOwn, put_word, taken}
use Rattle.lane_traits.proofs.Among.{absent_of}
use Rattle.lane_traits.proofs.Writes.{put_same, put_other}
use Rattle.region_layout.specs.FiniteMap.{FiniteMap, lookup, with_pair}
use Rattle.region_layout.specs.HashMap.{Node, Chains, IsChain, IsHash, blocks, keys, pairs, chain_number, directory_of, chain_word}
use Rattle.persist_hash.specs.Chains.{HasNotKey, IsPlaceOf, put_chain}
use Rattle.persist_hash.specs.Calls.{Holds, TakesBlocks}
use Rattle.persist_hash.specs.Adding.{linked, AddsNode, link_to, OpensChain, AddsDirectory}
use Rattle.persist_hash.proofs.Adding.{among_kept, opens_elsewhere}
use Rattle.persist_hash.proofs.Lands.{with_block, own_more, own_new, own_either}
use Rattle.persist_hash.proofs.Lists.{decide}
use Rattle.persist_hash.proofs.ChainLaws.{each_joined, blocks_apart, chain_kept}
use Rattle.persist_hash.proofs.Blocks.{IsPlaced, placed_of, of_placed}
use Rattle.persist_hash.proofs.Changing.{changed, OpensDirectory, opened}
use Rattle.persist_hash.proofs.Places.{none_there, chain_below, index_below}
use Rattle.persist_hash.proofs.Entries.{lookup_changed, lookup-with_pair, ascending-with_pair, changed_at}

-- ---- a node more

not_key_once : (key : ℕ) (ns : List Node) → HasNotKey key ns → IsAmong (keys ns) key → ⊥
not_key_once key [] h k = k
not_key_once key (n ∷ ns) h (inl e) = h.0 e
not_key_once key (n ∷ ns) h (inr k) = not_key_once key ns h.1 k

-- what the words are with a node in front of a chain
pub record HasNewNode (land : Land) (w : Words) (root c node key value : ℕ) (u : Words) : Type 0 where
  pub elsewhere : (b i : ℕ) → IsOwn land b → 0 < i → i < 9 → b + i ≢ chain_word (directory_of w root c) c → u (b + i) ≡ w (b + i)
  pub named : u (chain_word (directory_of w root c) c) ≡ node
  pub key_is : u (node + 1) ≡ key
  pub value_is : u (node + 2) ≡ value
  pub next_is : u (node + 3) ≡ w (chain_word (directory_of w root c) c)

first_is : (w : Words) (root c : ℕ) → directory_of w root c ≢ 0 → (if directory_of w root c == 0 then 0 else w (chain_word (directory_of w root c) c)) ≡ w (chain_word (directory_of w root c) c)
first_is w root c some = let off : (directory_of w root c == 0) ≡ false = grind (arith, nat_tests) in rw off refl

pub node_added : (land : Land) (w : Words) (root : ℕ) (chains : Chains) (key value node : ℕ) (u : Words) → IsPlaced land w root chains
    → directory_of w root (chain_number key) ≢ 0 → IsBlock land node → (IsOwn land node → ⊥) → HasNotKey key (chains (chain_number key)) → 1 ≤ value
    → HasNewNode land w root (chain_number key) node key value u
    → IsPlaced (with_block node land) u root (put_chain (chain_number key) (record { block = node; key = key; value = value } ∷ chains (chain_number key)) chains)
node_added land w root chains key value node u p some block fresh absent filled h = changed land w root chains c (with_block node land) u (n ∷ chains c) p below some (record {
  elsewhere = λ b i own out pos small. h.elsewhere b i own pos small;
  laid = (
    h.named,
    h.key_is,
    h.value_is,
    subst (λ l. IsChain u l (chains c)) (sym h.next_is)
        (chain_kept w u (w slot) (chains c) (λ b i k pos small. h.elsewhere b i (p.own_node c b below k) pos (omega (arith, small)) (apart b i k small))
        (subst (λ l. IsChain w l (chains c)) (first_is w root c some) (p.laid c below))),
  );
  kept = λ b own out. own_more land node b own;
  own = λ b k. ⊎_elim (λ e. subst (IsOwn (with_block node land)) (sym e) (own_new land node block)) (λ m. own_more land node b (p.own_node c b below m)) k;
  from = λ b k. ⊎_elim (λ e. inr (λ own. fresh (subst (IsOwn land) e own))) (λ m. inl m) k;
  once = (absent_of (blocks (chains c)) node (λ k. fresh (p.own_node c node below k)), p.nodes_once c below);
  all = λ b own. ⊎_elim
      (λ was. ⊎_elim (λ k. inr (inr k)) (λ out. inl (was, out)) (decide (blocks (chains c)) b))
      (λ e. inr (inl e))
      (own_either land node b own);
  in_chain = (refl, p.in_chain c below);
  keys_once = (absent_of (keys (chains c)) key (not_key_once key (chains c) absent), p.keys_once c below);
  filled = (filled, p.filled c below);
})
  where
    c : ℕ
    c = chain_number key

    n : Node
    n = record { block = node; key = key; value = value }

    below : chain_number key < 64
    below = chain_below key

    slot : ℕ
    slot = chain_word (directory_of w root (chain_number key)) (chain_number key)

    apart : (b i : ℕ) → IsAmong (blocks (chains (chain_number key))) b → i < 4 → b + i ≢ chain_word (directory_of w root (chain_number key)) (chain_number key)
    apart b i k small e =
        let q = index_below (chain_number key) (chain_below key) in
        let place : chain_word (directory_of w root (chain_number key)) (chain_number key) ≡ directory_of w root (chain_number key) + (1 + chain_number key % 8) = omega arith in
        blocks_apart land b (directory_of w root (chain_number key)) i (1 + chain_number key % 8) (p.own_node (chain_number key) b (chain_below key) k)
        (p.own_directory (chain_number key / 8) q some)
        (λ f. p.directory_no_node (chain_number key / 8) (chain_number key) q (chain_below key) (subst (IsAmong (blocks (chains (chain_number key)))) f k))
        (omega (arith, small)) (omega arith) (e ∙ place)

-- the chain of a key that isn't there has no node with it
absent_key : (s : Space) (root key : ℕ) (chains : Chains) (directory link node : ℕ) → IsHash s.land s.word root chains
    → IsPlaceOf s root key (chains (chain_number key)) directory link node → node ≡ 0 → HasNotKey key (chains (chain_number key))
absent_key s root key chains directory link node h place none =
    let empty = none_there s root key chains directory link node h place none in
    subst (HasNotKey key) (sym place.parts)
    (each_joined (λ n. key ≢ n.key) place.front place.rest place.passed (subst (HasNotKey key) (sym empty) tt))

-- the entries with the pair are those of the changed chain
pub entries_put : (s : Space) (root key value : ℕ) (contents : FiniteMap) (holds : Holds s root contents) (u : Space) (ns : List Node)
    → IsHash u.land u.word root (put_chain (chain_number key) ns holds.chains)
    → ((k : ℕ) → lookup k (pairs ns) ≡ changed_at key (Some value) k (lookup k (pairs (holds.chains (chain_number key))))) → Holds u root (with_pair key value contents)
entries_put s root key value contents holds u ns is look = record {
  chains = put_chain (chain_number key) ns holds.chains;
  is = is;
  ascending = ascending-with_pair key value contents holds.ascending;
  lookup_is = lookup_changed key (Some value) contents (with_pair key value contents) ns holds.chains holds.lookup_is
      (λ k. lookup-with_pair k key value contents) look;
}

linked_words : (land : Land) (w : Words) (root c node key value : ℕ) → IsOwn land (directory_of w root c) → IsBlock land node → (IsOwn land node → ⊥)
    → HasNewNode land w root c node key value
    (put_word (chain_word (directory_of w root c) c) node (put_word (node + 3) (w (chain_word (directory_of w root c) c)) (put_word (node + 2) value (put_word (node + 1) key w))))
linked_words land w root c node key value own block fresh = record {
  elsewhere = λ b i has pos small ne.
      let ne_node : b ≢ node = (λ e. fresh (subst (IsOwn land) e has)) in
      let apart : (j : ℕ) → j < 16 → b + i ≢ node + j =
      (λ j lt. blocks_apart (with_block node land) b node i j (own_more land node b has) (own_new land node block) ne_node (omega (arith, small)) lt) in
      put_other slot node (b + i) w3 ne ∙ put_other (node + 3) (w slot) (b + i) w2 (apart 3 (omega arith))
      ∙ put_other (node + 2) value (b + i) w1 (apart 2 (omega arith)) ∙ put_other (node + 1) key (b + i) w (apart 1 (omega arith));
  named = put_same slot node w3;
  key_is = put_other slot node (node + 1) w3 (slot_apart 1 (omega arith)) ∙ put_other (node + 3) (w slot) (node + 1) w2 (λ e. omega (arith, e))
      ∙ put_other (node + 2) value (node + 1) w1 (λ e. omega (arith, e)) ∙ put_same (node + 1) key w;
  value_is = put_other slot node (node + 2) w3 (slot_apart 2 (omega arith)) ∙ put_other (node + 3) (w slot) (node + 2) w2 (λ e. omega (arith, e))
      ∙ put_same (node + 2) value w1;
  next_is = put_other slot node (node + 3) w3 (slot_apart 3 (omega arith)) ∙ put_same (node + 3) (w slot) w2;
}
  where
    slot : ℕ
    slot = chain_word (directory_of w root c) c

    w1 : Words
    w1 = put_word (node + 1) key w

    w2 : Words
    w2 = put_word (node + 2) value (put_word (node + 1) key w)

    w3 : Words
    w3 = put_word (node + 3) (w (chain_word (directory_of w root c) c)) (put_word (node + 2) value (put_word (node + 1) key w))

    slot_apart : (j : ℕ) → j < 16 → node + j ≢ chain_word (directory_of w root c) c
    slot_apart j lt e =
        let place : chain_word (directory_of w root c) c ≡ directory_of w root c + (1 + c % 8) = omega arith in
        blocks_apart (with_block node land) node (directory_of w root c) j (1 + c % 8) (own_new land node block) (own_more land node (directory_of w root c) own)
        (λ f. fresh (subst (IsOwn land) (sym f) own)) lt (omega arith) (e ∙ place)

-- a new node in a chain that has a directory block
pub holds_added : (s u : Space) (root key value : ℕ) (contents : FiniteMap) (holds : Holds s root contents) (directory link node slot : ℕ)
    → IsPlaceOf s root key (holds.chains (chain_number key)) directory link node → AreSpare s → node ≡ 0 → directory ≢ 0 → 1 ≤ value
    → slot ≡ chain_word directory (chain_number key) → AddsNode slot key value s u → Holds u root (with_pair key value contents)
holds_added s u root key value contents holds directory link node slot place spare none some filled slot_is adds =
    let c = chain_number key in
    let p = placed_of s.land s.word root holds.chains holds.is in
    let new = adds.node in
    let fresh : IsOwn s.land new → ⊥ = (λ own. (spare.apart new adds.among).1 own.1) in
    let there : directory_of s.word root c ≢ 0 = (λ z. some (place.directory_is ∙ z)) in
    let at : slot ≡ chain_word (directory_of s.word root c) c = slot_is ∙ ap (λ x. chain_word x c) place.directory_is in
    let words = linked_words s.land s.word root c new key value (p.own_directory (c / 8) (index_below c (chain_below key)) there) adds.block fresh in
    let is = node_added s.land s.word root holds.chains key value new
    (linked (chain_word (directory_of s.word root c) c) new key value (taken new s)).word p there adds.block fresh
    (absent_key s root key holds.chains directory link node holds.is place none) filled words in
    subst (λ (v : Space). Holds v root (with_pair key value contents)) (sym (adds.space ∙ ap (λ x. linked x new key value (taken new s)) at))
    (entries_put s root key value contents holds (linked (chain_word (directory_of s.word root c) c) new key value (taken new s))
    (record { block = new; key = key; value = value } ∷ holds.chains c)
    (of_placed (with_block new s.land) (linked (chain_word (directory_of s.word root c) c) new key value (taken new s)).word root
    (put_chain c (record { block = new; key = key; value = value } ∷ holds.chains c) holds.chains) is)
    (λ k. refl))

pub takes_one : (s u : Space) (slot key value : ℕ) → AddsNode slot key value s u → TakesBlocks 1 s u
takes_one s u slot key value adds = record {
  blocks = adds.node ∷ [];
  many = refl;
  took = (adds.among, (ap (λ (v : Space). v.land) adds.space, ap (λ (v : Space). v.spare) adds.space));
}

pub writes_four : (s u : Space) (slot key value : ℕ) → AddsNode slot key value s u → u.writes ≤ s.writes + 12
writes_four s u slot key value adds = let e = ap (λ (v : Space). v.writes) adds.space in omega (arith, e)

-- ---- a directory block more

opened_words : ℕ → ℕ → Words → Words
opened_words at directory w = λ a. if a == at then directory else (if nat_lt directory a then (if nat_lt a (directory + 9) then 0 else w a) else w a)

opened_named : (at directory : ℕ) (w : Words) → opened_words at directory w at ≡ directory
unfolding opened_words
opened_named at directory w = let on : (at == at) ≡ true = grind (arith, nat_tests) in rw on refl

opened_empty : (at directory i : ℕ) (w : Words) → directory + (1 + i) ≢ at → i < 8 → opened_words at directory w (directory + (1 + i)) ≡ 0
unfolding opened_words
opened_empty at directory i w ne lt =
    let off : (directory + (1 + i) == at) ≡ false = grind (arith, nat_tests) in
    let low : nat_lt directory (directory + (1 + i)) ≡ true = grind (arith, nat_tests) in
    let high : nat_lt (directory + (1 + i)) (directory + 9) ≡ true = grind (arith, nat_tests) in
    rw (off, low, high) refl

opened_other : (at directory a : ℕ) (w : Words) → a ≢ at → ((i : ℕ) → i < 8 → a ≢ directory + (1 + i)) → opened_words at directory w a ≡ w a
unfolding opened_words
opened_other at directory a w ne out =
    let off : (a == at) ≡ false = grind (arith, nat_tests) in
    rw off (step (nat_lt directory a) (nat_lt a (directory + 9)) refl refl)
  where
    step : (s t : Bool) → nat_lt directory a ≡ s → nat_lt a (directory + 9) ≡ t → (if s then (if t then 0 else w a) else w a) ≡ w a
    step true true low high = absurd (
        let above : directory < a = ltb-true directory a low in
        let under : a < directory + 9 = ltb-true a (directory + 9) high in
        out (a - (directory + 1)) (omega (arith, above, under)) (omega (arith, above)))
    step true false low high = refl
    step false t low high = refl

opens_directory : (land : Land) (w : Words) (root c directory : ℕ) → IsOwn land root → c < 64 → IsBlock land directory → (IsOwn land directory → ⊥)
    → OpensDirectory land w root c directory (with_block directory land) (opened_words (root + 1 + c / 8) directory w)
opens_directory land w root c directory own below block fresh = record {
  not_own = fresh;
  own = own_new land directory block;
  kept = own_more land directory;
  all = own_either land directory;
  named = opened_named (root + 1 + c / 8) directory w;
  empty = λ i lt.
      let place : directory + (1 + i) ≡ directory + 1 + i = omega arith in
      ap (opened_words (root + 1 + c / 8) directory w) (sym place) ∙ opened_empty (root + 1 + c / 8) directory i w (λ e. root_apart (1 + i) (omega (arith, lt)) e) lt;
  elsewhere = λ b i has pos small ne. opened_other (root + 1 + c / 8) directory (b + i) w ne
      (λ j lt. blocks_apart (with_block directory land) b directory i (1 + j) (own_more land directory b has) (own_new land directory block)
      (λ e. fresh (subst (IsOwn land) e has)) (omega (arith, small)) (omega (arith, lt)));
}
  where
    root_apart : (j : ℕ) → j < 16 → directory + j ≢ root + 1 + c / 8
    root_apart j lt e =
        let q = index_below c below in
        let place : root + 1 + c / 8 ≡ root + (1 + c / 8) = omega arith in
        blocks_apart (with_block directory land) directory root j (1 + c / 8) (own_new land directory block) (own_more land directory root own)
        (λ f. fresh (subst (IsOwn land) (sym f) own)) lt (omega (arith, q)) (e ∙ place)

-- what the code leaves is a node more in the words with the new directory block
new_chain : (s u : Space) (root key value directory node : ℕ) → IsOwn s.land root → IsBlock s.land directory → (IsOwn s.land directory → ⊥)
    → IsBlock (with_block directory s.land) node → (IsOwn (with_block directory s.land) node → ⊥)
    → OpensChain root (chain_number key / 8) directory (chain_number key % 8) node key value (taken node (taken directory s)) u
    → HasNewNode (with_block directory s.land) (opened_words (root + 1 + chain_number key / 8) directory s.word) root (chain_number key) node key value u.word
new_chain s u root key value directory node own block fresh node_block node_fresh h = record {
  elsewhere = λ b i has pos small ne. ⊎_elim
      (λ at. let e = at.1 in ap u.word (e ∙ place) ∙ h.named ∙ sym (ap w1 e ∙ opened_named (root + 1 + c / 8) directory s.word))
      (λ off. ⊎_elim
      (λ same. let e : b ≡ directory = same.1 in
      let shift : b + i ≡ directory + (1 + (i - 1)) = omega (arith, e, pos) in
      let other : i - 1 ≢ c % 8 = (λ f. ne (slot_is (b + i) (i - 1) shift f)) in
      let under : i - 1 < 8 = omega (arith, small, pos) in
      ap u.word shift ∙ h.links (i - 1) under ∙ no_link (i - 1) (c % 8) node other
      ∙ sym (ap w1 shift ∙ opened_empty (root + 1 + c / 8) directory (i - 1) s.word (λ g. off.1 (shift ∙ g)) under))
      (λ other. opens_elsewhere root (c / 8) directory (c % 8) node key value (taken node (taken directory s)) u h
      (own_more (with_block directory s.land) node directory (own_new s.land directory block)) (own_new (with_block directory s.land) node node_block) b i
      (own_more (with_block directory s.land) node b has) other.1 (λ f. node_fresh (subst (IsOwn (with_block directory s.land)) f has))
      (omega (arith, small)) (λ f. off.1 (f ∙ sym place))
      ∙ sym (opened_other (root + 1 + c / 8) directory (b + i) s.word off.1
      (λ j lt. blocks_apart (with_block directory s.land) b directory i (1 + j) has (own_new s.land directory block) other.1 (omega (arith, small)) (omega (arith, lt)))))
      (eqb_tells b directory))
      (eqb_tells (b + i) (root + 1 + c / 8));
  named = ap u.word slot_at ∙ h.links (c % 8) (omega arith) ∙ this_link (c % 8) node;
  key_is = h.key_is;
  value_is = h.value_is;
  next_is = h.next_is ∙ sym (ap w1 slot_at ∙ opened_empty (root + 1 + c / 8) directory (c % 8) s.word (λ e. directory_apart (1 + c % 8) (omega arith) e) (omega arith));
}
  where
    c : ℕ
    c = chain_number key

    w1 : Words
    w1 = opened_words (root + 1 + chain_number key / 8) directory s.word

    place : root + 1 + chain_number key / 8 ≡ root + (1 + chain_number key / 8)
    place = omega arith

    slot_at : chain_word (directory_of (opened_words (root + 1 + chain_number key / 8) directory s.word) root (chain_number key)) (chain_number key) ≡ directory + (1 + chain_number key % 8)
    slot_at = ap (λ x. chain_word x (chain_number key)) (opened_named (root + 1 + chain_number key / 8) directory s.word) ∙ (let e : directory + 1 + chain_number key % 8 ≡ directory + (1 + chain_number key % 8) = omega arith in e)

    slot_is : (a j : ℕ) → a ≡ directory + (1 + j) → j ≡ chain_number key % 8 → a ≡ chain_word (directory_of (opened_words (root + 1 + chain_number key / 8) directory s.word) root (chain_number key)) (chain_number key)
    slot_is a j e f = e ∙ ap (λ x. directory + (1 + x)) f ∙ sym slot_at

    no_link : (i k n : ℕ) → i ≢ k → link_to k n i ≡ 0
    no_link i k n ne = let off : (i == k) ≡ false = grind (arith, nat_tests) in rw off refl

    this_link : (k n : ℕ) → link_to k n k ≡ n
    this_link k n = let on : (k == k) ≡ true = grind (arith, nat_tests) in rw on refl

    directory_apart : (j : ℕ) → j < 16 → directory + j ≢ root + 1 + chain_number key / 8
    directory_apart j lt e =
        let q = index_below (chain_number key) (chain_below key) in
        blocks_apart (with_block directory s.land) directory root j (1 + chain_number key / 8) (own_new s.land directory block) (own_more s.land directory root own)
        (λ f. fresh (subst (IsOwn s.land) (sym f) own)) lt (omega (arith, q)) (e ∙ place)

-- a new node in a chain that had no directory block
pub holds_opened : (s u : Space) (root key value : ℕ) (contents : FiniteMap) (holds : Holds s root contents) (directory link node index place : ℕ)
    → IsPlaceOf s root key (holds.chains (chain_number key)) directory link node → AreSpare s → node ≡ 0 → directory ≡ 0 → 1 ≤ value
    → index ≡ chain_number key / 8 → place ≡ chain_number key % 8 → AddsDirectory root index place key value s u → Holds u root (with_pair key value contents)
holds_opened s u root key value contents holds directory link node index place at spare none missing filled index_is place_is adds =
    let c = chain_number key in
    let p = placed_of s.land s.word root holds.chains holds.is in
    let block = adds.directory in
    let new = adds.node in
    let fresh : IsOwn s.land block → ⊥ = (λ own. (spare.apart block adds.among).1 own.1) in
    let new_spare = among_kept block s.spare new adds.node_among in
    let new_fresh : IsOwn (with_block block s.land) new → ⊥ = (λ own. ⊎_elim (λ was. (spare.apart new new_spare.0).1 was.1) new_spare.1 (own_either s.land block new own)) in
    let below = chain_below key in
    let before : directory_of s.word root c ≡ 0 = sym at.directory_is ∙ missing in
    let w1 = opened_words (root + 1 + c / 8) block s.word in
    let p1 = opened s.land s.word root holds.chains c block (with_block block s.land) w1 p below before (opens_directory s.land s.word root c block holds.is.root_own below adds.block fresh) in
    let positive = adds.block.positive in
    let some : directory_of w1 root c ≢ 0 = (λ z. let e = opened_named (root + 1 + c / 8) block s.word in omega (arith, e, z, positive)) in
    let opens : OpensChain root (c / 8) block (c % 8) new key value (taken new (taken block s)) u =
    subst (λ x. OpensChain root (c / 8) block x new key value (taken new (taken block s)) u) place_is
    (subst (λ x. OpensChain root x block place new key value (taken new (taken block s)) u) index_is adds.opens) in
    let is = node_added (with_block block s.land) w1 root holds.chains key value new u.word p1 some adds.node_block new_fresh
    (absent_key s root key holds.chains directory link node holds.is at none) filled
    (new_chain s u root key value block new holds.is.root_own adds.block fresh adds.node_block new_fresh opens) in
    entries_put s root key value contents holds u (record { block = new; key = key; value = value } ∷ holds.chains c)
    (of_placed u.land u.word root (put_chain c (record { block = new; key = key; value = value } ∷ holds.chains c) holds.chains)
    (subst (λ (l : Land). IsPlaced l u.word root (put_chain c (record { block = new; key = key; value = value } ∷ holds.chains c) holds.chains)) (sym opens.land) is))
    (λ k. refl)

pub takes_two : (s u : Space) (root index place key value : ℕ) → AddsDirectory root index place key value s u → TakesBlocks 2 s u
takes_two s u root index place key value adds = record {
  blocks = adds.directory ∷ adds.node ∷ [];
  many = refl;
  took = (adds.among, (adds.node_among, (adds.opens.land, adds.opens.spare)));
}

pub writes_twelve : (s u : Space) (root index place key value : ℕ) → AddsDirectory root index place key value s u → u.writes ≤ s.writes + 12
writes_twelve s u root index place key value adds = let e = adds.opens.writes in omega (arith, e)
