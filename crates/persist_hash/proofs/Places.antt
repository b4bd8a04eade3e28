-- Where a key is in a hash.
use Rattle.std.proofs.Common.{◌≡◌, ◌≢◌, ⊎_elim, ℕ, ◌+◌, ◌/◌, ◌%◌, ◌^◌, ◌<◌, if◌then◌else◌, ◌==◌, List, [], ◌∷◌, ◌++◌, length, false, Option, Some, None, is_some, refl, ap, sym, ◌∙◌, arith, subst}
use Rattle.std.proofs.lemmas.Bool.Decides.{nat_tests, eqb_tells}
use Rattle.persist_model.specs.Region.{Words}
use Rattle.lane_traits.specs.Device.{MAX_WORDS}
use Rattle.lane_traits.specs.Space.{Land, Space, IsOwn, IsDataWordOf}
use Rattle.region_layout.specs.FiniteMap.{FiniteMap, lookup}
use Rattle.region_layout.specs.HashMap.{Node, Chains, IsChain, IsHash, blocks, pairs, chain_number, directory_of, chain_word, first_link}
use Rattle.persist_hash.specs.Chains.{link_behind, AreOwnNodes, BeginsChain, IsFound, IsHead, IsPlaceOf, first_block, HasHash}
use Rattle.persist_hash.proofs.Lists.{at_most, each_of}
use Rattle.persist_hash.specs.Calls.{Holds, HasMap, needed}
use Rattle.persist_hash.proofs.ChainLaws.{chain_once, own_of_blocks, chain_behind, each_right}
use Rattle.persist_hash.proofs.Entries.{lookup_passed, lookup_head}
use Rattle.persist_hash.proofs.Searching.{laid_rest}
use Rattle.persist_hash.proofs.Blocks.{placed_of}

pub chain_below : (key : ℕ) → chain_number key < 64
chain_below key = omega arith

pub index_below : (c : ℕ) → c < 64 → c / 8 < 8
index_below c below = omega (arith, below)

-- the word of the root that names a directory block, and what it names
pub directory_held : (land : Land) (root c : ℕ) → IsOwn land root → c < 64 → IsDataWordOf land (root + 1 + c / 8)
directory_held land root c own below =
    let q = index_below c below in
    record { block = root; index = 1 + c / 8; own = own; place = omega arith; above = omega arith; below = omega (arith, q) }

pub directory_fits : (land : Land) (w : Words) (root : ℕ) (chains : Chains) (c : ℕ) → IsHash land w root chains → c < 64 → directory_of w root c < 2 ^ 32
directory_fits land w root chains c h below = ⊎_elim
    (λ none. let e = none.1 in omega (arith, e))
    (λ some. let f = ((placed_of land w root chains h).own_directory (c / 8) (index_below c below) some.1).0.fits in omega (arith, f))
    (eqb_tells (directory_of w root c) 0)

pub directory_own : (land : Land) (w : Words) (root : ℕ) (chains : Chains) (c : ℕ) → IsHash land w root chains → c < 64 → directory_of w root c ≢ 0 → IsOwn land (directory_of w root c)
directory_own land w root chains c h below some = (placed_of land w root chains h).own_directory (c / 8) (index_below c below) some

pub slot_held : (land : Land) (directory c : ℕ) → IsOwn land directory → IsDataWordOf land (directory + 1 + c % 8)
slot_held land directory c own = record { block = directory; index = 1 + c % 8; own = own; place = omega arith; above = omega arith; below = omega arith }

pub first_is : (w : Words) (root c : ℕ) → directory_of w root c ≢ 0 → first_link w root c ≡ w (chain_word (directory_of w root c) c)
first_is w root c some = let off : (directory_of w root c == 0) ≡ false = grind (arith, nat_tests) in rw off refl

pub none_is : (w : Words) (root c : ℕ) → directory_of w root c ≡ 0 → first_link w root c ≡ 0
none_is w root c none = ap (λ x. if x == 0 then 0 else w (chain_word x c)) none

pub length-blocks : (ns : List Node) → length (blocks ns) ≡ length ns
length-blocks [] = refl
length-blocks (n ∷ ns) = let again = length-blocks ns in omega (arith, again)

-- a chain begins at its word
pub begins : (s : Space) (root : ℕ) (chains : Chains) (c : ℕ) → IsHash s.land s.word root chains → c < 64 → directory_of s.word root c ≢ 0
    → BeginsChain s (chain_word (directory_of s.word root c) c) (chains c)
begins s root chains c h below some =
    let p = placed_of s.land s.word root chains h in
    record {
      «data» = slot_held s.land (directory_of s.word root c) c (directory_own s.land s.word root chains c h below some);
      laid = subst (λ l. IsChain s.word l (chains c)) (first_is s.word root c some) (p.laid c below);
      own = own_of_blocks s.land (chains c) (λ b k. p.own_node c b below k);
      few = (
          let few = at_most MAX_WORDS (blocks (chains c)) (p.nodes_once c below)
          (each_of (λ x. x < MAX_WORDS) (blocks (chains c)) (λ b k. let f = (p.own_node c b below k).0.fits in omega (arith, f))) in
          let long = length-blocks (chains c) in
          omega (arith, few, long));
    }

-- without a directory block the chain is empty
empty_chain : (land : Land) (w : Words) (ns : List Node) → AreOwnNodes land ns → IsChain w 0 ns → ns ≡ []
empty_chain land w [] own laid = refl
empty_chain land w (n ∷ ns) own laid = absurd (let q = own.0.0.positive in let e = laid.0 in omega (arith, q, e))

pub no_nodes : (land : Land) (w : Words) (root : ℕ) (chains : Chains) (c : ℕ) → IsHash land w root chains → c < 64 → directory_of w root c ≡ 0 → chains c ≡ []
no_nodes land w root chains c h below none =
    let p = placed_of land w root chains h in
    empty_chain land w (chains c) (own_of_blocks land (chains c) (λ b k. p.own_node c b below k))
    (subst (λ l. IsChain w l (chains c)) (none_is w root c none) (p.laid c below))

pub place_none : (s : Space) (root key : ℕ) (chains : Chains) (c directory : ℕ) → c ≡ chain_number key → IsHash s.land s.word root chains
    → directory ≡ directory_of s.word root c → directory ≡ 0 → IsPlaceOf s root key (chains (chain_number key)) directory 0 0
place_none s root key chains c directory chain_is h directory_is none = record {
  directory_is = directory_is ∙ ap (directory_of s.word root) chain_is;
  front = [];
  rest = [];
  parts = ap chains (sym chain_is) ∙ no_nodes s.land s.word root chains c h (let q = chain_below key in omega (arith, chain_is, q)) (sym directory_is ∙ none);
  passed = tt;
  head = tt;
  node_is = refl;
  link_is = λ some. absurd (some none);
}

first_block_is : (w : Words) (node : ℕ) (rest : List Node) → IsChain w node rest → node ≡ first_block rest
first_block_is w node [] laid = laid
first_block_is w node (n ∷ ns) laid = laid.0

pub place_found : (s : Space) (root key : ℕ) (chains : Chains) (c directory at link node : ℕ) → c ≡ chain_number key → IsHash s.land s.word root chains
    → directory ≡ directory_of s.word root c → directory ≢ 0 → at ≡ chain_word directory c → IsFound s at key link node
    → IsPlaceOf s root key (chains (chain_number key)) directory link node
place_found s root key chains c directory at link node chain_is h directory_is some at_is found =
    let sought = found.sought in
    let below : c < 64 = (let q = chain_below key in omega (arith, chain_is, q)) in
    let begin = begins s root chains c h below (λ z. some (directory_is ∙ z)) in
    let at_word : at ≡ chain_word (directory_of s.word root c) c = at_is ∙ ap (λ x. chain_word x c) directory_is in
    record {
      directory_is = directory_is ∙ ap (directory_of s.word root) chain_is;
      front = sought.front;
      rest = sought.rest;
      parts = ap chains (sym chain_is) ∙ chain_once s.land s.word (s.word at) (chains c) (sought.front ++ sought.rest) begin.own sought.begins.own
          (subst (λ l. IsChain s.word (s.word l) (chains c)) (sym at_word) begin.laid) sought.begins.laid;
      passed = sought.passed;
      head = found.head;
      node_is = first_block_is s.word node sought.rest (laid_rest s at key link node sought);
      link_is = λ k. sought.link_is ∙ ap (λ x. link_behind x sought.front) (at_is ∙ ap (chain_word directory) chain_is);
    }

-- ---- the node with the key

own_front : (land : Land) (ns ms : List Node) → AreOwnNodes land (ns ++ ms) → AreOwnNodes land ms
own_front land ns ms own = each_right (λ n. IsOwn land n.block) ns ms own

pub own_chain : (land : Land) (w : Words) (root : ℕ) (chains : Chains) (c : ℕ) → IsHash land w root chains → c < 64 → AreOwnNodes land (chains c)
own_chain land w root chains c h below = own_of_blocks land (chains c) (λ b k. (placed_of land w root chains h).own_node c b below k)

-- where the key is, a node with it stands behind those in front
pub record HasNode (s : Space) (root key : ℕ) (front rest : List Node) (link node : ℕ) : Type 0 where
  pub first : Node
  pub more : List Node
  pub is : rest ≡ first ∷ more
  pub block : node ≡ first.block
  pub key_is : first.key ≡ key
  pub own : IsOwn s.land node
  pub value : s.word (node + 2) ≡ first.value
  pub next : IsChain s.word (s.word (node + 3)) more
  pub named : s.word link ≡ node
  pub directory : directory_of s.word root (chain_number key) ≢ 0

some_node : (s : Space) (root key : ℕ) (front rest : List Node) (link node : ℕ) → IsHead key rest → node ≡ first_block rest → node ≢ 0
    → AreOwnNodes s.land rest → IsChain s.word (s.word link) rest → directory_of s.word root (chain_number key) ≢ 0 → HasNode s root key front rest link node
some_node s root key front [] link node head node_is some own laid there = absurd (some node_is)
some_node s root key front (n ∷ more) link node head node_is some own laid there = record {
  first = n;
  more = more;
  is = refl;
  block = node_is;
  key_is = head;
  own = subst (IsOwn s.land) (sym node_is) own.0;
  value = ap (λ b. s.word (b + 2)) node_is ∙ laid.2;
  next = subst (λ b. IsChain s.word (s.word (b + 3)) more) (sym node_is) laid.3;
  named = laid.0 ∙ sym node_is;
  directory = there;
}

first_of_parts : (ns front rest : List Node) → ns ≡ [] → ns ≡ front ++ rest → first_block rest ≡ 0
first_of_parts ns [] [] e f = refl
first_of_parts ns [] (n ∷ rest) e f = absurd (let g : n ∷ rest ≡ [] = sym f ∙ e in cc)
first_of_parts ns (n ∷ front) rest e f = absurd (let g : n ∷ (front ++ rest) ≡ [] = sym f ∙ e in cc)

pub node_there : (s : Space) (root key : ℕ) (chains : Chains) (directory link node : ℕ) → IsHash s.land s.word root chains
    → (place : IsPlaceOf s root key (chains (chain_number key)) directory link node) → node ≢ 0 → HasNode s root key place.front place.rest link node
node_there s root key chains directory link node h place some =
    let c = chain_number key in
    let below = chain_below key in
    let there : directory ≢ 0 = (λ z. some (place.node_is ∙ first_of_parts (chains c) place.front place.rest
    (no_nodes s.land s.word root chains c h below (sym place.directory_is ∙ z)) place.parts)) in
    let begin = begins s root chains c h below (λ z. there (place.directory_is ∙ z)) in
    let at : link ≡ link_behind (chain_word (directory_of s.word root c) c) place.front =
    place.link_is there ∙ ap (λ x. link_behind (chain_word x c) place.front) place.directory_is in
    some_node s root key place.front place.rest link node place.head place.node_is some
    (own_front s.land place.front place.rest (subst (AreOwnNodes s.land) place.parts begin.own))
    (subst (λ l. IsChain s.word (s.word l) place.rest) (sym at)
    (chain_behind s.word (chain_word (directory_of s.word root c) c) place.front place.rest
    (subst (λ ms. IsChain s.word (s.word (chain_word (directory_of s.word root c) c)) ms) place.parts begin.laid)))
    (λ z. there (place.directory_is ∙ z))

no_node_left : (land : Land) (rest : List Node) → AreOwnNodes land rest → first_block rest ≡ 0 → rest ≡ []
no_node_left land [] own e = refl
no_node_left land (n ∷ rest) own e = absurd (let p = own.0.0.positive in omega (arith, p, e))

pub none_there : (s : Space) (root key : ℕ) (chains : Chains) (directory link node : ℕ) → IsHash s.land s.word root chains
    → (place : IsPlaceOf s root key (chains (chain_number key)) directory link node) → node ≡ 0 → place.rest ≡ []
none_there s root key chains directory link node h place none =
    no_node_left s.land place.rest
    (own_front s.land place.front place.rest (subst (AreOwnNodes s.land) place.parts (own_chain s.land s.word root chains (chain_number key) h (chain_below key))))
    (sym place.node_is ∙ none)

-- ---- what the look-ups answer

pub none_of : (s : Space) (root key : ℕ) (contents : FiniteMap) (holds : Holds s root contents) (directory link node : ℕ)
    → IsPlaceOf s root key (holds.chains (chain_number key)) directory link node → node ≡ 0 → None ≡ lookup key contents
none_of s root key contents holds directory link node place none =
    sym (holds.lookup_is key ∙ ap (λ ms. lookup key (pairs ms)) place.parts ∙ lookup_passed key place.front place.rest place.passed
    ∙ ap (λ ms. lookup key (pairs ms)) (none_there s root key holds.chains directory link node holds.is place none))

pub some_of : (s : Space) (root key : ℕ) (contents : FiniteMap) (holds : Holds s root contents) (directory link node : ℕ)
    → IsPlaceOf s root key (holds.chains (chain_number key)) directory link node → node ≢ 0 → Some (s.word (node + 2)) ≡ lookup key contents
some_of s root key contents holds directory link node place some =
    let at = node_there s root key holds.chains directory link node holds.is place some in
    ap Some at.value
    ∙ sym (holds.lookup_is key ∙ ap (λ ms. lookup key (pairs ms)) place.parts ∙ lookup_passed key place.front place.rest place.passed
    ∙ ap (λ ms. lookup key (pairs ms)) at.is ∙ lookup_head key at.first at.more at.key_is)

pub place_own : (s : Space) (root key : ℕ) (chains : Chains) (directory link node : ℕ) → IsHash s.land s.word root chains
    → IsPlaceOf s root key (chains (chain_number key)) directory link node → node ≢ 0 → IsOwn s.land node
place_own s root key chains directory link node h place some = (node_there s root key chains directory link node h place some).own

pub has_hash : (s : Space) (root : ℕ) → HasMap s root → HasHash s root
has_hash s root map = record { chains = map.holds.chains; is = map.holds.is }

-- ---- how many blocks a put takes

if_some : {X : Type 0} (o : Option ℕ) (v : ℕ) (x y : X) → Some v ≡ o → (if is_some o then x else y) ≡ x
if_some o v x y e = ap (λ z. if is_some z then x else y) (sym e)

if_none : {X : Type 0} (o : Option ℕ) (x y : X) → None ≡ o → (if is_some o then x else y) ≡ y
if_none o x y e = ap (λ z. if is_some z then x else y) (sym e)

pub needs_none : (s : Space) (root key : ℕ) (contents : FiniteMap) (holds : Holds s root contents) (directory link node : ℕ)
    → IsPlaceOf s root key (holds.chains (chain_number key)) directory link node → node ≢ 0 → 0 ≡ needed s.word root key contents
needs_none s root key contents holds directory link node place some =
    sym (if_some (lookup key contents) (s.word (node + 2)) 0 (if directory_of s.word root (chain_number key) == 0 then 2 else 1)
    (some_of s root key contents holds directory link node place some))

pub needs_two : (s : Space) (root key : ℕ) (contents : FiniteMap) (holds : Holds s root contents) (directory link node : ℕ)
    → IsPlaceOf s root key (holds.chains (chain_number key)) directory link node → node ≡ 0 → directory ≡ 0 → 2 ≡ needed s.word root key contents
needs_two s root key contents holds directory link node place none missing =
    sym (if_none (lookup key contents) 0 (if directory_of s.word root (chain_number key) == 0 then 2 else 1)
    (none_of s root key contents holds directory link node place none)
    ∙ ap (λ x. if x == 0 then 2 else 1) (sym place.directory_is ∙ missing))

pub needs_one : (s : Space) (root key : ℕ) (contents : FiniteMap) (holds : Holds s root contents) (directory link node : ℕ)
    → IsPlaceOf s root key (holds.chains (chain_number key)) directory link node → node ≡ 0 → directory ≢ 0 → 1 ≡ needed s.word root key contents
needs_one s root key contents holds directory link node place none there =
    let off : (directory_of s.word root (chain_number key) == 0) ≡ false = (let e = place.directory_is in
    let ne : directory_of s.word root (chain_number key) ≢ 0 = (λ z. there (e ∙ z)) in grind (arith, nat_tests)) in
    sym (if_none (lookup key contents) 0 (if directory_of s.word root (chain_number key) == 0 then 2 else 1)
    (none_of s root key contents holds directory link node place none)
    ∙ ap (λ t. if t then 2 else 1) off)
