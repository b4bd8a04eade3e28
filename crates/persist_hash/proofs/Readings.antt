-- Reading words as a hash: what was read stays sound, and where it isn't the words are none.
use Rattle.std.proofs.Common.{◌≡◌, ◌≢◌, ◌⊎◌, inl, inr, ⊎_elim, ℕ, ◌+◌, ◌*◌, ◌<◌, ◌≤◌, Bool, true, false, ◌||◌, if◌then◌else◌, ◌==◌, List, [], ◌∷◌, ◌++◌, length, slice_index, slice_index_or, Some, refl, ap, sym, ◌∙◌, arith, subst, add-one}
use Rattle.std.proofs.lemmas.Bool.Decides.{eqb_tells}
use Rattle.persist_model.specs.Region.{Words}
use Rattle.persist_model.specs.Records.{IsAmong}
use Rattle.persist_model.specs.Chain.{HasNoRepeats}
use Rattle.lane_traits.specs.Device.{MAX_WORDS}
use Rattle.lane_traits.specs.Space.{Land, IsOwn}
use Rattle.lane_traits.specs.Draft.{is_among}
use Rattle.lane_traits.specs.DraftLaws.{of_among}
use Rattle.lane_traits.proofs.Among.{among_of, among_last, of_absent, once_more, is_among-last}
use Rattle.persist_hash.proofs.Joined.{is_among-append, or_assoc}
use Rattle.region_layout.specs.FiniteMap.{FiniteMap, lookup, with_pair, HasAscendingKeys}
use Rattle.region_layout.specs.HashMap.{Node, Chains, CHAINS, IsChain, EachNode, IsHash, blocks, keys, pairs, directories, nodes, first_link, chain_number}
use Rattle.persist_hash.specs.Chains.{AreOwnNodes}
use Rattle.persist_hash.specs.Walk.{nodes_up_to}
use Rattle.persist_hash.specs.Reading.{IsHeap, land_in, HasHashMap, IsNoHash, AreMarks, with_block, with_link, is_root, in_directories, chains_in, in_chains, in_front, HasDirectories, HasChains, IsSegment, HasFront}
use Rattle.persist_hash.proofs.Lists.{among_right, at_most, each_of}
use Rattle.persist_hash.proofs.ChainLaws.{each_joined, blocks-append, keys-append, own_of_blocks, chain_once, chain_from_is}
use Rattle.persist_hash.proofs.Blocks.{IsPlaced, placed_of, of_placed, IsDirectoryOf, IsNodeOf, of_directories, of_nodes, in_nodes}
use Rattle.persist_hash.proofs.Blocks.{in_directories as listed_directory}
use Rattle.persist_hash.proofs.Places.{length-blocks, chain_below}
use Rattle.persist_hash.proofs.Entries.{lookup-with_pair, ascending-with_pair}
use Rattle.persist_hash.proofs.Walks.{all_lookups}
use Rattle.persist_hash.proofs.MarkLaws.{number_within}

not_both : (t : Bool) → t ≡ true → t ≡ false → ⊥
not_both t on off = let e : true ≡ false = sym on ∙ off in cc

-- the parts of a test that fails, and of one that passes
neither : (s t : Bool) → (s || t) ≡ false → (s ≡ false) × (t ≡ false)
neither true t h = absurd (not_both true refl h)
neither false t h = (refl, h)

either : (s t : Bool) → (s || t) ≡ true → (s ≡ true) ⊎ (t ≡ true)
either true t h = inl refl
either false t h = inr h

on_left : (s t : Bool) → s ≡ true → (s || t) ≡ true
on_left true t e = refl
on_left false t e = absurd (not_both false e refl)

on_right : (s t : Bool) → t ≡ true → (s || t) ≡ true
on_right true t e = refl
on_right false t e = e

equal_of : (x y : ℕ) → (x == y) ≡ true → x ≡ y
equal_of x y e = ⊎_elim (λ same. same.1) (λ other. absurd (not_both (x == y) e other.0)) (eqb_tells x y)

apart_of : (x y : ℕ) → (x == y) ≡ false → x ≢ y
apart_of x y e = ⊎_elim (λ same. absurd (not_both (x == y) same.0 e)) (λ other. other.1) (eqb_tells x y)

pub absent_is : (xs : List ℕ) (b : ℕ) → is_among xs b ≡ false → IsAmong xs b → ⊥
absent_is xs b off h = not_both (is_among xs b) (of_among xs b h) off

-- ---- directory blocks

pub no_directories : (land : Land) (w : Words) (root : ℕ) → IsOwn land root → HasDirectories land w root 0
no_directories land w root own = record {
  root_own = own;
  own = λ d lt. absurd (omega (arith, lt));
  no_root = λ d lt. absurd (omega (arith, lt));
  once = λ d e lt. absurd (omega (arith, lt));
}

pub root_alone : (w : Words) (root x : ℕ) → is_root root x ≡ in_directories w root 0 x
unfolding directories
root_alone w root x = refl

pub directory_more : (w : Words) (root n x : ℕ) → with_link (w (root + 1 + n)) (in_directories w root n) x ≡ in_directories w root (n + 1) x
unfolding directories
directory_more w root n x = step (w (root + 1 + n)) (w (root + 1 + n) == 0) ∙ ap (λ k. in_directories w root k x) (sym (add-one n))
  where
    step : (v : ℕ) (t : Bool) → (if t then in_directories w root n x else (x == v) || in_directories w root n x)
        ≡ (is_among (if t then directories n w root else v ∷ directories n w root) x || (x == root))
    step v true = refl
    step v false = sym (or_assoc (x == v) (is_among (directories n w root) x) (x == root))

below_more : (d n : ℕ) → d < n + 1 → (d < n) ⊎ (d ≡ n)
below_more d n lt = ⊎_elim (λ e. inr e.1) (λ ne. inl (let q = ne.1 in omega (arith, lt, q))) (eqb_tells d n)

pub directories_more : (land : Land) (w : Words) (root n link : ℕ) → HasDirectories land w root n → link ≡ w (root + 1 + n) → (link ≢ 0 → IsOwn land link)
    → (link ≢ 0 → in_directories w root n link ≡ false) → HasDirectories land w root (n + 1)
directories_more land w root n link h is own fresh = record {
  root_own = h.root_own;
  own = λ d lt some. ⊎_elim (λ low. h.own d low some)
      (λ e. let at : w (root + 1 + d) ≡ link = ap (λ k. w (root + 1 + k)) e ∙ sym is in
      subst (IsOwn land) (sym at) (own (λ z. some (at ∙ z)))) (below_more d n lt);
  no_root = λ d lt same. ⊎_elim (λ low. h.no_root d low same)
      (λ e. let at : link ≡ root = is ∙ ap (λ k. w (root + 1 + k)) (sym e) ∙ same in
      let positive = h.root_own.0.positive in
      apart_of link root (neither (is_among (directories n w root) link) (link == root) (fresh (λ z. omega (arith, at, z, positive)))).1 at) (below_more d n lt);
  once = λ d e ld le ne some same. ⊎_elim
      (λ low_d. ⊎_elim
      (λ low_e. h.once d e low_d low_e ne some same)
      (λ last. new_apart d low_d (λ z. some (same ∙ ap (λ k. w (root + 1 + k)) last ∙ sym is ∙ z)) (same ∙ ap (λ k. w (root + 1 + k)) last ∙ sym is))
      (below_more e n le))
      (λ last_d. ⊎_elim
      (λ low_e. new_apart e low_e (λ z. some (ap (λ k. w (root + 1 + k)) last_d ∙ sym is ∙ z)) (sym same ∙ ap (λ k. w (root + 1 + k)) last_d ∙ sym is))
      (λ last_e. ne (last_d ∙ sym last_e))
      (below_more e n le))
      (below_more d n ld);
}
  where
    new_apart : (d : ℕ) → d < n → link ≢ 0 → w (root + 1 + d) ≡ link → ⊥
    new_apart d lt some same =
        absent_is (directories n w root) link (neither (is_among (directories n w root) link) (link == root) (fresh some)).0
        (subst (IsAmong (directories n w root)) same (listed_directory n d w root lt (λ z. some (sym same ∙ z))))

pub no_hash_by_directory : (land : Land) (w : Words) (root n link : ℕ) → n < 8 → link ≡ w (root + 1 + n) → link ≢ 0
    → (IsOwn land link → in_directories w root n link ≡ true) → IsNoHash land w root
no_hash_by_directory land w root n link below is some refused = λ chains h.
    let p = placed_of land w root chains h in
    let there : w (root + 1 + n) ≢ 0 = (λ z. some (is ∙ z)) in
    let own = subst (IsOwn land) (sym is) (p.own_directory n below there) in
    ⊎_elim
    (λ listed. let at = of_directories n w root link (among_of (directories n w root) link listed) in
    let lt = at.below in
    p.directories_once n at.index below (omega (arith, lt, below)) (λ e. omega (arith, e, lt)) there (sym is ∙ sym at.named))
    (λ rooted. p.root_no_directory n below (sym is ∙ equal_of link root rooted))
    (either (is_among (directories n w root) link) (link == root) (refused own))

-- ---- chains

pub no_chains_yet : (land : Land) (w : Words) (root : ℕ) → HasDirectories land w root 8 → HasChains land w root 0
no_chains_yet land w root h = record {
  directories = h;
  laid = λ c lt. absurd (omega (arith, lt));
  own = λ c b lt. absurd (omega (arith, lt));
  no_root = λ c lt. absurd (omega (arith, lt));
  no_directory = λ d c ld lt. absurd (omega (arith, lt));
  once = λ c lt. absurd (omega (arith, lt));
  apart = λ c d b lt. absurd (omega (arith, lt));
  in_chain = λ c lt. absurd (omega (arith, lt));
  keys_once = λ c lt. absurd (omega (arith, lt));
  filled = λ c lt. absurd (omega (arith, lt));
}

pub directories_alone : (w : Words) (root x : ℕ) → in_directories w root 8 x ≡ in_chains w root 0 x
unfolding nodes
directories_alone w root x = refl

-- ---- one chain

pub front_first : (land : Land) (w : Words) (root c node : ℕ) → node ≡ first_link w root c → HasFront land w root c [] node
front_first land w root c node is = record {
  segment = sym is;
  own = λ b h. absurd h;
  apart = λ b h. absurd h;
  once = tt;
  in_chain = tt;
  keys_once = tt;
  filled = tt;
}

segment_more : (w : Words) (link node next : ℕ) (front : List Node) (n : Node) → IsSegment w link front node → node ≡ n.block → w (node + 1) ≡ n.key → w (node + 2) ≡ n.value
    → next ≡ w (node + 3) → IsSegment w link (front ++ n ∷ []) next
segment_more w link node next [] n h block key value is = (
  h ∙ block,
  ap (λ b. w (b + 1)) (sym block) ∙ key,
  ap (λ b. w (b + 2)) (sym block) ∙ value,
  ap (λ b. w (b + 3)) (sym block) ∙ sym is,
)
segment_more w link node next (m ∷ front) n h block key value is = (h.0, h.1, h.2, segment_more w (w (m.block + 3)) node next front n h.3 block key value is)

abbrev pub node_read : Words → ℕ → Node
node_read w node = record { block = node; key = w (node + 1); value = w (node + 2) }

pub front_more : (land : Land) (w : Words) (root c node next : ℕ) (front : List Node) → HasFront land w root c front node → IsOwn land node
    → in_front w root c front node ≡ false → chain_number (w (node + 1)) ≡ c → 1 ≤ w (node + 2) → (IsAmong (keys front) (w (node + 1)) → ⊥) → next ≡ w (node + 3)
    → HasFront land w root c (front ++ node_read w node ∷ []) next
front_more land w root c node next front h own fresh chain_is filled new_key next_is =
    let off = neither (is_among (blocks front) node) (in_chains w root c node) fresh in
    let n = node_read w node in
    record {
      segment = segment_more w (first_link w root c) node next front n h.segment refl refl refl next_is;
      own = λ b k. ⊎_elim (h.own b) (λ e. subst (IsOwn land) (sym e) own) (split b k);
      apart = λ b k. ⊎_elim (h.apart b) (λ e. ap (in_chains w root c) e ∙ off.1) (split b k);
      once = subst (λ xs. HasNoRepeats xs) (sym (blocks-append front (n ∷ []))) (once_more (blocks front) node h.once (absent_is (blocks front) node off.0));
      in_chain = each_joined (λ m. chain_number m.key ≡ c) front (n ∷ []) h.in_chain (chain_is, tt);
      keys_once = subst (λ xs. HasNoRepeats xs) (sym (keys-append front (n ∷ []))) (once_more (keys front) (w (node + 1)) h.keys_once new_key);
      filled = each_joined (λ m. 1 ≤ m.value) front (n ∷ []) h.filled (filled, tt);
    }
  where
    split : (b : ℕ) → IsAmong (blocks (front ++ node_read w node ∷ [])) b → IsAmong (blocks front) b ⊎ (b ≡ node)
    split b k = among_last (blocks front) node b (subst (λ xs. IsAmong xs b) (blocks-append front (node_read w node ∷ [])) k)

pub marks_more : (w : Words) (root c node : ℕ) (front : List Node) (x : ℕ) → with_block node (in_front w root c front) x ≡ in_front w root c (front ++ node_read w node ∷ []) x
marks_more w root c node front x =
    swap (x == node) (is_among (blocks front) x) (in_chains w root c x)
    ∙ ap (λ t. t || in_chains w root c x) (sym (ap (λ xs. is_among xs x) (blocks-append front (node_read w node ∷ [])) ∙ is_among-last (blocks front) node x))
  where
    swap : (s t u : Bool) → (s || (t || u)) ≡ ((t || s) || u)
    swap true true u = refl
    swap true false u = refl
    swap false true u = refl
    swap false false u = refl

-- there are fewer nodes in front than words
pub few_in_front : (land : Land) (w : Words) (root c node : ℕ) (front : List Node) → HasFront land w root c front node → length front ≤ MAX_WORDS
few_in_front land w root c node front h =
    let few = at_most MAX_WORDS (blocks front) h.once (each_of (λ x. x < MAX_WORDS) (blocks front) (λ b k. let f = (h.own b k).0.fits in omega (arith, f))) in
    let long = length-blocks front in
    omega (arith, few, long)

-- ---- what the words of a hash would have there

rest_of : (land : Land) (w : Words) (link node : ℕ) (front all : List Node) → IsSegment w link front node → AreOwnNodes land front → AreOwnNodes land all → IsChain w link all
    → (rest : List Node) × (all ≡ front ++ rest) × IsChain w node rest
rest_of land w link node [] all segment own_front own_all laid = (all, refl, subst (λ l. IsChain w l all) segment laid)
rest_of land w link node (n ∷ front) [] segment own_front own_all laid =
    absurd (let p = own_front.0.0.positive in let e = segment.0 in omega (arith, p, e, laid))
rest_of land w link node (n ∷ front) (m ∷ all) segment own_front own_all laid =
    let block : m.block ≡ n.block = sym laid.0 ∙ segment.0 in
    let key : m.key ≡ n.key = sym laid.1 ∙ ap (λ b. w (b + 1)) block ∙ segment.1 in
    let value : m.value ≡ n.value = sym laid.2 ∙ ap (λ b. w (b + 2)) block ∙ segment.2 in
    let same : m ≡ n = λ i. record { block = block i; key = key i; value = value i } in
    let again = rest_of land w (w (n.block + 3)) node front all segment.3 own_front.1 own_all.1 (subst (λ b. IsChain w (w (b + 3)) all) block laid.3) in
    (again.0, ap (λ (x : Node). x ∷ all) same ∙ ap (λ xs. n ∷ xs) again.1, again.2)

-- the chain of a hash goes on with a node there
pub record GoesOn (w : Words) (chains : Chains) (c : ℕ) (front : List Node) (node : ℕ) : Type 0 where
  pub first : Node
  pub more : List Node
  pub parts : chains c ≡ front ++ first ∷ more
  pub block : first.block ≡ node
  pub key : first.key ≡ w (node + 1)
  pub value : first.value ≡ w (node + 2)

goes_on : (land : Land) (w : Words) (root c node : ℕ) (front : List Node) (chains : Chains) → IsPlaced land w root chains → c < 64 → HasFront land w root c front node
    → node ≢ 0 → GoesOn w chains c front node
goes_on land w root c node front chains p below h some =
    let found = rest_of land w (first_link w root c) node front (chains c) h.segment (own_of_blocks land front h.own)
    (own_of_blocks land (chains c) (λ b k. p.own_node c b below k)) (p.laid c below) in
    split found.0 found.1 found.2
  where
    split : (rest : List Node) → chains c ≡ front ++ rest → IsChain w node rest → GoesOn w chains c front node
    split [] e laid = absurd (some laid)
    split (n ∷ more) e laid = record {
      first = n;
      more = more;
      parts = e;
      block = sym laid.0;
      key = sym laid.1 ∙ ap (λ b. w (b + 1)) (sym laid.0);
      value = sym laid.2 ∙ ap (λ b. w (b + 2)) (sym laid.0);
    }

chains_same : (land : Land) (w : Words) (root n c : ℕ) (chains : Chains) → IsPlaced land w root chains → HasChains land w root n → c < n → n ≤ 64 → chains_in w root c ≡ chains c
chains_same land w root n c chains p h lt le =
    chain_once land w (first_link w root c) (chains_in w root c) (chains c) (own_of_blocks land (chains_in w root c) (λ b k. h.own c b lt k))
    (own_of_blocks land (chains c) (λ b k. p.own_node c b (omega (arith, lt, le)) k)) (h.laid c lt) (p.laid c (omega (arith, lt, le)))

pub no_hash_by_node : (land : Land) (w : Words) (root c node : ℕ) (front : List Node) → c < 64 → HasChains land w root c → HasFront land w root c front node → node ≢ 0
    → (IsOwn land node → in_front w root c front node ≡ true) → IsNoHash land w root
no_hash_by_node land w root c node front below read h some refused = λ chains hash.
    let p = placed_of land w root chains hash in
    let on = goes_on land w root c node front chains p below h some in
    let here : IsAmong (blocks (chains c)) node = subst (λ xs. IsAmong xs node) (sym (ap blocks on.parts ∙ blocks-append front (on.first ∷ on.more)))
    (among_right (blocks front) (on.first.block ∷ blocks on.more) node (inl (sym on.block))) in
    let own = p.own_node c node below here in
    ⊎_elim
    (λ listed.
    let once = subst (λ xs. HasNoRepeats xs) (ap blocks on.parts ∙ blocks-append front (on.first ∷ on.more)) (p.nodes_once c below) in
    once_apart_at (blocks front) (on.first.block ∷ blocks on.more) once node (among_of (blocks front) node listed) (inl (sym on.block)))
    (λ before. ⊎_elim
    (λ listed. let at = of_nodes c (chains_in w root) node (among_of (blocks (nodes c (chains_in w root))) node listed) in
    let lt = at.below in
    let same = chains_same land w root c at.chain chains p read at.below (omega (arith, below)) in
    p.nodes_apart c at.chain below (omega (arith, lt, below)) (λ e. omega (arith, e, lt)) node here (subst (λ ms. IsAmong (blocks ms) node) same at.among))
    (λ early. ⊎_elim
    (λ listed. let at = of_directories 8 w root node (among_of (directories 8 w root) node listed) in
    p.directory_no_node at.index c at.below below (subst (IsAmong (blocks (chains c))) (sym at.named) here))
    (λ rooted. p.root_no_node c below (subst (IsAmong (blocks (chains c))) (equal_of node root rooted) here))
    (either (is_among (directories 8 w root) node) (node == root) early))
    (either (is_among (blocks (nodes c (chains_in w root))) node) (in_directories w root 8 node) before))
    (either (is_among (blocks front) node) (in_chains w root c node) (refused own))
  where
    once_apart_at : (xs ys : List ℕ) → HasNoRepeats (xs ++ ys) → (b : ℕ) → IsAmong xs b → IsAmong ys b → ⊥
    once_apart_at [] ys h b k m = k
    once_apart_at (x ∷ xs) ys h b (inl e) m = of_absent (xs ++ ys) x h.0 (among_right xs ys x (subst (IsAmong ys) e m))
    once_apart_at (x ∷ xs) ys h b (inr k) m = once_apart_at xs ys h.1 b k m

each_at : (P : Node → Type 0) (front more : List Node) (n : Node) → EachNode P (front ++ n ∷ more) → P n
each_at P [] more n h = h.0
each_at P (m ∷ front) more n h = each_at P front more n h.1

once_at : (xs ys : List ℕ) (y : ℕ) → HasNoRepeats (xs ++ y ∷ ys) → IsAmong xs y → ⊥
once_at [] ys y h k = k
once_at (x ∷ xs) ys y h (inl e) = of_absent (xs ++ y ∷ ys) x h.0 (subst (λ z. IsAmong (xs ++ y ∷ ys) z) e (among_right xs (y ∷ ys) y (inl refl)))
once_at (x ∷ xs) ys y h (inr k) = once_at xs ys y h.1 k

pub no_hash_by_fields : (land : Land) (w : Words) (root c node : ℕ) (front : List Node) → c < 64 → HasFront land w root c front node → node ≢ 0
    → (chain_number (w (node + 1)) ≡ c → 1 ≤ w (node + 2) → IsAmong (keys front) (w (node + 1))) → IsNoHash land w root
no_hash_by_fields land w root c node front below h some bad = λ chains hash.
    let p = placed_of land w root chains hash in
    let on = goes_on land w root c node front chains p below h some in
    let chain_is : chain_number (w (node + 1)) ≡ c = ap chain_number (sym on.key)
    ∙ each_at (λ m. chain_number m.key ≡ c) front on.more on.first (subst (EachNode (λ m. chain_number m.key ≡ c)) on.parts (p.in_chain c below)) in
    let value = each_at (λ m. 1 ≤ m.value) front on.more on.first (subst (EachNode (λ m. 1 ≤ m.value)) on.parts (p.filled c below)) in
    let once = subst (λ xs. HasNoRepeats xs) (ap keys on.parts ∙ keys-append front (on.first ∷ on.more)) (p.keys_once c below) in
    once_at (keys front) (keys on.more) on.first.key once
    (subst (IsAmong (keys front)) (sym on.key) (bad chain_is (subst (λ v. 1 ≤ v) on.value value)))

-- ---- a chain is read

segment_end : (w : Words) (link node : ℕ) (front : List Node) → IsSegment w link front node → node ≡ 0 → IsChain w link front
segment_end w link node [] h none = h ∙ none
segment_end w link node (n ∷ front) h none = (h.0, h.1, h.2, segment_end w (w (n.block + 3)) node front h.3 none)

chain_read : (land : Land) (w : Words) (root c node : ℕ) (front : List Node) → HasFront land w root c front node → node ≡ 0 → chains_in w root c ≡ front
unfolding chains_in
chain_read land w root c node front h none =
    chain_from_is land w (first_link w root c) MAX_WORDS front (own_of_blocks land front h.own) (segment_end w (first_link w root c) node front h.segment none)
    (few_in_front land w root c node front h)

-- what holds of the earlier chains, and of the one that was read
up_to : (P : ℕ → List Node → Type 0) (w : Words) (root c : ℕ) (front : List Node) → chains_in w root c ≡ front → P c front
    → ((d : ℕ) → d < c → P d (chains_in w root d)) → (d : ℕ) → d < c + 1 → P d (chains_in w root d)
up_to P w root c front is here before d lt = ⊎_elim (before d)
    (λ e. subst (λ k. P k (chains_in w root k)) (sym e) (subst (P c) (sym is) here)) (below_more d c lt)

pub chains_more : (land : Land) (w : Words) (root c node : ℕ) (front : List Node) → HasChains land w root c → HasFront land w root c front node → node ≡ 0
    → HasChains land w root (c + 1)
chains_more land w root c node front read h none = record {
  directories = read.directories;
  laid = up_to (λ d ms. IsChain w (first_link w root d) ms) w root c front is (segment_end w (first_link w root c) node front h.segment none) read.laid;
  own = λ d b lt. up_to (λ e ms. IsAmong (blocks ms) b → IsOwn land b) w root c front is (h.own b) (λ e low. read.own e b low) d lt;
  no_root = up_to (λ d ms. IsAmong (blocks ms) root → ⊥) w root c front is (λ k. parts.1 root (λ off. apart_of root root off refl) k) read.no_root;
  no_directory = λ d e ld lt. up_to (λ f ms. IsAmong (blocks ms) (w (root + 1 + d)) → ⊥) w root c front is (directory_apart d ld) (λ f low. read.no_directory d f ld low) e lt;
  once = up_to (λ d ms. HasNoRepeats (blocks ms)) w root c front is h.once read.once;
  apart = λ d e b ld le ne. ⊎_elim
      (λ low_d. ⊎_elim (λ low_e. read.apart d e b low_d low_e ne)
      (λ last k m. parts.0 d low_d b (subst (λ ms. IsAmong (blocks ms) b) (ap (chains_in w root) last ∙ is) m) k)
      (below_more e c le))
      (λ last_d. ⊎_elim
      (λ low_e k m. parts.0 e low_e b (subst (λ ms. IsAmong (blocks ms) b) (ap (chains_in w root) last_d ∙ is) k) m)
      (λ last_e. absurd (ne (last_d ∙ sym last_e)))
      (below_more e c le))
      (below_more d c ld);
  in_chain = up_to (λ d ms. EachNode (λ m. chain_number m.key ≡ d) ms) w root c front is h.in_chain read.in_chain;
  keys_once = up_to (λ d ms. HasNoRepeats (keys ms)) w root c front is h.keys_once read.keys_once;
  filled = up_to (λ d ms. EachNode (λ m. 1 ≤ m.value) ms) w root c front is h.filled read.filled;
}
  where
    is : chains_in w root c ≡ front
    is = chain_read land w root c node front h none

    -- a node in front is in no earlier chain, and no root
    parts : ((d : ℕ) → d < c → (b : ℕ) → IsAmong (blocks front) b → IsAmong (blocks (chains_in w root d)) b → ⊥)
        × ((b : ℕ) → ((b == root) ≡ false → ⊥) → IsAmong (blocks front) b → ⊥)
    parts = (
      λ d lt b k m. absent_is (blocks (nodes c (chains_in w root))) b
          (neither (is_among (blocks (nodes c (chains_in w root))) b) (in_directories w root 8 b) (h.apart b k)).0
          (in_nodes c d (chains_in w root) b lt m),
      λ b rooted k. rooted (neither (is_among (directories 8 w root) b) (b == root)
          (neither (is_among (blocks (nodes c (chains_in w root))) b) (in_directories w root 8 b) (h.apart b k)).1).1,
    )

    directory_apart : (d : ℕ) → d < 8 → IsAmong (blocks front) (w (root + 1 + d)) → ⊥
    directory_apart d ld k =
        let p = (h.own (w (root + 1 + d)) k).0.positive in
        absent_is (directories 8 w root) (w (root + 1 + d))
        (neither (is_among (directories 8 w root) (w (root + 1 + d))) (w (root + 1 + d) == root)
        (neither (is_among (blocks (nodes c (chains_in w root))) (w (root + 1 + d))) (in_directories w root 8 (w (root + 1 + d))) (h.apart (w (root + 1 + d)) k)).1).0
        (listed_directory 8 d w root ld (λ z. omega (arith, p, z)))

pub marks_of_chain : (land : Land) (w : Words) (root c node : ℕ) (front : List Node) → HasFront land w root c front node → node ≡ 0 → (x : ℕ)
    → in_front w root c front x ≡ in_chains w root (c + 1) x
unfolding nodes
marks_of_chain land w root c node front h none x =
    sym (or_assoc (is_among (blocks front) x) (is_among (blocks (nodes c (chains_in w root))) x) (in_directories w root 8 x))
    ∙ ap (λ t. t || in_directories w root 8 x) (sym (
    ap (λ xs. is_among xs x) (blocks-append (chains_in w root c) (nodes c (chains_in w root)))
    ∙ ap (λ ms. is_among (blocks ms ++ blocks (nodes c (chains_in w root))) x) (chain_read land w root c node front h none)
    ∙ is_among-append (blocks front) (blocks (nodes c (chains_in w root))) x))
    ∙ ap (λ k. in_chains w root k x) (sym (add-one c))

-- ---- all chains are read

sorted_of : List Node → FiniteMap
sorted_of [] = []
sorted_of (n ∷ ns) = with_pair n.key n.value (sorted_of ns)

sorted_ascends : (ns : List Node) → HasAscendingKeys (sorted_of ns)
unfolding sorted_of
sorted_ascends [] = tt
sorted_ascends (n ∷ ns) = ascending-with_pair n.key n.value (sorted_of ns) (sorted_ascends ns)

sorted_lookup : (k : ℕ) (ns : List Node) → lookup k (sorted_of ns) ≡ lookup k (pairs ns)
unfolding sorted_of
sorted_lookup k [] = refl
sorted_lookup k (n ∷ ns) = lookup-with_pair k n.key n.value (sorted_of ns) ∙ ap (λ x. if k == n.key then Some n.value else x) (sorted_lookup k ns)

pub map_of_hash : (land : Land) (w : Words) (root : ℕ) (chains : Chains) → IsHash land w root chains → HasHashMap land w root
map_of_hash land w root chains h = record {
  contents = sorted_of (nodes_up_to 64 chains);
  is = record {
    chains = chains;
    is = h;
    ascending = sorted_ascends (nodes_up_to 64 chains);
    lookup_is = λ key. sorted_lookup key (nodes_up_to 64 chains) ∙ (all_lookups 64 chains key (omega arith) h.in_chain).within (chain_below key);
  };
}

pub map_of_chains : (words : List ℕ) (heap count structure root : ℕ) (marks : List Bool) → IsHeap words heap count
    → HasChains (land_in words heap structure) (slice_index words) root 64 → AreMarks heap marks (in_chains (slice_index words) root 64) → length marks ≡ count
    → ((k : ℕ) → k < count → slice_index words (heap + 16 * k) ≡ structure + 1 → slice_index_or marks k false ≡ true)
    → HasHashMap (land_in words heap structure) (slice_index words) root
map_of_chains words heap count structure root marks h read marks_are long all =
    let land = land_in words heap structure in
    let w = slice_index words in
    map_of_hash land w root (chains_in w root) (of_placed land w root (chains_in w root) (record {
      root_own = read.directories.root_own;
      laid = read.laid;
      own_directory = read.directories.own;
      own_node = λ c b lt k. read.own c b lt k;
      root_no_directory = read.directories.no_root;
      root_no_node = read.no_root;
      directories_once = read.directories.once;
      directory_no_node = read.no_directory;
      nodes_once = read.once;
      nodes_apart = λ c d lc ld ne b. read.apart c d b lc ld ne;
      all = λ b own. place b own.0.number (number_within words heap count structure b h own) own.0.place own.1;
      in_chain = read.in_chain;
      keys_once = read.keys_once;
      filled = read.filled;
    }))
  where
    place : (b k : ℕ) → k < count → b ≡ heap + 16 * k → slice_index words b ≡ structure + 1
        → (b ≡ root) ⊎ (IsDirectoryOf 8 (slice_index words) root b ⊎ IsNodeOf CHAINS (chains_in (slice_index words) root) b)
    place b k lt is own =
        let w = slice_index words in
        let on : in_chains w root 64 b ≡ true = ap (in_chains w root 64) is ∙ sym (marks_are k (omega (arith, lt, long)))
        ∙ all k lt (ap w (sym is) ∙ own) in
        ⊎_elim
        (λ listed. inr (inr (of_nodes 64 (chains_in w root) b (among_of (blocks (nodes 64 (chains_in w root))) b listed))))
        (λ early. ⊎_elim
        (λ listed. inr (inl (of_directories 8 w root b (among_of (directories 8 w root) b listed))))
        (λ rooted. inl (equal_of b root rooted))
        (either (is_among (directories 8 w root) b) (b == root) early))
        (either (is_among (blocks (nodes 64 (chains_in w root))) b) (in_directories w root 8 b) on)

pub no_hash_by_block : (words : List ℕ) (heap count structure root k : ℕ) (marks : List Bool) → IsHeap words heap count
    → HasChains (land_in words heap structure) (slice_index words) root 64 → AreMarks heap marks (in_chains (slice_index words) root 64) → length marks ≡ count
    → k < count → slice_index words (heap + 16 * k) ≡ structure + 1 → slice_index_or marks k false ≡ false
    → IsNoHash (land_in words heap structure) (slice_index words) root
no_hash_by_block words heap count structure root k marks h read marks_are long lt own missed = λ chains hash.
    let land = land_in words heap structure in
    let w = slice_index words in
    let p = placed_of land w root chains hash in
    let b = heap + 16 * k in
    let size = h.long in
    let fits = h.fits in
    let positive = h.positive in
    let off : in_chains w root 64 b ≡ false = sym (marks_are k (omega (arith, lt, long))) ∙ missed in
    let parts = neither (is_among (blocks (nodes 64 (chains_in w root))) b) (in_directories w root 8 b) off in
    let early = neither (is_among (directories 8 w root) b) (b == root) parts.1 in
    let is_own : IsOwn land b = (record { number = k; place = refl; positive = omega (arith, positive); fits = omega (arith, lt, size, fits) }, own) in
    ⊎_elim
    (λ rooted. apart_of b root early.1 rooted)
    (λ there. ⊎_elim
    (λ d. absent_is (directories 8 w root) b early.0
    (subst (IsAmong (directories 8 w root)) d.named (listed_directory 8 d.index w root d.below (λ z. d.positive (sym d.named ∙ z)))))
    (λ n. absent_is (blocks (nodes 64 (chains_in w root))) b parts.0
    (in_nodes 64 n.chain (chains_in w root) b n.below
    (subst (λ ms. IsAmong (blocks ms) b) (sym (chains_same land w root 64 n.chain chains p read n.below (omega arith))) n.among)))
    there)
    (p.all b is_own)
