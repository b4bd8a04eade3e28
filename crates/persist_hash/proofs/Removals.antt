-- A chain in which one node is changed or taken out.
use Rattle.std.proofs.Common.{◌≡◌, ◌≢◌, ◌⊎◌, inl, inr, ⊎_elim, ℕ, ◌+◌, ◌/◌, ◌%◌, ◌<◌, ◌≤◌, List, [], ◌∷◌, ◌++◌, Some, None, refl, ap, sym, ◌∙◌, arith, subst}
use Rattle.std.proofs.lemmas.Bool.Decides.{eqb_tells}
use Rattle.persist_model.specs.Region.{Words}
use Rattle.persist_model.specs.Records.{IsAmong}
use Rattle.persist_model.specs.Chain.{HasNoRepeats, IsAbsent}
use Rattle.lane_traits.specs.Space.{Land, Space, IsOwn, IsDataWordOf, with_owner, put_word, given, written}
use Rattle.lane_traits.proofs.Writes.{put_same, put_other}
use Rattle.region_layout.specs.FiniteMap.{FiniteMap, lookup, with_pair, without_key}
use Rattle.region_layout.specs.HashMap.{Node, Chains, IsChain, EachNode, IsHash, blocks, keys, pairs, chain_number, directory_of, chain_word}
use Rattle.persist_hash.specs.Chains.{HasNotKey, IsPlaceOf, put_chain, link_behind}
use Rattle.persist_hash.specs.Calls.{Holds, GivesBlock}
use Rattle.persist_hash.proofs.Lists.{decide, among_left, among_right, among_more, among_here, among_fewer, once_left, once_right, once_apart, once_fewer}
use Rattle.persist_hash.proofs.ChainLaws.{each_joined, each_left, each_right, blocks-append, keys-append, blocks_apart, chain_kept, chain_behind, chain_relinked, link_in}
use Rattle.persist_hash.proofs.Blocks.{IsPlaced, placed_of, of_placed}
use Rattle.persist_hash.proofs.Changing.{changed}
use Rattle.persist_hash.proofs.Places.{HasNode, node_there, chain_below, index_below, first_is, slot_held}
use Rattle.persist_hash.proofs.Searching.{data_word}
use Rattle.persist_hash.proofs.Puts.{entries_put}
use Rattle.persist_hash.proofs.Entries.{lookup_changed, lookup-without_key, lookup_replaced, lookup_removed, ascending-without_key, changed_at}

-- a node of a chain, with what stands before it and behind it
pub record AreParts (land : Land) (w : Words) (root : ℕ) (chains : Chains) (c : ℕ) (front more : List Node) (n : Node) : Type 0 where
  pub placed : IsPlaced land w root chains
  pub below : c < 64
  pub some : directory_of w root c ≢ 0
  pub parts : chains c ≡ front ++ n ∷ more

-- the link to the first node of the chain
abbrev pub slot_of : Words → ℕ → ℕ → ℕ
slot_of w root c = chain_word (directory_of w root c) c

in_chain_of : (land : Land) (w : Words) (root : ℕ) (chains : Chains) (c : ℕ) (front more : List Node) (n : Node) (h : AreParts land w root chains c front more n)
    → blocks (chains c) ≡ blocks front ++ n.block ∷ blocks more
in_chain_of land w root chains c front more n h = ap blocks h.parts ∙ blocks-append front (n ∷ more)

once_parts : (land : Land) (w : Words) (root : ℕ) (chains : Chains) (c : ℕ) (front more : List Node) (n : Node) (h : AreParts land w root chains c front more n)
    → HasNoRepeats (blocks front ++ n.block ∷ blocks more)
once_parts land w root chains c front more n h =
    subst (λ xs. HasNoRepeats xs) (in_chain_of land w root chains c front more n h) (h.placed.nodes_once c h.below)

own_part : (land : Land) (w : Words) (root : ℕ) (chains : Chains) (c : ℕ) (front more : List Node) (n : Node) (h : AreParts land w root chains c front more n)
    → (b : ℕ) → IsAmong (blocks front ++ n.block ∷ blocks more) b → IsOwn land b
own_part land w root chains c front more n h b k =
    h.placed.own_node c b h.below (subst (λ xs. IsAmong xs b) (sym (in_chain_of land w root chains c front more n h)) k)

-- the link to the first node is no word of a node
slot_apart : (land : Land) (w : Words) (root : ℕ) (chains : Chains) (c : ℕ) (front more : List Node) (n : Node) (h : AreParts land w root chains c front more n)
    → (b i : ℕ) → IsAmong (blocks front ++ n.block ∷ blocks more) b → i < 16 → slot_of w root c ≢ b + i
slot_apart land w root chains c front more n h b i k small e =
    let q = index_below c h.below in
    let place : slot_of w root c ≡ directory_of w root c + (1 + c % 8) = omega arith in
    let at = subst (λ xs. IsAmong xs b) (sym (in_chain_of land w root chains c front more n h)) k in
    blocks_apart land (directory_of w root c) b (1 + c % 8) i (h.placed.own_directory (c / 8) q h.some) (h.placed.own_node c b h.below at)
    (λ f. h.placed.directory_no_node (c / 8) c q h.below (subst (IsAmong (blocks (chains c))) (sym f) at)) (omega arith) small (sym place ∙ e)

-- the link to the node is that to the first, or one of a node in front
link_where : (at : ℕ) (front : List Node) → (link_behind at front ≡ at) ⊎ ((b : ℕ) × IsAmong (blocks front) b × (link_behind at front ≡ b + 3))
link_where at [] = inl refl
link_where at (m ∷ front) = inr (link_in at m front)

-- so it is no word of the nodes behind it, no other word of those in front, and no word of other blocks
link_apart : (land : Land) (w : Words) (root : ℕ) (chains : Chains) (c : ℕ) (front more : List Node) (n : Node) (h : AreParts land w root chains c front more n)
    → (b i : ℕ) → IsAmong (n.block ∷ blocks more) b → i < 16 → link_behind (slot_of w root c) front ≢ b + i
link_apart land w root chains c front more n h b i k small e = ⊎_elim
    (λ first. slot_apart land w root chains c front more n h b i (among_right (blocks front) (n.block ∷ blocks more) b k) small (sym first ∙ e))
    (λ at. blocks_apart land at.0 b 3 i (own_part land w root chains c front more n h at.0 (among_left (blocks front) (n.block ∷ blocks more) at.0 at.1))
    (own_part land w root chains c front more n h b (among_right (blocks front) (n.block ∷ blocks more) b k))
    (λ f. once_apart (blocks front) (n.block ∷ blocks more) (once_parts land w root chains c front more n h) b (subst (IsAmong (blocks front)) f at.1) k)
    (omega arith) small (sym at.2 ∙ e))
    (link_where (slot_of w root c) front)

link_no_field : (land : Land) (w : Words) (root : ℕ) (chains : Chains) (c : ℕ) (front more : List Node) (n : Node) (h : AreParts land w root chains c front more n)
    → (b i : ℕ) → IsAmong (blocks front) b → i < 3 → b + i ≢ link_behind (slot_of w root c) front
link_no_field land w root chains c front more n h b i k small e =
    let in_front = among_left (blocks front) (n.block ∷ blocks more) b k in
    ⊎_elim
    (λ first. slot_apart land w root chains c front more n h b i in_front (omega (arith, small)) (sym (e ∙ first)))
    (λ at. ⊎_elim
    (λ same. let f = same.1 in let g = e ∙ at.2 in omega (arith, f, g, small))
    (λ other. blocks_apart land b at.0 i 3 (own_part land w root chains c front more n h b in_front)
    (own_part land w root chains c front more n h at.0 (among_left (blocks front) (n.block ∷ blocks more) at.0 at.1))
    other.1 (omega (arith, small)) (omega arith) (e ∙ at.2))
    (eqb_tells b at.0))
    (link_where (slot_of w root c) front)

link_outside : (land : Land) (w : Words) (root : ℕ) (chains : Chains) (c : ℕ) (front more : List Node) (n : Node) (h : AreParts land w root chains c front more n)
    → (b i : ℕ) → IsOwn land b → (IsAmong (blocks (chains c)) b → ⊥) → i < 16 → b + i ≢ slot_of w root c → b + i ≢ link_behind (slot_of w root c) front
link_outside land w root chains c front more n h b i own out small ne e = ⊎_elim
    (λ first. ne (e ∙ first))
    (λ at.
    let in_front = among_left (blocks front) (n.block ∷ blocks more) at.0 at.1 in
    blocks_apart land b at.0 i 3 own (own_part land w root chains c front more n h at.0 in_front)
    (λ f. out (subst (IsAmong (blocks (chains c))) (sym f) (subst (λ xs. IsAmong xs at.0) (sym (in_chain_of land w root chains c front more n h)) in_front)))
    small (omega arith) (e ∙ at.2))
    (link_where (slot_of w root c) front)

laid_parts : (land : Land) (w : Words) (root : ℕ) (chains : Chains) (c : ℕ) (front more : List Node) (n : Node) (h : AreParts land w root chains c front more n)
    → IsChain w (w (slot_of w root c)) (front ++ n ∷ more)
laid_parts land w root chains c front more n h =
    subst (λ ms. IsChain w (w (slot_of w root c)) ms) h.parts
    (subst (λ l. IsChain w l (chains c)) (first_is w root c h.some) (h.placed.laid c h.below))

-- ---- another value

abbrev pub with_value : ℕ → Node → Node
with_value v n = record n { value = v }

pub replaced : (land : Land) (w : Words) (root : ℕ) (chains : Chains) (c : ℕ) (front more : List Node) (n : Node) (value : ℕ) → AreParts land w root chains c front more n → 1 ≤ value
    → IsPlaced land (put_word (n.block + 2) value w) root (put_chain c (front ++ with_value value n ∷ more) chains)
replaced land w root chains c front more n value h filled = changed land w root chains c land u (front ++ later ∷ more) h.placed h.below h.some (record {
  elsewhere = λ b i own out pos small ne. put_other (n.block + 2) value (b + i) w
      (blocks_apart land b n.block i 2 own own_n (λ e. out (subst (IsAmong (blocks (chains c))) (sym e) here)) (omega (arith, small)) (omega arith));
  laid = chain_relinked w u at front (n ∷ more) (later ∷ more) laid (once_left (blocks front) (n.block ∷ blocks more) once)
      (λ b k. slot_apart land w root chains c front more n h b 3 (among_left (blocks front) (n.block ∷ blocks more) b k) (omega arith))
      (λ b i k pos small. front_kept b i k (omega (arith, small)))
      (λ b k ne. front_kept b 3 k (omega arith))
      (λ ne. put_other (n.block + 2) value at w (slot_apart land w root chains c front more n h n.block 2 (among_here (blocks front) (blocks more) n.block) (omega arith))) (
        put_other (n.block + 2) value (link_behind at front) w (link_apart land w root chains c front more n h n.block 2 (inl refl) (omega arith)) ∙ behind.0,
        put_other (n.block + 2) value (n.block + 1) w (λ e. omega (arith, e)) ∙ behind.1,
        put_same (n.block + 2) value w,
        subst (λ l. IsChain u l more) (sym (put_other (n.block + 2) value (n.block + 3) w (λ e. omega (arith, e))))
            (chain_kept w u (w (n.block + 3)) more (λ b i k pos small. put_other (n.block + 2) value (b + i) w
            (blocks_apart land b n.block i 2 (own_part land w root chains c front more n h b (among_right (blocks front) (n.block ∷ blocks more) b (inr k))) own_n
            (λ e. more_apart (subst (IsAmong (blocks more)) e k)) (omega (arith, small)) (omega arith))) behind.3),
      );
  kept = λ b own out. own;
  own = λ b k. h.placed.own_node c b h.below (subst (λ xs. IsAmong xs b) same k);
  from = λ b k. inl (subst (λ xs. IsAmong xs b) same k);
  once = subst (λ xs. HasNoRepeats xs) (sym same) (h.placed.nodes_once c h.below);
  all = λ b own. ⊎_elim (λ k. inr (subst (λ xs. IsAmong xs b) (sym same) k)) (λ out. inl (own, out)) (decide (blocks (chains c)) b);
  in_chain = (let each = subst (EachNode (λ m. chain_number m.key ≡ c)) h.parts (h.placed.in_chain c h.below) in
      each_joined (λ m. chain_number m.key ≡ c) front (later ∷ more) (each_left (λ m. chain_number m.key ≡ c) front (n ∷ more) each)
      ((each_right (λ m. chain_number m.key ≡ c) front (n ∷ more) each).0, (each_right (λ m. chain_number m.key ≡ c) front (n ∷ more) each).1));
  keys_once = subst (λ xs. HasNoRepeats xs) (sym same_keys) (h.placed.keys_once c h.below);
  filled = (let each = subst (EachNode (λ m. 1 ≤ m.value)) h.parts (h.placed.filled c h.below) in
      each_joined (λ m. 1 ≤ m.value) front (later ∷ more) (each_left (λ m. 1 ≤ m.value) front (n ∷ more) each)
      (filled, (each_right (λ m. 1 ≤ m.value) front (n ∷ more) each).1));
})
  where
    u : Words
    u = put_word (n.block + 2) value w

    later : Node
    later = with_value value n

    at : ℕ
    at = slot_of w root c

    once : HasNoRepeats (blocks front ++ n.block ∷ blocks more)
    once = once_parts land w root chains c front more n h

    laid : IsChain w (w (slot_of w root c)) (front ++ n ∷ more)
    laid = laid_parts land w root chains c front more n h

    behind : IsChain w (w (link_behind (slot_of w root c) front)) (n ∷ more)
    behind = chain_behind w (slot_of w root c) front (n ∷ more) (laid_parts land w root chains c front more n h)

    here : IsAmong (blocks (chains c)) n.block
    here = subst (λ xs. IsAmong xs n.block) (sym (in_chain_of land w root chains c front more n h)) (among_here (blocks front) (blocks more) n.block)

    own_n : IsOwn land n.block
    own_n = own_part land w root chains c front more n h n.block (among_here (blocks front) (blocks more) n.block)

    more_apart : IsAmong (blocks more) n.block → ⊥
    more_apart k = (once_fewer (blocks front) (blocks more) n.block (once_parts land w root chains c front more n h)).1 (among_right (blocks front) (blocks more) n.block k)

    front_kept : (b i : ℕ) → IsAmong (blocks front) b → i < 16 → put_word (n.block + 2) value w (b + i) ≡ w (b + i)
    front_kept b i k small = put_other (n.block + 2) value (b + i) w
        (blocks_apart land b n.block i 2 (own_part land w root chains c front more n h b (among_left (blocks front) (n.block ∷ blocks more) b k))
        (own_part land w root chains c front more n h n.block (among_here (blocks front) (blocks more) n.block))
        (λ e. (once_fewer (blocks front) (blocks more) n.block (once_parts land w root chains c front more n h)).1
        (among_left (blocks front) (blocks more) n.block (subst (IsAmong (blocks front)) e k))) small (omega arith))

    same : blocks (front ++ with_value value n ∷ more) ≡ blocks (chains c)
    same = blocks-append front (with_value value n ∷ more) ∙ sym (in_chain_of land w root chains c front more n h)

    same_keys : keys (front ++ with_value value n ∷ more) ≡ keys (chains c)
    same_keys = keys-append front (with_value value n ∷ more) ∙ sym (ap keys h.parts ∙ keys-append front (n ∷ more))

-- ---- a node less

own_fewer : (land : Land) (n b : ℕ) → IsOwn land b → b ≢ n → IsOwn (with_owner n 0 land) b
own_fewer land n b own ne = (
  record { number = own.0.number; place = own.0.place; positive = own.0.positive; fits = own.0.fits },
  put_other n 0 b land.owner ne ∙ own.1,
)

own_before : (land : Land) (n b : ℕ) → IsOwn (with_owner n 0 land) b → IsOwn land b × (b ≢ n)
own_before land n b own = ⊎_elim
    (λ same. absurd (let e : 0 ≡ land.structure + 1 = sym (put_same n 0 land.owner) ∙ ap (put_word n 0 land.owner) (sym same.1) ∙ own.1 in omega (arith, e)))
    (λ other. (
      (
        record { number = own.0.number; place = own.0.place; positive = own.0.positive; fits = own.0.fits },
        sym (put_other n 0 b land.owner other.1) ∙ own.1,
      ),
      other.1,
    ))
    (eqb_tells b n)

pub removed : (land : Land) (w : Words) (root : ℕ) (chains : Chains) (c : ℕ) (front more : List Node) (n : Node) → AreParts land w root chains c front more n
    → IsPlaced (with_owner n.block 0 land) (put_word (link_behind (slot_of w root c) front) (w (n.block + 3)) w) root (put_chain c (front ++ more) chains)
removed land w root chains c front more n h = changed land w root chains c (with_owner n.block 0 land) u (front ++ more) h.placed h.below h.some (record {
  elsewhere = λ b i own out pos small ne. put_other link (w (n.block + 3)) (b + i) w (link_outside land w root chains c front more n h b i own out (omega (arith, small)) ne);
  laid = chain_relinked w u at front (n ∷ more) more laid (once_left (blocks front) (n.block ∷ blocks more) once)
      (λ b k. slot_apart land w root chains c front more n h b 3 (among_left (blocks front) (n.block ∷ blocks more) b k) (omega arith))
      (λ b i k pos small. put_other link (w (n.block + 3)) (b + i) w (link_no_field land w root chains c front more n h b i k small))
      (λ b k ne. put_other link (w (n.block + 3)) (b + 3) w ne)
      (λ ne. put_other link (w (n.block + 3)) at w ne)
      (subst (λ l. IsChain u l more) (sym (put_same link (w (n.block + 3)) w))
      (chain_kept w u (w (n.block + 3)) more
      (λ b i k pos small. put_other link (w (n.block + 3)) (b + i) w (λ e. link_apart land w root chains c front more n h b i (inr k) (omega (arith, small)) (sym e))) behind.3));
  kept = λ b own out. own_fewer land n.block b own (λ e. out (subst (IsAmong (blocks (chains c))) (sym e) here));
  own = λ b k. own_fewer land n.block b (own_part land w root chains c front more n h b (among_more (blocks front) (blocks more) n.block b (joined b k)))
      (λ e. fewer.1 (subst (IsAmong (blocks front ++ blocks more)) e (joined b k)));
  from = λ b k. inl (subst (λ xs. IsAmong xs b) (sym (in_chain_of land w root chains c front more n h)) (among_more (blocks front) (blocks more) n.block b (joined b k)));
  once = subst (λ xs. HasNoRepeats xs) (sym (blocks-append front more)) fewer.0;
  all = λ b own.
      let was = own_before land n.block b own in
      ⊎_elim
      (λ k. inr (subst (λ xs. IsAmong xs b) (sym (blocks-append front more))
      (among_fewer (blocks front) (blocks more) n.block b (subst (λ xs. IsAmong xs b) (in_chain_of land w root chains c front more n h) k) was.1)))
      (λ out. inl (was.0, out))
      (decide (blocks (chains c)) b);
  in_chain = (let each = subst (EachNode (λ m. chain_number m.key ≡ c)) h.parts (h.placed.in_chain c h.below) in
      each_joined (λ m. chain_number m.key ≡ c) front more (each_left (λ m. chain_number m.key ≡ c) front (n ∷ more) each)
      (each_right (λ m. chain_number m.key ≡ c) front (n ∷ more) each).1);
  keys_once = subst (λ xs. HasNoRepeats xs) (sym (keys-append front more))
      (once_fewer (keys front) (keys more) n.key (subst (λ xs. HasNoRepeats xs) (ap keys h.parts ∙ keys-append front (n ∷ more)) (h.placed.keys_once c h.below))).0;
  filled = (let each = subst (EachNode (λ m. 1 ≤ m.value)) h.parts (h.placed.filled c h.below) in
      each_joined (λ m. 1 ≤ m.value) front more (each_left (λ m. 1 ≤ m.value) front (n ∷ more) each)
      (each_right (λ m. 1 ≤ m.value) front (n ∷ more) each).1);
})
  where
    link : ℕ
    link = link_behind (slot_of w root c) front

    u : Words
    u = put_word (link_behind (slot_of w root c) front) (w (n.block + 3)) w

    at : ℕ
    at = slot_of w root c

    once : HasNoRepeats (blocks front ++ n.block ∷ blocks more)
    once = once_parts land w root chains c front more n h

    fewer : HasNoRepeats (blocks front ++ blocks more) × (IsAmong (blocks front ++ blocks more) n.block → ⊥)
    fewer = once_fewer (blocks front) (blocks more) n.block (once_parts land w root chains c front more n h)

    laid : IsChain w (w (slot_of w root c)) (front ++ n ∷ more)
    laid = laid_parts land w root chains c front more n h

    behind : IsChain w (w (link_behind (slot_of w root c) front)) (n ∷ more)
    behind = chain_behind w (slot_of w root c) front (n ∷ more) (laid_parts land w root chains c front more n h)

    here : IsAmong (blocks (chains c)) n.block
    here = subst (λ xs. IsAmong xs n.block) (sym (in_chain_of land w root chains c front more n h)) (among_here (blocks front) (blocks more) n.block)

    joined : (b : ℕ) → IsAmong (blocks (front ++ more)) b → IsAmong (blocks front ++ blocks more) b
    joined b k = subst (λ xs. IsAmong xs b) (blocks-append front more) k

-- ---- the calls

parts_at : (s : Space) (root key : ℕ) (chains : Chains) (directory link node : ℕ) (h : IsHash s.land s.word root chains)
    → (place : IsPlaceOf s root key (chains (chain_number key)) directory link node) → (at : HasNode s root key place.front place.rest link node)
    → AreParts s.land s.word root chains (chain_number key) place.front at.more at.first
parts_at s root key chains directory link node h place at = record {
  placed = placed_of s.land s.word root chains h;
  below = chain_below key;
  some = at.directory;
  parts = place.parts ∙ ap (λ ms. place.front ++ ms) at.is;
}

passed_first : (key : ℕ) (front : List Node) (n : Node) → n.key ≡ key → HasNotKey key front → HasNotKey n.key front
passed_first key front n e h = subst (λ k. HasNotKey k front) (sym e) h

-- the node of the key has this value then
pub holds_replaced : (s : Space) (root key value : ℕ) (contents : FiniteMap) (holds : Holds s root contents) (directory link node : ℕ)
    → IsPlaceOf s root key (holds.chains (chain_number key)) directory link node → node ≢ 0 → 1 ≤ value
    → Holds (written (node + 2) value s) root (with_pair key value contents)
holds_replaced s root key value contents holds directory link node place some filled =
    let c = chain_number key in
    let at = node_there s root key holds.chains directory link node holds.is place some in
    let n = at.first in
    let parts = parts_at s root key holds.chains directory link node holds.is place at in
    let is = replaced s.land s.word root holds.chains c place.front at.more n value parts filled in
    subst (λ b. Holds (written (b + 2) value s) root (with_pair key value contents)) (sym at.block)
    (entries_put s root key value contents holds (written (n.block + 2) value s) (place.front ++ with_value value n ∷ at.more)
    (of_placed s.land (put_word (n.block + 2) value s.word) root (put_chain c (place.front ++ with_value value n ∷ at.more) holds.chains) is)
    (λ k. lookup_replaced k place.front at.more n (with_value value n) (passed_first key place.front n at.key_is place.passed) refl
    ∙ ap (λ x. changed_at x (Some value) k (lookup k (pairs (place.front ++ n ∷ at.more)))) at.key_is
    ∙ ap (λ ms. changed_at key (Some value) k (lookup k (pairs ms))) (sym parts.parts)))

absent_keys : (key : ℕ) (ns : List Node) → IsAbsent key (keys ns) → HasNotKey key ns
absent_keys key [] h = tt
absent_keys key (n ∷ ns) h = (h.0, absent_keys key ns h.1)

not_behind : (land : Land) (w : Words) (root : ℕ) (chains : Chains) (c : ℕ) (front more : List Node) (n : Node) → AreParts land w root chains c front more n → HasNotKey n.key more
not_behind land w root chains c front more n h =
    let once = subst (λ xs. HasNoRepeats xs) (ap keys h.parts ∙ keys-append front (n ∷ more)) (h.placed.keys_once c h.below) in
    absent_keys n.key more (once_right (keys front) (n.key ∷ keys more) once).0

pub holds_removed : (s : Space) (root key : ℕ) (contents : FiniteMap) (holds : Holds s root contents) (directory link node : ℕ)
    → IsPlaceOf s root key (holds.chains (chain_number key)) directory link node → node ≢ 0
    → Holds (given node (written link (s.word (node + 3)) s)) root (without_key key contents)
holds_removed s root key contents holds directory link node place some =
    let c = chain_number key in
    let at = node_there s root key holds.chains directory link node holds.is place some in
    let n = at.first in
    let parts = parts_at s root key holds.chains directory link node holds.is place at in
    let is = removed s.land s.word root holds.chains c place.front at.more n parts in
    let there : directory ≢ 0 = (λ z. at.directory (sym place.directory_is ∙ z)) in
    let link_at : link ≡ link_behind (slot_of s.word root c) place.front =
    place.link_is there ∙ ap (λ x. link_behind (chain_word x c) place.front) place.directory_is in
    let u : Space = given n.block (written (link_behind (slot_of s.word root c) place.front) (s.word (n.block + 3)) s) in
    subst (λ b. Holds (given b (written link (s.word (b + 3)) s)) root (without_key key contents)) (sym at.block)
    (subst (λ l. Holds (given n.block (written l (s.word (n.block + 3)) s)) root (without_key key contents)) (sym link_at)
    (record {
      chains = put_chain c (place.front ++ at.more) holds.chains;
      is = of_placed u.land u.word root (put_chain c (place.front ++ at.more) holds.chains) is;
      ascending = ascending-without_key key contents holds.ascending;
      lookup_is = lookup_changed key None contents (without_key key contents) (place.front ++ at.more) holds.chains holds.lookup_is
          (λ k. lookup-without_key k key contents holds.ascending)
          (λ k. lookup_removed k place.front at.more n (passed_first key place.front n at.key_is place.passed)
          (not_behind s.land s.word root holds.chains c place.front at.more n parts)
          ∙ ap (λ x. changed_at x None k (lookup k (pairs (place.front ++ n ∷ at.more)))) at.key_is
          ∙ ap (λ ms. changed_at key None k (lookup k (pairs ms))) (sym parts.parts));
    }))

-- the link to a node is a data word
pub link_held : (s : Space) (root key : ℕ) (chains : Chains) (directory link node : ℕ) → IsHash s.land s.word root chains
    → IsPlaceOf s root key (chains (chain_number key)) directory link node → node ≢ 0 → IsDataWordOf s.land link
link_held s root key chains directory link node h place some =
    let c = chain_number key in
    let at = node_there s root key chains directory link node h place some in
    let parts = parts_at s root key chains directory link node h place at in
    let there : directory ≢ 0 = (λ z. at.directory (sym place.directory_is ∙ z)) in
    let link_at : link ≡ link_behind (slot_of s.word root c) place.front =
    place.link_is there ∙ ap (λ x. link_behind (chain_word x c) place.front) place.directory_is in
    subst (IsDataWordOf s.land) (sym link_at) (⊎_elim
    (λ first. subst (IsDataWordOf s.land) (sym first)
    (slot_held s.land (directory_of s.word root c) c (parts.placed.own_directory (c / 8) (index_below c (chain_below key)) at.directory)))
    (λ behind. subst (IsDataWordOf s.land) (sym behind.2)
    (data_word s.land behind.0 3 (own_part s.land s.word root chains c place.front at.more at.first parts behind.0
    (among_left (blocks place.front) (at.first.block ∷ blocks at.more) behind.0 behind.1)) (omega arith) (omega arith)))
    (link_where (slot_of s.word root c) place.front))

-- the node of a key is not the root
pub place_not_root : (s : Space) (root key : ℕ) (chains : Chains) (directory link node : ℕ) → IsHash s.land s.word root chains
    → IsPlaceOf s root key (chains (chain_number key)) directory link node → node ≢ 0 → node ≢ root
place_not_root s root key chains directory link node h place some e =
    let c = chain_number key in
    let at = node_there s root key chains directory link node h place some in
    let parts = parts_at s root key chains directory link node h place at in
    let among = subst (λ (bs : List ℕ). IsAmong bs at.first.block) (sym (in_chain_of s.land s.word root chains c place.front at.more at.first parts))
    (among_right (blocks place.front) (blocks (at.first ∷ at.more)) at.first.block (inl refl)) in
    parts.placed.root_no_node c parts.below (subst (IsAmong (blocks (chains c))) (sym at.block ∙ e) among)

pub gives_one : (s u : Space) (node link x : ℕ) → IsOwn s.land node → u ≡ given node (written link x s) → GivesBlock s u
gives_one s u node link x own is = record {
  block = node;
  own = own;
  land = ap (λ (v : Space). v.land) is;
  spare = ap (λ (v : Space). v.spare) is;
}

-- what is said of an equal space
pub unlinked_at : (s t u : Space) (node link : ℕ) → t ≡ s → u ≡ given node (written link (t.word (node + 3)) t) → u ≡ given node (written link (s.word (node + 3)) s)
unlinked_at s t u node link same is = is ∙ ap (λ (v : Space). given node (written link (v.word (node + 3)) v)) same
