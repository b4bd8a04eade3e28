-- Words hold one map, and it depends on the structure's blocks alone.
use Rattle.std.proofs.Common.{◌≡◌, ◌≢◌, inl, inr, ⊎_elim, ℕ, ◌+◌, ◌/◌, ◌%◌, ◌<◌, ap, sym, ◌∙◌, arith, subst}
use Rattle.persist_model.specs.Region.{Words}
use Rattle.persist_model.specs.Records.{IsAmong}
use Rattle.lane_traits.specs.Space.{Land, IsOwn}
use Rattle.region_layout.specs.FiniteMap.{FiniteMap, lookup}
use Rattle.region_layout.specs.HeapBlocks.{OwnsAlike, land_of, root_of}
use Rattle.region_layout.specs.HashMap.{Chains, IsChain, IsHashMap, blocks, pairs, chain_number, directory_of, chain_word, first_link}
use Rattle.region_layout.proofs.FiniteMaps.{same_entries}
use Rattle.persist_hash.proofs.ChainLaws.{chain_once, chain_kept}
use Rattle.persist_hash.proofs.Blocks.{IsPlaced, placed_of, of_placed}
use Rattle.persist_hash.proofs.Changing.{first_kept}
use Rattle.persist_hash.proofs.Places.{chain_below, index_below, own_chain}

pub one_map : (land : Land) (w : Words) (root : ℕ) (m n : FiniteMap) → IsHashMap land w root m → IsHashMap land w root n → m ≡ n
one_map land w root m n hm hn = same_entries m n hm.ascending hn.ascending (λ k.
    let c = chain_number k in
    let below = chain_below k in
    let same : hm.chains c ≡ hn.chains c = chain_once land w (first_link w root c) (hm.chains c) (hn.chains c)
    (own_chain land w root hm.chains c hm.is below) (own_chain land w root hn.chains c hn.is below) (hm.is.laid c below) (hn.is.laid c below) in
    hm.lookup_is k ∙ ap (λ ms. lookup k (pairs ms)) same ∙ sym (hn.lookup_is k))

own_there : (heap structure : ℕ) (w u : Words) → OwnsAlike heap structure w u → (b : ℕ) → IsOwn (land_of heap w structure) b → IsOwn (land_of heap u structure) b
own_there heap structure w u alike b own = (
  record { number = own.0.number; place = own.0.place; positive = own.0.positive; fits = own.0.fits },
  alike.owned b own,
)

own_back : (heap structure : ℕ) (w u : Words) → OwnsAlike heap structure w u → (b : ℕ) → IsOwn (land_of heap u structure) b → IsOwn (land_of heap w structure) b
own_back heap structure w u alike b own = (
  record { number = own.0.number; place = own.0.place; positive = own.0.positive; fits = own.0.fits },
  alike.owned_back b own,
)

placed_alike : (heap structure root : ℕ) (w u : Words) (chains : Chains) → OwnsAlike heap structure w u → IsPlaced (land_of heap w structure) w root chains
    → IsPlaced (land_of heap u structure) u root chains
placed_alike heap structure root w u chains alike p = record {
  root_own = there root p.root_own;
  laid = λ c lt. subst (λ l. IsChain u l (chains c)) (sym (first_kept w u root c (rooted (c / 8) (index_below c lt)) (λ some. linked c lt some)))
      (chain_kept w u (first_link w root c) (chains c) (λ b i k pos small. alike.words b i (p.own_node c b lt k) pos (omega (arith, small))) (p.laid c lt));
  own_directory = λ d lt some. subst (IsOwn (land_of heap u structure)) (sym (rooted d lt)) (there (w (root + 1 + d)) (p.own_directory d lt (λ z. some (rooted d lt ∙ z))));
  own_node = λ c b lt k. there b (p.own_node c b lt k);
  root_no_directory = λ d lt e. p.root_no_directory d lt (sym (rooted d lt) ∙ e);
  root_no_node = p.root_no_node;
  directories_once = λ d e ld le ne some same. p.directories_once d e ld le ne (λ z. some (rooted d ld ∙ z)) (sym (rooted d ld) ∙ same ∙ rooted e le);
  directory_no_node = λ d c ld lc k. p.directory_no_node d c ld lc (subst (IsAmong (blocks (chains c))) (rooted d ld) k);
  nodes_once = p.nodes_once;
  nodes_apart = p.nodes_apart;
  all = λ b own. ⊎_elim (λ e. inl e) (λ at. inr (⊎_elim
      (λ d. inl (record { index = d.index; below = d.below; named = rooted d.index d.below ∙ d.named; positive = d.positive }))
      (λ n. inr n) at)) (p.all b (own_back heap structure w u alike b own));
  in_chain = p.in_chain;
  keys_once = p.keys_once;
  filled = p.filled;
}
  where
    there : (b : ℕ) → IsOwn (land_of heap w structure) b → IsOwn (land_of heap u structure) b
    there = own_there heap structure w u alike

    rooted : (d : ℕ) → d < 8 → u (root + 1 + d) ≡ w (root + 1 + d)
    rooted d lt =
        let place : root + (1 + d) ≡ root + 1 + d = omega arith in
        ap u (sym place) ∙ alike.words root (1 + d) p.root_own (omega arith) (omega (arith, lt)) ∙ ap w place

    linked : (c : ℕ) → c < 64 → directory_of w root c ≢ 0 → u (chain_word (directory_of w root c) c) ≡ w (chain_word (directory_of w root c) c)
    linked c lt some =
        let place : directory_of w root c + (1 + c % 8) ≡ chain_word (directory_of w root c) c = omega arith in
        ap u (sym place) ∙ alike.words (directory_of w root c) (1 + c % 8) (p.own_directory (c / 8) (index_below c lt) some) (omega arith) (omega arith) ∙ ap w place

pub depends : (heap structure : ℕ) (w u : Words) (m : FiniteMap) → OwnsAlike heap structure w u
    → IsHashMap (land_of heap w structure) w (root_of heap structure) m → IsHashMap (land_of heap u structure) u (root_of heap structure) m
depends heap structure w u m alike h = record {
  chains = h.chains;
  is = of_placed (land_of heap u structure) u (root_of heap structure) h.chains
      (placed_alike heap structure (root_of heap structure) w u h.chains alike (placed_of (land_of heap w structure) w (root_of heap structure) h.chains h.is));
  ascending = h.ascending;
  lookup_is = h.lookup_is;
}
