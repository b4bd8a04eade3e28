-- The blocks that a hash reaches, by where they stand.
use Rattle.std.proofs.Common.{◌≡◌, ◌≢◌, ◌⊎◌, inl, inr, ⊎_elim, ℕ, zero, suc, ◌+◌, ◌<◌, ◌≤◌, true, false, Bool, if◌then◌else◌, ◌==◌, List, ◌∷◌, ◌++◌, refl, ap, sym, ◌∙◌, arith, subst}
use Rattle.std.proofs.lemmas.Bool.Decides.{nat_tests, eqb_tells}
use Rattle.persist_model.specs.Region.{Words}
use Rattle.persist_model.specs.Records.{IsAmong}
use Rattle.persist_model.specs.Chain.{HasNoRepeats}
use Rattle.lane_traits.specs.Space.{Land, IsOwn}
use Rattle.region_layout.specs.HashMap.{Chains, CHAINS, IsChain, EachNode, blocks, keys, first_link, directories, nodes, reached, chain_number, IsHash}
use Rattle.lane_traits.proofs.Among.{absent_of, of_absent}
use Rattle.persist_hash.proofs.Lists.{among_left, among_right, among_either, AreApart, once_joined, once_left, once_right, once_apart}
use Rattle.persist_hash.proofs.ChainLaws.{blocks-append}

-- ---- nodes

pub in_nodes : (n c : ℕ) (chains : Chains) (b : ℕ) → c < n → IsAmong (blocks (chains c)) b → IsAmong (blocks (nodes n chains)) b
unfolding nodes
in_nodes zero c chains b below h = absurd (omega (arith, below))
in_nodes (suc n) c chains b below h = subst (λ xs. IsAmong xs b) (sym (blocks-append (chains n) (nodes n chains))) (⊎_elim
    (λ same. among_left (blocks (chains n)) (blocks (nodes n chains)) b (subst (λ k. IsAmong (blocks (chains k)) b) same.1 h))
    (λ other. among_right (blocks (chains n)) (blocks (nodes n chains)) b
    (in_nodes n c chains b (let ne = other.1 in omega (arith, below, ne)) h))
    (eqb_tells c n))

pub record IsNodeOf (n : ℕ) (chains : Chains) (b : ℕ) : Type 0 where
  pub chain : ℕ
  pub below : chain < n
  pub among : IsAmong (blocks (chains chain)) b

pub of_nodes : (n : ℕ) (chains : Chains) (b : ℕ) → IsAmong (blocks (nodes n chains)) b → IsNodeOf n chains b
unfolding nodes
of_nodes zero chains b h = absurd h
of_nodes (suc n) chains b h = ⊎_elim
    (λ k. record { chain = n; below = omega arith; among = k })
    (λ k. let again = of_nodes n chains b k in record { chain = again.chain; below = (let lt = again.below in omega (arith, lt)); among = again.among })
    (among_either (blocks (chains n)) (blocks (nodes n chains)) b (subst (λ xs. IsAmong xs b) (blocks-append (chains n) (nodes n chains)) h))

pub once_chain : (n c : ℕ) (chains : Chains) → c < n → HasNoRepeats (blocks (nodes n chains)) → HasNoRepeats (blocks (chains c))
unfolding nodes
once_chain zero c chains below once = absurd (omega (arith, below))
once_chain (suc n) c chains below once =
    let joined : HasNoRepeats (blocks (chains n) ++ blocks (nodes n chains)) = subst (λ xs. HasNoRepeats xs) (blocks-append (chains n) (nodes n chains)) once in
    ⊎_elim
    (λ same. subst (λ k. HasNoRepeats (blocks (chains k))) (sym same.1) (once_left (blocks (chains n)) (blocks (nodes n chains)) joined))
    (λ other. once_chain n c chains (let ne = other.1 in omega (arith, below, ne)) (once_right (blocks (chains n)) (blocks (nodes n chains)) joined))
    (eqb_tells c n)

pub chains_apart : (n c d : ℕ) (chains : Chains) → c < n → d < n → c ≢ d → HasNoRepeats (blocks (nodes n chains)) → AreApart (blocks (chains c)) (blocks (chains d))
unfolding nodes
chains_apart zero c d chains below_c below_d ne once = absurd (omega (arith, below_c))
chains_apart (suc n) c d chains below_c below_d ne once =
    let joined : HasNoRepeats (blocks (chains n) ++ blocks (nodes n chains)) = subst (λ xs. HasNoRepeats xs) (blocks-append (chains n) (nodes n chains)) once in
    let apart = once_apart (blocks (chains n)) (blocks (nodes n chains)) joined in
    ⊎_elim
    (λ same. λ b h k. apart b (subst (λ x. IsAmong (blocks (chains x)) b) same.1 h)
    (in_nodes n d chains b (let e = same.1 in omega (arith, e, ne, below_d)) k))
    (λ other. ⊎_elim
    (λ same. λ b h k. apart b (subst (λ x. IsAmong (blocks (chains x)) b) same.1 k)
    (in_nodes n c chains b (let e = same.1 in omega (arith, e, ne, below_c)) h))
    (λ another. chains_apart n c d chains (let e = other.1 in omega (arith, e, below_c)) (let e = another.1 in omega (arith, e, below_d)) ne
    (once_right (blocks (chains n)) (blocks (nodes n chains)) joined))
    (eqb_tells d n))
    (eqb_tells c n)

pub once_nodes : (n : ℕ) (chains : Chains) → ((c : ℕ) → c < n → HasNoRepeats (blocks (chains c)))
    → ((c d : ℕ) → c < n → d < n → c ≢ d → AreApart (blocks (chains c)) (blocks (chains d))) → HasNoRepeats (blocks (nodes n chains))
unfolding nodes
once_nodes zero chains once apart = tt
once_nodes (suc n) chains once apart = subst (λ xs. HasNoRepeats xs) (sym (blocks-append (chains n) (nodes n chains)))
    (once_joined (blocks (chains n)) (blocks (nodes n chains)) (once n (omega arith))
    (once_nodes n chains (λ c lt. once c (omega (arith, lt))) (λ c d lt below. apart c d (omega (arith, lt)) (omega (arith, below))))
    (λ b h k. let at = of_nodes n chains b k in let lt = at.below in
    apart n at.chain (omega arith) (omega (arith, lt)) (λ e. omega (arith, e, lt)) b h at.among))

-- ---- directory blocks

pub record IsDirectoryOf (n : ℕ) (w : Words) (root b : ℕ) : Type 0 where
  pub index : ℕ
  pub below : index < n
  pub named : w (root + 1 + index) ≡ b
  pub positive : b ≢ 0

pub in_directories : (n d : ℕ) (w : Words) (root : ℕ) → d < n → w (root + 1 + d) ≢ 0 → IsAmong (directories n w root) (w (root + 1 + d))
unfolding directories
in_directories zero d w root below some = absurd (omega (arith, below))
in_directories (suc n) d w root below some = ⊎_elim
    (λ same. let e : d ≡ n = same.1 in
    subst (λ k. IsAmong (directories (suc n) w root) (w (root + 1 + k))) (sym e)
    (here (w (root + 1 + n)) (directories n w root) (λ z. some (ap (λ k. w (root + 1 + k)) e ∙ z))))
    (λ other. there (w (root + 1 + n) == 0) (w (root + 1 + n)) (directories n w root) (w (root + 1 + d))
    (in_directories n d w root (let ne = other.1 in omega (arith, below, ne)) some))
    (eqb_tells d n)
  where
    here : (x : ℕ) (xs : List ℕ) → x ≢ 0 → IsAmong (if x == 0 then xs else x ∷ xs) x
    here x xs ne = let off : (x == 0) ≡ false = grind (arith, nat_tests) in rw off (inl refl)

    there : (t : Bool) (x : ℕ) (xs : List ℕ) (y : ℕ) → IsAmong xs y → IsAmong (if t then xs else x ∷ xs) y
    there true x xs y h = h
    there false x xs y h = inr h

pub of_directories : (n : ℕ) (w : Words) (root b : ℕ) → IsAmong (directories n w root) b → IsDirectoryOf n w root b
unfolding directories
of_directories zero w root b h = absurd h
of_directories (suc n) w root b h = step (w (root + 1 + n) == 0) (eqb_tells (w (root + 1 + n)) 0) h (of_directories n w root b)
  where
    more : IsDirectoryOf n w root b → IsDirectoryOf (suc n) w root b
    more at = record { index = at.index; below = (let lt = at.below in omega (arith, lt)); named = at.named; positive = at.positive }

    step : (t : Bool) → ((t ≡ true) × (w (root + 1 + n) ≡ 0)) ⊎ ((t ≡ false) × (w (root + 1 + n) ≢ 0))
        → IsAmong (if t then directories n w root else w (root + 1 + n) ∷ directories n w root) b
        → (IsAmong (directories n w root) b → IsDirectoryOf n w root b) → IsDirectoryOf (suc n) w root b
    step true tells k again = more (again k)
    step false tells (inl e) again = record {
      index = n;
      below = omega arith;
      named = sym e;
      positive = ⊎_elim (λ on. absurd (let q = on.0 in cc)) (λ off. λ z. off.1 (sym e ∙ z)) tells;
    }
    step false tells (inr k) again = more (again k)

pub once_directories : (n : ℕ) (w : Words) (root : ℕ) → ((d e : ℕ) → d < n → e < n → d ≢ e → w (root + 1 + d) ≢ 0 → w (root + 1 + d) ≢ w (root + 1 + e))
    → HasNoRepeats (directories n w root)
unfolding directories
once_directories zero w root apart = tt
once_directories (suc n) w root apart = step (w (root + 1 + n) == 0) (eqb_tells (w (root + 1 + n)) 0)
    (once_directories n w root (λ d e ld le. apart d e (omega (arith, ld)) (omega (arith, le))))
  where
    step : (t : Bool) → ((t ≡ true) × (w (root + 1 + n) ≡ 0)) ⊎ ((t ≡ false) × (w (root + 1 + n) ≢ 0)) → HasNoRepeats (directories n w root)
        → HasNoRepeats (if t then directories n w root else w (root + 1 + n) ∷ directories n w root)
    step true tells again = again
    step false tells again = (
      absent_of (directories n w root) (w (root + 1 + n)) (λ h.
          let at = of_directories n w root (w (root + 1 + n)) h in
          let lt = at.below in
          apart at.index n (omega (arith, lt)) (omega arith) (λ e. omega (arith, e, lt)) (λ z. at.positive (sym at.named ∙ z)) at.named),
      again,
    )

once_fewer : (n : ℕ) (w : Words) (root : ℕ) → HasNoRepeats (directories (suc n) w root) → HasNoRepeats (directories n w root)
unfolding directories
once_fewer n w root once = step (w (root + 1 + n) == 0) once
  where
    step : (t : Bool) → HasNoRepeats (if t then directories n w root else w (root + 1 + n) ∷ directories n w root) → HasNoRepeats (directories n w root)
    step true h = h
    step false h = h.1

last_apart : (n : ℕ) (w : Words) (root : ℕ) → w (root + 1 + n) ≢ 0 → HasNoRepeats (directories (suc n) w root) → IsAmong (directories n w root) (w (root + 1 + n)) → ⊥
unfolding directories
last_apart n w root some once = step (w (root + 1 + n)) (directories n w root) some once
  where
    step : (x : ℕ) (xs : List ℕ) → x ≢ 0 → HasNoRepeats (if x == 0 then xs else x ∷ xs) → IsAmong xs x → ⊥
    step x xs ne h = let off : (x == 0) ≡ false = grind (arith, nat_tests) in
        of_absent xs x (rw off at h).0

pub directories_apart : (n d e : ℕ) (w : Words) (root : ℕ) → d < n → e < n → d ≢ e → w (root + 1 + d) ≢ 0 → HasNoRepeats (directories n w root)
    → w (root + 1 + d) ≢ w (root + 1 + e)
directories_apart zero d e w root ld le ne some once = absurd (omega (arith, ld))
directories_apart (suc n) d e w root ld le ne some once = λ same. ⊎_elim
    (λ last. let q : d ≡ n = last.1 in
    last_apart n w root (λ z. some (ap (λ k. w (root + 1 + k)) q ∙ z)) once
    (subst (IsAmong (directories n w root)) (sym same ∙ ap (λ k. w (root + 1 + k)) q)
    (in_directories n e w root (omega (arith, q, ne, le)) (λ z. some (same ∙ z)))))
    (λ early. ⊎_elim
    (λ last. let q : e ≡ n = last.1 in
    last_apart n w root (λ z. some (same ∙ ap (λ k. w (root + 1 + k)) q ∙ z)) once
    (subst (IsAmong (directories n w root)) (same ∙ ap (λ k. w (root + 1 + k)) q)
    (in_directories n d w root (let p = early.1 in omega (arith, p, ld)) some)))
    (λ another. directories_apart n d e w root (let p = early.1 in omega (arith, p, ld)) (let p = another.1 in omega (arith, p, le)) ne some
    (once_fewer n w root once) same)
    (eqb_tells e n))
    (eqb_tells d n)

-- ---- a hash by its places

-- What the definition says, place by place.
pub record IsPlaced (land : Land) (w : Words) (root : ℕ) (chains : Chains) : Type 0 where
  pub root_own : IsOwn land root
  pub laid : (c : ℕ) → c < CHAINS → IsChain w (first_link w root c) (chains c)
  pub own_directory : (d : ℕ) → d < 8 → w (root + 1 + d) ≢ 0 → IsOwn land (w (root + 1 + d))
  pub own_node : (c b : ℕ) → c < CHAINS → IsAmong (blocks (chains c)) b → IsOwn land b
  pub root_no_directory : (d : ℕ) → d < 8 → w (root + 1 + d) ≢ root
  pub root_no_node : (c : ℕ) → c < CHAINS → IsAmong (blocks (chains c)) root → ⊥
  pub directories_once : (d e : ℕ) → d < 8 → e < 8 → d ≢ e → w (root + 1 + d) ≢ 0 → w (root + 1 + d) ≢ w (root + 1 + e)
  pub directory_no_node : (d c : ℕ) → d < 8 → c < CHAINS → IsAmong (blocks (chains c)) (w (root + 1 + d)) → ⊥
  pub nodes_once : (c : ℕ) → c < CHAINS → HasNoRepeats (blocks (chains c))
  pub nodes_apart : (c d : ℕ) → c < CHAINS → d < CHAINS → c ≢ d → AreApart (blocks (chains c)) (blocks (chains d))
  pub all : (b : ℕ) → IsOwn land b → (b ≡ root) ⊎ (IsDirectoryOf 8 w root b ⊎ IsNodeOf CHAINS chains b)
  pub in_chain : (c : ℕ) → c < CHAINS → EachNode (λ n. chain_number n.key ≡ c) (chains c)
  pub keys_once : (c : ℕ) → c < CHAINS → HasNoRepeats (keys (chains c))
  pub filled : (c : ℕ) → c < CHAINS → EachNode (λ n. 1 ≤ n.value) (chains c)

among_directory : (w : Words) (root : ℕ) (chains : Chains) (d : ℕ) → d < 8 → w (root + 1 + d) ≢ 0 → IsAmong (reached w root chains) (w (root + 1 + d))
unfolding reached
among_directory w root chains d below some =
    among_left (directories 8 w root) (blocks (nodes CHAINS chains)) (w (root + 1 + d)) (in_directories 8 d w root below some)

among_node : (w : Words) (root : ℕ) (chains : Chains) (c b : ℕ) → c < CHAINS → IsAmong (blocks (chains c)) b → IsAmong (reached w root chains) b
unfolding reached
among_node w root chains c b below h =
    among_right (directories 8 w root) (blocks (nodes CHAINS chains)) b (in_nodes CHAINS c chains b below h)

reached_either : (w : Words) (root : ℕ) (chains : Chains) (b : ℕ) → IsAmong (reached w root chains) b → IsDirectoryOf 8 w root b ⊎ IsNodeOf CHAINS chains b
unfolding reached
reached_either w root chains b h = ⊎_elim
    (λ k. inl (of_directories 8 w root b k))
    (λ k. inr (of_nodes CHAINS chains b k))
    (among_either (directories 8 w root) (blocks (nodes CHAINS chains)) b h)

once_both : (w : Words) (root : ℕ) (chains : Chains) → HasNoRepeats (reached w root chains)
    → HasNoRepeats (directories 8 w root) × HasNoRepeats (blocks (nodes CHAINS chains)) × AreApart (directories 8 w root) (blocks (nodes CHAINS chains))
unfolding reached
once_both w root chains once = (
  once_left (directories 8 w root) (blocks (nodes CHAINS chains)) once,
  once_right (directories 8 w root) (blocks (nodes CHAINS chains)) once,
  once_apart (directories 8 w root) (blocks (nodes CHAINS chains)) once,
)

both_once : (w : Words) (root : ℕ) (chains : Chains) → HasNoRepeats (directories 8 w root) → HasNoRepeats (blocks (nodes CHAINS chains))
    → AreApart (directories 8 w root) (blocks (nodes CHAINS chains)) → HasNoRepeats (reached w root chains)
unfolding reached
both_once w root chains hd hn apart = once_joined (directories 8 w root) (blocks (nodes CHAINS chains)) hd hn apart

pub placed_of : (land : Land) (w : Words) (root : ℕ) (chains : Chains) → IsHash land w root chains → IsPlaced land w root chains
placed_of land w root chains h =
    let both = once_both w root chains h.once.1 in
    let absent = of_absent (reached w root chains) root h.once.0 in
    let positive = h.root_own.0.positive in
    record {
      root_own = h.root_own;
      laid = h.laid;
      own_directory = λ d below some. h.own (w (root + 1 + d)) (among_directory w root chains d below some);
      own_node = λ c b below k. h.own b (among_node w root chains c b below k);
      root_no_directory = λ d below e. absent (subst (IsAmong (reached w root chains)) e
          (among_directory w root chains d below (λ z. omega (arith, e, z, positive))));
      root_no_node = λ c below k. absent (among_node w root chains c root below k);
      directories_once = λ d e ld le ne some. directories_apart 8 d e w root ld le ne some both.0;
      directory_no_node = λ d c ld lc k. ⊎_elim
          (λ zero_is. let p = (h.own (w (root + 1 + d)) (among_node w root chains c (w (root + 1 + d)) lc k)).0.positive in let z = zero_is.1 in omega (arith, p, z))
          (λ some. both.2 (w (root + 1 + d)) (in_directories 8 d w root ld some.1) (in_nodes CHAINS c chains (w (root + 1 + d)) lc k))
          (eqb_tells (w (root + 1 + d)) 0);
      nodes_once = λ c below. once_chain CHAINS c chains below both.1;
      nodes_apart = λ c d lc ld ne. chains_apart CHAINS c d chains lc ld ne both.1;
      all = λ b own. ⊎_elim (λ e. inl e) (λ k. inr (reached_either w root chains b k)) (h.all b own);
      in_chain = h.in_chain;
      keys_once = h.keys_once;
      filled = h.filled;
    }

pub of_placed : (land : Land) (w : Words) (root : ℕ) (chains : Chains) → IsPlaced land w root chains → IsHash land w root chains
of_placed land w root chains p = record {
  root_own = p.root_own;
  laid = p.laid;
  own = λ b h. ⊎_elim
      (λ d. subst (IsOwn land) d.named (p.own_directory d.index d.below (λ z. d.positive (sym d.named ∙ z))))
      (λ n. p.own_node n.chain b n.below n.among)
      (reached_either w root chains b h);
  once = (
    absent_of (reached w root chains) root (λ h. ⊎_elim
        (λ d. p.root_no_directory d.index d.below d.named)
        (λ n. p.root_no_node n.chain n.below n.among)
        (reached_either w root chains root h)),
    both_once w root chains (once_directories 8 w root p.directories_once) (once_nodes CHAINS chains p.nodes_once p.nodes_apart)
        (λ b h k. let d = of_directories 8 w root b h in let n = of_nodes CHAINS chains b k in
        p.directory_no_node d.index n.chain d.below n.below (subst (IsAmong (blocks (chains n.chain))) (sym d.named) n.among)),
  );
  all = λ b own. ⊎_elim (λ e. inl e) (λ h. inr (⊎_elim
      (λ d. subst (IsAmong (reached w root chains)) d.named (among_directory w root chains d.index d.below (λ z. d.positive (sym d.named ∙ z))))
      (λ n. among_node w root chains n.chain b n.below n.among) h)) (p.all b own);
  in_chain = p.in_chain;
  keys_once = p.keys_once;
  filled = p.filled;
}
