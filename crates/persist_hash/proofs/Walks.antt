-- A walk: the pairs of all nodes, sorted, are the entries.
use Rattle.std.proofs.Common.{◌≡◌, ◌≢◌, inl, inr, ⊎_elim, ℕ, zero, suc, ◌+◌, ◌<◌, ◌≤◌, Bool, true, false, if◌then◌else◌, ◌==◌, List, [], ◌∷◌, ◌++◌, length, get_or, Option, Some, None, refl, ap, sym, ◌∙◌, arith, subst, add-one}
use Rattle.std.specs.List.{Contains, IsDistinct, AllByRecursion}
use Rattle.std.specs.List.Sorted.{IsPermutation, IsNonDecreasingBy}
use Rattle.std.proofs.lemmas.Bool.Decides.{nat_tests, eqb_tells}
use Rattle.std.proofs.lemmas.List.Sorted.{Contains-permutation, IsPermutation-sym}
use Rattle.std.proofs.lemmas.Map.Keys.{IsDistinct-IsPermutation}
use Rattle.persist_model.specs.Records.{IsAmong}
use Rattle.persist_model.specs.Chain.{HasNoRepeats, IsAbsent}
use Rattle.lane_traits.specs.Space.{Space}
use Rattle.lane_traits.specs.declared.words.Pair.{Pair}
use Rattle.region_layout.specs.FiniteMap.{FiniteMap, lookup, AreAfter, HasAscendingKeys}
use Rattle.region_layout.proofs.FiniteMaps.{first_of, none_some, same_entries}
use Rattle.region_layout.specs.HashMap.{Node, Chains, EachNode, keys, pairs, chain_number}
use Rattle.persist_hash.specs.Calls.{Holds}
use Rattle.persist_hash.specs.Walk.{entries_of, node_pair, node_pairs, nodes_up_to}
use Rattle.persist_hash.proofs.Lists.{among_either, once_joined}
use Rattle.persist_hash.proofs.ChainLaws.{keys-append}
use Rattle.persist_hash.proofs.Places.{chain_below}

-- ---- members and look-ups

among_of_lookup : (k v : ℕ) (m : FiniteMap) → lookup k m ≡ Some v → IsAmong m (k, v)
among_of_lookup k v [] e = absurd (let q = e in cc)
among_of_lookup k v (p ∷ ps) e = ⊎_elim
    (λ here.
    let at : Some p.1 ≡ Some v = sym (ap (λ t. if t then Some p.1 else lookup k ps) here.0) ∙ e in
    let second : p.1 ≡ v = cc in
    let first : k ≡ p.0 = here.1 in
    inl (λ i. (first i, sym second i)))
    (λ there. inr (among_of_lookup k v ps (sym (ap (λ t. if t then Some p.1 else lookup k ps) there.0) ∙ e)))
    (eqb_tells k p.0)

after_member : (k : ℕ) (m : FiniteMap) (p : ℕ × ℕ) → AreAfter k m → IsAmong m p → k < p.0
after_member k [] p h m = absurd m
after_member k (q ∷ qs) p h (inl e) = let less = h.0 in let f : p.0 ≡ q.0 = ap (λ (x : ℕ × ℕ). x.0) e in omega (arith, less, f)
after_member k (q ∷ qs) p h (inr m) = after_member k qs p h.1 m

lookup_of_among : (p : ℕ × ℕ) (m : FiniteMap) → HasAscendingKeys m → IsAmong m p → lookup p.0 m ≡ Some p.1
lookup_of_among p [] h m = absurd m
lookup_of_among p (q ∷ qs) h (inl e) = subst (λ (x : ℕ × ℕ). lookup x.0 (q ∷ qs) ≡ Some x.1) (sym e) (first_of q qs)
lookup_of_among p (q ∷ qs) h (inr m) =
    let less = after_member q.0 qs p h.0 m in
    let off : (p.0 == q.0) ≡ false = grind (arith, nat_tests) in
    rw off (lookup_of_among p qs h.1 m)

none_among : (k v : ℕ) (m : FiniteMap) → lookup k m ≡ None → IsAmong m (k, v) → ⊥
none_among k v [] e h = h
none_among k v (p ∷ ps) e (inl f) =
    let at : k ≡ p.0 = ap (λ (x : ℕ × ℕ). x.0) f in
    none_some (lookup k (p ∷ ps)) p.1 e (ap (λ x. lookup x (p ∷ ps)) at ∙ first_of p ps)
none_among k v (p ∷ ps) e (inr h) = ⊎_elim
    (λ here. none_some (lookup k (p ∷ ps)) p.1 e (ap (λ x. lookup x (p ∷ ps)) here.1 ∙ first_of p ps))
    (λ there. none_among k v ps (sym (ap (λ t. if t then Some p.1 else lookup k ps) there.0) ∙ e) h)
    (eqb_tells k p.0)

-- ---- sorted pairs

abbrev same_key : Pair → Pair → Bool
same_key x y = x.key == y.key

all_after : (k : ℕ) (xs : List Pair) → AllByRecursion (λ y. (k == y.key) ≡ false) xs → ((j : ℕ) (d : Pair) → j < length xs → k ≤ (get_or xs j d).key) → AreAfter k (entries_of xs)
all_after k [] h low = tt
all_after k (x ∷ xs) h low = (
  (let off = h.0 in let le = low 0 x (omega arith) in grind (arith, nat_tests)),
  all_after k xs h.1 (λ j d lt. low (suc j) d (omega (arith, lt))),
)

ascends : (xs : List Pair) → IsDistinct same_key xs → IsNonDecreasingBy (λ p. p.key) xs → HasAscendingKeys (entries_of xs)
unfolding IsDistinct
ascends [] distinct rising = tt
ascends (x ∷ xs) distinct rising = (
  all_after x.key xs distinct.0 (λ j d lt. rising 0 (suc j) d (omega arith) (omega (arith, lt))),
  ascends xs distinct.1 (λ i j d le lt. rising (suc i) (suc j) d (omega (arith, le)) (omega (arith, lt))),
)

contains_of : (xs : List Pair) (x : Pair) → IsAmong xs x → Contains xs x
contains_of [] x h = absurd h
contains_of (y ∷ ys) x (inl e) = (0, omega arith, sym e)
contains_of (y ∷ ys) x (inr h) = let at = contains_of ys x h in (suc at.0, (let lt = at.1 in omega (arith, lt)), at.2)

of_contains : (xs : List Pair) (x : Pair) → Contains xs x → IsAmong xs x
of_contains [] x h = absurd (let lt = h.1 in omega (arith, lt))
of_contains (y ∷ ys) x h = at h.0 h.1 h.2 (λ k lt e. of_contains ys x (k, lt, e))
  where
    at : (k : ℕ) → k < length (y ∷ ys) → get_or (y ∷ ys) k x ≡ x → ((j : ℕ) → j < length ys → get_or ys j x ≡ x → IsAmong ys x) → IsAmong (y ∷ ys) x
    at zero lt e again = inl (sym e)
    at (suc k) lt e again = inr (again k (omega (arith, lt)) e)

pair_among : (xs : List Pair) (k v : ℕ) → IsAmong (entries_of xs) (k, v) → IsAmong xs (record { key = k; value = v })
pair_among [] k v h = absurd h
pair_among (x ∷ xs) k v (inl e) = inl (λ i. record { key = (e i).0; value = (e i).1 })
pair_among (x ∷ xs) k v (inr h) = inr (pair_among xs k v h)

entry_among : (xs : List Pair) (x : Pair) → IsAmong xs x → IsAmong (entries_of xs) (x.key, x.value)
entry_among [] x h = absurd h
entry_among (y ∷ ys) x (inl e) = inl (λ i. ((e i).key, (e i).value))
entry_among (y ∷ ys) x (inr h) = inr (entry_among ys x h)

moved : (xs ys : List Pair) (k v : ℕ) → IsPermutation xs ys → IsAmong (entries_of xs) (k, v) → IsAmong (entries_of ys) (k, v)
moved xs ys k v p h = entry_among ys (record { key = k; value = v })
    (of_contains ys (record { key = k; value = v }) (Contains-permutation xs ys (record { key = k; value = v }) p
    (contains_of xs (record { key = k; value = v }) (pair_among xs k v h))))

flips : (x y : Pair) → same_key x y ≡ same_key y x
flips x y = ⊎_elim
    (λ same. let e = same.1 in let back : (y.key == x.key) ≡ true = grind (arith, nat_tests) in same.0 ∙ sym back)
    (λ other. let ne = other.1 in let back : (y.key == x.key) ≡ false = grind (arith, nat_tests) in other.0 ∙ sym back)
    (eqb_tells x.key y.key)

-- sorted, they have the same look-ups
sorted_lookup : (xs ys : List Pair) (k : ℕ) → IsPermutation xs ys → HasAscendingKeys (entries_of ys) → (o : Option ℕ) → lookup k (entries_of xs) ≡ o
    → (r : Option ℕ) → lookup k (entries_of ys) ≡ r → r ≡ o
sorted_lookup xs ys k p up (Some v) e r f =
    sym f ∙ lookup_of_among (k, v) (entries_of ys) up (moved xs ys k v p (among_of_lookup k v (entries_of xs) e))
sorted_lookup xs ys k p up None e None f = refl
sorted_lookup xs ys k p up None e (Some v) f =
    absurd (none_among k v (entries_of xs) e (moved ys xs k v (IsPermutation-sym xs ys p) (among_of_lookup k v (entries_of ys) f)))

pub sorted_entries : (xs ys : List Pair) (contents : FiniteMap) → IsPermutation xs ys → IsNonDecreasingBy (λ p. p.key) ys → IsDistinct same_key xs
    → HasAscendingKeys contents → ((k : ℕ) → lookup k contents ≡ lookup k (entries_of xs)) → entries_of ys ≡ contents
sorted_entries xs ys contents p rising distinct up same =
    let ascending = ascends ys (IsDistinct-IsPermutation same_key flips xs ys p distinct) rising in
    same_entries (entries_of ys) contents ascending up
    (λ k. sorted_lookup xs ys k p ascending (lookup k (entries_of xs)) refl (lookup k (entries_of ys)) refl ∙ sym (same k))

-- ---- the nodes of all chains

entries_pairs : (ns : List Node) → entries_of (node_pairs ns) ≡ pairs ns
entries_pairs [] = refl
entries_pairs (n ∷ ns) = ap (λ xs. (n.key, n.value) ∷ xs) (entries_pairs ns)

pairs-append : (ns ms : List Node) → pairs (ns ++ ms) ≡ pairs ns ++ pairs ms
pairs-append [] ms = refl
pairs-append (n ∷ ns) ms = ap (λ xs. (n.key, n.value) ∷ xs) (pairs-append ns ms)

pub node_pairs-append : (ns ms : List Node) → node_pairs (ns ++ ms) ≡ node_pairs ns ++ node_pairs ms
node_pairs-append [] ms = refl
node_pairs-append (n ∷ ns) ms = ap (λ xs. node_pair n ∷ xs) (node_pairs-append ns ms)

pub no_chains : (chains : Chains) → node_pairs (nodes_up_to 0 chains) ≡ []
unfolding nodes_up_to
no_chains chains = refl

step_up : (n : ℕ) (chains : Chains) → node_pairs (nodes_up_to (suc n) chains) ≡ node_pairs (nodes_up_to n chains) ++ node_pairs (chains n)
unfolding nodes_up_to
step_up n chains = node_pairs-append (nodes_up_to n chains) (chains n)

pub one_chain_more : (n : ℕ) (chains : Chains) → node_pairs (nodes_up_to (n + 1) chains) ≡ node_pairs (nodes_up_to n chains) ++ node_pairs (chains n)
one_chain_more n chains = ap (λ k. node_pairs (nodes_up_to k chains)) (add-one n) ∙ step_up n chains

lookup_front : (k : ℕ) (a b : FiniteMap) → lookup k b ≡ None → lookup k (a ++ b) ≡ lookup k a
lookup_front k [] b e = e
lookup_front k (p ∷ ps) b e = ap (λ x. if k == p.0 then Some p.1 else x) (lookup_front k ps b e)

lookup_back : (k : ℕ) (a b : FiniteMap) → lookup k a ≡ None → lookup k (a ++ b) ≡ lookup k b
lookup_back k [] b e = refl
lookup_back k (p ∷ ps) b e = ⊎_elim
    (λ here. absurd (none_some (lookup k (p ∷ ps)) p.1 e (ap (λ t. if t then Some p.1 else lookup k ps) here.0)))
    (λ there. ap (λ t. if t then Some p.1 else lookup k (ps ++ b)) there.0 ∙ lookup_back k ps b (sym (ap (λ t. if t then Some p.1 else lookup k ps) there.0) ∙ e))
    (eqb_tells k p.0)

other_chain : (k c : ℕ) (ns : List Node) → EachNode (λ n. chain_number n.key ≡ c) ns → chain_number k ≢ c → lookup k (pairs ns) ≡ None
other_chain k c [] h ne = refl
other_chain k c (n ∷ ns) h ne =
    let apart : k ≢ n.key = (λ e. ne (ap chain_number e ∙ h.0)) in
    let off : (k == n.key) ≡ false = grind (arith, nat_tests) in
    rw off (other_chain k c ns h.1 ne)

pub record LooksUp (n : ℕ) (chains : Chains) (k : ℕ) : Type 0 where
  pub within : chain_number k < n → lookup k (pairs (nodes_up_to n chains)) ≡ lookup k (pairs (chains (chain_number k)))
  pub outside : n ≤ chain_number k → lookup k (pairs (nodes_up_to n chains)) ≡ None

pub all_lookups : (n : ℕ) (chains : Chains) (k : ℕ) → n ≤ 64 → ((c : ℕ) → c < 64 → EachNode (λ m. chain_number m.key ≡ c) (chains c)) → LooksUp n chains k
unfolding nodes_up_to
all_lookups zero chains k le h = record { within = λ lt. absurd (omega (arith, lt)); outside = λ ge. refl }
all_lookups (suc n) chains k le h =
    let again = all_lookups n chains k (omega (arith, le)) h in
    let split = pairs-append (nodes_up_to n chains) (chains n) in
    record {
      within = λ lt. ap (lookup k) split ∙ ⊎_elim
          (λ here. let e : chain_number k ≡ n = here.1 in
          lookup_back k (pairs (nodes_up_to n chains)) (pairs (chains n)) (again.outside (omega (arith, e))) ∙ ap (λ c. lookup k (pairs (chains c))) (sym e))
          (λ there. let ne = there.1 in
          lookup_front k (pairs (nodes_up_to n chains)) (pairs (chains n)) (other_chain k n (chains n) (h n (omega (arith, le))) ne) ∙ again.within (omega (arith, lt, ne)))
          (eqb_tells (chain_number k) n);
      outside = λ ge. ap (lookup k) split
          ∙ lookup_back k (pairs (nodes_up_to n chains)) (pairs (chains n)) (again.outside (omega (arith, ge)))
          ∙ other_chain k n (chains n) (h n (omega (arith, le))) (λ e. omega (arith, e, ge));
    }

key_chain : (k c : ℕ) (ns : List Node) → EachNode (λ n. chain_number n.key ≡ c) ns → IsAmong (keys ns) k → chain_number k ≡ c
key_chain k c [] h m = absurd m
key_chain k c (n ∷ ns) h (inl e) = ap chain_number e ∙ h.0
key_chain k c (n ∷ ns) h (inr m) = key_chain k c ns h.1 m

key_below : (n : ℕ) (chains : Chains) (k : ℕ) → n ≤ 64 → ((c : ℕ) → c < 64 → EachNode (λ m. chain_number m.key ≡ c) (chains c)) → IsAmong (keys (nodes_up_to n chains)) k → chain_number k < n
unfolding nodes_up_to
key_below zero chains k le h m = absurd m
key_below (suc n) chains k le h m = ⊎_elim
    (λ low. let lt = key_below n chains k (omega (arith, le)) h low in omega (arith, lt))
    (λ last. let e = key_chain k n (chains n) (h n (omega (arith, le))) last in omega (arith, e))
    (among_either (keys (nodes_up_to n chains)) (keys (chains n)) k (subst (λ xs. IsAmong xs k) (keys-append (nodes_up_to n chains) (chains n)) m))

keys_apart : (n : ℕ) (chains : Chains) → n ≤ 64 → ((c : ℕ) → c < 64 → EachNode (λ m. chain_number m.key ≡ c) (chains c)) → ((c : ℕ) → c < 64 → HasNoRepeats (keys (chains c)))
    → HasNoRepeats (keys (nodes_up_to n chains))
unfolding nodes_up_to
keys_apart zero chains le h once = tt
keys_apart (suc n) chains le h once = subst (λ xs. HasNoRepeats xs) (sym (keys-append (nodes_up_to n chains) (chains n)))
    (once_joined (keys (nodes_up_to n chains)) (keys (chains n)) (keys_apart n chains (omega (arith, le)) h once) (once n (omega (arith, le)))
    (λ k low last. let lt = key_below n chains k (omega (arith, le)) h low in let e = key_chain k n (chains n) (h n (omega (arith, le))) last in omega (arith, lt, e)))

no_same : (k : ℕ) (ns : List Node) → IsAbsent k (keys ns) → AllByRecursion (λ (y : Pair). (k == y.key) ≡ false) (node_pairs ns)
no_same k [] h = tt
no_same k (n ∷ ns) h = ((let ne = h.0 in grind (arith, nat_tests)), no_same k ns h.1)

distinct_pairs : (ns : List Node) → HasNoRepeats (keys ns) → IsDistinct same_key (node_pairs ns)
unfolding IsDistinct
distinct_pairs [] h = tt
distinct_pairs (n ∷ ns) h = (no_same n.key ns h.0, distinct_pairs ns h.1)

pub walked_all : (s : Space) (root : ℕ) (contents : FiniteMap) (holds : Holds s root contents) (found sorted : List Pair)
    → found ≡ node_pairs (nodes_up_to 64 holds.chains) → IsPermutation found sorted → IsNonDecreasingBy (λ p. p.key) sorted → entries_of sorted ≡ contents
walked_all s root contents holds found sorted is p rising =
    let up = holds.is.in_chain in
    sorted_entries found sorted contents p rising
    (subst (λ xs. IsDistinct same_key xs) (sym is) (distinct_pairs (nodes_up_to 64 holds.chains) (keys_apart 64 holds.chains (omega arith) up holds.is.keys_once)))
    holds.ascending
    (λ k. holds.lookup_is k ∙ sym (ap (λ xs. lookup k (entries_of xs)) is ∙ ap (lookup k) (entries_pairs (nodes_up_to 64 holds.chains))
    ∙ (all_lookups 64 holds.chains k (omega arith) up).within (chain_below k)))
