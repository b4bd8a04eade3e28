-- Look-ups in finite maps and in the nodes of a chain.
use Rattle.std.proofs.Common.{◌≡◌, ◌≢◌, ◌⊎◌, inl, inr, ⊎_elim, ℕ, ◌<◌, ◌≤◌, if◌then◌else◌, ◌==◌, nat_lt, List, [], ◌∷◌, ◌++◌, Bool, true, false, Option, Some, None, refl, ap, sym, ◌∙◌, arith, subst}
use Rattle.std.proofs.lemmas.Bool.{cases_lt}
use Rattle.std.proofs.lemmas.Bool.Decides.{nat_tests, eqb_tells}
use Rattle.region_layout.specs.FiniteMap.{FiniteMap, lookup, with_pair, without_key, AreAfter, HasAscendingKeys}
use Rattle.region_layout.specs.HashMap.{Node, Chains, chain_number, pairs}
use Rattle.persist_hash.specs.Chains.{HasNotKey, put_chain}
use Rattle.persist_hash.proofs.Changing.{put_chain_same, put_chain_other}

-- ---- finite maps

ltb_tells : (a b : ℕ) → ((nat_lt a b ≡ true) × (a < b)) ⊎ ((nat_lt a b ≡ false) × (b ≤ a))
ltb_tells a b = ⊎_elim (λ lt. inl (grind (arith, nat_tests), lt)) (λ ge. inr (grind (arith, nat_tests), ge)) (cases_lt a b)

abbrev pub changed_at : ℕ → Option ℕ → ℕ → Option ℕ → Option ℕ
changed_at key x k was = if k == key then x else was

pub lookup-with_pair : (k key v : ℕ) (m : FiniteMap) → lookup k (with_pair key v m) ≡ changed_at key (Some v) k (lookup k m)
lookup-with_pair k key v [] = refl
lookup-with_pair k key v (p ∷ ps) = step (key == p.0) (eqb_tells key p.0) (nat_lt key p.0) (lookup-with_pair k key v ps)
  where
    swap : p.0 ≢ key → (if k == p.0 then Some p.1 else changed_at key (Some v) k (lookup k ps)) ≡ changed_at key (Some v) k (lookup k (p ∷ ps))
    swap ne = ⊎_elim
        (λ here. let e = here.1 in
        let on : (k == p.0) ≡ true = here.0 in
        let off : (k == key) ≡ false = (let f : k ≢ key = (λ g. ne (sym e ∙ g)) in grind (arith, nat_tests)) in
        rw (on, off) refl)
        (λ there. let off = there.0 in rw off refl)
        (eqb_tells k p.0)

    step : (t : Bool) → ((t ≡ true) × (key ≡ p.0)) ⊎ ((t ≡ false) × (key ≢ p.0)) → (s : Bool) → lookup k (with_pair key v ps) ≡ changed_at key (Some v) k (lookup k ps)
        → lookup k (if t then (key, v) ∷ ps else (if s then (key, v) ∷ (p ∷ ps) else p ∷ with_pair key v ps)) ≡ changed_at key (Some v) k (lookup k (p ∷ ps))
    step true tells s again = ⊎_elim
        (λ same. let e = same.1 in both e (k == key) (k == p.0) (ap (λ x. k == x) e))
        (λ other. absurd (let q = other.0 in cc))
        tells
      where
        both : key ≡ p.0 → (a b : Bool) → a ≡ b → (if a then Some v else lookup k ps) ≡ (if a then Some v else (if b then Some p.1 else lookup k ps))
        both e true b q = refl
        both e false true q = absurd (let z = q in cc)
        both e false false q = refl
    step false tells true again = refl
    step false tells false again = ⊎_elim
        (λ same. absurd (let q = same.0 in cc))
        (λ other. ap (λ x. if k == p.0 then Some p.1 else x) again ∙ swap (λ e. other.1 (sym e)))
        tells

after_with : (n key v : ℕ) (m : FiniteMap) → n < key → AreAfter n m → AreAfter n (with_pair key v m)
after_with n key v [] less h = (less, tt)
after_with n key v (p ∷ ps) less h = step (key == p.0) (nat_lt key p.0) (after_with n key v ps less h.1)
  where
    step : (t s : Bool) → AreAfter n (with_pair key v ps) → AreAfter n (if t then (key, v) ∷ ps else (if s then (key, v) ∷ (p ∷ ps) else p ∷ with_pair key v ps))
    step true s again = (less, h.1)
    step false true again = (less, h)
    step false false again = (h.0, again)

after_less : (m n : ℕ) (ps : FiniteMap) → n ≤ m → AreAfter m ps → AreAfter n ps
after_less m n [] le h = tt
after_less m n (p ∷ ps) le h = (let f = h.0 in omega (arith, le, f), after_less m n ps le h.1)

pub ascending-with_pair : (key v : ℕ) (m : FiniteMap) → HasAscendingKeys m → HasAscendingKeys (with_pair key v m)
ascending-with_pair key v [] h = (tt, tt)
ascending-with_pair key v (p ∷ ps) h = ⊎_elim
    (λ same. let on = same.0 in rw on (subst (λ x. AreAfter x ps) (sym same.1) h.0, h.1))
    (λ other. let off = other.0 in rw off (⊎_elim
    (λ less. let on = less.0 in let lt = less.1 in rw on ((lt, after_less p.0 key ps (omega (arith, lt)) h.0), h))
    (λ more. let no = more.0 in let ge = more.1 in let ne = other.1 in
    rw no (after_with p.0 key v ps (omega (arith, ge, ne)) h.0, ascending-with_pair key v ps h.1))
    (ltb_tells key p.0)))
    (eqb_tells key p.0)

lookup_after : (k : ℕ) (ps : FiniteMap) → AreAfter k ps → lookup k ps ≡ None
lookup_after k [] h = refl
lookup_after k (p ∷ ps) h =
    let less = h.0 in
    let off : (k == p.0) ≡ false = grind (arith, nat_tests) in
    rw off (lookup_after k ps h.1)

pub lookup-without_key : (k key : ℕ) (m : FiniteMap) → HasAscendingKeys m → lookup k (without_key key m) ≡ changed_at key None k (lookup k m)
lookup-without_key k key [] h = none_either (k == key) None
  where
    none_either : (t : Bool) (x : Option ℕ) → x ≡ (if t then x else x)
    none_either true x = refl
    none_either false x = refl
lookup-without_key k key (p ∷ ps) h = step (key == p.0) (eqb_tells key p.0) (lookup-without_key k key ps h.1)
  where
    gone : key ≡ p.0 → lookup k ps ≡ changed_at key None k (lookup k (p ∷ ps))
    gone e = ⊎_elim
        (λ here. let on = here.0 in rw on (lookup_after k ps (subst (λ x. AreAfter x ps) (sym (here.1 ∙ e)) h.0)))
        (λ there. let off = there.0 in let no : (k == p.0) ≡ false = (let f = there.1 in grind (arith, nat_tests)) in rw (off, no) refl)
        (eqb_tells k key)

    swap : key ≢ p.0 → (if k == p.0 then Some p.1 else changed_at key None k (lookup k ps)) ≡ changed_at key None k (lookup k (p ∷ ps))
    swap ne = ⊎_elim
        (λ here. let e = here.1 in let on = here.0 in
        let off : (k == key) ≡ false = (let f : k ≢ key = (λ g. ne (sym g ∙ e)) in grind (arith, nat_tests)) in
        rw (on, off) refl)
        (λ there. let off = there.0 in rw off refl)
        (eqb_tells k p.0)

    step : (t : Bool) → ((t ≡ true) × (key ≡ p.0)) ⊎ ((t ≡ false) × (key ≢ p.0)) → lookup k (without_key key ps) ≡ changed_at key None k (lookup k ps)
        → lookup k (if t then ps else p ∷ without_key key ps) ≡ changed_at key None k (lookup k (p ∷ ps))
    step true tells again = ⊎_elim (λ same. gone same.1) (λ other. absurd (let q = other.0 in cc)) tells
    step false tells again = ⊎_elim
        (λ same. absurd (let q = same.0 in cc))
        (λ other. ap (λ x. if k == p.0 then Some p.1 else x) again ∙ swap other.1)
        tells

after_without : (n key : ℕ) (m : FiniteMap) → AreAfter n m → AreAfter n (without_key key m)
after_without n key [] h = tt
after_without n key (p ∷ ps) h = step (key == p.0) (after_without n key ps h.1)
  where
    step : (t : Bool) → AreAfter n (without_key key ps) → AreAfter n (if t then ps else p ∷ without_key key ps)
    step true again = h.1
    step false again = (h.0, again)

pub ascending-without_key : (key : ℕ) (m : FiniteMap) → HasAscendingKeys m → HasAscendingKeys (without_key key m)
ascending-without_key key [] h = tt
ascending-without_key key (p ∷ ps) h = step (key == p.0) (ascending-without_key key ps h.1)
  where
    step : (t : Bool) → HasAscendingKeys (without_key key ps) → HasAscendingKeys (if t then ps else p ∷ without_key key ps)
    step true again = h.1
    step false again = (after_without p.0 key ps h.0, again)

pub without_absent : (key : ℕ) (m : FiniteMap) → lookup key m ≡ None → without_key key m ≡ m
without_absent key [] h = refl
without_absent key (p ∷ ps) h = step (key == p.0) h (without_absent key ps)
  where
    step : (t : Bool) → (if t then Some p.1 else lookup key ps) ≡ None → (lookup key ps ≡ None → without_key key ps ≡ ps)
        → (if t then ps else p ∷ without_key key ps) ≡ p ∷ ps
    step true e again = absurd (let q = e in cc)
    step false e again = ap (λ qs. p ∷ qs) (again e)

-- ---- the nodes of a chain

pub lookup_passed : (key : ℕ) (front rest : List Node) → HasNotKey key front → lookup key (pairs (front ++ rest)) ≡ lookup key (pairs rest)
lookup_passed key [] rest h = refl
lookup_passed key (n ∷ front) rest h =
    let ne = h.0 in
    let off : (key == n.key) ≡ false = grind (arith, nat_tests) in
    rw off (lookup_passed key front rest h.1)

pub lookup_head : (key : ℕ) (n : Node) (rest : List Node) → n.key ≡ key → lookup key (pairs (n ∷ rest)) ≡ Some n.value
lookup_head key n rest e = let on : (key == n.key) ≡ true = grind (arith, nat_tests) in rw on refl

-- the node with the key has another value
pub lookup_replaced : (k : ℕ) (front rest : List Node) (n later : Node) → HasNotKey n.key front → later.key ≡ n.key
    → lookup k (pairs (front ++ later ∷ rest)) ≡ changed_at n.key (Some later.value) k (lookup k (pairs (front ++ n ∷ rest)))
lookup_replaced k [] rest n later h e = ⊎_elim
    (λ here. let on = here.0 in let f = here.1 in let yes : (k == later.key) ≡ true = grind (arith, nat_tests) in rw (on, yes) refl)
    (λ there. let off = there.0 in let f = there.1 in let no : (k == later.key) ≡ false = grind (arith, nat_tests) in rw (off, no) refl)
    (eqb_tells k n.key)
lookup_replaced k (m ∷ front) rest n later h e =
    ap (λ x. if k == m.key then Some m.value else x) (lookup_replaced k front rest n later h.1 e) ∙ ⊎_elim
    (λ here. let on = here.0 in let f = here.1 in let ne = h.0 in
    let off : (k == n.key) ≡ false = (let g : k ≢ n.key = (λ q. ne (sym q ∙ f)) in grind (arith, nat_tests)) in
    rw (on, off) refl)
    (λ there. let off = there.0 in rw off refl)
    (eqb_tells k m.key)

-- without the node that has the key, whose other nodes have other keys
pub lookup_removed : (k : ℕ) (front rest : List Node) (n : Node) → HasNotKey n.key front → HasNotKey n.key rest
    → lookup k (pairs (front ++ rest)) ≡ changed_at n.key None k (lookup k (pairs (front ++ n ∷ rest)))
lookup_removed k [] rest n h behind = ⊎_elim
    (λ here. let on = here.0 in rw on (ap (λ x. lookup x (pairs rest)) here.1 ∙ none n.key rest behind))
    (λ there. let off = there.0 in rw off refl)
    (eqb_tells k n.key)
  where
    none : (key : ℕ) (ns : List Node) → HasNotKey key ns → lookup key (pairs ns) ≡ None
    none key [] h = refl
    none key (m ∷ ns) h = let ne = h.0 in let off : (key == m.key) ≡ false = grind (arith, nat_tests) in rw off (none key ns h.1)
lookup_removed k (m ∷ front) rest n h behind =
    ap (λ x. if k == m.key then Some m.value else x) (lookup_removed k front rest n h.1 behind) ∙ ⊎_elim
    (λ here. let on = here.0 in let f = here.1 in let ne = h.0 in
    let off : (k == n.key) ≡ false = (let g : k ≢ n.key = (λ q. ne (sym q ∙ f)) in grind (arith, nat_tests)) in
    rw (on, off) refl)
    (λ there. let off = there.0 in rw off refl)
    (eqb_tells k m.key)

-- a change of one key in a map is a change in its chain
pub lookup_changed : (key : ℕ) (x : Option ℕ) (m later : FiniteMap) (ns : List Node) (chains : Chains)
    → ((k : ℕ) → lookup k m ≡ lookup k (pairs (chains (chain_number k))))
    → ((k : ℕ) → lookup k later ≡ changed_at key x k (lookup k m))
    → ((k : ℕ) → lookup k (pairs ns) ≡ changed_at key x k (lookup k (pairs (chains (chain_number key)))))
    → (k : ℕ) → lookup k later ≡ lookup k (pairs (put_chain (chain_number key) ns chains (chain_number k)))
lookup_changed key x m later ns chains was is there k = ⊎_elim
    (λ same. let e : chain_number k ≡ chain_number key = same.1 in
    is k ∙ ap (changed_at key x k) (was k ∙ ap (λ c. lookup k (pairs (chains c))) e) ∙ sym (there k)
    ∙ ap (λ ms. lookup k (pairs ms)) (sym (ap (put_chain (chain_number key) ns chains) e ∙ put_chain_same (chain_number key) ns chains)))
    (λ other. let off : (k == key) ≡ false = (let f : k ≢ key = (λ q. other.1 (ap chain_number q)) in grind (arith, nat_tests)) in
    is k ∙ rw off (was k ∙ ap (λ ms. lookup k (pairs ms)) (sym (put_chain_other (chain_number key) (chain_number k) ns chains other.1))))
    (eqb_tells (chain_number k) (chain_number key))
