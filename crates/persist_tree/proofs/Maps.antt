-- Finite maps in two parts, of which the first has the smaller keys.
use Rattle.std.proofs.Common.{◌≡◌, ◌≢◌, inl, inr, ℕ, ◌<◌, ◌≤◌, Bool, true, false, if◌then◌else◌, ◌==◌, nat_lt, [], ◌++◌, ◌∷◌, Some, None, refl, sym, subst, ap, arith}
use Rattle.std.proofs.lemmas.Bool.Decides.{nat_tests, eqb_tells}
use Rattle.region_layout.specs.FiniteMap.{FiniteMap, lookup, with_pair, without_key, AreAfter, HasAscendingKeys}

-- each key is smaller than this one
abbrev pub AreBefore : ℕ → FiniteMap → Type 0
AreBefore m [] = Unit {0}
AreBefore m (p ∷ ps) = (p.0 < m) × AreBefore m ps

pub before_joined : (m : ℕ) (ps : FiniteMap) (q : ℕ × ℕ) (qs : FiniteMap) → AreBefore m ps → q.0 < m → AreBefore m qs → AreBefore m (ps ++ q ∷ qs)
before_joined m [] q qs left here right = (here, right)
before_joined m (p ∷ ps) q qs left here right = (left.0, before_joined m ps q qs left.1 here right)

pub after_joined : (m : ℕ) (ps : FiniteMap) (q : ℕ × ℕ) (qs : FiniteMap) → AreAfter m ps → m < q.0 → AreAfter m qs → AreAfter m (ps ++ q ∷ qs)
after_joined m [] q qs left here right = (here, right)
after_joined m (p ∷ ps) q qs left here right = (left.0, after_joined m ps q qs left.1 here right)

pub after_weaker : (m n : ℕ) (ps : FiniteMap) → n ≤ m → AreAfter m ps → AreAfter n ps
after_weaker m n [] le h = h
after_weaker m n (p ∷ ps) le h = (let f = h.0 in omega (arith, f, le), after_weaker m n ps le h.1)

pub ascending_joined : (ps : FiniteMap) (q : ℕ × ℕ) (qs : FiniteMap) → HasAscendingKeys ps → AreBefore q.0 ps → AreAfter q.0 qs → HasAscendingKeys qs → HasAscendingKeys (ps ++ q ∷ qs)
ascending_joined [] q qs left less more right = (more, right)
ascending_joined (p ∷ ps) q qs left less more right =
    let here = less.0 in
    (after_joined p.0 ps q qs left.0 here (after_weaker q.0 p.0 qs (omega (arith, here)) more), ascending_joined ps q qs left.1 less.1 more right)

-- ---- and back

pub record IsSplit (ps : FiniteMap) (q : ℕ × ℕ) (qs : FiniteMap) : Type 0 where
  pub left : HasAscendingKeys ps
  pub less : AreBefore q.0 ps
  pub more : AreAfter q.0 qs
  pub right : HasAscendingKeys qs

pub before_parts : (m : ℕ) (ps : FiniteMap) (q : ℕ × ℕ) (qs : FiniteMap) → AreBefore m (ps ++ q ∷ qs) → AreBefore m ps × (q.0 < m) × AreBefore m qs
before_parts m [] q qs h = (tt, h.0, h.1)
before_parts m (p ∷ ps) q qs h = let rest = before_parts m ps q qs h.1 in ((h.0, rest.0), rest.1, rest.2)

pub after_parts : (m : ℕ) (ps : FiniteMap) (q : ℕ × ℕ) (qs : FiniteMap) → AreAfter m (ps ++ q ∷ qs) → AreAfter m ps × (m < q.0) × AreAfter m qs
after_parts m [] q qs h = (tt, h.0, h.1)
after_parts m (p ∷ ps) q qs h = let rest = after_parts m ps q qs h.1 in ((h.0, rest.0), rest.1, rest.2)

pub split_at : (ps : FiniteMap) (q : ℕ × ℕ) (qs : FiniteMap) → HasAscendingKeys (ps ++ q ∷ qs) → IsSplit ps q qs
split_at [] q qs h = record { left = tt; less = tt; more = h.0; right = h.1 }
split_at (p ∷ ps) q qs h =
    let rest = split_at ps q qs h.1 in
    let here = after_parts p.0 ps q qs h.0 in
    record { left = (here.0, rest.left); less = (here.1, rest.less); more = rest.more; right = rest.right }

-- ---- puts

put_after : (m key value : ℕ) (ps : FiniteMap) → m < key → AreAfter m ps → AreAfter m (with_pair key value ps)
put_after m key value [] less h = (less, tt)
put_after m key value (p ∷ ps) less h = by_key (put_after m key value ps less h.1) (key == p.0) (nat_lt key p.0)
  where
    by_key : AreAfter m (with_pair key value ps) → (a b : Bool)
        → AreAfter m (if a then (key, value) ∷ ps else (if b then (key, value) ∷ (p ∷ ps) else p ∷ with_pair key value ps))
    by_key again true b = (less, h.1)
    by_key again false true = (less, (h.0, h.1))
    by_key again false false = (h.0, again)

pub put_ascends : (key value : ℕ) (ps : FiniteMap) → HasAscendingKeys ps → HasAscendingKeys (with_pair key value ps)
put_ascends key value [] h = (tt, tt)
put_ascends key value (p ∷ ps) h =
    elim (eqb_tells key p.0) [
      | inl e ↦ (let on = e.0 in rw on (subst (λ m. AreAfter m ps) (sym e.1) h.0, h.1))
      | inr ne ↦ by_order (put_ascends key value ps h.1) ne.0 ne.1 (nat_lt key p.0) refl
    ]
  where
    by_order : HasAscendingKeys (with_pair key value ps) → (key == p.0) ≡ false → key ≢ p.0 → (x : Bool) → nat_lt key p.0 ≡ x → HasAscendingKeys (with_pair key value (p ∷ ps))
    by_order again off apart true is =
        let less : key < p.0 = grind (arith, nat_tests) in
        rw (off, is) ((less, after_weaker p.0 key ps (omega (arith, less)) h.0), (h.0, h.1))
    by_order again off apart false is =
        let more : p.0 < key = grind (arith, nat_tests) in
        rw (off, is) (put_after p.0 key value ps more h.0, again)

pub put_before : (key value : ℕ) (ps : FiniteMap) (q : ℕ × ℕ) (qs : FiniteMap) → key < q.0 → with_pair key value (ps ++ q ∷ qs) ≡ with_pair key value ps ++ q ∷ qs
put_before key value [] q qs less =
    let off : (key == q.0) ≡ false = grind (arith, nat_tests) in
    let on : nat_lt key q.0 ≡ true = grind (arith, nat_tests) in
    rw (off, on) refl
put_before key value (p ∷ ps) q qs less = by_key (put_before key value ps q qs less) (key == p.0) (nat_lt key p.0)
  where
    by_key : with_pair key value (ps ++ q ∷ qs) ≡ with_pair key value ps ++ q ∷ qs → (a b : Bool) → (if a then (key, value) ∷ (ps ++ q ∷ qs) else (if b then (key, value) ∷ (p ∷ (ps ++ q ∷ qs)) else p ∷ with_pair key value (ps ++ q ∷ qs)))
        ≡ (if a then (key, value) ∷ ps else (if b then (key, value) ∷ (p ∷ ps) else p ∷ with_pair key value ps)) ++ q ∷ qs
    by_key again true b = refl
    by_key again false true = refl
    by_key again false false = ap (λ xs. p ∷ xs) again

pub put_behind : (key value : ℕ) (ps qs : FiniteMap) → AreBefore key ps → with_pair key value (ps ++ qs) ≡ ps ++ with_pair key value qs
put_behind key value [] qs less = refl
put_behind key value (p ∷ ps) qs less =
    let here = less.0 in
    let off : (key == p.0) ≡ false = grind (arith, nat_tests) in
    let below : nat_lt key p.0 ≡ false = grind (arith, nat_tests) in
    rw (off, below) (ap (λ xs. p ∷ xs) (put_behind key value ps qs less.1))

-- ---- look-ups

pub lookup_after : (key : ℕ) (qs : FiniteMap) → AreAfter key qs → lookup key qs ≡ None
lookup_after key [] h = refl
lookup_after key (q ∷ qs) h =
    let here = h.0 in
    let off : (key == q.0) ≡ false = grind (arith, nat_tests) in
    rw off (lookup_after key qs h.1)

pub lookup_before : (key : ℕ) (ps qs : FiniteMap) → AreAfter key qs → lookup key (ps ++ qs) ≡ lookup key ps
lookup_before key [] qs h = lookup_after key qs h
lookup_before key (p ∷ ps) qs h = ap (λ x. if key == p.0 then Some p.1 else x) (lookup_before key ps qs h)

pub lookup_behind : (key : ℕ) (ps qs : FiniteMap) → AreBefore key ps → lookup key (ps ++ qs) ≡ lookup key qs
lookup_behind key [] qs h = refl
lookup_behind key (p ∷ ps) qs h =
    let here = h.0 in
    let off : (key == p.0) ≡ false = grind (arith, nat_tests) in
    rw off (lookup_behind key ps qs h.1)

-- ---- removals

pub without_after : (key : ℕ) (qs : FiniteMap) → AreAfter key qs → without_key key qs ≡ qs
without_after key [] h = refl
without_after key (q ∷ qs) h =
    let here = h.0 in
    let off : (key == q.0) ≡ false = grind (arith, nat_tests) in
    rw off (ap (λ xs. q ∷ xs) (without_after key qs h.1))

pub without_before : (key : ℕ) (ps qs : FiniteMap) → AreAfter key qs → without_key key (ps ++ qs) ≡ without_key key ps ++ qs
without_before key [] qs h = without_after key qs h
without_before key (p ∷ ps) qs h = by_key (without_before key ps qs h) (key == p.0)
  where
    by_key : without_key key (ps ++ qs) ≡ without_key key ps ++ qs → (a : Bool) → (if a then ps ++ qs else p ∷ without_key key (ps ++ qs)) ≡ (if a then ps else p ∷ without_key key ps) ++ qs
    by_key again true = refl
    by_key again false = ap (λ xs. p ∷ xs) again

pub without_behind : (key : ℕ) (ps qs : FiniteMap) → AreBefore key ps → without_key key (ps ++ qs) ≡ ps ++ without_key key qs
without_behind key [] qs h = refl
without_behind key (p ∷ ps) qs h =
    let here = h.0 in
    let off : (key == p.0) ≡ false = grind (arith, nat_tests) in
    rw off (ap (λ xs. p ∷ xs) (without_behind key ps qs h.1))

after_without : (m key : ℕ) (ps : FiniteMap) → AreAfter m ps → AreAfter m (without_key key ps)
after_without m key [] h = h
after_without m key (p ∷ ps) h = by_key (after_without m key ps h.1) (key == p.0)
  where
    by_key : AreAfter m (without_key key ps) → (a : Bool) → AreAfter m (if a then ps else p ∷ without_key key ps)
    by_key again true = h.1
    by_key again false = (h.0, again)

pub without_ascends : (key : ℕ) (ps : FiniteMap) → HasAscendingKeys ps → HasAscendingKeys (without_key key ps)
without_ascends key [] h = h
without_ascends key (p ∷ ps) h = by_key (without_ascends key ps h.1) (key == p.0)
  where
    by_key : HasAscendingKeys (without_key key ps) → (a : Bool) → HasAscendingKeys (if a then ps else p ∷ without_key key ps)
    by_key again true = h.1
    by_key again false = (after_without p.0 key ps h.0, again)

-- a key without a value is none of the map's
pub without_missing : (key : ℕ) (ps : FiniteMap) → lookup key ps ≡ None → without_key key ps ≡ ps
without_missing key [] none = refl
without_missing key (p ∷ ps) none = by_key (without_missing key ps) (key == p.0) none
  where
    by_key : (lookup key ps ≡ None → without_key key ps ≡ ps) → (a : Bool) → (if a then Some p.1 else lookup key ps) ≡ None → (if a then ps else p ∷ without_key key ps) ≡ p ∷ ps
    by_key again true none = absurd (cc)
    by_key again false none = ap (λ xs. p ∷ xs) (again none)
