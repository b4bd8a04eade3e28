-- The rules of a list speak of its five words and of the links of its buckets alone.
use Rattle.std.proofs.Common.{◌≡◌, ◌≢◌, inl, inr, ℕ, zero, suc, Bool, true, false, ◌+◌, ◌-◌, ◌<◌, ◌≤◌, ◌==◌, ◌||◌, if◌then◌else◌, List, [], ◌∷◌, ◌++◌, refl, sym, ap, subst, ◌∙◌, arith}
use Rattle.std.proofs.lemmas.Bool.Decides.{nat_tests, eqb_tells}
use Rattle.persist_model.specs.Region.{Words}
use Rattle.persist_model.specs.Shape.{list_words}
use Rattle.persist_model.specs.Chain.{HEAD, TAIL, TO_APPEND, TO_REMOVE, view, next_of, prev_of, word_behind, word_before, IsLink, Each, HasLinks, without, Links, IsWalk, AppendRule, RemoveRule, IsExcepted, LinksBackBut, ListRules}

pub each_map : (P Q : ℕ → Type 0) → ((b : ℕ) → P b → Q b) → (xs : List ℕ) → Each P xs → Each Q xs
each_map P Q f [] h = tt
each_map P Q f (x ∷ xs) h = (f x h.0, each_map P Q f xs h.1)

pub each_both : (P Q : ℕ → Type 0) (xs : List ℕ) → Each P xs → Each Q xs → Each (λ b. P b × Q b) xs
each_both P Q [] h k = tt
each_both P Q (x ∷ xs) h k = ((h.0, k.0), each_both P Q xs h.1 k.1)

pub each_left : (P : ℕ → Type 0) (xs ys : List ℕ) → Each P (xs ++ ys) → Each P xs
each_left P [] ys h = tt
each_left P (x ∷ xs) ys h = (h.0, each_left P xs ys h.1)

pub each_push : (P : ℕ → Type 0) (xs : List ℕ) (y : ℕ) → Each P xs → P y → Each P (xs ++ y ∷ [])
each_push P [] y h k = (k, tt)
each_push P (x ∷ xs) y h k = (h.0, each_push P xs y h.1 k)

pub each_without : (P : ℕ → Type 0) (b : ℕ) (xs : List ℕ) → Each P xs → Each P (without b xs)
each_without P b [] h = tt
each_without P b (x ∷ xs) h = by_test (x == b) (each_without P b xs h.1)
  where
    by_test : (t : Bool) → Each P (without b xs) → Each P (if t then without b xs else x ∷ without b xs)
    by_test true k = k
    by_test false k = (h.0, k)

a_bucket : (bucket : ℕ → Type 0) (b : ℕ) → IsLink bucket b → b ≢ 0 → bucket b
a_bucket bucket b (inl e) ne = absurd (ne e)
a_bucket bucket b (inr h) ne = h

walk_buckets : (bucket : ℕ → Type 0) (w : Words) (from : ℕ) (xs : List ℕ) (to : ℕ) → IsLink bucket (w from) → Each (HasLinks bucket w) xs → Links w from xs to → Each bucket xs
walk_buckets bucket w from [] to link each h = tt
walk_buckets bucket w from (x ∷ xs) to link each h =
    (a_bucket bucket x (subst (IsLink bucket) h.0 link) h.1, walk_buckets bucket w x xs to each.0.0 each.1 h.2)

links_same : (bucket : ℕ → Type 0) (w v : Words) (from : ℕ) (xs : List ℕ) (to : ℕ) → v from ≡ w from → ((b : ℕ) → bucket b → v b ≡ w b) → Each bucket xs → Links w from xs to → Links v from xs to
links_same bucket w v from [] to e same each h = e ∙ h
links_same bucket w v from (x ∷ xs) to e same each h = (e ∙ h.0, h.1, links_same bucket w v x xs to (same x each.0) same each.1 h.2)

-- what the walk visits are buckets
pub visited_buckets : (bucket : ℕ → Type 0) (w : Words) (chain : List ℕ) → (h : ListRules bucket w chain) → Each bucket h.walk
visited_buckets bucket w chain h = of_walk h.is_walk h.addresses.visited
  where
    of_walk : IsWalk w h.walk → Each (HasLinks bucket w) h.walk → Each bucket h.walk
    of_walk (inl k) each = walk_buckets bucket w HEAD h.walk 0 (h.addresses.registers 8 (omega arith) (omega arith)) each k.links
    of_walk (inr k) each = subst (λ xs. Each bucket xs) (sym k.walk_is) (each_push bucket k.front (w TO_APPEND)
        (walk_buckets bucket w HEAD k.front k.beyond (h.addresses.registers 8 (omega arith) (omega arith))
        (each_left (HasLinks bucket w) k.front (w TO_APPEND ∷ []) (subst (λ xs. Each (HasLinks bucket w) xs) k.walk_is each)) k.links)
        (a_bucket bucket (w TO_APPEND) (h.addresses.registers 10 (omega arith) (omega arith)) k.to_append))

pub chain_buckets : (bucket : ℕ → Type 0) (w : Words) (chain : List ℕ) → ListRules bucket w chain → Each bucket chain
chain_buckets bucket w chain h = subst (λ xs. Each bucket xs) (sym h.chain_is) (each_without bucket (w TO_REMOVE) h.walk (visited_buckets bucket w chain h))

module _ (bucket : ℕ → Type 0) (w v : Words) (registers : (a : ℕ) → 8 ≤ a → a ≤ 12 → v a ≡ w a) (links : (b : ℕ) → bucket b → (v b ≡ w b) × (v (b + 1) ≡ w (b + 1))) where
  e9 : v 9 ≡ w 9
  e9 = registers 9 (omega arith) (omega arith)

  e10 : v 10 ≡ w 10
  e10 = registers 10 (omega arith) (omega arith)

  e11 : v 11 ≡ w 11
  e11 = registers 11 (omega arith) (omega arith)

  e12 : v 12 ≡ w 12
  e12 = registers 12 (omega arith) (omega arith)

  behind_same : (b : ℕ) → IsLink bucket b → v (word_behind b) ≡ w (word_behind b)
  behind_same zero h = registers 8 (omega arith) (omega arith)
  behind_same (suc n) (inl e) = cc
  behind_same (suc n) (inr is) = let off : (suc n == 0) ≡ false = grind (arith, nat_tests) in rw off ((links (suc n) is).0)

  before_same : (b : ℕ) → IsLink bucket b → v (word_before b) ≡ w (word_before b)
  before_same zero h = registers 9 (omega arith) (omega arith)
  before_same (suc n) (inl e) = cc
  before_same (suc n) (inr is) = let off : (suc n == 0) ≡ false = grind (arith, nat_tests) in rw off ((links (suc n) is).1)

  has_links_same : (b : ℕ) → bucket b → HasLinks bucket w b → HasLinks bucket v b
  has_links_same b is h = (subst (IsLink bucket) (sym (links b is).0) h.0, subst (IsLink bucket) (sym (links b is).1) h.1)

  append_same : (node : ℕ) → bucket node → IsLink bucket (w 11) → AppendRule w node → AppendRule v node
  append_same node is link h = record {
    next = (links node is).0 ∙ h.next;
    prev = (links node is).1 ∙ h.prev ∙ sym e11;
    tail = elim h.tail [ inl e ↦ inl (e9 ∙ e ∙ sym e11) | inr e ↦ inr (e9 ∙ e) ];
    link = elim h.link [ inl e ↦ inl (ap (λ n. v (word_behind n)) e11 ∙ behind_same (w 11) link ∙ e) | inr e ↦ inr (ap (λ n. v (word_behind n)) e11 ∙ behind_same (w 11) link ∙ e) ];
  }

  remove_same : (chain : List ℕ) (node p q : ℕ) → IsLink bucket p → IsLink bucket q → RemoveRule w chain node p q → RemoveRule v chain node p q
  remove_same chain node p q link_p link_q h = record {
    node_apart = h.node_apart;
    apart = h.apart;
    neighbours = h.neighbours;
    link = elim h.link [ inl e ↦ inl (behind_same p link_p ∙ e) | inr e ↦ inr (behind_same p link_p ∙ e) ];
    back = elim h.back [ inl e ↦ inl (before_same q link_q ∙ e) | inr e ↦ inr (before_same q link_q ∙ e) ];
  }

  excepted_same : (w 12 ≢ 0 → bucket (w 12)) → (a : ℕ) → IsExcepted w a → IsExcepted v a
  excepted_same is a (inl h) = inl ((λ z. h.0 (sym e10 ∙ z)), h.1)
  excepted_same is a (inr h) = inr ((λ z. h.0 (sym e12 ∙ z)), h.1 ∙ ap word_before (sym (ap v e12 ∙ (links (w 12) (is h.0)).0)))

  back_same : (w 12 ≢ 0 → bucket (w 12)) → (before : ℕ) (xs : List ℕ) → Each bucket xs → LinksBackBut w before xs → LinksBackBut v before xs
  back_same is before [] each h = tt
  back_same is before (x ∷ xs) each h = (
    elim h.0 [ inl e ↦ inl ((links x each.0).1 ∙ e) | inr k ↦ inr (excepted_same is (prev_of x) k) ],
    back_same is x xs each.1 h.1,
  )

  pub rules_same : (chain : List ℕ) → ListRules bucket w chain → ListRules bucket v chain
  rules_same chain h =
      let visited : Each bucket h.walk = visited_buckets bucket w chain h in
      let appended : w 10 ≢ 0 → bucket (w 10) = a_bucket bucket (w 10) (h.addresses.registers 10 (omega arith) (omega arith)) in
      let removed : w 12 ≢ 0 → bucket (w 12) = a_bucket bucket (w 12) (h.addresses.registers 12 (omega arith) (omega arith)) in
      record {
        walk = h.walk;
        is_walk = walk_same h.walk visited h.is_walk;
        chain_is = h.chain_is ∙ ap (λ n. without n h.walk) (sym e12);
        addresses = record {
          registers = λ a low high. subst (IsLink bucket) (sym (registers a low high)) (h.addresses.registers a low high);
          visited = each_map _ (HasLinks bucket v) (λ b k. has_links_same b k.0 k.1) h.walk (each_both bucket (HasLinks bucket w) h.walk visited h.addresses.visited);
          appended = λ ne. (let off : w 10 ≢ 0 = λ z. ne (e10 ∙ z) in subst (HasLinks bucket v) (sym e10) (has_links_same (w 10) (appended off) (h.addresses.appended off)));
          removed = λ ne. (let off : w 12 ≢ 0 = λ z. ne (e12 ∙ z) in subst (HasLinks bucket v) (sym e12) (has_links_same (w 12) (removed off) (h.addresses.removed off)));
        };
        one_at_a_time = elim h.one_at_a_time [ inl e ↦ inl (e10 ∙ e) | inr e ↦ inr (e12 ∙ e) ];
        no_repeats = h.no_repeats;
        appending = λ ne. (let off : w 10 ≢ 0 = λ z. ne (e10 ∙ z) in
            subst (AppendRule v) (sym e10) (append_same (w 10) (appended off) (h.addresses.registers 11 (omega arith) (omega arith)) (h.appending off)));
        removing = λ ne. (let off : w 12 ≢ 0 = λ z. ne (e12 ∙ z) in
            let k = h.addresses.removed off in
            let e = links (w 12) (removed off) in
            subst (λ n. RemoveRule v chain n (v (prev_of n)) (v (next_of n))) (sym e12)
            (subst (λ p. RemoveRule v chain (w 12) p (v (next_of (w 12)))) (sym e.1)
            (subst (λ q. RemoveRule v chain (w 12) (w (prev_of (w 12))) q) (sym e.0)
            (remove_same chain (w 12) (w (prev_of (w 12))) (w (next_of (w 12))) k.1 k.0 (h.removing off)))));
        links_back = back_same removed 0 chain (chain_buckets bucket w chain h) h.links_back;
        tail = elim h.tail [ inl e ↦ inl (e9 ∙ e) | inr k ↦ inr (excepted_same removed TAIL k) ];
      }
    where
      walk_same : (walk : List ℕ) → Each bucket walk → IsWalk w walk → IsWalk v walk
      walk_same walk each (inl k) = inl (record {
        to_append = e10 ∙ k.to_append;
        links = links_same bucket w v HEAD walk 0 (registers 8 (omega arith) (omega arith)) (λ b is. (links b is).0) each k.links;
      })
      walk_same walk each (inr k) = inr (record {
        to_append = λ z. k.to_append (sym e10 ∙ z);
        front = k.front;
        beyond = k.beyond;
        links = links_same bucket w v HEAD k.front k.beyond (registers 8 (omega arith) (omega arith)) (λ b is. (links b is).0)
            (each_left bucket k.front (w TO_APPEND ∷ []) (subst (λ xs. Each bucket xs) k.walk_is each)) k.links;
        ends = k.ends ∙ sym e11;
        walk_is = k.walk_is ∙ ap (λ n. k.front ++ n ∷ []) (sym e10);
      })

-- a partition's view of words that agree at the first 32 and at a
pub view_same : (p a : ℕ) (w v : Words) → p < 3 → ((c : ℕ) → c < 32 → v c ≡ w c) → v a ≡ w a → view p v a ≡ view p w a
view_same p a w v lt first same = by_test ((a == 8) || (a == 9) || (a == 10) || (a == 11) || (a == 12)) refl
  where
    low : list_words p + 4 < 32
    low = elim (eqb_tells p 0) [ inl e ↦ rw e.0 (omega arith) | inr e ↦ rw e.0 (omega (arith, lt)) ]

    by_test : (t : Bool) → ((a == 8) || (a == 9) || (a == 10) || (a == 11) || (a == 12)) ≡ t → (if t then v (list_words p + (a - 8)) else v a) ≡ (if t then w (list_words p + (a - 8)) else w a)
    by_test true e = first (list_words p + (a - 8)) (let high : a ≤ 12 = grind (arith, nat_tests) in let l = low in omega (arith, high, l))
    by_test false e = same
