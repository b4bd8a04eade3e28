-- List words that keep the rules are in one of the three cases.
use Rattle.std.proofs.Common.{◌≡◌, ◌≢◌, ◌⊎◌, inl, inr, ℕ, ◌+◌, true, false, ◌==◌, List, [], ◌∷◌, ◌++◌, refl, ap, sym, ◌∙◌, arith, subst, append-nil}
use Rattle.std.proofs.lemmas.Bool.Decides.{nat_tests, eqb_tells}
use Rattle.persist_model.specs.Region.{Words}
use Rattle.persist_model.specs.Shape.{Shape, IsBucketOf}
use Rattle.persist_model.specs.Chain.{word_behind, word_before, Each, IsLink, AreBuckets, IsAbsent, HasNoRepeats, first_or, last_or, without, Links, LinksBack, IsCutWalk, HasLinks, AppendRule, RemoveRule, IsExcepted, LinksBackBut, ListRules}
use Rattle.atomic_list.specs.Rules.{IsAtRest, IsList, at_rest, appending, removing}
use Rattle.atomic_list.proofs.Chains.{bucket_above, Each-weaker, Each-both, Links-last, without-absent, word_behind-last}
use Rattle.atomic_list.proofs.Cases.{no_bucket_is_0}
use Rattle.atomic_list.proofs.Splits.{Each-left, Each-right, HasNoRepeats-left, HasNoRepeats-right, HasNoRepeats-across_left, middle_is_absent, without-append, without-first, last-append, Links-left, Links-right}
use Rattle.atomic_list.proofs.Removing.{first_of_links}
use Rattle.atomic_list.proofs.Walks.{Each-without, HasNoRepeats-without_one}

bucket_of : (shape : Shape) (part : ℕ) (b : ℕ) → IsLink (IsBucketOf shape part) b → b ≢ 0 → IsBucketOf shape part b
bucket_of shape part b (inl e) ne = absurd (ne e)
bucket_of shape part b (inr h) ne = h

-- what is visited is a bucket
walk_buckets : (shape : Shape) (part : ℕ) (w : Words) (from : ℕ) (xs : List ℕ) (to : ℕ) → IsLink (IsBucketOf shape part) (w from) → Each (HasLinks (IsBucketOf shape part) w) xs → Links w from xs to → AreBuckets (IsBucketOf shape part) xs
walk_buckets shape part w from [] to link each h = tt
walk_buckets shape part w from (x ∷ xs) to link each h =
    (bucket_of shape part x (subst (IsLink (IsBucketOf shape part)) h.0 link) h.1, walk_buckets shape part w x xs to each.0.0 each.1 h.2)

-- links back without an exception among them
no_exception : (w : Words) (before : ℕ) (xs : List ℕ) → Each (λ x. IsExcepted w (x + 1) → ⊥) xs → LinksBackBut w before xs → LinksBack w before xs
no_exception w before [] off h = tt
no_exception w before (x ∷ xs) off h = (elim h.0 [ inl e ↦ e | inr k ↦ absurd (off.0 k) ], no_exception w x xs off.1 h.1)

LinksBackBut-left : (w : Words) (before : ℕ) (xs ys : List ℕ) → LinksBackBut w before (xs ++ ys) → LinksBackBut w before xs
LinksBackBut-left w before [] ys h = tt
LinksBackBut-left w before (x ∷ xs) ys h = (h.0, LinksBackBut-left w x xs ys h.1)

LinksBackBut-right : (w : Words) (before : ℕ) (xs ys : List ℕ) → LinksBackBut w before (xs ++ ys) → LinksBackBut w (last_or before xs) ys
LinksBackBut-right w before [] ys h = h
LinksBackBut-right w before (x ∷ xs) ys h = LinksBackBut-right w x xs ys h.1

Links-first : (w : Words) (from : ℕ) (xs ys : List ℕ) → Links w from (xs ++ ys) 0 → Links w from xs (first_or 0 ys)
Links-first w from [] [] h = h
Links-first w from [] (y ∷ ys) h = h.0
Links-first w from (x ∷ xs) ys h = (h.0, h.1, Links-first w x xs ys h.2)

-- a word that names what the last of the front names has the same links behind it
Links-behind : (w : Words) (from other : ℕ) (xs ys : List ℕ) → w other ≡ first_or 0 ys → Links w from (xs ++ ys) 0 → Links w other ys 0
Links-behind w from other [] [] e h = e
Links-behind w from other [] (y ∷ ys) e h = (e, h.1, h.2)
Links-behind w from other (x ∷ xs) ys e h = Links-behind w x other xs ys e h.2

IsAbsent-without : (b : ℕ) (xs : List ℕ) → IsAbsent b (without b xs)
IsAbsent-without b xs = Each-without (λ _. Unit {0}) (λ x. b ≢ x) b xs (λ x ne _ e. ne (sym e)) (all xs)
  where
    all : (xs : List ℕ) → Each (λ _. Unit {0}) xs
    all [] = tt
    all (x ∷ xs) = (tt, all xs)

-- b stands somewhere in xs, or nowhere
place_of : (b : ℕ) (xs : List ℕ) → ((f : List ℕ) × (r : List ℕ) × (xs ≡ f ++ b ∷ r)) ⊎ IsAbsent b xs
place_of b [] = inr tt
place_of b (x ∷ xs) = elim (eqb_tells b x) [
  | inl e ↦ inl ([], xs, ap (λ z. z ∷ xs) (sym e.1))
  | inr ne ↦ elim (place_of b xs) [ inl p ↦ inl (x ∷ p.0, p.1, ap (λ z. x ∷ z) p.2) | inr a ↦ inr (ne.1, a) ]
]

-- one list without repeats has one place with this first behind it
same_place : (f r front rest : List ℕ) → f ++ r ≡ front ++ rest → HasNoRepeats (f ++ r) → IsAbsent 0 (f ++ r) → first_or 0 r ≡ first_or 0 rest → (f ≡ front) × (r ≡ rest)
same_place [] r [] rest e once nz q = (refl, e)
same_place [] [] (x ∷ front) rest e once nz q = cc
same_place [] (y ∷ r) (x ∷ front) [] e once nz q = absurd (nz.0 (sym q))
same_place [] (y ∷ r) (x ∷ front) (z ∷ rest) e once nz q =
    let head : y ≡ x = cc in
    let tail : r ≡ front ++ z ∷ rest = cc in
    absurd ((Each-right (λ u. y ≢ u) front (z ∷ rest) (subst (IsAbsent y) tail once.0)).0 q)
same_place (x ∷ f) [] [] [] e once nz q = cc
same_place (x ∷ f) [] [] (z ∷ rest) e once nz q = let head : x ≡ z = cc in absurd (nz.0 (q ∙ sym head))
same_place (x ∷ f) (y ∷ r) [] [] e once nz q = cc
same_place (x ∷ f) (y ∷ r) [] (z ∷ rest) e once nz q =
    let head : x ≡ z = cc in absurd ((Each-right (λ u. x ≢ u) f (y ∷ r) once.0).0 (head ∙ sym q))
same_place (x ∷ f) r (y ∷ front) rest e once nz q =
    let head : x ≡ y = cc in
    let tail : f ++ r ≡ front ++ rest = cc in
    let more = same_place f r front rest tail once.1 nz.1 q in
    (let m = more.0 in cc, more.1)

-- TAIL is no bucket's PREV
no_tail : (shape : Shape) (part : ℕ) (w : Words) (xs : List ℕ) → w 12 ≡ 0 → AreBuckets (IsBucketOf shape part) xs → Each (λ x. IsExcepted w (x + 1) → ⊥) xs
no_tail shape part w xs e h = Each-weaker (IsBucketOf shape part) (λ x. IsExcepted w (x + 1) → ⊥) (λ x b. elim
    [ inl k ↦ let above = bucket_above shape part x b in let q = k.1 in omega arith | inr k ↦ absurd (k.0 e) ]) xs h

rest_of_rules : (shape : Shape) (part : ℕ) (w : Words) (xs : List ℕ) → (h : ListRules (IsBucketOf shape part) w xs) → w 10 ≡ 0 → w 12 ≡ 0 → Links w 8 h.walk 0 → IsAtRest shape part w xs
rest_of_rules shape part w xs h e f l =
    let buckets = walk_buckets shape part w 8 h.walk 0 (h.addresses.registers 8 (omega arith) (omega arith)) h.addresses.visited l in
    let same : xs ≡ h.walk = h.chain_is ∙ ap (λ n. without n h.walk) f ∙ without-absent 0 h.walk (no_bucket_is_0 shape part h.walk buckets) in
    let chain_buckets : AreBuckets (IsBucketOf shape part) xs = subst (AreBuckets (IsBucketOf shape part)) (sym same) buckets in record {
      to_append = e;
      to_remove = f;
      last_tail = h.addresses.registers 11 (omega arith) (omega arith);
      buckets = chain_buckets;
      no_repeats = subst HasNoRepeats (sym same) h.no_repeats;
      links = subst (λ ys. Links w 8 ys 0) (sym same) l;
      links_back = no_exception w 0 xs (no_tail shape part w xs f chain_buckets) h.links_back;
      tail = elim h.tail [ inl t ↦ t | inr k ↦ elim k [ inl q ↦ absurd (q.0 e) | inr q ↦ absurd (q.0 f) ] ];
    }

appending_of_rules : (shape : Shape) (part : ℕ) (w : Words) (xs : List ℕ) → (h : ListRules (IsBucketOf shape part) w xs) → w 12 ≡ 0 → IsCutWalk w h.walk → IsList shape part w xs
appending_of_rules shape part w xs h f cut =
    appending cut.front (w 10) (record {
      to_append = refl;
      to_remove = f;
      last_tail = sym cut.ends;
      bucket = bucket;
      buckets = fronts;
      absent = subst (IsAbsent (w 10)) (append-nil cut.front) (middle_is_absent cut.front (w 10) [] once);
      no_repeats = HasNoRepeats-left cut.front (w 10 ∷ []) once;
      links = elim rule.link
          [ inl e ↦ inl (subst (Links w 8 cut.front) (beyond ∙ e) cut.links) | inr e ↦ inr (subst (Links w 8 cut.front) (beyond ∙ e) cut.links) ];
      links_back = no_exception w 0 cut.front (no_tail shape part w cut.front f fronts) (LinksBackBut-left w 0 cut.front (w 10 ∷ []) (subst (LinksBackBut w 0) chain h.links_back));
      next = rule.next;
      prev = rule.prev ∙ sym cut.ends;
      tail = elim rule.tail [ inl e ↦ inl (e ∙ sym cut.ends) | inr e ↦ inr e ];
    }) chain
  where
    rule : AppendRule w (w 10)
    rule = h.appending cut.to_append

    bucket : IsBucketOf shape part (w 10)
    bucket = bucket_of shape part (w 10) (h.addresses.registers 10 (omega arith) (omega arith)) cut.to_append

    once : HasNoRepeats (cut.front ++ w 10 ∷ [])
    once = subst HasNoRepeats cut.walk_is h.no_repeats

    fronts : AreBuckets (IsBucketOf shape part) cut.front
    fronts = walk_buckets shape part w 8 cut.front cut.beyond (h.addresses.registers 8 (omega arith) (omega arith))
        (Each-left (HasLinks (IsBucketOf shape part) w) cut.front (w 10 ∷ []) (subst (Each (HasLinks (IsBucketOf shape part) w)) cut.walk_is h.addresses.visited)) cut.links

    nonzero : (xs : List ℕ) → AreBuckets (IsBucketOf shape part) xs → IsAbsent 0 (xs ++ w 10 ∷ [])
    nonzero [] k = ((λ e. cut.to_append (sym e)), tt)
    nonzero (x ∷ xs) k = ((no_bucket_is_0 shape part (x ∷ []) (k.0, tt)).0, nonzero xs k.1)

    chain : xs ≡ cut.front ++ w 10 ∷ []
    chain = h.chain_is ∙ ap (λ n. without n h.walk) f ∙ ap (without 0) cut.walk_is ∙ without-absent 0 (cut.front ++ w 10 ∷ []) (nonzero cut.front fronts)

    -- the cut walk's last link is the one that the rule speaks of
    beyond : cut.beyond ≡ w (word_behind (w 11))
    beyond = sym (Links-last w 8 cut.front cut.beyond cut.links) ∙ ap w (sym (word_behind-last cut.front (no_bucket_is_0 shape part cut.front fronts))) ∙ ap (λ t. w (word_behind t)) cut.ends

module _ (shape : Shape) (part : ℕ) (w : Words) (xs : List ℕ) (h : ListRules (IsBucketOf shape part) w xs) (e : w 10 ≡ 0) (ne : w 12 ≢ 0) (l : Links w 8 h.walk 0) where
  rule : RemoveRule w xs (w 12) (w (w 12 + 1)) (w (w 12))
  rule = h.removing ne

  front : List ℕ
  front = rule.neighbours.front

  rest : List ℕ
  rest = rule.neighbours.rest

  bucket : IsBucketOf shape part (w 12)
  bucket = bucket_of shape part (w 12) (h.addresses.registers 12 (omega arith) (omega arith)) ne

  walked : AreBuckets (IsBucketOf shape part) h.walk
  walked = walk_buckets shape part w 8 h.walk 0 (h.addresses.registers 8 (omega arith) (omega arith)) h.addresses.visited l

  chain : without (w 12) h.walk ≡ rule.neighbours.front ++ rule.neighbours.rest
  chain = sym h.chain_is ∙ rule.neighbours.is

  buckets : AreBuckets (IsBucketOf shape part) (rule.neighbours.front ++ rule.neighbours.rest)
  buckets = subst (AreBuckets (IsBucketOf shape part)) chain (Each-without (IsBucketOf shape part) (IsBucketOf shape part) (w 12) h.walk (λ x _ b. b) walked)

  absent : IsAbsent (w 12) (rule.neighbours.front ++ rule.neighbours.rest)
  absent = subst (IsAbsent (w 12)) chain (IsAbsent-without (w 12) h.walk)

  once : HasNoRepeats (rule.neighbours.front ++ rule.neighbours.rest)
  once = subst HasNoRepeats chain (HasNoRepeats-without_one (w 12) h.walk h.no_repeats)

  -- the links up to the bucket and behind it, whether it is visited or not
  both_links : (Links w 8 rule.neighbours.front (w 12) ⊎ Links w 8 rule.neighbours.front (first_or 0 rule.neighbours.rest)) × Links w (w 12) rule.neighbours.rest 0
  both_links = elim (place_of (w 12) h.walk) [ inl p ↦ visited p.0 p.1 p.2 | inr a ↦ passed a ]
    where
      visited : (f r : List ℕ) → h.walk ≡ f ++ w 12 ∷ r →
          (Links w 8 rule.neighbours.front (w 12) ⊎ Links w 8 rule.neighbours.front (first_or 0 rule.neighbours.rest)) × Links w (w 12) rule.neighbours.rest 0
      visited f r is =
          let links : Links w 8 (f ++ w 12 ∷ r) 0 = subst (λ ys. Links w 8 ys 0) is l in
          let off : IsAbsent (w 12) (f ++ r) = middle_is_absent f (w 12) r (subst HasNoRepeats is h.no_repeats) in
          let whole : f ++ r ≡ rule.neighbours.front ++ rule.neighbours.rest =
          sym (without-absent (w 12) (f ++ r) off) ∙ without-append (w 12) f r ∙ ap (λ z. without (w 12) f ++ z) (sym (without-first (w 12) r))
          ∙ sym (without-append (w 12) f (w 12 ∷ r)) ∙ ap (without (w 12)) (sym is) ∙ chain in
          let right = Links-right w 8 f (w 12) r 0 links in
          let next : first_or 0 r ≡ first_or 0 rule.neighbours.rest = sym (first_of_links w (w 12) r 0 right) ∙ rule.neighbours.q_is in
          let same = same_place f r rule.neighbours.front rule.neighbours.rest whole (subst HasNoRepeats (sym whole) once)
          (subst (IsAbsent 0) (sym whole) (no_bucket_is_0 shape part (rule.neighbours.front ++ rule.neighbours.rest) buckets)) next in
          (inl (subst (λ ys. Links w 8 ys (w 12)) same.0 (Links-left w 8 f (w 12) r 0 links)), subst (λ ys. Links w (w 12) ys 0) same.1 right)

      passed : IsAbsent (w 12) h.walk →
          (Links w 8 rule.neighbours.front (w 12) ⊎ Links w 8 rule.neighbours.front (first_or 0 rule.neighbours.rest)) × Links w (w 12) rule.neighbours.rest 0
      passed a =
          let links : Links w 8 (rule.neighbours.front ++ rule.neighbours.rest) 0 = subst (λ ys. Links w 8 ys 0) (sym (without-absent (w 12) h.walk a) ∙ chain) l in
          (inr (Links-first w 8 rule.neighbours.front rule.neighbours.rest links), Links-behind w 8 (w 12) rule.neighbours.front rule.neighbours.rest rule.neighbours.q_is links)

  back : LinksBackBut w 0 (rule.neighbours.front ++ rule.neighbours.rest)
  back = subst (LinksBackBut w 0) rule.neighbours.is h.links_back

  -- a bucket whose PREV isn't the one behind the bucket has no exception
  free : (x : ℕ) → IsBucketOf shape part x → x ≢ w (w 12) → IsExcepted w (x + 1) → ⊥
  free x b off (inl k) = k.0 e
  free x b off (inr k) = at (w (w 12)) refl (eqb_tells (w (w 12)) 0)
    where
      at : (q : ℕ) → q ≡ w (w 12) → (((q == 0) ≡ true) × (q ≡ 0)) ⊎ (((q == 0) ≡ false) × (q ≢ 0)) → ⊥
      at q is (inl z) = let above = bucket_above shape part x b in
          let word : word_before q ≡ 9 = let on = z.0 in rw on in
          let same : x + 1 ≡ word_before q = k.1 ∙ ap word_before (sym is) in omega arith
      at q is (inr z) =
          let word : word_before q ≡ q + 1 = let on = z.0 in rw on in
          let same : x + 1 ≡ word_before q = k.1 ∙ ap word_before (sym is) in
          off (let d : x ≡ q = omega arith in d ∙ is)

  fronts_free : Each (λ x. IsExcepted w (x + 1) → ⊥) rule.neighbours.front
  fronts_free = Each-weaker (λ x. IsBucketOf shape part x × IsAbsent x rule.neighbours.rest) (λ x. IsExcepted w (x + 1) → ⊥)
      (λ x p. free x p.0 (λ is. apart x p rule.neighbours.rest p.1 (is ∙ rule.neighbours.q_is)))
      rule.neighbours.front (Each-both (IsBucketOf shape part) (λ x. IsAbsent x rule.neighbours.rest) rule.neighbours.front
      (Each-left (IsBucketOf shape part) rule.neighbours.front rule.neighbours.rest buckets) (HasNoRepeats-across_left rule.neighbours.front rule.neighbours.rest once))
    where
      apart : (x : ℕ) → IsBucketOf shape part x × IsAbsent x rule.neighbours.rest → (ys : List ℕ) → IsAbsent x ys → x ≡ first_or 0 ys → ⊥
      apart x p [] a is = let above = bucket_above shape part x p.0 in omega arith
      apart x p (y ∷ ys) a is = a.0 is

  rest_back : (ys : List ℕ) → AreBuckets (IsBucketOf shape part) ys → HasNoRepeats ys → w (w 12) ≡ first_or 0 ys → (a : ℕ) → a ≡ w (w 12 + 1) → LinksBackBut w a ys →
      LinksBack w (w 12) ys ⊎ LinksBack w a ys
  rest_back [] b o q a is k = inl tt
  rest_back (y ∷ ys) b o q a is k =
      let others : LinksBack w y ys = no_exception w y ys
      (Each-weaker (λ x. IsBucketOf shape part x × (y ≢ x)) (λ x. IsExcepted w (x + 1) → ⊥) (λ x p. free x p.0 (λ z. p.1 (sym (z ∙ q)))) ys
      (Each-both (IsBucketOf shape part) (λ x. y ≢ x) ys b.1 o.0)) k.1 in
      let nz : y ≢ 0 = let above = bucket_above shape part y b.0 in omega arith in
      let off : (y == 0) ≡ false = grind (arith, nat_tests) in
      let word : word_before (w (w 12)) ≡ y + 1 = ap word_before q ∙ rw off in
      elim rule.back [
        | inl r ↦ inl (sym (ap w word) ∙ r, others)
        | inr r ↦ inr (sym (ap w word) ∙ r ∙ sym is, others)
      ]

  last_word : (ys : List ℕ) → AreBuckets (IsBucketOf shape part) ys → w (w 12) ≡ first_or 0 ys → (w 9 ≡ last_or (last_or 0 rule.neighbours.front) ys) ⊎ IsExcepted w 9 →
      (w 9 ≡ last_or (w 12) ys) ⊎ (w 9 ≡ last_or (last_or 0 rule.neighbours.front) ys)
  last_word [] b q t =
      let word : word_before (w (w 12)) ≡ 9 = ap word_before q in
      elim rule.back [ inl r ↦ inl (sym (ap w word) ∙ r) | inr r ↦ inr (sym (ap w word) ∙ r ∙ rule.neighbours.p_is) ]
  last_word (y ∷ ys) b q t = elim t [
    | inl k ↦ inr k
    | inr k ↦ elim k [
      | inl z ↦ absurd (z.0 e)
      | inr z ↦ let above = bucket_above shape part y b.0 in
          let off : (y == 0) ≡ false = grind (arith, nat_tests) in
          let word : word_before (w (w 12)) ≡ y + 1 = ap word_before q ∙ rw off in
          let same = z.1 in absurd (omega arith)
    ]
  ]

  removing_of_rules : IsList shape part w xs
  removing_of_rules = removing rule.neighbours.front (w 12) rule.neighbours.rest (record {
    to_append = e;
    to_remove = refl;
    last_tail = h.addresses.registers 11 (omega arith) (omega arith);
    bucket = bucket;
    buckets = buckets;
    absent = absent;
    no_repeats = once;
    links = both_links.0;
    next = both_links.1;
    prev = rule.neighbours.p_is;
    links_back = no_exception w 0 rule.neighbours.front fronts_free (LinksBackBut-left w 0 rule.neighbours.front rule.neighbours.rest back);
    rest_links_back = rest_back rule.neighbours.rest (Each-right (IsBucketOf shape part) rule.neighbours.front rule.neighbours.rest buckets)
        (HasNoRepeats-right rule.neighbours.front rule.neighbours.rest once) rule.neighbours.q_is (last_or 0 rule.neighbours.front) (sym rule.neighbours.p_is)
        (LinksBackBut-right w 0 rule.neighbours.front rule.neighbours.rest back);
    tail = last_word rule.neighbours.rest (Each-right (IsBucketOf shape part) rule.neighbours.front rule.neighbours.rest buckets) rule.neighbours.q_is
        (elim h.tail [ inl t ↦ inl (t ∙ ap (last_or 0) rule.neighbours.is ∙ last-append 0 rule.neighbours.front rule.neighbours.rest) | inr k ↦ inr k ]);
  }) rule.neighbours.is

pub list_of_rules : (shape : Shape) (part : ℕ) (w : Words) (xs : List ℕ) → ListRules (IsBucketOf shape part) w xs → IsList shape part w xs
list_of_rules shape part w xs h = elim h.is_walk [
  | inl whole ↦ elim (eqb_tells (w 12) 0) [
    | inl f ↦ at_rest (rest_of_rules shape part w xs h whole.to_append f.1 whole.links)
    | inr ne ↦ removing_of_rules shape part w xs h whole.to_append ne.1 whole.links
  ]
  | inr cut ↦ elim h.one_at_a_time
      [ inl z ↦ absurd (cut.to_append z) | inr z ↦ appending_of_rules shape part w xs h z cut ]
]
