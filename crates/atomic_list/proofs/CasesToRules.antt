-- Each of the three cases keeps the rules.
use Rattle.std.proofs.Common.{◌≡◌, ◌≢◌, ◌⊎◌, inl, inr, ℕ, ◌+◌, ◌≤◌, List, [], ◌∷◌, ◌++◌, refl, ap, sym, ◌∙◌, arith, subst}
use Rattle.std.proofs.lemmas.Bool.Decides.{eqb_tells}
use Rattle.persist_model.specs.Region.{Words}
use Rattle.persist_model.specs.Shape.{Shape, IsBucketOf}
use Rattle.persist_model.specs.Chain.{word_behind, word_before, Each, IsLink, AreBuckets, IsAbsent, HasNoRepeats, first_or, last_or, without, Links, LinksBack, IsWalk, HasLinks, AppendRule, RemoveRule, IsExcepted, LinksBackBut, ListRules}
use Rattle.atomic_list.specs.Rules.{IsAtRest, IsAppending, IsRemoving, IsList, at_rest, appending, removing}
use Rattle.atomic_list.proofs.Chains.{bucket_above, Each-weaker, Each-both, Each-append, Each-last, Links-last, without-absent, word_behind-last}
use Rattle.atomic_list.proofs.Cases.{no_bucket_is_0, Chain-at_rest, Chain-appending}
use Rattle.atomic_list.proofs.Splits.{Each-left, Each-right, HasNoRepeats-across, HasNoRepeats-insert, last-append, without-append, without-first, Links-insert, Links-join}
use Rattle.atomic_list.proofs.Removing.{first_of_links}
use Rattle.atomic_list.proofs.Removals.{word_before-first}

-- the five words one by one
registers : (P : ℕ → Type 0) → P 8 → P 9 → P 10 → P 11 → P 12 → (a : ℕ) → 8 ≤ a → a ≤ 12 → P a
registers P p8 p9 p10 p11 p12 a low high =
    elim (eqb_tells a 8) [
      | inl e ↦ subst P (sym e.1) p8
      | inr n8 ↦
          elim (eqb_tells a 9) [
            | inl e ↦ subst P (sym e.1) p9
            | inr n9 ↦
                elim (eqb_tells a 10) [
                  | inl e ↦ subst P (sym e.1) p10
                  | inr n10 ↦
                      elim (eqb_tells a 11) [
                        | inl e ↦ subst P (sym e.1) p11
                        | inr n11 ↦
                            let m8 = n8.1 in let m9 = n9.1 in let m10 = n10.1 in let m11 = n11.1 in
                            let e : a ≡ 12 = omega arith in subst P (sym e) p12
                      ]
                ]
          ]
    ]

first_link : (shape : Shape) (part : ℕ) (d : ℕ) (xs : List ℕ) → IsLink (IsBucketOf shape part) d → AreBuckets (IsBucketOf shape part) xs → IsLink (IsBucketOf shape part) (first_or d xs)
first_link shape part d [] l b = l
first_link shape part d (x ∷ xs) l b = inr b.0

last_link : (shape : Shape) (part : ℕ) (d : ℕ) (xs : List ℕ) → IsLink (IsBucketOf shape part) d → AreBuckets (IsBucketOf shape part) xs → IsLink (IsBucketOf shape part) (last_or d xs)
last_link shape part d xs l b = Each-last (IsLink (IsBucketOf shape part)) d xs l (Each-weaker (IsBucketOf shape part) (IsLink (IsBucketOf shape part)) (λ x k. inr k) xs b)

-- linked buckets hold links
nexts_fit : (shape : Shape) (part : ℕ) (w : Words) (from : ℕ) (xs : List ℕ) (to : ℕ) → Links w from xs to → AreBuckets (IsBucketOf shape part) xs → IsLink (IsBucketOf shape part) to →
    IsLink (IsBucketOf shape part) (w from) × Each (λ b. IsLink (IsBucketOf shape part) (w b)) xs
nexts_fit shape part w from [] to h b l = (subst (IsLink (IsBucketOf shape part)) (sym h) l, tt)
nexts_fit shape part w from (x ∷ xs) to h b l =
    let more = nexts_fit shape part w x xs to h.2 b.1 l in (subst (IsLink (IsBucketOf shape part)) (sym h.0) (inr b.0), (more.0, more.1))

prevs_fit : (shape : Shape) (part : ℕ) (w : Words) (before : ℕ) (xs : List ℕ) → LinksBack w before xs → IsLink (IsBucketOf shape part) before → AreBuckets (IsBucketOf shape part) xs → Each (λ b. IsLink (IsBucketOf shape part) (w (b + 1))) xs
prevs_fit shape part w before [] h l b = tt
prevs_fit shape part w before (x ∷ xs) h l b = (subst (IsLink (IsBucketOf shape part)) (sym h.0) l, prevs_fit shape part w x xs h.1 (inr b.0) b.1)

but : (w : Words) (before : ℕ) (xs : List ℕ) → LinksBack w before xs → LinksBackBut w before xs
but w before [] h = tt
but w before (x ∷ xs) h = (inl h.0, but w x xs h.1)

but-join : (w : Words) (before : ℕ) (xs ys : List ℕ) → LinksBackBut w before xs → LinksBackBut w (last_or before xs) ys → LinksBackBut w before (xs ++ ys)
but-join w before [] ys h k = k
but-join w before (x ∷ xs) ys h k = (h.0, but-join w x xs ys h.1 k)

rules-at_rest : (shape : Shape) (part : ℕ) (w : Words) (xs : List ℕ) → IsAtRest shape part w xs → ListRules (IsBucketOf shape part) w xs
unfolding Chain-at_rest
rules-at_rest shape part w xs h =
    let fit = nexts_fit shape part w 8 xs 0 h.links h.buckets (inl refl) in record {
      walk = xs;
      is_walk = inl (record { to_append = h.to_append; links = h.links });
      chain_is = (Chain-at_rest shape part w xs h).chain_is;
      addresses = record {
        registers = registers (λ a. IsLink (IsBucketOf shape part) (w a)) fit.0 (subst (IsLink (IsBucketOf shape part)) (sym h.tail) (last_link shape part 0 xs (inl refl) h.buckets)) (inl h.to_append) h.last_tail (inl h.to_remove);
        visited = Each-both (λ b. IsLink (IsBucketOf shape part) (w b)) (λ b. IsLink (IsBucketOf shape part) (w (b + 1))) xs fit.1 (prevs_fit shape part w 0 xs h.links_back (inl refl) h.buckets);
        appended = λ ne. absurd (ne h.to_append);
        removed = λ ne. absurd (ne h.to_remove);
      };
      one_at_a_time = inl h.to_append;
      no_repeats = h.no_repeats;
      appending = λ ne. absurd (ne h.to_append);
      removing = λ ne. absurd (ne h.to_remove);
      links_back = but w 0 xs h.links_back;
      tail = inl h.tail;
    }

rules-appending : (shape : Shape) (part : ℕ) (w : Words) (front : List ℕ) (node : ℕ) → IsAppending shape part w front node → ListRules (IsBucketOf shape part) w (front ++ node ∷ [])
unfolding Chain-appending
rules-appending shape part w front node h = record {
  walk = front ++ node ∷ [];
  is_walk = (Chain-appending shape part w front node h).is_walk;
  chain_is = (Chain-appending shape part w front node h).chain_is;
  addresses = record {
    registers = registers (λ a. IsLink (IsBucketOf shape part) (w a)) fit.0 tail (subst (IsLink (IsBucketOf shape part)) (sym h.to_append) (inr h.bucket)) (subst (IsLink (IsBucketOf shape part)) (sym h.last_tail) last) (inl h.to_remove);
    visited = Each-append (HasLinks (IsBucketOf shape part) w) front (node ∷ []) (Each-both (λ b. IsLink (IsBucketOf shape part) (w b)) (λ b. IsLink (IsBucketOf shape part) (w (b + 1))) front fit.1 (prevs_fit shape part w 0 front h.links_back (inl refl) h.buckets)) (node_links, tt);
    appended = λ _. subst (HasLinks (IsBucketOf shape part) w) (sym h.to_append) node_links;
    removed = λ ne. absurd (ne h.to_remove);
  };
  one_at_a_time = inr h.to_remove;
  no_repeats = (Chain-appending shape part w front node h).no_repeats;
  appending = λ _. subst (AppendRule w) (sym h.to_append) (record {
    next = h.next;
    prev = h.prev ∙ sym h.last_tail;
    tail = elim h.tail [ inl e ↦ inl (e ∙ sym h.last_tail) | inr e ↦ inr e ];
    link = elim h.links
        [ inl l ↦ inl (ap w word ∙ Links-last w 8 front 0 l) | inr l ↦ inr (ap w word ∙ Links-last w 8 front node l) ];
  });
  removing = λ ne. absurd (ne h.to_remove);
  links_back = but-join w 0 front (node ∷ []) (but w 0 front h.links_back) (inl h.prev, tt);
  tail = inr (inl (not_0, refl));
}
  where
    not_0 : w 10 ≢ 0
    not_0 = λ e. let above = bucket_above shape part node h.bucket in let is = h.to_append in omega arith

    last : IsLink (IsBucketOf shape part) (last_or 0 front)
    last = last_link shape part 0 front (inl refl) h.buckets

    node_links : HasLinks (IsBucketOf shape part) w node
    node_links = (inl h.next, subst (IsLink (IsBucketOf shape part)) (sym h.prev) last)

    tail : IsLink (IsBucketOf shape part) (w 9)
    tail = elim h.tail [ inl e ↦ subst (IsLink (IsBucketOf shape part)) (sym e) last | inr e ↦ inr (subst (IsBucketOf shape part) (sym e) h.bucket) ]

    fit : IsLink (IsBucketOf shape part) (w 8) × Each (λ b. IsLink (IsBucketOf shape part) (w b)) front
    fit = elim h.links [ inl l ↦ nexts_fit shape part w 8 front 0 l h.buckets (inl refl) | inr l ↦ nexts_fit shape part w 8 front node l h.buckets (inr h.bucket) ]

    word : word_behind (w 11) ≡ last_or 8 front
    word = ap word_behind h.last_tail ∙ word_behind-last front (no_bucket_is_0 shape part front h.buckets)

-- a bucket is being taken out, and the walk is this
module _ (shape : Shape) (part : ℕ) (w : Words) (front : List ℕ) (node : ℕ) (rest : List ℕ) (h : IsRemoving shape part w front node rest) where
  not_0 : w 12 ≢ 0
  not_0 = λ e. let above = bucket_above shape part node h.bucket in let is = h.to_remove in omega arith

  fronts : AreBuckets (IsBucketOf shape part) front
  fronts = Each-left (IsBucketOf shape part) front rest h.buckets

  rests : AreBuckets (IsBucketOf shape part) rest
  rests = Each-right (IsBucketOf shape part) front rest h.buckets

  last : IsLink (IsBucketOf shape part) (last_or 0 front)
  last = last_link shape part 0 front (inl refl) fronts

  first : IsLink (IsBucketOf shape part) (first_or 0 rest)
  first = first_link shape part 0 rest (inl refl) rests

  front_fit : IsLink (IsBucketOf shape part) (w 8) × Each (λ b. IsLink (IsBucketOf shape part) (w b)) front
  front_fit = elim h.links [
    | inl l ↦ nexts_fit shape part w 8 front node l fronts (inr h.bucket)
    | inr l ↦ nexts_fit shape part w 8 front (first_or 0 rest) l fronts first
  ]

  rest_fit : IsLink (IsBucketOf shape part) (w node) × Each (λ b. IsLink (IsBucketOf shape part) (w b)) rest
  rest_fit = nexts_fit shape part w node rest 0 h.next rests (inl refl)

  front_links : Each (HasLinks (IsBucketOf shape part) w) front
  front_links = Each-both (λ b. IsLink (IsBucketOf shape part) (w b)) (λ b. IsLink (IsBucketOf shape part) (w (b + 1))) front front_fit.1 (prevs_fit shape part w 0 front h.links_back (inl refl) fronts)

  rest_links : Each (HasLinks (IsBucketOf shape part) w) rest
  rest_links = Each-both (λ b. IsLink (IsBucketOf shape part) (w b)) (λ b. IsLink (IsBucketOf shape part) (w (b + 1))) rest rest_fit.1
      (elim h.rest_links_back [ inl l ↦ prevs_fit shape part w node rest l (inr h.bucket) rests | inr l ↦ prevs_fit shape part w (last_or 0 front) rest l last rests ])

  node_links : HasLinks (IsBucketOf shape part) w node
  node_links = (rest_fit.0, subst (IsLink (IsBucketOf shape part)) (sym h.prev) last)

  tail_word : IsLink (IsBucketOf shape part) (w 9)
  tail_word = elim h.tail [
    | inl e ↦ subst (IsLink (IsBucketOf shape part)) (sym e) (last_link shape part node rest (inr h.bucket) rests)
    | inr e ↦ subst (IsLink (IsBucketOf shape part)) (sym e) (last_link shape part (last_or 0 front) rest last rests)
  ]

  behind : word_behind (last_or 0 front) ≡ last_or 8 front
  behind = word_behind-last front (no_bucket_is_0 shape part front fronts)

  node_not_last : node ≢ last_or 0 front
  node_not_last = Each-last (λ z. node ≢ z) 0 front (let above = bucket_above shape part node h.bucket in omega arith) (Each-left (λ z. node ≢ z) front rest h.absent)

  node_not_first : (ys : List ℕ) → IsAbsent node ys → node ≢ first_or 0 ys
  node_not_first [] a = let above = bucket_above shape part node h.bucket in omega arith
  node_not_first (y ∷ ys) a = a.0

  ends_apart : (ys : List ℕ) → AreBuckets (IsBucketOf shape part) ys → Each (λ y. IsAbsent y front) ys → last_or 0 front ≢ 0 → last_or 0 front ≢ first_or 0 ys
  ends_apart [] b a ne = ne
  ends_apart (y ∷ ys) b a ne = λ e. Each-last (λ z. y ≢ z) 0 front (let above = bucket_above shape part y b.0 in omega arith) a.0 (sym e)

  next_is : w node ≡ first_or 0 rest
  next_is = first_of_links w node rest 0 h.next

  rule : RemoveRule w (front ++ rest) node (last_or 0 front) (first_or 0 rest)
  rule = record {
    node_apart = (node_not_last, node_not_first rest (Each-right (λ z. node ≢ z) front rest h.absent));
    apart = ends_apart rest rests (HasNoRepeats-across front rest h.no_repeats);
    neighbours = record { front = front; rest = rest; is = refl; p_is = refl; q_is = refl };
    link = elim h.links
        [ inl l ↦ inl (ap w behind ∙ Links-last w 8 front node l) | inr l ↦ inr (ap w behind ∙ Links-last w 8 front (first_or 0 rest) l) ];
    back = back rest rests h.rest_links_back h.tail;
  }
    where
      back : (ys : List ℕ) → AreBuckets (IsBucketOf shape part) ys → LinksBack w node ys ⊎ LinksBack w (last_or 0 front) ys → (w 9 ≡ last_or node ys) ⊎ (w 9 ≡ last_or (last_or 0 front) ys) →
          (w (word_before (first_or 0 ys)) ≡ node) ⊎ (w (word_before (first_or 0 ys)) ≡ last_or 0 front)
      back [] b l t = t
      back (y ∷ ys) b l t =
          let word = word_before-first shape part (y ∷ ys) b in
          elim l [ inl k ↦ inl (ap w word ∙ k.0) | inr k ↦ inr (ap w word ∙ k.0) ]

  -- the first PREV of the rest is excepted, and TAIL where there is none
  back_but : (ys : List ℕ) → AreBuckets (IsBucketOf shape part) ys → w node ≡ first_or 0 ys → LinksBack w node ys ⊎ LinksBack w (last_or 0 front) ys → LinksBackBut w (last_or 0 front) ys
  back_but [] b q l = tt
  back_but (y ∷ ys) b q l =
      let word : word_before (w (w 12)) ≡ y + 1 = ap (λ n. word_before (w n)) h.to_remove ∙ ap word_before q ∙ word_before-first shape part (y ∷ ys) b in
      (inr (inr (not_0, sym word)), elim l [ inl k ↦ but w y ys k.1 | inr k ↦ but w y ys k.1 ])

  tail_but : (ys : List ℕ) → AreBuckets (IsBucketOf shape part) ys → w node ≡ first_or 0 ys → (w 9 ≡ last_or node ys) ⊎ (w 9 ≡ last_or (last_or 0 front) ys) →
      (w 9 ≡ last_or (last_or 0 front) ys) ⊎ IsExcepted w 9
  tail_but [] b q t = inr (inr (not_0, sym (ap (λ n. word_before (w n)) h.to_remove ∙ ap word_before q)))
  tail_but (y ∷ ys) b q t = inl (elim t [ inl k ↦ k | inr k ↦ k ])

  rules_by : (walk : List ℕ) → IsWalk w walk → HasNoRepeats walk → front ++ rest ≡ without (w 12) walk → Each (HasLinks (IsBucketOf shape part) w) walk → ListRules (IsBucketOf shape part) w (front ++ rest)
  rules_by walk is once chain visited = record {
    walk = walk;
    is_walk = is;
    chain_is = chain;
    addresses = record {
      registers = registers (λ a. IsLink (IsBucketOf shape part) (w a)) front_fit.0 tail_word (inl h.to_append) h.last_tail (subst (IsLink (IsBucketOf shape part)) (sym h.to_remove) (inr h.bucket));
      visited = visited;
      appended = λ ne. absurd (ne h.to_append);
      removed = λ _. subst (HasLinks (IsBucketOf shape part) w) (sym h.to_remove) node_links;
    };
    one_at_a_time = inl h.to_append;
    no_repeats = once;
    appending = λ ne. absurd (ne h.to_append);
    removing = λ _. subst (λ n. RemoveRule w (front ++ rest) n (w (n + 1)) (w n)) (sym h.to_remove)
        (subst (λ p. RemoveRule w (front ++ rest) node p (w node)) (sym h.prev) (subst (RemoveRule w (front ++ rest) node (last_or 0 front)) (sym next_is) rule));
    links_back = but-join w 0 front rest (but w 0 front h.links_back) (back_but rest rests next_is h.rest_links_back);
    tail = elim (tail_but rest rests next_is h.tail) [ inl t ↦ inl (t ∙ sym (last-append 0 front rest)) | inr k ↦ inr k ];
  }

  rules-removing : ListRules (IsBucketOf shape part) w (front ++ rest)
  rules-removing = elim h.links [
    | inl l ↦ rules_by (front ++ node ∷ rest)
        (inl (record { to_append = h.to_append; links = Links-insert w 8 front node rest 0 (λ e. let above = bucket_above shape part node h.bucket in omega arith) l h.next }))
        (HasNoRepeats-insert front node rest h.no_repeats h.absent)
        (rw (h.to_remove, without-append node front (node ∷ rest), without-first node rest, ← without-append node front rest) (sym (without-absent node (front ++ rest) h.absent)))
        (Each-append (HasLinks (IsBucketOf shape part) w) front (node ∷ rest) front_links (node_links, rest_links))
    | inr l ↦ rules_by (front ++ rest)
        (inl (record { to_append = h.to_append; links = Links-join w 8 node front rest 0 l h.next }))
        h.no_repeats
        (rw h.to_remove (sym (without-absent node (front ++ rest) h.absent)))
        (Each-append (HasLinks (IsBucketOf shape part) w) front rest front_links rest_links)
  ]

pub rules_of_list : (shape : Shape) (part : ℕ) (w : Words) (xs : List ℕ) → IsList shape part w xs → ListRules (IsBucketOf shape part) w xs
rules_of_list shape part w xs (at_rest h) = rules-at_rest shape part w xs h
rules_of_list shape part w xs (appending front node h e) = subst (ListRules (IsBucketOf shape part) w) (sym e) (rules-appending shape part w front node h)
rules_of_list shape part w xs (removing front node rest h e) = subst (ListRules (IsBucketOf shape part) w) (sym e) (rules-removing shape part w front node rest h)
