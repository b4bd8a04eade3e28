-- The chain's next bucket, as it is read from the words.
use Rattle.std.proofs.Common.{◌≡◌, ◌≢◌, ◌⊎◌, inl, inr, ℕ, ◌+◌, ◌<◌, ◌≤◌, Bool, true, false, cond, ◌==◌, List, [], ◌∷◌, ◌++◌, refl, ap, sym, ◌∙◌, arith, subst, append-nil}
use Rattle.std.proofs.lemmas.Bool.Decides.{nat_tests, eqb_tells}
use Rattle.persist_model.specs.Region.{Words}
use Rattle.persist_model.specs.Shape.{Shape, heap, IsBucketOf}
use Rattle.persist_model.specs.Chain.{word_behind, Each, AreBuckets, IsAbsent, HasNoRepeats, first_or, last_or, Links}
use Rattle.atomic_list.specs.Rules.{IsAtRest, IsAppending, IsRemoving, IsList, at_rest, appending, removing}
use Rattle.persist_model.specs.Records.{IsAmong}
use Rattle.persist_model.proofs.Among.{among_append}
use Rattle.atomic_list.specs.Reads.{IsLinkedOn, behind, next_in}
use Rattle.atomic_list.proofs.Fits.{asked_fit}
use Rattle.atomic_list.proofs.Parts.{bucket_fits}
use Rattle.atomic_list.proofs.Chains.{bucket_above, Each-last, Links-last}
use Rattle.atomic_list.proofs.Splits.{Each-left, Each-right, HasNoRepeats-left, HasNoRepeats-right, HasNoRepeats-across}
use Rattle.atomic_list.proofs.Removing.{first_of_links}
use Rattle.atomic_list.proofs.Cases.{no_bucket_is_0, chain_is_buckets}

pub Each-among : (P : ℕ → Type 0) (xs : List ℕ) (b : ℕ) → Each P xs → IsAmong xs b → P b
Each-among P [] b h m = elim m [ ]
Each-among P (x ∷ xs) b h (inl e) = subst P (sym e) h.0
Each-among P (x ∷ xs) b h (inr m) = Each-among P xs b h.1 m

-- Of a bucket among linked ones the next is what its NEXT names, and that of the last is the first of what follows.
abbrev NextOf : Words → ℕ → List ℕ → List ℕ → ℕ → Type 0
NextOf w from xs ys b = ((b ≡ last_or from xs) × (behind b (xs ++ ys) ≡ first_or 0 ys)) ⊎ ((b ≢ last_or from xs) × (behind b (xs ++ ys) ≡ w b) × IsAmong xs (w b))

next_of_linked : (w : Words) (from : ℕ) (xs ys : List ℕ) (to b : ℕ) → Links w from xs to → HasNoRepeats xs → IsAmong xs b → NextOf w from xs ys b
next_of_linked w from [] ys to b h once m = elim m [ ]
next_of_linked w from (x ∷ []) ys to b h once (inl e) = let on : (b == x) ≡ true = grind (arith, nat_tests) in inl (e, rw on)
next_of_linked w from (x ∷ z ∷ zs) ys to b h once (inl e) =
    let on : (b == x) ≡ true = grind (arith, nat_tests) in
    let ne : x ≢ last_or z zs = Each-last (λ u. x ≢ u) z zs once.0.0 once.0.1 in
    let is : w b ≡ z = ap w e ∙ h.2.0 in
    inr ((λ q. ne (sym e ∙ q)), rw on (sym is), inr (inl is))
next_of_linked w from (x ∷ xs) ys to b h once (inr m) =
    let ne : x ≢ b = Each-among (λ u. x ≢ u) xs b once.0 m in
    let off : (b == x) ≡ false = grind (arith, nat_tests) in
    elim (next_of_linked w x xs ys to b h.2 once.1 m)
    [ inl r ↦ inl (r.0, rw off r.1) | inr r ↦ inr (r.0, rw off r.1, inr r.2) ]

pub behind-absent : (b : ℕ) (xs ys : List ℕ) → IsAbsent b xs → behind b (xs ++ ys) ≡ behind b ys
behind-absent b [] ys h = refl
behind-absent b (x ∷ xs) ys h = let ne = h.0 in let off : (b == x) ≡ false = grind (arith, nat_tests) in rw off (behind-absent b xs ys h.1)

pub next_in-bucket : (xs : List ℕ) (b : ℕ) → b ≢ 0 → next_in xs b ≡ behind b xs
next_in-bucket xs b ne = let off : (b == 0) ≡ false = grind (arith, nat_tests) in rw off

word_behind-bucket : (b : ℕ) → b ≢ 0 → word_behind b ≡ b
word_behind-bucket b ne = let off : (b == 0) ≡ false = grind (arith, nat_tests) in rw off

last-same : (d e : ℕ) (xs : List ℕ) (b : ℕ) → IsAmong xs b → last_or d xs ≡ last_or e xs
last-same d e [] b m = elim m [ ]
last-same d e (x ∷ xs) b m = refl

pub among_last : (d x : ℕ) (xs : List ℕ) → IsAmong (x ∷ xs) (last_or x xs)
among_last d x [] = inl refl
among_last d x (y ∷ ys) = inr (among_last x y ys)

-- all buckets of a chain
pub among_not_0 : (shape : Shape) (part : ℕ) (xs : List ℕ) (b : ℕ) → AreBuckets (IsBucketOf shape part) xs → IsAmong xs b → b ≢ 0
among_not_0 shape part xs b h m = λ e. Each-among (λ x. 0 ≢ x) xs b (no_bucket_is_0 shape part xs h) m (sym e)

-- what `after` finds, by what it has read
pub record FindsNext (w : Words) (xs : List ℕ) (b : ℕ) : Type 0 where
  pub appended : w 10 ≢ 0 → b ≡ w 10 → next_in xs b ≡ 0
  pub before_appended : w 10 ≢ 0 → b ≢ w 10 → b ≡ w 11 → next_in xs b ≡ w 10
  pub plain : (w 10 ≡ 0) ⊎ ((b ≢ w 10) × (b ≢ w 11)) → (w (word_behind b) ≡ 0) ⊎ (w (word_behind b) ≢ w 12) → next_in xs b ≡ w (word_behind b)
  pub skips : (w 10 ≡ 0) ⊎ ((b ≢ w 10) × (b ≢ w 11)) → w (word_behind b) ≢ 0 → w (word_behind b) ≡ w 12 → next_in xs b ≡ w (w (word_behind b))

whole_next : (shape : Shape) (part : ℕ) (w : Words) (from : ℕ) (xs : List ℕ) (b : ℕ) → AreBuckets (IsBucketOf shape part) xs → HasNoRepeats xs → Links w from xs 0 → IsAmong xs b → behind b xs ≡ w b
whole_next shape part w from xs b buckets once l m = elim (next_of_linked w from xs [] 0 b l once m) [
  | inl r ↦ subst (λ ys. behind b ys ≡ 0) (append-nil xs) r.1 ∙ sym (ap w r.0 ∙ Links-last w from xs 0 l)
  | inr r ↦ subst (λ ys. behind b ys ≡ w b) (append-nil xs) r.1
]

finds-at_rest : (shape : Shape) (part : ℕ) (w : Words) (xs : List ℕ) (b : ℕ) → IsAtRest shape part w xs → (b ≡ 0) ⊎ IsAmong xs b → FindsNext w xs b
finds-at_rest shape part w xs b h m = record {
  appended = λ ne. absurd (ne h.to_append);
  before_appended = λ ne. absurd (ne h.to_append);
  plain = λ _ _. next m;
  skips = λ _ ne e. absurd (ne (e ∙ h.to_remove));
}
  where
    next : (b ≡ 0) ⊎ IsAmong xs b → next_in xs b ≡ w (word_behind b)
    next (inl e) = rw e (sym (first_of_links w 8 xs 0 h.links))
    next (inr k) = let ne = among_not_0 shape part xs b h.buckets k in
        next_in-bucket xs b ne ∙ whole_next shape part w 8 xs b h.buckets h.no_repeats h.links k ∙ sym (ap w (word_behind-bucket b ne))

first-push : (xs : List ℕ) (n : ℕ) → first_or 0 (xs ++ n ∷ []) ≡ first_or n xs
first-push [] n = refl
first-push (x ∷ xs) n = refl

finds-appending : (shape : Shape) (part : ℕ) (w : Words) (front : List ℕ) (node b : ℕ) → IsAppending shape part w front node → (b ≡ 0) ⊎ IsAmong (front ++ node ∷ []) b →
    FindsNext w (front ++ node ∷ []) b
finds-appending shape part w front node b h m = record {
  appended = λ _ e. let is : b ≡ node = e ∙ h.to_append in
      subst (λ x. next_in (front ++ node ∷ []) x ≡ 0) (sym is)
      (next_in-bucket (front ++ node ∷ []) node not_0 ∙ behind-absent node front (node ∷ []) h.absent ∙ (let on : (node == node) ≡ true = grind (arith, nat_tests) in rw on));
  before_appended = λ _ ne e. last front h.buckets h.no_repeats links.1 (e ∙ h.last_tail) ∙ sym h.to_append;
  plain = λ p _. elim p [ inl z ↦ absurd (not_0 (sym h.to_append ∙ z)) | inr q ↦ next (λ e. q.0 (e ∙ sym h.to_append)) (λ e. q.1 (e ∙ sym h.last_tail)) m ];
  skips = λ _ ne e. absurd (ne (e ∙ h.to_remove));
}
  where
    not_0 : node ≢ 0
    not_0 = let above = bucket_above shape part node h.bucket in omega arith

    links : (to : ℕ) × Links w 8 front to
    links = elim h.links [ inl l ↦ (0, l) | inr l ↦ (node, l) ]

    last : (xs : List ℕ) → AreBuckets (IsBucketOf shape part) xs → HasNoRepeats xs → Links w 8 xs (links.0) → b ≡ last_or 0 xs → next_in (xs ++ node ∷ []) b ≡ node
    last [] k once l e = rw e
    last (x ∷ xs) k once l e =
        let among : IsAmong (x ∷ xs) b = subst (IsAmong (x ∷ xs)) (sym e) (among_last 0 x xs) in
        next_in-bucket ((x ∷ xs) ++ node ∷ []) b (among_not_0 shape part (x ∷ xs) b k among)
        ∙ elim (next_of_linked w 8 (x ∷ xs) (node ∷ []) links.0 b l once among) [ inl r ↦ r.1 | inr r ↦ absurd (r.0 e) ]

    next : b ≢ node → b ≢ last_or 0 front → (b ≡ 0) ⊎ IsAmong (front ++ node ∷ []) b → next_in (front ++ node ∷ []) b ≡ w (word_behind b)
    next ne off (inl e) = first front links.1 (λ q. off (e ∙ sym q))
      where
        first : (xs : List ℕ) → Links w 8 xs links.0 → (last_or 0 xs ≡ 0 → ⊥) → next_in (xs ++ node ∷ []) b ≡ w (word_behind b)
        first [] l q = absurd (q refl)
        first (x ∷ xs) l q = rw e (sym l.0)
    next ne off (inr k) = elim (among_append front (node ∷ []) b k) [
      | inl i ↦ let nz = among_not_0 shape part front b h.buckets i in
          next_in-bucket (front ++ node ∷ []) b nz
          ∙ elim (next_of_linked w 8 front (node ∷ []) links.0 b links.1 h.no_repeats i)
          [ inl r ↦ absurd (off (r.0 ∙ last-same 8 0 front b i)) | inr r ↦ r.1 ]
          ∙ sym (ap w (word_behind-bucket b nz))
      | inr i ↦ elim i [ inl e ↦ absurd (ne e) | inr x ↦ elim x [ ] ]
    ]

behind_or_first : (x : ℕ) (xs : List ℕ) (b : ℕ) (t : Bool) → (behind b xs ≢ 0 → IsAmong xs (behind b xs)) →
    cond t (first_or 0 xs) (behind b xs) ≢ 0 → IsAmong (x ∷ xs) (cond t (first_or 0 xs) (behind b xs))
behind_or_first x [] b true more ne = absurd (ne refl)
behind_or_first x (y ∷ ys) b true more ne = inr (inl refl)
behind_or_first x xs b false more ne = inr (more ne)

-- what comes next is in the chain, or 0
behind-among : (xs : List ℕ) (b : ℕ) → behind b xs ≢ 0 → IsAmong xs (behind b xs)
behind-among [] b ne = absurd (ne refl)
behind-among (x ∷ xs) b ne = behind_or_first x xs b (b == x) (λ q. behind-among xs b q) ne

pub next_in-among : (xs : List ℕ) (b : ℕ) → next_in xs b ≢ 0 → IsAmong xs (next_in xs b)
next_in-among xs b ne = at xs (b == 0) ne
  where
    at : (ys : List ℕ) (t : Bool) → cond t (first_or 0 ys) (behind b ys) ≢ 0 → IsAmong ys (cond t (first_or 0 ys) (behind b ys))
    at [] true ne = absurd (ne refl)
    at (y ∷ ys) true ne = inl refl
    at ys false ne = behind-among ys b ne

first-append : (x : ℕ) (xs ys : List ℕ) → first_or 0 ((x ∷ xs) ++ ys) ≡ x
first-append x xs ys = refl

finds-removing : (shape : Shape) (part : ℕ) (w : Words) (front : List ℕ) (node : ℕ) (rest : List ℕ) (b : ℕ) → IsRemoving shape part w front node rest →
    (b ≡ 0) ⊎ IsAmong (front ++ rest) b → FindsNext w (front ++ rest) b
finds-removing shape part w front node rest b h m = record {
  appended = λ ne. absurd (ne h.to_append);
  before_appended = λ ne. absurd (ne h.to_append);
  plain = λ _ q. elim (found m) [
    | inl e ↦ e
    | inr e ↦ elim q [ inl z ↦ absurd (not_0 (sym e.0 ∙ z)) | inr ne ↦ absurd (ne (e.0 ∙ sym h.to_remove)) ]
  ];
  skips = λ _ ne e. elim (found m) [
    | inl k ↦ absurd (no_node (next_among m k ne) (e ∙ h.to_remove))
    | inr k ↦ k.1 ∙ sym (ap w k.0 ∙ first_of_links w node rest 0 h.next)
  ];
}
  where
    not_0 : node ≢ 0
    not_0 = let above = bucket_above shape part node h.bucket in omega arith

    fronts : AreBuckets (IsBucketOf shape part) front
    fronts = Each-left (IsBucketOf shape part) front rest h.buckets

    rests : AreBuckets (IsBucketOf shape part) rest
    rests = Each-right (IsBucketOf shape part) front rest h.buckets

    no_node : IsAmong (front ++ rest) (w (word_behind b)) → w (word_behind b) ≡ node → ⊥
    no_node k e = Each-among (λ x. node ≢ x) (front ++ rest) (w (word_behind b)) h.absent k (sym e)

    -- the last of the front, or HEAD, names the bucket or what is behind it
    ends : (w (last_or 8 front) ≡ node) ⊎ (w (last_or 8 front) ≡ first_or 0 rest)
    ends = elim h.links [ inl l ↦ inl (Links-last w 8 front node l) | inr l ↦ inr (Links-last w 8 front (first_or 0 rest) l) ]

    links : (to : ℕ) × Links w 8 front to
    links = elim h.links [ inl l ↦ (node, l) | inr l ↦ (first_or 0 rest, l) ]

    Found : Type 0
    Found = (next_in (front ++ rest) b ≡ w (word_behind b)) ⊎ ((w (word_behind b) ≡ node) × (next_in (front ++ rest) b ≡ first_or 0 rest))

    found : (b ≡ 0) ⊎ IsAmong (front ++ rest) b → (next_in (front ++ rest) b ≡ w (word_behind b)) ⊎ ((w (word_behind b) ≡ node) × (next_in (front ++ rest) b ≡ first_or 0 rest))
    found (inl e) = at front links.1 ends
      where
        at : (xs : List ℕ) → Links w 8 xs links.0 → (w (last_or 8 xs) ≡ node) ⊎ (w (last_or 8 xs) ≡ first_or 0 rest) →
            (next_in (xs ++ rest) b ≡ w (word_behind b)) ⊎ ((w (word_behind b) ≡ node) × (next_in (xs ++ rest) b ≡ first_or 0 rest))
        at [] l (inl q) = rw e (inr (q, refl))
        at [] l (inr q) = rw e (inl (sym q))
        at (x ∷ xs) l q = rw e (inl (sym l.0))
    found (inr k) = elim (among_append front rest b k) [
      | inl i ↦ let nz = among_not_0 shape part front b fronts i in
          elim (next_of_linked w 8 front rest links.0 b links.1 (HasNoRepeats-left front rest h.no_repeats) i) [
            | inl r ↦ elim ends [
              | inl q ↦ inr (ap w (word_behind-bucket b nz) ∙ ap w r.0 ∙ q, next_in-bucket (front ++ rest) b nz ∙ r.1)
              | inr q ↦ inl (next_in-bucket (front ++ rest) b nz ∙ r.1 ∙ sym (ap w (word_behind-bucket b nz) ∙ ap w r.0 ∙ q))
            ]
            | inr r ↦ inl (next_in-bucket (front ++ rest) b nz ∙ r.1 ∙ sym (ap w (word_behind-bucket b nz)))
          ]
      | inr i ↦ let nz = among_not_0 shape part rest b rests i in
          inl (next_in-bucket (front ++ rest) b nz
          ∙ behind-absent b front rest (Each-among (λ y. IsAbsent y front) rest b (HasNoRepeats-across front rest h.no_repeats) i)
          ∙ whole_next shape part w node rest b rests (HasNoRepeats-right front rest h.no_repeats) h.next i
          ∙ sym (ap w (word_behind-bucket b nz)))
    ]

    next_among : (b ≡ 0) ⊎ IsAmong (front ++ rest) b → next_in (front ++ rest) b ≡ w (word_behind b) → w (word_behind b) ≢ 0 → IsAmong (front ++ rest) (w (word_behind b))
    next_among q e ne = subst (IsAmong (front ++ rest)) e (next_in-among (front ++ rest) b (λ z. ne (sym e ∙ z)))

pub finds_next : (shape : Shape) (part : ℕ) (w : Words) (xs : List ℕ) (b : ℕ) → IsList shape part w xs → (b ≡ 0) ⊎ IsAmong xs b → FindsNext w xs b
finds_next shape part w xs b (at_rest h) m = finds-at_rest shape part w xs b h m
finds_next shape part w xs b (appending front node h e) m =
    subst (λ ys. FindsNext w ys b) (sym e) (finds-appending shape part w front node b h (subst (λ ys. (b ≡ 0) ⊎ IsAmong ys b) e m))
finds_next shape part w xs b (removing front node rest h e) m =
    subst (λ ys. FindsNext w ys b) (sym e) (finds-removing shape part w front node rest b h (subst (λ ys. (b ≡ 0) ⊎ IsAmong ys b) e m))

-- what is read fits
pub record ReadsFit (limit : ℕ) (w : Words) (b : ℕ) : Type 0 where
  pub inside : word_behind b + 8 ≤ limit
  pub to_append : w 10 + 8 ≤ limit
  pub last_tail : w 11 + 8 ≤ limit
  pub to_remove : w 12 + 8 ≤ limit
  pub next : IsLinkedOn w b → w (word_behind b) + 8 ≤ limit
  pub skipped : IsLinkedOn w b → w (word_behind b) ≢ 0 → w (word_behind b) ≡ w 12 → w (w (word_behind b)) + 8 ≤ limit

pub reads_fit : (shape : Shape) (part : ℕ) (w : Words) (xs : List ℕ) (b : ℕ) → part < shape.partitions → IsList shape part w xs → (b ≡ 0) ⊎ IsAmong xs b → ReadsFit (heap shape) w b
reads_fit shape part w xs b below is m =
    let f = asked_fit shape part w xs below is in
    let n = finds_next shape part w xs b is m in record {
      to_append = f.to_append;
      last_tail = f.last_tail;
      to_remove = f.to_remove;
      inside = inside m;
      next = λ p. elim (eqb_tells (w (word_behind b)) (w 12)) [
        | inl e ↦ let t = f.to_remove in let q = e.1 in omega arith
        | inr ne ↦ subst (λ x. x + 8 ≤ heap shape) (n.plain p (inr ne.1)) next_fits
      ];
      skipped = λ p nz e. subst (λ x. x + 8 ≤ heap shape) (n.skips p nz e) next_fits;
    }
  where
    buckets : AreBuckets (IsBucketOf shape part) xs
    buckets = chain_is_buckets shape part w xs is

    inside : (b ≡ 0) ⊎ IsAmong xs b → word_behind b + 8 ≤ heap shape
    inside (inl e) = rw e (omega arith)
    inside (inr k) = let nz = among_not_0 shape part xs b buckets k in
        subst (λ x. x + 8 ≤ heap shape) (sym (word_behind-bucket b nz)) (bucket_fits shape part b below (Each-among (IsBucketOf shape part) xs b buckets k))

    next_fits : next_in xs b + 8 ≤ heap shape
    next_fits = elim (eqb_tells (next_in xs b) 0) [
      | inl e ↦ let q = e.1 in omega arith
      | inr ne ↦ bucket_fits shape part (next_in xs b) below (Each-among (IsBucketOf shape part) xs (next_in xs b) buckets (next_in-among xs b ne.1))
    ]

-- behind the last of a front comes the first of the back
pub behind-front : (x : ℕ) (xs ys : List ℕ) → HasNoRepeats (x ∷ xs) → behind (last_or x xs) ((x ∷ xs) ++ ys) ≡ first_or 0 ys
behind-front x [] ys once = let on : (x == x) ≡ true = grind (arith, nat_tests) in rw on
behind-front x (z ∷ zs) ys once =
    let ne : x ≢ last_or z zs = Each-last (λ u. x ≢ u) z zs once.0.0 once.0.1 in
    let off : (last_or z zs == x) ≡ false = grind (arith, nat_tests) in
    rw off (behind-front z zs ys once.1)
