-- What is tried of a header.
use Rattle.std.proofs.Common.{◌≡◌, ℕ, zero, suc, ◌+◌, ◌<◌, ◌≤◌, ◌==◌, cond, true, false, List, [], ◌∷◌, refl, sym, ◌∙◌, ap, subst, arith, ⊎_elim, inl, inr}
use Rattle.std.specs.List.{range_with_len}
use Rattle.std.proofs.lemmas.Bool.{cases_lt}
use Rattle.persist_model.specs.Region.{Words}
use Rattle.persist_model.specs.Shape.{FIRST_MAGIC, SECOND_MAGIC, shape_of, words_of_shape, IsMagic, IsPolicy, IsCellCount, IsBucketCount, IsBlockCount, IsStructureCount, IsPartitionCount, IsKind, IsShape}
use Rattle.persist_model.specs.Faults.{Tried, TriedEach, NoFault, TrySizes, IsShapeFault}
use Rattle.region_layout.specs.declared.layout.Policy.{Policy}
use Rattle.region_layout.specs.declared.layout.Policy.TheVariants.{Force, NoForce}
use Rattle.region_layout.specs.Layout.{policy_number, IsAllowed}
use Rattle.region_layout.specs.Reading.{HasSizes, IsWrongSize, ShapesAreRead}

-- ---- trying in general

-- what is tried next may be exchanged
onward : (P : Type 0) (n x : ℕ) (next other : ℕ → ℕ → Type 0) (f a : ℕ) → (next f a → other f a) → Tried P n x next f a → Tried P n x other f a
onward P n x next other f a step tried = ⊎_elim (λ (h : (P → ⊥) × (f ≡ n) × (a ≡ x)). inl h) (λ (h : P × next f a). inr (h.0, step h.1)) tried

onward_each : (P : ℕ → Type 0) (n : ℕ) (xs : List ℕ) (next other : ℕ → ℕ → Type 0) (f a : ℕ) → (next f a → other f a)
    → TriedEach P n (λ x. x) xs next f a → TriedEach P n (λ x. x) xs other f a
onward_each P n [] next other f a step tried = step tried
onward_each P n (x ∷ xs) next other f a step tried =
    onward (P x) n x (TriedEach P n (λ y. y) xs next) (TriedEach P n (λ y. y) xs other) f a (onward_each P n xs next other f a step) tried

-- what holds is passed
passed : (P : Type 0) (n x : ℕ) (next : ℕ → ℕ → Type 0) (f a : ℕ) → P → Tried P n x next f a → next f a
passed P n x next f a holds tried = ⊎_elim (λ (h : (P → ⊥) × (f ≡ n) × (a ≡ x)). absurd (h.0 holds)) (λ (h : P × next f a). h.1) tried

passed_each : (P : ℕ → Type 0) (n start count : ℕ) (next : ℕ → ℕ → Type 0) (f a : ℕ) → ((j : ℕ) → j < count → P (start + j))
    → TriedEach P n (λ x. x) (range_with_len start count) next f a → next f a
passed_each P n start zero next f a all tried = tried
passed_each P n start (suc count) next f a all tried =
    let here : P start = subst P (let e : start + 0 ≡ start = omega arith in e) (all 0 (omega arith)) in
    passed_each P n (start + 1) count next f a (λ j h. subst P (let e : start + suc j ≡ start + 1 + j = omega arith in e) (all (suc j) (omega arith)))
    (passed (P start) n start (TriedEach P n (λ x. x) (range_with_len (start + 1) count) next) f a here tried)

-- the first that fails is found
pub first_wrong : (P : ℕ → Type 0) (n start count s : ℕ) (next : ℕ → ℕ → Type 0) → s < count → ((j : ℕ) → j < s → P (start + j)) → (P (start + s) → ⊥)
    → TriedEach P n (λ x. x) (range_with_len start count) next n (start + s)
first_wrong P n start zero s next within before fails = absurd (omega arith)
first_wrong P n start (suc count) zero next within before fails =
    let here : start + 0 ≡ start = omega arith in inl ((λ h. fails (subst P (sym here) h)), refl, here)
first_wrong P n start (suc count) (suc s) next within before fails =
    let here : start + 0 ≡ start = omega arith in
    let later : start + 1 + s ≡ start + suc s = omega arith in
    let Q : ℕ → Type 0 = λ a. TriedEach P n (λ x. x) (range_with_len (start + 1) count) next n a in
    inr (
      subst P here (before 0 (omega arith)),
      subst Q later (first_wrong P n (start + 1) count s next (omega arith)
          (λ j h. subst P (let e : start + suc j ≡ start + 1 + j = omega arith in e) (before (suc j) (omega arith)))
          (λ h. fails (subst P later h))),
    )

-- at most one fault is found
IsOne : (ℕ → ℕ → Type 0) → Type 0
IsOne next = (f a g b : ℕ) → next f a → next g b → (f ≡ g) × (a ≡ b)

one_tried : (P : Type 0) (n x : ℕ) (next : ℕ → ℕ → Type 0) → IsOne next → IsOne (Tried P n x next)
unfolding IsOne
one_tried P n x next one f a g b left right =
    ⊎_elim
    (λ (h : (P → ⊥) × (f ≡ n) × (a ≡ x)).
    ⊎_elim (λ (k : (P → ⊥) × (g ≡ n) × (b ≡ x)). (h.1 ∙ sym k.1, h.2 ∙ sym k.2)) (λ (k : P × next g b). absurd (h.0 k.0)) right)
    (λ (h : P × next f a).
    ⊎_elim (λ (k : (P → ⊥) × (g ≡ n) × (b ≡ x)). absurd (k.0 h.0)) (λ (k : P × next g b). one f a g b h.1 k.1) right)
    left

one_each : (P : ℕ → Type 0) (n : ℕ) (xs : List ℕ) (next : ℕ → ℕ → Type 0) → IsOne next → IsOne (TriedEach P n (λ x. x) xs next)
one_each P n [] next one = one
one_each P n (x ∷ xs) next one = one_tried (P x) n x (TriedEach P n (λ y. y) xs next) (one_each P n xs next one)

none : IsOne NoFault
unfolding IsOne
none f a g b left right = absurd left

-- ---- the header

pub policy_is : (policy : Policy) (n : ℕ) → policy_number policy ≡ n → IsPolicy n
policy_is Force n e = inl (sym e)
policy_is NoForce n e = inr (sym e)

-- what is tried of the sizes, each with what is tried next
abbrev Long : ℕ → Words → ℕ → ℕ → Type 0
Long size w = Tried (size ≡ words_of_shape (shape_of w)) 4 0 NoFault

abbrev Kinds : Words → (ℕ → ℕ → Type 0) → ℕ → ℕ → Type 0
Kinds w next = TriedEach (λ x. w 0 ≡ SECOND_MAGIC → IsKind (w x)) 4 (λ x. x) (range_with_len 13 (w 5)) next

abbrev Split : Words → (ℕ → ℕ → Type 0) → ℕ → ℕ → Type 0
Split w next = Tried (w 0 ≡ SECOND_MAGIC → IsPartitionCount (w 3) (w 6)) 4 6 (Kinds w next)

abbrev Structures : Words → (ℕ → ℕ → Type 0) → ℕ → ℕ → Type 0
Structures w next = Tried (IsStructureCount (w 5)) 4 5 (Split w next)

abbrev Blocks : Words → (ℕ → ℕ → Type 0) → ℕ → ℕ → Type 0
Blocks w next = Tried (IsBlockCount (w 4)) 4 4 (Structures w next)

abbrev Sizes : Words → (ℕ → ℕ → Type 0) → ℕ → ℕ → Type 0
Sizes w next = Tried (IsBucketCount (w 3)) 4 3 (Blocks w next)

-- the sizes are tried before the number of words
pub sizes_tried : (size : ℕ) (w : Words) (f a : ℕ) → IsWrongSize w f a → TrySizes size w NoFault f a
sizes_tried size w f a =
    onward (IsBucketCount (w 3)) 4 3 (Blocks w NoFault) (Blocks w (Long size w)) f a
    (onward (IsBlockCount (w 4)) 4 4 (Structures w NoFault) (Structures w (Long size w)) f a
    (onward (IsStructureCount (w 5)) 4 5 (Split w NoFault) (Split w (Long size w)) f a
    (onward (w 0 ≡ SECOND_MAGIC → IsPartitionCount (w 3) (w 6)) 4 6 (Kinds w NoFault) (Kinds w (Long size w)) f a
    (onward_each (λ x. w 0 ≡ SECOND_MAGIC → IsKind (w x)) 4 (range_with_len 13 (w 5)) NoFault (Long size w) f a (λ h. absurd h)))))

-- all sizes are right, and the number of words is another
pub length_wrong : (size : ℕ) (w : Words) → HasSizes w → (size ≡ words_of_shape (shape_of w) → ⊥) → TrySizes size w NoFault 4 0
length_wrong size w has fails =
    inr (
      has.buckets,
      inr (
        has.blocks,
        inr (
          has.structures,
          inr (
            has.partitions,
            all_kinds (λ x. w 0 ≡ SECOND_MAGIC → IsKind (w x)) 4 13 (w 5) (Tried (size ≡ words_of_shape (shape_of w)) 4 0 NoFault) 4 0
                (λ j h second. has.kinds second j h) (inl (fails, refl, refl)),
          ),
        ),
      ),
    )
  where
    all_kinds : (P : ℕ → Type 0) (n start count : ℕ) (next : ℕ → ℕ → Type 0) (f a : ℕ) → ((j : ℕ) → j < count → P (start + j)) → next f a
        → TriedEach P n (λ x. x) (range_with_len start count) next f a
    all_kinds P n start zero next f a all h = h
    all_kinds P n start (suc count) next f a all h =
        let here : start + 0 ≡ start = omega arith in
        inr (
          subst P here (all 0 (omega arith)),
          all_kinds P n (start + 1) count next f a (λ j k. subst P (let e : start + suc j ≡ start + 1 + j = omega arith in e) (all (suc j) (omega arith))) h,
        )

-- ---- the laws

read_allowed : (size : ℕ) (w : Words) → IsShape size w → IsAllowed (shape_of w)
read_allowed size w is = record {
  policy = ⊎_elim (λ (e : w 1 ≡ 1). (omega arith, omega arith)) (λ (e : w 1 ≡ 2). (omega arith, omega arith)) is.policy;
  cells = is.cells;
  buckets = is.buckets;
  blocks = is.blocks;
  structures = is.structures;
  format = ⊎_elim (λ (e : w 0 ≡ FIRST_MAGIC). let f = first_format e in (omega arith, omega arith)) (λ (e : w 0 ≡ SECOND_MAGIC). let f = second_format e in (omega arith, omega arith)) is.magic;
  partitions = ⊎_elim
      (λ (e : w 0 ≡ FIRST_MAGIC). let p = first_partitions e in (omega arith, omega arith))
      (λ (e : w 0 ≡ SECOND_MAGIC). let p = second_partitions e in let q = is.partitions e in (omega (arith, q.0), omega (arith, q.1))) is.magic;
  whole = ⊎_elim
      (λ (e : w 0 ≡ FIRST_MAGIC). let p = first_partitions e in λ f. p)
      (λ (e : w 0 ≡ SECOND_MAGIC). let f = second_format e in λ g. absurd (omega arith)) is.magic;
  split = ⊎_elim
      (λ (e : w 0 ≡ FIRST_MAGIC). let p = first_partitions e in omega (arith, is.buckets.0))
      (λ (e : w 0 ≡ SECOND_MAGIC). let p = second_partitions e in omega (arith, (is.partitions e).2)) is.magic;
}
  where
    first_format : w 0 ≡ FIRST_MAGIC → (shape_of w).format ≡ 1
    first_format e = ap (λ m. cond (m == SECOND_MAGIC) 2 1) e

    second_format : w 0 ≡ SECOND_MAGIC → (shape_of w).format ≡ 2
    second_format e = ap (λ m. cond (m == SECOND_MAGIC) 2 1) e

    first_partitions : w 0 ≡ FIRST_MAGIC → (shape_of w).partitions ≡ 1
    first_partitions e = ap (λ m. cond (m == SECOND_MAGIC) (w 6) 1) e

    second_partitions : w 0 ≡ SECOND_MAGIC → (shape_of w).partitions ≡ w 6
    second_partitions e = ap (λ m. cond (m == SECOND_MAGIC) (w 6) 1) e

refused : (size : ℕ) (w : Words) (f a : ℕ) → IsShapeFault size w f a → IsShape size w → ⊥
refused size w f a fault is =
    let sizes = Sizes w (Long size w) in
    let cells = Tried (IsCellCount (w 2)) 3 2 sizes in
    passed (size ≡ words_of_shape (shape_of w)) 4 0 NoFault f a is.long
    (passed_each (λ x. w 0 ≡ SECOND_MAGIC → IsKind (w x)) 4 13 (w 5) (Long size w) f a (λ j h second. is.kinds second j h)
    (passed (w 0 ≡ SECOND_MAGIC → IsPartitionCount (w 3) (w 6)) 4 6 (Kinds w (Long size w)) f a is.partitions
    (passed (IsStructureCount (w 5)) 4 5 (Split w (Long size w)) f a is.structures
    (passed (IsBlockCount (w 4)) 4 4 (Structures w (Long size w)) f a is.blocks
    (passed (IsBucketCount (w 3)) 4 3 (Blocks w (Long size w)) f a is.buckets
    (passed (IsCellCount (w 2)) 3 2 sizes f a is.cells
    (passed (IsPolicy (w 1)) 2 1 cells f a is.policy
    (passed ((32 ≤ size) × IsMagic (w 0)) 1 0 (Tried (IsPolicy (w 1)) 2 1 cells) f a (is.enough, is.magic) fault))))))))

one_fault : (size : ℕ) (w : Words) → IsOne (IsShapeFault size w)
one_fault size w =
    one_tried _ 1 0 _ (one_tried _ 2 1 _ (one_tried _ 3 2 _ (one_tried _ 4 3 _ (one_tried _ 4 4 _ (one_tried _ 4 5 _ (one_tried _ 4 6 _
    (one_each (λ x. w 0 ≡ SECOND_MAGIC → IsKind (w x)) 4 (range_with_len 13 (w 5)) _ (one_tried _ 4 0 NoFault none))))))))

pub shapes_are_read : ShapesAreRead
unfolding IsOne
shapes_are_read = record {
  allowed = read_allowed;
  refused = refused;
  one = λ size w f a g b. one_fault size w f a g b;
}

-- one more below
pub one_more : (P : ℕ → Type 0) (n : ℕ) → ((j : ℕ) → j < n → P j) → P n → (j : ℕ) → j < n + 1 → P j
one_more P n all here j h = ⊎_elim (λ (l : j < n). all j l) (λ (l : n ≤ j). subst P (let e : n ≡ j = omega arith in e) here) (cases_lt j n)

pub not_true : false ≡ true → ⊥
not_true e = cc
