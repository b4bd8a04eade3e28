-- Turns, and a node that is put right, on any sides.
use Rattle.std.proofs.Common.{◌≡◌, inl, ℕ, ◌+◌, ◌<◌, ◌≤◌, true, false, nat_lt, max, refl, Result, Ok, Err, IfOk, sym, subst, ◌∙◌, ap, arith}
use Rattle.std.proofs.lemmas.Bool.Decides.{nat_tests}
use Rattle.lane_traits.specs.Space.{Space, IsOwn, put_word, written}
use Rattle.region_layout.specs.TreeMap.{Tree, Leaf, Node, height}
use Rattle.persist_tree.specs.Trees.{IsIn, left_of, right_of, turned_left, turned_right, turned_twice_left, turned_twice_right, lowered_left, lowered_right, joined}
use Rattle.persist_tree.specs.Changes.{StandsAt, IsRebuilt, AreParts, HasParts, Hangs, Builds, stored_height}
use Rattle.persist_tree.proofs.Counting.{low_tree}
use Rattle.persist_tree.proofs.Framing.{put_same, put_other, changes_written, changes_then, changes_more, hung, hung_is}
use Rattle.persist_tree.proofs.Turning.{IsNodeAt, node_at, on_left, on_right, stored_height-is, right_first, right_second, right_whole, left_first, left_second, left_whole, twice_right_first, twice_right_second, twice_right_third, twice_right_whole, twice_left_first, twice_left_second, twice_left_third, twice_left_whole}

-- the heights of the sides are small
pub record HasLowSides (s : Space) (left right : ℕ) : Type 0 where
  pub left_low : stored_height s.word left ≤ 74242
  pub right_low : stored_height s.word right ≤ 74242

pub low_sides : (s : Space) (b left right : ℕ) → HasParts s b left right → HasLowSides s left right
low_sides s b left right h =
    let e = stored_height-is s left h.l h.are.on_left in
    let f = stored_height-is s right h.r h.are.on_right in
    let low_l = low_tree s.land h.l h.are.on_left.own h.are.apart.3 in
    let low_r = low_tree s.land h.r h.are.on_right.own h.are.apart.4 in
    record { left_low = omega (arith, e, low_l); right_low = omega (arith, f, low_r) }

pub heights_in : (s u : Space) (a b n : ℕ) → u ≡ s → b ≡ a → n ≡ stored_height u.word b → n ≡ stored_height s.word a
heights_in s u a b n same here is = is ∙ ap (λ (y : Space). stored_height y.word b) same ∙ ap (stored_height s.word) here

-- the heights below a node
pub left_height : (s : Space) (a : ℕ) (t : Tree) → StandsAt s a t → 0 < a → stored_height s.word (s.word (a + 3)) ≡ height (left_of t)
left_height s a t h positive =
    let n = node_at s a t h positive in
    stored_height-is s (s.word (a + 3)) n.l (on_left s a a n.k n.v n.l n.r n.stands) ∙ sym (ap (λ x. height (left_of x)) n.is)

pub right_height : (s : Space) (a : ℕ) (t : Tree) → StandsAt s a t → 0 < a → stored_height s.word (s.word (a + 4)) ≡ height (right_of t)
right_height s a t h positive =
    let n = node_at s a t h positive in
    stored_height-is s (s.word (a + 4)) n.r (on_right s a a n.k n.v n.l n.r n.stands) ∙ sym (ap (λ x. height (right_of x)) n.is)

-- ---- to the right

module _ (s : Space) (b left right : ℕ) (positive : 0 < left) where
  opened_right : (k v : ℕ) (l r : Tree) (h : AreParts s b left right k v l r) (n : IsNodeAt s left l) → AreParts s b left right k v (Node left n.k n.v n.l n.r) r
  opened_right k v l r h n = subst (λ x. AreParts s b left right k v x r) n.is h

  pub turn_right-first : HasParts s b left right → HasParts s b (s.word (left + 4)) right
  turn_right-first h =
      let n = node_at s left h.l h.are.on_left positive in
      record { k = h.k; v = h.v; l = n.r; r = h.r; are = right_first s b left right h.k h.v n.k n.v n.l n.r h.r (opened_right h.k h.v h.l h.r h.are n) }

  pub turn_right-second : (u₁ : Space) → HasParts s b left right → Hangs s u₁ b (s.word (left + 4)) right → HasParts u₁ left (s.word (left + 3)) b
  turn_right-second u₁ h hang₁ =
      let n = node_at s left h.l h.are.on_left positive in
      let open_parts = opened_right h.k h.v h.l h.r h.are n in
      record {
        k = n.k;
        v = n.v;
        l = n.l;
        r = Node b h.k h.v n.r h.r;
        are = right_second s b left right h.k h.v n.k n.v n.l n.r h.r open_parts u₁
            (hang₁ h.k h.v n.r h.r (right_first s b left right h.k h.v n.k n.v n.l n.r h.r open_parts));
      }

  pub turn_right-builds : (u₁ u₂ : Space) → Hangs s u₁ b (s.word (left + 4)) right → Hangs u₁ u₂ left (s.word (left + 3)) b → Builds (λ x k v l r. turned_right (Node x k v l r)) 9 s u₂ b left right left
  turn_right-builds u₁ u₂ hang₁ hang₂ k v l r h =
      let n = node_at s left l h.on_left positive in
      subst (λ (x : Tree). IsRebuilt (IsIn (Node b k v x r)) 9 s u₂ left (turned_right (Node b k v x r))) (sym n.is)
      (right_whole s b left right k v n.k n.v n.l n.r r (opened_right k v l r h n) u₁ u₂ hang₁ hang₂)

  module _ (inner : ℕ) (above : 0 < inner) (is : inner ≡ s.word (left + 4)) where
    inner_at : (l : Tree) → StandsAt s left l → (n : IsNodeAt s left l) → IsNodeAt s inner n.r
    inner_at l h n = node_at s inner n.r (subst (λ x. StandsAt s x n.r) (sym is) (on_right s left left n.k n.v n.l n.r n.stands)) above

    opened_twice : (k v : ℕ) (l r : Tree) (h : AreParts s b left right k v l r) (n : IsNodeAt s left l) (m : IsNodeAt s inner n.r)
        → AreParts s b left right k v (Node left n.k n.v n.l (Node inner m.k m.v m.l m.r)) r
    opened_twice k v l r h n m = subst (λ x. AreParts s b left right k v (Node left n.k n.v n.l x) r) m.is (opened_right k v l r h n)

    pub turn_twice_right-first : HasParts s b left right → HasParts s left (s.word (left + 3)) (s.word (inner + 3))
    turn_twice_right-first h =
        let n = node_at s left h.l h.are.on_left positive in
        let m = inner_at h.l h.are.on_left n in
        record { k = n.k; v = n.v; l = n.l; r = m.l; are = twice_right_first s b left inner right h.k h.v n.k n.v m.k m.v n.l m.l m.r h.r (opened_twice h.k h.v h.l h.r h.are n m) }

    pub turn_twice_right-second : (u₁ : Space) → HasParts s b left right → Hangs s u₁ left (s.word (left + 3)) (s.word (inner + 3)) → HasParts u₁ b (s.word (inner + 4)) right
    turn_twice_right-second u₁ h hang₁ =
        let n = node_at s left h.l h.are.on_left positive in
        let m = inner_at h.l h.are.on_left n in
        let open_parts = opened_twice h.k h.v h.l h.r h.are n m in
        let first = hang₁ n.k n.v n.l m.l (twice_right_first s b left inner right h.k h.v n.k n.v m.k m.v n.l m.l m.r h.r open_parts) in
        record { k = h.k; v = h.v; l = m.r; r = h.r; are = twice_right_second s b left inner right h.k h.v n.k n.v m.k m.v n.l m.l m.r h.r open_parts u₁ first }

    pub turn_twice_right-third : (u₁ u₂ : Space) → HasParts s b left right → Hangs s u₁ left (s.word (left + 3)) (s.word (inner + 3)) → Hangs u₁ u₂ b (s.word (inner + 4)) right
        → HasParts u₂ inner left b
    turn_twice_right-third u₁ u₂ h hang₁ hang₂ =
        let n = node_at s left h.l h.are.on_left positive in
        let m = inner_at h.l h.are.on_left n in
        let open_parts = opened_twice h.k h.v h.l h.r h.are n m in
        let first = hang₁ n.k n.v n.l m.l (twice_right_first s b left inner right h.k h.v n.k n.v m.k m.v n.l m.l m.r h.r open_parts) in
        let second = hang₂ h.k h.v m.r h.r (twice_right_second s b left inner right h.k h.v n.k n.v m.k m.v n.l m.l m.r h.r open_parts u₁ first) in
        record { k = m.k; v = m.v; l = Node left n.k n.v n.l m.l; r = Node b h.k h.v m.r h.r; are = twice_right_third s b left inner right h.k h.v n.k n.v m.k m.v n.l m.l m.r h.r open_parts u₁ u₂ first second }

    pub turn_twice_right-builds : (u₁ u₂ u₃ : Space) → Hangs s u₁ left (s.word (left + 3)) (s.word (inner + 3)) → Hangs u₁ u₂ b (s.word (inner + 4)) right → Hangs u₂ u₃ inner left b
        → Builds turned_twice_right 9 s u₃ b left right inner
    turn_twice_right-builds u₁ u₂ u₃ hang₁ hang₂ hang₃ k v l r h =
        let n = node_at s left l h.on_left positive in
        let m = inner_at l h.on_left n in
        subst (λ (x : Tree). IsRebuilt (IsIn (Node b k v x r)) 9 s u₃ inner (turned_twice_right b k v x r)) (sym (n.is ∙ ap (Node left n.k n.v n.l) m.is))
        (twice_right_whole s b left inner right k v n.k n.v m.k m.v n.l m.l m.r r (opened_twice k v l r h n m) u₁ u₂ u₃ hang₁ hang₂ hang₃)

-- ---- to the left

module _ (s : Space) (b left right : ℕ) (positive : 0 < right) where
  opened_left : (k v : ℕ) (l r : Tree) (h : AreParts s b left right k v l r) (n : IsNodeAt s right r) → AreParts s b left right k v l (Node right n.k n.v n.l n.r)
  opened_left k v l r h n = subst (λ x. AreParts s b left right k v l x) n.is h

  pub turn_left-first : HasParts s b left right → HasParts s b left (s.word (right + 3))
  turn_left-first h =
      let n = node_at s right h.r h.are.on_right positive in
      record { k = h.k; v = h.v; l = h.l; r = n.l; are = left_first s b right left h.k h.v n.k n.v h.l n.l n.r (opened_left h.k h.v h.l h.r h.are n) }

  pub turn_left-second : (u₁ : Space) → HasParts s b left right → Hangs s u₁ b left (s.word (right + 3)) → HasParts u₁ right b (s.word (right + 4))
  turn_left-second u₁ h hang₁ =
      let n = node_at s right h.r h.are.on_right positive in
      let open_parts = opened_left h.k h.v h.l h.r h.are n in
      record {
        k = n.k;
        v = n.v;
        l = Node b h.k h.v h.l n.l;
        r = n.r;
        are = left_second s b right left h.k h.v n.k n.v h.l n.l n.r open_parts u₁
            (hang₁ h.k h.v h.l n.l (left_first s b right left h.k h.v n.k n.v h.l n.l n.r open_parts));
      }

  pub turn_left-builds : (u₁ u₂ : Space) → Hangs s u₁ b left (s.word (right + 3)) → Hangs u₁ u₂ right b (s.word (right + 4)) → Builds (λ x k v l r. turned_left (Node x k v l r)) 9 s u₂ b left right right
  turn_left-builds u₁ u₂ hang₁ hang₂ k v l r h =
      let n = node_at s right r h.on_right positive in
      subst (λ (x : Tree). IsRebuilt (IsIn (Node b k v l x)) 9 s u₂ right (turned_left (Node b k v l x))) (sym n.is)
      (left_whole s b right left k v n.k n.v l n.l n.r (opened_left k v l r h n) u₁ u₂ hang₁ hang₂)

  module _ (inner : ℕ) (above : 0 < inner) (is : inner ≡ s.word (right + 3)) where
    inner_left_at : (r : Tree) → StandsAt s right r → (n : IsNodeAt s right r) → IsNodeAt s inner n.l
    inner_left_at r h n = node_at s inner n.l (subst (λ x. StandsAt s x n.l) (sym is) (on_left s right right n.k n.v n.l n.r n.stands)) above

    opened_twice_left : (k v : ℕ) (l r : Tree) (h : AreParts s b left right k v l r) (n : IsNodeAt s right r) (m : IsNodeAt s inner n.l)
        → AreParts s b left right k v l (Node right n.k n.v (Node inner m.k m.v m.l m.r) n.r)
    opened_twice_left k v l r h n m = subst (λ x. AreParts s b left right k v l (Node right n.k n.v x n.r)) m.is (opened_left k v l r h n)

    pub turn_twice_left-first : HasParts s b left right → HasParts s right (s.word (inner + 4)) (s.word (right + 4))
    turn_twice_left-first h =
        let n = node_at s right h.r h.are.on_right positive in
        let m = inner_left_at h.r h.are.on_right n in
        record { k = n.k; v = n.v; l = m.r; r = n.r; are = twice_left_first s b right inner left h.k h.v n.k n.v m.k m.v h.l m.l m.r n.r (opened_twice_left h.k h.v h.l h.r h.are n m) }

    pub turn_twice_left-second : (u₁ : Space) → HasParts s b left right → Hangs s u₁ right (s.word (inner + 4)) (s.word (right + 4)) → HasParts u₁ b left (s.word (inner + 3))
    turn_twice_left-second u₁ h hang₁ =
        let n = node_at s right h.r h.are.on_right positive in
        let m = inner_left_at h.r h.are.on_right n in
        let open_parts = opened_twice_left h.k h.v h.l h.r h.are n m in
        let first = hang₁ n.k n.v m.r n.r (twice_left_first s b right inner left h.k h.v n.k n.v m.k m.v h.l m.l m.r n.r open_parts) in
        record { k = h.k; v = h.v; l = h.l; r = m.l; are = twice_left_second s b right inner left h.k h.v n.k n.v m.k m.v h.l m.l m.r n.r open_parts u₁ first }

    pub turn_twice_left-third : (u₁ u₂ : Space) → HasParts s b left right → Hangs s u₁ right (s.word (inner + 4)) (s.word (right + 4)) → Hangs u₁ u₂ b left (s.word (inner + 3))
        → HasParts u₂ inner b right
    turn_twice_left-third u₁ u₂ h hang₁ hang₂ =
        let n = node_at s right h.r h.are.on_right positive in
        let m = inner_left_at h.r h.are.on_right n in
        let open_parts = opened_twice_left h.k h.v h.l h.r h.are n m in
        let first = hang₁ n.k n.v m.r n.r (twice_left_first s b right inner left h.k h.v n.k n.v m.k m.v h.l m.l m.r n.r open_parts) in
        let second = hang₂ h.k h.v h.l m.l (twice_left_second s b right inner left h.k h.v n.k n.v m.k m.v h.l m.l m.r n.r open_parts u₁ first) in
        record { k = m.k; v = m.v; l = Node b h.k h.v h.l m.l; r = Node right n.k n.v m.r n.r; are = twice_left_third s b right inner left h.k h.v n.k n.v m.k m.v h.l m.l m.r n.r open_parts u₁ u₂ first second }

    pub turn_twice_left-builds : (u₁ u₂ u₃ : Space) → Hangs s u₁ right (s.word (inner + 4)) (s.word (right + 4)) → Hangs u₁ u₂ b left (s.word (inner + 3)) → Hangs u₂ u₃ inner b right
        → Builds turned_twice_left 9 s u₃ b left right inner
    turn_twice_left-builds u₁ u₂ u₃ hang₁ hang₂ hang₃ k v l r h =
        let n = node_at s right r h.on_right positive in
        let m = inner_left_at r h.on_right n in
        subst (λ (x : Tree). IsRebuilt (IsIn (Node b k v l x)) 9 s u₃ inner (turned_twice_left b k v l x)) (sym (n.is ∙ ap (λ x. Node right n.k n.v x n.r) m.is))
        (twice_left_whole s b right inner left k v n.k n.v m.k m.v l m.l m.r n.r (opened_twice_left k v l r h n m) u₁ u₂ u₃ hang₁ hang₂ hang₃)

-- ---- the turn that the heights ask for

module _ (s u : Space) (b left right link : ℕ) where
  pub lowered_left-twice : 0 < left → stored_height s.word (s.word (left + 3)) < stored_height s.word (s.word (left + 4))
      → Builds turned_twice_right 9 s u b left right link → Builds lowered_left 9 s u b left right link
  lowered_left-twice positive less builds k v l r h =
      let outer = left_height s left l h.on_left positive in
      let inner = right_height s left l h.on_left positive in
      let on : nat_lt (height (left_of l)) (height (right_of l)) ≡ true = grind (arith, nat_tests) in
      rw on (builds k v l r h)

  pub lowered_left-once : 0 < left → stored_height s.word (s.word (left + 4)) ≤ stored_height s.word (s.word (left + 3))
      → Builds (λ x k v l r. turned_right (Node x k v l r)) 9 s u b left right link → Builds lowered_left 9 s u b left right link
  lowered_left-once positive less builds k v l r h =
      let outer = left_height s left l h.on_left positive in
      let inner = right_height s left l h.on_left positive in
      let off : nat_lt (height (left_of l)) (height (right_of l)) ≡ false = grind (arith, nat_tests) in
      rw off (builds k v l r h)

  pub lowered_right-twice : 0 < right → stored_height s.word (s.word (right + 4)) < stored_height s.word (s.word (right + 3))
      → Builds turned_twice_left 9 s u b left right link → Builds lowered_right 9 s u b left right link
  lowered_right-twice positive less builds k v l r h =
      let inner = left_height s right r h.on_right positive in
      let outer = right_height s right r h.on_right positive in
      let on : nat_lt (height (right_of r)) (height (left_of r)) ≡ true = grind (arith, nat_tests) in
      rw on (builds k v l r h)

  pub lowered_right-once : 0 < right → stored_height s.word (s.word (right + 3)) ≤ stored_height s.word (s.word (right + 4))
      → Builds (λ x k v l r. turned_left (Node x k v l r)) 9 s u b left right link → Builds lowered_right 9 s u b left right link
  lowered_right-once positive less builds k v l r h =
      let inner = left_height s right r h.on_right positive in
      let outer = right_height s right r h.on_right positive in
      let off : nat_lt (height (right_of r)) (height (left_of r)) ≡ false = grind (arith, nat_tests) in
      rw off (builds k v l r h)

  -- ---- a node is put right

  pub joined-left : stored_height s.word right + 1 < stored_height s.word left → Builds lowered_left 9 s u b left right link → Builds joined 9 s u b left right link
  joined-left more builds k v l r h =
      let on_l = stored_height-is s left l h.on_left in
      let on_r = stored_height-is s right r h.on_right in
      let on : nat_lt (height r + 1) (height l) ≡ true = grind (arith, nat_tests) in
      rw on (builds k v l r h)

  pub joined-right : stored_height s.word left + 1 < stored_height s.word right → Builds lowered_right 9 s u b left right link → Builds joined 9 s u b left right link
  joined-right more builds k v l r h =
      let on_l = stored_height-is s left l h.on_left in
      let on_r = stored_height-is s right r h.on_right in
      let off : nat_lt (height r + 1) (height l) ≡ false = grind (arith, nat_tests) in
      let on : nat_lt (height l + 1) (height r) ≡ true = grind (arith, nat_tests) in
      rw (off, on) (builds k v l r h)

pub joined-level : (s u : Space) (b left right : ℕ) → stored_height s.word left ≤ stored_height s.word right + 1 → stored_height s.word right ≤ stored_height s.word left + 1
    → Hangs s u b left right → Builds joined 9 s u b left right b
joined-level s u b left right most least hangs k v l r h =
    let on_l = stored_height-is s left l h.on_left in
    let on_r = stored_height-is s right r h.on_right in
    let off : nat_lt (height r + 1) (height l) ≡ false = grind (arith, nat_tests) in
    let even : nat_lt (height l + 1) (height r) ≡ false = grind (arith, nat_tests) in
    let done = hangs k v l r h in
    rw (off, even) (record { changes = changes_more (λ c. c ≡ b) (IsIn (Node b k v l r)) 3 9 s u done.changes (λ c e. inl e) (omega arith); stands = done.stands })

-- ---- what the code stores

pub builds_in : (built : ℕ → ℕ → ℕ → Tree → Tree → Tree) (n : ℕ) (s t u : Space) (b left right link : ℕ) → t ≡ s → Builds built n t u b left right link → Builds built n s u b left right link
builds_in built n s t u b left right link same h = subst (λ (z : Space). Builds built n z u b left right link) same h

pub builds_all : {E : Type 0} (f g : ℕ → ℕ → ℕ → Tree → Tree → Tree) (n : ℕ) (s t u : Space) (b left right : ℕ) (r : Result ℕ E)
    → ((link : ℕ) → Builds f n t u b left right link → Builds g n s u b left right link) → IfOk r (λ link. Builds f n t u b left right link) → IfOk r (λ link. Builds g n s u b left right link)
builds_all f g n s t u b left right (Ok link) weaker h = weaker link h
builds_all f g n s t u b left right (Err e) weaker h = h

pub hung_in : (s u : Space) (b left right h : ℕ) → u ≡ s → hung u b left right h ≡ hung s b left right h
hung_in s u b left right h same = ap (λ (y : Space). hung y b left right h) same

pub hangs_of : (s u : Space) (b left right h : ℕ) → u ≡ hung s b left right h → h ≡ 1 + max (stored_height s.word left) (stored_height s.word right) → Hangs s u b left right
hangs_of s u b left right h made high k v l r parts =
    let on_l = stored_height-is s left l parts.on_left in
    let on_r = stored_height-is s right r parts.on_right in
    let is : h ≡ 1 + max (height l) (height r) = omega (arith, high, on_l, on_r) in
    subst (λ (y : Space). IsRebuilt (λ c. c ≡ b) 3 s y b (Node b k v l r)) (sym (made ∙ ap (hung s b left right) is)) (hung_is s b left right k v l r parts)

pub placed_of : (s s₁ s₂ u : Space) (b key value : ℕ) → IsOwn s.land b → s₁ ≡ written (b + 1) key s → s₂ ≡ written (b + 2) value s₁ → u ≡ hung s₂ b 0 0 1
    → IsRebuilt (λ c. c ≡ b) 5 s u b (Node b key value Leaf Leaf)
placed_of s s₁ s₂ u b key value own first second third =
    subst (λ (y : Space). IsRebuilt (λ c. c ≡ b) 5 s y b (Node b key value Leaf Leaf))
    (sym (third ∙ ap (λ (y : Space). hung y b 0 0 1) (second ∙ ap (written (b + 2) value) first)))
    (record {
      changes = changes_then (λ c. c ≡ b) (λ c. c ≡ b) (λ c. c ≡ b) 2 3 s (written (b + 2) value (written (b + 1) key s)) (hung (written (b + 2) value (written (b + 1) key s)) b 0 0 1)
          (changes_then (λ c. c ≡ b) (λ c. c ≡ b) (λ c. c ≡ b) 1 1 s (written (b + 1) key s) (written (b + 2) value (written (b + 1) key s)) (changes_written (λ c. c ≡ b) s b 1 key refl (omega arith) (omega arith))
          (changes_written (λ c. c ≡ b) (written (b + 1) key s) b 2 value refl (omega arith) (omega arith)) (λ c e. e) (λ c e. e))
          hangs.changes (λ c e. e) (λ c e. e);
      stands = hangs.stands;
    })
  where
    hangs : IsRebuilt (λ c. c ≡ b) 3 (written (b + 2) value (written (b + 1) key s)) (hung (written (b + 2) value (written (b + 1) key s)) b 0 0 1) b (Node b key value Leaf Leaf)
    hangs = hung_is (written (b + 2) value (written (b + 1) key s)) b 0 0 key value Leaf Leaf (record {
      own = own;
      key = put_other (b + 2) value (b + 1) (put_word (b + 1) key s.word) (λ e. omega (arith, e)) ∙ put_same (b + 1) key s.word;
      value = put_same (b + 2) value (put_word (b + 1) key s.word);
      on_left = record { top_is = refl; laid = tt; own = tt };
      on_right = record { top_is = refl; laid = tt; own = tt };
      apart = (λ m. m, λ m. m, λ c m n. m, tt, tt);
    })
