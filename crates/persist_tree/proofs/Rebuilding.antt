-- One side of a node is rebuilt, and the node is joined again.
use Rattle.std.proofs.Common.{◌≡◌, inl, inr, ℕ, ◌+◌, ◌<◌, ◌≤◌, sym, subst, ◌∙◌, arith}
use Rattle.lane_traits.specs.Space.{Land, Space, IsOwn}
use Rattle.region_layout.specs.TreeMap.{Tree, Node, AreBelow, AreAbove, IsOrdered}
use Rattle.persist_tree.specs.Trees.{IsIn, IsApart, joined}
use Rattle.persist_tree.specs.Changes.{Changes, StandsAt, IsRebuilt, AreParts, Builds}
use Rattle.persist_tree.proofs.Framing.{laid_keys, apart_of, word_kept, stands_kept, changes_then, changes_more}
use Rattle.persist_tree.proofs.Turning.{on_left, on_right}

pub standing_apart : (s : Space) (a : ℕ) (t : Tree) → StandsAt s a t → IsOrdered t → IsApart t
standing_apart s a t stands ordered = apart_of s.word t (laid_keys s.word t stands.laid) ordered

module _ (s u : Space) (A : ℕ → Type 0) (n : ℕ) (a b k v : ℕ) (l r : Tree) (stands : StandsAt s a (Node b k v l r)) (ordered : IsOrdered (Node b k v l r))
    (changes : Changes A n s u) (own : (c : ℕ) → A c → IsOwn s.land c) (out : A b → ⊥) where
  b_word : (i : ℕ) → i < 16 → u.word (b + i) ≡ s.word (b + i)
  b_word i li = word_kept A n s u b i changes (λ d h. (own d h).0) stands.own.0.0 out li

  b_own : IsOwn u.land b
  b_own = subst (λ (y : Land). IsOwn y b) (sym changes.land) stands.own.0

  -- the left side is another tree now
  pub left_rebuilt : (link : ℕ) (x : Tree) → StandsAt u link x → ((c : ℕ) → IsIn r c → A c → ⊥) → AreBelow k x → IsOrdered x
      → AreParts u b link (s.word (b + 4)) k v x r
  left_rebuilt link x built apart below x_ordered =
      let r_stands = stands_kept A n s u (s.word (b + 4)) r changes (λ d h. (own d h).0) apart (on_right s a b k v l r stands) in
      record {
        own = b_own;
        key = b_word 1 (omega arith) ∙ stands.laid.0.key;
        value = b_word 2 (omega arith) ∙ stands.laid.0.value;
        on_left = built;
        on_right = r_stands;
        apart = apart_of u.word (Node b k v x r) (b_word 1 (omega arith) ∙ stands.laid.0.key, laid_keys u.word x built.laid, laid_keys u.word r r_stands.laid)
            (below, ordered.1, x_ordered, ordered.3);
      }

  -- the right side is another tree now
  pub right_rebuilt : (link : ℕ) (x : Tree) → StandsAt u link x → ((c : ℕ) → IsIn l c → A c → ⊥) → AreAbove k x → IsOrdered x
      → AreParts u b (s.word (b + 3)) link k v l x
  right_rebuilt link x built apart above x_ordered =
      let l_stands = stands_kept A n s u (s.word (b + 3)) l changes (λ d h. (own d h).0) apart (on_left s a b k v l r stands) in
      record {
        own = b_own;
        key = b_word 1 (omega arith) ∙ stands.laid.0.key;
        value = b_word 2 (omega arith) ∙ stands.laid.0.value;
        on_left = l_stands;
        on_right = built;
        apart = apart_of u.word (Node b k v l x) (b_word 1 (omega arith) ∙ stands.laid.0.key, laid_keys u.word l l_stands.laid, laid_keys u.word x built.laid)
            (ordered.0, above, ordered.2, x_ordered);
      }

-- a joining after other changes
pub joined_then : (s u w : Space) (A C : ℕ → Type 0) (n m b left right link k v : ℕ) (l r : Tree) → Changes A n s u → Builds joined 9 u w b left right link → AreParts u b left right k v l r
    → ((c : ℕ) → A c → C c) → C b → ((c : ℕ) → IsIn l c → C c) → ((c : ℕ) → IsIn r c → C c) → n + 9 ≤ m → IsRebuilt C m s w link (joined b k v l r)
joined_then s u w A C n m b left right link k v l r changes builds parts of_a of_b of_l of_r le =
    let built = builds k v l r parts in
    record {
      changes = changes_more C C (n + 9) m s w (changes_then A (IsIn (Node b k v l r)) C n 9 s u w changes built.changes of_a each) (λ c h. h) le;
      stands = built.stands;
    }
  where
    each : (c : ℕ) → IsIn (Node b k v l r) c → C c
    each c (inl e) = subst C (sym e) of_b
    each c (inr (inl h)) = of_l c h
    each c (inr (inr h)) = of_r c h
