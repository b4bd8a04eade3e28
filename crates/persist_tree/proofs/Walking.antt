-- The entries are put behind one another.
use Rattle.std.proofs.Common.{◌≡◌, ℕ, ◌+◌, ◌<◌, List, [], ◌∷◌, ◌++◌, map, refl, sym, subst, ◌∙◌, ap, arith, append_assoc, append-nil}
use Rattle.std.proofs.lemmas.List.{map-append}
use Rattle.lane_traits.specs.Space.{Space}
use Rattle.lane_traits.specs.declared.words.Pair.{Pair}
use Rattle.region_layout.specs.FiniteMap.{FiniteMap}
use Rattle.region_layout.specs.TreeMap.{Tree, Leaf, Node, entries}
use Rattle.persist_tree.specs.Changes.{StandsAt, HasTree}
use Rattle.persist_tree.specs.Calls.{Holds, HoldsMap, entry_of}
use Rattle.persist_tree.proofs.Turning.{node_at, on_left, on_right, stands_in}
use Rattle.persist_tree.proofs.Whole.{whole_stands}

-- the entries of the tree here are behind those of before
abbrev pub Collects : Space → ℕ → List Pair → List Pair → Type 0
Collects s a before later = (t : Tree) → StandsAt s a t → map entry_of later ≡ map entry_of before ++ entries t

pub collects_none : (s : Space) (a : ℕ) (found : List Pair) → a ≡ 0 → Collects s a found found
collects_none s a found none Leaf h = sym (append-nil (map entry_of found))
collects_none s a found none (Node b k v l r) h = absurd (let e = h.top_is in let p = h.own.0.0.positive in omega (arith, e, p, none))

pub collects_in : (s u : Space) (a x : ℕ) (before later : List Pair) → u ≡ s → x ≡ a → Collects u x before later → Collects s a before later
collects_in s u a x before later same here h = subst (λ (y : Space). Collects y a before later) same (subst (λ y. Collects u y before later) here h)

pub collects_node : (s : Space) (a key value : ℕ) (f₀ f₁ f₂ f₃ : List Pair) → 0 < a → key ≡ s.word (a + 1) → value ≡ s.word (a + 2)
    → Collects s (s.word (a + 3)) f₀ f₁ → f₂ ≡ f₁ ++ record { key = key; value = value } ∷ [] → Collects s (s.word (a + 4)) f₂ f₃ → Collects s a f₀ f₃
collects_node s a key value f₀ f₁ f₂ f₃ positive key_is value_is on_l pushed on_r t h =
    let n = node_at s a t h positive in
    let left = on_l n.l (on_left s a a n.k n.v n.l n.r n.stands) in
    let right = on_r n.r (on_right s a a n.k n.v n.l n.r n.stands) in
    let here : (key, value) ≡ (n.k, n.v) = ap (λ x. (x, value)) (key_is ∙ n.stands.laid.0.key) ∙ ap (λ x. (n.k, x)) (value_is ∙ n.stands.laid.0.value) in
    right
    ∙ ap (λ (xs : List Pair). map entry_of xs ++ entries n.r) pushed
    ∙ ap (λ (xs : FiniteMap). xs ++ entries n.r) (map-append entry_of f₁ (record { key = key; value = value } ∷ []) ∙ ap (λ (xs : FiniteMap). xs ++ (key, value) ∷ []) left)
    ∙ regrouped (map entry_of f₀) (entries n.l) (key, value) (entries n.r)
    ∙ ap (λ x. map entry_of f₀ ++ (entries n.l ++ x ∷ entries n.r)) here
    ∙ sym (ap (λ x. map entry_of f₀ ++ entries x) n.is)
  where
    regrouped : (xs ys : FiniteMap) (p : ℕ × ℕ) (zs : FiniteMap) → ((xs ++ ys) ++ p ∷ []) ++ zs ≡ xs ++ (ys ++ p ∷ zs)
    regrouped xs ys p zs = append_assoc (xs ++ ys) (p ∷ []) zs ∙ append_assoc xs ys (p ∷ zs)

pub walked : (s : Space) (root a : ℕ) (found : List Pair) → a ≡ s.word (root + 1) → Collects s a [] found → (m : FiniteMap) → Holds s root m → map entry_of found ≡ m
walked s root a found here collects m h = collects h.tree (stands_in s s (s.word (root + 1)) a h.tree refl here (whole_stands s root h.tree h.is)) ∙ sym h.entries_are

pub map_tree : (s : Space) (root : ℕ) → HoldsMap s root → HasTree s (s.word (root + 1))
map_tree s root h = record { tree = h.is.tree; stands = whole_stands s root h.is.tree h.is.is }
