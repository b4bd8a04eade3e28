-- From a node to what hangs on it.
use Rattle.std.proofs.Common.{◌≡◌, ℕ, ◌+◌, ◌<◌, sym, subst, arith}
use Rattle.lane_traits.specs.Space.{Space, IsOwn}
use Rattle.region_layout.specs.TreeMap.{Node}
use Rattle.persist_tree.specs.Changes.{HasTree, HasNode, stored_height}
use Rattle.persist_tree.proofs.Turning.{on_left, on_right, stored_height-is}

pub tree_same : (s u : Space) (a b : ℕ) → u ≡ s → b ≡ a → HasTree s a → HasTree u b
tree_same s u a b same here h = subst (λ (y : Space). HasTree y b) (sym same) (subst (HasTree s) (sym here) h)

pub node_same : (s u : Space) (a b : ℕ) → u ≡ s → b ≡ a → HasNode s a → HasNode u b
node_same s u a b same here h = subst (λ (y : Space). HasNode y b) (sym same) (subst (HasNode s) (sym here) h)

pub own_same : (s u : Space) (a : ℕ) → u ≡ s → IsOwn s.land a → IsOwn u.land a
own_same s u a same h = subst (λ (y : Space). IsOwn y.land a) (sym same) h

pub node_own : (s : Space) (a : ℕ) → HasNode s a → IsOwn s.land a
node_own s a h = h.stands.own.0

pub node_left : (s : Space) (a : ℕ) → HasNode s a → HasTree s (s.word (a + 3))
node_left s a h = record { tree = h.l; stands = on_left s a a h.k h.v h.l h.r h.stands }

pub node_right : (s : Space) (a : ℕ) → HasNode s a → HasTree s (s.word (a + 4))
node_right s a h = record { tree = h.r; stands = on_right s a a h.k h.v h.l h.r h.stands }

pub left_lower : (s : Space) (a : ℕ) → HasNode s a → stored_height s.word (s.word (a + 3)) < stored_height s.word a
left_lower s a h =
    let e = stored_height-is s (s.word (a + 3)) h.l (on_left s a a h.k h.v h.l h.r h.stands) in
    let f = stored_height-is s a (Node a h.k h.v h.l h.r) h.stands in
    omega (arith, e, f)

pub right_lower : (s : Space) (a : ℕ) → HasNode s a → stored_height s.word (s.word (a + 4)) < stored_height s.word a
right_lower s a h =
    let e = stored_height-is s (s.word (a + 4)) h.r (on_right s a a h.k h.v h.l h.r h.stands) in
    let f = stored_height-is s a (Node a h.k h.v h.l h.r) h.stands in
    omega (arith, e, f)

pub lower_here : (s u : Space) (a b h : ℕ) → u ≡ s → b ≡ a → stored_height s.word a < h → stored_height u.word b < h
lower_here s u a b h same here low = subst (λ (y : Space). stored_height y.word b < h) (sym same) (subst (λ x. stored_height s.word x < h) (sym here) low)
