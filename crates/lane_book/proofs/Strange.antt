-- The words of a batch, one after another.
use Rattle.std.proofs.Common.{◌≡◌, ℕ, zero, suc, ◌+◌, ◌<◌, ◌≤◌, Bool, true, false, ◌&&◌, if◌then◌else◌, List, [], ◌∷◌, length, drop, get_or, refl, sym, ◌∙◌, ap, subst, arith, add-one}
use Rattle.std.proofs.Math.Seq.{drop-cons}
use Rattle.persist_model.specs.Shape.{IsHeapWord}
use Rattle.lane_traits.specs.declared.draft.WordWrite.{WordWrite}
use Rattle.region_layout.specs.declared.layout.Layout.{Layout}
use Rattle.region_layout.specs.Layout.{layout_shape}
use Rattle.offset_alloc.specs.declared.Standing.{Standing}
use Rattle.lane_book.specs.declared.lane.Lane.{Lane}
use Rattle.lane_book.specs.Refusals.{is_mine, are_mine, owner_seen, first_owner, block_in, AreHeapWords}

-- the words before this one are the lane's
pub record AreLeft {E : Type 0} (layout : Layout) (blocks : List Standing) (lane : Lane E) (writes : List WordWrite) (i : ℕ) : Type 0 where
  pub inside : AreHeapWords layout (drop i writes)
  pub mine : are_mine layout blocks lane writes ≡ are_mine layout blocks lane (drop i writes)
  pub first : first_owner layout blocks lane writes ≡ first_owner layout blocks lane (drop i writes)

pub left_first : {E : Type 0} (layout : Layout) (blocks : List Standing) (lane : Lane E) (writes : List WordWrite) → AreHeapWords layout writes →
    AreLeft layout blocks lane writes 0
left_first layout blocks lane writes inside = record { inside = inside; mine = refl; first = refl }

pub head_inside : {E : Type 0} (layout : Layout) (blocks : List Standing) (lane : Lane E) (writes : List WordWrite) (i : ℕ) (d : WordWrite) →
    AreLeft layout blocks lane writes i → i < length writes → IsHeapWord (layout_shape layout) (get_or writes i d).address
head_inside layout blocks lane writes i d left lt = (subst (AreHeapWords layout) (drop-cons writes i d lt) left.inside).0

pub left_next : {E : Type 0} (layout : Layout) (blocks : List Standing) (lane : Lane E) (writes : List WordWrite) (i block : ℕ) (d : WordWrite) →
    AreLeft layout blocks lane writes i → i < length writes → block ≡ block_in layout (get_or writes i d).address →
    is_mine blocks lane block ≡ true → AreLeft layout blocks lane writes (i + 1)
left_next layout blocks lane writes i block d left lt is on =
    subst (AreLeft layout blocks lane writes) (sym (add-one i)) record {
      inside = (subst (AreHeapWords layout) (drop-cons writes i d lt) left.inside).1;
      mine = left.mine ∙ ap (are_mine layout blocks lane) (drop-cons writes i d lt) ∙
          ap (λ (t : Bool). t && are_mine layout blocks lane (drop (suc i) writes)) here;
      first = left.first ∙ ap (first_owner layout blocks lane) (drop-cons writes i d lt) ∙
          ap (λ (t : Bool). if t then first_owner layout blocks lane (drop (suc i) writes) else owner_seen blocks lane (block_in layout (get_or writes i d).address)) here;
    }
  where
    here : is_mine blocks lane (block_in layout (get_or writes i d).address) ≡ true
    here = ap (is_mine blocks lane) (sym is) ∙ on

pub left_found : {E : Type 0} (layout : Layout) (blocks : List Standing) (lane : Lane E) (writes : List WordWrite) (i block told : ℕ) (d : WordWrite) →
    AreLeft layout blocks lane writes i → i < length writes → block ≡ block_in layout (get_or writes i d).address →
    (is_mine blocks lane block ≡ false) × (told ≡ owner_seen blocks lane block) →
    (are_mine layout blocks lane writes ≡ false) × (told ≡ first_owner layout blocks lane writes)
left_found layout blocks lane writes i block told d left lt is off = (
  left.mine ∙ ap (are_mine layout blocks lane) (drop-cons writes i d lt) ∙
      ap (λ (t : Bool). t && are_mine layout blocks lane (drop (suc i) writes)) here,
  off.1 ∙ ap (owner_seen blocks lane) is ∙
      sym (left.first ∙ ap (first_owner layout blocks lane) (drop-cons writes i d lt) ∙
      ap (λ (t : Bool). if t then first_owner layout blocks lane (drop (suc i) writes) else owner_seen blocks lane (block_in layout (get_or writes i d).address)) here),
)
  where
    here : is_mine blocks lane (block_in layout (get_or writes i d).address) ≡ false
    here = ap (is_mine blocks lane) (sym is) ∙ off.0

pub drop_past : {X : Type 0} (i : ℕ) (xs : List X) → length xs ≤ i → drop i xs ≡ []
drop_past zero [] le = refl
drop_past zero (x ∷ xs) le = absurd (omega arith)
drop_past (suc i) [] le = refl
drop_past (suc i) (x ∷ xs) le = drop_past i xs (omega arith)

pub left_end : {E : Type 0} (layout : Layout) (blocks : List Standing) (lane : Lane E) (writes : List WordWrite) (i : ℕ) → AreLeft layout blocks lane writes i →
    length writes ≤ i → are_mine layout blocks lane writes ≡ true
left_end layout blocks lane writes i left le = left.mine ∙ ap (are_mine layout blocks lane) (drop_past i writes le)
