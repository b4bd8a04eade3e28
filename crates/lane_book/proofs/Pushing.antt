-- The writes of a batch, and of an entry, put at the end one by one: what is there and what is left are the whole.
use Rattle.std.proofs.Common.{◌≡◌, ℕ, suc, ◌+◌, ◌<◌, ◌≤◌, List, [], ◌∷◌, ◌++◌, length, drop, get_or, map, refl, sym, ◌∙◌, ap, subst, arith, add-one, append-nil}
use Rattle.std.proofs.Math.Seq.{drop-cons}
use Rattle.std.proofs.Math.ListN.{length-append}
use Rattle.lane_traits.specs.declared.draft.WordWrite.{WordWrite}
use Rattle.region_layout.specs.declared.layout.Layout.{Layout}
use Rattle.lane_book.specs.declared.lane.Lane.{Lane}
use Rattle.lane_book.specs.Lanes.{has_room, with_more}
use Rattle.lane_book.specs.Entries.{disowned, AreBlocks}
use Rattle.lane_book.specs.Stocked.{Stocked, with_items}
use Rattle.lane_book.proofs.Strange.{drop_past}

-- ---- a batch

pub record ArePushed {E : Type 0} (first lane : Lane E) (writes : List WordWrite) (i : ℕ) : Type 0 where
  pub whole : with_more (drop i writes) lane ≡ with_more writes first
  pub room : has_room (length (drop i writes)) lane.writes

pub one_first : {X : Type 0} (xs ys : List X) (x : X) → xs ++ (x ∷ ys) ≡ (xs ++ x ∷ []) ++ ys
one_first [] ys x = refl
one_first (z ∷ xs) ys x = ap (λ (zs : List _). z ∷ zs) (one_first xs ys x)

pub pushes_fit : {E : Type 0} (first lane : Lane E) (writes : List WordWrite) (i : ℕ) (d : WordWrite) → ArePushed first lane writes i → i < length writes →
    length lane.writes.items < lane.writes.capacity
pushes_fit first lane writes i d pushed lt =
    let room = subst (λ (ws : List WordWrite). has_room (length ws) lane.writes) (drop-cons writes i d lt) pushed.room in omega (arith, room)

pub pushed_next : {E : Type 0} (first lane : Lane E) (writes : List WordWrite) (i : ℕ) (d : WordWrite) (stock : Stocked WordWrite) →
    ArePushed first lane writes i → i < length writes → stock ≡ with_items (lane.writes.items ++ get_or writes i d ∷ []) lane.writes →
    ArePushed first (record lane { writes = stock }) writes (i + 1)
pushed_next first lane writes i d stock pushed lt is =
    subst (λ (s : Stocked WordWrite). ArePushed first (record lane { writes = s }) writes (i + 1)) (sym is)
    (subst (ArePushed first (record lane { writes = with_items (lane.writes.items ++ get_or writes i d ∷ []) lane.writes }) writes) (sym (add-one i)) record {
      whole = ap (λ (ws : List WordWrite). record lane { writes = with_items ws lane.writes }) (sym (one_first lane.writes.items (drop (suc i) writes) (get_or writes i d))) ∙
          ap (λ (ws : List WordWrite). with_more ws lane) (sym (drop-cons writes i d lt)) ∙ pushed.whole;
      room =
          let room = subst (λ (ws : List WordWrite). has_room (length ws) lane.writes) (drop-cons writes i d lt) pushed.room in
          let long = length-append lane.writes.items (get_or writes i d ∷ []) in
          omega (arith, room, long);
    })

pub pushed_end : {E : Type 0} (first lane : Lane E) (writes : List WordWrite) (i : ℕ) → ArePushed first lane writes i → length writes ≤ i → lane ≡ with_more writes first
pushed_end first lane writes i pushed le =
    ap (λ (ws : List WordWrite). record lane { writes = with_items ws lane.writes }) (sym (append-nil lane.writes.items)) ∙
    ap (λ (ws : List WordWrite). with_more ws lane) (sym (drop_past i writes le)) ∙ pushed.whole

-- ---- an entry

pub record AreListed (layout : Layout) (writes list : List WordWrite) (gives : List ℕ) (i : ℕ) : Type 0 where
  pub inside : AreBlocks layout (drop i gives)
  pub whole : list ++ map (disowned layout) (drop i gives) ≡ writes ++ map (disowned layout) gives

pub listed_inside : (layout : Layout) (writes list : List WordWrite) (gives : List ℕ) (i d : ℕ) → AreListed layout writes list gives i → i < length gives →
    get_or gives i d < layout.blocks
listed_inside layout writes list gives i d listed lt = (subst (AreBlocks layout) (drop-cons gives i d lt) listed.inside).0

pub listed_next : (layout : Layout) (writes list later : List WordWrite) (gives : List ℕ) (i d : ℕ) → AreListed layout writes list gives i → i < length gives →
    later ≡ list ++ disowned layout (get_or gives i d) ∷ [] → AreListed layout writes later gives (i + 1)
listed_next layout writes list later gives i d listed lt is =
    subst (AreListed layout writes later gives) (sym (add-one i)) record {
      inside = (subst (AreBlocks layout) (drop-cons gives i d lt) listed.inside).1;
      whole = ap (λ (ws : List WordWrite). ws ++ map (disowned layout) (drop (suc i) gives)) is ∙
          sym (one_first list (map (disowned layout) (drop (suc i) gives)) (disowned layout (get_or gives i d))) ∙
          ap (λ (ks : List ℕ). list ++ map (disowned layout) ks) (sym (drop-cons gives i d lt)) ∙ listed.whole;
    }

pub listed_end : (layout : Layout) (writes list : List WordWrite) (gives : List ℕ) (i : ℕ) → AreListed layout writes list gives i → length gives ≤ i →
    list ≡ writes ++ map (disowned layout) gives
listed_end layout writes list gives i listed le =
    sym (append-nil list) ∙ ap (λ (ks : List ℕ). list ++ map (disowned layout) ks) (sym (drop_past i gives le)) ∙ listed.whole
