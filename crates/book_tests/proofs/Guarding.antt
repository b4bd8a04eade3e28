-- What is read of a lane holds of the book's.
use Rattle.std.proofs.Common.{◌≡◌, ◌≢◌, ⊎_elim, ℕ, suc, ◌+◌, ◌<◌, ◌≤◌, Bool, true, List, [], ◌∷◌, length, get_or, slice_get, Option, Some, None, unwrap_or, sym, ◌∙◌, ap, subst, arith}
use Rattle.std.specs.List.{list_any, filter}
use Rattle.std.proofs.lemmas.Map.Views.{any-filter_same}
use Rattle.std.proofs.lemmas.Bool.Decides.{eqb_tells}
use Rattle.std.proofs.lemmas.Option.{slice_get_within}
use Rattle.region_layout.proofs.Headers.{not_true}
use Rattle.region_layout.specs.declared.layout.Layout.{Layout}
use Rattle.offset_alloc.specs.declared.Standing.{Standing}
use Rattle.lane_book.specs.declared.lane.Lane.{Lane}
use Rattle.lane_book.specs.declared.book.Book.{Book}
use Rattle.lane_types.specs.declared.face.Entry.{Entry}
use Rattle.lane_book.specs.FacesOf.{lane_at, is_of}
use Rattle.lane_book.specs.Steps.{HasEntered}
use Rattle.lane_book.specs.Refusals.{AreStructures, AreHeapWords}
use Rattle.lane_book.specs.Stores.{no_write}
use Rattle.lane_traits.specs.declared.draft.WordWrite.{WordWrite}
use Rattle.persist_model.specs.Shape.{IsHeapWord}
use Rattle.region_layout.specs.Layout.{layout_shape}
use Rattle.lane_book.specs.Entries.{AreBlocks}
use Rattle.lane_book.proofs.Reserving.{less_of_ne}
use Rattle.book_tests.specs.Guarded.{AreBelow, IsOut}

pub are_blocks : (layout : Layout) (blocks : List ℕ) → layout.blocks ≡ 16 → AreBelow 16 blocks → AreBlocks layout blocks
are_blocks layout [] many below = tt
are_blocks layout (block ∷ blocks) many below =
    let first = below 0 (omega arith) in
    (omega (arith, first, many), are_blocks layout blocks many (λ k lt. below (suc k) (omega (arith, lt))))

pub heap_words : (layout : Layout) (writes : List WordWrite) →
    ((k : ℕ) → k < length writes → IsHeapWord (layout_shape layout) (get_or writes k no_write).address) → AreHeapWords layout writes
heap_words layout [] each = tt
heap_words layout (w ∷ writes) each = (each 0 (omega arith), heap_words layout writes (λ k lt. each (suc k) (omega (arith, lt))))

pub one_is_there : {X : Type 0} (p : X → Bool) (xs : List X) → list_any p xs ≡ true → filter p xs ≢ []
one_is_there p xs found none = absurd (not_true (sym (ap (list_any p) none) ∙ any-filter_same p p true (λ k e. e) xs ∙ found))

pub has_joined : {E : Type 0} (book : Book E) (l : ℕ) (lane : Lane E) (entries : List (Entry E)) → lane ≡ lane_at book l → IsOut lane →
    entries ≡ book.history.items → list_any (is_of l) entries ≡ true → HasEntered book l
has_joined book l lane entries is out all any = record {
  entered = subst (λ (k : Lane _). k.entered ≡ true) is out.entered;
  out = subst (λ (k : Lane _). k.entry ≡ None) is out.out;
  mine = one_is_there (is_of l) book.history.items (subst (λ es. list_any (is_of l) es ≡ true) all any);
}

-- ---- the structures of blocks

abbrev pub AreStructuresBelow : List Standing → ℕ → Type 0
AreStructuresBelow blocks n = (block s : ℕ) → block < n → slice_get blocks block ≡ Some (Standing.Owned s) → s < 8

pub one_more : (blocks : List Standing) (n : ℕ) (standing : Standing) → AreStructuresBelow blocks n → slice_get blocks n ≡ Some standing →
    ((s : ℕ) → standing ≡ Standing.Owned s → s < 8) → AreStructuresBelow blocks (n + 1)
one_more blocks n standing below is owned block s lt e = ⊎_elim
    (λ same. owned s (ap (λ (o : Option Standing). unwrap_or o Standing.Free) (sym is ∙ ap (slice_get blocks) (sym same.1) ∙ e)))
    (λ other. below block s (less_of_ne n block (omega (arith, lt)) (λ same. other.1 (sym same))) e)
    (eqb_tells block n)

pub all_below : (blocks : List Standing) (n : ℕ) → length blocks ≤ n → AreStructuresBelow blocks n → AreStructures blocks
all_below blocks n le below block s e = below block s (let lt = slice_get_within blocks block (Standing.Owned s) e in omega (arith, lt, le)) e
