-- No call of a map adds a block to those that can be taken.
use Rattle.std.proofs.Common.{◌≡◌, inl, inr, ℕ, Bool, true, false, List, [], ◌∷◌, ◌++◌, Option, Some, None, refl, sym, subst, ◌∙◌, ap}
use Rattle.std.specs.Prelude.{filter, MatchOption}
use Rattle.persist_model.specs.Records.{IsAmong}
use Rattle.persist_model.specs.Chain.{HasNoRepeats}
use Rattle.lane_traits.specs.Space.{Space, Land, taken, is_not}
use Rattle.lane_traits.specs.Draft.{drafted, IsChange}
use Rattle.lane_traits.specs.declared.draft.Drafted.{Drafted}
use Rattle.lane_traits.specs.declared.draft.WordWrite.{WordWrite}
use Rattle.region_layout.specs.declared.layout.Kind.{Kind}
use Rattle.region_layout.specs.FiniteMap.{FiniteMap}
use Rattle.persist_cells.specs.Calls as cells
use Rattle.persist_tree.specs.Calls as tree
use Rattle.persist_hash.specs.Calls as hash
use Rattle.lane_worker.specs.declared.stage.Change.{Change}
use Rattle.lane_worker.specs.Drafts.{HoldsOf, KeepsPlace, IsChangeOf, ChangesTo}

pub among_filter : (p : ℕ → Bool) (xs : List ℕ) (b : ℕ) → IsAmong (filter p xs) b → IsAmong xs b
among_filter p [] b m = m
among_filter p (x ∷ xs) b m = step (p x) refl (among_filter p xs b)
  where
    step : (t : Bool) → p x ≡ t → (IsAmong (filter p xs) b → IsAmong xs b) → IsAmong (x ∷ xs) b
    step true on again = elim (subst (λ (ys : List ℕ). IsAmong ys b) (kept on) m) [ inl e ↦ inl e | inr k ↦ inr (again k) ]
      where
        kept : p x ≡ true → filter p (x ∷ xs) ≡ x ∷ filter p xs
        kept e = rw e refl
    step false off again = inr (again (subst (λ (ys : List ℕ). IsAmong ys b) (left off) m))
      where
        left : p x ≡ false → filter p (x ∷ xs) ≡ filter p xs
        left e = rw e refl

pub tree_fewer : (s u : Space) (o : Option ℕ) → MatchOption o (tree.TakesOne s u) (λ _. tree.KeepsBlocks s u) → (b : ℕ) → IsAmong u.spare b → IsAmong s.spare b
tree_fewer s u None took b m = among_filter (is_not took.block) s.spare b (subst (λ (ys : List ℕ). IsAmong ys b) took.spare m)
tree_fewer s u (Some v) kept b m = subst (λ (ys : List ℕ). IsAmong ys b) kept.spare m

took_fewer : (blocks : List ℕ) (s u : Space) → hash.Took blocks s u → (b : ℕ) → IsAmong u.spare b → IsAmong s.spare b
took_fewer [] s u took b m = subst (λ (ys : List ℕ). IsAmong ys b) took.1 m
took_fewer (x ∷ blocks) s u took b m = among_filter (is_not x) s.spare b (took_fewer blocks (taken x s) u took.1 b m)

pub hash_fewer : (n : ℕ) (s u : Space) → hash.TakesBlocks n s u → (b : ℕ) → IsAmong u.spare b → IsAmong s.spare b
hash_fewer n s u took b m = took_fewer took.blocks s u took.took b m

pub tree_removed : (s u : Space) (o : Option ℕ) → MatchOption o (tree.KeepsBlocks s u) (λ _. tree.GivesOne s u) → (b : ℕ) → IsAmong u.spare b → IsAmong s.spare b
tree_removed s u None kept b m = subst (λ (ys : List ℕ). IsAmong ys b) kept.spare m
tree_removed s u (Some v) gave b m = subst (λ (ys : List ℕ). IsAmong ys b) gave.spare m

-- ---- the structure's place stays

pub tree_place : (s u : Space) (o : Option ℕ) → MatchOption o (tree.TakesOne s u) (λ _. tree.KeepsBlocks s u) → KeepsPlace s u
tree_place s u None took = record { heap = ap (λ (l : Land). l.heap) took.land; structure = ap (λ (l : Land). l.structure) took.land; start = ap (λ (l : Land). l.start) took.land }
tree_place s u (Some v) kept = record { heap = ap (λ (l : Land). l.heap) kept.land; structure = ap (λ (l : Land). l.structure) kept.land; start = ap (λ (l : Land). l.start) kept.land }

pub tree_removed_place : (s u : Space) (o : Option ℕ) → MatchOption o (tree.KeepsBlocks s u) (λ _. tree.GivesOne s u) → KeepsPlace s u
tree_removed_place s u None kept = record { heap = ap (λ (l : Land). l.heap) kept.land; structure = ap (λ (l : Land). l.structure) kept.land; start = ap (λ (l : Land). l.start) kept.land }
tree_removed_place s u (Some v) gave = record { heap = ap (λ (l : Land). l.heap) gave.land; structure = ap (λ (l : Land). l.structure) gave.land; start = ap (λ (l : Land). l.start) gave.land }

took_place : (blocks : List ℕ) (s u : Space) → hash.Took blocks s u → KeepsPlace s u
took_place [] s u took = record { heap = ap (λ (l : Land). l.heap) took.0; structure = ap (λ (l : Land). l.structure) took.0; start = ap (λ (l : Land). l.start) took.0 }
took_place (x ∷ blocks) s u took = let again = took_place blocks (taken x s) u took.1 in record { heap = again.heap; structure = again.structure; start = again.start }

pub hash_place : (n : ℕ) (s u : Space) → hash.TakesBlocks n s u → KeepsPlace s u
hash_place n s u took = took_place took.blocks s u took.took

pub hash_removed_place : (s u : Space) (o : Option ℕ) → MatchOption o (u ≡ s) (λ _. hash.GivesBlock s u) → KeepsPlace s u
hash_removed_place s u None same = record { heap = ap (λ (x : Space). x.land.heap) same; structure = ap (λ (x : Space). x.land.structure) same; start = ap (λ (x : Space). x.land.start) same }
hash_removed_place s u (Some v) gave = record { heap = ap (λ (l : Land). l.heap) gave.land; structure = ap (λ (l : Land). l.structure) gave.land; start = ap (λ (l : Land). l.start) gave.land }

pub cells_place : (s u : Space) → cells.KeepsBlocks s u → KeepsPlace s u
cells_place s u kept = record { heap = ap (λ (l : Land). l.heap) kept.land; structure = ap (λ (l : Land). l.structure) kept.land; start = ap (λ (l : Land). l.start) kept.land }

-- ---- what a finished draft changes

pub drafted_changes : (kind : Kind) (structure root : ℕ) (spare : List ℕ) (base s u : Space) (after : FiniteMap → FiniteMap) → s ≡ drafted structure [] [] spare base
    → ((m : FiniteMap) → HoldsOf kind s root m → HoldsOf kind u root (after m)) → ((b : ℕ) → IsAmong u.spare b → IsAmong s.spare b) → KeepsPlace s u → HasNoRepeats u.spare
    → (d : Drafted) → IsChange u d.writes d.gives → d.spare ≡ u.spare → (change : Change) → IsChangeOf d change
    → (m : FiniteMap) → HoldsOf kind (drafted structure [] [] spare base) root m → ChangesTo kind structure root spare base change (after m)
drafted_changes kind structure root spare base s u after is contents fewer place once d changed left change of m h = record {
  space = u;
  holds = contents m (subst (λ (x : Space). HoldsOf kind x root m) (sym is) h);
  gives = d.gives;
  change_is = subst (λ (ws : List WordWrite). IsChange u ws d.gives) (sym of.writes) changed;
  all_gives = of.gives ∙ ap (λ xs. d.gives ++ xs) left;
  fewer = λ b among. subst (λ (x : Space). IsAmong x.spare b) is (fewer b among);
  spare_once = once;
  heap = place.heap ∙ ap (λ (x : Space). x.land.heap) is;
  structure_is = place.structure ∙ ap (λ (x : Space). x.land.structure) is;
  start = place.start ∙ ap (λ (x : Space). x.land.start) is;
  written = of.written;
  given = of.given;
}
