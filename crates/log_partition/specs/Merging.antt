-- The logs of all partitions of a region.
use Rattle.std.specs.Prelude.{◌≡◌, ℕ, ◌<◌, List}
use Rattle.persist_model.specs.Region.{Words}
use Rattle.persist_model.specs.Shape.{shape_of, IsShape, IsBucketOf}
use Rattle.persist_model.specs.Chain.{view, ListRules}
use Rattle.region_layout.specs.declared.layout.Layout.{Layout}
use Rattle.region_layout.specs.Layout.{layout_shape}

-- These many words are those of a region of this layout, and the list of each partition is sound.
pub record AreLogsOf (layout : Layout) (size : ℕ) (w : Words) : Type 0 where
  pub shape : IsShape size w
  pub has_layout : shape_of w ≡ layout_shape layout
  pub lists : (p : ℕ) → p < layout.partitions → (chain : List ℕ) × ListRules (IsBucketOf (layout_shape layout) p) (view p w) chain
