-- The state that a world begins with is its own.
use Rattle.std.proofs.Common.{◌≡◌, ℕ, List, sym, subst}
use Rattle.persist_model.specs.Region.{Region}
use Rattle.lane_traits.specs.Device.{Counts}
use Rattle.region_layout.specs.declared.layout.Layout.{Layout}
use Rattle.lane_types.specs.Deeds.{Deeds}
use Rattle.lane_book.specs.declared.book.Book.{Book}
use Rattle.log_keeper.specs.declared.keeper.LogKeeper.{LogKeeper}
use Rattle.txn_core.specs.States.{base_of, IsKept}

-- The device is the one that it began with, and what it remembers of that and of the sorts is so.
pub kept_begun : {E D : Type 0} (deeds : Deeds E) (words : D → List ℕ) (cells : D → Region) (spare : D → ℕ) (counts : D → Counts) (layout : Layout) (book : Book E) (keeper : LogKeeper)
    (device here begun : D) (sorts common : List ℕ) → here ≡ device → begun ≡ device → common ≡ sorts →
    IsKept deeds layout (base_of layout sorts (words device) (counts device)) book keeper (cells device) (spare device) (counts device) →
    IsKept deeds layout (base_of layout common (words begun) (counts begun)) book keeper (cells here) (spare here) (counts here)
kept_begun deeds words cells spare counts layout book keeper device here begun sorts common same was told kept =
    subst (λ d. IsKept deeds layout (base_of layout common (words begun) (counts begun)) book keeper (cells d) (spare d) (counts d)) (sym same)
    (subst (λ d. IsKept deeds layout (base_of layout common (words d) (counts d)) book keeper (cells device) (spare device) (counts device)) (sym was)
    (subst (λ (s : List ℕ). IsKept deeds layout (base_of layout s (words device) (counts device)) book keeper (cells device) (spare device) (counts device)) (sym told) kept))
