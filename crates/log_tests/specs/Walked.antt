-- What the checks of the tests find in the words of a small region: four buckets of one cell, at 32, 48, 64 and 80.
use Rattle.std.specs.Prelude.{◌≡◌, ℕ, ◌<◌, ◌≤◌, List}
use Rattle.persist_model.specs.Region.{Words}
use Rattle.persist_model.specs.Shape.{Shape, SECOND_MAGIC, IsBucketOf}
use Rattle.persist_model.specs.Chain.{Each, AreBuckets, HasNoRepeats, last_or, Links, LinksBack, prev_of}

abbrev pub small : Shape
small = record { policy = 1; cells = 1; buckets = 4; blocks = 16; structures = 1; format = 2; partitions = 1 }

-- the region is the small one
pub record IsSmall (size : ℕ) (w : Words) : Type 0 where
  pub long : size ≡ 352
  pub magic : w 0 ≡ SECOND_MAGIC
  pub policy : w 1 ≡ 1
  pub cells : w 2 ≡ 1
  pub buckets : w 3 ≡ 4
  pub blocks : w 4 ≡ 16
  pub structures : w 5 ≡ 1
  pub partitions : w 6 ≡ 1
  pub kind : w 13 ≡ 1

-- x is a bucket behind the last one: this word names it, and its PREV names the last one
pub record Follows (w : Words) (link last x : ℕ) : Type 0 where
  pub bucket : IsBucketOf small 0 x
  pub later : link < x
  pub named : w link ≡ x
  pub back : w (prev_of x) ≡ last

-- From the word `from` on, xs is linked both ways, in ascending order. The word `link` names what is behind, and `last` is its last.
pub record Walked (w : Words) (from before : ℕ) (xs : List ℕ) (link last : ℕ) : Type 0 where
  pub links : Links w from xs (w link)
  pub link_is : link ≡ last_or from xs
  pub links_back : LinksBack w before xs
  pub last_is : last ≡ last_or before xs
  pub buckets : AreBuckets (IsBucketOf small 0) xs
  pub no_repeats : HasNoRepeats xs
  pub above : Each (λ x. from < x) xs
  pub below : Each (λ x. x ≤ link) xs
  pub ascends : from ≤ link
  pub within : link < 96
