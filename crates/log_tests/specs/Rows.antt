-- What the checks of the log's tests find: a row of buckets linked both ways, in ascending order.
use Rattle.std.specs.Prelude.{◌≡◌, ℕ, ◌≤◌, List}
use Rattle.persist_model.specs.Region.{Words}
use Rattle.persist_model.specs.Shape.{Shape, IsBucketOf}
use Rattle.persist_model.specs.Chain.{HEAD, Each, AreBuckets, HasNoRepeats, last_or, Links, LinksBack}

-- From HEAD on, xs is linked both ways; the word `link` names what is behind, and `last` is its last.
pub record IsRow (shape : Shape) (p : ℕ) (w : Words) (xs : List ℕ) (link last : ℕ) : Type 0 where
  pub links : Links w HEAD xs (w link)
  pub link_is : link ≡ last_or HEAD xs
  pub links_back : LinksBack w 0 xs
  pub last_is : last ≡ last_or 0 xs
  pub buckets : AreBuckets (IsBucketOf shape p) xs
  pub no_repeats : HasNoRepeats xs
  pub below : Each (λ x. x ≤ link) xs
