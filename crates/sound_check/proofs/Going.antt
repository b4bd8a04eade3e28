-- A walk that goes on to the next bucket.
use Rattle.std.proofs.Common.{◌≡◌, ℕ, suc, ◌+◌, ◌-◌, ◌<◌, List, [], ◌∷◌, ◌++◌, length, sym, ap, ◌∙◌, subst, arith, length-append}
use Rattle.persist_model.specs.Region.{Words}
use Rattle.persist_model.specs.Shape.{Shape, IsBucketOf, count_buckets}
use Rattle.persist_model.specs.Chain.{IsAbsent}
use Rattle.log_laws.proofs.Visits.{no_bucket_0}
use Rattle.log_laws.proofs.Visiting.{IsGoing, going_on, few_visited}
use Rattle.sound_check.specs.Walks.{GoesTo}

pub going_push : (shape : Shape) (p : ℕ) (w : Words) (visited later : List ℕ) (b : ℕ) → IsGoing (IsBucketOf shape p) w visited → GoesTo (IsBucketOf shape p) w visited b → later ≡ visited ++ b ∷ [] →
    IsGoing (IsBucketOf shape p) w later
going_push shape p w visited later b h k e =
    subst (IsGoing (IsBucketOf shape p) w) (sym (e ∙ ap (λ x. visited ++ x ∷ []) k.link))
    (going_on (IsBucketOf shape p) w visited (no_bucket_0 shape p) h k.uncut (subst (IsBucketOf shape p) k.link k.is_bucket) (subst (λ x. IsAbsent x visited) k.link k.fresh))

pub going_falls : (shape : Shape) (p : ℕ) (w : Words) (visited later : List ℕ) (b : ℕ) → IsGoing (IsBucketOf shape p) w visited → GoesTo (IsBucketOf shape p) w visited b → later ≡ visited ++ b ∷ [] →
    suc (count_buckets shape p) - length later < suc (count_buckets shape p) - length visited
going_falls shape p w visited later b h k e =
    let few = few_visited shape p w later (going_push shape p w visited later b h k e) in
    let long : length later ≡ length visited + 1 = ap length e ∙ length-append visited (b ∷ []) in omega (arith, few, long)
