use Rattle.std.proofs.Common.{◌≡◌, ⊎_elim, ℕ, ◌+◌, ◌<◌, List, length, refl, sym, ◌∙◌, ap, subst, arith, set}
use Rattle.std.proofs.lemmas.Bool.Decides.{eqb_tells}
use Rattle.std.proofs.lemmas.List.{get_or-set_same, get_or-set_other}
use Rattle.pooled_region.specs.declared.pool.Place.{Place}
use Rattle.pooled_region.specs.Pool.{no_place, next_of}
use Rattle.pooled_region.proofs.Freed.{all_free}
use Rattle.pooled_region.proofs.room.free_all.Goals as goal

linked_more : (places : List Place) (n : ℕ) (x : Place) → n < length places → x.next ≡ n + 1 → ((p : ℕ) → p < n → next_of places p ≡ p + 1) → (p : ℕ) → p < n + 1 → next_of (set places n x) p ≡ p + 1
linked_more places n x inside link links p lt = ⊎_elim
    (λ same. let e : p ≡ n = same.1 in
    subst (λ (k : ℕ). next_of (set places n x) k ≡ k + 1) (sym e) (ap (λ (q : Place). q.next) (get_or-set_same places n x no_place inside) ∙ link))
    (λ other. ap (λ (q : Place). q.next) (get_or-set_other places n p x no_place other.1) ∙ links p (omega (arith, lt, other.1)))
    (eqb_tells p n)

pub loop-place-preserved : goal.loop-place-preserved
loop-place-preserved c = linked_more c.loop-place.places c.loop-place.place _ (omega arith) refl c.loop-place.invariant

pub returns-clause-pooled : goal.returns-clause-pooled
returns-clause-pooled c = λ words bare. all_free _ words (λ p lt. c.loop-place.invariant p (omega arith)) (λ b. (bare b).0)
