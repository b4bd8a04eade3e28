-- The buckets that are marked are those that were visited.
use Rattle.std.proofs.Common.{◌≡◌, ◌↔◌, ℕ, Bool, true, false, ◌==◌, ◌||◌, List, [], ◌∷◌, ◌++◌, refl, sym, ap, ◌∙◌, subst, arith}
use Rattle.std.specs.List.{list_any}
use Rattle.std.specs.Prelude.{if◌then◌else◌}
use Rattle.std.specs.Ordering.{is_eq, nat_cmp}
use Rattle.std.proofs.lemmas.Bool.Decides.{nat_tests}
use Rattle.std.proofs.lemmas.List.Folds.{list_any-append}
use Rattle.persist_model.specs.Records.{IsAmong}
use Rattle.sound_check.proofs.Asking.{any_item, item_any, equal_true}

pub marked_tells : (visited : List ℕ) (b : ℕ) (t : Bool) → t ≡ list_any (λ x. x == b) visited → (t ≡ true) ↔ IsAmong visited b
marked_tells visited b t e = (
  (λ on. let k = any_item (λ x. x == b) visited (sym e ∙ on) in subst (IsAmong visited) ((equal_true k.0 b).0 k.2) k.1),
  (λ m. e ∙ item_any (λ x. x == b) visited b m ((equal_true b b).1 refl)),
)

nat_at : (a b : ℕ) → is_eq (nat_cmp a b) ≡ (a == b)
nat_at a b = grind (arith, nat_tests)

either : (s t : Bool) → (if s then true else t) ≡ (t || (s || false))
either true true = refl
either true false = refl
either false true = refl
either false false = refl

pub marks_more : (before after : ℕ → Bool) (visited : List ℕ) (b : ℕ) → ((q : ℕ) → after q ≡ (if is_eq (nat_cmp b q) then true else before q)) → ((q : ℕ) → before q ≡ list_any (λ x. x == q) visited) →
    (q : ℕ) → after q ≡ list_any (λ x. x == q) (visited ++ b ∷ [])
marks_more before after visited b put old q =
    put q ∙ ap (λ s. if s then true else before q) (nat_at b q) ∙ ap (λ t. if b == q then true else t) (old q) ∙ either (b == q) (list_any (λ x. x == q) visited)
    ∙ sym (list_any-append (λ x. x == q) visited (b ∷ []))
