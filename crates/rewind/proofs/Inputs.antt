-- A step of reading the input.
use Rattle.std.proofs.Common.{◌≡◌, ℕ, ◌<◌, ◌≤◌, List, [], ◌∷◌, ◌++◌, length, take, get_or, refl, sym, ◌∙◌, ap, subst, Option, Some, None, IfSome, append_assoc, append-nil, arith}
use Rattle.lane_traits.specs.Stream.{Gives}
use Rattle.rewind.specs.Call.{Took, TookAll}

pub took_nothing : (left : Option (List ℕ)) → Took left [] left
took_nothing None = tt
took_nothing (Some bytes) = (bytes, refl, refl)

some_same : (a b : List ℕ) → Some a ≡ Some b → a ≡ b
some_same a b same = cc

pub took_more : (before mid after : Option (List ℕ)) (text buffer : List ℕ) (n : ℕ) → Took before text mid → IfSome mid (λ bytes. Gives n bytes buffer after)
    → Took before (text ++ take n buffer) after
took_more None mid after text buffer n so_far given = tt
took_more (Some bytes) mid after text buffer n so_far given =
    let now : Gives n so_far.0 buffer after = subst (λ (m : Option (List ℕ)). IfSome m (λ bytes. Gives n bytes buffer after)) so_far.2 given in (
      now.rest,
      so_far.1 ∙ ap (λ (rest : List ℕ). text ++ rest) now.whole ∙ sym (append_assoc text (take n buffer) now.rest),
      now.rest_left,
    )

pub took_all : (before mid after : Option (List ℕ)) (text buffer : List ℕ) → Took before text mid → IfSome mid (λ bytes. Gives 0 bytes buffer after) → TookAll before text after
took_all None mid after text buffer so_far given = tt
took_all (Some bytes) mid after text buffer so_far given =
    let now : Gives 0 so_far.0 buffer after = subst (λ (m : Option (List ℕ)). IfSome m (λ bytes. Gives 0 bytes buffer after)) so_far.2 given in
    let none : so_far.0 ≡ [] = now.at_end refl in
    let rest : now.rest ≡ [] = sym now.whole ∙ none in
    (so_far.1 ∙ ap (λ (r : List ℕ). text ++ r) none ∙ append-nil text, now.rest_left ∙ ap Some rest)

pub one_item : {X : Type 0} (xs : List X) (x : X) → 1 ≤ length xs → length xs < 2 → x ≡ get_or xs 0 x → xs ≡ x ∷ []
one_item [] x some short item = absurd (omega arith)
one_item (y ∷ []) x some short item = ap (λ z. z ∷ []) (sym item)
one_item (y ∷ z ∷ xs) x some short item = absurd (omega arith)

pub one_word : (a b : List ℕ) → a ∷ [] ≡ b ∷ [] → a ≡ b
one_word a b same = cc
