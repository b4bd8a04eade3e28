-- An image has one chain.
use Rattle.std.proofs.Common.{◌≡◌, ◌≢◌, inl, inr, ℕ, List, [], ◌∷◌, ◌++◌, refl, ap, sym, ◌∙◌, subst}
use Rattle.persist_model.specs.Region.{Words}
use Rattle.persist_model.specs.Chain.{HEAD, TO_APPEND, TO_REMOVE, IsAbsent, HasNoRepeats, last_or, without, Links, IsWalk, Chain}
use Rattle.atomic_list.proofs.Chains.{Each-last}
use Rattle.atomic_list.proofs.Splits.{HasNoRepeats-left}

whole_is_one : (w : Words) (from : ℕ) (xs ys : List ℕ) → Links w from xs 0 → Links w from ys 0 → xs ≡ ys
whole_is_one w from [] [] h k = refl
whole_is_one w from [] (y ∷ ys) h k = absurd (k.1 (sym k.0 ∙ h))
whole_is_one w from (x ∷ xs) [] h k = absurd (h.1 (sym h.0 ∙ k))
whole_is_one w from (x ∷ xs) (y ∷ ys) h k =
    let e : x ≡ y = sym h.0 ∙ k.0 in
    let rest : Links w x ys 0 = subst (λ z. Links w z ys 0) (sym e) k.2 in
    let same : xs ≡ ys = whole_is_one w x xs ys h.2 rest in cc

cut_is_one : (w : Words) (from d : ℕ) (xs ys : List ℕ) (a b : ℕ) → Links w from xs a → Links w from ys b → HasNoRepeats xs → HasNoRepeats ys →
    IsAbsent d xs → IsAbsent d ys → last_or d xs ≡ last_or d ys → xs ≡ ys
cut_is_one w from d [] [] a b h k u v p q e = refl
cut_is_one w from d [] (y ∷ ys) a b h k u v p q e = absurd (Each-last (λ z. d ≢ z) y ys q.0 q.1 e)
cut_is_one w from d (x ∷ xs) [] a b h k u v p q e = absurd (Each-last (λ z. d ≢ z) x xs p.0 p.1 (sym e))
cut_is_one w from d (x ∷ xs) (y ∷ ys) a b h k u v p q e =
    let s : x ≡ y = sym h.0 ∙ k.0 in
    let rest : Links w x ys b = subst (λ z. Links w z ys b) (sym s) k.2 in
    let off : IsAbsent x ys = subst (λ z. IsAbsent z ys) (sym s) v.0 in
    let last : last_or x xs ≡ last_or x ys = subst (λ z. last_or x xs ≡ last_or z ys) (sym s) e in
    let same : xs ≡ ys = cut_is_one w x x xs ys a b h.2 rest u.1 v.1 u.0 off last in cc

not_0 : (w : Words) (from : ℕ) (xs : List ℕ) (to : ℕ) → Links w from xs to → IsAbsent 0 xs
not_0 w from [] to h = tt
not_0 w from (x ∷ xs) to h = (λ e. h.1 (sym e), not_0 w x xs to h.2)

walk_is_one : (w : Words) (xs ys : List ℕ) → HasNoRepeats xs → HasNoRepeats ys → IsWalk w xs → IsWalk w ys → xs ≡ ys
walk_is_one w xs ys u v (inl h) (inl k) = whole_is_one w HEAD xs ys h.links k.links
walk_is_one w xs ys u v (inl h) (inr k) = absurd (k.to_append h.to_append)
walk_is_one w xs ys u v (inr h) (inl k) = absurd (h.to_append k.to_append)
walk_is_one w xs ys u v (inr h) (inr k) =
    let n = w TO_APPEND in
    let fronts : h.front ≡ k.front = cut_is_one w HEAD 0 h.front k.front h.beyond k.beyond h.links k.links
    (HasNoRepeats-left h.front (n ∷ []) (subst HasNoRepeats h.walk_is u)) (HasNoRepeats-left k.front (n ∷ []) (subst HasNoRepeats k.walk_is v))
    (not_0 w HEAD h.front h.beyond h.links) (not_0 w HEAD k.front k.beyond k.links) (h.ends ∙ sym k.ends) in
    h.walk_is ∙ ap (λ f. f ++ n ∷ []) fronts ∙ sym k.walk_is

pub chain_is_one : (w : Words) (xs ys : List ℕ) → Chain w xs → Chain w ys → xs ≡ ys
chain_is_one w xs ys h k =
    h.chain_is ∙ ap (without (w TO_REMOVE)) (walk_is_one w h.walk k.walk h.no_repeats k.no_repeats h.is_walk k.is_walk) ∙ sym k.chain_is
