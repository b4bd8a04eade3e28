-- A list that grows by the standing of one block after another.
use Rattle.std.proofs.Common.{◌≡◌, ◌⊎◌, inl, inr, ℕ, ◌+◌, ◌<◌, List, [], ◌∷◌, ◌++◌, length, get_or, Some, sym, ap, ◌∙◌, arith, slice_get}
use Rattle.std.proofs.lemmas.Bool.Decides.{eqb_tells}
use Rattle.std.proofs.lemmas.Option.{slice_get-get_or}
use Rattle.std.proofs.Math.ListN.{get_or-append, length-append}
use Rattle.std.proofs.Math.Seq.{get_or-append_seam}
use Rattle.persist_model.specs.Region.{Words}
use Rattle.persist_model.specs.Shape.{Shape}
use Rattle.offset_alloc.specs.declared.Standing.{Standing}
use Rattle.offset_alloc.specs.Blocks.{standing_of}

-- the first n blocks stand as their owner words say
pub record AreFirst (shape : Shape) (w : Words) (n : ℕ) (blocks : List Standing) : Type 0 where
  pub count : length blocks ≡ n
  pub each : (k : ℕ) → k < n → slice_get blocks k ≡ Some (standing_of shape w k)

pub first_more : (shape : Shape) (w : Words) (n : ℕ) (blocks : List Standing) (s : Standing) → AreFirst shape w n blocks → s ≡ standing_of shape w n →
    AreFirst shape w (n + 1) (blocks ++ s ∷ [])
first_more shape w n blocks s h is = record {
  count = (let c = h.count in let l = length-append blocks (s ∷ []) in omega (arith, c, l));
  each = λ k lt. elim (less_or_same k n lt) [
    | inl less ↦ (
        let below : k < length blocks = (let c = h.count in omega (arith, c, less)) in
        let longer : k < length (blocks ++ s ∷ []) = (let l = length-append blocks (s ∷ []) in omega (arith, l, below)) in
        slice_get-get_or (blocks ++ s ∷ []) k s longer ∙ ap Some (get_or-append blocks (s ∷ []) s k below) ∙ sym (slice_get-get_or blocks k s below) ∙ h.each k less)
    | inr same ↦ (
        let at : k ≡ length blocks = same ∙ sym h.count in
        let longer : k < length (blocks ++ s ∷ []) = (let l = length-append blocks (s ∷ []) in omega (arith, l, at)) in
        slice_get-get_or (blocks ++ s ∷ []) k s longer ∙ ap Some (ap (λ j. get_or (blocks ++ s ∷ []) j s) at ∙ get_or-append_seam blocks s [] s) ∙ ap Some (is ∙ ap (standing_of shape w) (sym same)))
  ];
}
  where
    less_or_same : (k n : ℕ) → k < n + 1 → (k < n) ⊎ (k ≡ n)
    less_or_same k n lt = elim (eqb_tells k n) [ inl e ↦ inr e.1 | inr ne ↦ inl (let other = ne.1 in omega (arith, lt, other)) ]
