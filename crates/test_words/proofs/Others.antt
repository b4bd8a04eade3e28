-- The list of blocks grows at its end.
use Rattle.std.proofs.Common.{⊎_elim, ℕ, ◌+◌, ◌*◌, ◌≤◌, List, [], ◌∷◌, ◌++◌, sym, subst, arith}
use Rattle.std.proofs.lemmas.Bool.Decides.{eqb_tells}
use Rattle.persist_model.specs.Records.{IsAmong}
use Rattle.lane_traits.proofs.Among.{among_last, among_front, among_end, once_more}
use Rattle.test_words.specs.Blocks.{AreOthers}

pub others_more : (n : ℕ) (found : List ℕ) → 1 ≤ n → AreOthers n found → AreOthers (n + 1) (found ++ (16 + 16 * n) ∷ [])
others_more n found some h = record {
  each = λ b among. ⊎_elim
      (λ k. let at = h.each b k in let lt = at.2 in (at.0, at.1, omega (arith, lt), at.3))
      (λ e. (n, omega (arith, some), omega arith, e))
      (among_last found (16 + 16 * n) b among);
  all = λ k pos lt. ⊎_elim
      (λ same. subst (λ j. IsAmong (found ++ (16 + 16 * n) ∷ []) (16 + 16 * j)) (sym same.1) (among_end found (16 + 16 * n)))
      (λ other. let ne = other.1 in among_front found (16 + 16 * n) (16 + 16 * k) (h.all k pos (omega (arith, lt, ne))))
      (eqb_tells k n);
  once = once_more found (16 + 16 * n) h.once (λ among. let at = h.each (16 + 16 * n) among in let lt = at.2 in let e = at.3 in omega (arith, lt, e));
}
