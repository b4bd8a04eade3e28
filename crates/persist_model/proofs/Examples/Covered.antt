-- Which values of a word are covered by later steps, on short lists of steps.
use Rattle.std.proofs.Common.{◌≡◌, inl, inr, ℕ, Bool, true, false, ◌==◌, ◌||◌, List, [], ◌∷◌, ◌++◌, refl, sym, ap, ◌∙◌, arith}
use Rattle.std.proofs.lemmas.Bool.Decides.{nat_tests}
use Rattle.persist_model.specs.declared.event.Event.TheVariants.{PStore, WriteBack, Fence}
use Rattle.persist_model.specs.Region.{loaded}
use Rattle.persist_model.specs.Law.{Step, Storing, WritingBack, Fencing, steps_of, IsCovered, Remains}
use Rattle.persist_model.proofs.Law.{candidates_remain}

-- a durable store is a store and a write back
steps : steps_of 1 ((0, PStore 1 7) ∷ (0, PStore 0 5) ∷ (2, Fence) ∷ []) ≡ Storing 7 ∷ WritingBack 0 ∷ Fencing 2 ∷ []
steps = refl

-- a store, its write back, and a fence of that lane
covered : IsCovered (Storing 7 ∷ WritingBack 0 ∷ Fencing 0 ∷ [])
covered = record { value = 7; lane = 0; before = []; between = []; until = []; rest = []; parts = refl; undisturbed = tt }

-- behind a store another lane may write the word back
covered_still : IsCovered (Storing 7 ∷ WritingBack 0 ∷ Storing 8 ∷ WritingBack 1 ∷ Fencing 0 ∷ [])
covered_still =
    record { value = 7; lane = 0; before = []; between = []; until = Storing 8 ∷ WritingBack 1 ∷ []; rest = []; parts = refl; undisturbed = tt }

-- ---- not covered

-- a store of this value is among the steps
abbrev stores : ℕ → List Step → Bool
stores v [] = false
stores v (Storing x ∷ steps) = (x == v) || stores v steps
stores v (WritingBack lane ∷ steps) = stores v steps
stores v (Fencing lane ∷ steps) = stores v steps

stores_or : (x y : Bool) → y ≡ true → (x || y) ≡ true
stores_or true y e = refl
stores_or false y e = e

stores-append : (v : ℕ) (before rest : List Step) → stores v (before ++ Storing v ∷ rest) ≡ true
stores-append v [] rest = let on : (v == v) ≡ true = grind (arith, nat_tests) in rw on refl
stores-append v (Storing x ∷ before) rest = stores_or (x == v) (stores v (before ++ Storing v ∷ rest)) (stores-append v before rest)
stores-append v (WritingBack lane ∷ before) rest = stores-append v before rest
stores-append v (Fencing lane ∷ before) rest = stores-append v before rest

-- where the first value remains and no step stores it, the steps don't cover it
first_uncovered : (first : ℕ) (steps : List Step) → stores first steps ≡ false → Remains first steps first → IsCovered steps → ⊥
first_uncovered first steps none (inl h) c = h.1 c
first_uncovered first steps none (inr h) c = clash (sym none ∙ ap (stores first) h.parts ∙ stores-append first h.before h.rest)
  where
    clash : false ≡ true → ⊥
    clash e = cc

-- the fence of another lane
other_fence : IsCovered (Storing 7 ∷ WritingBack 0 ∷ Fencing 1 ∷ []) → ⊥
other_fence = first_uncovered 0 (Storing 7 ∷ WritingBack 0 ∷ Fencing 1 ∷ []) refl
    ((candidates_remain (loaded (0 ∷ 0 ∷ [])) ((0, PStore 1 7) ∷ (1, Fence) ∷ []) 1 0 0 refl).0 (inl refl))

-- the store was written back by another lane since
taken_over : IsCovered (Storing 7 ∷ WritingBack 0 ∷ WritingBack 1 ∷ Fencing 0 ∷ []) → ⊥
taken_over = first_uncovered 0 (Storing 7 ∷ WritingBack 0 ∷ WritingBack 1 ∷ Fencing 0 ∷ []) refl
    ((candidates_remain (loaded (0 ∷ 0 ∷ [])) ((0, PStore 1 7) ∷ (1, WriteBack 1) ∷ (0, Fence) ∷ []) 1 0 0 refl).0 (inl refl))
