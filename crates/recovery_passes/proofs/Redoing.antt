-- Values stored one behind the other.
use Rattle.std.proofs.Common.{◌≡◌, ℕ, zero, suc, ◌+◌, ◌<◌, ◌≤◌, ◌==◌, true, false, List, [], ◌∷◌, ◌++◌, length, take, get_or, refl, sym, ap, ◌∙◌, subst, arith}
use Rattle.std.proofs.lemmas.List.{take_more}
use Rattle.std.proofs.lemmas.Bool.Decides.{nat_tests}
use Rattle.persist_model.specs.Region.{Words, Region}
use Rattle.persist_model.specs.Shape.{Shape}
use Rattle.persist_model.specs.State.{State}
use Rattle.log_laws.specs.Recovering.{with_heap}
use Rattle.recovery_run.specs.Reached.{with_value, HasReached}
use Rattle.recovery_analysis.specs.declared.changing.Change.{Change}
use Rattle.recovery_analysis.specs.Changes.{stored}
use Rattle.persist_model.specs.Records.{IsAmong}
use Rattle.recovery_analysis.proofs.Lists.{among_at}

stored_push : (changes : List Change) (c : Change) (w : Words) → stored (changes ++ c ∷ []) w ≡ with_value (stored changes w) c.word c.value
stored_push [] c w = refl
stored_push (d ∷ changes) c w = stored_push changes c (with_value w d.word d.value)

pub stored_more : (changes : List Change) (i : ℕ) (d : Change) (w : Words) → i < length changes →
    stored (take (i + 1) changes) w ≡ with_value (stored (take i changes) w) (get_or changes i d).word (get_or changes i d).value
stored_more changes i d w lt = ap (λ xs. stored xs w) (take_more changes i d lt) ∙ stored_push (take i changes) (get_or changes i d) w

pub reached_more : (shape : Shape) (first y : State) (later : Region) (changes : List Change) (i : ℕ) (d : Change) → i < length changes →
    HasReached shape first (with_heap y (with_value (stored (take i changes) y.words) (get_or changes i d).word (get_or changes i d).value)) later →
    HasReached shape first (with_heap y (stored (take (i + 1) changes) y.words)) later
reached_more shape first y later changes i d lt h = subst (λ (w : Words). HasReached shape first (with_heap y w) later) (sym (stored_more changes i d y.words lt)) h

pub take_all : (changes : List Change) (i : ℕ) → length changes ≤ i → take i changes ≡ changes
take_all [] zero h = refl
take_all [] (suc i) h = refl
take_all (x ∷ changes) zero h = absurd (omega arith)
take_all (x ∷ changes) (suc i) h = ap (λ xs. x ∷ xs) (take_all changes i (omega arith))

pub word_below : (changes : List Change) (i : ℕ) (d : Change) (n m : ℕ) → i < length changes → m ≡ n → ((c : Change) → IsAmong changes c → c.word < n) → (get_or changes i d).word < m
word_below changes i d n m lt is each = subst (λ k. (get_or changes i d).word < k) (sym is) (each (get_or changes i d) (among_at changes i d lt))

pub no_changes : (changes : List Change) → (length changes == 0) ≡ true → changes ≡ []
no_changes [] e = refl
no_changes (c ∷ changes) e = let off = more (length changes) in absurd (cc)
  where
    more : (n : ℕ) → (suc n == 0) ≡ false
    more n = grind (arith, nat_tests)
