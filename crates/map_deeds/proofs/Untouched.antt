-- Commands leave the structures that they do not name.
use Rattle.std.proofs.Common.{◌≡◌, ◌≢◌, ⊎_elim, ℕ, zero, suc, ◌+◌, ◌==◌, Bool, true, false, List, [], ◌∷◌, ◌++◌, take, get_or, refl, sym, ◌∙◌, ap}
use Rattle.std.proofs.lemmas.Bool.Decides.{eqb_tells}
use Rattle.region_layout.specs.FiniteMap.{FiniteMap}
use Rattle.rewind_script.specs.declared.script.Command.{Command}
use Rattle.rewind_script.specs.declared.script.Command.TheVariants as command
use Rattle.map_deeds.specs.Maps.{Maps, State, begun, with_map, after_command, after_commands, after_transaction}
use Rattle.map_deeds.proofs.Restricting.{IsWithin, AreWithin}

module _ (picks : ℕ → Bool) (s : ℕ) (m : FiniteMap) (out : picks s ≡ false) where
  -- the contents of s are m in each of them
  abbrev AreStill : List Maps → Type 0
  AreStill [] = Unit {0}
  AreStill (maps ∷ saved) = (maps s ≡ m) × AreStill saved

  record IsStill (state : State) : Type 0 where
    now : state.maps s ≡ m
    saved_are : AreStill state.saved

  still_push : (saved : List Maps) (maps : Maps) → AreStill saved → maps s ≡ m → AreStill (saved ++ maps ∷ [])
  still_push [] maps h e = (e, tt)
  still_push (x ∷ saved) maps h e = (h.0, still_push saved maps h.1 e)

  still_get : (saved : List Maps) (n : ℕ) (maps : Maps) → AreStill saved → maps s ≡ m → get_or saved n maps s ≡ m
  still_get [] n maps h e = e
  still_get (x ∷ saved) zero maps h e = h.0
  still_get (x ∷ saved) (suc n) maps h e = still_get saved n maps h.1 e

  still_take : (n : ℕ) (saved : List Maps) → AreStill saved → AreStill (take n saved)
  still_take zero saved h = tt
  still_take (suc n) [] h = tt
  still_take (suc n) (x ∷ saved) h = (h.0, still_take n saved h.1)

  other_than : (t : ℕ) → picks t ≡ true → s ≢ t
  other_than t picked e = let clash : false ≡ true = sym out ∙ ap picks e ∙ picked in absurd cc

  still_put : (t : ℕ) (n : FiniteMap) (maps : Maps) → picks t ≡ true → maps s ≡ m → with_map t n maps s ≡ m
  still_put t n maps picked e = ⊎_elim
      (λ (same : ((s == t) ≡ true) × (s ≡ t)). absurd (other_than t picked same.1))
      (λ (other : ((s == t) ≡ false) × (s ≢ t)). rw other.0 e)
      (eqb_tells s t)

  step : (c : Command) (state : State) → IsWithin picks c → IsStill state → IsStill (after_command state c)
  step (command.Put t key value) state within h = record { now = still_put t _ state.maps within h.now; saved_are = h.saved_are }
  step (command.Del t key) state within h = record { now = still_put t _ state.maps within h.now; saved_are = h.saved_are }
  step (command.Get t key) state within h = h
  step command.Savepoint state within h = record { now = h.now; saved_are = still_push state.saved state.maps h.saved_are h.now }
  step (command.Rollback n) state within h = record {
    now = still_get state.saved n state.maps h.saved_are h.now;
    saved_are = still_take (n + 1) state.saved h.saved_are;
  }

  all_steps : (commands : List Command) (state : State) → AreWithin picks commands → IsStill state → IsStill (after_commands state commands)
  all_steps [] state within h = h
  all_steps (c ∷ commands) state within h = all_steps commands (after_command state c) within.1 (step c state within.0 h)

pub stays : (picks : ℕ → Bool) (s : ℕ) (commands : List Command) (maps : Maps) → picks s ≡ false → AreWithin picks commands
    → after_transaction maps commands s ≡ maps s
stays picks s commands maps out within = (all_steps picks s (maps s) out commands (begun maps) within (record { now = refl; saved_are = tt })).now
