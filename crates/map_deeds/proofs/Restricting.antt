-- Commands on the structures of a set depend on these structures alone.
use Rattle.std.proofs.Common.{◌≡◌, ◌≢◌, ⊎_elim, ℕ, zero, suc, ◌+◌, ◌==◌, Bool, true, false, if◌then◌else◌, List, [], ◌∷◌, ◌++◌, map, take, get_or, refl, sym, ◌∙◌, ap}
use Rattle.std.proofs.lemmas.Bool.Decides.{eqb_tells}
use Rattle.region_layout.specs.FiniteMap.{FiniteMap, lookup, with_pair, without_key}
use Rattle.rewind_script.specs.declared.script.Command.{Command}
use Rattle.rewind_script.specs.declared.script.Command.TheVariants as command
use Rattle.map_deeds.specs.Maps.{Maps, State, begun, with_map, after_command, after_commands, after_transaction, reply, replies, replies_in}

-- a command names a structure that the test picks, or none
abbrev pub IsWithin : (ℕ → Bool) → Command → Type 0
IsWithin picks (command.Put s key value) = picks s ≡ true
IsWithin picks (command.Del s key) = picks s ≡ true
IsWithin picks (command.Get s key) = picks s ≡ true
IsWithin picks command.Savepoint = Unit {0}
IsWithin picks (command.Rollback n) = Unit {0}

abbrev pub AreWithin : (ℕ → Bool) → List Command → Type 0
AreWithin picks [] = Unit {0}
AreWithin picks (c ∷ commands) = IsWithin picks c × AreWithin picks commands

-- the contents of the structures that the test picks, and of the others nothing
abbrev pub restricted : (ℕ → Bool) → Maps → Maps
restricted picks maps = λ s. if picks s then maps s else []

abbrev pub restricted_state : (ℕ → Bool) → State → State
restricted_state picks state = record { maps = restricted picks state.maps; saved = map (restricted picks) state.saved }

picked_map : (t : Bool) (m n : FiniteMap) → t ≡ true → (if t then m else n) ≡ m
picked_map true m n e = refl
picked_map false m n e = absurd cc

module _ (picks : ℕ → Bool) where
  at_picked : (maps : Maps) (s : ℕ) → picks s ≡ true → restricted picks maps s ≡ maps s
  at_picked maps s picked = picked_map (picks s) (maps s) [] picked

  -- one of the structures has other contents
  changed_at : (maps : Maps) (s : ℕ) (m n : FiniteMap) → picks s ≡ true → n ≡ m → (t : ℕ)
      → with_map s n (restricted picks maps) t ≡ restricted picks (with_map s m maps) t
  changed_at maps s m n picked e t = ⊎_elim
      (λ (same : ((t == s) ≡ true) × (t ≡ s)).
      rw same.0 (e ∙ sym (picked_map (picks t) m [] (ap picks same.1 ∙ picked))))
      (λ (other : ((t == s) ≡ false) × (t ≢ s)). rw other.0 refl)
      (eqb_tells t s)

  changed : (maps : Maps) (s : ℕ) (m n : FiniteMap) → picks s ≡ true → n ≡ m
      → with_map s n (restricted picks maps) ≡ restricted picks (with_map s m maps)
  changed maps s m n picked e = λ i t. changed_at maps s m n picked e t i

  map_push : (xs : List Maps) (x : Maps) → map (restricted picks) xs ++ restricted picks x ∷ [] ≡ map (restricted picks) (xs ++ x ∷ [])
  map_push [] x = refl
  map_push (y ∷ xs) x = ap (λ ys. restricted picks y ∷ ys) (map_push xs x)

  map_get : (xs : List Maps) (n : ℕ) (d : Maps) → get_or (map (restricted picks) xs) n (restricted picks d) ≡ restricted picks (get_or xs n d)
  map_get [] n d = refl
  map_get (x ∷ xs) zero d = refl
  map_get (x ∷ xs) (suc n) d = map_get xs n d

  map_take : (n : ℕ) (xs : List Maps) → take n (map (restricted picks) xs) ≡ map (restricted picks) (take n xs)
  map_take zero xs = refl
  map_take (suc n) [] = refl
  map_take (suc n) (x ∷ xs) = ap (λ ys. restricted picks x ∷ ys) (map_take n xs)

  step : (c : Command) (state : State) → IsWithin picks c → after_command (restricted_state picks state) c ≡ restricted_state picks (after_command state c)
  step (command.Put s key value) state within =
      ap (λ maps. record { maps = maps; saved = map (restricted picks) state.saved })
      (changed state.maps s _ _ within (ap (with_pair key value) (at_picked state.maps s within)))
  step (command.Del s key) state within =
      ap (λ maps. record { maps = maps; saved = map (restricted picks) state.saved })
      (changed state.maps s _ _ within (ap (without_key key) (at_picked state.maps s within)))
  step (command.Get s key) state within = refl
  step command.Savepoint state within =
      ap (λ saved. record { maps = restricted picks state.maps; saved = saved }) (map_push state.saved state.maps)
  step (command.Rollback n) state within =
      λ i. record { maps = map_get state.saved n state.maps i; saved = map_take (n + 1) state.saved i }

  pub all_steps : (commands : List Command) (state : State) → AreWithin picks commands
      → after_commands (restricted_state picks state) commands ≡ restricted_state picks (after_commands state commands)
  all_steps [] state within = refl
  all_steps (c ∷ commands) state within =
      ap (λ z. after_commands z commands) (step c state within.0) ∙ all_steps commands (after_command state c) within.1

  one_reply : (c : Command) (maps : Maps) → IsWithin picks c → reply (restricted picks maps) c ≡ reply maps c
  one_reply (command.Put s key value) maps within = refl
  one_reply (command.Del s key) maps within = refl
  one_reply (command.Get s key) maps within = ap (lookup key) (at_picked maps s within)
  one_reply command.Savepoint maps within = refl
  one_reply (command.Rollback n) maps within = refl

  pub all_replies : (commands : List Command) (state : State) → AreWithin picks commands
      → replies (restricted_state picks state) commands ≡ replies state commands
  all_replies [] state within = refl
  all_replies (c ∷ commands) state within =
      λ i. one_reply c state.maps within.0 i ∷ (ap (λ z. replies z commands) (step c state within.0) ∙ all_replies commands (after_command state c) within.1) i

  -- ---- two contents that are the same in the picked structures

  restricted_at : (maps others : Maps) → ((s : ℕ) → picks s ≡ true → maps s ≡ others s) → (s : ℕ) (t : Bool) → picks s ≡ t
      → (if t then maps s else []) ≡ (if t then others s else [])
  restricted_at maps others same s true e = same s e
  restricted_at maps others same s false e = refl

  restricted_same : (maps others : Maps) → ((s : ℕ) → picks s ≡ true → maps s ≡ others s) → restricted picks maps ≡ restricted picks others
  restricted_same maps others same = λ i s. restricted_at maps others same s (picks s) refl i

  -- they have the same replies
  pub same_replies : (commands : List Command) (maps others : Maps) → AreWithin picks commands → ((s : ℕ) → picks s ≡ true → maps s ≡ others s)
      → replies_in maps commands ≡ replies_in others commands
  same_replies commands maps others within same =
      sym (all_replies commands (begun maps) within)
      ∙ ap (λ m. replies (begun m) commands) (restricted_same maps others same)
      ∙ all_replies commands (begun others) within

  same_restricted : (commands : List Command) (maps others : Maps) → AreWithin picks commands → ((s : ℕ) → picks s ≡ true → maps s ≡ others s)
      → restricted picks (after_transaction maps commands) ≡ restricted picks (after_transaction others commands)
  same_restricted commands maps others within same =
      ap (λ z. z.maps) (sym (all_steps commands (begun maps) within))
      ∙ ap (λ m. after_transaction m commands) (restricted_same maps others same)
      ∙ ap (λ z. z.maps) (all_steps commands (begun others) within)

  -- and leave the same in these structures
  pub same_after : (commands : List Command) (maps others : Maps) → AreWithin picks commands → ((s : ℕ) → picks s ≡ true → maps s ≡ others s)
      → (s : ℕ) → picks s ≡ true → after_transaction maps commands s ≡ after_transaction others commands s
  same_after commands maps others within same s picked =
      sym (at_picked (after_transaction maps commands) s picked)
      ∙ ap (λ m. m s) (same_restricted commands maps others within same)
      ∙ at_picked (after_transaction others commands) s picked
