-- What the stores of going back leave in the words, and the last parts as a closing.
use Rattle.std.proofs.Common.{◌≡◌, ◌≢◌, ◌⊎◌, inl, inr, ℕ, true, false, ◌==◌, if◌then◌else◌, List, [], ◌∷◌, ◌++◌, append-nil, refl, sym, ap, ◌∙◌}
use Rattle.std.proofs.lemmas.Bool.Decides.{eqb_tells}
use Rattle.persist_model.specs.declared.event.Event.TheVariants.{PStore, Fence}
use Rattle.region_layout.specs.declared.layout.Policy.TheVariants.{Force, NoForce}
use Rattle.log_clearing.specs.Plans.{closes, group}
use Rattle.plan_records.specs.declared.parts.Part.TheVariants.{Fence as Wait}
use Rattle.plan_records.specs.Sequences.{zero_parts}
use Rattle.plan_records.specs.Others.{word_events}
use Rattle.save_point.specs.Plans.{gate_parts, GatesAreClosed}
use Rattle.save_point.specs.Newest.{undone_value, written_value, StoresUndo, UndoingRestores}

zeros_close : (gates : List ℕ) → word_events (zero_parts gates ++ Wait ∷ []) ≡ closes gates ++ Fence ∷ []
zeros_close [] = refl
zeros_close (a ∷ gates) = ap (λ es. PStore a 0 ∷ es) (zeros_close gates)

all_close : (gates : List ℕ) → word_events (gate_parts gates) ≡ group gates
all_close [] = refl
all_close (a ∷ gates) = ap (λ es. PStore a 0 ∷ es) (zeros_close gates)

pub gates_are_closed : GatesAreClosed
gates_are_closed gates = all_close gates ∙ sym (append-nil (group gates))

pub stores_undo : StoresUndo
stores_undo policy [] a v = refl
stores_undo Force (u ∷ updates) a v = stores_undo Force updates a (if u.word == a then u.before else v)
stores_undo NoForce (u ∷ updates) a v = stores_undo NoForce updates a (if u.word == a then u.before else v)

-- ---- the writes since a savepoint

pub undoing_restores : UndoingRestores
undoing_restores [] before a are = refl
undoing_restores (u ∷ updates) before a are = ap (undone_value updates a) (by (eqb_tells u.word a)) ∙ undoing_restores updates before a are.1
  where
    by : (((u.word == a) ≡ true) × (u.word ≡ a)) ⊎ (((u.word == a) ≡ false) × (u.word ≢ a)) →
        (if u.word == a then u.before else (if u.word == a then u.after else written_value updates before a)) ≡ written_value updates before a
    by (inl same) = rw same.0 (are.0 ∙ ap (written_value updates before) same.1)
    by (inr ne) = rw ne.0 refl
