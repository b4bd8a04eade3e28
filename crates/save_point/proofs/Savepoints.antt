-- A transaction that has gone back to a savepoint against what it was there.
use Rattle.std.proofs.Common.{◌≡◌, ◌≢◌, ◌⊎◌, inl, inr, ℕ, true, false, ◌==◌, [], ◌∷◌, refl, sym, ap, ◌∙◌}
use Rattle.std.proofs.lemmas.Bool.Decides.{eqb_tells}
use Rattle.persist_model.specs.Records.{Record, Log, IsAmong, Has, IsRunning}
use Rattle.persist_model.specs.Need.{to_undo}
use Rattle.persist_model.specs.Shape.{Shape, part_of}
use Rattle.persist_model.specs.State.{State, IsSoundState}
use Rattle.log_laws.proofs.Growing.{numbered}
use Rattle.log_laws.proofs.Stacks.{HasStack, has_stack, top_lsn, top_new, first_old}
use Rattle.save_point.specs.Ends.{top_number, BacksAreThere}

stack_of : (shape : Shape) (s : State) (t : ℕ) → IsSoundState shape s → IsRunning s.log t → HasStack t s.log
stack_of shape s t sound running = has_stack (part_of shape) t s.log s.log running (numbered (part_of shape) s.log s.log sound.order) sound.gates sound.order

top_is : (stack : Log) → top_lsn stack ≡ top_number stack
top_is [] = refl
top_is (u ∷ stack) = refl

-- a word that the stack names has its NEW from there
named_new : (a d e : ℕ) (stack : Log) → Has (λ u. u.word ≡ a) stack → top_new a d stack ≡ top_new a e stack
named_new a d e [] has = absurd has.1
named_new a d e (u ∷ stack) has = by (eqb_tells u.word a) has.1 (λ m. named_new a d e stack (has.0, m, has.2))
  where
    by : (((u.word == a) ≡ true) × (u.word ≡ a)) ⊎ (((u.word == a) ≡ false) × (u.word ≢ a)) → (has.0 ≡ u) ⊎ IsAmong stack has.0 →
        (IsAmong stack has.0 → top_new a d stack ≡ top_new a e stack) → top_new a d (u ∷ stack) ≡ top_new a e (u ∷ stack)
    by (inl is) m again = rw is.0 refl
    by (inr ne) (inl same) again = absurd (ne.1 (ap (λ (x : Record). x.word) (sym same) ∙ has.2))
    by (inr ne) (inr m) again = rw ne.0 (again m)

pub backs_are_there : BacksAreThere
backs_are_there = record {
  point = λ shape p t there before gates log sound running back.
      back.point ∙ sym ((stack_of shape there t sound running).point ∙ top_is (to_undo t there.log));
  last = λ shape p t there before gates y a d e sound running sound_y back named.
      (let now = stack_of shape y t sound_y back.going.running in
      let earlier = stack_of shape there t sound running in
      now.after a d ∙ ap (top_new a (first_old t a d y.log)) back.undo ∙
      named_new a (first_old t a d y.log) (first_old t a e there.log) (to_undo t there.log) named ∙ sym (earlier.after a e));
}
