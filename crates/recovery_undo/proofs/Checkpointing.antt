-- The checkpoint record may come where nothing runs, and then nothing is to be redone.
use Rattle.std.proofs.Common.{◌≡◌, inl, inr, ℕ, ◌+◌, ◌<◌, ◌≤◌, ◌^◌, [], ◌∷◌, ◌++◌, refl, sym, ap, ◌∙◌, subst, arith}
use Rattle.std.specs.Vec.{vec_len, vec_capacity}
use Rattle.persist_model.specs.Region.{Region}
use Rattle.persist_model.specs.Records.{Record, IsOf, IsCheckpoint}
use Rattle.persist_model.specs.Shape.{Shape, part_of}
use Rattle.persist_model.specs.ImageRecords.{IsWellFormed}
use Rattle.persist_model.specs.State.{State, IsSoundState}
use Rattle.log_laws.specs.Recovery.{Appends, Step, checkpoints, grown}
use Rattle.log_laws.proofs.Applying.{applied_checkpointed}
use Rattle.log_laws.proofs.Growing.{numbered, has_back}
use Rattle.log_laws.proofs.Keeping.{recovery_keeps, good_of}
use Rattle.region_layout.specs.declared.cell.Cell.{Cell}
use Rattle.region_layout.specs.declared.layout.Layout.{Layout}
use Rattle.region_layout.specs.Cell.{record_of}
use Rattle.region_layout.specs.Layout.{layout_shape}
use Rattle.bucket_log.specs.States.{less_room}
use Rattle.recovery_run.specs.Groups.{ListsAll}
use Rattle.recovery_run.specs.Reached.{HasSettled}
use Rattle.recovery_run.proofs.Reaching.{settled_reached, reached_sound}
use Rattle.recovery_undo.specs.declared.held.Held.{Held}
use Rattle.recovery_undo.specs.RecoveryAppends.{AreQuiet, CanTake, KnowsRegion, StepsTo, with_cell}
use Rattle.recovery_undo.specs.Checkpoint.{CanCheckpoint, IsCheckpointed}
use Rattle.recovery_undo.specs.Numbers.{next_lsn}
use Rattle.recovery_undo.specs.Records.{plain_record}
use Rattle.recovery_undo.proofs.Noting.{above_all, appends_here}
use Rattle.recovery_undo.proofs.Going.{next_fits, next_is_some, lists_checkpoint}

module _ (layout : Layout) (held : Held) (first y : State) (region : Region) (h : CanCheckpoint layout held first y region)
    (cell : Cell) (cell_is : (at : ℕ) → record_of at cell ≡ plain_record at held.next 0 5 0) (some : 0 < layout.partitions) where
  abbrev shape : Shape
  shape = layout_shape layout

  sound : IsSoundState shape y
  sound = (reached_sound shape first y region (settled_reached shape first y region h.settled) h.sound).0

  record_is : (at : ℕ) → record_of at cell ≡ plain_record at (next_lsn y.log) 0 5 0
  record_is at = cell_is at ∙ ap (λ n. plain_record at n 0 5 0) h.holds.next

  gate_is : cell.lsn ≡ next_lsn y.log
  gate_is = ap (λ (r : Record). r.lsn) (record_is 0)

  enough : 1 ≤ y.room 0
  enough = let k = (sound.room 0 some).checkpoint refl h.no_force h.opened in omega (arith, k)

  pub checkpoint_take : CanTake layout 0 cell first y region
  checkpoint_take = record {
    inside = some;
    reached = settled_reached shape first y region h.settled;
    quiet = h.quiet 0 some;
    room = enough;
    gate = λ none. next_is_some y.log (sym gate_is ∙ none);
    above = λ r m. (let lt = above_all y.log (good_of shape y sound).falls r m in let g = gate_is in omega (arith, lt, g));
  }

  pub checkpoint_next : held.next + 1 < 2 ^ 64
  checkpoint_next = let n = next_fits shape y sound h.opened.0 h.opened.1 in let e = h.holds.next in omega (arith, n, e)

  formed : (at : ℕ) → IsWellFormed shape (plain_record at (next_lsn y.log) 0 5 0)
  formed at = record {
    kind = (omega arith, omega arith);
    transaction = inl (refl, refl);
    change = λ k. elim k [ inl u ↦ absurd (omega (arith, u)) | inr u ↦ absurd (omega (arith, u)) ];
    deletion = λ d. absurd (omega (arith, d));
    outcome = inr ((omega arith), refl);
  }

  appends : (at : ℕ) → part_of shape at ≡ 0 → Appends shape y (plain_record at (next_lsn y.log) 0 5 0) (less_room 0 y.room)
  appends at here = appends_here shape 0 y (plain_record at (next_lsn y.log) 0 5 0) h.opened.0 (omega (arith, some)) sound h.opened.1 enough here refl (formed at)

  step : (at : ℕ) → part_of shape at ≡ 0 → Step shape y (grown y (plain_record at (next_lsn y.log) 0 5 0) (less_room 0 y.room))
  step at here = checkpoints (plain_record at (next_lsn y.log) 0 5 0) (less_room 0 y.room) (appends at here) refl here h.no_force h.opened h.over h.applied

  pub checkpoint_steps : StepsTo layout 0 cell y
  checkpoint_steps at here = subst (λ (r : Record). Step shape y (grown y r (less_room 0 y.room))) (sym (record_is at)) (step at here)

  pub checkpointed : (at : ℕ) → part_of (layout_shape layout) at ≡ 0 → (more : Held) (later : Region) → HasSettled (layout_shape layout) first (with_cell y 0 cell at) later → AreQuiet (layout_shape layout) later →
      KnowsRegion layout more.table later → more.next ≡ held.next + 1 →
      more.gates.checkpoints.items ≡ held.gates.checkpoints.items ++ at ∷ [] → vec_len more.gates.checkpoints ≡ vec_len held.gates.checkpoints + 1 →
      vec_capacity held.gates.checkpoints ≤ vec_capacity more.gates.checkpoints → more.gates.gates ≡ held.gates.gates → more.gates.ends ≡ held.gates.ends →
      IsCheckpointed layout held.gates first y more later
  checkpointed at here more later settled quiet knows raised items len memory same_gates same_ends =
      let c = record_of at cell in
      let five : IsCheckpoint c = ap (λ (r : Record). r.kind) (record_is at) in
      let taken = checkpoint_take in
      let after = (recovery_keeps shape y (grown y c (less_room 0 y.room)) sound (checkpoint_steps at here)).0 in
      let lists : ListsAll (c ∷ y.log) held.gates.gates.items held.gates.ends.items (held.gates.checkpoints.items ++ at ∷ []) =
      lists_checkpoint y.log c held.gates.gates.items held.gates.ends.items held.gates.checkpoints.items five h.holds.gates in
      record {
        checkpoint = c;
        is = five;
        above = taken.above;
        room = less_room 0 y.room;
        settled = settled;
        quiet = quiet;
        over = λ t l. h.over t (has_back (IsOf t) c y.log (λ k. k.1 five) l.0, λ e m end. l.1 e (inr m) end);
        applied = applied_checkpointed shape.policy y.log y.words c five taken.above (numbered (part_of shape) (c ∷ y.log) (c ∷ y.log) after.order) h.applied;
        redone = λ a r m k. (let e = has_back _ c y.log (λ q. (let four = q.0 in absurd (omega (arith, five, four)))) k.3 in k.4 (e.0, inr e.1, (e.2, (c, inl refl, (five, taken.above e.0 e.1)))));
        holds = record {
          next = (let n = h.holds.next in let g = gate_is in let both : held.next ≡ cell.lsn = n ∙ sym g in raised ∙ ap (λ m. m + 1) both);
          gates = subst (λ l. ListsAll (c ∷ y.log) more.gates.gates.items more.gates.ends.items l) (sym items)
              (subst (λ v. ListsAll (c ∷ y.log) v.items more.gates.ends.items (held.gates.checkpoints.items ++ at ∷ [])) (sym same_gates)
              (subst (λ v. ListsAll (c ∷ y.log) held.gates.gates.items v.items (held.gates.checkpoints.items ++ at ∷ [])) (sym same_ends) lists));
          table = knows;
        };
        same_gates = same_gates;
        same_ends = same_ends;
        len = len;
        memory = memory;
      }
