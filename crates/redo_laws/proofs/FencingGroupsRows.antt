-- The gates of a group over all partitions, in a row.
use Rattle.std.proofs.Common.{◌≡◌, inl, inr, ℕ, ◌<◌, List, [], ◌∷◌, ◌++◌, length, refl, sym, ap, ◌∙◌, subst, arith}
use Rattle.std.proofs.lemmas.List.{take_all}
use Rattle.persist_model.specs.declared.event.Event.{Event}
use Rattle.persist_model.specs.declared.event.Event.TheVariants.{Fence}
use Rattle.persist_model.specs.Region.{Words}
use Rattle.persist_model.specs.Progress.{start, advance, advance_all}
use Rattle.persist_model.specs.Runs.{progress_at}
use Rattle.persist_model.specs.Records.{Log, IsAmong}
use Rattle.persist_model.specs.Shape.{Shape}
use Rattle.persist_model.proofs.Projecting.{advance_all-append}
use Rattle.bucket_log.specs.Words.{IsPartWord}
use Rattle.bucket_log.specs.PartWords.{AreOnPart}
use Rattle.log_clearing.specs.Plans.{closes, group}
use Rattle.log_clearing.specs.Closed.{AreGroups, IsListed}
use Rattle.log_clearing.specs.Clearing.{ClosingLeaves}
use Rattle.log_clearing.proofs.ClearingStates.{closings_end}
use Rattle.log_keeper.specs.Parts.{IsListedGate}
use Rattle.log_keeper.proofs.Progressing.{only_gates}
use Rattle.redo_laws.specs.Checkpoints.{Kind, of_others, of_ends, of_checkpoints, other_gates, end_gates, checkpoint_gates, Group, in_a_row}
use Rattle.redo_laws.specs.Stages.{IsGroup, all_gates, IsInGroup}
use Rattle.redo_laws.proofs.Reaching.{kind_plan, take_group, from_row}

-- ---- two of a closing's lists are empty

pub kind_among : (kind : Kind) (row : List ℕ) (a : ℕ) → IsAmong row a → IsListedGate (other_gates kind row) (end_gates kind row) (checkpoint_gates kind row) a
kind_among of_others row a m = inl m
kind_among of_ends row a m = inr (inl m)
kind_among of_checkpoints row a m = inr (inr m)

pub among_kind : (kind : Kind) (row : List ℕ) (a : ℕ) → IsListedGate (other_gates kind row) (end_gates kind row) (checkpoint_gates kind row) a → IsAmong row a
among_kind of_others row a on = elim on [ inl m ↦ m | inr k ↦ elim k [ inl m ↦ absurd m | inr m ↦ absurd m ] ]
among_kind of_ends row a on = elim on [ inl m ↦ absurd m | inr k ↦ elim k [ inl m ↦ m | inr m ↦ absurd m ] ]
among_kind of_checkpoints row a on = elim on [ inl m ↦ absurd m | inr k ↦ elim k [ inl m ↦ absurd m | inr m ↦ m ] ]

-- so a group is said of all of its gates
pub group_row : (shape : Shape) (g : Group) (log : Log) → IsGroup log (IsInGroup shape g) → IsGroup log (IsListed (all_gates shape g) [] [])
group_row shape g log of = record {
  ended = λ r m on. of.ended r m (kind_among g.kind (all_gates shape g) r.at (only_gates (all_gates shape g) r.at on));
  whole = λ e m on end r k own. inl (among_kind g.kind (all_gates shape g) r.at (of.whole e m (kind_among g.kind (all_gates shape g) e.at (only_gates (all_gates shape g) e.at on)) end r k own));
  skips = λ c m on check e k end lt r j own. inl (among_kind g.kind (all_gates shape g) r.at
      (of.skips c m (kind_among g.kind (all_gates shape g) c.at (only_gates (all_gates shape g) c.at on)) check e k end lt r j own));
}

-- what is of each partition's gates is so of the row
pub row_groups : (log : Log) (kind : Kind) (gates : ℕ → List ℕ) (n : ℕ) →
    ((p : ℕ) → p < n → AreGroups log (other_gates kind (gates p)) (end_gates kind (gates p)) (checkpoint_gates kind (gates p))) →
    AreGroups log (other_gates kind (in_a_row gates n)) (end_gates kind (in_a_row gates n)) (checkpoint_gates kind (in_a_row gates n))
row_groups log of_others gates n each = record {
  of_gates = λ a m. (let k = from_row gates n a m in (each k.0 k.1).of_gates a k.2);
  of_ends = λ a m. absurd m;
  of_checkpoints = λ a m. absurd m;
}
row_groups log of_ends gates n each = record {
  of_gates = λ a m. absurd m;
  of_ends = λ a m. (let k = from_row gates n a m in (each k.0 k.1).of_ends a k.2);
  of_checkpoints = λ a m. absurd m;
}
row_groups log of_checkpoints gates n each = record {
  of_gates = λ a m. absurd m;
  of_ends = λ a m. absurd m;
  of_checkpoints = λ a m. (let k = from_row gates n a m in (each k.0 k.1).of_checkpoints a k.2);
}

-- ---- a partition's group

on_closes : (shape : Shape) (p : ℕ) (gates : List ℕ) (es : List Event) (a : ℕ) → AreOnPart shape p (closes gates ++ es) → IsAmong gates a → IsPartWord shape p a
on_closes shape p [] es a on m = absurd m
on_closes shape p (b ∷ gates) es a on (inl e) = subst (IsPartWord shape p) (sym e) on.0
on_closes shape p (b ∷ gates) es a on (inr m) = on_closes shape p gates es a on.1 m

pub on_group : (shape : Shape) (p : ℕ) (gates : List ℕ) (a : ℕ) → AreOnPart shape p (group gates) → IsAmong gates a → IsPartWord shape p a
on_group shape p [] a on m = absurd m
on_group shape p (b ∷ gates) a on m = on_closes shape p (b ∷ gates) (Fence ∷ []) a on m

-- the fence behind all of its stores, also where there are none
pub fenced_group : (w : Words) (gates : List ℕ) → advance (progress_at w (group gates) (length gates)) Fence ≡ advance_all (start w) (group gates)
fenced_group w [] = refl
fenced_group w (a ∷ gates) =
    ap (λ es. advance (advance_all (start w) es) Fence)
    (take_group (length (a ∷ gates)) (a ∷ gates) (omega arith) ∙ ap closes (take_all (length (a ∷ gates)) (a ∷ gates) (omega arith)))
    ∙ sym (advance_all-append (start w) (closes (a ∷ gates)) (Fence ∷ []))

pub group_leaves : (w : Words) (gates : List ℕ) → ClosingLeaves w gates [] [] (advance_all (start w) (group gates))
group_leaves w gates = subst (λ es. ClosingLeaves w gates [] [] (advance_all (start w) es)) (kind_plan of_others gates) (closings_end w gates [] [])
