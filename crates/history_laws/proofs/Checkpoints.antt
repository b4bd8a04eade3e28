-- The parts of a checkpoint.
use Rattle.std.proofs.Common.{inl, inr, ℕ, List, [], subst}
use Rattle.persist_model.specs.Region.{Words}
use Rattle.persist_model.specs.Standing.{Stands}
use Rattle.persist_model.specs.Shape.{shape_of, IsShape}
use Rattle.persist_model.specs.State.{State}
use Rattle.log_clearing.specs.Clearing.{IsClearing}
use Rattle.log_clearing.proofs.ClearingStates.{closings_keep}
use Rattle.plan_records.specs.Appends.{Keeps, seen}
use Rattle.plan_records.proofs.Records.{checkpoints_keep}
use Rattle.history_laws.specs.Histories.{Entry, fold}
use Rattle.history_laws.specs.Stands.{StandsFor}
use Rattle.history_laws.specs.Checkpoints.{IsSettledFor, CheckpointsStand, CheckpointClosingsStand}
use Rattle.history_laws.proofs.Headers.{stands_for}

keeps_stand : (size : ℕ) (base : Words) (s : State) (start : Words) (history : List Entry) (i : Words) (y : State) → IsShape size base → IsSettledFor base s start history i →
    Keeps (shape_of base) i s y → StandsFor size start history [] i
keeps_stand size base s start history i y is settled k =
    stands_for size base i is settled.header start history [] (seen (shape_of base) i y) k.has k.sound (λ a m. k.standing a (fold start history a) (settled.standing a m))

pub checkpoints_stand : CheckpointsStand
checkpoints_stand size base s start history i chain place number made is settled may can swept reached =
    elim ((checkpoints_keep (shape_of base) 0 base s chain place number may can).images made i swept reached) [
      | inl k ↦ keeps_stand size base s start history i s is settled k
      | inr k ↦ keeps_stand size base s start history i _ is settled k
    ]

pub checkpoint_closings_stand : CheckpointClosingsStand
checkpoint_closings_stand size base s start history i gates ends checkpoints made is settled few has sound listed may reached = by (closings_keep (shape_of base) base i s gates ends checkpoints made few has sound listed may reached)
  where
    by : IsClearing (shape_of base) i s gates ends checkpoints → StandsFor size start history [] i
    by g = stands_for size base i is settled.header start history [] g.state g.has g.sound (λ a m.
        subst (λ ws. Stands (base 1) g.state.log ws a (fold start history a)) g.has.words (g.keeps a (fold start history a) (settled.standing a m)))
