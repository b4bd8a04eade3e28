-- How far the undo of many transactions has come.
use Rattle.std.specs.Prelude.{◌≡◌, ℕ, ◌+◌, ◌≤◌, List}
use Rattle.persist_model.specs.Region.{Region}
use Rattle.persist_model.specs.State.{State}
use Rattle.lane_traits.specs.declared.device.Done.TheVariants.{Made}
use Rattle.lane_traits.specs.Device.{Counts}
use Rattle.region_layout.specs.declared.layout.Layout.{Layout}
use Rattle.recovery_run.specs.Edges.{HasCounted}
use Rattle.recovery_analysis.specs.declared.grouping.Transaction.{Transaction}
use Rattle.recovery_undo.specs.declared.held.Held.{Held}
use Rattle.recovery_passes.specs.LoserPass.{Undoes, undo_all_events}

-- These are still to be undone; so many events were made, and with those for what is left they are the events of all.
pub record HasGoneOn (layout : Layout) (first : State) (total : ℕ) (all left : List Transaction) (held : Held) (region : Region)
    (counts later : Counts) (spare now : ℕ) : Type 0 where
  pub undoes : Undoes layout first total left held region
  pub used : ℕ
  pub counted : HasCounted used Made counts later
  pub left_is : used + undo_all_events layout first.log left ≡ undo_all_events layout first.log all
  pub spare_left : spare ≤ now + used
