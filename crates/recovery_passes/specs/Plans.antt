-- What a recovery is to do, and what is known of it.
use Rattle.std.specs.Prelude.{ℕ, Bool, List}
use Rattle.persist_model.specs.Region.{Region}
use Rattle.persist_model.specs.State.{State, IsSoundState}
use Rattle.region_layout.specs.declared.layout.Layout.{Layout}
use Rattle.region_layout.specs.Layout.{layout_shape}
use Rattle.log_partition.specs.Used.{FitsBuckets}
use Rattle.recovery_run.specs.Reached.{HasSettled}
use Rattle.recovery_undo.specs.declared.held.Held.{Held}
use Rattle.recovery_analysis.specs.declared.changing.Change.{Change}
use Rattle.recovery_analysis.specs.declared.grouping.Transaction.{Transaction}
use Rattle.recovery_analysis.specs.Works.{IsWorkOf}

-- Recovery begins with the sound state first in a settled region, and this is its work.
pub record IsPlanned (layout : Layout) (first : State) (redo : List Change) (running : List Transaction) (checkpoint : Bool) (held : Held) (most : ℕ) (region : Region) : Type 0 where
  pub settled : HasSettled (layout_shape layout) first first region
  pub sound : IsSoundState (layout_shape layout) first
  pub fits : FitsBuckets (layout_shape layout) held.table
  pub winners : List ℕ
  pub losers : List ℕ
  pub work : IsWorkOf (layout_shape layout) first.log (record { winners = winners; losers = losers; redo = redo; undo = running; checkpoint = checkpoint; gates = held.gates; next = held.next; most = most })
