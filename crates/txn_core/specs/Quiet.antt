-- A step without an event.
use Rattle.std.specs.Prelude.{ℕ}
use Rattle.persist_model.specs.Region.{Region}
use Rattle.lane_traits.specs.Device.{Counts}
use Rattle.region_layout.specs.declared.layout.Layout.{Layout}
use Rattle.lane_types.specs.declared.call.Stepped.{Stepped}
use Rattle.lane_types.specs.Deeds.{Deeds}
use Rattle.lane_book.specs.declared.book.Book.{Book}
use Rattle.log_keeper.specs.declared.keeper.LogKeeper.{LogKeeper}
use Rattle.txn_core.specs.Stepping.{StepsWorld}

-- The device and the keeper are as they were.
abbrev pub KeepsWorld : {E : Type 0} → Deeds E → Layout → Book E → Book E → LogKeeper → Region → ℕ → Counts → ℕ → Stepped → Type 0
KeepsWorld deeds layout book later keeper region spare counts lane answer =
    StepsWorld deeds layout book later keeper keeper region region spare spare counts counts lane answer
