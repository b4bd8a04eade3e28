-- The last event of a removal: the partition has the cells of a bucket more room, and nothing else is another.
use Rattle.std.specs.Prelude.{ℕ, List}
use Rattle.persist_model.specs.declared.event.Event.{Event}
use Rattle.persist_model.specs.Region.{Words, Region}
use Rattle.persist_model.specs.Shape.{Shape, heap_words}
use Rattle.persist_model.specs.State.{State}
use Rattle.atomic_list.specs.declared.plans.Remove.{Remove}
use Rattle.log_clearing.specs.Removals.{with_room, more_room}
use Rattle.log_keeper.specs.Parts.{drops as takes_out, words_behind}
use Rattle.log_keeper.specs.Making.{made_part}
use Rattle.log_keeper.specs.Logged.{with_chain}
use Rattle.log_keeper.specs.Events.{IsLastEvent, region_made}
use Rattle.history_laws.specs.UnderWay.{nothing}
use Rattle.txn_laws.specs.Going.{with_under}
use Rattle.txn_laws.specs.Worlds.{World, IsWorldAt}

abbrev pub dropped : Shape → ℕ → World → World
dropped shape p w = record w { keeping = made_part shape p w.keeping; under = with_under p nothing w.under }

abbrev pub RemovalsSettle : Type 0
RemovalsSettle = (shape : Shape) (base : Words) (s : State) (chains : ℕ → List ℕ) (start : Words) (w : World) (region : Region) (p : ℕ) (e : Event) (r : Remove) →
    IsLastEvent shape w.keeping p e (takes_out r) → IsWorldAt shape base s chains start w region →
    let later = words_behind shape p (takes_out r) base in
    (chain : List ℕ) × IsWorldAt shape later (with_room s (more_room p shape.cells s.room) (heap_words shape later)) (with_chain p chain chains) start (dropped shape p w)
    (region_made w.keeping p e region)
