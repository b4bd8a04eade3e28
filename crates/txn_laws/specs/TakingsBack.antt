-- The last event where a running transaction takes deletions back.
use Rattle.std.specs.Prelude.{◌≡◌, ℕ, if◌then◌else◌, List, [], ◌∷◌}
use Rattle.persist_model.specs.declared.event.Event.{Event}
use Rattle.persist_model.specs.Region.{Words, Region}
use Rattle.persist_model.specs.Shape.{Shape}
use Rattle.persist_model.specs.State.{State}
use Rattle.log_keeper.specs.Parts.{takes_back as drops_deletions, words_behind}
use Rattle.log_keeper.specs.Ledger.{is_in, left_open}
use Rattle.log_keeper.specs.Events.{IsLastEvent, region_made}
use Rattle.history_laws.specs.UnderWay.{takes_back}
use Rattle.txn_laws.specs.Txns.{Gift, Txn, txn_at}
use Rattle.txn_laws.specs.Worlds.{World, with_lane, IsWorldAt}
use Rattle.txn_laws.specs.Dropped.{dropped}
use Rattle.txn_laws.specs.Closings.{HasLeft}

-- the gifts whose deletions stand at none of these gates
abbrev pub gifts_left : List ℕ → List Gift → List Gift
gifts_left gates [] = []
gifts_left gates (g ∷ gifts) = if is_in gates g.gate then gifts_left gates gifts else g ∷ gifts_left gates gifts

abbrev pub with_gifts_left : List ℕ → Txn → Txn
with_gifts_left gates x = record x { gifts = gifts_left gates x.gifts }

abbrev pub world_taken : Shape → ℕ → List ℕ → World → World
world_taken shape p gates w = with_lane (w.keeping.holder p) (with_gifts_left gates (txn_at w.lanes (w.keeping.holder p))) (dropped shape p w)

-- The log has them no more, and the transaction doesn't give their words any more.
abbrev pub TakingsBackEnd : Type 0
TakingsBackEnd = (shape : Shape) (base : Words) (s : State) (chains : ℕ → List ℕ) (start : Words) (w : World) (region : Region) (p : ℕ) (e : Event) (gates : List ℕ) (made : ℕ) →
    w.under p ≡ takes_back gates made → IsLastEvent shape w.keeping p e (drops_deletions gates) → IsWorldAt shape base s chains start w region →
    HasLeft shape (words_behind shape p (drops_deletions gates) base) s chains start (world_taken shape p gates w) (region_made w.keeping p e region) (left_open gates [] [] s.log)
