-- What a test tells of dirty words stays beside events on the log.
use Rattle.std.proofs.Common.{inl, inr, ℕ, Bool, arith}
use Rattle.persist_model.specs.declared.event.Event.{Event}
use Rattle.persist_model.specs.declared.event.Event.TheVariants.{Store, PStore, WriteBack, Fence}
use Rattle.persist_model.specs.Region.{Region, after}
use Rattle.persist_model.specs.Shape.{Shape, IsHeapWord}
use Rattle.noforce_policy.specs.Backed.{IsNoStoreTo}
use Rattle.noforce_policy.proofs.Sweeps.{sweeps_settle}
use Rattle.txn_laws.proofs.LogEvents.{IsLogEvent}
use Rattle.redo_laws.specs.Stages.{AreTold}

pub log_stores_none : (shape : Shape) (a : ℕ) (e : Event) → IsHeapWord shape a → IsLogEvent shape e → IsNoStoreTo a e
log_stores_none shape a (Store b v) m on = absurd on
log_stores_none shape a (PStore b v) m on = λ e. (let le = m.0 in omega (arith, le, e, on))
log_stores_none shape a (WriteBack b) m on = tt
log_stores_none shape a Fence m on = tt

pub told_beside : (shape : Shape) (dirty : ℕ → Bool) (region : Region) (by : ℕ) (e : Event) → ((a : ℕ) → IsHeapWord shape a → IsNoStoreTo a e) → AreTold shape dirty region →
    AreTold shape dirty (after region by e)
told_beside shape dirty region by e none told a m = elim (told a m) [ inl d ↦ inl d | inr one ↦ inr (sweeps_settle.stays region by a e (none a m) one) ]
