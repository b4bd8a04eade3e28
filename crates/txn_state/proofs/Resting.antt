-- A lane that has nothing under way.
use Rattle.std.proofs.Common.{◌≡◌, ◌≢◌, ℕ, ◌%◌, ◌<◌, ◌≤◌, if◌then◌else◌, List, length, sym, ap, ◌∙◌, subst, arith}
use Rattle.std.proofs.lemmas.Bool.{eq-eqb}
use Rattle.persist_model.specs.Region.{Words, Region}
use Rattle.persist_model.specs.Shape.{Shape}
use Rattle.persist_model.specs.State.{State}
use Rattle.log_keeper.specs.Parts.{Running}
use Rattle.history_laws.specs.UnderWay.{nothing, run_of}
use Rattle.txn_laws.specs.PartsOf.{IsResting}
use Rattle.txn_laws.specs.Worlds.{World, IsWorldAt}
use Rattle.txn_state.specs.Seen.{under_by}
use Rattle.txn_state.specs.Ties.{under_of, AreHeld}

-- what is under way in a partition is its holder's
pub held_under : (w : World) (p l : ℕ) → w.keeping.holder p ≡ l → under_by w p l ≡ w.under p
held_under w p l holds = ap (λ b. if b then w.under p else nothing) (eq-eqb (w.keeping.holder p) l holds)

-- no part of it is under way
pub resting_of : (shape : Shape) (base : Words) (s : State) (chains : ℕ → List ℕ) (start : Words) (w : World) (region : Region) (l : ℕ) → IsWorldAt shape base s chains start w region →
    AreHeld shape w → length w.lanes ≤ 16 → l < length w.lanes → under_of shape w l ≡ nothing → IsResting shape w.keeping l
resting_of shape base s chains start w region l world held few lt none p inside holds =
    ap (λ (x : Running). x.part) (world.parts p inside).run ∙ ap (λ u. (run_of u).part) nothing_here
  where
    held_by : w.keeping.holder p ≢ 17
    held_by e = let same = sym holds ∙ e in omega (arith, few, lt, same)

    here : l % shape.partitions ≡ p
    here = ap (λ k. k % shape.partitions) (sym holds) ∙ held.here p inside held_by

    nothing_here : w.under p ≡ nothing
    nothing_here = sym (held_under w p l holds) ∙ subst (λ q. under_by w q l ≡ nothing) here none
