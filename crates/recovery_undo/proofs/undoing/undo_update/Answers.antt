use Rattle.std.proofs.Common.{◌≡◌, ◌+◌, ◌-◌, ◌∷◌, refl, sym, arith}
use Rattle.bucket_log.specs.Scans.{record_of_placed}
use Rattle.recovery_undo.proofs.Stepping.{passes_at}
use Rattle.recovery_undo.proofs.undoing.undo_update.Goals as goal

pub store_old-requires-clause-passes : goal.store_old-requires-clause-passes
store_old-requires-clause-passes g c =
    let at = c.requires.passes in
    let some : c.args.counter.now ≡ (c.args.counter.now - 1) + 1 = omega arith in
    (at.0, at.1, c.args.counter.now - 1, c.args.held.now, passes_at c.args.target at.0 (record_of_placed c.args.update.now ∷ at.1) c.args.counter.now _ c.args.held.now _ some at.2)

pub returns-then-counter-gt0-clause-made : goal.returns-then-counter-gt0-clause-made
returns-then-counter-gt0-clause-made g c = λ made start left h.
    let some : c.args.counter.now ≡ (c.args.counter.now - 1) + 1 = omega arith in
    c.store_old.ensures.made made start left (c.args.counter.now - 1) c.args.held.now
    (passes_at c.args.target start (record_of_placed c.args.update.now ∷ left) c.args.counter.now _ c.args.held.now _ some h)

pub returns-then-counter-gt0-clause-stopped : goal.returns-then-counter-gt0-clause-stopped
returns-then-counter-gt0-clause-stopped g c = λ stopped start left h.
    let some : c.args.counter.now ≡ (c.args.counter.now - 1) + 1 = omega arith in
    c.store_old.ensures.stopped stopped start left (c.args.counter.now - 1) c.args.held.now
    (passes_at c.args.target start (record_of_placed c.args.update.now ∷ left) c.args.counter.now _ c.args.held.now _ some h)

pub compensate-requires-clause-passes : goal.compensate-requires-clause-passes
compensate-requires-clause-passes g c =
    let at = c.requires.passes in
    let none : c.args.counter.now ≡ 0 = omega arith in
    (at.0, at.1, passes_at c.args.target at.0 (record_of_placed c.args.update.now ∷ at.1) c.args.counter.now 0 c.args.held.now _ none at.2)

pub store_old-requires-in-Made-clause-passes : goal.store_old-requires-in-Made-clause-passes
store_old-requires-in-Made-clause-passes g c =
    let at = c.requires.passes in
    let none : c.args.counter.now ≡ 0 = omega arith in (
      at.0,
      at.1,
      0,
      c.compensate.new.held,
      c.in-Made.ensures.made refl at.0 at.1
          (passes_at c.args.target at.0 (record_of_placed c.args.update.now ∷ at.1) c.args.counter.now 0 c.args.held.now _ none at.2),
    )

pub returns-in-Stopped-clause-stopped : goal.returns-in-Stopped-clause-stopped
returns-in-Stopped-clause-stopped g c = λ stopped start left h.
    let none : c.args.counter.now ≡ 0 = omega arith in
    c.in-Stopped.ensures.stopped refl start left (passes_at c.args.target start (record_of_placed c.args.update.now ∷ left) c.args.counter.now 0 c.args.held.now _ none h)

pub returns-in-Made-clause-made : goal.returns-in-Made-clause-made
returns-in-Made-clause-made g c = λ made start left h.
    let none : c.args.counter.now ≡ 0 = omega arith in
    passes_at c.args.target start left 0 c.args.counter.now c.compensate.new.held _ (sym none)
    (c.store_old-in-Made.ensures.made made start left 0 c.compensate.new.held
    (c.in-Made.ensures.made refl start left (passes_at c.args.target start (record_of_placed c.args.update.now ∷ left) c.args.counter.now 0 c.args.held.now _ none h)))

pub returns-in-Made-clause-stopped : goal.returns-in-Made-clause-stopped
returns-in-Made-clause-stopped g c = λ stopped start left h.
    let none : c.args.counter.now ≡ 0 = omega arith in
    c.store_old-in-Made.ensures.stopped stopped start left 0 c.compensate.new.held
    (c.in-Made.ensures.made refl start left (passes_at c.args.target start (record_of_placed c.args.update.now ∷ left) c.args.counter.now 0 c.args.held.now _ none h))
