use Rattle.std.proofs.Common.{◌≡◌, ◌-◌, [], ◌∷◌, map, reverse, take, get_or, refl, ap, arith}
use Rattle.bucket_log.specs.Scans.{record_of_placed}
use Rattle.recovery_undo.specs.UndoProgress.{Start, Passes, seen}
use Rattle.recovery_undo.proofs.Stepping.{no_placed, newest_of, passes_on}
use Rattle.recovery_undo.proofs.undoing.pass.Goals as goal

-- what is left to pass begins with the record at the index
begins_with : (g : _) (c : goal.After-turn-arg-in-loop-left-1 g) → reverse (map record_of_placed (take c.loop-left.left c.args.records.now))
    ≡ record_of_placed (get_or c.args.records.now (c.loop-left.left - 1) no_placed) ∷ reverse (map record_of_placed (take (c.loop-left.left - 1) c.args.records.now))
begins_with g c =
    let bound = c.loop-left.invariant.bound in
    let some = c.loop-left-test.true in
    newest_of c.args.records.now (c.loop-left.left - 1) c.loop-left.left no_placed (omega (arith, bound, some)) (omega (arith, some))

whole : (g : _) (c : goal.After-turn-arg-in-loop-left-1 g) (start : Start)
    → Passes c.args.target start (reverse (map record_of_placed c.args.records.now)) 0 c.args.held.now (seen (g.D.Device.cells c.args.device.now) (g.D.Device.counts c.args.device.now) (g.D.Device.spare c.args.device.now))
    → Passes c.args.target start (record_of_placed (get_or c.args.records.now (c.loop-left.left - 1) no_placed) ∷ reverse (map record_of_placed (take (c.loop-left.left - 1) c.args.records.now)))
    c.loop-left.counter c.loop-left.held (seen (g.D.Device.cells c.loop-left.device) (g.D.Device.counts c.loop-left.device) (g.D.Device.spare c.loop-left.device))
whole g c start h = passes_on c.args.target start (reverse (map record_of_placed (take c.loop-left.left c.args.records.now))) _ c.loop-left.counter c.loop-left.held _ (begins_with g c)
    (c.loop-left.invariant.so_far start h)

pub turn-requires-clause-passes : goal.turn-requires-clause-passes
turn-requires-clause-passes g c = (c.requires.0, reverse (map record_of_placed (take (c.loop-left.left - 1) c.args.records.now)), whole g c c.requires.0 c.requires.1)

pub returns-in-Stopped-clause-stopped : goal.returns-in-Stopped-clause-stopped
returns-in-Stopped-clause-stopped g c = λ same start h.
    let bound = c.loop-left.invariant.bound in
    let some = c.loop-left-test.true in
    let begins = newest_of c.args.records.now (c.loop-left.left - 1) c.loop-left.left no_placed (omega (arith, bound, some)) (omega (arith, some)) in
    c.in-Stopped.ensures.stopped refl start (reverse (map record_of_placed (take (c.loop-left.left - 1) c.args.records.now)))
    (passes_on c.args.target start (reverse (map record_of_placed (take c.loop-left.left c.args.records.now))) _ c.loop-left.counter c.loop-left.held _ begins (c.loop-left.invariant.so_far start h))

pub loop-left-preserved : goal.loop-left-preserved
loop-left-preserved g c =
    let bound = c.loop-left.invariant.bound in
    let some = c.loop-left-test.true in
    let counter = c.in-Made.ensures.counter in
    let begins = newest_of c.args.records.now (c.loop-left.left - 1) c.loop-left.left no_placed (omega (arith, bound, some)) (omega (arith, some)) in
    record {
      bound = omega (arith, bound, some, counter);
      so_far = λ start h. c.in-Made.ensures.made refl start (reverse (map record_of_placed (take (c.loop-left.left - 1) c.args.records.now)))
          (passes_on c.args.target start (reverse (map record_of_placed (take c.loop-left.left c.args.records.now))) _ c.loop-left.counter c.loop-left.held _ begins (c.loop-left.invariant.so_far start h));
    }

pub returns-clause-made : goal.returns-clause-made
returns-clause-made g c = λ same start h.
    let none : c.loop-left.left ≡ 0 = omega arith in (
      c.loop-left.counter,
      passes_on c.args.target start (reverse (map record_of_placed (take c.loop-left.left c.args.records.now))) [] c.loop-left.counter c.loop-left.held _
          (ap (λ n. reverse (map record_of_placed (take n c.args.records.now))) none) (c.loop-left.invariant.so_far start h),
    )
