use Rattle.std.proofs.Common.{◌≡◌, ◌≤◌, ℕ, List, length, None, sym, ap, ◌∙◌, subst, arith}
use Rattle.persist_model.specs.Chain.{view}
use Rattle.persist_model.specs.Shape.{log_words, words_of_shape}
use Rattle.region_layout.specs.Layout.{layout_shape}
use Rattle.bucket_log.specs.Places.{IsNextPlace}
use Rattle.log_partition.specs.Used.{chains_in}
use Rattle.log_partition.specs.Views.{viewed}
use Rattle.recovery_run.specs.Reached.{newest_at}
use Rattle.recovery_undo.proofs.Places.{logs_of, log_part, least_seen, found_some, found_next, found_here, takes, place_below, place_in_part, has}
use Rattle.recovery_undo.proofs.appending.next_place.Goals as goal

pub new-view-requires-clause-words : goal.new-view-requires-clause-words
new-view-requires-clause-words g c =
    let at = c.requires.can in
    let long = (logs_of c.args.layout at.0 at.1 (g.D.Device.cells c.args.device.now) at.2).shape.enough in
    subst (λ (xs : List ℕ). 32 ≤ length xs) (sym (g.met.D.Device.reads c.args.device.now)) long

pub place_with-requires-clause-log : goal.place_with-requires-clause-log
place_with-requires-clause-log g c =
    let at = c.requires.can in
    log_part c.args.layout at.0 at.1 (g.D.Device.cells c.args.device.now) at.2 c.args.p c.requires.part _
    (c.new-view.ensures ∙ ap (viewed c.args.p) (g.met.D.Device.reads c.args.device.now)) c.part.result c.part.ensures None

pub place_with-requires-clause-least : goal.place_with-requires-clause-least
place_with-requires-clause-least g c =
    let at = c.requires.can in
    let chains = chains_in (layout_shape c.args.layout) (newest_at (g.D.Device.cells c.args.device.now)) in
    least_seen c.args.layout at.0 at.1 (g.D.Device.cells c.args.device.now) at.2 c.args.p c.requires.part _
    (c.new-view.ensures ∙ ap (viewed c.args.p) (g.met.D.Device.reads c.args.device.now)) c.part.result c.part.ensures None c.least-least.result
    (c.least-least.ensures.least chains c.part.result c.requires.table c.part.ensures)

pub unreachable-requires : goal.unreachable-requires
unreachable-requires g c =
    let at = c.requires.can in
    found_some c.args.layout at.0 at.1 (g.D.Device.cells c.args.device.now) at.2 c.args.p c.requires.part _
    (c.new-view.ensures ∙ ap (viewed c.args.p) (g.met.D.Device.reads c.args.device.now)) c.part.result c.part.ensures c.place_with.result c.place_with.ensures.none at.3 c.in-None.is

next_is : (g : _) (c : goal.In-Some g) → IsNextPlace (layout_shape c.args.layout) c.args.p (view c.args.p (log_words (layout_shape c.args.layout) (newest_at (g.D.Device.cells c.args.device.now))))
    ((has c.args.layout c.requires.can.0 c.requires.can.1 (g.D.Device.cells c.args.device.now) c.requires.can.2).chains c.args.p) c.in-Some.found
next_is g c =
    let at = c.requires.can in
    found_next c.args.layout at.0 at.1 (g.D.Device.cells c.args.device.now) at.2 c.args.p c.requires.part _
    (c.new-view.ensures ∙ ap (viewed c.args.p) (g.met.D.Device.reads c.args.device.now)) c.part.result c.part.ensures None c.in-Some.found c.in-Some.ensures.next

pub returns-clause-takes : goal.returns-clause-takes
returns-clause-takes g c = λ quiet.
    let at = c.requires.can in
    takes c.args.layout at.0 at.1 (g.D.Device.cells c.args.device.now) at.2 c.args.p c.requires.part c.in-Some.found (next_is g c) quiet

pub returns-clause-bucket : goal.returns-clause-bucket
returns-clause-bucket g c =
    let at = c.requires.can in
    let below = place_below c.args.layout at.0 at.1 (g.D.Device.cells c.args.device.now) at.2 c.args.p c.requires.part c.in-Some.found (next_is g c) in
    let size : (g.D.Device.cells c.args.device.now).size ≡ words_of_shape (layout_shape c.args.layout) = at.2.come.size in
    let small = g.met.D.Device.small c.args.device.now in
    omega (arith, below, size, small)

pub returns-clause-below : goal.returns-clause-below
returns-clause-below g c = let next = next_is g c in next.below

pub returns-clause-in_part : goal.returns-clause-in_part
returns-clause-in_part g c =
    let at = c.requires.can in
    place_in_part c.args.layout at.0 at.1 (g.D.Device.cells c.args.device.now) at.2 c.args.p c.requires.part c.in-Some.found (next_is g c)

pub returns-clause-table : goal.returns-clause-table
returns-clause-table g c = c.least-least.ensures.knows (chains_in (layout_shape c.args.layout) (newest_at (g.D.Device.cells c.args.device.now))) c.requires.table

pub returns-clause-next : goal.returns-clause-next
returns-clause-next g c =
    let at = c.requires.can in
    found_here c.args.layout at.0 at.1 (g.D.Device.cells c.args.device.now) at.2 c.args.p c.requires.part _
    (c.new-view.ensures ∙ ap (viewed c.args.p) (g.met.D.Device.reads c.args.device.now)) c.part.result c.part.ensures None c.in-Some.found c.in-Some.ensures.next
