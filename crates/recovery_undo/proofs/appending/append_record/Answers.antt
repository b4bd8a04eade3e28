use Rattle.std.proofs.Common.{refl}
use Rattle.bucket_log.specs.Plans.{place_address}
use Rattle.bucket_log.specs.States.{less_room}
use Rattle.recovery_undo.proofs.ChainsBehind.{knows_appended}
use Rattle.recovery_undo.proofs.Taking.{is_append, cell_taken, in_part, off_header, within, keeps_header, stays_quiet}
use Rattle.region_layout.specs.Cell.{record_of}
use Rattle.region_layout.specs.Layout.{layout_shape}
use Rattle.log_partition.specs.Used.{chains_in}
use Rattle.recovery_run.specs.Reached.{newest_at}
use Rattle.recovery_undo.proofs.appending.append_record.Goals as goal

pub append-requires-clause-within : goal.append-requires-clause-within
append-requires-clause-within g c =
    let at = c.requires.can in
    within c.args.layout c.args.p c.args.cell.now at.0 at.1 (g.D.Device.cells c.args.device.now) at.2 c.next_place-next.result c.next_place-next.ensures.takes

pub returns-in-Made-clause-next : goal.returns-in-Made-clause-next
returns-in-Made-clause-next g c = record { place = c.next_place-next.result; is_next = c.next_place-next.ensures.next; at_is = refl }

pub returns-in-Made-clause-part : goal.returns-in-Made-clause-part
returns-in-Made-clause-part g c =
    let at = c.requires.can in
    in_part c.args.layout c.args.p c.args.cell.now at.0 at.1 (g.D.Device.cells c.args.device.now) at.2 c.next_place-next.result c.next_place-next.ensures.takes

pub returns-in-Made-clause-takes_cell : goal.returns-in-Made-clause-takes_cell
returns-in-Made-clause-takes_cell g c = λ first y can.
    cell_taken c.args.layout c.args.p c.args.cell.now first y (g.D.Device.cells c.args.device.now) can c.next_place-next.result c.next_place-next.ensures.takes

pub returns-in-Made-clause-made : goal.returns-in-Made-clause-made
returns-in-Made-clause-made g c = λ first y can may.
    let region = g.D.Device.cells c.args.device.now in
    let place = c.next_place-next.result in
    let takes = c.next_place-next.ensures.takes in
    c.in-Made.ensures.made refl (layout_shape c.args.layout) first y (record_of (place_address place) c.args.cell.now) (less_room c.args.p y.room) can.reached
    (is_append c.args.layout c.args.p c.args.cell.now first y region can place takes) (off_header c.args.layout c.args.p c.args.cell.now first y region can place takes)
    (may (place_address place) (in_part c.args.layout c.args.p c.args.cell.now first y region can place takes))

pub returns-in-Made-clause-settled_made : goal.returns-in-Made-clause-settled_made
returns-in-Made-clause-settled_made g c = λ first y can settled steps.
    let region = g.D.Device.cells c.args.device.now in
    let place = c.next_place-next.result in
    let takes = c.next_place-next.ensures.takes in
    c.in-Made.ensures.settled_made refl (layout_shape c.args.layout) first y (record_of (place_address place) c.args.cell.now) (less_room c.args.p y.room) settled
    (is_append c.args.layout c.args.p c.args.cell.now first y region can place takes) (off_header c.args.layout c.args.p c.args.cell.now first y region can place takes)
    (steps (place_address place) (in_part c.args.layout c.args.p c.args.cell.now first y region can place takes))

pub returns-in-Made-clause-quiet : goal.returns-in-Made-clause-quiet
returns-in-Made-clause-quiet g c =
    let at = c.requires.can in
    stays_quiet c.args.layout c.args.p c.args.cell.now at.0 at.1 (g.D.Device.cells c.args.device.now) at.2 c.next_place-next.result c.next_place-next.ensures.takes
    (g.D.Device.cells c.append.new.device) (c.in-Made.ensures.cells refl) (g.met.D.Device.full c.append.new.device)

pub returns-in-Made-clause-header : goal.returns-in-Made-clause-header
returns-in-Made-clause-header g c =
    let at = c.requires.can in
    keeps_header c.args.layout c.args.p c.args.cell.now at.0 at.1 (g.D.Device.cells c.args.device.now) at.2 c.next_place-next.result c.next_place-next.ensures.takes
    (g.D.Device.cells c.append.new.device) c.append.ensures.aside

pub returns-in-Made-clause-table : goal.returns-in-Made-clause-table
returns-in-Made-clause-table g c =
    let at = c.requires.can in
    let region = g.D.Device.cells c.args.device.now in
    knows_appended c.args.layout c.args.p c.args.cell.now at.0 at.1 region at.2 c.next_place-next.result c.next_place-next.ensures.takes
    c.add_bucket.new.table (g.D.Device.cells c.append.new.device) (c.in-Made.ensures.cells refl)
    (c.add_bucket.ensures (chains_in (layout_shape c.args.layout) (newest_at region)) c.next_place-next.ensures.table)

pub returns-in-Stopped-clause-stopped : goal.returns-in-Stopped-clause-stopped
returns-in-Stopped-clause-stopped g c = λ same first y sound can may.
    let region = g.D.Device.cells c.args.device.now in
    let place = c.next_place-next.result in
    let takes = c.next_place-next.ensures.takes in
    c.in-Stopped.ensures.stopped refl (layout_shape c.args.layout) first y (record_of (place_address place) c.args.cell.now) (less_room c.args.p y.room) sound can.reached
    (is_append c.args.layout c.args.p c.args.cell.now first y region can place takes)
    (may (place_address place) (in_part c.args.layout c.args.p c.args.cell.now first y region can place takes))

pub returns-in-Stopped-clause-settled_stopped : goal.returns-in-Stopped-clause-settled_stopped
returns-in-Stopped-clause-settled_stopped g c = λ same first y sound can settled steps.
    let region = g.D.Device.cells c.args.device.now in
    let place = c.next_place-next.result in
    let takes = c.next_place-next.ensures.takes in
    c.in-Stopped.ensures.settled_stopped refl (layout_shape c.args.layout) first y (record_of (place_address place) c.args.cell.now) (less_room c.args.p y.room) sound settled
    (is_append c.args.layout c.args.p c.args.cell.now first y region can place takes)
    (steps (place_address place) (in_part c.args.layout c.args.p c.args.cell.now first y region can place takes))

pub returns-in-Stopped-clause-header : goal.returns-in-Stopped-clause-header
returns-in-Stopped-clause-header g c =
    let at = c.requires.can in
    keeps_header c.args.layout c.args.p c.args.cell.now at.0 at.1 (g.D.Device.cells c.args.device.now) at.2 c.next_place-next.result c.next_place-next.ensures.takes
    (g.D.Device.cells c.append.new.device) c.append.ensures.aside
