use Rattle.std.proofs.Common.{◌-◌, ◌<◌, ◌≤◌, ◌^◌, subst, sym, ap}
use Rattle.lane_book.specs.Lanes.{owing}
use Rattle.lane_book.specs.FacesOf.{lane_at}
use Rattle.lane_book.specs.Owed.{owed_events_in, owed_records_in}
use Rattle.log_keeper.specs.Keeper.{free_places}
use Rattle.txn_core.proofs.Memory.{exact, small_owed, stays_owing, stays_without}
use Rattle.txn_core.proofs.Paying.{goes_lane}
use Rattle.txn_core.proofs.ask_memory.take_memory.Goals as goal

pub returns-in-Ok-clause-stays : goal.returns-in-Ok-clause-stays
returns-in-Ok-clause-stays g c =
    let events = exact (owed_events_in c.owe.new.self) c.owed_events.result (2 ^ 64 - 1) c.owed_events.ensures c.in-Ok.ensures.small_events in
    let records = exact (owed_records_in c.owe.new.self) c.owed_records.result (2 ^ 64 - 1) c.owed_records.ensures c.in-Ok.ensures.small_records in
    stays_owing g.E.Deed.meaning c.args.book.now c.owe.new.self c.args.log.now c.reserve_all.new.log (g.D.Device.cells c.args.device.now) (g.D.Device.spare c.args.device.now) (g.D.Device.spare c.reserve_all.new.device) (g.D.Device.counts c.args.device.now) c.args.lane c.args.wants.events c.args.wants.records c.requires.lane c.owe.ensures.is c.owe.ensures.book
    c.reserve_all.ensures.log (subst (λ n. n ≤ g.D.Device.spare c.reserve_all.new.device) events c.in-Ok.ensures.events) (subst (λ n. n ≤ free_places c.reserve_all.new.log) records c.in-Ok.ensures.records)

pub returns-in-Ok-clause-small_events : goal.returns-in-Ok-clause-small_events
returns-in-Ok-clause-small_events g c =
    let goes = goes_lane c.args.book.now c.owe.new.self c.args.lane (owing c.args.wants.events c.args.wants.records (lane_at c.args.book.now c.args.lane)) c.args.book.now.touched c.requires.lane c.owe.ensures.is in
    small_owed (λ x. x.owed_events) c.owe.new.self c.args.lane c.args.wants.events c.owed_events.result (subst (λ n. c.args.lane < n) (sym goes.lanes.count) c.requires.lane)
    (ap (λ x. x.owed_events) goes.lanes.here) c.owed_events.ensures c.in-Ok.ensures.small_events

pub returns-in-Ok-clause-small_records : goal.returns-in-Ok-clause-small_records
returns-in-Ok-clause-small_records g c =
    let goes = goes_lane c.args.book.now c.owe.new.self c.args.lane (owing c.args.wants.events c.args.wants.records (lane_at c.args.book.now c.args.lane)) c.args.book.now.touched c.requires.lane c.owe.ensures.is in
    small_owed (λ x. x.owed_records) c.owe.new.self c.args.lane c.args.wants.records c.owed_records.result (subst (λ n. c.args.lane < n) (sym goes.lanes.count) c.requires.lane)
    (ap (λ x. x.owed_records) goes.lanes.here) c.owed_records.ensures c.in-Ok.ensures.small_records

pub returns-in-Err-clause-stays : goal.returns-in-Err-clause-stays
returns-in-Err-clause-stays g c =
    let goes = goes_lane c.args.book.now c.owe.new.self c.args.lane (owing c.args.wants.events c.args.wants.records (lane_at c.args.book.now c.args.lane)) c.args.book.now.touched c.requires.lane c.owe.ensures.is in
    stays_without g.E.Deed.meaning c.args.book.now c.owe.new.self c.owe-in-Err.new.self c.args.log.now c.reserve_all.new.log (g.D.Device.cells c.args.device.now) (g.D.Device.spare c.args.device.now) (g.D.Device.spare c.reserve_all.new.device) (g.D.Device.counts c.args.device.now) c.args.lane c.args.wants.events c.args.wants.records c.requires.lane
    (subst (λ n. c.args.lane < n) (sym goes.lanes.count) c.requires.lane) c.owe.ensures.is c.owe-in-Err.ensures.is c.owe-in-Err.ensures.book c.reserve_all.ensures.log c.reserve_all.ensures.spare

pub returns-in-Ok-clause-more : goal.returns-in-Ok-clause-more
returns-in-Ok-clause-more g c = record { stores = c.reserve_all.ensures.spare; places = c.reserve_all.ensures.log.places }

pub returns-in-Err-clause-more : goal.returns-in-Err-clause-more
returns-in-Err-clause-more g c = record { stores = c.reserve_all.ensures.spare; places = c.reserve_all.ensures.log.places }
