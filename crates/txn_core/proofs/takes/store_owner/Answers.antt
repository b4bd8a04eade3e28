use Rattle.std.proofs.Common.{◌+◌, ap, refl, subst}
use Rattle.lane_traits.specs.declared.device.Done.TheVariants as Done
use Rattle.txn_core.specs.Making.{Makes}
use Rattle.persist_model.specs.declared.event.Event.TheVariants.{PStore}
use Rattle.txn_state.specs.ReadLaws.{makes_events, appends_in}
use Rattle.txn_core.proofs.Facts.{few_lanes, is_book, owes_event}
use Rattle.txn_core.proofs.Calling.{is_calling}
use Rattle.txn_core.proofs.Ending.{made_pays, made_stops}
use Rattle.txn_core.proofs.Reading.{read_of}
use Rattle.txn_core.proofs.WritingStores.{few_stored, few_paid}
use Rattle.txn_core.proofs.Taking.{paid_takes, owner_next, owner_stored, owner_below, stopped_inside}
use Rattle.txn_core.proofs.Exactly.{unblocked_own}
use Rattle.txn_core.proofs.ExactParts.{make_paid, make_stops, paid_answers}
use Rattle.txn_core.proofs.takes.store_owner.Goals as goal

pub make-requires-clause-few : goal.make-requires-clause-few
make-requires-clause-few g c = few_lanes _ _ _ _ _ _ (g.D.Device.counts c.args.device.now) c.requires.world

pub make-requires-clause-address : goal.make-requires-clause-address
make-requires-clause-address g c = owner_below g.E.Deed.meaning c.args.layout c.args.book.now c.args.log.now (g.D.Device.cells c.args.device.now) (g.D.Device.spare c.args.device.now)
    (g.D.Device.counts c.args.device.now) c.args.lane c.args.structure c.args.block _ c.requires.lane c.block-a.ensures c.requires.doing c.requires.stage c.requires.world

pub make-requires-clause-owed : goal.make-requires-clause-owed
make-requires-clause-owed g c = (owes_event _ _ _ _ _ _ (g.D.Device.counts c.args.device.now) c.args.lane c.requires.lane (ap makes_events c.requires.stage) c.requires.world).0

pub make-requires-clause-spare : goal.make-requires-clause-spare
make-requires-clause-spare g c = (owes_event _ _ _ _ _ _ (g.D.Device.counts c.args.device.now) c.args.lane c.requires.lane (ap makes_events c.requires.stage) c.requires.world).1

pub make-requires-clause-book : goal.make-requires-clause-book
make-requires-clause-book g c = is_book _ _ _ _ _ _ (g.D.Device.counts c.args.device.now) c.requires.world

pub stop-requires-clause-lane : goal.stop-requires-clause-lane
stop-requires-clause-lane g c = stopped_inside _ _ _ (g.D.Device.counts c.args.device.now) (g.D.Device.counts c.make.new.device) _ _ c.args.book.now c.make.new.book c.args.lane c.requires.lane c.in-Stopped.ensures.makes

pub taken-requires-clause-lane : goal.taken-requires-clause-lane
taken-requires-clause-lane g c = paid_takes c.args.book.now c.make.new.book c.args.lane c.args.structure c.args.block c.requires.lane
    (made_pays _ _ _ (g.D.Device.counts c.args.device.now) (g.D.Device.counts c.make.new.device) _ _ _ _ _ c.in-Made.ensures.makes)
    (is_calling _ _ _ _ _ _ (g.D.Device.counts c.args.device.now) c.args.lane (ap makes_events c.requires.stage) c.requires.world) c.requires.doing c.make.ensures.book

pub taken-requires-clause-next : goal.taken-requires-clause-next
taken-requires-clause-next g c = owner_next c.args.book.now c.make.new.book c.args.lane c.args.structure c.args.block c.block-a.result c.requires.lane
    (made_pays _ _ _ (g.D.Device.counts c.args.device.now) (g.D.Device.counts c.make.new.device) _ _ _ _ _ c.in-Made.ensures.makes)
    g.E.Deed.meaning c.args.layout c.args.log.now (g.D.Device.cells c.args.device.now) (g.D.Device.spare c.args.device.now) (g.D.Device.counts c.args.device.now) c.block-a.ensures c.requires.stage c.requires.doing c.requires.world

pub taken-requires-clause-few : goal.taken-requires-clause-few
taken-requires-clause-few g c = few_paid c.args.book.now c.make.new.book c.args.lane 0 0 c.requires.lane
    (made_pays _ _ _ (g.D.Device.counts c.args.device.now) (g.D.Device.counts c.make.new.device) _ _ _ _ _ c.in-Made.ensures.makes)
    (few_stored _ _ _ _ _ _ _ (g.D.Device.counts c.args.device.now) c.args.lane
    (read_of _ _ (g.D.Device.counts c.args.device.now) (g.met.D.Device.reads c.args.device.now) (g.met.D.Device.full c.args.device.now) (g.met.D.Device.within c.args.device.now)
    (g.met.D.Device.budget_fits c.args.device.now)) c.requires.stage c.requires.world)

pub returns-in-Stopped-clause-steps : goal.returns-in-Stopped-clause-steps
returns-in-Stopped-clause-steps g c = made_stops g.E.Deed.meaning c.args.layout c.args.log.now _ _ _ _ _ _ _ c.args.book.now c.make.new.book _ c.args.lane _ c.stop.ensures.result
    c.requires.lane c.in-Stopped.ensures.makes c.stop.ensures.is c.stop.ensures.step c.stop.ensures.book

pub returns-in-Made-clause-steps : goal.returns-in-Made-clause-steps
returns-in-Made-clause-steps g c =
    let pays = made_pays _ _ _ (g.D.Device.counts c.args.device.now) (g.D.Device.counts c.make.new.device) _ _ _ _ _ c.in-Made.ensures.makes in
    owner_stored g.E.Deed.meaning c.args.layout c.args.book.now c.make.new.book c.taken.new.self c.args.log.now _ _ _ _ (g.D.Device.counts c.args.device.now) (g.D.Device.counts c.make.new.device) c.args.lane c.args.structure c.args.block c.block-a.result
    c.requires.lane c.requires.stage c.requires.doing c.block-a.ensures pays
    (paid_takes c.args.book.now c.make.new.book c.args.lane c.args.structure c.args.block c.requires.lane pays
    (is_calling _ _ _ _ _ _ (g.D.Device.counts c.args.device.now) c.args.lane (ap makes_events c.requires.stage) c.requires.world) c.requires.doing c.make.ensures.book)
    c.taken.ensures.is c.taken.result c.taken.ensures.result c.taken.ensures.book
    (subst (λ n. Makes (PStore c.block-a.result n) (g.D.Device.cells c.args.device.now) (g.D.Device.cells c.make.new.device) (g.D.Device.counts c.args.device.now) (g.D.Device.counts c.make.new.device) (g.D.Device.spare c.args.device.now)
    (g.D.Device.spare c.make.new.device) c.args.book.now c.make.new.book c.args.lane Done.Made) (ap (λ n. n + 1) c.from.ensures) c.in-Made.ensures.makes) c.taken.ensures.step

pub returns-in-Stopped-clause-exact : goal.returns-in-Stopped-clause-exact
returns-in-Stopped-clause-exact g c = make_stops c.args.layout c.args.book.now c.make.new.book c.stop.new.self c.args.log.now _ _ _ (g.D.Device.counts c.args.device.now) (g.D.Device.counts c.make.new.device) _ _ c.args.lane _ c.stop.ensures.result c.requires.lane
    (unblocked_own c.args.layout c.args.book.now c.args.log.now c.args.lane (ap makes_events c.requires.stage) (ap appends_in c.requires.stage)) (ap makes_events c.requires.stage) c.in-Stopped.ensures.makes c.stop.ensures.is

pub returns-in-Made-clause-exact : goal.returns-in-Made-clause-exact
returns-in-Made-clause-exact g c = paid_answers c.args.layout c.args.book.now c.make.new.book c.taken.new.self c.args.log.now (g.D.Device.counts c.args.device.now) (g.D.Device.counts c.make.new.device) c.args.lane _ _ _ _ c.taken.ensures.result
    (make_paid c.args.layout c.args.book.now c.make.new.book c.args.log.now _ _ _ (g.D.Device.counts c.args.device.now) (g.D.Device.counts c.make.new.device) _ _ c.args.lane c.requires.lane (unblocked_own c.args.layout c.args.book.now c.args.log.now c.args.lane (ap makes_events c.requires.stage) (ap appends_in c.requires.stage))
    (owes_event _ _ _ _ _ _ (g.D.Device.counts c.args.device.now) c.args.lane c.requires.lane (ap makes_events c.requires.stage) c.requires.world).0 c.in-Made.ensures.makes)
    (ap makes_events c.requires.stage) (g.met.D.Device.within c.make.new.device) refl c.taken.ensures.is
