use Rattle.std.proofs.Common.{◌∙◌, ap, inr, refl}
use Rattle.persist_model.specs.declared.event.Event.TheVariants.{PStore}
use Rattle.txn_state.specs.ReadLaws.{makes_events, appends_in}
use Rattle.txn_core.proofs.Facts.{few_lanes, is_book, owes_event}
use Rattle.txn_core.proofs.Calling.{is_calling}
use Rattle.txn_core.proofs.Ending.{made_pays, made_stops}
use Rattle.txn_core.proofs.Reading.{read_of}
use Rattle.txn_core.specs.Making.{changed_word}
use Rattle.txn_core.proofs.WritingWords.{word_below, word_inside, word_read, writes_it}
use Rattle.txn_core.proofs.WritingStores.{few_stored, paid_is_doing, few_paid, word_stored}
use Rattle.txn_core.proofs.writes.store_word.Goals as goal
use Rattle.txn_core.proofs.Exactly.{unblocked_own}
use Rattle.txn_core.proofs.ExactParts.{make_paid, make_stops, paid_answers}

pub changed-touched-requires : goal.changed-touched-requires
changed-touched-requires g c = word_inside _ (g.D.Device.cells c.args.device.now) c.args.a (g.met.D.Device.reads c.args.device.now)
    (word_below _ _ _ _ _ _ (g.D.Device.counts c.args.device.now) c.args.lane c.args.a c.args.v c.requires.lane c.requires.world (writes_it c.args.layout _ c.args.a c.args.v c.requires.doing) (inr c.requires.stage))

pub make-requires-clause-few : goal.make-requires-clause-few
make-requires-clause-few g c = few_lanes _ _ _ _ _ _ (g.D.Device.counts c.args.device.now) c.requires.world

pub make-requires-clause-address : goal.make-requires-clause-address
make-requires-clause-address g c =
    word_below _ _ _ _ _ _ (g.D.Device.counts c.args.device.now) c.args.lane c.args.a c.args.v c.requires.lane c.requires.world (writes_it c.args.layout _ c.args.a c.args.v c.requires.doing) (inr c.requires.stage)

pub make-requires-clause-owed : goal.make-requires-clause-owed
make-requires-clause-owed g c = (owes_event _ _ _ _ _ _ (g.D.Device.counts c.args.device.now) c.args.lane c.requires.lane (ap makes_events c.requires.stage) c.requires.world).0

pub make-requires-clause-spare : goal.make-requires-clause-spare
make-requires-clause-spare g c = (owes_event _ _ _ _ _ _ (g.D.Device.counts c.args.device.now) c.args.lane c.requires.lane (ap makes_events c.requires.stage) c.requires.world).1

pub make-requires-clause-book : goal.make-requires-clause-book
make-requires-clause-book g c = is_book _ _ _ _ _ _ (g.D.Device.counts c.args.device.now) c.requires.world

pub written-requires-clause-lane : goal.written-requires-clause-lane
written-requires-clause-lane g c = paid_is_doing c.args.book.now c.make.new.book c.args.lane c.args.a c.args.v c.requires.lane
    (made_pays _ _ _ (g.D.Device.counts c.args.device.now) (g.D.Device.counts c.make.new.device) _ _ _ _ _ c.in-Made.ensures.makes)
    (is_calling _ _ _ _ _ _ (g.D.Device.counts c.args.device.now) c.args.lane (ap makes_events c.requires.stage) c.requires.world) c.requires.doing c.make.ensures.book

pub written-requires-clause-few : goal.written-requires-clause-few
written-requires-clause-few g c = few_paid c.args.book.now c.make.new.book c.args.lane c.args.a c.args.v c.requires.lane
    (made_pays _ _ _ (g.D.Device.counts c.args.device.now) (g.D.Device.counts c.make.new.device) _ _ _ _ _ c.in-Made.ensures.makes)
    (few_stored _ _ _ _ _ _ _ (g.D.Device.counts c.args.device.now) c.args.lane
    (read_of _ _ (g.D.Device.counts c.args.device.now) (g.met.D.Device.reads c.args.device.now) (g.met.D.Device.full c.args.device.now) (g.met.D.Device.within c.args.device.now)
    (g.met.D.Device.budget_fits c.args.device.now)) c.requires.stage c.requires.world)

pub returns-in-Stopped-clause-steps : goal.returns-in-Stopped-clause-steps
returns-in-Stopped-clause-steps g c = made_stops g.E.Deed.meaning c.args.layout c.args.log.now (PStore c.args.a c.args.v) _ _ _ _ _ _ c.args.book.now c.make.new.book _ c.args.lane _ c.stop.ensures.result
    c.requires.lane c.in-Stopped.ensures.makes c.stop.ensures.is c.stop.ensures.step c.stop.ensures.book

pub returns-in-Made-clause-steps : goal.returns-in-Made-clause-steps
returns-in-Made-clause-steps g c =
    let pays = made_pays _ _ _ (g.D.Device.counts c.args.device.now) (g.D.Device.counts c.make.new.device) _ _ _ _ _ c.in-Made.ensures.makes in
    word_stored g.E.Deed.meaning c.args.layout c.args.book.now c.make.new.book _ c.args.log.now _ _ _ _ _ _ c.args.lane c.args.a c.args.v _ c.requires.lane c.requires.stage c.requires.doing pays
    (paid_is_doing c.args.book.now c.make.new.book c.args.lane c.args.a c.args.v c.requires.lane pays
    (is_calling _ _ _ _ _ _ (g.D.Device.counts c.args.device.now) c.args.lane (ap makes_events c.requires.stage) c.requires.world) c.requires.doing c.make.ensures.book)
    c.written.ensures.is c.written.result c.written.ensures.result c.requires.world c.written.ensures.book c.in-Made.ensures.makes c.written.ensures.step
    (c.changed-touched.ensures ∙ ap (λ n. changed_word n c.args.v c.args.a) (word_read _ (g.D.Device.cells c.args.device.now) c.args.a (g.met.D.Device.reads c.args.device.now)
    (word_below _ _ _ _ _ _ (g.D.Device.counts c.args.device.now) c.args.lane c.args.a c.args.v c.requires.lane c.requires.world (writes_it c.args.layout _ c.args.a c.args.v c.requires.doing) (inr c.requires.stage))))

pub returns-in-Stopped-clause-exact : goal.returns-in-Stopped-clause-exact
returns-in-Stopped-clause-exact g c = make_stops c.args.layout c.args.book.now c.make.new.book c.stop.new.self c.args.log.now _ _ _ (g.D.Device.counts c.args.device.now) (g.D.Device.counts c.make.new.device) _ _ c.args.lane _ c.stop.ensures.result c.requires.lane
    (unblocked_own c.args.layout c.args.book.now c.args.log.now c.args.lane (ap makes_events c.requires.stage) (ap appends_in c.requires.stage)) (ap makes_events c.requires.stage) c.in-Stopped.ensures.makes c.stop.ensures.is

pub returns-in-Made-clause-exact : goal.returns-in-Made-clause-exact
returns-in-Made-clause-exact g c = paid_answers c.args.layout c.args.book.now c.make.new.book c.written.new.self c.args.log.now (g.D.Device.counts c.args.device.now) (g.D.Device.counts c.make.new.device) c.args.lane _ _ _ _ c.written.ensures.result
    (make_paid c.args.layout c.args.book.now c.make.new.book c.args.log.now _ _ _ (g.D.Device.counts c.args.device.now) (g.D.Device.counts c.make.new.device) _ _ c.args.lane c.requires.lane (unblocked_own c.args.layout c.args.book.now c.args.log.now c.args.lane (ap makes_events c.requires.stage) (ap appends_in c.requires.stage))
    (owes_event _ _ _ _ _ _ (g.D.Device.counts c.args.device.now) c.args.lane c.requires.lane (ap makes_events c.requires.stage) c.requires.world).0 c.in-Made.ensures.makes)
    (ap makes_events c.requires.stage) (g.met.D.Device.within c.make.new.device) refl c.written.ensures.is
