use Rattle.std.proofs.Common.{◌≡◌, ◌∙◌, ◌-◌, ◌≤◌, get_or, Some, None, ap, refl, subst, sym}
use Rattle.lane_book.specs.declared.lane.Lane.{Lane}
use Rattle.txn_core.proofs.Taking.{stopped_inside, paid_calling}
use Rattle.lane_book.specs.FacesOf.{lane_at}
use Rattle.lane_book.specs.Stores.{no_write}
use Rattle.lane_book.proofs.Faces.{lane_read}
use Rattle.txn_state.specs.ReadLaws.{makes_events, appends_in}
use Rattle.txn_core.proofs.Facts.{few_lanes, is_book, owes_event}
use Rattle.txn_core.specs.Making.{changed_word}
use Rattle.txn_core.proofs.Reading.{read_of}
use Rattle.txn_core.proofs.WritingWords.{word_read}
use Rattle.txn_core.proofs.Ending.{made_pays, made_stops}
use Rattle.txn_core.proofs.AbortingWords.{last_stored, last_read, finds_same, some_stored, read_below, read_fits, word_inside, word_seen, some_change, paid_undoes, paid_stored, taken_back_world}
use Rattle.txn_core.proofs.aborts.take_word_back.Goals.{After-as_slice}
use Rattle.txn_core.proofs.aborts.take_word_back.Goals as goal
use Rattle.txn_core.proofs.Exactly.{unblocked_own}
use Rattle.txn_core.proofs.ExactParts.{make_paid, make_stops, paid_moves}

lane_is : (g : _) (c : After-as_slice g) → c.index-kept.result.now ≡ lane_at c.args.book.now c.args.lane
lane_is g c = lane_read c.args.book.now c.args.lane c.index-kept.result.now c.requires.lane c.index-kept.ensures

write_is : (g : _) (c : After-as_slice g) → get_or c.as_slice.result.now (c.index-kept.result.now.stored - 1) no_write ≡ last_stored (lane_at c.args.book.now c.args.lane)
write_is g c = last_read (lane_at c.args.book.now c.args.lane) c.index-kept.result.now c.as_slice.result.now (lane_is g c) c.as_slice.ensures

pub offset_bounds-as_slice-kept : goal.offset_bounds-as_slice-kept
offset_bounds-as_slice-kept g c = read_fits _ _ c.args.book.now _ _ _ (g.D.Device.counts c.args.device.now) c.args.lane c.requires.lane c.requires.stage c.requires.world
    c.index-kept.result.now c.as_slice.result.now (lane_is g (goal.at.offset_bounds-as_slice-kept g c).After-as_slice) c.as_slice.ensures c.as_slice.type_inv.1

pub bounds-as_slice-kept : goal.bounds-as_slice-kept
bounds-as_slice-kept g c = read_below _ _ c.args.book.now _ _ _ (g.D.Device.counts c.args.device.now) c.args.lane c.requires.lane c.requires.stage c.requires.world
    c.index-kept.result.now c.as_slice.result.now (lane_is g (goal.at.bounds-as_slice-kept g c).After-as_slice) c.as_slice.ensures

pub stop-requires-clause-book : goal.stop-requires-clause-book
stop-requires-clause-book g c = is_book _ _ _ _ _ _ (g.D.Device.counts c.args.device.now) c.requires.world

pub returns-in_default : goal.returns-in_default
returns-in_default g c = let at = (goal.at.returns-in_default g c).After-as_slice in
    absurd (some_change _ _ c.args.book.now c.args.log.now _ _ (g.D.Device.counts c.args.device.now) c.args.lane c.requires.lane c.requires.stage c.requires.world
    (get_or c.as_slice.result.now (c.index-kept.result.now.stored - 1) no_write) (write_is g at)
    (finds_same c.args.log.now (lane_at c.args.book.now c.args.lane) c.index-kept.result.now _ _ None (lane_is g at) c.from.ensures c.in_default.ensures))

pub changed_data-touched-requires : goal.changed_data-touched-requires
changed_data-touched-requires g c = word_seen _ _ c.args.book.now _ _ _ (g.D.Device.counts c.args.device.now) c.args.lane c.requires.lane c.requires.stage c.requires.world _
    (get_or c.as_slice.result.now (c.index-kept.result.now.stored - 1) no_write)
    (read_of _ _ (g.D.Device.counts c.args.device.now) (g.met.D.Device.reads c.args.device.now) (g.met.D.Device.full c.args.device.now) (g.met.D.Device.within c.args.device.now)
    (g.met.D.Device.budget_fits c.args.device.now)) (write_is g (goal.at.changed_data-touched-requires g c).After-as_slice)

pub make-requires-clause-few : goal.make-requires-clause-few
make-requires-clause-few g c = few_lanes _ _ _ _ _ _ (g.D.Device.counts c.args.device.now) c.requires.world

pub make-requires-clause-address : goal.make-requires-clause-address
make-requires-clause-address g c = word_inside _ _ c.args.book.now _ _ _ (g.D.Device.counts c.args.device.now) c.args.lane c.requires.lane c.requires.stage c.requires.world
    (get_or c.as_slice.result.now (c.index-kept.result.now.stored - 1) no_write) (write_is g (goal.at.make-requires-clause-address g c).After-as_slice)

pub make-requires-clause-owed : goal.make-requires-clause-owed
make-requires-clause-owed g c =
    (owes_event _ _ _ _ _ _ (g.D.Device.counts c.args.device.now) c.args.lane c.requires.lane (ap makes_events c.requires.stage) c.requires.world).0

pub make-requires-clause-spare : goal.make-requires-clause-spare
make-requires-clause-spare g c =
    (owes_event _ _ _ _ _ _ (g.D.Device.counts c.args.device.now) c.args.lane c.requires.lane (ap makes_events c.requires.stage) c.requires.world).1

pub make-requires-clause-book : goal.make-requires-clause-book
make-requires-clause-book g c = is_book _ _ _ _ _ _ (g.D.Device.counts c.args.device.now) c.requires.world

pub word_taken_back-requires-clause-undoing : goal.word_taken_back-requires-clause-undoing
word_taken_back-requires-clause-undoing g c = paid_undoes c.args.book.now _ c.args.lane c.requires.lane
    (made_pays _ _ _ (g.D.Device.counts c.args.device.now) (g.D.Device.counts c.make.new.device) _ _ _ _ _ c.in-Made.ensures.makes) c.requires.stage

pub word_taken_back-requires-clause-some : goal.word_taken_back-requires-clause-some
word_taken_back-requires-clause-some g c = paid_stored c.args.book.now _ c.args.lane c.requires.lane
    (made_pays _ _ _ (g.D.Device.counts c.args.device.now) (g.D.Device.counts c.make.new.device) _ _ _ _ _ c.in-Made.ensures.makes)
    (some_stored _ _ c.args.book.now _ _ _ (g.D.Device.counts c.args.device.now) c.args.lane c.requires.lane c.requires.stage c.requires.world)

pub returns-in-Stopped-clause-steps : goal.returns-in-Stopped-clause-steps
returns-in-Stopped-clause-steps g c = made_stops g.E.Deed.meaning c.args.layout c.args.log.now _ _ _ _ _ _ _ c.args.book.now c.make.new.book _ c.args.lane _ c.stop-in-Stopped.ensures.result
    c.requires.lane c.in-Stopped.ensures.makes c.stop-in-Stopped.ensures.is c.stop-in-Stopped.ensures.step c.stop-in-Stopped.ensures.book

pub returns-in-Made-clause-steps : goal.returns-in-Made-clause-steps
returns-in-Made-clause-steps g c = let at = (goal.at.returns-in-Made-clause-steps g c).After-as_slice in
    taken_back_world g.E.Deed.meaning c.args.layout c.args.book.now c.make.new.book _ c.args.log.now _ _ _ _ (g.D.Device.counts c.args.device.now) (g.D.Device.counts c.make.new.device)
    c.args.lane _ _ (get_or c.as_slice.result.now (c.index-kept.result.now.stored - 1) no_write) _ _ c.word_taken_back.ensures.result c.requires.lane c.requires.stage (write_is g at)
    c.undo_part-next.ensures
    (finds_same c.args.log.now (lane_at c.args.book.now c.args.lane) c.index-kept.result.now _ _ (Some c.in-Some.v) (lane_is g at) c.from.ensures c.in-Some.ensures)
    c.in-Made.ensures.makes c.word_taken_back.ensures.moves
    (λ on. c.changed_data-touched.ensures.data_word on ∙ ap (λ n. changed_word n c.in-Some.v (get_or c.as_slice.result.now (c.index-kept.result.now.stored - 1) no_write).address)
    (word_read _ (g.D.Device.cells c.args.device.now) _ (g.met.D.Device.reads c.args.device.now)
    (word_inside _ _ c.args.book.now _ _ _ (g.D.Device.counts c.args.device.now) c.args.lane c.requires.lane c.requires.stage c.requires.world
    (get_or c.as_slice.result.now (c.index-kept.result.now.stored - 1) no_write) (write_is g at)))) c.changed_data-touched.ensures.owner

pub returns-in-Stopped-clause-exact : goal.returns-in-Stopped-clause-exact
returns-in-Stopped-clause-exact g c = make_stops c.args.layout c.args.book.now c.make.new.book c.stop-in-Stopped.new.self c.args.log.now _ _ _ (g.D.Device.counts c.args.device.now) (g.D.Device.counts c.make.new.device) _ _ c.args.lane _ c.stop-in-Stopped.ensures.result c.requires.lane
    (unblocked_own c.args.layout c.args.book.now c.args.log.now c.args.lane (ap makes_events c.requires.stage) (ap appends_in c.requires.stage)) (ap makes_events c.requires.stage) c.in-Stopped.ensures.makes c.stop-in-Stopped.ensures.is

pub returns-in-Made-clause-exact : goal.returns-in-Made-clause-exact
returns-in-Made-clause-exact g c = paid_moves g.E.Deed.meaning c.args.layout c.args.book.now c.make.new.book c.word_taken_back.new.self c.args.log.now (g.D.Device.counts c.args.device.now) (g.D.Device.counts c.make.new.device) c.args.lane _ _ _ c.word_taken_back.ensures.result
    (make_paid c.args.layout c.args.book.now c.make.new.book c.args.log.now _ _ _ (g.D.Device.counts c.args.device.now) (g.D.Device.counts c.make.new.device) _ _ c.args.lane c.requires.lane (unblocked_own c.args.layout c.args.book.now c.args.log.now c.args.lane (ap makes_events c.requires.stage) (ap appends_in c.requires.stage))
    (owes_event _ _ _ _ _ _ (g.D.Device.counts c.args.device.now) c.args.lane c.requires.lane (ap makes_events c.requires.stage) c.requires.world).0 c.in-Made.ensures.makes)
    (ap makes_events c.requires.stage) (g.met.D.Device.within c.make.new.device) refl refl c.word_taken_back.ensures.moves

pub overflow_sub-a : goal.overflow_sub-a
overflow_sub-a g c = subst (λ (x : Lane _). 1 ≤ x.stored) (sym (lane_is g (goal.at.overflow_sub-a g c).After-as_slice))
    (some_stored _ _ c.args.book.now _ _ _ (g.D.Device.counts c.args.device.now) c.args.lane c.requires.lane c.requires.stage c.requires.world)

pub stop-requires-in-Stopped-clause-lane : goal.stop-requires-in-Stopped-clause-lane
stop-requires-in-Stopped-clause-lane g c = stopped_inside _ _ _ (g.D.Device.counts c.args.device.now) (g.D.Device.counts c.make.new.device) _ _ c.args.book.now c.make.new.book c.args.lane c.requires.lane c.in-Stopped.ensures.makes

pub word_taken_back-requires-clause-lane : goal.word_taken_back-requires-clause-lane
word_taken_back-requires-clause-lane g c = paid_calling c.args.book.now c.make.new.book c.args.lane c.requires.lane
    (made_pays _ _ _ (g.D.Device.counts c.args.device.now) (g.D.Device.counts c.make.new.device) _ _ _ _ _ c.in-Made.ensures.makes) c.requires.calling c.make.ensures.book
