use Rattle.std.proofs.Common.{◌≤◌, ◌∙◌, ap, sym, subst}
use Rattle.lane_book.specs.declared.book.Book.{Book}
use Rattle.lane_book.specs.declared.lane.Lane.{Lane}
use Rattle.lane_book.specs.Calls.{IsCalling}
use Rattle.txn_core.specs.Advancing.{runs}
use Rattle.txn_core.proofs.Latching.{begun_lane, begun_count, begun_slots}
use Rattle.txn_core.proofs.Advanced.{waits_same, append_waits}
use Rattle.txn_core.proofs.advancing.append.Goals as goal

pub wait-requires : goal.wait-requires
wait-requires g c = subst (λ (b : Book _). IsCalling b c.args.lane) (sym (waits_same g.E.Deed.meaning c.args.layout _ _ _ (g.D.Device.cells c.args.device.now) (g.D.Device.counts c.args.device.now) (g.D.Device.spare c.args.device.now) c.args.book.now _ c.args.book.now c.args.lane _ _ c.in-Some.ensures.begins))
    (record { inside = c.requires.can.lane; calling = c.requires.calling; kept = c.requires.book })

pub returns-in-Some-clause-appends : goal.returns-in-Some-clause-appends
returns-in-Some-clause-appends g c = append_waits _ _ _ _ _ _ _ _ _ c.begin.new.book _ _ _ c.in-Some.holder c.wait.result c.wait.ensures.result c.in-Some.ensures.begins c.wait.ensures.moves

pub advance-requires-clause-few : goal.advance-requires-clause-few
advance-requires-clause-few g c = subst (λ n. n ≤ 16) (sym (begun_count c.args.layout c.args.book.now _ c.args.log.now c.begin.new.log _ c.args.lane c.args.cell c.requires.can.lane c.in_default.ensures.begins)) c.requires.few

pub advance-requires-clause-slots : goal.advance-requires-clause-slots
advance-requires-clause-slots g c = begun_slots c.args.layout c.args.book.now c.begin.new.book c.args.log.now _ _ c.args.lane c.args.cell c.requires.can.lane c.in_default.ensures.begins ∙ c.requires.can.slots

pub advance-requires-clause-calling : goal.advance-requires-clause-calling
advance-requires-clause-calling g c =
    ap (λ (x : Lane _). x.phase) (begun_lane c.args.layout c.args.book.now c.begin.new.book c.args.log.now c.begin.new.log _ c.args.lane c.args.cell c.requires.can.lane c.in_default.ensures.begins).2 ∙ c.requires.calling

pub returns-clause-appends : goal.returns-clause-appends
returns-clause-appends g c = runs c.begin.new.log c.begin.new.book c.in_default.ensures.begins c.advance.ensures.advances
