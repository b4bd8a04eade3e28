use Rattle.std.proofs.Common.{◌∙◌, ◌≤◌, ap, sym, subst}
use Rattle.lane_book.specs.declared.lane.Lane.{Lane}
use Rattle.lane_book.specs.Lanes.{paid_event, with_lane}
use Rattle.lane_book.proofs.Faces.{lane_read}
use Rattle.lane_book.proofs.Owing.{owing_keeps, owing_faces, owing_reserves}
use Rattle.lane_book.proofs.book.Book.pay_event.Goals as goal

pub pay_event-requires : goal.pay_event-requires
pay_event-requires g c =
    subst (λ (x : Lane _). 1 ≤ x.owed_events)
    (sym (lane_read c.args.self.now c.args.lane c.index_mut.result.now c.requires.lane c.index_mut.ensures.value)) c.requires.owed

pub returns-clause-is : goal.returns-clause-is
returns-clause-is g c =
    let book = c.args.self.now in
    ap (λ (x : Lane _). with_lane book c.args.lane x book.touched)
    (c.pay_event.ensures ∙ ap (λ (x : Lane _). paid_event x) (lane_read book c.args.lane c.index_mut.result.now c.requires.lane c.index_mut.ensures.value))

pub returns-clause-faces : goal.returns-clause-faces
returns-clause-faces g c = owing_faces c.args.self.now _ c.args.lane _ _ c.requires.lane (returns-clause-is g c)

pub returns-clause-reserved : goal.returns-clause-reserved
returns-clause-reserved g c = owing_reserves c.args.self.now _ c.args.lane _ _ c.requires.lane (returns-clause-is g c)

pub returns-clause-book : goal.returns-clause-book
returns-clause-book g c = owing_keeps c.args.self.now _ c.args.lane _ _ c.requires.lane (returns-clause-is g c) c.requires.book
