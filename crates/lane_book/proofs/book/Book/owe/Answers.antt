use Rattle.std.proofs.Common.{◌∙◌, ap}
use Rattle.lane_book.specs.declared.lane.Lane.{Lane}
use Rattle.lane_book.specs.Lanes.{owing, with_lane}
use Rattle.lane_book.proofs.Faces.{lane_read}
use Rattle.lane_book.proofs.Owing.{owing_keeps, owing_faces, owing_reserves}
use Rattle.lane_book.proofs.book.Book.owe.Goals as goal

pub returns-clause-is : goal.returns-clause-is
returns-clause-is g c =
    let book = c.args.self.now in
    ap (λ (x : Lane _). with_lane book c.args.lane x book.touched)
    (c.owe.ensures ∙ ap (owing c.args.events c.args.records) (lane_read book c.args.lane c.index_mut.result.now c.requires.lane c.index_mut.ensures.value))

pub returns-clause-faces : goal.returns-clause-faces
returns-clause-faces g c = owing_faces c.args.self.now _ c.args.lane _ _ c.requires.lane (returns-clause-is g c)

pub returns-clause-reserved : goal.returns-clause-reserved
returns-clause-reserved g c = owing_reserves c.args.self.now _ c.args.lane _ _ c.requires.lane (returns-clause-is g c)

pub returns-clause-book : goal.returns-clause-book
returns-clause-book g c = owing_keeps c.args.self.now _ c.args.lane _ _ c.requires.lane (returns-clause-is g c) c.requires.book
