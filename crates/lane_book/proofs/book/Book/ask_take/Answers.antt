use Rattle.lane_book.specs.FacesOf.{lane_at}
use Rattle.std.proofs.Common.{[], refl, arith}
use Rattle.lane_types.specs.declared.call.Call.TheVariants as Call
use Rattle.lane_book.proofs.Faces.{lane_read}
use Rattle.lane_book.proofs.Asking.{asked_book, roomier_book, taken_in, roomier_in}
use Rattle.lane_book.proofs.Keeps.{ready_of, keeps_asked, keeps_roomier, waits}
use Rattle.lane_book.proofs.Promising.{logged_need}
use Rattle.lane_book.proofs.book.Book.ask_take.Goals as goal

pub returns-in-Ok-clause-ok : goal.returns-in-Ok-clause-ok
returns-in-Ok-clause-ok g c =
    let book = c.args.self.now in
    asked_book book c.args.lane c.index_mut.result.now _ book.touched (Call.Take c.args.structure) _ _ [] 2 c.requires.lane
    (lane_read book c.args.lane c.index_mut.result.now c.requires.lane c.index_mut.ensures.value) (ready_of _ _ c.requires.nothing (c.requires.book c.args.lane)) c.in-Ok.ensures.ok.asks

pub returns-in-Err-clause-err : goal.returns-in-Err-clause-err
returns-in-Err-clause-err g c =
    let book = c.args.self.now in
    roomier_book book c.args.lane c.index_mut.result.now _ book.touched c.requires.lane
    (lane_read book c.args.lane c.index_mut.result.now c.requires.lane c.index_mut.ensures.value) c.in-Err.ensures.err

pub returns-in-Ok-clause-book : goal.returns-in-Ok-clause-book
returns-in-Ok-clause-book g c =
    let book = c.args.self.now in
    keeps_asked book c.args.lane c.index_mut.result.now _ book.touched (Call.Take c.args.structure) _ _ [] 2 c.requires.lane
    (lane_read book c.args.lane c.index_mut.result.now c.requires.lane c.index_mut.ensures.value) c.requires.nothing c.requires.book
    (λ ready here. waits 0 (lane_at book c.args.lane) _ _ _ _ [] 2 ready here) c.in-Ok.ensures.ok.asks

pub returns-in-Err-clause-book : goal.returns-in-Err-clause-book
returns-in-Err-clause-book g c =
    let book = c.args.self.now in
    keeps_roomier book c.args.lane c.index_mut.result.now _ book.touched c.requires.lane
    (lane_read book c.args.lane c.index_mut.result.now c.requires.lane c.index_mut.ensures.value) c.requires.book c.in-Err.ensures.err

pub returns-in-Ok-clause-reserved : goal.returns-in-Ok-clause-reserved
returns-in-Ok-clause-reserved g c =
    let book = c.args.self.now in
    λ k. logged_need k book c.args.lane c.index_mut.result.now _ book.touched (Call.Take c.args.structure) _ _ [] 2 c.requires.lane
    (lane_read book c.args.lane c.index_mut.result.now c.requires.lane c.index_mut.ensures.value) c.requires.nothing c.requires.book refl refl (omega arith) c.in-Ok.ensures.ok.asks

pub returns-in-Ok-clause-asked : goal.returns-in-Ok-clause-asked
returns-in-Ok-clause-asked g c =
    let book = c.args.self.now in
    taken_in book c.args.lane c.index_mut.result.now _ (Call.Take c.args.structure) _ _ [] 2 _ _ c.requires.lane
    (lane_read book c.args.lane c.index_mut.result.now c.requires.lane c.index_mut.ensures.value) c.set.ensures c.in-Ok.ensures.ok

pub returns-in-Err-clause-roomier : goal.returns-in-Err-clause-roomier
returns-in-Err-clause-roomier g c =
    let book = c.args.self.now in
    roomier_in book c.args.lane c.index_mut.result.now _ c.requires.lane
    (lane_read book c.args.lane c.index_mut.result.now c.requires.lane c.index_mut.ensures.value) c.in-Err.ensures.err
