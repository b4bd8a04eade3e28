use Rattle.lane_book.specs.FacesOf.{lane_at}
use Rattle.std.proofs.Common.{[], refl, arith}
use Rattle.lane_types.specs.declared.call.Call.TheVariants as Call
use Rattle.lane_book.proofs.Faces.{lane_read}
use Rattle.lane_book.proofs.Asking.{on_ok, on_err, asked_book, roomier_book, asked_in, roomier_in}
use Rattle.lane_book.proofs.Keeps.{ready_of, by_result, keeps_asked, keeps_roomier, write_about}
use Rattle.lane_book.proofs.Promising.{logged_need}
use Rattle.lane_book.proofs.book.Book.ask_write.Goals as goal

pub returns-clause-ok : goal.returns-clause-ok
returns-clause-ok g c =
    let book = c.args.self.now in
    on_ok c.ask_write.result (λ asked. asked_book book c.args.lane c.index_mut.result.now _ book.touched (Call.Write c.args.a c.args.v) _ _ [] 2 c.requires.lane
    (lane_read book c.args.lane c.index_mut.result.now c.requires.lane c.index_mut.ensures.value) (ready_of _ _ c.requires.nothing (c.requires.book c.args.lane)) asked.asks) c.ask_write.ensures.ok

pub returns-clause-err : goal.returns-clause-err
returns-clause-err g c =
    let book = c.args.self.now in
    on_err c.ask_write.result (λ roomier. roomier_book book c.args.lane c.index_mut.result.now _ book.touched c.requires.lane
    (lane_read book c.args.lane c.index_mut.result.now c.requires.lane c.index_mut.ensures.value) roomier) c.ask_write.ensures.err

pub returns-clause-book : goal.returns-clause-book
returns-clause-book g c =
    let book = c.args.self.now in
    let read = (lane_read book c.args.lane c.index_mut.result.now c.requires.lane c.index_mut.ensures.value) in
    by_result c.ask_write.result
    (λ asked. keeps_asked book c.args.lane c.index_mut.result.now _ book.touched (Call.Write c.args.a c.args.v) _ _ [] 2 c.requires.lane read c.requires.nothing c.requires.book
    (λ ready here. write_about (lane_at book c.args.lane) _ _ _ _ 2 ready here) asked.asks)
    (λ roomier. keeps_roomier book c.args.lane c.index_mut.result.now _ book.touched c.requires.lane read c.requires.book roomier)
    c.ask_write.ensures.ok c.ask_write.ensures.err

pub returns-clause-reserved : goal.returns-clause-reserved
returns-clause-reserved g c =
    let book = c.args.self.now in
    on_ok c.ask_write.result (λ asked k. logged_need k book c.args.lane c.index_mut.result.now _ book.touched (Call.Write c.args.a c.args.v) _ _ _ 2 c.requires.lane
    (lane_read book c.args.lane c.index_mut.result.now c.requires.lane c.index_mut.ensures.value) c.requires.nothing c.requires.book refl refl (omega arith) asked.asks) c.ask_write.ensures.ok

pub returns-clause-asked : goal.returns-clause-asked
returns-clause-asked g c =
    let book = c.args.self.now in
    on_ok c.ask_write.result (λ asked. asked_in book c.args.lane c.index_mut.result.now _ (Call.Write c.args.a c.args.v) _ _ [] 2 c.requires.lane
    (lane_read book c.args.lane c.index_mut.result.now c.requires.lane c.index_mut.ensures.value) asked) c.ask_write.ensures.ok

pub returns-clause-roomier : goal.returns-clause-roomier
returns-clause-roomier g c =
    let book = c.args.self.now in
    on_err c.ask_write.result (λ roomier. roomier_in book c.args.lane c.index_mut.result.now _ c.requires.lane
    (lane_read book c.args.lane c.index_mut.result.now c.requires.lane c.index_mut.ensures.value) roomier) c.ask_write.ensures.err
