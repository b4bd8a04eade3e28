use Rattle.lane_book.specs.FacesOf.{lane_at}
use Rattle.std.proofs.Common.{[], sym, ap, arith}
use Rattle.lane_book.proofs.Faces.{lane_read}
use Rattle.lane_book.proofs.Asking.{on_ok, on_err, asked_book, roomier_book, asked_in, roomier_in}
use Rattle.lane_book.proofs.Keeps.{ready_of, by_result, keeps_asked, keeps_roomier, waits}
use Rattle.lane_book.proofs.Promising.{logged_need}
use Rattle.lane_types.specs.Asks.{is_logged}
use Rattle.lane_book.specs.Reserved.{promised_by}
use Rattle.lane_book.proofs.book.Book.ask_batch.Goals as goal

pub returns-clause-ok : goal.returns-clause-ok
returns-clause-ok g c =
    let book = c.args.self.now in
    on_ok c.ask_batch.result (λ asked. asked_book book c.args.lane c.index_mut.result.now _ book.touched c.args.call.now _ _ [] _ c.requires.lane
    (lane_read book c.args.lane c.index_mut.result.now c.requires.lane c.index_mut.ensures.value) (ready_of _ _ c.requires.nothing (c.requires.book c.args.lane)) asked.asks) c.ask_batch.ensures.ok

pub returns-clause-err : goal.returns-clause-err
returns-clause-err g c =
    let book = c.args.self.now in
    on_err c.ask_batch.result (λ roomier. roomier_book book c.args.lane c.index_mut.result.now _ book.touched c.requires.lane
    (lane_read book c.args.lane c.index_mut.result.now c.requires.lane c.index_mut.ensures.value) roomier) c.ask_batch.ensures.err

pub returns-clause-book : goal.returns-clause-book
returns-clause-book g c =
    let book = c.args.self.now in
    let read = (lane_read book c.args.lane c.index_mut.result.now c.requires.lane c.index_mut.ensures.value) in
    by_result c.ask_batch.result
    (λ asked. keeps_asked book c.args.lane c.index_mut.result.now _ book.touched c.args.call.now _ _ [] _ c.requires.lane read c.requires.nothing c.requires.book
    (λ ready here. waits 0 (lane_at book c.args.lane) _ _ _ _ [] _ ready here) asked.asks)
    (λ roomier. keeps_roomier book c.args.lane c.index_mut.result.now _ book.touched c.requires.lane read c.requires.book roomier)
    c.ask_batch.ensures.ok c.ask_batch.ensures.err

pub returns-clause-reserved : goal.returns-clause-reserved
returns-clause-reserved g c =
    let book = c.args.self.now in
    on_ok c.ask_batch.result (λ asked some. logged_need c.args.k book c.args.lane c.index_mut.result.now _ book.touched c.args.call.now _ _ [] _ c.requires.lane
    (lane_read book c.args.lane c.index_mut.result.now c.requires.lane c.index_mut.ensures.value) c.requires.nothing c.requires.book (ap is_logged c.requires.call) (sym (ap (promised_by c.args.k) c.requires.call)) (omega (arith, some)) asked.asks) c.ask_batch.ensures.ok

pub returns-clause-asked : goal.returns-clause-asked
returns-clause-asked g c =
    let book = c.args.self.now in
    on_ok c.ask_batch.result (λ asked. asked_in book c.args.lane c.index_mut.result.now _ c.args.call.now _ _ [] _ c.requires.lane
    (lane_read book c.args.lane c.index_mut.result.now c.requires.lane c.index_mut.ensures.value) asked) c.ask_batch.ensures.ok

pub returns-clause-roomier : goal.returns-clause-roomier
returns-clause-roomier g c =
    let book = c.args.self.now in
    on_err c.ask_batch.result (λ roomier. roomier_in book c.args.lane c.index_mut.result.now _ c.requires.lane
    (lane_read book c.args.lane c.index_mut.result.now c.requires.lane c.index_mut.ensures.value) roomier) c.ask_batch.ensures.err
