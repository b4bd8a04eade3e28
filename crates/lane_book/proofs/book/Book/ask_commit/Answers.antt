use Rattle.std.proofs.Common.{[], ◌∙◌, ap, sym, refl, subst}
use Rattle.lane_book.specs.declared.book.Book.{Book}
use Rattle.lane_book.specs.Books.{IsBook}
use Rattle.lane_types.specs.declared.call.Call.TheVariants as Call
use Rattle.lane_types.specs.Asks.{asked}
use Rattle.lane_book.specs.declared.lane.Lane.{Lane}
use Rattle.lane_book.specs.Lanes.{with_lane}
use Rattle.lane_book.specs.Entries.{committing, entry_of}
use Rattle.lane_book.specs.FacesOf.{lane_at}
use Rattle.lane_book.proofs.Faces.{lane_read}
use Rattle.lane_book.proofs.Asking.{asks_at, ask_row, commit_asks}
use Rattle.lane_book.proofs.Keeps.{ready_of, keeps_asked, plain_stored}
use Rattle.lane_book.proofs.Promising.{free_need}
use Rattle.lane_book.specs.Appends.{ReservesNeed}
use Rattle.lane_book.proofs.book.Book.ask_commit.Goals as goal

pub returns-clause-is : goal.returns-clause-is
returns-clause-is g c =
    let book = c.args.self.now in
    ap (λ (x : Lane _). with_lane book c.args.lane x book.touched)
    (c.ask_commit.ensures ∙ ap (committing c.args.lane c.args.deed c.args.writes)
    (lane_read book c.args.lane c.index_mut.result.now c.requires.lane c.index_mut.ensures.value))

pub returns-clause-ask : goal.returns-clause-ask
returns-clause-ask g c =
    let book = c.args.self.now in
    let lane = lane_at book c.args.lane in
    asks_at (asked (Call.Commit c.args.deed)) book (with_lane book c.args.lane (committing c.args.lane c.args.deed c.args.writes lane) book.touched) _ c.args.lane
    (ap (λ (x : Lane _). with_lane book c.args.lane x book.touched)
    (c.ask_commit.ensures ∙ ap (committing c.args.lane c.args.deed c.args.writes)
    (lane_read book c.args.lane c.index_mut.result.now c.requires.lane c.index_mut.ensures.value)))
    (ask_row book c.args.lane (committing c.args.lane c.args.deed c.args.writes lane) book.touched (Call.Commit c.args.deed) _ [] [] 0 c.requires.lane (ready_of _ _ c.requires.nothing (c.requires.book c.args.lane))
    (commit_asks lane (entry_of c.args.lane c.args.deed c.args.writes lane)))

pub returns-clause-book : goal.returns-clause-book
returns-clause-book g c =
    let book = c.args.self.now in
    let lane = lane_at book c.args.lane in
    subst (λ (b : Book _). IsBook b) (sym (returns-clause-is g c))
    (keeps_asked book c.args.lane lane (committing c.args.lane c.args.deed c.args.writes lane) book.touched (Call.Commit c.args.deed) _ [] [] 0 c.requires.lane
    refl c.requires.nothing c.requires.book (λ ready here. plain_stored lane _ _ _ [] 0 ready here)
    (commit_asks lane (entry_of c.args.lane c.args.deed c.args.writes lane)))

pub returns-clause-reserved : goal.returns-clause-reserved
returns-clause-reserved g c =
    let book = c.args.self.now in
    let lane = lane_at book c.args.lane in
    λ k. subst (λ (b : Book _). ReservesNeed k (Call.Commit c.args.deed) book b c.args.lane) (sym (returns-clause-is g c))
    (free_need k book c.args.lane lane (committing c.args.lane c.args.deed c.args.writes lane) book.touched (Call.Commit c.args.deed) _ [] [] c.requires.lane
    refl c.requires.nothing c.requires.book refl (commit_asks lane (entry_of c.args.lane c.args.deed c.args.writes lane)))
