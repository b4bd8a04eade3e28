use Rattle.std.proofs.Common.{List, sym, ap, ◌∙◌, subst}
use Rattle.lane_traits.specs.declared.draft.WordWrite.{WordWrite}
use Rattle.lane_book.specs.declared.book.Book.{Book}
use Rattle.lane_book.specs.Books.{IsBook}
use Rattle.lane_book.specs.Entries.{committing, writes_of_entry}
use Rattle.lane_book.specs.FacesOf.{lane_at}
use Rattle.lane_book.specs.Lanes.{with_lane}
use Rattle.txn_core.proofs.ask_ends.ask_entry.Goals as goal

pub returns-in-Ok-clause-asked : goal.returns-in-Ok-clause-asked
returns-in-Ok-clause-asked g c =
    let book = c.entry_writes.new.self in
    let same = c.entry_writes.ensures.roomier in record {
      stocked = book;
      places = record { is = same; no_less = c.entry_writes.ensures.no_less };
      room = c.in-Ok.ensures.room;
      kept = subst (λ (b : Book _). IsBook b) (sym same) c.requires.book;
      is = c.ask_commit.ensures.is ∙ ap (λ (ws : List WordWrite). with_lane book c.args.lane (committing c.args.lane c.args.deed ws (lane_at book c.args.lane)) book.touched)
          (c.in-Ok.ensures.is ∙ ap (λ (b : Book _). writes_of_entry c.args.layout (lane_at b c.args.lane)) (sym same));
      ask = c.ask_commit.ensures.ask;
      reserved = c.ask_commit.ensures.reserved;
    }
