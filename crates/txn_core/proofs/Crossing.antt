-- What a world consists of may cross threads.
use denote.RattleType.{RattleType}
use denote.Param.Send.{IsSend, recorded_send, struct_send, sendable}
use denote.Struct.Declared.{shape}
use denote.Struct.Struct.{Struct}
use Rattle.std.proofs.Crossing.{crosses}
use Rattle.lane_book.specs.contracts.book.Book as Book
use Rattle.lane_book.specs.contracts.lane.Lane as Lane
use Rattle.lane_book.specs.contracts.stock.Stock as Stock
use Rattle.lane_types.specs.contracts.face.Entry as Entry
use Rattle.log_keeper.specs.contracts.keeper.LogKeeper as Keeper
use Rattle.region_layout.specs.contracts.layout.Layout as Layout

ruleset every = (sendable, crosses)

pub layout_send : IsSend Layout.the_field.row
layout_send = search every depth 30

pub keeper_send : IsSend Keeper.the_field.row
keeper_send = search every depth 30

pub flight_send : (E : RattleType) → IsSend E → IsSend (Stock.the_field (Entry.the_row E)).row
flight_send E s = search every depth 30

-- the first fields by searches of their own, since one for all runs out of its limits
lane_send : (E : RattleType) → IsSend E → IsSend (Lane.the_row E)
lane_send E s = let T = Lane.the_type E in recorded_send (Struct (shape T)) T.D T.to T.to_one
    (struct_send (shape T) (search every depth 30, (search every depth 30, (search every depth 30, search every depth 100 fits 100000))))

pub book_send : (E : RattleType) → IsSend E → IsSend (Book.the_field E).row
book_send E s = search (every, lane_send, flight_send) depth 20
