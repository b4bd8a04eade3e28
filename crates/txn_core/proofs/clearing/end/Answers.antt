use Rattle.std.proofs.Common.{◌∙◌, None, sym, subst}
use Rattle.lane_book.specs.declared.lane.Doing.{Doing}
use Rattle.lane_book.specs.FacesOf.{lane_at}
use Rattle.lane_book.specs.Lanes.{left}
use Rattle.lane_book.specs.Calls.{Moves}
use Rattle.txn_state.specs.ClosingLaws.{end_reply}
use Rattle.txn_state.specs.Stages.{is_commit}
use Rattle.txn_core.specs.Freeing.{blocks_left, with_blocks}
use Rattle.txn_core.proofs.clearing.end.Goals as goal

pub returns-in-Commit-clause-moves : goal.returns-in-Commit-clause-moves
returns-in-Commit-clause-moves g c =
    subst (λ (d : Doing). Moves g.E.Deed.meaning (with_blocks (blocks_left c.args.layout (is_commit d) (lane_at c.args.book.now c.args.lane) c.args.book.now.blocks) c.args.book.now)
    c.committed.new.self c.args.lane None c.committed.result (left (end_reply (is_commit d)) (lane_at c.args.book.now c.args.lane)))
    (sym (sym c.doing.ensures ∙ c.in-Commit.is)) c.committed.ensures.moves
