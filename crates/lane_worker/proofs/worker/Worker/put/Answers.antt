use Rattle.std.proofs.Common.{arith}
use Rattle.lane_worker.proofs.Fetching.{can_read, put_kind, put_block, put_key, put_value, put_map, put_aside, put_takes, put_stays, put_starting}
use Rattle.rewind_script.specs.declared.script.Command.TheVariants as command
use Rattle.lane_worker.proofs.worker.Worker.put.Goals as goal

pub place-place-requires-clause-kind : goal.place-place-requires-clause-kind
place-place-requires-clause-kind g c = put_kind c.args.self.now c.args.map c.args.key c.args.value (g.R.Reads.space c.args.reads) (g.R.Reads.readable c.args.reads) c.requires.0 c.requires.1

pub place-place-requires-clause-block : goal.place-place-requires-clause-block
place-place-requires-clause-block g c = put_block c.args.self.now c.args.map c.args.key c.args.value (g.R.Reads.space c.args.reads) (g.R.Reads.readable c.args.reads) c.requires.0 c.requires.1

pub blocks_for-needed-requires-clause-map : goal.blocks_for-needed-requires-clause-map
blocks_for-needed-requires-clause-map g c = put_map c.args.self.now c.args.map c.args.key c.args.value (g.R.Reads.space c.args.reads) (g.R.Reads.readable c.args.reads) c.requires.0 c.requires.1 c.place-place.result.structure c.place-place.result.root c.place-place.result.kind c.in_ok-spare.spare c.place-place.ensures.structure c.place-place.ensures.kind c.place-place.ensures.root c.in_ok-spare.ensures

pub blocks_for-needed-requires-clause-set_aside : goal.blocks_for-needed-requires-clause-set_aside
blocks_for-needed-requires-clause-set_aside g c = put_aside c.args.self.now c.args.map c.args.key c.args.value (g.R.Reads.space c.args.reads) (g.R.Reads.readable c.args.reads) c.requires.0 c.requires.1 c.place-place.result.structure c.in_ok-spare.spare c.place-place.ensures.structure c.in_ok-spare.ensures

pub blocks_for-needed-requires-clause-can_read : goal.blocks_for-needed-requires-clause-can_read
blocks_for-needed-requires-clause-can_read g c = can_read c.args.self.now (command.Put c.args.map c.args.key c.args.value) (g.R.Reads.space c.args.reads) (g.R.Reads.readable c.args.reads) c.requires.0 c.requires.1 c.place-place.result.structure

pub putting-requires-clause-map : goal.putting-requires-clause-map
putting-requires-clause-map g c = put_map c.args.self.now c.args.map c.args.key c.args.value (g.R.Reads.space c.args.reads) (g.R.Reads.readable c.args.reads) c.requires.0 c.requires.1 c.place-place.result.structure c.place-place.result.root c.place-place.result.kind c.in_ok-spare-2.spare c.place-place.ensures.structure c.place-place.ensures.kind c.place-place.ensures.root c.in_ok-spare-2.ensures

pub putting-requires-clause-set_aside : goal.putting-requires-clause-set_aside
putting-requires-clause-set_aside g c = put_aside c.args.self.now c.args.map c.args.key c.args.value (g.R.Reads.space c.args.reads) (g.R.Reads.readable c.args.reads) c.requires.0 c.requires.1 c.place-place.result.structure c.in_ok-spare-2.spare c.place-place.ensures.structure c.in_ok-spare-2.ensures

pub putting-requires-clause-can_read : goal.putting-requires-clause-can_read
putting-requires-clause-can_read g c = can_read c.args.self.now (command.Put c.args.map c.args.key c.args.value) (g.R.Reads.space c.args.reads) (g.R.Reads.readable c.args.reads) c.requires.0 c.requires.1 c.place-place.result.structure

pub putting-requires-clause-key : goal.putting-requires-clause-key
putting-requires-clause-key g c = put_key c.args.self.now c.args.map c.args.key c.args.value (g.R.Reads.space c.args.reads) (g.R.Reads.readable c.args.reads) c.requires.0 c.requires.1 c.place-place.result.kind c.place-place.ensures.kind

pub putting-requires-clause-value : goal.putting-requires-clause-value
putting-requires-clause-value g c = put_value c.args.self.now c.args.map c.args.key c.args.value (g.R.Reads.space c.args.reads) (g.R.Reads.readable c.args.reads) c.requires.0 c.requires.1

pub start-requires : goal.start-requires
start-requires g c = (c.requires.0, put_starting c.args.self.now c.args.map c.args.key c.args.value (g.R.Reads.space c.args.reads) (g.R.Reads.readable c.args.reads) c.requires.0 c.requires.1 c.place-place.result.structure c.place-place.result.root c.place-place.result.kind c.in_ok-spare-2.spare c.in_ok-change.change c.place-place.ensures.structure c.place-place.ensures.kind c.place-place.ensures.root c.in_ok-spare-2.ensures c.in_ok-change.ensures)

pub returns-clause-next : goal.returns-clause-next
returns-clause-next g c f h = c.start.ensures.next f (put_starting c.args.self.now c.args.map c.args.key c.args.value (g.R.Reads.space c.args.reads) (g.R.Reads.readable c.args.reads) f h c.place-place.result.structure c.place-place.result.root c.place-place.result.kind c.in_ok-spare-2.spare c.in_ok-change.change c.place-place.ensures.structure c.place-place.ensures.kind c.place-place.ensures.root c.in_ok-spare-2.ensures c.in_ok-change.ensures)

pub returns-in-Ok-clause-next : goal.returns-in-Ok-clause-next
returns-in-Ok-clause-next g c f h = put_takes c.args.self.now c.args.map c.args.key c.args.value (g.R.Reads.space c.args.reads) (g.R.Reads.readable c.args.reads) f h (record c.args.self.now { taken = c.reserve.new.self }) c.reserve.ensures.items (let room = c.in-Ok.ensures.ok in omega (arith, room))

pub returns-in-Err-clause-next : goal.returns-in-Err-clause-next
returns-in-Err-clause-next g c f h = put_stays c.args.self.now c.args.map c.args.key c.args.value (g.R.Reads.space c.args.reads) (g.R.Reads.readable c.args.reads) f h (record c.args.self.now { taken = c.reserve.new.self }) c.reserve.ensures.items
