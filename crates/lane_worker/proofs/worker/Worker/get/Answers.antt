use Rattle.std.proofs.Common.{refl}
use Rattle.rewind_script.specs.declared.script.Command.TheVariants as command
use Rattle.map_deeds.specs.Maps.{after_transaction}
use Rattle.map_deeds.specs.Meanings.{commands_of}
use Rattle.lane_worker.proofs.Settling.{get_done}
use Rattle.lane_worker.proofs.Fetching.{place_inside, at_here, holds_plain, can_read, get_reaches}
use Rattle.lane_worker.proofs.worker.Worker.get.Goals as goal

pub place-place-requires-clause-kind : goal.place-place-requires-clause-kind
place-place-requires-clause-kind g c =
    let k = at_here c.args.self.now (command.Get c.args.map c.args.key) (g.R.Reads.space c.args.reads) (g.R.Reads.readable c.args.reads) c.requires.0 c.requires.1 in
    (get_reaches c.args.self.now c.args.map c.args.key c.requires.0 c.requires.1.ready k).0

pub place-place-requires-clause-block : goal.place-place-requires-clause-block
place-place-requires-clause-block g c =
    let k = at_here c.args.self.now (command.Get c.args.map c.args.key) (g.R.Reads.space c.args.reads) (g.R.Reads.readable c.args.reads) c.requires.0 c.requires.1 in
    place_inside c.args.self.now c.requires.0 c.args.map c.requires.1.ready (get_reaches c.args.self.now c.args.map c.args.key c.requires.0 c.requires.1.ready k).0

pub value_of-got-requires-clause-map : goal.value_of-got-requires-clause-map
value_of-got-requires-clause-map g c =
    let f = c.requires.0 in let h = c.requires.1 in
    let k = at_here c.args.self.now (command.Get c.args.map c.args.key) (g.R.Reads.space c.args.reads) (g.R.Reads.readable c.args.reads) f h in
    record {
      contents = after_transaction k.maps (commands_of c.args.self.now.steps) c.args.map;
      is = holds_plain c.args.self.now (command.Get c.args.map c.args.key) (g.R.Reads.space c.args.reads) (g.R.Reads.readable c.args.reads) f h k refl
          c.args.map c.place-place.result.structure c.place-place.result.root c.place-place.result.kind (get_reaches c.args.self.now c.args.map c.args.key f h.ready k).1
          c.place-place.ensures.structure c.place-place.ensures.kind c.place-place.ensures.root;
    }

pub value_of-got-requires-clause-can_read : goal.value_of-got-requires-clause-can_read
value_of-got-requires-clause-can_read g c = can_read c.args.self.now (command.Get c.args.map c.args.key) (g.R.Reads.space c.args.reads) (g.R.Reads.readable c.args.reads) c.requires.0 c.requires.1 c.place-place.result.structure

pub done-requires : goal.done-requires
done-requires g c =
    let f = c.requires.0 in let h = c.requires.1 in
    let k = at_here c.args.self.now (command.Get c.args.map c.args.key) (g.R.Reads.space c.args.reads) (g.R.Reads.readable c.args.reads) f h in (
      f,
      get_done c.args.self.now c.args.map c.args.key f h.ready h.at k c.value_of-got.result
          (c.value_of-got.ensures (after_transaction k.maps (commands_of c.args.self.now.steps) c.args.map)
          (holds_plain c.args.self.now (command.Get c.args.map c.args.key) (g.R.Reads.space c.args.reads) (g.R.Reads.readable c.args.reads) f h k refl
          c.args.map c.place-place.result.structure c.place-place.result.root c.place-place.result.kind (get_reaches c.args.self.now c.args.map c.args.key f h.ready k).1
          c.place-place.ensures.structure c.place-place.ensures.kind c.place-place.ensures.root)),
    )

pub returns-clause-next : goal.returns-clause-next
returns-clause-next g c f h =
    let k = at_here c.args.self.now (command.Get c.args.map c.args.key) (g.R.Reads.space c.args.reads) (g.R.Reads.readable c.args.reads) f h in
    c.in_ok-done.ensures.ok f (get_done c.args.self.now c.args.map c.args.key f h.ready h.at k c.value_of-got.result
    (c.value_of-got.ensures (after_transaction k.maps (commands_of c.args.self.now.steps) c.args.map)
    (holds_plain c.args.self.now (command.Get c.args.map c.args.key) (g.R.Reads.space c.args.reads) (g.R.Reads.readable c.args.reads) f h k refl
    c.args.map c.place-place.result.structure c.place-place.result.root c.place-place.result.kind (get_reaches c.args.self.now c.args.map c.args.key f h.ready k).1
    c.place-place.ensures.structure c.place-place.ensures.kind c.place-place.ensures.root)))
