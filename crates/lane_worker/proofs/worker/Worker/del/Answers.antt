use Rattle.std.proofs.Common.{refl, sym, ◌∙◌, []}
use Rattle.region_layout.specs.FiniteMap.{without_key}
use Rattle.lane_worker.specs.Shown.{shown}
use Rattle.rewind_script.specs.declared.script.Command.TheVariants as command
use Rattle.map_deeds.specs.Maps.{after_transaction}
use Rattle.map_deeds.specs.Meanings.{commands_of, kind_at}
use Rattle.lane_worker.proofs.Settling.{absent_done, del_starts}
use Rattle.lane_worker.proofs.Fetching.{place_inside, low_structure, at_here, holds_plain, can_read, changes_over, del_reaches}
use Rattle.lane_worker.proofs.worker.Worker.del.Goals as goal

pub place-place-requires-clause-kind : goal.place-place-requires-clause-kind
place-place-requires-clause-kind g c =
    let k = at_here c.args.self.now (command.Del c.args.map c.args.key) (g.R.Reads.space c.args.reads) (g.R.Reads.readable c.args.reads) c.requires.0 c.requires.1 in
    (del_reaches c.args.self.now c.args.map c.args.key c.requires.0 c.requires.1.ready k).0

pub place-place-requires-clause-block : goal.place-place-requires-clause-block
place-place-requires-clause-block g c =
    let k = at_here c.args.self.now (command.Del c.args.map c.args.key) (g.R.Reads.space c.args.reads) (g.R.Reads.readable c.args.reads) c.requires.0 c.requires.1 in
    place_inside c.args.self.now c.requires.0 c.args.map c.requires.1.ready (del_reaches c.args.self.now c.args.map c.args.key c.requires.0 c.requires.1.ready k).0

pub value_of-requires-clause-map : goal.value_of-requires-clause-map
value_of-requires-clause-map g c =
    let f = c.requires.0 in let h = c.requires.1 in
    let k = at_here c.args.self.now (command.Del c.args.map c.args.key) (g.R.Reads.space c.args.reads) (g.R.Reads.readable c.args.reads) f h in
    record {
      contents = after_transaction k.maps (commands_of c.args.self.now.steps) c.args.map;
      is = holds_plain c.args.self.now (command.Del c.args.map c.args.key) (g.R.Reads.space c.args.reads) (g.R.Reads.readable c.args.reads) f h k refl
          c.args.map c.place-place.result.structure c.place-place.result.root c.place-place.result.kind (del_reaches c.args.self.now c.args.map c.args.key f h.ready k).1
          c.place-place.ensures.structure c.place-place.ensures.kind c.place-place.ensures.root;
    }

pub value_of-requires-clause-can_read : goal.value_of-requires-clause-can_read
value_of-requires-clause-can_read g c = can_read c.args.self.now (command.Del c.args.map c.args.key) (g.R.Reads.space c.args.reads) (g.R.Reads.readable c.args.reads) c.requires.0 c.requires.1 c.place-place.result.structure

pub done-requires : goal.done-requires
done-requires g c =
    let f = c.requires.0 in let h = c.requires.1 in
    let k = at_here c.args.self.now (command.Del c.args.map c.args.key) (g.R.Reads.space c.args.reads) (g.R.Reads.readable c.args.reads) f h in (
      f,
      absent_done c.args.self.now c.args.map c.args.key f h.ready h.at k
          (sym (c.value_of.ensures (after_transaction k.maps (commands_of c.args.self.now.steps) c.args.map) (holds_plain c.args.self.now (command.Del c.args.map c.args.key) (g.R.Reads.space c.args.reads) (g.R.Reads.readable c.args.reads) f h k refl
          c.args.map c.place-place.result.structure c.place-place.result.root c.place-place.result.kind (del_reaches c.args.self.now c.args.map c.args.key f h.ready k).1
          c.place-place.ensures.structure c.place-place.ensures.kind c.place-place.ensures.root)) ∙ c.in-None.is),
    )

pub removing-requires-clause-map : goal.removing-requires-clause-map
removing-requires-clause-map g c =
    let f = c.requires.0 in let h = c.requires.1 in
    let k = at_here c.args.self.now (command.Del c.args.map c.args.key) (g.R.Reads.space c.args.reads) (g.R.Reads.readable c.args.reads) f h in
    record {
      contents = after_transaction k.maps (commands_of c.args.self.now.steps) c.args.map;
      is = holds_plain c.args.self.now (command.Del c.args.map c.args.key) (g.R.Reads.space c.args.reads) (g.R.Reads.readable c.args.reads) f h k refl
          c.args.map c.place-place.result.structure c.place-place.result.root c.place-place.result.kind (del_reaches c.args.self.now c.args.map c.args.key f h.ready k).1
          c.place-place.ensures.structure c.place-place.ensures.kind c.place-place.ensures.root;
    }

pub removing-requires-clause-can_read : goal.removing-requires-clause-can_read
removing-requires-clause-can_read g c = can_read c.args.self.now (command.Del c.args.map c.args.key) (g.R.Reads.space c.args.reads) (g.R.Reads.readable c.args.reads) c.requires.0 c.requires.1 c.place-place.result.structure

pub returns-in_ok-done-in-None-clause-next : goal.returns-in_ok-done-in-None-clause-next
returns-in_ok-done-in-None-clause-next g c f h =
    let k = at_here c.args.self.now (command.Del c.args.map c.args.key) (g.R.Reads.space c.args.reads) (g.R.Reads.readable c.args.reads) f h in
    c.in_ok-done-in-None.ensures.ok f (absent_done c.args.self.now c.args.map c.args.key f h.ready h.at k
    (sym (c.value_of.ensures (after_transaction k.maps (commands_of c.args.self.now.steps) c.args.map) (holds_plain c.args.self.now (command.Del c.args.map c.args.key) (g.R.Reads.space c.args.reads) (g.R.Reads.readable c.args.reads) f h k refl
    c.args.map c.place-place.result.structure c.place-place.result.root c.place-place.result.kind (del_reaches c.args.self.now c.args.map c.args.key f h.ready k).1
    c.place-place.ensures.structure c.place-place.ensures.kind c.place-place.ensures.root)) ∙ c.in-None.is))

pub start-requires : goal.start-requires
start-requires g c =
    let f = c.requires.0 in let h = c.requires.1 in
    let k = at_here c.args.self.now (command.Del c.args.map c.args.key) (g.R.Reads.space c.args.reads) (g.R.Reads.readable c.args.reads) f h in (
      f,
      record {
        ready = del_starts c.args.self.now c.args.map c.args.key c.place-place.result.root f h.ready h.at k
            (low_structure c.args.self.now f c.args.map h.ready (del_reaches c.args.self.now c.args.map c.args.key f h.ready k).0) c.place-place.ensures.root c.in_ok-change-in-Some.change
            (changes_over c.place-place.result.kind (kind_at c.args.self.now.kinds.now c.args.map) c.place-place.result.structure c.args.map c.place-place.result.root [] (g.R.Reads.space c.args.reads) (shown f)
            c.in_ok-change-in-Some.change (without_key c.args.key (after_transaction k.maps (commands_of c.args.self.now.steps) c.args.map)) c.place-place.ensures.structure c.place-place.ensures.kind h.shows.space_is
            (c.in_ok-change-in-Some.ensures (after_transaction k.maps (commands_of c.args.self.now.steps) c.args.map) (holds_plain c.args.self.now (command.Del c.args.map c.args.key) (g.R.Reads.space c.args.reads) (g.R.Reads.readable c.args.reads) f h k refl
            c.args.map c.place-place.result.structure c.place-place.result.root c.place-place.result.kind (del_reaches c.args.self.now c.args.map c.args.key f h.ready k).1
            c.place-place.ensures.structure c.place-place.ensures.kind c.place-place.ensures.root)));
        here = h.here;
      },
    )

pub returns-in_ok-change-in-Some-clause-next : goal.returns-in_ok-change-in-Some-clause-next
returns-in_ok-change-in-Some-clause-next g c f h =
    let k = at_here c.args.self.now (command.Del c.args.map c.args.key) (g.R.Reads.space c.args.reads) (g.R.Reads.readable c.args.reads) f h in
    c.start.ensures.next f (record {
      ready = del_starts c.args.self.now c.args.map c.args.key c.place-place.result.root f h.ready h.at k
          (low_structure c.args.self.now f c.args.map h.ready (del_reaches c.args.self.now c.args.map c.args.key f h.ready k).0) c.place-place.ensures.root c.in_ok-change-in-Some.change
          (changes_over c.place-place.result.kind (kind_at c.args.self.now.kinds.now c.args.map) c.place-place.result.structure c.args.map c.place-place.result.root [] (g.R.Reads.space c.args.reads) (shown f)
          c.in_ok-change-in-Some.change (without_key c.args.key (after_transaction k.maps (commands_of c.args.self.now.steps) c.args.map)) c.place-place.ensures.structure c.place-place.ensures.kind h.shows.space_is
          (c.in_ok-change-in-Some.ensures (after_transaction k.maps (commands_of c.args.self.now.steps) c.args.map) (holds_plain c.args.self.now (command.Del c.args.map c.args.key) (g.R.Reads.space c.args.reads) (g.R.Reads.readable c.args.reads) f h k refl
          c.args.map c.place-place.result.structure c.place-place.result.root c.place-place.result.kind (del_reaches c.args.self.now c.args.map c.args.key f h.ready k).1
          c.place-place.ensures.structure c.place-place.ensures.kind c.place-place.ensures.root)));
      here = h.here;
    })
