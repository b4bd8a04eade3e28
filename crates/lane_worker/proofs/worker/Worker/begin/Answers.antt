use Rattle.std.proofs.Common.{Some, ◌∙◌, sym, ap, subst}
use Rattle.std.proofs.lemmas.Option.{slice_get-get_or}
use Rattle.lane_types.specs.declared.call.Call.{Call}
use Rattle.map_deeds.specs.declared.deed.MapDeed.{MapDeed}
use Rattle.lane_worker.specs.Acts.{Asks}
use Rattle.lane_worker.proofs.Asking.{item_asks}
use Rattle.lane_worker.proofs.worker.Worker.begin.Goals as goal

pub returns-in-Some : goal.returns-in-Some
returns-in-Some c f h at = subst (λ (call : Call MapDeed). Asks c.args.self.now call f) (sym c.first_call.ensures)
    (item_asks c.args.self.now f c.in-Some.item.now h at (let l = c.in-Some.ensures.lookup in slice_get-get_or c.args.self.now.items.now c.args.self.now.at c.in-Some.item.now l.3.0 ∙ ap Some (sym l.1)))
