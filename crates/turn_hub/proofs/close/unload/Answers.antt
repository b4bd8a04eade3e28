use Rattle.turn_hub.specs.Turns.{Shows, IsAlike}
use Rattle.turn_hub.proofs.Calls.{unloads, is_loaded, is_value}
use Rattle.turn_hub.proofs.close.unload.Goals as goal

pub unwrap-requires : goal.unwrap-requires
unwrap-requires g c =
    let R = g.T.Laned.seen in
    is_loaded R c.take-slot.result (λ value. Shows R value c.args.place.me.0.sights × IsAlike R value c.args.table.shared.key.value.value)
    (unloads R c.args.table.shared.key.value.value _ _ _ _ _ c.close_with-closed.ensures.values.2 c.requires.free c.requires.all c.take-slot.ensures.value)

pub returns : goal.returns
returns g c =
    let R = g.T.Laned.seen in
    is_value R c.take-slot.result c.unwrap.result (λ value. Shows R value c.args.place.me.0.sights × IsAlike R value c.args.table.shared.key.value.value)
    (unloads R c.args.table.shared.key.value.value _ _ _ _ _ c.close_with-closed.ensures.values.2 c.requires.free c.requires.all c.take-slot.ensures.value) c.unwrap.ensures
