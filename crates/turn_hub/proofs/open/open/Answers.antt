use Rattle.turn_hub.proofs.Calls.{begins_at}
use Rattle.turn_hub.proofs.open.open.Goals as goal

pub vacant-requires : goal.vacant-requires
vacant-requires g c =
    begins_at g.T.Laned.seen c.of.result.value c.args.value c.as_slice.result.now c.in-Ok.field-0.words.items c.of.ensures c.as_slice.ensures.value c.requires c.in-Ok.ensures.words
