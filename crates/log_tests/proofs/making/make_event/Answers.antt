use Rattle.std.proofs.Common.{◌≡◌, length, refl, ap, sym, ◌∙◌, subst}
use Rattle.lane_traits.specs.Device.{IsWithin}
use Rattle.persist_model.proofs.Images.{length-newest_words}
use Rattle.log_tests.proofs.making.make_event.Goals as goal

pub event-requires-clause-address : goal.event-requires-clause-address
event-requires-clause-address g c =
    let cells = g.D.Device.cells c.args.region.now in
    let size : c.size.result ≡ cells.size = c.size.ensures ∙ ap length (g.met.D.Device.reads c.args.region.now) ∙ length-newest_words cells in
    let later : cells.size ≡ (g.D.Device.cells c.reserve.new.self).size = sym (ap (λ r. r.size) c.reserve.ensures.cells) in
    subst (λ n. IsWithin n c.args.event) (size ∙ later) (c.if-not-is_inside.ensures refl)
