use Rattle.std.proofs.Common.{sym, subst}
use Rattle.persist_model.specs.Region.{Region}
use Rattle.log_laws.specs.Recovering.{with_heap}
use Rattle.log_laws.specs.Parts.{EachKeeps}
use Rattle.recovery_run.specs.Reached.{with_value, HasReached}
use Rattle.recovery_run.proofs.Reaching.{store_done, reached_images}
use Rattle.recovery_run.proofs.words.store.Goals as goal

pub returns-clause-made : goal.returns-clause-made
returns-clause-made g c = λ made shape first y h le covered.
    subst (λ (r : Region). HasReached shape first (with_heap y (with_value y.words c.args.a c.args.value)) r) (sym (c.event.ensures.made_cells made))
    (store_done shape first y (g.D.Device.cells c.args.device.now) c.args.a c.args.value le c.requires.word covered h)

pub returns-clause-stopped : goal.returns-clause-stopped
returns-clause-stopped g c = λ stopped shape first y sound h.
    subst (λ (r : Region). EachKeeps shape first r) (sym (c.event.ensures.stopped_cells stopped))
    (reached_images shape first y (g.D.Device.cells c.args.device.now) sound h)
