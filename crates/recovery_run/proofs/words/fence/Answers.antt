use Rattle.std.proofs.Common.{◌≡◌, [], ◌∷◌, refl, sym, subst}
use Rattle.persist_model.specs.declared.event.Event.TheVariants.{Fence}
use Rattle.lane_traits.specs.declared.device.Done.{Done}
use Rattle.lane_traits.specs.declared.device.Done.TheVariants.{Made, Stopped}
use Rattle.log_laws.specs.Recovering.{RECOVERY_LANE}
use Rattle.recovery_run.specs.Edges.{HasOnlyValue, KeepsWords}
use Rattle.recovery_run.proofs.Aside.{plan_keeps}
use Rattle.persist_model.specs.Region.{Region}
use Rattle.log_laws.specs.Parts.{EachKeeps}
use Rattle.recovery_run.specs.Reached.{HasSettled}
use Rattle.recovery_run.proofs.Reaching.{fence_done, reached_images}
use Rattle.recovery_run.proofs.words.fence.Goals as goal

pub returns-clause-made : goal.returns-clause-made
returns-clause-made g c = λ made shape first y h.
    subst (λ (r : Region). HasSettled shape first y r) (sym (c.event.ensures.made_cells made))
    (fence_done shape first y (g.D.Device.cells c.args.device.now) h)

pub returns-clause-stopped : goal.returns-clause-stopped
returns-clause-stopped g c = λ stopped shape first y sound h.
    subst (λ (r : Region). EachKeeps shape first r) (sym (c.event.ensures.stopped_cells stopped))
    (reached_images shape first y (g.D.Device.cells c.args.device.now) sound h)

pub returns-clause-aside : goal.returns-clause-aside
returns-clause-aside g c = by_done c.event.result refl
  where
    by_done : (d : Done) → c.event.result ≡ d → KeepsWords (λ b. Unit {0}) (g.D.Device.cells c.args.device.now) (g.D.Device.cells c.event.new.self)
    by_done Made is = λ a v off one. subst (λ (r : Region). HasOnlyValue v (r.at a)) (sym (c.event.ensures.made_cells is))
        (plan_keeps RECOVERY_LANE (g.D.Device.cells c.args.device.now) (Fence ∷ []) a v (tt, tt) one)
    by_done Stopped is = λ a v off one. subst (λ (r : Region). HasOnlyValue v (r.at a)) (sym (c.event.ensures.stopped_cells is)) one
