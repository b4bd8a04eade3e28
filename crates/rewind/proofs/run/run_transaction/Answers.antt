use Rattle.std.proofs.Common.{◌<◌, ◌+◌, ◌∙◌, refl, sym, ap, arith, get_or, length, ℕ}
use Rattle.persist_model.specs.Region.{Region}
use Rattle.lane_traits.specs.Device.{Counts}
use Rattle.rewind.specs.declared.script.Put.{Put}
use Rattle.rewind.specs.History.{put_in}
use Rattle.rewind.proofs.Tables.{after_puts-next, after_puts-done}
use Rattle.rewind.proofs.Runs.{rest_step, put_done, fence_done}
use Rattle.rewind.proofs.run.run_transaction.Goals as goal

pub loop-put-init : goal.loop-put-init
loop-put-init g c = record {
  contents = λ m rest. (m, rest_step c.args.root m (g.D.Device.cells c.args.region.now) rest, refl);
  size = refl;
  made = ap (λ (n : ℕ). record (g.D.Device.counts c.args.region.now) { events = n }) (omega arith);
  spare = omega arith;
}

pub loop-put-preserved : goal.loop-put-preserved
loop-put-preserved g c =
    let blank : Put = record { key = 0; value = 0 } in
    let p : Put = get_or c.args.puts.now c.loop-put.put-index blank in
    let within : c.loop-put.put-index < length c.args.puts.now = omega arith in
    let cells = c.in-Made.ensures.made_cells refl in
    record {
      contents = λ m rest.
          let before = c.loop-put.invariant.contents m rest in (
            put_in before.0 p,
            put_done c.args.root before.0 p (g.D.Device.cells c.loop-put.region) _ cells before.1,
            sym (after_puts-next before.0 c.args.puts.now c.loop-put.put-index blank within) ∙ before.2,
          );
      size = ap (λ (region : Region). region.size) cells ∙ c.loop-put.invariant.size;
      made = c.in-Made.ensures.made_counts refl
          ∙ ap (λ (counts : Counts). record counts { events = counts.events + 1 }) c.loop-put.invariant.made
          ∙ ap (λ (n : ℕ). record (g.D.Device.counts c.args.region.now) { events = n }) (omega arith);
      spare = omega (arith, c.in-Made.ensures.made_spare refl, c.loop-put.invariant.spare);
    }

pub returns-clause-contents : goal.returns-clause-contents
returns-clause-contents g c = λ made m rest.
    let before = c.loop-put.invariant.contents m rest in
    fence_done c.args.root before.0 _ (g.D.Device.cells c.loop-put.region) _ (c.event-2.ensures.made_cells made) before.1
    (sym (after_puts-done before.0 c.args.puts.now c.loop-put.put-index (omega arith)) ∙ before.2)
