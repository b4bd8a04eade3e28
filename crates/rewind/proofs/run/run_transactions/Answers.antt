use Rattle.std.proofs.Common.{◌≡◌, ◌<◌, ◌+◌, ◌∙◌, refl, sym, ap, subst, arith, get_or, length, drop, take, ℕ, List}
use Rattle.lane_traits.specs.Device.{Counts}
use Rattle.rewind.specs.declared.script.Put.{Put}
use Rattle.rewind.specs.History.{after_puts, after_transactions, Contents}
use Rattle.rewind.specs.Events.{IsAtRest, event_count, with_events, has_stopped}
use Rattle.rewind.proofs.Tables.{after_transactions-next, after_transactions-done}
use Rattle.rewind.proofs.Runs.{events-more, stores-left, stops_within}
use Rattle.rewind.proofs.run.run_transactions.Goals as goal

pub loop-transaction-init : goal.loop-transaction-init
loop-transaction-init g c = record {
  contents = λ m rest. (m, rest, refl);
  size = refl;
  commits = refl;
  made = ap (λ (n : ℕ). record (g.D.Device.counts c.args.region.now) { events = n }) (omega arith);
  spare = c.requires.spare;
}

pub loop-transaction-preserved : goal.loop-transaction-preserved
loop-transaction-preserved g c =
    let ts : List (List Put) = c.args.transactions.now in
    let i : ℕ = c.loop-transaction.transaction-index in
    let t : List Put = c.transaction-item.result in
    let puts : List Put = c.as_slice.result.now in
    let within : i < length ts = omega arith in
    let item : get_or ts i t ≡ puts = sym c.transaction-item.is ∙ sym c.as_slice.ensures in
    let long : length (get_or ts i t) ≡ length puts = ap (λ (ps : List Put). length ps) item in
    let more = events-more ts i t within in
    record {
      contents = λ m rest.
          let before = c.loop-transaction.invariant.contents m rest in (
            after_puts before.0 puts,
            c.in-Made.ensures.contents refl before.0 before.1,
            ap (λ (ps : List Put). after_transactions (after_puts before.0 ps) (drop (i + 1) ts)) (sym item)
                ∙ sym (after_transactions-next before.0 ts i t within) ∙ before.2,
          );
      size = c.in-Made.ensures.size ∙ c.loop-transaction.invariant.size;
      commits = omega (arith, c.loop-transaction.invariant.commits);
      made = c.in-Made.ensures.made refl
          ∙ ap (λ (counts : Counts). with_events (length puts + 1) counts) c.loop-transaction.invariant.made
          ∙ ap (λ (n : ℕ). record (g.D.Device.counts c.args.region.now) { events = n }) (omega (arith, more, long));
      spare = omega (arith, c.in-Made.ensures.spare refl, c.loop-transaction.invariant.spare, stores-left ts i t within, long);
    }

pub returns-in-Stopped-clause-stopped : goal.returns-in-Stopped-clause-stopped
returns-in-Stopped-clause-stopped g c = λ k same.
    let ts : List (List Put) = c.args.transactions.now in
    let i : ℕ = c.loop-transaction.transaction-index in
    let t : List Put = c.transaction-item.result in
    let puts : List Put = c.as_slice.result.now in
    let within : i < length ts = omega arith in
    let item : get_or ts i t ≡ t = sym c.transaction-item.is in
    let slice : length puts ≡ length t = ap (λ (ps : List Put). length ps) c.as_slice.ensures in
    let stop = c.in-Stopped.ensures.stopped refl in
    let number : c.loop-transaction.commits ≡ k = cc in (
      event_count (take i ts) + stop.0,
      stops_within ts i k stop.0 t within (sym c.loop-transaction.invariant.commits ∙ number) item (omega (arith, stop.1, slice)),
      stop.2 ∙ ap (λ (counts : Counts). has_stopped (with_events stop.0 counts)) c.loop-transaction.invariant.made
          ∙ ap (λ (n : ℕ). has_stopped (record (g.D.Device.counts c.args.region.now) { events = n })) (omega arith),
    )

pub returns-clause-contents : goal.returns-clause-contents
returns-clause-contents g c = λ whole m rest.
    let before = c.loop-transaction.invariant.contents m rest in
    subst (λ (n : Contents). IsAtRest c.args.root n (g.D.Device.cells c.loop-transaction.region))
    (sym (after_transactions-done before.0 c.args.transactions.now c.loop-transaction.transaction-index (omega arith)) ∙ before.2) before.1
