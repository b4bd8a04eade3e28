-- The keeper's one step behind a last event, and the latches.
use Rattle.std.proofs.Common.{◌≡◌, ℕ, suc, ◌+◌, ◌<◌, false, not, nat_lt, if◌then◌else◌, length, refl, sym, ap, ◌∙◌, subst, arith}
use Rattle.std.proofs.lemmas.Bool.Decides.{nat_tests}
use Rattle.persist_model.specs.Progress.{Tracks}
use Rattle.persist_model.specs.Runs.{progress_at}
use Rattle.bucket_log.specs.Words.{IsPartWord}
use Rattle.log_keeper.specs.Parts.{LogPart, Running, plan_of, waits_for}
use Rattle.log_keeper.specs.Logged.{with_run, one_more, resting, ended, plan_in}
use Rattle.log_keeper.specs.Making.{is_over, settled_by, gone_on}
use Rattle.log_keeper.specs.Laws.{LatchesPass, LastEventsEnd}
use Rattle.log_keeper.proofs.Progressing.{by_part}

here_run : (p : ℕ) (run : Running) (runs : ℕ → Running) → with_run p run runs p ≡ run
here_run p run runs = by_part (λ n t. (if t then run else runs n) ≡ run) p p refl (λ ne. absurd (ne refl))

pub last_events_end : LastEventsEnd
last_events_end shape k p last = record {
  part = ap (λ (r : Running). r.part) here;
  whole = ap (λ (r : Running). r.made) here ∙ next ∙ sym (ap (λ (r : Running). length (plan_of shape p r.part)) here);
  kept = ap (λ t. if not t then ended p (settled_by (k.runs p).part k.ledger) k else gone_on (is_over (plan_in shape k p) ((k.runs p).made + 2)) p (k.runs p) k) off ∙ (λ i. record {
    ledger = settled_by (k.runs p).part k.ledger;
    runs = λ q. by_part (λ n t. (if t then resting else k.runs n) ≡ (if t then resting else (if t then one_more (k.runs p) else k.runs n))) p q refl (λ ne. refl) i;
    holder = k.holder;
  });
}
  where
    here : with_run p (one_more (k.runs p)) k.runs p ≡ one_more (k.runs p)
    here = here_run p (one_more (k.runs p)) k.runs

    next : suc (k.runs p).made ≡ length (plan_in shape k p)
    next = omega (arith, last)

    off : nat_lt ((k.runs p).made + 1) (length (plan_in shape k p)) ≡ false
    off = grind (arith, nat_tests, last)

pub latches_pass : LatchesPass
latches_pass shape base s chains k region p lane free h = record {
  size = h.size;
  allowed = h.allowed;
  has = h.has;
  records = h.records;
  rest = h.rest;
  header = h.header;
  parts = λ q lt. by_part (λ n t. n < shape.partitions → Tracks (IsPartWord shape n) (waits_for (k.runs n).part (if t then lane else k.holder n)) (progress_at base (plan_in shape k n) (k.runs n).made) region) p q
      (λ lt. subst (λ (w : ℕ). Tracks (IsPartWord shape p) w (progress_at base (plan_in shape k p) (k.runs p).made) region) alike (h.parts p lt)) (λ ne lt. h.parts q lt) lt;
  can = h.can;
}
  where
    alike : waits_for (k.runs p).part (k.holder p) ≡ waits_for (k.runs p).part lane
    alike = ap (λ (x : LogPart). waits_for x (k.holder p)) free ∙ sym (ap (λ (x : LogPart). waits_for x lane) free)
