use Rattle.std.proofs.Common.{◌≡◌, ℕ, ◌+◌, ◌*◌, ◌/◌, ◌≤◌, length, ap, sym, subst, ◌∙◌, arith}
use Rattle.std.proofs.Math.Nat.{mul-le-mul_right}
use Rattle.batch_log.proofs.GroupEvents.{group_past, event_by, tail_first, tail_later}
use Rattle.bucket_log.proofs.NextPlaces.{some_cells}
use Rattle.batch_log.proofs.grouping.group_event.Goals.{then-number-eq0, else-number-eq0}
use Rattle.batch_log.proofs.grouping.group_event.Goals as goal

pub returns-then-i-full : goal.returns-then-i-full
returns-then-i-full c =
    let size = ap length c.buckets-buckets.ensures in
    let from = c.from.ensures in
    let over = c.if-i-full.true in
    let full : ℕ = 11 + 8 * c.args.layout.cells in
    let same : 11 + 8 * c.from.result ≡ full = omega (arith, from) in
    sym (group_past c.args.layout.cells c.args.s.now.tail c.args.s.now.buckets c.args.g.now.records c.args.i
    (past c.args.i full (length c.args.s.now.buckets) (omega arith) (subst (λ n. length c.args.s.now.buckets ≤ c.args.i / n) same (omega (arith, size, over)))))
  where
    past : (i full n : ℕ) → 1 ≤ full → n ≤ i / full → n * full ≤ i
    past i full n some le =
        let q : ℕ = i / full in
        let whole : q * full ≤ i = omega (arith, some) in
        let more = mul-le-mul_right {m = n} {n = q} full le in
        omega (arith, whole, more)

pub returns : goal.returns
returns c =
    event_by c.args.layout.cells c.args.s.now.tail c.args.i c.args.s.now.buckets c.args.g.now.records c.from.result c.if-number-eq0.tail c.min-to.result
    c.buckets-buckets.result.now c.as_slice-records.result.now c.bucket_event.result (some_cells c.args.layout) c.requires.enough c.from.ensures c.buckets-buckets.ensures c.as_slice-records.ensures
    (elim c.if-number-eq0.branch [
      | then-number-eq0 w ↦ tail_first c.args.s.now.tail c.if-number-eq0.tail (c.args.i / (11 + 8 * c.from.result)) c.buckets-buckets.result.now w.if-number-eq0.true (w.tail-is ∙ w.tail-tail.ensures)
      | else-number-eq0 w ↦ tail_later c.args.s.now.tail c.if-number-eq0.tail (c.args.i / (11 + 8 * c.from.result)) c.buckets-buckets.result.now w.if-number-eq0.false w.tail-is
    ])
    c.min-to.ensures
    c.if-i-full.false
    c.bucket_event.ensures
