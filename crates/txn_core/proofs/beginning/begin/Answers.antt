use Rattle.std.proofs.Common.{ℕ, ◌%◌, ◌∙◌, List, length, slice_index, refl, sym, subst}
use Rattle.bucket_log.specs.Reads.{IsLogOfPart}
use Rattle.log_partition.specs.Views.{viewed}
use Rattle.txn_core.specs.Beginning.{waits, holds, begins}
use Rattle.txn_core.proofs.Latches.{part_of_lane, holder_read, same_rows, has_drawn}
use Rattle.txn_core.proofs.Places.{place_inside}
use Rattle.txn_core.proofs.beginning.begin.Goals as goal

pub returns-then-holder-lane-clause-begins : goal.returns-then-holder-lane-clause-begins
returns-then-holder-lane-clause-begins g c =
    holds (holder_read c.args.layout c.args.log.now c.args.lane c.index.result.now c.requires.slots c.index.ensures ∙ c.if-holder-lane.true) refl refl

pub returns-then-holder-ne-NOBODY-clause-begins : goal.returns-then-holder-ne-NOBODY-clause-begins
returns-then-holder-ne-NOBODY-clause-begins g c =
    waits c.index.result.now.holder (holder_read c.args.layout c.args.log.now c.args.lane c.index.result.now c.requires.slots c.index.ensures)
    c.if-holder-ne-NOBODY.true c.if-holder-lane.false refl refl

pub place-requires : goal.place-requires
place-requires g c = subst (λ (xs : List ℕ). IsLogOfPart c.args.layout c.part.result (length xs) (slice_index xs)) (sym c.new-view.ensures)
    (c.requires.logs.logs (c.args.lane % c.args.layout.partitions) c.part.result (part_of_lane c.args.layout c.args.lane) c.part.ensures)

pub returns-in_default-clause-begins : goal.returns-in_default-clause-begins
returns-in_default-clause-begins g c =
    let free = holder_read c.args.layout c.args.log.now c.args.lane c.index.result.now c.requires.slots c.index.ensures ∙ c.if-holder-ne-NOBODY.false in
    absurd (c.requires.room free ((c.place.ensures.none _ (c.args.lane % c.args.layout.partitions) (same_rows _ _ c.new-view.ensures) c.part.ensures).0 c.in_default.is))

pub begin_append-requires-clause-place : goal.begin_append-requires-clause-place
begin_append-requires-clause-place g c = let p = c.args.lane % c.args.layout.partitions in
    place_inside c.args.layout _ _ p c.in-Some.found (c.requires.logs.logs p c.part.result (part_of_lane c.args.layout c.args.lane) c.part.ensures).log
    (part_of_lane c.args.layout c.args.lane)
    (c.in-Some.ensures.next (slice_index (viewed p (g.D.Look.words c.args.device.now))) p (same_rows _ _ c.new-view.ensures) c.part.ensures)

pub returns-clause-begins : goal.returns-clause-begins
returns-clause-begins g c = let p = c.args.lane % c.args.layout.partitions in
    let free = holder_read c.args.layout c.args.log.now c.args.lane c.index.result.now c.requires.slots c.index.ensures ∙ c.if-holder-ne-NOBODY.false in
    begins c.in-Some.found free
    (c.in-Some.ensures.next (slice_index (viewed p (g.D.Look.words c.args.device.now))) p (same_rows _ _ c.new-view.ensures) c.part.ensures)
    (has_drawn c.args.log.now c.take_latch.new.self c.begin_append.new.self p c.args.lane c.in-Some.found c.args.cell c.take_latch.result free
    c.take_latch.ensures.result c.take_latch.ensures.kept c.take_latch.ensures.number c.take_latch.ensures.ledger c.take_latch.ensures.slots
    c.begin_append.ensures.kept c.begin_append.ensures.number c.begin_append.ensures.places c.begin_append.ensures.slots)
    c.pay_record.ensures.is
