use Rattle.std.proofs.Common.{◌≡◌, ℕ, ◌+◌, ◌*◌, ◌-◌, ◌/◌, ◌%◌, ◌<◌, length, ap, sym, ◌∙◌, arith, Some, get_or}
use Rattle.std.proofs.lemmas.Option.{slice_get-get_or}
use Rattle.region_layout.specs.declared.cell.Cell.{Cell}
use Rattle.persist_model.specs.declared.event.Event.TheVariants.{PStore}
use Rattle.persist_model.specs.ImageRecords.{cell_address}
use Rattle.batch_log.proofs.Events.{bucket_word, bucket_closed, bucket_put}
use Rattle.batch_log.proofs.grouping.bucket_event.Goals as goal

abbrev no_cell : Cell
no_cell = record { lsn = 0; transaction = 0; kind = 0; word = 0; before = 0; after = 0; undo_next = 0; outcome = 0 }

pub returns-then-i-filled : goal.returns-then-i-filled
returns-then-i-filled c =
    let few = c.requires.few in
    let below = c.if-i-filled.true in
    let lt : c.args.i / 8 < length c.args.records.now = omega (arith, below) in
    ap (λ v. Some (PStore (c.args.bucket + 8 + c.args.i) v)) c.cell_word.ensures
    ∙ sym (bucket_word c.args.layout.cells c.args.bucket c.args.tail c.args.records.now c.args.i few (c.args.i / 8) (c.args.i % 8)
    (get_or c.args.records.now (c.args.i / 8) no_cell) (omega arith) lt (slice_get-get_or c.args.records.now (c.args.i / 8) no_cell lt) (omega arith))

pub returns-then-after-closed : goal.returns-then-after-closed
returns-then-after-closed c =
    let over = c.if-i-filled.false in
    let below = c.if-after-closed.true in
    let few = c.requires.few in
    let n : ℕ = length c.args.records.now in
    let at : c.args.bucket + 8 + 8 * n + 8 * (c.args.i - 8 * n) ≡ cell_address c.args.bucket (n + (c.args.i - 8 * n)) = omega arith in
    ap (λ a. Some (PStore a 0)) at
    ∙ sym (bucket_closed c.args.layout.cells c.args.bucket c.args.tail c.args.records.now c.args.i few (n + (c.args.i - 8 * n)) (omega arith) (omega (arith, below, few)) (omega (arith, over)))

pub returns : goal.returns
returns c =
    let over = c.if-i-filled.false in
    let past = c.if-after-closed.false in
    let few = c.requires.few in
    let n : ℕ = length c.args.records.now in
    c.insert_event.ensures
    ∙ sym (bucket_put c.args.layout.cells c.args.bucket c.args.tail c.args.records.now c.args.i few (c.args.i - 8 * n - (c.args.layout.cells - n)) (omega (arith, over, past, few)))
