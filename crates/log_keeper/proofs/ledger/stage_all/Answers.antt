use Rattle.std.proofs.Common.{◌<◌, ap, ◌∙◌, arith, length, get_or, set}
use Rattle.std.proofs.lemmas.List.{get_or_default}
use Rattle.std.proofs.lemmas.List.Edits.{map_over_more}
use Rattle.log_keeper.specs.declared.ledger.Progress.TheVariants.{Drawn}
use Rattle.log_keeper.specs.declared.ledger.Entry.{Entry}
use Rattle.log_keeper.specs.Noting.{staged_entry}
use Rattle.log_keeper.proofs.ledger.stage_all.Goals as goal

abbrev no_entry : Entry
no_entry = record {
  lane = 0;
  placed = record { at = 0; cell = record { lsn = 0; transaction = 0; kind = 0; word = 0; before = 0; after = 0; undo_next = 0; outcome = 0 } };
  stage = Drawn;
}

pub loop-entry-preserved : goal.loop-entry-preserved
loop-entry-preserved c =
    let s = c.loop-entry.entries in
    let i = c.loop-entry.entry-index in
    let within : i < length s = omega arith in
    let x = get_or s i no_entry in
    ap (set s i) c.staged.ensures
    ∙ map_over_more (staged_entry c.args.number c.args.stage) c.args.entries.now s i x c.loop-entry-test.true c.loop-entry.invariant (get_or_default s i no_entry x within)
