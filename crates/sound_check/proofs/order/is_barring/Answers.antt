use Rattle.std.proofs.Common.{◌==◌, ◌&&◌, ◌||◌, not, ap, ◌∙◌}
use Rattle.persist_model.specs.Need.{has_kind_of}
use Rattle.bucket_log.specs.Scans.{record_of_placed}
use Rattle.sound_check.specs.Barring.{names_word}
use Rattle.sound_check.proofs.order.is_barring.Goals as goal

pub returns : goal.returns
returns c = λ part log whole. let own = c.of.ensures.summary part log whole in
    c.bars.ensures
    ∙ ap (λ b. (names_word (record_of_placed c.args.s.now) && not b) || ((c.args.s.now.cell.kind == 6) && c.of.result.has_commit)) own.end
    ∙ ap (λ b. (names_word (record_of_placed c.args.s.now) && not (has_kind_of c.args.s.now.cell.transaction 4 log)) || ((c.args.s.now.cell.kind == 6) && b)) own.commit
