use Rattle.std.proofs.Common.{◌≡◌, ◌<◌, ◌∙◌, sym, ap, arith, get_or, length}
use Rattle.std.proofs.lemmas.List.Elements.{All-get_or}
use Rattle.rewind.specs.declared.script.Put.{Put}
use Rattle.rewind.specs.Served.{IsPut}
use Rattle.rewind.specs.History.{put_in, Contents}
use Rattle.rewind.proofs.Tables.{put_next, after_puts-next, after_puts-done}
use Rattle.rewind.proofs.table.put_all.Goals as goal

pub loop-put-preserved : goal.loop-put-preserved
loop-put-preserved c = λ m is.
    let before = c.loop-put.invariant m is in
    let blank : Put = record { key = 0; value = 0 } in
    let p : Put = get_or c.args.puts.now c.loop-put.put-index blank in
    let within : c.loop-put.put-index < length c.args.puts.now = omega arith in
    let limits : IsPut p = All-get_or IsPut c.args.puts.now c.loop-put.put-index blank within c.requires.puts in
    let long : length c.loop-put.table ≡ 12 = omega arith in (
      put_in before.0 p,
      put_next before.0 p c.loop-put.table long limits.key before.1,
      sym (after_puts-next before.0 c.args.puts.now c.loop-put.put-index blank within) ∙ before.2,
    )

pub returns : goal.returns
returns c = λ m is k below.
    let before = c.loop-put.invariant m is in
    before.1 k below ∙ ap (λ (f : Contents). f k) (sym (after_puts-done before.0 c.args.puts.now c.loop-put.put-index (omega arith)) ∙ before.2)
