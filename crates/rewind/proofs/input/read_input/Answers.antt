use Rattle.std.proofs.Common.{◌≡◌, sym, ap, subst, arith, Err, List, ℕ, Option}
use Rattle.rewind.specs.declared.input.Unread.TheVariants.{Failed}
use Rattle.rewind.specs.Call.{Took}
use Rattle.rewind.proofs.Inputs.{took_nothing}
use Rattle.rewind.proofs.input.read_input.Goals as goal

pub loop-source-init : goal.loop-source-init
loop-source-init g c = record {
  took = subst (λ (text : List ℕ). Took (g.S.Source.left c.args.source.now) text (g.S.Source.left c.args.source.now)) (sym c.new-text.ensures.items) (took_nothing (g.S.Source.left c.args.source.now));
  never_fell = omega arith;
  bound = omega (arith, c.new-text.ensures.len);
  chunk = c.in_ok-chunk.ensures.len;
}

pub returns-in-Err-clause-part : goal.returns-in-Err-clause-part
returns-in-Err-clause-part g c = λ failed.
    let unread : c.in-Err.unread ≡ Failed = cc in (
      c.loop-source.text.items,
      subst (λ (left : Option (List ℕ)). Took (g.S.Source.left c.args.source.now) c.loop-source.text.items left) (sym (c.in-Err.ensures.kept (ap Err unread))) c.loop-source.invariant.took,
      (omega arith),
    )
