use Rattle.std.proofs.Common.{◌∙◌, ◌<◌, sym, ap, subst, arith, length, List}
use Rattle.std.proofs.lemmas.List.Elements.{All-get_or}
use Rattle.rewind.specs.declared.script.Put.{Put}
use Rattle.rewind.specs.Served.{IsTransaction}
use Rattle.rewind.proofs.Runs.{stores-more, all_stores}
use Rattle.rewind.proofs.run.count_stores.Goals as goal

pub overflow_add-stores : goal.overflow_add-stores
overflow_add-stores c =
    let i = c.loop-transaction.transaction-index in
    let within : i < length c.args.transactions.now = omega arith in
    let t : List Put = c.transaction-item.result in
    let limits : IsTransaction t = subst IsTransaction (sym c.transaction-item.is) (All-get_or IsTransaction c.args.transactions.now i t within c.requires.each) in
    omega (arith, limits.short, c.loop-transaction.invariant.bound, c.requires.short)

pub loop-transaction-preserved : goal.loop-transaction-preserved
loop-transaction-preserved c =
    let i = c.loop-transaction.transaction-index in
    let within : i < length c.args.transactions.now = omega arith in
    let t : List Put = c.transaction-item.result in
    let item = ap (λ (ps : List Put). length ps) c.transaction-item.is in
    let limits : IsTransaction t = subst IsTransaction (sym c.transaction-item.is) (All-get_or IsTransaction c.args.transactions.now i t within c.requires.each) in
    record {
      counted = omega (arith, stores-more c.args.transactions.now i t within, c.loop-transaction.invariant.counted, item);
      bound = omega (arith, limits.short, c.loop-transaction.invariant.bound);
    }

pub returns : goal.returns
returns c = c.loop-transaction.invariant.counted ∙ all_stores c.args.transactions.now c.loop-transaction.transaction-index (omega arith)
