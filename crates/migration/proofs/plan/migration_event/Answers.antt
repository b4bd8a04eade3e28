use Rattle.std.proofs.Common.{sym, ap, Some, ◌∙◌, arith}
use Rattle.persist_model.specs.declared.event.Event.TheVariants.{PStore}
use Rattle.migration.specs.Plan.{reserved_word}
use Rattle.migration.proofs.Numbered.{store_at, behind_is, none_past}
use Rattle.migration.proofs.plan.migration_event.Goals as goal

pub returns-then-i-lt-RESERVED : goal.returns-then-i-lt-RESERVED
returns-then-i-lt-RESERVED c =
    ap (λ v. Some (PStore c.reserved_address-a.result v)) c.reserved_word.ensures
    ∙ ap (λ a. Some (PStore a (reserved_word c.args.kinds.now a))) c.reserved_address-a.ensures ∙ sym (store_at c.args.kinds.now c.args.i c.if-i-lt-RESERVED.true)

pub returns-in-0 : goal.returns-in-0
returns-in-0 c = behind_is c.args.kinds.now c.args.i 0 c.if-i-lt-RESERVED.false c.in-0.is

pub returns-in-1 : goal.returns-in-1
returns-in-1 c = behind_is c.args.kinds.now c.args.i 1 c.if-i-lt-RESERVED.false c.in-1.is

pub returns-in-2 : goal.returns-in-2
returns-in-2 c = behind_is c.args.kinds.now c.args.i 2 c.if-i-lt-RESERVED.false c.in-2.is

pub returns-in_default : goal.returns-in_default
returns-in_default c = (let le = c.if-i-lt-RESERVED.false in none_past c.args.kinds.now c.args.i (omega (arith, le)))
