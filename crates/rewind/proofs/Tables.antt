-- A step of filling a table.
use Rattle.std.proofs.Common.{◌≡◌, ℕ, ◌+◌, ◌<◌, ◌≤◌, List, length, ◌∙◌, ap, Option, Some, None, add-one, arith, get_or, set, drop, ⊎_elim}
use Rattle.std.proofs.lemmas.List.{get_or-set_same, get_or-set_other, drop_all}
use Rattle.std.proofs.lemmas.Bool.Decides.{eqb_tells}
use Rattle.std.proofs.Math.Seq.{drop-cons}
use Rattle.rewind.specs.declared.script.Put.{Put}
use Rattle.rewind.specs.History.{Contents, put_in, after_puts, after_transactions}
use Rattle.rewind.specs.Table.{IsTableOf}

pub put_next : (n : Contents) (p : Put) (table : List (Option ℕ)) → length table ≡ 12 → p.key < 12 → IsTableOf n table → IsTableOf (put_in n p) (set table p.key (Some p.value))
put_next n p table long within is = λ k below. ⊎_elim
    (λ same. rw same.0 (ap (λ j. get_or (set table p.key (Some p.value)) j None) same.1 ∙ get_or-set_same table p.key (Some p.value) None (omega arith)))
    (λ other. rw other.0 (get_or-set_other table p.key k (Some p.value) None other.1 ∙ is k below))
    (eqb_tells k p.key)

pub after_puts-next : (n : Contents) (ps : List Put) (i : ℕ) (d : Put) → i < length ps → after_puts n (drop i ps) ≡ after_puts (put_in n (get_or ps i d)) (drop (i + 1) ps)
after_puts-next n ps i d within = rw add-one (ap (after_puts n) (drop-cons ps i d within))

pub after_puts-done : (n : Contents) (ps : List Put) (i : ℕ) → length ps ≤ i → after_puts n (drop i ps) ≡ n
after_puts-done n ps i past = ap (after_puts n) (drop_all i ps past)

pub after_transactions-next : (n : Contents) (ts : List (List Put)) (i : ℕ) (d : List Put) → i < length ts
    → after_transactions n (drop i ts) ≡ after_transactions (after_puts n (get_or ts i d)) (drop (i + 1) ts)
after_transactions-next n ts i d within = rw add-one (ap (after_transactions n) (drop-cons ts i d within))

pub after_transactions-done : (n : Contents) (ts : List (List Put)) (i : ℕ) → length ts ≤ i → after_transactions n (drop i ts) ≡ n
after_transactions-done n ts i past = ap (after_transactions n) (drop_all i ts past)
