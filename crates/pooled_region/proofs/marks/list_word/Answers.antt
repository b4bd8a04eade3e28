use Rattle.std.proofs.Common.{◌≡◌, ◌+◌, ◌≤◌, ℕ, true, false, List, length, sym, subst, arith}
use Rattle.pooled_region.specs.Marks.{IsListed}
use Rattle.pooled_region.proofs.Listed.{listed_more, listed_room}
use Rattle.pooled_region.proofs.marks.list_word.Goals as goal

absent : (listed read positions : List ℕ) (a : ℕ) → read ≡ listed → (IsListed read positions a → false ≡ true) → IsListed listed positions a → ⊥
absent listed read positions a same none is = let e : false ≡ true = none (subst (λ xs. IsListed xs positions a) (sym same) is) in cc

pub append-requires : goal.append-requires
append-requires c =
    let not_there = absent c.args.listed.now.items c.deref.result.now c.args.positions.now c.args.address c.deref.ensures.value c.if-is_listed.ensures.1 in
    let room : length c.args.listed.now.items + 1 ≤ length c.args.positions.now = listed_room c.args.listed.now.items c.args.positions.now c.args.address c.requires.listed not_there c.requires.address in
    record { room = omega (arith, c.args.listed.now.ok.0, c.requires.room) }

pub returns-clause-listed : goal.returns-clause-listed
returns-clause-listed c =
    let not_there = absent c.args.listed.now.items c.deref.result.now c.args.positions.now c.args.address c.deref.ensures.value c.if-is_listed.ensures.1 in
    let count : c.len.result ≡ length c.args.listed.now.items = omega (arith, c.args.listed.now.ok.0) in
    rw (c.append.ensures.items, count) (listed_more c.args.listed.now.items c.args.positions.now c.args.address c.requires.listed not_there c.requires.address)
