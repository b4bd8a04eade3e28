use Rattle.std.proofs.Common.{◌≡◌, ◌≢◌, ℕ, false, true, arith, get_or}
use Rattle.std.proofs.lemmas.List.{get_or_default}
use Rattle.std.proofs.lemmas.List.Filters.{FiltersInPlace-more_no, FiltersInPlace-more_set}
use Rattle.persist_model.specs.Region.{candidate}
use Rattle.word_region.specs.declared.places.Stored.{Stored}
use Rattle.word_region.specs.Places.{is_elsewhere}
use Rattle.word_region.proofs.places.keep_elsewhere.Goals as goal

-- what a read outside the list would give
abbrev no_store : Stored
no_store = record { address = 0; candidate = candidate 0 0 }

own : (a : ℕ) (s : Stored) → s.address ≡ a → is_elsewhere a s ≡ false
own a s e = grind arith

other : (a : ℕ) (s : Stored) → s.address ≢ a → is_elsewhere a s ≡ true
other a s e = grind arith

pub returns-then-stores-at-clause-filtered : goal.returns-then-stores-at-clause-filtered
returns-then-stores-at-clause-filtered c = λ whole h.
    let ss = c.args.stores.now in
    let s = get_or ss c.args.at no_store in
    FiltersInPlace-more_no {x = s} h c.requires.within (own c.args.address s c.if-stores-at.true) (get_or_default ss c.args.at no_store s c.requires.within)

pub returns-clause-filtered : goal.returns-clause-filtered
returns-clause-filtered c = λ whole h.
    let ss = c.args.stores.now in
    let s = get_or ss c.args.at no_store in
    rw (c.keep_store.ensures no_store)
    (FiltersInPlace-more_set {x = s} h c.requires.within (other c.args.address s c.if-stores-at.false) (get_or_default ss c.args.at no_store s c.requires.within))
