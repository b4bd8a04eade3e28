-- The events of a migration by their numbers.
use Rattle.std.proofs.Common.{◌≡◌, ℕ, zero, suc, ◌-◌, ◌<◌, ◌≤◌, false, nat_lt, List, map, get_or, ◌++◌, Option, None, Some, refl, sym, ap, ◌∙◌, arith}
use Rattle.std.specs.List.{slice_get}
use Rattle.std.proofs.lemmas.Bool.Decides.{nat_tests}
use Rattle.std.proofs.lemmas.List.FromFn.{get_or-range_with_len}
use Rattle.std.proofs.lemmas.Option.{slice_get-map, slice_get-get_or, slice_get_past}
use Rattle.std.specs.Option.{option_map}
use Rattle.persist_model.specs.declared.event.Event.{Event}
use Rattle.log_clearing.proofs.PlanEvents.{slice_get-left, slice_get-right}
use Rattle.region_layout.specs.declared.layout.Kind.{Kind}
use Rattle.migration.specs.Plan.{reserved_words, reserved_address, store_reserved, migration_plan}
use Rattle.migration.proofs.Plans.{tail}

address_at : (i : ℕ) → i < 21 → get_or reserved_words i 0 ≡ reserved_address i
address_at zero lt = refl
address_at (suc zero) lt = refl
address_at (suc (suc j)) lt =
    let above : nat_lt (suc (suc j)) 2 ≡ false = grind (arith, nat_tests) in
    let back : suc (suc j) - 2 ≡ j = omega arith in
    get_or-range_with_len 13 19 j 0 (omega (arith, lt)) ∙ rw (above, back) refl

reserved_at : (i : ℕ) → i < 21 → slice_get reserved_words i ≡ Some (reserved_address i)
reserved_at i lt = slice_get-get_or reserved_words i 0 lt ∙ ap Some (address_at i lt)

pub store_at : (kinds : List Kind) (i : ℕ) → i < 21 → slice_get (migration_plan kinds) i ≡ Some (store_reserved kinds (reserved_address i))
unfolding migration_plan
store_at kinds i lt =
    slice_get-left (map (store_reserved kinds) reserved_words) tail i lt ∙ slice_get-map (store_reserved kinds) reserved_words i ∙ ap (option_map (store_reserved kinds)) (reserved_at i lt)

pub behind_at : (kinds : List Kind) (i : ℕ) → 21 ≤ i → slice_get (migration_plan kinds) i ≡ slice_get tail (i - 21)
unfolding migration_plan
behind_at kinds i le = slice_get-right (map (store_reserved kinds) reserved_words) tail i le

pub behind_is : (kinds : List Kind) (i j : ℕ) → 21 ≤ i → i - 21 ≡ j → slice_get tail j ≡ slice_get (migration_plan kinds) i
behind_is kinds i j le e = sym (behind_at kinds i le ∙ ap (slice_get tail) e)

pub none_past : (kinds : List Kind) (i : ℕ) → 24 ≤ i → ◌≡◌ {A = Option Event} None (slice_get (migration_plan kinds) i)
unfolding migration_plan
none_past kinds i le = sym (slice_get_past (map (store_reserved kinds) reserved_words ++ tail) i le)
