-- A deed on two small heaps, each with a structure of cells.
use Rattle.std.proofs.Common.{◌≡◌, ◌≢◌, ⊎_elim, ℕ, zero, suc, ◌+◌, ◌%◌, ◌^◌, ◌<◌, ◌==◌, Bool, true, false, if◌then◌else◌, nat_lt, [], ◌∷◌, Option, Some, None, refl, sym, ap, subst, arith}
use Rattle.std.proofs.lemmas.Bool.Decides.{eqb_tells, nat_tests}
use Rattle.std.proofs.Math.Nat.{div-eq_of_lt, two-pow-succ}
use Rattle.std.proofs.lemmas.Nat.{pow_pos}
use Rattle.lane_types.specs.Heaps.{Heap, has_bit}
use Rattle.region_layout.specs.declared.layout.Kind.TheVariants.{Cells}
use Rattle.region_layout.specs.FiniteMap.{lookup}
use Rattle.region_layout.specs.HeapBlocks.{land_of}
use Rattle.region_layout.specs.Contents.{IsMapOf}
use Rattle.region_layout.specs.CellsMap.{IsCellsMap, cell_value, value_or_none}
use Rattle.rewind_script.specs.declared.script.Command.TheVariants as command
use Rattle.map_deeds.specs.declared.deed.MapDeed.{MapDeed}
use Rattle.map_deeds.specs.Maps.{empty_maps, after_transaction}
use Rattle.map_deeds.specs.Meanings.{words_of, kind_at, Means}

-- one block, at address 32, of structure 0: key 3 has the word 39, and the other cells are 0
abbrev small : ℕ → Heap
small v = record { start = 32; blocks = 1; at = λ a. if a == 32 then 1 else (if a == 39 then v else 0) }

alone : (v b : ℕ) → v ≢ 1 → words_of (small v) b ≡ 1 → b ≡ 32
alone v b other e = grind (arith, nat_tests, e)

cell_else : (v key : ℕ) → key ≢ 3 → words_of (small v) (36 + key) ≡ 0
cell_else v key other = grind (arith, nat_tests)

pub none_else : (t : Bool) (x : ℕ) → x ≡ 0 → None ≡ (if t then value_or_none x else None)
none_else true x e = ap value_or_none (sym e)
none_else false x e = refl

empty_cells : IsCellsMap (land_of 32 (words_of (small 0)) 0) (words_of (small 0)) 32 []
empty_cells = record {
  root_own = (record { number = 0; place = refl; positive = omega arith; fits = omega arith }, refl);
  alone = λ b own. alone 0 b (λ e. absurd (omega (arith, e))) own.1;
  ascending = tt;
  lookup_is = λ key. ⊎_elim
      (λ (t : ((key == 3) ≡ true) × (key ≡ 3)). subst (λ k. None ≡ cell_value (words_of (small 0)) 32 k) (sym t.1) refl)
      (λ (t : ((key == 3) ≡ false) × (key ≢ 3)). none_else (nat_lt key 12) _ (cell_else 0 key t.1))
      (eqb_tells key 3);
}

one_cell : IsCellsMap (land_of 32 (words_of (small 7)) 0) (words_of (small 7)) 32 ((3, 7) ∷ [])
one_cell = record {
  root_own = (record { number = 0; place = refl; positive = omega arith; fits = omega arith }, refl);
  alone = λ b own. alone 7 b (λ e. absurd (omega (arith, e))) own.1;
  ascending = (tt, tt);
  lookup_is = λ key. ⊎_elim
      (λ (t : ((key == 3) ≡ true) × (key ≡ 3)). subst (λ k. lookup k ((3, 7) ∷ []) ≡ cell_value (words_of (small 7)) 32 k) (sym t.1) refl)
      (λ (t : ((key == 3) ≡ false) × (key ≢ 3)). rw t.0 (none_else (nat_lt key 12) _ (cell_else 7 key t.1)))
      (eqb_tells key 3);
}

abbrev deed : Option ℕ → MapDeed
deed got = record {
  set = 1;
  kinds = Cells ∷ [];
  steps = record { command = command.Put 0 3 7; got = None } ∷ record { command = command.Get 0 3; got = got } ∷ [];
}

pub first_only : (s : ℕ) → has_bit 1 s ≡ true → s ≡ 0
first_only zero e = refl
first_only (suc n) e =
    let great : 1 < 2 ^ suc n = omega (arith, pow_pos n, two-pow-succ n) in
    let no : (0 % 2 == 1) ≡ true = subst (λ q. (q % 2 == 1) ≡ true) (div-eq_of_lt great) e in
    absurd cc

means : Means (deed (Some 7)) (small 0) (small 7)
means = record {
  maps = empty_maps;
  before_are = λ s e. subst (λ t. IsMapOf (kind_at (Cells ∷ []) t) 32 (words_of (small 0)) t []) (sym (first_only s e)) empty_cells;
  after_are = λ s e. subst (λ t. IsMapOf (kind_at (Cells ∷ []) t) 32 (words_of (small 7)) t (after_transaction empty_maps (command.Put 0 3 7 ∷ command.Get 0 3 ∷ []) t)) (sym (first_only s e)) one_cell;
  replies_are = refl;
}
