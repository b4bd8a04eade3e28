-- A fresh draft of a structure in memory is an empty map.
use Rattle.std.proofs.Common.{◌≡◌, ◌≢◌, inl, inr, ℕ, Bool, true, false, if◌then◌else◌, nat_lt, List, [], length, replicate, get_or, slice_set, None, refl, sym, subst, ◌∙◌, ap, arith, lt-ltb}
use Rattle.std.proofs.lemmas.Bool.Decides.{eqb_tells}
use Rattle.std.proofs.lemmas.Bool.{cases_lt}
use Rattle.std.specs.Prelude.{slice_index, IsTrue}
use Rattle.std.proofs.lemmas.List.{get_or_past, get_or-set_other, get_or-replicate}
use Rattle.persist_model.specs.Region.{Words}
use Rattle.lane_traits.specs.Space.{Space, IsDataWordOf}
use Rattle.lane_traits.specs.Draft.{drafted, of_structure, AreSetAside}
use Rattle.region_layout.specs.CellsMap.{cell_of, value_or_none, cell_value}
use Rattle.persist_cells.specs.Calls.{HoldsMap}

abbrev pub memory_space : List ℕ → Space
memory_space xs = record {
  land = record { heap = 16; structure = 0; owner = slice_index xs; start = record { word = slice_index xs; owner = slice_index xs } };
  word = slice_index xs;
  spare = [];
  writes = 0;
}

no_value : (w : Words) (key : ℕ) → w (cell_of 16 key) ≡ 0 → None ≡ cell_value w 16 key
no_value w key e = step (nat_lt key 12)
  where
    step : (t : Bool) → None ≡ (if t then value_or_none (w (cell_of 16 key)) else None)
    step true = rw e refl
    step false = refl

module _ (xs : List ℕ) (root : slice_index xs 16 ≡ 1) (others : (a : ℕ) → a ≢ 16 → slice_index xs a ≡ 0) where
  pub memory_map : HoldsMap (drafted 0 [] [] [] (memory_space xs)) 16
  memory_map = record {
    contents = [];
    is = record {
      root_own = (record { number = 0; place = refl; positive = omega arith; fits = omega arith }, root);
      alone = λ b own. elim (eqb_tells b 16) [
        | inl e ↦ e.1
        | inr ne ↦ absurd (let none = others b ne.1 in let owned = own.1 in omega (arith, none, owned))
      ];
      ascending = tt;
      lookup_is = λ key. no_value (slice_index xs) key (others (cell_of 16 key) (λ e. omega (arith, e)));
    };
  }

  pub memory_map_by : (spare : List ℕ) → spare ≡ [] → HoldsMap (drafted 0 [] [] spare (memory_space xs)) 16
  memory_map_by spare e = subst (λ (ys : List ℕ). HoldsMap (drafted 0 [] [] ys (memory_space xs)) 16) (sym e) memory_map

  pub memory_readable : length xs ≡ 32 → (a : ℕ) → IsDataWordOf (of_structure 0 (memory_space xs).land) a → IsTrue (nat_lt a (length xs))
  memory_readable size a h = elim (eqb_tells h.block 16) [
    | inl e ↦ (let is = e.1 in let at = h.place in let below = h.below in lt-ltb a (length xs) (omega (arith, is, at, below, size)))
    | inr ne ↦ absurd (let none = others h.block ne.1 in let owned = h.own.1 in omega (arith, none, owned))
  ]

pub none_aside : (s : Space) → AreSetAside (of_structure 0 s.land) []
none_aside s = record { own = λ b m. absurd m; not_root = λ b m. absurd m; once = tt }
