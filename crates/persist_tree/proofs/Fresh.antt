-- A fresh draft of a structure in memory is an empty map.
use Rattle.std.proofs.Common.{◌≡◌, ◌≢◌, ◌⊎◌, inl, inr, ℕ, ◌+◌, ◌*◌, ◌<◌, ◌≤◌, true, false, if◌then◌else◌, nat_lt, List, [], ◌∷◌, ◌++◌, length, refl, sym, subst, ◌∙◌, ap, arith}
use Rattle.std.proofs.lemmas.Bool.Decides.{eqb_tells}
use Rattle.std.proofs.lemmas.Bool.{cases_lt, lt-ltb}
use Rattle.std.proofs.lemmas.List.{get_or_past}
use Rattle.std.specs.Prelude.{slice_index, IsTrue, ◌||◌, Option, Some, None, Result, Ok, Err, IfOk, OnOk, MatchOption}
use Rattle.persist_model.specs.Records.{IsAmong}
use Rattle.persist_model.specs.Chain.{HasNoRepeats, IsAbsent}
use Rattle.lane_traits.specs.Space.{Space, IsOwn, IsDataWordOf, root_block}
use Rattle.lane_traits.specs.Draft.{is_among, of_structure, drafted, AreSetAside}
use Rattle.test_words.specs.Blocks.{AreOthers}
use Rattle.region_layout.specs.TreeMap.{Leaf}
use Rattle.persist_tree.specs.Calls.{HoldsMap, KeepsBlocks, TakesOne, GivesOne}

among_told : (xs : List ℕ) (b : ℕ) → (IsAmong xs b × (is_among xs b ≡ true)) ⊎ ((IsAmong xs b → ⊥) × (is_among xs b ≡ false))
among_told [] b = inr ((λ m. m), refl)
among_told (x ∷ xs) b = elim (eqb_tells b x) [
  | inl e ↦ (let on = e.0 in inl (inl e.1, rw on refl))
  | inr ne ↦ (let off = ne.0 in elim (among_told xs b) [
    | inl m ↦ inl (inr m.0, rw off m.1)
    | inr out ↦ inr ((λ k. elim k [ inl e ↦ ne.1 e | inr m ↦ out.0 m ]), rw off out.1)
  ])
]

-- ---- the words of blocks that are all structure 0's

pub record IsMemory (xs : List ℕ) (n : ℕ) (spare : List ℕ) : Type 0 where
  pub some : 1 ≤ n
  pub few : n ≤ 64
  pub size : length xs ≡ 16 + 16 * n
  pub owners : (k : ℕ) → k < n → slice_index xs (16 + 16 * k) ≡ 1
  pub top_is : slice_index xs 17 ≡ 0
  pub others : AreOthers n spare

abbrev pub memory_space : List ℕ → Space
memory_space xs = record {
  land = record { heap = 16; structure = 0; owner = slice_index xs; start = record { word = slice_index xs; owner = slice_index xs } };
  word = slice_index xs;
  spare = [];
  writes = 0;
}

module _ (xs : List ℕ) (n : ℕ) (spare : List ℕ) (m : IsMemory xs n spare) where
  pub memory_aside : AreSetAside (of_structure 0 (memory_space xs).land) spare
  memory_aside = record {
    own = λ b h. (let k = m.others.each b h in let lt = k.2 in let e = k.3 in let few = m.few in
        (record { number = k.0; place = e; positive = omega (arith, e); fits = omega (arith, e, lt, few) }, ap (slice_index xs) e ∙ m.owners k.0 lt));
    not_root = λ b h e. (let k = m.others.each b h in let some = k.1 in let is = k.3 in omega (arith, e, some, is));
    once = m.others.once;
  }

  pub memory_readable : (a : ℕ) → IsDataWordOf (of_structure 0 (memory_space xs).land) a → IsTrue (nat_lt a (length xs))
  memory_readable a h = elim (cases_lt h.block (length xs)) [
    | inl lt ↦ (let place = h.own.0.place in let size = m.size in let at = h.place in let below = h.below in lt-ltb a (length xs) (omega (arith, lt, place, size, at, below)))
    | inr past ↦ absurd (let none = get_or_past xs h.block 0 past in let owned = h.own.1 in omega (arith, none, owned))
  ]

  owned_root : (b : ℕ) → IsOwn (drafted 0 [] [] spare (memory_space xs)).land b → b ≡ 16
  owned_root b own = elim (among_told spare b) [
    | inl there ↦ absurd (let on = there.1 in let owned : 0 ≡ 1 = rw on at own.1 in omega (arith, owned))
    | inr out ↦
        (let off = out.1 in let owned : slice_index xs b ≡ 1 = rw off at own.1 in
        let place = own.0.place in let size = m.size in
        elim (eqb_tells own.0.number 0) [
          | inl e ↦ (let zero_is = e.1 in omega (arith, place, zero_is))
          | inr ne ↦ absurd (elim (cases_lt b (length xs)) [
            | inl lt ↦ (let apart = ne.1 in out.0 (subst (IsAmong spare) (sym place) (m.others.all own.0.number (omega (arith, apart)) (omega (arith, lt, place, size)))))
            | inr past ↦ (let none = get_or_past xs b 0 past in omega (arith, none, owned))
          ])
        ])
  ]

  pub memory_map : HoldsMap (drafted 0 [] [] spare (memory_space xs)) 16
  memory_map = record {
    contents = [];
    is = record {
      tree = Leaf;
      is = record {
        root_own = (record { number = 0; place = refl; positive = omega arith; fits = omega arith }, root_owner (among_told spare 16));
        top_is = m.top_is;
        laid = tt;
        own = tt;
        once = (tt, tt);
        all = λ b own. inl (owned_root b own);
        ordered = tt;
        balanced = tt;
        filled = tt;
      };
      entries_are = refl;
    };
  }
    where
      root_owner : (IsAmong spare 16 × (is_among spare 16 ≡ true)) ⊎ ((IsAmong spare 16 → ⊥) × (is_among spare 16 ≡ false)) → (if is_among [] 16 || is_among spare 16 then 0 else slice_index xs 16) ≡ 1
      root_owner (inl there) = absurd (let k = m.others.each 16 there.0 in let some = k.1 in let is = k.3 in omega (arith, some, is))
      root_owner (inr out) = let off = out.1 in rw off (m.owners 0 (let some = m.some in omega (arith, some)))

-- ---- the root stays where it is

module _ {E : Type 0} (s u : Space) where
  pub root_put : (r : Result (Option ℕ) E) → IfOk r (λ before. MatchOption before (TakesOne s u) (λ _. KeepsBlocks s u)) → root_block s.land ≡ 16
      → OnOk r (root_block u.land ≡ 16)
  root_put (Ok None) took is = ap root_block took.land ∙ is
  root_put (Ok (Some v)) kept is = ap root_block kept.land ∙ is
  root_put (Err e) _ is = tt

  pub root_removed : (r : Result (Option ℕ) E) → IfOk r (λ before. MatchOption before (KeepsBlocks s u) (λ _. GivesOne s u)) → root_block s.land ≡ 16
      → OnOk r (root_block u.land ≡ 16)
  root_removed (Ok None) kept is = ap root_block kept.land ∙ is
  root_removed (Ok (Some v)) gave is = ap root_block gave.land ∙ is
  root_removed (Err e) _ is = tt
