-- A root block of zeros is an empty map.
use Rattle.std.proofs.Common.{◌≡◌, inl, ⊎_elim, ℕ, ◌+◌, ◌*◌, ◌/◌, ◌<◌, ◌≤◌, Bool, true, false, if◌then◌else◌, nat_lt, List, [], ◌∷◌, ◌++◌, refl, sym, subst, ◌∙◌, ap, arith, ltb-true}
use Rattle.std.specs.Prelude.{◌||◌, Option, Some, None, Result, Ok, Err, IfOk, OnOk, MatchOption}
use Rattle.std.proofs.lemmas.Bool.Decides.{nat_tests, eqb_tells}
use Rattle.persist_model.specs.Region.{Words}
use Rattle.persist_model.specs.Records.{IsAmong}
use Rattle.persist_model.specs.Chain.{HasNoRepeats}
use Rattle.lane_traits.specs.Space.{Land, Space, IsOwn, root_block, taken}
use Rattle.lane_traits.specs.Draft.{is_among, of_structure, drafted, AreSetAside}
use Rattle.lane_traits.specs.DraftLaws.{of_among, owner_of}
use Rattle.lane_traits.proofs.Among.{among_of}
use Rattle.test_words.specs.Blocks.{AreOthers}
use Rattle.region_layout.specs.HashMap.{Chains, IsHashMap}
use Rattle.persist_hash.specs.Calls.{HasMap, Took, GivesBlock}
use Rattle.persist_hash.proofs.Blocks.{IsPlaced, of_placed}
use Rattle.persist_hash.proofs.Places.{index_below, none_is}

none_at_all : Chains
none_at_all c = []

empty_placed : (land : Land) (w : Words) (root : ℕ) → IsOwn land root → ((d : ℕ) → d < 8 → w (root + 1 + d) ≡ 0) → ((b : ℕ) → IsOwn land b → b ≡ root)
    → IsPlaced land w root none_at_all
unfolding none_at_all
empty_placed land w root own zero_is alone = record {
  root_own = own;
  laid = λ c lt. none_is w root c (zero_is (c / 8) (index_below c lt));
  own_directory = λ d lt some. absurd (some (zero_is d lt));
  own_node = λ c b lt h. absurd h;
  root_no_directory = λ d lt e. let z = zero_is d lt in let p = own.0.positive in omega (arith, e, z, p);
  root_no_node = λ c lt h. h;
  directories_once = λ d e ld le ne some. absurd (some (zero_is d ld));
  directory_no_node = λ d c ld lc h. h;
  nodes_once = λ c lt. tt;
  nodes_apart = λ c d lc ld ne b h k. h;
  all = λ b has. inl (alone b has);
  in_chain = λ c lt. tt;
  keys_once = λ c lt. tt;
  filled = λ c lt. tt;
}

pub empty_map : (land : Land) (w : Words) (root : ℕ) → IsOwn land root → ((d : ℕ) → d < 8 → w (root + 1 + d) ≡ 0) → ((b : ℕ) → IsOwn land b → b ≡ root)
    → IsHashMap land w root []
unfolding none_at_all
empty_map land w root own zero_is alone = record {
  chains = none_at_all;
  is = of_placed land w root none_at_all (empty_placed land w root own zero_is alone);
  ascending = tt;
  lookup_is = λ key. refl;
}

-- ---- a draft over words that are all 0

abbrev pub blank_owner : ℕ → ℕ → ℕ
blank_owner n b = if nat_lt b (16 + 16 * n) then 1 else 0

abbrev pub blank_space : ℕ → Space
blank_space n = record {
  land = record { heap = 16; structure = 0; owner = blank_owner n; start = record { word = λ a. 0; owner = blank_owner n } };
  word = λ a. 0;
  spare = [];
  writes = 0;
}

owned_below : (n b : ℕ) → b < 16 + 16 * n → blank_owner n b ≡ 1
owned_below n b lt = let on : nat_lt b (16 + 16 * n) ≡ true = grind (arith, nat_tests) in rw on refl

below_owned : (n b : ℕ) → blank_owner n b ≡ 1 → b < 16 + 16 * n
below_owned n b e = step (nat_lt b (16 + 16 * n)) refl e
  where
    step : (t : Bool) → nat_lt b (16 + 16 * n) ≡ t → ◌≡◌ {A = ℕ} (if t then 1 else 0) 1 → b < 16 + 16 * n
    step true on h = ltb-true b (16 + 16 * n) on
    step false off h = absurd (let z : 0 ≡ 1 = h in omega (arith, z))

pub blank_aside : (n : ℕ) (spare : List ℕ) → n ≤ 64 → AreOthers n spare → AreSetAside (of_structure 0 (blank_space n).land) spare
blank_aside n spare few h = record {
  own = λ b among. let at = h.each b among in let lt = at.2 in let e = at.3 in
      (record { number = at.0; place = e; positive = omega (arith, e); fits = omega (arith, e, lt, few) }, owned_below n b (omega (arith, e, lt)));
  not_root = λ b among e. let at = h.each b among in let some = at.1 in let is = at.3 in omega (arith, e, some, is);
  once = h.once;
}

not_both : (t : Bool) → t ≡ true → t ≡ false → ⊥
not_both t on off = let e : true ≡ false = sym on ∙ off in cc

pub blank_map : (n : ℕ) (spare : List ℕ) → 1 ≤ n → AreOthers n spare → HasMap (drafted 0 [] [] spare (blank_space n)) 16
blank_map n spare some h = record {
  contents = [];
  holds = empty_map (drafted 0 [] [] spare (blank_space n)).land (λ a. 0) 16
      (record { number = 0; place = refl; positive = omega arith; fits = omega arith }, root_owner (is_among spare 16) refl)
      (λ d lt. refl) alone;
}
  where
    root_owner : (t : Bool) → is_among spare 16 ≡ t → (if is_among [] 16 || t then 0 else blank_owner n 16) ≡ 1
    root_owner true on = absurd (let at = h.each 16 (among_of spare 16 on) in let pos = at.1 in let e = at.3 in omega (arith, pos, e))
    root_owner false off = owned_below n 16 (omega (arith, some))

    alone : (b : ℕ) → IsOwn (drafted 0 [] [] spare (blank_space n)).land b → b ≡ 16
    alone b own =
        let parts = owner_of (is_among [] b) (is_among spare b) (blank_owner n b) 0 own.1 in
        let lt = below_owned n b parts.2 in
        let place = own.0.place in
        ⊎_elim
        (λ zero_is. let z = zero_is.1 in omega (arith, place, z))
        (λ positive. absurd (let ne = positive.1 in
        not_both (is_among spare b) (of_among spare b (subst (IsAmong spare) (sym place) (h.all own.0.number (omega (arith, ne)) (omega (arith, lt, place))))) parts.1))
        (eqb_tells own.0.number 0)

-- ---- the root stays where it is

pub root_took : (bs : List ℕ) (s u : Space) → Took bs s u → root_block u.land ≡ root_block s.land
root_took [] s u h = ap root_block h.0
root_took (b ∷ bs) s u h = root_took bs (taken b s) u h.1

pub root_removed : {E : Type 0} (s u : Space) (r : Result (Option ℕ) E) → IfOk r (λ before. MatchOption before (u ≡ s) (λ _. GivesBlock s u)) → root_block s.land ≡ 16
    → OnOk r (root_block u.land ≡ 16)
root_removed s u (Ok None) same is = ap (λ (t : Space). root_block t.land) same ∙ is
root_removed s u (Ok (Some v)) gave is = ap root_block gave.land ∙ is
root_removed s u (Err e) _ is = tt
