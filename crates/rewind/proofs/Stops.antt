-- The words of a stop are those of no other stop.
use Rattle.std.proofs.Common.{◌≡◌, ℕ, List, [], ◌∷◌, drop, length, sym, ◌∙◌, ap, subst, arith, slice_index, Option, Some, None}
use Rattle.persist_model.specs.declared.pick.Pick.{Pick}
use Rattle.persist_model.specs.declared.pick.Pick.TheVariants.{Old, New, Mix}
use Rattle.rewind_script.specs.Text.{number}
use Rattle.image_runner.specs.declared.migrating.Stop.{Stop}
use Rattle.rewind.specs.Words.{IsWordOfPick, AreWordsOfMigrate}

some_number : (m n : ℕ) (r : Option ℕ) → r ≡ Some m → r ≡ Some n → m ≡ n
some_number m n r here there = let e : Some m ≡ Some n = sym here ∙ there in cc

same_pick_of : (p q : Pick) (word : List ℕ) → IsWordOfPick p word → IsWordOfPick q word → p ≡ q
same_pick_of Old Old word here there = λ k. Old
same_pick_of New New word here there = λ k. New
same_pick_of Old New word here there = (let e = ap (λ (w : List ℕ). slice_index w 0) (sym here ∙ there) in absurd (omega (arith, e)))
same_pick_of New Old word here there = (let e = ap (λ (w : List ℕ). slice_index w 0) (sym here ∙ there) in absurd (omega (arith, e)))
same_pick_of Old (Mix n) word here there = (let e = ap (λ (w : List ℕ). slice_index w 0) (sym here ∙ there.1) in absurd (omega (arith, e)))
same_pick_of (Mix m) Old word here there = (let e = ap (λ (w : List ℕ). slice_index w 0) (sym there ∙ here.1) in absurd (omega (arith, e)))
same_pick_of New (Mix n) word here there = (let e = ap (λ (w : List ℕ). slice_index w 0) (sym here ∙ there.1) in absurd (omega (arith, e)))
same_pick_of (Mix m) New word here there = (let e = ap (λ (w : List ℕ). slice_index w 0) (sym there ∙ here.1) in absurd (omega (arith, e)))
same_pick_of (Mix m) (Mix n) word here there =
    let digits : here.0 ≡ there.0 = ap (drop 3) (sym here.1 ∙ there.1) in
    ap Mix (some_number m n (number there.0) (sym (ap number digits) ∙ here.2.spells) there.2.spells)

pub same_stop : (stop other : Option Stop) (words : List (List ℕ)) → AreWordsOfMigrate stop words → AreWordsOfMigrate other words → stop ≡ other
same_stop None None words here there = λ k. None
same_stop None (Some other) words here there = (let e = ap (λ (ws : List (List ℕ)). length ws) (sym here ∙ there.2) in absurd (omega (arith, e)))
same_stop (Some stop) None words here there = (let e = ap (λ (ws : List (List ℕ)). length ws) (sym there ∙ here.2) in absurd (omega (arith, e)))
same_stop (Some stop) (Some other) words here there =
    let whole = sym here.2 ∙ there.2 in
    let events : here.0 ≡ there.0 = second_same _ _ _ _ _ _ whole in
    let pick : here.1 ≡ there.1 = third_same _ _ _ _ _ _ whole in
    λ k. Some (record {
      events = some_number stop.events other.events (number there.0) (sym (ap number events) ∙ here.3.events_are) there.3.events_are k;
      pick = same_pick_of stop.pick other.pick there.1 (subst (λ (word : List ℕ). IsWordOfPick stop.pick word) pick here.3.pick_is) there.3.pick_is k;
    })
  where
    second_same : (a b c x y z : List ℕ) → a ∷ b ∷ c ∷ [] ≡ x ∷ y ∷ z ∷ [] → b ≡ y
    second_same a b c x y z e = cc

    third_same : (a b c x y z : List ℕ) → a ∷ b ∷ c ∷ [] ≡ x ∷ y ∷ z ∷ [] → c ≡ z
    third_same a b c x y z e = cc
