-- Words that agree on the list words have the same list, and so the same chain and the same repair.
use Rattle.std.proofs.Common.{◌≡◌, inl, ℕ, ◌+◌, ◌<◌, ◌==◌, if◌then◌else◌, List, refl, sym, ◌∙◌, subst, arith}
use Rattle.persist_model.specs.Region.{Words}
use Rattle.persist_model.specs.Shape.{Shape, shape_of, IsBucketOf, SECOND_MAGIC}
use Rattle.persist_model.specs.Chain.{HEAD, last_or}
use Rattle.atomic_list.specs.declared.repairing.Repair.{Repair}
use Rattle.atomic_list.specs.declared.repairing.Repair.TheVariants.{Nothing, Append, Remove as TakeOut}
use Rattle.atomic_list.specs.Plans.{repair_asked}
use Rattle.atomic_list.specs.Rules.{IsList, at_rest, appending, removing, IsListWord}
use Rattle.atomic_list.specs.Walk.{chain_of}
use Rattle.atomic_list.specs.Reads.{HasList, SameLog}
use Rattle.atomic_list.proofs.Splits.{Each-left, Each-right}
use Rattle.atomic_list.proofs.Preparing.{register, link_word, last_link}
use Rattle.atomic_list.proofs.LinkingWords.{appending-linking}
use Rattle.atomic_list.proofs.Removing.{back_word, removing-unlinking}
use Rattle.atomic_list.proofs.Removals.{words_apart}
use Rattle.atomic_list.proofs.Repairs.{still}
use Rattle.atomic_list.proofs.RulesToCases.{list_of_rules}
use Rattle.atomic_list.proofs.Walks.{chain_of_list}
use Rattle.atomic_list.proofs.Fits.{asked_fit, list_words_fit}

pub lists_agree : (shape : Shape) (part : ℕ) (w v : Words) (xs : List ℕ) → ((a : ℕ) → IsListWord shape part a → v a ≡ w a) → IsList shape part w xs → IsList shape part v xs
lists_agree shape part w v xs same (at_rest h) = at_rest (still shape part w v xs h same)
lists_agree shape part w v xs same (appending front node h e) =
    let link = link_word shape part (last_or HEAD front) (last_link shape part node front h.bucket h.buckets h.absent).high in
    appending front node (appending-linking shape part w v front node h (λ a m _ _ _. same a m)
    (inl (same (last_or HEAD front) link), inl (same 9 (register shape part 9 (omega arith) (omega arith))))
    (same 10 (register shape part 10 (omega arith) (omega arith)))) e
lists_agree shape part w v xs same (removing front node rest h e) =
    let apart = words_apart shape part front rest (Each-left (IsBucketOf shape part) front rest h.buckets) (Each-right (IsBucketOf shape part) front rest h.buckets) in
    removing front node rest (removing-unlinking shape part w v front node rest h
    (record {
      others = λ a m _ _ _. same a m;
      link = inl (same (last_or HEAD front) apart.link_word);
      back = inl (same (back_word rest) apart.back_word);
    }) (same 12 (register shape part 12 (omega arith) (omega arith)) ∙ h.to_remove)) e

-- ---- of what is read

pub list_of : (size : ℕ) (w : Words) → (has : HasList size w) → IsList (shape_of w) has.part w has.chain
list_of size w has = list_of_rules (shape_of w) has.part w has.chain has.rules

abbrev shape_by : ℕ → ℕ → ℕ → ℕ → ℕ → ℕ → ℕ → Shape
shape_by a b c d e f g = record {
  policy = b;
  cells = c;
  buckets = d;
  blocks = e;
  structures = f;
  format = if a == SECOND_MAGIC then 2 else 1;
  partitions = if a == SECOND_MAGIC then g else 1;
}

abbrev asked_by : ℕ → ℕ → ℕ → ℕ → ℕ → Repair
asked_by appended tail taken prev next =
    if appended == 0 then (if taken == 0 then Nothing else TakeOut (record { node = taken; prev = prev; next = next })) else Append (record { node = appended; tail = tail })

module _ (w v : Words) (same : SameLog w v) where
  low_same : (a : ℕ) → a < 32 → v a ≡ w a
  low_same a low = same a (omega arith)

  pub shape_same : shape_of v ≡ shape_of w
  shape_same = λ i. shape_by (low_same 0 (omega arith) i) (low_same 1 (omega arith) i) (low_same 2 (omega arith) i) (low_same 3 (omega arith) i)
      (low_same 4 (omega arith) i) (low_same 5 (omega arith) i) (low_same 6 (omega arith) i)

pub chain_same : (size : ℕ) (w v : Words) → HasList size w → SameLog w v → chain_of (shape_of v) v ≡ chain_of (shape_of w) w
chain_same size w v has same =
    let here = list_of size w has in
    let there = lists_agree (shape_of w) has.part w v has.chain (λ a m. same a (list_words_fit (shape_of w) has.part a has.below m)) here in
    let first = chain_of_list (shape_of w) has.part w has.chain has.below here in
    let second = chain_of_list (shape_of w) has.part v has.chain has.below there in
    subst (λ s. chain_of s v ≡ chain_of (shape_of w) w) (sym (shape_same w v same)) (second.0 ∙ sym first.0)

-- the asked repair by the words that say it
asked_words : (w : Words) → repair_asked w ≡ asked_by (w 10) (w 11) (w 12) (w (w 12 + 1)) (w (w 12))
asked_words w = refl

pub asked_same : (size : ℕ) (w v : Words) → HasList size w → SameLog w v → repair_asked w ≡ repair_asked v
asked_same size w v has same =
    let fit = asked_fit (shape_of w) has.part w has.chain has.below (list_of size w has) in
    let appended = low_same w v same 10 (omega arith) in
    let tail = low_same w v same 11 (omega arith) in
    let taken = low_same w v same 12 (omega arith) in
    let low = fit.to_remove in
    let next : v (w 12) ≡ w (w 12) = same (w 12) (omega arith) in
    let prev : v (w 12 + 1) ≡ w (w 12 + 1) = same (w 12 + 1) (omega arith) in
    let all : asked_by (v 10) (v 11) (w 12) (v (w 12 + 1)) (v (w 12)) ≡ asked_by (w 10) (w 11) (w 12) (w (w 12 + 1)) (w (w 12)) =
    (λ i. asked_by (appended i) (tail i) (w 12) (prev i) (next i)) in
    sym (subst (λ t. asked_by (v 10) (v 11) t (v (t + 1)) (v t) ≡ repair_asked w) (sym taken) all)
