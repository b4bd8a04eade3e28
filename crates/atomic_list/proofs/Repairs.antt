-- Each image of each prefix of a repair has the list with which it began.
use Rattle.std.proofs.Common.{◌≡◌, inl, inr, ℕ, ◌+◌, ◌%◌, ◌≤◌, ◌≢◌, ◌==◌, false, List, [], refl, ap, sym, ◌∙◌, arith, subst}
use Rattle.std.proofs.lemmas.Bool.Decides.{nat_tests}
use Rattle.persist_model.specs.declared.event.Event.{Event}
use Rattle.persist_model.specs.Region.{Words}
use Rattle.persist_model.specs.Progress.{Reaches}
use Rattle.persist_model.specs.Runs.{progress_at}
use Rattle.persist_model.proofs.Running.{take_nil}
use Rattle.persist_model.specs.Shape.{Shape, IsBucketOf}
use Rattle.persist_model.specs.Chain.{HEAD, IsLink, first_or, last_or, word_behind, word_before}
use Rattle.atomic_list.specs.Plans.{repair_plan, repair_asked}
use Rattle.atomic_list.specs.Repairing.{repaired, IsRepaired, RepairLeaves}
use Rattle.atomic_list.specs.declared.plans.Insert.{Insert}
use Rattle.atomic_list.specs.declared.plans.Remove.{Remove}
use Rattle.atomic_list.specs.ListPlans.{IsListPlan}
use Rattle.atomic_list.specs.declared.repairing.Repair.{Repair}
use Rattle.atomic_list.specs.declared.repairing.Repair.TheVariants.{Nothing, Append, Remove as TakeOut}
use Rattle.atomic_list.specs.Rules.{IsAtRest, IsAppending, IsRemoving, IsList, at_rest, appending, removing, IsListWord}
use Rattle.atomic_list.proofs.Chains.{bucket_above, word_behind-last, Links-same, LinksBack-same}
use Rattle.atomic_list.proofs.Cases.{no_bucket_is_0}
use Rattle.atomic_list.proofs.Splits.{Each-left, Each-right}
use Rattle.atomic_list.proofs.Removing.{back_word, first_of_links}
use Rattle.atomic_list.proofs.Removals.{AreApart, unlinking, unlinking_at, unlinking5, word_before-first, words_apart, ends_apart, unlinked-link, unlinked-back, unlinked-others}
use Rattle.atomic_list.proofs.Preparing.{last_link, register, link_word}
use Rattle.atomic_list.proofs.OnList.{list_plan}
use Rattle.atomic_list.proofs.LinkingWords.{linking, linking_at, linking5}

-- what is asked in each case
pub asked-at_rest : (shape : Shape) (part : ℕ) (w : Words) (xs : List ℕ) → IsAtRest shape part w xs → repair_asked w ≡ Nothing
asked-at_rest shape part w xs h = rw (h.to_append, h.to_remove)

pub asked-appending : (shape : Shape) (part : ℕ) (w : Words) (front : List ℕ) (node : ℕ) → IsAppending shape part w front node →
    repair_plan (repair_asked w) ≡ linking (last_or HEAD front) node
asked-appending shape part w front node h =
    let above = bucket_above shape part node h.bucket in
    let off : (node == 0) ≡ false = grind (arith, nat_tests) in
    rw (h.to_append, off, h.last_tail, word_behind-last front (no_bucket_is_0 shape part front h.buckets))

pub asked-removing : (shape : Shape) (part : ℕ) (w : Words) (front : List ℕ) (node : ℕ) (rest : List ℕ) → IsRemoving shape part w front node rest →
    repair_plan (repair_asked w) ≡ unlinking (last_or HEAD front) (back_word rest) (last_or 0 front) (first_or 0 rest)
asked-removing shape part w front node rest h =
    let above = bucket_above shape part node h.bucket in
    let off : (node == 0) ≡ false = grind (arith, nat_tests) in
    rw (
      h.to_append,
      h.to_remove,
      off,
      h.prev,
      first_of_links w node rest 0 h.next,
      word_behind-last front (no_bucket_is_0 shape part front (Each-left (IsBucketOf shape part) front rest h.buckets)),
      word_before-first shape part rest (Each-right (IsBucketOf shape part) front rest h.buckets),
    )

-- a list at rest in which no list word changes
pub still : (shape : Shape) (part : ℕ) (w v : Words) (xs : List ℕ) → IsAtRest shape part w xs → ((a : ℕ) → IsListWord shape part a → v a ≡ w a) → IsAtRest shape part v xs
still shape part w v xs h same = record {
  to_append = register 10 (omega arith) (omega arith) ∙ h.to_append;
  to_remove = register 12 (omega arith) (omega arith) ∙ h.to_remove;
  last_tail = subst (IsLink (IsBucketOf shape part)) (sym (register 11 (omega arith) (omega arith))) h.last_tail;
  buckets = h.buckets;
  no_repeats = h.no_repeats;
  links = Links-same (IsBucketOf shape part) w v HEAD xs 0 (register 8 (omega arith) (omega arith)) (λ b k. same b (inr (b, k, inl refl))) h.buckets h.links;
  links_back = LinksBack-same (IsBucketOf shape part) w v 0 xs (λ b k. same (b + 1) (inr (b, k, inr refl))) h.buckets h.links_back;
  tail = register 9 (omega arith) (omega arith) ∙ h.tail;
}
  where
    register : (a : ℕ) → 8 ≤ a → a ≤ 12 → v a ≡ w a
    register a low high = same a (inl (low, high))

abbrev ReachesBy : Shape → ℕ → Words → ℕ → Words → List Event → Type 0
ReachesBy shape part w k v plan = Reaches (IsListWord shape part) (progress_at w plan k) v

nothing_changes : (shape : Shape) (part : ℕ) (w v : Words) (k : ℕ) → ReachesBy shape part w k v [] → (a : ℕ) → IsListWord shape part a → v a ≡ w a
nothing_changes shape part w v k r a m = elim ((rw (take_nil {X = Event} k) at r) a m) [ inl e ↦ e | inr x ↦ elim x [ ] ]

pub repair_images : (shape : Shape) (part : ℕ) (w v : Words) (xs : List ℕ) (k : ℕ) → IsList shape part w xs →
    Reaches (IsListWord shape part) (repaired w k) v → IsList shape part v xs
repair_images shape part w v xs k (at_rest h) r =
    at_rest (still shape part w v xs h (nothing_changes shape part w v k
    (subst (λ t. ReachesBy shape part w k v (repair_plan t)) (asked-at_rest shape part w xs h) r)))
repair_images shape part w v xs k (appending front node h e) r =
    subst (IsList shape part v) (sym e) (linking_at shape part w v front node h k
    (subst (ReachesBy shape part w k v) (asked-appending shape part w front node h) r))
repair_images shape part w v xs k (removing front node rest h e) r =
    subst (IsList shape part v) (sym e) (unlinking_at shape part w v front node rest h k
    (subst (ReachesBy shape part w k v) (asked-removing shape part w front node rest h) r))

repair_reaches : (shape : Shape) (part : ℕ) (w v : Words) (xs : List ℕ) → IsList shape part w xs →
    Reaches (IsListWord shape part) (repaired w 5) v → IsAtRest shape part v xs
repair_reaches shape part w v xs (at_rest h) r =
    still shape part w v xs h (nothing_changes shape part w v 5
    (subst (λ t. ReachesBy shape part w 5 v (repair_plan t)) (asked-at_rest shape part w xs h) r))
repair_reaches shape part w v xs (appending front node h e) r =
    subst (IsAtRest shape part v) (sym e) (linking5 shape part w v front node h
    (subst (ReachesBy shape part w 5 v) (asked-appending shape part w front node h) r))
repair_reaches shape part w v xs (removing front node rest h e) r =
    subst (IsAtRest shape part v) (sym e) (unlinking5 shape part w v front node rest h
    (subst (ReachesBy shape part w 5 v) (asked-removing shape part w front node rest h) r))

repair_after : (shape : Shape) (part : ℕ) (w : Words) (xs : List ℕ) → IsList shape part w xs → IsAtRest shape part (repaired w 5).durable xs
repair_after shape part w xs h = repair_reaches shape part w (repaired w 5).durable xs h (λ a m. inl refl)

-- ---- the words that a repair leaves

-- with the word that names the bucket given
abbrev linked : Words → ℕ → ℕ → Words
linked w link node = (progress_at w (linking link node) 5).durable

linked-link : (w : Words) (link node : ℕ) → link % 8 ≡ 0 → linked w link node link ≡ node
linked-link w link node even = grind (arith, nat_tests)

linked-others : (w : Words) (link node x : ℕ) → x ≢ 10 → x ≢ link → x ≢ 9 → linked w link node x ≡ w x
linked-others w link node x n1 n2 n3 = grind (arith, nat_tests)

-- what the repair that is asked for leaves
abbrev Leaves : Words → Repair → Type 0
Leaves w r = IsRepaired w (progress_at w (repair_plan r) 5).durable r

leaves-append : (w : Words) (a : Insert) → word_behind a.tail % 8 ≡ 0 → Leaves w (Append a)
leaves-append w a even = record {
  to_append = refl;
  link = linked-link w (word_behind a.tail) a.node even;
  tail = refl;
  others = linked-others w (word_behind a.tail) a.node;
}

leaves-take_out : (shape : Shape) (part : ℕ) (w : Words) (r : Remove) → AreApart shape part (word_behind r.prev) (word_before r.next) → Leaves w (TakeOut r)
leaves-take_out shape part w r apart = record {
  to_remove = refl;
  link = unlinked-link shape part w r.node (word_behind r.prev) (word_before r.next) r.prev r.next apart;
  back = unlinked-back shape part w r.node (word_behind r.prev) (word_before r.next) r.prev r.next apart;
  others = unlinked-others shape part w r.node (word_behind r.prev) (word_before r.next) r.prev r.next apart;
}

asked-append : (shape : Shape) (part : ℕ) (w : Words) (front : List ℕ) (node : ℕ) → IsAppending shape part w front node →
    repair_asked w ≡ Append (record { node = node; tail = last_or 0 front })
asked-append shape part w front node h =
    let above = bucket_above shape part node h.bucket in
    let off : (node == 0) ≡ false = grind (arith, nat_tests) in
    rw (h.to_append, off, h.last_tail)

asked-take_out : (shape : Shape) (part : ℕ) (w : Words) (front : List ℕ) (node : ℕ) (rest : List ℕ) → IsRemoving shape part w front node rest →
    repair_asked w ≡ TakeOut (record { node = node; prev = last_or 0 front; next = first_or 0 rest })
asked-take_out shape part w front node rest h =
    let above = bucket_above shape part node h.bucket in
    let off : (node == 0) ≡ false = grind (arith, nat_tests) in
    rw (h.to_append, h.to_remove, off, h.prev, first_of_links w node rest 0 h.next)

repair_words : (shape : Shape) (part : ℕ) (w : Words) (xs : List ℕ) → IsList shape part w xs → Leaves w (repair_asked w)
repair_words shape part w xs (at_rest h) = subst (Leaves w) (sym (asked-at_rest shape part w xs h)) (λ x. refl)
repair_words shape part w xs (appending front node h e) =
    let link = last_link shape part node front h.bucket h.buckets h.absent in
    let even = subst (λ x. x % 8 ≡ 0) (sym (word_behind-last front (no_bucket_is_0 shape part front h.buckets))) link.even in
    subst (Leaves w) (sym (asked-append shape part w front node h)) (leaves-append w (record { node = node; tail = last_or 0 front }) even)
repair_words shape part w xs (removing front node rest h e) =
    let r : Remove = record { node = node; prev = last_or 0 front; next = first_or 0 rest } in
    subst (Leaves w) (sym (asked-take_out shape part w front node rest h)) (leaves-take_out shape part w r
    (ends_apart shape part front rest (last_or 0 front) (first_or 0 rest) (Each-left (IsBucketOf shape part) front rest h.buckets) (Each-right (IsBucketOf shape part) front rest h.buckets) refl refl))

-- after the whole repair nothing is pending
nothing_pending : (shape : Shape) (part : ℕ) (w : Words) (xs : List ℕ) → IsList shape part w xs → (repaired w 5).pending ≡ []
nothing_pending shape part w xs (at_rest h) = ap (λ t. (progress_at w (repair_plan t) 5).pending) (asked-at_rest shape part w xs h)
nothing_pending shape part w xs (appending front node h e) = ap (λ t. (progress_at w t 5).pending) (asked-appending shape part w front node h)
nothing_pending shape part w xs (removing front node rest h e) = ap (λ t. (progress_at w t 5).pending) (asked-removing shape part w front node rest h)

pub repair_ends : (shape : Shape) (part : ℕ) (w : Words) (xs : List ℕ) → IsList shape part w xs → RepairLeaves shape part w xs (repaired w 5)
repair_ends shape part w xs h = record {
  nothing_pending = nothing_pending shape part w xs h;
  at_rest = repair_after shape part w xs h;
  words = repair_words shape part w xs h;
}

pub repair_is_on_list : (shape : Shape) (part : ℕ) (w : Words) (xs : List ℕ) → IsList shape part w xs → IsListPlan shape part (repair_plan (repair_asked w))
repair_is_on_list shape part w xs (at_rest h) = subst (λ r. IsListPlan shape part (repair_plan r)) (sym (asked-at_rest shape part w xs h)) (list_plan shape part [] tt)
repair_is_on_list shape part w xs (appending front node h e) =
    let link = last_link shape part node front h.bucket h.buckets h.absent in
    subst (IsListPlan shape part) (sym (asked-appending shape part w front node h)) (list_plan shape part (linking (last_or HEAD front) node)
    (link_word shape part (last_or HEAD front) link.high, (register shape part 9 (omega arith) (omega arith), (tt, (register shape part 10 (omega arith) (omega arith), (tt, tt))))))
repair_is_on_list shape part w xs (removing front node rest h e) =
    let apart = words_apart shape part front rest (Each-left (IsBucketOf shape part) front rest h.buckets) (Each-right (IsBucketOf shape part) front rest h.buckets) in
    subst (IsListPlan shape part) (sym (asked-removing shape part w front node rest h)) (list_plan shape part (unlinking (last_or HEAD front) (back_word rest) (last_or 0 front) (first_or 0 rest))
    (apart.link_word, (apart.back_word, (tt, (register shape part 12 (omega arith) (omega arith), (tt, tt))))))
