-- The gates of the bucket that is being taken out, and a partition's list in its view.
use Rattle.std.proofs.Common.{◌≡◌, ◌≢◌, ◌⊎◌, inl, inr, ℕ, zero, suc, ◌+◌, ◌*◌, ◌<◌, ◌≤◌, List, [], ◌∷◌, ◌++◌, take, refl, ap, sym, ◌∙◌, subst, arith}
use Rattle.std.proofs.lemmas.Bool.Decides.{nat_tests, eqb_tells}
use Rattle.persist_model.specs.declared.event.Event.{Event}
use Rattle.persist_model.specs.declared.event.Event.TheVariants.{Store, PStore, WriteBack, Fence}
use Rattle.persist_model.specs.Region.{Words}
use Rattle.persist_model.specs.Progress.{Progress, start, advance, advance_all, Wrote, write, Reaches}
use Rattle.persist_model.specs.Runs.{progress_at}
use Rattle.persist_model.specs.Shape.{Shape, bucket_size, IsBucketOf}
use Rattle.persist_model.specs.Chain.{view, word_behind}
use Rattle.persist_model.specs.ImageRecords.{cell_address}
use Rattle.persist_model.specs.Sound.{IsClosedBucket, IsListOf}
use Rattle.persist_model.proofs.Tracking.{Wrote-push_other, latest_cases}
use Rattle.persist_model.proofs.Projecting.{IsFixed-aways, IsFixed-start, AreAway, AreAway-take, Reaches-fixed}
use Rattle.atomic_list.specs.declared.plans.Insert.{Insert}
use Rattle.atomic_list.specs.declared.plans.Remove.{Remove}
use Rattle.atomic_list.specs.Plans.{insertion, removal, repair_plan, repair_asked}
use Rattle.atomic_list.specs.Rules.{IsList, at_rest, appending, removing, IsListWord}
use Rattle.atomic_list.specs.Insertion.{CanInsert, inserted}
use Rattle.atomic_list.specs.Removal.{CanRemove, removed}
use Rattle.atomic_list.specs.Repairing.{repaired}
use Rattle.atomic_list.specs.ListPlans.{IsListPlan}
use Rattle.atomic_list.specs.Views.{IsRemovedClosed, IsListWordOrGate}
use Rattle.atomic_list.proofs.Chains.{bucket_shape, bucket_above}
use Rattle.atomic_list.proofs.Splits.{Each-left, Each-right}
use Rattle.atomic_list.proofs.RulesToCases.{list_of_rules}
use Rattle.atomic_list.proofs.CasesToRules.{rules_of_list}
use Rattle.atomic_list.proofs.OnList.{AreOnList}
use Rattle.atomic_list.proofs.Insertions.{a_link}
use Rattle.atomic_list.proofs.Removals.{words_apart, are_apart, removal_is_on_list}
use Rattle.atomic_list.proofs.Repairs.{repair_is_on_list, asked-at_rest, asked-appending, asked-removing}
use Rattle.atomic_list.proofs.Preparing.{last_link}

-- ---- a gate is no word of the list

strides : (s i j : ℕ) → i < j → i * s + s ≤ j * s
strides s i j lt = grind arith

gate_is_no_next : (shape : Shape) (i j c : ℕ) → c < shape.cells → 32 + j * bucket_size shape ≢ 32 + i * bucket_size shape + 8 + 8 * c
gate_is_no_next shape i j c lt e = elim (eqb_tells i j) [
  | inl same ↦ let is = ap (λ n. n * bucket_size shape) same.1 in absurd (omega arith)
  | inr ne ↦ by ne.1
]
  where
    by : i ≢ j → ⊥
    by ne = elim (order i j ne) [
      | inl less ↦ let far = strides (bucket_size shape) i j less in omega arith
      | inr more ↦ let far = strides (bucket_size shape) j i more in omega arith
    ]
      where
        order : (i j : ℕ) → i ≢ j → (i < j) ⊎ (j < i)
        order zero zero ne = absurd (ne refl)
        order zero (suc j) ne = inl (omega arith)
        order (suc i) zero ne = inr (omega arith)
        order (suc i) (suc j) ne = elim (order i j (λ e. ne (ap suc e))) [ inl lt ↦ inl (omega arith) | inr lt ↦ inr (omega arith) ]

gate_is_no_list_word : (shape : Shape) (part b c a : ℕ) → IsBucketOf shape part b → c < shape.cells → IsListWord shape part a → a ≢ cell_address b c
gate_is_no_list_word shape part b c a bucket lt (inl register) = let s = bucket_shape shape part b bucket in let high = register.1 in omega arith
gate_is_no_list_word shape part b c a bucket lt (inr word) = elim word.2 [
  | inl e ↦ λ same. gate_is_no_next shape bucket.0 word.1.0 c lt (sym word.1.3 ∙ sym e ∙ same ∙ ap (λ n. n + 8 + 8 * c) bucket.3)
  | inr e ↦ let s = bucket_shape shape part b bucket in let t = bucket_shape shape part word.0 word.1 in omega arith
]

on_each : (shape : Shape) (part : ℕ) (plan : List Event) → IsListPlan shape part plan → AreOnList shape part plan
on_each shape part [] h = tt
on_each shape part (e ∷ es) h = (h 0 e refl, on_each shape part es (λ k x at. h (suc k) x at))

-- a plan on the list's words is away from all others
away_of : (shape : Shape) (part a : ℕ) (plan : List Event) → ((x : ℕ) → IsListWord shape part x → x ≢ a) → AreOnList shape part plan → AreAway a plan
away_of shape part a [] apart h = tt
away_of shape part a (Store b v ∷ es) apart h = (tt, away_of shape part a es apart h.1)
away_of shape part a (PStore b v ∷ es) apart h = (apart b h.0, away_of shape part a es apart h.1)
away_of shape part a (WriteBack b ∷ es) apart h = (tt, away_of shape part a es apart h.1)
away_of shape part a (Fence ∷ es) apart h = (tt, away_of shape part a es apart h.1)

-- so the gates stay
closed_stays : (shape : Shape) (part : ℕ) (w v : Words) (plan : List Event) (k b : ℕ) → IsListPlan shape part plan → IsBucketOf shape part b →
    Reaches (IsListWordOrGate shape part) (progress_at w plan k) v → IsClosedBucket shape w b → IsClosedBucket shape v b
closed_stays shape part w v plan k b on bucket r closed c lt =
    let a = cell_address b c in
    let away = away_of shape part a plan (λ x m. gate_is_no_list_word shape part b c x bucket lt m) (on_each shape part plan on) in
    Reaches-fixed (IsListWordOrGate shape part) (progress_at w plan k) v a (w a) (inr (b, bucket, c, lt, refl))
    (IsFixed-aways (start w) a (w a) (take k plan) (AreAway-take a k plan away) (IsFixed-start w a)) r ∙ closed c lt

-- ---- the values that a word may take in a plan

abbrev IsAllowed : (ℕ → Type 0) → ℕ → Event → Type 0
IsAllowed P a (Store b u) = Unit {0}
IsAllowed P a (PStore b u) = b ≡ a → P u
IsAllowed P a (WriteBack b) = Unit {0}
IsAllowed P a Fence = Unit {0}

abbrev AreAllowed : (ℕ → Type 0) → ℕ → List Event → Type 0
AreAllowed P a [] = Unit {0}
AreAllowed P a (e ∷ es) = IsAllowed P a e × AreAllowed P a es

record HasAllowed (P : ℕ → Type 0) (a : ℕ) (p : Progress) : Type 0 where
  durable : P (p.durable a)
  pending : (u : ℕ) → Wrote p.pending a u → P u

wrote_push : (P : ℕ → Type 0) (a : ℕ) (p : Progress) (b u : ℕ) → HasAllowed P a p → (b ≡ a → P u) → (v : ℕ) → Wrote (p.pending ++ write b u ∷ []) a v → P v
wrote_push P a p b u h allowed v k = elim (eqb_tells b a) [
  | inl e ↦ last p.pending h.pending (allowed e.1) k
  | inr ne ↦ h.pending v (Wrote-push_other p.pending b u a v ne.1 k)
]
  where
    last : (s : List _) → ((u : ℕ) → Wrote s a u → P u) → P u → Wrote (s ++ write b u ∷ []) a v → P v
    last [] f here (inl e) = subst P (sym e.1) here
    last [] f here (inr none) = elim none [ ]
    last (x ∷ s) f here (inl e) = f v (inl e)
    last (x ∷ s) f here (inr more) = last s (λ y m. f y (inr m)) here more

allowed_step : (P : ℕ → Type 0) (a : ℕ) (p : Progress) (e : Event) → IsAllowed P a e → HasAllowed P a p → HasAllowed P a (advance p e)
allowed_step P a p (Store b u) allowed h = h
allowed_step P a p (WriteBack b) allowed h = h
allowed_step P a p (PStore b u) allowed h = record { durable = h.durable; pending = λ v k. wrote_push P a p b u h allowed v k }
allowed_step P a p Fence allowed h = record {
  durable = elim (latest_cases p.pending a (p.durable a))
      [ inl none ↦ subst P (sym none.0) h.durable | inr wrote ↦ h.pending _ wrote ];
  pending = λ v k. elim k [ ];
}

allowed_all : (P : ℕ → Type 0) (a : ℕ) (p : Progress) (k : ℕ) (es : List Event) → AreAllowed P a es → HasAllowed P a p → HasAllowed P a (advance_all p (take k es))
allowed_all P a p zero es allowed h = h
allowed_all P a p (suc k) [] allowed h = h
allowed_all P a p (suc k) (e ∷ es) allowed h = allowed_all P a (advance p e) k es allowed.1 (allowed_step P a p e allowed.0 h)

allowed_image : (A : ℕ → Type 0) (P : ℕ → Type 0) (w v : Words) (plan : List Event) (k a : ℕ) → A a → AreAllowed P a plan → P (w a) → Reaches A (progress_at w plan k) v → P (v a)
allowed_image A P w v plan k a m allowed first r =
    let h = allowed_all P a (start w) k plan allowed (record { durable = first; pending = λ u none. elim none [ ] }) in
    elim (r a m) [ inl e ↦ subst P (sym e) h.durable | inr wrote ↦ h.pending (v a) wrote ]

-- ---- the bucket that is being taken out

bucket_asked : (shape : Shape) (part : ℕ) (w : Words) (xs : List ℕ) → IsList shape part w xs → w 12 ≢ 0 → IsBucketOf shape part (w 12)
bucket_asked shape part w xs (at_rest h) ne = absurd (ne h.to_remove)
bucket_asked shape part w xs (appending front node h e) ne = absurd (ne h.to_remove)
bucket_asked shape part w xs (removing front node rest h e) ne = subst (IsBucketOf shape part) (sym h.to_remove) h.bucket

twelve : (shape : Shape) (part : ℕ) → IsListWord shape part 12
twelve shape part = inl (omega arith, omega arith)

pub insertion_removes_none : (shape : Shape) (part : ℕ) (w v : Words) (xs : List ℕ) (a : Insert) (k : ℕ) → CanInsert shape part w xs a →
    Reaches (IsListWord shape part) (inserted w a k) v → v 12 ≡ 0
insertion_removes_none shape part w v xs a k can r =
    let s = bucket_shape shape part a.node can.bucket in
    let link = a_link shape part w xs a can in
    let even = link.even in
    allowed_image (IsListWord shape part) (λ u. u ≡ 0) w v (insertion a) k 12 (twelve shape part)
    (allowed a.node (word_behind a.tail) a.tail (omega arith) (omega arith) (omega arith)) can.at_rest.to_remove r
  where
    allowed : (node link tail : ℕ) → node ≢ 12 → node + 1 ≢ 12 → link ≢ 12 →
        AreAllowed (λ u. u ≡ 0) 12 (PStore node 0 ∷ PStore (node + 1) tail ∷ PStore 11 tail ∷ Fence ∷ PStore 10 node ∷ Fence ∷ PStore link node ∷ PStore 9 node ∷ Fence ∷ PStore 10 0 ∷ Fence ∷ [])
    allowed node link tail n1 n2 n3 = (
      (λ e. absurd (n1 e)),
      (
        (λ e. absurd (n2 e)),
        (
          (λ e. absurd (omega arith)),
          (tt, ((λ e. absurd (omega arith)), (tt, ((λ e. absurd (n3 e)), ((λ e. absurd (omega arith)), (tt, ((λ e. absurd (omega arith)), (tt, tt)))))))),
        ),
      ),
    )

pub removed_stays_closed : (shape : Shape) (part : ℕ) (w v : Words) (front rest : List ℕ) (r : Remove) (k : ℕ) → CanRemove shape part w front rest r →
    IsClosedBucket shape w r.node → Reaches (IsListWordOrGate shape part) (removed w r k) v → IsRemovedClosed shape v
removed_stays_closed shape part w v front rest r k can closed h ne =
    let apart = are_apart shape part w front rest r can in
    let bucket = (Each-right (IsBucketOf shape part) front (r.node ∷ rest) can.at_rest.buckets).0 in
    let value = allowed_image (IsListWordOrGate shape part) (λ u. (u ≡ 0) ⊎ (u ≡ r.node)) w v (removal r) k 12 (inl (twelve shape part))
    ((λ e. inr refl), (tt, ((λ e. absurd (apart.link_apart e)), ((λ e. absurd (apart.back_apart e)), (tt, ((λ e. inl refl), (tt, tt)))))))
    (inl can.at_rest.to_remove) h in
    elim value [
      | inl e ↦ absurd (ne e)
      | inr e ↦ subst (IsClosedBucket shape v) (sym e)
          (closed_stays shape part w v (removal r) k r.node (removal_is_on_list shape part w front rest r can) bucket h closed)
    ]

-- a repair leaves TO_REMOVE, or clears it
repair_allowed : (shape : Shape) (part : ℕ) (w : Words) (xs : List ℕ) → IsList shape part w xs → AreAllowed (λ u. (u ≡ w 12) ⊎ (u ≡ 0)) 12 (repair_plan (repair_asked w))
repair_allowed shape part w xs (at_rest h) = subst (λ r. AreAllowed (λ u. (u ≡ w 12) ⊎ (u ≡ 0)) 12 (repair_plan r)) (sym (asked-at_rest shape part w xs h)) tt
repair_allowed shape part w xs (appending front node h e) =
    let link = last_link shape part node front h.bucket h.buckets h.absent in
    let even = link.even in
    subst (AreAllowed (λ u. (u ≡ w 12) ⊎ (u ≡ 0)) 12) (sym (asked-appending shape part w front node h))
    ((λ e. absurd (omega arith)), ((λ e. absurd (omega arith)), (tt, ((λ e. absurd (omega arith)), (tt, tt)))))
repair_allowed shape part w xs (removing front node rest h e) =
    let apart = words_apart shape part front rest (Each-left (IsBucketOf shape part) front rest h.buckets) (Each-right (IsBucketOf shape part) front rest h.buckets) in
    subst (AreAllowed (λ u. (u ≡ w 12) ⊎ (u ≡ 0)) 12) (sym (asked-removing shape part w front node rest h))
    ((λ e. absurd (apart.link_apart e)), ((λ e. absurd (apart.back_apart e)), (tt, ((λ e. inr refl), (tt, tt)))))

pub repaired_stays_closed : (shape : Shape) (part : ℕ) (w v : Words) (xs : List ℕ) (k : ℕ) → IsList shape part w xs →
    IsRemovedClosed shape w → Reaches (IsListWordOrGate shape part) (repaired w k) v → IsRemovedClosed shape v
repaired_stays_closed shape part w v xs k is closed r ne =
    elim (allowed_image (IsListWordOrGate shape part) (λ u. (u ≡ w 12) ⊎ (u ≡ 0)) w v (repair_plan (repair_asked w)) k 12 (inl (twelve shape part)) (repair_allowed shape part w xs is) (inl refl) r) [
      | inl e ↦ let before : w 12 ≢ 0 = λ z. ne (e ∙ z) in
          subst (IsClosedBucket shape v) (sym e) (closed_stays shape part w v (repair_plan (repair_asked w)) k (w 12) (repair_is_on_list shape part w xs is)
          (bucket_asked shape part w xs is before) r (closed before))
      | inr e ↦ absurd (ne e)
    ]

-- ---- a partition's list in its view

view_above : (part : ℕ) (z : Words) (a : ℕ) → 12 < a → view part z a ≡ z a
view_above part z a high = grind (arith, nat_tests)

closed_in_view : (shape : Shape) (part : ℕ) (z : Words) (b c : ℕ) → IsBucketOf shape part b → view part z (cell_address b c) ≡ z (cell_address b c)
closed_in_view shape part z b c bucket = let above = bucket_above shape part b bucket in view_above part z (cell_address b c) (omega arith)

pub list_in_view : (shape : Shape) (part : ℕ) (z : Words) (chain : List ℕ) → IsListOf shape part z chain →
    IsList shape part (view part z) chain × IsRemovedClosed shape (view part z)
list_in_view shape part z chain h =
    let is = list_of_rules shape part (view part z) chain h.rules in
    (is, λ ne c lt. closed_in_view shape part z (view part z 12) c (bucket_asked shape part (view part z) chain is ne) ∙ h.removed ne c lt)

pub list_from_view : (shape : Shape) (part : ℕ) (z : Words) (chain : List ℕ) → IsList shape part (view part z) chain × IsRemovedClosed shape (view part z) →
    IsListOf shape part z chain
list_from_view shape part z chain h = record {
  rules = rules_of_list shape part (view part z) chain h.0;
  removed = λ ne c lt. sym (closed_in_view shape part z (view part z 12) c (bucket_asked shape part (view part z) chain h.0 ne)) ∙ h.1 ne c lt;
}
