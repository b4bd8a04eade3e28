-- What the removal of a closed bucket leaves of the lists.
use Rattle.std.proofs.Common.{◌≡◌, ◌≢◌, inl, inr, ℕ, ◌+◌, ◌<◌, ◌≤◌, List, [], ◌∷◌, ◌++◌, length, refl, ap, sym, subst, arith, length-append}
use Rattle.persist_model.specs.declared.format.TheConstants.{MAX_WORDS}
use Rattle.persist_model.specs.Region.{Words}
use Rattle.persist_model.specs.Progress.{Wrote, Reaches}
use Rattle.persist_model.specs.Runs.{progress_at}
use Rattle.persist_model.specs.Records.{IsAmong}
use Rattle.persist_model.specs.Shape.{Shape, IsBucketOf, heap}
use Rattle.persist_model.specs.Chain.{first_or}
use Rattle.persist_model.specs.State.{State}
use Rattle.persist_model.specs.Sound.{HasState}
use Rattle.log_laws.proofs.Views.{AreStoresOn}
use Rattle.atomic_list.specs.declared.plans.Remove.{Remove}
use Rattle.atomic_list.specs.Plans.{removal}
use Rattle.atomic_list.specs.Removal.{removed}
use Rattle.atomic_list.specs.Rules.{IsAtRest, IsListWord, at_rest}
use Rattle.atomic_list.specs.Walk.{chain_of}
use Rattle.atomic_list.proofs.Removals.{removal_is_on_list, removal_ends}
use Rattle.atomic_list.proofs.Repairs.{still}
use Rattle.atomic_list.proofs.Walks.{chain_of_list}
use Rattle.region_layout.specs.Layout.{IsAllowed}
use Rattle.bucket_log.proofs.Addresses.{list_word_is_log_word}
use Rattle.bucket_log.proofs.AppendImages.{Each-among}
use Rattle.persist_model.proofs.Among.{among_right}
use Rattle.recovery_lists.proofs.Asking.{bucket_small}
use Rattle.bucket_log.proofs.ListFacts.{list_plan_stores}
use Rattle.log_clearing.specs.Removals.{CanDrop, region_removal}
use Rattle.recovery_run.specs.Reached.{IsQuiet, HasFewBuckets}
use Rattle.recovery_lists.specs.Repairs.{seen}
use Rattle.recovery_lists.proofs.PartPlans.{seen_reached}
use Rattle.recovery_lists.proofs.RepairStates.{quiet_at_rest}
use Rattle.recovery_lists.proofs.KeptLists.{list_seen, lists_one}

-- the plan stores to list words of the partition
pub removal_on_list : (shape : Shape) (p : ℕ) (w : Words) (r : Remove) → CanDrop shape p (seen shape p w) r → AreStoresOn (IsListWord shape p) (removal r)
removal_on_list shape p w r can = list_plan_stores shape p (removal r) (removal_is_on_list shape p (seen shape p w) can.front can.rest r can.can_remove)

some_behind : (rest : List ℕ) (n : ℕ) → n ≡ first_or 0 rest → n ≢ 0 → 1 ≤ length rest
some_behind [] n e ne = absurd (ne e)
some_behind (x ∷ rest) n e ne = omega arith

module _ (shape : Shape) (ok : IsAllowed shape) (p : ℕ) (inside : p < shape.partitions) (w : Words) (r : Remove) (can : CanDrop shape p (seen shape p w) r) where
  abbrev longer : List ℕ
  longer = can.front ++ r.node ∷ can.rest

  abbrev shorter : List ℕ
  shorter = can.front ++ can.rest

  one_less : length longer ≡ length shorter + 1
  one_less =
      let l : length longer ≡ length can.front + length (r.node ∷ can.rest) = length-append can.front (r.node ∷ can.rest) in
      let m : length shorter ≡ length can.front + length can.rest = length-append can.front can.rest in
      omega (arith, l, m)

  pub next_small : r.next < MAX_WORDS
  next_small = subst (λ n. n < MAX_WORDS) (sym can.can_remove.next) (by can.rest (λ b m. Each-among (IsBucketOf shape p) longer b can.can_remove.at_rest.buckets (among_right can.front (r.node ∷ can.rest) b (inr m))))
    where
      by : (rest : List ℕ) → ((b : ℕ) → IsAmong rest b → IsBucketOf shape p b) → first_or 0 rest < MAX_WORDS
      by [] each = omega arith
      by (x ∷ rest) each = bucket_small shape ok p inside x (each x (inl refl))

  pub some_bucket : 1 ≤ length (chain_of shape (seen shape p w))
  some_bucket =
      let is = ap length (chain_of_list shape p (seen shape p w) longer inside (at_rest can.can_remove.at_rest)).0 in
      let more = one_less in
      omega (arith, is, more)

  -- the chain has two buckets at least
  pub not_few : (s : State) → HasState shape w s → HasFewBuckets shape p w → ⊥
  not_few s has few =
      let same : has.chains p ≡ longer = lists_one shape p w (has.chains p) longer (list_seen shape p w (has.chains p) (has.lists p inside)) (at_rest can.can_remove.at_rest) in
      let one : length (has.chains p) ≤ 1 = few (has.chains p) (has.lists p inside) in
      let size : length (has.chains p) ≡ length longer = ap length same in
      let l : length longer ≡ length can.front + length (r.node ∷ can.rest) = length-append can.front (r.node ∷ can.rest) in
      let behind = some_behind can.rest r.next can.can_remove.next can.not_last in
      omega (arith, one, size, l, behind)

  module _ (v : Words) (h : Reaches (λ a. a < heap shape) (progress_at w (region_removal p r) 7) v) where
    left : IsAtRest shape p (seen shape p v) shorter
    left =
        let leaves = removal_ends shape p (seen shape p w) can.front can.rest r can.can_remove in
        still shape p (removed (seen shape p w) r 7).durable (seen shape p v) shorter leaves.at_rest
        (λ a m. elim (seen_reached shape ok p inside w (removal r) (removal_on_list shape p w r can) 7 v h a (list_word_is_log_word shape p a m)) [
          | inl e ↦ e
          | inr wrote ↦ absurd (subst (λ ws. Wrote ws a (seen shape p v a)) leaves.nothing_pending wrote)
        ])

    pub removal_quiet : IsQuiet p v
    removal_quiet = quiet_at_rest shape p v shorter ok inside left

    pub removal_shortens : length (chain_of shape (seen shape p v)) + 1 ≡ length (chain_of shape (seen shape p w))
    removal_shortens =
        let before = ap length (chain_of_list shape p (seen shape p w) longer inside (at_rest can.can_remove.at_rest)).0 in
        let later = ap length (chain_of_list shape p (seen shape p v) shorter inside (at_rest left)).0 in
        let less = one_less in
        omega (arith, before, later, less)
