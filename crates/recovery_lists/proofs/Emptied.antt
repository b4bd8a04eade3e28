-- The chain of a partition where no record is left.
use Rattle.std.proofs.Common.{◌≡◌, ◌≢◌, inl, inr, ℕ, ◌<◌, ◌≤◌, List, [], ◌∷◌, length, Some, None, refl, sym, ◌∙◌, subst, arith}
use Rattle.std.proofs.lemmas.Bool.Decides.{eqb_tells}
use Rattle.persist_model.specs.Region.{Words}
use Rattle.persist_model.specs.Records.{Log, IsAmong}
use Rattle.persist_model.specs.Shape.{Shape, IsBucketOf, log_words}
use Rattle.persist_model.specs.Chain.{HasNoRepeats, last_or}
use Rattle.persist_model.specs.ImageRecords.{cell_address, record_at}
use Rattle.persist_model.specs.State.{State}
use Rattle.persist_model.specs.Sound.{IsClosedBucket, HasState}
use Rattle.log_laws.proofs.Views.{view_behind}
use Rattle.atomic_list.specs.declared.plans.Remove.{Remove}
use Rattle.atomic_list.specs.Rules.{IsAtRest, IsList, at_rest, appending, removing}
use Rattle.atomic_list.specs.Walk.{chain_of}
use Rattle.atomic_list.proofs.Cases.{chain_is_buckets, chain_has_no_repeats}
use Rattle.atomic_list.proofs.Walks.{chain_of_list}
use Rattle.region_layout.specs.Layout.{IsAllowed}
use Rattle.bucket_log.proofs.Addresses.{bucket_above}
use Rattle.bucket_log.proofs.AppendImages.{Each-among}
use Rattle.log_clearing.specs.Dropping.{IsRemovalOf}
use Rattle.log_clearing.specs.Removals.{CanDrop}
use Rattle.log_clearing.proofs.RemovalStates.{read_removals_may_be_made}
use Rattle.recovery_run.specs.Reached.{IsQuiet, HasFewBuckets}
use Rattle.recovery_lists.specs.Repairs.{seen}
use Rattle.recovery_lists.proofs.Asking.{append_word, remove_word}
use Rattle.recovery_lists.proofs.KeptLists.{list_seen, few_of}

-- a list that asks for no repair is at rest
rest_of : (shape : Shape) (p : ℕ) (w : Words) (xs : List ℕ) → w 10 ≡ 0 → w 12 ≡ 0 → IsList shape p w xs → IsAtRest shape p w xs
rest_of shape p w xs first second (at_rest h) = h
rest_of shape p w xs first second (appending front node h e) = let above = bucket_above shape p node h.bucket in let is = h.to_append in absurd (omega (arith, above, is, first))
rest_of shape p w xs first second (removing front node rest h e) = let above = bucket_above shape p node h.bucket in let is = h.to_remove in absurd (omega (arith, above, is, second))

last_among : (x : ℕ) (xs : List ℕ) → IsAmong (x ∷ xs) (last_or x xs)
last_among x [] = inl refl
last_among x (y ∷ xs) = inr (last_among y xs)

-- a row without repeats in which each is the last
only_last : (xs : List ℕ) → HasNoRepeats xs → ((b : ℕ) → IsAmong xs b → b ≢ last_or 0 xs → ⊥) → length xs ≤ 1
only_last [] once each = omega arith
only_last (x ∷ []) once each = omega arith
only_last (x ∷ y ∷ xs) once each = absurd (each x (inl refl) (Each-among (λ z. x ≢ z) (y ∷ xs) (last_or y xs) once.0 (last_among y xs)))

module _ (shape : Shape) (ok : IsAllowed shape) (p : ℕ) (inside : p < shape.partitions) (w : Words) (s : State) (has : HasState shape w s) where
  list : IsList shape p (seen shape p w) (has.chains p)
  list = list_seen shape p w (has.chains p) (has.lists p inside)

  chain_is : chain_of shape (seen shape p w) ≡ has.chains p
  chain_is = (chain_of_list shape p (seen shape p w) (has.chains p) inside list).0

  pub list_here : IsList shape p (seen shape p w) (chain_of shape (seen shape p w))
  list_here = subst (IsList shape p (seen shape p w)) (sym chain_is) list

  -- the removal that is read may be made
  pub may_drop : IsQuiet p w → (r : Remove) → IsRemovalOf shape (seen shape p w) (chain_of shape (seen shape p w)) (Some r) → CanDrop shape p (seen shape p w) r
  may_drop quiet r first = read_removals_may_be_made shape p (seen shape p w) (chain_of shape (seen shape p w)) r
      (rest_of shape p (seen shape p w) (chain_of shape (seen shape p w)) (append_word shape ok p inside w ∙ quiet.0) (remove_word shape ok p inside w ∙ quiet.1) list_here) first

  -- without a record all buckets of the chain are closed
  all_closed : s.log ≡ [] → (b : ℕ) → IsAmong (has.chains p) b → IsClosedBucket shape (seen shape p w) b
  all_closed none b m c below =
      let above = bucket_above shape p b (Each-among (IsBucketOf shape p) (has.chains p) b (chain_is_buckets shape p (seen shape p w) (has.chains p) list) m) in
      view_behind p (log_words shape w) (cell_address b c) (omega (arith, above)) ∙ elim (eqb_tells (log_words shape w (cell_address b c)) 0) [
        | inl e ↦ e.1
        | inr e ↦ absurd (subst (λ (log : Log). IsAmong log (record_at (log_words shape w) (cell_address b c))) none
            ((has.records.each (record_at (log_words shape w) (cell_address b c))).1
            (p, inside, record { bucket = b; is_among = m; place = c; below = below; is = refl; gate = e.1 })))
      ]

  -- and where none may be taken out, there is at most one
  pub few_left : s.log ≡ [] → IsRemovalOf shape (seen shape p w) (chain_of shape (seen shape p w)) None → HasFewBuckets shape p w
  few_left none no_removal = few_of shape p w (has.chains p) list
      (only_last (has.chains p) (chain_has_no_repeats shape p (seen shape p w) (has.chains p) list)
      (λ b m off. subst (λ xs. IsRemovalOf shape (seen shape p w) xs None) chain_is no_removal b m off (all_closed none b m)))
