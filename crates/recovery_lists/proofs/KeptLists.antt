-- What stays of the lists of all partitions where only words of one of them change.
use Rattle.std.proofs.Common.{◌≡◌, ◌≢◌, inl, inr, ℕ, ◌+◌, ◌<◌, ◌≤◌, List, length, sym, ◌∙◌, subst, arith}
use Rattle.std.proofs.lemmas.Bool.Decides.{eqb_tells}
use Rattle.persist_model.specs.Region.{Words}
use Rattle.persist_model.specs.Shape.{Shape, heap, log_words, list_words}
use Rattle.persist_model.specs.Chain.{out_address}
use Rattle.persist_model.specs.State.{State}
use Rattle.persist_model.specs.Sound.{HasChain, HasState}
use Rattle.log_laws.proofs.Views.{view-out}
use Rattle.atomic_list.specs.Rules.{IsList}
use Rattle.atomic_list.proofs.Agreeing.{lists_agree}
use Rattle.atomic_list.proofs.Closings.{list_in_view}
use Rattle.atomic_list.proofs.ListChains.{list_has_chain}
use Rattle.atomic_list.proofs.Unique.{chain_is_one}
use Rattle.region_layout.specs.Layout.{IsAllowed}
use Rattle.bucket_log.specs.Words.{IsLogWord, IsPartWord}
use Rattle.bucket_log.proofs.Addresses.{list_word_is_log_word}
use Rattle.bucket_log.proofs.Partitions.{log_word_out, part_word_below, part_words_apart}
use Rattle.bucket_log.proofs.PartStates.{log_words_same}
use Rattle.recovery_run.specs.Reached.{IsQuiet, HasFewBuckets}
use Rattle.recovery_lists.specs.Repairs.{seen}

pub list_seen : (shape : Shape) (p : ℕ) (w : Words) (xs : List ℕ) → HasChain shape w p xs → IsList shape p (seen shape p w) xs
list_seen shape p w xs h = (list_in_view shape p (log_words shape w) xs h).0

-- words have one chain of a partition
pub lists_one : (shape : Shape) (p : ℕ) (w : Words) (xs ys : List ℕ) → IsList shape p (seen shape p w) xs → IsList shape p (seen shape p w) ys → xs ≡ ys
lists_one shape p w xs ys h k = chain_is_one (seen shape p w) xs ys (list_has_chain shape p (seen shape p w) xs h) (list_has_chain shape p (seen shape p w) ys k)

-- one list is enough to know of few buckets
pub few_of : (shape : Shape) (p : ℕ) (w : Words) (ys : List ℕ) → IsList shape p (seen shape p w) ys → length ys ≤ 1 → HasFewBuckets shape p w
few_of shape p w ys list few = λ xs chain. subst (λ zs. length zs ≤ 1) (lists_one shape p w ys xs list (list_seen shape p w xs chain)) few

module _ (shape : Shape) (ok : IsAllowed shape) (p : ℕ) (inside : p < shape.partitions) (w v : Words) (s : State) (has : HasState shape w s)
    (same : (a : ℕ) → a < heap shape → (IsPartWord shape p a → ⊥) → v a ≡ w a) where
  module _ (q : ℕ) (lt : q < shape.partitions) (ne : q ≢ p) where
    word_same : (a : ℕ) → IsPartWord shape q a → v a ≡ w a
    word_same a m = same a (part_word_below shape q a ok lt m) (λ k. part_words_apart shape p q a ok inside lt ne m k)

    seen_same : (a : ℕ) → IsLogWord shape q a → seen shape q v a ≡ seen shape q w a
    seen_same a m =
        view-out q (log_words shape v) a ∙ log_words_same shape w v (out_address q a) (λ below. word_same (out_address q a) (log_word_out shape q a m))
        ∙ sym (view-out q (log_words shape w) a)

    quiet_other : IsQuiet q w → IsQuiet q v
    quiet_other h = (
      word_same (list_words q + 2) (inl (omega arith, omega arith)) ∙ h.0,
      word_same (list_words q + 4) (inl (omega arith, omega arith)) ∙ h.1,
    )

    few_other : HasFewBuckets shape q w → HasFewBuckets shape q v
    few_other h = few_of shape q v (has.chains q)
        (lists_agree shape q (seen shape q w) (seen shape q v) (has.chains q) (λ a m. seen_same a (list_word_is_log_word shape q a m))
        (list_seen shape q w (has.chains q) (has.lists q lt)))
        (h (has.chains q) (has.lists q lt))

  -- of all partitions, given what holds of this one
  pub quiet_stays : IsQuiet p v → (q : ℕ) → q < shape.partitions → IsQuiet q w → IsQuiet q v
  quiet_stays here q lt h = elim (eqb_tells q p) [
    | inl e ↦ subst (λ n. IsQuiet n v) (sym e.1) here
    | inr e ↦ quiet_other q lt e.1 h
  ]

  pub few_stays : (HasFewBuckets shape p w → HasFewBuckets shape p v) → (q : ℕ) → q < shape.partitions → HasFewBuckets shape q w → HasFewBuckets shape q v
  few_stays here q lt h = elim (eqb_tells q p) [
    | inl e ↦ subst (λ n. HasFewBuckets shape n v) (sym e.1) (here (subst (λ n. HasFewBuckets shape n w) e.1 h))
    | inr e ↦ few_other q lt e.1 h
  ]
