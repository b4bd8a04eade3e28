-- An image of which each part was tried.
use Rattle.std.proofs.Common.{◌≡◌, ℕ, ◌+◌, ◌<◌, List, refl, sym, ap, ◌∙◌, subst, arith}
use Rattle.persist_model.specs.ImageRules.{rule_number}
use Rattle.persist_model.specs.Region.{Words}
use Rattle.persist_model.specs.Records.{Log}
use Rattle.persist_model.specs.Shape.{Shape, shape_of, heap, words_of_shape, log_words, IsBucketOf, IsShape}
use Rattle.persist_model.specs.Chain.{view, ListRules}
use Rattle.persist_model.specs.Visit.{chain_from}
use Rattle.persist_model.specs.State.{State}
use Rattle.persist_model.specs.Sound.{IsListOf, HaveChains, HasState, IsSound}
use Rattle.persist_model.specs.Faults.{IsListFault, IsFirstFault, in_lists, in_log}
use Rattle.log_laws.proofs.SameLists.{rules_same}
use Rattle.log_laws.proofs.Visits.{visit_some, visit_one}
use Rattle.sound_check.specs.declared.fault.CheckFault.{CheckFault}
use Rattle.sound_check.specs.declared.fault.CheckFault.TheVariants.{Unsound, NoMemory}
use Rattle.sound_check.specs.Faulty.{IfUnsound}
use Rattle.log_laws.proofs.Soundness.{sound_has_no_fault, first_fault_is_one, chains_in, state_with, has_state_with}
use Rattle.atomic_list.specs.Reads.{SameLog}
use Rattle.atomic_list.proofs.Parts.{whole_bucket_fits}
use Rattle.region_layout.specs.declared.layout.Layout.{Layout}
use Rattle.region_layout.specs.Layout.{layout_shape}
use Rattle.log_partition.specs.Merging.{AreLogsOf}
use Rattle.log_partition.proofs.Views.{view_below}
use Rattle.sound_check.specs.Rules.{HasGoodList, EachPart}
use Rattle.sound_check.specs.Logs.{HoldsLog, HasLogFault}
use Rattle.sound_check.proofs.Buckets.{heap_small}
use Rattle.sound_check.proofs.PartsTried.{good_list}

pub sized : (layout : Layout) (size : ℕ) (w : Words) → IsShape size w → layout_shape layout ≡ shape_of w → size ≡ words_of_shape (layout_shape layout)
sized layout size w shape e = shape.long ∙ ap words_of_shape (sym e)

-- ---- the chains

chain_is : (shape : Shape) (z : Words) (p : ℕ) → HasGoodList shape p (view p z) → IsListOf shape p z (chains_in shape z p)
unfolding chains_in
chain_is shape z p h =
    subst (λ visited. IsListOf shape p z (chain_from (view p z) visited)) (visit_one (IsBucketOf shape p) (view p z) h.visited (visit_some shape p (view p z)).0 h.visit (visit_some shape p (view p z)).1) (good_list shape z p h)

have_chains : (shape : Shape) (w : Words) → EachPart shape (log_words shape w) HasGoodList → HaveChains shape w (chains_in shape (log_words shape w))
have_chains shape w h p lt = chain_is shape (log_words shape w) p (h p lt)

-- the state of the image
pub the_state : Shape → Words → State
the_state shape w = state_with shape w (chains_in shape (log_words shape w))

pub has_state : (shape : Shape) (w : Words) → EachPart shape (log_words shape w) HasGoodList → HasState shape w (the_state shape w)
unfolding the_state
has_state shape w h = has_state_with shape w (chains_in shape (log_words shape w)) (have_chains shape w h)

-- ---- the same lists stand in the whole image

module _ (layout : Layout) (w : Words) (p : ℕ) (lt : p < layout.partitions) where
  few : p < 3
  few = let most = layout.partitions_within in omega (arith, lt, most)

  seen : (a : ℕ) → a < heap (layout_shape layout) → view p w a ≡ view p (log_words (layout_shape layout) w) a
  seen a below = view_below (layout_shape layout) p w a few below

  pub whole_rules : (chain : List ℕ) → ListRules (IsBucketOf (layout_shape layout) p) (view p (log_words (layout_shape layout) w)) chain → ListRules (IsBucketOf (layout_shape layout) p) (view p w) chain
  whole_rules chain rules = rules_same (IsBucketOf (layout_shape layout) p) (view p (log_words (layout_shape layout) w)) (view p w)
      (λ a low high. let small = heap_small layout in seen a (omega (arith, small, high)))
      (λ b is. let fits = whole_bucket_fits (layout_shape layout) p b lt is in (seen b (omega (arith, fits)), seen (b + 1) (omega (arith, fits)))) chain rules

pub are_logs : (layout : Layout) (size : ℕ) (w : Words) → IsShape size w → layout_shape layout ≡ shape_of w → EachPart (layout_shape layout) (log_words (layout_shape layout) w) HasGoodList → AreLogsOf layout size w
are_logs layout size w ok e h = record {
  shape = ok;
  has_layout = sym e;
  lists = λ p lt. (
      let k = good_list (layout_shape layout) (log_words (layout_shape layout) w) p (h p lt) in
      let chain = chain_from (view p (log_words (layout_shape layout) w)) (h p lt).visited in (chain, whole_rules layout w p lt chain k.rules));
}

-- ---- what the rules say together

pub list_fault : (shape : Shape) (size : ℕ) (w : Words) (i a : ℕ) → IsShape size w → shape ≡ shape_of w → IsListFault shape (log_words shape w) i a → IsFirstFault size w i a
list_fault shape size w i a ok e f = in_lists ok (subst (λ s. IsListFault s (log_words s w) i a) e f)

pub log_fault : (shape : Shape) (size : ℕ) (w : Words) (log : Log) (i a : ℕ) → IsShape size w → shape ≡ shape_of w → (s : State) → HasState shape w s → log ≡ s.log → HasLogFault shape w log i a → IsFirstFault size w i a
log_fault shape size w log i a ok e s has same f = subst (λ t. HasState t w s → HasLogFault t w log i a → IsFirstFault size w i a) (sym e) (λ k g. in_log ok s k (g s k same)) has f

pub image_is_sound : (shape : Shape) (size : ℕ) (w : Words) (log : Log) → IsShape size w → shape ≡ shape_of w → (s : State) → HasState shape w s → log ≡ s.log → HoldsLog shape w log → IsSound size w
image_is_sound shape size w log ok e s has same holds = subst (λ t. HasState t w s → HoldsLog t w log → IsSound size w) (sym e)
    (λ k h. record { shape = ok; state = s; has = k; sound = h s k same }) has holds

pub same_words : (w : Words) → SameLog w w
same_words w a below = refl

-- ---- the answer

pub of_sound : (size : ℕ) (w : Words) (e : CheckFault) → IfUnsound e (IsFirstFault size w) → IsSound size w → e ≡ NoMemory
of_sound size w (Unsound found) f sound = absurd (sound_has_no_fault size w (rule_number found.rule) found.address sound f)
of_sound size w NoMemory f sound = refl

pub of_unsound : (size : ℕ) (w : Words) (e : CheckFault) (fault a : ℕ) → IfUnsound e (IsFirstFault size w) → IsFirstFault size w fault a → IfUnsound e (λ i b. (i ≡ fault) × (b ≡ a))
of_unsound size w (Unsound found) fault a f g = first_fault_is_one size w (rule_number found.rule) found.address fault a f g
of_unsound size w NoMemory fault a f g = tt
