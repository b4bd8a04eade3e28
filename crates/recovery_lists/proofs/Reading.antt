-- What recovery reads of a region where nothing is pending.
use Rattle.std.proofs.Common.{◌≡◌, ℕ, ◌<◌, ◌≤◌, List, length, refl, sym, ◌∙◌, subst}
use Rattle.std.specs.Prelude.{slice_index}
use Rattle.persist_model.specs.Region.{Words, Region, newest_words}
use Rattle.persist_model.specs.Shape.{Shape, shape_of, IsBucketOf, log_words, IsShape}
use Rattle.persist_model.specs.Chain.{view, out_address, ListRules}
use Rattle.persist_model.specs.State.{State}
use Rattle.persist_model.specs.Sound.{HasState}
use Rattle.persist_model.proofs.Images.{length-newest_words}
use Rattle.log_laws.proofs.Views.{view-out}
use Rattle.atomic_list.specs.Reads.{SameLog}
use Rattle.atomic_list.specs.Rules.{IsListWord}
use Rattle.atomic_list.proofs.Agreeing.{lists_agree}
use Rattle.atomic_list.proofs.CasesToRules.{rules_of_list}
use Rattle.atomic_list.proofs.RulesToCases.{list_of_rules}
use Rattle.region_layout.specs.declared.layout.Layout.{Layout}
use Rattle.region_layout.specs.Layout.{layout_shape, IsAllowed}
use Rattle.region_layout.proofs.Headers.{shapes_are_read}
use Rattle.bucket_log.specs.Reads.{IsLogOf}
use Rattle.bucket_log.proofs.Addresses.{list_word_is_log_word}
use Rattle.bucket_log.proofs.Appended.{inside_log}
use Rattle.bucket_log.proofs.Partitions.{log_word_out, part_word_below}
use Rattle.log_partition.specs.Merging.{AreLogsOf}
use Rattle.log_partition.specs.Views.{viewed}
use Rattle.log_partition.proofs.Merged.{log_of_view, same_seen}
use Rattle.recovery_run.specs.Reached.{newest_at, HasSettled}
use Rattle.recovery_run.proofs.Reaching.{settled_reached, has_state}
use Rattle.recovery_lists.specs.Repairs.{seen}
use Rattle.recovery_lists.specs.Lists.{IsAtState}

pub settled_state : (shape : Shape) (first y : State) (region : Region) → HasSettled shape first y region → HasState shape (newest_at region) y
settled_state shape first y region h = has_state shape first y region (settled_reached shape first y region h)

pub allowed_at : (layout : Layout) (region : Region) → IsAtState (layout_shape layout) region → IsAllowed (layout_shape layout)
allowed_at layout region h = subst IsAllowed h.settled.header.shape_is (shapes_are_read.allowed region.size (newest_at region) h.settled.header.header)

-- the lists of all partitions can be read
logs_of : (layout : Layout) (size : ℕ) (w : Words) (s : State) → IsAllowed (layout_shape layout) → IsShape size w → shape_of w ≡ layout_shape layout → HasState (layout_shape layout) w s →
    AreLogsOf layout size w
logs_of layout size w s ok is shape has = record {
  shape = is;
  has_layout = shape;
  lists = λ p lt. (has.chains p, rules p lt);
}
  where
    same : (p : ℕ) → p < layout.partitions → (a : ℕ) → IsListWord (layout_shape layout) p a → view p w a ≡ view p (log_words (layout_shape layout) w) a
    same p lt a m = view-out p w a
        ∙ sym (inside_log (layout_shape layout) w (out_address p a)
        (part_word_below (layout_shape layout) p (out_address p a) ok lt (log_word_out (layout_shape layout) p a (list_word_is_log_word (layout_shape layout) p a m))))
        ∙ sym (view-out p (log_words (layout_shape layout) w) a)

    rules : (p : ℕ) → p < layout.partitions → ListRules (IsBucketOf (layout_shape layout) p) (view p w) (has.chains p)
    rules p lt = rules_of_list (layout_shape layout) p (view p w) (has.chains p)
        (lists_agree (layout_shape layout) p (view p (log_words (layout_shape layout) w)) (view p w) (has.chains p) (same p lt)
        (list_of_rules (layout_shape layout) p (view p (log_words (layout_shape layout) w)) (has.chains p) (has.lists p lt).rules))

module _ (layout : Layout) (region : Region) (h : IsAtState (layout_shape layout) region) (words : List ℕ) (reads : words ≡ newest_words region) where
  logs_at : AreLogsOf layout (length words) (slice_index words)
  logs_at = subst (λ xs. AreLogsOf layout (length xs) (slice_index xs)) (sym reads)
      (subst (λ n. AreLogsOf layout n (newest_at region)) (sym (length-newest_words region))
      (logs_of layout region.size (newest_at region) h.state (allowed_at layout region h) h.settled.header.header h.settled.header.shape_is
      (settled_state (layout_shape layout) h.first h.state region h.settled)))

  pub enough_words : 32 ≤ length words
  enough_words = logs_at.shape.enough

  -- a partition's view can be read,
  pub view_is_log : (p : ℕ) (row : List ℕ) → p < layout.partitions → row ≡ viewed p words → IsLogOf layout (length row) (slice_index row)
  view_is_log p row lt is = log_of_view layout p words row lt logs_at is

  -- and shows the log words
  pub view_is_seen : (p : ℕ) (row : List ℕ) → p < layout.partitions → row ≡ viewed p words → SameLog (slice_index row) (seen (layout_shape layout) p (newest_at region))
  view_is_seen p row lt is = same_seen layout p words row (newest_at region) lt logs_at is (λ a below. subst (λ xs. newest_at region a ≡ slice_index xs a) (sym reads) refl)
