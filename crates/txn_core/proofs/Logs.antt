-- A sound image that a read finds has a list for each partition.
use Rattle.std.proofs.Common.{◌≡◌, ⊎_elim, ℕ, ◌<◌, length, sym, ◌∙◌, subst, arith}
use Rattle.std.specs.Prelude.{slice_index}
use Rattle.std.proofs.Math.Logic.{∥∥₁_elim}
use Rattle.std.proofs.lemmas.List.FromFn.{length-map-range_with_len, get_or-map-range_with_len}
use Rattle.persist_model.specs.Region.{Words, Region, newest, newest_words}
use Rattle.persist_model.specs.Shape.{Shape, shape_of, heap, words_of_shape, log_words, IsBucketOf, IsShape}
use Rattle.persist_model.specs.Chain.{view, out_address, ListRules}
use Rattle.persist_model.specs.Sound.{HasState, IsSound}
use Rattle.persist_model.specs.Faults.{IsFirstFault}
use Rattle.log_laws.proofs.Soundness.{sound_or_faulty, sound_has_no_fault}
use Rattle.log_laws.proofs.Views.{view-out}
use Rattle.atomic_list.specs.Rules.{IsList}
use Rattle.atomic_list.proofs.CasesToRules.{rules_of_list}
use Rattle.atomic_list.proofs.RulesToCases.{list_of_rules}
use Rattle.region_layout.specs.declared.layout.Layout.{Layout}
use Rattle.region_layout.specs.declared.layout.Buckets.{Buckets}
use Rattle.region_layout.specs.Layout.{layout_shape, IsPartition}
use Rattle.bucket_log.specs.Reads.{IsLogOfPart}
use Rattle.bucket_log.specs.Words.{IsLogWord}
use Rattle.bucket_log.proofs.Appended.{inside_log}
use Rattle.bucket_log.proofs.Partitions.{log_word_out, part_word_below}
use Rattle.log_partition.specs.Views.{viewed, HasLogOf}
use Rattle.log_partition.proofs.Views.{length-viewed, viewed-is, view_shape, own_words_decide}
use Rattle.log_partition.proofs.Marking.{allowed}
use Rattle.history_laws.specs.Stands.{IsHeader}
use Rattle.history_laws.proofs.Headers.{header_below, same_shape, is_shape}
use Rattle.txn_state.specs.AppendLaws.{newest_image}
use Rattle.txn_state.specs.ReadLaws.{HasLogs}

-- soundness is decided
pub sound_by : (size : ℕ) (w : Words) → ∥ IsSound size w ∥₁ → IsSound size w
sound_by size w some = ⊎_elim (λ (h : IsSound size w). h) (λ (f : (fault : ℕ) × (a : ℕ) × IsFirstFault size w fault a).
    absurd (∥∥₁_elim some (λ a. absurd a) (λ h. sound_has_no_fault size w f.0 f.1 h f.2))) (sound_or_faulty size w)

row_word : (region : Region) (a : ℕ) → a < region.size → slice_index (newest_words region) a ≡ newest (region.at a)
row_word region a lt = get_or-map-range_with_len (λ b. newest (region.at b)) 0 region.size a a 0 lt (omega arith)

module _ (layout : Layout) (region : Region) (sound : IsSound region.size (newest_image region)) (of_shape : shape_of (newest_image region) ≡ layout_shape layout)
    (long : region.size ≡ words_of_shape (layout_shape layout)) where
  abbrev shape : Shape
  shape = layout_shape layout

  abbrev i : Words
  i = newest_image region

  abbrev row : Words
  row = slice_index (newest_words region)

  row_header : (a : ℕ) → IsHeader a → slice_index (newest_words region) a ≡ newest_image region a
  row_header a m = row_word region a (let low = header_below a m in let size = sound.shape.enough in omega (arith, low, size))

  row_shape : shape_of (slice_index (newest_words region)) ≡ layout_shape layout
  row_shape = same_shape region.size i row sound.shape row_header ∙ of_shape

  row_is_shape : IsShape region.size (slice_index (newest_words region))
  row_is_shape = is_shape region.size i row sound.shape row_header

  has : HasState (layout_shape layout) (newest_image region) sound.state
  has = subst (λ (z : Shape). HasState z i sound.state) of_shape sound.has

  module _ (p : ℕ) (lt : p < layout.partitions) where
    abbrev logged : Words
    logged = view p (log_words (layout_shape layout) (newest_image region))

    list : IsList (layout_shape layout) p (view p (log_words (layout_shape layout) (newest_image region))) (has.chains p)
    list = list_of_rules shape p logged (has.chains p) (has.lists p lt).rules

    out_below : (a : ℕ) → IsLogWord (layout_shape layout) p a → out_address p a < heap (layout_shape layout)
    out_below a m = part_word_below shape p (out_address p a) (allowed layout) lt (log_word_out shape p a m)

    row_same : (a : ℕ) → IsLogWord (layout_shape layout) p a → view p (slice_index (newest_words region)) a ≡ view p (log_words (layout_shape layout) (newest_image region)) a
    row_same a m =
        let below = out_below a m in
        let size = long in
        view-out p row a ∙ row_word region (out_address p a) (omega (arith, below, size)) ∙ sym (inside_log shape i (out_address p a) below) ∙ sym (view-out p (log_words shape i) a)

    row_log : HasLogOf (layout_shape layout) p (view p (log_words (layout_shape layout) (newest_image region))) (view p (slice_index (newest_words region)))
    row_log = own_words_decide shape p logged (view p row) (λ a m out. row_same a m)

    seen_log : (part : Buckets) → IsPartition (layout_shape layout) p part → IsLogOfPart layout part region.size (view p (slice_index (newest_words region)))
    seen_log part is_part = record {
      log = record {
        has_list = record {
          shape = view_shape region.size p row row_is_shape;
          part = p;
          below = subst (λ (z : Shape). p < z.partitions) (sym row_shape) lt;
          chain = has.chains p;
          rules = subst (λ z. ListRules (IsBucketOf z p) (view p row) (has.chains p)) (sym row_shape) (rules_of_list shape p (view p row) (has.chains p) (row_log.list (has.chains p) list));
        };
        has_layout = row_shape;
      };
      is_part = is_part;
    }

    rows : length (viewed p (newest_words region)) ≡ region.size
    rows = length-viewed p (newest_words region) ∙ length-map-range_with_len (λ a. newest (region.at a)) 0 region.size

    log_seen : (part : Buckets) → IsPartition (layout_shape layout) p part →
        IsLogOfPart layout part (length (viewed p (newest_words region))) (slice_index (viewed p (newest_words region)))
    log_seen part is_part = subst (λ n. IsLogOfPart layout part n (slice_index (viewed p (newest_words region)))) (sym rows)
        (subst (IsLogOfPart layout part region.size) (sym (viewed-is p (newest_words region))) (seen_log part is_part))

  pub logs_of_sound : HasLogs layout (newest_words region)
  logs_of_sound = record {
    long = length-map-range_with_len (λ a. newest (region.at a)) 0 region.size ∙ long;
    logs = λ p part lt is_part. log_seen p lt part is_part;
  }
