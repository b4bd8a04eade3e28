-- What a scan reads is the log of all words that have the same log words.
use Rattle.std.proofs.Common.{◌≡◌, ℕ, ◌<◌, List, map, reverse, sym, ap, ◌∙◌, subst, arith}
use Rattle.persist_model.specs.Region.{Words}
use Rattle.persist_model.specs.Shape.{IsBucketOf, log_words}
use Rattle.persist_model.specs.Chain.{view}
use Rattle.persist_model.specs.Sound.{IsListOf}
use Rattle.log_laws.proofs.RecordLists.{lists_one}
use Rattle.log_laws.proofs.SameLists.{chain_buckets}
use Rattle.atomic_list.proofs.ListChains.{list_has_chain}
use Rattle.atomic_list.proofs.RulesToCases.{list_of_rules}
use Rattle.atomic_list.proofs.Unique.{chain_is_one}
use Rattle.persist_model.specs.ImageRecords.{cell_address, IsRecordOf}
use Rattle.atomic_list.specs.Reads.{SameLog}
use Rattle.atomic_list.specs.Walk.{chain_of}
use Rattle.atomic_list.proofs.Parts.{whole_bucket_fits}
use Rattle.region_layout.specs.declared.layout.Layout.{Layout}
use Rattle.region_layout.specs.Layout.{layout_shape}
use Rattle.bucket_log.specs.declared.scanning.Placed.{Placed}
use Rattle.bucket_log.specs.Reads.{IsLogOf}
use Rattle.bucket_log.specs.Scans.{record_of_placed, IsLogIn, chain_cells, IsSortedOf, ViewsHaveLogs, LogsAreStates}
use Rattle.bucket_log.proofs.AppendImages.{Each-among}
use Rattle.bucket_log.proofs.Appended.{view_records}
use Rattle.bucket_log.proofs.RecordSets.{same_cell}
use Rattle.bucket_log.proofs.Scans.{sorted_is_log, log_same}
use Rattle.bucket_log.proofs.Walking.{good_chain, same_chain, same_below}

pub scan_log : (layout : Layout) (size : ℕ) (w : Words) → IsLogOf layout size w → (v : Words) → SameLog w v → (found sorted : List Placed) →
    found ≡ chain_cells w layout.cells (chain_of (layout_shape layout) w) → IsSortedOf found sorted →
    IsLogIn layout.cells v (chain_of (layout_shape layout) v) (reverse (map record_of_placed sorted))
scan_log layout size w log v same found sorted is h =
    let good = good_chain layout size w log in
    let chain : List ℕ = chain_of (layout_shape layout) w in
    subst (λ xs. IsLogIn layout.cells v xs (reverse (map record_of_placed sorted))) (sym (same_chain layout size w v log same))
    (log_same layout.cells w v chain (reverse (map record_of_placed sorted)) (λ b c m below. same_cell v w (cell_address b c) (λ a low high.
    (let fits = whole_bucket_fits (layout_shape layout) log.has_list.part b good.below (Each-among (IsBucketOf (layout_shape layout) log.has_list.part) chain b good.buckets m) in
    same_below layout size w v log same a (omega (arith, fits, below, low, high)))))
    (sorted_is_log (layout_shape layout) log.has_list.part w chain found sorted good.buckets good.once is h))

pub views_have_logs : ViewsHaveLogs
views_have_logs shape p w chain log list =
    let buckets = chain_buckets (IsBucketOf shape p) (view p w) chain list.rules in (
      (λ h. record {
        newest_first = h.newest_first;
        each = λ r. (λ m. (view_records shape p w chain buckets r).0 ((h.each r).0 m), λ k. (h.each r).1 ((view_records shape p w chain buckets r).1 k));
      }),
      (λ h. record {
        newest_first = h.newest_first;
        each = λ r. (λ m. (view_records shape p w chain buckets r).1 ((h.each r).0 m), λ k. (h.each r).1 ((view_records shape p w chain buckets r).0 k));
      }),
    )

pub logs_are_states : LogsAreStates
logs_are_states shape z s chain log one has list h =
    lists_one log s.log h.newest_first has.records.newest_first
    (λ r m. (has.records.each r).1 (0, inside, subst (λ xs. IsRecordOf shape.cells xs (log_words shape z) r) (same 0 inside) ((h.each r).0 m)))
    (λ r m. (let k = (has.records.each r).0 m in (h.each r).1 (subst (λ xs. IsRecordOf shape.cells xs (log_words shape z) r) (sym (same k.0 k.1)) k.2)))
  where
    inside : 0 < shape.partitions
    inside = omega (arith, one)

    chain_is : (other : List ℕ) → IsListOf shape 0 (log_words shape z) other → chain ≡ other
    chain_is other k = chain_is_one (view 0 (log_words shape z)) chain other
        (list_has_chain shape 0 (view 0 (log_words shape z)) chain (list_of_rules shape 0 (view 0 (log_words shape z)) chain list.rules))
        (list_has_chain shape 0 (view 0 (log_words shape z)) other (list_of_rules shape 0 (view 0 (log_words shape z)) other k.rules))

    same : (p : ℕ) → p < shape.partitions → chain ≡ has.chains p
    same p lt = let first : p ≡ 0 = omega (arith, one, lt) in chain_is (has.chains 0) (has.lists 0 inside) ∙ ap has.chains (sym first)
