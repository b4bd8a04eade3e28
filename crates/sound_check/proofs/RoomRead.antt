-- The room that is read of a partition's view.
use Rattle.std.proofs.Common.{◌≡◌, ◌≢◌, inl, inr, ℕ, ◌+◌, ◌*◌, ◌-◌, ◌<◌, ◌≤◌, ◌^◌, List, length, refl, sym, ap, ◌∙◌, subst, arith}
use Rattle.std.specs.Prelude.{slice_index}
use Rattle.std.proofs.lemmas.Bool.Decides.{eqb_tells}
use Rattle.std.proofs.Math.Nat.{mul-le-mul, mul-le-mul_left}
use Rattle.persist_model.specs.Region.{Words}
use Rattle.persist_model.specs.Shape.{Shape, log_words, IsBucketOf, count_buckets}
use Rattle.persist_model.specs.Chain.{view, IsLink, last_or, ListRules}
use Rattle.persist_model.specs.ImageRecords.{cell_address}
use Rattle.persist_model.specs.State.{State}
use Rattle.persist_model.specs.Sound.{room_of, HasState}
use Rattle.log_laws.proofs.AddressLists.{each_map, each_last}
use Rattle.log_laws.proofs.ListFaults.{view_behind}
use Rattle.log_laws.proofs.SameLists.{chain_buckets}
use Rattle.log_laws.proofs.Visits.{above_header}
use Rattle.atomic_list.specs.Reads.{SameLog}
use Rattle.atomic_list.specs.Walk.{chain_of}
use Rattle.atomic_list.proofs.RulesToCases.{list_of_rules}
use Rattle.atomic_list.proofs.Walks.{chain_of_list}
use Rattle.atomic_list.proofs.Parts.{parts_fit}
use Rattle.region_layout.specs.declared.layout.Layout.{Layout}
use Rattle.region_layout.specs.declared.layout.Buckets.{Buckets}
use Rattle.region_layout.specs.Layout.{layout_shape, IsPartition}
use Rattle.bucket_log.specs.Reads.{IsLogOfPart}
use Rattle.bucket_log.proofs.Rooms.{closed_below, room_same}
use Rattle.log_partition.specs.Views.{viewed}
use Rattle.log_partition.specs.Merging.{AreLogsOf}
use Rattle.log_partition.proofs.Views.{length-viewed, viewed-is, view_shape}
use Rattle.log_partition.proofs.Merged.{same_seen}
use Rattle.sound_check.proofs.Buckets.{few_cells}

pub log_of_part : (layout : Layout) (p : ℕ) (xs row : List ℕ) (part : Buckets) → p < layout.partitions → AreLogsOf layout (length xs) (slice_index xs) → IsPartition (layout_shape layout) p part → row ≡ viewed p xs →
    IsLogOfPart layout part (length row) (slice_index row)
log_of_part layout p xs row part lt logs is_part is =
    subst (λ ys. IsLogOfPart layout part (length ys) (slice_index ys)) (sym is)
    (subst (λ n. IsLogOfPart layout part n (slice_index (viewed p xs))) (sym (length-viewed p xs))
    (subst (IsLogOfPart layout part (length xs)) (sym (viewed-is p xs)) seen))
  where
    list : (chain : List ℕ) × ListRules (IsBucketOf (layout_shape layout) p) (view p (slice_index xs)) chain
    list = logs.lists p lt

    seen : IsLogOfPart layout part (length xs) (view p (slice_index xs))
    seen = record {
      log = record {
        has_list = record {
          shape = view_shape (length xs) p (slice_index xs) logs.shape;
          part = p;
          below = subst (λ (s : Shape). p < s.partitions) (sym logs.has_layout) lt;
          chain = list.0;
          rules = subst (λ s. ListRules (IsBucketOf s p) (view p (slice_index xs)) list.0) (sym logs.has_layout) list.1;
        };
        has_layout = logs.has_layout;
      };
      is_part = is_part;
    }

-- ---- it is that of the state

view_room : (shape : Shape) (p : ℕ) (z : Words) (chain : List ℕ) → ListRules (IsBucketOf shape p) (view p z) chain → room_of shape (view p z) p chain ≡ room_of shape z p chain
view_room shape p z chain rules = room_same shape (view p z) z p chain (λ c below ne. view_behind p (cell_address (last_or 0 chain) c) z (far ne c))
  where
    link : IsLink (IsBucketOf shape p) (last_or 0 chain)
    link = each_last (IsLink (IsBucketOf shape p)) 0 chain (inl refl) (each_map (IsBucketOf shape p) (IsLink (IsBucketOf shape p)) chain (λ b is. inr is) (chain_buckets (IsBucketOf shape p) (view p z) chain rules))

    far : last_or 0 chain ≢ 0 → (c : ℕ) → 12 < cell_address (last_or 0 chain) c
    far ne c = elim link [ inl e ↦ absurd (ne e) | inr is ↦ (let high = above_header shape p (last_or 0 chain) is in omega (arith, high)) ]

pub room_is_state : (layout : Layout) (p : ℕ) (xs row : List ℕ) (part : Buckets) (s : State) (n : ℕ) → p < layout.partitions → AreLogsOf layout (length xs) (slice_index xs) → IsPartition (layout_shape layout) p part →
    row ≡ viewed p xs → HasState (layout_shape layout) (slice_index xs) s →
    ((w : Words) (q : ℕ) → SameLog (slice_index row) w → IsPartition (layout_shape layout) q part → n ≡ room_of (layout_shape layout) w q (chain_of (layout_shape layout) w)) → n ≡ s.room p
room_is_state layout p xs row part s n lt logs is_part is has read =
    read v p (same_seen layout p xs row (slice_index xs) lt logs is (λ a below. refl)) is_part
    ∙ ap (room_of (layout_shape layout) v p) chain_is ∙ view_room (layout_shape layout) p z (has.chains p) (has.lists p lt).rules ∙ sym (has.room p lt)
  where
    z : Words
    z = log_words (layout_shape layout) (slice_index xs)

    v : Words
    v = view p z

    chain_is : chain_of (layout_shape layout) v ≡ has.chains p
    chain_is = (chain_of_list (layout_shape layout) p v (has.chains p) lt (list_of_rules (layout_shape layout) p v (has.chains p) (has.lists p lt).rules)).0

-- ---- and small

room_bound : (shape : Shape) (w : Words) (p : ℕ) (chain : List ℕ) → room_of shape w p chain ≤ shape.cells + shape.cells * count_buckets shape p
room_bound shape w p chain =
    let closed = closed_below w (last_or 0 chain) shape.cells in
    let fewer : shape.cells * (count_buckets shape p - length chain) ≤ shape.cells * count_buckets shape p = mul-le-mul_left shape.cells (omega arith) in
    elim (eqb_tells (last_or 0 chain) 0) [
      | inl e ↦ rw e.0 (omega (arith, fewer))
      | inr e ↦ rw e.0 (omega (arith, fewer, closed))
    ]

pub room_small : (layout : Layout) (p : ℕ) (row : List ℕ) (part : Buckets) (n : ℕ) → p < layout.partitions → IsPartition (layout_shape layout) p part →
    ((w : Words) (q : ℕ) → SameLog (slice_index row) w → IsPartition (layout_shape layout) q part → n ≡ room_of (layout_shape layout) w q (chain_of (layout_shape layout) w)) → n < 2 ^ 63
room_small layout p row part n lt is_part read =
    let e = read (slice_index row) p (λ a below. refl) is_part in
    let bound = room_bound (layout_shape layout) (slice_index row) p (chain_of (layout_shape layout) (slice_index row)) in
    let cells = few_cells layout.cells layout.cells_are in
    let fit = parts_fit (layout_shape layout) p lt in
    let buckets = layout.buckets_within in
    let few : count_buckets (layout_shape layout) p ≤ 1024 = omega (arith, fit, buckets) in
    let product = mul-le-mul cells few in omega (arith, e, bound, cells, product)
