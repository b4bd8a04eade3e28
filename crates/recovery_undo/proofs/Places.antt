-- Where a record goes that recovery appends, and what its append leaves of the recovery words and of the header.
use Rattle.std.proofs.Common.{◌≡◌, ◌↔◌, ℕ, ◌+◌, ◌<◌, ◌≤◌, Bool, true, false, List, length, None, Option, refl, sym, ap, ◌∙◌, subst, arith}
use Rattle.std.specs.Prelude.{slice_index}
use Rattle.std.proofs.lemmas.List.FromFn.{length-map-range_with_len}
use Rattle.persist_model.specs.Region.{Words, Region, newest, newest_words}
use Rattle.persist_model.specs.Shape.{Shape, shape_of, heap, words_of_shape, log_words, list_words, IsShape, IsBucketOf}
use Rattle.persist_model.specs.Chain.{view, out_address, AreBuckets, ListRules}
use Rattle.persist_model.specs.State.{State}
use Rattle.persist_model.specs.Sound.{HasState, room_of}
use Rattle.log_laws.proofs.Views.{view-out}
use Rattle.atomic_list.specs.Reads.{SameLog}
use Rattle.atomic_list.specs.Rules.{IsAtRest, IsList, at_rest, appending, removing, IsListWord}
use Rattle.atomic_list.specs.Walk.{chain_of}
use Rattle.atomic_list.proofs.Agreeing.{lists_agree}
use Rattle.atomic_list.proofs.Cases.{chain_is_buckets}
use Rattle.atomic_list.proofs.CasesToRules.{rules_of_list}
use Rattle.atomic_list.proofs.RulesToCases.{list_of_rules}
use Rattle.atomic_list.proofs.Walks.{chain_of_list}
use Rattle.region_layout.specs.declared.layout.Layout.{Layout}
use Rattle.region_layout.specs.declared.layout.Buckets.{Buckets}
use Rattle.region_layout.specs.Layout.{layout_shape, IsAllowed, IsPartition}
use Rattle.region_layout.proofs.Headers.{shapes_are_read}
use Rattle.bucket_log.specs.declared.append.Place.{Place}
use Rattle.bucket_log.specs.Places.{IsPlaceBy, IsNextPlace}
use Rattle.bucket_log.specs.Reads.{IsLogOfPart, IsLeastOutside}
use Rattle.bucket_log.proofs.Addresses.{bucket_above, list_word_is_log_word}
use Rattle.bucket_log.proofs.AppendImages.{Each-among}
use Rattle.bucket_log.proofs.Appended.{inside_log, view_room, next_places_take}
use Rattle.bucket_log.proofs.Partitions.{few_parts, bucket_word_below, log_word_out, part_word_below, registers_below}
use Rattle.log_partition.specs.Used.{chains_in}
use Rattle.log_partition.specs.Views.{viewed}
use Rattle.log_partition.specs.Merging.{AreLogsOf}
use Rattle.log_partition.proofs.Views.{viewed-is, length-viewed, view_shape, out_below}
use Rattle.recovery_run.specs.Reached.{newest_at, HasReached, IsQuiet}
use Rattle.recovery_run.proofs.Reaching.{has_state}
use Rattle.recovery_undo.specs.RecoveryAppends.{IsPlaceFor}

-- ---- the next place

module _ (layout : Layout) (first y : State) (region : Region) (h : HasReached (layout_shape layout) first y region) where
  abbrev shape : Shape
  shape = layout_shape layout

  abbrev w : Words
  w = newest_at region

  abbrev logged : Words
  logged = log_words shape w

  pub allowed : IsAllowed (layout_shape layout)
  allowed = subst IsAllowed h.header.shape_is (shapes_are_read.allowed region.size w h.header.header)

  pub has : HasState shape w y
  has = has_state shape first y region h

  list_in : (p : ℕ) → p < layout.partitions → IsList shape p (view p logged) (has.chains p)
  list_in p lt = list_of_rules shape p (view p logged) (has.chains p) (has.lists p lt).rules

  chain_buckets : (p : ℕ) → p < layout.partitions → AreBuckets (IsBucketOf shape p) (has.chains p)
  chain_buckets p lt = chain_is_buckets shape p (view p logged) (has.chains p) (list_in p lt)

  seen_same : (p a : ℕ) → p < layout.partitions → IsListWord shape p a → view p w a ≡ view p logged a
  seen_same p a lt m =
      let out = part_word_below shape p (out_address p a) allowed lt (log_word_out shape p a (list_word_is_log_word shape p a m)) in
      view-out p w a ∙ sym (inside_log shape w (out_address p a) out) ∙ sym (view-out p logged a)

  -- the list of a partition in the words that are read
  pub list_here : (p : ℕ) → p < layout.partitions → IsList (layout_shape layout) p (view p (newest_at region)) (has.chains p)
  list_here p lt = lists_agree shape p (view p logged) (view p w) (has.chains p) (λ a m. seen_same p a lt m) (list_in p lt)

  -- the words that are read are those of logs
  pub logs_of : AreLogsOf layout (length (newest_words region)) (newest_at region)
  logs_of = record {
    shape = subst (λ n. IsShape n w) (sym (length-map-range_with_len (λ a. newest (region.at a)) 0 region.size)) h.header.header;
    has_layout = h.header.shape_is;
    lists = λ p lt. (has.chains p, rules_of_list shape p (view p w) (has.chains p) (list_here p lt));
  }

  -- a quiet partition's list is at rest
  rests : (p : ℕ) → p < layout.partitions → IsQuiet p w → IsAtRest shape p (view p logged) (has.chains p)
  rests p lt quiet = by_case (list_in p lt)
    where
      few : p < 3
      few = few_parts shape p allowed lt

      is_zero : (i : ℕ) → i ≤ 4 → w (list_words p + i) ≡ 0 → logged (list_words p + i) ≡ 0
      is_zero i le none = inside_log shape w (list_words p + i) (let low = registers_below p (list_words p + i) few (omega (arith, le)) in omega (arith, low)) ∙ none

      by_case : {xs : List ℕ} → IsList shape p (view p logged) xs → IsAtRest shape p (view p logged) xs
      by_case (at_rest rest) = rest
      by_case (appending front node a e) = (let above = bucket_above shape p node a.bucket in let is : node ≡ 0 = sym a.to_append ∙ is_zero 2 (omega arith) quiet.0 in absurd (omega (arith, above, is)))
      by_case (removing front node rest a e) = (let above = bucket_above shape p node a.bucket in let is : node ≡ 0 = sym a.to_remove ∙ is_zero 4 (omega arith) quiet.1 in absurd (omega (arith, above, is)))

  module _ (p : ℕ) (lt : p < layout.partitions) (row : List ℕ) (is : row ≡ viewed p (newest_words region)) (part : Buckets) (is_part : IsPartition shape p part) (found : Option Place) where
    seen_in : SameLog (view p w) (view p logged)
    seen_in a below =
        let inside : out_address p a < heap shape = subst (λ s. out_address p a < heap s) h.header.shape_is (out_below p a (heap (shape_of w)) (few_parts shape p allowed lt) (omega arith) below) in
        view-out p logged a ∙ inside_log shape w (out_address p a) inside ∙ sym (view-out p w a)

    seen : SameLog (slice_index row) (view p logged)
    seen = subst (λ (z : Words). SameLog z (view p logged)) (sym (ap slice_index is ∙ viewed-is p (newest_words region))) seen_in

    seen_log : IsLogOfPart layout part (length (newest_words region)) (view p w)
    seen_log = record {
      log = record {
        has_list = record {
          shape = view_shape (length (newest_words region)) p w logs_of.shape;
          part = p;
          below = subst (λ (s : Shape). p < s.partitions) (sym h.header.shape_is) lt;
          chain = (logs_of.lists p lt).0;
          rules = subst (λ s. ListRules (IsBucketOf s p) (view p w) (logs_of.lists p lt).0) (sym h.header.shape_is) (logs_of.lists p lt).1;
        };
        has_layout = h.header.shape_is;
      };
      is_part = is_part;
    }

    -- the partition's log can be read
    pub log_part : IsLogOfPart layout part (length row) (slice_index row)
    log_part =
        subst (λ xs. IsLogOfPart layout part (length xs) (slice_index xs)) (sym is)
        (subst (λ n. IsLogOfPart layout part n (slice_index (viewed p (newest_words region)))) (sym (length-viewed p (newest_words region)))
        (subst (IsLogOfPart layout part (length (newest_words region))) (sym (viewed-is p (newest_words region))) seen_log))

    -- what is outside the chain is outside that of the view
    pub least_seen : (least : Option ℕ) → IsLeastOutside (layout_shape layout) part (chains_in (layout_shape layout) (newest_at region) p) least →
        IsLeastOutside (layout_shape layout) part (chain_of (layout_shape layout) (slice_index row)) least
    least_seen least outside = subst (λ (z : Words). IsLeastOutside shape part (chain_of shape z) least) (sym (ap slice_index is ∙ viewed-is p (newest_words region))) outside

    here_is : chain_of shape (view p logged) ≡ has.chains p
    here_is = (chain_of_list shape p (view p logged) (has.chains p) lt (list_in p lt)).0

    pub found_next : (place : Place) → ((v : Words) (q : ℕ) → SameLog (slice_index row) v → IsPartition shape q part → IsNextPlace shape q v (chain_of shape v) place) →
        IsNextPlace shape p (view p logged) (has.chains p) place
    found_next place tells = subst (λ chain. IsNextPlace shape p (view p logged) chain place) here_is (tells (view p logged) p seen is_part)

    -- and it is next in the words that are read
    pub found_here : (place : Place) → ((v : Words) (q : ℕ) → SameLog (slice_index row) v → IsPartition shape q part → IsNextPlace shape q v (chain_of shape v) place) →
        IsNextPlace (layout_shape layout) p (view p (newest_at region)) (chains_in (layout_shape layout) (newest_at region) p) place
    found_here place tells = tells (view p w) p (subst (λ (z : Words). SameLog z (view p w)) (sym (ap slice_index is ∙ viewed-is p (newest_words region))) (λ a below. refl)) is_part

    room_is : room_of shape (view p logged) p (chain_of shape (view p logged)) ≡ y.room p
    room_is = ap (room_of shape (view p logged) p) here_is ∙ view_room shape p logged (has.chains p) (chain_buckets p lt) ∙ sym (has.room p lt)

    -- where there is room there is a next place
    pub found_some : ((v : Words) (q : ℕ) → SameLog (slice_index row) v → IsPartition shape q part → (found ≡ None) ↔ (room_of shape v q (chain_of shape v) ≡ 0)) → 1 ≤ y.room p →
        found ≡ None → ⊥
    found_some tells some nothing = let empty : room_of shape (view p logged) p (chain_of shape (view p logged)) ≡ 0 = (tells (view p logged) p seen is_part).0 nothing in
        let e = room_is in omega (arith, empty, e, some)

  -- ---- a place that is next

  module _ (p : ℕ) (lt : p < layout.partitions) (place : Place) (next : IsNextPlace shape p (view p logged) (has.chains p) place) where
    pub takes : IsQuiet p w → IsPlaceFor shape p w place
    takes quiet = record { chain = has.chains p; takes = λ r at gate. next_places_take shape p (view p logged) (has.chains p) place r (rests p lt quiet) next at gate }

    bucket_by : (fresh : Bool) → IsPlaceBy shape p (view p logged) (has.chains p) place fresh → IsBucketOf shape p place.bucket
    bucket_by true is = is.bucket
    bucket_by false is = Each-among (IsBucketOf shape p) (has.chains p) place.bucket (chain_buckets p lt) is.bucket

    pub place_in_part : IsBucketOf (layout_shape layout) p place.bucket
    place_in_part = bucket_by place.fresh next.is_place

    pub place_below : place.bucket < words_of_shape shape
    place_below = let below = bucket_word_below shape p place.bucket allowed lt (place.bucket, place_in_part, omega arith, omega arith) in omega (arith, below)
