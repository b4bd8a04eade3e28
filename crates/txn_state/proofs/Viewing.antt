-- What is read of a partition's view of the newest words.
use Rattle.std.proofs.Common.{◌≡◌, ℕ, ◌<◌, ◌≤◌, Bool, true, false, List, ◌∷◌, length, inl, Some, refl, sym, ap, ◌∙◌, subst, arith}
use Rattle.std.specs.Prelude.{slice_index}
use Rattle.std.proofs.lemmas.List.FromFn.{length-map-range_with_len, get_or-map-range_with_len}
use Rattle.persist_model.specs.Region.{Words, Region, MayStand, newest, newest_words}
use Rattle.persist_model.specs.Records.{IsAmong}
use Rattle.persist_model.specs.Shape.{Shape, shape_of, heap, words_of_shape, log_words, IsBucketOf, IsShape}
use Rattle.persist_model.specs.Chain.{view, out_address, last_or, AreBuckets, ListRules}
use Rattle.persist_model.specs.ImageRecords.{cell_address}
use Rattle.persist_model.specs.Sound.{HasState, IsClosedBucket, room_of}
use Rattle.log_laws.proofs.Views.{view-out}
use Rattle.atomic_list.specs.declared.plans.Remove.{Remove}
use Rattle.atomic_list.specs.Rules.{IsList}
use Rattle.atomic_list.specs.Walk.{chain_of}
use Rattle.atomic_list.proofs.Cases.{chain_is_buckets}
use Rattle.atomic_list.proofs.CasesToRules.{rules_of_list}
use Rattle.atomic_list.proofs.RulesToCases.{list_of_rules}
use Rattle.atomic_list.proofs.Walks.{chain_of_list}
use Rattle.region_layout.specs.declared.layout.Layout.{Layout}
use Rattle.region_layout.specs.declared.layout.Buckets.{Buckets}
use Rattle.region_layout.specs.Layout.{layout_shape, IsAllowed, IsPartition}
use Rattle.bucket_log.specs.declared.append.Place.{Place}
use Rattle.bucket_log.specs.Places.{IsPlaceBy, IsNextPlace}
use Rattle.bucket_log.specs.Reads.{IsLogOfPart}
use Rattle.bucket_log.specs.Words.{IsLogWord}
use Rattle.bucket_log.proofs.Addresses.{cell_word_is_log_word}
use Rattle.bucket_log.proofs.AppendImages.{Each-among, among_last}
use Rattle.bucket_log.proofs.Appended.{inside_log}
use Rattle.bucket_log.proofs.Partitions.{few_parts, log_word_out, part_word_below}
use Rattle.persist_model.proofs.Among.{among_left, among_right}
use Rattle.log_partition.specs.Views.{viewed, HasLogOf}
use Rattle.log_partition.proofs.Views.{length-viewed, viewed-is, view_shape, own_words_decide}
use Rattle.log_clearing.specs.Dropping.{IsFirstClosed, IsRemovalOf}
use Rattle.lane_book.specs.declared.book.Book.{Book}
use Rattle.log_keeper.specs.declared.keeper.LogKeeper.{LogKeeper}
use Rattle.log_keeper.specs.Rooms.{IsRoomAt}
use Rattle.log_keeper.proofs.EventsPass.{images_are_reached}
use Rattle.history_laws.specs.Stands.{IsHeader, StandsFor}
use Rattle.history_laws.proofs.Headers.{header_is_none's, header_below, same_shape, is_shape}
use Rattle.txn_laws.specs.Flights.{flight_of}
use Rattle.txn_laws.proofs.Moments.{worlds_stand}
use Rattle.txn_laws.proofs.Rooms.{newest_stand}
use Rattle.txn_state.specs.States.{IsStateOf}
use Rattle.txn_state.specs.AppendLaws.{newest_image, IsPlaceRead}
use Rattle.txn_state.specs.ClosingLaws.{IsRemovalRead}
use Rattle.txn_state.specs.ReadLaws.{NewestHaveLogs, IsNextPlaceSeen, room_seen, IsRemovalSeen}

-- ---- words that agree on the partition's log

module _ (shape : Shape) (p : ℕ) (w v : Words) (chain : List ℕ) (same : (a : ℕ) → IsLogWord shape p a → v a ≡ w a) (buckets : AreBuckets (IsBucketOf shape p) chain) where
  cell_same : (b c : ℕ) → IsAmong chain b → c < shape.cells → v (cell_address b c) ≡ w (cell_address b c)
  cell_same b c m lt = same (cell_address b c) (cell_word_is_log_word shape p b c (cell_address b c) (Each-among (IsBucketOf shape p) chain b buckets m) lt (omega arith) (omega arith))

  place_same : (place : Place) (fresh : Bool) → place.cell < shape.cells → IsPlaceBy shape p w chain place fresh → IsPlaceBy shape p v chain place fresh
  place_same place true below is = record {
    bucket = is.bucket;
    absent = is.absent;
    tail = is.tail;
    full = λ some c lt none. is.full some c lt (sym (cell_same (last_or 0 chain) c (among_last chain some) lt) ∙ none);
  }
  place_same place false below is = record { bucket = is.bucket; last = is.last; closed = cell_same place.bucket place.cell is.bucket below ∙ is.closed }

  in_chain : (place : Place) (fresh : Bool) → fresh ≡ false → IsPlaceBy shape p w chain place fresh → IsAmong chain place.bucket
  in_chain place true e is = cc
  in_chain place false e is = is.bucket

  -- the next place is the same
  pub next_same : (place : Place) → IsNextPlace shape p w chain place → IsNextPlace shape p v chain place
  next_same place next = record {
    is_place = place_same place place.fresh next.below next.is_place;
    below = next.below;
    tail = next.tail;
    first_cell = next.first_cell;
    first_closed = λ used c lt none. (let below = next.below in
        next.first_closed used c lt (sym (cell_same place.bucket c (in_chain place place.fresh used next.is_place) (omega (arith, lt, below))) ∙ none));
    least = next.least;
  }

  closed_same : (b : ℕ) → IsAmong chain b → IsClosedBucket shape w b → IsClosedBucket shape v b
  closed_same b m closed c lt = cell_same b c m lt ∙ closed c lt

  closed_back : (b : ℕ) → IsAmong chain b → IsClosedBucket shape v b → IsClosedBucket shape w b
  closed_back b m closed c lt = sym (cell_same b c m lt) ∙ closed c lt

  -- and so is the next removal
  pub removal_same : (r : Remove) → IsFirstClosed shape w chain r → IsFirstClosed shape v chain r
  removal_same r is = record {
    front = is.front;
    rest = is.rest;
    chain_is = is.chain_is;
    prev = is.prev;
    next = is.next;
    not_last = is.not_last;
    closed = closed_same r.node (subst (λ xs. IsAmong xs r.node) (sym is.chain_is) (among_right is.front (r.node ∷ is.rest) r.node (inl refl))) is.closed;
    first = λ b m closed. is.first b m (closed_back b (subst (λ xs. IsAmong xs b) (sym is.chain_is) (among_left is.front (r.node ∷ is.rest) b m)) closed);
  }

-- ---- the newest words

-- what a row of them has, where there are words
row_word : (region : Region) (a : ℕ) → a < region.size → slice_index (newest_words region) a ≡ newest (region.at a)
row_word region a lt = get_or-map-range_with_len (λ b. newest (region.at b)) 0 region.size a a 0 lt (omega arith)

module _ {E : Type 0} (layout : Layout) (start : Words) (book : Book E) (keeper : LogKeeper) (region : Region) (spare events : ℕ)
    (full : (a : ℕ) → 0 < length (region.at a)) (st : IsStateOf layout start book keeper region spare events) where
  abbrev shape : Shape
  shape = layout_shape layout

  abbrev i : Words
  i = newest_image region

  abbrev row : Words
  row = slice_index (newest_words region)

  image : MayStand (newest_image region) region
  image = newest_stand region (newest_image region) (λ a lt. full a) (λ a lt. refl)

  pub allowed : IsAllowed (layout_shape layout)
  allowed = st.world.log.logged.allowed

  header : (a : ℕ) → IsHeader a → newest_image region a ≡ st.base a
  header a m = (images_are_reached shape st.base st.s st.chains st.w.keeping region i st.world.log.logged image).header a (header_below a m)
      (λ p inside. header_is_none's shape p a (few_parts shape p allowed inside) m)

  long : region.size ≡ words_of_shape (layout_shape layout)
  long = st.world.log.logged.size

  enough : 32 ≤ region.size
  enough = st.world.log.header.enough

  row_header : (a : ℕ) → IsHeader a → slice_index (newest_words region) a ≡ st.base a
  row_header a m = row_word region a (let low = header_below a m in let size = enough in omega (arith, low, size)) ∙ header a m

  row_shape : shape_of (slice_index (newest_words region)) ≡ layout_shape layout
  row_shape = same_shape region.size st.base row st.world.log.header row_header ∙ st.world.log.of_shape

  row_is_shape : IsShape region.size (slice_index (newest_words region))
  row_is_shape = is_shape region.size st.base row st.world.log.header row_header

  stands : StandsFor region.size start st.w.history (flight_of st.w.lanes) (newest_image region)
  stands = worlds_stand shape st.base st.s st.chains start st.w region st.world i image

  has : HasState (layout_shape layout) (newest_image region) stands.state
  has = subst (λ (z : Shape). HasState z i stands.state) (same_shape region.size st.base i st.world.log.header header ∙ st.world.log.of_shape) stands.has

  module _ (p : ℕ) (lt : p < layout.partitions) where
    abbrev logged : Words
    logged = view p (log_words (layout_shape layout) (newest_image region))

    list : IsList (layout_shape layout) p (view p (log_words (layout_shape layout) (newest_image region))) (has.chains p)
    list = list_of_rules shape p logged (has.chains p) (has.lists p lt).rules

    out_below : (a : ℕ) → IsLogWord (layout_shape layout) p a → out_address p a < heap (layout_shape layout)
    out_below a m = part_word_below shape p (out_address p a) allowed lt (log_word_out shape p a m)

    image_word : (a : ℕ) → IsLogWord (layout_shape layout) p a → view p (newest_image region) a ≡ view p (log_words (layout_shape layout) (newest_image region)) a
    image_word a m = view-out p i a ∙ sym (inside_log shape i (out_address p a) (out_below a m)) ∙ sym (view-out p (log_words shape i) a)

    row_same : (a : ℕ) → IsLogWord (layout_shape layout) p a → view p (slice_index (newest_words region)) a ≡ view p (newest_image region) a
    row_same a m =
        let below = out_below a m in
        let size = long in
        view-out p row a ∙ row_word region (out_address p a) (omega (arith, below, size)) ∙ sym (view-out p i a)

    image_log : HasLogOf (layout_shape layout) p (view p (log_words (layout_shape layout) (newest_image region))) (view p (newest_image region))
    image_log = own_words_decide shape p logged (view p i) (λ a m out. image_word a m)

    row_log : HasLogOf (layout_shape layout) p (view p (log_words (layout_shape layout) (newest_image region))) (view p (slice_index (newest_words region)))
    row_log = own_words_decide shape p logged (view p row) (λ a m out. row_same a m ∙ image_word a m)

    image_chain : chain_of (layout_shape layout) (view p (newest_image region)) ≡ has.chains p
    image_chain = (chain_of_list shape p (view p i) (has.chains p) lt (image_log.list (has.chains p) list)).0

    row_chain : chain_of (layout_shape layout) (view p (slice_index (newest_words region))) ≡ has.chains p
    row_chain = (chain_of_list shape p (view p row) (has.chains p) lt (row_log.list (has.chains p) list)).0

    buckets : AreBuckets (IsBucketOf (layout_shape layout) p) (has.chains p)
    buckets = chain_is_buckets shape p logged (has.chains p) list

    -- ---- the log

    seen_log : (part : Buckets) → IsPartition (layout_shape layout) p part → IsLogOfPart layout part region.size (view p (slice_index (newest_words region)))
    seen_log part is_part = record {
      log = record {
        has_list = record {
          shape = view_shape region.size p row row_is_shape;
          part = p;
          below = subst (λ (z : Shape). p < z.partitions) (sym row_shape) lt;
          chain = has.chains p;
          rules = subst (λ z. ListRules (IsBucketOf z p) (view p row) (has.chains p)) (sym row_shape) (rules_of_list shape p (view p row) (has.chains p) (row_log.list (has.chains p) list));
        };
        has_layout = row_shape;
      };
      is_part = is_part;
    }

    rows : length (viewed p (newest_words region)) ≡ region.size
    rows = length-viewed p (newest_words region) ∙ length-map-range_with_len (λ a. newest (region.at a)) 0 region.size

    pub log_seen : (part : Buckets) → IsPartition (layout_shape layout) p part →
        IsLogOfPart layout part (length (viewed p (newest_words region))) (slice_index (viewed p (newest_words region)))
    log_seen part is_part = subst (λ n. IsLogOfPart layout part n (slice_index (viewed p (newest_words region)))) (sym rows)
        (subst (IsLogOfPart layout part region.size) (sym (viewed-is p (newest_words region))) (seen_log part is_part))

    -- ---- the next place, the room and the next removal

    pub place_seen : (place : Place) → IsNextPlaceSeen layout p (newest_words region) place → IsPlaceRead layout p region place
    place_seen place seen = subst (λ xs. IsNextPlace shape p (view p i) xs place) (sym image_chain)
        (next_same shape p (view p row) (view p i) (has.chains p) (λ a m. sym (row_same a m)) buckets place
        (subst (λ xs. IsNextPlace shape p (view p row) xs place) row_chain
        (subst (λ (z : Words). IsNextPlace shape p z (chain_of shape z) place) (viewed-is p (newest_words region)) seen)))

    pub removal_seen : (r : Remove) → IsRemovalSeen layout p (newest_words region) r → IsRemovalRead layout p region r
    removal_seen r seen = subst (λ xs. IsRemovalOf shape (view p i) xs (Some r)) (sym image_chain)
        (removal_same shape p (view p row) (view p i) (has.chains p) (λ a m. sym (row_same a m)) buckets r
        (subst (λ xs. IsRemovalOf shape (view p row) xs (Some r)) row_chain
        (subst (λ (z : Words). IsRemovalOf shape z (chain_of shape z) (Some r)) (viewed-is p (newest_words region)) seen)))

    pub room_is : IsRoomAt (layout_shape layout) p (newest_image region) (room_seen layout p (newest_words region))
    room_is = (
      has.chains p,
      list,
      sym (row_log.room (has.chains p) list) ∙ ap (room_of shape (view p row) p) (sym row_chain)
          ∙ ap (λ (z : Words). room_of shape z p (chain_of shape z)) (sym (viewed-is p (newest_words region))),
    )

pub newest_have_logs : {E : Type 0} → NewestHaveLogs E
newest_have_logs layout start book keeper region spare events full st = record {
  long = length-map-range_with_len (λ a. newest (region.at a)) 0 region.size ∙ st.world.log.logged.size;
  logs = λ p part lt is_part. log_seen layout start book keeper region spare events full st p lt part is_part;
}
