-- The room and the next place that are read are those of the partition.
use Rattle.std.proofs.Common.{◌≡◌, ◌≢◌, ◌↔◌, inl, inr, ℕ, zero, suc, ◌+◌, ◌-◌, ◌*◌, ◌<◌, ◌≤◌, true, cond, ◌==◌, ◌||◌, IsTrue, List, [], ◌∷◌, ◌++◌, length, Option, Some, None, refl, ap, sym, ◌∙◌, arith, subst, length-append}
use Rattle.std.specs.Prelude.{IfSome}
use Rattle.persist_model.specs.Region.{Words}
use Rattle.persist_model.specs.Records.{IsAmong}
use Rattle.persist_model.specs.Shape.{Shape, bucket, IsBucketOf, count_buckets}
use Rattle.persist_model.specs.Chain.{IsAbsent, last_or}
use Rattle.persist_model.specs.ImageRecords.{cell_address}
use Rattle.persist_model.specs.Sound.{closed_cells, room_of}
use Rattle.atomic_list.specs.Reads.{SameLog}
use Rattle.atomic_list.specs.Walk.{chain_of}
use Rattle.atomic_list.proofs.Chains.{HasNoRepeats-push, Each-push}
use Rattle.atomic_list.proofs.Parts.{whole_bucket_fits}
use Rattle.atomic_list.proofs.Walks.{few_buckets}
use Rattle.region_layout.specs.declared.layout.Layout.{Layout}
use Rattle.region_layout.specs.declared.layout.Buckets.{Buckets}
use Rattle.region_layout.specs.Layout.{layout_shape, IsPartition}
use Rattle.bucket_log.specs.declared.append.Place.{Place}
use Rattle.bucket_log.specs.Places.{IsPlaceBy, IsNextPlace}
use Rattle.bucket_log.specs.Reads.{IsLogOfPart, room_in, IsInPart, IsLeastOutside, IsUsedIn, IsFreshIn, IsNextIn}
use Rattle.bucket_log.proofs.AppendImages.{Each-among, among_last}
use Rattle.bucket_log.proofs.Counting.{covered_few, bucket_one, bucket_order, of_part}
use Rattle.bucket_log.proofs.Rooms.{room_same, room_full, room-last, closed_some}
use Rattle.bucket_log.proofs.Walking.{IsGoodChain, good_chain, same_chain, same_below}

at_least : (k n : ℕ) → 1 ≤ k → 1 ≤ n → 1 ≤ k * n
at_least k n a b = grind arith

absent_from : (b : ℕ) (xs : List ℕ) → (IsAmong xs b → ⊥) → IsAbsent b xs
absent_from b [] off = tt
absent_from b (x ∷ xs) off = ((λ e. off (inl e)), absent_from b xs (λ m. off (inr m)))

-- ---- what is read in w is so in all words v with the same log

module _ (layout : Layout) (part : Buckets) (size : ℕ) (w : Words) (log : IsLogOfPart layout part size w) (v : Words) (same : SameLog w v) (p : ℕ) (is : IsPartition (layout_shape layout) p part) where
  abbrev shape : Shape
  shape = layout_shape layout

  abbrev chain : List ℕ
  chain = chain_of shape w

  abbrev number : ℕ
  number = log.log.has_list.part

  good : IsGoodChain shape number chain
  good = good_chain layout size w log.log

  chain_v : chain_of shape v ≡ chain
  chain_v = same_chain layout size w v log.log same

  -- the gates of the chain's buckets are the same
  gate_same : (b c : ℕ) → IsAmong chain b → c < shape.cells → v (cell_address b c) ≡ w (cell_address b c)
  gate_same b c m below =
      let fits = whole_bucket_fits shape number b good.below (Each-among (IsBucketOf shape number) chain b good.buckets m) in
      same_below layout size w v log.log same (cell_address b c) (omega (arith, fits, below))

  last_gate : last_or 0 chain ≢ 0 → (c : ℕ) → c < shape.cells → v (cell_address (last_or 0 chain) c) ≡ w (cell_address (last_or 0 chain) c)
  last_gate ne c below = gate_same (last_or 0 chain) c (among_last chain ne) below

  count_is : count_buckets shape p ≡ part.count
  count_is = sym is.1

  to_part : (q j : ℕ) → IsPartition shape q part → IsInPart part j → IsBucketOf shape q (bucket shape j)
  to_part q j k h = let first = k.0 in let count = k.1 in let low = h.0 in let high = h.1 in (j, omega (arith, low, first), omega (arith, high, first, count), refl)

  pub room_is : room_in layout.cells w part chain ≡ room_of shape v p (chain_of shape v)
  room_is =
      ap (λ n. cond (last_or 0 chain == 0) 0 (closed_cells w (last_or 0 chain) layout.cells) + layout.cells * (n - length chain)) is.1
      ∙ sym (room_same shape v w p chain (λ c below ne. last_gate ne c below)) ∙ ap (room_of shape v p) (sym chain_v)

  -- ---- where there is none

  full_last : IsUsedIn w shape.cells (last_or 0 chain) None → last_or 0 chain ≢ 0 → (c : ℕ) → c < shape.cells → v (cell_address (last_or 0 chain) c) ≢ 0
  full_last none ne c below z = none ne c below (sym (last_gate ne c below) ∙ z)

  all_in : IsLeastOutside shape part chain None → part.count ≤ length chain
  all_in none = covered_few (λ i. bucket shape (part.first + i)) part.count chain
      (λ i j e. (let q = bucket_one shape (part.first + i) (part.first + j) e in omega (arith, q)))
      (λ i lt. none (part.first + i) (omega arith, omega (arith, lt)))

  no_room : IsNextIn shape part w chain None → room_of shape v p chain ≡ 0
  no_room none =
      let most = all_in none.1 in
      let rest : count_buckets shape p - length chain ≡ 0 = (let count = count_is in omega (arith, most, count)) in
      room_full shape v p chain (full_last none.0) ∙ ap (λ n. shape.cells * n) rest ∙ (let z : shape.cells * 0 ≡ 0 = omega arith in z)

  -- ---- where there is one

  used_next : (place : Place) → IsUsedIn w shape.cells (last_or 0 chain) (Some place) → IsNextPlace shape p v chain place
  used_next place h =
      let ne = h.0 in
      let at = h.1 in
      let fresh = h.2 in
      let found = h.4 in record {
        is_place = subst (IsPlaceBy shape p v chain place) (sym fresh) (record {
          bucket = subst (IsAmong chain) (sym at) (among_last chain ne);
          last = at;
          closed = ap (λ b. v (cell_address b place.cell)) at ∙ last_gate ne place.cell found.0 ∙ found.1;
        });
        below = found.0;
        tail = h.3;
        first_cell = λ e. cc;
        first_closed = λ e c lt z. found.2 c lt (sym (last_gate ne c (let most = found.0 in omega (arith, lt, most))) ∙ ap (λ b. v (cell_address b c)) (sym at) ∙ z);
        least = λ e. cc;
      }

  used_room : (place : Place) → IsUsedIn w shape.cells (last_or 0 chain) (Some place) → room_of shape v p chain ≢ 0
  used_room place h z =
      let ne = h.0 in
      let found = h.4 in
      let some : 1 ≤ closed_cells v (last_or 0 chain) shape.cells = closed_some v (last_or 0 chain) shape.cells place.cell found.0 (last_gate ne place.cell found.0 ∙ found.1) in
      let e = room-last shape v p chain ne in
      omega (arith, some, e, z)

  fresh_next : 1 ≤ shape.cells → (place : Place) → IsUsedIn w shape.cells (last_or 0 chain) None → IsLeastOutside shape part chain (Some place.bucket) → place.fresh ≡ true → place.cell ≡ 0 →
      place.tail ≡ last_or 0 chain → IsNextPlace shape p v chain place
  fresh_next some place none out fresh cell tail = record {
    is_place = subst (IsPlaceBy shape p v chain place) (sym fresh) (record {
      bucket = subst (IsBucketOf shape p) (sym out.2) (to_part p out.0 is out.1);
      absent = absent_from place.bucket chain out.3;
      tail = tail;
      full = full_last none;
    });
    below = omega (arith, cell, some);
    tail = tail;
    first_cell = λ e. cell;
    first_closed = λ e. cc;
    least = λ e b own lt. (let k = of_part shape part p is b own in
        let at : bucket shape k.0 < bucket shape out.0 = (let x = k.2 in let y = out.2 in omega (arith, lt, x, y)) in
        subst (IsAmong chain) (sym k.2) (out.4 k.0 k.1.0 (bucket_order shape k.0 out.0 at)));
  }

  fresh_room : 1 ≤ shape.cells → (b : ℕ) → IsUsedIn w shape.cells (last_or 0 chain) None → IsLeastOutside shape part chain (Some b) → room_of shape v p chain ≢ 0
  fresh_room some b none out z =
      let own : IsBucketOf shape number b = subst (IsBucketOf shape number) (sym out.2) (to_part number out.0 log.is_part out.1) in
      let few = few_buckets shape number (chain ++ b ∷ []) (HasNoRepeats-push chain b good.once (absent_from b chain out.3)) (Each-push (IsBucketOf shape number) chain b good.buckets own) in
      let size = length-append chain (b ∷ []) in
      let mine : part.count ≡ count_buckets shape number = log.is_part.1 in
      let count = count_is in
      let room = room_full shape v p chain (full_last none) in
      let more = at_least shape.cells (count_buckets shape p - length chain) some (omega (arith, few, size, mine, count)) in
      omega (arith, room, more, z)

  next_of : 1 ≤ shape.cells → (o : Option Place) → IsNextIn shape part w chain o → ((o ≡ None) ↔ (room_of shape v p chain ≡ 0)) × IfSome o (λ place. IsNextPlace shape p v chain place)
  next_of some None h = (((λ e. no_room h), (λ e. refl)), tt)
  next_of some (Some place) (inl h) = (((λ e. cc), (λ z. absurd (used_room place h z))), used_next place h)
  next_of some (Some place) (inr h) = (((λ e. cc), (λ z. absurd (fresh_room some place.bucket h.0 h.1.0 z))), fresh_next some place h.0 h.1.0 h.1.1 h.1.2 h.1.3)

  pub next_is : 1 ≤ shape.cells → (o : Option Place) → IsNextIn shape part w chain o →
      ((o ≡ None) ↔ (room_of shape v p (chain_of shape v) ≡ 0)) × IfSome o (λ place. IsNextPlace shape p v (chain_of shape v) place)
  next_is some o h = subst (λ xs. ((o ≡ None) ↔ (room_of shape v p xs ≡ 0)) × IfSome o (λ place. IsNextPlace shape p v xs place)) (sym chain_v) (next_of some o h)

-- where there is no used place it is the fresh one
pub next_in : (shape : Shape) (part : Buckets) (w : Words) (chain : List ℕ) (tail : ℕ) → tail ≡ last_or 0 chain → (o : Option Place) → IsUsedIn w shape.cells tail None →
    IsFreshIn shape part chain tail o → IsNextIn shape part w chain o
next_in shape part w chain tail e None used fresh = (subst (λ t. IsUsedIn w shape.cells t None) e used, fresh)
next_in shape part w chain tail e (Some place) used fresh = inr (
  subst (λ t. IsUsedIn w shape.cells t None) e used,
  (fresh.0, fresh.1, fresh.2, fresh.3 ∙ e),
)

-- a bucket has a cell
pub some_cells : (layout : Layout) → 1 ≤ layout.cells
some_cells layout = some layout.cells layout.cells_are
  where
    some : (n : ℕ) → IsTrue ((n == 1) || (n == 16)) → 1 ≤ n
    some zero h = cc
    some (suc n) h = omega arith
