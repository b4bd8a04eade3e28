-- Each image of each prefix of a bucket's events has the records before, or those and all of the bucket's.
use Rattle.std.proofs.Common.{◌≡◌, ◌≢◌, ◌⊎◌, inl, inr, ℕ, zero, suc, ◌+◌, ◌-◌, ◌*◌, ◌<◌, ◌≤◌, List, [], ◌∷◌, ◌++◌, take, drop, length, Some, None, refl, ap, sym, ◌∙◌, arith, subst}
use Rattle.std.specs.Prelude.{slice_get}
use Rattle.std.proofs.lemmas.Bool.{cases_lt}
use Rattle.std.proofs.lemmas.Bool.Decides.{eqb_tells}
use Rattle.std.proofs.lemmas.List.{take-append-le}
use Rattle.persist_model.specs.declared.event.Event.{Event}
use Rattle.persist_model.specs.declared.event.Event.TheVariants.{Fence}
use Rattle.persist_model.specs.Region.{Words}
use Rattle.persist_model.specs.Progress.{Progress, start, advance, advance_all, Reaches}
use Rattle.persist_model.specs.Runs.{progress_at}
use Rattle.persist_model.specs.Records.{IsAmong}
use Rattle.persist_model.specs.Shape.{Shape, IsBucketOf, count_buckets}
use Rattle.persist_model.specs.Chain.{HEAD, word_behind, last_or}
use Rattle.persist_model.specs.ImageRecords.{cell_address, record_at, IsRecordOf}
use Rattle.persist_model.specs.Sound.{room_of}
use Rattle.persist_model.proofs.Projecting.{advance_all-append, AreAway, AreAway-take, AreAway-append, IsFixed, IsFixed-start, IsFixed-aways, IsDue, IsDue-aways, IsFixed-fence, Reaches-fixed, SameOn, SameOn-refl, SameOn-events, SameOn-idles, Reaches-same, Reaches-part}
use Rattle.log_laws.proofs.Views.{AreStoresOn, AreStoresOn-append, AreStoresOn-map, AreAway-stores}
use Rattle.region_layout.specs.declared.cell.Cell.{Cell}
use Rattle.region_layout.specs.Cell.{record_of, word_of_cell}
use Rattle.atomic_list.specs.declared.plans.Insert.{Insert}
use Rattle.atomic_list.specs.Plans.{insertion}
use Rattle.atomic_list.specs.Rules.{IsAtRest, IsAppending, IsList, at_rest, IsListWord}
use Rattle.atomic_list.specs.Insertion.{CanInsert, inserted}
use Rattle.atomic_list.proofs.Insertions.{whole, insertion_images, insertion_before, insertion_ends}
use Rattle.atomic_list.proofs.Preparing.{prepared6, appending-prepared}
use Rattle.atomic_list.proofs.LinkingWords.{linking, linking_at}
use Rattle.atomic_list.proofs.Chains.{word_behind-last}
use Rattle.atomic_list.proofs.Cases.{no_bucket_is_0}
use Rattle.atomic_list.proofs.Repairs.{still}
use Rattle.bucket_log.specs.Words.{IsLogWord, KeepsLog}
use Rattle.bucket_log.proofs.AppendImages.{Each-among, among_last, IsAmong-push, IsAmong-last, IsAmong-cases}
use Rattle.bucket_log.proofs.ListFacts.{insertion_stores, chain_few}
use Rattle.bucket_log.proofs.Addresses.{bucket_above, list_word_is_no_cell, list_word_is_log_word, cell_word_is_log_word, cells_apart}
use Rattle.bucket_log.proofs.RecordSets.{same_cell, IsKept, SameRecords-from, gate_of}
use Rattle.bucket_log.proofs.Rooms.{room_same, room_of_push}
use Rattle.batch_log.specs.Plans.{filling}
use Rattle.batch_log.specs.Buckets.{bucket_records, CanFill, free_cells, AddsRecords, AddsAll}
use Rattle.batch_log.proofs.Events.{cell_there, cell_none}
use Rattle.batch_log.proofs.BucketCells.{IsOfCell, record_there, of_cell, length-records_from, words_make, closed_behind}
use Rattle.batch_log.proofs.Filling.{filling_stores, filling_away, filling_due, closed_due}

-- a prefix that goes on into the second list
pub take_beyond : {X : Type 0} (n k : ℕ) (xs ys : List X) → n ≡ length xs + k → take n (xs ++ ys) ≡ xs ++ take k ys
take_beyond n k [] ys e = ap (λ m. take m ys) (let same : n ≡ k = omega (arith, e) in same)
take_beyond zero k (x ∷ xs) ys e = absurd (omega (arith, e))
take_beyond (suc n) k (x ∷ xs) ys e = ap (λ zs. x ∷ zs) (take_beyond n k xs ys (omega (arith, e)))

-- from the fence of TO_APPEND on the bucket is behind the chain
module _ (shape : Shape) (p : ℕ) (w : Words) (xs : List ℕ) (a : Insert) (can : CanInsert shape p w xs a) where
  link_is : word_behind a.tail ≡ last_or HEAD xs
  link_is = ap word_behind can.tail ∙ word_behind-last xs (no_bucket_is_0 shape p xs can.at_rest.buckets)

  plan_is : insertion a ≡ whole a.node (last_or 0 xs) (last_or HEAD xs)
  plan_is = (λ i. whole a.node (can.tail i) (link_is i))

  joined : Words
  joined = (progress_at w (whole a.node (last_or 0 xs) (last_or HEAD xs)) 6).durable

  joined_is : IsAppending shape p joined xs a.node
  unfolding joined
  joined_is =
      let s = prepared6 shape p w joined a.node (last_or 0 xs) (linking (last_or HEAD xs) a.node) can.bucket (λ b m. inl refl) in
      appending-prepared shape p w joined xs a.node can.at_rest can.bucket can.absent s.0 s.1 s.2.0 s.2.1 s.2.2

  pub insertion_joined : (v : Words) (k : ℕ) → Reaches (IsListWord shape p) (inserted w a (suc (suc (suc (suc (suc (suc k))))))) v → IsList shape p v (xs ++ a.node ∷ [])
  unfolding joined
  insertion_joined v k r = linking_at shape p joined v xs a.node joined_is k
      (subst (λ plan. Reaches (IsListWord shape p) (progress_at w plan (suc (suc (suc (suc (suc (suc k))))))) v) plan_is r)

module _ (shape : Shape) (p : ℕ) (w v : Words) (xs : List ℕ) (node tail : ℕ) (records : List Cell) (inside : p < shape.partitions) (may : CanFill shape p w xs node tail records) where
  abbrev ins : Insert
  ins = record { node = node; tail = tail }

  abbrev fill : List Event
  fill = filling node records shape.cells

  abbrev put : List Event
  put = insertion ins

  abbrev Log : ℕ → Type 0
  Log = IsLogWord shape p

  can : CanInsert shape p w xs ins
  can = record { at_rest = may.at_rest; bucket = may.is_bucket; absent = may.absent; tail = may.tail_is }

  abbrev filled : Progress
  filled = advance_all (start w) fill

  abbrev Made : ℕ → Progress
  Made k = progress_at w (fill ++ put) k

  no_list_word : (b c a : ℕ) → IsBucketOf shape p b → c < shape.cells → cell_address b c ≤ a → a < cell_address b c + 8 → (x : ℕ) → IsListWord shape p x → x ≢ a
  no_list_word b c a own lt low high x m e = list_word_is_no_cell shape p p a b (subst (IsListWord shape p) e m) own (omega (arith, low)) (omega (arith, high, lt))

  put_away : (a : ℕ) → ((x : ℕ) → IsListWord shape p x → x ≢ a) → AreAway a put
  put_away a off = AreAway-stores (IsListWord shape p) a put off (insertion_stores shape p w xs ins can)

  -- the words of the cells of other buckets aren't stored to at all
  away : (b c a : ℕ) → IsBucketOf shape p b → b ≢ node → c < shape.cells → cell_address b c ≤ a → a < cell_address b c + 8 → AreAway a (fill ++ put)
  away b c a own ne lt low high = AreAway-append a fill put
      (filling_away node shape.cells a records (λ d x dlt from to e.
      ne (cells_apart shape p p b c node d a own may.is_bucket lt dlt low high (omega (arith, from, e)) (omega (arith, to, e))).0))
      (put_away a (no_list_word b c a own lt low high))

  other_bucket : (b : ℕ) → IsAmong xs b → b ≢ node
  other_bucket b m = λ e. Each-among (λ x. node ≢ x) xs b may.absent m (sym e)

  kept : (k : ℕ) → Reaches Log (Made k) v → (b c : ℕ) → IsAmong xs b → c < shape.cells → IsKept v w xs b (cell_address b c)
  kept k h b c m lt =
      let own = Each-among (IsBucketOf shape p) xs b may.at_rest.buckets m in
      record {
        was_among = m;
        same = same_cell v w (cell_address b c) (λ a low high.
            Reaches-fixed Log (Made k) v a (w a) (cell_word_is_log_word shape p b c a own lt low high)
            (IsFixed-aways (start w) a (w a) (take k (fill ++ put)) (AreAway-take a k (fill ++ put) (away b c a own (other_bucket b m) lt low high)) (IsFixed-start w a)) h);
      }

  fill_list_away : (a : ℕ) → IsListWord shape p a → AreAway a fill
  fill_list_away a m = filling_away node shape.cells a records (λ c x lt low high e. list_word_is_no_cell shape p p a node m may.is_bucket (omega (arith, low, e)) (omega (arith, high, lt, e)))

  after_fill : SameOn (IsListWord shape p) filled (start w)
  after_fill = SameOn-idles (IsListWord shape p) (start w) w fill fill_list_away (SameOn-refl (IsListWord shape p) (start w))

  node_is_no_0 : node ≢ 0
  node_is_no_0 e = let above = bucket_above shape p node may.is_bucket in omega (arith, above, e)

  same_chain : (k : ℕ) → Reaches Log (Made k) v → IsList shape p v xs → v 12 ≡ 0 → KeepsLog shape p w xs v
  same_chain k h list none = record {
    chain = xs;
    list = list;
    to_remove = none;
    records = SameRecords-from shape.cells w v xs xs (λ b m. m) (λ b c m lt. inl (kept k h b c m lt));
    room = room_same shape v w p xs (λ c lt ne. ap gate_of (kept k h (last_or 0 xs) c (among_last xs ne) lt).same);
  }

  -- ---- from the insertion's first fence on the bucket's words are durable

  word_fixed : (a u i : ℕ) → ((x : ℕ) → IsListWord shape p x → x ≢ a) → IsDue filled a u → IsFixed (advance_all filled (take (suc (suc (suc (suc i)))) put)) a u
  word_fixed a u i off due =
      let gone = put_away a off in
      IsFixed-aways (advance (advance_all filled (take 3 put)) Fence) a u (take i (drop 4 put))
      (AreAway-take a i (drop 4 put) gone.1.1.1.1)
      (IsFixed-fence (advance_all filled (take 3 put)) a u (IsDue-aways filled a u (take 3 put) (AreAway-take a 3 put gone) due))

  module _ (i : ℕ) (s : Reaches Log (advance_all filled (take (suc (suc (suc (suc i)))) put)) v) where
    made_record : (c : ℕ) (cell : Cell) → c < shape.cells → slice_get records c ≡ Some cell → record_at v (cell_address node c) ≡ record_of (cell_address node c) cell
    made_record c cell lt is = words_make v (cell_address node c) cell (λ j few.
        Reaches-fixed Log (advance_all filled (take (suc (suc (suc (suc i)))) put)) v (cell_address node c + j) (word_of_cell cell j)
        (cell_word_is_log_word shape p node c (cell_address node c + j) may.is_bucket lt (omega arith) (omega (arith, few)))
        (word_fixed (cell_address node c + j) (word_of_cell cell j) i (no_list_word node c (cell_address node c + j) may.is_bucket lt (omega arith) (omega (arith, few)))
        (filling_due (start w) node shape.cells c j records cell lt few is)) s)

    shut_cell : (c : ℕ) → c < shape.cells → slice_get records c ≡ None → v (cell_address node c) ≡ 0
    shut_cell c lt is =
        Reaches-fixed Log (advance_all filled (take (suc (suc (suc (suc i)))) put)) v (cell_address node c) 0
        (cell_word_is_log_word shape p node c (cell_address node c) may.is_bucket lt (omega arith) (omega arith))
        (word_fixed (cell_address node c) 0 i (no_list_word node c (cell_address node c) may.is_bucket lt (omega arith) (omega arith))
        (closed_due (start w) node shape.cells c records lt is)) s

    open_gate : (c : ℕ) → c < length records → v (cell_address node c) ≢ 0
    open_gate c lt z =
        let there = cell_there records c lt in
        let few = may.few in
        may.gates c there.0 there.1 (sym (ap gate_of (made_record c there.0 (omega (arith, lt, few)) there.1)) ∙ z)

    new_records : (k : ℕ) → Reaches Log (Made k) v → AddsRecords shape.cells w xs v (xs ++ node ∷ []) (bucket_records node records)
    new_records k h r = (
      (λ q. elim (IsAmong-cases xs node q.bucket q.is_among) [
        | inl m ↦ inl (record { bucket = q.bucket; is_among = m; place = q.place; below = q.below; is = q.is ∙ (kept k h q.bucket q.place m q.below).same; gate = q.gate })
        | inr e ↦ inr (found q.place q.below (q.is ∙ ap (λ b. record_at v (cell_address b q.place)) e) q.gate)
      ]),
      (λ q. elim q [
        | inl m ↦ record {
          bucket = m.bucket;
          is_among = IsAmong-push xs node m.bucket m.is_among;
          place = m.place;
          below = m.below;
          is = m.is ∙ sym (kept k h m.bucket m.place m.is_among m.below).same;
          gate = m.gate;
        }
        | inr m ↦ made (of_cell node 0 records r m)
      ]),
    )
      where
        found : (c : ℕ) → c < shape.cells → r ≡ record_at v (cell_address node c) → r.lsn ≢ 0 → IsAmong (bucket_records node records) r
        found c lt e gate = elim (cases_lt c (length records)) [
          | inl less ↦ (let there = cell_there records c less in
              subst (IsAmong (bucket_records node records)) (sym (e ∙ made_record c there.0 lt there.1 ∙ (let z : c ≡ 0 + c = omega arith in ap (λ n. record_of (cell_address node n) there.0) z)))
              (record_there node 0 c records there.0 there.1))
          | inr out ↦ absurd (gate (ap gate_of e ∙ shut_cell c lt (cell_none records c out)))
        ]

        made : IsOfCell node 0 records r → IsRecordOf shape.cells (xs ++ node ∷ []) v r
        made q =
            let few = may.few in
            let less = q.below in
            let lt : q.number < shape.cells = omega (arith, few, less) in
            let here : r ≡ record_of (cell_address node q.number) q.cell = q.is ∙ (let z : 0 + q.number ≡ q.number = omega arith in ap (λ n. record_of (cell_address node n) q.cell) z) in
            record {
              bucket = node;
              is_among = IsAmong-last xs node;
              place = q.number;
              below = lt;
              is = here ∙ sym (made_record q.number q.cell lt q.there);
              gate = λ z. may.gates q.number q.cell q.there (sym (ap gate_of here) ∙ z);
            }

    longer_chain : (k : ℕ) → Reaches Log (Made k) v → IsList shape p v (xs ++ node ∷ []) → v 12 ≡ 0 → AddsAll shape p w xs (bucket_records node records) v
    longer_chain k h list none = record {
      chain = xs ++ node ∷ [];
      list = list;
      to_remove = none;
      records = new_records k h;
      room =
          (let closed = closed_behind v node shape.cells (length records) may.few open_gate (λ c low high. shut_cell c high (cell_none records c low)) in
          let more = room_of_push shape v p xs node node_is_no_0 (chain_few shape p v (xs ++ node ∷ []) inside list) in
          let size = length-records_from node 0 records in
          let before : room_of shape w p xs ≡ free_cells shape w xs + shape.cells * (count_buckets shape p - length xs) = refl in
          omega (arith, closed, more, size, before));
    }

  -- ---- where no bucket is taken out

  remove_away : AreAway 12 (fill ++ put)
  remove_away =
      let to_remove : IsListWord shape p 12 = inl (omega arith, omega arith) in
      AreAway-append 12 fill put (fill_list_away 12 to_remove)
      (above_put (let above = bucket_above shape p node may.is_bucket in above))
    where
      behind : word_behind tail ≢ 12
      behind = subst (λ n. word_behind n ≢ 12) (sym may.tail_is) (elim (eqb_tells (last_or 0 xs) 0) [
        | inl e ↦ subst (λ n. word_behind n ≢ 12) (sym e.1) (omega arith)
        | inr e ↦ rw e.0 (λ z. (let above = bucket_above shape p (last_or 0 xs) (Each-among (IsBucketOf shape p) xs (last_or 0 xs) may.at_rest.buckets (among_last xs e.1)) in omega (arith, above, z)))
      ])

      above_put : 32 ≤ node → AreAway 12 put
      above_put above = (omega (arith, above), (omega (arith, above), (omega arith, (tt, (omega arith, (tt, (behind, (omega arith, (tt, (omega arith, (tt, tt)))))))))))

  no_removal : (k : ℕ) → Reaches Log (Made k) v → v 12 ≡ 0
  no_removal k h = Reaches-fixed Log (Made k) v 12 0 (inl (omega arith, omega arith))
      (IsFixed-aways (start w) 12 0 (take k (fill ++ put)) (AreAway-take 12 k (fill ++ put) remove_away)
      (subst (IsFixed (start w) 12) may.at_rest.to_remove (IsFixed-start w 12))) h

  -- ---- the images

  while_filling : (k j : ℕ) → Reaches Log (Made k) v → Reaches Log (advance_all (start w) (take j fill)) v → KeepsLog shape p w xs v
  while_filling k j h s =
      let rest = still shape p w v xs may.at_rest (λ a m.
      Reaches-fixed Log (advance_all (start w) (take j fill)) v a (w a) (list_word_is_log_word shape p a m)
      (IsFixed-aways (start w) a (w a) (take j fill) (AreAway-take a j fill (fill_list_away a m)) (IsFixed-start w a)) s) in
      same_chain k h (at_rest rest) rest.to_remove

  put_words : (j : ℕ) → Reaches Log (advance_all filled (take j put)) v → Reaches (IsListWord shape p) (advance_all (start w) (take j put)) v
  put_words j s = Reaches-same (IsListWord shape p) (advance_all filled (take j put)) (advance_all (start w) (take j put)) v
      (SameOn-events (IsListWord shape p) filled (start w) (take j put) after_fill)
      (Reaches-part Log (IsListWord shape p) (advance_all filled (take j put)) v (list_word_is_log_word shape p) s)

  put_early : (k j : ℕ) → j ≤ 4 → Reaches Log (Made k) v → Reaches Log (advance_all filled (take j put)) v → KeepsLog shape p w xs v
  put_early k j few h s = let rest = insertion_before shape p w xs ins can v j few (put_words j s) in same_chain k h (at_rest rest) rest.to_remove

  put_late : (k i : ℕ) → Reaches Log (Made k) v → Reaches Log (advance_all filled (take (suc (suc (suc (suc (suc (suc i)))))) put)) v → AddsAll shape p w xs (bucket_records node records) v
  put_late k i h s = longer_chain (suc (suc i)) s k h (insertion_joined shape p w xs ins can v i (put_words (suc (suc (suc (suc (suc (suc i)))))) s)) (no_removal k h)

  -- the first j of the insertion's events are made
  putting : (k j : ℕ) → Reaches Log (Made k) v → Reaches Log (advance_all filled (take j put)) v → KeepsLog shape p w xs v ⊎ AddsAll shape p w xs (bucket_records node records) v
  putting k zero h s = inl (put_early k 0 (omega arith) h s)
  putting k (suc zero) h s = inl (put_early k 1 (omega arith) h s)
  putting k (suc (suc zero)) h s = inl (put_early k 2 (omega arith) h s)
  putting k (suc (suc (suc zero))) h s = inl (put_early k 3 (omega arith) h s)
  putting k (suc (suc (suc (suc i)))) h s = elim (insertion_images shape p w xs ins can v (suc (suc (suc (suc i)))) (put_words (suc (suc (suc (suc i)))) s)) [
    | inl list ↦ inl (same_chain k h list (no_removal k h))
    | inr list ↦ inr (longer_chain i s k h list (no_removal k h))
  ]

  -- where so many events are beyond the filling
  beyond : (k j : ℕ) → k ≡ length fill + j → Reaches Log (Made k) v → Reaches Log (advance_all filled (take j put)) v
  beyond k j e h = subst (λ q. Reaches Log q v) (advance_all-append (start w) fill (take j put))
      (subst (λ es. Reaches Log (advance_all (start w) es) v) (take_beyond k j fill put e) h)

  within : (k : ℕ) → k ≤ length fill → Reaches Log (Made k) v → Reaches Log (advance_all (start w) (take k fill)) v
  within k le h = subst (λ es. Reaches Log (advance_all (start w) es) v) (take-append-le k fill put le) h

  pub fill_images : (k : ℕ) → Reaches Log (Made k) v → KeepsLog shape p w xs v ⊎ AddsAll shape p w xs (bucket_records node records) v
  fill_images k h = elim (cases_lt k (length fill)) [
    | inl lt ↦ inl (while_filling k k h (within k (omega (arith, lt)) h))
    | inr ge ↦ putting k (k - length fill) h (beyond k (k - length fill) (omega (arith, ge)) h)
  ]

  -- up to the store of TO_APPEND
  pub fill_waits : (k : ℕ) → k ≤ length fill + 4 → Reaches Log (Made k) v → KeepsLog shape p w xs v
  fill_waits k few h = elim (cases_lt k (length fill)) [
    | inl lt ↦ while_filling k k h (within k (omega (arith, lt)) h)
    | inr ge ↦ put_early k (k - length fill) (omega (arith, few)) h (beyond k (k - length fill) (omega (arith, ge)) h)
  ]

  -- from its fence on
  pub fill_stands : (k : ℕ) → length fill + 6 ≤ k → Reaches Log (Made k) v → AddsAll shape p w xs (bucket_records node records) v
  fill_stands k far h = put_late k (k - (length fill + 6)) h
      (subst (λ j. Reaches Log (advance_all filled (take j put)) v) (let e : k - length fill ≡ suc (suc (suc (suc (suc (suc (k - (length fill + 6))))))) = omega (arith, far) in e)
      (beyond k (k - length fill) (omega (arith, far)) h))

  -- the list at the end
  pub fill_rests : Reaches Log (advance_all (start w) (fill ++ put)) v → IsAtRest shape p v (xs ++ node ∷ [])
  fill_rests h =
      let s : Reaches Log (advance_all filled put) v = subst (λ q. Reaches Log q v) (advance_all-append (start w) fill put) h in
      let r : Reaches (IsListWord shape p) (advance_all (start w) put) v = put_words 11 s in
      let ended = (inserted w ins 11).durable in
      still shape p ended v (xs ++ node ∷ []) (insertion_ends shape p w xs ins can).at_rest (λ a m. elim (r a m) [ inl e ↦ e | inr x ↦ elim x [ ] ])

  -- and the gates of its records are open
  pub fill_opens : Reaches Log (advance_all (start w) (fill ++ put)) v → (c : ℕ) → c < length records → v (cell_address node c) ≢ 0
  fill_opens h c lt = open_gate 7 (subst (λ q. Reaches Log q v) (advance_all-append (start w) fill put) h) c lt

  pub fill_stores : AreStoresOn Log (fill ++ put)
  fill_stores = AreStoresOn-append Log fill put
      (filling_stores Log node shape.cells records (λ c x lt low high. cell_word_is_log_word shape p node c x may.is_bucket lt low high))
      (AreStoresOn-map (IsListWord shape p) Log (list_word_is_log_word shape p) put (insertion_stores shape p w xs ins can))
