-- Each image of each prefix of an append has the records before, or those and the new one.
use Rattle.std.proofs.Common.{◌≡◌, ◌≢◌, ◌⊎◌, inl, inr, ℕ, zero, suc, ◌+◌, ◌-◌, ◌*◌, ◌<◌, ◌≤◌, Bool, true, false, if◌then◌else◌, List, [], ◌∷◌, ◌++◌, take, drop, length, refl, ap, sym, ◌∙◌, arith, subst, append_assoc}
use Rattle.std.proofs.lemmas.Bool.Decides.{eqb_tells}
use Rattle.std.proofs.lemmas.List.{take_all, take-append-le, length-append}
use Rattle.persist_model.specs.declared.event.Event.{Event}
use Rattle.persist_model.specs.declared.event.Event.TheVariants.{PStore, Fence}
use Rattle.persist_model.specs.Region.{Words}
use Rattle.persist_model.specs.Progress.{Progress, start, advance, advance_all, Reaches}
use Rattle.persist_model.specs.Runs.{progress_at}
use Rattle.persist_model.specs.Records.{Record, IsAmong}
use Rattle.persist_model.specs.Shape.{Shape, IsBucketOf, count_buckets}
use Rattle.persist_model.specs.Chain.{word_behind, Each, last_or}
use Rattle.persist_model.specs.ImageRecords.{cell_address, record_at}
use Rattle.persist_model.specs.Sound.{room_of, closed_cells}
use Rattle.persist_model.proofs.Projecting.{advance_all-append, take_cases, AreAway, AreAway-take, AreAway-append, IsFixed, IsFixed-start, IsFixed-aways, IsDue, IsDue-stored, IsDue-away, IsDue-aways, IsFixed-fence, Reaches-fixed, SameOn, SameOn-refl, SameOn-events, SameOn-idles, Reaches-same, Reaches-part}
use Rattle.log_laws.proofs.Views.{AreStoresOn, AreStoresOn-append, AreStoresOn-map, AreAway-stores}
use Rattle.atomic_list.specs.Plans.{insertion}
use Rattle.atomic_list.specs.Rules.{IsAtRest, IsList, at_rest, IsListWord}
use Rattle.atomic_list.specs.Insertion.{CanInsert, inserted}
use Rattle.atomic_list.proofs.Insertions.{insertion_images, insertion_before, insertion_ends}
use Rattle.atomic_list.proofs.Repairs.{still}
use Rattle.bucket_log.specs.declared.append.Place.{Place}
use Rattle.bucket_log.specs.Words.{IsLogWord, KeepsLog, AddsToLog}
use Rattle.bucket_log.specs.Plans.{closing, body, opening, insertion_of, place_address, append_plan}
use Rattle.bucket_log.specs.Places.{IsFreshPlace, IsUsedPlace, IsPlaceBy}
use Rattle.bucket_log.specs.Appends.{CanAppend, KeepsOrAdds, chain_behind, appending}
use Rattle.bucket_log.proofs.ListFacts.{insertion_stores, chain_few}
use Rattle.bucket_log.proofs.Addresses.{bucket_above, list_word_is_no_cell, list_word_is_log_word, cell_word_is_log_word, cells_apart}
use Rattle.bucket_log.proofs.RecordSets.{same_cell, IsKept, SameRecords-from, AddsRecord-from, gate_of}
use Rattle.bucket_log.proofs.Rooms.{room_same, room-last, room_full, room_of_push, closed_all, closed_less}
use Rattle.bucket_log.proofs.Bodies.{cell_stores, cell_away, closed_in_body, closed_or_record, record_at_end}

pub Each-among : (P : ℕ → Type 0) (xs : List ℕ) (b : ℕ) → Each P xs → IsAmong xs b → P b
Each-among P [] b h m = elim m [ ]
Each-among P (x ∷ xs) b h (inl e) = subst P (sym e) h.0
Each-among P (x ∷ xs) b h (inr m) = Each-among P xs b h.1 m

pub IsAmong-push : (xs : List ℕ) (n b : ℕ) → IsAmong xs b → IsAmong (xs ++ n ∷ []) b
IsAmong-push [] n b m = elim m [ ]
IsAmong-push (x ∷ xs) n b (inl e) = inl e
IsAmong-push (x ∷ xs) n b (inr m) = inr (IsAmong-push xs n b m)

pub IsAmong-last : (xs : List ℕ) (n : ℕ) → IsAmong (xs ++ n ∷ []) n
IsAmong-last [] n = inl refl
IsAmong-last (x ∷ xs) n = inr (IsAmong-last xs n)

pub IsAmong-cases : (xs : List ℕ) (n b : ℕ) → IsAmong (xs ++ n ∷ []) b → IsAmong xs b ⊎ (b ≡ n)
IsAmong-cases [] n b (inl e) = inr e
IsAmong-cases [] n b (inr m) = elim m [ ]
IsAmong-cases (x ∷ xs) n b (inl e) = inl (inl e)
IsAmong-cases (x ∷ xs) n b (inr m) = elim (IsAmong-cases xs n b m) [ inl k ↦ inl (inr k) | inr e ↦ inr e ]

pub among_last : (xs : List ℕ) → last_or 0 xs ≢ 0 → IsAmong xs (last_or 0 xs)
among_last [] ne = absurd (ne refl)
among_last (x ∷ xs) ne = go x xs
  where
    go : (x : ℕ) (xs : List ℕ) → IsAmong (x ∷ xs) (last_or x xs)
    go x [] = inl refl
    go x (y ∷ ys) = inr (go y ys)

-- a word of a cell of another place isn't stored to by the cell's own events
other_cell_away : (shape : Shape) (p node place b c a : ℕ) (r : Record) → IsBucketOf shape p node → IsBucketOf shape p b → place < shape.cells → c < shape.cells →
    r.at ≡ cell_address node place → cell_address b c ≤ a → a < cell_address b c + 8 → ((b ≡ node) × (c ≡ place) → ⊥) →
    AreAway a (body r ++ opening r)
other_cell_away shape p node place b c a r h k lt lt' at low high ne =
    cell_away r a (λ x from to e. ne (cells_apart shape p p b c node place a k h lt' lt low high (omega (arith, from, e, at)) (omega (arith, to, e, at))))

-- a word of the list isn't stored to by a cell's events
list_word_away : (shape : Shape) (p node place a : ℕ) (r : Record) → IsBucketOf shape p node → place < shape.cells → r.at ≡ cell_address node place → IsListWord shape p a →
    AreAway a (body r ++ opening r)
list_word_away shape p node place a r h below at m =
    cell_away r a (λ x from to e. list_word_is_no_cell shape p p a node m h (omega (arith, from, e, at)) (omega (arith, to, e, at, below)))

-- the words of the place's cell are words of the log
cell_words : (shape : Shape) (p node place : ℕ) (r : Record) → IsBucketOf shape p node → place < shape.cells → r.at ≡ cell_address node place →
    (a : ℕ) → r.at ≤ a → a < r.at + 8 → IsLogWord shape p a
cell_words shape p node place r h below at a low high = cell_word_is_log_word shape p node place a h below (omega (arith, low, at)) (omega (arith, high, at))

-- ---- a place in the chain's last bucket

module _ (shape : Shape) (p : ℕ) (w v : Words) (xs : List ℕ) (place : Place) (r : Record) (rest : IsAtRest shape p w xs) (is : IsUsedPlace w xs place)
    (below : place.cell < shape.cells) (at : r.at ≡ place_address place) (gate : r.lsn ≢ 0) where
  node_is : IsBucketOf shape p place.bucket
  node_is = Each-among (IsBucketOf shape p) xs place.bucket rest.buckets is.bucket

  was_shut : w r.at ≡ 0
  was_shut = ap w at ∙ is.closed

  abbrev Made : ℕ → Progress
  Made k = progress_at w (body r ++ opening r) k

  used_list : (k : ℕ) → Reaches (IsLogWord shape p) (Made k) v → IsAtRest shape p v xs
  used_list k h = still shape p w v xs rest (λ a m.
      Reaches-fixed (IsLogWord shape p) (Made k) v a (w a) (list_word_is_log_word shape p a m)
      (IsFixed-aways (start w) a (w a) (take k (body r ++ opening r))
      (AreAway-take a k (body r ++ opening r) (list_word_away shape p place.bucket place.cell a r node_is below at m)) (IsFixed-start w a)) h)

  used_other : (k : ℕ) → Reaches (IsLogWord shape p) (Made k) v → (b c : ℕ) → IsAmong xs b → c < shape.cells → ((b ≡ place.bucket) × (c ≡ place.cell) → ⊥) → IsKept v w xs b (cell_address b c)
  used_other k h b c m lt ne =
      let own = Each-among (IsBucketOf shape p) xs b rest.buckets m in
      record {
        was_among = m;
        same = same_cell v w (cell_address b c) (λ a low high.
            Reaches-fixed (IsLogWord shape p) (Made k) v a (w a)
            (cell_word_is_log_word shape p b c a own lt low high)
            (IsFixed-aways (start w) a (w a) (take k (body r ++ opening r))
            (AreAway-take a k (body r ++ opening r)
            (other_cell_away shape p place.bucket place.cell b c a r node_is own below lt at low high ne)) (IsFixed-start w a)) h);
      }

  used_cases : (b c : ℕ) → (cell_address b c ≡ r.at) ⊎ ((b ≡ place.bucket) × (c ≡ place.cell) → ⊥)
  used_cases b c = elim (eqb_tells b place.bucket) [
    | inl e ↦ elim (eqb_tells c place.cell) [ inl f ↦ inl (ap (λ n. n + 8 + 8 * c) e.1 ∙ ap (cell_address place.bucket) f.1 ∙ sym at) | inr f ↦ inr (λ q. f.1 q.1) ]
    | inr e ↦ inr (λ q. e.1 q.0)
  ]

  last_among : IsAmong xs (last_or 0 xs)
  last_among = subst (IsAmong xs) is.last is.bucket

  last_is_no_0 : last_or 0 xs ≢ 0
  last_is_no_0 e = let above = bucket_above shape p place.bucket node_is in let z : place.bucket ≡ 0 = is.last ∙ e in omega (arith, above, z)

  used_kept : (k : ℕ) → Reaches (IsLogWord shape p) (Made k) v → v r.at ≡ 0 → KeepsLog shape p w xs v
  used_kept k h shut = record {
    chain = xs;
    list = at_rest (used_list k h);
    to_remove = (used_list k h).to_remove;
    records = SameRecords-from shape.cells w v xs xs (λ b m. m) (λ b c m lt. elim (used_cases b c) [
      | inl e ↦ inr (record { closed = ap v e ∙ shut; was_closed = λ _. ap w e ∙ was_shut })
      | inr ne ↦ inl (used_other k h b c m lt ne)
    ]);
    room = room_same shape v w p xs (λ c lt _. elim (used_cases (last_or 0 xs) c) [
      | inl e ↦ ap v e ∙ shut ∙ sym was_shut ∙ sym (ap w e)
      | inr ne ↦ ap gate_of (used_other k h (last_or 0 xs) c last_among lt ne).same
    ]);
  }

  used_added : (k : ℕ) → Reaches (IsLogWord shape p) (Made k) v → record_at v r.at ≡ r → AddsToLog shape p w xs r v
  used_added k h new = record {
    chain = xs;
    at_rest = used_list k h;
    records = AddsRecord-from shape.cells w v xs xs place.bucket place.cell r (λ b m. m) is.bucket below gate (ap (record_at v) (sym at) ∙ new) (λ b c m lt. elim (used_cases b c) [
      | inl e ↦ inr (inr (record { is = ap (record_at v) e ∙ new; was_closed = λ _. ap w e ∙ was_shut }))
      | inr ne ↦ inl (used_other k h b c m lt ne)
    ]);
    room =
        (let open_at : v (cell_address (last_or 0 xs) place.cell) ≢ 0 = λ z. gate (sym (ap gate_of new) ∙ sym (ap v here) ∙ z) in
        let less : closed_cells v (last_or 0 xs) shape.cells + 1 ≡ closed_cells w (last_or 0 xs) shape.cells = closed_less v w (last_or 0 xs) shape.cells place.cell below open_at (ap w here ∙ was_shut)
        (λ c lt ne. ap gate_of (used_other k h (last_or 0 xs) c last_among lt (λ q. ne q.1)).same) in
        let e = room-last shape v p xs last_is_no_0 in
        let f = room-last shape w p xs last_is_no_0 in
        omega (arith, less, e, f));
  }
    where
      here : cell_address (last_or 0 xs) place.cell ≡ r.at
      here = ap (λ n. n + 8 + 8 * place.cell) (sym is.last) ∙ sym at

  used_image : (k : ℕ) → Reaches (IsLogWord shape p) (Made k) v → KeepsOrAdds shape p w xs r v
  used_image k h = elim (closed_or_record (IsLogWord shape p) (start w) r v
      (cell_words shape p place.bucket place.cell r node_is below at) (record { durable = was_shut; none = λ u x. x }) k h)
      [ inl shut ↦ inl (used_kept k h shut) | inr new ↦ inr (used_added k h new) ]

  -- up to the gate's store
  used_waits : (k : ℕ) → take k (body r ++ opening r) ≡ take k (body r) → Reaches (IsLogWord shape p) (Made k) v → KeepsLog shape p w xs v
  used_waits k same h = used_kept k h (closed_in_body (IsLogWord shape p) (start w) r v
      (cell_words shape p place.bucket place.cell r node_is below at) (record { durable = was_shut; none = λ u x. x }) k
      (subst (λ es. Reaches (IsLogWord shape p) (advance_all (start w) es) v) same h))

  used_rests : Reaches (IsLogWord shape p) (advance_all (start w) (body r ++ opening r)) v → IsAtRest shape p v xs
  used_rests h = used_list 10 h

  used_end : Reaches (IsLogWord shape p) (advance_all (start w) (body r ++ opening r)) v → AddsToLog shape p w xs r v
  used_end h = used_added 10 h (record_at_end (IsLogWord shape p) (start w) r v
      (cell_words shape p place.bucket place.cell r node_is below at) (record { durable = was_shut; none = λ u x. x }) h)

-- a prefix of the front is one of the whole
take_front : {X : Type 0} (j : ℕ) (es fs : List X) → (i : ℕ) × (take j es ≡ take i (es ++ fs))
take_front zero es fs = (0, refl)
take_front (suc j) [] fs = (0, refl)
take_front (suc j) (e ∷ es) fs = let h = take_front j es fs in (suc h.0, ap (λ xs. e ∷ xs) h.1)

-- ---- the gates that are being closed

pub closing_stores : (A : ℕ → Type 0) (bucket n : ℕ) → ((c : ℕ) → c < n → A (cell_address bucket c)) → AreStoresOn A (closing bucket n)
closing_stores A bucket zero on = tt
closing_stores A bucket (suc n) on = AreStoresOn-append A (closing bucket n) (PStore (cell_address bucket n) 0 ∷ [])
    (closing_stores A bucket n (λ c lt. on c (omega arith))) (on n (omega arith), tt)

closing_away : (bucket n a : ℕ) → ((c : ℕ) → c < n → cell_address bucket c ≢ a) → AreAway a (closing bucket n)
closing_away bucket zero a off = tt
closing_away bucket (suc n) a off = AreAway-append a (closing bucket n) (PStore (cell_address bucket n) 0 ∷ [])
    (closing_away bucket n a (λ c lt. off c (omega arith))) (off n (omega arith), tt)

closing_due : (p : Progress) (bucket n c : ℕ) → c < n → IsDue (advance_all p (closing bucket n)) (cell_address bucket c) 0
closing_due p bucket zero c lt = absurd (omega arith)
closing_due p bucket (suc n) c lt =
    subst (λ q. IsDue q (cell_address bucket c) 0) (sym (advance_all-append p (closing bucket n) (PStore (cell_address bucket n) 0 ∷ [])))
    (elim (eqb_tells c n) [
      | inl e ↦ subst (λ m. IsDue (advance (advance_all p (closing bucket n)) (PStore (cell_address bucket n) 0)) (cell_address bucket m) 0) (sym e.1)
          (IsDue-stored (advance_all p (closing bucket n)) (cell_address bucket n) 0)
      | inr ne ↦ let apart = ne.1 in IsDue-away (advance_all p (closing bucket n)) (cell_address bucket c) 0 (PStore (cell_address bucket n) 0) (omega arith)
          (closing_due p bucket n c (omega arith))
    ])

-- ---- a fresh bucket

module _ (shape : Shape) (p : ℕ) (w v : Words) (xs : List ℕ) (place : Place) (r : Record) (inside : p < shape.partitions) (rest : IsAtRest shape p w xs)
    (is : IsFreshPlace shape p w xs place) (below : place.cell < shape.cells) (at : r.at ≡ place_address place) (gate : r.lsn ≢ 0) where
  abbrev node : ℕ
  node = place.bucket

  abbrev shut : List Event
  shut = closing node shape.cells

  abbrev cell_part : List Event
  cell_part = body r ++ opening r

  abbrev put : List Event
  put = insertion (insertion_of place)

  abbrev Log : ℕ → Type 0
  Log = IsLogWord shape p

  can : CanInsert shape p w xs (insertion_of place)
  can = record { at_rest = rest; bucket = is.bucket; absent = is.absent; tail = is.tail }

  -- a word that is none of the list's isn't stored to by the insertion
  put_away : (a : ℕ) → ((x : ℕ) → IsListWord shape p x → x ≢ a) → AreAway a put
  put_away a off = AreAway-stores (IsListWord shape p) a put off (insertion_stores shape p w xs (insertion_of place) can)

  no_list_word : (b c a : ℕ) → IsBucketOf shape p b → c < shape.cells → cell_address b c ≤ a → a < cell_address b c + 8 → (x : ℕ) → IsListWord shape p x → x ≢ a
  no_list_word b c a own lt low high x m e = list_word_is_no_cell shape p p a b (subst (IsListWord shape p) e m) own (omega (arith, low)) (omega (arith, high, lt))

  -- the words of the cells of other buckets aren't stored to at all
  away : (b c a : ℕ) → IsBucketOf shape p b → b ≢ node → c < shape.cells → cell_address b c ≤ a → a < cell_address b c + 8 → AreAway a ((shut ++ put) ++ cell_part)
  away b c a own ne lt low high =
      AreAway-append a (shut ++ put) cell_part
      (AreAway-append a shut put
      (closing_away node shape.cells a (λ d dlt e. ne (cells_apart shape p p b c node d a own is.bucket lt dlt low high (omega (arith, e)) (omega (arith, e))).0))
      (put_away a (no_list_word b c a own lt low high)))
      (other_cell_away shape p node place.cell b c a r is.bucket own below lt at low high (λ q. ne q.0))

  other_bucket : (b : ℕ) → IsAmong xs b → b ≢ node
  other_bucket b m = λ e. Each-among (λ x. node ≢ x) xs b is.absent m (sym e)

  kept : (k : ℕ) → Reaches Log (progress_at w ((shut ++ put) ++ cell_part) k) v → (b c : ℕ) → IsAmong xs b → c < shape.cells → IsKept v w xs b (cell_address b c)
  kept k h b c m lt =
      let own = Each-among (IsBucketOf shape p) xs b rest.buckets m in
      record {
        was_among = m;
        same = same_cell v w (cell_address b c) (λ a low high.
            Reaches-fixed Log (progress_at w ((shut ++ put) ++ cell_part) k) v a (w a) (cell_word_is_log_word shape p b c a own lt low high)
            (IsFixed-aways (start w) a (w a) (take k ((shut ++ put) ++ cell_part)) (AreAway-take a k ((shut ++ put) ++ cell_part) (away b c a own (other_bucket b m) lt low high)) (IsFixed-start w a)) h);
      }

  -- The list words go by the insertion alone.
  shut_list_away : (a : ℕ) → IsListWord shape p a → AreAway a shut
  shut_list_away a m = closing_away node shape.cells a (λ c lt e. list_word_is_no_cell shape p p a node m is.bucket (omega (arith, e)) (omega (arith, e, lt)))

  after_shut : SameOn (IsListWord shape p) (advance_all (start w) shut) (start w)
  after_shut = SameOn-idles (IsListWord shape p) (start w) w shut shut_list_away (SameOn-refl (IsListWord shape p) (start w))

  node_is_no_0 : node ≢ 0
  node_is_no_0 e = let above = bucket_above shape p node is.bucket in omega (arith, above, e)

  -- the room before is that of the buckets that aren't in the chain
  room_before : room_of shape w p xs ≡ shape.cells * (count_buckets shape p - length xs)
  room_before = room_full shape w p xs is.full

  -- with the same chain all is as before
  same_chain : (k : ℕ) → Reaches Log (progress_at w ((shut ++ put) ++ cell_part) k) v → IsAtRest shape p v xs → KeepsLog shape p w xs v
  same_chain k h list = record {
    chain = xs;
    list = at_rest list;
    to_remove = list.to_remove;
    records = SameRecords-from shape.cells w v xs xs (λ b m. m) (λ b c m lt. inl (kept k h b c m lt));
    room = room_same shape v w p xs (λ c lt ne. ap gate_of (kept k h (last_or 0 xs) c (among_last xs ne) lt).same);
  }

  -- with the bucket in the chain and its gates closed there is no new record
  longer_chain : (k : ℕ) → Reaches Log (progress_at w ((shut ++ put) ++ cell_part) k) v → IsList shape p v (xs ++ node ∷ []) → v 12 ≡ 0 →
      ((c : ℕ) → c < shape.cells → v (cell_address node c) ≡ 0) → KeepsLog shape p w xs v
  longer_chain k h list to_remove gates = record {
    chain = xs ++ node ∷ [];
    list = list;
    to_remove = to_remove;
    records = SameRecords-from shape.cells w v xs (xs ++ node ∷ []) (λ b m. IsAmong-push xs node b m)
        (λ b c m lt. elim (IsAmong-cases xs node b m) [
          | inl q ↦ inl (kept k h b c q lt)
          | inr e ↦ inr (record { closed = ap (λ n. v (cell_address n c)) e ∙ gates c lt; was_closed = λ q. absurd (other_bucket b q e) })
        ]);
    room =
        (let all = closed_all v node shape.cells gates in
        let more = room_of_push shape v p xs node node_is_no_0 (chain_few shape p v (xs ++ node ∷ []) inside list) in
        let before = room_before in
        omega (arith, all, more, before));
  }

  abbrev shut_made : Progress
  shut_made = advance_all (start w) shut

  gate_is_no_list_word : (c : ℕ) → c < shape.cells → (x : ℕ) → IsListWord shape p x → x ≢ cell_address node c
  gate_is_no_list_word c lt = no_list_word node c (cell_address node c) is.bucket lt (omega arith) (omega arith)

  -- from the insertion's fence on the gates are durably closed
  gates_fixed : (c i : ℕ) → c < shape.cells → IsFixed (advance_all shut_made (take (suc (suc (suc (suc i)))) put)) (cell_address node c) 0
  gates_fixed c i lt =
      let off = put_away (cell_address node c) (gate_is_no_list_word c lt) in
      IsFixed-aways (advance (advance_all shut_made (take 3 put)) Fence) (cell_address node c) 0 (take i (drop 4 put))
      (AreAway-take (cell_address node c) i (drop 4 put) off.1.1.1.1)
      (IsFixed-fence (advance_all shut_made (take 3 put)) (cell_address node c) 0
      (IsDue-aways shut_made (cell_address node c) 0 (take 3 put) (AreAway-take (cell_address node c) 3 put off)
      (closing_due (start w) node shape.cells c lt)))

  gates_shut : (c i : ℕ) → c < shape.cells → Reaches Log (advance_all shut_made (take (suc (suc (suc (suc i)))) put)) v → v (cell_address node c) ≡ 0
  gates_shut c i lt h = Reaches-fixed Log (advance_all shut_made (take (suc (suc (suc (suc i)))) put)) v (cell_address node c) 0
      (cell_word_is_log_word shape p node c (cell_address node c) is.bucket lt (omega arith) (omega arith)) (gates_fixed c i lt) h

  -- TO_REMOVE isn't stored to
  remove_away : AreAway 12 ((shut ++ put) ++ cell_part)
  remove_away =
      let to_remove : IsListWord shape p 12 = inl (omega arith, omega arith) in
      AreAway-append 12 (shut ++ put) cell_part
      (AreAway-append 12 shut put (shut_list_away 12 to_remove) (omega arith, (omega arith, (omega arith, (tt, (omega arith, (tt, (behind, (omega arith, (tt, (omega arith, (tt, tt))))))))))))
      (list_word_away shape p node place.cell 12 r is.bucket below at to_remove)
    where
      behind : word_behind place.tail ≢ 12
      behind = subst (λ n. word_behind n ≢ 12) (sym is.tail) (elim (eqb_tells (last_or 0 xs) 0) [
        | inl e ↦ subst (λ n. word_behind n ≢ 12) (sym e.1) (omega arith)
        | inr e ↦ rw e.0 (λ z. (let above = bucket_above shape p (last_or 0 xs) (Each-among (IsBucketOf shape p) xs (last_or 0 xs) rest.buckets (among_last xs e.1)) in omega (arith, above, z)))
      ])

  no_removal : (k : ℕ) → Reaches Log (progress_at w ((shut ++ put) ++ cell_part) k) v → v 12 ≡ 0
  no_removal k h = Reaches-fixed Log (progress_at w ((shut ++ put) ++ cell_part) k) v 12 0 (inl (omega arith, omega arith))
      (IsFixed-aways (start w) 12 0 (take k ((shut ++ put) ++ cell_part)) (AreAway-take 12 k ((shut ++ put) ++ cell_part) remove_away)
      (subst (IsFixed (start w) 12) rest.to_remove (IsFixed-start w 12))) h

  -- while the gates are being closed
  while_shutting : (k j : ℕ) → Reaches Log (progress_at w ((shut ++ put) ++ cell_part) k) v → Reaches Log (advance_all (start w) (take j shut)) v → KeepsLog shape p w xs v
  while_shutting k j h s =
      same_chain k h (still shape p w v xs rest (λ a m.
      Reaches-fixed Log (advance_all (start w) (take j shut)) v a (w a) (list_word_is_log_word shape p a m)
      (IsFixed-aways (start w) a (w a) (take j shut) (AreAway-take a j shut (shut_list_away a m)) (IsFixed-start w a)) s))

  -- in the insertion
  put_words : (j : ℕ) → Reaches Log (advance_all shut_made (take j put)) v → Reaches (IsListWord shape p) (advance_all (start w) (take j put)) v
  put_words j s = Reaches-same (IsListWord shape p) (advance_all shut_made (take j put)) (advance_all (start w) (take j put)) v
      (SameOn-events (IsListWord shape p) shut_made (start w) (take j put) after_shut)
      (Reaches-part Log (IsListWord shape p) (advance_all shut_made (take j put)) v (list_word_is_log_word shape p) s)

  put_early : (k j : ℕ) → j ≤ 4 → Reaches Log (progress_at w ((shut ++ put) ++ cell_part) k) v → Reaches Log (advance_all shut_made (take j put)) v → KeepsLog shape p w xs v
  put_early k j few h s = same_chain k h (insertion_before shape p w xs (insertion_of place) can v j few (put_words j s))

  while_putting : (k j : ℕ) → Reaches Log (progress_at w ((shut ++ put) ++ cell_part) k) v → Reaches Log (advance_all shut_made (take (suc j) put)) v → KeepsLog shape p w xs v
  while_putting k zero h s = put_early k 1 (omega arith) h s
  while_putting k (suc zero) h s = put_early k 2 (omega arith) h s
  while_putting k (suc (suc zero)) h s = put_early k 3 (omega arith) h s
  while_putting k (suc (suc (suc i))) h s = elim (insertion_images shape p w xs (insertion_of place) can v (suc (suc (suc (suc i)))) (put_words (suc (suc (suc (suc i)))) s)) [
    | inl list ↦ same_list k h list
    | inr list ↦ longer_chain k h list (no_removal k h) (λ c lt. gates_shut c i lt s)
  ]
    where
      same_list : (k : ℕ) → Reaches Log (progress_at w ((shut ++ put) ++ cell_part) k) v → IsList shape p v xs → KeepsLog shape p w xs v
      same_list k h list = record {
        chain = xs;
        list = list;
        to_remove = no_removal k h;
        records = SameRecords-from shape.cells w v xs xs (λ b m. m) (λ b c m lt. inl (kept k h b c m lt));
        room = room_same shape v w p xs (λ c lt ne. ap gate_of (kept k h (last_or 0 xs) c (among_last xs ne) lt).same);
      }

  -- once the bucket is in the chain
  abbrev all_put : Progress
  all_put = advance_all shut_made put

  put_list : (j : ℕ) → Reaches Log (advance_all all_put (take j cell_part)) v → IsAtRest shape p v (xs ++ node ∷ [])
  put_list j s =
      let ended = (inserted w (insertion_of place) 11).durable in
      let same : SameOn (IsListWord shape p) all_put (start ended) = SameOn-events (IsListWord shape p) shut_made (start w) put after_shut in
      let idle : SameOn (IsListWord shape p) (advance_all all_put (take j cell_part)) (start ended) =
      SameOn-idles (IsListWord shape p) all_put ended (take j cell_part)
      (λ a m. AreAway-take a j cell_part (list_word_away shape p node place.cell a r is.bucket below at m)) same in
      let reached = Reaches-same (IsListWord shape p) (advance_all all_put (take j cell_part)) (start ended) v idle
      (Reaches-part Log (IsListWord shape p) (advance_all all_put (take j cell_part)) v (list_word_is_log_word shape p) s) in
      still shape p ended v (xs ++ node ∷ []) (insertion_ends shape p w xs (insertion_of place) can).at_rest
      (λ a m. elim (reached a m) [ inl e ↦ e | inr x ↦ elim x [ ] ])

  all_put_gate : (c : ℕ) → c < shape.cells → IsFixed all_put (cell_address node c) 0
  all_put_gate c lt = gates_fixed c 7 lt

  -- a gate of the bucket that isn't the place's
  other_gate : (c j : ℕ) → c < shape.cells → c ≢ place.cell → Reaches Log (advance_all all_put (take j cell_part)) v → v (cell_address node c) ≡ 0
  other_gate c j lt ne s = Reaches-fixed Log (advance_all all_put (take j cell_part)) v (cell_address node c) 0
      (cell_word_is_log_word shape p node c (cell_address node c) is.bucket lt (omega arith) (omega arith))
      (IsFixed-aways all_put (cell_address node c) 0 (take j cell_part)
      (AreAway-take (cell_address node c) j cell_part
      (other_cell_away shape p node place.cell node c (cell_address node c) r is.bucket is.bucket below lt at (omega arith) (omega arith) (λ q. ne q.1)))
      (all_put_gate c lt)) s

  added : (k j : ℕ) → Reaches Log (progress_at w ((shut ++ put) ++ cell_part) k) v → Reaches Log (advance_all all_put (take j cell_part)) v →
      record_at v r.at ≡ r → AddsToLog shape p w xs r v
  added k j h s new = record {
    chain = xs ++ node ∷ [];
    at_rest = put_list j s;
    records = AddsRecord-from shape.cells w v xs (xs ++ node ∷ []) node place.cell r (λ b m. IsAmong-push xs node b m) (IsAmong-last xs node) below gate
        (ap (record_at v) (sym at) ∙ new)
        (λ b c m lt. elim (IsAmong-cases xs node b m) [
          | inl q ↦ inl (kept k h b c q lt)
          | inr e ↦ elim (eqb_tells c place.cell) [
            | inl f ↦ inr (inr (record {
              is = ap (λ n. record_at v (n + 8 + 8 * c)) e ∙ ap (λ n. record_at v (cell_address node n)) f.1 ∙ ap (record_at v) (sym at) ∙ new;
              was_closed = λ q. absurd (other_bucket b q e);
            }))
            | inr ne ↦ inr (inl (record {
              closed = ap (λ n. v (cell_address n c)) e ∙ other_gate c j lt ne.1 s;
              was_closed = λ q. absurd (other_bucket b q e);
            }))
          ]
        ]);
    room =
        (let open_at : v (cell_address node place.cell) ≢ 0 = λ z. gate (sym (ap gate_of new) ∙ ap v at ∙ z) in
        let all : closed_cells (λ a. 0) node shape.cells ≡ shape.cells = closed_all (λ a. 0) node shape.cells (λ c lt. refl) in
        let less : closed_cells v node shape.cells + 1 ≡ closed_cells (λ a. 0) node shape.cells =
        closed_less v (λ a. 0) node shape.cells place.cell below open_at refl (λ c lt ne. other_gate c j lt ne s) in
        let more = room_of_push shape v p xs node node_is_no_0 (chain_few shape p v (xs ++ node ∷ []) inside (at_rest (put_list j s))) in
        let before = room_before in
        omega (arith, all, less, more, before));
  }

  -- while the place's gate is closed too there is no new record
  still_shut : (k j : ℕ) → Reaches Log (progress_at w ((shut ++ put) ++ cell_part) k) v → Reaches Log (advance_all all_put (take j cell_part)) v → v r.at ≡ 0 → KeepsLog shape p w xs v
  still_shut k j h s off = longer_chain k h (at_rest (put_list j s)) (no_removal k h) (λ c lt. elim (eqb_tells c place.cell)
      [ inl e ↦ ap (λ m. v (cell_address node m)) e.1 ∙ ap v (sym at) ∙ off | inr ne ↦ other_gate c j lt ne.1 s ])

  once_put : (k j : ℕ) → Reaches Log (progress_at w ((shut ++ put) ++ cell_part) k) v → Reaches Log (advance_all all_put (take j cell_part)) v → KeepsOrAdds shape p w xs r v
  once_put k j h s = elim (closed_or_record Log all_put r v (cell_words shape p node place.cell r is.bucket below at)
      (subst (λ n. IsFixed all_put n 0) (sym at) (all_put_gate place.cell below)) j s) [
        | inl off ↦ inl (still_shut k j h s off)
        | inr new ↦ inr (added k j h s new)
      ]

  fresh_image : (k : ℕ) → Reaches Log (progress_at w ((shut ++ put) ++ cell_part) k) v → KeepsOrAdds shape p w xs r v
  fresh_image k h = elim (take_cases k (shut ++ put) cell_part) [
    | inl e ↦ elim (take_cases k shut put) [
      | inl f ↦ inl (while_shutting k k h (subst (λ es. Reaches Log (advance_all (start w) es) v) (e ∙ f) h))
      | inr j ↦ inl (while_putting k j.0 h (subst (λ q. Reaches Log q v) (advance_all-append (start w) shut (take (suc j.0) put))
          (subst (λ es. Reaches Log (advance_all (start w) es) v) (e ∙ j.1) h)))
    ]
    | inr j ↦ once_put k (suc j.0) h (subst (λ q. Reaches Log q v)
        (advance_all-append (start w) (shut ++ put) (take (suc j.0) cell_part) ∙ ap (λ q. advance_all q (take (suc j.0) cell_part)) (advance_all-append (start w) shut put))
        (subst (λ es. Reaches Log (advance_all (start w) es) v) j.1 h))
  ]

  -- up to the gate's store
  fresh_waits : (k : ℕ) → take k ((shut ++ put) ++ cell_part) ≡ take k ((shut ++ put) ++ body r) → Reaches Log (progress_at w ((shut ++ put) ++ cell_part) k) v → KeepsLog shape p w xs v
  fresh_waits k same h = elim (take_cases k (shut ++ put) (body r)) [
    | inl e ↦ elim (take_cases k shut put) [
      | inl f ↦ while_shutting k k h (subst (λ es. Reaches Log (advance_all (start w) es) v) (same ∙ e ∙ f) h)
      | inr j ↦ while_putting k j.0 h (subst (λ q. Reaches Log q v) (advance_all-append (start w) shut (take (suc j.0) put))
          (subst (λ es. Reaches Log (advance_all (start w) es) v) (same ∙ e ∙ j.1) h))
    ]
    | inr j ↦ (
        let made : Reaches Log (advance_all all_put (take (suc j.0) (body r))) v = subst (λ q. Reaches Log q v)
        (advance_all-append (start w) (shut ++ put) (take (suc j.0) (body r)) ∙ ap (λ q. advance_all q (take (suc j.0) (body r))) (advance_all-append (start w) shut put))
        (subst (λ es. Reaches Log (advance_all (start w) es) v) (same ∙ j.1) h) in
        let few = take_front (suc j.0) (body r) (opening r) in
        still_shut k few.0 h (subst (λ es. Reaches Log (advance_all all_put es) v) few.1 made)
        (closed_in_body Log all_put r v (cell_words shape p node place.cell r is.bucket below at)
        (subst (λ n. IsFixed all_put n 0) (sym at) (all_put_gate place.cell below)) (suc j.0) made))
  ]

  -- the cell's events come behind those of the insertion
  once_all_put : Reaches Log (advance_all (start w) ((shut ++ put) ++ cell_part)) v → Reaches Log (advance_all all_put cell_part) v
  once_all_put h = subst (λ q. Reaches Log q v)
      (advance_all-append (start w) (shut ++ put) cell_part ∙ ap (λ q. advance_all q cell_part) (advance_all-append (start w) shut put)) h

  -- at the end the bucket is behind the chain
  fresh_rests : Reaches Log (advance_all (start w) ((shut ++ put) ++ cell_part)) v → IsAtRest shape p v (xs ++ node ∷ [])
  fresh_rests h = put_list 10 (once_all_put h)

  -- and the record is there
  fresh_end : Reaches Log (advance_all (start w) ((shut ++ put) ++ cell_part)) v → AddsToLog shape p w xs r v
  fresh_end h =
      let all : take (length ((shut ++ put) ++ cell_part)) ((shut ++ put) ++ cell_part) ≡ (shut ++ put) ++ cell_part = take_all (length ((shut ++ put) ++ cell_part)) ((shut ++ put) ++ cell_part) (omega arith) in
      let whole = subst (λ es. Reaches Log (advance_all (start w) es) v) (sym all) h in
      let s = once_all_put h in
      added (length ((shut ++ put) ++ cell_part)) 10 whole s
      (record_at_end Log all_put r v (cell_words shape p node place.cell r is.bucket below at)
      (subst (λ n. IsFixed all_put n 0) (sym at) (all_put_gate place.cell below)) s)

  -- the append stores to words of the log alone
  fresh_stores : AreStoresOn Log ((shut ++ put) ++ cell_part)
  fresh_stores = AreStoresOn-append Log (shut ++ put) cell_part
      (AreStoresOn-append Log shut put
      (closing_stores Log node shape.cells (λ c lt. cell_word_is_log_word shape p node c (cell_address node c) is.bucket lt (omega arith) (omega arith)))
      (AreStoresOn-map (IsListWord shape p) Log (list_word_is_log_word shape p) put (insertion_stores shape p w xs (insertion_of place) can)))
      (cell_stores Log r (cell_words shape p node place.cell r is.bucket below at))

-- ---- both

abbrev plan_by : ℕ → Place → Record → Bool → List Event
plan_by cells place r fresh = (if fresh then closing place.bucket cells ++ insertion (insertion_of place) else []) ++ (body r ++ opening r)

image_by : (shape : Shape) (p : ℕ) (w v : Words) (xs : List ℕ) (place : Place) (r : Record) (k : ℕ) (fresh : Bool) → p < shape.partitions → IsAtRest shape p w xs →
    IsPlaceBy shape p w xs place fresh → place.cell < shape.cells → r.at ≡ place_address place → r.lsn ≢ 0 →
    Reaches (IsLogWord shape p) (progress_at w (plan_by shape.cells place r fresh) k) v → KeepsOrAdds shape p w xs r v
image_by shape p w v xs place r k true inside rest is below at gate h = fresh_image shape p w v xs place r inside rest is below at gate k h
image_by shape p w v xs place r k false inside rest is below at gate h = used_image shape p w v xs place r rest is below at gate k h

pub append_images : (shape : Shape) (p : ℕ) (w v : Words) (xs : List ℕ) (place : Place) (r : Record) (k : ℕ) → p < shape.partitions → CanAppend shape p w xs place r →
    Reaches (IsLogWord shape p) (appending shape w place r k) v → KeepsOrAdds shape p w xs r v
append_images shape p w v xs place r k inside can h = image_by shape p w v xs place r k place.fresh inside can.at_rest can.is_place can.below can.at can.gate h

-- a prefix that leaves out two events is one of what comes before the gate's store
up_to_gate : (front : List Event) (r : Record) (k : ℕ) → k + 2 ≤ length (front ++ (body r ++ opening r)) → take k (front ++ (body r ++ opening r)) ≡ take k (front ++ body r)
up_to_gate front r k short =
    let parts : (front ++ body r) ++ opening r ≡ front ++ (body r ++ opening r) = append_assoc front (body r) (opening r) in
    let size : length ((front ++ body r) ++ opening r) ≡ length (front ++ body r) + 2 = length-append (front ++ body r) (opening r) in
    let whole : length ((front ++ body r) ++ opening r) ≡ length (front ++ (body r ++ opening r)) = ap (λ es. length es) parts in
    ap (take k) (sym parts) ∙ take-append-le k (front ++ body r) (opening r) (omega (arith, short, size, whole))

waits_by : (shape : Shape) (p : ℕ) (w v : Words) (xs : List ℕ) (place : Place) (r : Record) (k : ℕ) (fresh : Bool) → p < shape.partitions → IsAtRest shape p w xs →
    IsPlaceBy shape p w xs place fresh → place.cell < shape.cells → r.at ≡ place_address place → r.lsn ≢ 0 → k + 2 ≤ length (plan_by shape.cells place r fresh) →
    Reaches (IsLogWord shape p) (progress_at w (plan_by shape.cells place r fresh) k) v → KeepsLog shape p w xs v
waits_by shape p w v xs place r k true inside rest is below at gate short h =
    fresh_waits shape p w v xs place r inside rest is below at gate k (up_to_gate (closing place.bucket shape.cells ++ insertion (insertion_of place)) r k short) h
waits_by shape p w v xs place r k false inside rest is below at gate short h = used_waits shape p w v xs place r rest is below at gate k (up_to_gate [] r k short) h

-- before the gate's store each image has the records before
pub append_waits : (shape : Shape) (p : ℕ) (w v : Words) (xs : List ℕ) (place : Place) (r : Record) (k : ℕ) → p < shape.partitions → CanAppend shape p w xs place r →
    k + 2 ≤ length (append_plan shape.cells place r) → Reaches (IsLogWord shape p) (appending shape w place r k) v → KeepsLog shape p w xs v
append_waits shape p w v xs place r k inside can short h = waits_by shape p w v xs place r k place.fresh inside can.at_rest can.is_place can.below can.at can.gate short h

end_by : (shape : Shape) (p : ℕ) (w v : Words) (xs : List ℕ) (place : Place) (r : Record) (fresh : Bool) → p < shape.partitions → IsAtRest shape p w xs →
    IsPlaceBy shape p w xs place fresh → place.cell < shape.cells → r.at ≡ place_address place → r.lsn ≢ 0 →
    Reaches (IsLogWord shape p) (advance_all (start w) (plan_by shape.cells place r fresh)) v → AddsToLog shape p w xs r v
end_by shape p w v xs place r true inside rest is below at gate h = fresh_end shape p w v xs place r inside rest is below at gate h
end_by shape p w v xs place r false inside rest is below at gate h = used_end shape p w v xs place r rest is below at gate h

pub append_end : (shape : Shape) (p : ℕ) (w v : Words) (xs : List ℕ) (place : Place) (r : Record) → p < shape.partitions → CanAppend shape p w xs place r →
    Reaches (IsLogWord shape p) (advance_all (start w) (append_plan shape.cells place r)) v → AddsToLog shape p w xs r v
append_end shape p w v xs place r inside can h = end_by shape p w v xs place r place.fresh inside can.at_rest can.is_place can.below can.at can.gate h

rests_by : (shape : Shape) (p : ℕ) (w v : Words) (xs : List ℕ) (place : Place) (r : Record) (fresh : Bool) → p < shape.partitions → IsAtRest shape p w xs →
    IsPlaceBy shape p w xs place fresh → place.cell < shape.cells → r.at ≡ place_address place → r.lsn ≢ 0 →
    Reaches (IsLogWord shape p) (advance_all (start w) (plan_by shape.cells place r fresh)) v → IsAtRest shape p v (if fresh then xs ++ place.bucket ∷ [] else xs)
rests_by shape p w v xs place r true inside rest is below at gate h = fresh_rests shape p w v xs place r inside rest is below at gate h
rests_by shape p w v xs place r false inside rest is below at gate h = used_rests shape p w v xs place r rest is below at gate h

-- at the end the list is at rest
pub append_rests : (shape : Shape) (p : ℕ) (w v : Words) (xs : List ℕ) (place : Place) (r : Record) → p < shape.partitions → CanAppend shape p w xs place r →
    Reaches (IsLogWord shape p) (advance_all (start w) (append_plan shape.cells place r)) v → IsAtRest shape p v (chain_behind place xs)
append_rests shape p w v xs place r inside can h = rests_by shape p w v xs place r place.fresh inside can.at_rest can.is_place can.below can.at can.gate h

stores_by : (shape : Shape) (p : ℕ) (w : Words) (xs : List ℕ) (place : Place) (r : Record) (fresh : Bool) → p < shape.partitions → IsAtRest shape p w xs →
    IsPlaceBy shape p w xs place fresh → place.cell < shape.cells → r.at ≡ place_address place → r.lsn ≢ 0 →
    AreStoresOn (IsLogWord shape p) (plan_by shape.cells place r fresh)
stores_by shape p w xs place r true inside rest is below at gate = fresh_stores shape p w w xs place r inside rest is below at gate
stores_by shape p w xs place r false inside rest is below at gate =
    cell_stores (IsLogWord shape p) r (cell_words shape p place.bucket place.cell r (Each-among (IsBucketOf shape p) xs place.bucket rest.buckets is.bucket) below at)

-- the append stores to words of the partition's log alone
pub append_stores : (shape : Shape) (p : ℕ) (w : Words) (xs : List ℕ) (place : Place) (r : Record) → p < shape.partitions → CanAppend shape p w xs place r →
    AreStoresOn (IsLogWord shape p) (append_plan shape.cells place r)
append_stores shape p w xs place r inside can = stores_by shape p w xs place r place.fresh inside can.at_rest can.is_place can.below can.at can.gate

none_pending : (cells : ℕ) (w : Words) (place : Place) (r : Record) (fresh : Bool) → (advance_all (start w) (plan_by cells place r fresh)).pending ≡ []
none_pending cells w place r true = ap (λ q. q.pending) (advance_all-append (start w) (closing place.bucket cells ++ insertion (insertion_of place)) (body r ++ opening r))
none_pending cells w place r false = refl

pub append_settles : (cells : ℕ) (w : Words) (place : Place) (r : Record) → (advance_all (start w) (append_plan cells place r)).pending ≡ []
append_settles cells w place r = none_pending cells w place r place.fresh
