-- What is reserved where an append begins, and the place that is read for it.
use Rattle.std.proofs.Common.{◌≡◌, ◌≢◌, ◌⊎◌, inl, inr, ℕ, zero, suc, ◌+◌, ◌%◌, ◌<◌, ◌≤◌, ◌==◌, ◌&&◌, ◌||◌, not, Bool, true, false, if◌then◌else◌, List, [], ◌∷◌, length, refl, sym, ap, ◌∙◌, subst, arith}
use Rattle.std.proofs.lemmas.Bool.Decides.{eqb_tells}
use Rattle.std.proofs.lemmas.Bool.{cases_lt}
use Rattle.persist_model.specs.Region.{Words, Region}
use Rattle.persist_model.specs.Records.{Log, Record, IsAmong}
use Rattle.persist_model.specs.Need.{has_of}
use Rattle.persist_model.specs.Shape.{Shape, log_words}
use Rattle.persist_model.specs.Chain.{view}
use Rattle.persist_model.specs.State.{State}
use Rattle.atomic_list.specs.Rules.{at_rest}
use Rattle.atomic_list.specs.Walk.{chain_of}
use Rattle.region_layout.specs.declared.layout.Layout.{Layout}
use Rattle.region_layout.specs.Layout.{layout_shape}
use Rattle.bucket_log.specs.declared.append.Place.{Place}
use Rattle.bucket_log.specs.Plans.{place_address}
use Rattle.bucket_log.specs.Places.{IsNextPlace}
use Rattle.bucket_log.specs.Appends.{CanAppend}
use Rattle.bucket_log.proofs.Appended.{next_places_take}
use Rattle.bucket_log.proofs.PartWords.{own_words_take}
use Rattle.log_laws.proofs.MoveRooms.{some_of}
use Rattle.lane_book.specs.declared.book.Book.{Book}
use Rattle.lane_book.specs.declared.lane.Lane.{Lane}
use Rattle.lane_book.specs.FacesOf.{lane_at}
use Rattle.lane_book.specs.Reserved.{is_bound, reserved_by as lane_reserves, share_of, undo_cells as lane_undoes}
use Rattle.log_keeper.specs.declared.keeper.LogKeeper.{LogKeeper}
use Rattle.log_keeper.specs.Ledger.{newest_log}
use Rattle.log_keeper.specs.Parts.{rests}
use Rattle.log_keeper.specs.Logged.{Keeping as Kept, IsLoggedAt}
use Rattle.history_laws.specs.UnderWay.{UnderWay, nothing}
use Rattle.txn_laws.specs.Txns.{Txn, idle, txn_at}
use Rattle.txn_laws.specs.Needs.{undo_cells}
use Rattle.txn_laws.specs.Rooms.{Share, reserved_by, reserved_in, sum_below, AreBound}
use Rattle.txn_laws.specs.Worlds.{World, IsWorldAt}
use Rattle.txn_laws.proofs.NeedsRest.{newest_known}
use Rattle.txn_laws.proofs.Rooms.{AreFilled}
use Rattle.txn_laws.proofs.Reserved.{shares_are_summed}
use Rattle.txn_state.specs.Stages.{Stage, Free, Between, Leaving, Naming, Storing, Deleting, Securing, Opening, Undoing, TakingBack, Keeping, Ending, Closing, ClosingEnd, Dropping, Unbuilt, stage_of}
use Rattle.txn_state.specs.Ties.{IsCome, IsTxnOf, under_of, IsLaneOf, IsTied}
use Rattle.txn_state.specs.States.{reserved_for}
use Rattle.txn_state.specs.AppendLaws.{newest_image}
use Rattle.txn_state.proofs.Sums.{sums_less}
use Rattle.txn_state.proofs.Lanes.{reserved_is_sum}
use Rattle.txn_state.proofs.Making.{test_same, under_free}
use Rattle.txn_state.proofs.Named.{updates_counted}
use Rattle.txn_state.proofs.NextParts.{read_words, read_list, read_chain}

-- ---- the place

-- the place that is read takes a record
pub read_place : (shape : Shape) (base : Words) (s : State) (chains : ℕ → List ℕ) (k : Kept) (region : Region) (p : ℕ) → p < shape.partitions → (k.runs p).part ≡ rests →
    IsLoggedAt shape base s chains k region → AreFilled region → (place : Place) (r : Record) →
    IsNextPlace shape p (view p (newest_image region)) (chain_of shape (view p (newest_image region))) place → r.at ≡ place_address place → r.lsn ≢ 0 →
    CanAppend shape p (view p (log_words shape base)) (chains p) place r
read_place shape base s chains k region p inside free h filled place r read at opens =
    next_places_take shape p (view p (log_words shape base)) (chains p) place r (h.rest p inside)
    (own_words_take.next shape p (view p (newest_image region)) (view p (log_words shape base)) (chains p) place (read_words shape base s chains k region p inside free h filled)
    (at_rest (read_list shape base s chains k region p inside free h filled))
    (subst (λ (chain : List ℕ). IsNextPlace shape p (view p (newest_image region)) chain place) (read_chain shape base s chains k region p inside free h filled) read)) at opens

-- ---- the shares of the lanes

-- none where it has no transaction
abbrev pub share_by : {E : Type 0} → ℕ → Lane E → Share
share_by zero lane = record { promised = 0; bound = false }
share_by (suc n) lane = record { promised = lane.promised; bound = is_bound lane }

pub share_some : (E : Type 0) (n : ℕ) (lane : Lane E) → 1 ≤ n → share_by n lane ≡ record { promised = lane.promised; bound = is_bound lane }
share_some E zero lane one = absurd (omega (arith, one))
share_some E (suc n) lane one = refl

-- past the last lane there is no transaction
past_idle : (lanes : List Txn) (j : ℕ) → length lanes ≤ j → txn_at lanes j ≡ idle
past_idle [] j le = refl
past_idle (x ∷ lanes) zero le = absurd (omega (arith, le))
past_idle (x ∷ lanes) (suc j) le = past_idle lanes j (omega (arith, le))

-- a running transaction of which nothing is under way isn't ended
unended_at : (log : Log) (x : Txn) (stage : Stage) → IsCome log nothing x stage → 1 ≤ x.number → x.over ≡ false → x.ended ≡ false
unended_at log x Free come one runs = absurd (let none = ap (λ (q : Txn). q.number) come.0 in omega (arith, one, none))
unended_at log x Between come one runs = come.going.unended refl
unended_at log x Leaving come one runs = come.between.going.unended refl
unended_at log x Naming come one runs = come.going.unended refl
unended_at log x Storing come one runs = come.going.unended refl
unended_at log x Securing come one runs = come.going.unended refl
unended_at log x Opening come one runs = come.going.unended refl
unended_at log x Undoing come one runs = come.going.unended refl
unended_at log x TakingBack come one runs = come.going.unended refl
unended_at log x Keeping come one runs = come.going.unended refl
unended_at log x Ending come one runs = come.going.unended refl
unended_at log x Closing come one runs = absurd (let e : true ≡ false = sym come.over.is_over ∙ runs in cc)
unended_at log x ClosingEnd come one runs = absurd (let e : true ≡ false = sym come.over.is_over ∙ runs in cc)
unended_at log x Dropping come one runs = absurd (let e : true ≡ false = sym come.over.is_over ∙ runs in cc)
unended_at log x Deleting come one runs = come.going.unended refl
unended_at log x Unbuilt come one runs = absurd come

-- a lane with a record, or that was promised one, whose end isn't stored
pub bound_there : (E : Type 0) (lane : Lane E) → (lane.has_records ≡ true) ⊎ (1 ≤ lane.promised) → lane.ended ≡ false → is_bound lane ≡ true
bound_there E lane some unended = ap (λ (b : Bool). (lane.has_records || not (lane.promised == 0)) && not b) unended ∙ ap (λ (b : Bool). b && true) (either some)
  where
    or_true : (b : Bool) → (b || true) ≡ true
    or_true true = refl
    or_true false = refl

    not_zero : (n : ℕ) → 1 ≤ n → not (n == 0) ≡ true
    not_zero n one = elim (eqb_tells n 0) [ inl e ↦ absurd (let none = e.1 in omega (arith, one, none)) | inr e ↦ ap not e.0 ]

    either : (lane.has_records ≡ true) ⊎ (1 ≤ lane.promised) → (lane.has_records || not (lane.promised == 0)) ≡ true
    either (inl has) = ap (λ (b : Bool). b || not (lane.promised == 0)) has
    either (inr one) = ap (λ (b : Bool). lane.has_records || b) (not_zero lane.promised one) ∙ or_true lane.has_records

open_told : (over has : Bool) → (not over && has) ≡ true → (over ≡ false) × (has ≡ true)
open_told true has on = absurd (let e : false ≡ true = on in cc)
open_told false has on = (refl, on)

share_most : (here there : Bool) (a b : ℕ) → (here ≡ true → (there ≡ true) × (a ≤ b)) → (if here then a else 0) ≤ (if there then b else 0)
share_most true there a b both = by there (both refl).0
  where
    by : (t : Bool) → t ≡ true → a ≤ (if t then b else 0)
    by true on = (both refl).1
    by false on = absurd (let e : false ≡ true = on in cc)
share_most false there a b both = omega arith

module _ (E : Type 0) (layout : Layout) (start : Words) (book : Book E) (keeper : LogKeeper) (region : Region) (base : Words) (s : State) (chains : ℕ → List ℕ) (w : World)
    (world : IsWorldAt (layout_shape layout) base s chains start w region) (tied : IsTied layout book keeper s w) (few : length w.lanes ≤ 16) (p : ℕ) (free : w.keeping.holder p ≡ 17) where
  abbrev pub shares : ℕ → Share
  shares j = share_by (txn_at w.lanes j).number (lane_at book j)

  -- each record of the newest log is of a transaction
  has_number : (r : Record) → IsAmong (newest_log w.keeping.ledger) r → 1 ≤ r.transaction
  has_number r among =
      let known = newest_known (layout_shape layout) base s chains start w region world r among in let one = known.1 in let of = known.2.0 in omega (arith, one, of)

  numbered : (j : ℕ) → has_of (txn_at w.lanes j).number (newest_log w.keeping.ledger) ≡ true → 1 ≤ (txn_at w.lanes j).number
  numbered j has = let some = some_of (txn_at w.lanes j).number (newest_log w.keeping.ledger) has in let one = has_number some.0 some.1 in let of = some.2.0 in omega (arith, one, of)

  lane_in : (j : ℕ) → 1 ≤ (txn_at w.lanes j).number → j < length w.lanes
  lane_in j one = elim (cases_lt j (length w.lanes)) [
    | inl lt ↦ lt
    | inr le ↦ absurd (let none = ap (λ (q : Txn). q.number) (past_idle w.lanes j le) in omega (arith, one, none))
  ]

  -- of a lane of the partition nothing is under way
  rests_here : (j : ℕ) → j < length w.lanes → j % layout.partitions ≡ p → under_of (layout_shape layout) w j ≡ nothing
  rests_here j lt is = under_free w (j % layout.partitions) j (λ same. (let held : w.keeping.holder p ≡ j = ap w.keeping.holder (sym is) ∙ same in let most = few in omega (arith, lt, most, held, free)))

  lane_there : (j : ℕ) → j < length w.lanes → j % layout.partitions ≡ p →
      IsLaneOf layout book.blocks s.log (newest_log w.keeping.ledger) nothing (j % layout.partitions) (lane_at book j) (txn_at w.lanes j)
  lane_there j lt is = subst (λ (u : UnderWay). IsLaneOf layout book.blocks s.log (newest_log w.keeping.ledger) u (j % layout.partitions) (lane_at book j) (txn_at w.lanes j)) (rests_here j lt is) (tied.each j lt)

  pub newest_bound : AreBound p (newest_log w.keeping.ledger) shares w.lanes
  newest_bound j part is_it =
      let told = open_told (txn_at w.lanes j).over (has_of (txn_at w.lanes j).number (newest_log w.keeping.ledger)) is_it in
      let one = numbered j told.1 in
      let lt = lane_in j one in
      let here : j % layout.partitions ≡ p = sym ((tied.each j lt).txn.here one) ∙ part in
      let lane = lane_there j lt here in
      ap (λ (c : Share). c.bound) (share_some E (txn_at w.lanes j).number (lane_at book j) one)
      ∙ bound_there E (lane_at book j) (inl (lane.recorded one told.1)) (sym lane.txn.ended ∙ unended_at s.log (txn_at w.lanes j) (stage_of (lane_at book j)) lane.come one told.0)

  -- what the shares come to is reserved
  share_within : (j : ℕ) → j < length w.lanes → reserved_by p (shares j) (txn_at w.lanes j) ≤ share_of layout.partitions p j (lane_at book j)
  share_within j lt = elim (cases_lt 0 (txn_at w.lanes j).number) [
    | inr none ↦ (let is : (txn_at w.lanes j).number ≡ 0 = omega (arith, none) in
        subst (λ (n : ℕ). reserved_by p (share_by n (lane_at book j)) (txn_at w.lanes j) ≤ share_of layout.partitions p j (lane_at book j)) (sym is) (no_share ((txn_at w.lanes j).part == p)))
    | inl one ↦ subst (λ (c : Share). reserved_by p c (txn_at w.lanes j) ≤ share_of layout.partitions p j (lane_at book j))
        (sym (share_some E (txn_at w.lanes j).number (lane_at book j) (omega (arith, one))))
        (share_most ((txn_at w.lanes j).part == p) ((j % layout.partitions) == p) (of_txn (is_bound (lane_at book j))) (lane_reserves (lane_at book j)) (λ on. with_share (omega (arith, one)) (part_told on)))
  ]
    where
      of_txn : Bool → ℕ
      of_txn b = (lane_at book j).promised + (if b then undo_cells (txn_at w.lanes j) else 0)

      no_share : (b : Bool) → (if b then 0 + (if false then undo_cells (txn_at w.lanes j) else 0) else 0) ≤ share_of layout.partitions p j (lane_at book j)
      no_share true = omega arith
      no_share false = omega arith

      part_told : ((txn_at w.lanes j).part == p) ≡ true → (txn_at w.lanes j).part ≡ p
      part_told on = elim (eqb_tells (txn_at w.lanes j).part p) [ inl e ↦ e.1 | inr e ↦ absurd (let no : true ≡ false = sym on ∙ e.0 in cc) ]

      with_share : 1 ≤ (txn_at w.lanes j).number → (txn_at w.lanes j).part ≡ p → (((j % layout.partitions) == p) ≡ true) × (of_txn (is_bound (lane_at book j)) ≤ lane_reserves (lane_at book j))
      with_share one part =
          let here : j % layout.partitions ≡ p = sym ((tied.each j lt).txn.here one) ∙ part in
          let t = (lane_there j lt here).txn in
          let same : undo_cells (txn_at w.lanes j) ≡ lane_undoes (lane_at book j) = alike t in
          (test_same (j % layout.partitions) p here, within (is_bound (lane_at book j)) same)
        where
          alike : IsTxnOf (layout_shape layout) (j % layout.partitions) (lane_at book j) nothing (txn_at w.lanes j) → undo_cells (txn_at w.lanes j) ≡ lane_undoes (lane_at book j)
          alike t = ap (λ (n : ℕ). n + ((if (txn_at w.lanes j).rolled then 0 else 1) + 1)) (sym (updates_counted (lane_at book j).updates.items (txn_at w.lanes j).updates t.updates))
              ∙ ap (λ (b : Bool). length (lane_at book j).updates.items + ((if b then 0 else 1) + 1)) t.rolled

          within : (b : Bool) → undo_cells (txn_at w.lanes j) ≡ lane_undoes (lane_at book j) →
              (lane_at book j).promised + (if b then undo_cells (txn_at w.lanes j) else 0) ≤ (lane_at book j).promised + (if b then lane_undoes (lane_at book j) else 0)
          within true same = omega (arith, same)
          within false same = omega arith

  pub covered : reserved_in shares w.lanes p ≤ reserved_for layout book p
  covered =
      let sum = shares_are_summed (λ j. reserved_by p (shares j) (txn_at w.lanes j)) shares w.lanes p (λ j lt. refl) in
      let less = sums_less (λ j. reserved_by p (shares j) (txn_at w.lanes j)) (λ j. share_of layout.partitions p j (lane_at book j)) (length w.lanes) share_within in
      let is = reserved_is_sum book layout.partitions p (length book.lanes.items) in
      let count : sum_below (λ j. share_of layout.partitions p j (lane_at book j)) (length w.lanes) ≡ sum_below (λ j. share_of layout.partitions p j (lane_at book j)) (length book.lanes.items) =
      ap (sum_below (λ j. share_of layout.partitions p j (lane_at book j))) tied.lanes in
      omega (arith, sum, less, is, count)
