-- What a step of one lane leaves of the others.
use Rattle.std.proofs.Common.{◌≡◌, ◌≢◌, ◌⊎◌, inl, inr, ℕ, ◌%◌, ◌<◌, ◌≤◌, List, [], length, refl, sym, ap, ◌∙◌, subst}
use Rattle.std.proofs.lemmas.Bool.Decides.{eqb_tells}
use Rattle.std.proofs.Math.Nat.{mod-lt}
use Rattle.persist_model.specs.Records.{Record, Log, IsAmong, IsOf}
use Rattle.persist_model.specs.Shape.{Shape}
use Rattle.log_laws.proofs.Needs.{has_of_true}
use Rattle.log_laws.proofs.MoveRooms.{some_of}
use Rattle.region_layout.specs.declared.layout.Layout.{Layout}
use Rattle.region_layout.specs.Layout.{layout_shape}
use Rattle.offset_alloc.specs.declared.Standing.{Standing}
use Rattle.lane_book.specs.declared.book.Book.{Book}
use Rattle.lane_book.specs.declared.lane.Lane.{Lane}
use Rattle.lane_book.specs.FacesOf.{lane_at}
use Rattle.log_keeper.specs.declared.keeper.LogKeeper.{LogKeeper}
use Rattle.log_keeper.specs.Keeper.{KeepsSlots, HasRoomIn}
use Rattle.log_keeper.specs.Ledger.{newest_log}
use Rattle.history_laws.specs.UnderWay.{UnderWay, nothing, closes, drops}
use Rattle.txn_laws.specs.Txns.{Txn, idle, txn_at}
use Rattle.txn_laws.specs.Worlds.{World}
use Rattle.txn_state.specs.Stages.{Stage, Free, Between, Leaving, Naming, Storing, Deleting, Securing, Opening, Undoing, TakingBack, Keeping, Ending, Closing, ClosingEnd, Dropping, Unbuilt, stage_of}
use Rattle.txn_state.specs.Ties.{under_of, IsCome, IsLaneOf}
use Rattle.txn_state.specs.Owing.{Needs, needs_at, needs_of, records_noted, OwesEnough}
use Rattle.txn_state.specs.Changes.{HasLane}
use Rattle.txn_state.specs.Beside.{AddsOnlyOf, TakesOnlyOf, IsBeside, IsApart, LanesStay}

-- ---- another transaction's records

-- a record of another transaction than t was there before
pub came_not : (t u : ℕ) (log later : Log) (r : Record) → u ≢ t → AddsOnlyOf t log later → IsAmong later r → IsOf u r → IsAmong log r
came_not t u log later r ne added m of = elim (added r m) [ inl k ↦ k | inr is ↦ absurd (ne (sym of.0 ∙ is.0)) ]

-- a lane that is in a transaction, or in none
pub numbered_or_free : (log : Log) (u : UnderWay) (x : Txn) (stage : Stage) → IsCome log u x stage → (1 ≤ x.number) ⊎ ((stage ≡ Free) × (x ≡ idle) × (u ≡ nothing))
numbered_or_free log u x Free come = inr (refl, come.0, come.1)
numbered_or_free log u x Between come = inl come.going.some
numbered_or_free log u x Leaving come = inl come.between.going.some
numbered_or_free log u x Naming come = inl come.going.some
numbered_or_free log u x Storing come = inl come.going.some
numbered_or_free log u x Securing come = inl come.going.some
numbered_or_free log u x Opening come = inl come.going.some
numbered_or_free log u x Undoing come = inl come.going.some
numbered_or_free log u x TakingBack come = inl come.going.some
numbered_or_free log u x Keeping come = inl come.going.some
numbered_or_free log u x Ending come = inl come.going.some
numbered_or_free log u x Closing come = inl come.over.some
numbered_or_free log u x ClosingEnd come = inl come.over.some
numbered_or_free log u x Dropping come = inl come.over.some
numbered_or_free log u x Deleting come = inl come.going.some
numbered_or_free log u x Unbuilt come = absurd come

-- ---- how far it has come

-- it is as far where the log has of its transaction what it had
pub come_stays : (t : ℕ) (log later : Log) (u : UnderWay) (x : Txn) (stage : Stage) → (1 ≤ x.number → x.number ≢ t) → AddsOnlyOf t log later → IsCome log u x stage → IsCome later u x stage
come_stays t log later u x Free apart added come = come
come_stays t log later u x Between apart added come = come
come_stays t log later u x Leaving apart added come = record {
  between = come.between;
  unwritten = come.unwritten;
  no_record = λ r m of. come.no_record r (came_not t x.number log later r (apart come.between.going.some) added m of) of;
}
come_stays t log later u x Naming apart added come = come
come_stays t log later u x Storing apart added come = come
come_stays t log later u x Securing apart added come = come
come_stays t log later u x Opening apart added come = come
come_stays t log later u x Undoing apart added come = come
come_stays t log later u x TakingBack apart added come = come
come_stays t log later u x Keeping apart added come = come
come_stays t log later u x Ending apart added come = come
come_stays t log later u x Closing apart added come = come
come_stays t log later u x ClosingEnd apart added come = record {
  over = come.over;
  ends_alone = λ r m of. come.ends_alone r (came_not t x.number log later r (apart come.over.some) added m of) of;
  ends = come.ends;
  made = come.made;
  under_way = come.under_way;
  all_listed = λ r m of. come.all_listed r (came_not t x.number log later r (apart come.over.some) added m of) of;
}
come_stays t log later u x Dropping apart added come = record {
  over = come.over;
  no_record = λ r m of. come.no_record r (came_not t x.number log later r (apart come.over.some) added m of) of;
  removed = come.removed;
  made = come.made;
  under_way = come.under_way;
}
come_stays t log later u x Deleting apart added come = come
come_stays t log later u x Unbuilt apart added come = come

-- the same lane, beside a change of another's records
pub lane_stays : {E : Type 0} (layout : Layout) (blocks : List Standing) (t : ℕ) (log later newest newer : Log) (u : UnderWay) (p : ℕ) (lane : Lane E) (x : Txn) →
    (1 ≤ x.number → x.number ≢ t) → AddsOnlyOf t log later → AddsOnlyOf t newest newer → TakesOnlyOf t newest newer →
    IsLaneOf layout blocks log newest u p lane x → IsLaneOf layout blocks later newer u p lane x
lane_stays layout blocks t log later newest newer u p lane x apart added newest_added newest_taken l = record {
  txn = l.txn;
  come = come_stays t log later u x (stage_of lane) apart added l.come;
  given = l.given;
  counts = l.counts;
  deleting = l.deleting;
  ends_ungiven = l.ends_ungiven;
  written_words = l.written_words;
  taking = l.taking;
  naming = l.naming;
  recorded = λ one on. (let some = some_of x.number newer on in
      l.recorded one (has_of_true x.number newest (some.0, came_not t x.number newest newer some.0 (apart one) newest_added some.1 some.2, some.2)));
  begun = l.begun;
  has_some = λ one recorded on. (let some = l.has_some one recorded on in
      (some.0, elim (newest_taken some.0 some.1) [ inl k ↦ k | inr is ↦ absurd (apart one (sym some.2.0.0 ∙ is.0)) ], some.2));
  uncompensated = λ unrolled one runs r m of. l.uncompensated unrolled one runs r (came_not t x.number newest newer r (apart one) newest_added m of.0) of;
}

-- ---- what it owes

-- where nothing is under way no bucket's removal is wanted by a closing in progress
needs_any_chain : (shape : Shape) (log : Log) (p n c d : ℕ) (u : UnderWay) (x : Txn) (stage : Stage) → u ≡ nothing → IsCome log u x stage →
    needs_at shape p n c u x stage ≡ needs_at shape p n d u x stage
needs_any_chain shape log p n c d u x Free is come = refl
needs_any_chain shape log p n c d u x Between is come = refl
needs_any_chain shape log p n c d u x Leaving is come = refl
needs_any_chain shape log p n c d u x Naming is come = refl
needs_any_chain shape log p n c d u x Storing is come = refl
needs_any_chain shape log p n c d u x Securing is come = refl
needs_any_chain shape log p n c d u x Opening is come = refl
needs_any_chain shape log p n c d u x Undoing is come = refl
needs_any_chain shape log p n c d u x TakingBack is come = refl
needs_any_chain shape log p n c d u x Keeping is come = refl
needs_any_chain shape log p n c d u x Ending is come = refl
needs_any_chain shape log p n c d u x Closing is come = let e : closes come.gates [] come.made ≡ nothing = sym come.under_way ∙ is in cc
needs_any_chain shape log p n c d u x ClosingEnd is come = let e : closes [] come.ends come.made ≡ nothing = sym come.under_way ∙ is in cc
needs_any_chain shape log p n c d u x Dropping is come = let e : drops come.removed come.made ≡ nothing = sym come.under_way ∙ is in cc
needs_any_chain shape log p n c d u x Deleting is come = refl
needs_any_chain shape log p n c d u x Unbuilt is come = refl

-- without a transaction nothing is wanted
needs_any_count : (shape : Shape) (log : Log) (p n m c : ℕ) (u : UnderWay) (x : Txn) (stage : Stage) → IsCome log u x stage → (1 ≤ x.number → m ≡ n) →
    needs_at shape p m c u x stage ≡ needs_at shape p n c u x stage
needs_any_count shape log p n m c u x stage come same = elim (numbered_or_free log u x stage come) [
  | inl one ↦ ap (λ k. needs_at shape p k c u x stage) (same one)
  | inr free ↦ subst (λ st. needs_at shape p m c u x st ≡ needs_at shape p n c u x st) (sym free.0) refl
]

-- what lane k has under way where another holds its partition
unheld : (shape : Shape) (w : World) (k : ℕ) → w.keeping.holder (k % shape.partitions) ≢ k → under_of shape w k ≡ nothing
unheld shape w k ne = elim (eqb_tells (w.keeping.holder (k % shape.partitions)) k) [
  | inl e ↦ absurd (ne e.1)
  | inr off ↦ (rw off.0 refl)
]

-- the needs by all that they hang on
needs_equal : (shape : Shape) (log : Log) (p n m c d : ℕ) (u v : UnderWay) (x y : Txn) (stage later : Stage) → v ≡ u → y ≡ x → later ≡ stage → (1 ≤ x.number → m ≡ n) →
    (u ≡ nothing) ⊎ (d ≡ c) → IsCome log u x stage → needs_at shape p m d v y later ≡ needs_at shape p n c u x stage
needs_equal shape log p n m c d u v x y stage later under same at counts chain come =
    (λ i. needs_at shape p m d (under i) (same i) (at i)) ∙ (needs_any_count shape log p n m d u x stage come counts ∙ chained)
  where
    chained : needs_at shape p n d u x stage ≡ needs_at shape p n c u x stage
    chained = elim chain [ inl none ↦ needs_any_chain shape log p n d c u x stage none come | inr e ↦ ap (λ k. needs_at shape p n k u x stage) e ]

-- ---- both

module _ {E : Type 0} (layout : Layout) (book later : Book E) (l t : ℕ) (log after : Log) (chains behind : ℕ → List ℕ) (w v : World) (lane : Lane E)
    (beside : IsBeside (layout_shape layout) l t log after chains behind w v) (apart : IsApart w l t) (has : HasLane book later l lane) (k : ℕ) (ne : k ≢ l) (lt : k < length w.lanes)
    (of : IsLaneOf layout book.blocks log (newest_log w.keeping.ledger) (under_of (layout_shape layout) w k) (k % layout.partitions) (lane_at book k) (txn_at w.lanes k)) where
  tied : IsLaneOf layout later.blocks after (newest_log v.keeping.ledger) (under_of (layout_shape layout) v k) (k % layout.partitions) (lane_at later k) (txn_at v.lanes k)
  tied = subst (λ bs. IsLaneOf layout bs after (newest_log v.keeping.ledger) (under_of (layout_shape layout) v k) (k % layout.partitions) (lane_at later k) (txn_at v.lanes k)) (sym has.blocks)
      (subst (λ u. IsLaneOf layout book.blocks after (newest_log v.keeping.ledger) u (k % layout.partitions) (lane_at later k) (txn_at v.lanes k)) (sym (beside.under k ne lt))
      (subst (λ lane. IsLaneOf layout book.blocks after (newest_log v.keeping.ledger) (under_of (layout_shape layout) w k) (k % layout.partitions) lane (txn_at v.lanes k)) (sym (has.others k ne))
      (subst (λ x. IsLaneOf layout book.blocks after (newest_log v.keeping.ledger) (under_of (layout_shape layout) w k) (k % layout.partitions) (lane_at book k) x) (sym (beside.others k ne))
      (lane_stays layout book.blocks t log after (newest_log w.keeping.ledger) (newest_log v.keeping.ledger) (under_of (layout_shape layout) w k) (k % layout.partitions) (lane_at book k) (txn_at w.lanes k)
      (λ one. apart k ne one) beside.added beside.newest_added beside.newest_taken of))))

  module _ (keeper kept : LogKeeper) (keeps : KeepsSlots keeper.slots.items kept.slots.items) (slots : length keeper.slots.items ≡ layout.partitions)
      (owes : OwesEnough (layout_shape layout) chains book keeper w k) where
    chain_same : (under_of (layout_shape layout) w k ≡ nothing) ⊎ (behind (k % layout.partitions) ≡ chains (k % layout.partitions))
    chain_same = elim (eqb_tells (k % layout.partitions) (l % layout.partitions)) [
      | inl e ↦ elim (beside.alone k ne lt e.1) [
        | inl off ↦ inl (unheld (layout_shape layout) w k (λ is. off (ap w.keeping.holder (sym e.1) ∙ is)))
        | inr same ↦ inr (same (k % layout.partitions))
      ]
      | inr off ↦ inr (beside.chains_stay (k % layout.partitions) off.1)
    ]

    needs_stay : needs_of (layout_shape layout) behind later v k ≡ needs_of (layout_shape layout) chains book w k
    needs_stay = needs_equal (layout_shape layout) log (k % layout.partitions) (records_noted w (txn_at w.lanes k).number) (records_noted v (txn_at v.lanes k).number)
        (length (chains (k % layout.partitions))) (length (behind (k % layout.partitions))) (under_of (layout_shape layout) w k) (under_of (layout_shape layout) v k)
        (txn_at w.lanes k) (txn_at v.lanes k) (stage_of (lane_at book k)) (stage_of (lane_at later k)) (beside.under k ne lt) (beside.others k ne) (ap stage_of (has.others k ne))
        (λ one. ap (λ (x : Txn). records_noted v x.number) (beside.others k ne) ∙ ap length (beside.noted (txn_at w.lanes k).number (apart k ne one)))
        (elim chain_same [ inl none ↦ inl none | inr e ↦ inr (ap length e) ]) of.come

    here : k % layout.partitions < length keeper.slots.items
    here = subst (λ n. k % layout.partitions < n) (sym slots) (mod-lt k layout.partitions_within.0)

    owing : OwesEnough (layout_shape layout) behind later kept v k
    owing = record {
      events = subst (λ (x : Needs). x.events ≤ (lane_at later k).owed_events) (sym needs_stay)
          (subst (λ (lane : Lane E). (needs_of (layout_shape layout) chains book w k).events ≤ lane.owed_events) (sym (has.others k ne)) owes.events);
      records = subst (λ (x : Needs). x.records ≤ (lane_at later k).owed_records) (sym needs_stay)
          (subst (λ (lane : Lane E). (needs_of (layout_shape layout) chains book w k).records ≤ lane.owed_records) (sym (has.others k ne)) owes.records);
      lists = subst (λ (x : Needs). HasRoomIn kept.slots.items (k % layout.partitions) x.gates) (sym needs_stay)
          (keeps.lists (k % layout.partitions) (needs_of (layout_shape layout) chains book w k).gates here owes.lists);
    }

pub lanes_stay : {E : Type 0} → LanesStay E
lanes_stay = record {
  tied = λ layout book later l t log after chains behind w v lane beside apart has k ne lt of. tied layout book later l t log after chains behind w v lane beside apart has k ne lt of;
  owing = λ layout book later keeper kept l t log after chains behind w v lane beside apart has keeps slots k ne lt of owes.
      owing layout book later l t log after chains behind w v lane beside apart has k ne lt of keeper kept keeps slots owes;
}
