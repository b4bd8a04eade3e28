-- The last event of a part: base moves, and nothing else of what other partitions know.
use Rattle.std.proofs.Common.{◌≡◌, ◌≢◌, inl, inr, ℕ, ◌<◌, Bool, if◌then◌else◌, List, [], ◌++◌, length, refl, sym, ap, ◌∙◌, subst, arith}
use Rattle.std.proofs.lemmas.List.{take_all}
use Rattle.persist_model.specs.declared.event.Event.{Event}
use Rattle.persist_model.specs.Region.{Words, Region}
use Rattle.persist_model.specs.Progress.{Wrote, Tracks, AreSettledAt, Reaches, start, advance_all}
use Rattle.persist_model.specs.Runs.{progress_at}
use Rattle.persist_model.specs.Records.{Record, IsAmong}
use Rattle.persist_model.specs.Shape.{Shape, heap, heap_words, log_words, part_of}
use Rattle.persist_model.specs.Chain.{view, out_address}
use Rattle.persist_model.specs.State.{State}
use Rattle.persist_model.specs.Sound.{HasState}
use Rattle.persist_model.proofs.Tracking.{Tracks-settled}
use Rattle.log_laws.specs.Recovering.{with_heap}
use Rattle.log_laws.proofs.Views.{view_reaches}
use Rattle.region_layout.specs.Layout.{IsAllowed}
use Rattle.atomic_list.specs.Plans.{removal}
use Rattle.atomic_list.specs.Rules.{IsAtRest, IsListWord}
use Rattle.atomic_list.specs.Removal.{removed, RemovalLeaves}
use Rattle.atomic_list.proofs.Removals.{removal_ends, removal_is_on_list}
use Rattle.atomic_list.proofs.Repairs.{still}
use Rattle.bucket_log.specs.Words.{IsPartWord}
use Rattle.bucket_log.specs.Appends.{CanAppend, chain_behind, region_append}
use Rattle.bucket_log.proofs.Addresses.{list_word_is_log_word}
use Rattle.bucket_log.proofs.Appended.{log_reaches, append_ends, appends_leave_chains, appends_gain}
use Rattle.bucket_log.proofs.ListFacts.{list_plan_stores}
use Rattle.bucket_log.proofs.Partitions.{part_words_apart, part_word_below, few_parts, log_word_out, log_word_own}
use Rattle.bucket_log.proofs.PartWords.{own_words_take}
use Rattle.log_clearing.specs.Removals.{CanDrop, region_removal, more_room, with_room}
use Rattle.log_clearing.proofs.PartPlans.{own_words_drop}
use Rattle.log_clearing.proofs.RemovalStates.{removals_are_states}
use Rattle.plan_records.specs.Appends.{with_record}
use Rattle.plan_records.specs.Passing.{inserted}
use Rattle.plan_records.proofs.Passing.{inserted_gains, inserted_in}
use Rattle.log_keeper.specs.declared.slots.TheConstants.{NOBODY}
use Rattle.log_keeper.specs.Parts.{LogPart, rests, appends, closes, takes_back, drops, Running, plan_of, waits_for, words_behind, CanRun}
use Rattle.log_keeper.specs.Ledger.{Noted, settled_log}
use Rattle.log_keeper.specs.Logged.{Keeping, with_chain, resting, ended, waiting, plan_in, IsLoggedAt}
use Rattle.log_keeper.specs.Laws.{AppendsSettle, RemovalsSettle}
use Rattle.log_keeper.proofs.Progressing.{by_part, pending_same, tracks_alike, settled_of, part_on, words_outside}

-- what a partition's part asks, where base and the state have changed in another partition
can_beside : (shape : Shape) (q : ℕ) (base later : Words) (s x : State) (chain : List ℕ) (part : LogPart) → IsAllowed shape → q < shape.partitions →
    ((a : ℕ) → IsPartWord shape q a → later a ≡ base a) → ((r : Record) → part_of shape r.at ≡ q → IsAmong s.log r → IsAmong x.log r) →
    CanRun shape q base s chain part → CanRun shape q later x chain part
can_beside shape q base later s x chain rests ok lt same there can = tt
can_beside shape q base later s x chain (appends place r) ok lt same there can =
    own_words_take.append shape q (view q (log_words shape base)) (view q (log_words shape later)) chain place r (own_words_take.views shape q base later ok lt same) can
can_beside shape q base later s x chain (drops r) ok lt same there can =
    own_words_drop shape q (view q (log_words shape base)) (view q (log_words shape later)) r (own_words_take.views shape q base later ok lt same) can
can_beside shape q base later s x chain (takes_back gates) ok lt same there can =
    ((λ a m. (let k = can.0 a m in (k.0, there k.0 (ap (part_of shape) k.2.0 ∙ can.1 a m) k.1, k.2))), can.1)
can_beside shape q base later s x chain (closes gates ends checkpoints) ok lt same there can = (
  record {
    of_gates = λ a m. (let k = can.0.of_gates a m in (k.0, there k.0 (ap (part_of shape) k.2.0 ∙ can.1 a (inl m)) k.1, k.2));
    of_ends = λ a m. (let k = can.0.of_ends a m in (k.0, there k.0 (ap (part_of shape) k.2.0 ∙ can.1 a (inr (inl m))) k.1, k.2));
    of_checkpoints = λ a m. (let k = can.0.of_checkpoints a m in (k.0, there k.0 (ap (part_of shape) k.2.0 ∙ can.1 a (inr (inr m))) k.1, k.2));
  },
  can.1,
)

module _ (shape : Shape) (base : Words) (s : State) (chains : ℕ → List ℕ) (k : Keeping) (region : Region) (p : ℕ) (part : LogPart) (inside : p < shape.partitions)
    (is : (k.runs p).part ≡ part) (whole : (k.runs p).made ≡ length (plan_in shape k p)) (none : (advance_all (start base) (plan_of shape p part)).pending ≡ [])
    (h : IsLoggedAt shape base s chains k region) where
  pub can_part : CanRun shape p base s (chains p) part
  can_part = subst (CanRun shape p base s (chains p)) is (h.can p inside)

  abbrev later : Words
  later = words_behind shape p part base

  outside : (a : ℕ) → (IsPartWord shape p a → ⊥) → later a ≡ base a
  outside a off = words_outside shape p base part (part_on shape p base s (chains p) part h.allowed inside h.has can_part) a off

  beside : (q : ℕ) → q < shape.partitions → q ≢ p → (a : ℕ) → IsPartWord shape q a → later a ≡ base a
  beside q lt ne a m = outside a (λ on. part_words_apart shape p q a h.allowed inside lt ne m on)

  settled : AreSettledAt (IsPartWord shape p) later region
  settled = settled_of (IsPartWord shape p) (waits_for part (k.holder p)) (advance_all (start base) (plan_of shape p part)) region none
      (subst (λ es. Tracks (IsPartWord shape p) (waits_for part (k.holder p)) (advance_all (start base) es) region)
      (take_all (length (plan_of shape p part)) (plan_of shape p part) (omega arith)) tracked)
    where
      tracked : Tracks (IsPartWord shape p) (waits_for part (k.holder p)) (progress_at base (plan_of shape p part) (length (plan_of shape p part))) region
      tracked = subst (λ (x : LogPart). Tracks (IsPartWord shape p) (waits_for x (k.holder p)) (progress_at base (plan_of shape p x) (length (plan_of shape p x))) region) is
          (subst (λ n. Tracks (IsPartWord shape p) (waiting k p) (progress_at base (plan_in shape k p) n) region) whole (h.parts p inside))

  -- the words behind the part may stand behind its last event
  pub reached : Reaches (λ a. a < heap shape) (progress_at base (plan_of shape p part) (length (plan_of shape p part))) later
  reached a lt = inl (ap (λ es. (advance_all (start base) es).durable a) (sym (take_all (length (plan_of shape p part)) (plan_of shape p part) (omega arith))))

  -- with the state behind it
  pub ends : (x : State) (chain : List ℕ) (ledger : List Noted) → HasState shape later x → x.log ≡ settled_log ledger → IsAtRest shape p (view p (log_words shape later)) chain →
      ((q : ℕ) → q < shape.partitions → q ≢ p → (r : Record) → part_of shape r.at ≡ q → IsAmong s.log r → IsAmong x.log r) →
      IsLoggedAt shape later x (with_chain p chain chains) (ended p ledger k) region
  ends x chain ledger has records at_rest there = record {
    size = h.size;
    allowed = h.allowed;
    has = has;
    records = records;
    rest = λ q lt. by_part (λ n t. n < shape.partitions → IsAtRest shape n (view n (log_words shape later)) (chain_of n t)) p q (λ lt. at_rest)
        (λ ne lt. own_words_take.at_rest shape q (view q (log_words shape base)) (view q (log_words shape later)) (chains q)
        (own_words_take.views shape q base later h.allowed lt (beside q lt ne)) (h.rest q lt)) lt;
    header = λ a off v c. h.header a off v c ∙ sym (outside a (λ m. off.1 p inside m));
    parts = λ q lt. by_part (λ n t. n < shape.partitions → Tracks (IsPartWord shape n) (waits_for (run n t).part (k.holder n)) (progress_at later (plan_of shape n (run n t).part) (run n t).made) region) p q
        (λ lt. Tracks-settled (IsPartWord shape p) NOBODY later region settled)
        (λ ne lt. tracks_alike (IsPartWord shape q) (waiting k q) base later (plan_in shape k q) (k.runs q).made region (beside q lt ne) (h.parts q lt)) lt;
    can = λ q lt. by_part (λ n t. n < shape.partitions → CanRun shape n later x (chain_of n t) (run n t).part) p q (λ lt. tt)
        (λ ne lt. can_beside shape q base later s x (chains q) (k.runs q).part h.allowed lt (beside q lt ne) (there q lt ne) (h.can q lt)) lt;
  }
    where
      run : ℕ → Bool → Running
      run n t = if t then resting else k.runs n

      chain_of : ℕ → Bool → List ℕ
      chain_of n t = if t then chain else chains n

-- ---- an append

pub appends_settle : AppendsSettle
appends_settle shape base s chains k region p place r ledger inside is whole fresh log_is h =
    ends shape base s chains k region p (appends place r) inside is whole none h (with_heap (with_record p s r) (heap_words shape behind)) (chain_behind place (chains p)) ledger
    ((appends_gain shape p base s (chains p) place r (inserted r s.log) h.allowed inside h.has can (inserted_gains r s.log fresh h.has.records.newest_first)).last behind there)
    (ap (inserted r) h.records ∙ sym log_is)
    (appends_leave_chains shape p (log_words shape base) (log_words shape behind) (chains p) place r h.allowed inside can
    (λ a m. log_reaches shape base behind plan (length plan) there a (part_word_below shape p a h.allowed inside m)))
    (λ q lt ne x at m. inserted_in r s.log x (inr m))
  where
    plan : List Event
    plan = region_append shape p place r

    behind : Words
    behind = words_behind shape p (appends place r) base

    can : CanAppend shape p (view p (log_words shape base)) (chains p) place r
    can = subst (CanRun shape p base s (chains p)) is (h.can p inside)

    none : (advance_all (start base) (region_append shape p place r)).pending ≡ []
    none = pending_same base (log_words shape base) (region_append shape p place r) ∙ (append_ends shape p (log_words shape base) (chains p) place r h.allowed inside can).nothing_pending

    there : Reaches (λ a. a < heap shape) (progress_at base (region_append shape p place r) (length (region_append shape p place r))) behind
    there = reached shape base s chains k region p (appends place r) inside is whole none h

-- ---- a removal

pub removals_settle : RemovalsSettle
removals_settle shape base s chains k region p r inside is whole h = record {
  chain = can.front ++ can.rest;
  logged = ends shape base s chains k region p (drops r) inside is whole refl h (with_room s (more_room p shape.cells s.room) (heap_words shape behind)) (can.front ++ can.rest) k.ledger
      ((removals_are_states shape p base s r h.allowed inside h.has can).last behind there) h.records
      (still shape p (removed (view p (log_words shape base)) r 7).durable (view p (log_words shape behind)) (can.front ++ can.rest) leaves.at_rest same) (λ q lt ne x at m. m);
}
  where
    behind : Words
    behind = words_behind shape p (drops r) base

    can : CanDrop shape p (view p (log_words shape base)) r
    can = subst (CanRun shape p base s (chains p)) is (h.can p inside)

    leaves : RemovalLeaves shape p (view p (log_words shape base)) can.front can.rest r (removed (view p (log_words shape base)) r 7)
    leaves = removal_ends shape p (view p (log_words shape base)) can.front can.rest r can.can_remove

    there : Reaches (λ a. a < heap shape) (progress_at base (region_removal p r) (length (region_removal p r))) behind
    there = reached shape base s chains k region p (drops r) inside is whole refl h

    in_view : Reaches (IsListWord shape p) (removed (view p (log_words shape base)) r 7) (view p (log_words shape behind))
    in_view = view_reaches (λ a. a < heap shape) (IsListWord shape p) p 7 (log_words shape base) (log_words shape behind) (removal r) (few_parts shape p h.allowed inside)
        (λ a m. log_word_own shape p a (list_word_is_log_word shape p a m))
        (λ a m. part_word_below shape p (out_address p a) h.allowed inside (log_word_out shape p a (list_word_is_log_word shape p a m)))
        (list_plan_stores shape p (removal r) (removal_is_on_list shape p (view p (log_words shape base)) can.front can.rest r can.can_remove))
        (log_reaches shape base behind (region_removal p r) 7 there)

    same : (a : ℕ) → IsListWord shape p a → view p (log_words shape behind) a ≡ (removed (view p (log_words shape base)) r 7).durable a
    same a m = elim (in_view a m) [
      | inl e ↦ e
      | inr wrote ↦ absurd (subst (λ ws. Wrote ws a (view p (log_words shape behind) a)) leaves.nothing_pending wrote)
    ]
