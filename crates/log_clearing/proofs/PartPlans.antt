-- The plans of one partition, and what its own words decide.
use Rattle.std.proofs.Common.{◌≡◌, ◌⊎◌, inl, inr, ℕ, List, [], ◌∷◌, ◌++◌, sym, ap, ◌∙◌, subst, refl, arith}
use Rattle.persist_model.specs.declared.event.Event.{Event}
use Rattle.persist_model.specs.declared.event.Event.TheVariants.{Fence}
use Rattle.persist_model.specs.Region.{Words}
use Rattle.persist_model.specs.Records.{Record, IsAmong}
use Rattle.persist_model.specs.Shape.{Shape, IsBucketOf, log_words, part_of}
use Rattle.persist_model.specs.Chain.{view}
use Rattle.persist_model.specs.ImageRecords.{cell_address}
use Rattle.persist_model.specs.State.{State}
use Rattle.persist_model.specs.Sound.{HasState}
use Rattle.log_laws.proofs.SameLists.{chain_buckets}
use Rattle.log_laws.proofs.Views.{AreStoresOn-map, AreStoresOn-out}
use Rattle.atomic_list.specs.Plans.{removal}
use Rattle.atomic_list.specs.Rules.{IsListWord}
use Rattle.atomic_list.proofs.Removals.{removal_is_on_list}
use Rattle.region_layout.specs.Layout.{IsAllowed}
use Rattle.bucket_log.specs.Words.{IsLogWord, IsPartWord}
use Rattle.bucket_log.specs.PartWords.{AreOnPart}
use Rattle.bucket_log.proofs.Addresses.{list_word_is_log_word}
use Rattle.bucket_log.proofs.AppendImages.{Each-among}
use Rattle.bucket_log.proofs.ListFacts.{list_plan_stores}
use Rattle.bucket_log.proofs.Partitions.{log_word_out, part_of_cell}
use Rattle.bucket_log.proofs.PartWords.{on_part, own_words_take, gate_same, bucket_of}
use Rattle.persist_model.proofs.Among.{among_right}
use Rattle.log_clearing.specs.Plans.{closes, group}
use Rattle.log_clearing.specs.Removals.{region_removal}
use Rattle.log_clearing.specs.PartPlans.{RemovalsAreOnPart, ClosingsAreOnPart, OwnWordsDrop}

-- ---- a removal

pub removals_are_on_part : RemovalsAreOnPart
removals_are_on_part shape p w r can = on_part shape p (region_removal p r)
    (AreStoresOn-out (IsLogWord shape p) (IsPartWord shape p) p (log_word_out shape p) (removal r)
    (AreStoresOn-map (IsListWord shape p) (IsLogWord shape p) (list_word_is_log_word shape p) (removal r)
    (list_plan_stores shape p (removal r) (removal_is_on_list shape p w can.front can.rest r can.can_remove))))

pub own_words_drop : OwnWordsDrop
own_words_drop shape p w v r same can =
    let chain : List ℕ = can.front ++ r.node ∷ can.rest in
    let rest = can.can_remove.at_rest in
    let inside : IsBucketOf shape p r.node = bucket_of shape p w v chain rest.buckets same r.node (among_right can.front (r.node ∷ can.rest) r.node (inl refl)) in
    record {
      front = can.front;
      rest = can.rest;
      can_remove = record { at_rest = own_words_take.at_rest shape p w v chain same rest; prev = can.can_remove.prev; next = can.can_remove.next };
      not_last = can.not_last;
      closed = λ c below. gate_same shape p w v chain rest.buckets same r.node c inside below ∙ can.closed c below;
    }

-- ---- a closing

on_append : (shape : Shape) (p : ℕ) (es fs : List Event) → AreOnPart shape p es → AreOnPart shape p fs → AreOnPart shape p (es ++ fs)
on_append shape p [] fs h k = k
on_append shape p (e ∷ es) fs h k = (h.0, on_append shape p es fs h.1 k)

closes_on : (shape : Shape) (p : ℕ) (gates : List ℕ) → ((a : ℕ) → IsAmong gates a → IsPartWord shape p a) → AreOnPart shape p (closes gates)
closes_on shape p [] each = tt
closes_on shape p (a ∷ gates) each = (each a (inl refl), closes_on shape p gates (λ b m. each b (inr m)))

group_on : (shape : Shape) (p : ℕ) (gates : List ℕ) → ((a : ℕ) → IsAmong gates a → IsPartWord shape p a) → AreOnPart shape p (group gates)
group_on shape p [] each = tt
group_on shape p (a ∷ gates) each = (each a (inl refl), on_append shape p (closes gates) (Fence ∷ []) (closes_on shape p gates (λ b m. each b (inr m))) (tt, tt))

-- the gate of a record of the partition is a word of it
gate_on : (shape : Shape) (p : ℕ) (w : Words) (s : State) → IsAllowed shape → HasState shape w s → (r : Record) → IsAmong s.log r → part_of shape r.at ≡ p → IsPartWord shape p r.at
gate_on shape p w s ok has r m here =
    let k = (has.records.each r).0 m in
    let cell = k.2 in
    let at : r.at ≡ cell_address cell.bucket cell.place = ap (λ (x : Record). x.at) cell.is in
    let inside : IsBucketOf shape k.0 cell.bucket = Each-among (IsBucketOf shape k.0) (has.chains k.0) cell.bucket
    (chain_buckets (IsBucketOf shape k.0) (view k.0 (log_words shape w)) (has.chains k.0) (has.lists k.0 k.1).rules) cell.is_among in
    let same : k.0 ≡ p = sym (part_of_cell shape k.0 cell.bucket cell.place ok k.1 inside cell.below) ∙ ap (part_of shape) (sym at) ∙ here in
    let below = cell.below in
    subst (λ q. IsPartWord shape q r.at) same (inr (cell.bucket, inside, omega (arith, at), omega (arith, at, below)))

pub closings_are_on_part : ClosingsAreOnPart
closings_are_on_part shape p w s gates ends checkpoints ok has groups here = on_append shape p (group gates) (group ends ++ group checkpoints)
    (group_on shape p gates (λ a m. (let k = groups.of_gates a m in inside a (inl m) k.0 k.1 k.2.0)))
    (on_append shape p (group ends) (group checkpoints)
    (group_on shape p ends (λ a m. (let k = groups.of_ends a m in inside a (inr (inl m)) k.0 k.1 k.2.0)))
    (group_on shape p checkpoints (λ a m. (let k = groups.of_checkpoints a m in inside a (inr (inr m)) k.0 k.1 k.2.0))))
  where
    inside : (a : ℕ) → IsAmong gates a ⊎ IsAmong ends a ⊎ IsAmong checkpoints a → (r : Record) → IsAmong s.log r → r.at ≡ a → IsPartWord shape p a
    inside a listed r m at = subst (IsPartWord shape p) at (gate_on shape p w s ok has r m
        (here r m (subst (λ b. IsAmong gates b ⊎ IsAmong ends b ⊎ IsAmong checkpoints b) (sym at) listed)))
