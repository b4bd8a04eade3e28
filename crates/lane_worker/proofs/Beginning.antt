-- A transaction was begun.
use Rattle.std.proofs.Common.{◌≡◌, ℕ, ◌+◌, ◌-◌, ◌<◌, Bool, true, false, not, ◌&&◌, if◌then◌else◌, ◌==◌, nat_lt, List, [], Some, None, refl, sym, subst, ◌∙◌, ap, arith, ltb-true}
use Rattle.persist_model.specs.Records.{IsAmong}
use Rattle.persist_model.specs.Chain.{HasNoRepeats}
use Rattle.lane_types.specs.declared.call.Call.{Call}
use Rattle.lane_types.specs.declared.call.Call.TheVariants as call
use Rattle.lane_types.specs.Faces.{WholeFace}
use Rattle.lane_types.specs.Asks.{has_word, is_there}
use Rattle.lane_types.specs.Heaps.{Heap, block_address, block_of, has_bit, names_in, is_owned, owner_word, is_data, holding_of}
use Rattle.lane_types.specs.Histories.{fold}
use Rattle.lane_types.specs.LaneSteps.{BeginStep, begun_face}
use Rattle.map_deeds.specs.Meanings.{HoldMaps, map_deeds}
use Rattle.map_deeds.specs.declared.deed.MapDeed.{MapDeed}
use Rattle.lane_worker.specs.declared.worker.Worker.{Worker}
use Rattle.lane_worker.specs.declared.stage.Stage.TheVariants as stage
use Rattle.lane_worker.specs.Ledger.{IsLedger}
use Rattle.lane_worker.specs.Shown.{heap_first}
use Rattle.lane_worker.specs.Stages.{WouldHold, open_in}
use Rattle.lane_worker.specs.Standing.{IsReady, IsAsking, IsDue, BeginIsDue}
use Rattle.lane_worker.specs.Acts.{BeginsOnMaps}
use Rattle.lane_worker.proofs.Keeping.{call_same}
use Rattle.lane_worker.proofs.Ending.{plain_entries}
use Rattle.lane_worker.proofs.Blocks.{data_in, number_there}

pub both_true : (s t : Bool) → (s && t) ≡ true → (s ≡ true) × (t ≡ true)
both_true true t e = (refl, e)
both_true false t e = absurd (cc)

some_by : (t : Bool) (n s : ℕ) → (if t then Some (n - 1) else None) ≡ Some s → (t ≡ true) × (n - 1 ≡ s)
some_by true n s e = (refl, cc)
some_by false n s e = absurd (cc)

if_true : (t : Bool) (v : ℕ) → t ≡ true → is_there (if t then Some v else None) ≡ true
if_true true v e = refl
if_true false v e = absurd (cc)

module _ (set : ℕ) (heap : Heap) where
  pub owned_tells : (n s : ℕ) → (holding_of set heap).owner n ≡ Some s → (n < heap.blocks) × (has_bit set s ≡ true) × (is_owned set heap (owner_word heap) n ≡ true)
  owned_tells n s e =
      let p = some_by (is_owned set heap (owner_word heap) n) (owner_word heap n) s e in
      let q = both_true (nat_lt n heap.blocks) (names_in set (owner_word heap n)) p.0 in
      let r = both_true (not (owner_word heap n == 0)) (has_bit set (owner_word heap n - 1)) q.1 in
      (ltb-true n heap.blocks q.0, subst (λ k. has_bit set k ≡ true) p.1 r.1, p.0)

  owned_word : (n s i : ℕ) → (holding_of set heap).owner n ≡ Some s → 0 < i → i < 16 → has_word (holding_of set heap) (block_address heap n + i) ≡ true
  owned_word n s i e some small =
      let told = owned_tells n s e in
      let on : (is_data heap (block_address heap n + i) && is_owned set heap (owner_word heap) (block_of heap (block_address heap n + i))) ≡ true =
      ap (λ t. t && is_owned set heap (owner_word heap) (block_of heap (block_address heap n + i))) (data_in heap n i told.0 some small)
      ∙ ap (is_owned set heap (owner_word heap)) (number_there heap n i small) ∙ told.2 in
      if_true (is_data heap (block_address heap n + i) && is_owned set heap (owner_word heap) (block_of heap (block_address heap n + i))) (heap.at (block_address heap n + i)) on

no_commit_begin : (set : ℕ) (deed : MapDeed) → call.Begin set ≡ call.Commit deed → ⊥
no_commit_begin set deed e = cc

pub begun_ready : (w v : Worker) (f g : WholeFace MapDeed) (n : ℕ) → v.taken.items ≡ [] → IsAsking w f → BeginStep map_deeds n f g → BeginsOnMaps w.kinds.now g
    → IsReady (record w { stage = stage.Choosing; steps = []; taken = v.taken }) g
begun_ready w v f g n none h row told =
    subst (λ x. BeginsOnMaps w.kinds.now x → IsReady (record w { stage = stage.Choosing; steps = []; taken = v.taken }) x) (sym row.next) begun told
  where
    begun : BeginsOnMaps w.kinds.now (begun_face n row.set (holding_of row.set (fold f.base.heap row.history)) f)
        → IsReady (record w { stage = stage.Choosing; steps = []; taken = v.taken }) (begun_face n row.set (holding_of row.set (fold f.base.heap row.history)) f)
    begun on =
        let same = call_same w f h (call.Begin row.set) row.call in
        let due : BeginIsDue w row.set = subst (λ (c : Call MapDeed). IsDue w c f) same h.due in
        let plain = plain_entries w f h (call.Begin row.set) same (no_commit_begin row.set) in
        let home = h.stands.home in
        let heap = fold f.base.heap row.history in
        let zero_is : open_in w.stage ≡ 0 = ap open_in due.stage_is in
        let before = h.stands.begun in
        record {
          stands = record {
            home = record { lane = home.lane; text = home.text; sorts = home.sorts; structures = home.structures; roots = home.roots; heap = home.heap; blocks = home.blocks };
            place = h.stands.place;
            ledger = subst (IsLedger w.items.now w.at w.lane w.number w.fates.items) (sym plain.0) h.stands.ledger;
            begun = omega (arith, zero_is, before);
            room = h.stands.room;
            staged = record {
              t = due.t;
              maps = on.maps;
              rest = due.t.commands;
              within = record {
                item = due.item;
                held = due.set_is;
                whole = record {
                  inside = λ k s e. (owned_tells row.set heap k s e).0;
                  held = λ k s e. (owned_tells row.set heap k s e).1;
                  words = λ k s i e some small. owned_word row.set heap k s i e some small;
                  roots = on.roots;
                };
                first = subst (λ set. HoldMaps (has_bit set) w.kinds.now (heap_first (begun_face n row.set (holding_of row.set heap) f)) on.maps) due.set_is on.first;
                commands = refl;
                replies = refl;
              };
              now = subst (λ (xs : List ℕ). WouldHold w.kinds.now due.t.set [] xs (begun_face n row.set (holding_of row.set heap) f) on.maps) (sym none)
                  (subst (λ set. HoldMaps (has_bit set) w.kinds.now (heap_first (begun_face n row.set (holding_of row.set heap) f)) on.maps) due.set_is on.first);
              taken = λ b m. absurd (subst (λ (xs : List ℕ). IsAmong xs b) none m);
              once = subst (λ (xs : List ℕ). HasNoRepeats xs) (sym none) tt;
            };
          };
          phase = refl;
          no_call = refl;
          entered = refl;
        }
