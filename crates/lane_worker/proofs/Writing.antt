-- A write, a give and a take were answered, and a transaction was begun.
use Rattle.std.proofs.Common.{◌≡◌, inl, inr, ℕ, ◌+◌, ◌-◌, ◌%◌, ◌<◌, true, false, if◌then◌else◌, ◌==◌, List, [], ◌∷◌, ◌++◌, length, drop, Option, Some, refl, sym, subst, ◌∙◌, ap}
use Rattle.std.specs.List.{slice_get}
use Rattle.std.proofs.lemmas.Option.{slice_get_within}
use Rattle.std.proofs.lemmas.Bool.Decides.{eqb_tells}
use Rattle.persist_model.specs.Region.{Words}
use Rattle.persist_model.specs.Records.{IsAmong}
use Rattle.lane_traits.specs.Space.{put_word}
use Rattle.lane_traits.specs.Draft.{addresses, is_among, after_writes}
use Rattle.lane_traits.specs.declared.draft.WordWrite.{WordWrite}
use Rattle.lane_types.specs.declared.call.Call.{Call}
use Rattle.lane_types.specs.declared.call.Call.TheVariants as call
use Rattle.lane_types.specs.declared.call.Reply.TheVariants as reply
use Rattle.lane_types.specs.Faces.{WholeFace, answered, with_words}
use Rattle.lane_types.specs.Asks.{has_word}
use Rattle.lane_types.specs.Heaps.{Heap, Holding, block_address, has_bit, heap_of_holding}
use Rattle.lane_types.specs.LaneSteps.{WriteStep, IsWriting, one, many, put_held, put_all_held}
use Rattle.region_layout.specs.declared.layout.Kind.{Kind}
use Rattle.map_deeds.specs.Maps.{Maps, after_transaction}
use Rattle.map_deeds.specs.Meanings.{HoldMaps, commands_of}
use Rattle.map_deeds.specs.declared.deed.MapDeed.{MapDeed}
use Rattle.lane_worker.specs.declared.worker.Worker.{Worker}
use Rattle.lane_worker.specs.declared.stage.Stage.{Stage}
use Rattle.lane_worker.specs.declared.stage.Stage.TheVariants as stage
use Rattle.lane_worker.specs.Shown.{heap_now, AreWhole}
use Rattle.lane_worker.specs.Ledger.{IsLedger}
use Rattle.lane_worker.specs.Stages.{IsHeldBlock, IsHeldWord, WouldHold, IsMaking, IsAtStage}
use Rattle.lane_worker.specs.Standing.{IsReady, IsAsking, IsDue, WriteIsDue, phase_in}
use Rattle.lane_worker.proofs.Keeping.{call_same}
use Rattle.lane_worker.proofs.Ending.{plain_entries}
use Rattle.lane_worker.proofs.Lists.{drop_here}
use Rattle.lane_worker.proofs.Alike.{word_off}

-- ---- a write

-- the heap with a word that is held at another value
value_in : (heap : Heap) (held : Holding) (n i v b : ℕ) → 0 < i → i < 16
    → (heap_of_holding heap (put_held (block_address heap n + i) v held)).at b ≡ put_word (block_address heap n + i) v (heap_of_holding heap held).at b
value_in heap held n i v b some small = elim (eqb_tells b (block_address heap n + i)) [
  | inl e ↦ (let on = e.0 in let off : (((b - heap.start) % 16) == 0) ≡ false = ap (λ a. ((a - heap.start) % 16) == 0) e.1 ∙ word_off heap n i some small in rw (off, on) refl)
  | inr ne ↦ (let off = ne.0 in rw off refl)
]

heap_written : (heap : Heap) (held : Holding) (n i v : ℕ) → 0 < i → i < 16
    → (heap_of_holding heap (put_held (block_address heap n + i) v held)).at ≡ put_word (block_address heap n + i) v (heap_of_holding heap held).at
heap_written heap held n i v some small = λ j b. value_in heap held n i v b some small j

put_same_places : (held : Holding) (a v b : ℕ) → has_word held b ≡ true → has_word (put_held a v held) b ≡ true
put_same_places held a v b h = elim (eqb_tells b a) [
  | inl e ↦ (let on = e.0 in rw on refl)
  | inr ne ↦ (let off = ne.0 in rw off h)
]

-- the face after the write
abbrev pub written_face : ℕ → ℕ → WholeFace MapDeed → WholeFace MapDeed
written_face a v f = with_words (put_held a v f.words) (answered reply.Written f)

module _ (f : WholeFace MapDeed) (a v : ℕ) where
  whole_written : AreWhole f → AreWhole (written_face a v f)
  whole_written h = record { inside = h.inside; held = h.held; words = λ n s i owner some small. put_same_places f.words a v (block_address f.base.heap n + i) (h.words n s i owner some small); roots = h.roots }

  block_written : (s b : ℕ) → IsHeldBlock f s b → IsHeldBlock (written_face a v f) s b
  block_written s b h = record { number = h.number; place = h.place; owner = h.owner; no_root = h.no_root }

  word_written : (s b : ℕ) → IsHeldWord f s b → IsHeldWord (written_face a v f) s b
  word_written s b h = record { number = h.number; index = h.index; place = h.place; above = h.above; below = h.below; owner = h.owner }

  -- what was owed holds with the write made
  would_hold_written : (s : ℕ) → IsHeldWord f s a → (kinds : List Kind) (set : ℕ) (rest : List WordWrite) (blocks : List ℕ) (maps : Maps)
      → WouldHold kinds set (record { address = a; value = v } ∷ rest) blocks f maps → WouldHold kinds set rest blocks (written_face a v f) maps
  would_hold_written s held kinds set rest blocks maps h = subst (λ (w : Words). HoldMaps (has_bit set) kinds (record f.base.heap { at = λ b. if is_among blocks b then 0 else after_writes rest w b }) maps) (sym same) h
    where
      same : (heap_of_holding f.base.heap (put_held a v f.words)).at ≡ put_word a v (heap_now f).at
      same = subst (λ b. (heap_of_holding f.base.heap (put_held b v f.words)).at ≡ put_word b v (heap_now f).at) (sym held.place)
          (heap_written f.base.heap f.words held.number held.index v held.above held.below)

-- the worker with one write more made
abbrev pub wrote : Worker → Worker
wrote w = record w { change = record w.change { written = w.change.written + 1 } }

-- the maps behind the command
abbrev pub maps_behind : (w : Worker) (f : WholeFace MapDeed) → IsMaking w f → Maps
maps_behind w f h = after_transaction h.maps (commands_of w.steps ++ h.command ∷ [])

making_wrote : (w : Worker) (f : WholeFace MapDeed) (a v : ℕ) → slice_get w.change.writes w.change.written ≡ Some (record { address = a; value = v }) → IsMaking w f → IsMaking (wrote w) (written_face a v f)
making_wrote w f a v next h = record {
  t = h.t;
  maps = h.maps;
  command = h.command;
  rest = h.rest;
  within = record { item = h.within.item; held = h.within.held; whole = whole_written f a v h.within.whole; first = h.within.first; commands = h.within.commands; replies = h.within.replies };
  structure = h.structure;
  of = h.of;
  now = would_hold_written f a v h.structure first w.kinds.now h.t.set (drop (w.change.written + 1) w.change.writes) (drop w.change.given w.change.gives) (maps_behind w f h)
      (subst (λ (xs : List WordWrite). WouldHold w.kinds.now h.t.set xs (drop w.change.given w.change.gives) f (maps_behind w f h)) here h.now);
  words = λ b m. word_written f a v h.structure b (h.words b (subst (λ (xs : List WordWrite). IsAmong (addresses xs) b) (sym here) (inr m)));
  blocks = λ b m. block_written f a v h.structure b (h.blocks b m);
  once = h.once;
}
  where
    here : drop w.change.written w.change.writes ≡ record { address = a; value = v } ∷ drop (w.change.written + 1) w.change.writes
    here = drop_here w.change.writes w.change.written (record { address = a; value = v }) next

    first : IsHeldWord f h.structure a
    first = h.words a (subst (λ (xs : List WordWrite). IsAmong (addresses xs) a) (sym here) (inl refl))

-- a worker at its stage
pub at_stage : (w v : Worker) (f : WholeFace MapDeed) (s : Stage) → w.stage ≡ s → IsAtStage s v f → IsAtStage w.stage v f
at_stage w v f s e h = subst (λ (x : Stage). IsAtStage x v f) (sym e) h

pub from_stage : (w v : Worker) (f : WholeFace MapDeed) (s : Stage) → w.stage ≡ s → IsAtStage w.stage v f → IsAtStage s v f
from_stage w v f s e h = subst (λ (x : Stage). IsAtStage x v f) e h

no_commit_write : (a v : ℕ) (deed : MapDeed) → call.Write a v ≡ call.Commit deed → ⊥
no_commit_write a v deed e = cc

pub written_ready : (w : Worker) (f g : WholeFace MapDeed) → IsAsking w f → WriteStep f g → IsReady (wrote w) g
written_ready w f g h row = subst (IsReady (wrote w)) (sym row.next) (by_call f.call row.writes row.call refl)
  where
    by_call : (c : Option (Call MapDeed)) (writes : List WordWrite) → IsWriting c writes → f.call ≡ c → IsReady (wrote w) (with_words (put_all_held writes f.words) (answered reply.Written f))
    by_call _ _ (one {a = a} {v = v}) is =
        let same = call_same w f h (call.Write a v) is in
        let due : WriteIsDue w a v = subst (λ (c : Call MapDeed). IsDue w c f) same h.due in
        let plain = plain_entries w f h (call.Write a v) same (no_commit_write a v) in
        let home = h.stands.home in
        record {
          stands = record {
            home = record { lane = home.lane; text = home.text; sorts = home.sorts; structures = home.structures; roots = home.roots; heap = home.heap; blocks = home.blocks };
            place = h.stands.place;
            ledger = subst (IsLedger w.items.now w.at w.lane w.number w.fates.items) (sym plain.0) h.stands.ledger;
            begun = h.stands.begun;
            room = h.stands.room;
            staged = at_stage w (wrote w) (written_face a v f) stage.Making due.stage_is (making_wrote w f a v due.next (from_stage w w f stage.Making due.stage_is h.stands.staged));
          };
          phase = sym (ap phase_in due.stage_is);
          no_call = refl;
          entered = refl;
        }
    by_call _ _ (many {writes = writes}) is = absurd (subst (λ (c : Call MapDeed). IsDue w c f) (call_same w f h (call.Batch writes) is) h.due)

pub write_is_next : (w : Worker) (f g : WholeFace MapDeed) → IsAsking w f → WriteStep f g → w.change.written < length w.change.writes
write_is_next w f g h row = by_call f.call row.writes row.call refl
  where
    by_call : (c : Option (Call MapDeed)) (writes : List WordWrite) → IsWriting c writes → f.call ≡ c → w.change.written < length w.change.writes
    by_call _ _ (one {a = a} {v = v}) is =
        let due : WriteIsDue w a v = subst (λ (c : Call MapDeed). IsDue w c f) (call_same w f h (call.Write a v) is) h.due in
        slice_get_within w.change.writes w.change.written (record { address = a; value = v }) due.next
    by_call _ _ (many {writes = writes}) is = absurd (subst (λ (c : Call MapDeed). IsDue w c f) (call_same w f h (call.Batch writes) is) h.due)
