-- The calls that a worker may ask.
use Rattle.std.proofs.Common.{◌≡◌, ℕ, ◌+◌, ◌^◌, ◌<◌, ◌≤◌, true, List, [], ◌∷◌, inl, ⊎_elim, zero, suc, length, Some, None, refl, sym, subst, ◌∙◌, ap, arith}
use Rattle.std.specs.List.{slice_get}
use Rattle.std.proofs.lemmas.Option.{slice_get_within, get_or_from_slice_get}
use Rattle.std.proofs.lemmas.Bool.{cases_lt}
use Rattle.persist_model.specs.Records.{IsAmong}
use Rattle.persist_model.specs.Shape.{heap, words_of_shape}
use Rattle.region_layout.specs.Layout.{block_number}
use Rattle.region_layout.specs.Layout.{layout_shape}
use Rattle.lane_traits.specs.Draft.{addresses}
use Rattle.lane_traits.specs.declared.draft.WordWrite.{WordWrite}
use Rattle.lane_types.specs.declared.call.Call.TheVariants as call
use Rattle.lane_types.specs.Faces.{WholeFace}
use Rattle.lane_types.specs.Asks.{is_there}
use Rattle.lane_types.specs.Heaps.{block_address, is_data}
use Rattle.rewind_script.specs.declared.report.How.{How}
use Rattle.rewind_script.specs.declared.script.Item.{Item}
use Rattle.rewind_script.specs.declared.script.Item.TheVariants as item
use Rattle.rewind_script.specs.Limits.{IsItem}
use Rattle.map_deeds.specs.Printed.{Transaction}
use Rattle.map_deeds.specs.declared.deed.MapDeed.{MapDeed}
use Rattle.lane_worker.specs.declared.worker.Worker.{Worker}
use Rattle.lane_worker.specs.declared.stage.Stage.{Stage}
use Rattle.lane_worker.specs.declared.stage.Stage.TheVariants as stage
use Rattle.lane_worker.specs.Stages.{IsHeldWord, IsHeldBlock, IsMaking, IsAtStage, item_of, open_in}
use Rattle.lane_worker.specs.Standing.{IsReady, phase_in}
use Rattle.lane_worker.specs.Acts.{Asks, HasEnded, first_call}
use Rattle.lane_worker.proofs.Ledgers.{number_below}
use Rattle.lane_worker.proofs.Lists.{drop_here}
use Rattle.lane_worker.proofs.Blocks.{data_in}

pub making_here : (w : Worker) (f : WholeFace MapDeed) → IsReady w f → w.stage ≡ stage.Making → IsMaking w f
making_here w f h at = subst (λ (s : Stage). IsAtStage s w f) at h.stands.staged

pub write_asks : (w : Worker) (f : WholeFace MapDeed) (a v : ℕ) → IsReady w f → w.stage ≡ stage.Making
    → slice_get w.change.writes w.change.written ≡ Some (record { address = a; value = v }) → Asks w (call.Write a v) f
write_asks w f a v h at next =
    let m = making_here w f h at in
    let held : IsHeldWord f m.structure a = m.words a (subst (λ (xs : List WordWrite). IsAmong (addresses xs) a) (sym (drop_here w.change.writes w.change.written (record { address = a; value = v }) next)) (inl refl)) in
    let whole = m.within.whole in
    let has = whole.words held.number m.structure held.index held.owner held.above held.below in
    record {
      ready = h;
      due = record { stage_is = at; next = next };
      fits = record { phase = h.phase ∙ ap phase_in at; held = subst (λ b. is_there (f.words.word b) ≡ true) (sym held.place) has };
      may = subst (λ b. is_data f.base.heap b ≡ true) (sym held.place) (data_in f.base.heap held.number held.index (whole.inside held.number m.structure held.owner) held.above held.below);
    }

pub give_asks : (w : Worker) (f : WholeFace MapDeed) (b one : ℕ) → IsReady w f → w.stage ≡ stage.Making → length w.change.writes ≤ w.change.written
    → slice_get w.change.gives w.change.given ≡ Some b → ((n : ℕ) → b ≡ block_address f.base.heap n → one ≡ n) → Asks w (call.Give one) f
give_asks w f b one h at written next number =
    let m = making_here w f h at in
    let held : IsHeldBlock f m.structure b = m.blocks b (subst (λ (xs : List ℕ). IsAmong xs b) (sym (drop_here w.change.gives w.change.given b next)) (inl refl)) in
    let is = number held.number held.place in
    let owner : f.words.owner one ≡ Some m.structure = ap f.words.owner is ∙ held.owner in
    let no_root = held.no_root in
    record {
      ready = h;
      due = record { stage_is = at; written = written; next = next ∙ ap Some (held.place ∙ ap (block_address f.base.heap) (sym is)) };
      fits = record { phase = h.phase ∙ ap phase_in at; held = ap is_there owner };
      may = record { inside = m.within.whole.inside one m.structure owner; no_root = omega (arith, no_root, is) };
    }

pub begin_asks : (w : Worker) (f : WholeFace MapDeed) (t : Transaction) → IsReady w f → w.stage ≡ stage.Out → slice_get w.items.now w.at ≡ Some (item_of t) → Asks w (call.Begin t.set) f
begin_asks w f t h at here =
    let home = h.stands.home in
    let fit : IsItem w.kinds.now (item_of t) = subst (IsItem w.kinds.now) (get_or_from_slice_get w.items.now w.at (item_of t) (item_of t) here) (home.text.fit w.at (item_of t) (slice_get_within w.items.now w.at (item_of t) here)) in
    let some = fit.0.0 in
    let low = fit.0.1 in
    let number = number_below w.items.now w.at w.lane w.number w.fates.items f.mine t h.stands.ledger here in
    let few = home.text.few in
    let none = ap open_in at in
    let begun = h.stands.begun in
    record {
      ready = h;
      due = record { stage_is = at; t = t; item = here; set_is = refl };
      fits = record { phase = h.phase ∙ ap phase_in at; held = refl };
      may = record {
        some = λ z. omega (arith, z, some);
        inside = subst (λ n. t.set < 2 ^ n) (sym home.structures) low;
        few = few_begun w.number f.face.begun (open_in w.stage) begun none (omega (arith, number, few));
      };
    }
  where
    few_begun : (n b o : ℕ) → b ≡ n + o → o ≡ 0 → n < 65536 → b < 2 ^ 59
    few_begun n b o is none low = omega (arith, is, none, low)

pub checkpoint_asks : (w : Worker) (f : WholeFace MapDeed) → IsReady w f → w.stage ≡ stage.Out → slice_get w.items.now w.at ≡ Some item.Checkpoint → Asks w call.Checkpoint f
checkpoint_asks w f h at here = record {
  ready = h;
  due = record { stage_is = at; item = here };
  fits = record { phase = h.phase ∙ ap phase_in at; held = refl };
  may = tt;
}

pub item_asks : (w : Worker) (f : WholeFace MapDeed) (i : Item) → IsReady w f → w.stage ≡ stage.Out → slice_get w.items.now w.at ≡ Some i → Asks w (first_call i) f
item_asks w f (item.Transaction set commands commit) h at here = begin_asks w f (record { set = set; commands = commands; commit = commit }) h at here
item_asks w f item.Checkpoint h at here = checkpoint_asks w f h at here

pub abort_asks : (w : Worker) (f : WholeFace MapDeed) (how : How) → IsReady w f → w.stage ≡ stage.Aborting how → Asks w call.Abort f
abort_asks w f how h at = record {
  ready = h;
  due = record { how = how; stage_is = at };
  fits = record { phase = h.phase ∙ ap phase_in at; held = refl };
  may = tt;
}

pub has_ended : (w : Worker) (f : WholeFace MapDeed) → IsReady w f → w.stage ≡ stage.Out → length w.items.now ≤ w.at → HasEnded w f
has_ended w f h at past = record { ready = h; out = at; all = (let place = h.stands.place in omega (arith, place, past)) }

pub none_past : {A : Type 0} (xs : List A) (i : ℕ) → slice_get xs i ≡ None → length xs ≤ i
none_past xs i e = ⊎_elim (λ lt. absurd (within_some xs i lt e)) (λ past. past) (cases_lt i (length xs))
  where
    within_some : {A : Type 0} (ys : List A) (k : ℕ) → k < length ys → slice_get ys k ≡ None → ⊥
    within_some [] k lt none = absurd (omega (arith, lt))
    within_some (y ∷ ys) zero lt none = absurd (cc)
    within_some (y ∷ ys) (suc k) lt none = within_some ys k (omega (arith, lt)) none

-- where a block that is to be given stands
pub give_place : (w : Worker) (f : WholeFace MapDeed) (b : ℕ) → IsReady w f → w.stage ≡ stage.Making → slice_get w.change.gives w.change.given ≡ Some b
    → (heap (layout_shape w.layout) ≤ b) × (b < words_of_shape (layout_shape w.layout))
give_place w f b h at next =
    let m = making_here w f h at in
    let held : IsHeldBlock f m.structure b = m.blocks b (subst (λ (xs : List ℕ). IsAmong xs b) (sym (drop_here w.change.gives w.change.given b next)) (inl refl)) in
    let place = held.place in
    let start = h.stands.home.heap in
    let blocks = h.stands.home.blocks in
    let low = m.within.whole.inside held.number m.structure held.owner in
    (omega (arith, place, start), omega (arith, place, start, blocks, low))

pub number_at : (w : Worker) (f : WholeFace MapDeed) (b one : ℕ) → IsReady w f → one ≡ block_number (layout_shape w.layout) b → (n : ℕ) → b ≡ block_address f.base.heap n → one ≡ n
number_at w f b one h is n place = let start = h.stands.home.heap in omega (arith, is, place, start)
