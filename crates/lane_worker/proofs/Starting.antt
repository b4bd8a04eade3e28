-- A new worker is ready at a lane that begun nothing.
use Rattle.std.proofs.Common.{◌≡◌, ℕ, ◌≤◌, List, [], ◌∷◌, length, drop, sym, subst, ◌∙◌, ap, arith}
use Rattle.std.proofs.lemmas.List.Elements.{All-nil}
use Rattle.std.proofs.lemmas.List.Sums.{sum_by-cons}
use Rattle.persist_model.specs.Shape.{heap}
use Rattle.lane_types.specs.declared.face.Entry.{Entry}
use Rattle.region_layout.specs.declared.layout.Kind.{Kind}
use Rattle.region_layout.specs.declared.layout.Layout.{Layout}
use Rattle.region_layout.specs.Layout.{layout_shape}
use Rattle.rewind_script.specs.declared.script.Item.{Item}
use Rattle.rewind_script.specs.declared.script.Item.TheVariants as item
use Rattle.rewind_script.specs.Limits.{count_transactions, is_one}
use Rattle.map_deeds.specs.Meanings.{sorts_of}
use Rattle.map_deeds.specs.Printed.{transactions}
use Rattle.map_deeds.specs.declared.deed.MapDeed.{MapDeed}
use Rattle.lane_worker.specs.declared.stage.Stage.{Stage}
use Rattle.lane_worker.specs.Texts.{IsText}
use Rattle.lane_worker.specs.Ledger.{IsEnding, AreEntriesFor}
use Rattle.lane_worker.specs.Stages.{IsAtStage, open_in}
use Rattle.lane_worker.specs.Standing.{phase_in}
use Rattle.lane_worker.specs.Starts.{NewIsReady}

count_few : (items : List Item) → count_transactions items ≤ length items
count_few [] = omega arith
count_few (item.Transaction set commands commit ∷ items) = let again = count_few items in let more = sum_by-cons is_one (item.Transaction set commands commit) items in omega (arith, again, more)
count_few (item.Checkpoint ∷ items) = let again = count_few items in let more = sum_by-cons is_one item.Checkpoint items in omega (arith, again, more)

few_left : (items : List Item) (at : ℕ) → at ≡ 0 → count_transactions (drop at items) ≤ length items
few_left items at e = subst (λ k. count_transactions (drop k items) ≤ length items) (sym e) (count_few items)

pub new_ready : NewIsReady
new_ready script lane w f roots text made face =
    let at = made.at in
    let none = ap open_in made.stage_is in
    let begun = face.begun in
    let number = made.number in
    let few = few_left w.items.now w.at at in
    let room = made.room in
    record {
      stands = record {
        home = record {
          lane = face.lane_is ∙ sym made.lane_is;
          text = subst (λ (kinds : List Kind). IsText kinds w.items.now) (sym made.kinds) text;
          sorts = face.sorts ∙ ap sorts_of (sym made.kinds);
          structures = face.structures ∙ ap length (sym made.kinds);
          roots = subst (λ (kinds : List Kind). length kinds ≤ w.layout.blocks) (sym made.kinds) (subst (λ (l : Layout). length script.kinds ≤ l.blocks) (sym made.layout) roots);
          heap = face.start ∙ ap (λ (l : Layout). heap (layout_shape l)) (sym made.layout);
          blocks = face.blocks ∙ ap (λ (l : Layout). l.blocks) (sym made.layout);
        };
        place = omega (arith, at);
        ledger = record {
          ends = [];
          count = sym made.number;
          allowed = All-nil IsEnding;
          split = ap (λ k. transactions (drop k w.items.now)) (sym at);
          fates_are = made.fates;
          mine_are = subst (λ (xs : List (Entry MapDeed)). AreEntriesFor w.lane [] xs) (sym face.mine) tt;
        };
        begun = omega (arith, none, begun, number);
        room = omega (arith, few, room);
        staged = subst (λ (s : Stage). IsAtStage s w f) (sym made.stage_is) tt;
      };
      phase = face.phase ∙ ap phase_in (sym made.stage_is);
      no_call = face.no_call;
      entered = face.entered;
    }
