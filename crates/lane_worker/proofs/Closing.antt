-- All commands were done: the transaction ends as its text says.
use Rattle.std.proofs.Common.{◌≡◌, ℕ, ◌≤◌, inl, Bool, true, false, List, [], ◌∷◌, ◌++◌, length, Some, None, refl, sym, subst, ◌∙◌, ap, arith, append-nil}
use Rattle.std.specs.List.{slice_get}
use Rattle.std.proofs.lemmas.Option.{slice_get_within}
use Rattle.persist_model.specs.Records.{IsAmong}
use Rattle.lane_types.specs.declared.call.Call.TheVariants as call
use Rattle.lane_types.specs.Faces.{WholeFace}
use Rattle.lane_types.specs.Heaps.{has_bit}
use Rattle.rewind_script.specs.declared.script.Command.{Command}
use Rattle.rewind_script.specs.declared.script.Item.{Item}
use Rattle.rewind_script.specs.declared.script.Item.TheVariants as item
use Rattle.rewind_script.specs.declared.report.How.TheVariants as how
use Rattle.map_deeds.specs.Maps.{after_transaction}
use Rattle.map_deeds.specs.Meanings.{HoldMaps, commands_of}
use Rattle.map_deeds.specs.Printed.{Transaction}
use Rattle.map_deeds.specs.declared.deed.MapDeed.{MapDeed}
use Rattle.lane_worker.specs.declared.worker.Worker.{Worker}
use Rattle.lane_worker.specs.declared.stage.Stage.TheVariants as stage
use Rattle.lane_worker.specs.Shown.{heap_now, heap_first}
use Rattle.lane_worker.specs.Stages.{WouldHold, item_of, open_in, takes_for}
use Rattle.lane_worker.specs.Standing.{phase_in}
use Rattle.lane_worker.specs.Acts.{Asks}
use Rattle.lane_worker.specs.Commands.{IsAtEnd}
use Rattle.lane_worker.proofs.Asking.{abort_asks}
use Rattle.lane_worker.proofs.Commanding.{command_is, none_left}
use Rattle.lane_worker.proofs.Placing.{choosing_here}
use Rattle.lane_worker.proofs.Doing.{restaged}

-- ---- which transaction it is

some_item : (i j : Item) → Some i ≡ Some j → i ≡ j
some_item i j e = cc

abbrev set_in : Item → ℕ
set_in (item.Transaction set commands commit) = set
set_in item.Checkpoint = 0

abbrev commit_in : Item → Bool
commit_in (item.Transaction set commands commit) = commit
commit_in item.Checkpoint = false

pub item_at_end : (w : Worker) (f : WholeFace MapDeed) → IsAtEnd w f → (t : Transaction) × (slice_get w.items.now w.at ≡ Some (item_of t))
item_at_end w f h = let k = choosing_here w f h.ready h.at in (k.t, k.within.item)

-- it is none of a text without it
pub no_checkpoint : (w : Worker) (f : WholeFace MapDeed) → IsAtEnd w f → slice_get w.items.now w.at ≡ Some item.Checkpoint → ⊥
no_checkpoint w f h here = (let t = item_at_end w f h in let bad = sym t.1 ∙ here in differ (t.0) bad)
  where
    differ : (t : Transaction) → Some (item_of t) ≡ Some item.Checkpoint → ⊥
    differ t e = cc

pub not_past : (w : Worker) (f : WholeFace MapDeed) → IsAtEnd w f → length w.items.now ≤ w.at → ⊥
not_past w f h past = (let t = item_at_end w f h in let low = slice_get_within w.items.now w.at (item_of t.0) t.1 in omega (arith, past, low))

none_at_end : (w : Worker) (xs : List ℕ) (f : WholeFace MapDeed) → ((b : ℕ) → IsAmong xs b → (s : ℕ) × (None ≡ Some s)) → xs ≡ []
none_at_end w [] f h = refl
none_at_end w (x ∷ xs) f h = absurd (let p = h x (inl refl) in let bad = p.1 in cc)

pub commit_asks : (w : Worker) (f : WholeFace MapDeed) (set : ℕ) (commands : List Command) → IsAtEnd w f → slice_get w.items.now w.at ≡ Some (item.Transaction set commands true)
    → Asks w (call.Commit (record { set = set; kinds = w.kinds.now; steps = w.steps })) f
commit_asks w f set commands h here =
    let k = choosing_here w f h.ready h.at in
    let same = some_item (item_of k.t) (item.Transaction set commands true) (sym k.within.item ∙ here) in
    let set_is : k.t.set ≡ set = ap set_in same in
    let left : k.rest ≡ [] = none_left w.steps k.rest (command_is w k.t f k.maps k.rest None k.within h.none) in
    let none : w.taken.items ≡ [] = none_at_end w w.taken.items f (λ b m. (let p = k.taken b m in (p.0, ap takes_for (sym left) ∙ p.1))) in
    record {
      ready = h.ready;
      due = record {
        stage_is = h.at;
        t = k.t;
        item = k.within.item;
        commit = ap commit_in same;
        deed_is = record { set = sym set_is; commands = sym (k.within.commands ∙ ap (λ xs. commands_of w.steps ++ xs) left ∙ append-nil (commands_of w.steps)) };
      };
      fits = record { phase = h.ready.phase ∙ ap phase_in h.at; held = refl };
      may = record {
        names = sym (k.within.held ∙ set_is);
        sorts = sym h.ready.stands.home.sorts;
        means = record {
          maps = k.maps;
          before_are = subst (λ n. HoldMaps (has_bit n) w.kinds.now (heap_first f) k.maps) set_is k.within.first;
          after_are = subst (λ n. HoldMaps (has_bit n) w.kinds.now (heap_now f) (after_transaction k.maps (commands_of w.steps))) set_is
              (subst (λ xs. WouldHold w.kinds.now k.t.set [] xs f (after_transaction k.maps (commands_of w.steps))) none k.now);
          replies_are = k.within.replies;
        };
      };
    }

pub abort_at_end : (w : Worker) (f : WholeFace MapDeed) (set : ℕ) (commands : List Command) → IsAtEnd w f → slice_get w.items.now w.at ≡ Some (item.Transaction set commands false)
    → Asks (record w { stage = stage.Aborting how.Aborted }) call.Abort f
abort_at_end w f set commands h here =
    let k = choosing_here w f h.ready h.at in
    let same = some_item (item_of k.t) (item.Transaction set commands false) (sym k.within.item ∙ here) in
    abort_asks (record w { stage = stage.Aborting how.Aborted }) f how.Aborted
    (restaged w (record w { stage = stage.Aborting how.Aborted }) f h.ready (ap phase_in h.at) (ap open_in h.at) (record { t = k.t; item = k.within.item; may = ap commit_in same })) refl
