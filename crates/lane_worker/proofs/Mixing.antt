-- A worker stands to a face by the lane, the held structures, the begun transactions, the base and the words alone.
use Rattle.std.proofs.Common.{◌≡◌, ℕ, List, ◌∷◌, sym, subst}
use Rattle.lane_types.specs.declared.call.Call.{Call}
use Rattle.lane_types.specs.declared.call.Call.TheVariants as call
use Rattle.lane_types.specs.declared.face.Entry.{Entry}
use Rattle.lane_types.specs.Faces.{WholeFace}
use Rattle.map_deeds.specs.Maps.{Maps}
use Rattle.map_deeds.specs.Printed.{Transaction}
use Rattle.map_deeds.specs.declared.deed.MapDeed.{MapDeed}
use Rattle.rewind_script.specs.declared.script.Command.{Command}
use Rattle.rewind_script.specs.declared.report.How.{How}
use Rattle.lane_worker.specs.declared.worker.Worker.{Worker}
use Rattle.lane_worker.specs.declared.stage.Stage.{Stage}
use Rattle.lane_worker.specs.declared.stage.Stage.TheVariants as stage
use Rattle.lane_worker.specs.Shown.{AreWhole}
use Rattle.lane_worker.specs.Stages.{IsHeldBlock, IsHeldWord, IsInside, IsChoosing, IsMaking, IsAtStage}
use Rattle.lane_worker.specs.Standing.{IsAtHome, Stands, IsDue}

-- g with what f has of these
abbrev pub mixed : WholeFace MapDeed → WholeFace MapDeed → WholeFace MapDeed
mixed f g = record g {
  face = record g.face { lane = f.face.lane; held = f.face.held; begun = f.face.begun };
  base = f.base;
  words = f.words;
  first = f.first;
}

module _ (f g : WholeFace MapDeed) where
  pub whole_in : AreWhole f → AreWhole (mixed f g)
  whole_in h = record { inside = h.inside; held = h.held; words = h.words; roots = h.roots }

  block_in : (s b : ℕ) → IsHeldBlock f s b → IsHeldBlock (mixed f g) s b
  block_in s b h = record { number = h.number; place = h.place; owner = h.owner; no_root = h.no_root }

  word_in : (s a : ℕ) → IsHeldWord f s a → IsHeldWord (mixed f g) s a
  word_in s a h = record { number = h.number; index = h.index; place = h.place; above = h.above; below = h.below; owner = h.owner }

  inside_in : (w : Worker) (t : Transaction) (maps : Maps) (rest : List Command) → IsInside w t f maps rest → IsInside w t (mixed f g) maps rest
  inside_in w t maps rest h = record { item = h.item; held = h.held; whole = whole_in h.whole; first = h.first; commands = h.commands; replies = h.replies }

  pub choosing_in : (w : Worker) → IsChoosing w f → IsChoosing w (mixed f g)
  choosing_in w h = record {
    t = h.t;
    maps = h.maps;
    rest = h.rest;
    within = inside_in w h.t h.maps h.rest h.within;
    now = h.now;
    taken = λ b m. (let k = h.taken b m in (k.0, k.1, block_in k.0 b k.2));
    once = h.once;
  }

  making_in : (w : Worker) → IsMaking w f → IsMaking w (mixed f g)
  making_in w h = record {
    t = h.t;
    maps = h.maps;
    command = h.command;
    rest = h.rest;
    within = inside_in w h.t h.maps (h.command ∷ h.rest) h.within;
    structure = h.structure;
    of = h.of;
    now = h.now;
    words = λ a m. word_in h.structure a (h.words a m);
    blocks = λ b m. block_in h.structure b (h.blocks b m);
    once = h.once;
  }

  staged_in : (s : Stage) (w : Worker) → IsAtStage s w f → IsAtStage s w (mixed f g)
  staged_in stage.Out w h = tt
  staged_in stage.Choosing w h = choosing_in w h
  staged_in stage.Making w h = making_in w h
  staged_in (stage.Aborting how) w h = h

  pub home_in : (w : Worker) → IsAtHome w f → IsAtHome w (mixed f g)
  home_in w h = record { lane = h.lane; text = h.text; sorts = h.sorts; structures = h.structures; roots = h.roots; heap = h.heap; blocks = h.blocks }

  pub stands_in : (w : Worker) (mine : List (Entry MapDeed)) → Stands w mine f → Stands w mine (mixed f g)
  stands_in w mine h = record {
    home = home_in w h.home;
    place = h.place;
    ledger = h.ledger;
    begun = h.begun;
    room = h.room;
    staged = staged_in w.stage w h.staged;
  }

  pub due_in : (w : Worker) (c : Call MapDeed) → IsDue w c f → IsDue w c (mixed f g)
  unfolding choosing_in
  due_in w (call.Begin set) h = h
  due_in w (call.Read a) h = h
  due_in w (call.Write a v) h = h
  due_in w (call.Take s) h = record { stage_is = h.stage_is; here = choosing_in w h.here; put = h.put; held = h.held; room = h.room }
  due_in w (call.Give block) h = record { stage_is = h.stage_is; written = h.written; next = h.next }
  due_in w (call.Commit deed) h = h
  due_in w call.Abort h = h
  due_in w call.Checkpoint h = h
  due_in w (call.Batch writes) h = h
  due_in w call.Savepoint h = h
  due_in w (call.RollbackTo n) h = h

-- what g has of f where the transaction is to be aborted: its words are open
abbrev pub at_base : WholeFace MapDeed → WholeFace MapDeed → WholeFace MapDeed
at_base f g = record g { face = record g.face { lane = f.face.lane; begun = f.face.begun }; base = f.base }

module _ (f g : WholeFace MapDeed) where
  pub home_at : (w : Worker) → IsAtHome w f → IsAtHome w (at_base f g)
  home_at w h = record { lane = h.lane; text = h.text; sorts = h.sorts; structures = h.structures; roots = h.roots; heap = h.heap; blocks = h.blocks }

  pub aborting_at : (w : Worker) (how : How) → w.stage ≡ stage.Aborting how → IsAtStage w.stage w f → IsAtStage w.stage w (at_base f g)
  aborting_at w how e h = subst (λ (s : Stage). IsAtStage s w (at_base f g)) (sym e) (subst (λ (s : Stage). IsAtStage s w f) e h)

  pub stands_aborting : (w : Worker) (mine : List (Entry MapDeed)) (how : How) → w.stage ≡ stage.Aborting how → Stands w mine f → Stands w mine (at_base f g)
  stands_aborting w mine how e h = record {
    home = home_at w h.home;
    place = h.place;
    ledger = h.ledger;
    begun = h.begun;
    room = h.room;
    staged = aborting_at w how e h.staged;
  }
