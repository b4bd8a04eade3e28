-- What the store of a write's word leaves.
use Rattle.std.proofs.Common.{◌≡◌, ◌≢◌, inr, ℕ, ◌<◌, ◌^◌, true, length, Option, refl, sym, ap, ◌∙◌, subst}
use Rattle.std.proofs.Math.Logic.{∥∥₁_map, ∥∥₁_elim}
use Rattle.std.specs.Coded.{Coded-set, coded_bool, le_prop}
use Rattle.persist_model.specs.declared.event.Event.TheVariants.{PStore}
use Rattle.persist_model.specs.Region.{Region, newest}
use Rattle.lane_traits.specs.Device.{Counts}
use Rattle.lane_traits.specs.declared.device.Done.TheVariants as Done
use Rattle.region_layout.specs.declared.layout.Layout.{Layout}
use Rattle.lane_types.specs.declared.call.Phase.{Phase}
use Rattle.lane_types.specs.declared.call.Reply.TheVariants as Reply
use Rattle.lane_types.specs.declared.call.Stepped.{Stepped}
use Rattle.lane_types.specs.Asks.{has_word}
use Rattle.lane_types.specs.Deeds.{Deeds}
use Rattle.lane_types.specs.Faces.{Base}
use Rattle.lane_book.specs.declared.book.Book.{Book}
use Rattle.lane_book.specs.declared.lane.Lane.{Lane}
use Rattle.lane_book.specs.declared.lane.Doing.{Doing}
use Rattle.lane_book.specs.FacesOf.{lane_at, faces_of}
use Rattle.lane_book.specs.Lanes.{with_lane, closed, stored_one, paid_event}
use Rattle.lane_book.specs.Steps.{StepsIf, held_by}
use Rattle.lane_book.specs.Books.{IsBook}
use Rattle.lane_book.specs.Calls.{IsDoing}
use Rattle.txn_core.proofs.LawfulKept as lawful
use Rattle.lawful_book.proofs.GoingOn.{stored_answers, inside_of}
use Rattle.log_keeper.specs.declared.keeper.LogKeeper.{LogKeeper}
use Rattle.txn_state.specs.Stages.{Storing, stage_of}
use Rattle.txn_state.proofs.HeapSteps.{writes_are_stored}
use Rattle.txn_state.proofs.SmallNumbers.{numbers_are_small}
use Rattle.txn_core.specs.Making.{Makes, made, changed_word}
use Rattle.txn_core.specs.Latched.{is_latched, none_held}
use Rattle.txn_core.specs.Phases.{IsPhased, ArePhased}
use Rattle.txn_core.specs.States.{IsWorld, IsKept, HasWorld, start_of}
use Rattle.txn_core.specs.Stepping.{StepsWorld, TouchesWord, HasMade, IsCause}
use Rattle.txn_core.proofs.Facts.{IsRead}
use Rattle.txn_core.proofs.Phasing.{phased_with, closed_anyway}
use Rattle.txn_core.proofs.PhasedSteps.{paid_phased}
use Rattle.txn_core.proofs.Paid.{paid_goes, lawful_paid, lanes_paid, count_paid}
use Rattle.txn_core.proofs.Paying.{paid_lane, paid_step, goes_lane}
use Rattle.txn_core.proofs.Touching.{touches_prop, store_touches}
use Rattle.txn_core.proofs.WritingWords.{one_write, next_write, write_data, writes_it}

-- few writes are stored
pub few_stored : {E : Type 0} (deeds : Deeds E) (layout : Layout) (book : Book E) (keeper : LogKeeper) (words : _) (region : Region) (spare : ℕ) (counts : Counts) (l : ℕ) → IsRead words region counts →
    stage_of (lane_at book l) ≡ Storing → HasWorld deeds layout book keeper region spare counts → (lane_at book l).stored < 2 ^ 62
few_stored deeds layout book keeper words region spare counts l read at world =
    ∥∥₁_elim world le_prop (λ y. (numbers_are_small layout (start_of layout y.0) book keeper region spare counts.events read.few y.1.state).stored l at)

-- behind the payment the lane is in its write yet
module _ {E : Type 0} (book between : Book E) (l a v : ℕ) (lt : l < length book.lanes.items) (pays : between ≡ with_lane book l (paid_event (lane_at book l)) book.touched) where
  lane_paid : lane_at between l ≡ paid_event (lane_at book l)
  lane_paid = (goes_lane book between l (paid_event (lane_at book l)) book.touched lt pays).lanes.here

  pub few_paid : (lane_at book l).stored < 2 ^ 62 → (lane_at between l).stored < 2 ^ 62
  few_paid few = subst (λ (n : ℕ). n < 2 ^ 62) (sym (ap (λ (x : Lane E). x.stored) lane_paid)) few

  pub paid_is_doing : (lane_at book l).phase ≡ Phase.Calling → (lane_at book l).doing ≡ Doing.Write a v → IsBook between → IsDoing (Doing.Write a v) between l
  paid_is_doing calling doing kept = record {
    inside = lanes_paid book between l pays lt;
    calling = ap (λ (x : Lane E). x.phase) lane_paid ∙ calling;
    call = ap (λ (x : Lane E). x.doing) lane_paid ∙ doing;
    kept = kept;
  }

-- ---- the write is answered

module _ {E : Type 0} (deeds : Deeds E) (layout : Layout) (book between later : Book E) (keeper : LogKeeper) (region behind : Region) (spare left : ℕ) (counts after : Counts) (l a v : ℕ) (touched : Option ℕ)
    (lt : l < length book.lanes.items) (at : stage_of (lane_at book l) ≡ Storing) (doing : (lane_at book l).doing ≡ Doing.Write a v)
    (pays : between ≡ with_lane book l (paid_event (lane_at book l)) book.touched) (was : IsDoing (Doing.Write a v) between l)
    (is : later ≡ with_lane between l (closed Reply.Written (stored_one (lane_at between l))) touched) where
  no_commit : (lane_at between l).doing ≢ Doing.Commit
  no_commit end = let clash : Doing.Write a v ≡ Doing.Commit = sym was.call ∙ end in cc

  stored_state : HasWorld deeds layout book keeper region spare counts → IsBook later → Makes (PStore a v) region behind counts after spare left book between l Done.Made →
      (base : Base) → IsWorld deeds layout base book keeper region spare counts.events → IsWorld deeds layout base later keeper behind left after.events
  stored_state has kept (made event counted paid) base world = record {
    state = writes_are_stored layout (start_of layout base) book later keeper region behind spare left counts.events after.events l (one_write a v) event at
        (next_write deeds layout book keeper region spare counts l a v lt has (writes_it layout (lane_at book l).doing a v doing))
        (paid_goes book between later l (paid_event (lane_at book l)) (λ (x : Lane E). closed Reply.Written (stored_one x)) book.touched lt pays
        (goes_lane between later l (closed Reply.Written (stored_one (lane_at between l))) touched was.inside is)) kept world.state;
    lawful = lawful.answers_keep deeds layout base between later l Reply.Written (closed Reply.Written (stored_one (lane_at between l))) touched
        (lawful_paid deeds layout base book between l lt pays world.lawful) was.inside is
        (stored_answers Reply.Written (lane_at between l) no_commit (λ e. inside_of (Doing.Write a v) (lane_at between l) was.calling was.call refl));
  }

  -- the lane holds the word
  holds : (base : Base) → IsKept deeds layout base book keeper region spare counts → has_word (held_by base between l) a ≡ true
  holds base stood = ∥∥₁_elim stood (Coded-set coded_bool _ _) (λ world.
      lawful.calls_are_held deeds layout base between (lawful_paid deeds layout base book between l lt pays world.lawful) was.kept l a v was.call)

  stored_phased : ArePhased book → ArePhased later
  stored_phased phased = phased_with between later l (closed Reply.Written (stored_one (lane_at between l))) touched was.inside (ap (λ (b : Book E). b.lanes) is)
      (λ (one : IsPhased (lane_at between l)). closed_anyway (stored_one (lane_at between l)) Reply.Written)
      (paid_phased book between l lt pays phased)

  stored_counted : Makes (PStore a v) region behind counts after spare left book between l Done.Made → HasMade (Stepped.Answered Reply.Written) counts after
  stored_counted (made event counted paid) = inr counted

  stored_touches : Makes (PStore a v) region behind counts after spare left book between l Done.Made → touched ≡ changed_word (newest (region.at a)) v a →
      (base : Base) → IsWorld deeds layout base book keeper region spare counts.events → TouchesWord layout region behind later.touched
  stored_touches (made event counted paid) changes base world = store_touches layout region behind l a v later.touched event.cells
      (write_data deeds layout base book l a v world.lawful world.state.is_book.kept doing) (ap (λ (b : Book E). b.touched) is ∙ changes)

  pub word_stored : (answer : Stepped) → answer ≡ Stepped.Answered Reply.Written → HasWorld deeds layout book keeper region spare counts → IsBook later →
      Makes (PStore a v) region behind counts after spare left book between l Done.Made → StepsIf (λ base. has_word (held_by base between l) a ≡ true) deeds between later l answer →
      touched ≡ changed_word (newest (region.at a)) v a → StepsWorld deeds layout book later keeper keeper region behind spare left counts after l answer
  word_stored answer told has kept makes step changes = record {
    count = count_paid book between later l (closed Reply.Written (stored_one (lane_at between l))) pays (ap (λ (b : Book E). b.lanes) is);
    touches = λ base stood. ∥∥₁_elim stood (touches_prop layout region behind later.touched) (λ world. stored_touches makes changes base world);
    stays = λ base stood. ∥∥₁_map stood (stored_state has kept makes base);
    face = λ base stood. paid_step deeds base book between l answer (faces_of base later)
        (paid_lane book between l (paid_event (lane_at book l)).owed_events (lane_at book l).owed_records book.touched lt pays) (step base (holds base stood));
    made = subst (λ (s : Stepped). HasMade s counts after) (sym told) (stored_counted makes);
    phased = stored_phased;
    latches = none_held refl (ap is_latched at);
    cause = subst (λ (s : Stepped). IsCause layout book keeper counts l s) (sym told) tt;
  }
