-- A write is asked behind the memory for it, or finds none.
use Rattle.std.proofs.Common.{◌≡◌, ◌≢◌, inl, inr, ℕ, ◌+◌, ◌%◌, ◌<◌, ◌≤◌, ◌==◌, true, false, Bool, if◌then◌else◌, ◌∷◌, List, [], length, Result, Ok, Err, OnOk, OnErr, refl, sym, ap, ◌∙◌, subst}
use Rattle.std.proofs.Math.Logic.{∥∥₁_elim, ∥∥₁_prop}
use Rattle.std.proofs.lemmas.Bool.Decides.{eqb_tells}
use Rattle.persist_model.specs.Region.{Words, Region, newest_words}
use Rattle.lane_traits.specs.Device.{Counts}
use Rattle.region_layout.specs.declared.layout.Layout.{Layout}
use Rattle.region_layout.specs.Layout.{layout_shape, IsDataWord}
use Rattle.lane_types.specs.declared.call.Call.{Call}
use Rattle.lane_types.specs.declared.call.Phase.{Phase}
use Rattle.lane_types.specs.Deeds.{Deeds}
use Rattle.lane_types.specs.Faces.{Base}
use Rattle.lane_types.specs.Asks.{Fits, asked}
use Rattle.lane_types.specs.May.{May}
use Rattle.lane_book.specs.declared.book.Book.{Book}
use Rattle.lane_book.specs.declared.lane.Lane.{Lane}
use Rattle.lane_book.specs.declared.lane.Doing.{Doing}
use Rattle.lane_book.specs.Appends.{ReservesNeed}
use Rattle.lane_book.specs.Books.{IsBook}
use Rattle.lane_book.specs.FacesOf.{lane_at, faces_of}
use Rattle.lane_book.specs.Refusals.{is_mine, block_in}
use Rattle.lane_book.specs.Reserved.{reserved_in, added_by}
use Rattle.lane_book.specs.Steps.{Asks, IsAskedIn, IsRoomierIn}
use Rattle.log_keeper.specs.declared.keeper.LogKeeper.{LogKeeper}
use Rattle.log_keeper.specs.Rooms.{IsRoomAt}
use Rattle.txn_state.specs.AppendLaws.{newest_image}
use Rattle.txn_state.specs.Owing.{append_most}
use Rattle.txn_state.specs.QuietLaws.{HasRoomForAsk}
use Rattle.txn_state.specs.States.{IsStateOf}
use Rattle.txn_state.proofs.ReservedRoom.{views_are_read}
use Rattle.txn_core.specs.Asking.{Owes, StaysBetween, IsAsked, LacksMemory, need_for, room_for}
use Rattle.txn_core.specs.Phases.{ArePhased}
use Rattle.txn_core.specs.States.{IsKept, start_of}
use Rattle.txn_core.proofs.AskedEnds.{is_between}
use Rattle.txn_core.proofs.Facts.{IsRead}
use Rattle.txn_core.proofs.Latches.{part_of_lane}
use Rattle.txn_core.proofs.Asked.{changes_face, stays_roomier}
use Rattle.txn_core.proofs.AskedFaces.{owed_face, face_then, roomier_phases, asked_phases}
use Rattle.txn_core.proofs.AskedWrite.{one_write, stays_writing}

-- ---- results

pub on_ok_three : {A B : Type 0} {P Q R S : Type 0} (r : Result A B) → (P → Q → R → S) → OnOk r P → OnOk r Q → OnOk r R → OnOk r S
on_ok_three (Ok x) f p q t = f p q t
on_ok_three (Err e) f p q t = p

pub on_err_two : {A B : Type 0} {P Q R : Type 0} (r : Result A B) → (P → Q → R) → OnErr r P → OnErr r Q → OnErr r R
on_err_two (Ok x) f p q = p
on_err_two (Err e) f p q = f p q

-- ---- room

equals_itself : (p : ℕ) → (p == p) ≡ true
equals_itself p = elim (eqb_tells p p) [ inl e ↦ e.0 | inr off ↦ absurd (off.1 refl) ]

differs : (p q : ℕ) → q ≢ p → (p == q) ≡ false
differs p q ne = elim (eqb_tells p q) [ inl e ↦ absurd (ne (sym e.1)) | inr off ↦ off.0 ]

-- the room that the device's words have is there for what is reserved behind the ask
pub room_for_ask : {E : Type 0} (layout : Layout) (start : Words) (book later : Book E) (keeper : LogKeeper) (words : List ℕ) (region : Region) (spare events l : ℕ) (call : Call E) →
    words ≡ newest_words region → ((a : ℕ) → 0 < length (region.at a)) → ReservesNeed layout.cells call book later l → need_for layout book l call ≤ room_for layout words l →
    IsStateOf layout start book keeper region spare events → HasRoomForAsk layout book later region l
room_for_ask layout start book later keeper words region spare events l call reads full reserves enough st = record {
  words = newest_image region;
  newest = λ a lt. refl;
  room = room_for layout words l;
  is_room = subst (λ ws. IsRoomAt (layout_shape layout) (l % layout.partitions) (newest_image region) (room_for layout ws l)) (sym reads)
      (views_are_read.room layout start book keeper region spare events (l % layout.partitions) (part_of_lane layout l) full st);
  within = subst (λ n. n ≤ room_for layout words l) (sym (reserves layout.partitions 0 (l % layout.partitions) ∙
      ap (λ (b : Bool). if b then need_for layout book l call else reserved_in book layout.partitions 0 (l % layout.partitions)) (equals_itself (l % layout.partitions)))) enough;
  elsewhere = λ q ne. reserves layout.partitions 0 q ∙
      ap (λ (b : Bool). if b then need_for layout book l call else reserved_in book layout.partitions 0 q) (differs (l % layout.partitions) q ne);
}

-- memory for it is no cell
pub need_stays : {E : Type 0} (layout : Layout) (book mid : Book E) (l m n a v : ℕ) → Owes book mid l m n → need_for layout mid l (Call.Write a v) ≡ need_for layout book l (Call.Write a v)
need_stays layout book mid l m n a v owes = λ i. owes.reserved layout.partitions 0 (l % layout.partitions) i + added_by layout.cells (owes.goes.lanes.here i) (Call.Write a v)

-- ---- the state

module _ {E : Type 0} (deeds : Deeds E) (layout : Layout) (book mid later : Book E) (keeper kept : LogKeeper) (words : List ℕ) (region : Region) (spare left : ℕ) (counts : Counts) (l : ℕ)
    (read : IsRead words region counts) (lt : l < length book.lanes.items) (nothing : (lane_at book l).doing ≡ Doing.Nothing) (phase : (lane_at book l).phase ≡ Phase.In)
    (phased_mid : ArePhased book → ArePhased mid) (takes : StaysBetween deeds book mid keeper kept region spare left counts l) where
  -- memory is wanting from the start
  pub lacks_at_once : Owes book mid l 0 0 → LacksMemory deeds layout book mid keeper kept region spare left counts l
  lacks_at_once owes = record {
    stays = λ base world. takes layout base (is_between (lane_at book l) nothing phase) world;
    face = owed_face book mid l 0 0 owes;
    phased = phased_mid;
  }

  module _ (m n : ℕ) (owes : Owes book mid l m n) (good : IsBook later) where
    abbrev rests_mid : (lane_at mid l).doing ≡ Doing.Nothing
    rests_mid = ap (λ (x : Lane _). x.doing) owes.goes.lanes.here ∙ nothing

    abbrev inside_mid : l < length mid.lanes.items
    inside_mid = subst (λ k. l < k) (sym owes.goes.lanes.count) lt

    -- or for the call's own lists
    pub lacks_behind : IsRoomierIn mid later l → Asks (λ face. face) mid later l → LacksMemory deeds layout book later keeper kept region spare left counts l
    lacks_behind roomier asks = record {
      stays = λ base world. stays_roomier deeds mid later l inside_mid rests_mid roomier good layout base kept region left counts (takes layout base (is_between (lane_at book l) nothing phase) world);
      face = face_then (λ face. face) book mid later l (owed_face book mid l m n owes) (changes_face (λ face. face) mid later l roomier.is asks);
      phased = λ phased. roomier_phases mid later l inside_mid roomier (phased_mid phased);
    }

    module _ (a v : ℕ) (data_word : IsDataWord (layout_shape layout) a) (own : is_mine book.blocks (lane_at book l) (block_in layout a) ≡ true)
        (enough : need_for layout book l (Call.Write a v) ≤ room_for layout words l) (events : append_most (layout_shape layout) + 1 ≤ m) (records : 1 ≤ n)
        (has : IsAskedIn (Call.Write a v) (Doing.Write a v) (one_write a v ∷ []) [] 2 mid later l) (reserves : ReservesNeed layout.cells (Call.Write a v) mid later l)
        (asks : Asks (asked (Call.Write a v)) mid later l) where
      own_mid : is_mine mid.blocks (lane_at mid l) (block_in layout a) ≡ true
      own_mid = (λ i. is_mine (owes.goes.lanes.blocks i) (owes.goes.lanes.here i) (block_in layout a)) ∙ own

      enough_mid : need_for layout mid l (Call.Write a v) ≤ room_for layout words l
      enough_mid = subst (λ k. k ≤ room_for layout words l) (sym (need_stays layout book mid l m n a v owes)) enough

      stays : (base : Base) → Fits (faces_of base book l) (Call.Write a v) → May deeds (faces_of base book l) (Call.Write a v) →
          IsKept deeds layout base mid kept region left counts → IsKept deeds layout base later kept region left counts
      stays base fits may world = ∥∥₁_elim world ∥∥₁_prop (λ w. stays_writing deeds layout base mid later kept region left counts l a v inside_mid rests_mid
          (ap (λ (x : Lane _). x.phase) owes.goes.lanes.here ∙ phase) good has data_word own_mid
          (subst (λ (x : Lane _). append_most (layout_shape layout) + 1 ≤ x.owed_events) (sym owes.goes.lanes.here) events)
          (subst (λ (x : Lane _). 1 ≤ x.owed_records) (sym owes.goes.lanes.here) records)
          (room_for_ask layout (start_of layout base) mid later kept words region left counts.events l (Call.Write a v) read.reads read.full reserves enough_mid w.state)
          (subst (λ f. Fits f (Call.Write a v)) (sym (owes.faces base l)) fits) (subst (λ f. May deeds f (Call.Write a v)) (sym (owes.faces base l)) may) world)

      pub write_asked : IsAsked deeds layout (Call.Write a v) book later keeper kept region spare left counts l
      write_asked = record {
        stays = λ base fits may world. stays base fits may (takes layout base (is_between (lane_at book l) nothing phase) world);
        face = face_then (asked (Call.Write a v)) book mid later l (owed_face book mid l m n owes) (changes_face (asked (Call.Write a v)) mid later l has.is asks);
        phased = λ phased. asked_phases mid later l (Call.Write a v) (Doing.Write a v) (one_write a v ∷ []) [] 2 inside_mid rests_mid has (phased_mid phased);
      }
