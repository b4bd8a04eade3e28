-- The rows of a word that is stored in a batch, and of one that is taken back.
use Rattle.std.proofs.Common.{◌≡◌, ℕ, suc, ◌+◌, ◌-◌, ◌<◌, ◌≤◌, Bool, true, false, if◌then◌else◌, List, [], ◌∷◌, ◌++◌, length, take, drop, get_or, refl, sym, ◌∙◌, ap, subst, arith, Option, Some, None}
use Rattle.std.proofs.Math.Seq.{drop-cons}
use Rattle.std.proofs.lemmas.List.{take_more, get_or-drop, length-drop}
use Rattle.std.specs.List.{filter}
use Rattle.persist_model.specs.Region.{Words}
use Rattle.lane_traits.specs.Draft.{after_writes}
use Rattle.lane_traits.specs.declared.draft.WordWrite.{WordWrite}
use Rattle.lane_traits.proofs.Writes.{after_writes-last}
use Rattle.lane_types.specs.declared.call.Call.{Call}
use Rattle.lane_types.specs.declared.call.Phase.TheVariants.{Calling}
use Rattle.lane_types.specs.declared.call.Stepped.TheVariants.{Moved}
use Rattle.lane_types.specs.declared.face.Entry.{Entry}
use Rattle.lane_types.specs.Deeds.{Deeds}
use Rattle.lane_types.specs.Heaps.{Heap, Holding, is_data, block_of, is_owned, holding, owners_after, with_writes}
use Rattle.lane_types.specs.Faces.{stepped, with_words}
use Rattle.lane_types.specs.Asks.{has_word, is_there}
use Rattle.lane_types.specs.LaneSteps.{LaneStep, Moves, put_held, takes_back}
use Rattle.lane_book.specs.declared.lane.Lane.{Lane}
use Rattle.lane_book.specs.declared.lane.Doing.{Doing}
use Rattle.lane_book.specs.declared.lane.Point.{Point}
use Rattle.lane_book.specs.declared.book.Book.{Book}
use Rattle.lane_book.specs.Lanes.{moved, stored_one, with_lane}
use Rattle.lane_book.specs.FacesOf.{lane_at, face_of, call_of, held_after, words_of, begun_heap, is_of, standing_writes, standing_gives, batch_of}
use Rattle.lane_book.specs.Steps.{Steps, StepsIf}
use Rattle.lane_book.specs.Books.{AreStoredBut, IsAbout, IsAboutIt, IsLane}
use Rattle.lane_book.specs.Appends.{undoes}
use Rattle.lane_book.specs.Stores.{no_write, next_write, unstored_one, HoldsNext}
use Rattle.lane_book.proofs.Faces.{step_of_lane}
use Rattle.lane_book.proofs.Holdings.{values_put}
use Rattle.lane_book.proofs.WordRows.{held_is_data, both}
use Rattle.lane_book.proofs.BatchRows.{take_and_drop}

-- ---- a word of a batch

next_words : {E : Type 0} (begun : Heap) (part : ℕ) (lane : Lane E) → lane.stored < length lane.writes.items →
    has_word (words_of begun lane) (next_write lane).address ≡ true →
    words_of begun (moved part (stored_one lane)) ≡ put_held (next_write lane).address (next_write lane).value (words_of begun lane)
next_words begun part lane inside has =
    let w = next_write lane in
    let ys = take lane.stored lane.writes.items in
    let owners = owners_after begun (standing_writes lane) (standing_gives lane) in
    let own = held_is_data (is_data begun w.address) (is_owned lane.held begun owners (block_of begun w.address)) ((with_writes ys begun).at w.address) has in
    ap (λ (zs : List WordWrite). held_after lane.held begun (standing_writes lane) (standing_gives lane) zs) (take_more lane.writes.items lane.stored no_write inside) ∙
    ap (λ (u : Words). holding lane.held begun owners u (standing_gives lane)) (after_writes-last ys w begun.at) ∙
    values_put lane.held begun owners (after_writes ys begun.at) (standing_gives lane) w.address w.value (both _ _ own.0 own.1)

-- the batch with its next write in its midst
batch_at : (k j : ℕ) (ws : List WordWrite) → k + j < length ws →
    drop k ws ≡ take j (drop k ws) ++ (get_or ws (k + j) no_write ∷ drop (suc j) (drop k ws))
batch_at k j ws lt =
    take_and_drop j (drop k ws) ∙
    ap (λ (zs : List WordWrite). take j (drop k ws) ++ zs)
    (drop-cons (drop k ws) j no_write (let long = length-drop k ws in omega (arith, lt, long)) ∙
    ap (λ (w : WordWrite). w ∷ drop (suc j) (drop k ws)) (get_or-drop k ws j no_write))

next_in_batch : {E : Type 0} (lane : Lane E) (n : ℕ) → AreStoredBut n lane.stored lane.writes.items → lane.stored < length lane.writes.items →
    batch_of n lane ≡ take (lane.stored - (length lane.writes.items - n)) (batch_of n lane) ++
    (next_write lane ∷ drop (suc (lane.stored - (length lane.writes.items - n))) (batch_of n lane))
next_in_batch lane n waits inside =
    let k = length lane.writes.items - n in
    let place = place_of (length lane.writes.items) n lane.stored waits.others in
    batch_at k (lane.stored - k) lane.writes.items (subst (λ (m : ℕ). m < length lane.writes.items) (sym place) inside) ∙
    ap (λ (m : ℕ). take (lane.stored - k) (batch_of n lane) ++ (get_or lane.writes.items m no_write ∷ drop (suc (lane.stored - k)) (batch_of n lane))) place
  where
    place_of : (m n s : ℕ) → m ≤ s + n → (m - n) + (s - (m - n)) ≡ s
    place_of m n s others = omega (arith, others)

pub store_row : {E : Type 0} (deeds : Deeds E) (book : Book E) (l n part : ℕ) (touched : Option ℕ) → l < length book.lanes.items →
    (lane_at book l).phase ≡ Calling → (lane_at book l).doing ≡ Doing.Batch n → AreStoredBut n (lane_at book l).stored (lane_at book l).writes.items →
    (lane_at book l).stored < length (lane_at book l).writes.items →
    StepsIf (HoldsNext book l) deeds book (with_lane book l (moved part (stored_one (lane_at book l))) touched) l Moved
store_row deeds book l n part touched lt calling doing waits inside base has =
    step_of_lane deeds base book l (moved part (stored_one (lane_at book l))) touched Moved lt (row (lane_at book l) calling doing waits inside has)
  where
    row : (lane : Lane _) → lane.phase ≡ Calling → lane.doing ≡ Doing.Batch n → AreStoredBut n lane.stored lane.writes.items → lane.stored < length lane.writes.items →
        has_word (words_of (begun_heap base book.history.items lane) lane) (next_write lane).address ≡ true →
        LaneStep deeds Moved (face_of base book.history.items l lane) (face_of base book.history.items l (moved part (stored_one lane)))
    row lane calling doing waits inside has = record {
      calling = calling;
      row = Moves.writing_on (take (lane.stored - (length lane.writes.items - n)) (batch_of n lane))
          (drop (suc (lane.stored - (length lane.writes.items - n))) (batch_of n lane)) (next_write lane)
          (ap (λ (d : Doing). call_of (filter (is_of l) book.history.items) lane.entry lane.writes.items d) doing ∙
          ap (λ (ws : List WordWrite). Some (Call.Batch ws)) (next_in_batch lane n waits inside))
          (ap (λ (held : Holding). with_words held (stepped Moved (face_of base book.history.items l lane)))
          (next_words (begun_heap base book.history.items lane) part lane inside has));
    }

-- ---- a word is taken back

back_call : {E : Type 0} (mine : List (Entry E)) (entry : Option (Entry E)) (writes : List WordWrite) (d : Doing) → undoes d ≡ true → takes_back (call_of mine entry writes d) ≡ true
back_call mine entry writes Doing.Nothing e = cc
back_call mine entry writes (Doing.Begin set) e = cc
back_call mine entry writes (Doing.Read a) e = cc
back_call mine entry writes (Doing.Write a v) e = cc
back_call mine entry writes (Doing.Take s b) e = cc
back_call mine entry writes (Doing.Give b) e = cc
back_call mine entry writes Doing.Commit e = cc
back_call mine entry writes Doing.Abort e = refl
back_call mine entry writes Doing.Checkpoint e = cc
back_call mine entry writes (Doing.Batch n) e = cc
back_call mine entry writes Doing.Savepoint e = cc
back_call mine entry writes (Doing.RollbackTo n) e = refl

same_places : (t : Bool) (x y : ℕ) → is_there (if t then Some x else None) ≡ is_there (if t then Some y else None)
same_places true x y = refl
same_places false x y = refl

pub back_word_row : {E : Type 0} (deeds : Deeds E) (book : Book E) (l part : ℕ) (touched : Option ℕ) → l < length book.lanes.items →
    (lane_at book l).phase ≡ Calling → undoes (lane_at book l).doing ≡ true →
    Steps deeds book (with_lane book l (moved part (unstored_one (lane_at book l))) touched) l Moved
back_word_row deeds book l part touched lt calling undoing base =
    step_of_lane deeds base book l (moved part (unstored_one (lane_at book l))) touched Moved lt (row (lane_at book l) calling undoing)
  where
    row : (lane : Lane _) → lane.phase ≡ Calling → undoes lane.doing ≡ true →
        LaneStep deeds Moved (face_of base book.history.items l lane) (face_of base book.history.items l (moved part (unstored_one lane)))
    row lane calling undoing = record {
      calling = calling;
      row = Moves.taking_back (words_of (begun_heap base book.history.items lane) (unstored_one lane))
          (back_call (filter (is_of l) book.history.items) lane.entry lane.writes.items lane.doing undoing)
          (record { words = λ a. same_places _ _ _; owner = refl; given = refl }) refl;
    }

-- ---- what they keep

pub store_keeps : {E : Type 0} (m n part : ℕ) (lane : Lane E) → lane.doing ≡ Doing.Batch n → lane.stored < length lane.writes.items → IsLane m lane →
    IsLane m (moved part (stored_one lane))
store_keeps m n part lane doing inside is =
    let waits : AreStoredBut n lane.stored lane.writes.items = subst (IsAboutIt lane) doing is.about in
    let others = waits.others in
    record {
      calling = is.calling;
      behind = is.behind;
      points = is.points;
      rising = is.rising;
      about = subst (IsAboutIt (stored_one lane)) (sym doing) (record { some = waits.some; most = omega (arith, inside); others = omega (arith, others) });
      cells = is.cells;
      out = λ e. let gone = (is.out e).writes_gone in absurd (no_write_left lane.writes.items lane.stored gone inside);
    }
  where
    no_write_left : (ws : List WordWrite) (s : ℕ) → ws ≡ [] → s < length ws → ⊥
    no_write_left ws s none lt = let long = ap (λ (xs : List WordWrite). length xs) none in omega (arith, lt, long)

back_about : (s : ℕ) (ws : List WordWrite) (gs : List ℕ) (ps : List Point) (d : Doing) → undoes d ≡ true → IsAbout s ws gs ps d → IsAbout (s - 1) ws gs ps d
back_about s ws gs ps Doing.Nothing e about = cc
back_about s ws gs ps (Doing.Begin set) e about = cc
back_about s ws gs ps (Doing.Read a) e about = cc
back_about s ws gs ps (Doing.Write a v) e about = cc
back_about s ws gs ps (Doing.Take k b) e about = cc
back_about s ws gs ps (Doing.Give b) e about = cc
back_about s ws gs ps Doing.Commit e about = cc
back_about s ws gs ps Doing.Abort e about = omega (arith, about)
back_about s ws gs ps Doing.Checkpoint e about = cc
back_about s ws gs ps (Doing.Batch n) e about = cc
back_about s ws gs ps Doing.Savepoint e about = cc
back_about s ws gs ps (Doing.RollbackTo n) e about = omega (arith, about)

pub back_word_keeps : {E : Type 0} (m part : ℕ) (lane : Lane E) → undoes lane.doing ≡ true → IsLane m lane → IsLane m (moved part (unstored_one lane))
back_word_keeps m part lane undoing is = record {
  calling = is.calling;
  behind = is.behind;
  points = is.points;
  rising = is.rising;
  about = back_about lane.stored lane.writes.items lane.gives.items lane.points.items lane.doing undoing is.about;
  cells = is.cells;
  out = λ e. let gone = is.out e in record {
    writes_gone = gone.writes_gone;
    stored_gone = let none = gone.stored_gone in omega (arith, none);
    gives_gone = gone.gives_gone;
    points_gone = gone.points_gone;
  };
}
