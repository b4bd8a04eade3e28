-- The rows of a write, a take, a give and a savepoint.
use Rattle.std.proofs.Common.{◌≡◌, ℕ, zero, suc, ◌+◌, ◌-◌, ◌<◌, ◌≤◌, Bool, true, false, ◌&&◌, nat_lt, if◌then◌else◌, List, [], ◌∷◌, ◌++◌, length, take, map, refl, sym, ◌∙◌, ap, subst, arith, Option, Some, None}
use Rattle.std.proofs.lemmas.Bool.Decides.{nat_tests}
use Rattle.std.proofs.Math.ListN.{length-append}
use Rattle.std.specs.List.{filter}
use Rattle.lane_traits.specs.declared.draft.WordWrite.{WordWrite}
use Rattle.lane_types.specs.declared.call.Phase.TheVariants.{Calling}
use Rattle.lane_types.specs.declared.call.Reply.{Reply}
use Rattle.lane_types.specs.declared.call.Reply.TheVariants.{Written, Block, Given, Saved}
use Rattle.lane_types.specs.declared.call.Stepped.TheVariants.{Answered}
use Rattle.lane_types.specs.Deeds.{Deeds}
use Rattle.lane_types.specs.Heaps.{Heap, Holding, has_bit, is_data, block_of, block_address, is_owned, owners_after, with_writes}
use Rattle.lane_types.specs.Faces.{answered, with_words}
use Rattle.lane_types.specs.Asks.{has_word, is_there}
use Rattle.lane_types.specs.LaneSteps.{LaneStep, IsWriting, put_held, with_block, without_block, saved_face}
use Rattle.lane_book.specs.declared.lane.Lane.{Lane}
use Rattle.lane_book.specs.declared.lane.Point.{Point}
use Rattle.lane_book.specs.declared.lane.Doing.{Doing}
use Rattle.lane_book.specs.declared.book.Book.{Book}
use Rattle.lane_book.specs.Lanes.{closed, stored_one, saved, with_lane}
use Rattle.lane_book.specs.FacesOf.{lane_at, face_of, call_of, front, waiting_writes, waiting_gives, held_after, words_of, point_of, begun_heap, is_of}
use Rattle.lane_book.specs.Steps.{Steps, StepsIf, IsNextStored, AreStored, CanTake, held_by}
use Rattle.lane_book.proofs.Faces.{step_of_lane}
use Rattle.lane_book.proofs.Holdings.{held_written, held_after_take, held_after_give}

-- ---- the lists before and behind

pub take_whole : {X : Type 0} (n : ℕ) (xs : List X) → length xs ≤ n → take n xs ≡ xs
take_whole zero [] le = refl
take_whole zero (x ∷ xs) le = absurd (omega arith)
take_whole (suc n) [] le = refl
take_whole (suc n) (x ∷ xs) le = ap (λ (ys : List _). x ∷ ys) (take_whole n xs (omega arith))

-- a lane of whose writes n are waiting, or stand all
pub words_are : {E : Type 0} (begun : Heap) (lane : Lane E) (xs ys : List WordWrite) (gs : List ℕ) → front (waiting_writes lane.doing) lane.writes.items ≡ xs →
    take lane.stored lane.writes.items ≡ ys → front (waiting_gives lane.doing) lane.gives.items ≡ gs →
    words_of begun lane ≡ held_after lane.held begun xs gs ys
words_are begun lane xs ys gs standing stored given = λ i. held_after lane.held begun (standing i) (given i) (stored i)

-- ---- a write

module _ {E : Type 0} (begun : Heap) (lane : Lane E) (reply : Reply) (w : WordWrite) (next : IsNextStored lane w)
    (one : waiting_writes lane.doing ≡ 1) (no_gives : waiting_gives lane.doing ≡ 0) where
  abbrev xs : List WordWrite
  xs = front 1 lane.writes.items

  stored_before : take lane.stored lane.writes.items ≡ xs
  stored_before = ap (λ (n : ℕ). take n lane.writes.items) (let s = next.stored in omega arith)

  all_writes : (n : ℕ) → length lane.writes.items ≤ n → take n lane.writes.items ≡ xs ++ w ∷ []
  all_writes n le = take_whole n lane.writes.items le ∙ next.last

  pub words_before : words_of begun lane ≡ held_after lane.held begun xs (front 0 lane.gives.items) xs
  words_before = words_are begun lane xs xs (front 0 lane.gives.items) (ap (λ (n : ℕ). front n lane.writes.items) one) stored_before
      (ap (λ (n : ℕ). front n lane.gives.items) no_gives)

  pub words_behind : words_of begun (closed reply (stored_one lane)) ≡ held_after lane.held begun (xs ++ w ∷ []) (front 0 lane.gives.items) (xs ++ w ∷ [])
  words_behind = words_are begun (closed reply (stored_one lane)) (xs ++ w ∷ []) (xs ++ w ∷ []) (front 0 lane.gives.items)
      (all_writes (length lane.writes.items - 0) (omega arith)) (all_writes (lane.stored + 1) (let s = next.stored in omega arith)) refl

-- a word that is held is a data word of a block that is owned
pub held_is_data : (d o : Bool) (v : ℕ) → is_there (if d && o then Some v else None) ≡ true → (d ≡ true) × (o ≡ true)
held_is_data true true v e = (refl, refl)
held_is_data true false v e = (refl, cc)
held_is_data false o v e = (cc, cc)

pub both : (d o : Bool) → d ≡ true → o ≡ true → (d && o) ≡ true
both d o on own = ap (λ (t : Bool). t && o) on ∙ own

pub written_row : {E : Type 0} (deeds : Deeds E) (book : Book E) (l a v : ℕ) (touched : Option ℕ) → l < length book.lanes.items →
    (lane_at book l).phase ≡ Calling → (lane_at book l).doing ≡ Doing.Write a v → IsNextStored (lane_at book l) (record { address = a; value = v }) →
    StepsIf (λ base. has_word (held_by base book l) a ≡ true) deeds book (with_lane book l (closed Written (stored_one (lane_at book l))) touched) l (Answered Written)
written_row deeds book l a v touched lt calling doing next base has =
    step_of_lane deeds base book l (closed Written (stored_one (lane_at book l))) touched (Answered Written) lt
    (row (lane_at book l) calling doing next has)
  where
    row : (lane : Lane _) → lane.phase ≡ Calling → lane.doing ≡ Doing.Write a v → IsNextStored lane (record { address = a; value = v }) →
        has_word (words_of (begun_heap base book.history.items lane) lane) a ≡ true →
        LaneStep deeds (Answered Written) (face_of base book.history.items l lane) (face_of base book.history.items l (closed Written (stored_one lane)))
    row lane calling doing next has =
        let begun = begun_heap base book.history.items lane in
        let w : WordWrite = record { address = a; value = v } in
        let before = words_before begun lane Written w next (ap waiting_writes doing) (ap waiting_gives doing) in
        let behind = words_behind begun lane Written w next (ap waiting_writes doing) (ap waiting_gives doing) in
        let own = held_is_data (is_data begun a) (is_owned lane.held begun (owners_after begun (front 1 lane.writes.items) (front 0 lane.gives.items)) (block_of begun a)) _
        (sym (ap (λ (held : Holding). has_word held a) before) ∙ has) in
        record {
          calling = calling;
          row = record {
            writes = w ∷ [];
            call = subst (λ (c : Option _). IsWriting c (w ∷ [])) (sym (ap (λ (d : Doing). call_of (filter (is_of l) book.history.items) lane.entry lane.writes.items d) doing)) IsWriting.one;
            next = ap (λ (held : Holding). with_words held (answered Written (face_of base book.history.items l lane)))
                (behind ∙ held_written lane.held begun (front 1 lane.writes.items) w (front 0 lane.gives.items) own.0 (both _ _ own.0 own.1) ∙
                ap (put_held a v) (sym before));
          };
        }

-- ---- a take

pub take_row : {E : Type 0} (deeds : Deeds E) (book : Book E) (l s block a : ℕ) → l < length book.lanes.items →
    (lane_at book l).phase ≡ Calling → (lane_at book l).doing ≡ Doing.Take s block → IsNextStored (lane_at book l) (record { address = a; value = s + 1 }) →
    StepsIf (CanTake book l s block a) deeds book (with_lane book l (closed (Block block) (stored_one (lane_at book l))) None) l (Answered (Block block))
take_row deeds book l s block a lt calling doing next base can =
    step_of_lane deeds base book l (closed (Block block) (stored_one (lane_at book l))) None (Answered (Block block)) lt
    (row (lane_at book l) calling doing (subst (λ (b : ℕ). IsNextStored (lane_at book l) (record { address = b; value = s + 1 })) can.address next)
    can.held can.new can.not_given)
  where
    row : (lane : Lane _) → lane.phase ≡ Calling → lane.doing ≡ Doing.Take s block →
        IsNextStored lane (record { address = block_address base.heap block; value = s + 1 }) → has_bit lane.held s ≡ true →
        (words_of (begun_heap base book.history.items lane) lane).owner block ≡ None →
        (words_of (begun_heap base book.history.items lane) lane).given block ≡ false →
        LaneStep deeds (Answered (Block block)) (face_of base book.history.items l lane) (face_of base book.history.items l (closed (Block block) (stored_one lane)))
    row lane calling doing next has new not_given =
        let begun = begun_heap base book.history.items lane in
        let w : WordWrite = record { address = block_address base.heap block; value = s + 1 } in
        let before = words_before begun lane (Block block) w next (ap waiting_writes doing) (ap waiting_gives doing) in
        let behind = words_behind begun lane (Block block) w next (ap waiting_writes doing) (ap waiting_gives doing) in
        let inside : nat_lt block base.heap.blocks ≡ true = (let i = can.inside in grind (arith, nat_tests)) in
        record {
          calling = calling;
          row = record {
            structure = s;
            call = ap (λ (d : Doing). call_of (filter (is_of l) book.history.items) lane.entry lane.writes.items d) doing;
            inside = can.inside;
            new = new;
            not_given = not_given;
            values = (with_writes (front 1 lane.writes.items ++ w ∷ []) begun).at;
            next = ap (λ (held : Holding). with_words held (answered (Block block) (face_of base book.history.items l lane)))
                (behind ∙ held_after_take lane.held begun (front 1 lane.writes.items) (front 0 lane.gives.items) s block inside has
                (sym (ap (λ (held : Holding). held.given block) before) ∙ not_given) ∙
                ap (with_block base.heap s block (with_writes (front 1 lane.writes.items ++ w ∷ []) begun).at) (sym before));
          };
        }

-- ---- a give

pub give_row : {E : Type 0} (deeds : Deeds E) (book : Book E) (l block : ℕ) → l < length book.lanes.items →
    (lane_at book l).phase ≡ Calling → (lane_at book l).doing ≡ Doing.Give block →
    (lane_at book l).gives.items ≡ front 1 (lane_at book l).gives.items ++ block ∷ [] →
    Steps deeds book (with_lane book l (closed Given (lane_at book l)) None) l (Answered Given)
give_row deeds book l block lt calling doing last base =
    step_of_lane deeds base book l (closed Given (lane_at book l)) None (Answered Given) lt (row (lane_at book l) calling doing last)
  where
    row : (lane : Lane _) → lane.phase ≡ Calling → lane.doing ≡ Doing.Give block → lane.gives.items ≡ front 1 lane.gives.items ++ block ∷ [] →
        LaneStep deeds (Answered Given) (face_of base book.history.items l lane) (face_of base book.history.items l (closed Given lane))
    row lane calling doing last =
        let begun = begun_heap base book.history.items lane in
        let before = words_are begun lane (front 0 lane.writes.items) (take lane.stored lane.writes.items) (front 1 lane.gives.items)
        (ap (λ (d : Doing). front (waiting_writes d) lane.writes.items) doing) refl (ap (λ (d : Doing). front (waiting_gives d) lane.gives.items) doing) in
        let behind = words_are begun (closed Given lane) (front 0 lane.writes.items) (take lane.stored lane.writes.items) (front 1 lane.gives.items ++ block ∷ [])
        refl refl (take_whole (length lane.gives.items - 0) lane.gives.items (omega arith) ∙ last) in
        record {
          calling = calling;
          row = record {
            block = block;
            call = ap (λ (d : Doing). call_of (filter (is_of l) book.history.items) lane.entry lane.writes.items d) doing;
            next = ap (λ (held : Holding). with_words held (answered Given (face_of base book.history.items l lane)))
                (behind ∙ held_after_give lane.held begun (front 0 lane.writes.items) (front 1 lane.gives.items) (take lane.stored lane.writes.items) block ∙
                ap (without_block base.heap block) (sym before));
          };
        }

-- ---- a savepoint

map_last : {X Y : Type 0} (f : X → Y) (xs : List X) (x : X) → map f (xs ++ x ∷ []) ≡ map f xs ++ f x ∷ []
map_last f [] x = refl
map_last f (y ∷ xs) x = ap (λ (ys : List _). f y ∷ ys) (map_last f xs x)

-- the savepoint of the words as they are
abbrev point_now : {E : Type 0} → Lane E → Point
point_now lane = record { writes = length lane.writes.items; gives = length lane.gives.items }

pub save_row : {E : Type 0} (deeds : Deeds E) (book : Book E) (l : ℕ) → l < length book.lanes.items →
    (lane_at book l).phase ≡ Calling → (lane_at book l).doing ≡ Doing.Savepoint → AreStored (lane_at book l) →
    Steps deeds book (with_lane book l (saved (lane_at book l)) None) l (Answered (Saved (length (lane_at book l).points.items)))
save_row deeds book l lt calling doing stored base =
    step_of_lane deeds base book l (saved (lane_at book l)) None (Answered (Saved (length (lane_at book l).points.items))) lt (row (lane_at book l) calling doing stored)
  where
    row : (lane : Lane _) → lane.phase ≡ Calling → lane.doing ≡ Doing.Savepoint → AreStored lane →
        LaneStep deeds (Answered (Saved (length lane.points.items))) (face_of base book.history.items l lane) (face_of base book.history.items l (saved lane))
    row lane calling doing stored =
        let begun = begun_heap base book.history.items lane in
        let whole = take_whole (length lane.writes.items) lane.writes.items (omega arith) in
        let gives = take_whole (length lane.gives.items) lane.gives.items (omega arith) in
        let before = words_are begun lane lane.writes.items lane.writes.items lane.gives.items
        (ap (λ (d : Doing). front (waiting_writes d) lane.writes.items) doing ∙ take_whole (length lane.writes.items - 0) lane.writes.items (omega arith))
        (ap (λ (n : ℕ). take n lane.writes.items) stored ∙ whole)
        (ap (λ (d : Doing). front (waiting_gives d) lane.gives.items) doing ∙ take_whole (length lane.gives.items - 0) lane.gives.items (omega arith)) in
        let behind = words_are begun (saved lane) lane.writes.items lane.writes.items lane.gives.items
        (take_whole (length lane.writes.items - 0) lane.writes.items (omega arith))
        (ap (λ (n : ℕ). take n lane.writes.items) stored ∙ whole)
        (take_whole (length lane.gives.items - 0) lane.gives.items (omega arith)) in
        let here : point_of begun lane (point_now lane) ≡ words_of begun lane =
        (λ i. held_after lane.held begun (whole i) (gives i) (whole i)) ∙ sym before in
        record {
          calling = calling;
          row = record {
            call = ap (λ (d : Doing). call_of (filter (is_of l) book.history.items) lane.entry lane.writes.items d) doing;
            number = refl;
            next = λ i. record (saved_face (length lane.points.items) (face_of base book.history.items l lane)) {
              face = record (saved_face (length lane.points.items) (face_of base book.history.items l lane)).face {
                live = length-append lane.points.items (point_now lane ∷ []) i;
              };
              words = (behind ∙ sym before) i;
              points = (map_last (point_of begun lane) lane.points.items (point_now lane) ∙ ap (λ (held : Holding). map (point_of begun lane) lane.points.items ++ held ∷ []) here) i;
            };
          };
        }
