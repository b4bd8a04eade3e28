-- The row of a batch that is answered.
use Rattle.std.proofs.Common.{◌≡◌, ◌==◌, ℕ, zero, suc, ◌-◌, ◌<◌, ◌≤◌, Bool, true, false, if◌then◌else◌, List, [], ◌∷◌, ◌++◌, length, take, drop, refl, sym, ◌∙◌, ap, subst, arith, Option}
use Rattle.std.specs.List.{filter}
use Rattle.persist_model.specs.Region.{Words}
use Rattle.lane_traits.specs.Space.{put_word}
use Rattle.lane_traits.specs.Draft.{after_writes}
use Rattle.lane_traits.specs.declared.draft.WordWrite.{WordWrite}
use Rattle.lane_types.specs.declared.call.Phase.TheVariants.{Calling}
use Rattle.lane_types.specs.declared.call.Reply.TheVariants.{Written}
use Rattle.lane_types.specs.declared.call.Stepped.TheVariants.{Answered}
use Rattle.lane_types.specs.Deeds.{Deeds}
use Rattle.lane_types.specs.Heaps.{Heap, Holding, is_data, block_of, is_owned, holding, owners_after, with_writes}
use Rattle.lane_types.specs.Faces.{answered, with_words}
use Rattle.lane_types.specs.Asks.{has_word, has_all}
use Rattle.lane_types.specs.LaneSteps.{LaneStep, IsWriting, put_all_held}
use Rattle.lane_book.specs.declared.lane.Lane.{Lane}
use Rattle.lane_book.specs.declared.lane.Doing.{Doing}
use Rattle.lane_book.specs.declared.book.Book.{Book}
use Rattle.lane_book.specs.Lanes.{closed, stored_all, with_lane}
use Rattle.lane_book.specs.FacesOf.{lane_at, face_of, call_of, front, waiting_writes, waiting_gives, held_after, words_of, begun_heap, is_of, standing_writes, standing_gives, batch_of}
use Rattle.lane_book.specs.Steps.{StepsIf, held_by}
use Rattle.lane_book.specs.Books.{ends, AreStoredBut, IsAboutIt, IsLane}
use Rattle.lane_book.proofs.Faces.{step_of_lane}
use Rattle.lane_book.proofs.Holdings.{has_at, values_put, owners_stay, is_true_left, is_true_right}
use Rattle.lane_book.proofs.WordRows.{take_whole, words_are, held_is_data, both}
use Rattle.lane_book.proofs.Pushing.{one_first}
use Rattle.lane_book.proofs.Keeps.{within_more, front_short, closed_cells}

-- ---- values

-- b is the address of none of these
abbrev IsApart : ℕ → List WordWrite → Type 0
IsApart b [] = Unit {0}
IsApart b (w ∷ ws) = ((b == w.address) ≡ false) × IsApart b ws

-- values that differ only at these addresses are the same after the writes
after_same : (ws : List WordWrite) (f g : Words) → ((b : ℕ) → IsApart b ws → f b ≡ g b) → after_writes ws f ≡ after_writes ws g
after_same [] f g same = λ i b. same b tt i
after_same (w ∷ ws) f g same = after_same ws (put_word w.address w.value f) (put_word w.address w.value g) (λ b apart. here b (b == w.address) refl apart)
  where
    here : (b : ℕ) (t : Bool) → (b == w.address) ≡ t → IsApart b ws → put_word w.address w.value f b ≡ put_word w.address w.value g b
    here b true is apart = ap (λ (t : Bool). if t then w.value else f b) is ∙ sym (ap (λ (t : Bool). if t then w.value else g b) is)
    here b false is apart = ap (λ (t : Bool). if t then w.value else f b) is ∙ same b (is, apart) ∙ sym (ap (λ (t : Bool). if t then w.value else g b) is)

-- the first of the writes leave every other word
first_apart : (j : ℕ) (ws : List WordWrite) (f : Words) (b : ℕ) → IsApart b ws → after_writes (take j ws) f b ≡ f b
first_apart zero ws f b apart = refl
first_apart (suc j) [] f b apart = refl
first_apart (suc j) (w ∷ ws) f b apart =
    first_apart j ws (put_word w.address w.value f) b apart.1 ∙ ap (λ (t : Bool). if t then w.value else f b) apart.0

-- the first of the writes may be made before
made_before : (j : ℕ) (ws : List WordWrite) (f : Words) → after_writes ws (after_writes (take j ws) f) ≡ after_writes ws f
made_before j ws f = after_same ws (after_writes (take j ws) f) f (λ b apart. first_apart j ws f b apart)

after_both : (xs ys : List WordWrite) (f : Words) → after_writes (xs ++ ys) f ≡ after_writes ys (after_writes xs f)
after_both [] ys f = refl
after_both (x ∷ xs) ys f = after_both xs ys (put_word x.address x.value f)

take_behind : (m : ℕ) (xs ys : List WordWrite) → length xs ≤ m → take m (xs ++ ys) ≡ xs ++ take (m - length xs) ys
take_behind m [] ys le = ap (λ (n : ℕ). take n ys) (omega arith)
take_behind zero (x ∷ xs) ys le = absurd (omega arith)
take_behind (suc m) (x ∷ xs) ys le =
    ap (λ (zs : List WordWrite). x ∷ zs) (take_behind m xs ys (omega arith)) ∙
    ap (λ (n : ℕ). x ∷ xs ++ take n ys) (minus_one m (length xs))
  where
    minus_one : (n k : ℕ) → n - k ≡ suc n - suc k
    minus_one n k = omega arith

-- ---- what is held

-- all of the words are held
abbrev HasAllAt : ℕ → Heap → (ℕ → ℕ) → List WordWrite → Type 0
HasAllAt set heap owners [] = Unit {0}
HasAllAt set heap owners (w ∷ ws) = (has_at set heap owners w.address ≡ true) × HasAllAt set heap owners ws

values_all : (set : ℕ) (heap : Heap) (owners : ℕ → ℕ) (values : Words) (gives : List ℕ) (ws : List WordWrite) → HasAllAt set heap owners ws →
    holding set heap owners (after_writes ws values) gives ≡ put_all_held ws (holding set heap owners values gives)
values_all set heap owners values gives [] has = refl
values_all set heap owners values gives (w ∷ ws) has =
    values_all set heap owners (put_word w.address w.value values) gives ws has.1 ∙
    ap (put_all_held ws) (values_put set heap owners values gives w.address w.value has.0)

has_all_at : (set : ℕ) (heap : Heap) (owners : ℕ → ℕ) (values : Words) (gives : List ℕ) (ws : List WordWrite) →
    has_all (holding set heap owners values gives) ws ≡ true → HasAllAt set heap owners ws
has_all_at set heap owners values gives [] has = tt
has_all_at set heap owners values gives (w ∷ ws) has =
    let here = held_is_data (is_data heap w.address) (is_owned set heap owners (block_of heap w.address)) (values w.address) (is_true_left _ _ has) in
    (both _ _ here.0 here.1, has_all_at set heap owners values gives ws (is_true_right (has_word (holding set heap owners values gives) w.address) _ has))

owners_all : (set : ℕ) (heap : Heap) (owners : ℕ → ℕ) (xs ws : List WordWrite) (gives : List ℕ) (k : ℕ) → HasAllAt set heap owners ws →
    owners_after heap (xs ++ ws) gives k ≡ owners_after heap xs gives k
owners_all set heap owners xs [] gives k has = ap (λ (zs : List WordWrite). owners_after heap zs gives k) (append_none xs)
  where
    append_none : (zs : List WordWrite) → zs ++ [] ≡ zs
    append_none [] = refl
    append_none (z ∷ zs) = ap (λ (ys : List WordWrite). z ∷ ys) (append_none zs)
owners_all set heap owners xs (w ∷ ws) gives k has =
    ap (λ (zs : List WordWrite). owners_after heap zs gives k) (one_first xs ws w) ∙
    owners_all set heap owners (xs ++ w ∷ []) ws gives k has.1 ∙
    owners_stay heap xs w gives k (is_true_left _ _ has.0)

-- the words of a batch, some of which may be stored
held_batch : (set : ℕ) (heap : Heap) (xs ys : List WordWrite) (gives : List ℕ) (m : ℕ) → length xs ≤ m →
    has_all (held_after set heap xs gives (take m (xs ++ ys))) ys ≡ true →
    held_after set heap (xs ++ ys) gives (xs ++ ys) ≡ put_all_held ys (held_after set heap xs gives (take m (xs ++ ys)))
held_batch set heap xs ys gives m le has =
    let all = has_all_at set heap (owners_after heap xs gives) (with_writes (take m (xs ++ ys)) heap).at gives ys has in
    let owners = owners_after heap xs gives in
    (λ i. holding set heap (λ k. owners_all set heap owners xs ys gives k all i) (after_both xs ys heap.at i) gives) ∙
    ap (λ (u : Words). holding set heap owners u gives)
    (sym (made_before (m - length xs) ys (after_writes xs heap.at)) ∙
    ap (after_writes ys) (sym (after_both xs (take (m - length xs) ys) heap.at) ∙
    ap (λ (zs : List WordWrite). after_writes zs heap.at) (sym (take_behind m xs ys le)))) ∙
    values_all set heap owners (after_writes (take m (xs ++ ys)) heap.at) gives ys all

-- ---- the row

pub take_and_drop : {X : Type 0} (m : ℕ) (xs : List X) → xs ≡ take m xs ++ drop m xs
take_and_drop zero xs = refl
take_and_drop (suc m) [] = refl
take_and_drop (suc m) (x ∷ xs) = ap (λ (ys : List _). x ∷ ys) (take_and_drop m xs)

pub take_most : {X : Type 0} (m : ℕ) (xs : List X) → length (take m xs) ≤ m
take_most zero xs = omega arith
take_most (suc m) [] = omega arith
take_most (suc m) (x ∷ xs) = let l = take_most m xs in omega (arith, l)

module _ {E : Type 0} (begun : Heap) (lane : Lane E) (n : ℕ) (doing : lane.doing ≡ Doing.Batch n) (waits : AreStoredBut n lane.stored lane.writes.items) where
  abbrev xs : List WordWrite
  xs = front n lane.writes.items

  whole : lane.writes.items ≡ xs ++ batch_of n lane
  whole = take_and_drop (length lane.writes.items - n) lane.writes.items

  stored_some : length xs ≤ lane.stored
  stored_some =
      let most = take_most (length lane.writes.items - n) lane.writes.items in
      let others = waits.others in omega (arith, most, others)

  pub before : words_of begun lane ≡ held_after lane.held begun xs (front 0 lane.gives.items) (take lane.stored (xs ++ batch_of n lane))
  before = words_are begun lane xs (take lane.stored (xs ++ batch_of n lane)) (front 0 lane.gives.items)
      (ap (λ (d : Doing). front (waiting_writes d) lane.writes.items) doing) (ap (take lane.stored) whole)
      (ap (λ (d : Doing). front (waiting_gives d) lane.gives.items) doing)

  behind : words_of begun (closed Written (stored_all lane)) ≡ held_after lane.held begun (xs ++ batch_of n lane) (front 0 lane.gives.items) (xs ++ batch_of n lane)
  behind = words_are begun (closed Written (stored_all lane)) (xs ++ batch_of n lane) (xs ++ batch_of n lane) (front 0 lane.gives.items)
      (take_whole (length lane.writes.items - 0) lane.writes.items (omega arith) ∙ whole)
      (take_whole (length lane.writes.items) lane.writes.items (omega arith) ∙ whole) refl

  pub batch_words : has_all (words_of begun lane) (batch_of n lane) ≡ true →
      words_of begun (closed Written (stored_all lane)) ≡ put_all_held (batch_of n lane) (words_of begun lane)
  batch_words has = behind ∙
      held_batch lane.held begun xs (batch_of n lane) (front 0 lane.gives.items) lane.stored stored_some
      (sym (ap (λ (held : Holding). has_all held (batch_of n lane)) before) ∙ has) ∙
      ap (put_all_held (batch_of n lane)) (sym before)

pub batch_row : {E : Type 0} (deeds : Deeds E) (book : Book E) (l n : ℕ) (touched : Option ℕ) → l < length book.lanes.items →
    (lane_at book l).phase ≡ Calling → (lane_at book l).doing ≡ Doing.Batch n → AreStoredBut n (lane_at book l).stored (lane_at book l).writes.items →
    StepsIf (λ base. has_all (held_by base book l) (batch_of n (lane_at book l)) ≡ true) deeds book
    (with_lane book l (closed Written (stored_all (lane_at book l))) touched) l (Answered Written)
batch_row deeds book l n touched lt calling doing waits base has =
    step_of_lane deeds base book l (closed Written (stored_all (lane_at book l))) touched (Answered Written) lt
    (row (lane_at book l) calling doing waits has)
  where
    row : (lane : Lane _) → lane.phase ≡ Calling → lane.doing ≡ Doing.Batch n → AreStoredBut n lane.stored lane.writes.items →
        has_all (words_of (begun_heap base book.history.items lane) lane) (batch_of n lane) ≡ true →
        LaneStep deeds (Answered Written) (face_of base book.history.items l lane) (face_of base book.history.items l (closed Written (stored_all lane)))
    row lane calling doing waits has = record {
      calling = calling;
      row = record {
        writes = batch_of n lane;
        call = subst (λ (c : Option _). IsWriting c (batch_of n lane))
            (sym (ap (λ (d : Doing). call_of (filter (is_of l) book.history.items) lane.entry lane.writes.items d) doing)) IsWriting.many;
        next = ap (λ (held : Holding). with_words held (answered Written (face_of base book.history.items l lane)))
            (batch_words (begun_heap base book.history.items lane) lane n doing waits has);
      };
    }

-- ---- what it keeps

pub waiting_of : {E : Type 0} (m : ℕ) (lane : Lane E) (n : ℕ) → lane.doing ≡ Doing.Batch n → IsLane m lane → AreStoredBut n lane.stored lane.writes.items
waiting_of m lane n doing is = subst (IsAboutIt lane) doing is.about

pub batched_keeps : {E : Type 0} (m : ℕ) (lane : Lane E) → ends lane.doing ≡ false → IsLane m lane → IsLane m (closed Written (stored_all lane))
batched_keeps m lane calm is = record {
  calling = λ e. cc;
  behind = is.behind;
  points = within_more (length (standing_writes lane)) (length (front 0 lane.writes.items)) (length (standing_gives lane)) (length (front 0 lane.gives.items))
      lane.points.items (front_short (waiting_writes lane.doing) lane.writes.items) (front_short (waiting_gives lane.doing) lane.gives.items) is.points;
  rising = is.rising;
  about = refl;
  cells = closed_cells lane.doing lane.doing refl calm is.cells;
  out = λ e. cc;
}
