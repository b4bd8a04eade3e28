-- The word of a write, and the cell of its update.
use Rattle.std.proofs.Common.{◌≡◌, ◌⊎◌, ℕ, zero, suc, ◌+◌, ◌<◌, ◌++◌, ◌∷◌, List, [], length, reverse, slice_get, slice_index, Some, None, Option, Bool, true, false, ◌&&◌, refl, sym, ap, ◌∙◌, subst, arith}
use Rattle.std.proofs.Math.Logic.{∥∥₁_elim, ∥∥₁_map}
use Rattle.std.proofs.Math.Nat.{ℕ_set}
use Rattle.std.proofs.Math.Bridge.{le_prop}
use Rattle.persist_model.specs.Region.{Words, Region, newest, newest_words}
use Rattle.persist_model.proofs.Images.{get_or-newest_words, length-newest_words}
use Rattle.lane_traits.specs.Device.{Counts}
use Rattle.lane_traits.specs.declared.draft.WordWrite.{WordWrite}
use Rattle.region_layout.specs.declared.cell.Cell.{Cell}
use Rattle.region_layout.specs.declared.layout.Layout.{Layout}
use Rattle.region_layout.specs.Layout.{layout_shape, IsDataWord}
use Rattle.plan_records.specs.Cells.{cell_of_update}
use Rattle.lane_types.specs.Deeds.{Deeds}
use Rattle.lane_types.specs.Faces.{Base}
use Rattle.lane_types.specs.Heaps.{is_data}
use Rattle.lane_book.specs.declared.book.Book.{Book}
use Rattle.lane_book.specs.declared.lane.Lane.{Lane}
use Rattle.lane_book.specs.declared.lane.Doing.{Doing}
use Rattle.lane_book.specs.FacesOf.{lane_at, front}
use Rattle.lane_book.specs.Books.{IsLane, IsBook}
use Rattle.lane_book.specs.Steps.{IsNextStored}
use Rattle.lane_book.proofs.Keeps.{next_of}
use Rattle.log_keeper.specs.declared.keeper.LogKeeper.{LogKeeper}
use Rattle.txn_state.specs.Stages.{Naming, Storing, stage_of}
use Rattle.txn_state.specs.States.{IsStateOf}
use Rattle.txn_state.specs.AppendLaws.{IsNextCell, of_write, write_cell, top_cell}
use Rattle.txn_state.proofs.Ready.{lanes_are_ready}
use Rattle.txn_state.proofs.HeapSteps.{written_heap}
use Rattle.txn_core.specs.States.{HasWorld}
use Rattle.txn_core.proofs.Facts.{is_book}
use Rattle.txn_core.proofs.AskedData.{data_word}
use Rattle.txn_core.proofs.LawfulKept.{own_word, calls_are_held}
use Rattle.txn_core.specs.LawfulWorlds.{IsLawfulWorld}
use Rattle.txn_core.specs.Putting.{Puts}
use Rattle.txn_state.specs.Ties.{owned}

-- ---- as the device reads it

pub word_read : (words : List ℕ) (region : Region) (a : ℕ) → words ≡ newest_words region → a < region.size → slice_index words a ≡ newest (region.at a)
word_read words region a reads lt = ap (λ (ws : List ℕ). slice_index ws a) reads ∙ get_or-newest_words region a lt

pub word_inside : (words : List ℕ) (region : Region) (a : ℕ) → words ≡ newest_words region → a < region.size → a < length words
word_inside words region a reads lt = subst (λ n. a < n) (sym (ap (λ (ws : List ℕ). length ws) reads ∙ length-newest_words region)) lt

abbrev pub one_write : ℕ → ℕ → WordWrite
one_write a v = record { address = a; value = v }

-- the cell of what is read of the lane and the word
pub cell_read : {E : Type 0} (region : Region) (kept lane : Lane E) (a v word top : ℕ) → kept ≡ lane → word ≡ newest (region.at a) → top ≡ top_cell (reverse kept.updates.items) →
    cell_of_update (record { transaction = kept.transaction; word = a; before = word; after = v; undo_next = top }) ≡ write_cell region lane (one_write a v)
cell_read region kept lane a v word top same read told =
    λ i. cell_of_update (record { transaction = (same i).transaction; word = a; before = read i; after = v; undo_next = (told ∙ ap (λ (x : Lane _). top_cell (reverse x.updates.items)) same) i })

-- ---- the lane's next write

last_got : {A : Type 0} (xs : List A) (x : A) (n : ℕ) → n + 1 ≡ length (xs ++ x ∷ []) → slice_get (xs ++ x ∷ []) n ≡ Some x
last_got [] x zero is = refl
last_got [] x (suc n) is = absurd (omega (arith, is))
last_got (y ∷ xs) x zero is = absurd (some xs is)
  where
    some : (ys : List _) → 1 ≡ suc (length (ys ++ x ∷ [])) → ⊥
    some [] e = omega (arith, e)
    some (z ∷ ys) e = omega (arith, e)
last_got (y ∷ xs) x (suc n) is = last_got xs x n (omega (arith, is))

-- the write of its call
write_got : {E : Type 0} (n : ℕ) (lane : Lane E) (a v : ℕ) → lane.doing ≡ Doing.Write a v → IsLane n lane → slice_get lane.writes.items lane.stored ≡ Some (one_write a v)
write_got n lane a v doing is =
    let next : IsNextStored lane (one_write a v) = next_of n lane a v doing is in
    subst (λ (ws : List WordWrite). slice_get ws lane.stored ≡ Some (one_write a v)) (sym next.last)
    (last_got (front 1 lane.writes.items) (one_write a v) lane.stored (next.stored ∙ ap (λ (ws : List WordWrite). length ws) next.last))

address_of : (w : WordWrite) (a v : ℕ) → Some w ≡ Some (one_write a v) → w.address ≡ a
address_of w a v is = let same : w ≡ one_write a v = cc in ap (λ (x : WordWrite). x.address) same

value_of : (w : WordWrite) (a v : ℕ) → Some w ≡ Some (one_write a v) → w.value ≡ v
value_of w a v is = let same : w ≡ one_write a v = cc in ap (λ (x : WordWrite). x.value) same

no_write_there : (a v : ℕ) → None ≡ Some (one_write a v) → ⊥
no_write_there a v is = cc

-- what is there is this write, where it may be said to be
got_by : (o : Option WordWrite) (a v : ℕ) → ∥ o ≡ Some (one_write a v) ∥₁ → o ≡ Some (one_write a v)
got_by None a v some = absurd (∥∥₁_elim some (λ x. absurd x) (λ is. no_write_there a v is))
got_by (Some w) a v some =
    let at = ∥∥₁_elim some (ℕ_set _ _) (λ is. address_of w a v is) in
    let has = ∥∥₁_elim some (ℕ_set _ _) (λ is. value_of w a v is) in
    λ i. Some (record { address = at i; value = has i })

-- a write is to write its word
pub writes_it : (layout : Layout) (d : Doing) (a v : ℕ) → d ≡ Doing.Write a v → Puts layout d a v
writes_it layout d a v is = subst (λ (e : Doing). Puts layout e a v) (sym is) Puts.write

-- the data word of a write, from the words that the lane holds
pub write_data : {E : Type 0} (deeds : Deeds E) (layout : Layout) (base : Base) (book : Book E) (l a v : ℕ) → IsLawfulWorld deeds layout base book → IsBook book →
    (lane_at book l).doing ≡ Doing.Write a v → IsDataWord (layout_shape layout) a
write_data deeds layout base book l a v was whole doing = data_word layout base.heap a (record { start = was.owned.place.start; blocks = was.owned.place.blocks })
    (first (is_data base.heap a) _ (own_word deeds layout base book was l a (calls_are_held deeds layout base book was whole l a v doing)))
  where
    first : (s t : Bool) → (s && t) ≡ true → s ≡ true
    first true t on = refl
    first false t on = cc

module _ {E : Type 0} (deeds : Deeds E) (layout : Layout) (book : Book E) (keeper : LogKeeper) (region : Region) (spare : ℕ) (counts : Counts) (l a v : ℕ)
    (lt : l < length book.lanes.items) (world : HasWorld deeds layout book keeper region spare counts) (puts : Puts layout (lane_at book l).doing a v) where
  pub next_write : slice_get (lane_at book l).writes.items (lane_at book l).stored ≡ Some (one_write a v)
  next_write = by (lane_at book l).doing a v refl puts
    where
      by : (d : Doing) (b u : ℕ) → (lane_at book l).doing ≡ d → Puts layout d b u → slice_get (lane_at book l).writes.items (lane_at book l).stored ≡ Some (one_write b u)
      by _ _ _ doing (Puts.write {a = b} {v = u}) = write_got (length book.history.items) (lane_at book l) b u doing (is_book deeds layout book keeper region spare counts world l)
      by _ _ _ doing (Puts.take {s} {k}) = got_by (slice_get (lane_at book l).writes.items (lane_at book l).stored) (owned layout s k).address (owned layout s k).value
          (∥∥₁_map world (λ y. (y.1.state.tied.each l (subst (λ n. l < n) (sym y.1.state.tied.lanes) lt)).taking s k doing))

  -- whose cell comes next
  pub next_cell : (cell : Cell) → stage_of (lane_at book l) ≡ Naming → cell ≡ write_cell region (lane_at book l) (one_write a v) → IsNextCell region (lane_at book l) cell
  next_cell cell at is = subst (IsNextCell region (lane_at book l)) (sym is) (of_write (one_write a v) at next_write)

  -- its word is one of the region's
  pub word_below : (stage_of (lane_at book l) ≡ Naming) ⊎ (stage_of (lane_at book l) ≡ Storing) → a < region.size
  word_below at = ∥∥₁_elim world le_prop (λ y. by y.1.state)
    where
      by : {start : Words} → IsStateOf layout start book keeper region spare counts.events → a < region.size
      by {start} state =
          let next = lanes_are_ready.to_store layout start book keeper region spare counts.events l lt at state in
          let is = address_of next.0 a v (sym next.1.write ∙ next_write) in
          let below = (written_heap (layout_shape layout) next.0.address next.1.written_word).1 in
          let size = state.world.log.logged.size in
          omega (arith, is, below, size)
