-- What the book refuses, and admits, is what the lane's whole face says.
use Rattle.std.proofs.Common.{Option, Some, None, ◌≡◌, ℕ, ◌-◌, ◌/◌, ◌<◌, Bool, true, false, not, ◌&&◌, nat_lt, if◌then◌else◌, List, [], ◌∷◌, refl, sym, ◌∙◌, ap, subst, arith, Some, None}
use Rattle.std.proofs.lemmas.Bool.Decides.{nat_tests}
use Rattle.lane_traits.specs.declared.draft.WordWrite.{WordWrite}
use Rattle.lane_types.specs.declared.call.Call.{Call}
use Rattle.lane_types.specs.declared.call.Refusal.{Refusal}
use Rattle.lane_types.specs.Heaps.{Holding, is_data, block_of}
use Rattle.lane_types.specs.Faces.{Base}
use Rattle.lane_types.specs.Asks.{is_there, has_word, has_all, holds, Fits, Why}
use Rattle.lane_types.specs.May.{AreData}
use Rattle.region_layout.specs.declared.layout.Layout.{Layout}
use Rattle.lane_book.specs.declared.book.Book.{Book}
use Rattle.lane_book.specs.FacesOf.{lane_at, faces_of}
use Rattle.lane_book.specs.Steps.{held_by}
use Rattle.lane_book.specs.Refusals.{is_mine, are_mine, block_in, names_mine, IsRefusedBy, Passes, ShowsBlocks, NamesData, Decides, Told}

-- a data word is held where its block is
word_by_block : (d o : Bool) (v s : ℕ) → d ≡ true → is_there (if o then Some s else None) ≡ is_there (if d && o then Some v else None)
word_by_block true true v s on = refl
word_by_block true false v s on = refl
word_by_block false o v s on = cc

module _ {E : Type 0} (layout : Layout) (book : Book E) (l : ℕ) (base : Base) (shows : ShowsBlocks layout book l base) where
  abbrev held : Holding
  held = held_by base book l

  -- the block of a data word is one of the heap
  block_inside : (a : ℕ) → is_data base.heap a ≡ true → block_of base.heap a < layout.blocks
  block_inside a data_word = subst (λ (n : ℕ). block_of base.heap a < n) shows.blocks (inside (nat_lt a base.heap.start) (nat_lt (block_of base.heap a) base.heap.blocks) _ data_word refl)
    where
      inside : (s t r : Bool) → (not s && (t && r)) ≡ true → t ≡ nat_lt (block_of base.heap a) base.heap.blocks → block_of base.heap a < base.heap.blocks
      inside true t r e is = cc
      inside false true r e is = grind (arith, nat_tests)
      inside false false r e is = cc

  word_mine : (a : ℕ) → is_data base.heap a ≡ true → is_mine book.blocks (lane_at book l) (block_in layout a) ≡ has_word held a
  word_mine a data_word =
      ap (λ (n : ℕ). is_mine book.blocks (lane_at book l) ((a - n) / 16)) (sym shows.start) ∙
      shows.mine (block_of base.heap a) (block_inside a data_word) ∙
      word_by_block (is_data base.heap a) _ _ _ data_word

  all_mine : (writes : List WordWrite) → AreData base.heap writes → are_mine layout book.blocks (lane_at book l) writes ≡ has_all held writes
  all_mine [] data_words = refl
  all_mine (w ∷ writes) data_words = λ i. word_mine w.address data_words.0 i && all_mine writes data_words.1 i

  pub mine_is_held : (call : Call E) → NamesData base layout call → names_mine layout book.blocks (lane_at book l) call ≡ holds (faces_of base book l) call
  mine_is_held (Call.Begin set) inside = refl
  mine_is_held (Call.Read a) inside = word_mine a inside
  mine_is_held (Call.Write a v) inside = word_mine a inside
  mine_is_held (Call.Take s) inside = refl
  mine_is_held (Call.Give block) inside = shows.mine block inside
  mine_is_held (Call.Commit deed) inside = refl
  mine_is_held Call.Abort inside = refl
  mine_is_held Call.Checkpoint inside = refl
  mine_is_held (Call.Batch writes) inside = all_mine writes inside
  mine_is_held Call.Savepoint inside = refl
  mine_is_held (Call.RollbackTo n) inside = refl

  pub fits_of : (room need : ℕ) (call : Call E) → NamesData base layout call → Passes layout room need book.blocks (lane_at book l) call →
      Fits (faces_of base book l) call
  fits_of room need call inside passes = record { phase = passes.phase; held = sym (mine_is_held call inside) ∙ passes.mine }

  -- a refusal meets what the face says of it
  pub why_of : (room need : ℕ) (call : Call E) (refusal : Refusal) → NamesData base layout call →
      IsRefusedBy layout room need book.blocks (lane_at book l) call refusal → Why refusal (faces_of base book l) call
  why_of room need call _ inside (IsRefusedBy.by_phase other) = record { is = refl; other = other }
  why_of room need call _ inside (IsRefusedBy.by_owner phase strange) = record { phase = phase; not_held = sym (mine_is_held call inside) ∙ strange }
  why_of room need call _ inside (IsRefusedBy.by_room phase mine logged short) = record {
    fits = record { phase = phase; held = sym (mine_is_held call inside) ∙ mine };
    logged = logged;
    short = short;
  }
  why_of room need call _ inside (IsRefusedBy.by_heap passes takes full) = record { fits = fits_of room need call inside passes; takes = takes }

  pub told_of : (room need : ℕ) (call : Call E) (refusal : Option Refusal) → NamesData base layout call →
      Decides layout room need book.blocks (lane_at book l) call refusal → Told (faces_of base book l) call refusal
  told_of room need call None inside decides = fits_of room need call inside decides.passes
  told_of room need call (Some refusal) inside decides = why_of room need call refusal inside decides
