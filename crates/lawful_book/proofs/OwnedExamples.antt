-- Small books in which lanes take and give blocks: of whom each block is, and the words of a taken one.
use Rattle.std.proofs.Common.{◌≡◌, ◌==◌, ℕ, true, false, if◌then◌else◌, List, [], ◌∷◌, refl, Some}
use Rattle.lane_traits.specs.declared.draft.WordWrite.{WordWrite}
use Rattle.offset_alloc.specs.declared.Standing.{Standing}
use Rattle.offset_alloc.specs.declared.Standing.TheVariants.{Free, Owned}
use Rattle.lane_types.specs.declared.face.Entry.{Entry}
use Rattle.lane_types.specs.Heaps.{Heap, heap_of_holding, owner_word, with_writes}
use Rattle.lane_types.specs.Histories.{fold}
use Rattle.lane_book.specs.declared.lane.Lane.{Lane}
use Rattle.lane_book.specs.Stocked.{with_items, no_stock}
use Rattle.lane_book.specs.FacesOf.{idle_lane, words_of}
use Rattle.lawful_book.specs.OwnedBooks.{owner_in, is_ours, is_own_word}
use Rattle.lawful_book.specs.OwnedLaws.{is_taken}

-- Four blocks from word 32 on. Block 0 is structure 0's, blocks 1 and 2 are structure 1's, and block 3 is nobody's. Word 65, of block 2, is 5.
abbrev start_words : ℕ → ℕ
start_words a = if a == 32 then 1 else (if a == 48 then 2 else (if a == 64 then 2 else (if a == 65 then 5 else 0)))

abbrev start_heap : Heap
start_heap = record { start = 32; blocks = 4; at = start_words }

-- structure 1's lane writes word 65, gives block 2 and commits
abbrev first_entry : Entry ℕ
first_entry = record {
  lane = 1;
  number = 0;
  transaction = 2;
  deed = 0;
  writes = record { address = 65; value = 7 } ∷ record { address = 64; value = 0 } ∷ [];
}

abbrev history : List (Entry ℕ)
history = first_entry ∷ []

-- structure 0's lane began before that, and takes block 2 when it is free
abbrev take_write : WordWrite
take_write = record { address = 64; value = 1 }

abbrev taker : Lane ℕ
taker = record idle_lane { held = 1; begun = 1; transaction = 1; stored = 1; writes = with_items (take_write ∷ []) no_stock }

abbrev taken_standings : List Standing
taken_standings = Owned 0 ∷ Owned 1 ∷ Owned 0 ∷ Free ∷ []

-- the block is the taker's by its standing, and nobody's in the history's heap
standing_is : owner_in taken_standings 2 ≡ 1
standing_is = refl

nobodys_yet : owner_word (fold start_heap history) 2 ≡ 0
nobodys_yet = refl

others_not : is_ours 2 taken_standings 2 ≡ false
others_not = refl

own_word : is_own_word start_heap taken_standings taker 65 ≡ true
own_word = refl

-- an owner word is no word of its own, nor is one of another block
no_owner_word : is_own_word start_heap taken_standings taker 64 ≡ false
no_owner_word = refl

no_other_word : is_own_word start_heap taken_standings taker 49 ≡ false
no_other_word = refl

-- a given block's word isn't its own any more
given_word : is_own_word start_heap taken_standings (record taker { gives = with_items (2 ∷ []) no_stock }) 65 ≡ false
given_word = refl

-- an abort frees just this block
frees : is_taken start_heap (take_write ∷ record { address = 33; value = 9 } ∷ []) 2 ≡ true
frees = refl

keeps : is_taken start_heap (take_write ∷ record { address = 33; value = 9 } ∷ []) 0 ≡ false
keeps = refl

-- The taker's face shows the word as it was when its transaction began,
stale_face : (words_of (fold {E = ℕ} start_heap []) taker).word 65 ≡ Some 5
stale_face = refl

-- but the heap that its commit is laid on has another there.
true_word : (with_writes (take_write ∷ []) (fold start_heap history)).at 65 ≡ 7
true_word = refl

-- So a deed that says what the face shows is none that the commit does.
face_means : (heap_of_holding start_heap (words_of (fold {E = ℕ} start_heap []) taker)).at 65 ≡ 5
face_means = refl
