-- The definitions on small faces.
use Rattle.std.proofs.Common.{◌≡◌, ℕ, true, false, List, [], ◌∷◌, refl, Some, None}
use Rattle.lane_traits.specs.declared.draft.WordWrite.{WordWrite}
use Rattle.lane_traits.specs.Space.{put_word}
use Rattle.lane_types.specs.declared.call.Call.TheVariants.{Begin, Write, Take, Give, Commit, Batch, Savepoint, RollbackTo}
use Rattle.lane_types.specs.declared.call.Phase.TheVariants.{Out, In}
use Rattle.lane_types.specs.declared.call.Reply.TheVariants.{Committed}
use Rattle.lane_types.specs.declared.call.Refusal.TheVariants.{WrongPhase, LogFull, HeapFull}
use Rattle.lane_types.specs.declared.call.Stepped.TheVariants.{Waiting, Stopped}
use Rattle.lane_types.specs.declared.call.What.TheVariants.{Latch}
use Rattle.lane_types.specs.declared.face.Tally.{Tally}
use Rattle.lane_types.specs.declared.face.Entry.{Entry}
use Rattle.lane_types.specs.Heaps.{Heap, has_bit, is_data, holding, holding_of, owners_after, nothing_held, heap_of_holding}
use Rattle.lane_types.specs.Histories.{fold}
use Rattle.lane_types.specs.Faces.{Base, WholeFace, stepped, answered, let_go, entering, more}
use Rattle.lane_types.specs.Asks.{holds, wanted, asked, refused}
use Rattle.lane_types.specs.LaneSteps.{put_held, with_block, without_block, begun_face, saved_face, rolled_back_face}

-- four blocks from word 32 on: the roots of structures 0 and 1, a further block of structure 0, and a free one
abbrev four_blocks : Heap
four_blocks = record {
  start = 32;
  blocks = 4;
  at = put_word 35 7 (put_word 50 9 (put_word 65 11 (put_word 32 1 (put_word 48 2 (put_word 64 1 (λ a. 0))))));
}

-- ---- heaps

bit_two_is_there : has_bit 5 2 ≡ true
bit_two_is_there = refl

bit_one_isnt : has_bit 5 1 ≡ false
bit_one_isnt = refl

owner_words_are_no_data : is_data four_blocks 48 ≡ false
owner_words_are_no_data = refl

first_data_word : is_data four_blocks 33 ≡ true
first_data_word = refl

last_data_word : is_data four_blocks 95 ≡ true
last_data_word = refl

past_the_heap : is_data four_blocks 97 ≡ false
past_the_heap = refl

before_the_heap : is_data four_blocks 31 ≡ false
before_the_heap = refl

-- ---- what is held

held_word : (holding_of 1 four_blocks).word 35 ≡ Some 7
held_word = refl

word_of_the_further_block : (holding_of 1 four_blocks).word 65 ≡ Some 11
word_of_the_further_block = refl

word_of_another : (holding_of 1 four_blocks).word 50 ≡ None
word_of_another = refl

word_of_nobody : (holding_of 3 four_blocks).word 81 ≡ None
word_of_nobody = refl

owner_of_the_further_block : (holding_of 3 four_blocks).owner 2 ≡ Some 0
owner_of_the_further_block = refl

no_owner : (holding_of 3 four_blocks).owner 3 ≡ None
no_owner = refl

-- the heap of what is held has the same words, and nothing else
heap_of_held : (heap_of_holding four_blocks (holding_of 1 four_blocks)).at 35 ≡ 7
heap_of_held = refl

owner_of_held_block : (heap_of_holding four_blocks (holding_of 1 four_blocks)).at 64 ≡ 1
owner_of_held_block = refl

nothing_of_another : (heap_of_holding four_blocks (holding_of 1 four_blocks)).at 48 ≡ 0
nothing_of_another = refl

-- ---- histories

abbrev entry : ℕ → ℕ → ℕ → List WordWrite → Entry ℕ
entry lane number transaction writes = record { lane = lane; number = number; transaction = transaction; deed = 0; writes = writes }

abbrev write : ℕ → ℕ → WordWrite
write a v = record { address = a; value = v }

later_entry_wins : (fold four_blocks (entry 0 0 1 (write 35 8 ∷ write 36 1 ∷ []) ∷ entry 1 0 2 (write 35 9 ∷ []) ∷ [])).at 35 ≡ 9
later_entry_wins = refl

other_words_stay : (fold four_blocks (entry 0 0 1 (write 35 8 ∷ write 36 1 ∷ []) ∷ entry 1 0 2 (write 35 9 ∷ []) ∷ [])).at 36 ≡ 1
other_words_stay = refl

-- ---- faces: a lane that is out, one that holds structure 0, and one that writes

abbrev no_tally : Tally
no_tally = record { steps = 0; last = None; cells = 0; checkpoints = 0; takes = 0; full = false; heap = false; stopped = false }

abbrev base : Base
base = record {
  sorts = [];
  structures = 2;
  header = [];
  heap = four_blocks;
  counts = record { events = 0; budget = 9; stopped = 0; restarts = record { loaded_at = 0; times = 0; pick = None }; origin = [] };
}

abbrev out : WholeFace ℕ
out = record {
  face = record { lane = 0; phase = Out; held = 0; begun = 0; commits = 0; answer = None; tally = no_tally; live = 0 };
  base = base;
  words = nothing_held;
  first = nothing_held;
  points = [];
  mine = [];
  call = None;
  entered = false;
}

abbrev begun : WholeFace ℕ
begun = begun_face 1 1 (holding_of 1 four_blocks) (asked (Begin 1) out)

begun_is_in : begun.face.phase ≡ In
begun_is_in = refl

begun_holds : begun.face.held ≡ 1
begun_holds = refl

begun_counts : begun.face.begun ≡ 1
begun_counts = refl

begun_pays_two : begun.face.tally.cells ≡ 2
begun_pays_two = refl

begun_made_a_step : begun.face.tally.steps ≡ 1
begun_made_a_step = refl

no_call_is_left : begun.call ≡ None
no_call_is_left = refl

-- ---- refusals

a_second_begin : wanted {E = ℕ} (Begin 1) ≡ Out
a_second_begin = refl

word_of_another_isnt_held : holds begun (Write 50 3) ≡ false
word_of_another_isnt_held = refl

own_word_is_held : holds begun (Write 35 3) ≡ true
own_word_is_held = refl

batch_with_another_word : holds begun (Batch (write 35 3 ∷ write 50 3 ∷ [])) ≡ false
batch_with_another_word = refl

take_for_another : holds begun (Take 1) ≡ false
take_for_another = refl

give_of_own_block : holds begun (Give 2) ≡ true
give_of_own_block = refl

full_counts : (refused (Write 35 3) (LogFull 3 5) begun).face.tally.cells ≡ 4
full_counts = refl

full_is_told : (refused (Write 35 3) (LogFull 3 5) begun).face.tally.full ≡ true
full_is_told = refl

heap_full_counts : (refused (Take 0) HeapFull begun).face.tally.takes ≡ 1
heap_full_counts = refl

wrong_phase_counts_nothing : refused (Begin 1) (WrongPhase In) begun ≡ begun
wrong_phase_counts_nothing = refl

tallies_stand_still : more 18446744073709551614 2 ≡ 18446744073709551615
tallies_stand_still = refl

-- ---- rows

abbrev writing : WholeFace ℕ
writing = asked (Write 35 8) begun

stop_is_told : (stepped Stopped writing).face.tally.stopped ≡ true
stop_is_told = refl

stop_leaves_the_call : (stepped Stopped writing).call ≡ Some (Write 35 8)
stop_leaves_the_call = refl

waiting_is_told : (stepped (Waiting (Latch 0) 1) writing).face.tally.last ≡ Some (Waiting (Latch 0) 1)
waiting_is_told = refl

written_word : (put_held 35 8 begun.words).word 35 ≡ Some 8
written_word = refl

other_held_words_stay : (put_held 35 8 begun.words).word 65 ≡ Some 11
other_held_words_stay = refl

taken_block : (with_block four_blocks 0 3 (λ a. a) begun.words).word 81 ≡ Some 81
taken_block = refl

taken_block_has_owner : (with_block four_blocks 0 3 (λ a. a) begun.words).owner 3 ≡ Some 0
taken_block_has_owner = refl

given_block_is_gone : (without_block four_blocks 2 begun.words).word 65 ≡ None
given_block_is_gone = refl

given_block_is_listed : (without_block four_blocks 2 begun.words).given 2 ≡ true
given_block_is_listed = refl

-- what was given isn't owned
given_has_no_owner : (holding 1 four_blocks (owners_after four_blocks [] (2 ∷ [])) four_blocks.at (2 ∷ [])).word 65 ≡ None
given_has_no_owner = refl

abbrev committed : WholeFace ℕ
committed = let_go (answered Committed (entering (entry 0 0 1 []) (asked (Commit 0) begun)))

committed_is_out : committed.face.phase ≡ Out
committed_is_out = refl

committed_has_its_entry : committed.mine ≡ entry 0 0 1 [] ∷ []
committed_has_its_entry = refl

committed_holds_nothing : committed.words ≡ nothing_held
committed_holds_nothing = refl

abbrev saved : WholeFace ℕ
saved = saved_face 0 (asked Savepoint begun)

saved_is_live : saved.face.live ≡ 1
saved_is_live = refl

back_to_the_savepoint : (rolled_back_face 0 begun.words (begun.words ∷ []) (asked (RollbackTo 0) saved)).words ≡ begun.words
back_to_the_savepoint = refl
