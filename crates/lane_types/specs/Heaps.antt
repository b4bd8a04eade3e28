-- Heaps, and what of them a set of structures owns.
use Rattle.std.specs.Prelude.{◌≡◌, ◌↔◌, ℕ, ◌+◌, ◌-◌, ◌*◌, ◌/◌, ◌%◌, ◌^◌, ◌<◌, Bool, true, false, not, ◌&&◌, ◌==◌, nat_lt, if◌then◌else◌, List, [], Option, Some, None}
use Rattle.lane_traits.specs.Draft.{is_among, after_writes}
use Rattle.lane_traits.specs.declared.draft.WordWrite.{WordWrite}

-- the address of its first word, the number of its blocks of sixteen words, and the word at each address
pub record Heap : Type 0 where
  pub start : ℕ
  pub blocks : ℕ
  pub at : ℕ → ℕ

-- structure s is in the set
abbrev pub has_bit : ℕ → ℕ → Bool
has_bit set s = ((set / 2 ^ s) % 2) == 1

abbrev pub block_address : Heap → ℕ → ℕ
block_address heap block = heap.start + 16 * block

abbrev pub block_of : Heap → ℕ → ℕ
block_of heap a = (a - heap.start) / 16

-- a is a word of the heap, and not word 0 of a block
abbrev pub is_data : Heap → ℕ → Bool
is_data heap a = not (nat_lt a heap.start) && (nat_lt (block_of heap a) heap.blocks && not (((a - heap.start) % 16) == 0))

-- the block's word 0: a structure plus 1, or 0 for nobody
abbrev pub owner_word : Heap → ℕ → ℕ
owner_word heap block = heap.at (block_address heap block)

abbrev pub Owns : Heap → ℕ → ℕ → Type 0
Owns heap s block = owner_word heap block ≡ s + 1

-- the number is that of a structure of the set, plus 1
abbrev pub names_in : ℕ → ℕ → Bool
names_in set owner = not (owner == 0) && has_bit set (owner - 1)

-- the structures that the test picks own the same blocks in both heaps, with the same words in them
pub record AreAlikeIn (picks : ℕ → Bool) (h k : Heap) : Type 0 where
  pub owned : (s block : ℕ) → picks s ≡ true → block < h.blocks → Owns h s block ↔ Owns k s block
  pub words : (s block i : ℕ) → picks s ≡ true → block < h.blocks → i < 16 → Owns h s block
      → h.at (block_address h block + i) ≡ k.at (block_address h block + i)

-- The heaps stand at the same place, and so do the structures of the set in them.
pub record AreAlike (set : ℕ) (h k : Heap) : Type 0 where
  pub start : h.start ≡ k.start
  pub blocks : h.blocks ≡ k.blocks
  pub inside : AreAlikeIn (has_bit set) h k

abbrev pub LeavesOthers : ℕ → Heap → Heap → Type 0
LeavesOthers set h k = AreAlikeIn (λ s. not (has_bit set s)) h k

-- the heap after these writes, in order
abbrev pub with_writes : List WordWrite → Heap → Heap
with_writes writes heap = record heap { at = after_writes writes heap.at }

-- What a set of structures owns: the data words of its blocks by address, the owner of each of these blocks, and the
-- blocks that were given.
pub record Holding : Type 0 where
  pub word : ℕ → Option ℕ
  pub owner : ℕ → Option ℕ
  pub given : ℕ → Bool

abbrev pub nothing_held : Holding
nothing_held = record { word = λ a. None; owner = λ block. None; given = λ block. false }

-- a structure of the set owns the block, by these owner words
abbrev pub is_owned : ℕ → Heap → (ℕ → ℕ) → ℕ → Bool
is_owned set heap owners block = nat_lt block heap.blocks && names_in set (owners block)

-- what the set owns in a heap of this place, by these owner words, with these values, and with these blocks given
abbrev pub holding : ℕ → Heap → (ℕ → ℕ) → (ℕ → ℕ) → List ℕ → Holding
holding set heap owners values gives = record {
  word = λ a. if is_data heap a && is_owned set heap owners (block_of heap a) then Some (values a) else None;
  owner = λ block. if is_owned set heap owners block then Some (owners block - 1) else None;
  given = λ block. is_among gives block;
}

-- what the set owns in the heap
abbrev pub holding_of : ℕ → Heap → Holding
holding_of set heap = holding set heap (owner_word heap) heap.at []

-- the owner words after these writes, with nobody for the blocks that were given
abbrev pub owners_after : Heap → List WordWrite → List ℕ → ℕ → ℕ
owners_after heap writes gives block = if is_among gives block then 0 else owner_word (with_writes writes heap) block

abbrev pub owner_of_held : Option ℕ → ℕ
owner_of_held None = 0
owner_of_held (Some s) = s + 1

abbrev pub value_of_held : Option ℕ → ℕ
value_of_held None = 0
value_of_held (Some v) = v

-- a heap in which just this is owned
abbrev pub heap_of_holding : Heap → Holding → Heap
heap_of_holding heap held = record heap {
  at = λ a. if ((a - heap.start) % 16) == 0 then owner_of_held (held.owner (block_of heap a)) else value_of_held (held.word a);
}
