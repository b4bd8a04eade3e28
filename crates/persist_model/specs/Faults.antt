-- The first fault of words that are no sound image. The rules are tried in this order, and the first that fails gives the
-- fault, which is its number, and an address: 1 magic, 2 policy, 3 cells, 4 sizes, 5 address, 6 list, 7 record, 8 order, 9 room.
use Rattle.std.specs.Prelude.{◌≡◌, ◌≢◌, ◌⊎◌, ℕ, ◌+◌, ◌≤◌, List, [], ◌∷◌}
use Rattle.std.specs.List.{range_with_len}
use Rattle.persist_model.specs.ImageRules.{MAGIC_RULE, POLICY_RULE, CELLS_RULE, SIZES_RULE, ADDRESS_RULE, LIST_RULE, RECORD_RULE, ORDER_RULE, ROOM_RULE}
use Rattle.persist_model.specs.Region.{Words}
use Rattle.persist_model.specs.Records.{Record, Log, IsAmong}
use Rattle.persist_model.specs.Order.{Follows}
use Rattle.persist_model.specs.Shape.{Shape, SECOND_MAGIC, shape_of, words_of_shape, IsBucketOf, part_of, list_words, log_words, IsMagic, IsPolicy, IsCellCount, IsBucketCount, IsBlockCount, IsStructureCount, IsPartitionCount, IsKind, IsShape}
use Rattle.persist_model.specs.Chain.{TAIL, TO_APPEND, TO_REMOVE, view, out_address, next_of, prev_of, last_or, IsLink, IsAbsent, AppendRule, RemoveRule, IsExcepted}
use Rattle.persist_model.specs.Visit.{IsVisit, HasArrived, chain_from, address_words}
use Rattle.persist_model.specs.ImageRecords.{IsWellFormed}
use Rattle.persist_model.specs.State.{State, HasRoom, HasNumbers}
use Rattle.persist_model.specs.Sound.{IsClosedBucket, HasState}

-- which faults there are, each by its number and its address
abbrev pub FaultSet : Type 1
FaultSet = ℕ → ℕ → Type 0

-- P is tried: where it fails the fault is this one at this address, and where it holds it is what next says.
abbrev pub Tried : Type 0 → ℕ → ℕ → FaultSet → FaultSet
Tried P number address next fault a = ((P → ⊥) × (fault ≡ number) × (a ≡ address)) ⊎ (P × next fault a)

-- each of xs is tried, in order, the fault of x being at address x
abbrev pub TriedEach : (ℕ → Type 0) → ℕ → (ℕ → ℕ) → List ℕ → FaultSet → FaultSet
TriedEach P number address [] next = next
TriedEach P number address (x ∷ xs) next = Tried (P x) number (address x) (TriedEach P number address xs next)

-- each record is tried by those before it, the oldest first, the fault being at its gate
abbrev pub TriedOldest : (Log → Record → Type 0) → ℕ → Log → FaultSet → FaultSet
TriedOldest Good number [] next = next
TriedOldest Good number (r ∷ earlier) next = TriedOldest Good number earlier (Tried (Good earlier r) number r.at next)

-- no rule fails
abbrev pub NoFault : FaultSet
NoFault fault a = ⊥

-- the partitions of a region
abbrev pub parts : Shape → List ℕ
parts shape = range_with_len 0 shape.partitions

-- ---- the header

abbrev pub TryMagic : ℕ → Words → FaultSet → FaultSet
TryMagic size w next = Tried ((32 ≤ size) × IsMagic (w 0)) MAGIC_RULE 0 next

abbrev pub TryPolicy : Words → FaultSet → FaultSet
TryPolicy w next = Tried (IsPolicy (w 1)) POLICY_RULE 1 next

abbrev pub TryCells : Words → FaultSet → FaultSet
TryCells w next = Tried (IsCellCount (w 2)) CELLS_RULE 2 next

-- the words 3, 4 and 5, in format 2 also 6 and the kinds, and then how many words there are
abbrev pub TrySizes : ℕ → Words → FaultSet → FaultSet
TrySizes size w next =
    Tried (IsBucketCount (w 3)) SIZES_RULE 3 (
    Tried (IsBlockCount (w 4)) SIZES_RULE 4 (
    Tried (IsStructureCount (w 5)) SIZES_RULE 5 (
    Tried (w 0 ≡ SECOND_MAGIC → IsPartitionCount (w 3) (w 6)) SIZES_RULE 6 (
    TriedEach (λ a. w 0 ≡ SECOND_MAGIC → IsKind (w a)) SIZES_RULE (λ a. a) (range_with_len 13 (w 5)) (
    Tried (size ≡ words_of_shape (shape_of w)) SIZES_RULE 0 next)))))

abbrev pub IsShapeFault : ℕ → Words → FaultSet
IsShapeFault size w = TryMagic size w (TryPolicy w (TryCells w (TrySizes size w NoFault)))

-- ---- the lists

-- the words of a partition that are links, each of which is 0 or one of its buckets
abbrev pub TryAddressesOf : Shape → Words → ℕ → FaultSet → FaultSet
TryAddressesOf shape w p next fault a = (visited : List ℕ) × IsVisit (IsBucketOf shape p) (view p w) visited ×
    TriedEach (λ b. IsLink (IsBucketOf shape p) (view p w b)) ADDRESS_RULE (out_address p) (address_words (view p w) visited) next fault a

-- the PREV of each of xs, the first being behind before
abbrev pub TryLinksBack : Words → ℕ → List ℕ → FaultSet → FaultSet
TryLinksBack w before [] next = next
TryLinksBack w before (x ∷ xs) next = Tried ((w (prev_of x) ≡ before) ⊎ IsExcepted w (prev_of x)) LIST_RULE (prev_of x) (TryLinksBack w x xs next)

-- what is asked of the bucket n that is being put in, behind those that were visited
abbrev pub MayAppend : Words → List ℕ → ℕ → Type 0
MayAppend w visited n = IsAbsent n visited × AppendRule w n

-- what is asked of the bucket n that is being taken out of the chain
abbrev pub MayRemove : Shape → Words → List ℕ → ℕ → Type 0
MayRemove shape w chain n = RemoveRule w chain n (w (prev_of n)) (w (next_of n)) × IsClosedBucket shape w n

-- The list of a partition, whose view is w and whose HEAD stands at base: not both TO_APPEND and TO_REMOVE are set; the walk
-- arrives; what is put in and what is taken out may be; and each PREV and TAIL name the bucket before.
abbrev pub TryPoints : Shape → ℕ → Words → List ℕ → FaultSet → FaultSet
TryPoints shape base w visited next =
    Tried ((w TO_APPEND ≡ 0) ⊎ (w TO_REMOVE ≡ 0)) LIST_RULE (base + 4) (
    Tried (HasArrived w visited) LIST_RULE base (
    Tried (w TO_APPEND ≢ 0 → MayAppend w visited (w TO_APPEND)) LIST_RULE (base + 2) (
    Tried (w TO_REMOVE ≢ 0 → MayRemove shape w (chain_from w visited) (w TO_REMOVE)) LIST_RULE (base + 4) (
    TryLinksBack w 0 (chain_from w visited) (
    Tried ((w TAIL ≡ last_or 0 (chain_from w visited)) ⊎ IsExcepted w TAIL) LIST_RULE (base + 1) next)))))

abbrev pub TryListOf : Shape → Words → ℕ → FaultSet → FaultSet
TryListOf shape w p next fault a = (visited : List ℕ) × IsVisit (IsBucketOf shape p) (view p w) visited × TryPoints shape (list_words p) (view p w) visited next fault a

abbrev pub TryAddresses : Shape → Words → List ℕ → FaultSet → FaultSet
TryAddresses shape w [] next = next
TryAddresses shape w (p ∷ ps) next = TryAddressesOf shape w p (TryAddresses shape w ps next)

abbrev pub TryLists : Shape → Words → List ℕ → FaultSet → FaultSet
TryLists shape w [] next = next
TryLists shape w (p ∷ ps) next = TryListOf shape w p (TryLists shape w ps next)

-- the addresses of all partitions are tried before their lists
abbrev pub IsListFault : Shape → Words → FaultSet
IsListFault shape w = TryAddresses shape w (parts shape) (TryLists shape w (parts shape) NoFault)

-- ---- the log

abbrev pub TryRecords : Shape → State → FaultSet → FaultSet
TryRecords shape s next = TriedOldest (λ earlier r. IsWellFormed shape r) RECORD_RULE s.log next

abbrev pub TryOrder : Shape → State → FaultSet → FaultSet
TryOrder shape s next = TriedOldest (Follows (part_of shape) s.log) ORDER_RULE s.log next

-- the room of each partition, the fault being at its TAIL, and then the numbers that recovery draws
abbrev pub TryRoom : Shape → State → FaultSet → FaultSet
TryRoom shape s next =
    TriedEach (λ p. HasRoom shape s.log p (s.room p)) ROOM_RULE (λ p. list_words p + 1) (parts shape) (
    Tried ((r : Record) → IsAmong s.log r → HasNumbers shape s.log r) ROOM_RULE 9 next)

abbrev pub IsLogFault : Shape → State → FaultSet
IsLogFault shape s = TryRecords shape s (TryOrder shape s (TryRoom shape s NoFault))

-- ---- all rules

-- The first fault of these words and its address. The lists are tried where the header is right, and the log where the lists are.
pub data IsFirstFault (size : ℕ) (w : Words) (fault a : ℕ) : Type 0 where
  in_header : IsShapeFault size w fault a → IsFirstFault size w fault a
  in_lists : IsShape size w → IsListFault (shape_of w) (log_words (shape_of w) w) fault a → IsFirstFault size w fault a
  in_log : IsShape size w → (s : State) → HasState (shape_of w) w s → IsLogFault (shape_of w) s fault a → IsFirstFault size w fault a
