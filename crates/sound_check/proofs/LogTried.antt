-- The rules of a log, put together.
use Rattle.std.proofs.Common.{inl, inr, ℕ, ◌+◌, ◌-◌, ◌<◌, List, [], ◌∷◌, suc, refl, sym, subst, arith}
use Rattle.std.specs.List.{range_with_len}
use Rattle.std.proofs.lemmas.Bool.Decides.{eqb_tells}
use Rattle.persist_model.specs.Region.{Words}
use Rattle.persist_model.specs.Records.{Record, Log, IsAmong}
use Rattle.persist_model.specs.Order.{Follows, IsInOrder}
use Rattle.persist_model.specs.Shape.{Shape, part_of, list_words}
use Rattle.persist_model.specs.ImageRecords.{IsWellFormed, AreWellFormed}
use Rattle.persist_model.specs.State.{State, HasRoom, HasNumbers}
use Rattle.persist_model.specs.Sound.{HasState}
use Rattle.persist_model.specs.Chain.{Each}
use Rattle.persist_model.specs.Faults.{FaultSet, Tried, TriedEach, TriedOldest, NoFault, parts}
use Rattle.log_laws.proofs.AddressLists.{each_in_range}
use Rattle.log_laws.proofs.Trying.{each_here, each_past, oldest_past}
use Rattle.log_laws.proofs.LogFaults.{formed_all, follow_all}
use Rattle.log_laws.proofs.Soundness.{state_gates}
use Rattle.sound_check.specs.Logs.{HasAllRoom, LacksRoom, HoldsLog, HasLogFault}
use Rattle.sound_check.proofs.PartsTried.{parts_split}

-- ---- room

pub room_more : (shape : Shape) (log : Log) (s : State) (p q : ℕ) → ((r : ℕ) → r < p → HasRoom shape log r (s.room r)) → HasRoom shape log p (s.room p) → q < p + 1 → HasRoom shape log q (s.room q)
room_more shape log s p q before here lt = elim (eqb_tells q p) [
  | inl e ↦ subst (λ r. HasRoom shape log r (s.room r)) (sym e.1) here
  | inr ne ↦ (let apart = ne.1 in before q (omega (arith, lt, apart)))
]

pub room_here : (shape : Shape) (log : Log) (s : State) (p : ℕ) → p < shape.partitions → ((r : ℕ) → r < p → HasRoom shape log r (s.room r)) → (HasRoom shape log p (s.room p) → ⊥) →
    TriedEach (λ q. HasRoom shape log q (s.room q)) 9 (λ q. list_words q + 1) (parts shape) NoFault 9 (list_words p + 1)
room_here shape log s p lt before bad =
    subst (λ ps. TriedEach (λ q. HasRoom shape log q (s.room q)) 9 (λ q. list_words q + 1) ps NoFault 9 (list_words p + 1)) (sym (parts_split shape p lt))
    (each_here (λ q. HasRoom shape log q (s.room q)) 9 (λ q. list_words q + 1) (range_with_len 0 p) p (range_with_len (p + 1) (shape.partitions - suc p)) NoFault
    (each_in_range (λ q. HasRoom shape log q (s.room q)) 0 p (λ q le below. before q (omega (arith, below)))) bad)

-- ---- the log of a state

abbrev NumbersRule : Shape → Log → FaultSet
NumbersRule shape log = Tried ((r : Record) → IsAmong log r → HasNumbers shape log r) 9 9 NoFault

abbrev RoomRule : Shape → Log → (ℕ → ℕ) → FaultSet
RoomRule shape log room = TriedEach (λ p. HasRoom shape log p (room p)) 9 (λ p. list_words p + 1) (parts shape) (NumbersRule shape log)

abbrev OrderRule : Shape → Log → (ℕ → ℕ) → FaultSet
OrderRule shape log room = TriedOldest (Follows (part_of shape) log) 8 log (RoomRule shape log room)

abbrev LogRule : Shape → Log → (ℕ → ℕ) → FaultSet
LogRule shape log room = TriedOldest (λ earlier r. IsWellFormed shape r) 7 log (OrderRule shape log room)

-- a fault stays with more rules behind it
tried_more : (P : Type 0) (n x : ℕ) (next other : FaultSet) (i a : ℕ) → (next i a → other i a) → Tried P n x next i a → Tried P n x other i a
tried_more P n x next other i a more (inl f) = inl f
tried_more P n x next other i a more (inr f) = inr (f.0, more f.1)

oldest_more : (Good : Log → Record → Type 0) (n : ℕ) (log : Log) (next other : FaultSet) (i a : ℕ) → (next i a → other i a) → TriedOldest Good n log next i a → TriedOldest Good n log other i a
oldest_more Good n [] next other i a more f = more f
oldest_more Good n (r ∷ earlier) next other i a more f =
    oldest_more Good n earlier (Tried (Good earlier r) n r.at next) (Tried (Good earlier r) n r.at other) i a (tried_more (Good earlier r) n r.at next other i a more) f

each_more : (P : ℕ → Type 0) (n : ℕ) (at : ℕ → ℕ) (xs : List ℕ) (next other : FaultSet) (i a : ℕ) → (next i a → other i a) → TriedEach P n at xs next i a → TriedEach P n at xs other i a
each_more P n at [] next other i a more f = more f
each_more P n at (x ∷ xs) next other i a more f = tried_more (P x) n (at x) (TriedEach P n at xs next) (TriedEach P n at xs other) i a (each_more P n at xs next other i a more) f

pub record_fault : (shape : Shape) (w : Words) (log : Log) (i a : ℕ) → TriedOldest (λ earlier r. IsWellFormed shape r) 7 log NoFault i a → HasLogFault shape w log i a
record_fault shape w log i a f s has e =
    subst (λ l. LogRule shape l s.room i a) e (oldest_more (λ earlier r. IsWellFormed shape r) 7 log NoFault (OrderRule shape log s.room) i a (λ h. absurd h) f)

pub order_fault : (shape : Shape) (w : Words) (log : Log) (i a : ℕ) → AreWellFormed shape log → TriedOldest (Follows (part_of shape) log) 8 log NoFault i a → HasLogFault shape w log i a
order_fault shape w log i a formed f s has e =
    subst (λ l. LogRule shape l s.room i a) e (oldest_past (λ earlier r. IsWellFormed shape r) 7 log (OrderRule shape log s.room) i a (formed_all shape log formed)
    (oldest_more (Follows (part_of shape) log) 8 log NoFault (RoomRule shape log s.room) i a (λ h. absurd h) f))

pub room_fault : (shape : Shape) (w : Words) (log : Log) (i a : ℕ) → AreWellFormed shape log → IsInOrder (part_of shape) log → LacksRoom shape w log i a → HasLogFault shape w log i a
room_fault shape w log i a formed order f s has e =
    subst (λ l. LogRule shape l s.room i a) e (oldest_past (λ earlier r. IsWellFormed shape r) 7 log (OrderRule shape log s.room) i a (formed_all shape log formed)
    (oldest_past (Follows (part_of shape) log) 8 log (RoomRule shape log s.room) i a (follow_all (part_of shape) log log order)
    (each_more (λ p. HasRoom shape log p (s.room p)) 9 (λ p. list_words p + 1) (parts shape) NoFault (NumbersRule shape log) i a (λ h. absurd h) (f s has))))

all_room : (shape : Shape) (w : Words) (log : Log) (s : State) → HasState shape w s → HasAllRoom shape w log → Each (λ p. HasRoom shape log p (s.room p)) (parts shape)
all_room shape w log s has room = each_in_range (λ p. HasRoom shape log p (s.room p)) 0 shape.partitions (λ p le lt. room s has p (omega (arith, lt)))

pub numbers_fault : (shape : Shape) (w : Words) (log : Log) → AreWellFormed shape log → IsInOrder (part_of shape) log → HasAllRoom shape w log →
    (((r : Record) → IsAmong log r → HasNumbers shape log r) → ⊥) → HasLogFault shape w log 9 9
numbers_fault shape w log formed order room bad s has e =
    subst (λ l. LogRule shape l s.room 9 9) e (oldest_past (λ earlier r. IsWellFormed shape r) 7 log (OrderRule shape log s.room) 9 9 (formed_all shape log formed)
    (oldest_past (Follows (part_of shape) log) 8 log (RoomRule shape log s.room) 9 9 (follow_all (part_of shape) log log order)
    (each_past (λ p. HasRoom shape log p (s.room p)) 9 (λ p. list_words p + 1) (parts shape) (NumbersRule shape log) 9 9 (all_room shape w log s has room) (inl (bad, refl, refl)))))

-- ---- no fault

pub log_holds : (shape : Shape) (w : Words) (log : Log) → AreWellFormed shape log → IsInOrder (part_of shape) log → HasAllRoom shape w log →
    ((r : Record) → IsAmong log r → HasNumbers shape log r) → HoldsLog shape w log
log_holds shape w log formed order room numbers s has e = record {
  newest_first = has.records.newest_first;
  gates = state_gates shape w s has;
  formed = subst (AreWellFormed shape) e formed;
  order = subst (IsInOrder (part_of shape)) e order;
  room = λ p lt. subst (λ l. HasRoom shape l p (s.room p)) e (room s has p lt);
  numbers = subst (λ l. (r : Record) → IsAmong l r → HasNumbers shape l r) e numbers;
}
