-- What the rules say of literal words, by computing them in three parts: the header, the lists, the log.
use Rattle.std.proofs.Common.{◌≡◌, inl, inr, ℕ, ◌<◌, Bool, true, false, ◌==◌, ◌&&◌, if◌then◌else◌, List, [], ◌∷◌, refl, sym, subst}
use Rattle.std.proofs.lemmas.Bool.{eqb-true}
use Rattle.persist_model.specs.Region.{Words}
use Rattle.persist_model.specs.Records.{Log}
use Rattle.persist_model.specs.Shape.{Shape, shape_of, log_words, heap_words, IsBucketOf, IsShape}
use Rattle.persist_model.specs.State.{State, IsSoundState}
use Rattle.persist_model.specs.ImageRecords.{AreRecords}
use Rattle.persist_model.specs.Sound.{IsListOf, HasChain, room_of, HasState, IsSound, StandsIn}
use Rattle.persist_model.specs.Chain.{view, Chain}
use Rattle.persist_model.specs.Visit.{IsVisit}
use Rattle.log_laws.proofs.Visits.{visit_some}
use Rattle.log_laws.proofs.SoundLists.{chain_is_one}
use Rattle.persist_model.specs.Standing.{Stands}
use Rattle.log_laws.proofs.Standings.{stands_some}
use Rattle.persist_model.specs.Faults.{FaultSet, IsShapeFault, IsListFault, IsLogFault, IsFirstFault, in_header, in_lists, in_log}
use Rattle.log_laws.proofs.Tries.{CanFail}
use Rattle.log_laws.proofs.RecordSorting.{log_of, records_some}
use Rattle.log_laws.proofs.LogFaults.{LogHolds, log_some, sound_of_holds}
use Rattle.log_laws.proofs.Soundness.{ShapeHolds, shape_some, shape_of_holds, ListsHold, parts_some, chains_in, chains_are, state_gates, sound_has_no_fault}

-- an address and the value that stands there
abbrev pub word : ℕ → ℕ → ℕ × ℕ
word a v = (a, v)

-- the words that are listed, and 0 elsewhere
abbrev pub words_of : List (ℕ × ℕ) → Words
words_of [] b = 0
words_of (x ∷ xs) b = if b == x.0 then x.1 else words_of xs b

-- ---- verdicts

abbrev pub holds : (R : Type 0) (faults : FaultSet) → CanFail R faults → Bool
holds R faults (inl r) = true
holds R faults (inr f) = false

abbrev pub fails : (R : Type 0) (faults : FaultSet) → CanFail R faults → ℕ → ℕ → Bool
fails R faults (inl r) i a = false
fails R faults (inr f) i a = (f.0 == i) && (f.1 == a)

pub from_holds : (R : Type 0) (faults : FaultSet) (v : CanFail R faults) → holds R faults v ≡ true → R
from_holds R faults (inl r) e = r
from_holds R faults (inr f) e = cc

both_true : (x y : Bool) → (x && y) ≡ true → (x ≡ true) × (y ≡ true)
both_true true y e = (refl, e)
both_true false y e = cc

pub from_fails : (R : Type 0) (faults : FaultSet) (v : CanFail R faults) (i a : ℕ) → fails R faults v i a ≡ true → faults i a
from_fails R faults (inl r) i a e = cc
from_fails R faults (inr f) i a e =
    let k = both_true (f.0 == i) (f.1 == a) e in subst (λ j. faults j a) (eqb-true f.0 i k.0) (subst (faults f.0) (eqb-true f.1 a k.1) f.2)

-- ---- the header

abbrev pub HeaderHolds : ℕ → Words → Type 0
HeaderHolds size w = holds (ShapeHolds size w) (IsShapeFault size w) (shape_some size w) ≡ true

pub header_fault : (size : ℕ) (w : Words) (i a : ℕ) → fails (ShapeHolds size w) (IsShapeFault size w) (shape_some size w) i a ≡ true → IsFirstFault size w i a
header_fault size w i a e = in_header (from_fails (ShapeHolds size w) (IsShapeFault size w) (shape_some size w) i a e)

pub header_is : (size : ℕ) (w : Words) → HeaderHolds size w → IsShape size w
header_is size w e = shape_of_holds size w (from_holds (ShapeHolds size w) (IsShapeFault size w) (shape_some size w) e)

-- ---- the lists

abbrev pub ListsAreSound : Shape → Words → Type 0
ListsAreSound shape w = holds (ListsHold shape (log_words shape w)) (IsListFault shape (log_words shape w)) (parts_some shape (log_words shape w)) ≡ true

pub lists_fault : (size : ℕ) (w : Words) (shape : Shape) (i a : ℕ) → shape_of w ≡ shape → HeaderHolds size w →
    fails (ListsHold shape (log_words shape w)) (IsListFault shape (log_words shape w)) (parts_some shape (log_words shape w)) i a ≡ true → IsFirstFault size w i a
lists_fault size w shape i a is header e =
    in_lists (header_is size w header) (subst (λ s. IsListFault s (log_words s w) i a) (sym is)
    (from_fails (ListsHold shape (log_words shape w)) (IsListFault shape (log_words shape w)) (parts_some shape (log_words shape w)) i a e))

-- ---- the log

-- the image's state, whose log is this one
abbrev pub state_at : Shape → Words → Log → State
state_at shape w log = record { log = log; words = heap_words shape w; room = λ p. room_of shape (log_words shape w) p (chains_in shape (log_words shape w) p) }

pub has_state_at : (shape : Shape) (w : Words) (log : Log) → ListsAreSound shape w → log_of shape (chains_in shape (log_words shape w)) (log_words shape w) ≡ log → HasState shape w (state_at shape w log)
has_state_at shape w log lists is = record {
  chains = chains_in shape z;
  lists = chains_are shape z (from_holds (ListsHold shape z) (IsListFault shape z) (parts_some shape z) lists);
  records = subst (λ l. AreRecords shape (chains_in shape z) z l) is (records_some shape (chains_in shape z) z);
  words = refl;
  room = λ p lt. refl;
}
  where
    z : Words
    z = log_words shape w

abbrev pub LogIs : Shape → Words → Log → Type 0
LogIs shape w log = log_of shape (chains_in shape (log_words shape w)) (log_words shape w) ≡ log

pub log_fault : (size : ℕ) (w : Words) (shape : Shape) (log : Log) (i a : ℕ) → shape_of w ≡ shape → HeaderHolds size w → ListsAreSound shape w → LogIs shape w log →
    fails (LogHolds shape (state_at shape w log)) (IsLogFault shape (state_at shape w log)) (log_some shape (state_at shape w log)) i a ≡ true → IsFirstFault size w i a
log_fault size w shape log i a is header lists log_is e =
    let has : HasState (shape_of w) w (state_at shape w log) = subst (λ s. HasState s w (state_at shape w log)) (sym is) (has_state_at shape w log lists log_is) in
    in_log (header_is size w header) (state_at shape w log) has (subst (λ s. IsLogFault s (state_at shape w log) i a) (sym is)
    (from_fails (LogHolds shape (state_at shape w log)) (IsLogFault shape (state_at shape w log)) (log_some shape (state_at shape w log)) i a e))

pub is_sound : (size : ℕ) (w : Words) (shape : Shape) (log : Log) → shape_of w ≡ shape → HeaderHolds size w → ListsAreSound shape w → LogIs shape w log →
    holds (LogHolds shape (state_at shape w log)) (IsLogFault shape (state_at shape w log)) (log_some shape (state_at shape w log)) ≡ true → IsSound size w
is_sound size w shape log is header lists log_is e = record {
  shape = header_is size w header;
  state = state_at shape w log;
  has = subst (λ s. HasState s w (state_at shape w log)) (sym is) has;
  sound = subst (λ s. IsSoundState s (state_at shape w log)) (sym is) (sound_of_holds shape (state_at shape w log) has.records.newest_first (state_gates shape w (state_at shape w log) has)
      (from_holds (LogHolds shape (state_at shape w log)) (IsLogFault shape (state_at shape w log)) (log_some shape (state_at shape w log)) e));
}
  where
    has : HasState shape w (state_at shape w log)
    has = has_state_at shape w log lists log_is

-- ---- standing words

-- v is what the standing value computes to
pub stands_at : (size : ℕ) (w : Words) (shape : Shape) (log : Log) (a v : ℕ) → shape_of w ≡ shape → ListsAreSound shape w → LogIs shape w log →
    (stands_some shape.policy log (heap_words shape w) a).0 ≡ v → StandsIn w a v
stands_at size w shape log a v is lists log_is e = (
  state_at shape w log,
  subst (λ s. HasState s w (state_at shape w log)) (sym is) (has_state_at shape w log lists log_is),
  subst (λ s. Stands s.policy log (heap_words shape w) a v) (sym is) (subst (λ x. Stands shape.policy log (heap_words shape w) a x) e (stands_some shape.policy log (heap_words shape w) a).1),
)

-- ---- chains and records

pub chain_at : (w : Words) (shape : Shape) (p : ℕ) (chain : List ℕ) → ListsAreSound shape w → p < shape.partitions → chains_in shape (log_words shape w) p ≡ chain → HasChain shape w p chain
chain_at w shape p chain lists lt e =
    subst (IsListOf shape p (log_words shape w)) e (chains_are shape (log_words shape w) (from_holds (ListsHold shape (log_words shape w)) (IsListFault shape (log_words shape w)) (parts_some shape (log_words shape w)) lists) p lt)

-- a sound list's chain is a chain
pub chain_of_list : (shape : Shape) (p : ℕ) (z : Words) (chain : List ℕ) → IsListOf shape p z chain → Chain (view p z) chain
chain_of_list shape p z chain h = record { walk = h.rules.walk; is_walk = h.rules.is_walk; no_repeats = h.rules.no_repeats; chain_is = h.rules.chain_is }

-- no other list is the chain
pub no_other_chain : (w : Words) (shape : Shape) (p : ℕ) (chain other : List ℕ) → HasChain shape w p chain → (chain ≡ other → ⊥) → HasChain shape w p other → ⊥
no_other_chain w shape p chain other h apart k = apart (chain_is_one shape p (view p (log_words shape w)) chain other h.rules k.rules)

pub sound_has_no : (size : ℕ) (w : Words) (i a : ℕ) → IsFirstFault size w i a → IsSound size w → ⊥
sound_has_no size w i a f h = sound_has_no_fault size w i a h f

pub visit_at : (shape : Shape) (p : ℕ) (w : Words) (xs : List ℕ) → (visit_some shape p w).0 ≡ xs → IsVisit (IsBucketOf shape p) w xs
visit_at shape p w xs e = subst (IsVisit (IsBucketOf shape p) w) e (visit_some shape p w).1
