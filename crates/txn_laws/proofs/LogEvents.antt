-- An event of a part of the log leaves the heap's words, but for what a fence makes durable.
use Rattle.std.proofs.Common.{◌≡◌, inl, inr, ℕ, ◌+◌, ◌<◌, List, [], ◌∷◌, ◌++◌, length, sym, ap, subst, arith}
use Rattle.std.proofs.lemmas.Bool.Decides.{eqb_tells}
use Rattle.persist_model.specs.declared.event.Event.{Event}
use Rattle.persist_model.specs.declared.event.Event.TheVariants.{Store, PStore, WriteBack, Fence}
use Rattle.persist_model.specs.declared.event.Candidate.{Candidate}
use Rattle.persist_model.specs.Region.{Words, Region, candidate, IsCandidate, newest, after}
use Rattle.persist_model.specs.Progress.{advance, Tracks, IsDurable}
use Rattle.persist_model.specs.Shape.{Shape, heap, IsHeapWord}
use Rattle.persist_model.specs.State.{State}
use Rattle.persist_model.proofs.Candidates.{IsCandidate-fenced, newest-fenced}
use Rattle.persist_model.proofs.Images.{at-with_word_other}
use Rattle.persist_model.proofs.Tracking.{Tracks-event, Tracks-aside}
use Rattle.bucket_log.specs.PartWords.{IsOnPart}
use Rattle.bucket_log.proofs.Partitions.{part_word_below}
use Rattle.log_keeper.specs.Logged.{Keeping, plan_in, IsLoggedAt}
use Rattle.log_keeper.specs.Events.{IsNextEvent}
use Rattle.log_keeper.proofs.Progressing.{part_durable, durable_event, on_event, part_on}
use Rattle.txn_laws.specs.Txns.{Txn}
use Rattle.txn_laws.specs.Owners.{IsMine}
use Rattle.txn_laws.specs.Heaps.{IsKept}
use Rattle.txn_laws.proofs.Storing.{fenced_some}

-- a durable store below the heap, or a fence
abbrev pub IsLogEvent : Shape → Event → Type 0
IsLogEvent shape (Store a v) = ⊥
IsLogEvent shape (PStore a v) = a < heap shape
IsLogEvent shape (WriteBack a) = ⊥
IsLogEvent shape Fence = Unit {0}

pub next_is_log : (shape : Shape) (base : Words) (s : State) (chains : ℕ → List ℕ) (k : Keeping) (region : Region) (p : ℕ) (e : Event) → IsNextEvent shape k p e →
    IsLoggedAt shape base s chains k region → IsLogEvent shape e
next_is_log shape base s chains k region p e next h = by e
    (on_event shape p (plan_in shape k p) (part_on shape p base s (chains p) (k.runs p).part h.allowed next.inside h.has (h.can p next.inside)) (k.runs p).made e next.next)
    (durable_event (plan_in shape k p) (part_durable shape p (k.runs p).part) (k.runs p).made e next.next)
  where
    by : (e : Event) → IsOnPart shape p e → IsDurable e → IsLogEvent shape e
    by (Store a v) on d = absurd d
    by (PStore a v) on d = part_word_below shape p a h.allowed next.inside on
    by (WriteBack a) on d = absurd d
    by Fence on d = tt

-- what it leaves of the words of the heap
pub record LeavesHeap (shape : Shape) (region later : Region) : Type 0 where
  pub full : (a : ℕ) → IsHeapWord shape a → 0 < length (region.at a) → 0 < length (later.at a)
  pub newest_is : (a : ℕ) → IsHeapWord shape a → newest (later.at a) ≡ newest (region.at a)
  pub fewer : (a v : ℕ) → IsHeapWord shape a → IsCandidate (later.at a) v → IsCandidate (region.at a) v

pub leaves_heap : (shape : Shape) (region : Region) (by : ℕ) (e : Event) → IsLogEvent shape e → LeavesHeap shape region (after region by e)
leaves_heap shape region by (Store a v) on = absurd on
leaves_heap shape region by (WriteBack a) on = absurd on
leaves_heap shape region by Fence on = record {
  full = λ a m some. fenced_some (by + 1) (region.at a) some;
  newest_is = λ a m. newest-fenced (by + 1) (region.at a);
  fewer = λ a v m is. IsCandidate-fenced (by + 1) (region.at a) v is;
}
leaves_heap shape region by (PStore a v) on = record {
  full = λ b m some. subst (λ (cs : List Candidate). 0 < length cs) (sym (same b m)) some;
  newest_is = λ b m. ap newest (same b m);
  fewer = λ b u m is. subst (λ (cs : List Candidate). IsCandidate cs u) (same b m) is;
}
  where
    same : (b : ℕ) → IsHeapWord shape b → (after region by (PStore a v)).at b ≡ region.at b
    same b m = at-with_word_other a (λ cs. cs ++ candidate v (by + 1) ∷ []) region b (λ e. (let le = m.0 in omega (arith, le, e, on)))

-- whoever makes it, the region has of a lane's own words what it had
pub kept_beside : (shape : Shape) (l : ℕ) (x : Txn) (region : Region) (by : ℕ) (e : Event) → ((a : ℕ) → IsMine x a → IsHeapWord shape a) → IsLogEvent shape e → IsKept l x region →
    IsKept l x (after region by e)
kept_beside shape l x region by (Store a v) inside on keeps = absurd on
kept_beside shape l x region by (WriteBack a) inside on keeps = absurd on
kept_beside shape l x region by (PStore a v) inside on keeps = record {
  progress = keeps.progress;
  tracks = Tracks-aside (IsMine x) l by keeps.progress region (PStore a v) (λ m. (let le = (inside a m).0 in omega (arith, le, on))) keeps.tracks;
  own = keeps.own;
  fenced = keeps.fenced;
}
kept_beside shape l x region by Fence inside on keeps = elim (eqb_tells by l) [
  | inl e ↦ record {
    progress = advance keeps.progress Fence;
    tracks = subst (λ n. Tracks (IsMine x) l (advance keeps.progress Fence) (after region n Fence)) (sym e.1) (Tracks-event (IsMine x) l keeps.progress region Fence tt keeps.tracks);
    own = λ a v k. absurd k;
    fenced = λ on a v k. absurd k;
  }
  | inr ne ↦ record {
    progress = keeps.progress;
    tracks = Tracks-aside (IsMine x) l by keeps.progress region Fence ne.1 keeps.tracks;
    own = keeps.own;
    fenced = keeps.fenced;
  }
]
