-- What is deleted where a transaction's records are cleared.
use Rattle.std.proofs.Common.{◌≡◌, ◌≢◌, inl, inr, ℕ, ◌<◌, ◌≤◌, List, [], ◌∷◌, ◌++◌, refl, ap, ◌∙◌, subst, arith}
use Rattle.persist_model.specs.Region.{Words}
use Rattle.persist_model.specs.Progress.{Progress, advance_all}
use Rattle.persist_model.specs.Records.{Record, Log, IsAmong, IsOf, IsCommitted}
use Rattle.persist_model.specs.Shape.{Shape, heap}
use Rattle.persist_model.specs.Need.{to_undo}
use Rattle.persist_model.specs.State.{State, IsSoundState}
use Rattle.persist_model.proofs.Projecting.{IsFixed-aways, Reaches-fixed}
use Rattle.log_laws.specs.Moves.{IsDeletionBy}
use Rattle.log_laws.specs.Recovering.{AreOnLog}
use Rattle.log_laws.proofs.Growing.{has_back}
use Rattle.region_layout.specs.declared.cell.Cell.{Cell}
use Rattle.region_layout.specs.declared.layout.Policy.TheVariants.{Force}
use Rattle.bucket_log.specs.declared.append.Place.{Place}
use Rattle.plan_records.specs.declared.parts.Part.{Part}
use Rattle.plan_records.specs.declared.parts.Part.TheVariants.{Append, Word, Fence as Wait, Clear}
use Rattle.bucket_log.specs.Appends.{region_append}
use Rattle.plan_records.specs.Cells.{appended}
use Rattle.plan_records.specs.Sequences.{undo_parts}
use Rattle.plan_records.specs.Courses.{own_records, AreDeleted, AreCellsOf, CanCommit, CanAbort, commit_parts, undo_end, abort_parts}
use Rattle.plan_records.specs.HeapCourses.{Goes, MayReach}
use Rattle.plan_records.specs.HeapClears.{AreAllGiven, ClearsMeet}
use Rattle.plan_records.proofs.OwnRecords.{own_in, own_out, to_undo_among}
use Rattle.plan_records.proofs.HeapRegions.{owner_is_heap_word}
use Rattle.plan_records.proofs.HeapGoing.{on_log_away, goes_fit}
use Rattle.plan_records.proofs.HeapCommits.{Committing, fences, ends, commit_own, commit_add, commit_store, commit_wait, zero_durably}

-- ---- the clearing

-- owner words are of the heap
owner_high : (shape : Shape) (p t : ℕ) (s : State) (owners : List ℕ) → IsSoundState shape s → CanCommit shape p t s.log owners → (a : ℕ) → IsAmong owners a → heap shape ≤ a
owner_high shape p t s owners sound can a m =
    let d = can.given a m in
    let is = (sound.formed d.0 d.1).deletion d.2.0 in
    subst (λ b. heap shape ≤ b) d.2.1 (owner_is_heap_word shape d.0.word is).0

zero : (shape : Shape) (p t : ℕ) (s : State) (owners : List ℕ) (q : Progress) (rest : List Part) (x : State) (z : Progress) (h : Words) →
    IsSoundState shape s → CanCommit shape p t s.log owners → Goes shape p t s (commit_parts Force t owners) q (Clear ∷ rest) x z →
    MayReach shape (IsAmong owners) z h → (a : ℕ) → IsAmong owners a → h a ≡ 0
zero shape p t s owners q rest x z h sound can goes may a m = Reaches-fixed (IsAmong owners) (advance_all z may.0) h a 0 m
    (IsFixed-aways z a 0 may.0 (on_log_away shape a may.0 (owner_high shape p t s owners sound can a m) may.1) (zero_durably shape p t owners s q rest x z goes a m)) may.2

-- the owners are all of t's deletions along a commit
abbrev Both : ℕ → List ℕ → Log → Progress → List Part → Type 0
Both t all o z l = Committing (λ o y. Unit {0}) (λ o y. Unit {0}) t all o z l × AreAllGiven t o all

module _ (shape : Shape) (p t : ℕ) (all : List ℕ) where
  kind_is : (o : Log) (z : Progress) (cell : Cell) (others : List Part) → Committing (λ o y. Unit {0}) (λ o y. Unit {0}) t all o z (Append cell ∷ others) → cell.kind ≡ 4
  kind_is o z _ _ (ends h) = refl

  both_add : (o : Log) (z : Progress) (cell : Cell) (others : List Part) (place : Place) (number : ℕ) → Both t all o z (Append cell ∷ others) →
      ((x : Record) → IsAmong o x → IsOf t x → x.lsn < number) → AreOnLog shape (region_append shape p place (appended place number cell)) →
      Both t all (appended place number cell ∷ o) (advance_all z (region_append shape p place (appended place number cell))) others
  both_add o z cell others place number fit above on = (
    commit_add (λ o y. Unit {0}) (λ o y. Unit {0}) shape p t all o z cell others place number fit.0 above on,
    λ a d. fit.1 a (has_back (IsDeletionBy t a) (appended place number cell) o
        (λ k. (let four = kind_is o z cell others fit.0 in let six : cell.kind ≡ 6 = k.0 in omega (arith, four, six))) d),
  )

  all_given : (s : State) (q : Progress) (rest : List Part) (x : State) (z : Progress) → AreAllGiven t s.log all →
      Goes shape p t s (commit_parts Force t all) q rest x z → AreAllGiven t (own_records t x.log) all
  all_given s q rest x z given goes = (goes_fit shape p t s (commit_parts Force t all) q (λ o y l. Both t all o y l)
      (λ o y cell others fit. commit_own (λ o y. Unit {0}) (λ o y. Unit {0}) shape p t all o y cell others fit.0) both_add
      (λ o y e others fit. (commit_store (λ o y. Unit {0}) (λ o y. Unit {0}) shape p t all o y e others fit.0, fit.1))
      (λ o y others fit. (commit_wait (λ o y. Unit {0}) (λ o y. Unit {0}) shape p t all (λ o y k. tt) o y others fit.0, fit.1))
      (fences tt, λ a d. given a (d.0, (own_out t s.log d.0 d.1).0, d.2)) rest x z goes).1

cleared : (shape : Shape) (p t : ℕ) (s : State) (owners : List ℕ) (q : Progress) (rest : List Part) (x : State) (z : Progress) (h : Words) →
    IsSoundState shape s → CanCommit shape p t s.log owners → AreAllGiven t s.log owners →
    Goes shape p t s (commit_parts Force t owners) q (Clear ∷ rest) x z → MayReach shape (IsAmong owners) z h → AreDeleted x.log t h
cleared shape p t s owners q rest x z h sound can given goes may over a d = zero shape p t s owners q rest x z h sound can goes may a
    (all_given shape p t owners s q (Clear ∷ rest) x z given goes a
    (d.0, own_in t x.log d.0 d.1 (d.2.2, λ five. (let six = d.2.0 in absurd (omega (arith, six, five)))), d.2))

-- ---- behind an undo

-- each record that is left to append is of t, and none is a commit's end
abbrev EachUndoes : ℕ → List Part → Type 0
EachUndoes t [] = Unit {0}
EachUndoes t (Append cell ∷ parts) = (cell.transaction ≡ t) × (cell.kind ≢ 5) × (cell.outcome ≢ 1) × EachUndoes t parts
EachUndoes t (Word e ∷ parts) = EachUndoes t parts
EachUndoes t (Wait ∷ parts) = EachUndoes t parts
EachUndoes t (Clear ∷ parts) = EachUndoes t parts

abbrev Undoing : ℕ → Log → Progress → List Part → Type 0
Undoing t o z l = (IsCommitted o t → ⊥) × EachUndoes t l

each_undoes : (t : ℕ) (cells : List Cell) (us : Log) → AreCellsOf cells us → ((u : Record) → IsAmong us u → u.transaction ≡ t) → EachUndoes t (undo_parts Force cells ++ undo_end Force t)
each_undoes t [] us are own = (refl, (λ e. absurd (omega (arith, e))), (λ e. absurd (omega (arith, e))), tt)
each_undoes t (cell ∷ cells) [] are own = absurd are
each_undoes t (cell ∷ cells) (u ∷ us) are own = (
  ap (λ (x : Record). x.transaction) are.0 ∙ own u (inl refl),
  (λ e. absurd (omega (arith, e))),
  (λ e. absurd (omega (arith, e))),
  each_undoes t cells us are.1 (λ x m. own x (inr m)),
)

not_committed : (shape : Shape) (p t : ℕ) (s : State) (updates : List Cell) (q : Progress) (rest : List Part) (x : State) (z : Progress) → CanAbort shape p t s.log updates →
    Goes shape p t s (abort_parts Force t updates) q rest x z → IsCommitted (own_records t x.log) t → ⊥
not_committed shape p t s updates q rest x z can goes = (goes_fit shape p t s (abort_parts Force t updates) q (λ o y l. Undoing t o y l)
    (λ o y cell others fit. (fit.1.0, fit.1.1))
    (λ o y cell others place number fit above on. (λ k. fit.0 (has_back _ (appended place number cell) o (λ e. fit.1.2 e.1) k), fit.1.3))
    (λ o y e others fit. fit) (λ o y others fit. fit) (
      λ k. can.going.running k.0 (own_out t s.log k.0 k.1).0 k.2.0,
      (
        refl,
        (λ e. absurd (omega (arith, e))),
        (λ e. absurd (omega (arith, e))),
        each_undoes t updates (to_undo t s.log) can.left (λ u m. (to_undo_among t s.log u m).2),
      ),
    ) rest x z goes).0

pub clears_meet : ClearsMeet
clears_meet = record {
  zero = zero;
  committed = cleared;
  undone = λ shape p t s updates q rest x z h can goes over. absurd (not_committed shape p t s updates q (Clear ∷ rest) x z can goes (own_end t x.log over));
}
  where
    own_end : (t : ℕ) (log : Log) → IsCommitted log t → IsCommitted (own_records t log) t
    own_end t log k = (k.0, own_in t log k.0 k.1 (k.2.0.1, λ five. (let four = k.2.0.0 in absurd (omega (arith, four, five)))), k.2)
