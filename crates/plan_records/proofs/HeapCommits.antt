-- A commit under force: its first fence makes what was written durable, and its deletions leave the owner words 0.
use Rattle.std.proofs.Common.{◌≡◌, ◌≢◌, ◌⊎◌, inl, inr, ℕ, ◌<◌, List, [], ◌∷◌, ◌++◌, refl, sym, subst, arith}
use Rattle.std.proofs.lemmas.Bool.Decides.{eqb_tells}
use Rattle.persist_model.specs.declared.event.Event.{Event}
use Rattle.persist_model.specs.declared.event.Event.TheVariants.{PStore, Fence}
use Rattle.persist_model.specs.Progress.{Progress, advance, advance_all}
use Rattle.persist_model.specs.Records.{Record, Log, IsAmong, IsOf}
use Rattle.persist_model.specs.Shape.{Shape}
use Rattle.persist_model.specs.State.{State}
use Rattle.persist_model.proofs.Projecting.{IsFixed, IsDue-stored, IsDue-away, IsFixed-fence}
use Rattle.log_laws.specs.Recovering.{AreOnLog}
use Rattle.region_layout.specs.declared.cell.Cell.{Cell}
use Rattle.region_layout.specs.declared.layout.Policy.TheVariants.{Force}
use Rattle.bucket_log.specs.declared.append.Place.{Place}
use Rattle.plan_records.specs.declared.parts.Part.{Part}
use Rattle.plan_records.specs.declared.parts.Part.TheVariants.{Append, Word, Fence as Wait, Clear}
use Rattle.bucket_log.specs.Appends.{region_append}
use Rattle.persist_model.specs.declared.kinds.Outcome.TheVariants.{Committed}
use Rattle.plan_records.specs.Cells.{appended}
use Rattle.region_layout.specs.RecordCells.{cell_of_end}
use Rattle.plan_records.specs.Sequences.{zero_parts, owner_parts}
use Rattle.plan_records.specs.Courses.{own_records, commit_parts}
use Rattle.plan_records.specs.HeapCourses.{newest, Goes, CommitsMeet}
use Rattle.plan_records.proofs.HeapOwn.{latest_own}
use Rattle.plan_records.proofs.HeapGoing.{Holds, Kept, kept_fenced, kept_reached, goes_fit}
use Rattle.plan_records.proofs.HeapWrites.{holds_first}

-- each of all the owners is left, or has 0 as its newest value
abbrev pub AreLeftOrZero : List ℕ → List ℕ → Progress → Type 0
AreLeftOrZero all left z = (b : ℕ) → IsAmong all b → IsAmong left b ⊎ (newest z b ≡ 0)

-- What is left of the commit fits these own records and this progress: B holds before the first fence, and E behind it.
pub data Committing (B E : Log → Progress → Type 0) (t : ℕ) (all : List ℕ) (o : Log) (z : Progress) : List Part → Type 0 where
  fences : B o z → Committing B E t all o z (Wait ∷ Append (cell_of_end t Committed) ∷ (owner_parts all ++ Clear ∷ []))
  ends : E o z → Committing B E t all o z (Append (cell_of_end t Committed) ∷ (owner_parts all ++ Clear ∷ []))
  deletes : (a : ℕ) (left : List ℕ) → AreLeftOrZero all (a ∷ left) z → Committing B E t all o z (Word (PStore a 0) ∷ ((zero_parts left ++ Wait ∷ []) ++ Clear ∷ []))
  fences_again : AreLeftOrZero all [] z → Committing B E t all o z (Wait ∷ Clear ∷ [])
  clears : ((b : ℕ) → IsAmong all b → IsFixed z b 0) → Committing B E t all o z (Clear ∷ [])

module _ (B E : Log → Progress → Type 0) (shape : Shape) (p t : ℕ) (all : List ℕ) where
  -- the stores that are left
  enter : (o : Log) (z : Progress) (left : List ℕ) → AreLeftOrZero all left z → Committing B E t all o z ((zero_parts left ++ Wait ∷ []) ++ Clear ∷ [])
  enter o z [] zero = fences_again zero
  enter o z (a ∷ left) zero = deletes a left zero

  enter_all : (o : Log) (z : Progress) (owners : List ℕ) → ((b : ℕ) → IsAmong all b → IsAmong owners b) → Committing B E t all o z (owner_parts owners ++ Clear ∷ [])
  enter_all o z [] same = clears (λ b m. absurd (same b m))
  enter_all o z (a ∷ owners) same = deletes a owners (λ b m. inl (same b m))

  pub commit_own : (o : Log) (z : Progress) (cell : Cell) (others : List Part) → Committing B E t all o z (Append cell ∷ others) → (cell.transaction ≡ t) × (cell.kind ≢ 5)
  commit_own o z _ _ (ends h) = (refl, λ e. absurd (omega (arith, e)))

  pub commit_add : (o : Log) (z : Progress) (cell : Cell) (others : List Part) (place : Place) (number : ℕ) → Committing B E t all o z (Append cell ∷ others) →
      ((x : Record) → IsAmong o x → IsOf t x → x.lsn < number) → AreOnLog shape (region_append shape p place (appended place number cell)) →
      Committing B E t all (appended place number cell ∷ o) (advance_all z (region_append shape p place (appended place number cell))) others
  commit_add o z _ _ place number (ends h) above on = enter_all (appended place number (cell_of_end t Committed) ∷ o)
      (advance_all z (region_append shape p place (appended place number (cell_of_end t Committed)))) all (λ b m. m)

  -- one owner word is 0, and the others are as before
  one_less : (z : Progress) (a : ℕ) (left : List ℕ) → AreLeftOrZero all (a ∷ left) z → AreLeftOrZero all left (advance z (PStore a 0))
  one_less z a left zero b m = elim (eqb_tells a b) [
    | inl same ↦ inr (subst (λ c. newest (advance z (PStore a 0)) c ≡ 0) same.1 (IsDue-stored z a 0))
    | inr ne ↦ elim (zero b m) [
      | inl (inl k) ↦ absurd (ne.1 (sym k))
      | inl (inr k) ↦ inl k
      | inr due ↦ inr (IsDue-away z b 0 (PStore a 0) ne.1 due)
    ]
  ]

  pub commit_store : (o : Log) (z : Progress) (e : Event) (others : List Part) → Committing B E t all o z (Word e ∷ others) → Committing B E t all o (advance z e) others
  commit_store o z _ _ (deletes a left zero) = enter o (advance z (PStore a 0)) left (one_less z a left zero)

  fenced : (z : Progress) → AreLeftOrZero all [] z → (b : ℕ) → IsAmong all b → IsFixed (advance z Fence) b 0
  fenced z zero b m = elim (zero b m) [ inl k ↦ absurd k | inr due ↦ IsFixed-fence z b 0 due ]

  pub commit_wait : ((o : Log) (z : Progress) → B o z → E o (advance z Fence)) → (o : Log) (z : Progress) (others : List Part) →
      Committing B E t all o z (Wait ∷ others) → Committing B E t all o (advance z Fence) others
  commit_wait fence o z _ (fences h) = ends (fence o z h)
  commit_wait fence o z _ (fences_again zero) = clears (fenced z zero)

  pub committing : ((o : Log) (z : Progress) → B o z → E o (advance z Fence)) → (s : State) (q : Progress) (rest : List Part) (x : State) (z : Progress) → B (own_records t s.log) q →
      Goes shape p t s (commit_parts Force t all) q rest x z → Committing B E t all (own_records t x.log) z rest
  committing fence s q rest x z first goes = goes_fit shape p t s (commit_parts Force t all) q (λ o y l. Committing B E t all o y l) commit_own commit_add commit_store (commit_wait fence)
      (fences first) rest x z goes

  pub ended_there : (o : Log) (z : Progress) (cell : Cell) (others : List Part) → Committing B E t all o z (Append cell ∷ others) → E o z
  ended_there o z _ _ (ends h) = h

  pub zero_there : (o : Log) (z : Progress) (others : List Part) → Committing B E t all o z (Clear ∷ others) → (b : ℕ) → IsAmong all b → IsFixed z b 0
  zero_there o z _ (clears h) = h

-- the stores and the fence of the deletions, whatever else is pending
pub zero_durably : (shape : Shape) (p t : ℕ) (all : List ℕ) (s : State) (q : Progress) (rest : List Part) (x : State) (z : Progress) →
    Goes shape p t s (commit_parts Force t all) q (Clear ∷ rest) x z → (b : ℕ) → IsAmong all b → IsFixed z b 0
zero_durably shape p t all s q rest x z goes = zero_there (λ o y. Unit {0}) (λ o y. Unit {0}) shape p t all (own_records t x.log) z rest
    (committing (λ o y. Unit {0}) (λ o y. Unit {0}) shape p t all (λ o y k. tt) s q (Clear ∷ rest) x z tt goes)

pub commits_meet : CommitsMeet
commits_meet shape p t s owners q rest x z h sound first goes may force a r none last =
    kept_reached shape t x.log z h
    (ended_there (Holds shape t) (Kept shape t) shape p t owners (own_records t x.log) z _ _
    (committing (Holds shape t) (Kept shape t) shape p t owners (kept_fenced shape t) s q _ x z (holds_first shape t s q sound first) goes))
    may a r (latest_own t a x.log r last)
