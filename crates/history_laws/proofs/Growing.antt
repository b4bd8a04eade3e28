-- What stands where no record decides, and how the history grows.
use Rattle.std.proofs.Common.{◌≡◌, inl, inr, ℕ, ◌==◌, if◌then◌else◌, [], ◌∷◌, refl, sym, ◌∙◌, subst}
use Rattle.std.proofs.lemmas.Bool.Decides.{eqb_tells}
use Rattle.persist_model.specs.Region.{Words, Region, IsCandidate, MayStand}
use Rattle.persist_model.specs.Progress.{latest}
use Rattle.persist_model.specs.Records.{Record, Log}
use Rattle.persist_model.specs.Standing.{Stands, undone, deleted, redone, kept}
use Rattle.persist_model.specs.Shape.{Shape, heap_words}
use Rattle.persist_model.specs.State.{State}
use Rattle.log_laws.specs.Recovery.{HasDecidingRecord}
use Rattle.log_laws.specs.Moves.{IsDeletionBy, IsChangeBy}
use Rattle.log_laws.proofs.Deciding.{has_or_none}
use Rattle.log_laws.proofs.Standings.{latest_some}
use Rattle.persist_model.specs.declared.kinds.Outcome.TheVariants.{Committed}
use Rattle.plan_records.specs.Cells.{appended}
use Rattle.region_layout.specs.RecordCells.{cell_of_end}
use Rattle.plan_records.specs.Appends.{Commits, with_record}
use Rattle.plan_records.proofs.Changes.{decide_change, heap_word_is}
use Rattle.plan_records.proofs.Records.{commit_ends_write}
use Rattle.history_laws.specs.Histories.{Entry, fold}
use Rattle.history_laws.specs.Moments.{IsEntryOf}
use Rattle.history_laws.specs.Growing.{UncoveredAreSettled, HistoryGrows}
use Rattle.history_laws.proofs.Folding.{value_append}
use Rattle.history_laws.proofs.AppendsBeside.{decide_deletion_by}

-- ---- words that no record decides

-- an uncovered word stands at itself
stands_kept : (policy : ℕ) (log : Log) (w : Words) (a v : ℕ) → (HasDecidingRecord policy log a → ⊥) → Stands policy log w a v → v ≡ w a
stands_kept policy log w a v off (undone u first e) = absurd (off (inl (u, first.among, first.has)))
stands_kept policy log w a v off (deleted none d e) = absurd (off (inr (inl d)))
stands_kept policy log w a v off (redone none nd r last e) = absurd (off (inr (inr (r, last.among, last.has))))
stands_kept policy log w a v off (kept none nd nr e) = e

-- w with another value in a
abbrev exchanged : Words → ℕ → ℕ → Words
exchanged w a v = λ b. if b == a then v else w b

exchanged_here : (w : Words) (a v : ℕ) → exchanged w a v a ≡ v
exchanged_here w a v = elim (eqb_tells a a) [ inl e ↦ (rw e.0 refl) | inr ne ↦ absurd (ne.1 refl) ]

exchanged_stands : (w : Words) (a v : ℕ) (region : Region) → IsCandidate (region.at a) v → MayStand w region → MayStand (exchanged w a v) region
exchanged_stands w a v region is may b lt = elim (eqb_tells b a) [
  | inl e ↦ (rw e.0 (subst (λ c. IsCandidate (region.at c) v) (sym e.1) is))
  | inr ne ↦ (rw ne.0 (may b lt))
]

pub uncovered_are_settled : UncoveredAreSettled
uncovered_are_settled shape log h w region size may stands a un v is =
    let i = exchanged w a v in
    let here : heap_words shape i a ≡ v = heap_word_is shape i a un.0 ∙ exchanged_here w a v in
    sym here ∙ sym (stands_kept shape.policy log (heap_words shape i) a (h a) un.1 (stands i (exchanged_stands w a v region is may) a un.0))

-- ---- the history grows

module _ (shape : Shape) (v : Words) (s y : State) (t : ℕ) (k : Commits shape v s t y) (h : Words) (entry : Entry) (writes : IsEntryOf s.log h t entry) where
  pub stands_grown : (a : ℕ) → Stands shape.policy s.log (heap_words shape v) a (h a) → Stands shape.policy y.log (heap_words shape v) a (latest entry.writes a (h a))
  stands_grown a before = elim (has_or_none (IsDeletionBy t a) s.log (decide_deletion_by t a)) [
    | inl d ↦ subst (λ u. Stands shape.policy y.log (heap_words shape v) a u) (sym (writes.deleted a d)) (k.standing.deleted a d)
    | inr nd ↦ elim (latest_some (IsChangeBy t a) s.log (decide_change t a)) [
      | inl r ↦ subst (λ u. Stands shape.policy y.log (heap_words shape v) a u) (sym (writes.changed a r.0 nd r.1)) (k.standing.changed a r.0 nd r.1)
      | inr nc ↦ subst (λ u. Stands shape.policy y.log (heap_words shape v) a u) (sym (writes.others a nd nc (h a))) (k.standing.others a (h a) nd nc before)
    ]
  ]

pub history_grows : HistoryGrows
history_grows shape p base v s chain place number transaction start history entry may can written writes reached before a m =
    let e : Record = appended place number (cell_of_end transaction Committed) in
    subst (λ u. Stands shape.policy (with_record p s e).log (heap_words shape v) a u) (sym (value_append history (entry ∷ []) a (start a)))
    (stands_grown shape v s (with_record p s e) transaction ((commit_ends_write shape p base s chain place number transaction may can).whole v written reached) (fold start history) entry writes a (before a m))
