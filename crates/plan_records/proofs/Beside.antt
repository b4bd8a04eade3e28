-- What others do keeps a transaction's own records, and what its deletions leave.
use Rattle.std.proofs.Common.{◌≡◌, ◌≢◌, ◌⊎◌, inl, inr, ℕ, ◌==◌, true, false, if◌then◌else◌, List, [], ◌∷◌, ◌++◌, refl, sym, ap, ◌∙◌, arith}
use Rattle.std.proofs.lemmas.Bool.Decides.{eqb_tells}
use Rattle.persist_model.specs.declared.event.Event.TheVariants.{PStore}
use Rattle.persist_model.specs.Progress.{Progress, write, latest, advance, advance_all}
use Rattle.persist_model.specs.Records.{Record, Log, IsAmong, Has, IsOf, IsEnd, IsRunning, IsCommitted}
use Rattle.persist_model.proofs.Projecting.{latest-push}
use Rattle.log_laws.specs.Closing.{IsSublog, empty, stays, goes}
use Rattle.log_laws.specs.Moves.{IsDeletionBy}
use Rattle.plan_records.specs.declared.parts.Part.TheVariants.{Fence as Wait}
use Rattle.persist_model.specs.declared.kinds.Outcome.TheVariants.{Committed, RolledBack}
use Rattle.plan_records.specs.Cells.{appended}
use Rattle.region_layout.specs.RecordCells.{cell_of_end}
use Rattle.plan_records.specs.Sequences.{zero_parts, owner_parts}
use Rattle.plan_records.specs.Passing.{inserted}
use Rattle.plan_records.specs.Courses.{own_records}
use Rattle.plan_records.specs.Others.{OthersKeepOwn, AppendsStandInPart, EndsLeaveDeleted, word_events, OwnersAreZero}
use Rattle.plan_records.proofs.Going.{part_is}
use Rattle.plan_records.proofs.Passing.{inserted_out}
use Rattle.plan_records.proofs.OwnRecords.{own_other, own_either, own_beside}

-- ---- what others do

pub own_part : (P : Record → Type 0) (t : ℕ) (later log : Log) → ((r : Record) → IsAmong log r → P r → IsOf t r → ⊥) → IsSublog P later log → own_records t later ≡ own_records t log
own_part P t _ _ off empty = refl
own_part P t _ _ off (stays r {later = later} {log = log} part) = own_either t r later log (own_part P t later log (λ x m. off x (inr m)) part)
own_part P t _ _ off (goes r {later = later} {log = log} p part) = own_part P t later log (λ x m. off x (inr m)) part ∙ sym (own_other t r log (off r (inl refl) p))

pub others_keep_own : OthersKeepOwn
others_keep_own = record {
  appends = λ t log r other. own_beside t r log other;
  closes = λ t log later gates ends checkpoints closed others. own_part _ t later log (λ r m k of. others r m k.0 of) closed.part;
}

pub appends_stand_in_part : AppendsStandInPart
appends_stand_in_part shape p w s chain place r may = part_is shape p w s chain place r may

-- ---- deletions behind an end

-- a deletion of the log with an end was there before it
deletion_before : (t a : ℕ) (e : Record) (log : Log) → IsEnd e → Has (IsDeletionBy t a) (inserted e log) → Has (IsDeletionBy t a) log
deletion_before t a e log four d = elim (inserted_out e log d.0 d.1) [
  | inl same ↦ (let six = d.2.0 in let kind : d.0.kind ≡ 4 = ap (λ (x : Record). x.kind) same ∙ four in absurd (omega (arith, six, kind)))
  | inr m ↦ (d.0, m, d.2)
]

-- no end of t is a commit's
none_committed : (t : ℕ) (e : Record) (log : Log) → e.outcome ≡ 2 → IsRunning log t → IsCommitted (inserted e log) t → ⊥
none_committed t e log two running over = elim (inserted_out e log over.0 over.1) [
  | inl same ↦ (let one = over.2.1 in let outcome : over.0.outcome ≡ 2 = ap (λ (x : Record). x.outcome) same ∙ two in omega (arith, one, outcome))
  | inr m ↦ running over.0 m over.2.0
]

pub ends_leave_deleted : EndsLeaveDeleted
ends_leave_deleted = record {
  committed = λ t log place number h zero over a d. zero a (deletion_before t a (appended place number (cell_of_end t Committed)) log refl d);
  undone = λ t log place number h running over. absurd (none_committed t (appended place number (cell_of_end t RolledBack)) log refl running over);
}

-- ---- the stores of deletions

abbrev zero_at : Progress → ℕ → Type 0
zero_at q a = latest q.pending a (q.durable a) ≡ 0

stored : (q : Progress) (owners : List ℕ) (a : ℕ) → IsAmong owners a ⊎ zero_at q a → (advance_all q (word_events (zero_parts owners ++ Wait ∷ []))).durable a ≡ 0
stored q [] a (inl m) = absurd m
stored q [] a (inr z) = z
stored q (b ∷ owners) a h = stored (advance q (PStore b 0)) owners a (by (eqb_tells b a) h)
  where
    pushed : latest (q.pending ++ write b 0 ∷ []) a (q.durable a) ≡ (if b == a then 0 else latest q.pending a (q.durable a))
    pushed = latest-push q.pending b 0 a (q.durable a)

    by : ((b == a) ≡ true) × (b ≡ a) ⊎ ((b == a) ≡ false) × (b ≢ a) → IsAmong (b ∷ owners) a ⊎ zero_at q a → IsAmong owners a ⊎ zero_at (advance q (PStore b 0)) a
    by (inl e) k = inr (pushed ∙ rw e.0 refl)
    by (inr ne) (inl (inl e)) = absurd (ne.1 (sym e))
    by (inr ne) (inl (inr m)) = inl m
    by (inr ne) (inr z) = inr (pushed ∙ rw ne.0 z)

settled : (q : Progress) (owners : List ℕ) → (advance_all q (word_events (zero_parts owners ++ Wait ∷ []))).pending ≡ []
settled q [] = refl
settled q (b ∷ owners) = settled (advance q (PStore b 0)) owners

pub owners_are_zero : OwnersAreZero
owners_are_zero = record { zero = λ q owners a m. by_zero q owners a m; kept = λ q owners a m. by_kept q owners a m }
  where
    by_zero : (q : Progress) (owners : List ℕ) (a : ℕ) → IsAmong owners a → (advance_all q (word_events (owner_parts owners))).durable a ≡ 0
    by_zero q [] a m = absurd m
    by_zero q (b ∷ owners) a m = stored q (b ∷ owners) a (inl m)

    by_kept : (q : Progress) (owners : List ℕ) (a : ℕ) → IsAmong owners a → (advance_all q (word_events (owner_parts owners))).pending ≡ []
    by_kept q [] a m = absurd m
    by_kept q (b ∷ owners) a m = settled q (b ∷ owners)
