-- A write of 7 to a word that was 0, in a region of four buckets of one cell: its course, its progress, and why a commit fences before its end.
use Rattle.std.proofs.Common.{◌≡◌, ◌⊎◌, inl, inr, ℕ, false, List, [], ◌∷◌, refl, sym, ap, ◌∙◌, subst, arith}
use Rattle.persist_model.specs.declared.event.Event.{Event}
use Rattle.persist_model.specs.declared.event.Event.TheVariants.{PStore, Fence}
use Rattle.persist_model.specs.Region.{Words}
use Rattle.persist_model.specs.Progress.{Progress, start, advance, advance_all, Wrote, Reaches}
use Rattle.persist_model.specs.Records.{Record, Log, IsAmong, HasNo}
use Rattle.persist_model.specs.Shape.{Shape}
use Rattle.persist_model.specs.Standing.{IsLatest}
use Rattle.persist_model.specs.State.{State, IsSoundState}
use Rattle.log_laws.specs.Moves.{IsChangeBy, IsDeletionBy}
use Rattle.log_laws.specs.Recovering.{AreOnLog}
use Rattle.region_layout.specs.declared.layout.Policy.TheVariants.{Force}
use Rattle.bucket_log.specs.declared.append.Place.{Place}
use Rattle.plan_records.specs.declared.parts.Update.{Update}
use Rattle.bucket_log.specs.Appends.{region_append}
use Rattle.plan_records.specs.Cells.{cell_of_update, appended}
use Rattle.plan_records.specs.Appends.{with_record}
use Rattle.plan_records.specs.Conditions.{AreWritten}
use Rattle.plan_records.specs.Courses.{AreDeleted, write_parts}
use Rattle.plan_records.specs.HeapCourses.{newest, IsChanged, IsInStep, Goes, begins, appends, stores}
use Rattle.plan_records.proofs.HeapWrites.{writes_settle}

abbrev shape : Shape
shape = record { policy = 1; cells = 1; buckets = 4; blocks = 16; structures = 1; format = 2; partitions = 1 }

abbrev words : Words
words a = 0

abbrev empty : State
empty = record { log = []; words = words; room = λ p. 4 }

abbrev update : Update
update = record { transaction = 1; word = 103; before = 0; after = 7; undo_next = 0 }

abbrev place : Place
place = record { bucket = 32; cell = 0; fresh = false; tail = 0 }

abbrev u : Record
u = appended place 1 (cell_of_update update)

abbrev written : State
written = with_record 0 empty u

abbrev events : List Event
events = region_append shape 0 place u

-- the record's words, a fence, its gate, and a fence
events_are : events ≡ PStore 41 1 ∷ PStore 42 1 ∷ PStore 43 103 ∷ PStore 44 0 ∷ PStore 45 7 ∷ PStore 46 0 ∷ PStore 47 0 ∷ Fence ∷ PStore 40 1 ∷ Fence ∷ []
events_are = refl

on_log : AreOnLog shape events
on_log = (omega arith, (omega arith, (omega arith, (omega arith, (omega arith, (omega arith, (omega arith, (tt, (omega arith, (tt, tt))))))))))

-- the progress behind the write
abbrev behind : Progress
behind = advance (advance_all (start words) events) (PStore 103 7)

goes : Goes shape 0 1 empty (write_parts Force update) (start words) [] written behind
goes = stores (PStore 103 7) (appends (cell_of_update update) place 1 begins refl (λ x m. absurd m) on_log)

sound : IsSoundState shape empty
sound = record {
  newest_first = tt;
  gates = λ r m. absurd m;
  formed = λ r m. absurd m;
  order = tt;
  room = λ p lt. record { undo = omega arith; checkpoint = λ zero two o. absurd (omega (arith, two)) };
  numbers = λ r m. absurd m;
}

-- a lane with nothing pending begins in step, and is in step behind the write
in_step : IsInStep shape written.log 1 behind
in_step = writes_settle.behind shape 0 empty update (start words) written behind sound (omega arith)
    (record { newest_values = λ a r last. absurd last.among; no_other = λ a v up k. absurd k }) goes

newest_is : newest behind 103 ≡ 7
newest_is = refl

-- the word isn't durable yet
durable_is : behind.durable 103 ≡ 0
durable_is = refl

-- behind a fence it is, and nothing is pending
fenced_is : (advance behind Fence).durable 103 ≡ 7
fenced_is = refl

-- ---- without the fence before the end

changed_is : (a : ℕ) → IsChanged written.log 1 a → a ≡ 103
changed_is a c = elim c.1 [ inl same ↦ sym c.2.1 ∙ ap (λ (x : Record). x.word) same | inr m ↦ absurd m ]

-- an image may have the value before,
old_is_reached : Reaches (IsChanged written.log 1) behind words
old_is_reached a c = subst (λ b. (words b ≡ behind.durable b) ⊎ Wrote behind.pending b (words b)) (sym (changed_is a c)) (inl refl)

latest : IsLatest (IsChangeBy 1 103) written.log u
latest = record { among = inl refl; has = (inl refl, refl, refl); last = λ x m c. elim m [ inl same ↦ (let e : x.lsn ≡ 1 = ap (λ (y : Record). y.lsn) same in omega (arith, e)) | inr k ↦ absurd k ] }

no_deletion : HasNo (IsDeletionBy 1 103) written.log
no_deletion r m d = elim m [ inl same ↦ (let e : r.kind ≡ 1 = ap (λ (y : Record). y.kind) same in let six = d.0 in omega (arith, e, six)) | inr k ↦ k ]

-- and so the end of a commit would come too early
not_written : AreWritten shape written 1 words → ⊥
not_written h = let e : 0 ≡ 7 = h (λ two. omega (arith, two)) 103 u no_deletion latest in omega (arith, e)

-- ---- a clearing while another transaction deletes the block of a word

-- the first transaction changed word 112 to 7 and is committed, and then the second deleted its block and is committed too
abbrev changed : Record
changed = record { at = 40; lsn = 1; transaction = 1; kind = 1; word = 112; before = 0; after = 7; undo_next = 0; outcome = 0 }

abbrev first_end : Record
first_end = record { at = 56; lsn = 2; transaction = 1; kind = 4; word = 0; before = 0; after = 0; undo_next = 0; outcome = 1 }

abbrev deleting : Record
deleting = record { at = 72; lsn = 3; transaction = 2; kind = 6; word = 112; before = 7; after = 0; undo_next = 0; outcome = 0 }

abbrev second_end : Record
second_end = record { at = 88; lsn = 4; transaction = 2; kind = 4; word = 0; before = 0; after = 0; undo_next = 0; outcome = 1 }

abbrev both : Log
both = second_end ∷ deleting ∷ first_end ∷ changed ∷ []

-- The first one's records may be cleared in any words: it deleted nothing.
first_clears : (h : Words) → AreDeleted both 1 h
first_clears h over a d = absurd (by d.1)
  where
    by : IsAmong both d.0 → ⊥
    by (inl same) = (let six = d.2.0 in let k : d.0.kind ≡ 4 = ap (λ (x : Record). x.kind) same in omega (arith, six, k))
    by (inr (inl same)) = (let one = d.2.2 in let k : d.0.transaction ≡ 2 = ap (λ (x : Record). x.transaction) same in omega (arith, one, k))
    by (inr (inr (inl same))) = (let six = d.2.0 in let k : d.0.kind ≡ 4 = ap (λ (x : Record). x.kind) same in omega (arith, six, k))
    by (inr (inr (inr (inl same)))) = (let six = d.2.0 in let k : d.0.kind ≡ 1 = ap (λ (x : Record). x.kind) same in omega (arith, six, k))
    by (inr (inr (inr (inr none)))) = none

-- The second one's may not before it has stored 0.
second_waits : (h : Words) → h 112 ≡ 7 → AreDeleted both 2 h → ⊥
second_waits h seven are =
    let zero_there : h 112 ≡ 0 = are (second_end, inl refl, ((refl, refl), refl)) 112 (deleting, inr (inl refl), (refl, refl, refl)) in
    omega (arith, seven, zero_there)
