-- The end of an undone transaction keeps standing words. Under no-force its words needn't be stored: its compensations are redone.
use Rattle.std.proofs.Common.{◌≡◌, ◌⊎◌, inl, inr, ℕ, ◌<◌, [], ◌∷◌, refl, sym, ap, ◌∙◌, subst, arith}
use Rattle.persist_model.specs.Region.{Words}
use Rattle.persist_model.specs.Records.{Record, Log, IsAmong, HasNo, IsEnd, IsRunning, IsSkipped}
use Rattle.persist_model.specs.Shape.{Shape, part_of}
use Rattle.persist_model.specs.Standing.{IsToRedo, IsEarliest, IsLatest}
use Rattle.persist_model.specs.Need.{to_undo}
use Rattle.persist_model.specs.State.{State, IsSoundState}
use Rattle.log_laws.specs.Moves.{Arrives, IsOfRunning, IsChangeBy, adds_rolled_end}
use Rattle.log_laws.specs.Recovering.{with_heap}
use Rattle.log_laws.specs.Recovery.{grown, HasDecidingRecord, IsStored, KeepsStanding}
use Rattle.log_laws.proofs.Deciding.{IsDecided, decide_equal}
use Rattle.log_laws.proofs.Keeping.{good_of}
use Rattle.log_laws.proofs.Undoing.{IsGood, last_new_is}
use Rattle.log_laws.proofs.Growing.{has_back, numbered}
use Rattle.log_laws.proofs.Moving.{moves_keep}
use Rattle.log_laws.proofs.MoveRooms.{end_fits}
use Rattle.log_laws.proofs.Stacks.{IsUpdateBy, update_test, first_old, top_new, first_old_is, HasStack, has_stack}
use Rattle.log_laws.proofs.Standings.{AreNumbered, earliest_some, latest_some, stands_stored}
use Rattle.bucket_log.specs.States.{less_room}
use Rattle.log_clearing.proofs.ClearingStates.{sound_with_heap}
use Rattle.persist_model.specs.declared.kinds.Outcome.TheVariants.{RolledBack}
use Rattle.plan_records.specs.Cells.{appended}
use Rattle.region_layout.specs.RecordCells.{cell_of_end}
use Rattle.plan_records.specs.Conditions.{AreLast}
use Rattle.plan_records.specs.Laws.{UndoneEndsKeep}
use Rattle.plan_records.proofs.Changes.{decide_change}
use Rattle.plan_records.proofs.RecordAppends.{takes, arrives, append_keeps, running_raised, kept_raised}
use Rattle.plan_records.proofs.Records.{plain_formed}

module _ (policy t : ℕ) (log : Log) (h : Words) (apart : AreNumbered log) (running : IsRunning log t) where
  pub decide : (a : ℕ) (r : Record) → IsDecided (IsUpdateBy t a r)
  decide a r = elim (update_test t a r) [ inl k ↦ inl k.1 | inr k ↦ inr k.1 ]

  abbrev pub Found : ℕ → Type 0
  Found a = ((r : Record) × IsEarliest (IsUpdateBy t a) log r) ⊎ HasNo (IsUpdateBy t a) log

  pub found : (a : ℕ) → Found a
  found a = earliest_some (IsUpdateBy t a) log (decide a)

  abbrev pub value : (a : ℕ) → Found a → ℕ
  value a (inl u) = u.0.before
  value a (inr none) = h a

  -- the words with t's updates undone
  abbrev pub undone_words : Words
  undone_words a = value a (found a)

  pub are_back : IsStored t log undone_words
  are_back a u first = by (found a)
    where
      by : (d : Found a) → value a d ≡ u.before
      by (inl x) = ap (λ (r : Record). r.before) (apart x.0 u x.1.among first.among (
          let le = x.1.first u first.among first.has in let ge = first.first x.0 x.1.among x.1.has in omega (arith, le, ge)))
      by (inr none) = absurd (none u first.among first.has)

  pub covered_before : (a : ℕ) → (undone_words a ≡ h a) ⊎ HasDecidingRecord policy log a
  covered_before a = by (found a)
    where
      by : (d : Found a) → (value a d ≡ h a) ⊎ HasDecidingRecord policy log a
      by (inl x) = inr (inl (x.0, x.1.among, (x.1.has.0, x.1.has.1, subst (λ y. IsRunning log y) (sym x.1.has.2) running)))
      by (inr none) = inl refl

  module _ (two : policy ≡ 2) (e : Record) (end : IsEnd e) (owner : e.transaction ≡ t) (above : (x : Record) → IsAmong log x → x.lsn < e.lsn) where
    not_skipped : IsSkipped (e ∷ log) t → ⊥
    not_skipped k =
        let c = has_back _ e log (λ p. (let five = p.0 in omega (arith, end, five))) k.2.1 in
        elim k.1 [
          | inl same ↦ (let lt = above c.0 c.1 in let less = c.2.1 in let is : k.0.lsn ≡ e.lsn = ap (λ (y : Record). y.lsn) same in omega (arith, lt, less, is))
          | inr m ↦ running k.0 m k.2.0
        ]

    pub covered_behind : (a : ℕ) → (h a ≡ undone_words a) ⊎ HasDecidingRecord policy (e ∷ log) a
    covered_behind a = by (found a)
      where
        redo : (u : Record) → IsUpdateBy t a u → IsToRedo policy (e ∷ log) a u
        redo u k = (two, inl k.0, k.1, (e, inl refl, (end, owner ∙ sym k.2)), (λ x. not_skipped (subst (λ y. IsSkipped (e ∷ log) y) k.2 x)))

        by : (d : Found a) → (h a ≡ value a d) ⊎ HasDecidingRecord policy (e ∷ log) a
        by (inl x) = inr (inr (inr (x.0, inr x.1.among, redo x.0 x.1.has)))
        by (inr none) = inl refl

-- Where nothing is left to undo, the last NEW of each word is the OLD of its earliest update.
are_stored : (shape : Shape) (s : State) (t : ℕ) (h : Words) → IsSoundState shape s → IsRunning s.log t → to_undo t s.log ≡ [] →
    ((a : ℕ) (r : Record) → IsLatest (IsChangeBy t a) s.log r → h a ≡ r.after) → IsStored t s.log h
are_stored shape s t h sound running left last a u first = elim (latest_some (IsChangeBy t a) s.log (decide_change t a)) [
  | inr none ↦ absurd (none u first.among (inl first.has.0, first.has.1, first.has.2))
  | inl r ↦ last a r.0 r.1 ∙ sym (last_new_is t a 0 s.log r.0 good.falls r.1) ∙ stack.after a 0 ∙ ap (λ l. top_new a (first_old t a 0 s.log) l) left ∙ first_old_is t a 0 s.log u good.falls first
]
  where
    good : IsGood (part_of shape) s.log
    good = good_of shape s sound

    stack : HasStack t s.log
    stack = has_stack (part_of shape) t s.log s.log running (numbered (part_of shape) s.log s.log sound.order) sound.gates sound.order

-- the end keeps a state sound, with its standing words
undone_end_keeps : (shape : Shape) (s : State) (e : Record) (room : ℕ → ℕ) (h : Words) → IsSoundState shape s →
    ((x : Words) → Arrives shape (with_heap s x) e room) → IsOfRunning shape s.log e → IsEnd e → e.outcome ≡ 2 → to_undo e.transaction s.log ≡ [] → AreLast shape s e.transaction h →
    IsSoundState shape (with_heap (grown s e room) h) × KeepsStanding shape.policy (with_heap s h) (with_heap (grown s e room) h)
undone_end_keeps shape s e room h sound arriving of end outcome left back = elim (decide_equal shape.policy 2) [
  | inr force ↦ by h (are_stored shape s e.transaction h sound of.running left (back force))
  | inl two ↦ (
      let x : Words = undone_words shape.policy e.transaction s.log h apart of.running in
      let kept = by x (are_back shape.policy e.transaction s.log h apart of.running) in (
        sound_with_heap shape (with_heap (grown s e room) x) h kept.0,
        λ a v st. stands_stored shape.policy (e ∷ s.log) x h a v (covered_behind shape.policy e.transaction s.log h apart of.running two e end refl (arriving h).above a)
            (kept.1 a v (stands_stored shape.policy s.log h x a v (covered_before shape.policy e.transaction s.log h apart of.running a) st)),
      ))
]
  where
    apart : AreNumbered s.log
    apart = numbered (part_of shape) s.log s.log sound.order

    by : (x : Words) → IsStored e.transaction s.log x →
        IsSoundState shape (with_heap (grown s e room) x) × KeepsStanding shape.policy (with_heap s x) (with_heap (grown s e room) x)
    by x stored = moves_keep shape (with_heap s x) (with_heap (grown s e room) x) (sound_with_heap shape s x sound)
        (adds_rolled_end e room (arriving x) (record { running = of.running; one_part = of.one_part }) end outcome left stored)

pub undone_ends_keep : UndoneEndsKeep
undone_ends_keep shape p w s chain place number transaction may can =
    let e : Record = appended place number (cell_of_end transaction RolledBack) in
    let last : Record = appended place may.top (cell_of_end transaction RolledBack) in
    let formed = plain_formed shape last (omega arith) (omega arith) (inr (omega arith, can.open_one.transaction)) (inl (refl, inr refl)) in
    let running = running_raised shape s.log e may.top can.open_one.running in
    let fits = end_fits shape s last (less_room p s.room) may.sound refl running (takes shape p w s chain place e may) (kept_raised shape s e may.top 1 can.open_one.kept) in
    append_keeps shape p w s chain place e may (AreLast shape s transaction) (λ h back sound.
    undone_end_keeps shape s last (less_room p s.room) h may.sound (arrives shape p w s chain place e may formed fits) running refl refl can.nothing_left back)
