-- The beginning of an undo: its rollback record.
use Rattle.std.proofs.Common.{◌≡◌, ◌⊎◌, inl, inr, ℕ, ◌+◌, ◌<◌, ◌≤◌, ◌==◌, ◌||◌, Bool, true, false, List, [], ◌∷◌, length, map, reverse, get_or, refl, sym, ap, ◌∙◌, subst, arith, add-zero}
use Rattle.std.specs.List.{list_any}
use Rattle.std.proofs.lemmas.Bool.Decides.{eqb_tells}
use Rattle.std.proofs.lemmas.List.{length-map, length-reverse}
use Rattle.persist_model.specs.Records.{Record, Log, IsAmong, Has, HasNo, IsOf, IsRollback}
use Rattle.persist_model.specs.Shape.{Shape, part_of}
use Rattle.persist_model.specs.Need.{to_undo, need_of}
use Rattle.persist_model.specs.State.{State, IsSoundState}
use Rattle.lane_traits.specs.declared.device.Done.TheVariants.{Made}
use Rattle.log_laws.specs.StateAppends.{MayCome}
use Rattle.log_laws.specs.Recovery.{grown}
use Rattle.region_layout.specs.declared.cell.Cell.{Cell}
use Rattle.region_layout.specs.declared.layout.Layout.{Layout}
use Rattle.region_layout.specs.Cell.{record_of}
use Rattle.region_layout.specs.Layout.{layout_shape}
use Rattle.bucket_log.specs.declared.scanning.Placed.{Placed}
use Rattle.bucket_log.specs.Scans.{record_of_placed}
use Rattle.bucket_log.specs.States.{less_room}
use Rattle.bucket_log.proofs.Scans.{among_map, map_among, reverse_among, among_reverse}
use Rattle.recovery_run.specs.declared.gates.Gates.{Gates}
use Rattle.recovery_run.specs.Groups.{records_of}
use Rattle.recovery_run.proofs.Reaching.{settled_reached, reached_sound}
use Rattle.recovery_undo.specs.declared.held.Held.{Held}
use Rattle.recovery_undo.specs.declared.target.Target.{Target}
use Rattle.recovery_undo.specs.RecoveryAppends.{with_cell}
use Rattle.recovery_undo.specs.Numbers.{next_lsn}
use Rattle.recovery_undo.specs.Records.{plain_record}
use Rattle.recovery_undo.specs.Undoing.{undo_events, CanUndo}
use Rattle.recovery_undo.specs.UndoProgress.{IsUndoing, IsPassing, Seen, HasSpent, Start, HasGone, CanNote, Begins, Passes}
use Rattle.recovery_undo.proofs.Noting.{undoing_begins, rollback_comes, rollback_less, rolled_back}
use Rattle.recovery_undo.proofs.UndoPass.{pass_begins, rolled_stack}
use Rattle.recovery_undo.proofs.RecordsOf.{records_of_are, are_records_of}
use Rattle.recovery_undo.proofs.Going.{few_partitions}

-- ---- is there a rollback record

any_is : (p : Placed → Bool) (xs : List Placed) → list_any p xs ≡ true → (x : Placed) × IsAmong xs x × (p x ≡ true)
any_is p [] e = cc
any_is p (x ∷ xs) e = by_test (p x) refl e (λ h. any_is p xs h)
  where
    by_test : (b : Bool) → p x ≡ b → (b || list_any p xs) ≡ true → (list_any p xs ≡ true → (y : Placed) × IsAmong xs y × (p y ≡ true)) → (y : Placed) × IsAmong (x ∷ xs) y × (p y ≡ true)
    by_test true is h again = (x, inl refl, is)
    by_test false is h again = let k = again h in (k.0, inr k.1, k.2)

none_is : (p : Placed → Bool) (xs : List Placed) → list_any p xs ≡ false → (x : Placed) → IsAmong xs x → p x ≡ false
none_is p [] e x m = absurd m
none_is p (y ∷ ys) e x m = by_test (p y) refl e m (λ h k. none_is p ys h x k)
  where
    by_test : (b : Bool) → p y ≡ b → (b || list_any p ys) ≡ false → (x ≡ y) ⊎ IsAmong ys x → (list_any p ys ≡ false → IsAmong ys x → p x ≡ false) → p x ≡ false
    by_test true is h m again = cc
    by_test false is h (inl e) again = ap p e ∙ is
    by_test false is h (inr k) again = again h k

abbrev pub is_rollback : Placed → Bool
is_rollback = λ placed. placed.cell.kind == 3

-- the records are t's of the log
pub among_records : (records : List Placed) (t : ℕ) (log : Log) → reverse (map record_of_placed records) ≡ records_of t log → (x : Placed) → IsAmong records x →
    IsAmong log (record_of_placed x) × IsOf t (record_of_placed x)
among_records records t log is x m =
    records_of_are t log (record_of_placed x) (subst (λ l. IsAmong l (record_of_placed x)) is (reverse_among (map record_of_placed records) (record_of_placed x) (map_among records x m)))

pub records_among : (records : List Placed) (t : ℕ) (log : Log) → reverse (map record_of_placed records) ≡ records_of t log → (r : Record) → IsAmong log r → IsOf t r →
    (x : Placed) × IsAmong records x × (r ≡ record_of_placed x)
records_among records t log is r m of =
    among_map records r (among_reverse (map record_of_placed records) r (subst (λ l. IsAmong l r) (sym is) (are_records_of t log r m of)))

pub rolled_of : (records : List Placed) (t : ℕ) (log : Log) → reverse (map record_of_placed records) ≡ records_of t log → list_any is_rollback records ≡ true → Has (λ x. IsOf t x × IsRollback x) log
rolled_of records t log is any =
    let k = any_is is_rollback records any in
    let m = among_records records t log is k.0 k.1 in
    (record_of_placed k.0, m.0, (m.1, three k.0 k.2))
  where
    three : (x : Placed) → is_rollback x ≡ true → x.cell.kind ≡ 3
    three x e = elim (eqb_tells x.cell.kind 3) [ inl h ↦ h.1 | inr h ↦ (let off = h.0 in cc) ]

pub none_rolled : (records : List Placed) (t : ℕ) (log : Log) → reverse (map record_of_placed records) ≡ records_of t log → list_any is_rollback records ≡ false → HasNo (λ x. IsOf t x × IsRollback x) log
none_rolled records t log is any r m k =
    let x = records_among records t log is r m k.0 in
    let off = none_is is_rollback records any x.0 x.1 in
    elim (eqb_tells x.0.cell.kind 3) [
      | inl h ↦ (let on = h.0 in cc)
      | inr h ↦ h.1 (ap (λ (y : Record). y.kind) (sym x.2) ∙ k.1)
    ]

-- ---- the pass begins

length_is : (records : List Placed) → length records ≡ length (reverse (map record_of_placed records))
length_is records = sym (length-map records record_of_placed) ∙ sym (length-reverse (map record_of_placed records))

module _ (target : Target) (start : Start) (records : List Placed) (held : Held) (now : Seen) (h : Begins target start records held now) where
  abbrev shape : Shape
  shape = layout_shape target.layout

  abbrev t : ℕ
  t = target.transaction

  abbrev y : State
  y = start.state

  few : 1 ≤ shape.partitions
  few = few_partitions target start y (length records) held now h.gone

  passes_from : (z : State) (more : Held) (later : Seen) → HasGone target start z (length records) more later →
      IsUndoing shape t target.partition y z → Has (λ x. IsOf t x × IsRollback x) z.log → z.words ≡ y.words → to_undo t z.log ≡ to_undo t y.log → Passes target start (reverse (map record_of_placed records)) 0 more later
  passes_from z more later gone undoing rolled words stack = record {
    state = z;
    gone = subst (λ n. HasGone target start z n more later) (length_is records) gone;
    passing = subst (λ l. IsPassing shape t target.partition y z l 0) (sym h.records_are) (pass_begins shape t target.partition y z undoing rolled words stack);
  }

  pub rolled_passes : list_any is_rollback records ≡ true → Passes target start (reverse (map record_of_placed records)) 0 held now
  rolled_passes any = passes_from y held now h.gone h.undoing (rolled_of records t y.log h.records_are any) refl refl

  module _ (any : list_any is_rollback records ≡ false) (cell : Cell) (cell_is : (at : ℕ) → record_of at cell ≡ plain_record at held.next target.transaction 3 0) where
    first : HasNo (λ x. IsOf t x × IsRollback x) y.log
    first = none_rolled records t y.log h.records_are any

    record_is : (at : ℕ) → record_of at cell ≡ plain_record at (next_lsn y.log) t 3 0
    record_is at = cell_is at ∙ ap (λ n. plain_record at n t 3 0) h.gone.holds.next

    pub can_roll : CanNote target start.state start.state cell
    can_roll = record {
      undoing = h.undoing;
      gate = ap (λ (r : Record). r.lsn) (record_is 0);
      note = λ at. (ap (λ (r : Record). r.transaction) (record_is at), inr (ap (λ (r : Record). r.kind) (record_is at)));
      comes = λ at here. subst (λ (r : Record). MayCome shape y r (less_room target.partition y.room)) (sym (record_is at))
          (rollback_comes shape t target.partition y y few h.undoing at here first);
      less = λ at. subst (λ (r : Record). need_of (r ∷ y.log) t + 1 ≡ need_of y.log t) (sym (record_is at)) (rollback_less shape t target.partition y y few h.undoing at first);
    }

    pub roll_goes : (at : ℕ) (more : Held) (later : Seen) → part_of (layout_shape target.layout) at ≡ target.partition →
        HasGone target start (with_cell start.state target.partition cell at) (length records) more later → Passes target start (reverse (map record_of_placed records)) 0 more later
    roll_goes at more later here gone =
        let r = plain_record at (next_lsn y.log) t 3 0 in
        passes_from (grown y r (less_room target.partition y.room)) more later
        (subst (λ (x : Record). HasGone target start (grown y x (less_room target.partition y.room)) (length records) more later) (record_is at) gone)
        (rolled_back shape t target.partition y y few h.undoing at here first)
        (r, inl refl, ((refl, (λ five. absurd (omega (arith, five)))), refl)) refl (rolled_stack t at (next_lsn y.log) y.log)

-- ---- the undo begins

nothing_spent : (shape : Shape) (now : Seen) → HasSpent shape 0 Made now now
nothing_spent shape now = record {
  counted = record { events = 0; few = omega arith; is = ap (λ n. record now.counts { events = n }) (sym (add-zero now.counts.events)); cause = λ stopped. cc };
  spare = omega arith;
  header = λ a v m one. one;
}

abbrev pub start_of : Layout → ℕ → List Placed → Gates → State → State → Seen → Start
start_of layout t records gates first y now = record { now = now; gates = gates; first = first; state = y; most = undo_events layout t records y.log }

module _ (layout : Layout) (t : ℕ) (records : List Placed) (held : Held) (first y : State) (now : Seen) (h : CanUndo layout t records held first y now.region now.spare) where
  -- there is a record
  pub some_record : 0 < length records
  some_record =
      let k = records_among records t y.log h.records_are h.loser.0.0 h.loser.0.1 h.loser.0.2 in
      by_list records k.0 k.1
    where
      by_list : (xs : List Placed) (x : Placed) → IsAmong xs x → 0 < length xs
      by_list [] x m = absurd m
      by_list (y ∷ xs) x m = omega arith

  sound : IsSoundState (layout_shape layout) y
  sound = (reached_sound (layout_shape layout) first y now.region (settled_reached (layout_shape layout) first y now.region h.settled) h.sound).0

  first_among : (xs : List Placed) (d : Placed) → 0 < length xs → IsAmong xs (get_or xs 0 d)
  first_among [] d lt = absurd (omega arith)
  first_among (x ∷ xs) d lt = inl refl

  pub begins : (p : ℕ) (inside : p < layout.partitions) (d : Placed) → p ≡ part_of (layout_shape layout) (get_or records 0 d).at →
      Begins (record { layout = layout; transaction = t; partition = p; inside = inside }) (start_of layout t records held.gates first y now) records held now
  begins p inside d part =
      let x = get_or records 0 d in
      let m = among_records records t y.log h.records_are x (first_among records d some_record) in
      record {
        gone = record {
          sound = h.sound;
          origin = sound;
          reached = settled_reached (layout_shape layout) first y now.region h.settled;
          quiet = h.quiet;
          holds = h.holds;
          gates_len = refl;
          gates_memory = omega arith;
          gates_fit = h.gates_fit;
          ends = refl;
          ends_fit = h.ends_fit;
          checkpoints = refl;
          used = 0;
          spent = nothing_spent (layout_shape layout) now;
          fits = omega arith;
          enough = h.spare_fits;
        };
        undoing = subst (λ q. IsUndoing (layout_shape layout) t q y y) (sym part) (undoing_begins (layout_shape layout) t y (record_of_placed x) sound h.loser h.applied m.0 m.1);
        records_are = h.records_are;
      }
