-- The turns of the pass on the device: what each needs, and how the pass goes on behind it.
use Rattle.std.proofs.Common.{◌≡◌, ◌≢◌, inl, ℕ, suc, ◌+◌, ◌<◌, ◌≤◌, List, [], ◌∷◌, length, map, reverse, refl, sym, ap, ◌∙◌, subst, arith}
use Rattle.std.proofs.Common.{get_or, take}
use Rattle.std.proofs.lemmas.List.{take_more, map-append, reverse-append}
use Rattle.persist_model.specs.Records.{Record, Log, IsAmong, IsUpdate, IsCompensation}
use Rattle.persist_model.specs.Shape.{Shape, words_of_shape, part_of, IsHeapWord}
use Rattle.persist_model.specs.Need.{to_undo, need_of}
use Rattle.persist_model.specs.State.{State}
use Rattle.lane_traits.specs.declared.device.Done.TheVariants.{Made, Stopped}
use Rattle.log_laws.specs.StateAppends.{MayCome}
use Rattle.log_laws.specs.Recovery.{HasDecidingRecord, grown}
use Rattle.log_laws.specs.Recovering.{with_heap}
use Rattle.log_laws.specs.Parts.{EachKeeps}
use Rattle.region_layout.specs.declared.cell.Cell.{Cell}
use Rattle.region_layout.specs.Cell.{record_of}
use Rattle.region_layout.specs.Layout.{layout_shape}
use Rattle.bucket_log.specs.declared.scanning.Placed.{Placed}
use Rattle.bucket_log.specs.Scans.{record_of_placed}
use Rattle.bucket_log.specs.States.{less_room}
use Rattle.recovery_run.specs.Reached.{with_value, HasReached}
use Rattle.recovery_undo.specs.declared.held.Held.{Held}
use Rattle.recovery_undo.specs.declared.target.Target.{Target}
use Rattle.recovery_undo.specs.RecoveryAppends.{AreQuiet, KeepsLogWords, with_cell}
use Rattle.recovery_undo.specs.Numbers.{next_lsn}
use Rattle.recovery_undo.specs.Records.{compensation_of}
use Rattle.recovery_undo.specs.UndoProgress.{IsPassing, Seen, HasSpent, Start, HasGone, CanNote, Passes, Halts}
use Rattle.recovery_undo.proofs.Chains.{knows_kept}
use Rattle.recovery_undo.proofs.Noting.{compensation_comes, compensation_less, covers}
use Rattle.recovery_undo.proofs.UndoPass.{passed_among, pass_other, pass_compensation, pass_update, top_is, pass_compensates}
use Rattle.recovery_undo.proofs.Going.{spent_more, few_partitions, halts, store_spare}

-- ---- a record less to pass, and a store

pub gone_less : (target : Target) (start : Start) (z : State) (left : ℕ) (held : Held) (now : Seen) → HasGone target start z (suc left) held now → HasGone target start z left held now
gone_less target start z left held now h = record {
  sound = h.sound;
  origin = h.origin;
  reached = h.reached;
  quiet = h.quiet;
  holds = h.holds;
  gates_len = h.gates_len;
  gates_memory = h.gates_memory;
  gates_fit = h.gates_fit;
  ends = h.ends;
  ends_fit = h.ends_fit;
  checkpoints = h.checkpoints;
  used = h.used;
  spent = h.spent;
  fits = (let fits = h.fits in omega (arith, fits));
  enough = h.enough;
}

pub store_goes : (target : Target) (start : Start) (z : State) (left : ℕ) (held : Held) (now later : Seen) (w : _) → HasGone target start z (suc left) held now →
    HasReached (layout_shape target.layout) start.first (with_heap z w) later.region → AreQuiet (layout_shape target.layout) later.region → HasSpent (layout_shape target.layout) 1 Made now later →
    KeepsLogWords (layout_shape target.layout) now.region later.region → HasGone target start (with_heap z w) left held later
store_goes target start z left held now later w h reached quiet spent same = record {
  sound = h.sound;
  origin = h.origin;
  reached = reached;
  quiet = quiet;
  holds = record { next = h.holds.next; gates = h.holds.gates; table = knows_kept target.layout start.first z now.region h.reached held.table later.region same h.holds.table };
  gates_len = h.gates_len;
  gates_memory = h.gates_memory;
  gates_fit = h.gates_fit;
  ends = h.ends;
  ends_fit = h.ends_fit;
  checkpoints = h.checkpoints;
  used = h.used + 1;
  spent = spent_more (layout_shape target.layout) h.used 1 Made start.now now later h.spent spent;
  fits = (let fits = h.fits in omega (arith, fits));
  enough = h.enough;
}

-- ---- the turns

module _ (target : Target) (start : Start) (u : Record) (left : Log) (held : Held) (now : Seen) where
  abbrev shape : Shape
  shape = layout_shape target.layout

  abbrev t : ℕ
  t = target.transaction

  -- the compensation of an update that has none may come
  module _ (h : Passes target start (u ∷ left) 0 held now) (is : IsUpdate u) (cell : Cell) (cell_is : (at : ℕ) → record_of at cell ≡ compensation_of target.transaction u at held.next) where
    abbrev z : State
    z = h.state

    few : 1 ≤ shape.partitions
    few = few_partitions target start z (length (u ∷ left)) held now h.gone

    record_is : (at : ℕ) → record_of at cell ≡ compensation_of t u at (next_lsn z.log)
    record_is at = cell_is at ∙ ap (compensation_of t u at) h.gone.holds.next

    among : IsAmong z.log u
    among = passed_among shape t target.partition start.state z u left 0 h.passing

    top : to_undo t z.log ≡ u ∷ to_undo t left
    top = top_is shape t target.partition start.state z u left h.passing is

    pub can_compensate : CanNote target start.state h.state cell
    can_compensate = record {
      undoing = h.passing.undoing;
      gate = ap (λ (r : Record). r.lsn) (record_is 0);
      note = λ at. (ap (λ (r : Record). r.transaction) (record_is at), inl (ap (λ (r : Record). r.kind) (record_is at)));
      comes = λ at here. subst (λ (r : Record). MayCome shape z r (less_room target.partition z.room)) (sym (record_is at))
          (compensation_comes shape t target.partition start.state z few h.passing.undoing u (to_undo t left) at here among is top);
      less = λ at. subst (λ (r : Record). need_of (r ∷ z.log) t + 1 ≡ need_of z.log t) (sym (record_is at))
          (compensation_less shape t target.partition start.state z few h.passing.undoing u (to_undo t left) at top);
    }

    pub compensate_goes : (at : ℕ) (more : Held) (later : Seen) → part_of (layout_shape target.layout) at ≡ target.partition →
        HasGone target start (with_cell h.state target.partition cell at) (length (u ∷ left)) more later → Passes target start (u ∷ left) 1 more later
    compensate_goes at more later here gone = record {
      state = with_cell z target.partition cell at;
      gone = gone;
      passing = subst (λ (r : Record). IsPassing shape t target.partition start.state (grown z r (less_room target.partition z.room)) (u ∷ left) 1) (sym (record_is at))
          (pass_compensates shape t target.partition start.state z u left few at h.passing is here);
    }

  -- an update that is compensated
  module _ (counter : ℕ) (h : Passes target start (u ∷ left) (counter + 1) held now) (is : IsUpdate u) where
    abbrev y : State
    y = h.state

    in_log : IsAmong y.log u
    in_log = passed_among shape t target.partition start.state y u left (counter + 1) h.passing

    pub heap_word : IsHeapWord (layout_shape target.layout) u.word
    heap_word = ((h.passing.undoing.sound.formed u in_log).change (inl is)).0

    pub word_inside : u.word < now.region.size
    word_inside = let below = heap_word.1 in let size : now.region.size ≡ words_of_shape shape = h.gone.reached.come.size in omega (arith, below, size)

    pub covered : HasDecidingRecord (layout_shape target.layout).policy h.state.log u.word
    covered = covers shape t target.partition start.state y (few_partitions target start y (length (u ∷ left)) held now h.gone) h.passing.undoing u in_log is (h.passing.among u (inl refl)).1.0

    pub spare_one : 1 ≤ now.spare
    spare_one = store_spare target start y (length (u ∷ left)) held now h.gone

    pub old_goes : (later : Seen) → HasReached (layout_shape target.layout) start.first (with_heap h.state (with_value h.state.words u.word u.before)) later.region →
        AreQuiet (layout_shape target.layout) later.region → HasSpent (layout_shape target.layout) 1 Made now later →
        KeepsLogWords (layout_shape target.layout) now.region later.region → Passes target start left counter held later
    old_goes later reached quiet spent same = record {
      state = with_heap y (with_value y.words u.word u.before);
      gone = store_goes target start y (length left) held now later (with_value y.words u.word u.before) h.gone reached quiet spent same;
      passing = pass_update shape t target.partition start.state y u left (few_partitions target start y (length (u ∷ left)) held now h.gone) counter h.passing is;
    }

    pub old_halts : (later : Seen) → EachKeeps (layout_shape target.layout) start.first later.region → HasSpent (layout_shape target.layout) 1 Stopped now later → Halts target start later
    old_halts later keeps spent = halts target start y (length (u ∷ left)) held now h.gone 1 later (let fits = h.gone.fits in omega (arith, fits)) keeps spent

  -- a compensation, or a record that is passed over
  pub compensation_goes : (counter : ℕ) → Passes target start (u ∷ left) counter held now → IsCompensation u → Passes target start left (counter + 1) held now
  compensation_goes counter h is = record {
    state = h.state;
    gone = gone_less target start h.state (length left) held now h.gone;
    passing = pass_compensation shape t target.partition start.state h.state u left counter h.passing is;
  }

  pub other_goes : (counter : ℕ) → Passes target start (u ∷ left) counter held now → u.kind ≢ 1 → u.kind ≢ 2 → Passes target start left counter held now
  other_goes counter h not_one not_two = record {
    state = h.state;
    gone = gone_less target start h.state (length left) held now h.gone;
    passing = pass_other shape t target.partition start.state h.state u left counter h.passing not_one not_two;
  }

-- the same count
pub passes_at : (target : Target) (start : Start) (left : Log) (n m : ℕ) (held : Held) (now : Seen) → n ≡ m → Passes target start left n held now → Passes target start left m held now
passes_at target start left n m held now e h = subst (λ k. Passes target start left k held now) e h

abbrev pub no_placed : Placed
no_placed = record { at = 0; cell = record { lsn = 0; transaction = 0; kind = 0; word = 0; before = 0; after = 0; undo_next = 0; outcome = 0 } }

-- the first records, newest first: the last of them, and those before it
pub newest_of : (xs : List Placed) (i n : ℕ) (d : Placed) → i < length xs → n ≡ i + 1 → reverse (map record_of_placed (take n xs)) ≡ record_of_placed (get_or xs i d) ∷ reverse (map record_of_placed (take i xs))
newest_of xs i n d lt is =
    ap (λ k. reverse (map record_of_placed (take k xs))) is
    ∙ ap (λ (ys : List Placed). reverse (map record_of_placed ys)) (take_more xs i d lt)
    ∙ ap reverse (map-append record_of_placed (take i xs) (get_or xs i d ∷ []))
    ∙ reverse-append (map record_of_placed (take i xs)) (record_of_placed (get_or xs i d) ∷ [])

pub passes_on : (target : Target) (start : Start) (left rest : Log) (n : ℕ) (held : Held) (now : Seen) → left ≡ rest → Passes target start left n held now → Passes target start rest n held now
passes_on target start left rest n held now e h = subst (λ l. Passes target start l n held now) e h
