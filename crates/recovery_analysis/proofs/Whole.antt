-- The parts of a recovery's work, put together.
use Rattle.std.proofs.Common.{◌≡◌, ◌⊎◌, ◌↔◌, inl, inr, ℕ, zero, suc, ◌+◌, ◌*◌, ◌-◌, ◌<◌, ◌≤◌, ◌^◌, Bool, true, false, not, ◌==◌, ◌||◌, if◌then◌else◌, List, [], ◌∷◌, ◌++◌, length, map, reverse, refl, sym, ap, ◌∙◌, subst, arith}
use Rattle.std.specs.Prelude.{IsTrue, sum_by}
use Rattle.std.specs.Vec.{vec_len}
use Rattle.std.specs.List.{filter, list_any}
use Rattle.std.proofs.lemmas.List.{length-reverse, length-map, length-append}
use Rattle.persist_model.specs.Region.{Words}
use Rattle.persist_model.specs.Records.{Record, Log, IsAmong, IsCommitted, IsEnded, IsRunning, IsLoser}
use Rattle.persist_model.specs.Standing.{IsToRedo, IsToDelete}
use Rattle.persist_model.specs.Shape.{Shape, part_of, count_buckets, IsHeapWord, block, log_words}
use Rattle.persist_model.specs.Chain.{last_or}
use Rattle.persist_model.specs.ImageRecords.{cell_address, AreWellFormed}
use Rattle.persist_model.specs.Need.{need_of, need_in}
use Rattle.persist_model.specs.State.{State, HasOpen, total_need, IsSoundState}
use Rattle.persist_model.specs.Sound.{closed_cells, room_of}
use Rattle.log_laws.specs.Recovery.{HasDecidingRecord}
use Rattle.log_laws.proofs.Keeping.{good_of}
use Rattle.log_laws.proofs.Passes.{part_inside}
use Rattle.atomic_list.proofs.Parts.{parts_fit}
use Rattle.region_layout.specs.declared.layout.Layout.{Layout}
use Rattle.region_layout.specs.Layout.{layout_shape, IsAllowed}
use Rattle.region_layout.proofs.Places.{sizes_bounded}
use Rattle.bucket_log.specs.declared.scanning.Placed.{Placed}
use Rattle.bucket_log.specs.Scans.{record_of_placed}
use Rattle.recovery_run.specs.Groups.{ListsAll}
use Rattle.recovery_analysis.specs.declared.grouping.Transaction.{Transaction}
use Rattle.recovery_analysis.specs.declared.changing.Change.{Change}
use Rattle.recovery_analysis.specs.declared.working.Work.{Work}
use Rattle.recovery_analysis.specs.Grouping.{IsAscending, number_of, IsTransactionOf, AreTransactionsOf}
use Rattle.recovery_analysis.specs.Analyses.{AreThose, IsUnskipped}
use Rattle.recovery_analysis.specs.Changes.{has_number, is_redone, is_deleted, new_value, given_back}
use Rattle.recovery_analysis.specs.Conditions.{IsSoundImage, IsSoundMerge}
use Rattle.recovery_analysis.specs.Needs.{AreSmall}
use Rattle.recovery_analysis.specs.Works.{next_lsn, need_in_log, HasSpare, IsWorkOf}
use Rattle.recovery_analysis.proofs.Lists.{map_among, among_map, reverse_among, filter_among, among_filter}
use Rattle.recovery_analysis.proofs.Fated.{running_is, both_true}
use Rattle.recovery_analysis.proofs.Soundly.{allowed_image, state_of_image, sound_of_image}
use Rattle.recovery_analysis.proofs.Redoing.{has_among, redone_test, deleted_test, redo_done}
use Rattle.recovery_analysis.proofs.Summing.{needs_are, filter_or, filter_few, of_numbers, passed_records, needs_less}

-- ---- how large it all is

closed_small : (w : Words) (b n : ℕ) → closed_cells w b n ≤ n
closed_small w b zero = omega arith
closed_small w b (suc n) = let k = closed_small w b n in by (w (cell_address b n) == 0) k
  where
    by : (t : Bool) → closed_cells w b n ≤ n → closed_cells w b n + (if t then 1 else 0) ≤ suc n
    by true le = omega (arith, le)
    by false le = omega (arith, le)

cells_small : (c x : ℕ) → (c ≡ 1) ⊎ (c ≡ 16) → x ≤ 1024 → c * x ≤ 16384
cells_small c x (inl e) le = rw e (omega (arith, le))
cells_small c x (inr e) le = rw e (omega (arith, le))

cells_few : (c : ℕ) → (c ≡ 1) ⊎ (c ≡ 16) → c ≤ 16
cells_few c (inl e) = omega (arith, e)
cells_few c (inr e) = omega (arith, e)

room_small : (shape : Shape) (w : Words) (p : ℕ) (chain : List ℕ) → IsAllowed shape → p < shape.partitions → room_of shape w p chain ≤ 16400
room_small shape w p chain ok lt =
    let fit = parts_fit shape p lt in
    let most = ok.buckets.1 in
    let cells = cells_few shape.cells ok.cells in
    let far = cells_small shape.cells (count_buckets shape p - length chain) ok.cells (omega (arith, fit, most)) in
    let near = first (last_or 0 chain == 0) in
    omega (arith, far, near, cells)
  where
    first : (t : Bool) → (if t then 0 else closed_cells w (last_or 0 chain) shape.cells) ≤ shape.cells
    first true = omega arith
    first false = closed_small w (last_or 0 chain) shape.cells

-- the merged records of a sound image
pub merge_sound : (layout : Layout) (size : ℕ) (w : Words) (merged : List Placed) → (h : IsSoundImage layout size w) → reverse (map record_of_placed merged) ≡ h.sound.state.log → IsSoundMerge layout merged
merge_sound layout size w merged h is = record {
  allowed = allowed_image layout size w h;
  state = h.sound.state;
  sound = sound_of_image layout size w h;
  log_is = is;
  room = λ p lt. (let has = state_of_image layout size w h in let small = room_small (layout_shape layout) (log_words (layout_shape layout) w) p (has.chains p) (allowed_image layout size w h) lt in
      let e = has.room p lt in omega (arith, small, e));
}

total_small : (part : ℕ → ℕ) (n : ℕ) (log : Log) → ((p : ℕ) → p < n → need_in part p log ≤ 16400) → total_need part n log ≤ 16400 * n
total_small part zero log each = omega arith
total_small part (suc n) log each =
    let rest = total_small part n log (λ p lt. each p (omega (arith, lt))) in
    let here = each n (omega arith) in
    omega (arith, rest, here)

heap_bounded : (shape : Shape) (a : ℕ) → IsAllowed shape → IsHeapWord shape a → a < 2 ^ 32
heap_bounded shape a ok h = let most = sizes_bounded shape ok in let lt = h.1 in omega (arith, most, lt)

-- a word whose standing value some record decides is one of the heap
covered_is_heap : (shape : Shape) (log : Log) (a : ℕ) → IsAllowed shape → AreWellFormed shape log → HasDecidingRecord shape.policy log a → IsHeapWord shape a
covered_is_heap shape log a ok formed (inl u) = subst (IsHeapWord shape) u.2.1 ((formed u.0 u.1).change (inl u.2.0)).0
covered_is_heap shape log a ok formed (inr (inl d)) = subst (IsHeapWord shape) d.2.1 (owner_is_heap ((formed d.0 d.1).deletion d.2.0))
  where
    owner_is_heap : (k : ℕ) × (shape.structures ≤ k) × (k < shape.blocks) × (d.0.word ≡ block shape k) → IsHeapWord shape d.0.word
    owner_is_heap k = let e = k.3 in let lt = k.2 in (omega (arith, e), omega (arith, e, lt))
covered_is_heap shape log a ok formed (inr (inr r)) = subst (IsHeapWord shape) r.2.2 ((formed r.0 r.1).change r.2.1).0

-- ---- the running transactions

abbrev pub runs : Transaction → Bool
runs t = not (list_any (λ (x : Placed). x.cell.kind == 4) t.records)

filter_ascends : (p : Transaction → Bool) (all : List Transaction) → IsAscending (map number_of all) → IsAscending (map number_of (filter p all))
filter_ascends p [] up = tt
filter_ascends p (t ∷ all) up = by (p t) (filter_ascends p all up.1)
  where
    above : (m : ℕ) → IsAmong (map number_of (filter p all)) m → t.number < m
    above m k = let j = among_map number_of (filter p all) m k in up.0 m (subst (IsAmong (map number_of all)) (sym j.2) (map_among number_of all j.0 (filter_among p all j.0 j.1).0))

    by : (b : Bool) → IsAscending (map number_of (filter p all)) → IsAscending (map number_of (if b then t ∷ filter p all else filter p all))
    by true rest = (above, rest)
    by false rest = rest

pub undo_those : (log : Log) (all undo : List Transaction) → AreTransactionsOf log all → undo ≡ filter runs all → AreThose (IsLoser log) (map number_of undo)
undo_those log all undo h is = subst (λ ts. AreThose (IsLoser log) (map number_of ts)) (sym is) (record {
  ascending = filter_ascends runs all h.ascending;
  each = λ n. (
    (λ m. (let k = among_map number_of (filter runs all) n m in
        let j = filter_among runs all k.0 k.1 in
        let t = h.each k.0 j.0 in
        subst (IsLoser log) (sym k.2) (t.some, (running_is log k.0 (runs k.0) t refl).0 j.1))),
    (λ l. (let k = among_map number_of all n (h.whole n l.0) in
        let t = h.each k.0 k.1 in
        subst (IsAmong (map number_of (filter runs all))) (sym k.2) (map_among number_of (filter runs all) k.0
        (among_filter runs all k.0 k.1 ((running_is log k.0 (runs k.0) t refl).1 (subst (IsRunning log) k.2 l.1)))))),
  );
})

pub undo_each : (log : Log) (all undo : List Transaction) → AreTransactionsOf log all → undo ≡ filter runs all → (t : Transaction) → IsAmong undo t → IsTransactionOf log t
undo_each log all undo h is t m = h.each t (filter_among runs all t (subst (λ ts. IsAmong ts t) is m)).0

-- ---- the sound log of the merged records

abbrev pub log_of : List Placed → Log
log_of merged = reverse (map record_of_placed merged)

sound_on : (shape : Shape) (s : State) (log : Log) → log ≡ s.log → IsSoundState shape s → IsSoundState shape (record { log = log; words = s.words; room = s.room })
sound_on shape s log e h = subst (λ l. IsSoundState shape (record { log = l; words = s.words; room = s.room })) (sym e) h

module _ (layout : Layout) (merged : List Placed) (h : IsSoundMerge layout merged) where
  sound : IsSoundState (layout_shape layout) (record { log = log_of merged; words = h.state.words; room = h.state.room })
  sound = sound_on (layout_shape layout) h.state (log_of merged) h.log_is h.sound

  inside : (r : Record) → IsAmong (log_of merged) r → part_of (layout_shape layout) r.at < layout.partitions
  inside r m = part_inside (layout_shape layout) r.at h.allowed.partitions.0

  pub total_bound : total_need (part_of (layout_shape layout)) layout.partitions (log_of merged) ≤ 49200
  total_bound =
      let few = h.allowed.partitions.1 in
      let all = total_small (part_of (layout_shape layout)) layout.partitions (log_of merged) (λ p lt. (let need = (sound.room p lt).undo in let room = h.room p lt in omega (arith, need, room))) in
      omega (arith, few, all)

  in_log : (x : Placed) → IsAmong merged x → IsAmong (log_of merged) (record_of_placed x)
  in_log x m = reverse_among (map record_of_placed merged) (record_of_placed x) (map_among record_of_placed merged x m)

  covered_bounded : (a : ℕ) → HasDecidingRecord (layout_shape layout).policy (log_of merged) a → a < 2 ^ 32
  covered_bounded a covered = heap_bounded (layout_shape layout) a h.allowed (covered_is_heap (layout_shape layout) (log_of merged) a h.allowed sound.formed covered)

  pub redone_bounded : (unskipped : List ℕ) (x : Placed) → AreThose (IsUnskipped (log_of merged)) unskipped → IsAmong merged x → IsTrue (is_redone (layout_shape layout).policy unskipped x) →
      x.cell.word < 2 ^ 32
  redone_bounded unskipped x ended m on = covered_bounded x.cell.word (inr (inr (record_of_placed x, in_log x m, (redone_test (layout_shape layout).policy (log_of merged) unskipped x ended).0 on)))

  pub deleted_bounded : (winners : List ℕ) (x : Placed) → AreThose (IsCommitted (log_of merged)) winners → IsAmong merged x → IsTrue (is_deleted winners x) → x.cell.word < 2 ^ 32
  deleted_bounded winners x won m on = covered_bounded x.cell.word (inr (inl (record_of_placed x, in_log x m, (deleted_test (log_of merged) winners x won).0 on)))

  number_bounded : (r : Record) → IsAmong (log_of merged) r → r.lsn ≤ 2 ^ 63
  number_bounded r m = let k = (sound.numbers r m).undo in omega (arith, k)

  pub gate_bounded : (x : Placed) → IsAmong merged x → x.cell.lsn + 1 < 2 ^ 64
  gate_bounded x m = let k = number_bounded (record_of_placed x) (in_log x m) in omega (arith, k)

  pub undo_small : (all undo : List Transaction) → AreTransactionsOf (log_of merged) all → undo ≡ filter runs all → AreSmall (log_of merged) undo
  undo_small all undo whole is = record {
    each = undo_each (log_of merged) all undo whole is;
    small = (let e = needs_are (part_of (layout_shape layout)) layout.partitions (log_of merged) undo inside (undo_those (log_of merged) all undo whole is) in
        let le = total_bound in omega (arith, e, le));
  }

  pub need_small : (all undo : List Transaction) (needed : ℕ) → AreTransactionsOf (log_of merged) all → undo ≡ filter runs all → needed ≡ sum_by (λ (t : Transaction). need_of (log_of merged) t.number) undo → needed < 2 ^ 20
  need_small all undo needed whole is sum = let k = (undo_small all undo whole is).small in omega (arith, k, sum)

  pub needed_is : (all undo slice : List Transaction) (needed : ℕ) → AreTransactionsOf (log_of merged) all → undo ≡ filter runs all → slice ≡ undo →
      ((log : Log) → AreSmall log slice → needed ≡ sum_by (λ (t : Transaction). need_of log t.number) slice) → needed ≡ sum_by (need_in_log (log_of merged)) undo
  needed_is all undo slice needed whole is same says =
      says (log_of merged) (subst (AreSmall (log_of merged)) (sym same) (undo_small all undo whole is)) ∙ ap (sum_by (need_in_log (log_of merged))) same

  pub needed_small : (all undo slice : List Transaction) (needed : ℕ) → AreTransactionsOf (log_of merged) all → undo ≡ filter runs all → slice ≡ undo →
      ((log : Log) → AreSmall log slice → needed ≡ sum_by (λ (t : Transaction). need_of log t.number) slice) → needed < 2 ^ 20
  needed_small all undo slice needed whole is same says = need_small all undo needed whole is (needed_is all undo slice needed whole is same says)

  pub appends_small : (needed appends : ℕ) (checkpoint : Bool) → needed < 2 ^ 20 → appends ≡ needed + (if checkpoint then 1 else 0) → appends < 2 ^ 32
  appends_small needed appends true lt e = omega (arith, lt, e)
  appends_small needed appends false lt e = omega (arith, lt, e)

  next_small : (log : Log) (total : ℕ) → ((r : Record) → IsAmong log r → r.lsn ≤ 2 ^ 63) → total ≤ 49200 → next_lsn log + (total + 1) < 2 ^ 64
  next_small [] total each le = omega (arith, le)
  next_small (r ∷ log) total each le = let k = each r (inl refl) in omega (arith, k, le)

  log_length : length (log_of merged) ≡ length merged
  log_length = length-reverse (map record_of_placed merged) ∙ length-map merged record_of_placed

  -- the records that are redone, deleted and undone are different ones
  passes_few : (all undo : List Transaction) (unskipped winners : List ℕ) (changes : List Change) → AreTransactionsOf (log_of merged) all → undo ≡ filter runs all →
      AreThose (IsUnskipped (log_of merged)) unskipped → AreThose (IsCommitted (log_of merged)) winners →
      changes ≡ map new_value (filter (is_redone (layout_shape layout).policy unskipped) merged) ++ map given_back (filter (is_deleted winners) merged) →
      length changes + sum_by (λ (t : Transaction). length t.records) undo ≤ length (log_of merged)
  passes_few all undo unskipped winners changes whole is ended won changed =
      let redo = is_redone (layout_shape layout).policy unskipped in
      let gone = is_deleted winners in
      let mine = of_numbers (map number_of undo) in
      let those = undo_those (log_of merged) all undo whole is in
      let a : length changes ≡ length (map new_value (filter redo merged)) + length (map given_back (filter gone merged)) = ap length changed ∙ length-append (map new_value (filter redo merged)) (map given_back (filter gone merged)) in
      let b = length-map (filter redo merged) new_value in
      let c = length-map (filter gone merged) given_back in
      let d = passed_records merged (log_of merged) undo refl (undo_each (log_of merged) all undo whole is) those.ascending in
      let e = filter_or redo gone merged (λ x m on off. apart_kinds x ((redone_test (layout_shape layout).policy (log_of merged) unskipped x ended).0 on) ((deleted_test (log_of merged) winners x won).0 off)) in
      let f = filter_or (λ x. redo x || gone x) mine merged (λ x m on off. elim (either (redo x) (gone x) on) [
        | inl k ↦ apart_ended x those off ((redone_test (layout_shape layout).policy (log_of merged) unskipped x ended).0 k).3
        | inr k ↦ (let j = ((deleted_test (log_of merged) winners x won).0 k).2 in apart_ended x those off (j.0, j.1, j.2.0))
      ]) in
      let g = filter_few (λ x. (redo x || gone x) || mine x) merged in
      let l = log_length in
      omega (arith, a, b, c, d, e, f, g, l)
    where
      either : (a b : Bool) → (a || b) ≡ true → (a ≡ true) ⊎ (b ≡ true)
      either true b e = inl refl
      either false b e = inr e

      apart_kinds : (x : Placed) → IsToRedo (layout_shape layout).policy (log_of merged) x.cell.word (record_of_placed x) → IsToDelete (log_of merged) x.cell.word (record_of_placed x) → ⊥
      apart_kinds x r d = let six = d.0 in elim r.1 [ inl one ↦ omega (arith, one, six) | inr two ↦ omega (arith, two, six) ]

      apart_ended : (x : Placed) → AreThose (IsLoser (log_of merged)) (map number_of undo) → of_numbers (map number_of undo) x ≡ true → IsEnded (log_of merged) x.cell.transaction → ⊥
      apart_ended x those on end =
          let k = both_true (has_number (map number_of undo) x.cell.transaction) (not (x.cell.kind == 5)) on in
          ((those.each x.cell.transaction).0 (has_among (map number_of undo) x.cell.transaction k.0)).1 end.0 end.1 end.2

  empty_redo : (changes : List Change) (n : ℕ) → length changes + n ≤ length (log_of merged) → log_of merged ≡ [] → changes ≡ []
  empty_redo [] n le none = refl
  empty_redo (c ∷ changes) n le none = let z = ap length none in absurd (omega (arith, le, z))

  pub work_done : (all : List Transaction) (unskipped : List ℕ) (needed appends : ℕ) (work : Work) → AreTransactionsOf (log_of merged) all →
      AreThose (IsCommitted (log_of merged)) work.winners → AreThose (IsLoser (log_of merged)) work.losers → AreThose (IsUnskipped (log_of merged)) unskipped →
      work.redo ≡ map new_value (filter (is_redone (layout_shape layout).policy unskipped) merged) ++ map given_back (filter (is_deleted work.winners) merged) →
      work.undo ≡ filter runs all → (IsTrue work.checkpoint ↔ (((layout_shape layout).policy ≡ 2) × HasOpen (log_of merged))) →
      ListsAll (log_of merged) work.gates.gates.items work.gates.ends.items work.gates.checkpoints.items → HasSpare work.gates needed (length work.undo) 1 →
      vec_len work.gates.gates + vec_len work.gates.ends + vec_len work.gates.checkpoints ≡ length merged →
      needed ≡ sum_by (need_in_log (log_of merged)) work.undo → work.next ≡ next_lsn (log_of merged) → appends ≡ needed + (if work.checkpoint then 1 else 0) →
      work.most ≡ 20 + 2 * length merged + (23 + layout.cells) * appends + 7 * layout.buckets → IsWorkOf (layout_shape layout) (log_of merged) work
  work_done all unskipped needed appends work whole won lost ended changed is marks lists spare count sum next more most =
      let few = passes_few all work.undo unskipped work.winners work.redo whole is ended won changed in
      let those = undo_those (log_of merged) all work.undo whole is in
      let needs = needs_are (part_of (layout_shape layout)) layout.partitions (log_of merged) work.undo inside those in
      let less = needs_less (log_of merged) work.undo in
      let redo = redo_done (layout_shape layout).policy (log_of merged) merged unskipped work.winners work.redo refl
      (good_of (layout_shape layout) (record { log = log_of merged; words = h.state.words; room = h.state.room }) sound).falls ended won changed in
      record {
        winners = won;
        losers = lost;
        redo = redo;
        redo_words = λ c m. covered_is_heap (layout_shape layout) (log_of merged) c.word h.allowed sound.formed (redo.covered c m);
        redo_none = empty_redo work.redo (sum_by (λ (t : Transaction). length t.records) work.undo) few;
        undo = those;
        undo_records = undo_each (log_of merged) all work.undo whole is;
        checkpoint = marks;
        gates = lists;
        count = count ∙ sym log_length;
        spare = record {
          of_gates = (let k = spare.of_gates in omega (arith, k, sum, less));
          of_ends = spare.of_ends;
          of_checkpoints = spare.of_checkpoints;
        };
        next = next;
        next_fits = (let k = next_small (log_of merged) (total_need (part_of (layout_shape layout)) layout.partitions (log_of merged)) number_bounded total_bound in omega (arith, k, next));
        needs = needs;
        passes = few;
        most = most ∙ ap (λ n. 20 + 2 * n + (23 + layout.cells) * appends + 7 * layout.buckets) (sym log_length)
            ∙ ap (λ n. 20 + 2 * length (log_of merged) + (23 + layout.cells) * n + 7 * layout.buckets) (more ∙ ap (λ n. n + (if work.checkpoint then 1 else 0)) (sum ∙ needs));
      }
