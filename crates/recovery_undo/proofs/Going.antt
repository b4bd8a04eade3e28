-- How the undo goes on, on the device.
use Rattle.std.proofs.Common.{◌≡◌, ◌≢◌, inl, inr, ℕ, ◌+◌, ◌*◌, ◌<◌, ◌≤◌, ◌^◌, List, [], ◌∷◌, ◌++◌, length, refl, sym, ap, ◌∙◌, subst, arith, add_assoc}
use Rattle.std.specs.Vec.{vec_len, vec_capacity}
use Rattle.persist_model.specs.Region.{Region}
use Rattle.persist_model.specs.Records.{Record, Log, IsAmong, IsEnd, IsCheckpoint, IsRunning}
use Rattle.persist_model.specs.Shape.{Shape, list_words}
use Rattle.persist_model.specs.Need.{need_of}
use Rattle.persist_model.specs.State.{State, IsSoundState}
use Rattle.lane_traits.specs.declared.device.Done.{Done}
use Rattle.lane_traits.specs.declared.device.Done.TheVariants.{Made, Stopped}
use Rattle.lane_traits.specs.Device.{Counts}
use Rattle.log_laws.specs.Parts.{EachKeeps}
use Rattle.log_laws.proofs.Keeping.{good_of}
use Rattle.log_laws.proofs.Needs.{has_kind_false}
use Rattle.region_layout.specs.declared.cell.Cell.{Cell}
use Rattle.region_layout.specs.Cell.{record_of}
use Rattle.region_layout.specs.Layout.{layout_shape}
use Rattle.bucket_log.proofs.AppendImages.{IsAmong-push, IsAmong-last, IsAmong-cases}
use Rattle.recovery_run.specs.Edges.{counts_with, HasCounted, HasOnlyValue, KeepsWords}
use Rattle.recovery_run.specs.Groups.{ListsAll}
use Rattle.recovery_run.specs.Reached.{newest_at, HasReached, HasSettled}
use Rattle.recovery_run.proofs.Reaching.{log_word_one, settled_reached}
use Rattle.recovery_undo.specs.declared.held.Held.{Held}
use Rattle.recovery_undo.specs.declared.target.Target.{Target}
use Rattle.recovery_undo.specs.RecoveryAppends.{AreQuiet, CanTake, KnowsRegion, with_cell}
use Rattle.recovery_undo.specs.Numbers.{next_lsn}
use Rattle.recovery_undo.specs.UndoProgress.{IsUndoing, Seen, HasSpent, Start, HasGone, CanNote, Halts}
use Rattle.recovery_undo.proofs.Noting.{above_all, has_room}
use Rattle.recovery_undo.proofs.Places.{allowed}
use Rattle.recovery_undo.proofs.Taking.{list_words_few, reads_zero}

-- ---- what is spent

counts_more : (done : Done) (counts : Counts) (n m : ℕ) → counts_with (counts_with counts n Made) m done ≡ counts_with counts (n + m) done
counts_more Made counts n m = ap (λ e. record counts { events = e }) (add_assoc counts.events n m)
counts_more Stopped counts n m = ap (λ e. record (counts_with counts n Stopped) { events = e }) (add_assoc counts.events n m)

pub spent_more : (shape : Shape) (a b : ℕ) (done : Done) (x y z : Seen) → HasSpent shape a Made x y → HasSpent shape b done y z → HasSpent shape (a + b) done x z
spent_more shape a b done x y z h k = record {
  counted = record {
    events = h.counted.events + k.counted.events;
    few = (let one = h.counted.few in let two = k.counted.few in omega (arith, one, two));
    is = k.counted.is ∙ ap (λ (c : Counts). counts_with c k.counted.events done) h.counted.is ∙ counts_more done x.counts h.counted.events k.counted.events;
    cause = λ stopped.
        let at = k.counted.cause stopped in
        let from : y.counts.events ≡ x.counts.events + h.counted.events = ap (λ (c : Counts). c.events) h.counted.is in
        let same : y.counts.budget ≡ x.counts.budget = ap (λ (c : Counts). c.budget) h.counted.is in
        omega (arith, at, from, same);
  };
  spare = (let one = h.spare in let two = k.spare in omega (arith, one, two));
  header = λ a v m one. k.header a v m (h.header a v m one);
}

pub spent_within : (shape : Shape) (a b : ℕ) (done : Done) (x y : Seen) → a ≤ b → HasSpent shape a done x y → HasSpent shape b done x y
spent_within shape a b done x y le h = record {
  counted = record { events = h.counted.events; few = (let few = h.counted.few in omega (arith, few, le)); is = h.counted.is; cause = h.counted.cause };
  spare = (let spare = h.spare in omega (arith, spare, le));
  header = h.header;
}

pub counted_as : (n : ℕ) (done is : Done) (before later : Counts) → done ≡ is → HasCounted n done before later → HasCounted n is before later
counted_as n done is before later e h = subst (λ (d : Done). HasCounted n d before later) e h

-- ---- the gates

pub lists_gate : (log : Log) (r : Record) (gates ends checkpoints : List ℕ) → (IsEnd r → ⊥) → (IsCheckpoint r → ⊥) → ListsAll log gates ends checkpoints → ListsAll (r ∷ log) (gates ++ r.at ∷ []) ends checkpoints
lists_gate log r gates ends checkpoints not_end not_check h = record {
  groups = record {
    of_gates = λ a m. elim (IsAmong-cases gates r.at a m) [
      | inl k ↦ (let x = h.groups.of_gates a k in (x.0, inr x.1, x.2))
      | inr e ↦ (r, inl refl, (sym e, not_end, not_check))
    ];
    of_ends = λ a m. (let x = h.groups.of_ends a m in (x.0, inr x.1, x.2));
    of_checkpoints = λ a m. (let x = h.groups.of_checkpoints a m in (x.0, inr x.1, x.2));
  };
  each = λ x m. elim m [
    | inl e ↦ inl (subst (λ a. IsAmong (gates ++ r.at ∷ []) a) (ap (λ (z : Record). z.at) (sym e)) (IsAmong-last gates r.at))
    | inr k ↦ elim (h.each x k) [ inl j ↦ inl (IsAmong-push gates r.at x.at j) | inr j ↦ inr j ]
  ];
}

pub lists_end : (log : Log) (r : Record) (gates ends checkpoints : List ℕ) → IsEnd r → ListsAll log gates ends checkpoints → ListsAll (r ∷ log) gates (ends ++ r.at ∷ []) checkpoints
lists_end log r gates ends checkpoints is h = record {
  groups = record {
    of_gates = λ a m. (let x = h.groups.of_gates a m in (x.0, inr x.1, x.2));
    of_ends = λ a m. elim (IsAmong-cases ends r.at a m) [
      | inl k ↦ (let x = h.groups.of_ends a k in (x.0, inr x.1, x.2))
      | inr e ↦ (r, inl refl, (sym e, is))
    ];
    of_checkpoints = λ a m. (let x = h.groups.of_checkpoints a m in (x.0, inr x.1, x.2));
  };
  each = λ x m. elim m [
    | inl e ↦ inr (inl (subst (λ a. IsAmong (ends ++ r.at ∷ []) a) (ap (λ (z : Record). z.at) (sym e)) (IsAmong-last ends r.at)))
    | inr k ↦ elim (h.each x k) [ inl j ↦ inl j | inr j ↦ elim j [ inl i ↦ inr (inl (IsAmong-push ends r.at x.at i)) | inr i ↦ inr (inr i) ] ]
  ];
}

pub lists_checkpoint : (log : Log) (r : Record) (gates ends checkpoints : List ℕ) → IsCheckpoint r → ListsAll log gates ends checkpoints → ListsAll (r ∷ log) gates ends (checkpoints ++ r.at ∷ [])
lists_checkpoint log r gates ends checkpoints is h = record {
  groups = record {
    of_gates = λ a m. (let x = h.groups.of_gates a m in (x.0, inr x.1, x.2));
    of_ends = λ a m. (let x = h.groups.of_ends a m in (x.0, inr x.1, x.2));
    of_checkpoints = λ a m. elim (IsAmong-cases checkpoints r.at a m) [
      | inl k ↦ (let x = h.groups.of_checkpoints a k in (x.0, inr x.1, x.2))
      | inr e ↦ (r, inl refl, (sym e, is))
    ];
  };
  each = λ x m. elim m [
    | inl e ↦ inr (inr (subst (λ a. IsAmong (checkpoints ++ r.at ∷ []) a) (ap (λ (z : Record). z.at) (sym e)) (IsAmong-last checkpoints r.at)))
    | inr k ↦ elim (h.each x k) [ inl j ↦ inl j | inr j ↦ elim j [ inl i ↦ inr (inl i) | inr i ↦ inr (inr (IsAmong-push checkpoints r.at x.at i)) ] ]
  ];
}

-- ---- the recovery words

-- they stay where none of the header's words is stored to
pub quiet_kept : (shape : Shape) (first y : State) (before later : Region) (A : ℕ → Type 0) → shape.partitions ≤ 3 → HasReached shape first y before → ((a : ℕ) → a < 32 → A a) →
    KeepsWords A before later → later.size ≡ before.size → ((a : ℕ) → 0 < length (later.at a)) → AreQuiet shape before → AreQuiet shape later
quiet_kept shape first y before later A few h all keeps size some quiet p lt =
    let low = list_words_few p (omega (arith, few, lt)) in
    (kept (list_words p + 2) (omega (arith, low)) (quiet p lt).0, kept (list_words p + 4) (omega (arith, low)) (quiet p lt).1)
  where
    kept : (a : ℕ) → a < 32 → newest_at before a ≡ 0 → newest_at later a ≡ 0
    kept a low none =
        let enough : 32 ≤ before.size = h.header.header.enough in
        reads_zero later a (omega (arith, low, size, enough)) (some a)
        (keeps a 0 (all a low) (subst (λ v. HasOnlyValue v (before.at a)) none (log_word_one shape first y before h a (omega (arith, low)))))

-- ---- the numbers

-- a number that is drawn is within 64 bits
pub next_fits : (shape : Shape) (z : State) → IsSoundState shape z → (r : Record) → IsAmong z.log r → next_lsn z.log + 1 < 2 ^ 64
next_fits shape z sound r m = by_log z.log refl
  where
    by_log : (log : Log) → z.log ≡ log → next_lsn z.log + 1 < 2 ^ 64
    by_log [] is = absurd (subst (λ l. IsAmong l r) is m)
    by_log (x ∷ log) is =
        let n = (sound.numbers x (subst (λ l. IsAmong l x) (sym is) (inl refl))).undo in
        let e : next_lsn z.log ≡ x.lsn + 1 = ap next_lsn is in
        omega (arith, n, e)

pub need_some : (log : Log) (t : ℕ) → IsRunning log t → 1 ≤ need_of log t
need_some log t running = let off = has_kind_false t 4 log running in rw off (omega arith)

pub next_is_some : (log : Log) → next_lsn log ≢ 0
next_is_some [] e = omega (arith, e)
next_is_some (x ∷ log) e = omega (arith, e)

-- ---- a note

module _ (target : Target) (start : Start) (z : State) (left : ℕ) (held : Held) (now : Seen) (h : HasGone target start z left held now) where
  abbrev shape : Shape
  shape = layout_shape target.layout

  abbrev t : ℕ
  t = target.transaction

  abbrev K : ℕ
  K = target.layout.cells

  pub few_partitions : 1 ≤ (layout_shape target.layout).partitions
  few_partitions = let inside = target.inside in omega (arith, inside)

  pub at_most_three : (layout_shape target.layout).partitions ≤ 3
  at_most_three = (allowed target.layout start.first z now.region h.reached).partitions.1

  -- a cell with the next number can be appended
  pub can_take : (cell : Cell) → IsUndoing (layout_shape target.layout) target.transaction target.partition start.state z → cell.lsn ≡ next_lsn z.log →
      CanTake target.layout target.partition cell start.first z now.region
  can_take cell undoing gate = record {
    inside = target.inside;
    reached = h.reached;
    quiet = h.quiet target.partition target.inside;
    room = has_room shape t target.partition start.state z few_partitions undoing;
    gate = λ none. next_is_some z.log (sym gate ∙ none);
    above = λ r m. (let lt = above_all z.log (good_of shape z undoing.sound).falls r m in omega (arith, lt, gate));
  }

  left_spare : start.now.spare ≤ now.spare + h.used
  left_spare = h.spent.spare

  pub spare_left : (need : ℕ) → need_of z.log target.transaction ≡ need + 1 → target.layout.cells + 21 ≤ now.spare
  spare_left need is =
      let fits : h.used + (K + 21) * (need + 1) + left + 1 ≤ start.most = subst (λ n. h.used + (K + 21) * n + left + 1 ≤ start.most) is h.fits in
      let spare = left_spare in
      let enough = h.enough in
      omega (arith, fits, spare, enough)

  pub store_spare : 1 ≤ now.spare
  store_spare =
      let fits = h.fits in
      let spare = left_spare in
      let enough = h.enough in
      omega (arith, fits, spare, enough)

  -- a stop within what is left
  pub halts : (n : ℕ) (later : Seen) → h.used + n ≤ start.most → EachKeeps (layout_shape target.layout) start.first later.region → HasSpent (layout_shape target.layout) n Stopped now later →
      Halts target start later
  halts n later le keeps spent = record {
    keeps = keeps;
    spent = spent_within shape (h.used + n) start.most Stopped start.now later le (spent_more shape h.used n Stopped start.now now later h.spent spent);
  }

  pub append_halts : (need : ℕ) (later : Seen) → need_of z.log target.transaction ≡ need + 1 → EachKeeps (layout_shape target.layout) start.first later.region →
      HasSpent (layout_shape target.layout) (target.layout.cells + 21) Stopped now later → Halts target start later
  append_halts need later is keeps spent =
      let fits : h.used + (K + 21) * (need + 1) + left + 1 ≤ start.most = subst (λ n. h.used + (K + 21) * n + left + 1 ≤ start.most) is h.fits in
      halts (K + 21) later (omega (arith, fits)) keeps spent

  module _ (cell : Cell) (k : CanNote target start.state z cell) where
    need_is : need_of z.log t ≡ need_of (record_of 0 cell ∷ z.log) t + 1
    need_is = sym (k.less 0)

    running_on : (at : ℕ) → IsRunning (record_of at cell ∷ z.log) t
    running_on at e m end = elim m [
      | inl same ↦ (let four : cell.kind ≡ 4 = ap (λ (x : Record). x.kind) (sym same) ∙ end.0 in elim (k.note at).1 [ inl two ↦ absurd (omega (arith, four, two)) | inr three ↦ absurd (omega (arith, four, three)) ])
      | inr j ↦ k.undoing.running e j end
    ]

    pub note_fits : vec_len held.gates.gates < vec_capacity held.gates.gates
    note_fits =
        let some = need_some (record_of 0 cell ∷ z.log) t (running_on 0) in
        let more = need_is in
        let len = h.gates_len in
        let fit = h.gates_fit in
        let memory = h.gates_memory in
        omega (arith, some, more, len, fit, memory)

    pub note_take : CanTake target.layout target.partition cell start.first z now.region
    note_take = can_take cell k.undoing k.gate

    pub note_spare : target.layout.cells + 21 ≤ now.spare
    note_spare = spare_left (need_of (record_of 0 cell ∷ z.log) t) need_is

    pub note_next : held.next + 1 < 2 ^ 64
    note_next = let n = next_fits shape z k.undoing.sound k.undoing.some.0 k.undoing.some.1 in let e = h.holds.next in omega (arith, n, e)

    pub note_halts : (later : Seen) → EachKeeps (layout_shape target.layout) start.first later.region → HasSpent (layout_shape target.layout) (target.layout.cells + 21) Stopped now later → Halts target start later
    note_halts later keeps spent = append_halts (need_of (record_of 0 cell ∷ z.log) t) later need_is keeps spent

    pub note_goes : (at : ℕ) (more : Held) (later : Seen) → HasSettled (layout_shape target.layout) start.first (with_cell z target.partition cell at) later.region →
        AreQuiet (layout_shape target.layout) later.region → HasSpent (layout_shape target.layout) (target.layout.cells + 21) Made now later →
        KnowsRegion target.layout more.table later.region → more.next ≡ held.next + 1 →
        more.gates.gates.items ≡ held.gates.gates.items ++ at ∷ [] → vec_len more.gates.gates ≡ vec_len held.gates.gates + 1 → vec_capacity held.gates.gates ≤ vec_capacity more.gates.gates →
        more.gates.ends ≡ held.gates.ends → more.gates.checkpoints ≡ held.gates.checkpoints → HasGone target start (with_cell z target.partition cell at) left more later
    note_goes at more later settled quiet spent knows raised items len memory ends checkpoints =
        let r = record_of at cell in
        let less = k.less at in
        let fits : h.used + (K + 21) * (need_of (r ∷ z.log) t + 1) + left + 1 ≤ start.most = subst (λ n. h.used + (K + 21) * n + left + 1 ≤ start.most) (sym less) h.fits in
        let lists : ListsAll (r ∷ z.log) (held.gates.gates.items ++ at ∷ []) held.gates.ends.items held.gates.checkpoints.items =
        lists_gate z.log r held.gates.gates.items held.gates.ends.items held.gates.checkpoints.items
        (λ four. elim (k.note at).1 [ inl two ↦ absurd (omega (arith, four, two)) | inr three ↦ absurd (omega (arith, four, three)) ])
        (λ five. elim (k.note at).1 [ inl two ↦ absurd (omega (arith, five, two)) | inr three ↦ absurd (omega (arith, five, three)) ]) h.holds.gates in
        record {
          sound = h.sound;
          origin = h.origin;
          reached = settled_reached shape start.first (with_cell z target.partition cell at) later.region settled;
          quiet = quiet;
          holds = record {
            next = (let e = h.holds.next in let f = k.gate in let both : held.next ≡ cell.lsn = e ∙ sym f in raised ∙ ap (λ n. n + 1) both);
            gates = subst (λ l. ListsAll (r ∷ z.log) l more.gates.ends.items more.gates.checkpoints.items) (sym items)
                (subst (λ v. ListsAll (r ∷ z.log) (held.gates.gates.items ++ at ∷ []) v.items more.gates.checkpoints.items) (sym ends)
                (subst (λ v. ListsAll (r ∷ z.log) (held.gates.gates.items ++ at ∷ []) held.gates.ends.items v.items) (sym checkpoints) lists));
            table = knows;
          };
          gates_len = (let was = h.gates_len in omega (arith, was, less, len));
          gates_memory = (let was = h.gates_memory in omega (arith, was, memory));
          gates_fit = h.gates_fit;
          ends = ends ∙ h.ends;
          ends_fit = h.ends_fit;
          checkpoints = checkpoints ∙ h.checkpoints;
          used = h.used + (K + 21);
          spent = spent_more shape h.used (K + 21) Made start.now now later h.spent spent;
          fits = omega (arith, fits);
          enough = h.enough;
        }
