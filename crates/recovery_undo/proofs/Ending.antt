-- The end of an undo: the old words are kept, and the end of the transaction comes.
use Rattle.std.proofs.Common.{◌≡◌, ◌≢◌, inl, inr, ℕ, ◌+◌, ◌*◌, ◌<◌, ◌≤◌, ◌^◌, [], ◌∷◌, ◌++◌, length, refl, sym, ap, ◌∙◌, subst, arith}
use Rattle.std.specs.Vec.{vec_len, vec_capacity}
use Rattle.persist_model.specs.Records.{Record, Log, IsAmong, IsOf, IsLoser}
use Rattle.persist_model.specs.Shape.{Shape, part_of}
use Rattle.persist_model.specs.Need.{to_undo, need_of}
use Rattle.persist_model.specs.State.{State}
use Rattle.lane_traits.specs.declared.device.Done.{Done}
use Rattle.lane_traits.specs.declared.device.Done.TheVariants.{Made, Stopped}
use Rattle.log_laws.specs.Parts.{EachKeeps}
use Rattle.log_laws.specs.Recovery.{AreApplied, IsStored, Step, grown}
use Rattle.log_laws.proofs.Keeping.{good_of}
use Rattle.region_layout.specs.declared.cell.Cell.{Cell}
use Rattle.region_layout.specs.Cell.{record_of}
use Rattle.region_layout.specs.Layout.{layout_shape}
use Rattle.bucket_log.specs.States.{less_room}
use Rattle.persist_model.proofs.Among.{among_append, among_right}
use Rattle.recovery_run.specs.Edges.{HasCounted, KeepsWords}
use Rattle.recovery_run.specs.Groups.{records_of, ListsAll}
use Rattle.recovery_run.specs.Reached.{HasSettled}
use Rattle.recovery_run.proofs.Reaching.{settled_reached}
use Rattle.recovery_undo.specs.declared.held.Held.{Held}
use Rattle.recovery_undo.specs.declared.target.Target.{Target}
use Rattle.recovery_undo.specs.RecoveryAppends.{AreQuiet, CanTake, KnowsRegion, StepsTo, with_cell}
use Rattle.recovery_undo.specs.Numbers.{next_lsn}
use Rattle.recovery_undo.specs.Records.{plain_record}
use Rattle.recovery_undo.specs.UndoProgress.{Seen, HasSpent, Start, Passes, Finishes, Halts}
use Rattle.recovery_undo.proofs.Noting.{above_all, has_room, end_comes, ended_applied, ended_need}
use Rattle.recovery_undo.proofs.UndoPass.{pass_stack, pass_stored}
use Rattle.recovery_undo.proofs.RecordsOf.{need_of-records_of, others_stay}
use Rattle.recovery_undo.proofs.Going.{spent_more, spent_within, few_partitions, next_fits, next_is_some, quiet_kept, at_most_three, halts, lists_end}

module _ (target : Target) (start : Start) (counter : ℕ) (held : Held) (now : Seen) (h : Passes target start [] counter held now) where
  abbrev shape : Shape
  shape = layout_shape target.layout

  abbrev t : ℕ
  t = target.transaction

  abbrev part : ℕ
  part = target.partition

  abbrev z : State
  z = h.state

  abbrev K : ℕ
  K = target.layout.cells

  few : 1 ≤ shape.partitions
  few = few_partitions target start z 0 held now h.gone

  nothing : to_undo t z.log ≡ []
  nothing = pass_stack shape t part start.state z counter h.passing

  stored : IsStored t z.log z.words
  stored = pass_stored shape t part start.state z counter h.gone.origin h.passing

  notes_are : length h.passing.undoing.news + 1 ≡ need_of start.state.log t
  notes_are = ended_need shape t part start.state z few h.passing.undoing h.passing.rolled nothing

  need_is : need_of z.log t ≡ 1
  need_is = let n = notes_are in let m = h.passing.undoing.need in omega (arith, n, m)

  fits : h.gone.used + (K + 21) + 1 ≤ start.most
  fits = let f : h.gone.used + (K + 21) * 1 + 0 + 1 ≤ start.most = subst (λ n. h.gone.used + (K + 21) * n + 0 + 1 ≤ start.most) need_is h.gone.fits in omega (arith, f)

  pub fence_halts : (later : Seen) → EachKeeps (layout_shape target.layout) start.first later.region → HasSpent (layout_shape target.layout) 1 Stopped now later → Halts target start later
  fence_halts later keeps spent = halts target start z 0 held now h.gone 1 later (let f = fits in omega (arith, f)) keeps spent

  -- ---- behind the fence

  module _ (kept : Seen) (settled : HasSettled (layout_shape target.layout) start.first h.state kept.region) (counted : HasCounted 1 Made now.counts kept.counts) (spare : now.spare ≤ kept.spare)
      (keeps : KeepsWords (λ a. Unit {0}) now.region kept.region) (full : (a : ℕ) → 0 < length (kept.region.at a))
      (cell : Cell) (cell_is : (at : ℕ) → record_of at cell ≡ plain_record at held.next target.transaction 4 2) where
    fenced : HasSpent shape 1 Made now kept
    fenced = record { counted = counted; spare = omega (arith, spare); header = λ a v is one. keeps a v tt one }

    pub fenced_quiet : AreQuiet (layout_shape target.layout) kept.region
    fenced_quiet = quiet_kept shape start.first z now.region kept.region (λ a. Unit {0}) (at_most_three target start z 0 held now h.gone) h.gone.reached (λ a lt. tt) keeps
        (settled.come.size ∙ sym h.gone.reached.come.size) full h.gone.quiet

    record_is : (at : ℕ) → record_of at cell ≡ plain_record at (next_lsn z.log) t 4 2
    record_is at = cell_is at ∙ ap (λ n. plain_record at n t 4 2) h.gone.holds.next

    gate_is : cell.lsn ≡ next_lsn z.log
    gate_is = ap (λ (r : Record). r.lsn) (record_is 0)

    pub end_take : CanTake target.layout target.partition cell start.first h.state kept.region
    end_take = record {
      inside = target.inside;
      reached = settled_reached shape start.first z kept.region settled;
      quiet = fenced_quiet part target.inside;
      room = has_room shape t part start.state z few h.passing.undoing;
      gate = λ none. next_is_some z.log (sym gate_is ∙ none);
      above = λ r m. (let lt = above_all z.log (good_of shape z h.passing.undoing.sound).falls r m in let g = gate_is in omega (arith, lt, g));
    }

    pub end_steps : StepsTo target.layout target.partition cell h.state
    end_steps at here = subst (λ (r : Record). Step shape z (grown z r (less_room part z.room))) (sym (record_is at))
        (end_comes shape t part start.state z few h.passing.undoing at here h.passing.rolled nothing stored)

    pub end_spare : target.layout.cells + 21 ≤ kept.spare
    end_spare =
        let f = fits in
        let s = h.gone.spent.spare in
        let e = h.gone.enough in
        omega (arith, f, s, e, spare)

    pub end_next : held.next + 1 < 2 ^ 64
    end_next = let n = next_fits shape z h.passing.undoing.sound h.passing.undoing.some.0 h.passing.undoing.some.1 in let e = h.gone.holds.next in omega (arith, n, e)

    pub end_fits : vec_len held.gates.ends < vec_capacity held.gates.ends
    end_fits = let f = h.gone.ends_fit in let e : held.gates.ends ≡ start.gates.ends = h.gone.ends in subst (λ v. vec_len v < vec_capacity v) (sym e) (omega (arith, f))

    used_all : (done : Done) (later : Seen) → HasSpent shape (K + 21) done kept later → HasSpent shape start.most done start.now later
    used_all done later spent = spent_within shape (h.gone.used + 1 + (K + 21)) start.most done start.now later (let f = fits in omega (arith, f))
        (spent_more shape (h.gone.used + 1) (K + 21) done start.now kept later (spent_more shape h.gone.used 1 Made start.now now kept h.gone.spent fenced) spent)

    pub end_halts : (later : Seen) → EachKeeps (layout_shape target.layout) start.first later.region → HasSpent (layout_shape target.layout) (target.layout.cells + 21) Stopped kept later → Halts target start later
    end_halts later keeps spent = record { keeps = keeps; spent = used_all Stopped later spent }

    -- ---- the log behind the end

    module _ (at : ℕ) (here : part_of (layout_shape target.layout) at ≡ target.partition) where
      abbrev e : Record
      e = record_of at cell

      abbrev news : Log
      news = e ∷ h.passing.undoing.news

      abbrev y : State
      y = start.state

      log_is : e ∷ z.log ≡ news ++ y.log
      log_is = ap (λ (l : Log). e ∷ l) h.passing.undoing.log

      end_kind : e.kind ≡ 4
      end_kind = ap (λ (r : Record). r.kind) (record_is at)

      end_owner : e.transaction ≡ t
      end_owner = ap (λ (r : Record). r.transaction) (record_is at)

      end_of : IsOf t e
      end_of = (end_owner, λ five. (let four = end_kind in omega (arith, four, five)))

      mine : (r : Record) → IsAmong news r → IsOf t r
      mine r m = elim m [
        | inl same ↦ subst (λ (x : Record). IsOf t x) (sym same) end_of
        | inr k ↦ (let note = h.passing.undoing.notes r k in
            (note.0, λ five. elim note.1 [ inl two ↦ omega (arith, two, five) | inr three ↦ omega (arith, three, five) ]))
      ]

      others : (u : ℕ) → u ≢ t → records_of u (e ∷ z.log) ≡ records_of u y.log
      others u ne = ap (records_of u) log_is ∙ others_stay t u news y.log mine ne

      needs : (u : ℕ) → u ≢ t → need_of (e ∷ z.log) u ≡ need_of y.log u
      needs u ne = sym (need_of-records_of u (e ∷ z.log)) ∙ ap (λ l. need_of l u) (others u ne) ∙ need_of-records_of u y.log

      to_later : (r : Record) → IsAmong y.log r → IsAmong (e ∷ z.log) r
      to_later r m = subst (λ l. IsAmong l r) (sym log_is) (among_right news y.log r m)

      losers : (u : ℕ) → IsLoser (e ∷ z.log) u → IsLoser y.log u × (u ≢ t)
      losers u lose =
          let ne : u ≢ t = λ same. lose.1 e (inl refl) (end_kind, end_owner ∙ sym same) in
          let m = among_append news y.log lose.0.0 (subst (λ l. IsAmong l lose.0.0) log_is lose.0.1) in (
            ((lose.0.0, elim m [ inl new ↦ absurd (ne (sym lose.0.2.0 ∙ (mine lose.0.0 new).0)) | inr old ↦ old ], lose.0.2), λ r k end. lose.1 r (to_later r k) end),
            ne,
          )

      still_losers : (u : ℕ) → u ≢ t → IsLoser y.log u → IsLoser (e ∷ z.log) u
      still_losers u ne lose = (
        (lose.0.0, to_later lose.0.0 lose.0.1, lose.0.2),
        λ r k end. elim (among_append news y.log r (subst (λ l. IsAmong l r) log_is k)) [ inl new ↦ ne (sym end.1 ∙ (mine r new).0) | inr old ↦ lose.1 r old end ],
      )

      pub finishes : (more : Held) (later : Seen) → HasSettled (layout_shape target.layout) start.first (with_cell h.state target.partition cell at) later.region →
          AreQuiet (layout_shape target.layout) later.region → HasSpent (layout_shape target.layout) (target.layout.cells + 21) Made kept later →
          KnowsRegion target.layout more.table later.region → more.next ≡ held.next + 1 →
          more.gates.ends.items ≡ held.gates.ends.items ++ at ∷ [] → vec_len more.gates.ends ≡ vec_len held.gates.ends + 1 → vec_capacity held.gates.ends ≤ vec_capacity more.gates.ends →
          more.gates.gates ≡ held.gates.gates → more.gates.checkpoints ≡ held.gates.checkpoints → Finishes target start more later
      finishes more later settled_later quiet_later spent knows raised items len memory same_gates checkpoints =
          let lists : ListsAll (e ∷ z.log) held.gates.gates.items (held.gates.ends.items ++ at ∷ []) held.gates.checkpoints.items =
          lists_end z.log e held.gates.gates.items held.gates.ends.items held.gates.checkpoints.items end_kind h.gone.holds.gates in
          let ends_same : held.gates.ends ≡ start.gates.ends = h.gone.ends in
          let ends_len : vec_len held.gates.ends ≡ vec_len start.gates.ends = ap (λ v. vec_len v) ends_same in
          let ends_memory : vec_capacity held.gates.ends ≡ vec_capacity start.gates.ends = ap (λ v. vec_capacity v) ends_same in
          let gates_len : vec_len more.gates.gates ≡ vec_len held.gates.gates = ap (λ v. vec_len v) same_gates in
          let gates_memory : vec_capacity more.gates.gates ≡ vec_capacity held.gates.gates = ap (λ v. vec_capacity v) same_gates in
          record {
            undone = record {
              state = with_cell z part cell at;
              settled = settled_later;
              quiet = quiet_later;
              news = news;
              log = log_is;
              mine = mine;
              ended = (e, inl refl, ((end_kind, end_owner), ap (λ (r : Record). r.outcome) (record_is at)));
              count = (let n = notes_are in omega (arith, n));
              others = others;
              needs = needs;
              losers = losers;
              still_losers = still_losers;
              applied = subst (λ (r : Record). AreApplied shape.policy (r ∷ z.log) z.words) (sym (record_is at))
                  (ended_applied shape t part start.state z few h.passing.undoing at here h.passing.rolled nothing stored);
              holds = record {
                next = (let n = h.gone.holds.next in let g = gate_is in let both : held.next ≡ cell.lsn = n ∙ sym g in raised ∙ ap (λ m. m + 1) both);
                gates = subst (λ l. ListsAll (e ∷ z.log) more.gates.gates.items l more.gates.checkpoints.items) (sym items)
                    (subst (λ v. ListsAll (e ∷ z.log) v.items (held.gates.ends.items ++ at ∷ []) more.gates.checkpoints.items) (sym same_gates)
                    (subst (λ v. ListsAll (e ∷ z.log) held.gates.gates.items (held.gates.ends.items ++ at ∷ []) v.items) (sym checkpoints) lists));
                table = knows;
              };
              notes = length h.passing.undoing.news;
              notes_are = notes_are;
              grown = record {
                gates = (let l = h.gone.gates_len in let n = notes_are in let one = need_is in omega (arith, l, n, one, gates_len));
                gates_memory = (let m = h.gone.gates_memory in omega (arith, m, gates_memory));
                ends = omega (arith, len, ends_len);
                ends_memory = omega (arith, memory, ends_memory);
                checkpoints = checkpoints ∙ h.gone.checkpoints;
              };
            };
            spent = used_all Made later spent;
          }

-- however it ends, so much is spent at most
pub all_spent : (target : Target) (start : Start) (done : Done) (held : Held) (later : Seen) → (done ≡ Made → Finishes target start held later) → (done ≡ Stopped → Halts target start later) →
    HasSpent (layout_shape target.layout) start.most done start.now later
all_spent target start Made held later made stopped = (made refl).spent
all_spent target start Stopped held later made stopped = (stopped refl).spent
