-- The fence of a group over all partitions: behind it the log is settled without the group's records.
use Rattle.std.proofs.Common.{◌≡◌, inl, inr, ℕ, ◌<◌, Bool, true, false, nat_lt, if◌then◌else◌, List, [], length, refl, sym, ap, ◌∙◌, subst, arith}
use Rattle.std.proofs.lemmas.Bool.Decides.{eqb_tells, nat_tests}
use Rattle.std.proofs.lemmas.List.{take_all}
use Rattle.persist_model.specs.declared.event.Event.TheVariants.{Fence}
use Rattle.persist_model.specs.Region.{Words, Region, after}
use Rattle.persist_model.specs.Progress.{Progress, start, advance_all, Tracks, Reaches, AreSettledAt}
use Rattle.persist_model.specs.Runs.{progress_at}
use Rattle.persist_model.specs.Records.{Log, IsAmong, IsNewestFirst}
use Rattle.persist_model.specs.Shape.{Shape, heap, heap_words, log_words}
use Rattle.persist_model.specs.Chain.{view}
use Rattle.persist_model.specs.State.{State}
use Rattle.persist_model.specs.Sound.{HasState}
use Rattle.persist_model.proofs.Tracking.{Tracks-event, Tracks-settled}
use Rattle.log_laws.proofs.Closings.{part_among}
use Rattle.log_laws.proofs.RecordLists.{lists_one}
use Rattle.atomic_list.proofs.Repairs.{still}
use Rattle.bucket_log.specs.Words.{IsPartWord}
use Rattle.bucket_log.specs.PartWords.{AreOnPart}
use Rattle.bucket_log.proofs.Partitions.{part_words_apart}
use Rattle.log_clearing.specs.Plans.{group, closing_plan}
use Rattle.log_clearing.specs.Closed.{AreGroups}
use Rattle.log_clearing.specs.Clearing.{ClosingLeaves}
use Rattle.log_clearing.proofs.ClearingStates.{closings_end}
use Rattle.log_clearing.proofs.ClosedStates.{part_in}
use Rattle.log_clearing.proofs.ClosingImages.{HasPart, closing_image}
use Rattle.log_keeper.specs.declared.slots.TheConstants.{NOBODY}
use Rattle.log_keeper.specs.Parts.{closes, Running, plan_of, waits_for, words_behind, CanRun}
use Rattle.log_keeper.specs.Ledger.{is_in, left_open}
use Rattle.log_keeper.specs.Logged.{Keeping, resting, IsNone's, IsLoggedAt}
use Rattle.log_keeper.specs.Laws.{HasClosed}
use Rattle.log_keeper.proofs.Progressing.{settled_of, settled_aside, size_after, only_gates, part_on}
use Rattle.log_keeper.proofs.Groups.{in_told, in_found, listed_told, list_same}
use Rattle.log_keeper.proofs.Ledgers.{closes as closed_settled}
use Rattle.txn_laws.proofs.LeftOpen.{left_back, left_stays}
use Rattle.redo_laws.specs.Checkpoints.{Group, other_gates, end_gates, checkpoint_gates, shutting_part, shutting_run}
use Rattle.redo_laws.specs.Stages.{all_gates}
use Rattle.redo_laws.specs.Clears.{base_shut, shut_keeping}
use Rattle.redo_laws.proofs.Reaching.{kind_plan, in_row, from_row}
use Rattle.redo_laws.proofs.FencingGroupsRows.{kind_among, among_kind, row_groups, on_group, fenced_group, group_leaves}

pub shut_rest : (shape : Shape) (g : Group) (k : Keeping) (p : ℕ) → p < shape.partitions → (shut_keeping shape g k).runs p ≡ resting
shut_rest shape g k p lt = let on : nat_lt p shape.partitions ≡ true = grind (arith, nat_tests, lt) in rw on refl

log_zero : (shape : Shape) (w : Words) (a : ℕ) → w a ≡ 0 → log_words shape w a ≡ 0
log_zero shape w a e = by (nat_lt a (heap shape))
  where
    by : (t : Bool) → (if t then w a else 0) ≡ 0
    by true = e
    by false = refl

-- the words behind the group, as those of one closing
abbrev pub row_behind : Shape → Group → Words → Words
row_behind shape g base =
    words_behind shape 0 (closes (other_gates g.kind (all_gates shape g)) (end_gates g.kind (all_gates shape g)) (checkpoint_gates g.kind (all_gates shape g))) base

module _ (shape : Shape) (base : Words) (s : State) (chains : ℕ → List ℕ) (k : Keeping) (region : Region) (l : ℕ) (g : Group)
    (run : (p : ℕ) → p < shape.partitions → k.runs p ≡ shutting_run g p) (log : IsLoggedAt shape base s chains k region) where
  abbrev row : List ℕ
  row = all_gates shape g

  abbrev behind : Words
  behind = row_behind shape g base

  abbrev later : Region
  later = after region l Fence

  can_shut : (p : ℕ) → p < shape.partitions → CanRun shape p base s (chains p) (shutting_part g p)
  can_shut p lt = subst (λ (r : Running). CanRun shape p base s (chains p) r.part) (run p lt) (log.can p lt)

  pub groups : AreGroups s.log (other_gates g.kind (all_gates shape g)) (end_gates g.kind (all_gates shape g)) (checkpoint_gates g.kind (all_gates shape g))
  groups = row_groups s.log g.kind g.gates shape.partitions (λ p lt. (can_shut p lt).0)

  -- each gate is a word of its partition
  own : (p : ℕ) → p < shape.partitions → (a : ℕ) → IsAmong (g.gates p) a → IsPartWord shape p a
  own p lt a m = on_group shape p (g.gates p) a
      (subst (λ es. AreOnPart shape p es) (kind_plan g.kind (g.gates p)) (part_on shape p base s (chains p) (shutting_part g p) log.allowed lt log.has (can_shut p lt))) m

  leaves : ClosingLeaves base (other_gates g.kind row) (end_gates g.kind row) (checkpoint_gates g.kind row)
      (advance_all (start base) (closing_plan (other_gates g.kind row) (end_gates g.kind row) (checkpoint_gates g.kind row)))
  leaves = closings_end base (other_gates g.kind row) (end_gates g.kind row) (checkpoint_gates g.kind row)

  shut : (a : ℕ) → IsAmong row a → behind a ≡ 0
  shut a m = leaves.closed a (kind_among g.kind row a m)

  same : (a : ℕ) → (IsAmong row a → ⊥) → behind a ≡ base a
  same a off = leaves.others a (λ on. off (among_kind g.kind row a on))

  pub outside : (a : ℕ) → ((p : ℕ) → p < shape.partitions → IsPartWord shape p a → ⊥) → behind a ≡ base a
  outside a none = same a (λ m. (let at = from_row g.gates shape.partitions a m in none at.0 at.1 (own at.0 at.1 a at.2)))

  pub behind_is : behind ≡ base_shut shape g base
  behind_is = λ i a. by a (is_in row a) refl i
    where
      by : (a : ℕ) (t : Bool) → is_in row a ≡ t → behind a ≡ (if t then 0 else base a)
      by a true on = shut a (in_found row a on)
      by a false off = same a (λ m. (let on = in_told row a m in let f : true ≡ false = sym on ∙ off in cc))

  -- ---- the state

  reached : Reaches (λ a. a < heap shape) (progress_at base (closing_plan (other_gates g.kind row) (end_gates g.kind row) (checkpoint_gates g.kind row))
      (length (closing_plan (other_gates g.kind row) (end_gates g.kind row) (checkpoint_gates g.kind row)))) behind
  reached a lt = inl (ap (λ es. (advance_all (start base) es).durable a)
      (sym (take_all (length (closing_plan (other_gates g.kind row) (end_gates g.kind row) (checkpoint_gates g.kind row)))
      (closing_plan (other_gates g.kind row) (end_gates g.kind row) (checkpoint_gates g.kind row)) (omega arith))))

  part : HasPart shape behind s (other_gates g.kind row) (end_gates g.kind row) (checkpoint_gates g.kind row)
  part = closing_image shape base behind s (other_gates g.kind row) (end_gates g.kind row) (checkpoint_gates g.kind row)
      (length (closing_plan (other_gates g.kind row) (end_gates g.kind row) (checkpoint_gates g.kind row))) log.allowed.partitions.1 log.has groups reached

  -- ---- the words of a partition

  part_same : (p : ℕ) → p < shape.partitions → (a : ℕ) → IsPartWord shape p a → (advance_all (start base) (group (g.gates p))).durable a ≡ behind a
  part_same p lt a inside = by (is_in (g.gates p) a) refl
    where
      by : (t : Bool) → is_in (g.gates p) a ≡ t → (advance_all (start base) (group (g.gates p))).durable a ≡ behind a
      by true on =
          let m = in_found (g.gates p) a on in
          (group_leaves base (g.gates p)).closed a (inl m) ∙ sym (shut a (in_row g.gates shape.partitions p a lt m))
      by false off =
          let none : IsAmong (g.gates p) a → ⊥ = λ m. (let on = in_told (g.gates p) a m in let f : true ≡ false = sym on ∙ off in cc) in
          (group_leaves base (g.gates p)).others a (λ on. none (only_gates (g.gates p) a on))
          ∙ sym (same a (λ m. (let at = from_row g.gates shape.partitions a m in elim (eqb_tells at.0 p) [
            | inl e ↦ none (subst (λ q. IsAmong (g.gates q) a) e.1 at.2)
            | inr ne ↦ part_words_apart shape p at.0 a log.allowed lt at.1 ne.1 (own at.0 at.1 a at.2) inside
          ])))

  module _ (few : l < NOBODY) (held : (p : ℕ) → p < shape.partitions → k.holder p ≡ l) (whole : (p : ℕ) → p < shape.partitions → g.made p ≡ length (g.gates p)) where
    tracked : (p : ℕ) → p < shape.partitions → Tracks (IsPartWord shape p) l (progress_at base (group (g.gates p)) (length (g.gates p))) region
    tracked p lt = subst (λ n. Tracks (IsPartWord shape p) l (progress_at base (group (g.gates p)) n) region) (whole p lt)
        (subst (λ es. Tracks (IsPartWord shape p) l (progress_at base es (g.made p)) region) (kind_plan g.kind (g.gates p))
        (subst (λ n. Tracks (IsPartWord shape p) n (progress_at base (plan_of shape p (shutting_part g p)) (g.made p)) region) (held p lt)
        (subst (λ (r : Running). Tracks (IsPartWord shape p) (waits_for r.part (k.holder p)) (progress_at base (plan_of shape p r.part) r.made) region) (run p lt) (log.parts p lt))))

    settled : (p : ℕ) → p < shape.partitions → AreSettledAt (IsPartWord shape p) behind later
    settled p lt a inside v may =
        settled_of (IsPartWord shape p) l (advance_all (start base) (group (g.gates p))) later (group_leaves base (g.gates p)).nothing_pending
        (subst (λ (x : Progress). Tracks (IsPartWord shape p) l x later) (fenced_group base (g.gates p))
        (Tracks-event (IsPartWord shape p) l (progress_at base (group (g.gates p)) (length (g.gates p))) region Fence tt (tracked p lt))) a inside v may
        ∙ part_same p lt a inside

    header : AreSettledAt (IsNone's shape) behind later
    header a off v may = settled_aside (IsNone's shape) l base region Fence (λ e. absurd (omega (arith, few, e))) log.header a off v may ∙ sym (outside a off.1)

    -- ---- the log

    module _ (first : IsNewestFirst (left_open (all_gates shape g) [] [] s.log)) where
      left_is : part.later ≡ left_open row [] [] s.log
      left_is = lists_one part.later (left_open row [] [] s.log) (part.state (heap_words shape behind) refl).records.newest_first first
          (λ r m. left_stays row [] [] s.log r (part_among _ part.later s.log part.part.part r m)
          (λ on. part.gates_open r m (log_zero shape behind r.at (shut r.at (only_gates row r.at on)))))
          (λ r m. (let was = left_back row [] [] s.log r m in
          part_in _ part.later s.log part.part.part r was.0
          (λ gone. (let on = listed_told row [] [] r.at (inl (among_kind g.kind row r.at gone.0)) in let off = was.1 in let f : true ≡ false = sym on ∙ off in cc))))

      abbrev state : State
      state = record { log = left_open (all_gates shape g) [] [] s.log; words = heap_words shape behind; room = part.room }

      pub group_fenced : HasClosed shape behind s chains (shut_keeping shape g k) later (left_open row [] [] s.log)
      group_fenced = record {
        state = state;
        log_is = refl;
        no_less = part.no_less;
        logged = record {
          size = size_after region l Fence ∙ log.size;
          allowed = log.allowed;
          has = subst (λ (left : Log). HasState shape behind (record { log = left; words = heap_words shape behind; room = part.room })) left_is (part.state (heap_words shape behind) refl);
          records = ap (left_open row [] []) log.records ∙ sym (closed_settled row [] [] k.ledger);
          rest = λ p lt. still shape p (view p (log_words shape base)) (view p (log_words shape behind)) (chains p) (log.rest p lt)
              (list_same shape base s log.has log.allowed p lt (other_gates g.kind row) (end_gates g.kind row) (checkpoint_gates g.kind row) groups);
          header = header;
          parts = λ p lt. subst (λ (r : Running). Tracks (IsPartWord shape p) (waits_for r.part (k.holder p)) (progress_at behind (plan_of shape p r.part) r.made) later)
              (sym (shut_rest shape g k p lt)) (Tracks-settled (IsPartWord shape p) NOBODY behind later (settled p lt));
          can = λ p lt. subst (λ (r : Running). CanRun shape p behind state (chains p) r.part) (sym (shut_rest shape g k p lt)) tt;
        };
      }
