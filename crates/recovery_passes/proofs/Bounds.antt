-- How many events the stages make together.
use Rattle.std.proofs.Common.{◌≡◌, inl, inr, ℕ, ◌+◌, ◌*◌, ◌≤◌, Bool, true, false, if◌then◌else◌, List, [], ◌∷◌, length, map, sum_by, refl, ap, ◌∙◌, subst, arith}
use Rattle.std.proofs.lemmas.List.Sums.{sum_by-cons}
use Rattle.std.specs.Vec.{vec_len}
use Rattle.persist_model.specs.Records.{Log, IsAmong, IsLoser}
use Rattle.persist_model.specs.Need.{need_of}
use Rattle.persist_model.specs.Region.{Region}
use Rattle.persist_model.specs.Shape.{part_of}
use Rattle.persist_model.specs.State.{State, total_need}
use Rattle.region_layout.specs.declared.layout.Layout.{Layout}
use Rattle.region_layout.specs.Layout.{layout_shape}
use Rattle.recovery_undo.specs.declared.held.Held.{Held}
use Rattle.recovery_analysis.specs.declared.changing.Change.{Change}
use Rattle.recovery_analysis.specs.declared.grouping.Transaction.{Transaction}
use Rattle.recovery_analysis.specs.Grouping.{number_of}
use Rattle.recovery_analysis.specs.Works.{need_in_log}
use Rattle.recovery_analysis.proofs.Lists.{map_among}
use Rattle.recovery_undo.specs.Undoing.{undo_events}
use Rattle.recovery_undo.proofs.Going.{need_some}
use Rattle.recovery_undo.specs.Numbers.{next_lsn}
use Rattle.recovery_analysis.specs.Works.{next_lsn as next_of_log}
use Rattle.recovery_passes.specs.LoserPass.{gates_len, undo_all_events, begin_events, clear_events, Begins, Undoes, HasNoGates}
use Rattle.recovery_passes.proofs.Closed.{no_items}
use Rattle.recovery_passes.specs.Plans.{IsPlanned}

abbrev records_len : List Transaction → ℕ
records_len undo = sum_by (λ (t : Transaction). length t.records) undo

times : (k a b : ℕ) → k * (a + b) ≡ k * a + k * b
times k a b = grind arith

undo_sum : (layout : Layout) (log : Log) (undo : List Transaction) → undo_all_events layout log undo ≡ (layout.cells + 21) * sum_by (need_in_log log) undo + records_len undo + length undo
undo_sum layout log [] = grind arith
undo_sum layout log (t ∷ undo) =
    let again = undo_sum layout log undo in
    let a = sum_by-cons (λ (x : Transaction). undo_events layout x.number x.records log) t undo in
    let b = sum_by-cons (need_in_log log) t undo in
    let c = sum_by-cons (λ (x : Transaction). length x.records) t undo in
    let d = times (layout.cells + 21) (need_of log t.number) (sum_by (need_in_log log) undo) in
    let e : (layout.cells + 21) * sum_by (need_in_log log) (t ∷ undo) ≡ (layout.cells + 21) * (need_of log t.number + sum_by (need_in_log log) undo) = ap (λ n. (layout.cells + 21) * n) b in
    omega (arith, again, a, c, d, e)

few_undone : (log : Log) (undo : List Transaction) → ((t : Transaction) → IsAmong undo t → IsLoser log t.number) → length undo ≤ sum_by (need_in_log log) undo
few_undone log [] each = omega arith
few_undone log (t ∷ undo) each =
    let again = few_undone log undo (λ x m. each x (inr m)) in
    let some = need_some log t.number (each t (inl refl)).1 in
    let b = sum_by-cons (need_in_log log) t undo in
    omega (arith, again, some, b)

pub same_next : (log : Log) → next_of_log log ≡ next_lsn log
same_next [] = refl
same_next (r ∷ log) = refl

all_events : (K redo records undone log need more buckets : ℕ) → redo + records ≤ log → undone ≤ need →
    15 + (redo + 1) + ((K + 21) * need + records + undone) + (more * (K + 22) + (log + need + 3) + 7 * buckets) + 1 ≤ 20 + 2 * log + (23 + K) * (need + more) + 7 * buckets
all_events K redo records undone log need more buckets few less = grind (arith, few, less)

module _ (layout : Layout) (first : State) (redo : List Change) (running : List Transaction) (checkpoint : Bool) (held : Held) (most : ℕ) (region : Region)
    (h : IsPlanned layout first redo running checkpoint held most region) where
  -- how many gates there will be, but for that of a checkpoint record
  abbrev pub planned_total : ℕ
  planned_total = gates_len held.gates + sum_by (need_in_log first.log) running

  pub plan_begins : Begins layout first planned_total redo running held region
  plan_begins = record {
    settled = h.settled;
    sound = h.sound;
    redone = h.work.redo;
    words = h.work.redo_words;
    losers = h.work.undo;
    each = h.work.undo_records;
    next_is = h.work.next ∙ same_next first.log;
    lists = h.work.gates;
    fits = h.fits;
    spare = h.work.spare;
    count = refl;
  }

  -- all of them together
  pub plan_fits : begin_events layout first.log redo running + clear_events layout checkpoint planned_total + 1 ≤ most
  plan_fits = by_checkpoint checkpoint h.work.most
    where
      running_losers : (t : Transaction) → IsAmong running t → IsLoser first.log t.number
      running_losers t m = (h.work.undo.each t.number).0 (map_among number_of running t m)

      by_checkpoint : (c : Bool) → most ≡ 20 + 2 * length first.log + (23 + layout.cells) * (total_need (part_of (layout_shape layout)) layout.partitions first.log + (if c then 1 else 0)) + 7 * layout.buckets →
          begin_events layout first.log redo running + clear_events layout c planned_total + 1 ≤ most
      by_checkpoint true is =
          let undone = undo_sum layout first.log running in
          let less = few_undone first.log running running_losers in
          let needs = h.work.needs in
          let same = ap (λ n. (23 + layout.cells) * (n + 1)) needs in
          let all = all_events layout.cells (length redo) (records_len running) (length running) (length first.log) (sum_by (need_in_log first.log) running) 1 layout.buckets h.work.passes less in
          let count = h.work.count in
          omega (arith, undone, all, same, is, count)
      by_checkpoint false is =
          let undone = undo_sum layout first.log running in
          let less = few_undone first.log running running_losers in
          let needs = h.work.needs in
          let same = ap (λ n. (23 + layout.cells) * (n + 0)) needs in
          let all = all_events layout.cells (length redo) (records_len running) (length running) (length first.log) (sum_by (need_in_log first.log) running) 0 layout.buckets h.work.passes less in
          let count = h.work.count in
          omega (arith, undone, all, same, is, count)

-- behind the undo there are as many gates as were planned
pub total_is : (layout : Layout) (first : State) (total : ℕ) (held : Held) (region : Region) → Undoes layout first total [] held region → gates_len held.gates ≡ total
total_is layout first total held region h = let count = h.count in omega (arith, count)

no_numbers : (ts : List Transaction) → ((n : ℕ) → IsAmong (map number_of ts) n → ⊥) → ts ≡ []
no_numbers [] none = refl
no_numbers (t ∷ ts) none = absurd (none t.number (inl refl))

-- where there is no record there is nothing to do
module _ (layout : Layout) (first : State) (redo : List Change) (running : List Transaction) (checkpoint : Bool) (held : Held) (most : ℕ) (region : Region)
    (h : IsPlanned layout first redo running checkpoint held most region) (empty : first.log ≡ []) where
  pub none_redone : redo ≡ []
  none_redone = h.work.redo_none empty

  pub none_running : running ≡ []
  none_running = no_numbers running (λ n m. (let loser = (h.work.undo.each n).0 m in subst (λ l. IsAmong l loser.0.0) empty loser.0.1))

  pub none_wanted : checkpoint ≡ false
  none_wanted = by_value checkpoint (λ e. (let both = h.work.checkpoint.0 e in subst (λ l. IsAmong l both.1.0) empty both.1.1))
    where
      by_value : (b : Bool) → (b ≡ true → ⊥) → b ≡ false
      by_value true none = absurd (none refl)
      by_value false none = refl

  pub no_gates : vec_len held.gates.gates ≡ length held.gates.gates.items → vec_len held.gates.ends ≡ length held.gates.ends.items → vec_len held.gates.checkpoints ≡ length held.gates.checkpoints.items → HasNoGates held.gates
  no_gates a b c =
      let count = h.work.count in
      let none : length first.log ≡ 0 = ap length empty in
      record {
        gates = no_items held.gates.gates.items (omega (arith, a, count, none));
        ends = no_items held.gates.ends.items (omega (arith, b, count, none));
        checkpoints = no_items held.gates.checkpoints.items (omega (arith, c, count, none));
      }
