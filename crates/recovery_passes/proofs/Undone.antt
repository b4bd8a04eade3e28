-- One transaction more is undone.
use Rattle.std.proofs.Common.{◌≡◌, ◌≢◌, ◌⊎◌, inl, inr, ℕ, zero, suc, ◌+◌, ◌-◌, ◌*◌, ◌<◌, ◌≤◌, List, [], ◌∷◌, ◌++◌, length, map, drop, get_or, refl, sym, ap, ◌∙◌, subst, arith}
use Rattle.std.specs.Vec.{vec_len, vec_capacity}
use Rattle.std.proofs.lemmas.List.Sums.{sum_by-cons}
use Rattle.persist_model.specs.Region.{Region}
use Rattle.persist_model.specs.Records.{Record, Log, IsAmong, IsLoser}
use Rattle.persist_model.specs.Need.{need_of}
use Rattle.persist_model.specs.State.{State}
use Rattle.lane_traits.specs.declared.device.Done.{Done}
use Rattle.lane_traits.specs.declared.device.Done.TheVariants.{Made, Stopped}
use Rattle.lane_traits.specs.Device.{Counts}
use Rattle.region_layout.specs.declared.layout.Layout.{Layout}
use Rattle.bucket_log.specs.declared.scanning.Placed.{Placed}
use Rattle.recovery_undo.specs.declared.held.Held.{Held}
use Rattle.recovery_analysis.specs.declared.grouping.Transaction.{Transaction}
use Rattle.recovery_analysis.specs.Grouping.{number_of}
use Rattle.recovery_analysis.specs.Works.{need_in_log}
use Rattle.recovery_undo.specs.Undoing.{undo_events, CanUndo, IsUndone}
use Rattle.recovery_undo.proofs.Going.{need_some}
use Rattle.recovery_run.specs.Edges.{HasCounted}
use Rattle.recovery_passes.specs.Going.{HasGoneOn}
use Rattle.recovery_passes.proofs.Counting.{counted_more, counted_then}
use Rattle.recovery_passes.specs.LoserPass.{undo_all_events, Undoes}

assoc : (xs ys zs : Log) → (xs ++ ys) ++ zs ≡ xs ++ (ys ++ zs)
assoc [] ys zs = refl
assoc (x ∷ xs) ys zs = ap (λ l. x ∷ l) (assoc xs ys zs)

among_append : (xs ys : Log) (r : Record) → IsAmong (xs ++ ys) r → IsAmong xs r ⊎ IsAmong ys r
among_append [] ys r m = inr m
among_append (x ∷ xs) ys r (inl e) = inl (inl e)
among_append (x ∷ xs) ys r (inr m) = elim (among_append xs ys r m) [ inl k ↦ inl (inr k) | inr k ↦ inr k ]

among_map : (ts : List Transaction) (t : Transaction) → IsAmong ts t → IsAmong (map number_of ts) t.number
among_map [] t m = m
among_map (x ∷ ts) t (inl e) = inl (ap number_of e)
among_map (x ∷ ts) t (inr m) = inr (among_map ts t m)

-- t runs, and may be undone
pub can_undo : (layout : Layout) (first : State) (total : ℕ) (t : Transaction) (left : List Transaction) (held : Held) (region : Region) (spare : ℕ) →
    (h : Undoes layout first total (t ∷ left) held region) → undo_events layout t.number t.records first.log ≤ spare →
    CanUndo layout t.number t.records held first h.state region spare
can_undo layout first total t left held region spare h enough =
    let mine = h.each t (inl refl) in
    let need : need_of h.state.log t.number ≡ need_of first.log t.number = mine.need in
    let some = need_some h.state.log t.number mine.loser.1 in
    let of_gates = h.spare.of_gates in
    let of_ends = h.spare.of_ends in
    let sum = sum_by-cons (λ (x : Transaction). need_in_log first.log x - 1) t left in
    record {
      settled = h.settled;
      sound = h.sound;
      quiet = h.quiet;
      loser = mine.loser;
      records_are = mine.records;
      applied = h.applied;
      holds = h.holds;
      gates_fit = omega (arith, of_gates, sum, need, some);
      ends_fit = omega (arith, of_ends);
      spare_fits = subst (λ n. (layout.cells + 21) * n + length t.records + 1 ≤ spare) (sym need) enough;
    }

-- behind its undo the others are left
pub undoes_next : (layout : Layout) (first : State) (total : ℕ) (t : Transaction) (left : List Transaction) (held more : Held) (region later : Region) →
    (h : Undoes layout first total (t ∷ left) held region) → IsUndone layout t.number held.gates first h.state more later →
    Undoes layout first total left more later
undoes_next layout first total t left held more region later h k =
    let mine = h.each t (inl refl) in
    let need : need_of h.state.log t.number ≡ need_of first.log t.number = mine.need in
    let notes = k.notes_are in
    let grown = k.grown in
    let g0 = grown.gates in
    let g1 = grown.gates_memory in
    let e0 = grown.ends in
    let e1 = grown.ends_memory in
    let c0 : vec_len more.gates.checkpoints ≡ vec_len held.gates.checkpoints = ap vec_len grown.checkpoints in
    let c1 : vec_capacity more.gates.checkpoints ≡ vec_capacity held.gates.checkpoints = ap vec_capacity grown.checkpoints in
    let sum = sum_by-cons (λ (x : Transaction). need_in_log first.log x - 1) t left in
    let total_sum = sum_by-cons (need_in_log first.log) t left in
    let of_gates = h.spare.of_gates in
    let of_ends = h.spare.of_ends in
    let of_checkpoints = h.spare.of_checkpoints in
    let count = h.count in
    let differs : (x : Transaction) → IsAmong left x → x.number ≢ t.number = λ x m e. (let lt = h.ascending.0 x.number (among_map left x m) in omega (arith, lt, e)) in
    record {
      state = k.state;
      settled = k.settled;
      sound = h.sound;
      quiet = k.quiet;
      applied = k.applied;
      holds = k.holds;
      news = k.news ++ h.news;
      log = k.log ∙ ap (λ l. k.news ++ l) h.log ∙ sym (assoc k.news h.news first.log);
      of_losers = λ r m. elim (among_append k.news h.news r m) [
        | inr old ↦ h.of_losers r old
        | inl new ↦ (let of = k.mine r new in (subst (λ u. IsLoser first.log u) (sym of.0) mine.first, of.1))
      ];
      losers = λ u loser. (
          let both = k.losers u loser in
          elim (h.losers u both.0) [ inl e ↦ absurd (both.1 e) | inr m ↦ m ]);
      each = λ x m. (
          let was = h.each x (inr m) in
          let ne = differs x m in
          record {
            first = was.first;
            loser = k.still_losers x.number ne was.loser;
            records = was.records ∙ sym (k.others x.number ne);
            need = k.needs x.number ne ∙ was.need;
          });
      ascending = h.ascending.1;
      spare = record {
        of_gates = omega (arith, of_gates, sum, need, notes, g0, g1);
        of_ends = omega (arith, of_ends, e0, e1);
        of_checkpoints = omega (arith, of_checkpoints, c0, c1);
      };
      count = omega (arith, count, total_sum, need, notes, g0, e0, c0);
    }

-- ---- a list, from its place on

drop_suc : (ts : List Transaction) (i : ℕ) (d : Transaction) → i < length ts → drop i ts ≡ get_or ts i d ∷ drop (suc i) ts
drop_suc [] i d lt = absurd (omega (arith, lt))
drop_suc (t ∷ ts) zero d lt = refl
drop_suc (t ∷ ts) (suc i) d lt = drop_suc ts i d (omega (arith, lt))

pub drop_at : (ts : List Transaction) (i : ℕ) (d : Transaction) → i < length ts → drop i ts ≡ get_or ts i d ∷ drop (i + 1) ts
drop_at ts i d lt = let e : suc i ≡ i + 1 = omega arith in subst (λ n. drop i ts ≡ get_or ts i d ∷ drop n ts) e (drop_suc ts i d lt)

pub drop_none : (ts : List Transaction) (i : ℕ) → length ts ≤ i → drop i ts ≡ []
drop_none [] zero le = refl
drop_none [] (suc i) le = refl
drop_none (t ∷ ts) zero le = absurd (omega (arith, le))
drop_none (t ∷ ts) (suc i) le = drop_none ts i (omega (arith, le))

-- the events of the first i and of the rest are those of all
pub events_split : (layout : Layout) (log : Log) (ts : List Transaction) (i : ℕ) (d : Transaction) → i < length ts →
    undo_all_events layout log (drop i ts) ≡ undo_events layout (get_or ts i d).number (get_or ts i d).records log + undo_all_events layout log (drop (i + 1) ts)
events_split layout log ts i d lt = ap (undo_all_events layout log) (drop_at ts i d lt) ∙ sum_by-cons (λ (t : Transaction). undo_events layout t.number t.records log) (get_or ts i d) (drop (i + 1) ts)

-- ---- how far the undo of all has come

module _ (layout : Layout) (first : State) (total : ℕ) (all left : List Transaction) (t : Transaction) (rest : List Transaction) (held : Held) (region : Region) (counts now_counts : Counts) (spare now : ℕ)
    (records : List Placed) (same : records ≡ t.records) (h : HasGoneOn layout first total all left held region counts now_counts spare now) (is : left ≡ t ∷ rest)
    (enough : undo_all_events layout first.log all ≤ spare) where
  pub here : Undoes layout first total (t ∷ rest) held region
  here = subst (λ ts. Undoes layout first total ts held region) is h.undoes

  split : undo_all_events layout first.log left ≡ undo_events layout t.number t.records first.log + undo_all_events layout first.log rest
  split = ap (undo_all_events layout first.log) is ∙ sum_by-cons (λ (x : Transaction). undo_events layout x.number x.records first.log) t rest

  pub gone_can : CanUndo layout t.number records held first here.state region now
  gone_can =
      let s = split in
      let whole = h.left_is in
      let left_over = h.spare_left in
      subst (λ rs. CanUndo layout t.number rs held first here.state region now) (sym same)
      (can_undo layout first total t rest held region now here (omega (arith, s, whole, left_over, enough)))

  events_same : undo_events layout t.number records here.state.log ≡ undo_events layout t.number t.records first.log
  events_same = ap (λ rs. undo_events layout t.number rs here.state.log) same ∙ ap (λ n. (layout.cells + 21) * n + length t.records + 1) (here.each t (inl refl)).need

  pub gone_counted : (done : Done) (later : Counts) → HasCounted (undo_events layout t.number records here.state.log) done now_counts later →
      HasCounted (h.used + undo_events layout t.number t.records first.log) done counts later
  gone_counted done later k = counted_then h.used (undo_events layout t.number t.records first.log) done counts now_counts later h.counted
      (subst (λ n. HasCounted n done now_counts later) events_same k)

  pub gone_stopped : (later : Counts) → HasCounted (undo_events layout t.number records here.state.log) Stopped now_counts later →
      HasCounted (undo_all_events layout first.log all) Stopped counts later
  gone_stopped later k =
      let s = split in
      let whole = h.left_is in
      counted_more (h.used + undo_events layout t.number t.records first.log) (undo_all_events layout first.log all) Stopped counts later (omega (arith, s, whole)) (gone_counted Stopped later k)

  pub gone_spare : (later : ℕ) → now ≤ later + undo_events layout t.number records here.state.log → spare ≤ later + undo_all_events layout first.log all
  gone_spare later k =
      let s = split in
      let whole = h.left_is in
      let left_over = h.spare_left in
      let e = events_same in
      omega (arith, s, whole, left_over, e, k)

  pub gone_next : (more : Held) (later : Region) (later_counts : Counts) (later_spare : ℕ) →
      IsUndone layout t.number held.gates first here.state more later → HasCounted (undo_events layout t.number records here.state.log) Made now_counts later_counts →
      now ≤ later_spare + undo_events layout t.number records here.state.log → HasGoneOn layout first total all rest more later counts later_counts spare later_spare
  gone_next more later later_counts later_spare undone counted spare_now =
      let s = split in
      let whole = h.left_is in
      let left_over = h.spare_left in
      let e = events_same in
      record {
        undoes = undoes_next layout first total t rest held more region later here undone;
        used = h.used + undo_events layout t.number t.records first.log;
        counted = gone_counted Made later_counts counted;
        left_is = omega (arith, s, whole);
        spare_left = omega (arith, left_over, e, spare_now);
      }

pub item_first : (ts : List Transaction) (i : ℕ) (t : Transaction) → i < length ts → t ≡ get_or ts i t → drop i ts ≡ t ∷ drop (i + 1) ts
item_first ts i t lt is = drop_at ts i t lt ∙ ap (λ x. x ∷ drop (i + 1) ts) (sym is)
