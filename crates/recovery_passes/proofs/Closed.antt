-- The closing of all records, and what stands behind it.
use Rattle.std.proofs.Common.{◌≡◌, inl, inr, ℕ, suc, ◌+◌, ◌<◌, ◌≤◌, List, [], ◌∷◌, ◌++◌, length, refl, sym, ap, ◌∙◌, subst, arith}
use Rattle.std.proofs.lemmas.Bool.Decides.{eqb_tells}
use Rattle.std.specs.Vec.{vec_len}
use Rattle.persist_model.specs.declared.event.Event.{Event}
use Rattle.persist_model.specs.declared.event.Event.TheVariants.{Fence}
use Rattle.persist_model.specs.Region.{Region, AreSettled}
use Rattle.persist_model.specs.Records.{Record, Log, IsAmong}
use Rattle.persist_model.specs.Shape.{Shape, heap, list_words}
use Rattle.persist_model.specs.State.{State}
use Rattle.region_layout.specs.declared.layout.Layout.{Layout}
use Rattle.region_layout.specs.Layout.{layout_shape}
use Rattle.log_clearing.specs.Plans.{closes as zeroes, group, closing_plan}
use Rattle.recovery_run.specs.declared.gates.Gates.{Gates}
use Rattle.recovery_run.specs.ClosingAll.{CanCloseAll}
use Rattle.recovery_run.specs.Edges.{KeepsWords}
use Rattle.recovery_run.specs.Reached.{newest_at, HasReached, HasSettled}
use Rattle.recovery_run.proofs.Reaching.{read_newest, newest_one, log_word_one, settled_reached}
use Rattle.recovery_passes.specs.Stages.{AreQuiet}
use Rattle.recovery_passes.specs.LoserPass.{gates_len, HasNoGates, IsReady, IsClosedLog}

-- ---- how many events a closing has

length_append : (es fs : List Event) → length (es ++ fs) ≡ length es + length fs
length_append [] fs = omega arith
length_append (e ∷ es) fs = let h = length_append es fs in omega (arith, h)

length_zeroes : (gates : List ℕ) → length (zeroes gates) ≡ length gates
length_zeroes [] = refl
length_zeroes (a ∷ gates) = ap suc (length_zeroes gates)

length_group : (gates : List ℕ) → length (group gates) ≤ length gates + 1
length_group [] = omega arith
length_group (a ∷ gates) = let all = length_append (zeroes gates) (Fence ∷ []) in let each = length_zeroes gates in omega (arith, all, each)

pub length_closing : (gates ends checkpoints : List ℕ) → length (closing_plan gates ends checkpoints) ≤ length gates + length ends + length checkpoints + 3
length_closing gates ends checkpoints =
    let a = length_append (group gates) (group ends ++ group checkpoints) in
    let b = length_append (group ends) (group checkpoints) in
    let x = length_group gates in
    let y = length_group ends in
    let z = length_group checkpoints in
    omega (arith, a, b, x, y, z)

-- ---- words below the heap that can be nothing else

-- a word that stays what it can be is read as before
pub read_kept : (A : ℕ → Type 0) (shape : Shape) (first y : State) (before later : Region) → HasReached shape first y before → later.size ≡ before.size → AreSettled later → KeepsWords A before later →
    (a : ℕ) → A a → a < heap shape → newest_at later a ≡ newest_at before a
read_kept A shape first y before later h size settled keeps a is below =
    let fits : a < before.size = (let s = h.come.size in omega (arith, below, s)) in
    let there : a < later.size = omega (arith, fits, size) in
    let one = settled a there in
    read_newest later a there ∙ newest_one (later.at a) (newest_at before a) (omega (arith, one)) (keeps a (newest_at before a) is (log_word_one shape first y before h a below))

-- the recovery words stay
pub quiet_kept : (A : ℕ → Type 0) (shape : Shape) (first y z : State) (before later : Region) → HasReached shape first y before → HasSettled shape first z later → KeepsWords A before later →
    ((a : ℕ) → a < 32 → A a) → shape.partitions ≤ 3 → AreQuiet shape before → AreQuiet shape later
quiet_kept A shape first y z before later h k keeps low few quiet q lt =
    let size : later.size ≡ before.size = k.come.size ∙ sym h.come.size in
    let high : list_words q + 4 < 32 = last_word q (omega (arith, lt, few)) in
    let is = quiet q lt in (
      read_kept A shape first y before later h size k.settled keeps (list_words q + 2) (low (list_words q + 2) (omega (arith, high))) (omega (arith, high)) ∙ is.0,
      read_kept A shape first y before later h size k.settled keeps (list_words q + 4) (low (list_words q + 4) high) (omega (arith, high)) ∙ is.1,
    )
  where
    last_word : (p : ℕ) → p < 3 → list_words p + 4 < 32
    last_word p below = elim (eqb_tells p 0) [ inl e ↦ (let on = e.0 in rw on (omega arith)) | inr e ↦ (let off = e.0 in rw off (omega (arith, below))) ]

-- ---- nothing is to be closed

none_listed : (log : Log) → ((r : Record) → IsAmong log r → ⊥) → log ≡ []
none_listed [] none = refl
none_listed (r ∷ log) none = absurd (none r (inl refl))

pub closed_already : (layout : Layout) (first : State) (gates : Gates) (region : Region) → HasNoGates gates → IsReady layout first gates region → IsClosedLog layout first region
closed_already layout first gates region none h = record {
  state = h.state;
  settled = h.settled;
  empty = none_listed h.state.log (λ r m. elim (h.close.lists.each r m) [
    | inl k ↦ subst (λ xs. IsAmong xs r.at) none.gates k
    | inr k ↦ elim k [ inl e ↦ subst (λ xs. IsAmong xs r.at) none.ends e | inr e ↦ subst (λ xs. IsAmong xs r.at) none.checkpoints e ]
  ]);
  quiet = h.quiet;
}

pub no_items : (xs : List ℕ) → length xs ≡ 0 → xs ≡ []
no_items [] e = refl
no_items (x ∷ xs) e = absurd (omega (arith, e))

-- ---- a closing of the gates as lists

module _ (layout : Layout) (gates : Gates) (g e c : List ℕ) (g_is : g ≡ gates.gates.items) (e_is : e ≡ gates.ends.items) (c_is : c ≡ gates.checkpoints.items) where
  pub plan_few : vec_len gates.gates ≡ length gates.gates.items → vec_len gates.ends ≡ length gates.ends.items → vec_len gates.checkpoints ≡ length gates.checkpoints.items →
      length (closing_plan g e c) ≤ gates_len gates + 3
  plan_few x y z =
      let few = length_closing g e c in
      let a = ap length g_is in
      let b = ap length e_is in
      let d = ap length c_is in
      omega (arith, few, a, b, d, x, y, z)

  pub ready_lists : (first : State) (region : Region) → (h : IsReady layout first gates region) → CanCloseAll (layout_shape layout) h.state g e c
  ready_lists first region h =
      subst (λ xs. CanCloseAll (layout_shape layout) h.state xs e c) (sym g_is)
      (subst (λ xs. CanCloseAll (layout_shape layout) h.state gates.gates.items xs c) (sym e_is)
      (subst (λ xs. CanCloseAll (layout_shape layout) h.state gates.gates.items gates.ends.items xs) (sym c_is) h.close))

  pub closed_log : (first : State) (before later : Region) → (h : IsReady layout first gates before) → (room : ℕ → ℕ) → layout.partitions ≤ 3 →
      HasSettled (layout_shape layout) first (record { log = []; words = h.state.words; room = room }) later → KeepsWords (λ a. a < 32) before later → IsClosedLog layout first later
  closed_log first before later h room few settled low = record {
    state = record { log = []; words = h.state.words; room = room };
    settled = settled;
    empty = refl;
    quiet = quiet_kept (λ a. a < 32) (layout_shape layout) first h.state (record { log = []; words = h.state.words; room = room }) before later
        (settled_reached (layout_shape layout) first h.state before h.settled) settled low (λ a lt. lt) few h.quiet;
  }
