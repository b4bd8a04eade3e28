-- The newest word of a word that a lane holds is the lane's.
use Rattle.std.proofs.Common.{◌≡◌, ℕ, ◌<◌, ◌≤◌, ◌^◌, true, false, List, length, Some, sym, ap, ◌∙◌, subst, arith}
use Rattle.std.specs.Prelude.{slice_index}
use Rattle.std.proofs.Math.Logic.{∥∥₁_elim}
use Rattle.std.proofs.lemmas.List.FromFn.{length-map-range_with_len, get_or-map-range_with_len}
use Rattle.std.specs.Coded.{Coded-set, coded_ℕ, coded_bool, coded_option, le_prop}
use Rattle.persist_model.specs.Region.{Region, newest, newest_words}
use Rattle.lane_traits.specs.Device.{Counts}
use Rattle.region_layout.specs.declared.layout.Layout.{Layout}
use Rattle.region_layout.specs.Layout.{layout_shape}
use Rattle.lane_types.specs.declared.call.Phase.{Phase}
use Rattle.lane_types.specs.Asks.{has_word}
use Rattle.lane_types.specs.Deeds.{Deeds}
use Rattle.lane_types.specs.Faces.{Base}
use Rattle.lane_book.specs.declared.book.Book.{Book}
use Rattle.lane_book.specs.declared.lane.Doing.{Doing}
use Rattle.lane_book.specs.FacesOf.{lane_at}
use Rattle.lane_book.specs.Steps.{held_by}
use Rattle.log_keeper.specs.declared.keeper.LogKeeper.{LogKeeper}
use Rattle.txn_laws.specs.Txns.{txn_at}
use Rattle.txn_state.specs.Stages.{Between, stage_of, stage_at, is_commit}
use Rattle.txn_state.specs.Ties.{IsCome, under_of}
use Rattle.txn_state.specs.States.{IsStateOf}
use Rattle.txn_core.proofs.Facts.{IsRead, any_start, has_logs}
use Rattle.txn_core.proofs.Finding.{below, found_running}
use Rattle.txn_core.proofs.LawfulKept.{values_are_held, reads_are_held, own_word}
use Rattle.txn_core.specs.States.{IsWorld, IsKept, HasWorld, start_of}

-- ---- between calls

module _ {E : Type 0} (deeds : Deeds E) (layout : Layout) (base : Base) (book : Book E) (keeper : LogKeeper) (region : Region) (spare : ℕ) (counts : Counts) (l a : ℕ)
    (lt : l < length book.lanes.items) (between : stage_of (lane_at book l) ≡ Between) (no_commit : is_commit (lane_at book l).doing ≡ false)
    (has : has_word (held_by base book l) a ≡ true) (world : IsWorld deeds layout base book keeper region spare counts.events) where
  abbrev state : IsStateOf layout (start_of layout base) book keeper region spare counts.events
  state = world.state

  inside : l < length state.w.lanes
  inside = subst (λ n. l < n) (sym state.tied.lanes) lt

  runs : (txn_at state.w.lanes l).over ≡ false
  runs = (subst (IsCome state.s.log (under_of (layout_shape layout) state.w l) (txn_at state.w.lanes l)) between (state.tied.each l inside).come).going.runs

  pub held_is : (held_by base book l).word a ≡ Some (newest (region.at a))
  held_is = values_are_held deeds layout base book world.lawful state.is_book.kept l a has ∙
      ap (λ v. Some v) (sym (found_running deeds layout base book keeper region spare counts l a lt (own_word deeds layout base book world.lawful l a has) world runs
      (state.is_book.entries.others l no_commit).unentered))

-- ---- as the device reads it

row_word : (region : Region) (a : ℕ) → a < region.size → slice_index (newest_words region) a ≡ newest (region.at a)
row_word region a lt = get_or-map-range_with_len (λ b. newest (region.at b)) 0 region.size a a 0 lt (omega arith)

row_length : (region : Region) → length (newest_words region) ≡ region.size
row_length region = length-map-range_with_len (λ b. newest (region.at b)) 0 region.size

-- what the device's laws say of it
pub read_of : (words : List ℕ) (region : Region) (counts : Counts) → words ≡ newest_words region → ((a : ℕ) → 0 < length (region.at a)) → counts.events ≤ counts.budget → counts.budget < 2 ^ 64 →
    IsRead words region counts
read_of words region counts reads full within fits = record { reads = reads; full = full; few = omega (arith, within, fits) }

-- a lane between its calls holds the word
pub record HoldsWord {E : Type 0} (base : Base) (book : Book E) (l a : ℕ) : Type 0 where
  pub between : stage_of (lane_at book l) ≡ Between
  pub no_commit : is_commit (lane_at book l).doing ≡ false
  pub has : has_word (held_by base book l) a ≡ true

module _ {E : Type 0} (deeds : Deeds E) (layout : Layout) (book : Book E) (keeper : LogKeeper) (words : List ℕ) (region : Region) (spare : ℕ) (counts : Counts) (l a : ℕ)
    (read : IsRead words region counts) (lt : l < length book.lanes.items) where
  module _ (base : Base) (kept : IsKept deeds layout base book keeper region spare counts) (holds : HoldsWord base book l a) where
    -- it is one of the device's words,
    pub inside_words : a < length words
    inside_words = let long = (has_logs deeds layout book keeper words region spare counts read (any_start deeds layout base book keeper region spare counts kept)).long in
        let lt = ∥∥₁_elim kept le_prop (λ w. below deeds layout base book keeper region spare counts l a lt (own_word deeds layout base book w.lawful l a holds.has) w) in omega (arith, long, lt)

    word_is : slice_index words a ≡ newest (region.at a)
    word_is = ap (λ ws. slice_index ws a) read.reads ∙ row_word region a (let here = inside_words in let same = ap length read.reads in let long = row_length region in omega (arith, here, same, long))

    -- where it has the lane's value
    pub value_is_held : (v : ℕ) → v ≡ slice_index words a → (held_by base book l).word a ≡ Some v
    value_is_held v is = ∥∥₁_elim kept (Coded-set (coded_option coded_ℕ) _ _)
        (λ w. held_is deeds layout base book keeper region spare counts l a lt holds.between holds.no_commit holds.has w ∙ ap (λ u. Some u) (sym word_is ∙ sym is))

  -- ---- in a read

  module _ (doing : (lane_at book l).doing ≡ Doing.Read a) where
    reads_own : (base : Base) → IsKept deeds layout base book keeper region spare counts → HoldsWord base book l a
    reads_own base kept = record {
      between = ap (stage_at (lane_at book l).phase (lane_at book l).has_records (lane_at book l).part) doing;
      no_commit = ap is_commit doing;
      has = ∥∥₁_elim kept (Coded-set coded_bool _ _) (λ w. reads_are_held deeds layout base book w.lawful l a doing);
    }

    pub read_inside : HasWorld deeds layout book keeper region spare counts → a < length words
    read_inside world = ∥∥₁_elim world le_prop (λ w. inside_words w.0 ∣ w.1 ∣₁ (reads_own w.0 ∣ w.1 ∣₁))

    pub value_held : (base : Base) (v : ℕ) → v ≡ slice_index words a → IsKept deeds layout base book keeper region spare counts → (held_by base book l).word a ≡ Some v
    value_held base v is kept = value_is_held base kept (reads_own base kept) v is

  -- ---- between calls

  module _ (phase : (lane_at book l).phase ≡ Phase.In) (rests : (lane_at book l).doing ≡ Doing.Nothing) (base : Base) (has : has_word (held_by base book l) a ≡ true)
      (kept : IsKept deeds layout base book keeper region spare counts) where
    looks_own : HoldsWord base book l a
    looks_own = record {
      between = λ i. stage_at (phase i) (lane_at book l).has_records (lane_at book l).part (rests i);
      no_commit = ap is_commit rests;
      has = has;
    }

    pub look_inside : a < length words
    look_inside = inside_words base kept looks_own

    pub value_seen : (v : ℕ) → v ≡ slice_index words a → (held_by base book l).word a ≡ Some v
    value_seen v is = value_is_held base kept looks_own v is
